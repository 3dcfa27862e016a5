-- From the tangent at a node to the tangent after the step: the sine and the cosine there, against each other, by sums of
-- monomials. Assumes nothing.
use Rattle.std.proofs.Common.{◌≡◌, ℕ, ◌+◌, ◌*◌, ◌<◌, ◌≤◌, ap, mul-le-mul_right, mul-le-mul, mul-le-mul_left, arith}
use native.Mathlib.Nat.{le_of_mul-le-mul_left}

-- products put in one form, each from one fact
m1 : (D b S' S d C Q : ℕ) → D * S' ≤ D * S + d * C + Q → 4096 * (D * (b * S')) ≤ 4096 * (D * (b * S)) + 4096 * (d * (b * C)) + 4096 * (b * Q)
m1 D b S' S d C Q h = omega (arith, mul-le-mul_left b h)

m2 : (D b S i C t : ℕ) → 4096 * S ≤ i * C + t → 4096 * (D * (b * S)) ≤ D * (b * (i * C)) + D * (b * t)
m2 D b S i C t h = omega (arith, mul-le-mul_left (D * b) h)

m2' : (D b S i C t : ℕ) → i * C ≤ 4096 * S + t → D * (b * (i * C)) ≤ 4096 * (D * (b * S)) + D * (b * t)
m2' D b S i C t h = omega (arith, mul-le-mul_left (D * b) h)

m3 : (D C small i big p : ℕ) → 4096 * small ≡ i * big + p → 4096 * (D * (small * C)) ≡ D * (big * (i * C)) + D * (p * C)
m3 D C small i big p e = omega (arith, ap (λ (n : ℕ). D * C * n) e)

m4 : (d C small i big q : ℕ) → q ≡ 4096 * big + i * small → d * (q * C) ≡ 4096 * (d * (big * C)) + d * (small * (i * C))
m4 d C small i big q e = omega (arith, ap (λ (n : ℕ). d * C * n) e)

m5 : (q d b p L c : ℕ) → d * q ≤ b * p + L * q → d * (q * c) ≤ b * (p * c) + L * (q * c)
m5 q d b p L c h = omega (arith, mul-le-mul_right c h)

m5' : (q d b p L c : ℕ) → b * p ≤ d * q + L * q → b * (p * c) ≤ d * (q * c) + L * (q * c)
m5' q d b p L c h = omega (arith, mul-le-mul_right c h)

m6 : (D b S' S d C Q : ℕ) → D * S + d * C ≤ D * S' + Q → 4096 * (D * (b * S)) + 4096 * (d * (b * C)) ≤ 4096 * (D * (b * S')) + 4096 * (b * Q)
m6 D b S' S d C Q h = omega (arith, mul-le-mul_left b h)

-- L q C is at most 4096 L K for each of big and small
m7 : (big small i q C L K : ℕ) → q ≡ 4096 * big + i * small → i ≤ 4096 → C ≤ K → L * (q * C) ≤ 4096 * (big * (L * K)) + 4096 * (small * (L * K))
m7 big small i q C L K e h CK =
    let h' : q ≤ 4096 * (big + small) = omega (arith, mul-le-mul_right small h) in
    omega (arith, mul-le-mul_left L (mul-le-mul h' CK))

sums : (big small x y Q K : ℕ) → (big + small) * (x + 4096 * (Q + K)) ≡ x * big + x * small + 4096 * (big * Q) + 4096 * (small * Q) + 4096 * (big * K) + 4096 * (small * K)
sums big small x y Q K = omega arith

m8 : (D b C C' d S Q : ℕ) → D * C' + d * S ≤ D * C + Q → 4096 * (D * (b * C')) + 4096 * (d * (b * S)) ≤ 4096 * (D * (b * C)) + 4096 * (b * Q)
m8 D b C C' d S Q h = omega (arith, mul-le-mul_left b h)

-- both bounds, in the monomials
linear : (A1 A2 A3 A4 B1 B2 B3 B4 c1 c2 c3 c4 c5 c6 c7 c8 k1 k2 R : ℕ) → B1 ≡ c1 + c6 → c7 ≡ A3 + c3 → c4 ≤ c5 → c8 ≤ k1 + k2 → c2 + c5 + A4 + B4 + k1 + k2 ≡ R
    → (A1 ≤ A2 + A3 + A4 → B1 ≤ B2 + B3 + B4 → A2 ≤ c1 + c2 → B3 ≤ c3 + c4 → c7 ≤ c6 + c8 → A1 ≤ B2 + R)
    × (A2 + A3 ≤ A1 + A4 → B2 + B3 ≤ B1 + B4 → c1 ≤ A2 + c2 → c3 ≤ B3 + c4 → c6 ≤ c7 + c8 → B2 ≤ A1 + R)
linear A1 A2 A3 A4 B1 B2 B3 B4 c1 c2 c3 c4 c5 c6 c7 c8 k1 k2 R h1 h2 h3 h4 h5 = ((λ g1 g2 g3 g4 g5. omega arith), (λ g1 g2 g3 g4 g5. omega arith))

-- the sine and the cosine after the step, against each other, from above and from below
module _ (big small i p q d D S C S' C' t Q L K : ℕ) (e : 4096 * small ≡ i * big + p) (f : q ≡ 4096 * big + i * small) (dD : d ≤ D) (CK : C ≤ K) (i512 : i ≤ 4096) where
  abbrev R : ℕ
  R = (big + small) * (D * t + 4096 * (Q + L * K))

  pub sides : (4096 * S ≤ i * C + t → D * S' ≤ D * S + d * C + Q → D * C ≤ D * C' + d * S + Q → d * q ≤ D * p + L * q → 4096 * (D * (big * S')) ≤ 4096 * (D * (small * C')) + R)
      × (i * C ≤ 4096 * S + t → D * S + d * C ≤ D * S' + Q → D * C' + d * S ≤ D * C + Q → D * p ≤ d * q + L * q → 4096 * (D * (small * C')) ≤ 4096 * (D * (big * S')) + R)
  sides =
      let both =
      linear (4096 * (D * (big * S'))) (4096 * (D * (big * S))) (4096 * (d * (big * C))) (4096 * (big * Q))
      (4096 * (D * (small * C))) (4096 * (D * (small * C'))) (4096 * (d * (small * S))) (4096 * (small * Q))
      (D * (big * (i * C))) (D * (big * t)) (d * (small * (i * C))) (d * (small * t)) (D * (small * t)) (D * (p * C)) (d * (q * C)) (L * (q * C))
      (4096 * (big * (L * K))) (4096 * (small * (L * K))) R
      (m3 D C small i big p e) (m4 d C small i big q f) (mul-le-mul_right (small * t) dD) (m7 big small i q C L K f i512 CK) (omega arith) in (
        (λ hs hS hC hd. both.0 (m1 D big S' S d C Q hS) (m1 D small C C' d S Q hC) (m2 D big S i C t hs) (m2 d small S i C t hs) (m5 q d D p L C hd)),
        (λ hs hS hC hd. both.1 (m6 D big S' S d C Q hS) (m8 D small C C' d S Q hC) (m2' D big S i C t hs) (m2' d small S i C t hs) (m5' q d D p L C hd)),
      )

-- a bound times D is sixty hundredths of the bound
pub bring : (x y s D K J r : ℕ) → 0 < D → 4096 * (D * x) ≤ 4096 * (D * y) + s * r → r ≤ 245760 * J → 26214400 * J ≤ D * K → 26214400 * x ≤ 26214400 * y + 60 * (s * K)
bring x y s D K J r D0 h hr hJ =
    le_of_mul-le-mul_left {k = 4096 * D} (omega (arith, mul-le-mul_left 26214400 h, mul-le-mul_left s hr, mul-le-mul_left (245760 * s) hJ)) (omega arith)
