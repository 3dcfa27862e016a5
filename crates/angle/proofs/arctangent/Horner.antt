-- The two sums of coefficients, by Horner's steps in f32, against the polynomials themselves. Assumes nothing.
use Rattle.std.proofs.Common.{◌≡◌, ℕ, ◌+◌, ◌*◌, ◌^◌, ◌<◌, ◌≤◌, List, [], ◌∷◌, refl, ap, subst, add-zero, mul-le-mul_right, mul-le-mul, mul-le-mul_left, mul-zero, le_of_mul-le-mul_right, arith, lit≤}
use lib.Ieee.{Float, binary32, of_bits, mul}
use Rattle.angle.specs.Meaning.{D}
use Rattle.angle.specs.Arctangent.{horner}
use Rattle.angle.proofs.arctangent.Poly.{eval}
use Rattle.angle.proofs.arctangent.Ops.{Val, D-pos, Op, Share, times, plus}

-- a step of the numbers below a half: 2 ^ -25
unfoldable pub h : ℕ
h = 2 ^ 124

n-half : 2 * 2 ^ 148 ≡ D
unfolding D
n-half = refl

n-h : 1000 * h ≤ D
unfolding D h
n-h = lit≤ tt

-- e, times s, is F within one and a half of h times s
pub record Stage (e : Float) (s F : ℕ) : Type 0 where
  pub parts : ℕ
  pub val : Val e parts
  pub hi : 2 * (parts * s) ≤ 2 * F + 3 * h * s
  pub lo : 2 * F ≤ 2 * (parts * s) + 3 * h * s
  pub top : parts ≤ D

-- over any numbers
up : (A D g s W E p G F h : ℕ) → 2 * (E * s) ≤ 2 * F + 3 * h * s → 16 * W ≤ D → p * D * 2 ≤ W * E * 2 + D * h → G * 2 ≤ (A + p) * 2 + h
    → 2 * (G * (s * (D * g))) ≤ 2 * (A * (s * (D * g)) + W * g * F) + 3 * h * (s * (D * g))
up A D g s W E p G F h e w p1 g1 =
    omega (arith, mul-le-mul_left (s * D * g) g1, mul-le-mul_left (s * g) p1, mul-le-mul_left (W * g) e, mul-le-mul_left (3 * h * s * g) w)

low : (A D g s W E p G F h : ℕ) → 2 * F ≤ 2 * (E * s) + 3 * h * s → 16 * W ≤ D → W * E * 2 ≤ p * D * 2 + D * h → (A + p) * 2 ≤ G * 2 + h
    → 2 * (A * (s * (D * g)) + W * g * F) ≤ 2 * (G * (s * (D * g))) + 3 * h * (s * (D * g))
low A D g s W E p G F h e w p1 g1 =
    omega (arith, mul-le-mul_left (s * D * g) g1, mul-le-mul_left (s * g) p1, mul-le-mul_left (W * g) e, mul-le-mul_left (3 * h * s * g) w)

few_share : (p W E D t : ℕ) → p * D * 2 ≤ W * E * 2 + D * t → 16 * W ≤ D → E ≤ D → 0 < D → 16 * p ≤ D + 8 * t
few_share p W E D t a b c z = le_of_mul-le-mul_right {k = D} (omega (arith, mul-le-mul b c)) z

module _ (w : Float) (W : ℕ) (vw : Val w W) (w16 : 16 * W ≤ D) where
  few : (E : ℕ) → E ≤ D → W * E < 2 ^ 148 * D
  few E t = go (2 ^ 148) D n-half D-pos (mul-le-mul_left W t) (mul-le-mul_right D w16)
    where
      go : (k d : ℕ) → 2 * k ≡ d → 0 < d → W * E ≤ W * d → 16 * W * d ≤ d * d → W * E < k * d
      go k d e p a b = omega (arith, ap (λ (z : ℕ). z * d) e, mul-le-mul p p)

  pub next : (g : ℕ) (e : Float) (s F c A : ℕ) → Stage e s F → Val (of_bits binary32 c) A → 8 * A ≤ 3 * D → Stage (horner c w e) (s * (D * g)) (A * (s * (D * g)) + W * g * F)
  unfolding h
  next k e s F c A st vc a8 =
      let E = st.parts in
      let p : Share (mul binary32 w e) (W * E) D 124 = times w e W E 124 (lit≤ tt) vw st.val (few E st.top) in
      let p-few : 16 * p.parts ≤ D + 8 * h = few_share p.parts W E D h p.hi w16 st.top D-pos in
      let g : Op (horner c w e) (A + p.parts) 124 = plus (of_bits binary32 c) (mul binary32 w e) A p.parts 124 (lit≤ tt) vc p.val (below A p.parts (2 ^ 148) D h n-half D-pos a8 p-few n-h) in
      record {
        parts = g.parts;
        val = g.val;
        hi = up A D k s W E p.parts g.parts F h st.hi w16 p.hi g.hi;
        lo = low A D k s W E p.parts g.parts F h st.lo w16 p.lo g.lo;
        top = fits A p.parts g.parts D h a8 p-few g.hi n-h;
      }
    where
      below : (A p k d t : ℕ) → 2 * k ≡ d → 0 < d → 8 * A ≤ 3 * d → 16 * p ≤ d + 8 * t → 1000 * t ≤ d → A + p < k
      below A p k d t e z a b c = omega arith

      fits : (A p g d t : ℕ) → 8 * A ≤ 3 * d → 16 * p ≤ d + 8 * t → g * 2 ≤ (A + p) * 2 + t → 1000 * t ≤ d → g ≤ d
      fits A p g d t a b c e = omega arith

-- ---- the coefficients, in D-ths
unfoldable pub A0 : ℕ
A0 = 11184811 * 2 ^ 124

unfoldable pub A1 : ℕ
A1 = 13421773 * 2 ^ 123

unfoldable pub A2 : ℕ
A2 = 9586981 * 2 ^ 123

unfoldable pub A3 : ℕ
A3 = 14913080 * 2 ^ 122

unfoldable pub A4 : ℕ
A4 = 12201582 * 2 ^ 122

unfoldable pub A5 : ℕ
A5 = 10323861 * 2 ^ 122

unfoldable pub A6 : ℕ
A6 = 8940341 * 2 ^ 122

unfoldable pub A7 : ℕ
A7 = 15659371 * 2 ^ 121

unfoldable pub A8 : ℕ
A8 = 13359705 * 2 ^ 121

unfoldable pub A9 : ℕ
A9 = 9806369 * 2 ^ 121

unfoldable pub A10 : ℕ
A10 = 8743383 * 2 ^ 120

v0 : Val (of_bits binary32 0x3EAAAAAB) A0
unfolding of_bits D A0
v0 = (refl, refl)

m0 : 8 * A0 ≤ 3 * D
unfolding D A0
m0 = lit≤ tt

v1 : Val (of_bits binary32 0x3E4CCCCD) A1
unfolding of_bits D A1
v1 = (refl, refl)

m1 : 8 * A1 ≤ 3 * D
unfolding D A1
m1 = lit≤ tt

v2 : Val (of_bits binary32 0x3E124925) A2
unfolding of_bits D A2
v2 = (refl, refl)

m2 : 8 * A2 ≤ 3 * D
unfolding D A2
m2 = lit≤ tt

v3 : Val (of_bits binary32 0x3DE38E38) A3
unfolding of_bits D A3
v3 = (refl, refl)

m3 : 8 * A3 ≤ 3 * D
unfolding D A3
m3 = lit≤ tt

v4 : Val (of_bits binary32 0x3DBA2E6E) A4
unfolding of_bits D A4
v4 = (refl, refl)

m4 : 8 * A4 ≤ 3 * D
unfolding D A4
m4 = lit≤ tt

v5 : Val (of_bits binary32 0x3D9D8795) A5
unfolding of_bits D A5
v5 = (refl, refl)

m5 : 8 * A5 ≤ 3 * D
unfolding D A5
m5 = lit≤ tt

v6 : Val (of_bits binary32 0x3D886B35) A6
unfolding of_bits D A6
v6 = (refl, refl)

m6 : 8 * A6 ≤ 3 * D
unfolding D A6
m6 = lit≤ tt

v7 : Val (of_bits binary32 0x3D6EF16B) A7
unfolding of_bits D A7
v7 = (refl, refl)

m7 : 8 * A7 ≤ 3 * D
unfolding D A7
m7 = lit≤ tt

v8 : Val (of_bits binary32 0x3D4BDA59) A8
unfolding of_bits D A8
v8 = (refl, refl)

m8 : 8 * A8 ≤ 3 * D
unfolding D A8
m8 = lit≤ tt

v9 : Val (of_bits binary32 0x3D15A221) A9
unfolding of_bits D A9
v9 = (refl, refl)

m9 : 8 * A9 ≤ 3 * D
unfolding D A9
m9 = lit≤ tt

v10 : Val (of_bits binary32 0x3C8569D7) A10
unfolding of_bits D A10
v10 = (refl, refl)

m10 : 8 * A10 ≤ 3 * D
unfolding D A10
m10 = lit≤ tt

n-last : A10 ≤ D
unfolding D A10
n-last = lit≤ tt

n-last' : A9 ≤ D
unfolding D A9
n-last' = lit≤ tt

-- the powers of D ^ 4
abbrev pub q : ℕ
q = D * (D * D * D)

abbrev pub q4 : ℕ
q4 = 1 * q * q * q * q

abbrev pub q5 : ℕ
q5 = q4 * q

-- the polynomials, in the fourth power of x
unfoldable pub evens : List ℕ
evens = A0 * (1 * q * q * q * q * q) ∷ A2 * (1 * q * q * q * q) ∷ A4 * (1 * q * q * q) ∷ A6 * (1 * q * q) ∷ A8 * (1 * q) ∷ A10 ∷ []

unfoldable pub odds : List ℕ
odds = A1 * (1 * q * q * q * q) ∷ A3 * (1 * q * q * q) ∷ A5 * (1 * q * q) ∷ A7 * (1 * q) ∷ A9 ∷ []

first : (c A : ℕ) → Val (of_bits binary32 c) A → A ≤ D → Stage (of_bits binary32 c) 1 A
first c A v t = record { parts = A; val = v; hi = omega arith; lo = omega arith; top = t }

abbrev pub even_in : Float → Float
even_in w = horner 0x3EAAAAAB w (horner 0x3E124925 w (horner 0x3DBA2E6E w (horner 0x3D886B35 w (horner 0x3D4BDA59 w (of_bits binary32 0x3C8569D7)))))

abbrev pub odd_in : Float → Float
odd_in w = horner 0x3E4CCCCD w (horner 0x3DE38E38 w (horner 0x3D9D8795 w (horner 0x3D6EF16B w (of_bits binary32 0x3D15A221))))

module _ (w : Float) (W : ℕ) (vw : Val w W) (w16 : 16 * W ≤ D) where
  pub evens_near : Stage (even_in w) q5 (eval evens (W * (D * D * D)))
  unfolding evens eval
  evens_near =
      let g = D * D * D in
      let s1 = next w W vw w16 g (of_bits binary32 0x3C8569D7) 1 A10 0x3D4BDA59 A8 (first 0x3C8569D7 A10 v10 n-last) v8 m8 in
      let s2 = next w W vw w16 g _ _ _ 0x3D886B35 A6 s1 v6 m6 in
      let s3 = next w W vw w16 g _ _ _ 0x3DBA2E6E A4 s2 v4 m4 in
      let s4 = next w W vw w16 g _ _ _ 0x3E124925 A2 s3 v2 m2 in
      let s5 = next w W vw w16 g _ _ _ 0x3EAAAAAB A0 s4 v0 m0 in
      subst (λ (z : ℕ). Stage (even_in w) q5 z) (last (W * (D * D * D)) A0 A2 A4 A6 A8 A10 (1 * q * q * q * q * q) (1 * q * q * q * q) (1 * q * q * q) (1 * q * q) (1 * q)) s5
    where
      last : (t a b c d e f i j k l m : ℕ) → a * i + t * (b * j + t * (c * k + t * (d * l + t * (e * m + t * f)))) ≡ a * i + t * (b * j + t * (c * k + t * (d * l + t * (e * m + t * (f + t * 0)))))
      last t a b c d e f i j k l m = rw (mul-zero t, add-zero f)

  pub odds_near : Stage (odd_in w) q4 (eval odds (W * (D * D * D)))
  unfolding odds eval
  odds_near =
      let g = D * D * D in
      let s1 = next w W vw w16 g (of_bits binary32 0x3D15A221) 1 A9 0x3D6EF16B A7 (first 0x3D15A221 A9 v9 n-last') v7 m7 in
      let s2 = next w W vw w16 g _ _ _ 0x3D9D8795 A5 s1 v5 m5 in
      let s3 = next w W vw w16 g _ _ _ 0x3DE38E38 A3 s2 v3 m3 in
      let s4 = next w W vw w16 g _ _ _ 0x3E4CCCCD A1 s3 v1 m1 in
      subst (λ (z : ℕ). Stage (odd_in w) q4 z) (last (W * (D * D * D)) A1 A3 A5 A7 A9 (1 * q * q * q * q) (1 * q * q * q) (1 * q * q) (1 * q)) s4
    where
      last : (t a b c d e i j k l : ℕ) → a * i + t * (b * j + t * (c * k + t * (d * l + t * e))) ≡ a * i + t * (b * j + t * (c * k + t * (d * l + t * (e + t * 0))))
      last t a b c d e i j k l = rw (mul-zero t, add-zero e)
