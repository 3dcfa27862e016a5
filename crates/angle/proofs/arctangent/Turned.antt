-- The series at b + a and at b - a, against those at a: the series of sums. The coefficients of both sides in a are computed, and compared one
-- by one. Assumes nothing.
use Rattle.std.proofs.Common.{◌≡◌, ℕ, ◌+◌, ◌-◌, ◌*◌, ◌/◌, ◌^◌, ◌<◌, ◌≤◌, Bool, true, false, ◌&&◌, T, leb, List, [], ◌∷◌, sym, refl, ap, ◌∙◌, subst, le_trans, mul-le-mul_left, mul-pos, arith, lit<, lit≤, leb→le}
use native.Mathlib.Nat.{mul-sub, le_of_mul-le-mul_left}
use Rattle.angle.specs.Meaning.{D, whole, coef}
use Rattle.angle.proofs.Terms.{sin_at, cos_at}
use Rattle.angle.proofs.Every.{both_left, both_right}
use Rattle.angle.proofs.arctangent.Poly.{eval, eval_mono}
use Rattle.angle.proofs.arctangent.Lists.{sin_up_lem, sin_down_lem, cos_up_lem, cos_down_lem, sin_lists, cos_lists, plus, times, plus_eval, times_eval}
use Rattle.angle.proofs.arctangent.Placed.{Good}
use Rattle.angle.proofs.arctangent.Budget.{B, B-few}
use Rattle.angle.proofs.arctangent.Step.{sin_order, cos_order}

-- ---- a polynomial at b + a, as one in a

-- k + (b + a) * s
unfoldable times_on : ℕ → ℕ → List ℕ → List ℕ
times_on b k [] = k ∷ []
times_on b k (d ∷ ds) = (k + b * d) ∷ times_on b d ds

unfoldable on : ℕ → List ℕ → List ℕ
on b [] = []
on b (c ∷ cs) = times_on b c (on b cs)

-- the coefficients of even powers, or those of odd ones
unfoldable keep : Bool → List ℕ → List ℕ
keep even [] = []
keep true (c ∷ cs) = c ∷ keep false cs
keep false (c ∷ cs) = 0 ∷ keep true cs

times_on_is : (b k : ℕ) (cs : List ℕ) (a : ℕ) → eval (times_on b k cs) a ≡ k + (b + a) * eval cs a
unfolding eval times_on
times_on_is b k [] a = omega arith
times_on_is b k (d ∷ ds) a = go (eval (times_on b d ds) a) (eval ds a) (times_on_is b d ds a)
  where
    go : (e f : ℕ) → e ≡ d + (b + a) * f → k + b * d + a * e ≡ k + (b + a) * (d + a * f)
    go e f h = omega (arith, ap (λ (z : ℕ). a * z) h)

on_is : (b : ℕ) (cs : List ℕ) (a : ℕ) → eval (on b cs) a ≡ eval cs (b + a)
unfolding eval on
on_is b [] a = refl
on_is b (c ∷ cs) a = times_on_is b c (on b cs) a ∙ ap (λ (z : ℕ). c + (b + a) * z) (on_is b cs a)

kept : (b k : ℕ) (cs : List ℕ) (a : ℕ) → (eval (keep true (times_on b k cs)) a ≡ k + b * eval (keep true cs) a + a * eval (keep false cs) a)
    × (eval (keep false (times_on b k cs)) a ≡ b * eval (keep false cs) a + a * eval (keep true cs) a)
unfolding eval times_on keep
kept b k [] a = (omega arith, omega arith)
kept b k (d ∷ ds) a = let h = kept b d ds a in go (eval (keep true (times_on b d ds)) a) (eval (keep false (times_on b d ds)) a) (eval (keep true ds) a) (eval (keep false ds) a) h.0 h.1
  where
    go : (E O e o : ℕ) → E ≡ d + b * e + a * o → O ≡ b * o + a * e → (k + b * d + a * O ≡ k + b * (d + a * o) + a * (0 + a * e)) × (0 + a * E ≡ b * (0 + a * e) + a * (d + a * o))
    go E O e o h g = (omega (arith, ap (λ (z : ℕ). a * z) g), omega (arith, ap (λ (z : ℕ). a * z) h))

off_is : (b : ℕ) (cs : List ℕ) (a : ℕ) → a ≤ b → eval cs (b - a) + eval (keep false (on b cs)) a ≡ eval (keep true (on b cs)) a
unfolding eval on keep
off_is b [] a h = refl
off_is b (c ∷ cs) a h =
    let k = kept b c (on b cs) a in
    go (eval cs (b - a)) (eval (keep true (on b cs)) a) (eval (keep false (on b cs)) a) (eval (keep true (times_on b c (on b cs))) a) (eval (keep false (times_on b c (on b cs))) a) (b - a)
    (omega arith) (off_is b cs a h) k.0 k.1
  where
    go : (v e o E O d : ℕ) → d + a ≡ b → v + o ≡ e → E ≡ c + b * e + a * o → O ≡ b * o + a * e → c + d * v + O ≡ E
    go v e o E O d f g p q = omega (arith, ap (λ (z : ℕ). z * v) f, ap (λ (z : ℕ). b * z) g, ap (λ (z : ℕ). a * z) g)

-- ---- two lists, coefficient by coefficient
unfoldable over : List ℕ → List ℕ → List ℕ
over [] ds = []
over (c ∷ cs) [] = c ∷ cs
over (c ∷ cs) (d ∷ ds) = (c - d) ∷ over cs ds

over-is : (cs ds : List ℕ) (a : ℕ) → eval cs a ≤ eval ds a + eval (over cs ds) a
unfolding eval over
over-is [] ds a = omega arith
over-is (c ∷ cs) [] a = omega arith
over-is (c ∷ cs) (d ∷ ds) a = omega (arith, mul-le-mul_left a (over-is cs ds a))

within : (cs ds : List ℕ) (a most e : ℕ) → a ≤ most → eval (over cs ds) most ≤ e → eval cs a ≤ eval ds a + e
within cs ds a most e h g = omega (arith, over-is cs ds a, eval_mono (over cs ds) h)

-- ---- k f + p' cos a + q' sin a against p cos a + q sin a, where f is a difference of two lists
unfoldable five : ℕ → ℕ → ℕ → ℕ → ℕ → List ℕ → List ℕ → List ℕ → List ℕ → List ℕ → List ℕ
five k p q p' q' f cd sd cu su = plus (times k f) (plus (plus (times p cd) (times q sd)) (plus (times p' cu) (times q' su)))

five_is : (k p q p' q' : ℕ) (f cd sd cu su : List ℕ) (a : ℕ) → eval (five k p q p' q' f cd sd cu su) a ≡ k * eval f a + ((p * eval cd a + q * eval sd a) + (p' * eval cu a + q' * eval su a))
unfolding five
five_is k p q p' q' f cd sd cu su a =
    rw (
      plus_eval (times k f) (plus (plus (times p cd) (times q sd)) (plus (times p' cu) (times q' su))) a,
      plus_eval (plus (times p cd) (times q sd)) (plus (times p' cu) (times q' su)) a,
      plus_eval (times p cd) (times q sd) a,
      plus_eval (times p' cu) (times q' su) a,
      times_eval k f a,
      times_eval p cd a,
      times_eval q sd a,
      times_eval p' cu a,
      times_eval q' su a,
    )

module _ (k p q p' q' f fu fd cu cd su sd e : ℕ) (rel : f + fd ≡ fu) (hc : cd ≤ cu) (hs : sd ≤ su) where
  out_hi : k * fu + ((p * cd + q * sd) + (p' * cu + q' * su)) ≤ k * fd + ((p * cu + q * su) + (p' * cd + q' * sd)) + e → k * f + (p' * (cu - cd) + q' * (su - sd)) ≤ p * (cu - cd) + q * (su - sd) + e
  out_hi h =
      omega (
        arith,
        ap (λ (z : ℕ). k * z) rel,
        mul-sub p cu cd,
        mul-sub q su sd,
        mul-sub p' cu cd,
        mul-sub q' su sd,
        mul-le-mul_left p hc,
        mul-le-mul_left q hs,
        mul-le-mul_left p' hc,
        mul-le-mul_left q' hs,
      )

  out_lo : k * fd + ((p * cu + q * su) + (p' * cd + q' * sd)) ≤ k * fu + ((p * cd + q * sd) + (p' * cu + q' * su)) + e → p * (cu - cd) + q * (su - sd) ≤ k * f + (p' * (cu - cd) + q' * (su - sd)) + e
  out_lo h =
      omega (
        arith,
        ap (λ (z : ℕ). k * z) rel,
        mul-sub p cu cd,
        mul-sub q su sd,
        mul-sub p' cu cd,
        mul-sub q' su sd,
        mul-le-mul_left p hc,
        mul-le-mul_left q hs,
        mul-le-mul_left p' hc,
        mul-le-mul_left q' hs,
      )

-- ---- the test
unfoldable pub quarter : ℕ
unfolding D
quarter = D / 4

unfoldable pub K0 : ℕ
K0 = 2 ^ 40

unfoldable pub e0 : ℕ
unfolding whole
e0 = 2 ^ 10 * whole

check : ℕ → ℕ → ℕ → ℕ → ℕ → List ℕ → List ℕ → Bool
check k p q p' q' fu fd =
    leb (eval (over (five k p q p' q' fu cos_down_lem sin_down_lem cos_up_lem sin_up_lem) (five k p q p' q' fd cos_up_lem sin_up_lem cos_down_lem sin_down_lem)) quarter) e0
    && leb (eval (over (five k p q p' q' fd cos_up_lem sin_up_lem cos_down_lem sin_down_lem) (five k p q p' q' fu cos_down_lem sin_down_lem cos_up_lem sin_up_lem)) quarter) e0

-- the terms with a plus, or with a minus, at b - a
off : ℕ → List ℕ → List ℕ → List ℕ
off b us ds = plus (keep true (on b us)) (keep false (on b ds))

pub test : ℕ → ℕ → ℕ → ℕ → Bool
test b c s k =
    (check k (K0 * s) (K0 * c) 0 0 (on b sin_up_lem) (on b sin_down_lem) && check k (K0 * c) 0 0 (K0 * s) (on b cos_up_lem) (on b cos_down_lem))
    && (check k (K0 * s) 0 0 (K0 * c) (off b sin_up_lem sin_down_lem) (off b sin_down_lem sin_up_lem) && check k (K0 * c) (K0 * s) 0 0 (off b cos_up_lem cos_down_lem) (off b cos_down_lem cos_up_lem))

-- ---- the bases: tangents 1/2, 1 and 2/3, and the roots of 5, 2 and 13
unfoldable pub half : ℕ
half = 0xED63382B0DDA7B456FE445ECBC3A8D036E141

unfoldable pub eighth : ℕ
eighth = 0x1921FB54442D18469898CC51701B839A252049

unfoldable pub thirds : ℕ
thirds = 0x12D0EAD60663956D2220A2C148BDCB0C150E26

pub half_test : T (test half 2 1 2458582741759)
unfolding test check five off over on times_on keep eval plus times sin_up_lem sin_down_lem cos_up_lem cos_down_lem coef whole D quarter K0 e0 half
half_test = tt

pub eighth_test : T (test eighth 1 1 1554944255988)
unfolding test check five off over on times_on keep eval plus times sin_up_lem sin_down_lem cos_up_lem cos_down_lem coef whole D quarter K0 e0 eighth
eighth_test = tt

pub thirds_test : T (test thirds 3 2 3964345551915)
unfolding test check five off over on times_on keep eval plus times sin_up_lem sin_down_lem cos_up_lem cos_down_lem coef whole D quarter K0 e0 thirds
thirds_test = tt

-- ---- the series of sums
-- f is what a series is at b + a or b - a: in k f + p' cos a + q' sin a and p cos a + q sin a no more than e0 apart
record Sum (k p q p' q' f a : ℕ) : Type 0 where
  hi : k * f + (p' * cos_at a + q' * sin_at a) ≤ p * cos_at a + q * sin_at a + e0
  lo : p * cos_at a + q * sin_at a ≤ k * f + (p' * cos_at a + q' * sin_at a) + e0

n_quarter : quarter ≤ B
unfolding quarter B D
n_quarter = lit≤ tt

module _ (a : ℕ) (few : a ≤ quarter) where
  a-B : a ≤ B
  a-B = le_trans few n_quarter

  a-D : a ≤ D
  a-D = le_trans a-B B-few

  checked : (k p q p' q' f : ℕ) (fu fd : List ℕ) → f + eval fd a ≡ eval fu a → T (check k p q p' q' fu fd) → Sum k p q p' q' f a
  unfolding check
  checked k p q p' q' f fu fd rel t =
      let ls = five k p q p' q' fu cos_down_lem sin_down_lem cos_up_lem sin_up_lem in
      let rs = five k p q p' q' fd cos_up_lem sin_up_lem cos_down_lem sin_down_lem in
      let l = within ls rs a quarter e0 few (leb→le (eval (over ls rs) quarter) e0 (both_left (leb (eval (over ls rs) quarter) e0) (leb (eval (over rs ls) quarter) e0) t)) in
      let r = within rs ls a quarter e0 few (leb→le (eval (over rs ls) quarter) e0 (both_right (leb (eval (over ls rs) quarter) e0) (leb (eval (over rs ls) quarter) e0) t)) in
      let el = five_is k p q p' q' fu cos_down_lem sin_down_lem cos_up_lem sin_up_lem a in
      let er = five_is k p q p' q' fd cos_up_lem sin_up_lem cos_down_lem sin_down_lem a in
      let cu = eval cos_up_lem a in
      let cd = eval cos_down_lem a in
      let su = eval sin_up_lem a in
      let sd = eval sin_down_lem a in
      let c = cos_lists a a-D in
      let s = sin_lists a a-D in
      let h = out_hi k p q p' q' f (eval fu a) (eval fd a) cu cd su sd e0 rel (cos_order a-B) (sin_order a-B) (rw (sym el, sym er) l) in
      let g = out_lo k p q p' q' f (eval fu a) (eval fd a) cu cd su sd e0 rel (cos_order a-B) (sin_order a-B) (rw (sym el, sym er) r) in
      record { hi = rw (c, s) h; lo = rw (c, s) g }

  -- f at b + a
  forth : (b f : ℕ) (us ds : List ℕ) → f ≡ eval us (b + a) - eval ds (b + a) → eval ds (b + a) ≤ eval us (b + a) → f + eval (on b ds) a ≡ eval (on b us) a
  forth b f us ds e h = rw (on_is b ds a, on_is b us a) (go f (eval us (b + a)) (eval ds (b + a)) e h)
    where
      go : (f u d : ℕ) → f ≡ u - d → d ≤ u → f + d ≡ u
      go f u d e h = omega arith

  -- f at b - a
  back : (b f : ℕ) (us ds : List ℕ) → a ≤ b → f ≡ eval us (b - a) - eval ds (b - a) → eval ds (b - a) ≤ eval us (b - a) → f + eval (off b ds us) a ≡ eval (off b us ds) a
  unfolding off
  back b f us ds h e g =
      rw (plus_eval (keep true (on b ds)) (keep false (on b us)) a, plus_eval (keep true (on b us)) (keep false (on b ds)) a)
      (go f (eval us (b - a)) (eval ds (b - a)) (eval (keep true (on b us)) a) (eval (keep false (on b us)) a) (eval (keep true (on b ds)) a) (eval (keep false (on b ds)) a) e g
      (off_is b us a h) (off_is b ds a h))
    where
      go : (f u d eu ou ed od : ℕ) → f ≡ u - d → d ≤ u → u + ou ≡ eu → d + od ≡ ed → f + (ed + ou) ≡ eu + od
      go f u d eu ou ed od e h p q = omega arith

-- ---- a direction, turned by b: from X up and Y right to u up and v right
-- M and N are the products that 01 compares, P and Q those before the turn
swung : (k K0 e w u v X Y M N P Q : ℕ) → 0 < k → e ≡ 2 ^ 10 * w → K0 * (Y + X) + 2 ^ 28 * (v + u) ≤ k * (v + u)
    → k * M + K0 * Q ≤ k * N + K0 * P + (v + u) * e → 262144 * P ≤ 262144 * Q + (Y + X) * w → 262144 * M ≤ 262144 * N + (v + u) * w
swung k K0 e w u v X Y M N P Q k0 ew room h g =
    le_of_mul-le-mul_left {k = k}
    (go (k * M) (k * N) (K0 * P) (K0 * Q) ((v + u) * e) ((v + u) * w) (K0 * ((Y + X) * w)) (k * (262144 * M)) (k * (262144 * N + (v + u) * w)) (k * ((v + u) * w)) (omega arith) (omega arith) h
    (omega (arith, mul-le-mul_left K0 g)) (omega (arith, ap (λ (z : ℕ). (v + u) * z) ew)) (omega (arith, mul-le-mul_left w room)))
    k0
  where
    go : (kM kN KP KQ ve vw Kw l r kw : ℕ) → l ≡ 262144 * kM → r ≡ 262144 * kN + kw → kM + KQ ≤ kN + KP + ve → 262144 * KP ≤ 262144 * KQ + Kw → ve ≡ 1024 * vw → Kw + 268435456 * vw ≤ kw → l ≤ r
    go kM kN KP KQ ve vw Kw l r kw a b h g d e = omega arith

-- both series after the turn, times u and v
module _ (n k f p q p' q' S C e : ℕ) where
  more : k * f + (p' * C + q' * S) ≤ p * C + q * S + e → k * (n * f) + (p' * (n * C) + q' * (n * S)) ≤ p * (n * C) + q * (n * S) + n * e
  more h = omega (arith, mul-le-mul_left n h)

  less : p * C + q * S ≤ k * f + (p' * C + q' * S) + e → p * (n * C) + q * (n * S) ≤ k * (n * f) + (p' * (n * C) + q' * (n * S)) + n * e
  less h = omega (arith, mul-le-mul_left n h)

-- X and Y, times the series before the turn
up_is : (K0 c u s v X C : ℕ) → X + s * v ≡ c * u → K0 * (X * C) + K0 * s * (v * C) ≡ K0 * c * (u * C)
up_is K0 c u s v X C h = omega (arith, ap (λ (z : ℕ). K0 * C * z) h)

right_is : (K0 c s u v S : ℕ) → K0 * ((c * v + s * u) * S) ≡ K0 * c * (v * S) + K0 * s * (u * S)
right_is K0 c s u v S = omega arith

module _ (u v k K0 c s X S C S' C' e : ℕ) where
  -- the products, each by its name
  abbrev svC : ℕ
  svC = K0 * s * (v * C)

  abbrev cvS : ℕ
  cvS = K0 * c * (v * S)

  abbrev cuC : ℕ
  cuC = K0 * c * (u * C)

  abbrev suS : ℕ
  suS = K0 * s * (u * S)

  on_over : X + s * v ≡ c * u → k * S' + (0 * C + 0 * S) ≤ K0 * s * C + K0 * c * S + e → K0 * c * C + 0 * S ≤ k * C' + (0 * C + K0 * s * S) + e
      → k * (v * S') + K0 * (X * C) ≤ k * (u * C') + K0 * ((c * v + s * u) * S) + (v + u) * e
  on_over h f g =
      go (k * (v * S')) (k * (u * C')) (K0 * (X * C)) (K0 * ((c * v + s * u) * S)) svC cvS cuC suS (v * C) (v * S) (u * C) (u * S)
      (more v k S' (K0 * s) (K0 * c) 0 0 S C e f) (less u k C' (K0 * c) 0 0 (K0 * s) S C e g) (up_is K0 c u s v X C h) (right_is K0 c s u v S)
    where
      go : (a b x y p q r t i j l m : ℕ) → a + (0 * i + 0 * j) ≤ p + q + v * e → r + 0 * m ≤ b + (0 * l + t) + u * e → x + p ≡ r → y ≡ q + t → a + x ≤ b + y + (v + u) * e
      go a b x y p q r t i j l m h1 h2 h3 h4 = omega arith

  on_beneath : X + s * v ≡ c * u → K0 * s * C + K0 * c * S ≤ k * S' + (0 * C + 0 * S) + e → k * C' + (0 * C + K0 * s * S) ≤ K0 * c * C + 0 * S + e
      → k * (u * C') + K0 * ((c * v + s * u) * S) ≤ k * (v * S') + K0 * (X * C) + (v + u) * e
  on_beneath h f g =
      go (k * (v * S')) (k * (u * C')) (K0 * (X * C)) (K0 * ((c * v + s * u) * S)) svC cvS cuC suS (v * C) (v * S) (u * C) (u * S)
      (less v k S' (K0 * s) (K0 * c) 0 0 S C e f) (more u k C' (K0 * c) 0 0 (K0 * s) S C e g) (up_is K0 c u s v X C h) (right_is K0 c s u v S)
    where
      go : (a b x y p q r t i j l m : ℕ) → p + q ≤ a + (0 * i + 0 * j) + v * e → b + (0 * l + t) ≤ r + 0 * m + u * e → x + p ≡ r → y ≡ q + t → b + y ≤ a + x + (v + u) * e
      go a b x y p q r t i j l m h1 h2 h3 h4 = omega arith

  off_over : X + c * u ≡ s * v → k * S' + (0 * C + K0 * c * S) ≤ K0 * s * C + 0 * S + e → K0 * c * C + K0 * s * S ≤ k * C' + (0 * C + 0 * S) + e
      → k * (v * S') + K0 * ((c * v + s * u) * S) ≤ k * (u * C') + K0 * (X * C) + (v + u) * e
  off_over h f g =
      go (k * (v * S')) (k * (u * C')) (K0 * (X * C)) (K0 * ((c * v + s * u) * S)) svC cvS cuC suS (v * C) (v * S) (u * C) (u * S)
      (more v k S' (K0 * s) 0 0 (K0 * c) S C e f) (less u k C' (K0 * c) (K0 * s) 0 0 S C e g) (up_is K0 s v c u X C h) (right_is K0 c s u v S)
    where
      go : (a b x y p q r t i j l m : ℕ) → a + (0 * i + q) ≤ p + 0 * j + v * e → r + t ≤ b + (0 * l + 0 * m) + u * e → x + r ≡ p → y ≡ q + t → a + y ≤ b + x + (v + u) * e
      go a b x y p q r t i j l m h1 h2 h3 h4 = omega arith

  off_beneath : X + c * u ≡ s * v → K0 * s * C + 0 * S ≤ k * S' + (0 * C + K0 * c * S) + e → k * C' + (0 * C + 0 * S) ≤ K0 * c * C + K0 * s * S + e
      → k * (u * C') + K0 * (X * C) ≤ k * (v * S') + K0 * ((c * v + s * u) * S) + (v + u) * e
  off_beneath h f g =
      go (k * (v * S')) (k * (u * C')) (K0 * (X * C)) (K0 * ((c * v + s * u) * S)) svC cvS cuC suS (v * C) (v * S) (u * C) (u * S)
      (less v k S' (K0 * s) 0 0 (K0 * c) S C e f) (more u k C' (K0 * c) (K0 * s) 0 0 S C e g) (up_is K0 s v c u X C h) (right_is K0 c s u v S)
    where
      go : (a b x y p q r t i j l m : ℕ) → p + 0 * j ≤ a + (0 * i + q) + v * e → b + (0 * l + 0 * m) ≤ r + t + u * e → x + r ≡ p → y ≡ q + t → b + x ≤ a + y + (v + u) * e
      go a b x y p q r t i j l m h1 h2 h3 h4 = omega arith

n-e0 : e0 ≡ 2 ^ 10 * whole
unfolding e0
n-e0 = refl

cos_closed : eval cos_down_lem B < eval cos_up_lem 0
unfolding coef eval cos_up_lem cos_down_lem B D
cos_closed = lit< tt

pub cos_pos : (y : ℕ) → y ≤ B → 0 < cos_at y
cos_pos y h =
    subst (λ (z : ℕ). 0 < z) (sym (cos_lists y (le_trans h B-few)))
    (go (eval cos_up_lem y) (eval cos_down_lem y) (eval cos_up_lem 0) (eval cos_down_lem B) (eval_mono cos_up_lem (least y)) (eval_mono cos_down_lem h) cos_closed)
  where
    least : (y : ℕ) → 0 ≤ y
    least y = omega arith

    go : (u d u0 d0 : ℕ) → u0 ≤ u → d ≤ d0 → d0 < u0 → 0 < u - d
    go u d u0 d0 a b c = omega arith

front : (a b : ℕ) → 0 < a → 0 < a + b
front a b h = omega arith

module _ (b c s k : ℕ) (t : T (test b c s k)) (k0 : 0 < k) (a : ℕ) (few : a ≤ quarter) where
  t-on : T (check k (K0 * s) (K0 * c) 0 0 (on b sin_up_lem) (on b sin_down_lem) && check k (K0 * c) 0 0 (K0 * s) (on b cos_up_lem) (on b cos_down_lem))
  unfolding test
  t-on = both_left (check k (K0 * s) (K0 * c) 0 0 (on b sin_up_lem) (on b sin_down_lem) && check k (K0 * c) 0 0 (K0 * s) (on b cos_up_lem) (on b cos_down_lem)) _ t

  t-off : T (check k (K0 * s) 0 0 (K0 * c) (off b sin_up_lem sin_down_lem) (off b sin_down_lem sin_up_lem) && check k (K0 * c) (K0 * s) 0 0 (off b cos_up_lem cos_down_lem) (off b cos_down_lem cos_up_lem))
  unfolding test
  t-off = both_right (check k (K0 * s) (K0 * c) 0 0 (on b sin_up_lem) (on b sin_down_lem) && check k (K0 * c) 0 0 (K0 * s) (on b cos_up_lem) (on b cos_down_lem)) _ t

  module _ (room : b + a ≤ B) where
    y-D : b + a ≤ D
    y-D = le_trans room B-few

    sin_on : Sum k (K0 * s) (K0 * c) 0 0 (sin_at (b + a)) a
    sin_on =
        checked a few k (K0 * s) (K0 * c) 0 0 (sin_at (b + a)) (on b sin_up_lem) (on b sin_down_lem) (forth a few b (sin_at (b + a)) sin_up_lem sin_down_lem (sin_lists (b + a) y-D) (sin_order room))
        (both_left (check k (K0 * s) (K0 * c) 0 0 (on b sin_up_lem) (on b sin_down_lem)) _ t-on)

    cos_on : Sum k (K0 * c) 0 0 (K0 * s) (cos_at (b + a)) a
    cos_on =
        checked a few k (K0 * c) 0 0 (K0 * s) (cos_at (b + a)) (on b cos_up_lem) (on b cos_down_lem) (forth a few b (cos_at (b + a)) cos_up_lem cos_down_lem (cos_lists (b + a) y-D) (cos_order room))
        (both_right (check k (K0 * s) (K0 * c) 0 0 (on b sin_up_lem) (on b sin_down_lem)) _ t-on)

    pub turned_on : (u v X : ℕ) → X + s * v ≡ c * u → 0 < v → K0 * (c * v + s * u + X) + 2 ^ 28 * (v + u) ≤ k * (v + u) → Good X (c * v + s * u) a → Good u v (b + a)
    turned_on u v X h v0 r g =
        let S = sin_at a in
        let C = cos_at a in
        let S' = sin_at (b + a) in
        let C' = cos_at (b + a) in
        let Y = c * v + s * u in
        record {
          over = swung k K0 e0 whole u v X Y (v * S') (u * C') (Y * S) (X * C) k0 n-e0 r (on_over u v k K0 c s X S C S' C' e0 h sin_on.hi cos_on.lo) g.over;
          beneath = swung k K0 e0 whole u v X Y (u * C') (v * S') (X * C) (Y * S) k0 n-e0 r (on_beneath u v k K0 c s X S C S' C' e0 h sin_on.lo cos_on.hi) g.beneath;
          ahead = front (v * C') (u * S') (mul-pos v0 (cos_pos (b + a) room));
        }

  module _ (fewer : a ≤ b) (room : b ≤ B) where
    z-B : b - a ≤ B
    z-B = go b a B room
      where
        go : (b a m : ℕ) → b ≤ m → b - a ≤ m
        go b a m h = omega arith

    z-D : b - a ≤ D
    z-D = le_trans z-B B-few

    sin_off : Sum k (K0 * s) 0 0 (K0 * c) (sin_at (b - a)) a
    sin_off =
        checked a few k (K0 * s) 0 0 (K0 * c) (sin_at (b - a)) (off b sin_up_lem sin_down_lem) (off b sin_down_lem sin_up_lem) (back a few b (sin_at (b - a)) sin_up_lem sin_down_lem fewer (sin_lists (b - a) z-D) (sin_order z-B))
        (both_left (check k (K0 * s) 0 0 (K0 * c) (off b sin_up_lem sin_down_lem) (off b sin_down_lem sin_up_lem)) _ t-off)

    cos_off : Sum k (K0 * c) (K0 * s) 0 0 (cos_at (b - a)) a
    cos_off =
        checked a few k (K0 * c) (K0 * s) 0 0 (cos_at (b - a)) (off b cos_up_lem cos_down_lem) (off b cos_down_lem cos_up_lem) (back a few b (cos_at (b - a)) cos_up_lem cos_down_lem fewer (cos_lists (b - a) z-D) (cos_order z-B))
        (both_right (check k (K0 * s) 0 0 (K0 * c) (off b sin_up_lem sin_down_lem) (off b sin_down_lem sin_up_lem)) _ t-off)

    pub turned_off : (u v X : ℕ) → X + c * u ≡ s * v → 0 < v → K0 * (c * v + s * u + X) + 2 ^ 28 * (v + u) ≤ k * (v + u) → Good X (c * v + s * u) a → Good u v (b - a)
    turned_off u v X h v0 r g =
        let S = sin_at a in
        let C = cos_at a in
        let S' = sin_at (b - a) in
        let C' = cos_at (b - a) in
        let Y = c * v + s * u in
        record {
          over = swung k K0 e0 whole u v X Y (v * S') (u * C') (X * C) (Y * S) k0 n-e0 r (off_over u v k K0 c s X S C S' C' e0 h sin_off.hi cos_off.lo) g.beneath;
          beneath = swung k K0 e0 whole u v X Y (u * C') (v * S') (Y * S) (X * C) k0 n-e0 r (off_beneath u v k K0 c s X S C S' C' e0 h sin_off.lo cos_off.hi) g.over;
          ahead = front (v * C') (u * S') (mul-pos v0 (cos_pos (b - a) z-B));
        }
