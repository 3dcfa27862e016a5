-- The verdict of an eighth of a turn is that of the test itself: a sweep of whole degrees has all angles of an eighth that lies in it, and none of one that
-- lies past it. Assumes nothing.
use Rattle.std.proofs.Common.{◌≡◌, ℕ, zero, suc, ◌+◌, ◌-◌, ◌*◌, ◌/◌, ◌%◌, ◌<◌, ◌≤◌, Bool, true, false, cond, ◌&&◌, ◌||◌, T, eqb, ltb, leb, ◌⊎◌, Option, Some, None, pos, sym, refl, ap, ◌∙◌, subst, ap₂, inl, inr, mod-lt, div-add-mod', zero-mul, arith, lit<, eqb→eq, ltb-false, le-ltb, eqb-true, leb-true}
use mathlib.Core.Bool.{beq}
use native.Mathlib.Nat.{eq_of_mul-eq-mul_right}
use native.Mathlib.Decide.{dec_lt}
use lib.Ieee.{Float, nan, inf, fin, binary32, up, down, below, neg, sub, of_int, lt, eq}
use lib.Ieee.Exact.{HasValue}
use lib.Ieee.Fits.{down_pos}
use Rattle.floats.specs.Size.{plus_zero, abs_of, sign_of}
use Rattle.floats.specs.Whole.{ceil_size}
use Rattle.floats.proofs.Powers.{of_int_lem}
use Rattle.floats.proofs.Signs.{abs_neg}
use Rattle.angle.specs.Meaning.{D}
use Rattle.angle.specs.Arctangent.{arctangent_of, Domain}
use Rattle.angle.proofs.arctangent.Ops.{D-pos}
use Rattle.angle.proofs.arctangent.Eighths.{in_eighth}
use Rattle.curves.specs.declared.pies.Sweep.TheVariants.{Part}
use Rattle.curves.specs.declared.pies.Degrees.{Degrees}
use Rattle.curves.specs.Pies.{is_whole, degrees_of, flank_of, eighth_of, in_arc}
use Rattle.curves.proofs.Eighths.{Turned, turned, all_in, none_in, apart, whole-over, whole_under}

pub flank_few : (y x : Float) → flank_of y x ≤ 3
flank_few y x = go (lt x plus_zero) (lt (abs_of x) (abs_of y))
  where
    go : (b c : Bool) → cond b (cond c 2 3) (cond c 1 0) ≤ 3
    go true true = omega arith
    go true false = omega arith
    go false true = omega arith
    go false false = omega arith

-- ---- the size to the right, by its side
pub size-left : (x y h : Float) → h ≡ abs_of y → lt x plus_zero ≡ true → lt (abs_of x) (abs_of y) ≡ lt (neg x) h
size-left x y h e f = ap₂ (λ (a b : Float). lt a b) (sym (abs_neg x (subst T (sym f) tt))) (sym e)

-- a zero with a minus is as large as one without
plain : (x z : Float) → lt x plus_zero ≡ false → lt (abs_of x) z ≡ lt x z
unfolding lt abs_of
plain nan z f = refl
plain (inf true) z f = absurd (subst T f tt)
plain (inf false) z f = refl
plain (fin false m e) z f = refl
plain (fin true m e) nan f = refl
plain (fin true m e) (inf t) f = refl
plain (fin true m e) (fin t n d) f = go t (m * up e * down d) (n * up d * down e) (none (m * up e) (down e) (down d) (ltb-false 0 (m * up e * 1 + 0 * 1 * down e) f))
  where
    none : (a p q : ℕ) → a * 1 + 0 * 1 * p ≤ 0 → a * q ≡ 0
    none zero p q h = zero-mul q
    none (suc a) p q h = absurd (omega arith)

    go : (t : Bool) (a b : ℕ) → a ≡ 0 → below false a t b ≡ below true a t b
    go false a b z = ap (λ (k : ℕ). ltb k b) z ∙ ap (ltb 0) (same a b z)
      where
        same : (a b : ℕ) → a ≡ 0 → b ≡ a + b
        same a b z = omega arith
    go true a b z = sym (le-ltb b a (omega arith))

pub size-right : (x y h : Float) → h ≡ abs_of y → lt x plus_zero ≡ false → lt (abs_of x) (abs_of y) ≡ lt x h
size-right x y h e f = plain x (abs_of y) f ∙ ap (λ (z : Float). lt x z) (sym e)

-- ---- numbers that the tests tell
both : (a b : Bool) → (a && b) ≡ true → (a ≡ true) × (b ≡ true)
both true true e = (refl, refl)
both true false e = (refl, e)
both false b e = absurd (subst T (sym e) tt)

-- x is n degrees
abbrev Whole : Float → Bool → ℕ → Type 0
Whole x s n = HasValue x s (n * D) D

record Same (y : Float) (s : Bool) (X : ℕ) : Type 0 where
  sign : Bool
  val : HasValue y sign X D
  alike : (sign ≡ s) ⊎ (X ≡ 0)

same : (x y : Float) (s : Bool) (X : ℕ) → HasValue x s X D → eq x y ≡ true → Same y s X
unfolding eq
same nan y s X v e = absurd v
same (inf r) y s X v e = absurd v
same (fin r m o) nan s X v e = absurd (subst T (sym e) tt)
same (fin r m o) (inf t) s X v e = absurd (subst T (sym e) tt)
same (fin r m o) (fin t n d) s X v e =
    let a = both (eqb (m * up o * down d) (n * up d * down o)) (beq r t || eqb (m * up o * down d) 0) e in
    record {
      sign = t;
      val = (refl, eq_of_mul-eq-mul_right (down o) (down_pos o) (n * up d * D) (X * down d) (cross (m * up o) (down o) (n * up d) (down d) D v.1 (eqb-true _ _ a.0)));
      alike = either r t (eqb (m * up o * down d) 0) v.0 (λ z. gone (m * up o) (down o) (down d) D (down_pos o) (down_pos d) v.1 (eqb→eq (m * up o * down d) 0 z)) a.1;
    }
  where
    cross : (a p b q D : ℕ) → a * D ≡ X * p → a * q ≡ b * p → b * D * p ≡ X * q * p
    cross a p b q D f g = omega (arith, ap (λ (z : ℕ). z * q) f, ap (λ (z : ℕ). z * D) g)

    gone : (a p q D : ℕ) → 0 < p → 0 < q → a * D ≡ X * p → a * q ≡ 0 → X ≡ 0
    gone zero p q D P Q f g = none X p P (sym f)
      where
        none : (x p : ℕ) → 0 < p → x * p ≡ 0 * D → x ≡ 0
        none zero p P f = refl
        none (suc x) p P f = absurd (omega arith)
    gone (suc a) p q D P Q f g = absurd (omega arith)

    either : (r t b : Bool) → r ≡ s → (T b → X ≡ 0) → (beq r t || b) ≡ true → (t ≡ s) ⊎ (X ≡ 0)
    either true true b f g h = inl f
    either false false b f g h = inl f
    either true false true f g h = inr (g tt)
    either true false false f g h = absurd (subst T (sym h) tt)
    either false true true f g h = inr (g tt)
    either false true false f g h = absurd (subst T (sym h) tt)

whole : (n : ℕ) → n < 0x100_0000 → Whole (of_int binary32 (pos n)) false n
whole n h = go (of_int binary32 (pos n)) (of_int_lem n h)
  where
    go : (x : Float) → HasValue x false n 1 → HasValue x false (n * D) D
    go nan v = v
    go (inf s) v = v
    go (fin s m e) v = (v.0, turn (m * up e) (down e) D v.1)
      where
        turn : (a d D : ℕ) → a * 1 ≡ n * d → a * D ≡ n * D * d
        turn a d D f = omega (arith, ap (λ (z : ℕ). z * D) f)

record Start (st : Float) (n : ℕ) : Type 0 where
  sign : Bool
  size : ℕ
  val : Whole st sign size
  few : size ≤ 1440
  is : apart sign size ≡ n

start : (st : Float) (n : ℕ) → n ≤ 2880 → eq (sub binary32 (fin false 45 (pos 5)) (of_int binary32 (pos n))) st ≡ true → Start st n
start st n h e = go (dec_lt 1440 n)
  where
    far : Whole (fin false 45 (pos 5)) false 1440
    far = (refl, go D)
      where
        go : (d : ℕ) → 45 * 32 * d ≡ 1440 * d * 1
        go d = omega arith

    -- 1440 - n, with a sign
    at : (s : Bool) (k : ℕ) → Whole (sub binary32 (fin false 45 (pos 5)) (of_int binary32 (pos n))) s k → k ≤ 1440 → apart s k ≡ n → (k ≡ 0 → (t : Bool) → apart t k ≡ n) → Start st n
    at s k v l f g =
        let q = same (sub binary32 (fin false 45 (pos 5)) (of_int binary32 (pos n))) st s (k * D) v e in
        record { sign = q.sign; size = k; val = q.val; few = l; is = pick q.sign q.alike }
      where
        none : (k d : ℕ) → 0 < d → k * d ≡ 0 → k ≡ 0
        none zero d p f = refl
        none (suc k) d p f = absurd (omega arith)

        pick : (t : Bool) → (t ≡ s) ⊎ (k * D ≡ 0) → apart t k ≡ n
        pick t (inl p) = subst (λ (b : Bool). apart b k ≡ n) (sym p) f
        pick t (inr z) = g (none k D D-pos z) t

    go : Dec (1440 < n) → Start st n
    go (yes l) = at true (n - 1440) (whole_under _ _ 1440 n far (whole n (omega arith)) l (omega arith)) (omega arith) (omega arith) (λ z. absurd (omega arith))
    go (no l) = at false (1440 - n) (whole-over _ _ 1440 n far (whole n (omega arith)) (omega arith) (omega arith)) (omega arith) (omega arith) zeros
      where
        zeros : 1440 - n ≡ 0 → (t : Bool) → apart t (1440 - n) ≡ n
        zeros z true = omega arith
        zeros z false = omega arith

-- ---- the verdict
module _ (s z : Float) (n l : ℕ) (w : is_whole s z n l ≡ true) (dx dy : Float) (h : Domain (neg dy) dx) where
  told : (n ≤ 2880) × ((1 ≤ l) × ((l ≤ 359) × ((eq (sub binary32 (fin false 45 (pos 5)) (of_int binary32 (pos n))) s ≡ true) × (eq (of_int binary32 (pos l)) z ≡ true))))
  unfolding is_whole
  told =
      let a = both (leb n 2880) _ w in
      let b = both (leb 1 l) _ a.1 in
      let c = both (leb l 359) _ b.1 in
      (leb-true n 2880 a.0, (leb-true 1 l b.0, (leb-true l 359 c.0, both (eq (sub binary32 (fin false 45 (pos 5)) (of_int binary32 (pos n))) s) _ c.1)))

  long : Whole z false l
  long =
      let q = same (of_int binary32 (pos l)) z false (l * D) (whole l (omega (arith, told.1.1.0))) told.1.1.1.1 in
      go q.sign q.val q.alike
    where
      some : (l d : ℕ) → 1 ≤ l → 0 < d → l * d ≡ 0 → ⊥
      some zero d h p f = omega arith
      some (suc l) d h p f = omega arith

      go : (t : Bool) → Whole z t l → (t ≡ false) ⊎ (l * D ≡ 0) → Whole z false l
      go t v (inl p) = subst (λ (b : Bool). Whole z b l) p v
      go t v (inr e) = absurd (some l D told.1.0 D-pos e)

  abbrev at : ℕ
  at = (n % 360 + 45 * eighth_of (neg dy) dx) % 360

  brought : at < 315 → Turned (sub binary32 (arctangent_of (neg dy) dx) s) at
  brought f =
      let b = start s n told.0 told.1.1.1.0 in
      let k = in_eighth (neg dy) dx h in
      turned (arctangent_of (neg dy) dx) s (flank_of (neg dy) dx) b.size k.parts at (n / 360 + (n % 360 + 45 * eighth_of (neg dy) dx) / 360) (omega (arith, flank_few (neg dy) dx))
      b.few (omega arith) k.low k.high (sign_of (neg dy)) b.sign k.val b.val
      (ap (λ (m : ℕ). m + 45 * eighth_of (neg dy) dx) b.is ∙ turns n (eighth_of (neg dy) dx))
    where
      turns : (n k : ℕ) → n + 45 * k ≡ (n % 360 + 45 * k) % 360 + 360 * (n / 360 + (n % 360 + 45 * k) / 360)
      turns n k = omega (arith, div-add-mod' n 360, div-add-mod' (n % 360 + 45 * k) 360)

  pub in_all : at < 315 → at + 45 ≤ l → in_arc s z dx dy ≡ true
  unfolding in_arc
  in_all f g = all_in _ z at l long (brought f) g

  pub in_none : at < 315 → l < at → in_arc s z dx dy ≡ false
  unfolding in_arc
  in_none f g = none_in _ z at l long (brought f) g

-- ---- the same of a part sweep's degrees
module _ (s z : Float) (o : Option Degrees) (e : o ≡ degrees_of (Part s z)) (d : Degrees) (w : o ≡ Some d) where
  abbrev count : ℕ
  count = ceil_size (sub binary32 (fin false 45 (pos 5)) s)

  told-whole : (is_whole s z count (ceil_size z) ≡ true) × (d ≡ record { from = count % 360; length = ceil_size z })
  unfolding degrees_of
  told-whole = go (is_whole s z count (ceil_size z)) (sym w ∙ e)
    where
      go : (b : Bool) → Some d ≡ cond b (Some (record { from = count % 360; length = ceil_size z })) None → (b ≡ true) × (d ≡ record { from = count % 360; length = ceil_size z })
      go true f = (refl, cc)
      go false f = cc

  from-is : d.from ≡ count % 360
  from-is = ap (λ (k : Degrees). k.from) told-whole.1

  length-is : d.length ≡ ceil_size z
  length-is = ap (λ (k : Degrees). k.length) told-whole.1

  pub from-few : d.from < 360
  from-few = subst (λ (n : ℕ). n < 360) (sym from-is) (mod-lt _ (lit< tt))

  module _ (dx dy : Float) (h : Domain (neg dy) dx) (k at : ℕ) (q : k ≡ eighth_of (neg dy) dx) (b : at ≡ (d.from + 45 * k) % 360) where
    at-is : at ≡ (count % 360 + 45 * eighth_of (neg dy) dx) % 360
    at-is = b ∙ ap₂ (λ (a b : ℕ). (a + 45 * b) % 360) from-is q

    pub all_of : at < 315 → at + 45 ≤ d.length → true ≡ in_arc s z dx dy
    all_of f g = sym (in_all s z count (ceil_size z) told-whole.0 dx dy h (subst (λ (n : ℕ). n < 315) at-is f) (omega (arith, at-is, length-is, g)))

    pub none_of : at < 315 → d.length < at → false ≡ in_arc s z dx dy
    none_of f g = sym (in_none s z count (ceil_size z) told-whole.0 dx dy h (subst (λ (n : ℕ). n < 315) at-is f) (omega (arith, at-is, length-is, g)))

pub eighth_few : (y x : Float) → eighth_of y x ≤ 7
eighth_few y x = go (sign_of y) (flank_of y x) (flank_few y x)
  where
    go : (b : Bool) (e : ℕ) → e ≤ 3 → cond b (7 - e) e ≤ 7
    go true e h = omega arith
    go false e h = omega arith
