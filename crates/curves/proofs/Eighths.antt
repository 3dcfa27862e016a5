-- An angle of an eighth of a turn, less a whole number of degrees and brought into one turn, lies in that eighth brought there: whole
-- numbers are exact, and rounding is monotone. Assumes nothing.
use Rattle.std.proofs.Common.{◌≡◌, ℕ, zero, suc, ◌+◌, ◌-◌, ◌*◌, ◌%◌, ◌^◌, ◌<◌, ◌≤◌, Bool, true, false, cond, not, ◌&&◌, ◌||◌, T, eqb, ltb, sym, refl, ap, ◌∙◌, subst, ap₂, le_trans, mul-le-mul_right, mod-eq_of_lt, mul_comm, lt_of_mul-lt-mul_right, mul-lt-mul_of_pos_right, mul-pos, mul-one, le_of_mul-le-mul_right, arith, lit<, lit≤, eqb→eq, ltb→lt, le-ltb, lt-ltb}
use native.Mathlib.Nat.{mul-sub, add-mul-mod_self_right}
use native.Mathlib.Decide.{dec_lt}
use lib.Ieee.{Float, nan, inf, fin, binary32, up, down, round, neg, add, sub, sum, rem, lt, le, eq}
use lib.Ieee.Fits.{down_pos}
use lib.Ieee.Exact.{HasValue}
use lib.Ieee.Back.{round_whole}
use lib.Ieee.Order.{round_mono, transfer, le_of_values}
use lib.Ieee.Scale.{round_same}
use Rattle.floats.specs.Size.{plus_zero}
use Rattle.floats.specs.Degrees.{turn, rem_euclid360}
use Rattle.angle.specs.Meaning.{D}
use Rattle.angle.proofs.arctangent.Ops.{D-pos, Near, rounds}

-- ---- the order of two values that are not negative
holds_true : (b : Bool) → T b → b ≡ true
holds_true true t = refl
holds_true false t = absurd t

no_truth : (b : Bool) → (T b → ⊥) → b ≡ false
no_truth true f = absurd (f tt)
no_truth false f = refl

at_most : (a b : ℕ) → T (ltb a b || (eqb a b && true)) → a ≤ b
at_most a b = go (ltb a b) (eqb a b) (ltb→lt a b) (eqb→eq a b)
  where
    go : (t u : Bool) → (T t → a < b) → (T u → a ≡ b) → T (t || (u && true)) → a ≤ b
    go true u f g h = let l : a < b = f tt in omega arith
    go false true f g h = let l : a ≡ b = g tt in omega arith
    go false false f g h = absurd h

values : (x y : Float) (a c b d : ℕ) → HasValue x false a c → HasValue y false b d → T (le x y) → a * d ≤ b * c
unfolding le lt eq
values nan y a c b d v w h = absurd v
values (inf s) y a c b d v w h = absurd v
values (fin s m e) nan a c b d v w h = absurd w
values (fin s m e) (inf t) a c b d v w h = absurd w
values (fin true m e) (fin t n o) a c b d v w h = absurd (subst T v.0 tt)
values (fin false m e) (fin true n o) a c b d v w h = absurd (subst T w.0 tt)
values (fin false m e) (fin false n o) a c b d v w h =
    transfer a b c d (m * up e) (n * up o) (down e) (down o) (down_pos e) (down_pos o) (sym v.1) (sym w.1) (at_most (m * up e * down o) (n * up o * down e) h)

-- ---- rounding stays between whole numbers
record Held (s : Bool) (n lo hi : ℕ) : Type 0 where
  parts : ℕ
  val : HasValue (round binary32 s n D) s parts D
  low : lo * D ≤ parts
  high : parts ≤ hi * D

n-top : 2 ^ 24 * D ≤ 2 ^ (24 + 149)
unfolding D
n-top = lit≤ tt

held : (s : Bool) (n lo hi : ℕ) → lo * D ≤ n → n ≤ hi * D → hi < 2 ^ 24 → Held s n lo hi
held s n lo hi l h t =
    let few : n < 2 ^ (24 + 149) = below n hi D (2 ^ (24 + 149)) D-pos h t n-top in
    let r : Near (round binary32 false n D) n D 149 = rounds n D 149 D-pos (lit≤ tt) (mul-lt-mul_of_pos_right few D-pos) in
    let lo' : lo ≤ 2 ^ 24 = under n lo hi D D-pos l h t in
    let hi' : hi ≤ 2 ^ 24 = omega arith in
    let a = values (round binary32 false lo 1) (round binary32 false n D) lo 1 r.parts D (round_whole binary32 false lo lo') r.val
    (round_mono binary32 lo 1 n D (lit< tt) D-pos (one n (lo * D) l)) in
    let b = values (round binary32 false n D) (round binary32 false hi 1) r.parts D hi 1 r.val (round_whole binary32 false hi hi')
    (round_mono binary32 n D hi 1 D-pos (lit< tt) (one' n (hi * D) h)) in
    record { parts = r.parts; val = r.either s; low = un r.parts (lo * D) a; high = un' r.parts (hi * D) b }
  where
    one : (n k : ℕ) → k ≤ n → k ≤ n * 1
    one n k h = omega arith

    one' : (n k : ℕ) → n ≤ k → n * 1 ≤ k
    one' n k h = omega arith

    un : (n k : ℕ) → k ≤ n * 1 → k ≤ n
    un n k h = omega arith

    un' : (n k : ℕ) → n * 1 ≤ k → n ≤ k
    un' n k h = omega arith

    below : (n hi d p : ℕ) → 0 < d → n ≤ hi * d → hi < 2 ^ 24 → 2 ^ 24 * d ≤ p → n < p
    below n hi d p z h t m = omega (arith, mul-lt-mul_of_pos_right t z)

    under : (n lo hi d : ℕ) → 0 < d → lo * d ≤ n → n ≤ hi * d → hi < 2 ^ 24 → lo ≤ 2 ^ 24
    under n lo hi d z l h t = let k : lo * d < 2 ^ 24 * d = omega (arith, mul-lt-mul_of_pos_right t z) in let j : lo < 2 ^ 24 = lt_of_mul-lt-mul_right d k in omega arith

-- ---- sums in D-ths
less_same : (a b c a' b' c' : ℕ) → a * c' ≡ a' * c → b * c' ≡ b' * c → (b - a) * c' ≡ (b' - a') * c
less_same a b c a' b' c' e f =
    mul_comm (b - a) c'
    ∙ mul-sub c' b a
    ∙ ap₂ (λ (x y : ℕ). x - y) (mul_comm c' b ∙ f ∙ mul_comm b' c) (mul_comm c' a ∙ e ∙ mul_comm a' c)
    ∙ sym (mul-sub c b' a')
    ∙ mul_comm c (b' - a')

less_than : (a b c a' b' c' : ℕ) → 0 < c → 0 < c' → a * c' ≡ a' * c → b * c' ≡ b' * c → ltb a b ≡ ltb a' b'
less_than a b c a' b' c' C C' e f = go (dec_lt a b)
  where
    go : Dec (a < b) → ltb a b ≡ ltb a' b'
    go (yes l) = lt-ltb a b l ∙ sym (lt-ltb a' b' (lt_of_mul-lt-mul_right c (omega (arith, mul-lt-mul_of_pos_right l C'))))
    go (no l) = let k : b ≤ a = omega arith in le-ltb a b k ∙ sym (le-ltb a' b' (le_of_mul-le-mul_right {k = c} (omega (arith, mul-le-mul_right c' k)) C))

module _ (a b c a' b' c' : ℕ) (C : 0 < c) (C' : 0 < c') (e : a * c' ≡ a' * c) (f : b * c' ≡ b' * c) where
  differ : (s t : Bool) → cond (ltb a b) (round binary32 t (b - a) c) (round binary32 (s && ltb b a) (a - b) c)
      ≡ cond (ltb a' b') (round binary32 t (b' - a') c') (round binary32 (s && ltb b' a') (a' - b') c')
  differ s t =
      ap₂ (λ (p q : Bool). cond p (round binary32 t (b - a) c) (round binary32 (s && q) (a - b) c)) (less_than a b c a' b' c' C C' e f) (less_than b a c b' a' c' C C' f e)
      ∙ ap₂ (λ (x y : Float). cond (ltb a' b') x y) (round_same binary32 t (b - a) c (b' - a') c' C C' (less_same a b c a' b' c' e f))
      (round_same binary32 (s && ltb b' a') (a - b) c (a' - b') c' C C' (less_same b a c b' a' c' f e))

  total : (s : Bool) → round binary32 s (a + b) c ≡ round binary32 s (a' + b') c'
  total s = round_same binary32 s (a + b) c (a' + b') c' C C' (omega arith)

  sum_same : (s t : Bool) → sum binary32 s a t b c ≡ sum binary32 s a' t b' c'
  unfolding sum
  sum_same true true = total true
  sum_same false false = total false
  sum_same true false = differ true false
  sum_same false true = differ false true

add_is : (x y : Float) (s t : Bool) (X Y : ℕ) → HasValue x s X D → HasValue y t Y D → add binary32 x y ≡ sum binary32 s X t Y D
unfolding add
add_is nan y s t X Y v w = absurd v
add_is (inf r) y s t X Y v w = absurd v
add_is (fin r m e) nan s t X Y v w = absurd w
add_is (fin r m e) (inf q) s t X Y v w = absurd w
add_is (fin r m e) (fin q n d) s t X Y v w =
    ap₂ (λ (a b : Bool). sum binary32 a (m * up e * down d) b (n * up d * down e) (down e * down d)) v.0 w.0
    ∙ sum_same (m * up e * down d) (n * up d * down e) (down e * down d) X Y D (mul-pos (down_pos e) (down_pos d)) D-pos (over (m * up e) (down e) (down d) X D v.1)
    (over' (n * up d) (down d) (down e) Y D w.1) s t
  where
    over : (a p q X d : ℕ) → a * d ≡ X * p → a * q * d ≡ X * (p * q)
    over a p q X d f = omega (arith, ap (λ (z : ℕ). z * q) f)

    over' : (a p q X d : ℕ) → a * d ≡ X * p → a * q * d ≡ X * (q * p)
    over' a p q X d f = omega (arith, ap (λ (z : ℕ). z * q) f)

neg_is : (x : Float) (s : Bool) (X : ℕ) → HasValue x s X D → HasValue (neg x) (not s) X D
unfolding neg
neg_is nan s X v = v
neg_is (inf t) s X v = v
neg_is (fin t m e) s X v = (ap not v.0, v.1)

sub_is : (x y : Float) (s t : Bool) (X Y : ℕ) → HasValue x s X D → HasValue y t Y D → sub binary32 x y ≡ sum binary32 s X (not t) Y D
unfolding sub
sub_is x y s t X Y v w = add_is x (neg y) s (not t) X Y v (neg_is y t Y w)

-- ---- the remainder
rem_is : (x : Float) (s : Bool) (Y j : ℕ) → HasValue x s (Y + j * (360 * D)) D → Y < 360 * D → rem binary32 x turn ≡ round binary32 s Y D
unfolding rem
rem_is nan s Y j v h = absurd v
rem_is (inf t) s Y j v h = absurd v
rem_is (fin t m e) s Y j v h =
    let n = m * up e in
    let d = down e in
    let k = over n d D (down_pos e) D-pos v.1 h in
    ap (λ (b : Bool). round binary32 b (n * 1 % (45 * 8 * d)) (d * 1)) v.0
    ∙ ap (λ (x : ℕ). round binary32 s x (d * 1)) (ap (λ (x : ℕ). x % (360 * d)) (split n d k.0) ∙ add-mul-mod_self_right (n - j * (360 * d)) j (360 * d) ∙ mod-eq_of_lt k.1.1)
    ∙ round_same binary32 s (n - j * (360 * d)) (d * 1) Y D (mul-pos (down_pos e) (lit< tt)) D-pos (k.1.0 ∙ ap (λ (z : ℕ). Y * z) (sym (mul-one d)))
  where
    split : (n d : ℕ) → j * (360 * d) ≤ n → n * 1 ≡ n - j * (360 * d) + j * (360 * d)
    split n d h = omega arith

    over : (n d D : ℕ) → 0 < d → 0 < D → n * D ≡ (Y + j * (360 * D)) * d → Y < 360 * D → (j * (360 * d) ≤ n) × (((n - j * (360 * d)) * D ≡ Y * d) × (n - j * (360 * d) < 360 * d))
    over n d D z w f h =
        let l : j * (360 * d) ≤ n = le_of_mul-le-mul_right {k = D} (omega arith) w in
        let p : n * D ≡ Y * d + j * (360 * d) * D = omega arith in
        let q : (n - j * (360 * d)) * D ≡ Y * d = mul_comm (n - j * (360 * d)) D ∙ mul-sub D n (j * (360 * d)) ∙ back (D * n) (D * (j * (360 * d))) (Y * d) (omega arith) in
        (l, (q, lt_of_mul-lt-mul_right D (omega (arith, q, mul-lt-mul_of_pos_right h z))))
      where
        back : (a b c : ℕ) → a ≡ c + b → a - b ≡ c
        back a b c e = omega arith

plus_sign : (r : Float) (G : ℕ) → HasValue r false G D → lt r plus_zero ≡ false
unfolding lt
plus_sign nan G v = absurd v
plus_sign (inf s) G v = absurd v
plus_sign (fin true m e) G v = absurd (subst T v.0 tt)
plus_sign (fin false m e) G v = le-ltb (m * up e * 1) (0 * 1 * down e) (least (m * up e) (down e))
  where
    least : (n d : ℕ) → 0 * 1 * d ≤ n * 1
    least n d = omega arith

-- below zero, where there is anything
minus_sign : (r : Float) (G : ℕ) → HasValue r true G D → 0 < G → lt r plus_zero ≡ true
unfolding lt
minus_sign nan G v h = absurd v
minus_sign (inf s) G v h = absurd v
minus_sign (fin false m e) G v h = absurd (subst T (sym v.0) tt)
minus_sign (fin true m e) G v h = lt-ltb 0 (m * up e * 1 + 0 * 1 * down e) (some (m * up e) (down e) D (down_pos e) v.1)
  where
    some : (n d D : ℕ) → 0 < d → n * D ≡ G * d → 0 < n * 1 + 0 * 1 * d
    some zero d D z f = absurd (omega (arith, f, mul-pos h z))
    some (suc n) d D z f = omega arith

minus-none : (r : Float) → HasValue r true 0 D → lt r plus_zero ≡ false
unfolding lt
minus-none nan v = absurd v
minus-none (inf s) v = absurd v
minus-none (fin false m e) v = absurd (subst T (sym v.0) tt)
minus-none (fin true m e) v = le-ltb 0 (m * up e * 1 + 0 * 1 * down e) (none (m * up e) (down e) D D-pos v.1)
  where
    none : (n d D : ℕ) → 0 < D → n * D ≡ 0 * d → n * 1 + 0 * 1 * d ≤ 0
    none zero d D z f = omega arith
    none (suc n) d D z f = absurd (omega arith)

-- -a + b
back : (a b c : ℕ) → a ≤ b → sum binary32 true a false b c ≡ round binary32 false (b - a) c
unfolding sum
back a b c h = go (dec_lt a b)
  where
    go : Dec (a < b) → cond (ltb a b) (round binary32 false (b - a) c) (round binary32 (true && ltb b a) (a - b) c) ≡ round binary32 false (b - a) c
    go (yes l) = rw (lt-ltb a b l) refl
    go (no l) = rw (le-ltb a b (omega arith), le-ltb b a h) (ap (λ (n : ℕ). round binary32 false n c) (same a b h (omega arith)))
      where
        same : (a b : ℕ) → a ≤ b → b ≤ a → a - b ≡ b - a
        same a b h k = omega arith

turn_is : HasValue turn false (360 * D) D
turn_is = (refl, go D)
  where
    go : (d : ℕ) → 45 * 8 * d ≡ 360 * d * 1
    go d = omega arith

-- what is left of a turn from P and from P + 45 on
gaps : (P D : ℕ) → P + 45 < 360 → ((315 - P) * D + P * D ≡ 315 * D) × ((360 - P) * D + P * D ≡ 360 * D)
gaps P D h = (omega (arith, ap (λ (z : ℕ). z * D) (near P h)), omega (arith, ap (λ (z : ℕ). z * D) (far P h)))
  where
    near : (P : ℕ) → P + 45 < 360 → 315 - P + P ≡ 315
    near P h = omega arith

    far : (P : ℕ) → P + 45 < 360 → 360 - P + P ≡ 360
    far P h = omega arith

-- ---- brought into one turn, x lies from P to P + 45
pub record Turned (x : Float) (P : ℕ) : Type 0 where
  pub sign : Bool
  pub parts : ℕ
  pub val : HasValue (rem_euclid360 x) sign parts D
  pub low : P * D ≤ parts
  pub high : parts ≤ (P + 45) * D
  pub none : sign ≡ true → parts ≡ 0

module _ (x : Float) (P lo j X : ℕ) (short : P + 45 < 360) (l : lo * D ≤ X) (h : X ≤ (lo + 45) * D) where
  -- from zero on
  up-turned : HasValue x false X D → lo ≡ P + 360 * j → Turned x P
  unfolding rem_euclid360
  up-turned v e =
      let a = bounds X D D-pos l h in
      let Y = X - j * (360 * D) in
      let r : rem binary32 x turn ≡ round binary32 false Y D = rem_is x false Y j (subst (λ (z : ℕ). HasValue x false z D) a.0 v) a.1.0 in
      let k = held false Y P (P + 45) a.1.1.0 a.1.1.1 (omega arith) in
      record { sign = false; parts = k.parts; val = rw (r, plus_sign _ k.parts k.val) k.val; low = k.low; high = k.high; none = λ q. absurd (subst T (sym q) tt) }
    where
      bounds : (X D : ℕ) → 0 < D → lo * D ≤ X → X ≤ (lo + 45) * D
          → (X ≡ X - j * (360 * D) + j * (360 * D)) × ((X - j * (360 * D) < 360 * D) × ((P * D ≤ X - j * (360 * D)) × (X - j * (360 * D) ≤ (P + 45) * D)))
      bounds X D d l h =
          let f : lo * D ≡ P * D + j * (360 * D) = omega (arith, ap (λ (z : ℕ). z * D) e) in
          let g : P * D + 45 * D < 360 * D = omega (arith, mul-lt-mul_of_pos_right short d) in
          (omega arith, (omega arith, (omega arith, omega arith)))

  -- below zero
  module _ (v : HasValue x true X D) (e : P + 45 + lo ≡ 360 + 360 * j) where
    bounds : (X D : ℕ) → 0 < D → lo * D ≤ X → X ≤ (lo + 45) * D → (X ≡ X - j * (360 * D) + j * (360 * D)) × (((315 - P) * D ≤ X - j * (360 * D)) × (X - j * (360 * D) ≤ (360 - P) * D))
    bounds X D d l h =
        let f : lo * D + P * D + 45 * D ≡ 360 * D + j * (360 * D) = omega (arith, ap (λ (z : ℕ). z * D) e) in
        let g = gaps P D short in
        (omega arith, (omega (arith, g.0), omega (arith, g.1)))

    Y : ℕ
    Y = X - j * (360 * D)

    -- a whole turn, or several
    whole : Y ≡ 360 * D → Turned x P
    unfolding rem_euclid360 Y
    whole q =
        let a = bounds X D D-pos l h in
        let v' : HasValue x true (0 + suc j * (360 * D)) D = subst (λ (z : ℕ). HasValue x true z D) (all X D a.0 q) v in
        let k = held true 0 0 0 (omega arith) (omega arith) (lit< tt) in
        let r = rem_is x true 0 (suc j) v' (some D D-pos) in
        let z : k.parts ≡ 0 = nothing k.parts D k.high in
        record {
          sign = true;
          parts = 0;
          val = rw (r, minus-none _ (subst (λ (n : ℕ). HasValue (round binary32 true 0 D) true n D) z k.val)) (subst (λ (n : ℕ). HasValue (round binary32 true 0 D) true n D) z k.val);
          low = first Y D a.1.1 q;
          high = least _;
          none = λ e. refl;
        }
      where
        all : (X D : ℕ) → X ≡ X - j * (360 * D) + j * (360 * D) → X - j * (360 * D) ≡ 360 * D → X ≡ 0 + suc j * (360 * D)
        all X D e f = omega arith

        some : (D : ℕ) → 0 < D → 0 < 360 * D
        some D h = omega arith

        nothing : (n D : ℕ) → n ≤ 0 * D → n ≡ 0
        nothing n D h = omega arith

        least : (n : ℕ) → 0 ≤ n
        least n = omega arith

        first : (Y D : ℕ) → Y ≤ (360 - P) * D → Y ≡ 360 * D → P * D ≤ 0
        first Y D h f = omega (arith, (gaps P D short).1)

    part : Y < 360 * D → Turned x P
    unfolding rem_euclid360 Y
    part q =
        let a = bounds X D D-pos l h in
        let r : rem binary32 x turn ≡ round binary32 true Y D = rem_is x true Y j (subst (λ (z : ℕ). HasValue x true z D) a.0 v) q in
        let k = held true Y (315 - P) (360 - P) a.1.0 a.1.1 (omega arith) in
        let b = over k.parts D D-pos k.low k.high in
        let t : add binary32 (round binary32 true Y D) turn ≡ round binary32 false (360 * D - k.parts) D =
        add_is (round binary32 true Y D) turn true false k.parts (360 * D) k.val turn_is ∙ back k.parts (360 * D) D b.1.0 in
        let o = held false (360 * D - k.parts) P (P + 45) b.1.1.0 b.1.1.1 (omega arith) in
        record {
          sign = false;
          parts = o.parts;
          val = rw (r, minus_sign _ k.parts k.val b.0, t) o.val;
          low = o.low;
          high = o.high;
          none = λ q. absurd (subst T (sym q) tt);
        }
      where
        over : (G D : ℕ) → 0 < D → (315 - P) * D ≤ G → G ≤ (360 - P) * D → (0 < G) × ((G ≤ 360 * D) × ((P * D ≤ 360 * D - G) × (360 * D - G ≤ (P + 45) * D)))
        over G D d l h =
            let g = gaps P D short in
            let m : P * D < 315 * D = mul-lt-mul_of_pos_right {m = P} {n = 315} (omega arith) d in
            (omega (arith, g.0), (omega (arith, g.1), (omega (arith, g.1), omega (arith, g.0))))

    down-turned : Turned x P
    unfolding Y
    down-turned = go (dec_lt Y (360 * D))
      where
        go : Dec (Y < 360 * D) → Turned x P
        go (yes q) = part q
        go (no q) = whole (same Y D (bounds X D D-pos l h).1.1 (omega arith))
          where
            same : (Y D : ℕ) → Y ≤ (360 - P) * D → 360 * D ≤ Y → Y ≡ 360 * D
            same Y D h k = omega (arith, (gaps P D short).1)

-- ---- an angle less a whole number
abbrev Angle : Float → Bool → ℕ → ℕ → Type 0
Angle a s e R = HasValue a s R D × ((45 * e * D ≤ R) × (R ≤ 45 * (e + 1) * D))

record Less (r : Float) (s : Bool) (lo : ℕ) : Type 0 where
  parts : ℕ
  val : HasValue r s parts D
  low : lo * D ≤ parts
  high : parts ≤ (lo + 45) * D

less : (r : Float) (s : Bool) (lo W : ℕ) → r ≡ round binary32 s W D → lo * D ≤ W → W ≤ (lo + 45) * D → lo < 10000 → Less r s lo
less r s lo W e l h t =
    let k = held s W lo (lo + 45) l h (omega arith) in
    record { parts = k.parts; val = subst (λ (z : Float). HasValue z s k.parts D) (sym e) k.val; low = k.low; high = k.high }

-- a - b of sizes
over : (a b c : ℕ) → b ≤ a → sum binary32 false a true b c ≡ round binary32 false (a - b) c
unfolding sum
over a b c h = rw (le-ltb a b h) refl

under : (a b c : ℕ) → a < b → sum binary32 false a true b c ≡ round binary32 true (b - a) c
unfolding sum
under a b c h = rw (lt-ltb a b h) refl

-- -a + b
ahead : (a b c : ℕ) → b < a → sum binary32 true a false b c ≡ round binary32 true (a - b) c
unfolding sum
ahead a b c h = rw (le-ltb a b (omega arith), lt-ltb b a h) refl

-- whole numbers, exactly
exact : (s : Bool) (k : ℕ) → k < 10000 → HasValue (round binary32 s (k * D) D) s (k * D) D
exact s k h =
    let r = held s (k * D) k k (omega arith) (omega arith) (omega arith) in
    subst (λ (n : ℕ). HasValue (round binary32 s (k * D) D) s n D) (between r.parts (k * D) r.low r.high) r.val
  where
    between : (a b : ℕ) → b ≤ a → a ≤ b → a ≡ b
    between a b h k = omega arith

minus-parts : (a b d : ℕ) → a * d - b * d ≡ (a - b) * d
minus-parts a b d = ap₂ (λ (x y : ℕ). x - y) (mul_comm a d) (mul_comm b d) ∙ sym (mul-sub d a b) ∙ mul_comm d (a - b)

module _ (x y : Float) (a b : ℕ) (v : HasValue x false (a * D) D) (w : HasValue y false (b * D) D) where
  pub whole-over : b ≤ a → a < 10000 → HasValue (sub binary32 x y) false ((a - b) * D) D
  whole-over h l =
      subst (λ (z : Float). HasValue z false ((a - b) * D) D)
      (sym (sub_is x y false false (a * D) (b * D) v w ∙ over (a * D) (b * D) D (mul-le-mul_right D h) ∙ ap (λ (n : ℕ). round binary32 false n D) (minus-parts a b D)))
      (exact false (a - b) (omega arith))

  pub whole_under : a < b → b < 10000 → HasValue (sub binary32 x y) true ((b - a) * D) D
  whole_under h l =
      subst (λ (z : Float). HasValue z true ((b - a) * D) D)
      (sym (sub_is x y false false (a * D) (b * D) v w ∙ under (a * D) (b * D) D (mul-lt-mul_of_pos_right h D-pos) ∙ ap (λ (n : ℕ). round binary32 true n D) (minus-parts b a D)))
      (exact true (b - a) (omega arith))

-- z + 45 k is P and whole turns, where z is 1440 less the number, and the k-th eighth begins the angle
abbrev pub place : Bool → ℕ → ℕ
place s e = cond s (7 - e) e

abbrev pub apart : Bool → ℕ → ℕ
apart t n = cond t (1440 + n) (1440 - n)

module _ (a st : Float) (e n R P i : ℕ) (few : e < 4) (whole : n ≤ 1440) (short : P + 45 < 360) (l : 45 * e * D ≤ R) (h : R ≤ 45 * (e + 1) * D) where
  pub turned : (s t : Bool) → HasValue a s R D → HasValue st t (n * D) D → apart t n + 45 * place s e ≡ P + 360 * i → Turned (sub binary32 a st) P
  turned false true v w f =
      let x = sub_is a st false true R (n * D) v w in
      let k = less (sub binary32 a st) false (45 * e + n) (R + n * D) (x ∙ unfold sum in refl) (omega arith) (omega arith) (omega arith) in
      up-turned (sub binary32 a st) P (45 * e + n) (i - 4) k.parts short k.low k.high k.val (omega arith)
  turned true false v w f =
      let x = sub_is a st true false R (n * D) v w in
      let k = less (sub binary32 a st) true (45 * e + n) (R + n * D) (x ∙ unfold sum in refl) (omega arith) (omega arith) (omega arith) in
      down-turned (sub binary32 a st) P (45 * e + n) (4 - i) k.parts short k.low k.high k.val (omega arith)
  turned false false v w f = go (dec_lt (45 * e) n)
    where
      x : sub binary32 a st ≡ sum binary32 false R true (n * D) D
      x = sub_is a st false false R (n * D) v w

      below : (lo : ℕ) → n ≡ 45 * e + 45 + lo → 0 < lo → Turned (sub binary32 a st) P
      below lo g z =
          let m : n * D ≡ 45 * e * D + 45 * D + lo * D = omega (arith, ap (λ (z : ℕ). z * D) g) in
          let o : 0 < lo * D = mul-pos z D-pos in
          let k = less (sub binary32 a st) true lo (n * D - R) (x ∙ under R (n * D) D (omega arith)) (omega arith) (omega arith) (omega arith) in
          down-turned (sub binary32 a st) P lo (3 - i) k.parts short k.low k.high k.val (omega arith)

      above : (lo : ℕ) → 45 * e ≡ n + lo → Turned (sub binary32 a st) P
      above lo g =
          let m : 45 * e * D ≡ n * D + lo * D = omega (arith, ap (λ (z : ℕ). z * D) g) in
          let k = less (sub binary32 a st) false lo (R - n * D) (x ∙ over R (n * D) D (omega arith)) (omega arith) (omega arith) (omega arith) in
          up-turned (sub binary32 a st) P lo (i - 4) k.parts short k.low k.high k.val (omega arith)

      go : Dec (45 * e < n) → Turned (sub binary32 a st) P
      go (yes q) = below (n - 45 * e - 45) (omega arith) (omega arith)
      go (no q) = above (45 * e - n) (omega arith)
  turned true true v w f = go (dec_lt n (45 * e))
    where
      x : sub binary32 a st ≡ sum binary32 true R false (n * D) D
      x = sub_is a st true true R (n * D) v w

      below : (lo : ℕ) → 45 * e ≡ n + lo → 0 < lo → Turned (sub binary32 a st) P
      below lo g z =
          let m : 45 * e * D ≡ n * D + lo * D = omega (arith, ap (λ (z : ℕ). z * D) g) in
          let o : 0 < lo * D = mul-pos z D-pos in
          let k = less (sub binary32 a st) true lo (R - n * D) (x ∙ ahead R (n * D) D (omega arith)) (omega arith) (omega arith) (omega arith) in
          down-turned (sub binary32 a st) P lo (4 - i) k.parts short k.low k.high k.val (omega arith)

      above : (lo : ℕ) → n ≡ 45 * e + 45 + lo → Turned (sub binary32 a st) P
      above lo g =
          let m : n * D ≡ 45 * e * D + 45 * D + lo * D = omega (arith, ap (λ (z : ℕ). z * D) g) in
          let k = less (sub binary32 a st) false lo (n * D - R) (x ∙ back R (n * D) D (omega arith)) (omega arith) (omega arith) (omega arith) in
          up-turned (sub binary32 a st) P lo (i - 5) k.parts short k.low k.high k.val (omega arith)

      go : Dec (n < 45 * e) → Turned (sub binary32 a st) P
      go (yes q) = below (45 * e - n) (omega arith) (omega arith)
      go (no q) = above (n - 45 * e - 45) (omega arith)

-- ---- the test of the sweep's length, L degrees
minus-first : (x y : Float) (X Y : ℕ) → HasValue x true X D → HasValue y false Y D → 0 < Y → le x y ≡ true
unfolding le lt
minus-first nan y X Y v w h = absurd v
minus-first (inf s) y X Y v w h = absurd v
minus-first (fin s m e) nan X Y v w h = absurd w
minus-first (fin s m e) (inf t) X Y v w h = absurd w
minus-first (fin false m e) (fin t n d) X Y v w h = absurd (subst T (sym v.0) tt)
minus-first (fin true m e) (fin true n d) X Y v w h = absurd (subst T w.0 tt)
minus-first (fin true m e) (fin false n d) X Y v w h =
    rw (lt-ltb 0 (m * up e * down d + n * up d * down e) (some (m * up e * down d) (n * up d) (down d) (down e) D (down_pos d) (down_pos e) w.1)) refl
  where
    some : (k n d p D : ℕ) → 0 < d → 0 < p → n * D ≡ Y * d → 0 < k + n * p
    some k zero d p D a b f = absurd (omega (arith, f, mul-pos h a))
    some k (suc n) d p D a b f = omega arith

module _ (x len : Float) (P L : ℕ) (v : HasValue len false (L * D) D) (r : Turned x P) where
  pub all_in : P + 45 ≤ L → le (rem_euclid360 x) len ≡ true
  all_in h = go r.sign r.val
    where
      go : (s : Bool) → HasValue (rem_euclid360 x) s r.parts D → le (rem_euclid360 x) len ≡ true
      go true w = minus-first (rem_euclid360 x) len r.parts (L * D) w v (mul-pos (omega arith) D-pos)
      go false w = holds_true _ (le_of_values (rem_euclid360 x) len r.parts D (L * D) D D-pos D-pos w v (mul-le-mul_right D (le_trans r.high (mul-le-mul_right D h))))

  pub none_in : L < P → le (rem_euclid360 x) len ≡ false
  none_in h = go r.sign r.val r.none
    where
      more : (L P n D : ℕ) → 0 < D → L < P → P * D ≤ n → L * D < n
      more L P n D d l k = omega (arith, mul-lt-mul_of_pos_right l d)

      go : (s : Bool) → HasValue (rem_euclid360 x) s r.parts D → (s ≡ true → r.parts ≡ 0) → le (rem_euclid360 x) len ≡ false
      go true w f = let z = f refl in absurd (omega (arith, more L P r.parts D D-pos h r.low))
      go false w f =
          no_truth _ (λ t.
          let k : r.parts ≤ L * D = le_of_mul-le-mul_right {k = D} (values (rem_euclid360 x) len r.parts D (L * D) D w v t) D-pos in
          absurd (omega (arith, more L P r.parts D D-pos h r.low)))
