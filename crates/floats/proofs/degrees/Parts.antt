-- An f32 from 360 on is a whole number of a power of two: that number is exact, and it tells the remainder by 360.
-- Assumes nothing.
use Rattle.std.proofs.Common.{◌≡◌, ℕ, suc, ◌+◌, ◌-◌, ◌*◌, ◌/◌, ◌%◌, ◌^◌, ◌<◌, ◌≤◌, true, false, not, T, ℤ, pos, negsuc, sym, refl, ap, ◌∙◌, subst, le_trans, le_of_eq, lt_of_lt_of_le, le_of_suc-le-suc, lt_of_le_of_lt, mul-le-mul_right, mod-lt, mul_assoc, lt_of_mul-lt-mul_right, mul-le-mul_left, mul-lt-mul_of_pos_right, mul-pos, one-mul, lt_of_not-le, div-add-mod', mul-one, div-one, mul-div_cancel, arith, lit<, lit≤, ltb→lt, nltb→le, T_not, pow_pos, pow_mono, pow-add}
use native.Mathlib.Nat.{le-suc, mul-mod_left, add-mul-mod_self_right}
use lib.Arith.{mod-mul}
use lib.Ieee.{Float, nan, inf, fin, binary32, up, down, round, mul, div, rem, sub, add, neg, of_int, lt, fits, to_unsigned}
use lib.Ieee.Fits.{down_pos}
use lib.Ieee.Exact.{HasValue, round_exact}
use lib.Ieee.Scale.{round_same}
use Rattle.std.proofs.num.Truncating.{minus_one, two_to}
use Rattle.floats.specs.Degrees.{turn}
use Rattle.floats.proofs.Powers.{few, bounded, of_int_lem, Whole, whole}

-- ---- remainders
pub times_mod : (a k c : ℕ) → a % c * k % c ≡ a * k % c
times_mod a k c =
    sym (add-mul-mod_self_right (a % c * k) (a / c * k) c)
    ∙ ap (λ (x : ℕ). x % c) (go (a / c) (a % c))
    ∙ ap (λ (x : ℕ). x * k % c) (div-add-mod' a c)
  where
    go : (q r : ℕ) → r * k + q * k * c ≡ (q * c + r) * k
    go q r = omega arith

mod_times : (a b c : ℕ) → 0 < b → 0 < c → a * c % (b * c) ≡ a % b * c
mod_times a b c B C =
    mod-mul (a * c) B C
    ∙ ap (λ (x : ℕ). x % b * c + a * c % c) (mul-div_cancel a C)
    ∙ ap (λ (x : ℕ). a % b * c + x) (mul-mod_left a c)
    ∙ flat (a % b * c)
  where
    flat : (x : ℕ) → x + 0 ≡ x
    flat x = omega arith

-- n / d is w in 32768ths, and so are their remainders
mod_parts : (n d w : ℕ) → 0 < d → n * 32768 ≡ w * d → n % (360 * d) * 32768 ≡ w % 11796480 * d
mod_parts n d w D h =
    sym (mod_times n (360 * d) 32768 (mul-pos {m = 360} (lit< tt) D) (lit< tt))
    ∙ ap (λ (x : ℕ). x % (360 * d * 32768)) h
    ∙ ap (λ (x : ℕ). w * d % x) (turned d)
    ∙ mod_times w 11796480 d (lit< tt) D
  where
    turned : (d : ℕ) → 360 * d * 32768 ≡ 11796480 * d
    turned d = omega arith

-- ---- the code's last step is the remainder
quotient : (z : Float) (r a c : ℕ) → 0 < c → a * 32768 ≡ r * c → HasValue z false r 1 → div binary32 z (two_to 15) ≡ round binary32 false a c
unfolding div
quotient nan r a c C h v = absurd v
quotient (inf s) r a c C h v = absurd v
quotient (fin true m e) r a c C h v = absurd (no_way v.0)
  where
    no_way : true ≡ false → ⊥
    no_way p = subst T p tt
quotient (fin false m e) r a c C h v =
    round_same binary32 false (m * up e * 1) (1 * 2 ^ 15 * down e) a c (mul-pos {m = 32768} (lit< tt) (down_pos e)) C (cross (m * up e) (down e) v.1)
  where
    cross : (n d : ℕ) → n * 1 ≡ r * d → n * 1 * c ≡ a * (32768 * d)
    cross n d e = omega (arith, ap (λ (x : ℕ). x * c) e, ap (λ (x : ℕ). x * d) h)

from_parts : (m : ℕ) (e : ℤ) (w : ℕ) → m * up e * 32768 ≡ w * down e → div binary32 (of_int binary32 (pos (w % 11796480))) (two_to 15) ≡ rem binary32 (fin false m e) turn
unfolding rem
from_parts m e w h =
    quotient (of_int binary32 (pos (w % 11796480))) (w % 11796480) (m * up e * 1 % (360 * down e)) (down e * 1) (mul-pos (down_pos e) (lit< tt))
    (tidy (m * up e) (down e) (down_pos e) h)
    (of_int_lem (w % 11796480) (low (w % 11796480) (mod-lt w (lit< tt))))
  where
    low : (r : ℕ) → r < 11796480 → r < 0x100_0000
    low r h = omega arith

    tidy : (n d : ℕ) → 0 < d → n * 32768 ≡ w * d → n * 1 % (360 * d) * 32768 ≡ w % 11796480 * (d * 1)
    tidy n d D h = ap (λ (x : ℕ). x % (360 * d) * 32768) (mul-one n) ∙ mod_parts n d w D h ∙ ap (λ (x : ℕ). w % 11796480 * x) (sym (mul-one d))

-- ---- a product or a quotient that is a whole number, below 2 ^ 64, of 24 digits and zeros
abbrev Cut : Float → ℕ → Type 0
Cut z n = T (lt minus_one z) × T (lt z (two_to 64)) × (to_unsigned 64 z ≡ n)

cut : (m i a c : ℕ) → m < 2 ^ 24 → m * 2 ^ i < 2 ^ 64 → 0 < c → a ≡ m * 2 ^ i * c → Cut (round binary32 false a c) (m * 2 ^ i)
cut m i a c M h C e =
    let n = m * 2 ^ i in
    let up' : n * 2 ^ 149 ≡ m * 2 ^ (i + 149) = mul_assoc m (2 ^ i) (2 ^ 149) ∙ ap (λ (x : ℕ). m * x) (sym (pow-add 2 i 149)) in
    let room : m * 2 ^ (i + 149) < 2 ^ (149 + 128) = lt_of_le_of_lt (le_of_eq (sym up')) (lt_of_lt_of_le (mul-lt-mul_of_pos_right h (pow_pos 149)) (lit≤ tt)) in
    let v : HasValue (round binary32 false n 1) false n 1 = round_exact binary32 false n 1 m (i + 149) (lit< tt) M room (up' ∙ sym (mul-one (m * 2 ^ (i + 149)))) in
    let w : Whole (round binary32 false n 1) n 1 = whole (round binary32 false n 1) n 1 (lit< tt) (lt_of_lt_of_le h (lit≤ tt)) v in
    subst (λ (z : Float). Cut z n) (sym (round_same binary32 false a c n 1 C (lit< tt) (mul-one a ∙ e)))
    (w.0, w.1, w.2 ∙ div-one n)

-- what the code does with z, of which y has a known number
abbrev pub Parts : Float → ℕ → Float → Type 0
Parts z k y = T (lt minus_one z) × T (lt z (two_to 64)) × (div binary32 (of_int binary32 (pos (to_unsigned 64 z * k % 11796480))) (two_to 15) ≡ rem binary32 y turn)

parts : (z : Float) (n k w m : ℕ) (e : ℤ) → Cut z n → n * k % 11796480 ≡ w % 11796480 → m * up e * 32768 ≡ w * down e → Parts z k (fin false m e)
parts z n k w m e c h g = (c.0, c.1, ap (λ (x : ℕ). div binary32 (of_int binary32 (pos (x * k % 11796480))) (two_to 15)) c.2 ∙ ap (λ (x : ℕ). div binary32 (of_int binary32 (pos x)) (two_to 15)) h ∙ from_parts m e w g)

-- ---- from 2 ^ 8 to 2 ^ 49
low_fin : (m : ℕ) (e : ℤ) → m < 2 ^ 24 → 360 * down e ≤ m * up e → m * up e < 2 ^ 49 * down e → Parts (mul binary32 (fin false m e) (two_to 15)) 1 (fin false m e)
unfolding mul
low_fin m (pos k) M lo hi =
    let n = m * 2 ^ (k + 15) in
    let is : m * 2 ^ k * 32768 ≡ n = mul_assoc m (2 ^ k) 32768 ∙ ap (λ (x : ℕ). m * x) (sym (pow-add 2 k 15)) in
    parts (round binary32 false (m * 2 ^ k * (1 * 2 ^ 15)) (1 * 1)) n 1 n m (pos k)
    (cut m (k + 15) (m * 2 ^ k * (1 * 2 ^ 15)) (1 * 1) M (small (m * 2 ^ k) n is hi) (lit< tt) (is ∙ sym (mul-one n)))
    (ap (λ (x : ℕ). x % 11796480) (mul-one n))
    (is ∙ sym (mul-one n))
  where
    small : (a n : ℕ) → a * 32768 ≡ n → a < 562949953421312 * 1 → n < 18446744073709551616
    small a n e h = omega arith
low_fin m (negsuc k) M lo hi =
    let g : suc k < 16 = lt_of_not-le (λ (l : 16 ≤ suc k). over (2 ^ suc k) lo (pow_mono l)) in
    let i = 15 - suc k in
    let n = m * 2 ^ i in
    let back : i + suc k ≡ 15 = omega arith in
    let is : m * 1 * 32768 ≡ n * 2 ^ suc k =
    ap (λ (x : ℕ). x * 32768) (mul-one m) ∙ ap (λ (x : ℕ). m * 2 ^ x) (sym back) ∙ ap (λ (x : ℕ). m * x) (pow-add 2 i (suc k)) ∙ sym (mul_assoc m (2 ^ i) (2 ^ suc k)) in
    parts (round binary32 false (m * 1 * (1 * 2 ^ 15)) (2 ^ suc k * 1)) n 1 n m (negsuc k)
    (cut m i (m * 1 * (1 * 2 ^ 15)) (2 ^ suc k * 1) M (small n (2 ^ suc k) is (pow_pos (suc k)) hi) (mul-pos (pow_pos (suc k)) (lit< tt)) (is ∙ ap (λ (x : ℕ). n * x) (sym (mul-one (2 ^ suc k)))))
    (ap (λ (x : ℕ). x % 11796480) (mul-one n))
    is
  where
    over : (d : ℕ) → 360 * d ≤ m * 1 → 65536 ≤ d → ⊥
    over d h l = omega (arith, M)

    small : (n d : ℕ) → m * 1 * 32768 ≡ n * d → 0 < d → m * 1 < 562949953421312 * d → n < 18446744073709551616
    small n d e D h = lt_of_mul-lt-mul_right d (omega (arith, e, h))

-- ---- from 2 ^ (j + 24) to 2 ^ (j + 64)
big_pos : (j k m i : ℕ) → m < 2 ^ 24 → m * 2 ^ i < 2 ^ 64 → m * 2 ^ i * k % 11796480 ≡ m * 2 ^ i * 2 ^ (j + 15) % 11796480
    → Parts (div binary32 (fin false m (pos (i + j))) (two_to j)) k (fin false m (pos (i + j)))
unfolding div
big_pos j k m i M h g =
    let n = m * 2 ^ i in
    let is : m * 2 ^ (i + j) ≡ n * 2 ^ j = ap (λ (x : ℕ). m * x) (pow-add 2 i j) ∙ sym (mul_assoc m (2 ^ i) (2 ^ j)) in
    let den : 1 * 2 ^ j * 1 ≡ 2 ^ j = mul-one (1 * 2 ^ j) ∙ one-mul (2 ^ j) in
    parts (round binary32 false (m * 2 ^ (i + j) * 1) (1 * 2 ^ j * 1)) n k (n * 2 ^ (j + 15)) m (pos (i + j))
    (cut m i (m * 2 ^ (i + j) * 1) (1 * 2 ^ j * 1) M h (mul-pos (mul-pos {m = 1} (lit< tt) (pow_pos j)) (lit< tt)) (mul-one (m * 2 ^ (i + j)) ∙ is ∙ ap (λ (x : ℕ). n * x) (sym den)))
    g
    (ap (λ (x : ℕ). x * 32768) is ∙ mul_assoc n (2 ^ j) 32768 ∙ ap (λ (x : ℕ). n * x) (sym (pow-add 2 j 15)) ∙ sym (mul-one (n * 2 ^ (j + 15))))

big_fin : (j k m : ℕ) (e : ℤ) → m < 2 ^ 24 → 2 ^ (24 + j) * down e ≤ m * up e → m * up e < 2 ^ (64 + j) * down e → ((n : ℕ) → n * k % 11796480 ≡ n * 2 ^ (j + 15) % 11796480)
    → Parts (div binary32 (fin false m e) (two_to j)) k (fin false m e)
big_fin j k m (negsuc i) M lo hi g = absurd (none (2 ^ suc i) (2 ^ (24 + j)) (pow_pos (suc i)) (pow_mono (low j)) lo)
  where
    low : (j : ℕ) → 24 ≤ 24 + j
    low j = omega arith

    none : (d p : ℕ) → 0 < d → 16777216 ≤ p → p * d ≤ m * 1 → ⊥
    none d p D P h = omega (arith, M, mul-le-mul_right d P)
big_fin j k m (pos l) M lo hi g =
    let i = l - j in
    let more : j ≤ l = le_of_suc-le-suc (lt_of_not-le (λ (h : suc l ≤ j). over (2 ^ l) (2 ^ j) (2 ^ (24 + j)) (pow_pos j) (pow_mono (le_trans (le-suc l) h)) (pow-add 2 24 j) lo)) in
    let back : i + j ≡ l = omega arith in
    let is : m * 2 ^ l ≡ m * 2 ^ i * 2 ^ j = ap (λ (x : ℕ). m * 2 ^ x) (sym back) ∙ ap (λ (x : ℕ). m * x) (pow-add 2 i j) ∙ sym (mul_assoc m (2 ^ i) (2 ^ j)) in
    let small : m * 2 ^ i < 2 ^ 64 = lt_of_mul-lt-mul_right (2 ^ j) (lt_of_le_of_lt (le_of_eq (sym is)) (lt_of_lt_of_le hi (le_of_eq (mul-one (2 ^ (64 + j)) ∙ pow-add 2 64 j)))) in
    subst (λ (x : ℕ). Parts (div binary32 (fin false m (pos x)) (two_to j)) k (fin false m (pos x))) back (big_pos j k m i M small (g (m * 2 ^ i)))
  where
    over : (x y p : ℕ) → 0 < y → x ≤ y → p ≡ 16777216 * y → p * 1 ≤ m * x → ⊥
    over x y p Y h e lo = omega (arith, mul-le-mul_left m h, mul-lt-mul_of_pos_right M Y)

-- ---- the three bands of the code, and what is above them
pub low_band : (y : Float) → T (fits binary32 y) → T (not (lt y turn)) → T (lt y (two_to 49)) → Parts (mul binary32 y (two_to 15)) 1 y
unfolding lt
low_band nan f a b = absurd b
low_band (inf true) f a b = absurd a
low_band (inf false) f a b = absurd b
low_band (fin true m e) f a b = absurd (none (m * up e) (down e) (down_pos e) (nltb→le 0 (m * up e * 1 + 45 * 8 * down e) a))
  where
    none : (n d : ℕ) → 0 < d → n * 1 + 360 * d ≤ 0 → ⊥
    none n d D h = omega arith
low_band (fin false m e) f a b = low_fin m e (few binary32 false m e f) (lo (m * up e) (down e) (nltb→le (m * up e * 1) (45 * 8 * down e) a)) (hi (m * up e) (down e) (ltb→lt (m * up e * 1) (1 * 2 ^ 49 * down e) b))
  where
    lo : (n d : ℕ) → 360 * d ≤ n * 1 → 360 * d ≤ n
    lo n d h = omega arith

    hi : (n d : ℕ) → n * 1 < 562949953421312 * d → n < 562949953421312 * d
    hi n d h = omega arith

-- a finite one that is not below 2 ^ (24 + j)
not_below : (p m : ℕ) (e : ℤ) → T (not (lt (fin false m e) (two_to p))) → 2 ^ p * down e ≤ m * up e
unfolding lt
not_below p m e a = tidy (m * up e) (down e) (2 ^ p) (nltb→le (m * up e * 1) (1 * 2 ^ p * down e) a)
  where
    tidy : (n d c : ℕ) → 1 * c * d ≤ n * 1 → c * d ≤ n
    tidy n d c h = omega arith

not_negative : (p m : ℕ) (e : ℤ) → T (not (lt (fin true m e) (two_to p))) → ⊥
unfolding lt
not_negative p m e a = none (m * up e) (1 * 2 ^ p * down e) (mul-pos (mul-pos {m = 1} (lit< tt) (pow_pos p)) (down_pos e)) (nltb→le 0 (m * up e * 1 + 1 * 2 ^ p * down e) a)
  where
    none : (n d : ℕ) → 0 < d → n * 1 + d ≤ 0 → ⊥
    none n d D h = omega arith

mid_power : (n : ℕ) → n * 8912896 % 11796480 ≡ n * 2 ^ (25 + 15) % 11796480
mid_power n = sym (add-mul-mod_self_right (n * 8912896) (n * 93206) 11796480) ∙ ap (λ (x : ℕ). x % 11796480) (same n)
  where
    same : (n : ℕ) → n * 8912896 + n * 93206 * 11796480 ≡ n * 1099511627776
    same n = omega arith

top_power : (n : ℕ) → n * 1048576 % 11796480 ≡ n * 2 ^ (65 + 15) % 11796480
top_power n = sym (add-mul-mod_self_right (n * 1048576) (n * 102481911520608620) 11796480) ∙ ap (λ (x : ℕ). x % 11796480) (same n)
  where
    same : (n : ℕ) → n * 1048576 + n * 102481911520608620 * 11796480 ≡ n * 1208925819614629174706176
    same n = omega arith

pub mid_band : (y : Float) → T (fits binary32 y) → T (not (lt y (two_to 49))) → T (lt y (two_to 89)) → Parts (div binary32 y (two_to 25)) 8912896 y
unfolding lt
mid_band nan f a b = absurd b
mid_band (inf true) f a b = absurd a
mid_band (inf false) f a b = absurd b
mid_band (fin true m e) f a b = absurd (not_negative 49 m e a)
mid_band (fin false m e) f a b = big_fin 25 8912896 m e (few binary32 false m e f) (not_below 49 m e a) (hi (m * up e) (down e) (ltb→lt (m * up e * 1) (1 * 2 ^ 89 * down e) b)) mid_power
  where
    hi : (n d : ℕ) → n * 1 < 618970019642690137449562112 * d → n < 618970019642690137449562112 * d
    hi n d h = omega arith

top_fin : (m : ℕ) (e : ℤ) → T (fits binary32 (fin false m e)) → T (not (lt (fin false m e) (two_to 89))) → Parts (div binary32 (fin false m e) (two_to 65)) 1048576 (fin false m e)
top_fin m e f a =
    let wide : 2 ^ 128 ≤ 2 ^ 129 = lit≤ tt in
    big_fin 65 1048576 m e (few binary32 false m e f) (not_below 89 m e a) (lt_of_lt_of_le (bounded binary32 false m e f) (mul-le-mul_right (down e) wide)) top_power

pub top_band : (y : Float) → T (fits binary32 y) → T (not (lt y (two_to 89))) → T (lt (div binary32 y (two_to 65)) (two_to 64)) → Parts (div binary32 y (two_to 65)) 1048576 y
unfolding lt div
top_band nan f a b = absurd b
top_band (inf true) f a b = absurd a
top_band (inf false) f a b = absurd b
top_band (fin true m e) f a b = absurd (not_negative 89 m e a)
top_band (fin false m e) f a b = top_fin m e f a

pub no_band : (y : Float) → T (fits binary32 y) → T (not (lt y (two_to 89))) → T (not (lt (div binary32 y (two_to 65)) (two_to 64))) → sub binary32 y y ≡ rem binary32 y turn
unfolding lt div sub add neg rem
no_band nan f a b = refl
no_band (inf true) f a b = absurd a
no_band (inf false) f a b = refl
no_band (fin true m e) f a b = absurd (not_negative 89 m e a)
no_band (fin false m e) f a b = absurd (T_not (lt (div binary32 (fin false m e) (two_to 65)) (two_to 64)) b (top_fin m e f a).1)
