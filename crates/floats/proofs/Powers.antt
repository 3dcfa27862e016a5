-- A float times a power of two is exact, where it is not too large: its digits stay the same. And the whole part of a
-- float of known value. For any format. Assumes nothing.
use Rattle.std.proofs.Common.{◌≡◌, ℕ, zero, suc, ◌+◌, ◌-◌, ◌*◌, ◌/◌, ◌%◌, ◌^◌, ◌<◌, ◌≤◌, min, Bool, true, false, not, ◌&&◌, T, eqb, ltb, leb, ◌⊎◌, ℤ, pos, negsuc, sym, refl, ap, ◌∙◌, subst, inl, inr, le_trans, le_of_eq, lt_of_lt_of_le, lt_of_le_of_lt, le_of_lt, lt_irrefl, mul-le-mul_right, mul_assoc, div-lt_iff_lt-mul, lt_of_mul-lt-mul_right, mul-lt-mul_of_pos_right, mul-pos, one-mul, lt_of_not-le, mul-one, mul_right_comm, arith, lit<, eqb→eq, ltb→lt, lt→ltb, leb→le, pow_pos, pow_mono, pow-add}
use lib.Dec.{nleb→lt}
use lib.Pow.{pow-lt}
use lib.Ieee.{Float, nan, inf, fin, Format, binary32, prec, emax, low, up, down, round, mul, of_int, lt, fits, to_unsigned, unlike}
use lib.Ieee.Fits.{up_pos, down_pos, and_l, and_r}
use lib.Ieee.Exact.{HasValue, round_exact}
use lib.Ieee.Back.{round_whole}
use lib.Ieee.Nearest.{div_same}
use Rattle.std.proofs.num.Truncating.{minus_one, two_to}

-- ---- what a format that holds a number tells of it
told : (f : Format) (s : Bool) (m : ℕ) (e : ℤ) → T (fits f (fin s (suc m) e)) → (suc m < 2 ^ prec f) × (down e ≤ 2 ^ low f) × (suc m * up e < 2 ^ suc (emax f) * down e)
unfolding fits
told f s m e t =
    let a = eqb (suc m % 2) 1 in
    let b = ltb (suc m) (2 ^ prec f) in
    let c = leb (down e) (2 ^ low f) in
    let d = ltb (suc m * up e) (2 ^ suc (emax f) * down e) in
    let u = and_l (a && b && c) d t in (
      ltb→lt (suc m) (2 ^ prec f) (and_r a b (and_l (a && b) c u)),
      leb→le (down e) (2 ^ low f) (and_r (a && b) c u),
      ltb→lt (suc m * up e) (2 ^ suc (emax f) * down e) (and_r (a && b && c) d t),
    )

pub few : (f : Format) (s : Bool) (m : ℕ) (e : ℤ) → T (fits f (fin s m e)) → m < 2 ^ prec f
few f s zero e t = pow_pos (prec f)
few f s (suc m) e t = (told f s m e t).0

one_at_most : (a b : ℕ) → 0 < a → a * b ≡ 1 → b ≤ 1
one_at_most a b h e = le_trans (le_trans (le_of_eq (sym (one-mul b))) (mul-le-mul_right b h)) (le_of_eq e)

pub shallow : (f : Format) (s : Bool) (m : ℕ) (e : ℤ) → T (fits f (fin s m e)) → down e ≤ 2 ^ low f
unfolding fits
shallow f s zero e t = le_trans (one_at_most (up e) (down e) (up_pos e) (eqb→eq (up e * down e) 1 t)) (pow_pos (low f))
shallow f s (suc m) e t = (told f s m e t).1

pub bounded : (f : Format) (s : Bool) (m : ℕ) (e : ℤ) → T (fits f (fin s m e)) → m * up e < 2 ^ suc (emax f) * down e
bounded f s zero e t = none (up e) (2 ^ suc (emax f) * down e) (mul-pos (pow_pos (suc (emax f))) (down_pos e))
  where
    none : (u d : ℕ) → 0 < d → 0 * u < d
    none u d h = omega arith
bounded f s (suc m) e t = (told f s m e t).2

pub without_sign : (f : Format) (s : Bool) (m : ℕ) (e : ℤ) → T (fits f (fin s m e)) → T (fits f (fin false m e))
unfolding fits
without_sign f s zero e t = t
without_sign f s (suc m) e t = t

-- ---- m * up e * 2 ^ j in the format's smallest values is m * 2 ^ i, for some i
pow_le_back : (i p : ℕ) → 2 ^ i ≤ 2 ^ p → i ≤ p
pow_le_back i p h = go (lt_of_not-le (λ (g : suc p ≤ i). lt_irrefl (2 ^ p) (lt_of_lt_of_le (pow-lt g) h)))
  where
    go : i < suc p → i ≤ p
    go k = omega arith

shift : (l m j : ℕ) (e : ℤ) → down e ≤ 2 ^ l → (i : ℕ) × (m * up e * (1 * 2 ^ j) * 2 ^ l ≡ m * 2 ^ i * (down e * 1))
shift l m j (pos k) h = (
  k + j + l,
  ap (λ (x : ℕ). m * 2 ^ k * x * 2 ^ l) (one-mul (2 ^ j))
      ∙ mul_assoc (m * 2 ^ k) (2 ^ j) (2 ^ l)
      ∙ mul_assoc m (2 ^ k) (2 ^ j * 2 ^ l)
      ∙ ap (λ (x : ℕ). m * x) (sym (mul_assoc (2 ^ k) (2 ^ j) (2 ^ l)) ∙ ap (λ (x : ℕ). x * 2 ^ l) (sym (pow-add 2 k j)) ∙ sym (pow-add 2 (k + j) l))
      ∙ sym (mul-one (m * 2 ^ (k + j + l))),
)
shift l m j (negsuc k) h =
    let g : suc k ≤ l = pow_le_back (suc k) l h in
    let i = j + (l - suc k) in
    let back : l - suc k + suc k ≡ l = omega arith in
    let e : 2 ^ j * 2 ^ l ≡ 2 ^ i * 2 ^ suc k =
    ap (λ (x : ℕ). 2 ^ j * 2 ^ x) (sym back) ∙ ap (λ (x : ℕ). 2 ^ j * x) (pow-add 2 (l - suc k) (suc k)) ∙ sym (mul_assoc (2 ^ j) (2 ^ (l - suc k)) (2 ^ suc k)) ∙ ap (λ (x : ℕ). x * 2 ^ suc k) (sym (pow-add 2 j (l - suc k))) in (
      i,
      ap (λ (x : ℕ). x * (1 * 2 ^ j) * 2 ^ l) (mul-one m)
          ∙ ap (λ (x : ℕ). m * x * 2 ^ l) (one-mul (2 ^ j))
          ∙ mul_assoc m (2 ^ j) (2 ^ l)
          ∙ ap (λ (x : ℕ). m * x) e
          ∙ sym (mul_assoc m (2 ^ i) (2 ^ suc k))
          ∙ ap (λ (x : ℕ). m * 2 ^ i * x) (sym (mul-one (2 ^ suc k))),
    )

-- an f32 of a / d is a whole number of 2 ^ -l, or below 2 ^ -j
pub on_grid : (l j : ℕ) (s : Bool) (m : ℕ) (e : ℤ) → 24 + j ≡ suc l → T (fits binary32 (fin s m e)) → ((c : ℕ) × (m * up e * 2 ^ l ≡ c * down e)) ⊎ (m * up e * 2 ^ j < down e)
on_grid l j s m e i f = go (leb (down e) (2 ^ l)) (leb→le (down e) (2 ^ l)) (nleb→lt (down e) (2 ^ l))
  where
    deep : (e : ℤ) → T (fits binary32 (fin s m e)) → 2 ^ l < down e → m * up e * 2 ^ j < down e
    deep (pos k) f h = absurd (lt_irrefl 1 (lt_of_le_of_lt (pow_pos l) h))
    deep (negsuc k) f h =
        lt_of_lt_of_le (mul-lt-mul_of_pos_right (subst (λ (x : ℕ). x < 2 ^ 24) (sym (mul-one m)) (few binary32 s m (negsuc k) f)) (pow_pos j))
        (le_trans (le_of_eq (sym (pow-add 2 24 j) ∙ ap (λ (x : ℕ). 2 ^ x) i)) (pow_mono (lt_of_not-le (λ (g : suc k ≤ l). lt_irrefl (2 ^ l) (lt_of_lt_of_le h (pow_mono g))))))

    go : (b : Bool) → (T b → down e ≤ 2 ^ l) → (T (not b) → 2 ^ l < down e) → ((c : ℕ) × (m * up e * 2 ^ l ≡ c * down e)) ⊎ (m * up e * 2 ^ j < down e)
    go true g h = let z = shift l m 0 e (g tt) in inl (m * 2 ^ z.0, ap (λ (x : ℕ). x * 2 ^ l) (sym (mul-one (m * up e))) ∙ z.1 ∙ ap (λ (x : ℕ). m * 2 ^ z.0 * x) (mul-one (down e)))
    go false g h = inr (deep e f (h tt))

-- and stays below the largest ones
room : (n d j l q b : ℕ) → 0 < d → n < 2 ^ 63 * d → 63 + j ≤ b → n * (1 * 2 ^ j) * 2 ^ l ≡ q * (d * 1) → q < 2 ^ (l + b)
room n d j l q b D h k e =
    lt_of_mul-lt-mul_right d
    (lt_of_le_of_lt (le_of_eq (ap (λ (x : ℕ). q * x) (sym (mul-one d)) ∙ sym e ∙ ap (λ (x : ℕ). n * x * 2 ^ l) (one-mul (2 ^ j)) ∙ mul_assoc n (2 ^ j) (2 ^ l)))
    (lt_of_lt_of_le (mul-lt-mul_of_pos_right h (mul-pos (pow_pos j) (pow_pos l)))
    (le_trans (le_of_eq (mul_right_comm (2 ^ 63) d (2 ^ j * 2 ^ l)))
    (mul-le-mul_right d (le_trans (le_of_eq (sym (mul_assoc (2 ^ 63) (2 ^ j) (2 ^ l)) ∙ ap (λ (x : ℕ). x * 2 ^ l) (sym (pow-add 2 63 j)) ∙ sym (pow-add 2 (63 + j) l) ∙ ap (λ (x : ℕ). 2 ^ x) (swap (63 + j) l))) (pow_mono (more (63 + j) b l k)))))))
  where
    swap : (a c : ℕ) → a + c ≡ c + a
    swap a c = omega arith

    more : (a c l : ℕ) → a ≤ c → l + a ≤ l + c
    more a c l g = omega arith

pub like : (s : Bool) → unlike s false ≡ s
like true = refl
like false = refl

pub times_pow : (f : Format) (j : ℕ) (s : Bool) (m : ℕ) (e : ℤ) → T (fits f (fin s m e)) → m * up e < 2 ^ 63 * down e → 63 + j ≤ suc (emax f)
    → HasValue (mul f (fin s m e) (two_to j)) s (m * up e * (1 * 2 ^ j)) (down e * 1)
unfolding mul
times_pow f j s m e t h k =
    let z = shift (low f) m j e (shallow f s m e t) in
    let D : 0 < down e * 1 = mul-pos (down_pos e) (lit< tt) in
    subst (λ (b : Bool). HasValue (round f (unlike s false) (m * up e * (1 * 2 ^ j)) (down e * 1)) b (m * up e * (1 * 2 ^ j)) (down e * 1)) (like s)
    (round_exact f (unlike s false) (m * up e * (1 * 2 ^ j)) (down e * 1) m z.0 D (few f s m e t) (room (m * up e) (down e) j (low f) (m * 2 ^ z.0) (suc (emax f)) (down_pos e) h k z.1) z.1)

-- ---- a whole number that an f32 holds
pub of_int_lem : (n : ℕ) → n < 0x100_0000 → HasValue (of_int binary32 (pos n)) false n 1
unfolding of_int
of_int_lem n h = round_whole binary32 false n (le_of_lt h)

-- ---- the whole part of y, which is a / c and not negative: what `truncating_` asks, and what it gives
abbrev pub Whole : Float → ℕ → ℕ → Type 0
Whole y a c = T (lt minus_one y) × T (lt y (two_to 64)) × (to_unsigned 64 y ≡ a / c)

pub whole : (y : Float) (a c : ℕ) → 0 < c → a < 2 ^ 64 * c → HasValue y false a c → Whole y a c
unfolding lt to_unsigned
whole nan a c C h v = absurd v
whole (inf s) a c C h v = absurd v
whole (fin true m e) a c C h v = absurd (no v.0)
  where
    no : true ≡ false → ⊥
    no p = subst T p tt
whole (fin false m e) a c C h v =
    let n = m * up e in
    let d = down e in
    let D = down_pos e in
    let q : n / d ≡ a / c = div_same n d a c D C v.1 in
    let small : a / c < 2 ^ 64 = (div-lt_iff_lt-mul C).1 h in
    let small' : n < 2 ^ 64 * d = (div-lt_iff_lt-mul D).0 (subst (λ (x : ℕ). x < 2 ^ 64) (sym q) small) in (
      lt→ltb 0 (1 * d + n * 1) (omega arith),
      lt→ltb (n * 1) (1 * 2 ^ 64 * d) (omega arith),
      ap (λ (x : ℕ). min x (2 ^ 64 - 1)) q ∙ cut (a / c) small,
    )
  where
    cut : (x : ℕ) → x < 2 ^ 64 → min x (2 ^ 64 - 1) ≡ x
    cut x g = omega arith
