-- The whole number closest to a fraction is within half of one. Assumes nothing.
use Rattle.std.proofs.Common.{◌≡◌, ℕ, ◌+◌, ◌*◌, ◌/◌, ◌%◌, ◌<◌, ◌≤◌, not, T, eqb, subst, mul-le-mul_right, mod-lt, div-add-mod', arith, eqb→eq, leb→le}
use Prim.Native.Nat.{compare, Ordering}
use lib.Dec.{is_le, compare_is_eq, nleb→lt, eqb_refl}
use lib.Arith.{lt_of_le-ne}
use lib.Ieee.{nearest}
use lib.Ieee.Nearest.{closest}

abbrev Cmp : Ordering → ℕ → ℕ → Type 0
Cmp Ordering.lt a b = a < b
Cmp Ordering.eq a b = a ≡ b
Cmp Ordering.gt a b = b < a

cmp : (a b : ℕ) → Cmp (compare a b) a b
cmp a b = go (compare a b) (leb→le a b) (nleb→lt a b) (eqb→eq a b) (λ (e : a ≡ b). subst (λ (x : ℕ). T (eqb a x)) e (eqb_refl a))
  where
    go : (o : Ordering) → (T (is_le o) → a ≤ b) → (T (not (is_le o)) → b < a) → (T (compare_is_eq o) → a ≡ b) → (a ≡ b → T (compare_is_eq o)) → Cmp o a b
    go Ordering.lt h k e n = lt_of_le-ne (h tt) n
    go Ordering.eq h k e n = e tt
    go Ordering.gt h k e n = k tt

-- twice the distance of x and y is at most b
abbrev pub Within : ℕ → ℕ → ℕ → Type 0
Within x y b = (x * 2 ≤ y * 2 + b) × (y * 2 ≤ x * 2 + b)

nearest_within : (w r b : ℕ) (o : Ordering) → Cmp o (r * 2) b → r < b → Within (nearest w o * b) (w * b + r) b
nearest_within w r b Ordering.lt c h = (omega arith, omega arith)
nearest_within w r b Ordering.eq c h =
    let m : w % 2 ≤ 1 = omega arith in
    (omega (arith, mul-le-mul_right b m), omega (arith, mul-le-mul_right b m))
nearest_within w r b Ordering.gt c h = (omega arith, omega arith)

pub closest_within : (a b : ℕ) → 0 < b → Within (closest a b * b) a b
closest_within a b B =
    subst (λ (x : ℕ). Within (closest a b * b) x b) (div-add-mod' a b)
    (nearest_within (a / b) (a % b) b (compare (a % b * 2) b) (cmp (a % b * 2) b) (mod-lt a B))

-- the same with a larger allowance
pub wider : (x y b c : ℕ) → b ≤ c → Within x y b → Within x y c
wider x y b c h w = (omega (arith, w.0), omega (arith, w.1))
