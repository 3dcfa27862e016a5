-- Two tests in one: of the bits of two numbers together, of a tail that wraps around below 0, and of a rule that does.
use Rattle.std.proofs.Common.{◌≡◌, ℕ, ◌+◌, ◌%◌, ◌<◌, ◌≤◌, Bool, true, false, not, ◌||◌, eqb, ltb, refl, arith, ltb-false, ltb-true, le-ltb, lt-ltb, eqb-true}
use borrow.Author.Tests.{eqb-false}
use lib.Bits.{bit_or, or_lt, or_add_and, and_le_l, and_le_r}

either_is : (a b : ℕ) (p q : Bool) → ltb 32767 a ≡ p → ltb 32767 b ≡ q → ltb 32767 (bit_or a b) ≡ (p || q)
either_is a b true q ea eb = lt-ltb 32767 (bit_or a b) (omega (arith, ltb-true 32767 a ea, or_add_and a b, and_le_r a b))
either_is a b false true ea eb = lt-ltb 32767 (bit_or a b) (omega (arith, ltb-true 32767 b eb, or_add_and a b, and_le_l a b))
either_is a b false false ea eb = le-ltb 32767 (bit_or a b) (omega (arith, or_lt 15 a b (omega (arith, ltb-false 32767 a ea)) (omega (arith, ltb-false 32767 b eb))))

pub either_large : (a b : ℕ) → ltb 32767 (bit_or a b) ≡ (ltb 32767 a || ltb 32767 b)
either_large a b = either_is a b (ltb 32767 a) (ltb 32767 b) refl refl

pub unruly_is :
    (rule less : ℕ) → less < 4294967296 → rule < 4294967296 → (less + 1) % 4294967296 ≡ rule → ltb 1 less ≡ not (eqb rule 1 || eqb rule 2)
unruly_is rule less ll lr e = go (eqb rule 1) (eqb rule 2) refl refl
  where
    go : (p q : Bool) → eqb rule 1 ≡ p → eqb rule 2 ≡ q → ltb 1 less ≡ not (p || q)
    go true q ep eq = le-ltb 1 less (omega (arith, eqb-true rule 1 ep))
    go false true ep eq = le-ltb 1 less (omega (arith, eqb-true rule 2 eq))
    go false false ep eq = lt-ltb 1 less (other (eqb-false rule 1 ep) (eqb-false rule 2 eq))
      where
        other : (rule ≡ 1 → ⊥) → (rule ≡ 2 → ⊥) → 1 < less
        other n m = omega arith

module _ (row width tail : ℕ) (lt : tail < 4294967296) (lr : row < 4294967296) (e : (tail + width) % 4294967296 ≡ row) (lw : width ≤ 32767) where
  off_is : (p q : Bool) → ltb 32767 row ≡ p → ltb row width ≡ q → (p || ltb 32767 tail) ≡ (q || p)
  off_is true true ep eq = refl
  off_is true false ep eq = refl
  off_is false true ep eq = lt-ltb 32767 tail (omega (arith, ltb-true row width eq))
  off_is false false ep eq = le-ltb 32767 tail (omega (arith, ltb-false 32767 row ep, ltb-false row width eq))

  pub wraps_off : (ltb 32767 row || ltb 32767 tail) ≡ (ltb row width || ltb 32767 row)
  wraps_off = off_is (ltb 32767 row) (ltb row width) refl refl
