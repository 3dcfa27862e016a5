-- XOR of numbers undoes itself and heeds no order, since it is associative digit by digit.
use mathlib.Core.Path.{◌≡◌, refl, sym, ap, ap₂, ◌∙◌}
use Prim.Native.Nat.{ℕ, zero, suc, ◌+◌, ◌*◌, ◌/◌, ◌%◌, ◌<◌}
use native.Mathlib.Omega.{arith}
use lib.Arith.{bin_ind}
use lib.Bits.{bit_xor, differ, xor_step, xor_shr, xor_comm, xor_self, xor_zero_r}

digit_assoc : (x y z : ℕ) → x < 2 → y < 2 → z < 2 → differ (differ x y) z ≡ differ x (differ y z)
digit_assoc zero y z hx hy hz = refl
digit_assoc (suc zero) zero z hx hy hz = refl
digit_assoc (suc zero) (suc zero) zero hx hy hz = refl
digit_assoc (suc zero) (suc zero) (suc zero) hx hy hz = refl
digit_assoc (suc zero) (suc zero) (suc (suc z)) hx hy hz = absurd (omega arith)
digit_assoc (suc zero) (suc (suc y)) z hx hy hz = absurd (omega arith)
digit_assoc (suc (suc x)) y z hx hy hz = absurd (omega arith)

digit_lt : (x y : ℕ) → x < 2 → y < 2 → differ x y < 2
digit_lt zero y hx hy = hy
digit_lt (suc zero) zero hx hy = hx
digit_lt (suc zero) (suc zero) hx hy = omega arith
digit_lt (suc zero) (suc (suc y)) hx hy = absurd (omega arith)
digit_lt (suc (suc x)) y hx hy = absurd (omega arith)

last_digit : (a b : ℕ) → bit_xor a b % 2 ≡ differ (a % 2) (b % 2)
last_digit a b =
    ap (λ (x : ℕ). x % 2) (xor_step a b) ∙ omega (arith, digit_lt (a % 2) (b % 2) (omega arith) (omega arith))

pub xor_assoc : (a b c : ℕ) → bit_xor (bit_xor a b) c ≡ bit_xor a (bit_xor b c)
xor_assoc =
    bin_ind (λ (a : ℕ). (b c : ℕ) → bit_xor (bit_xor a b) c ≡ bit_xor a (bit_xor b c))
    (λ b c. refl)
    (λ a ih b c.
    xor_step (bit_xor a b) c
    ∙ ap₂ (λ (x y : ℕ). x * 2 + y)
    (ap (λ (x : ℕ). bit_xor x (c / 2)) (xor_shr a b 1) ∙ ih (b / 2) (c / 2) ∙ ap (bit_xor (a / 2)) (sym (xor_shr b c 1)))
    (ap (λ (x : ℕ). differ x (c % 2)) (last_digit a b)
    ∙ digit_assoc (a % 2) (b % 2) (c % 2) (omega arith) (omega arith) (omega arith)
    ∙ ap (differ (a % 2)) (sym (last_digit b c)))
    ∙ sym (xor_step a (bit_xor b c)))

pub xor_swap : (w j k : ℕ) → bit_xor (bit_xor w j) k ≡ bit_xor (bit_xor w k) j
xor_swap w j k = xor_assoc w j k ∙ ap (bit_xor w) (xor_comm j k) ∙ sym (xor_assoc w k j)

pub xor_back : (w k : ℕ) → bit_xor (bit_xor w k) k ≡ w
xor_back w k = xor_assoc w k k ∙ ap (bit_xor w) (xor_self k) ∙ xor_zero_r w
