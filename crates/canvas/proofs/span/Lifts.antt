-- Signed numbers of 32 bits: wider, above the least one, and back.
use Rattle.std.proofs.Common.{◌≡◌, ℕ, ◌+◌, ◌-◌, ◌%◌, ◌^◌, ◌<◌, ◌≤◌, ℤ, pos, negsuc, refl, ap, ◌∙◌, arith, w32, w64, SFits, to_z, of_z, le-ltb, lt-ltb}
use mir.ValLaws.{to_z-of_z}
use Rattle.canvas.specs.Walk.{lifted, lowered}

pub wider : (z : ℤ) → SFits w32 z → SFits w64 z
wider (pos n) h = record { sfits = omega arith }
wider (negsuc n) h = record { sfits = omega arith }

around : (z : ℤ) → SFits w32 z → (2147483648 + of_z w64 z) % 2 ^ 64 ≡ lifted z
unfolding lifted
around (pos n) h = omega arith
around (negsuc n) h = omega arith

pub lifted-lt : (z : ℤ) → SFits w32 z → lifted z < 4294967296
unfolding lifted
lifted-lt (pos n) h = omega arith
lifted-lt (negsuc n) h = omega arith

-- what `lift` adds arrives through the types of 64 bits
pub raised_is : (z : ℤ) → SFits w32 z → (2147483648 + of_z w64 (to_z w64 (of_z w64 (to_z w32 (of_z w32 z))))) % 2 ^ 64 ≡ lifted z
raised_is z h = rw (to_z-of_z w32 z h, to_z-of_z w64 z (wider z h)) (around z h)

pub lower_lift : (x : ℤ) → SFits w32 x → lowered (lifted x) ≡ x
unfolding lowered lifted
lower_lift (pos m) s = rw (le-ltb (2147483648 + m) 2147483648 (omega arith)) (ap pos (omega arith))
lower_lift (negsuc m) s = rw (lt-ltb (2147483647 - m) 2147483648 (omega arith)) (ap negsuc (omega arith))

-- what `lift` answers; a signed argument reaches a callee as `to_z w (of_z w x)`
pub lift_is : (x : ℤ) (u : ℕ) → SFits w32 x → u ≡ lifted (to_z w32 (of_z w32 x)) → u ≡ lifted x
lift_is x u s e = rw (to_z-of_z w32 x s) at e

pub lowers : (x : ℤ) (u : ℕ) → SFits w32 x → u ≡ lifted (to_z w32 (of_z w32 x)) → lowered u ≡ x
lowers x u s e = ap lowered (lift_is x u s e) ∙ lower_lift x s

pub lift_lt : (x : ℤ) (u : ℕ) → SFits w32 x → u ≡ lifted (to_z w32 (of_z w32 x)) → u < 4294967296
lift_lt x u s e = rw (lift_is x u s e) (lifted-lt x s)

pub lift_below : (x : ℤ) (u : ℕ) → SFits w32 x → u ≡ lifted (to_z w32 (of_z w32 x)) → u < 17179869184
lift_below x u s e = omega (arith, lift_lt x u s e)

-- a lifted number below the zero, and one that is not
pub lowered-neg : (p : ℕ) → p < 2147483648 → lowered p ≡ negsuc (2147483647 - p)
unfolding lowered
lowered-neg p h = rw (lt-ltb p 2147483648 h) (ap negsuc (omega arith))

pub lowered_pos : (p : ℕ) → 2147483648 ≤ p → lowered p ≡ pos (p - 2147483648)
unfolding lowered
lowered_pos p h = rw (le-ltb p 2147483648 h) refl
