-- `steps` meets its contract: the number is held between the two. Assumes nothing.
use Rattle.std.proofs.Common.{◌≡◌, ℕ, ◌+◌, ◌-◌, ◌*◌, ◌/◌, ◌≤◌, min, max, true, false, arith, lit≤}
use native.Mathlib.Nat.{min-le_right}
use lib.Ieee.{Float, nan, inf, fin, up, down, binary32, mul, of_bits}
use Rattle.floats.specs.Size.{one, abs_of, max_of}
use Rattle.floats.specs.Whole.{ceil_size}
use Rattle.curves.specs.declared.oval.Oval.{Oval}
use Rattle.curves.specs.Strokes.{stroke_radius, steps_of}
use Rattle.curves.proofs.strokes.steps.Goals as goal

ceil_most : (x : Float) → ceil_size x ≤ 0x7fff_ffff_ffff_ffff
unfolding ceil_size
ceil_most nan = lit≤ tt
ceil_most (inf true) = lit≤ tt
ceil_most (inf false) = lit≤ tt
ceil_most (fin true m e) = lit≤ tt
ceil_most (fin false m e) = min-le_right ((m * up e + (down e - 1)) / down e) 0x7fff_ffff_ffff_ffff

module _ (o : Oval) (sweep : Float) (width height : ℕ) (m r s : Float) (n k : ℕ)
    (e : m ≡ max_of o.a o.b) (f : r ≡ max_of m one) (g : s ≡ abs_of sweep) (j : n ≡ ceil_size (mul binary32 s r)) (l : k ≡ 16 * max (width + height) 1) where
  is : steps_of o sweep width height ≡ min (max (2 * n) 1) k
  unfolding steps_of stroke_radius
  is = cc

  abbrev Held : ℕ → Type 0
  Held a = (a ≡ steps_of o sweep width height) × (1 ≤ a) × (a ≤ 16 * max (width + height) 1)

  held : (a b : ℕ) → a ≡ max (n * 2) 1 → b ≡ min a k → Held b
  held a b h i = (omega (arith, is), omega arith, omega arith)

pub overflow_mul-n : goal.overflow_mul-n
overflow_mul-n c = record { fits = omega (arith, c.ceil_size-n.ensures, ceil_most (mul binary32 c.abs.result c.max-radius.result)) }

pub returns : goal.returns
unfolding of_bits
returns c =
    let a = c.args in
    held a.o a.sweep a.width a.height c.max.result c.max-radius.result
    c.abs.result c.ceil_size-n.result c.most_steps.result
    c.max.ensures c.max-radius.ensures c.abs.ensures
    c.ceil_size-n.ensures c.most_steps.ensures c.max-2.result c.min.result c.max-2.ensures c.min.ensures
