-- `degrees_of` meets its contract: it is the definition. Assumes nothing.
use Rattle.std.proofs.Common.{◌≡◌, None, refl}
use lib.Ieee.{Float, of_bits}
use Rattle.curves.specs.declared.pies.Sweep.{Sweep}
use Rattle.curves.specs.declared.pies.Sweep.TheVariants.{All, Empty, Part}
use Rattle.curves.specs.Pies.{degrees_of}
use Rattle.curves.proofs.pies.degrees_of.Goals as goal

pub returns-in_default : goal.returns-in_default
unfolding degrees_of
returns-in_default c = none c.args.s c.in_default.not-Part
  where
    none : (s : Sweep) → ((start length : Float) → s ≡ Part start length → ⊥) → None ≡ degrees_of s
    none All f = refl
    none Empty f = refl
    none (Part start length) f = absurd (f start length refl)

pub returns-then-is_whole : goal.returns-then-is_whole
unfolding degrees_of of_bits
returns-then-is_whole c = rw (c.in-Part.is, ← c.ceil_size-n.ensures, ← c.ceil_size-l.ensures, ← c.is_whole.ensures, c.if-is_whole.true) refl

pub returns-else-is_whole : goal.returns-else-is_whole
unfolding degrees_of of_bits
returns-else-is_whole c = rw (c.in-Part.is, ← c.ceil_size-n.ensures, ← c.ceil_size-l.ensures, ← c.is_whole.ensures, c.if-is_whole.false) refl
