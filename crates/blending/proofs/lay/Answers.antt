-- `lay` meets its contract: mixing needs no test of alpha.
use Prim.Native.Nat.{◌%◌}
use native.Mathlib.Omega.{arith}
use Rattle.words.specs.Format.{argb}
use Rattle.words.specs.Word.{color, to_color}
use Rattle.words.proofs.Reading.{read_channels}
use Rattle.blending.specs.Blend.{rule_of}
use Rattle.blending.proofs.Opaque.{mixed-over}
use Rattle.blending.proofs.lay.Goals as goal

pub returns : goal.returns
unfolding to_color
returns c =
    let s = c.args in
    let k = c.shares_of-k.ensures in
    let r = c.mix.ensures in
    let g = c.mix-2.ensures in
    let b = c.mix-3.ensures in
    record {
      is =
          mixed-over (rule_of s.rule) (to_color argb s.source) (color 255 (s.r % 256) (s.g % 256) (s.b % 256)) (read_channels argb s.source)
          (record { a = omega arith; r = omega arith; g = omega arith; b = omega arith })
          k.0
          k.1.0
          k.1.1
          r.0
          g.0
          b.0;
      red = r.1;
      green = g.1;
      blue = b.1;
    }
