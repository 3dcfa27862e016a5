-- `Rgb565::argb` meets its contract: the levels are bytes.
use mathlib.Core.Path.{◌≡◌}
use Prim.Native.Nat.{ℕ, ◌<◌}
use native.Mathlib.Omega.{arith}
use Rattle.words.specs.Format.{rgb565}
use Rattle.words.specs.Word.{from_color, to_color}
use Rattle.words.proofs.Reading.{read_channels}
use Rattle.blending.proofs.drawn.Rgb565Drawn.argb.Goals as goal

small : {x v : ℕ} → x ≡ v → v < 256 → x < 256
small e h = omega arith

pub overflow_mul-result : goal.overflow_mul-result
unfolding to_color
overflow_mul-result c =
    let h = read_channels rgb565 c.args.raw in
    record { fits = omega (arith, small c.level5_of-r.ensures h.r) }

pub overflow_add-result : goal.overflow_add-result
unfolding to_color
overflow_add-result c =
    let h = read_channels rgb565 c.args.raw in
    record { fits = omega (arith, small c.level5_of-r.ensures h.r) }

pub overflow_mul-result-2 : goal.overflow_mul-result-2
unfolding to_color
overflow_mul-result-2 c =
    let h = read_channels rgb565 c.args.raw in
    record { fits = omega (arith, small c.level6_of-g.ensures h.g) }

pub overflow_add-result-2 : goal.overflow_add-result-2
unfolding to_color
overflow_add-result-2 c =
    let h = read_channels rgb565 c.args.raw in
    record { fits = omega (arith, small c.level5_of-r.ensures h.r, small c.level6_of-g.ensures h.g) }

pub overflow_add-result-3 : goal.overflow_add-result-3
unfolding to_color
overflow_add-result-3 c =
    let h = read_channels rgb565 c.args.raw in
    record { fits = omega (arith, small c.level5_of-r.ensures h.r, small c.level6_of-g.ensures h.g, small c.level5_of-b.ensures h.b) }

pub returns : goal.returns
unfolding from_color to_color
returns c = omega arith
