-- `angle_sine_cosine` meets its contract: the pair's two fields are stored. Assumes nothing.
use mathlib.Core.Path.{ap}
use Rattle.angle.specs.declared.sine.SineCosine.{SineCosine}
use Rattle.angle.specs.Sine.{sine_cosine_of}
use Rattle.exports.proofs.angles.angle_sine_cosine.Goals as goal

pub returns : goal.returns
unfolding sine_cosine_of
returns c = (ap (λ (p : SineCosine). p.sine) c.sine_cosine-p.ensures, ap (λ (p : SineCosine). p.cosine) c.sine_cosine-p.ensures)
