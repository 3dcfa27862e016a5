-- Each case has its number.
use Rattle.std.proofs.Common.{refl}
use Rattle.canvas.specs.Faults.{number}
use Rattle.canvas.proofs.Refusal.number.Goals as goal

pub returns-in-Format : goal.returns-in-Format
unfolding number
returns-in-Format c = rw c.in-Format.is refl

pub returns-in-Size : goal.returns-in-Size
unfolding number
returns-in-Size c = rw c.in-Size.is refl

pub returns-in-Length : goal.returns-in-Length
unfolding number
returns-in-Length c = rw c.in-Length.is refl

pub returns-in-Source : goal.returns-in-Source
unfolding number
returns-in-Source c = rw c.in-Source.is refl

pub returns-in-Angle : goal.returns-in-Angle
unfolding number
returns-in-Angle c = rw c.in-Angle.is refl

pub returns-in-Shape : goal.returns-in-Shape
unfolding number
returns-in-Shape c = rw c.in-Shape.is refl

pub returns-in-Row : goal.returns-in-Row
unfolding number
returns-in-Row c = rw c.in-Row.is refl

pub returns-in-Rule : goal.returns-in-Rule
unfolding number
returns-in-Rule c = rw c.in-Rule.is refl
