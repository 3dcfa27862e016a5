-- By the answer's three cases.
use mathlib.Core.Path.{refl}
use Rattle.words.specs.Format.{format_of}
use Rattle.canvas.specs.Look.{status_of, seen_of}
use Rattle.tuyrashka.specs.Exported.{tells}
use Rattle.tuyrashka.proofs.Answers.{shows, nothing_seen, color_seen}
use Rattle.tuyrashka.proofs.tuyrashka_get_pixel.Goals as goal

pub returns-in-Err : goal.returns-in-Err
unfolding status_of seen_of tells
returns-in-Err c =
    shows c.args.bytes.now c.get_pixel-p.result c.ranges.x c.ranges.y c.canvas_of-v.ensures
    (rw (c.in-Err.is, c.number.ensures) refl) c.get_pixel-p.ensures

pub returns-in-None : goal.returns-in-None
returns-in-None c =
    let p = c.get_pixel-p in
    shows c.args.bytes.now p.result c.ranges.x c.ranges.y c.canvas_of-v.ensures (nothing_seen p.result c.in-Ok.is c.in-None.is) p.ensures

pub returns-in-Some : goal.returns-in-Some
unfolding format_of
returns-in-Some c =
    let p = c.get_pixel-p in
    shows c.args.bytes.now p.result c.ranges.x c.ranges.y c.canvas_of-v.ensures
    (color_seen p.result c.in-Ok.is c.in-Some.is c.from_color.ensures) p.ensures
