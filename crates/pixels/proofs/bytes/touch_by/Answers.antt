-- By the bytes of a word, the word inked at the offset is the pixel's.
use Rattle.std.proofs.Common.{rules}
use mathlib.Core.Path.{◌≡◌, refl, sym, ◌∙◌}
use Rattle.words.specs.Ink.{inked}
use Rattle.pixels.specs.Bytes.{size}
use Rattle.pixels.proofs.bytes.Places.{sized_four, scaled, unscaled, in_offset, touch_offset}
use Rattle.pixels.proofs.bytes.touch_by.Goals as goal

pub touch-requires-clause-room : goal.touch-requires-clause-room
touch-requires-clause-room c =
    let a = c.args in
    let p = c.requires in
    let z : size a.canvas ≡ 1 = sym p.1.1 ∙ c.in-1.is in
    in_offset a.canvas a.b.now a.x a.y _ 1 p.0 p.1.0 (unscaled a.canvas _ _ c.index-o.ensures.0 z) z

pub touch-requires-in-2-clause-room : goal.touch-requires-in-2-clause-room
touch-requires-in-2-clause-room c =
    let a = c.args in
    let p = c.requires in
    let z : size a.canvas ≡ 2 = sym p.1.1 ∙ c.in-2.is in
    in_offset a.canvas a.b.now a.x a.y _ 2 p.0 p.1.0 (scaled a.canvas _ _ 2 c.index-o.ensures.0 z) z

pub touch-requires-in_default-clause-room : goal.touch-requires-in_default-clause-room
touch-requires-in_default-clause-room c =
    let a = c.args in
    let p = c.requires in
    let z : size a.canvas ≡ 4 = sized_four a.canvas a.n p.0.known p.1.1 (search rules) (search rules) in
    in_offset a.canvas a.b.now a.x a.y _ 4 p.0 p.1.0 (scaled a.canvas _ _ 4 c.index-o.ensures.0 z) z

pub returns-in-1 : goal.returns-in-1
returns-in-1 c =
    let a = c.args in
    let p = c.requires in
    let z : size a.canvas ≡ 1 = sym p.1.1 ∙ c.in-1.is in
    touch_offset a.canvas a.b.now a.x a.y _ 1 p.0 p.1.0 (unscaled a.canvas _ _ c.index-o.ensures.0 z) z _ (inked a.ink) _ _ refl refl c.touch.ensures.same

pub returns-in-2 : goal.returns-in-2
returns-in-2 c =
    let a = c.args in
    let p = c.requires in
    let z : size a.canvas ≡ 2 = sym p.1.1 ∙ c.in-2.is in
    touch_offset a.canvas a.b.now a.x a.y _ 2 p.0 p.1.0 (scaled a.canvas _ _ 2 c.index-o.ensures.0 z) z _ (inked a.ink) _ _ refl refl c.touch-in-2.ensures.same

pub returns-in_default : goal.returns-in_default
returns-in_default c =
    let a = c.args in
    let p = c.requires in
    let z : size a.canvas ≡ 4 = sized_four a.canvas a.n p.0.known p.1.1 (search rules) (search rules) in
    touch_offset a.canvas a.b.now a.x a.y _ 4 p.0 p.1.0 (scaled a.canvas _ _ 4 c.index-o.ensures.0 z) z _ (inked a.ink) _ _ refl refl c.touch-in_default.ensures.same
