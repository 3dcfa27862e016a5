-- What is left of the trail leads to the same end.
use Rattle.std.proofs.Common.{◌≡◌, length, ap, ◌∙◌, arith}
use Rattle.words.specs.Ink.{inked}
use Rattle.canvas.specs.Walk.{Work}
use Rattle.pixels.proofs.bytes.Pixels.{sized-length}
use Rattle.canvas.proofs.plot.Dabs.{dabbed-length, dabbing_length}
use Rattle.canvas.proofs.lines.Ways.{not_end, nearer}
use Rattle.canvas.proofs.lines.Loops.{way_start, way_room, way_turn, way_end}
use Rattle.canvas.proofs.lines.walk.Goals as goal
use Rattle.canvas.proofs.lines.walk.Goals.{else-s-way-via-then-s-way+else-s-way-2, else-s-way-via-else-s-way}

pub loop-s-init : goal.loop-s-init
loop-s-init c = way_start c.requires.1.1.1.0

pub dab-t-requires : goal.dab-t-requires
dab-t-requires c = (sized-length (dabbing_length c.loop-s.invariant.rest) c.requires.0, (c.requires.1.0, (c.requires.1.1.0, way_room c.requires.1.1.1.0 c.requires.1.1.1.1 c.loop-s.invariant)))

pub advance-s-requires : goal.advance-s-requires
advance-s-requires c =
    let ne : c.loop-s.s.x ≡ c.args.way.x → c.loop-s.s.y ≡ c.args.way.y → ⊥ =
    λ h k. elim c.else-s-way.branch [ else-s-way-via-then-s-way+else-s-way-2 w ↦ w.if-s-way-2.false k | else-s-way-via-else-s-way w ↦ w.if-s-way.false h ] in
    not_end c.args.way c.loop-s.s c.loop-s.invariant.goes ne

pub loop-s-smaller : goal.loop-s-smaller
loop-s-smaller c =
    let ne : c.loop-s.s.x ≡ c.args.way.x → c.loop-s.s.y ≡ c.args.way.y → ⊥ =
    λ h k. elim c.else-s-way.branch [ else-s-way-via-then-s-way+else-s-way-2 w ↦ w.if-s-way-2.false k | else-s-way-via-else-s-way w ↦ w.if-s-way.false h ] in
    rw c.advance-s.ensures (omega (arith, nearer c.args.way c.loop-s.s (not_end c.args.way c.loop-s.s c.loop-s.invariant.goes ne)))

pub loop-s-preserved : goal.loop-s-preserved
loop-s-preserved c =
    let ne : c.loop-s.s.x ≡ c.args.way.x → c.loop-s.s.y ≡ c.args.way.y → ⊥ =
    λ h k. elim c.else-s-way.branch [ else-s-way-via-then-s-way+else-s-way-2 w ↦ w.if-s-way-2.false k | else-s-way-via-else-s-way w ↦ w.if-s-way.false h ] in
    rw c.advance-s.ensures (way_turn c.loop-s.invariant c.dab-t.ensures (not_end c.args.way c.loop-s.s c.loop-s.invariant.goes ne))

pub shape_of-b : goal.shape_of-b
shape_of-b c = ap (λ (x : Work). length x.bytes) c.dab-t.ensures ∙ dabbed-length c.args.canvas c.args.xs c.args.ys (inked c.args.ink) _ _ ∙ dabbing_length c.loop-s.invariant.rest

pub returns : goal.returns
returns c = way_end c.loop-s.invariant c.dab-t.ensures c.if-s-way.true c.if-s-way-2.true
