-- `sines_of` meets its contract: the first j are worked out. Assumes nothing.
use Rattle.std.proofs.Common.{ap, arith}
use lib.Ieee.{nan}
use Rattle.angle.specs.declared.sine.SineCosine.{SineCosine}
use Rattle.angle.specs.Sine.{sine_of, cosine_of, sine_cosine_of}
use Rattle.curves.proofs.strokes.Sixteen.{filled_none, filled_more, mapped}
use Rattle.curves.proofs.strokes.sines_of.Goals as goal

pub loop-j-init : goal.loop-j-init
loop-j-init c = (filled_none c.told-ss, filled_none c.told-cs)

pub offset_bounds-ts-j : goal.offset_bounds-ts-j
offset_bounds-ts-j c = omega (arith, c.loop-j-test.true)

pub bounds-ts-j : goal.bounds-ts-j
bounds-ts-j c = omega (arith, c.loop-j-test.true, c.told-ts)

pub sine_cosine-t-requires : goal.sine_cosine-t-requires
sine_cosine-t-requires c = tt

pub offset_bounds-ss-j : goal.offset_bounds-ss-j
offset_bounds-ss-j c = omega (arith, c.loop-j-test.true)

pub bounds-ss-j : goal.bounds-ss-j
bounds-ss-j c = omega (arith, c.loop-j-test.true, c.loop-j.invariant.0.long)

pub offset_bounds-cs-j : goal.offset_bounds-cs-j
offset_bounds-cs-j c = omega (arith, c.loop-j-test.true)

pub bounds-cs-j : goal.bounds-cs-j
bounds-cs-j c = omega (arith, c.loop-j-test.true, c.loop-j.invariant.1.long)

pub loop-j-preserved : goal.loop-j-preserved
unfolding sine_cosine_of
loop-j-preserved c =
    let l = c.loop-j.invariant in
    let t = c.sine_cosine-t in (
      filled_more t.result.sine c.loop-j-test.true (ap (λ (r : SineCosine). r.sine) t.ensures) l.0,
      filled_more t.result.cosine c.loop-j-test.true (ap (λ (r : SineCosine). r.cosine) t.ensures) l.1,
    )

pub returns : goal.returns
returns c =
    let l = c.loop-j in
    (mapped nan sine_of c.args.ts.now l.ss c.told-ts c.loop-j-test.false l.invariant.0, mapped nan cosine_of c.args.ts.now l.cs c.told-ts c.loop-j-test.false l.invariant.1)
