-- A refusal is judging's, or ROOM; else the words are written.
use mathlib.Core.Path.{◌≡◌}
use native.Mathlib.Omega.{arith}
use Rattle.std.specs.Prelude.{Err}
use Rattle.lbmp.proofs.faults.Verdicts.{whole_file}
use Rattle.lbmp.proofs.Answers.{judged_sound, its_pixels, decode_refused, decode_room, decode_sound}
use Rattle.lbmp.proofs.decode_lbmp.Goals as goal

pub returns-in_err-image : goal.returns-in_err-image
returns-in_err-image c =
    let e : c.from_residual.result ≡ Err c.in_err-image.field-0.0 = grind arith in
    rw e (decode_refused _ _ _ c.in_err-image.ensures)

pub returns-then-out-from : goal.returns-then-out-from
returns-then-out-from c =
    let i = c.in_ok-image.image in
    let s = judged_sound _ i c.in_ok-image.ensures in
    decode_room _ _ s.0 (grind (arith, its_pixels c.args.file.now i s.1))

pub write_words-requires : goal.write_words-requires
write_words-requires c =
    let i = c.in_ok-image.image in
    let s = judged_sound _ i c.in_ok-image.ensures in
    (whole_file _ s.0, grind (arith, its_pixels c.args.file.now i s.1))

pub returns : goal.returns
returns c =
    let i = c.in_ok-image.image in
    let s = judged_sound _ i c.in_ok-image.ensures in
    decode_sound _ _ _ i s.0 s.1 (grind (arith, its_pixels c.args.file.now i s.1)) c.write_words.ensures
