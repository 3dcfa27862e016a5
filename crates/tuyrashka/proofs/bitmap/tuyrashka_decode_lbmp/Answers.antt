-- By the answer's two cases.
use Rattle.tuyrashka.proofs.Bitmaps.{told-refused, told_sound}
use Rattle.tuyrashka.proofs.bitmap.tuyrashka_decode_lbmp.Goals as goal

pub returns-in-Err : goal.returns-in-Err
returns-in-Err c =
    let decode_lbmp = c.decode_lbmp-j in
    told-refused decode_lbmp.result _ _ decode_lbmp.ensures _ _ _ c.in-Err.is c.number.ensures c.give_size.ensures

pub returns-in-Ok : goal.returns-in-Ok
returns-in-Ok c =
    let decode_lbmp = c.decode_lbmp-j in
    told_sound decode_lbmp.result _ _ decode_lbmp.ensures _ _ c.in-Ok.is c.give_size-in-Ok.ensures
