-- By the answer's two cases.
use Rattle.tuyrashka.proofs.Icons.{told-refused, told_here}
use Rattle.tuyrashka.proofs.icon.tuyrashka_decode_res.Goals as goal

pub returns-in-Err : goal.returns-in-Err
returns-in-Err c =
    told-refused _ _ c.decode_res-f.ensures _ _ _ c.in-Err.is c.number.ensures c.give_size.ensures

pub returns-in-Ok : goal.returns-in-Ok
returns-in-Ok c =
    told_here _ _ c.decode_res-f.ensures _ _ c.in-Ok.is c.give_size-in-Ok.ensures
