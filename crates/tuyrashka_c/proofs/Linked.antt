-- What an export is held to is what the function of `tuyrashka` that it calls is held to, from the same arguments to the same answer and lent
-- values. So a run of exports is a run of `linked` in the proofs of `screens`, and each theorem of `Runs` there is of what people link.
use Rattle.screens.proofs.Runs.{Ran}
use Rattle.tuyrashka_c.proofs.tuyrashka_put_pixel.Kinds as exported_put_pixel_kinds
use Rattle.tuyrashka_c.proofs.tuyrashka_put_pixel.Reads as exported_put_pixel_reads
use Rattle.tuyrashka.proofs.tuyrashka_put_pixel.Kinds as called_put_pixel_kinds
use Rattle.tuyrashka.proofs.tuyrashka_put_pixel.Reads as called_put_pixel_reads
use Rattle.tuyrashka_c.proofs.tuyrashka_draw_line.Kinds as exported_draw_line_kinds
use Rattle.tuyrashka_c.proofs.tuyrashka_draw_line.Reads as exported_draw_line_reads
use Rattle.tuyrashka.proofs.tuyrashka_draw_line.Kinds as called_draw_line_kinds
use Rattle.tuyrashka.proofs.tuyrashka_draw_line.Reads as called_draw_line_reads
use Rattle.tuyrashka_c.proofs.tuyrashka_draw_rect.Kinds as exported_draw_rect_kinds
use Rattle.tuyrashka_c.proofs.tuyrashka_draw_rect.Reads as exported_draw_rect_reads
use Rattle.tuyrashka.proofs.tuyrashka_draw_rect.Kinds as called_draw_rect_kinds
use Rattle.tuyrashka.proofs.tuyrashka_draw_rect.Reads as called_draw_rect_reads
use Rattle.tuyrashka_c.proofs.tuyrashka_fill_rect.Kinds as exported_fill_rect_kinds
use Rattle.tuyrashka_c.proofs.tuyrashka_fill_rect.Reads as exported_fill_rect_reads
use Rattle.tuyrashka.proofs.tuyrashka_fill_rect.Kinds as called_fill_rect_kinds
use Rattle.tuyrashka.proofs.tuyrashka_fill_rect.Reads as called_fill_rect_reads
use Rattle.tuyrashka_c.proofs.rounds.tuyrashka_draw_arc.Kinds as exported_draw_arc_kinds
use Rattle.tuyrashka_c.proofs.rounds.tuyrashka_draw_arc.Reads as exported_draw_arc_reads
use Rattle.tuyrashka.proofs.tuyrashka_draw_arc.Kinds as called_draw_arc_kinds
use Rattle.tuyrashka.proofs.tuyrashka_draw_arc.Reads as called_draw_arc_reads
use Rattle.tuyrashka_c.proofs.rounds.tuyrashka_fill_arc.Kinds as exported_fill_arc_kinds
use Rattle.tuyrashka_c.proofs.rounds.tuyrashka_fill_arc.Reads as exported_fill_arc_reads
use Rattle.tuyrashka.proofs.tuyrashka_fill_arc.Kinds as called_fill_arc_kinds
use Rattle.tuyrashka.proofs.tuyrashka_fill_arc.Reads as called_fill_arc_reads
use Rattle.tuyrashka_c.proofs.rounds.tuyrashka_draw_round_rect.Kinds as exported_draw_round_rect_kinds
use Rattle.tuyrashka_c.proofs.rounds.tuyrashka_draw_round_rect.Reads as exported_draw_round_rect_reads
use Rattle.tuyrashka.proofs.tuyrashka_draw_round_rect.Kinds as called_draw_round_rect_kinds
use Rattle.tuyrashka.proofs.tuyrashka_draw_round_rect.Reads as called_draw_round_rect_reads
use Rattle.tuyrashka_c.proofs.rounds.tuyrashka_fill_round_rect.Kinds as exported_fill_round_rect_kinds
use Rattle.tuyrashka_c.proofs.rounds.tuyrashka_fill_round_rect.Reads as exported_fill_round_rect_reads
use Rattle.tuyrashka.proofs.tuyrashka_fill_round_rect.Kinds as called_fill_round_rect_kinds
use Rattle.tuyrashka.proofs.tuyrashka_fill_round_rect.Reads as called_fill_round_rect_reads
use Rattle.tuyrashka_c.proofs.areas.tuyrashka_invert_rect.Kinds as exported_invert_rect_kinds
use Rattle.tuyrashka_c.proofs.areas.tuyrashka_invert_rect.Reads as exported_invert_rect_reads
use Rattle.tuyrashka.proofs.tuyrashka_invert_rect.Kinds as called_invert_rect_kinds
use Rattle.tuyrashka.proofs.tuyrashka_invert_rect.Reads as called_invert_rect_reads
use Rattle.tuyrashka_c.proofs.areas.tuyrashka_draw.Kinds as exported_draw_kinds
use Rattle.tuyrashka_c.proofs.areas.tuyrashka_draw.Reads as exported_draw_reads
use Rattle.tuyrashka.proofs.tuyrashka_draw.Kinds as called_draw_kinds
use Rattle.tuyrashka.proofs.tuyrashka_draw.Reads as called_draw_reads
use Rattle.tuyrashka_c.proofs.areas.tuyrashka_copy_area.Kinds as exported_copy_area_kinds
use Rattle.tuyrashka_c.proofs.areas.tuyrashka_copy_area.Reads as exported_copy_area_reads
use Rattle.tuyrashka.proofs.tuyrashka_copy_area.Kinds as called_copy_area_kinds
use Rattle.tuyrashka.proofs.tuyrashka_copy_area.Reads as called_copy_area_reads

pub put_pixel_ran : {κs : _} {a : _} {r : _} {s : _} → Ran exported_put_pixel_kinds.ps exported_put_pixel_kinds.r exported_put_pixel_reads.Post κs a r s
    → Ran called_put_pixel_kinds.ps called_put_pixel_kinds.r called_put_pixel_reads.Post κs a r s
put_pixel_ran q = q

pub draw_line_ran : {κs : _} {a : _} {r : _} {s : _} → Ran exported_draw_line_kinds.ps exported_draw_line_kinds.r exported_draw_line_reads.Post κs a r s
    → Ran called_draw_line_kinds.ps called_draw_line_kinds.r called_draw_line_reads.Post κs a r s
draw_line_ran q = q

pub draw_rect_ran : {κs : _} {a : _} {r : _} {s : _} → Ran exported_draw_rect_kinds.ps exported_draw_rect_kinds.r exported_draw_rect_reads.Post κs a r s
    → Ran called_draw_rect_kinds.ps called_draw_rect_kinds.r called_draw_rect_reads.Post κs a r s
draw_rect_ran q = q

pub fill_rect_ran : {κs : _} {a : _} {r : _} {s : _} → Ran exported_fill_rect_kinds.ps exported_fill_rect_kinds.r exported_fill_rect_reads.Post κs a r s
    → Ran called_fill_rect_kinds.ps called_fill_rect_kinds.r called_fill_rect_reads.Post κs a r s
fill_rect_ran q = q

pub draw_arc_ran : {κs : _} {a : _} {r : _} {s : _} → Ran exported_draw_arc_kinds.ps exported_draw_arc_kinds.r exported_draw_arc_reads.Post κs a r s
    → Ran called_draw_arc_kinds.ps called_draw_arc_kinds.r called_draw_arc_reads.Post κs a r s
draw_arc_ran q = q

pub fill_arc_ran : {κs : _} {a : _} {r : _} {s : _} → Ran exported_fill_arc_kinds.ps exported_fill_arc_kinds.r exported_fill_arc_reads.Post κs a r s
    → Ran called_fill_arc_kinds.ps called_fill_arc_kinds.r called_fill_arc_reads.Post κs a r s
fill_arc_ran q = q

pub draw_round_rect_ran : {κs : _} {a : _} {r : _} {s : _} → Ran exported_draw_round_rect_kinds.ps exported_draw_round_rect_kinds.r exported_draw_round_rect_reads.Post κs a r s
    → Ran called_draw_round_rect_kinds.ps called_draw_round_rect_kinds.r called_draw_round_rect_reads.Post κs a r s
draw_round_rect_ran q = q

pub fill_round_rect_ran : {κs : _} {a : _} {r : _} {s : _} → Ran exported_fill_round_rect_kinds.ps exported_fill_round_rect_kinds.r exported_fill_round_rect_reads.Post κs a r s
    → Ran called_fill_round_rect_kinds.ps called_fill_round_rect_kinds.r called_fill_round_rect_reads.Post κs a r s
fill_round_rect_ran q = q

pub invert_rect_ran : {κs : _} {a : _} {r : _} {s : _} → Ran exported_invert_rect_kinds.ps exported_invert_rect_kinds.r exported_invert_rect_reads.Post κs a r s
    → Ran called_invert_rect_kinds.ps called_invert_rect_kinds.r called_invert_rect_reads.Post κs a r s
invert_rect_ran q = q

pub draw_ran : {κs : _} {a : _} {r : _} {s : _} → Ran exported_draw_kinds.ps exported_draw_kinds.r exported_draw_reads.Post κs a r s
    → Ran called_draw_kinds.ps called_draw_kinds.r called_draw_reads.Post κs a r s
draw_ran q = q

pub copy_area_ran : {κs : _} {a : _} {r : _} {s : _} → Ran exported_copy_area_kinds.ps exported_copy_area_kinds.r exported_copy_area_reads.Post κs a r s
    → Ran called_copy_area_kinds.ps called_copy_area_kinds.r called_copy_area_reads.Post κs a r s
copy_area_ran q = q
