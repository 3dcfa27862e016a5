-- No two outcomes satisfy the contract of an exported function: it is one equation for the answer and what is lent, that of `tuyrashka`.
use mathlib.Core.Path.{◌≡◌, sym, ap, ◌∙◌}
use Rattle.tuyrashka_c.proofs.tuyrashka_put_pixel.Reads as put-pixel
use Rattle.tuyrashka_c.proofs.tuyrashka_draw_line.Reads as draw-line
use Rattle.tuyrashka_c.proofs.tuyrashka_draw_rect.Reads as draw-rect
use Rattle.tuyrashka_c.proofs.tuyrashka_fill_rect.Reads as fill-rect
use Rattle.tuyrashka_c.proofs.rounds.tuyrashka_draw_arc.Reads as draw-arc
use Rattle.tuyrashka_c.proofs.rounds.tuyrashka_fill_arc.Reads as fill-arc
use Rattle.tuyrashka_c.proofs.rounds.tuyrashka_draw_round_rect.Reads as draw_round_rect
use Rattle.tuyrashka_c.proofs.rounds.tuyrashka_fill_round_rect.Reads as fill_round_rect
use Rattle.tuyrashka_c.proofs.areas.tuyrashka_invert_rect.Reads as invert-rect
use Rattle.tuyrashka_c.proofs.areas.tuyrashka_copy_area.Reads as copy-area
use Rattle.tuyrashka_c.proofs.areas.tuyrashka_draw.Reads as draw
use Rattle.tuyrashka_c.proofs.tuyrashka_get_pixel.Reads as get-pixel
use Rattle.tuyrashka_c.proofs.tuyrashka_clip_intersect.Reads as clip_intersect
use Rattle.tuyrashka_c.proofs.bitmap.tuyrashka_decode_lbmp.Reads as decode_lbmp
use Rattle.tuyrashka_c.proofs.icon.tuyrashka_decode_res.Reads as decode_res

-- the parts of two answers that are the same
same : {A B C : Type 0} {a a' : A} {b b' : B} {c c' : C} → ◌≡◌ {A = A × (B × C)} (a, (b, c)) (a', (b', c')) → (a ≡ a') × ((b ≡ b') × (c ≡ c'))
same h = (ap (λ t. t.0) h, (ap (λ t. t.1.0) h, ap (λ t. t.1.1) h))

pub put_pixel_determined : (κs : _) (a : _) (s s' : _) (r r' : _) → put-pixel.Post κs a r s → put-pixel.Post κs a r' s'
    → (r ≡ r') × ((s.1.1.1.1.1.1.0.now ≡ s'.1.1.1.1.1.1.0.now) × (s.1.0.now ≡ s'.1.0.now))
put_pixel_determined κs a s s' r r' p q = same (p ∙ sym q)

pub draw_line_determined : (κs : _) (a : _) (s s' : _) (r r' : _) → draw-line.Post κs a r s → draw-line.Post κs a r' s'
    → (r ≡ r') × ((s.1.1.1.1.1.1.1.1.0.now ≡ s'.1.1.1.1.1.1.1.1.0.now) × (s.1.0.now ≡ s'.1.0.now))
draw_line_determined κs a s s' r r' p q = same (p ∙ sym q)

pub draw_rect_determined : (κs : _) (a : _) (s s' : _) (r r' : _) → draw-rect.Post κs a r s → draw-rect.Post κs a r' s'
    → (r ≡ r') × ((s.1.1.1.1.1.1.1.1.0.now ≡ s'.1.1.1.1.1.1.1.1.0.now) × (s.1.0.now ≡ s'.1.0.now))
draw_rect_determined κs a s s' r r' p q = same (p ∙ sym q)

pub fill_rect_determined : (κs : _) (a : _) (s s' : _) (r r' : _) → fill-rect.Post κs a r s → fill-rect.Post κs a r' s'
    → (r ≡ r') × ((s.1.1.1.1.1.1.1.1.0.now ≡ s'.1.1.1.1.1.1.1.1.0.now) × (s.1.0.now ≡ s'.1.0.now))
fill_rect_determined κs a s s' r r' p q = same (p ∙ sym q)

pub draw_arc_determined : (κs : _) (a : _) (s s' : _) (r r' : _) → draw-arc.Post κs a r s → draw-arc.Post κs a r' s'
    → (r ≡ r') × ((s.1.1.1.1.1.1.1.1.1.1.0.now ≡ s'.1.1.1.1.1.1.1.1.1.1.0.now) × (s.1.0.now ≡ s'.1.0.now))
draw_arc_determined κs a s s' r r' p q = same (p ∙ sym q)

pub fill_arc_determined : (κs : _) (a : _) (s s' : _) (r r' : _) → fill-arc.Post κs a r s → fill-arc.Post κs a r' s'
    → (r ≡ r') × ((s.1.1.1.1.1.1.1.1.1.1.0.now ≡ s'.1.1.1.1.1.1.1.1.1.1.0.now) × (s.1.0.now ≡ s'.1.0.now))
fill_arc_determined κs a s s' r r' p q = same (p ∙ sym q)

pub draw_round_rect_determined : (κs : _) (a : _) (s s' : _) (r r' : _) → draw_round_rect.Post κs a r s → draw_round_rect.Post κs a r' s'
    → (r ≡ r') × ((s.1.1.1.1.1.1.1.1.1.1.0.now ≡ s'.1.1.1.1.1.1.1.1.1.1.0.now) × (s.1.0.now ≡ s'.1.0.now))
draw_round_rect_determined κs a s s' r r' p q = same (p ∙ sym q)

pub fill_round_rect_determined : (κs : _) (a : _) (s s' : _) (r r' : _) → fill_round_rect.Post κs a r s → fill_round_rect.Post κs a r' s'
    → (r ≡ r') × ((s.1.1.1.1.1.1.1.1.1.1.0.now ≡ s'.1.1.1.1.1.1.1.1.1.1.0.now) × (s.1.0.now ≡ s'.1.0.now))
fill_round_rect_determined κs a s s' r r' p q = same (p ∙ sym q)

pub invert_rect_determined : (κs : _) (a : _) (s s' : _) (r r' : _) → invert-rect.Post κs a r s → invert-rect.Post κs a r' s'
    → (r ≡ r') × ((s.1.1.1.1.1.1.1.0.now ≡ s'.1.1.1.1.1.1.1.0.now) × (s.1.0.now ≡ s'.1.0.now))
invert_rect_determined κs a s s' r r' p q = same (p ∙ sym q)

pub copy_area_determined : (κs : _) (a : _) (s s' : _) (r r' : _) → copy-area.Post κs a r s → copy-area.Post κs a r' s'
    → (r ≡ r') × ((s.1.1.1.1.1.1.1.1.1.0.now ≡ s'.1.1.1.1.1.1.1.1.1.0.now) × (s.1.0.now ≡ s'.1.0.now))
copy_area_determined κs a s s' r r' p q = same (p ∙ sym q)

pub draw_determined : (κs : _) (a : _) (s s' : _) (r r' : _) → draw.Post κs a r s → draw.Post κs a r' s'
    → (r ≡ r') × ((s.1.1.1.1.1.1.1.1.1.1.1.0.now ≡ s'.1.1.1.1.1.1.1.1.1.1.1.0.now) × (s.1.0.now ≡ s'.1.0.now))
draw_determined κs a s s' r r' p q = same (p ∙ sym q)

pub get_pixel_determined : (κs : _) (a : _) (s s' : _) (r r' : _) → get-pixel.Post κs a r s → get-pixel.Post κs a r' s'
    → (r ≡ r') × ((s.1.1.1.1.0.now ≡ s'.1.1.1.1.0.now) × (s.1.1.1.1.1.0.now ≡ s'.1.1.1.1.1.0.now))
get_pixel_determined κs a s s' r r' p q = same (p ∙ sym q)

pub clip_intersect_determined : (κs : _) (a : _) (s s' : _) (r r' : _) → clip_intersect.Post κs a r s → clip_intersect.Post κs a r' s' → s.1.1.0.now ≡ s'.1.1.0.now
clip_intersect_determined κs a s s' r r' p q = p ∙ sym q

pub decode_lbmp_determined : (κs : _) (a : _) (s s' : _) (r r' : _) → decode_lbmp.Post κs a r s → decode_lbmp.Post κs a r' s'
    → (r ≡ r') × ((s.1.1.0.now ≡ s'.1.1.0.now) × ((s.1.1.1.0.now ≡ s'.1.1.1.0.now) × (s.1.0.now ≡ s'.1.0.now)))
decode_lbmp_determined κs a s s' r r' p q =
    let (e, (f, g)) = same (p ∙ sym q) in
    (e, (f, (ap (λ t. t.0) g, ap (λ t. t.1) g)))

pub decode_res_determined : (κs : _) (a : _) (s s' : _) (r r' : _) → decode_res.Post κs a r s → decode_res.Post κs a r' s'
    → (r ≡ r') × ((s.1.0.now ≡ s'.1.0.now) × (s.1.1.0.now ≡ s'.1.1.0.now))
decode_res_determined κs a s s' r r' p q = same (p ∙ sym q)
