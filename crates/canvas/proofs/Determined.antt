-- No two outcomes satisfy the contract of a public function: the readings of an answer tell its cases apart.
use Rattle.std.proofs.Common.{◌≡◌, ℕ, cond, eqb, List, sym, refl, ap, ◌∙◌, arith, Option, Result, Ok, Err}
use Rattle.canvas.specs.declared.Refusal.{Refusal}
use Rattle.canvas.specs.declared.Refusal.TheVariants.{Format, Size, Length, Source, Angle, Shape, Row, Rule}
use Rattle.canvas.specs.declared.Tally.{Tally}
use Rattle.words.specs.declared.Color.{Color}
use Rattle.canvas.specs.Faults.{number}
use Rattle.canvas.specs.Call.{Outcome, status_of, count_of, leaves}
use Rattle.canvas.specs.Walk.{Work, work}
use Rattle.canvas.specs.Look.{Reading, seen_of, reads}
use Rattle.canvas.specs.Look as look
use Rattle.canvas.proofs.lines.draw_line.Reads as draw-line
use Rattle.canvas.proofs.plot.put_pixel.Reads as put-pixel
use Rattle.canvas.proofs.boxes.draw_rect.Reads as draw-rect
use Rattle.canvas.proofs.boxes.fill_rect.Reads as fill-rect
use Rattle.canvas.proofs.areas.invert_rect.Reads as invert-rect
use Rattle.canvas.proofs.look.get_pixel.Reads as get-pixel
use Rattle.canvas.proofs.faults.or_else.Reads as or_else
use Rattle.canvas.proofs.faults.judge.Reads as judge
use Rattle.canvas.proofs.span.lift.Reads as lift
use Rattle.canvas.proofs.span.signed.Reads as signed
use Rattle.canvas.proofs.span.overlap.Reads as overlap
use Rattle.canvas.proofs.span.window.Reads as window
use Rattle.canvas.proofs.span.shown_in.Reads as shown_in
use Rattle.canvas.proofs.boxes.is_empty.Reads as is_empty
use Rattle.canvas.proofs.plot.dab.Reads as dab
use Rattle.canvas.proofs.boxes.fill_in.Reads as fill_in
use Rattle.canvas.proofs.boxes.edges_in.Reads as edges_in
use Rattle.canvas.proofs.boxes.outline_in.Reads as outline_in
use Rattle.canvas.proofs.Clip.intersect.Reads as intersect
use Rattle.canvas.proofs.Refusal.number.Reads as number_of_lem
use Rattle.canvas.proofs.status.Reads as status
use Rattle.canvas.proofs.count.Reads as count

-- ---- refusals and answers, from their numbers

-- the refusal of a number
unfoldable refusal : ℕ → Refusal
refusal n =
    cond (eqb n 1) Format
    (cond (eqb n 2) Size
    (cond (eqb n 3) Length (cond (eqb n 4) Source (cond (eqb n 5) Angle (cond (eqb n 6) Shape (cond (eqb n 18) Row Rule))))))

numbered : (r : Refusal) → refusal (number r) ≡ r
unfolding number refusal
numbered Format = refl
numbered Size = refl
numbered Length = refl
numbered Source = refl
numbered Angle = refl
numbered Shape = refl
numbered Row = refl
numbered Rule = refl

same_number : (r s : Refusal) → number r ≡ number s → r ≡ s
same_number r s e = sym (numbered r) ∙ ap refusal e ∙ numbered s

no_zero : (r : Refusal) → number r ≡ 0 → ⊥
unfolding number
no_zero Format e = omega arith
no_zero Size e = omega arith
no_zero Length e = omega arith
no_zero Source e = omega arith
no_zero Angle e = omega arith
no_zero Shape e = omega arith
no_zero Row e = omega arith
no_zero Rule e = omega arith

same-drawn : (d e : Result Tally Refusal) → status_of d ≡ status_of e → count_of d ≡ count_of e → d ≡ e
unfolding status_of count_of
same-drawn (Err r) (Err s) p q = ap Err (same_number r s p)
same-drawn (Err r) (Ok t) p q = absurd (no_zero r p)
same-drawn (Ok t) (Err r) p q = absurd (no_zero r (sym p))
same-drawn (Ok t) (Ok u) p q = ap (λ (n : ℕ). Ok (record { landed = n })) q

same-pixel : (p q : Result (Option Color) Refusal) → look.status_of p ≡ look.status_of q → seen_of p ≡ seen_of q → p ≡ q
unfolding look.status_of seen_of
same-pixel (Err r) (Err s) e f = ap Err (same_number r s e)
same-pixel (Err r) (Ok c) e f = absurd (no_zero r e)
same-pixel (Ok c) (Err s) e f = absurd (no_zero s (sym e))
same-pixel (Ok c) (Ok d) e f = ap Ok f

-- what leaves the same outcome is the same answer and the same bytes
pub leaves-same : (d e : Result Tally Refusal) (b b' : List ℕ) → leaves d b ≡ leaves e b' → (d ≡ e) × (b ≡ b')
leaves-same d e b b' h =
    (same-drawn d e (ap (λ (o : Outcome). o.status) h) (ap (λ (o : Outcome). o.count) h), ap (λ (o : Outcome). o.bytes) h)

reads_same : (p q : Result (Option Color) Refusal) → reads p ≡ reads q → p ≡ q
reads_same p q h = same-pixel p q (ap (λ (r : Reading). r.status) h) (ap (λ (r : Reading). r.color) h)

-- ---- the public functions

pub draw_line_determined : (κs : _) (a : _) (s s' : _) (r r' : _) → draw-line.Post κs a r s → draw-line.Post κs a r' s' → (r ≡ r') × (s.1.0.now ≡ s'.1.0.now)
draw_line_determined κs a s s' r r' p q = leaves-same r r' s.1.0.now s'.1.0.now (p ∙ sym q)

pub put_pixel_determined : (κs : _) (a : _) (s s' : _) (r r' : _) → put-pixel.Post κs a r s → put-pixel.Post κs a r' s' → (r ≡ r') × (s.1.0.now ≡ s'.1.0.now)
put_pixel_determined κs a s s' r r' p q = leaves-same r r' s.1.0.now s'.1.0.now (p ∙ sym q)

pub fill_rect_determined : (κs : _) (a : _) (s s' : _) (r r' : _) → fill-rect.Post κs a r s → fill-rect.Post κs a r' s' → (r ≡ r') × (s.1.0.now ≡ s'.1.0.now)
fill_rect_determined κs a s s' r r' p q = leaves-same r r' s.1.0.now s'.1.0.now (p ∙ sym q)

pub draw_rect_determined : (κs : _) (a : _) (s s' : _) (r r' : _) → draw-rect.Post κs a r s → draw-rect.Post κs a r' s' → (r ≡ r') × (s.1.0.now ≡ s'.1.0.now)
draw_rect_determined κs a s s' r r' p q = leaves-same r r' s.1.0.now s'.1.0.now (p ∙ sym q)

pub invert_rect_determined : (κs : _) (a : _) (s s' : _) (r r' : _) → invert-rect.Post κs a r s → invert-rect.Post κs a r' s' → (r ≡ r') × (s.1.0.now ≡ s'.1.0.now)
invert_rect_determined κs a s s' r r' p q = leaves-same r r' s.1.0.now s'.1.0.now (p ∙ sym q)

pub get_pixel_determined : (κs : _) (a : _) (s s' : _) (r r' : _) → get-pixel.Post κs a r s → get-pixel.Post κs a r' s' → r ≡ r'
get_pixel_determined κs a s s' r r' p q = reads_same r r' (p ∙ sym q)

pub intersect_determined : (κs : _) (a : _) (s s' : _) (r r' : _) → intersect.Post κs a r s → intersect.Post κs a r' s' → r ≡ r'
intersect_determined κs a s s' r r' p q = p ∙ sym q

pub number_determined : (κs : _) (a : _) (s s' : _) (r r' : _) → number_of_lem.Post κs a r s → number_of_lem.Post κs a r' s' → r ≡ r'
number_determined κs a s s' r r' p q = p ∙ sym q

pub status_determined : (κs : _) (a : _) (s s' : _) (r r' : _) → status.Post κs a r s → status.Post κs a r' s' → r ≡ r'
status_determined κs a s s' r r' p q = p ∙ sym q

pub count_determined : (κs : _) (a : _) (s s' : _) (r r' : _) → count.Post κs a r s → count.Post κs a r' s' → r ≡ r'
count_determined κs a s s' r r' p q = p ∙ sym q

-- ---- what calls are made of

worked_same : (b b' : List ℕ) (t t' : Tally) → work b t ≡ work b' t' → (t ≡ t') × (b ≡ b')
worked_same b b' t t' h = (ap (λ (w : Work). w.tally) h, ap (λ (w : Work). w.bytes) h)

pub or_else_determined : (κs : _) (a : _) (s s' : _) (r r' : _) → or_else.Post κs a r s → or_else.Post κs a r' s' → r ≡ r'
or_else_determined κs a s s' r r' p q = p ∙ sym q

pub judge_determined : (κs : _) (a : _) (s s' : _) (r r' : _) → judge.Post κs a r s → judge.Post κs a r' s' → r ≡ r'
judge_determined κs a s s' r r' p q = p ∙ sym q

pub lift_determined : (κs : _) (a : _) (s s' : _) (r r' : _) → lift.Post κs a r s → lift.Post κs a r' s' → r ≡ r'
lift_determined κs a s s' r r' p q = p ∙ sym q

pub signed_determined : (κs : _) (a : _) (s s' : _) (r r' : _) → signed.Post κs a r s → signed.Post κs a r' s' → r ≡ r'
signed_determined κs a s s' r r' p q = p ∙ sym q

pub overlap_determined : (κs : _) (a : _) (s s' : _) (r r' : _) → overlap.Post κs a r s → overlap.Post κs a r' s' → r ≡ r'
overlap_determined κs a s s' r r' p q = p ∙ sym q

pub window_determined : (κs : _) (a : _) (s s' : _) (r r' : _) → window.Post κs a r s → window.Post κs a r' s' → r ≡ r'
window_determined κs a s s' r r' p q = p ∙ sym q

pub shown_in_determined : (κs : _) (a : _) (s s' : _) (r r' : _) → shown_in.Post κs a r s → shown_in.Post κs a r' s' → r ≡ r'
shown_in_determined κs a s s' r r' p q = p ∙ sym q

pub is_empty_determined : (κs : _) (a : _) (s s' : _) (r r' : _) → is_empty.Post κs a r s → is_empty.Post κs a r' s' → r ≡ r'
is_empty_determined κs a s s' r r' p q = p ∙ sym q

pub dab_determined : (κs : _) (a : _) (s s' : _) (r r' : _) → dab.Post κs a r s → dab.Post κs a r' s' → (r ≡ r') × (s.1.0.now ≡ s'.1.0.now)
dab_determined κs a s s' r r' p q = worked_same s.1.0.now s'.1.0.now r r' (p ∙ sym q)

pub fill_in_determined : (κs : _) (a : _) (s s' : _) (r r' : _) → fill_in.Post κs a r s → fill_in.Post κs a r' s' → (r ≡ r') × (s.1.0.now ≡ s'.1.0.now)
fill_in_determined κs a s s' r r' p q = worked_same s.1.0.now s'.1.0.now r r' (p.same ∙ sym q.same)

pub edges_in_determined : (κs : _) (a : _) (s s' : _) (r r' : _) → edges_in.Post κs a r s → edges_in.Post κs a r' s' → (r ≡ r') × (s.1.0.now ≡ s'.1.0.now)
edges_in_determined κs a s s' r r' p q = worked_same s.1.0.now s'.1.0.now r r' (p.same ∙ sym q.same)

pub outline_in_determined : (κs : _) (a : _) (s s' : _) (r r' : _) → outline_in.Post κs a r s → outline_in.Post κs a r' s' → (r ≡ r') × (s.1.0.now ≡ s'.1.0.now)
outline_in_determined κs a s s' r r' p q = worked_same s.1.0.now s'.1.0.now r r' (p.same ∙ sym q.same)
