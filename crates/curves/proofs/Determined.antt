-- No two answers meet the contract of a public function: each is an equation for the answer, or says that it is the first of its
-- kind. Only `spots_from` is lent what it writes.
use Rattle.std.proofs.Common.{◌≡◌, sym, ◌∙◌}
use Rattle.curves.proofs.Runs.{one-next}
use Rattle.curves.proofs.Near.{one-run}
use Rattle.curves.proofs.bulges.first.Reads as first
use Rattle.curves.proofs.bulges.part.Reads as part
use Rattle.curves.proofs.bulges.pie_side.Reads as pie-side
use Rattle.curves.proofs.bulges.round_side.Reads as round_side
use Rattle.curves.proofs.corners.corner.Reads as corner
use Rattle.curves.proofs.corners.corners_in.Reads as corners_in
use Rattle.curves.proofs.corners.inset.Reads as inset
use Rattle.curves.proofs.corners.radius.Reads as radius
use Rattle.curves.proofs.oval.oval_in.Reads as oval_in
use Rattle.curves.proofs.pies.pie_in.Reads as pie_in
use Rattle.curves.proofs.pies.all_round.Reads as all_round
use Rattle.curves.proofs.pies.next.Reads as next
use Rattle.curves.proofs.strokes.spots_from.Reads as spots-from
use Rattle.curves.proofs.strokes.steps.Reads as steps

corner_determined : (κs : _) (a : _) (s s' : _) (r r' : _) → corner.Post κs a r s → corner.Post κs a r' s' → r ≡ r'
corner_determined κs a s s' r r' p q = p ∙ sym q

corners_in_determined : (κs : _) (a : _) (s s' : _) (r r' : _) → corners_in.Post κs a r s → corners_in.Post κs a r' s' → r ≡ r'
corners_in_determined κs a s s' r r' p q = p ∙ sym q

inset_determined : (κs : _) (a : _) (s s' : _) (r r' : _) → inset.Post κs a r s → inset.Post κs a r' s' → r ≡ r'
inset_determined κs a s s' r r' p q = p ∙ sym q

radius_determined : (κs : _) (a : _) (s s' : _) (r r' : _) → radius.Post κs a r s → radius.Post κs a r' s' → r ≡ r'
radius_determined κs a s s' r r' p q = p ∙ sym q

oval_in_determined : (κs : _) (a : _) (s s' : _) (r r' : _) → oval_in.Post κs a r s → oval_in.Post κs a r' s' → r ≡ r'
oval_in_determined κs a s s' r r' p q = p ∙ sym q

pie_in_determined : (κs : _) (a : _) (s s' : _) (r r' : _) → pie_in.Post κs a r s → pie_in.Post κs a r' s' → r ≡ r'
pie_in_determined κs a s s' r r' p q = p ∙ sym q

all_round_determined : (κs : _) (a : _) (s s' : _) (r r' : _) → all_round.Post κs a r s → all_round.Post κs a r' s' → r ≡ r'
all_round_determined κs a s s' r r' p q = p ∙ sym q

next_determined : (κs : _) (a : _) (s s' : _) (r r' : _) → next.Post κs a r s → next.Post κs a r' s' → r ≡ r'
next_determined κs a s s' r r' p q = one-next p q

steps_determined : (κs : _) (a : _) (s s' : _) (r r' : _) → steps.Post κs a r s → steps.Post κs a r' s' → r ≡ r'
steps_determined κs a s s' r r' p q = p.0 ∙ sym q.0

spots_from_determined : (κs : _) (a : _) (s s' : _) (r r' : _) → spots-from.Post κs a r s → spots-from.Post κs a r' s'
    → (s.1.1.1.1.1.0.now ≡ s'.1.1.1.1.1.0.now) × (s.1.1.1.1.1.1.0.now ≡ s'.1.1.1.1.1.1.0.now)
spots_from_determined κs a s s' r r' p q = (p.0 ∙ sym q.0, p.1 ∙ sym q.1)

part_determined : (κs : _) (a : _) (s s' : _) (r r' : _) → part.Post κs a r s → part.Post κs a r' s' → r ≡ r'
part_determined κs a s s' r r' p q = p ∙ sym q

first_determined : (κs : _) (a : _) (s s' : _) (r r' : _) → first.Post κs a r s → first.Post κs a r' s' → r ≡ r'
first_determined κs a s s' r r' p q = one-run p q

pie_side_determined : (κs : _) (a : _) (s s' : _) (r r' : _) → pie-side.Post κs a r s → pie-side.Post κs a r' s' → r ≡ r'
pie_side_determined κs a s s' r r' p q = p ∙ sym q

round_side_determined : (κs : _) (a : _) (s s' : _) (r r' : _) → round_side.Post κs a r s → round_side.Post κs a r' s' → r ≡ r'
round_side_determined κs a s s' r r' p q = p ∙ sym q
