-- No two outcomes satisfy the contract of a public function: it is one equation for the answer and everything lent.
use mathlib.Core.Path.{◌≡◌, sym, ap, ◌∙◌}
use Rattle.canvas.proofs.Determined.{leaves-same}
use Rattle.replies.specs.Replies.{Reply}
use Rattle.replies.proofs.calls.call.Reads as call
use Rattle.replies.proofs.line.reply.Reads as reply

pub call_determined : (κs : _) (a : _) (s s' : _) (r r' : _) → call.Post κs a r s → call.Post κs a r' s'
    → (r ≡ r') × (s.1.1.1.1.1.1.0.now ≡ s'.1.1.1.1.1.1.0.now)
call_determined κs a s s' r r' p q = leaves-same r r' s.1.1.1.1.1.1.0.now s'.1.1.1.1.1.1.0.now (p ∙ sym q)

pub reply_determined : (κs : _) (a : _) (s s' : _) (r r' : _) → reply.Post κs a r s → reply.Post κs a r' s'
    → (r ≡ r')
    × ((s.1.0.now ≡ s'.1.0.now)
    × ((s.1.1.0.now ≡ s'.1.1.0.now) × ((s.1.1.1.0.now ≡ s'.1.1.1.0.now) × (s.1.1.1.1.0.now ≡ s'.1.1.1.1.0.now))))
reply_determined κs a s s' r r' p q =
    let h = p ∙ sym q in
    (ap (λ (o : Reply). o.long) h, (ap (λ (o : Reply). o.bytes) h, (ap (λ (o : Reply). o.image) h, (ap (λ (o : Reply). o.words) h, ap (λ (o : Reply). o.out) h))))
