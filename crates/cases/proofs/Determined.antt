-- The contract of each public function determines its answer and the bytes it leaves: two outcomes that meet it are one.
use mathlib.Core.List.{List}
use mathlib.Core.Path.{◌≡◌, ◌∙◌, sym, ap}
use Prim.Native.Nat.{ℕ}
use Rattle.cases.specs.Case.{Outcome}
use Rattle.cases.proofs.answer.write.Reads as write
use Rattle.cases.proofs.case.read.Reads as read
use Rattle.cases.proofs.fnv.hash.Reads as hash
use Rattle.cases.proofs.fnv.hash_words.Reads as hash_words

pub read_determined : (κs : _) (a : _) (s s' : _) (r r' : _) → read.Post κs a r s → read.Post κs a r' s' → (r ≡ r') × (s.1.0.now ≡ s'.1.0.now) × (s.1.1.0.now ≡ s'.1.1.0.now)
read_determined κs a s s' r r' p q =
    (ap (λ (x : Outcome). x.0) (p ∙ sym q), ap (λ (x : Outcome). x.1) (p ∙ sym q), ap (λ (x : Outcome). x.2) (p ∙ sym q))

pub write_determined : (κs : _) (a : _) (s s' : _) (r r' : _) → write.Post κs a r s → write.Post κs a r' s' → (r ≡ r') × (s.1.0.now ≡ s'.1.0.now)
write_determined κs a s s' r r' p q = (ap (λ (x : ℕ × List ℕ). x.0) (p ∙ sym q), ap (λ (x : ℕ × List ℕ). x.1) (p ∙ sym q))

pub hash_determined : (κs : _) (a : _) (s s' : _) (r r' : _) → hash.Post κs a r s → hash.Post κs a r' s' → r ≡ r'
hash_determined κs a s s' r r' p q = p ∙ sym q

pub hash_words_determined : (κs : _) (a : _) (s s' : _) (r r' : _) → hash_words.Post κs a r s → hash_words.Post κs a r' s' → r ≡ r'
hash_words_determined κs a s s' r r' p q = p ∙ sym q
