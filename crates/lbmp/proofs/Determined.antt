-- No two outcomes satisfy the contract of a public function: the readings of an answer tell its cases apart.
use mathlib.Core.Path.{◌≡◌, refl, sym, ap, ◌∙◌}
use mathlib.Core.List.{List}
use Prim.Native.Nat.{ℕ}
use native.Mathlib.Omega.{arith}
use Rattle.lbmp.specs.declared.Refusal.{Refusal}
use Rattle.lbmp.specs.declared.Refusal.TheVariants.{Invalid, BadType, Room}
use Rattle.lbmp.specs.declared.Image.{Image}
use Rattle.std.specs.Prelude.{Result, Ok, Err}
use Rattle.lbmp.specs.Faults.{number}
use Rattle.lbmp.specs.Call.{Reading, reads, Outcome, outcome}
use Rattle.lbmp.proofs.Answers.{no_zero}
use Rattle.lbmp.proofs.Refusal.number.Reads as number_of_lem
use Rattle.lbmp.proofs.judge.Reads as judge
use Rattle.lbmp.proofs.decode_lbmp.Reads as decode_lbmp

same_number : (r s : Refusal) → number r ≡ number s → r ≡ s
unfolding number
same_number Invalid Invalid e = refl
same_number Invalid BadType e = absurd (omega arith)
same_number Invalid Room e = absurd (omega arith)
same_number BadType Invalid e = absurd (omega arith)
same_number BadType BadType e = refl
same_number BadType Room e = absurd (omega arith)
same_number Room Invalid e = absurd (omega arith)
same_number Room BadType e = absurd (omega arith)
same_number Room Room e = refl

reads_same : (j k : Result Image Refusal) → reads j ≡ reads k → j ≡ k
unfolding reads
reads_same (Err r) (Err s) e = ap Err (same_number r s (ap (λ (k : Reading). k.status) e))
reads_same (Err r) (Ok i) e = absurd (no_zero r (ap (λ (k : Reading). k.status) e))
reads_same (Ok i) (Err r) e = absurd (no_zero r (sym (ap (λ (k : Reading). k.status) e)))
reads_same (Ok i) (Ok j) e = ap (λ (k : Reading). Ok (record { width = k.width; height = k.height; clear = k.clear })) e

leaves-same : (j k : Result Image Refusal) (ws ws' : List ℕ) → outcome (reads j) ws ≡ outcome (reads k) ws' → (j ≡ k) × (ws ≡ ws')
leaves-same j k ws ws' e = (reads_same j k (ap (λ (o : Outcome). o.answer) e), ap (λ (o : Outcome). o.words) e)

pub number_determined : (κs : _) (a : _) (s s' : _) (r r' : _) → number_of_lem.Post κs a r s → number_of_lem.Post κs a r' s' → r ≡ r'
number_determined κs a s s' r r' p q = p ∙ sym q

pub judge_determined : (κs : _) (a : _) (s s' : _) (r r' : _) → judge.Post κs a r s → judge.Post κs a r' s' → r ≡ r'
judge_determined κs a s s' r r' p q = reads_same r r' (p ∙ sym q)

pub decode_lbmp_determined : (κs : _) (a : _) (s s' : _) (r r' : _) → decode_lbmp.Post κs a r s → decode_lbmp.Post κs a r' s' → (r ≡ r') × (s.1.0.now ≡ s'.1.0.now)
decode_lbmp_determined κs a s s' r r' p q = leaves-same r r' s.1.0.now s'.1.0.now (p ∙ sym q)
