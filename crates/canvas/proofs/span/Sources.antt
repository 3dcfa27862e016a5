-- The columns whose source is on a source's side, from lifted starts.
use Rattle.std.proofs.Common.{◌≡◌, ℕ, suc, ◌+◌, ◌-◌, ◌<◌, ◌≤◌, min, max, false, ℤ, pos, negsuc, ◌+ℤ◌, ◌-ℤ◌, nat_abs, sym, refl, ap, ◌∙◌, arith, w32, SFits, to_z, of_z}
use native.Mathlib.Decide.{dec_le}
use lib.IntN.{sub_ℕ}
use Rattle.pixels.specs.declared.rows.Span.{Span}
use Rattle.canvas.specs.Clip.{within}
use Rattle.canvas.specs.Boxes.{source_of}
use Rattle.canvas.specs.Walk.{lowered, cut_of, Holds, Cut, Sourced, Shown}
use Rattle.canvas.proofs.span.Spans.{holds_both, span_holds, told_cut}
use Rattle.canvas.proofs.span.Differences.{sub_pos, sub-neg, sub-add, sub-sub}
use Rattle.canvas.proofs.plot.Fates.{side_yes, side-past, side-minus}

as_sub : (k : ℕ) → pos k ≡ sub_ℕ k 0
as_sub k = ap pos (omega arith) ∙ sym (sub_pos k 0 (omega arith))

source_is : (p s i : ℕ) → source_of (lowered p) (lowered s) i ≡ sub_ℕ (s + (i + 2147483648)) (2147483648 + (0 + p))
unfolding lowered
source_is p s i =
    ap (λ (z : ℤ). sub_ℕ s 2147483648 +ℤ z) (ap (λ (z : ℤ). z -ℤ sub_ℕ p 2147483648) (as_sub i) ∙ sub-sub i 0 p 2147483648)
    ∙ sub-add s 2147483648 (i + 2147483648) (0 + p)

pub source_on : (p s i : ℕ) → p ≤ s + i → source_of (lowered p) (lowered s) i ≡ pos (s + i - p)
source_on p s i h = source_is p s i ∙ sub_pos (s + (i + 2147483648)) (2147483648 + (0 + p)) (omega arith) ∙ ap pos (omega arith)

source_off : (p s i : ℕ) → s + i < p → source_of (lowered p) (lowered s) i ≡ negsuc (2147483648 + (0 + p) - suc (s + (i + 2147483648)))
source_off p s i h = source_is p s i ∙ sub-neg (s + (i + 2147483648)) (2147483648 + (0 + p)) (omega arith)

source_holds : (p s m from end : ℕ) → from ≡ p - s → end ≡ p + m - s → Holds (λ i. within (pos 0) m (source_of (lowered p) (lowered s) i)) from end
source_holds p s m from end ef ee = record {
  before = λ i l. ap (within (pos 0) m) (source_off p s i (omega arith)) ∙ side-minus m _;
  inside = λ i l k. ap (within (pos 0) m) (source_on p s i (omega arith)) ∙ side_yes m (s + i - p) (omega arith);
  past = λ i l. go i l (dec_le p (s + i));
}
  where
    go : (i : ℕ) → end ≤ i → Dec (p ≤ s + i) → within (pos 0) m (source_of (lowered p) (lowered s) i) ≡ false
    go i l (yes h) = ap (within (pos 0) m) (source_on p s i h) ∙ side-past m (s + i - p) (omega arith)
    go i l (no h) = ap (within (pos 0) m) (source_off p s i (omega arith)) ∙ side-minus m _

low_of : (a b lo from : ℕ) → lo ≡ max a b → lo ≤ from → b ≤ from
low_of a b lo from e l = omega arith

high_of : (a b end to : ℕ) → end ≡ min a b → to ≤ end → to ≤ b
high_of a b end to e l = omega arith

begin_of : (p s from : ℕ) → p - s ≤ from → p ≤ from + s
begin_of p s from h = omega arith

end_of : (p s m from to : ℕ) → p - s ≤ from → to ≤ p + m - s → from < to → from + s - p + (to - from) ≤ m
end_of p s m from to h k l = omega arith

-- what `shown_in` answers
pub shown-is : (p s len m : ℕ) (c : ℤ) (k n : ℕ) (r : Span) → SFits w32 c → r ≡ cut_of (max (p - 2147483648) (p - s)) (min (p + len - 2147483648) (p + m - s)) (to_z w32 (of_z w32 c)) k n
    → Shown p s len m (to_z w32 (of_z w32 c)) k n r.from r.to
shown-is p s len m c k n r f e = record {
  ordered = cut.ordered;
  held = cut.held;
  same = cut.same _ (holds_both (span_holds p len _ _ refl refl) (source_holds p s m _ _ refl refl));
  sourced = record {
    begins = λ l. begin_of p s r.from (starts l);
    ends = λ l. end_of p s m r.from r.to (starts l) (high_of (p + len - 2147483648) (p + m - s) _ r.to refl (cut.ends l)) l;
  };
}
  where
    cut : Cut (max (p - 2147483648) (p - s)) (min (p + len - 2147483648) (p + m - s)) (to_z w32 (of_z w32 c)) k n r.from r.to
    cut = told_cut c f e

    starts : r.from < r.to → p - s ≤ r.from
    starts l = low_of (p - 2147483648) (p - s) _ r.from refl (cut.begins l)

-- the source of a column that is shown
pub source_at : (p s m from to i : ℕ) → Sourced p s m from to → from ≤ i → i < from + (to - from) → nat_abs (source_of (lowered p) (lowered s) i) ≡ from + s - p + (i - from)
source_at p s m from to i h l k =
    let b : p ≤ from + s = h.begins (omega arith) in
    ap nat_abs (source_on p s i (omega arith)) ∙ at i b l
  where
    at : (i : ℕ) → p ≤ from + s → from ≤ i → s + i - p ≡ from + s - p + (i - from)
    at i b l = omega arith
