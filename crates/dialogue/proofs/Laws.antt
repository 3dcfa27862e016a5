-- The first line of a text and of its start, a place where nothing is held, and what is written so far.
use Rattle.std.proofs.Common.{List, ◌≡◌, ℕ, ◌+◌, ◌-◌, ◌<◌, ◌≤◌, ◌==◌, not, true, length, take, drop, get_or, slice_range, arith}
use Rattle.std.proofs.Math.ListN.{length-take}
use Rattle.std.proofs.Math.Seq.{get_or-take, take-take, length-take-le}
use Rattle.std.proofs.lemmas.List.Folds.{length-prefix_len}
use Rattle.std.proofs.lemmas.List.Sums.{prefix_len-le-length, prefix_len_is, prefix_len_passes}
use Rattle.std.proofs.lemmas.List.{take_rest}
use Rattle.std.proofs.KnownBytes.{Appends-trans}
use lib.Seq.{take-add}
use Rattle.std.specs.Prelude.{Option}
use Rattle.std.specs.Io.KnownBytes.{Appends}
use Rattle.dialogue.specs.declared.Place.{Place}
use Rattle.dialogue.specs.Line.{first_line, OneLine, Stands}

pub shorter : (s : List ℕ) → length (first_line s) ≤ length s
shorter s = omega (arith, length-prefix_len (λ b. not (b == 10)) s, prefix_len-le-length (λ b. not (b == 10)) s)

-- The start of one line is one.
starts : (s : List ℕ) (n : ℕ) → n ≤ length (first_line s) → OneLine (take n s)
starts s n h =
    let long = length-prefix_len (λ b. not (b == 10)) s in
    let passes : (k : ℕ) → k < n → not (get_or (take n s) k 0 == 10) ≡ true =
    λ k l. rw (get_or-take n s k 0 l) (prefix_len_passes (λ b. not (b == 10)) s k 0 (omega arith)) in
    let e : length (take n s) ≡ n = length-take-le n s (omega (arith, shorter s)) in
    rw (prefix_len_is (λ b. not (b == 10)) (take n s) n 0 (omega arith) passes (λ l. absurd (omega arith)), take-take n n s (omega arith))

-- What begins with one line at a place is one, as far as that goes.
pub line_at : (t : List ℕ) (at m n end : ℕ) → n ≤ length (first_line (take m (drop at t))) → end ≡ at + n → OneLine (slice_range t at end)
line_at t at m n end l e =
    let within : n ≤ m = omega (arith, shorter (take m (drop at t)), length-take m (drop at t)) in
    let z : end - at ≡ n = omega arith in
    rw (z, ← take-take n m (drop at t) within) (starts (take m (drop at t)) n l)

-- Nothing is held.
pub at_rest : (p : Place) (t out : List ℕ) → p.at ≡ 0 → p.end ≡ 0 → p.held ≡ 0 → p.used ≡ 0 → Stands p t out
at_rest p t out a e h u =
    record {
      first = omega arith;
      last = omega arith;
      within = omega arith;
      room = omega arith;
      line = line_at t p.at 0 0 p.end (omega arith) (omega arith);
    }

-- What a write takes stands behind what is written so far.
pub written_more : (a b c : Option (List ℕ)) (s : List ℕ) (done n : ℕ) → Appends a b (take done s) → Appends b c (take n (take (length s - done) (drop done s)))
    → Appends a c (take (done + n) s)
written_more a b c s done n p q = rw (take-add done n s) (Appends-trans a b c _ _ p (rw take_rest at q))
