-- The words of a row, kind by kind, and its arguments one by one.
use mathlib.Core.List.{List, [], ◌∷◌}
use mathlib.Core.Path.{◌≡◌, refl, sym, ◌∙◌, ap}
use Prim.Native.Nat.{ℕ, ◌+◌, ◌<◌, ◌≤◌}
use native.Mathlib.Numerals.{add-one}
use lib.ListN.{length, drop, get_or, drop_of_length-le}
use lib.Seq.{drop-cons}
use Rattle.cases.specs.Line.{Left, lost, Got, next, or_else, first_of}
use Rattle.cases.specs.Number.{number_of, negative_of, signed_of, numeric, name_of, named_of}
use Rattle.cases.specs.Row.{Args, numbered, seeded, row_length, rule_number, word_of, arg_of, args_from}
use Rattle.cases.specs.Seed.{seed_of, file_of}
use Rattle.cases.specs.declared.ops.Kind.{Kind}
use Rattle.cases.specs.declared.ops.Kind.TheVariants.{Int, Switch, Channel, Seed, Unsigned, File, Rule, Row}

pub other_word : (i : ℕ) (k : Kind) (n : List ℕ) (l : Left) → (k ≡ Rule → ⊥) → ((b : ℕ) → k ≡ Row b → ⊥) → word_of i k n l ≡ numeric k l
unfolding word_of
other_word i Int n l a b = refl
other_word i Switch n l a b = refl
other_word i Channel n l a b = refl
other_word i Seed n l a b = refl
other_word i Unsigned n l a b = refl
other_word i File n l a b = refl
other_word i Rule n l a b = absurd (a refl)
other_word i (Row k) n l a b = absurd (b k refl)

pub other_arg : (i : ℕ) (k : Kind) (g : Got Args) → (k ≡ Seed → ⊥) → (k ≡ File → ⊥) → arg_of i k g ≡ numbered i g (word_of i k g.value.numbers g.left)
unfolding arg_of
other_arg i Int g a b = refl
other_arg i Switch g a b = refl
other_arg i Channel g a b = refl
other_arg i Seed g a b = absurd (a refl)
other_arg i Unsigned g a b = refl
other_arg i File g a b = absurd (b refl)
other_arg i Rule g a b = refl
other_arg i (Row k) g a b = refl

-- What is lost stays lost.
word_lost : (i : ℕ) (k : Kind) (n : List ℕ) → (word_of i k n lost).left ≡ lost
unfolding word_of numeric number_of signed_of negative_of row_length rule_number named_of next first_of or_else
word_lost i Int n = refl
word_lost i Switch n = refl
word_lost i Channel n = refl
word_lost i Seed n = refl
word_lost i Unsigned n = refl
word_lost i File n = refl
word_lost i Rule n = refl
word_lost i (Row k) n = refl

arg_lost : (i : ℕ) (k : Kind) (g : Got Args) → g.left ≡ lost → (arg_of i k g).left ≡ lost
unfolding arg_of seeded numbered seed_of file_of name_of next
arg_lost i Int g e = rw e (word_lost i Int g.value.numbers)
arg_lost i Switch g e = rw e (word_lost i Switch g.value.numbers)
arg_lost i Channel g e = rw e (word_lost i Channel g.value.numbers)
arg_lost i Seed g e = rw e
arg_lost i Unsigned g e = rw e (word_lost i Unsigned g.value.numbers)
arg_lost i File g e = rw e
arg_lost i Rule g e = rw e (word_lost i Rule g.value.numbers)
arg_lost i (Row k) g e = rw e (word_lost i (Row k) g.value.numbers)

pub args_lost : (i : ℕ) (ks : List Kind) (g : Got Args) → g.left ≡ lost → (args_from i ks g).left ≡ lost
unfolding args_from
args_lost i [] g e = e
args_lost i (k ∷ ks) g e = args_lost (i + 1) ks (arg_of i k g) (arg_lost i k g e)

pub one_more : (i : ℕ) (ks : List Kind) (d : Kind) (g : Got Args) → i < length ks
    → args_from i (drop i ks) g ≡ args_from (i + 1) (drop (i + 1) ks) (arg_of i (get_or ks i d) g)
unfolding args_from
one_more i ks d g h =
    ap (λ (s : List Kind). args_from i s g) (drop-cons ks i d h ∙ ap (λ (m : ℕ). get_or ks i d ∷ drop m ks) (sym (add-one i)))

pub all_read : (i : ℕ) (ks : List Kind) (g : Got Args) → length ks ≤ i → args_from i (drop i ks) g ≡ g
unfolding args_from
all_read i ks g h = rw (drop_of_length-le ks h)
