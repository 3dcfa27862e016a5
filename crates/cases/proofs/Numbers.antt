-- Numbers and names, letter by letter.
use mathlib.Core.Bool.{Bool, true, false, ◌&&◌, cond, true≢false}
use mathlib.Core.List.{List, [], ◌∷◌}
use mathlib.Core.Logic.{◌⊎◌, inl, inr}
use mathlib.Core.Path.{◌≡◌, refl, sym, ◌∙◌, ap}
use Prim.Native.Nat.{ℕ, zero, suc, ◌+◌, ◌-◌, ◌*◌, ◌%◌, ◌<◌, ◌≤◌}
use native.Mathlib.Numerals.{add-one}
use native.Mathlib.Omega.{arith}
use lib.Dec.{eqb, leb}
use lib.Pointwise.{pointwise}
use lib.ListN.{length, take, drop, get_or}
use borrow.Author.Tests.{le-leb, lt-leb, eq-eqb, ne_eqb, eqb-true, leb-true}
use Rattle.std.proofs.lemmas.List.Elements.{All-head, All-tail}
use Rattle.words.proofs.Either.{both}
use Rattle.std.specs.Prelude.{◌≢◌, Option, Some, None, All}
use Rattle.std.specs.Borrow.{Bor}
use Rattle.cases.specs.Line.{first_word, other_words, Left, words, lost, words_of, got, after, next, or_else, first_of}
use Rattle.cases.specs.Number.{accepts, digits, natural, minus, negative, number_of, negative_of, signed_of, numeric, behind, named_of, letters, name_of}
use Rattle.cases.specs.Place.{left_of}
use Rattle.cases.specs.declared.ops.Kind.{Kind}
use Rattle.cases.specs.declared.ops.Kind.TheVariants.{Int, Switch, Channel, Seed, Unsigned, File, Rule, Row}
use Rattle.cases.proofs.Words.{other_byte, word_read, word_lost, at_end, at_space, at_byte, at_stop}

-- What is a number from its first byte on, and from its second on.
unfoldable pub from_byte : ℕ → ℕ → ℕ → List ℕ → Option ℕ
from_byte most zero v = natural most
from_byte most (suc i) v = digits most v

begun : (most i v b : ℕ) (w : List ℕ) → (i ≡ 0 → v ≡ 0) → from_byte most i v (b ∷ w) ≡ digits most v (b ∷ w)
unfolding from_byte natural
begun most zero v b w z = ap (λ (k : ℕ). digits most k (b ∷ w)) (sym (z refl))
begun most (suc i) v b w z = refl

ended : (most i v : ℕ) → (i ≡ 0 → ⊥) → from_byte most i v [] ≡ Some v
unfolding from_byte digits
ended most zero v n = absurd (n refl)
ended most (suc i) v n = refl

unbegun : (most i v : ℕ) → i ≡ 0 → from_byte most i v [] ≡ None
unfolding from_byte natural
unbegun most zero v z = refl
unbegun most (suc i) v z = absurd (omega arith)

no_digit : (most v b : ℕ) → (b < 48) ⊎ (57 < b) → accepts most v b ≡ false
unfolding accepts
no_digit most v b (inl l) = rw (lt-leb 48 b l)
no_digit most v b (inr h) = let l : 48 ≤ b = omega arith in rw (le-leb 48 b l, lt-leb b 57 h)

-- A number byte by byte: what is left to read, after the value so far, is what was there to read.
module _ (most : ℕ) (text : List ℕ) (i v : ℕ) (z : i ≡ 0 → v ≡ 0) (s : number_of most (words_of text) ≡ next 0 (from_byte most i v) (words_of (drop i text))) where
  module _ (b : ℕ) (inside : i < length text) (is : b ≡ get_or text i 0) where
    pub number_ends : b ≡ 32 → (i ≡ 0 → ⊥) → number_of most (words_of text) ≡ got v (words_of (drop (i + 1) text))
    unfolding after
    number_ends e n = s ∙ at_space 0 (from_byte most i v) text i b inside is e ∙ rw (ended most i v n)

    pub number_stops : (b ≡ 32 → i ≡ 0) → (b < 48) ⊎ (57 < b) → (number_of most (words_of text)).left ≡ lost
    unfolding digits
    number_stops n o =
        rw s
        (at_stop 0 (from_byte most i v) text i b inside is (λ e. unbegun most i v (n e)) (λ w. begun most i v b w z ∙ rw (no_digit most v b o)))

    module _ (low : 48 ≤ b) (high : b ≤ 57) where
      pub number_beyond : most < v * 10 + (b - 48) → (number_of most (words_of text)).left ≡ lost
      unfolding digits accepts
      number_beyond h =
          rw s
          (at_stop 0 (from_byte most i v) text i b inside is (λ e. absurd (omega arith))
          (λ w. begun most i v b w z ∙ rw (le-leb 48 b low, le-leb b 57 high, lt-leb (v * 10 + (b - 48)) most h)))

      pub number_more : v * 10 + (b - 48) ≤ most
          → number_of most (words_of text) ≡ next 0 (from_byte most (i + 1) (v * 10 + (b - 48))) (words_of (drop (i + 1) text))
      unfolding digits accepts from_byte
      number_more h =
          s ∙
          at_byte 0 (from_byte most i v) text i b inside is (from_byte most (i + 1) (v * 10 + (b - 48))) (λ e. omega (arith, low))
          (λ w. begun most i v b w z ∙ rw (add-one i, le-leb 48 b low, le-leb b 57 high, le-leb (v * 10 + (b - 48)) most h))

  pub number_ended : length text ≤ i → (length text ≡ 0 → ⊥) → number_of most (words_of text) ≡ got v (words [])
  unfolding after
  number_ended h n = s ∙ at_end 0 (from_byte most i v) text i h ∙ rw (ended most i v (λ e. n (omega arith)))

pub no_number : (most : ℕ) (text : List ℕ) → length text ≡ 0 → (number_of most (words_of text)).left ≡ lost
unfolding number_of words_of first_word other_words next after natural
no_number most [] z = refl
no_number most (b ∷ w) z = absurd (omega arith)

-- A name letter by letter.
module _ (text : List ℕ) (i v : ℕ) (s : name_of (words_of text) ≡ next 0 (letters v) (words_of (drop i text))) where
  module _ (b : ℕ) (inside : i < length text) (is : b ≡ get_or text i 0) where
    pub name_ends : b ≡ 32 → name_of (words_of text) ≡ got v (words_of (drop (i + 1) text))
    unfolding after letters
    name_ends e = s ∙ at_space 0 (letters v) text i b inside is e

    module _ (n : b ≡ 32 → ⊥) where
      pub no_letter : b ≡ 0 → (name_of (words_of text)).left ≡ lost
      unfolding letters
      no_letter z = rw s (at_stop 0 (letters v) text i b inside is (λ e. absurd (n e)) (λ w. rw (eq-eqb b 0 z)))

      module _ (m : b ≡ 0 → ⊥) where
        pub too_long : 281474976710655 < v → (name_of (words_of text)).left ≡ lost
        unfolding letters
        too_long l = rw s (at_stop 0 (letters v) text i b inside is (λ e. absurd (n e)) (λ w. rw (ne_eqb b 0 m, lt-leb v 281474976710655 l)))

        pub name_more : v ≤ 281474976710655 → name_of (words_of text) ≡ next 0 (letters (v * 256 + b)) (words_of (drop (i + 1) text))
        unfolding letters
        name_more l = s ∙ at_byte 0 (letters v) text i b inside is (letters (v * 256 + b)) n (λ w. rw (ne_eqb b 0 m, le-leb v 281474976710655 l))

  pub name_ended : length text ≤ i → name_of (words_of text) ≡ got v (words [])
  unfolding after letters
  name_ended h = s ∙ at_end 0 (letters v) text i h

-- A text that begins with a name, in which is no space, and one that doesn't.
pub with_name : (name text : List ℕ) → All (λ b. b ≢ 32) name → pointwise eqb (take (length name) text) name ≡ true
    → next 0 (behind name) (words_of text) ≡ number_of 4294967295 (words_of (drop (length name) text))
unfolding number_of next words_of first_word other_words behind
with_name [] text n t = refl
with_name (k ∷ ks) [] n t = absurd (true≢false (sym t))
with_name (k ∷ ks) (b ∷ text) n t =
    let p = both (eqb b k) (pointwise eqb (take (length ks) text) ks) t in
    let e : b ≡ k = eqb-true b k p.0 in
    let m : b ≡ 32 → ⊥ = λ (z : b ≡ 32). All-head (λ b. b ≢ 32) k ks n (sym e ∙ z) in
    rw (ne_eqb b 32 m, p.0) (with_name ks text (All-tail (λ b. b ≢ 32) k ks n) p.1)

pub without_name : (name text : List ℕ) → All (λ b. b ≢ 32) name → pointwise eqb (take (length name) text) name ≡ false
    → (next 0 (behind name) (words_of text)).left ≡ lost
unfolding next words_of first_word other_words behind after
without_name [] text n t = absurd (true≢false t)
without_name (k ∷ ks) [] n t = refl
without_name (k ∷ ks) (b ∷ text) n t = by (eqb b 32) (behind_by (eqb b k) t (without_name ks text (All-tail (λ b. b ≢ 32) k ks n)))
  where
    p : Bool
    p = pointwise eqb (take (length ks) text) ks

    behind_by : (r : Bool) → (r && p) ≡ false → (p ≡ false → (next 0 (behind ks) (words_of text)).left ≡ lost)
        → (after 0 (cond r (behind ks (first_word text)) None) (words (other_words text))).left ≡ lost
    behind_by true t m = m t
    behind_by false t m = refl

    by : (q : Bool) → (after 0 (cond (eqb b k) (behind ks (first_word text)) None) (words (other_words text))).left ≡ lost
        → (after 0 (behind (k ∷ ks) (cond q [] (b ∷ first_word text))) (words (cond q (first_word text ∷ other_words text) (other_words text)))).left ≡ lost
    by true m = refl
    by false m = m

-- A number is at most so much.
still_within : (most v b : ℕ) → accepts most v b ≡ true → v * 10 + (b - 48) ≤ most
unfolding accepts
still_within most v b t = by (leb 48 b) (leb b 57) t
  where
    by : (l h : Bool) → cond l (cond h (leb (v * 10 + (b - 48)) most) false) false ≡ true → v * 10 + (b - 48) ≤ most
    by true true t = leb-true (v * 10 + (b - 48)) most t
    by true false t = absurd (true≢false (sym t))
    by false h t = absurd (true≢false (sym t))

at_most : (most v n : ℕ) (w : List ℕ) → v ≤ most → digits most v w ≡ Some n → n ≤ most
unfolding digits
at_most most v n [] h e = let p : v ≡ n = cc in omega arith
at_most most v n (b ∷ w) h e = by (accepts most v b) (λ a. at_most most (v * 10 + (b - 48)) n w (still_within most v b a)) e
  where
    by : (t : Bool) → (t ≡ true → digits most (v * 10 + (b - 48)) w ≡ Some n → n ≤ most) → cond t (digits most (v * 10 + (b - 48)) w) None ≡ Some n → n ≤ most
    by true more e = more refl e
    by false more e = let z : ⊥ = cc in absurd z

natural_at_most : (most n : ℕ) (w : List ℕ) → natural most w ≡ Some n → n ≤ most
unfolding natural
natural_at_most most n [] e = let z : ⊥ = cc in absurd z
natural_at_most most n (b ∷ w) e = at_most most 0 n (b ∷ w) (omega arith) e

-- A number, or a minus and a number.
module _ (text : List ℕ) (e : text ≡ 45 ∷ drop 1 text) where
  minus_is : signed_of (words_of text) ≡ next 0 (λ w. minus (natural 2147483648 w)) (words_of (drop 1 text))
  unfolding signed_of number_of negative_of words_of first_word other_words next natural digits accepts negative first_of or_else after
  minus_is = ap (λ (x : List ℕ). signed_of (words_of x)) e

  pub no_negative : (number_of 2147483648 (words_of (drop 1 text))).left ≡ lost → (signed_of (words_of text)).left ≡ lost
  unfolding number_of next words_of minus after
  no_negative n = rw (minus_is, word_lost 0 (natural 2147483648 (first_word (drop 1 text))) (other_words (drop 1 text)) n)

  pub a_negative : (n r : ℕ) (us : List (List ℕ)) → number_of 2147483648 (words_of (drop 1 text)) ≡ got n (words us) → r < 4294967296 → (r + n) % 4294967296 ≡ 0
      → signed_of (words_of text) ≡ got r (words us)
  unfolding number_of next words_of minus after
  a_negative n r us h l z =
      let p = word_read 0 (natural 2147483648 (first_word (drop 1 text))) (other_words (drop 1 text)) us n h in
      let m : n ≤ 2147483648 = natural_at_most 2147483648 n (first_word (drop 1 text)) p.0 in
      let bits : (4294967296 - n) % 4294967296 ≡ r = omega arith in
      rw (minus_is, p.0, p.1, bits)

first-or : (v : Option ℕ) (ws : List (List ℕ)) → first_of (after 0 v (words ws)) (got 0 lost) ≡ after 0 v (words ws)
unfolding first_of or_else after
first-or None ws = refl
first-or (Some n) ws = refl

pub plain_number : (text : List ℕ) → pointwise eqb (take 1 text) (45 ∷ []) ≡ false → number_of 2147483647 (words_of text) ≡ signed_of (words_of text)
unfolding signed_of number_of negative_of words_of first_word other_words next negative after
plain_number [] t = sym (first-or (natural 2147483647 []) [])
plain_number (b ∷ w) t = by (eqb b 32)
  where
    by : (q : Bool) → number_of 2147483647 (words (cond q [] (b ∷ first_word w) ∷ cond q (first_word w ∷ other_words w) (other_words w)))
        ≡ signed_of (words (cond q [] (b ∷ first_word w) ∷ cond q (first_word w ∷ other_words w) (other_words w)))
    by true = sym (first-or (natural 2147483647 []) (first_word w ∷ other_words w))
    by false = rw (other_byte 45 b w t) (sym (first-or (natural 2147483647 (b ∷ first_word w)) (other_words w)))

-- Nothing is left of a line, for each kind.
pub numeric_lost : (k : Kind) → (numeric k (words [])).left ≡ lost
unfolding numeric number_of signed_of negative_of next first_of or_else
numeric_lost Int = refl
numeric_lost Switch = refl
numeric_lost Channel = refl
numeric_lost Seed = refl
numeric_lost Unsigned = refl
numeric_lost File = refl
numeric_lost Rule = refl
numeric_lost (Row k) = refl

pub other_kind : (k : Kind) (l : Left) → (k ≡ Int → ⊥) → (k ≡ Switch → ⊥) → (k ≡ Channel → ⊥) → number_of 4294967295 l ≡ numeric k l
unfolding numeric
other_kind Int l a b c = absurd (a refl)
other_kind Switch l a b c = absurd (b refl)
other_kind Channel l a b c = absurd (c refl)
other_kind Seed l a b c = refl
other_kind Unsigned l a b c = refl
other_kind File l a b c = refl
other_kind Rule l a b c = refl
other_kind (Row k) l a b c = refl

-- A word of a name is read, and any other stays.
module _ (name : List ℕ) (absent : ℕ) where
  pub no_named : (l : Option (Bor (List ℕ))) → ((s : Bor (List ℕ)) → l ≡ Some s → ⊥) → named_of name absent (left_of l) ≡ got absent (left_of l)
  unfolding named_of next first_of or_else
  no_named None n = refl
  no_named (Some s) n = absurd (n s refl)

  module _ (l : Left) where
    pub is_named : (n : ℕ) (us : List (List ℕ)) → next 0 (behind name) l ≡ got n (words us) → named_of name absent l ≡ got n (words us)
    unfolding named_of first_of or_else
    is_named n us e = rw e

    pub is_other : (next 0 (behind name) l).left ≡ lost → named_of name absent l ≡ got absent l
    unfolding named_of first_of or_else
    is_other e = rw e
