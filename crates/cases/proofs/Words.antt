-- The first word of what is left, and a rule that reads it.
use mathlib.Core.List.{List, [], ◌∷◌}
use mathlib.Core.Bool.{Bool, true, false, ◌&&◌, cond, true≢false}
use mathlib.Core.Path.{◌≡◌, refl, sym, ap}
use Prim.Native.Nat.{ℕ, zero, suc, ◌+◌, ◌<◌, ◌≤◌}
use native.Mathlib.Numerals.{add-one}
use native.Mathlib.Omega.{arith}
use lib.Dec.{eqb}
use lib.ListN.{length, take, drop, get_or, drop_of_length-le}
use lib.Pointwise.{pointwise}
use lib.Seq.{drop-cons}
use Rattle.words.proofs.Either.{both}
use borrow.Author.Tests.{eq-eqb, ne_eqb, eqb-true}
use Rattle.std.specs.Prelude.{◌≢◌, Option, Some, None}
use Rattle.cases.specs.Line.{first_word, other_words, words, lost, words_of, Got, got, after, next}

-- A text that begins with a byte, and one that doesn't.
pub after_byte : (k : ℕ) (w : List ℕ) → pointwise eqb (take 1 w) (k ∷ []) ≡ true → w ≡ k ∷ drop 1 w
after_byte k [] t = absurd (true≢false (sym t))
after_byte k (b ∷ w) t = let e : b ≡ k = eqb-true b k (both (eqb b k) true t).0 in rw e

pub other_byte : (k b : ℕ) (w : List ℕ) → pointwise eqb (take 1 (b ∷ w)) (k ∷ []) ≡ false → eqb b k ≡ false
other_byte k b w t = by (eqb b k) t
  where
    by : (q : Bool) → (q && true) ≡ false → q ≡ false
    by true e = e
    by false e = refl

-- A byte more before the first word.
longer : ℕ → List (List ℕ) → List (List ℕ)
longer b [] = []
longer b (w ∷ ws) = (b ∷ w) ∷ ws

pub word_until : (s : List ℕ) (i : ℕ) → i < length s → get_or s i 0 ≡ 32 → ((k : ℕ) → k < i → get_or s k 0 ≢ 32)
    → first_word s ∷ other_words s ≡ take i s ∷ first_word (drop (suc i) s) ∷ other_words (drop (suc i) s)
unfolding first_word other_words longer
word_until [] i h e n = absurd (omega arith)
word_until (b ∷ s) zero h e n = rw (eq-eqb b 32 e)
word_until (b ∷ s) (suc i) h e n =
    rw (ne_eqb b 32 (n 0 (omega arith)))
    (ap (longer b) (word_until s i (omega arith) e (λ k l. n (suc k) (omega arith))))

pub one_word : (s : List ℕ) → ((k : ℕ) → k < length s → get_or s k 0 ≢ 32) → first_word s ∷ other_words s ≡ s ∷ []
unfolding first_word other_words longer
one_word [] n = refl
one_word (b ∷ s) n = rw (ne_eqb b 32 (n 0 (omega arith))) (ap (longer b) (one_word s (λ k l. n (suc k) (omega arith))))

-- What a rule makes of the first word: of none, of a word byte by byte.
module _ {A : Type 0} (d : A) where
  pub word_read : (o : Option A) (ws us : List (List ℕ)) (a : A) → after d o (words ws) ≡ got a (words us) → (o ≡ Some a) × (ws ≡ us)
  unfolding after
  word_read (Some b) ws us a e =
      let p : b ≡ a = ap (λ (g : Got A). g.value) e in
      let q : words ws ≡ words us = ap (λ (g : Got A). g.left) e in
      let r : ws ≡ us = cc in
      (ap Some p, r)
  word_read None ws us a e =
      let q : lost ≡ words us = ap (λ (g : Got A). g.left) e in
      let z : ⊥ = cc in
      absurd z

  pub word_lost : (o : Option A) (ws : List (List ℕ)) → (after d o (words ws)).left ≡ lost → o ≡ None
  unfolding after
  word_lost (Some b) ws e = cc
  word_lost None ws e = refl

  stops : (f : List ℕ → Option A) (b : ℕ) (w : List ℕ) (ws : List (List ℕ)) (q : Bool) → (q ≡ true → f [] ≡ None) → f (b ∷ w) ≡ None
      → (next d f (words (cond q [] (b ∷ w) ∷ cond q (w ∷ ws) ws))).left ≡ lost
  unfolding next after
  stops f b w ws true m h = rw (m refl)
  stops f b w ws false m h = rw h

  module _ (f : List ℕ → Option A) (text : List ℕ) (i : ℕ) where
    pub at_end : length text ≤ i → next d f (words_of (drop i text)) ≡ after d (f []) (words [])
    unfolding next words_of first_word other_words
    at_end h = rw (drop_of_length-le text h)

    module _ (b : ℕ) (inside : i < length text) (is : b ≡ get_or text i 0) where
      here : drop i text ≡ b ∷ drop (i + 1) text
      here = rw (add-one i, is) (drop-cons text i 0 inside)

      pub at_space : b ≡ 32 → next d f (words_of (drop i text)) ≡ after d (f []) (words_of (drop (i + 1) text))
      unfolding next words_of first_word other_words
      at_space e = rw (here, e)

      pub at_byte : (g : List ℕ → Option A) → (b ≡ 32 → ⊥) → ((w : List ℕ) → f (b ∷ w) ≡ g w) → next d f (words_of (drop i text)) ≡ next d g (words_of (drop (i + 1) text))
      unfolding next words_of first_word other_words
      at_byte g n h = rw (here, ne_eqb b 32 n, h (first_word (drop (i + 1) text)))

      pub at_stop : (b ≡ 32 → f [] ≡ None) → ((w : List ℕ) → f (b ∷ w) ≡ None) → (next d f (words_of (drop i text))).left ≡ lost
      unfolding words_of first_word other_words
      at_stop m h =
          let s = drop (i + 1) text in
          rw here (stops f b (first_word s) (other_words s) (eqb b 32) (λ e. m (eqb-true b 32 e)) (h (first_word s)))

-- A word of one byte, and any other.
module _ (b : ℕ) (n : b ≡ 32 → ⊥) where
  grown : (s : List ℕ) → first_word (b ∷ s) ∷ other_words (b ∷ s) ≡ (b ∷ first_word s) ∷ other_words s
  unfolding first_word other_words
  grown s = rw (ne_eqb b 32 n)

  pub ends_line : (text s : List ℕ) → text ≡ b ∷ s → length s ≡ 0 → first_word text ∷ other_words text ≡ (b ∷ []) ∷ []
  unfolding first_word other_words
  ends_line text [] e z = rw e (grown [])
  ends_line text (a ∷ s) e z = absurd (omega arith)

  pub ends_word : (text s t : List ℕ) → text ≡ b ∷ s → s ≡ 32 ∷ t → first_word text ∷ other_words text ≡ (b ∷ []) ∷ first_word t ∷ other_words t
  unfolding first_word other_words
  ends_word text s t e f = rw (e, f) (grown (32 ∷ t))

  pub goes_on : (text s : List ℕ) → text ≡ b ∷ s → (length s ≡ 0 → ⊥) → pointwise eqb (take 1 s) (32 ∷ []) ≡ false → first_word text ≡ b ∷ [] → ⊥
  unfolding first_word
  goes_on text [] e m t f = m refl
  goes_on text (a ∷ s) e m t f =
      let p : (b ∷ a ∷ first_word s) ≡ b ∷ [] = rw (e, ne_eqb b 32 n, other_byte 32 a s t) at f in
      cc

pub no_word : (b : ℕ) (text : List ℕ) → length text ≡ 0 → first_word text ≡ b ∷ [] → ⊥
unfolding first_word
no_word b [] z e = cc
no_word b (a ∷ s) z e = omega arith

pub other_first : (b a : ℕ) (text s : List ℕ) → text ≡ a ∷ s → (a ≡ b → ⊥) → first_word text ≡ b ∷ [] → ⊥
unfolding first_word
other_first b a text s e n f = by (eqb a 32) (rw e at f)
  where
    by : (t : Bool) → cond t [] (a ∷ first_word s) ≡ b ∷ [] → ⊥
    by true f = cc
    by false f = let p : a ≡ b = cc in n p
