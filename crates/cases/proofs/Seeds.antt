-- Seeds and files word by word, hex digits two by two, and the bytes they give.
use mathlib.Core.Bool.{Bool, true, false, ◌&&◌, cond, true≢false}
use mathlib.Core.List.{List, [], ◌∷◌}
use mathlib.Core.Logic.{◌⊎◌, inl, inr}
use mathlib.Core.Path.{◌≡◌, refl, sym, ◌∙◌, ap}
use Prim.Native.Nat.{ℕ, zero, suc, ◌+◌, ◌*◌, ◌/◌, ◌%◌, ◌<◌, ◌≤◌}
use native.Mathlib.Decide.{dec_le, ℕ_discrete}
use native.Mathlib.Numerals.{add-one}
use native.Mathlib.Omega.{arith}
use lib.Dec.{eqb, ltb, leb}
use native.Mathlib.Nat.{lt_of_not-le}
use lib.ListN.{length, take, drop, get_or, length-drop}
use lib.Seq.{drop-cons, take_all, length-take-le}
use lib.Pointwise.{pointwise}
use borrow.Author.Tests.{le-leb, lt-leb, eq-eqb, ne_eqb, eqb-true}
use Rattle.words.proofs.Either.{both}
use Rattle.std.specs.Prelude.{Option, Some, None}
use Rattle.std.specs.List.{list_all, starts_with}
use Rattle.std.specs.Char.{is_digit, digit_value}
use Rattle.cases.specs.Line.{first_word, other_words, Left, words, lost, words_of, got, after, next}
use Rattle.cases.specs.Number.{natural, letters, number_of, name_of}
use Rattle.cases.specs.Seed.{zeros, counted, given, nibble, byte, before, hexes, given_by, given_hex, counted_by, sowing, seed_of, filled, file_of, turns}
use Rattle.cases.specs.Place.{pairs}
use Rattle.cases.proofs.Words.{word_until, one_word, other_byte, word_read, word_lost}

pub is_nibble : (b : ℕ) → ltb (nibble b) 16 ≡ is_digit b 16
unfolding nibble
is_nibble b = by (digit_value b) (is_digit b 16) refl
  where
    by : (d : ℕ) (t : Bool) → ltb d 16 ≡ t → ltb (cond t d 16) 16 ≡ t
    by d true e = e
    by d false e = refl

abbrev pub all_digits : List ℕ → Bool
all_digits w = list_all (λ b. is_digit b 16) w

two : (s t e d : Bool) (b : ℕ) (bs : List ℕ) → cond s (cond t (before (b ∷ []) (cond (e && d) (Some bs) None)) None) None ≡ cond (e && (s && (t && d))) (Some (b ∷ bs)) None
unfolding before
two true true true true b bs = refl
two true true true false b bs = refl
two true true false d b bs = refl
two true false true d b bs = refl
two true false false d b bs = refl
two false t true d b bs = refl
two false t false d b bs = refl

pub hexes_is : (w : List ℕ) → hexes w ≡ cond (eqb (length w % 2) 0 && all_digits w) (Some (pairs w)) None
unfolding hexes before pairs
hexes_is [] = refl
hexes_is (a ∷ []) = refl
hexes_is (a ∷ b ∷ w) =
    let even : suc (suc (length w)) % 2 ≡ length w % 2 = omega arith in
    rw (even, is_nibble a, is_nibble b, hexes_is w) (two (is_digit a 16) (is_digit b 16) (eqb (length w % 2) 0) (all_digits w) (byte a b) (pairs w))

pub length_pairs : (w : List ℕ) → length (pairs w) ≡ length w / 2
unfolding pairs
length_pairs [] = refl
length_pairs (a ∷ []) = refl
length_pairs (a ∷ b ∷ w) = let e = length_pairs w in omega arith

pub pair_more : (w : List ℕ) (i : ℕ) → 2 * i + 1 < length w
    → pairs (drop (2 * i) w) ≡ byte (get_or w (2 * i) 0) (get_or w (2 * i + 1) 0) ∷ pairs (drop (2 * (i + 1)) w)
unfolding pairs
pair_more w i h =
    let l : 2 * i < length w = omega arith in
    let e : 2 * (i + 1) ≡ suc (suc (2 * i)) = omega arith in
    let f : 2 * i + 1 ≡ suc (2 * i) = omega arith in
    let k : suc (2 * i) < length w = omega arith in
    rw (e, f, drop-cons w (2 * i) 0 l, drop-cons w (suc (2 * i)) 0 k)

pub odd_hex : (w : List ℕ) → (length w % 2 ≡ 0 → ⊥) → None ≡ given_hex w
unfolding given_hex given_by
odd_hex w n = rw (hexes_is w, ne_eqb (length w % 2) 0 n)

pub no_hex : (w : List ℕ) → all_digits w ≡ false → None ≡ given_hex w
unfolding given_hex given_by
no_hex w t = rw (hexes_is w, t) (by (eqb (length w % 2) 0))
  where
    by : (q : Bool) → None ≡ given_by (cond (q && false) (Some (pairs w)) None)
    by true = refl
    by false = refl

pub is_hex : (w : List ℕ) → length w % 2 ≡ 0 → all_digits w ≡ true → Some (given (pairs w)) ≡ given_hex w
unfolding given_hex given_by
is_hex w e t = rw (hexes_is w, t, eq-eqb (length w % 2) 0 e)

pub no_pairs : (w : List ℕ) (i : ℕ) → length w / 2 ≤ i → pairs (drop (2 * i) w) ≡ []
unfolding pairs
no_pairs w i h = short (drop (2 * i) w) (omega (arith, length-drop (2 * i) w))
  where
    short : (w : List ℕ) → length w ≤ 1 → pairs w ≡ []
    short [] l = refl
    short (a ∷ []) l = refl
    short (a ∷ b ∷ w) l = absurd (omega arith)

-- One turn of the number, as the library's products and sums cut it.
pub turn : (n m t u : ℕ) → n ≡ suc m → u ≡ (t * 1664525 + 1013904223) % 4294967296 → turns 1013904223 n t ≡ u / 16777216 ∷ turns 1013904223 m u
unfolding turns
turn n m t u e h = rw (e, h)

-- A name of more than one letter is at least 256, so that a name of one letter is one word.
least_by : (v b : ℕ) (w : List ℕ) (n : ℕ) → ((u : ℕ) → letters u w ≡ Some n → u ≤ n) → letters v (b ∷ w) ≡ Some n → Dec (b ≡ 0) → Dec (v ≤ 281474976710655)
    → (v * 256 + b ≤ n) × (b ≡ 0 → ⊥)
unfolding letters
least_by v b w n more e (yes z) m = let o : cond (eqb b 0) None (cond (leb v 281474976710655) (letters (v * 256 + b) w) None) ≡ None = rw (eq-eqb b 0 z) in cc
least_by v b w n more e (no z) (yes l) = (more (v * 256 + b) (rw (ne_eqb b 0 z, le-leb v 281474976710655 l) at e), z)
least_by v b w n more e (no z) (no l) =
    let o : cond (eqb b 0) None (cond (leb v 281474976710655) (letters (v * 256 + b) w) None) ≡ None = rw (ne_eqb b 0 z, lt-leb v 281474976710655 (lt_of_not-le l)) in cc

least : (w : List ℕ) (n v : ℕ) → letters v w ≡ Some n → v ≤ n
unfolding letters
least [] n v e = let p : v ≡ n = cc in omega arith
least (b ∷ w) n v e = let p = least_by v b w n (least w n) e (ℕ_discrete b 0) (dec_le v 281474976710655) in omega (arith, p.0)

one_letter : (k n : ℕ) (w : List ℕ) → 0 < k → k < 256 → letters 0 w ≡ Some n → n ≡ k → w ≡ k ∷ []
unfolding letters
one_letter k n [] h l e f = let p : 0 ≡ n = cc in absurd (omega arith)
one_letter k n (b ∷ []) h l e f =
    let q = least_by 0 b [] n (least [] n) e (ℕ_discrete b 0) (dec_le 0 281474976710655) in
    let d : Some (0 * 256 + b) ≡ Some n = rw (ne_eqb b 0 q.1) at e in
    let z : 0 * 256 + b ≡ n = cc in
    let p : b ≡ n = omega arith in
    rw (p, f)
one_letter k n (b ∷ a ∷ w) h l e f =
    let q = least_by 0 b (a ∷ w) n (least (a ∷ w) n) e (ℕ_discrete b 0) (dec_le 0 281474976710655) in
    let r : letters (0 * 256 + b) (a ∷ w) ≡ Some n = rw (ne_eqb b 0 q.1) at e in
    let z : 0 * 256 + b ≡ b = omega arith in
    let t = least_by b a w n (least w n) (rw z at r) (ℕ_discrete a 0) (dec_le b 281474976710655) in
    absurd (omega (arith, q.1, t.0))

other_by : (k : ℕ) (w : List ℕ) (l : Left) (o : Option ℕ) → letters 0 w ≡ o → 0 < k → k < 256 → (w ≡ k ∷ [] → ⊥) → (after 0 o l).value ≡ k → ⊥
unfolding after
other_by k w l None e h m n f = omega arith
other_by k w l (Some v) e h m n f = n (one_letter k v w h m e f)

other_name : (k : ℕ) (w : List ℕ) (l : Left) → 0 < k → k < 256 → (w ≡ k ∷ [] → ⊥) → eqb (after 0 (letters 0 w) l).value k ≡ false
other_name k w l h m n = ne_eqb (after 0 (letters 0 w) l).value k (other_by k w l (letters 0 w) refl h m n)

-- The digits of a word, up to its end.
not_space : (b : ℕ) → is_digit b 16 ≡ true → b ≡ 32 → ⊥
not_space b d e = true≢false (sym (rw e at d))

all_first : (text : List ℕ) (i : ℕ) → ((k : ℕ) → k < i → is_digit (get_or text k 0) 16 ≡ true) → all_digits (take i text) ≡ true
all_first text zero d = refl
all_first [] (suc i) d = refl
all_first (b ∷ text) (suc i) d = rw (d 0 (omega arith)) (all_first text i (λ k l. d (suc k) (omega arith)))

not_all : (text : List ℕ) (i : ℕ) → ((k : ℕ) → k < i → is_digit (get_or text k 0) 16 ≡ true) → i < length text → is_digit (get_or text i 0) 16 ≡ false → (get_or text i 0 ≡ 32 → ⊥)
    → all_digits (first_word text) ≡ false
unfolding first_word
not_all [] i d h f n = absurd (omega arith)
not_all (b ∷ text) zero d h f n = rw (ne_eqb b 32 n, f)
not_all (b ∷ text) (suc i) d h f n =
    let e : is_digit b 16 ≡ true = d 0 (omega arith) in
    rw (ne_eqb b 32 (not_space b e), e) (not_all text i (λ k l. d (suc k) (omega arith)) (omega arith) f n)

by_words : (text w : List ℕ) (ws : List (List ℕ)) → first_word text ∷ other_words text ≡ w ∷ ws → next (counted 0) given_hex (words_of text) ≡ after (counted 0) (given_hex w) (words ws)
unfolding next words_of
by_words text w ws e = ap (λ (us : List (List ℕ)). next (counted 0) given_hex (words us)) e

module _ (text : List ℕ) (i : ℕ) (d : (k : ℕ) → k < i → is_digit (get_or text k 0) 16 ≡ true) where
  module _ (inside : i < length text) where
    to_space : get_or text i 0 ≡ 32 → next (counted 0) given_hex (words_of text) ≡ after (counted 0) (given_hex (take i text)) (words_of (drop (i + 1) text))
    unfolding words_of
    to_space e = rw (add-one i) (by_words text (take i text) _ (word_until text i inside e (λ k l. not_space (get_or text k 0) (d k l))))

    pub hex_ends : get_or text i 0 ≡ 32 → i % 2 ≡ 0 → next (counted 0) given_hex (words_of text) ≡ got (given (pairs (take i text))) (words_of (drop (i + 1) text))
    unfolding after
    hex_ends e z =
        let l : length (take i text) ≡ i = length-take-le i text (omega arith) in
        to_space e ∙ rw (← is_hex (take i text) (rw l z) (all_first text i d))

    pub hex_stops : is_digit (get_or text i 0) 16 ≡ false → (get_or text i 0 ≡ 32 → i % 2 ≡ 0 → ⊥) → (next (counted 0) given_hex (words_of text)).left ≡ lost
    unfolding after
    hex_stops f n = by (ℕ_discrete (get_or text i 0) 32)
      where
        by : Dec (get_or text i 0 ≡ 32) → (next (counted 0) given_hex (words_of text)).left ≡ lost
        by (yes e) =
            let l : length (take i text) ≡ i = length-take-le i text (omega arith) in
            rw (to_space e, ← odd_hex (take i text) (λ z. n e (rw l at z)))
        by (no m) = rw (by_words text (first_word text) (other_words text) refl, ← no_hex (first_word text) (not_all text i d inside f m))

  module _ (h : length text ≤ i) where
    to_end : next (counted 0) given_hex (words_of text) ≡ after (counted 0) (given_hex text) (words [])
    to_end = by_words text text [] (one_word text (λ k l. not_space (get_or text k 0) (d k (omega arith))))

    pub hex_ended : length text % 2 ≡ 0 → next (counted 0) given_hex (words_of text) ≡ got (given (pairs text)) (words [])
    unfolding after
    hex_ended z =
        let t : all_digits text ≡ true = rw (take_all i text h) at (all_first text i d) in
        to_end ∙ rw (← is_hex text z t)

    pub hex_odd : (length text % 2 ≡ 0 → ⊥) → (next (counted 0) given_hex (words_of text)).left ≡ lost
    unfolding after
    hex_odd n = rw (to_end, ← odd_hex text n)

-- A seed or a file by its word.
module _ (text : List ℕ) where
  module _ (us : List (List ℕ)) where
    pub is_zeros : first_word text ∷ other_words text ≡ (122 ∷ []) ∷ us → seed_of (words_of text) ≡ got zeros (words us)
    unfolding seed_of name_of next letters after words_of
    is_zeros e = ap (λ (ws : List (List ℕ)). seed_of (words ws)) e

    pub is_none : first_word text ∷ other_words text ≡ (45 ∷ []) ∷ us → file_of (words_of text) ≡ got (given []) (words us)
    unfolding file_of name_of next letters after words_of
    is_none e = ap (λ (ws : List (List ℕ)). file_of (words ws)) e

  pub other_seed : (first_word text ≡ 122 ∷ [] → ⊥) → seed_of (words_of text) ≡ next (counted 0) sowing (words_of text)
  unfolding seed_of name_of next words_of
  other_seed n = rw (other_name 122 (first_word text) (words (other_words text)) (omega arith) (omega arith) n)

  pub other_file : (first_word text ≡ 45 ∷ [] → ⊥) → file_of (words_of text) ≡ next (counted 0) filled (words_of text)
  unfolding file_of name_of next words_of
  other_file n = rw (other_name 45 (first_word text) (words (other_words text)) (omega arith) (omega arith) n)

  pub with_x : text ≡ 120 ∷ drop 1 text → next (counted 0) sowing (words_of text) ≡ next (counted 0) given_hex (words_of (drop 1 text))
  unfolding next sowing words_of first_word other_words
  with_x e = ap (λ (s : List ℕ). next (counted 0) sowing (words_of s)) e

without_x : (text : List ℕ) → pointwise eqb (take 1 text) (120 ∷ []) ≡ false → sowing (first_word text) ≡ counted_by (natural 4294967295 (first_word text))
unfolding sowing natural counted_by first_word
without_x [] t = refl
without_x (b ∷ text) t = by (eqb b 32)
  where
    by : (q : Bool) → sowing (cond q [] (b ∷ first_word text)) ≡ counted_by (natural 4294967295 (cond q [] (b ∷ first_word text)))
    by true = refl
    by false = rw (other_byte 120 b text t)

module _ (text : List ℕ) (t : pointwise eqb (take 1 text) (120 ∷ []) ≡ false) where
  pub no_count : (number_of 4294967295 (words_of text)).left ≡ lost → (next (counted 0) sowing (words_of text)).left ≡ lost
  unfolding number_of next after words_of counted_by
  no_count e = rw (without_x text t, word_lost 0 (natural 4294967295 (first_word text)) (other_words text) e)

  pub a_count : (n : ℕ) (us : List (List ℕ)) → number_of 4294967295 (words_of text) ≡ got n (words us) → next (counted 0) sowing (words_of text) ≡ got (counted n) (words us)
  unfolding number_of next after words_of counted_by
  a_count n us e =
      let p = word_read 0 (natural 4294967295 (first_word text)) (other_words text) us n e in
      rw (without_x text t, p.0, p.1)

pub no_bytes : (text : List ℕ) → (length text ≡ 0) ⊎ (starts_with eqb text (32 ∷ []) ≡ true) → (next (counted 0) filled (words_of text)).left ≡ lost
unfolding next filled after words_of first_word other_words
no_bytes [] o = refl
no_bytes (b ∷ text) (inl z) = absurd (omega arith)
no_bytes (b ∷ text) (inr t) = let e : 32 ≡ b = eqb-true 32 b (both (eqb 32 b) true t).0 in rw (← e)

pub some_bytes : (text : List ℕ) → (length text ≡ 0 → ⊥) → starts_with eqb text (32 ∷ []) ≡ false → next (counted 0) filled (words_of text) ≡ next (counted 0) given_hex (words_of text)
unfolding next filled words_of first_word other_words
some_bytes [] n t = absurd (n refl)
some_bytes (b ∷ text) n t = rw (ne_eqb b 32 (λ e. true≢false (rw (eq-eqb 32 b (sym e)) at t)))
