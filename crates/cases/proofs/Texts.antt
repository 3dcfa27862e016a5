-- Texts put one behind the other are one text put once.
use mathlib.Core.List.{List, [], ◌∷◌, ◌++◌, append_assoc}
use mathlib.Core.Path.{◌≡◌, refl, sym, ◌∙◌, ap}
use Prim.Native.Nat.{ℕ, zero, suc, ◌+◌, ◌-◌, ◌/◌, ◌%◌, ◌<◌, ◌≤◌}
use native.Mathlib.Omega.{arith}
use native.Mathlib.Numerals.{add-one}
use lib.Seq.{sets}
use Rattle.std.proofs.lemmas.List.Edits.{sets-eq}
use lib.ListN.{length, take, drop, set, length-append, length-set}
use lib.Seq.{set_comm}
use native.Mathlib.Nat.{zero-add}
use native.Mathlib.Numerals.{one-add}
use lib.Dec.{ltb, lit≤}
use mathlib.Core.Bool.{Bool, true, false, cond}
use borrow.Author.Tests.{lt-ltb, le-ltb, ltb-false}
use Rattle.cases.specs.Answer.{glyph, spelled, places, number, status_text, found_text, placed, line_of, answered}
use Rattle.cases.specs.Place.{Wrote}
use Rattle.cases.specs.declared.answer.Found.{Found}
use Rattle.cases.specs.declared.answer.Found.TheVariants.{Count, Argb, Nothing, Image, Icon}
use Rattle.cases.specs.declared.answer.Answer.{Answer}

pub length-placed : (d : List ℕ) (at : ℕ) (t : List ℕ) → length (placed d at t) ≡ length d
unfolding placed
length-placed d at [] = refl
length-placed d at (b ∷ t) = length-placed (set d at b) (at + 1) t ∙ length-set d at b

-- A text behind a text.
pub placed-placed : (d : List ℕ) (at : ℕ) (t u : List ℕ) (m : ℕ) → m ≡ at + length t → placed (placed d at t) m u ≡ placed d at (t ++ u)
unfolding placed
placed-placed d at [] u m e = let z : m ≡ at = omega arith in ap (λ (k : ℕ). placed d k u) z
placed-placed d at (b ∷ t) u m e = placed-placed (set d at b) (at + 1) t u m (omega arith)

pub wrote : (t u d d' d'' : List ℕ) (at m n : ℕ) → Wrote t d at d' m → Wrote u d' m d'' n → Wrote (t ++ u) d at d'' n
wrote t u d d' d'' at m n v w =
    record {
      same = w.same ∙ ap (λ (x : List ℕ). placed x m u) v.same ∙ placed-placed d at t u m v.to;
      to = w.to ∙ ap (λ (k : ℕ). k + length u) v.to ∙ (rw length-append (omega arith));
    }

-- A text put over as many bytes.
placed-sets : (d : List ℕ) (at : ℕ) (t : List ℕ) → placed d at t ≡ sets d at t
unfolding placed
placed-sets d at [] = refl
placed-sets d at (b ∷ t) = rw (add-one at) (placed-sets (set d at b) (suc at) t)

pub placed-is : (d : List ℕ) (at : ℕ) (t : List ℕ) → at + length t ≤ length d → placed d at t ≡ take at d ++ t ++ drop (at + length t) d
placed-is d at t h = placed-sets d at t ∙ sets-eq t d at h

-- A byte put before a text that ends where it stands is that text's last.
pub byte-before : (d : List ℕ) (at : ℕ) (s : List ℕ) (v j : ℕ) → j ≡ at + length s → placed (set d j v) at s ≡ placed d at (s ++ (v ∷ []))
unfolding placed
byte-before d at [] v j e = let z : j ≡ at = omega arith in ap (λ (k : ℕ). set d k v) z
byte-before d at (a ∷ s) v j e =
    ap (λ (x : List ℕ). placed x (at + 1) s) (set_comm d j at v a (λ (z : j ≡ at). omega arith)) ∙
    byte-before (set d at a) (at + 1) s v j (omega arith)

-- One byte more.
pub wrote_byte : (b : ℕ) (d : List ℕ) (at : ℕ) → Wrote (b ∷ []) d at (set d at b) (at + 1)
unfolding placed
wrote_byte b d at = record { same = refl; to = refl }

pub length-spelled : (base k n : ℕ) → length (spelled base k n) ≡ k
unfolding spelled
length-spelled base zero n = refl
length-spelled base (suc k) n = rw (length-append, length-spelled base k (n / base)) (omega arith)

-- The last digit put is the last of the text; the others are still to come.
pub digit_before : (d : List ℕ) (at base i n g : ℕ) → 0 < i → g ≡ glyph (n % base)
    → placed (set d (at + (i - 1)) g) at (spelled base (i - 1) (n / base)) ≡ placed d at (spelled base i n)
unfolding spelled
digit_before d at base zero n g h e = let z : ⊥ = omega arith in absurd z
digit_before d at base (suc i) n g h e =
    let z : suc i - 1 ≡ i = omega arith in
    rw (z, e)
    (byte-before d at (spelled base i (n / base)) (glyph (n % base)) (at + i) (ap (λ (k : ℕ). at + k) (sym (length-spelled base i (n / base)))))

pub all_digits : (d : List ℕ) (at base i n : ℕ) {whole : List ℕ} → i ≤ 0 → placed d at (spelled base i n) ≡ whole → d ≡ whole
unfolding placed spelled
all_digits d at base zero n h e = e
all_digits d at base (suc i) n h e = let z : ⊥ = omega arith in absurd z

-- A number of two digits or more has one place more than without its last.
module _ (base k n : ℕ) where
  pub place-more : k < 20 → base ≤ n → places base (20 - k) n ≡ 1 + places base (20 - (k + 1)) (n / base)
  unfolding places
  place-more h t =
      let z : 20 - k ≡ suc (20 - (k + 1)) = omega arith in rw (z, le-ltb n base t) (sym (one-add (places base (20 - (k + 1)) (n / base))))

  pub place-last : k < 20 → n < base → places base (20 - k) n ≡ 1
  unfolding places
  place-last h t = let z : 20 - k ≡ suc (20 - (k + 1)) = omega arith in rw (z, lt-ltb n base t)

  pub place_end : 20 ≤ k → places base (20 - k) n ≡ 1
  unfolding places
  place_end h = let z : 20 - k ≡ 0 = omega arith in rw z

answered-is : (a : Answer) (d d' : List ℕ) (r : ℕ) → 144 ≤ length d → Wrote (line_of a) d 0 d' r → (r, d') ≡ answered a d
unfolding answered
answered-is a d d' r h w =
    let z : r ≡ length (line_of a) = w.to ∙ zero-add (length (line_of a)) in
    let e : d' ≡ placed d 0 (line_of a) = w.same in rw (le-ltb (length d) 144 h, z, e)

pub written : (a : Answer) (d d' : List ℕ) (r : ℕ) → 144 ≤ length d
    → Wrote
    (((number 256 a.name ++ ((32 ∷ 115 ∷ 116 ∷ 97 ∷ 116 ∷ 117 ∷ 115 ∷ 61 ∷ []) ++ number 10 a.status)) ++ found_text a.found)
    ++ (((32 ∷ 104 ∷ 97 ∷ 115 ∷ 104 ∷ 61 ∷ []) ++ spelled 16 16 a.hash) ++ (10 ∷ []))) d 0 d' r
    → (r, d') ≡ answered a d
unfolding line_of status_text
written a d d' r h w =
    answered-is a d d' r h (simp append_assoc (simp append_assoc at w))

-- No line is longer than 144 bytes.
places-most : (base k n : ℕ) → places base k n ≤ k + 1
unfolding places
places-most base zero n = omega arith
places-most base (suc k) n = fewer (ltb n base) (places-most base k (n / base))
  where
    fewer : (b : Bool) → places base k (n / base) ≤ k + 1 → cond b 1 (suc (places base k (n / base))) ≤ suc k + 1
    fewer true h = omega arith
    fewer false h = omega arith

number-most : (base n : ℕ) → length (number base n) ≤ 20
unfolding number
number-most base n = omega (arith, length-spelled base (places base 19 n) n, places-most base 19 n)

status-most : (a : Answer) → length (status_text a) ≤ 48
unfolding status_text
status-most a = simp length-append (omega (arith, number-most 256 a.name, number-most 10 a.status))

found_most : (f : Found) → length (found_text f) ≤ 73
unfolding found_text
found_most (Count n) = rw length-append (omega (arith, number-most 10 n))
found_most (Argb n) = rw length-append (omega (arith, number-most 10 n))
found_most Nothing = lit≤ tt
found_most (Image w h clear) = simp length-append (omega (arith, number-most 10 w, number-most 10 h, number-most 10 clear))
found_most (Icon w h start) = simp length-append (omega (arith, number-most 10 w, number-most 10 h, number-most 10 start))

line-most : (a : Answer) → length (line_of a) ≤ 144
unfolding line_of
line-most a =
    simp length-append (omega (arith, status-most a, found_most a.found, length-spelled 16 16 a.hash))

-- So what `write` answers is within the buffer.
pub answered-within : (a : Answer) (d : List ℕ) → (answered a d).0 ≤ length d
unfolding answered
answered-within a d = within (ltb (length d) 144) (ltb-false (length d) 144)
  where
    within : (b : Bool) → (b ≡ false → 144 ≤ length d) → (cond {A = ℕ × List ℕ} b (0, d) (length (line_of a), placed d 0 (line_of a))).0 ≤ length d
    within true h = omega arith
    within false h = omega (arith, h refl, line-most a)
