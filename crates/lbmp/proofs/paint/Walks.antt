-- A walk over words goes on from where it came to, and what it leaves is the image's words with the rest after them.
use mathlib.Core.Path.{◌≡◌, refl, sym, ap, ◌∙◌}
use mathlib.Core.List.{List, ◌++◌}
use Prim.Native.Nat.{ℕ, zero, suc, ◌+◌, ◌-◌, ◌*◌, ◌<◌, ◌≤◌}
use native.Mathlib.Omega.{arith}
use mathlib.Core.Logic.{⊎_elim}
use native.Mathlib.Nat.{eq-zero-or-pos, eq-or-lt_of_le, le_of_suc-le-suc, zero-add, zero-mul}
use native.Mathlib.Numerals.{add-one}
use lib.ListN.{length, get_or, set, drop, length-set, length-append, length-drop, get_or-append}
use lib.Seq.{get_or-set_same, get_or-set_other, get_or-append-add, get_or-drop, ext_get_or}
use Rattle.words.specs.Table.{run}
use Rattle.words.proofs.Table.{run_at}
use Rattle.lbmp.specs.Walk.{swept}

-- ---- a walk's turns

module _ (f : ℕ → ℕ → ℕ) (o : ℕ) where
  pub swept-length : (n : ℕ) (l : List ℕ) → length (swept f o n l) ≡ length l
  unfolding swept
  swept-length zero l = refl
  swept-length (suc n) l = simp length-set (swept-length n l)

pub swept-turn : (f : ℕ → ℕ → ℕ) (n v : ℕ) (l : List ℕ) {l' : List ℕ} → l' ≡ swept f 0 n l → v ≡ f n (get_or l' n 0) → set l' n v ≡ swept f 0 (n + 1) l
unfolding swept
swept-turn f n v l {l'} e g =
    rw (add-one n, zero-add n) (ap (λ (k : ℕ). set l' n k) g ∙ ap (λ (k : List ℕ). set k n (f n (get_or k n 0))) e)

pub rows_none : (f : ℕ → ℕ → ℕ) (w : ℕ) (l : List ℕ) → l ≡ swept f 0 (0 * w) l
unfolding swept
rows_none f w l = rw (zero-mul w) refl

-- ---- what a walk leaves at each place

module _ (f : ℕ → ℕ → ℕ) where
  past : (n i : ℕ) (l : List ℕ) → n ≤ i → get_or (swept f 0 n l) i 0 ≡ get_or l i 0
  unfolding swept
  past zero i l h = refl
  past (suc n) i l h = get_or-set_other (swept f 0 n l) (0 + n) i _ 0 (λ (e : i ≡ 0 + n). omega arith) ∙ past n i l (omega arith)

  same : (n i : ℕ) (l : List ℕ) → i ≡ n → n < length l → get_or (swept f 0 (suc n) l) i 0 ≡ f i (get_or l i 0)
  unfolding swept
  same n i l e g =
      let z : 0 + n ≡ i = omega arith in
      rw z (get_or-set_same (swept f 0 n l) i _ 0 (omega (arith, swept-length f 0 n l)) ∙ ap (f i) (past n i l (omega arith)))

  pub at : (n i : ℕ) (l : List ℕ) → i < n → n ≤ length l → get_or (swept f 0 n l) i 0 ≡ f i (get_or l i 0)
  unfolding swept
  at zero i l h g = absurd (omega arith)
  at (suc n) i l h g =
      ⊎_elim (λ (e : i ≡ n). same n i l e g)
      (λ (k : i < n). get_or-set_other (swept f 0 n l) (0 + n) i _ 0 (λ (e : i ≡ 0 + n). omega arith) ∙ at n i l k (omega arith))
      (eq-or-lt_of_le (le_of_suc-le-suc h))

pub run_length : (g : ℕ → ℕ) (i n : ℕ) → length (run g i n) ≡ n
unfolding run
run_length g i zero = refl
run_length g i (suc n) = ap suc (run_length g (suc i) n)

-- a walk over all of an image's words
pub walked : (f : ℕ → ℕ → ℕ) (g : ℕ → ℕ) (n : ℕ) (l : List ℕ) → n ≤ length l → ((i : ℕ) → i < n → f i (get_or l i 0) ≡ g i)
    → swept f 0 n l ≡ run g 0 n ++ drop n l
walked f g n l h e = ext_get_or 0 _ _ long each
  where
    long : length (swept f 0 n l) ≡ length (run g 0 n ++ drop n l)
    long = swept-length f 0 n l ∙ sym (length-append (run g 0 n) (drop n l) ∙ omega (arith, run_length g 0 n, length-drop n l))

    inside : (i : ℕ) → i < n → get_or (swept f 0 n l) i 0 ≡ get_or (run g 0 n ++ drop n l) i 0
    inside i k = at f n i l k h ∙ e i k ∙ sym (get_or-append (run g 0 n) (drop n l) 0 i (omega (arith, run_length g 0 n)) ∙ run_at g n i k)

    beyond : (i : ℕ) → n ≤ i → get_or (swept f 0 n l) i 0 ≡ get_or (run g 0 n ++ drop n l) i 0
    beyond i k =
        let z : length (run g 0 n) + (i - n) ≡ i = omega (arith, run_length g 0 n) in
        let y : n + (i - n) ≡ i = omega arith in
        past f n i l k ∙ sym (ap (λ (j : ℕ). get_or l j 0) y) ∙ sym (get_or-drop n l (i - n) 0) ∙ sym (get_or-append-add (run g 0 n) (drop n l) (i - n) 0)
        ∙ ap (λ (j : ℕ). get_or (run g 0 n ++ drop n l) j 0) z

    each : (i : ℕ) → i < length (swept f 0 n l) → get_or (swept f 0 n l) i 0 ≡ get_or (run g 0 n ++ drop n l) i 0
    each i _ = ⊎_elim (λ (z : n - i ≡ 0). beyond i (omega arith)) (λ (z : 0 < n - i). inside i (omega arith)) (eq-zero-or-pos (n - i))
