-- A chunk filled word by word, and one laid out word by word.
use mathlib.Core.Path.{◌≡◌, refl, sym, ap, ◌∙◌}
use mathlib.Core.List.{List}
use Prim.Native.Nat.{ℕ, zero, suc, ◌+◌, ◌*◌, ◌-◌, ◌≤◌, ◌<◌}
use native.Mathlib.Omega.{arith}
use native.Mathlib.Decide.{ℕ_discrete}
use native.Mathlib.Nat.{add-zero}
use lib.ListN.{length, get_or, set, length-set}
use lib.Seq.{get_or-set_same, get_or-set_other, ext_get_or}
use Rattle.pixels.specs.declared.Canvas.{Canvas}
use Rattle.pixels.specs.Bytes.{pitch, load, store, cells, size, load_at, On, Sized}
use Rattle.pixels.specs.Hits.{paint}
use Rattle.pixels.specs.Rows.{mark, laid, words_of}
use Rattle.pixels.proofs.bytes.Places.{read_is, touch_is}

-- the first k words are taken
pub record Filled (v : Canvas) (b : List ℕ) (y x k : ℕ) (ws ws₀ : List ℕ) : Type 0 where
  pub word : (i : ℕ) → i < k → get_or ws i 0 ≡ load_at v b (x + i) y
  pub long : length ws ≡ length ws₀

pub filled_none : {v : Canvas} {b : List ℕ} {y x : ℕ} {ws : List ℕ} → Filled v b y x 0 ws ws
filled_none = record { word = λ i l. absurd (omega arith); long = refl }

-- ---- the words of a part of a row

pub words-length : (v : Canvas) (b : List ℕ) (y x n : ℕ) → length (words_of v b y x n) ≡ n
unfolding words_of
words-length v b y x zero = refl
words-length v b y x (suc n) = ap suc (words-length v b y (suc x) n)

word_at : (v : Canvas) (b : List ℕ) (y x n i : ℕ) → i < n → get_or (words_of v b y x n) i 0 ≡ load_at v b (x + i) y
unfolding words_of
word_at v b y x zero i l = absurd (omega arith)
word_at v b y x (suc n) zero l = ap (λ (k : ℕ). load_at v b k y) (sym (add-zero x))
word_at v b y x (suc n) (suc i) l =
    let e : suc x + i ≡ x + suc i = omega arith in
    word_at v b y (suc x) n i (omega arith) ∙ ap (λ (k : ℕ). load_at v b k y) e

pub filled_all : {v : Canvas} {b : List ℕ} {y x k : ℕ} {ws ws₀ : List ℕ} → Filled v b y x k ws ws₀ → length ws₀ ≤ k → ws ≡ words_of v b y x (length ws₀)
filled_all {v} {b} {y} {x} {k} {ws} {ws₀} f l =
    ext_get_or 0 ws (words_of v b y x (length ws₀)) (f.long ∙ sym (words-length v b y x (length ws₀)))
    (λ i m. f.word i (omega (arith, f.long)) ∙ sym (word_at v b y x (length ws₀) i (omega (arith, f.long))))

-- each word is its pixel's
pub record Taken (v : Canvas) (b : List ℕ) (y x : ℕ) (ws : List ℕ) : Type 0 where
  pub word : (i : ℕ) → i < length ws → get_or ws i 0 ≡ load_at v b (x + i) y

pub words-taken : (v : Canvas) (b : List ℕ) (y x n : ℕ) {ws : List ℕ} → ws ≡ words_of v b y x n → Taken v b y x ws
words-taken v b y x n {ws} e = record {
  word = λ i l. ap (λ (ks : List ℕ). get_or ks i 0) e ∙ word_at v b y x n i (omega (arith, ap length e, words-length v b y x n));
}

-- one word more, read at its offset
module _ (v : Canvas) (b : List ℕ) (y x k i s : ℕ) (ws ws₀ : List ℕ) (r : Sized v b) (p : On v (x + k) y) (e : i ≡ y * pitch v + (x + k)) (z : size v ≡ s) where
  pub filled_more : Filled v b y x k ws ws₀ → k < length ws₀ → (w : ℕ) → w ≡ load (cells s (i * s)) b → Filled v b y x (k + 1) (set ws k w) ws₀
  filled_more f l w h = record { word = word; long = length-set ws k w ∙ f.long }
    where
      at : (j : ℕ) → j < k + 1 → Dec (j ≡ k) → get_or (set ws k w) j 0 ≡ load_at v b (x + j) y
      at j m (yes q) = rw q (get_or-set_same ws k w 0 (omega (arith, f.long)) ∙ read_is v b (x + k) y i s r p e z w h)
      at j m (no n) = get_or-set_other ws k j w 0 n ∙ f.word j (omega (arith, n))

      word : (j : ℕ) → j < k + 1 → get_or (set ws k w) j 0 ≡ load_at v b (x + j) y
      word j m = at j m (ℕ_discrete j k)

pub sub-start : (x n : ℕ) → x + n - x ≡ n
sub-start x n = omega arith

-- one word laid at its offset
module _ (v : Canvas) (b : List ℕ) (y x k i s : ℕ) (ws : List ℕ) (r : Sized v b) (p : On v k y) (e : i ≡ y * pitch v + k) (z : size v ≡ s) where
  pub lay_one : (w : ℕ) (b' : List ℕ) → w ≡ get_or ws (k - x) 0 → b' ≡ store (cells s (i * s)) b w → b' ≡ paint v (mark (laid ws x) y k) b
  unfolding mark paint
  lay_one w b' g h = touch_is v b k y i s r p e z b' (laid ws x k y) _ w refl g h
