-- Where the code finds a pixel's bytes, and that what it reads and writes there is the pixel's word.
use mathlib.Core.Path.{◌≡◌, refl, sym, ap, ap₂, ◌∙◌}
use mathlib.Core.List.{List, [], ◌∷◌, ◌++◌, append_assoc}
use Prim.Native.Nat.{ℕ, zero, suc, ◌+◌, ◌-◌, ◌*◌, ◌/◌, ◌%◌, ◌^◌, ◌≤◌, ◌<◌}
use native.Mathlib.Omega.{arith}
use native.Mathlib.Nat.{add-zero, mul-le-mul_right, mul-le-mul_left, le_trans, mul_comm, mul_right_comm, mod-eq_of_lt, pow-suc, div-div-eq-div-mul}
use borrow.Rule.Slice.PartMut.{put_mid}
use lib.Arith.{digits_lt}
use lib.ListN.{length, take, drop, set, length-set}
use lib.Seq.{drop-cons, drop-drop, drop-set-lt, take-suc-set}
use Rattle.std.proofs.lemmas.List.{take-append-drop}
use Rattle.std.specs.Int.{w32, to_le_bytes, from_le_bytes}
use Rattle.words.specs.Format.{Format, rgb332, rgb565, rgb8, argb, abgr, none, format_of, bytes_per_pixel, range}
use Rattle.words.proofs.Laws.{range-bytes}
use Rattle.pixels.specs.declared.Canvas.{Canvas}
use Rattle.pixels.specs.Bytes.{pitch, get, put, load, store, cells, form, size, pixel, extent, folded, load_at, store_at, On, Bounded, Sized}
use Rattle.pixels.specs.Hits.{hit, touch}
use Rattle.pixels.proofs.bytes.Cells.{cap, Bytes, load_lt}
use Rattle.pixels.proofs.bytes.Pixels.{in_row, pixel_fits, pitch-is}

-- ---- words of up to four bytes, as the library reads and writes them

loaded : (s o : ℕ) (b : List ℕ) → s ≤ 4 → o + s ≤ length b → from_le_bytes w32 (take s (drop o b) ++ drop s (0 ∷ 0 ∷ 0 ∷ 0 ∷ [])) ≡ load (cells s o) b
unfolding load cells get
loaded zero o b l h = refl
loaded (suc zero) o b l h = rw (drop-cons b o 0 (omega arith)) (omega arith)
loaded (suc (suc zero)) o b l h = rw (drop-cons b o 0 (omega arith), drop-cons b (suc o) 0 (omega arith)) (omega arith)
loaded (suc (suc (suc zero))) o b l h =
    rw (drop-cons b o 0 (omega arith), drop-cons b (suc o) 0 (omega arith), drop-cons b (suc (suc o)) 0 (omega arith)) (omega arith)
loaded (suc (suc (suc (suc zero)))) o b l h =
    rw (drop-cons b o 0 (omega arith), drop-cons b (suc o) 0 (omega arith), drop-cons b (suc (suc o)) 0 (omega arith), drop-cons b (suc (suc (suc o))) 0 (omega arith))
    (omega arith)
loaded (suc (suc (suc (suc (suc s))))) o b l h = absurd (omega arith)

pub load_is : (s o : ℕ) (b : List ℕ) → s ≤ 4 → o + s ≤ length b → from_le_bytes w32 (take (o + s - o) (drop o b) ++ drop s (0 ∷ 0 ∷ 0 ∷ 0 ∷ [])) ≡ load (cells s o) b
load_is s o b l h = let k : o + s - o ≡ s = omega arith in rw k (loaded s o b l h)

cap_is : (s o : ℕ) → cap (cells s o) ≡ 256 ^ s
unfolding cap cells
cap_is zero o = refl
cap_is (suc s) o = ap (λ (k : ℕ). 256 * k) (cap_is s (suc o)) ∙ mul_comm 256 (256 ^ s) ∙ sym (pow-suc 256 s)

pub word_lt : (s o : ℕ) (b : List ℕ) → Bytes b → load (cells s o) b < 256 ^ s
word_lt s o b h = rw (← cap_is s o) (load_lt (cells s o) b h)

-- a word's s low digits
unfoldable digits : ℕ → ℕ → List ℕ
digits zero w = []
digits (suc s) w = w % 256 ∷ digits s (w / 256)

le_digits : (s w : ℕ) → s ≤ 4 → take s (to_le_bytes w32 w) ≡ digits s w
unfolding digits
le_digits zero w l = refl
le_digits (suc zero) w l = refl
le_digits (suc (suc zero)) w l = refl
le_digits (suc (suc (suc zero))) w l = rw (div-div-eq-div-mul w 256 256) refl
le_digits (suc (suc (suc (suc zero)))) w l = rw (div-div-eq-div-mul w 256 256, div-div-eq-div-mul w 65536 256) refl
le_digits (suc (suc (suc (suc (suc s))))) w l = absurd (omega arith)

digits_laid : (s o : ℕ) (b : List ℕ) (w : ℕ) → o + s ≤ length b → take o b ++ (digits s w ++ drop (o + s) b) ≡ store (cells s o) b w
unfolding store cells put digits
digits_laid zero o b w h = rw (add-zero o) (take-append-drop o b)
digits_laid (suc s) o b w h =
    let b' : List ℕ = set b o (w % 256) in
    let e : o + suc s ≡ suc o + s = omega arith in
    let f : take (suc o) b' ≡ take o b ++ (w % 256 ∷ []) = take-suc-set b o (w % 256) (omega arith) in
    let g : drop (suc o + s) b' ≡ drop (suc o + s) b = drop-set-lt (suc o + s) b o (w % 256) (omega arith) in
    ap (λ (k : ℕ). take o b ++ (w % 256 ∷ (digits s (w / 256) ++ drop k b))) e
    ∙ sym (append_assoc (take o b) (w % 256 ∷ []) (digits s (w / 256) ++ drop (suc o + s) b))
    ∙ ap₂ (λ (x y : List ℕ). x ++ (digits s (w / 256) ++ y)) (sym f) (sym g)
    ∙ digits_laid s (suc o) b' (w / 256) (omega (arith, length-set b o (w % 256)))

pub store_is : (s o : ℕ) (b : List ℕ) (w : ℕ) (ys : List ℕ) → s ≤ 4 → o + s ≤ length b → ys ≡ take s (to_le_bytes w32 w) → put_mid o (o + s - o) b ys ≡ store (cells s o) b w
store_is s o b w ys l h e =
    let k : o + s - o ≡ s = omega arith in
    rw (e, k, le_digits s w l, drop-drop s o b) (digits_laid s o b w h)

-- ---- the bytes of a pixel

pub one_byte : (n : ℕ) → n ≡ 0 → bytes_per_pixel (format_of n) ≡ 1
unfolding format_of bytes_per_pixel
one_byte n e = rw e refl

pub two_bytes : (n : ℕ) → n ≡ 1 → bytes_per_pixel (format_of n) ≡ 2
unfolding format_of bytes_per_pixel
two_bytes n e = rw e refl

pub four_bytes : (n : ℕ) → n ≤ 4 → (n ≡ 0 → ⊥) → (n ≡ 1 → ⊥) → bytes_per_pixel (format_of n) ≡ 4
unfolding format_of bytes_per_pixel
four_bytes zero l h0 h1 = absurd (h0 refl)
four_bytes (suc zero) l h0 h1 = absurd (h1 refl)
four_bytes (suc (suc zero)) l h0 h1 = refl
four_bytes (suc (suc (suc zero))) l h0 h1 = refl
four_bytes (suc (suc (suc (suc zero)))) l h0 h1 = refl
four_bytes (suc (suc (suc (suc (suc n))))) l h0 h1 = absurd (omega arith)

-- a word has one, two or four
pub sized_four : (v : Canvas) (n : ℕ) → v.format ≤ 4 → n ≡ size v → (n ≡ 1 → ⊥) → (n ≡ 2 → ⊥) → size v ≡ 4
sized_four v n l e h1 h2 = four_bytes v.format l (λ z. h1 (e ∙ one_byte v.format z)) (λ z. h2 (e ∙ two_bytes v.format z))

pub scaled : (v : Canvas) (o i k : ℕ) → o ≡ i → size v ≡ k → o * k ≡ i * size v
scaled v o i k e z = rw (e, z) refl

pub unscaled : (v : Canvas) (o i : ℕ) → o ≡ i → size v ≡ 1 → o ≡ i * size v
unscaled v o i e z = rw (e, z) (omega arith)

bytes_le : (f : Format) → bytes_per_pixel f ≤ 4
unfolding bytes_per_pixel
bytes_le rgb332 = omega arith
bytes_le rgb565 = omega arith
bytes_le rgb8 = omega arith
bytes_le argb = omega arith
bytes_le abgr = omega arith
bytes_le none = omega arith

pub word_le : (v : Canvas) (s : ℕ) → size v ≡ s → s ≤ 4
word_le v s e = rw (← e) (bytes_le (form v))

-- ---- how large the products get

pub area-le : (w h : ℕ) → w ≤ 32767 → h ≤ 32767 → h * w ≤ 1073676289
area-le w h hw hh = le_trans (mul-le-mul_right w hh) (mul-le-mul_left 32767 hw)

pub row_index : (v : Canvas) (x y : ℕ) → v.width ≤ v.row → y * v.row + x ≡ y * pitch v + x
row_index v x y h = rw (pitch-is v h) refl

pub index_le : (v : Canvas) (x y : ℕ) → On v x y → Bounded v → y * pitch v + x ≤ 1073676289
index_le v x y o h =
    let k : y * pitch v + x < v.height * pitch v = digits_lt o.down (in_row o) in
    omega (arith, area-le (pitch v) v.height (rw (pitch-is v h.rows) h.tails) h.high)

pub scaled-le : (v : Canvas) (k s : ℕ) → k ≤ 1073676289 → size v ≡ s → k * s ≤ 4294705156
scaled-le v k s h e =
    let q : s ≤ 4 = word_le v s e in
    le_trans (mul-le-mul_right s h) (le_trans (mul-le-mul_left 1073676289 q) (omega arith))

pub row_bytes_le : (v : Canvas) (s n m : ℕ) → s ≡ size v → n ≤ m → s * n ≤ 4 * m
row_bytes_le v s n m e l =
    let q : s ≤ 4 = rw e (bytes_le (form v)) in
    le_trans (mul-le-mul_right n q) (mul-le-mul_left 4 l)

pub words-le : (m n : ℕ) → m ≤ 4294967295 → n ≤ 4294967295 → m * n ≤ 18446744065119617025
words-le m n hm hn = le_trans (mul-le-mul_right n hm) (mul-le-mul_left 4294967295 hn)

-- of a row that is not refused the word of 32 bits holds all
pub folded-is : (v : Canvas) → Bounded v → folded v ≡ extent v
unfolding folded extent
folded-is v h =
    let l : size v * v.row < 4294967296 = omega (arith, row_bytes_le v (size v) v.row 32767 refl h.tails) in
    rw (mod-eq_of_lt l, pitch-is v h.rows) (mul_right_comm (size v) v.row v.height ∙ rw (mul_comm (size v) v.height) (mul_right_comm v.height (size v) v.row))

-- ---- the pixel of s bytes whose number in the rows is i

module _ (v : Canvas) (b : List ℕ) (x y i s : ℕ) (r : Sized v b) (p : On v x y) (e : i ≡ y * pitch v + x) (z : size v ≡ s) where
  pub in_place : i * s + s ≤ length b
  in_place = rw (e, ← z, r.long) (pixel_fits v x y p)

  pub read_is : (w : ℕ) → w ≡ load (cells s (i * s)) b → w ≡ load_at v b x y
  unfolding load_at pixel
  read_is w h = h ∙ rw (e, ← z) refl

  pub read-lt : (w : ℕ) → w < 256 ^ s → w < range (form v)
  read-lt w h = rw (range-bytes (form v), z) h

  pub touch_is : (b' : List ℕ) (f : ℕ → ℕ) (w w' : ℕ) → w ≡ load (cells s (i * s)) b → w' ≡ f w → b' ≡ store (cells s (i * s)) b w' → b' ≡ touch v b (hit f x y)
  unfolding touch load_at store_at pixel
  touch_is b' f w w' h k l = l ∙ rw (k, h, e, ← z) refl

-- ---- the same at an offset

module _ (v : Canvas) (b : List ℕ) (x y o s : ℕ) (r : Sized v b) (p : On v x y) (e : o ≡ (y * pitch v + x) * size v) (z : size v ≡ s) where
  pub in_offset : o + s ≤ length b
  in_offset = rw (e, z) (in_place v b x y (y * pitch v + x) s r p refl z)

  pub read_offset : (w : ℕ) → (w ≡ load (cells s o) b) × (w < 256 ^ s) → (w ≡ load_at v b x y) × (w < range (form v))
  read_offset w h =
      let f : o ≡ (y * pitch v + x) * s = e ∙ ap (λ (k : ℕ). (y * pitch v + x) * k) z in
      (read_is v b x y _ s r p refl z w (h.0 ∙ ap (λ (k : ℕ). load (cells s k) b) f), read-lt v b x y _ s r p refl z w h.1)

  pub touch_offset : (b' : List ℕ) (f : ℕ → ℕ) (w w' : ℕ) → w ≡ load (cells s o) b → w' ≡ f w → b' ≡ store (cells s o) b w' → b' ≡ touch v b (hit f x y)
  unfolding touch load_at store_at pixel
  touch_offset b' f w w' h k l = l ∙ rw (k, h, e, ← z) refl
