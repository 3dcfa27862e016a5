-- The laws of the word at a pixel: later files use these and know nothing of offsets.
use mathlib.Core.Path.{◌≡◌, refl, sym, ap, ◌∙◌}
use mathlib.Core.Logic.{◌≢◌}
use mathlib.Core.List.{List}
use Prim.Native.Nat.{ℕ, zero, suc, ◌+◌, ◌*◌, ◌/◌, ◌%◌, ◌≤◌, ◌<◌}
use native.Mathlib.Omega.{arith}
use native.Mathlib.Nat.{mul-le-mul_right, suc-mul, lt_of_lt_of_le, le-max_left, max-eq_right}
use lib.Arith.{digits_lt, digits_div, digits_mod}
use lib.ListN.{length}
use Rattle.words.specs.Format.{Format, rgb332, rgb565, rgb8, argb, abgr, none, bytes_per_pixel, range}
use Rattle.pixels.specs.declared.Canvas.{Canvas}
use Rattle.pixels.specs.Bytes.{pitch, Cell, byte, get, cells, form, size, pixel, extent, load_at, store_at, On, Bounded, Sized}
use Rattle.pixels.proofs.bytes.Cells.{cap, Bytes, Each, also, Apart, apart-far, Distinct, one, more, Aparts, end, next, Inside}
use Rattle.pixels.proofs.bytes.Cells as in_cells

-- two pixels are not one
abbrev pub Other : ℕ → ℕ → ℕ → ℕ → Type 0
Other x y x' y' = x ≡ x' → y ≡ y' → ⊥

-- ---- runs of cells

cells_in : (s o n : ℕ) (b : List ℕ) → length b ≡ n → o + s ≤ n → Each (Inside b) (cells s o)
unfolding cells
cells_in zero o n b e h = Each.none
cells_in (suc s) o n b e h = let k : o < length b = omega arith in also (record { inside = k }) (cells_in s (suc o) n b e (omega arith))

pub cells_out : (s o q : ℕ) → ((i : ℕ) → i < s → q ≢ o + i) → Each (Apart (byte q)) (cells s o)
unfolding cells
cells_out zero o q h = Each.none
cells_out (suc s) o q h =
    also (apart-far (byte q) (byte o) (λ e. h 0 (omega arith) (omega (arith, e))))
    (cells_out s (suc o) q (λ i l e. h (suc i) (omega arith) (omega (arith, e))))

cells_distinct : (s o : ℕ) → Distinct (cells s o)
unfolding cells
cells_distinct zero o = one
cells_distinct (suc s) o = more (cells_out s (suc o) o (λ i l e. omega arith)) (cells_distinct s (suc o))

cells-apart : (s o t p : ℕ) → ((i j : ℕ) → i < s → j < t → p + j ≢ o + i) → Aparts (cells s o) (cells t p)
unfolding cells
cells-apart s o zero p h = end
cells-apart s o (suc t) p h =
    next (cells_out s o p (λ i l e. h i 0 l (omega arith) (omega (arith, e))))
    (cells-apart s o t (suc p) (λ i j l m e. h i (suc j) l (omega arith) (omega (arith, e))))

same_digits : (q r q' r' m : ℕ) → r < m → r' < m → q * m + r ≡ q' * m + r' → (q ≡ q') × (r ≡ r')
same_digits q r q' r' m h h' e =
    (sym (digits_div q h) ∙ ap (λ (x : ℕ). x / m) e ∙ digits_div q' h', sym (digits_mod q h) ∙ ap (λ (x : ℕ). x % m) e ∙ digits_mod q' h')

pub in_row : {v : Canvas} {x y : ℕ} → On v x y → x < pitch v
unfolding pitch
in_row {v} o = lt_of_lt_of_le o.across (le-max_left v.width v.row)

-- a pixel's cells lie within the canvas's
pub pixel_fits : (v : Canvas) (x y : ℕ) → On v x y → (y * pitch v + x) * size v + size v ≤ extent v
unfolding extent
pixel_fits v x y o =
    let k : y * pitch v + x < v.height * pitch v = digits_lt o.down (in_row o) in
    rw (← suc-mul (y * pitch v + x) (size v)) (mul-le-mul_right (size v) k)

module _ (v : Canvas) (b : List ℕ) (long : length b ≡ extent v) where
  inside : (x y : ℕ) → On v x y → Each (Inside b) (pixel v x y)
  unfolding pixel
  inside x y o = cells_in (size v) ((y * pitch v + x) * size v) (extent v) b long (pixel_fits v x y o)

aparts : (v : Canvas) (x y x' y' : ℕ) → On v x y → On v x' y' → Other x y x' y' → Aparts (pixel v x y) (pixel v x' y')
unfolding pixel
aparts v x y x' y' o o' n = cells-apart (size v) _ (size v) _ k
  where
    k : (i j : ℕ) → i < size v → j < size v → (y' * pitch v + x') * size v + j ≢ (y * pitch v + x) * size v + i
    k i j l m e =
        let d : (y' * pitch v + x' ≡ y * pitch v + x) × (j ≡ i) = same_digits (y' * pitch v + x') j (y * pitch v + x) i (size v) m l e in
        let f : (y' ≡ y) × (x' ≡ x) = same_digits y' x' y x (pitch v) (in_row o') (in_row o) d.0 in
        n (sym f.1) (sym f.0)

distinct : (v : Canvas) (x y : ℕ) → Distinct (pixel v x y)
unfolding pixel
distinct v x y = cells_distinct (size v) _

cap_cells : (f : Format) (o : ℕ) → cap (cells (bytes_per_pixel f) o) ≡ range f
unfolding cap cells bytes_per_pixel range
cap_cells rgb332 o = refl
cap_cells rgb565 o = refl
cap_cells rgb8 o = refl
cap_cells argb o = refl
cap_cells abgr o = refl
cap_cells none o = refl

cap_range : (v : Canvas) (x y : ℕ) → cap (pixel v x y) ≡ range (form v)
unfolding pixel
cap_range v x y = cap_cells (form v) _

-- ---- the laws

pub sized-length : {v : Canvas} {b b' : List ℕ} → length b' ≡ length b → Sized v b → Sized v b'
sized-length e r = record { known = r.known; wide = r.wide; high = r.high; rows = r.rows; tails = r.tails; long = e ∙ r.long }

pub bounded : {v : Canvas} {b : List ℕ} → Sized v b → Bounded v
bounded r = record { high = r.high; rows = r.rows; tails = r.tails }

pub length-store : (v : Canvas) (b : List ℕ) (x y w : ℕ) → length (store_at v b x y w) ≡ length b
unfolding store_at
length-store v b x y w = in_cells.length-store (pixel v x y) b w

pub bytes-store : (v : Canvas) (b : List ℕ) (x y w : ℕ) → Bytes b → Bytes (store_at v b x y w)
unfolding store_at
bytes-store v b x y w h = in_cells.bytes-store (pixel v x y) b w h

pub load_lt : (v : Canvas) (b : List ℕ) (x y : ℕ) → Bytes b → load_at v b x y < range (form v)
unfolding load_at
load_lt v b x y h = rw (← cap_range v x y) (in_cells.load_lt (pixel v x y) b h)

pub store-load : (v : Canvas) (b : List ℕ) (x y : ℕ) → Bytes b → store_at v b x y (load_at v b x y) ≡ b
unfolding load_at store_at
store-load v b x y h = in_cells.store-load (pixel v x y) b h

pub store-store : (v : Canvas) (b : List ℕ) (x y w u : ℕ) → store_at v (store_at v b x y w) x y u ≡ store_at v b x y u
unfolding store_at
store-store v b x y w u = in_cells.store-store (pixel v x y) b w u (distinct v x y)

pub load_store : (v : Canvas) (b : List ℕ) → length b ≡ extent v → (x y w : ℕ) → On v x y → w < range (form v) → load_at v (store_at v b x y w) x y ≡ w
unfolding load_at store_at
load_store v b long x y w o h = in_cells.load_store (pixel v x y) b w (distinct v x y) (inside v b long x y o) (rw (cap_range v x y) h)

module _ (v : Canvas) (b : List ℕ) (x y w x' y' : ℕ) (o : On v x y) (o' : On v x' y') (n : Other x y x' y') where
  pub load_other : load_at v (store_at v b x y w) x' y' ≡ load_at v b x' y'
  unfolding load_at store_at
  load_other = in_cells.load_other (pixel v x y) (pixel v x' y') b w (aparts v x y x' y' o o' n)

  pub store-comm : (u : ℕ) → store_at v (store_at v b x y w) x' y' u ≡ store_at v (store_at v b x' y' u) x y w
  unfolding store_at
  store-comm u = in_cells.store-comm (pixel v x y) (pixel v x' y') b w u (aparts v x y x' y' o o' n)

-- a cell that no pixel has keeps its value
pub record Free (v : Canvas) (e : Cell) : Type 0 where
  pub free : (x y : ℕ) → On v x y → Each (Apart e) (pixel v x y)

pub get-store : (v : Canvas) (b : List ℕ) (x y w : ℕ) (e : Cell) → Free v e → On v x y → get (store_at v b x y w) e ≡ get b e
unfolding store_at
get-store v b x y w e f o = in_cells.get-store (pixel v x y) b w e (f.free x y o)

pub pitch-is : (v : Canvas) → v.width ≤ v.row → pitch v ≡ v.row
unfolding pitch
pitch-is v h = max-eq_right h
