-- The laws of runs of words, and the steps of a loop over one.
use mathlib.Core.Path.{◌≡◌, refl, sym, ap, ◌∙◌}
use mathlib.Core.Bool.{Bool, true, false, not}
use mathlib.Core.List.{List, [], ◌∷◌}
use Prim.Native.Nat.{ℕ, zero, suc, ◌+◌, ◌≤◌, ◌<◌, min}
use native.Mathlib.Numerals.{add-one}
use native.Mathlib.Omega.{arith}
use lib.Dec.{T, ltb, ltb→lt, nltb→le}
use lib.ListN.{length, get_or, take, set, length-map, length-take}
use lib.Seq.{take_all}
use Rattle.words.specs.Format.{Format, argb, range}
use Rattle.words.specs.Word.{from_color, to_color, seen}
use Rattle.words.proofs.Reading.{read_channels, read-store}
use Rattle.blending.specs.Blend.{Rule}
use Rattle.blending.specs.Loops.{read, argb_of, pairwise, draw, blended, store, stored}
use Rattle.blending.proofs.Laws.{blend_keeps}

-- ---- words beside others

module _ (make : ℕ → ℕ → ℕ) where
  pub pairwise-length : (cs ws : List ℕ) → length (pairwise make cs ws) ≡ length ws
  unfolding pairwise
  pairwise-length [] ws = refl
  pairwise-length (c ∷ cs) [] = refl
  pairwise-length (c ∷ cs) (w ∷ ws) = ap suc (pairwise-length cs ws)

  pub pairwise-at : (cs ws : List ℕ) (i : ℕ) → i < length cs → i < length ws → get_or (pairwise make cs ws) i 0 ≡ make (get_or cs i 0) (get_or ws i 0)
  unfolding pairwise
  pairwise-at [] ws i h k = absurd (omega arith)
  pairwise-at (c ∷ cs) [] i h k = absurd (omega arith)
  pairwise-at (c ∷ cs) (w ∷ ws) zero h k = refl
  pairwise-at (c ∷ cs) (w ∷ ws) (suc i) h k = pairwise-at cs ws i (omega arith) (omega arith)

  pub pairwise-past : (cs ws : List ℕ) (i : ℕ) → length cs ≤ i → get_or (pairwise make cs ws) i 0 ≡ get_or ws i 0
  unfolding pairwise
  pairwise-past [] ws i h = refl
  pairwise-past (c ∷ cs) [] i h = refl
  pairwise-past (c ∷ cs) (w ∷ ws) zero h = absurd (omega arith)
  pairwise-past (c ∷ cs) (w ∷ ws) (suc i) h = pairwise-past cs ws i (omega arith)

  -- What holds of every word before, and is kept, holds after.
  pub pairwise-keeps :
      (P : ℕ → Type 0) → ((c w : ℕ) → P w → P (make c w)) → (cs ws : List ℕ) → ((i : ℕ) → P (get_or ws i 0)) → (i : ℕ) → P (get_or (pairwise make cs ws) i 0)
  unfolding pairwise
  pairwise-keeps P k [] ws h i = h i
  pairwise-keeps P k (c ∷ cs) [] h i = h i
  pairwise-keeps P k (c ∷ cs) (w ∷ ws) h zero = k c w (h 0)
  pairwise-keeps P k (c ∷ cs) (w ∷ ws) h (suc i) = pairwise-keeps P k cs ws (λ (j : ℕ). h (suc j)) i

  one_more :
      (cs ws : List ℕ) (i : ℕ) → i < length cs → i < length ws →
      set (pairwise make (take i cs) ws) i (make (get_or cs i 0) (get_or ws i 0)) ≡ pairwise make (take (suc i) cs) ws
  unfolding pairwise
  one_more [] ws i h k = absurd (omega arith)
  one_more (c ∷ cs) [] i h k = absurd (omega arith)
  one_more (c ∷ cs) (w ∷ ws) zero h k = refl
  one_more (c ∷ cs) (w ∷ ws) (suc i) h k = ap (λ (t : List ℕ). make c w ∷ t) (one_more cs ws i (omega arith) (omega arith))

  enough : (cs ws : List ℕ) (n : ℕ) → length ws ≤ n → pairwise make (take n cs) ws ≡ pairwise make cs ws
  unfolding pairwise
  enough [] ws zero h = refl
  enough [] ws (suc n) h = refl
  enough (c ∷ cs) [] zero h = refl
  enough (c ∷ cs) [] (suc n) h = refl
  enough (c ∷ cs) (w ∷ ws) zero h = absurd (omega arith)
  enough (c ∷ cs) (w ∷ ws) (suc n) h = ap (λ (t : List ℕ). make c w ∷ t) (enough cs ws n (omega arith))

  -- A loop that has made i words makes one more; and where it has made all that stand beside others, all are made.
  pub make_more :
      (cs ws : List ℕ) (ds : List ℕ) (i v : ℕ) → i < length cs → i < length ws → ds ≡ pairwise make (take i cs) ws →
      v ≡ make (get_or cs i 0) (get_or ds i 0) → set ds i v ≡ pairwise make (take (i + 1) cs) ws
  make_more cs ws ds i v h k m e =
      let short : length (take i cs) ≤ i = rw length-take (omega arith) in
      let old : get_or ds i 0 ≡ get_or ws i 0 = ap (λ (t : List ℕ). get_or t i 0) m ∙ pairwise-past (take i cs) ws i short in
      ap (set ds i) (e ∙ ap (make (get_or cs i 0)) old)
      ∙ ap (λ (t : List ℕ). set t i (make (get_or cs i 0) (get_or ws i 0))) m
      ∙ one_more cs ws i h k
      ∙ ap (λ (j : ℕ). pairwise make (take j cs) ws) (sym (add-one i))

  pub made_all : (cs ws : List ℕ) (n : ℕ) → n ≡ min (length cs) (length ws) → pairwise make (take n cs) ws ≡ pairwise make cs ws
  made_all cs ws n e = go (ltb (length cs) (length ws)) (ltb→lt (length cs) (length ws)) (nltb→le (length cs) (length ws))
    where
      go : (b : Bool) → (T b → length cs < length ws) → (T (not b) → length ws ≤ length cs) → pairwise make (take n cs) ws ≡ pairwise make cs ws
      go true f g = let p = f tt in ap (λ (t : List ℕ). pairwise make t ws) (take_all n cs (omega arith))
      go false f g = let p = g tt in enough cs ws n (omega arith)

-- ---- words read

-- As words beside themselves.
abbrev pub reading : Format → ℕ → ℕ → ℕ
reading f c w = read f w

pub read_all : (f : Format) (ws : List ℕ) → pairwise (reading f) ws ws ≡ argb_of f ws
unfolding pairwise argb_of
read_all f [] = refl
read_all f (w ∷ ws) = ap (λ (t : List ℕ). read f w ∷ t) (read_all f ws)

pub argb-length : (f : Format) (ws : List ℕ) → length (argb_of f ws) ≡ length ws
unfolding argb_of
argb-length f ws = length-map ws (read f)

pub argb-at : (f : Format) (ws : List ℕ) (i : ℕ) → i < length ws → get_or (argb_of f ws) i 0 ≡ read f (get_or ws i 0)
argb-at f ws i h = ap (λ (t : List ℕ). get_or t i 0) (sym (read_all f ws)) ∙ pairwise-at (reading f) ws ws i h h

-- An ARGB word is read as it is.
pub argb_itself : (ws : List ℕ) → ((i : ℕ) → get_or ws i 0 < 4294967296) → argb_of argb ws ≡ ws
unfolding argb_of range seen
argb_itself [] h = refl
argb_itself (w ∷ ws) h = rw (read-store argb w (h 0)) (ap (λ (t : List ℕ). w ∷ t) (argb_itself ws (λ (i : ℕ). h (suc i))))

-- ---- words drawn on

pub blended-length : (f : Format) (k : Rule) (x : Bool) (cs ws : List ℕ) → length (blended f k x cs ws) ≡ length ws
unfolding blended
blended-length f k x cs ws = pairwise-length (draw f k x) cs ws

pub blended_at :
    (f : Format) (k : Rule) (x : Bool) (cs ws : List ℕ) (i : ℕ) → i < length cs → i < length ws →
    get_or (blended f k x cs ws) i 0 ≡ draw f k x (get_or cs i 0) (get_or ws i 0)
unfolding blended
blended_at f k x cs ws i h l = pairwise-at (draw f k x) cs ws i h l

pub blended-past : (f : Format) (k : Rule) (x : Bool) (cs ws : List ℕ) (i : ℕ) → length cs ≤ i → get_or (blended f k x cs ws) i 0 ≡ get_or ws i 0
unfolding blended
blended-past f k x cs ws i h = pairwise-past (draw f k x) cs ws i h

-- Words keep to their format's range.
pub blended-keeps :
    (f : Format) (k : Rule) (x : Bool) (cs ws : List ℕ) → ((i : ℕ) → get_or ws i 0 < range f) → (i : ℕ) → get_or (blended f k x cs ws) i 0 < range f
unfolding blended
blended-keeps f k x cs ws =
    pairwise-keeps (draw f k x) (λ (w : ℕ). w < range f) (λ c w l. blend_keeps f k x (to_color argb c) w (read_channels argb c) l) cs ws

-- ---- words stored

pub stored-length : (f : Format) (cs ws : List ℕ) → length (stored f cs ws) ≡ length ws
unfolding stored
stored-length f cs ws = pairwise-length (store f) cs ws

pub stored_at :
    (f : Format) (cs ws : List ℕ) (i : ℕ) → i < length cs → i < length ws → get_or (stored f cs ws) i 0 ≡ from_color f (to_color argb (get_or cs i 0))
unfolding stored
stored_at f cs ws i h k = pairwise-at (store f) cs ws i h k
