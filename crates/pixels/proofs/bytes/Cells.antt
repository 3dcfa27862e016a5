-- A word kept in cells of a list of bytes: the laws of loading and storing it.
use mathlib.Core.Path.{◌≡◌, refl, sym, ap, ap₂, ◌∙◌}
use mathlib.Core.Logic.{◌≢◌}
use mathlib.Core.List.{List, [], ◌∷◌}
use Prim.Native.Nat.{ℕ, zero, suc, ◌+◌, ◌*◌, ◌/◌, ◌%◌, ◌<◌}
use native.Mathlib.Omega.{arith}
use lib.ListN.{length, get_or, set, length-set}
use lib.Seq.{get_or-set_same, get_or-set_other, set-set, set_comm, set-get_or}
use Rattle.pixels.specs.Bytes.{Cell, byte, place, radix, get, put, load, store}

-- how many words the cells hold
unfoldable pub cap : List Cell → ℕ
cap [] = 1
cap (c ∷ cs) = radix c * cap cs

-- each element is a byte
pub record Bytes (b : List ℕ) : Type 0 where
  pub byte : (i : ℕ) → get_or b i 0 < 256

pub data Each (P : Cell → Type 0) : List Cell → Type 0 where
  none : Each P []
  also : {c : Cell} {cs : List Cell} → P c → Each P cs → Each P (c ∷ cs)

-- two cells that share nothing
pub record Apart (c d : Cell) : Type 0 where
  pub apart : place c ≢ place d

pub apart-far : (c d : Cell) → place c ≢ place d → Apart c d
apart-far c d n = record { apart = n }

apart_sym : {c d : Cell} → Apart c d → Apart d c
apart_sym h = record { apart = λ e. h.apart (sym e) }

-- the cells of a word are apart from each other
pub data Distinct : List Cell → Type 0 where
  one : Distinct []
  more : {c : Cell} {cs : List Cell} → Each (Apart c) cs → Distinct cs → Distinct (c ∷ cs)

-- and from those of another word
pub data Aparts (cs : List Cell) : List Cell → Type 0 where
  end : Aparts cs []
  next : {d : Cell} {ds : List Cell} → Each (Apart d) cs → Aparts cs ds → Aparts cs (d ∷ ds)

pub record Inside (b : List ℕ) (c : Cell) : Type 0 where
  pub inside : place c < length b

-- ---- one cell

get-lt : (b : List ℕ) (c : Cell) → Bytes b → get b c < radix c
unfolding get
get-lt b (byte o) h = h.byte o

get-put : (b : List ℕ) (c : Cell) (d : ℕ) → place c < length b → get (put b c d) c ≡ d
unfolding get put
get-put b (byte o) d h = get_or-set_same b o d 0 h

get_other : (b : List ℕ) (c e : Cell) (d : ℕ) → Apart c e → get (put b c d) e ≡ get b e
unfolding get put
get_other b (byte o) (byte p) d a = get_or-set_other b o p d 0 (λ q. a.apart (sym q))

put_twice : (b : List ℕ) (c : Cell) (d e : ℕ) → put (put b c d) c e ≡ put b c e
unfolding put
put_twice b (byte o) d e = set-set b o d e

put_swap : (b : List ℕ) (c c' : Cell) (d e : ℕ) → Apart c c' → put (put b c d) c' e ≡ put (put b c' e) c d
unfolding put
put_swap b (byte o) (byte p) d e a = set_comm b o p d e a.apart

put-get : (b : List ℕ) (c : Cell) → put b c (get b c) ≡ b
unfolding get put
put-get b (byte o) = set-get_or b o 0

length-put : (b : List ℕ) (c : Cell) (d : ℕ) → length (put b c d) ≡ length b
unfolding put
length-put b (byte o) d = length-set b o d

set-byte : (b : List ℕ) (i x : ℕ) → x < 256 → ((k : ℕ) → get_or b k 0 < 256) → (k : ℕ) → get_or (set b i x) k 0 < 256
set-byte [] i x l h k = h k
set-byte (y ∷ ys) zero x l h zero = l
set-byte (y ∷ ys) zero x l h (suc k) = h (suc k)
set-byte (y ∷ ys) (suc i) x l h zero = h zero
set-byte (y ∷ ys) (suc i) x l h (suc k) = set-byte ys i x l (λ m. h (suc m)) k

bytes-put : {b : List ℕ} (c : Cell) (d : ℕ) → d < radix c → Bytes b → Bytes (put b c d)
unfolding put
bytes-put {b} (byte o) d l h = record { byte = set-byte b o d l h.byte }

-- ---- the digits of a word

digit_lt : (c : Cell) (w : ℕ) → w % radix c < radix c
digit_lt (byte o) w = omega arith

above_lt : (c : Cell) (w k : ℕ) → w < radix c * k → w / radix c < k
above_lt (byte o) w k h = omega arith

digits : (c : Cell) (w : ℕ) → w % radix c + radix c * (w / radix c) ≡ w
digits (byte o) w = omega arith

digit_is : (c : Cell) (g l : ℕ) → g < radix c → (g + radix c * l) % radix c ≡ g
digit_is (byte o) g l h = omega arith

above_is : (c : Cell) (g l : ℕ) → g < radix c → (g + radix c * l) / radix c ≡ l
above_is (byte o) g l h = omega arith

join_lt : (c : Cell) (g l k : ℕ) → g < radix c → l < k → g + radix c * l < radix c * k
join_lt (byte o) g l k h m = omega arith

-- ---- words

pub length-store : (cs : List Cell) (b : List ℕ) (w : ℕ) → length (store cs b w) ≡ length b
unfolding store
length-store [] b w = refl
length-store (c ∷ cs) b w = length-store cs (put b c (w % radix c)) (w / radix c) ∙ length-put b c (w % radix c)

pub bytes-store : (cs : List Cell) (b : List ℕ) (w : ℕ) → Bytes b → Bytes (store cs b w)
unfolding store
bytes-store [] b w h = h
bytes-store (c ∷ cs) b w h = bytes-store cs (put b c (w % radix c)) (w / radix c) (bytes-put c (w % radix c) (digit_lt c w) h)

pub load_lt : (cs : List Cell) (b : List ℕ) → Bytes b → load cs b < cap cs
unfolding load cap
load_lt [] b h = omega arith
load_lt (c ∷ cs) b h = join_lt c (get b c) (load cs b) (cap cs) (get-lt b c h) (load_lt cs b h)

-- a cell apart from the word's keeps its value, and may be put before or after
pub get-store : (cs : List Cell) (b : List ℕ) (w : ℕ) (e : Cell) → Each (Apart e) cs → get (store cs b w) e ≡ get b e
unfolding store
get-store [] b w e none = refl
get-store (c ∷ cs) b w e (also a qs) =
    get-store cs (put b c (w % radix c)) (w / radix c) e qs ∙ get_other b c e (w % radix c) (apart_sym a)

put-store : (cs : List Cell) (b : List ℕ) (w : ℕ) (e : Cell) (d : ℕ) → Each (Apart e) cs → put (store cs b w) e d ≡ store cs (put b e d) w
unfolding store
put-store [] b w e d none = refl
put-store (c ∷ cs) b w e d (also a qs) =
    put-store cs (put b c (w % radix c)) (w / radix c) e d qs
    ∙ ap (λ (l : List ℕ). store cs l (w / radix c)) (put_swap b c e (w % radix c) d (apart_sym a))

pub load_other : (cs ds : List Cell) (b : List ℕ) (w : ℕ) → Aparts cs ds → load ds (store cs b w) ≡ load ds b
unfolding load
load_other cs [] b w end = refl
load_other cs (d ∷ ds) b w (next a qs) = ap₂ (λ (x y : ℕ). x + radix d * y) (get-store cs b w d a) (load_other cs ds b w qs)

pub store-comm : (cs ds : List Cell) (b : List ℕ) (w u : ℕ) → Aparts cs ds → store ds (store cs b w) u ≡ store cs (store ds b u) w
unfolding store
store-comm cs [] b w u end = refl
store-comm cs (d ∷ ds) b w u (next a qs) =
    ap (λ (l : List ℕ). store ds l (u / radix d)) (put-store cs b w d (u % radix d) a)
    ∙ store-comm cs ds (put b d (u % radix d)) w (u / radix d) qs

pub store-store : (cs : List Cell) (b : List ℕ) (w u : ℕ) → Distinct cs → store cs (store cs b w) u ≡ store cs b u
unfolding store
store-store [] b w u one = refl
store-store (c ∷ cs) b w u (more a qs) =
    ap (λ (l : List ℕ). store cs l (u / radix c))
    (put-store cs (put b c (w % radix c)) (w / radix c) c (u % radix c) a
    ∙ ap (λ (l : List ℕ). store cs l (w / radix c)) (put_twice b c (w % radix c) (u % radix c)))
    ∙ store-store cs (put b c (u % radix c)) (w / radix c) (u / radix c) qs

inside-put : (cs : List Cell) (b : List ℕ) (c : Cell) (d : ℕ) → Each (Inside b) cs → Each (Inside (put b c d)) cs
inside-put [] b c d none = none
inside-put (e ∷ cs) b c d (also i is) =
    let k : place e < length (put b c d) = rw (length-put b c d) i.inside in
    also (record { inside = k }) (inside-put cs b c d is)

pub load_store : (cs : List Cell) (b : List ℕ) (w : ℕ) → Distinct cs → Each (Inside b) cs → w < cap cs → load cs (store cs b w) ≡ w
unfolding load store cap
load_store [] b w one none h = omega arith
load_store (c ∷ cs) b w (more a qs) (also i is) h =
    ap₂ (λ (x y : ℕ). x + radix c * y)
    (get-store cs (put b c (w % radix c)) (w / radix c) c a ∙ get-put b c (w % radix c) i.inside)
    (load_store cs (put b c (w % radix c)) (w / radix c) qs (inside-put cs b c (w % radix c) is) (above_lt c w (cap cs) h))
    ∙ digits c w

pub store-load : (cs : List Cell) (b : List ℕ) → Bytes b → store cs b (load cs b) ≡ b
unfolding load store
store-load [] b h = refl
store-load (c ∷ cs) b h =
    ap₂ (λ (l : List ℕ) (v : ℕ). store cs l v)
    (ap (put b c) (digit_is c (get b c) (load cs b) (get-lt b c h)) ∙ put-get b c) (above_is c (get b c) (load cs b) (get-lt b c h))
    ∙ store-load cs b h
