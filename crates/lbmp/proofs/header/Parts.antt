-- The parts of a file, as the code cuts them.
use mathlib.Core.Path.{◌≡◌, ap, ◌∙◌}
use mathlib.Core.List.{List}
use Prim.Native.Nat.{ℕ, ◌+◌, ◌-◌}
use native.Mathlib.Omega.{arith}
use lib.ListN.{length, take, drop, length-drop}
use lib.Seq.{length-take-le}
use Rattle.lbmp.specs.declared.header.Header.{Header}
use Rattle.lbmp.specs.File.{header_of, pixel_size, mask_size, pixel_bytes, mask_bytes}
use Rattle.lbmp.specs.Walk.{Whole}

pub pixels_are : (f : List ℕ) (h : Header) (n : ℕ) → h ≡ header_of f → n ≡ pixel_size h → take (24 + n - 24) (drop 24 f) ≡ pixel_bytes f
unfolding pixel_bytes
pixels_are f h n e s =
    let l : 24 + n - 24 ≡ pixel_size (header_of f) = omega (arith, s ∙ ap pixel_size e) in
    ap (λ (k : ℕ). take k (drop 24 f)) l

pub mask_is : (f : List ℕ) (h : Header) (n m : ℕ) → h ≡ header_of f → n ≡ pixel_size h → m ≡ mask_size h
    → take (24 + n + m - (24 + n)) (drop (24 + n) f) ≡ mask_bytes f
unfolding mask_bytes
mask_is f h n m e s t =
    let l : 24 + n + m - (24 + n) ≡ mask_size (header_of f) = omega (arith, t ∙ ap mask_size e) in
    let k : n ≡ pixel_size (header_of f) = s ∙ ap pixel_size e in
    ap (λ (i : ℕ). take i (drop (24 + n) f)) l ∙ ap (λ (i : ℕ). take (mask_size (header_of f)) (drop (24 + i) f)) k

-- ---- how long they are

pub pixels-length : (f : List ℕ) → Whole (header_of f) (length f) → length (pixel_bytes f) ≡ pixel_size (header_of f)
unfolding pixel_bytes
pixels-length f w = length-take-le _ _ (omega (arith, w.long, length-drop 24 f))

pub mask_length : (f : List ℕ) → Whole (header_of f) (length f) → length (mask_bytes f) ≡ mask_size (header_of f)
unfolding mask_bytes
mask_length f w = length-take-le _ _ (omega (arith, w.long, length-drop (24 + pixel_size (header_of f)) f))
