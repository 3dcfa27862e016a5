-- An icon that is found can be drawn: as an RGB332 canvas it is never refused as the source of `draw`.
use Rattle.std.specs.Prelude.{Ok}
use mathlib.Core.Path.{◌≡◌, refl, sym, ap, ◌∙◌}
use mathlib.Core.Bool.{Bool}
use mathlib.Core.List.{List}
use Prim.Native.Nat.{ℕ, ◌+◌, ◌*◌, ◌≤◌}
use native.Mathlib.Omega.{arith}
use native.Mathlib.Nat.{mul_comm}
use borrow.Author.Tests.{le-ltb, eq-eqb}
use denote.Ref.{Bor}
use lib.IntN.{ℤ}
use lib.ListN.{length}
use Rattle.words.specs.Format.{format_of, bytes_per_pixel}
use Rattle.pixels.specs.declared.Canvas.{Canvas}
use Rattle.pixels.specs.Bytes.{extent}
use Rattle.pixels.proofs.bytes.Cells.{Bytes}
use Rattle.pixels.proofs.bytes.Tails.{even_extent}
use Rattle.canvas.specs.declared.Clip.{Clip}
use Rattle.canvas.specs.Faults.{format_fault, rule_fault, size_fault, length_fault, or_else, first, verdict, as_source}
use Rattle.canvas.specs.Call.{Outcome, Landed, status_of}
use Rattle.canvas.specs.Call.{draw as draw_call}
use Rattle.canvas.proofs.Accepted.{accepted}
use Rattle.canvas.proofs.Tails.{even_verdict}
use Rattle.res.specs.declared.Icon.{Icon}
use Rattle.res.specs.Search.{first_icon, icon_pixels}
use Rattle.res.proofs.Accepted.{stands, part_length}
use Rattle.res.proofs.decode_res.Reads as decode_res
use Rattle.res.proofs.icon_pixels.Reads as icon_pixels
use Rattle.screens.proofs.Called.{Made, made_is}

-- An icon as a canvas: its format is RGB332, its rows have no tails, its rule is 1, and a source's switch says nothing.
abbrev pub as_canvas : Bool → Icon → Canvas
as_canvas x i = record { format = 0; width = i.width; height = i.height; row = i.width; xor = x; rule = 1 }

-- its sides are bytes of the file
small : (f : List ℕ) (i : Icon) → Bytes f → first_icon f ≡ Ok i → (i.width ≤ 255) × (i.height ≤ 255)
small f i o e =
    let s = stands f i e in
    let w = ap (λ (j : Icon). j.width) s.static.same in
    let h = ap (λ (j : Icon). j.height) s.static.same in
    (omega (arith, w, o.byte (s.at + 1)), omega (arith, h, o.byte (s.at + 2)))

pub no_fault : (f : List ℕ) (i : Icon) (x : Bool) → Bytes f → first_icon f ≡ Ok i → verdict (as_canvas x i) (length (icon_pixels f)) ≡ Ok tt
unfolding first format_fault rule_fault size_fault length_fault or_else format_of bytes_per_pixel
no_fault f i x o e =
    let s = small f i o e in
    let n : length (icon_pixels f) ≡ i.height * i.width * 1 = part_length f i e ∙ mul_comm i.width i.height ∙ omega arith in
    let m : length (icon_pixels f) ≡ extent (as_canvas x i) = n ∙ sym (even_extent (as_canvas x i) refl) in
    even_verdict (as_canvas x i) (length (icon_pixels f)) refl
    ∙ rw (le-ltb 32767 i.width (omega (arith, s.0)), le-ltb 32767 i.height (omega (arith, s.1)), eq-eqb _ _ m) refl

-- Of the public functions: where `decode_res` found an icon in a file, and `icon_pixels` handed a part of it back, a `draw`
-- from that part on a canvas that is not refused is accepted. `Bytes` is asked as in Runs.
pub icon_drawn : (κs κs' : _) (file part : Bor (List ℕ)) (i : Icon) (s s' : _)
    → Bytes file.now → decode_res.Post κs (file, tt) (Ok i) s → icon_pixels.Post κs' (file, tt) part s'
    → {x : Bool} {v : Canvas} {dx dy sx sy : ℤ} {w h : ℕ} {k : Clip} {d : Landed} {b b' : List ℕ} → verdict v (length b) ≡ Ok tt
    → Made v (draw_call dx dy w h (as_canvas x i) part.now sx sy k) b d b' → status_of d ≡ 0
icon_drawn κs κs' file part i s s' o p q {x} {v} {dx} {dy} {sx} {sy} {w} {h} {k} {d} {b} e m =
    let n : verdict (as_canvas x i) (length part.now) ≡ Ok tt = ap (λ (c : List ℕ). verdict (as_canvas x i) (length c)) q ∙ no_fault file.now i x o (sym p) in
    ap (λ (t : Outcome). t.status) (made_is m) ∙ accepted v (draw_call dx dy w h (as_canvas x i) part.now sx sy k) b e (ap as_source n)
