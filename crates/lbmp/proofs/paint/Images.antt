-- The two walks leave the words of the image, and after them what was there.
use mathlib.Core.Path.{◌≡◌, refl, sym, ap, ap₂, ◌∙◌}
use mathlib.Core.List.{List, [], ◌++◌}
use Rattle.std.specs.Prelude.{Option, Some, None}
use Prim.Native.Nat.{ℕ, zero, suc, ◌*◌, ◌/◌, ◌%◌, ◌≤◌}
use native.Mathlib.Omega.{arith}
use lib.ListN.{length, get_or, take, drop}
use lib.Seq.{drop_at}
use Rattle.fields.specs.Fields.{u16_at}
use Rattle.words.specs.declared.Color.{Color}
use Rattle.words.specs.Format.{rgb332, rgb565, argb}
use Rattle.words.specs.Word.{from_color}
use Rattle.words.specs.Table.{run}
use Rattle.words.proofs.Laws.{Channels}
use Rattle.words.proofs.Reading.{read_channels}
use Rattle.lbmp.specs.declared.header.Header.{Header}
use Rattle.lbmp.specs.declared.header.Kind.{Kind}
use Rattle.lbmp.specs.declared.header.Kind.TheVariants.{Greys, Rgb332, Rgb565}
use Rattle.lbmp.specs.Plane.{plane_at, plane_size}
use Rattle.lbmp.specs.File.{header_of, kind_of, expected_size, image_size, pixel_size, pixel_bytes, mask_bytes}
use Rattle.lbmp.specs.Image.{grey, grey_color, grey_at, at332, at565, color_at, masked, word_under, word_at, pixels, image}
use Rattle.lbmp.specs.Walk.{swept, painted, veiled, veil, Fair}
use Rattle.lbmp.proofs.planes.Bits.{no_bit}
use Rattle.lbmp.proofs.planes.Sizes.{mask_none}
use Rattle.lbmp.proofs.paint.Walks.{walked, at, run_length, swept-length}

-- ---- the colours by the type

pub greys_are : (p high low l : List ℕ) (n w k : ℕ) → high ≡ take n p → low ≡ drop n p
    → swept (painted (grey_at high low w)) 0 k l ≡ swept (painted (color_at (Some Greys) p n w)) 0 k l
unfolding color_at
greys_are p high low l n w k a b = ap₂ (λ (x y : List ℕ). swept (painted (grey_at x y w)) 0 k l) a b

pub are_332 : (p l : List ℕ) (n w k : ℕ) → swept (painted (at332 p)) 0 k l ≡ swept (painted (color_at (Some Rgb332) p n w)) 0 k l
unfolding color_at
are_332 p l n w k = refl

pub are_565 : (p l : List ℕ) (n w k : ℕ) → swept (painted (at565 p)) 0 k l ≡ swept (painted (color_at (Some Rgb565) p n w)) 0 k l
unfolding color_at
are_565 p l n w k = refl

-- The bytes of the pixels, by the type.
pub size_is : (h : Header) (k : Option Kind) → Fair h → kind_of h.kind ≡ k → pixel_size h ≡ image_size k (expected_size k h.width h.height)
size_is h k f e =
    ap₂ image_size e (f.sized ∙ ap (λ (j : Option Kind). expected_size j h.width h.height) e)

pub kind_are : (k j : Option Kind) (p l : List ℕ) (n w m : ℕ) → k ≡ j
    → swept (painted (color_at k p n w)) 0 m l ≡ swept (painted (color_at j p n w)) 0 m l
kind_are k j p l n w m e = ap (λ (i : Option Kind). swept (painted (color_at i p n w)) 0 m l) e

-- ---- a word under a mask bit

color_channels : (k : Option Kind) (p : List ℕ) (n w i : ℕ) → Channels (color_at k p n w i)
unfolding color_at grey_color grey
color_channels (Some Greys) p n w i = record { a = omega arith; r = omega arith; g = omega arith; b = omega arith }
color_channels (Some Rgb332) p n w i = read_channels rgb332 (get_or p i 0)
color_channels (Some Rgb565) p n w i = read_channels rgb565 (u16_at p (2 * i))
color_channels None p n w i = record { a = omega arith; r = omega arith; g = omega arith; b = omega arith }

under : (b : ℕ) (c : Color) → Channels c → veiled b (from_color argb c) ≡ word_under b c
unfolding veiled word_under masked from_color
under zero c h = refl
under (suc b) c h = omega arith

-- ---- the image

colors : List ℕ → ℕ → Color
colors f = color_at (kind_of (header_of f).kind) (pixel_bytes f) (plane_size (header_of f).width (header_of f).height) (header_of f).width

no_mask : (f : List ℕ) → ((header_of f).mask ≡ 1 → ⊥) → mask_bytes f ≡ []
unfolding mask_bytes
no_mask f n = rw (mask_none (header_of f) n) refl

module _ (f out : List ℕ) (room : pixels f ≤ length out) where
  plain : (mask_bytes f ≡ []) → swept (painted (colors f)) 0 (pixels f) out ≡ image f ++ drop (pixels f) out
  unfolding image painted word_at colors word_under masked
  plain e =
      walked (painted (colors f)) (word_at f) (pixels f) out room
      (λ i _.
      sym (ap (λ (m : List ℕ). word_under (plane_at m (header_of f).width i) (colors f i)) e
      ∙ ap (λ (b : ℕ). word_under b (colors f i)) (no_bit (header_of f).width (i % (header_of f).width) (i / (header_of f).width))))

  over : swept (veil (mask_bytes f) (header_of f).width) 0 (pixels f) (swept (painted (colors f)) 0 (pixels f) out) ≡ image f ++ drop (pixels f) out
  unfolding image painted word_at colors veil
  over =
      walked (veil (mask_bytes f) (header_of f).width) (word_at f) (pixels f) (swept (painted (colors f)) 0 (pixels f) out)
      (omega (arith, swept-length (painted (colors f)) 0 (pixels f) out))
      (λ i l.
      ap (veil (mask_bytes f) (header_of f).width i) (at (painted (colors f)) (pixels f) i out l room)
      ∙ under (plane_at (mask_bytes f) (header_of f).width i) (colors f i) (color_channels _ _ _ _ i))
      ∙ ap (λ (l : List ℕ). image f ++ l)
      (ap (drop (pixels f)) first
      ∙ drop_at (run (λ i. from_color argb (colors f i)) 0 (pixels f)) (drop (pixels f) out) (pixels f) (run_length _ 0 (pixels f)))
    where
      first : swept (painted (colors f)) 0 (pixels f) out ≡ run (λ i. from_color argb (colors f i)) 0 (pixels f) ++ drop (pixels f) out
      first = walked (painted (colors f)) (λ i. from_color argb (colors f i)) (pixels f) out room (λ i _. refl)

-- ---- from what the code's steps leave

same_colors : (f p : List ℕ) (h : Header) (l : List ℕ) → h ≡ header_of f → p ≡ pixel_bytes f
    → swept (painted (color_at (kind_of h.kind) p (plane_size h.width h.height) h.width)) 0 (h.width * h.height) l
    ≡ swept (painted (colors f)) 0 (pixels f) l
unfolding colors
same_colors f p h l e g =
    ap₂ (λ (k : Header) (q : List ℕ). swept (painted (color_at (kind_of k.kind) q (plane_size k.width k.height) k.width)) 0 (k.width * k.height) l) e g

module _ (f out a p : List ℕ) (h : Header) (room : pixels f ≤ length out) (e : h ≡ header_of f) (g : p ≡ pixel_bytes f)
    (s : a ≡ swept (painted (color_at (kind_of h.kind) p (plane_size h.width h.height) h.width)) 0 (h.width * h.height) out) where
  pub written_plain : (h.mask ≡ 1 → ⊥) → a ≡ image f ++ drop (pixels f) out
  written_plain n = s ∙ same_colors f p h out e g ∙ plain f out room (no_mask f (λ q. n (ap (λ (k : Header). k.mask) e ∙ q)))

  pub written_masked : (b m : List ℕ) → m ≡ mask_bytes f → b ≡ swept (veil m h.width) 0 (h.width * h.height) a → b ≡ image f ++ drop (pixels f) out
  written_masked b m j t =
      t ∙ ap₂ (λ (k : Header) (q : List ℕ). swept (veil q k.width) 0 (k.width * k.height) a) e j
      ∙ ap (swept (veil (mask_bytes f) (header_of f).width) 0 (pixels f)) (s ∙ same_colors f p h out e g)
      ∙ over f out room

pub same-pixels : (f : List ℕ) (h : Header) → h ≡ header_of f → h.width * h.height ≡ pixels f
same-pixels f h e = ap (λ (k : Header). k.width * k.height) e
