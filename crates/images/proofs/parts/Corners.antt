-- What is shown of a box, from lifted corners: the columns and rows that `shown_in` answers, or nothing.
use mathlib.Core.Path.{◌≡◌, refl, sym, ap, ◌∙◌}
use mathlib.Core.List.{List, [], ◌∷◌, flat_map}
use Prim.Native.Nat.{ℕ, ◌+◌, ◌-◌, ◌<◌}
use native.Mathlib.Omega.{arith}
use Rattle.std.proofs.Common.{ℤ, w32, SFits, to_z, of_z, ◌⊎◌, inl, inr}
use Rattle.pixels.specs.declared.Canvas.{Canvas}
use Rattle.pixels.specs.Rows.{run, field}
use Rattle.canvas.specs.declared.Clip.{Clip}
use Rattle.canvas.specs.Plot.{hits}
use Rattle.canvas.specs.Boxes.{spots, shown}
use Rattle.canvas.specs.Walk.{lowered, Shown}
use Rattle.canvas.proofs.boxes.Boxes.{shown-hits}
use Rattle.canvas.proofs.span.Sources.{source_at}
use Rattle.images.specs.Parts.{Placed, Shows}

no_columns : (f : ℕ → ℕ → ℕ → ℕ) (x : ℕ) (ys : List ℕ) → field f (run x 0) ys ≡ []
unfolding flat_map run
no_columns f x [] = refl
no_columns f x (y ∷ ys) = no_columns f x ys

no_rows : (f : ℕ → ℕ → ℕ → ℕ) (xs : List ℕ) (y : ℕ) → field f xs (run y 0) ≡ []
unfolding flat_map run
no_rows f xs y = refl

pub placed : (v s : Canvas) {p q u t w h x0 x1 y0 y1 : ℕ} {c d : ℤ} {k l : ℕ} → Shown p u w s.width c k v.width x0 x1 → Shown q t h s.height d l v.height y0 y1
    → x0 < x1 → y0 < y1 → Placed v s (record { x = x0; y = y0; w = x1 - x0; h = y1 - y0; sx = x0 + u - p; sy = y0 + t - q })
placed v s xs ys across down = record {
  wide = omega (arith, xs.held);
  high = omega (arith, ys.held);
  columns = xs.sourced.ends across;
  rows = ys.sourced.ends down;
}

module _ (v s : Canvas) (c : Clip) (p q u t w h : ℕ) (dx dy sx sy : ℤ) (edx : lowered p ≡ dx) (edy : lowered q ≡ dy) (esx : lowered u ≡ sx) (esy : lowered t ≡ sy)
    (fx : SFits w32 c.x) (fy : SFits w32 c.y) (x0 x1 y0 y1 : ℕ)
    (xs : Shown p u w s.width (to_z w32 (of_z w32 c.x)) c.width v.width x0 x1)
    (ys : Shown q t h s.height (to_z w32 (of_z w32 c.y)) c.height v.height y0 y1) where
  land : (f : ℕ → ℕ → ℕ → ℕ) → hits v c (spots f (shown dx sx w s.width v.width) (shown dy sy h s.height v.height)) ≡ field f (run x0 (x1 - x0)) (run y0 (y1 - y0))
  land f = rw (edx, edy, esx, esy) at (shown-hits v c p q u t w h s.width s.height fx fy x0 x1 y0 y1 xs ys f)

  pub shows : Shows v s dx dy sx sy w h c (record { x = x0; y = y0; w = x1 - x0; h = y1 - y0; sx = x0 + u - p; sy = y0 + t - q })
  shows = record {
    lands = land;
    column = λ i k l. rw (edx, esx) at (source_at p u s.width x0 x1 i xs.sourced k l);
    row = λ j k l. rw (edy, esy) at (source_at q t s.height y0 y1 j ys.sourced k l);
  }

  none : (f : ℕ → ℕ → ℕ → ℕ) → (x1 - x0 ≡ 0) ⊎ (y1 - y0 ≡ 0) → field f (run x0 (x1 - x0)) (run y0 (y1 - y0)) ≡ []
  none f (inl e) = ap (λ (n : ℕ). field f (run x0 n) (run y0 (y1 - y0))) e ∙ no_columns f x0 (run y0 (y1 - y0))
  none f (inr e) = ap (λ (n : ℕ). field f (run x0 (x1 - x0)) (run y0 n)) e ∙ no_rows f (run x0 (x1 - x0)) y0

  pub shows_nothing : (x1 - x0 ≡ 0) ⊎ (y1 - y0 ≡ 0) → Shows v s dx dy sx sy w h c (record { x = 0; y = 0; w = 0; h = 0; sx = 0; sy = 0 })
  shows_nothing e = record {
    lands = λ f. land f ∙ none f e ∙ sym (no_rows f (run 0 0) 0);
    column = λ i k l. absurd (omega arith);
    row = λ j k l. absurd (omega arith);
  }
