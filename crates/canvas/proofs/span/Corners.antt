-- The corners and extents of two clips, where signed fields arrive as `to_z w (of_z w x)`.
use Rattle.std.proofs.Common.{◌≡◌, ℕ, Bool, true, false, cond, ℤ, refl, ap, ◌∙◌, w32, SFits, to_z, of_z}
use lib.Signed.{lt_z}
use mir.ValLaws.{to_z-of_z}
use Rattle.canvas.specs.declared.Clip.{Clip}
use Rattle.std.specs.Int.{int_max}
use Rattle.canvas.specs.Clip.{shared, intersection}

module _ (a b : ℤ) (sa : SFits w32 a) (sb : SFits w32 b) where
  larger_fits : SFits w32 (int_max a b)
  larger_fits = go (lt_z b a)
    where
      go : (t : Bool) → SFits w32 (cond t a b)
      go true = sa
      go false = sb

  pub corner : (r : ℤ) → r ≡ int_max (to_z w32 (of_z w32 a)) (to_z w32 (of_z w32 b)) → to_z w32 (of_z w32 r) ≡ int_max a b
  corner r h =
      let e : r ≡ int_max a b = rw (to_z-of_z w32 a sa, to_z-of_z w32 b sb) at h in
      ap (λ (z : ℤ). to_z w32 (of_z w32 z)) e ∙ to_z-of_z w32 (int_max a b) larger_fits

  pub extent-shared : (m n r : ℕ) → r ≡ shared (to_z w32 (of_z w32 a)) m (to_z w32 (of_z w32 b)) n → r ≡ shared a m b n
  extent-shared m n r h = rw (to_z-of_z w32 a sa, to_z-of_z w32 b sb) at h

pub clip-is : (c d : Clip) (x y : ℤ) (w h : ℕ) → x ≡ int_max c.x d.x → y ≡ int_max c.y d.y → w ≡ shared c.x c.width d.x d.width → h ≡ shared c.y c.height d.y d.height
    → ◌≡◌ {A = Clip} (record { x = x; y = y; width = w; height = h }) (intersection c d)
unfolding intersection
clip-is c d x y w h ex ey ew eh = rw (ex, ey, ew, eh) refl
