-- A pie's test is that of its ellipse and that of its sweep. Assumes nothing.
use Rattle.std.proofs.Common.{◌≡◌, ℕ, true, ℤ, pos, refl}
use lib.Ieee.{binary32, of_int, sub}
use Rattle.curves.specs.declared.pies.Pie.{Pie}
use Rattle.curves.specs.Oval.{offset, oval_of}
use Rattle.curves.specs.declared.pies.Sweep.{Sweep}
use Rattle.curves.specs.declared.pies.Sweep.TheVariants.{All, Empty, Part}
use Rattle.curves.specs.Pies.{sweep_of, is_all, in_sweep, pie_of, all_round, covers}

pub covers-is : (x y : ℤ) (w h : ℕ) (start sweep : ℤ) (i j : ℕ)
    → covers (pie_of x y w h start sweep) i j ≡ in_sweep (sweep_of (of_int binary32 start) (of_int binary32 sweep)) (offset (pos i) x w) (offset (pos j) y h)
unfolding covers pie_of oval_of offset
covers-is x y w h start sweep i j = refl

-- a sweep of all has every pixel
pub covers_all : (p : Pie) (i j : ℕ) → is_all p.sweep ≡ true → covers p i j ≡ true
unfolding covers in_sweep
covers_all p i j e = go p.sweep e
  where
    go : (s : Sweep) → is_all s ≡ true → in_sweep s (sub binary32 (of_int binary32 (pos i)) p.oval.cx) (sub binary32 (of_int binary32 (pos j)) p.oval.cy) ≡ true
    go All e = refl
    go Empty e = cc
    go (Part start length) e = cc

pub all_covers : (i j : ℕ) → covers all_round i j ≡ true
all_covers i j = covers_all all_round i j (unfold all_round in refl)
