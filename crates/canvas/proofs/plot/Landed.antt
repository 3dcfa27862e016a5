-- What holds of each hit of some plots.
use Rattle.std.proofs.Common.{◌≡◌, List, [], ◌∷◌, refl}
use Rattle.pixels.specs.declared.Canvas.{Canvas}
use Rattle.canvas.specs.declared.Clip.{Clip}
use Rattle.pixels.specs.Hits.{Hit}
use Rattle.canvas.specs.Plot.{Plot, Fate, landed, outside, clipped, fate, hit_of, keep, hits}
use Rattle.pixels.proofs.Orders.{All, none, also}

-- what lands of some plots, by what holds of each that lands
pub keep_all : {Ok : Hit → Type 0} (f : Fate) (h : Hit) (hs : List Hit) → (f ≡ landed → Ok h) → All Ok hs → All Ok (keep f h hs)
keep_all landed h hs e a = also (e refl) a
keep_all outside h hs e a = a
keep_all clipped h hs e a = a

pub data Plots (Q : Plot → Type 0) : List Plot → Type 0 where
  no_more : Plots Q []
  and : {p : Plot} {ps : List Plot} → Q p → Plots Q ps → Plots Q (p ∷ ps)

pub hits_all : (v : Canvas) (c : Clip) (Q : Plot → Type 0) (Ok : Hit → Type 0) → ((p : Plot) → Q p → fate v c p ≡ landed → Ok (hit_of p)) → (ps : List Plot) → Plots Q ps → All Ok (hits v c ps)
unfolding hits
hits_all v c Q Ok e [] no_more = none
hits_all v c Q Ok e (p ∷ ps) (and q qs) = keep_all (fate v c p) (hit_of p) (hits v c ps) (e p q) (hits_all v c Q Ok e ps qs)
