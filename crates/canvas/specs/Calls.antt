-- Calls made one after the other on one canvas, and what stays of them when they are made again.
use Rattle.std.specs.Prelude.{ℕ, Bool, true, false, cond, not, ◌&&◌, ◌||◌, List, [], ◌∷◌, ◌++◌, ◌==◌, Ok, Err}
use Rattle.words.specs.Format.{Format}
use Rattle.words.specs.Ink.{keeps_alpha, settled}
use Rattle.pixels.specs.declared.Canvas.{Canvas}
use Rattle.pixels.specs.Bytes.{form}
use Rattle.canvas.specs.Faults.{Verdict}
use Rattle.canvas.specs.Plot.{Plot, Dye, plain, over, inverse, Dot, dip, hits}
use Rattle.pixels.specs.Hits.{Hit}
use Rattle.canvas.specs.Call.{Call, shape, draw, clip_of, fault_of, dots, plots, call}

-- What the lent bytes hold after them.
unfoldable pub after : Canvas → List Call → List ℕ → List ℕ
after v [] b = b
after v (k ∷ ks) b = after v ks (call v k b).bytes

-- The hits of some of a call's plots: none where the call has a fault of its own.
abbrev pub unless : Verdict → List Hit → List Hit
unless (Ok u) hs = hs
unless (Err r) hs = []

abbrev pub landing : Canvas → Call → List Plot → List Hit
landing v k ps = unless (fault_of k) (hits v (clip_of k) ps)

-- The hits of all plots of calls.
unfoldable pub landings : Canvas → List Call → List Hit
landings v [] = []
landings v (k ∷ ks) = landing v k (plots v k) ++ landings v ks

-- "the second pass restores them, with two exceptions": of which dyes something stays, and where. "the alpha rule of demand 3": of a
-- colour whose alpha is not 0, where alpha is kept. "and top bytes of Rgb8 pixels under an inversion": of inversion, where it is not;
-- words of 332 and 565 have no top byte, and of these nothing stays.
abbrev pub stays : Format → Dye → Bool
stays f (plain c) = not (c.a == 0) && keeps_alpha f
stays f (over c) = not (c.a == 0) && keeps_alpha f
stays f inverse = not (keeps_alpha f)

unfoldable pub staying : Format → List Dot → List Dot
staying f [] = []
staying f (d ∷ ds) = cond (stays f d.dye) (d ∷ staying f ds) (staying f ds)

-- What stays of a call, and of calls: where such a dye lands, the word is settled.
abbrev pub stain : Canvas → Call → List Hit
stain v k = landing v k (dip (λ d. settled (form v)) (staying (form v) (dots v k)))

unfoldable pub stains : Canvas → List Call → List Hit
stains v [] = []
stains v (k ∷ ks) = stain v k ++ stains v ks

-- Whether a hit is on the pixel at x and y.
unfoldable pub struck : List Hit → ℕ → ℕ → Bool
struck [] x y = false
struck (h ∷ hs) x y = (h.x == x && h.y == y) || struck hs x y

-- The calls that pass a test.
unfoldable pub those : (Call → Bool) → List Call → List Call
those t [] = []
those t (k ∷ ks) = cond (t k) (k ∷ those t ks) (those t ks)

-- Whether a call is an inversion.
abbrev pub inverts : Call → Bool
inverts (shape own points (plain c) clip) = false
inverts (shape own points (over c) clip) = false
inverts (shape own points inverse clip) = true
inverts (draw dx dy w h source image sx sy clip) = false
