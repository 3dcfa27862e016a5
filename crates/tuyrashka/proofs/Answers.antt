-- From the canvas's answers to C's records; a signed argument reaches a callee as `to_z w (of_z w x)`.
use Rattle.std.specs.Prelude.{Option, Some, None, Result, Ok}
use mathlib.Core.Path.{◌≡◌, refl, sym, ap, ◌∙◌}
use mathlib.Core.Bool.{Bool, true, false}
use mathlib.Core.List.{List}
use Prim.Native.Nat.{ℕ}
use lib.IntN.{ℤ}
use mir.Syntax.{w32}
use mir.Val.{SFits, to_z, of_z}
use mir.ValLaws.{to_z-of_z}
use Rattle.words.specs.declared.Color.{Color}
use Rattle.words.specs.Format.{argb}
use Rattle.words.specs.Word.{from_color}
use Rattle.pixels.specs.declared.Canvas.{Canvas}
use Rattle.canvas.specs.declared.Clip.{Clip}
use Rattle.canvas.specs.declared.Refusal.{Refusal}
use Rattle.canvas.specs.Call.{Call, Outcome, Landed, status_of, count_of, leaves, call}
use Rattle.canvas.specs.Look.{seen_of, reads, pixel_at}
use Rattle.canvas.specs.Look as look
use Rattle.images.specs.Areas.{counted}
use Rattle.tuyrashka.specs.Exported.{color_of, drawn_of, gives, tells}

-- a call of four signed numbers (one of two gives them twice) under a clip, whose outcome is a definition's
pub answers : {b' n : List ℕ} {v v' : Canvas} {x y sx sy : ℤ} {s : ℕ} {z z' : Clip} (d : Landed) (g : Canvas → ℤ → ℤ → ℤ → ℤ → Clip → Outcome)
    → SFits w32 x → SFits w32 y → SFits w32 sx → SFits w32 sy → v' ≡ v → z' ≡ z → (s ≡ status_of d) × (n ≡ drawn_of (count_of d))
    → leaves d b' ≡ g v' (to_z w32 (of_z w32 x)) (to_z w32 (of_z w32 y)) (to_z w32 (of_z w32 sx)) (to_z w32 (of_z w32 sy)) z'
    → ◌≡◌ {A = ℕ × (List ℕ × List ℕ)} (s, (n, b')) (gives (g v x y sx sy z))
unfolding gives
answers {b'} {n} {v} {v'} {x} {y} {sx} {sy} {s} {z} {z'} d g fx fy fsx fsy ev ez e h =
    let h' : leaves d b' ≡ g v x y sx sy z = rw (to_z-of_z w32 x fx, to_z-of_z w32 y fy, to_z-of_z w32 sx fsx, to_z-of_z w32 sy fsy) at (rw (ev, ez) at h) in
    rw (e.0, e.1) (ap gives h')

-- an outcome with its count beside it
pub counts : {o : Outcome} (d : Landed) (b n : List ℕ) → ◌≡◌ {A = Outcome × List ℕ} (leaves d b, n) (counted o) → (leaves d b ≡ o) × (n ≡ drawn_of (count_of d))
counts d b n e =
    let l = ap (λ (t : Outcome × List ℕ). t.0) e in
    (l, ap (λ (t : Outcome × List ℕ). t.1) e ∙ sym (ap (λ (o : Outcome). drawn_of o.count) l))

-- a drawing call of a colour
pub exports : {b' n : List ℕ} {v v' : Canvas} {x y sx sy : ℤ} {s : ℕ} {z z' : Clip} {c : Color} (w : ℕ) (b : List ℕ) (d : Landed) (k : ℤ → ℤ → ℤ → ℤ → Color → Clip → Call)
    → SFits w32 x → SFits w32 y → SFits w32 sx → SFits w32 sy → v' ≡ v → z' ≡ z → c ≡ color_of w → (s ≡ status_of d) × (n ≡ drawn_of (count_of d))
    → leaves d b' ≡ call v' (k (to_z w32 (of_z w32 x)) (to_z w32 (of_z w32 y)) (to_z w32 (of_z w32 sx)) (to_z w32 (of_z w32 sy)) c z') b
    → ◌≡◌ {A = ℕ × (List ℕ × List ℕ)} (s, (n, b')) (gives (call v (k x y sx sy (color_of w) z) b))
exports w b d k fx fy fsx fsy ev ez ec e h = answers d (λ v x y i j z. call v (k x y i j (color_of w) z) b) fx fy fsx fsy ev ez e (rw ec at h)

-- a pixel read
pub shows : {v v' : Canvas} {x y : ℤ} {t : ℕ × (Bool × ℕ)} (b : List ℕ) (p : Result (Option Color) Refusal) → SFits w32 x → SFits w32 y → v' ≡ v
    → t ≡ tells (reads p) → reads p ≡ pixel_at v' b (to_z w32 (of_z w32 x)) (to_z w32 (of_z w32 y)) → t ≡ tells (pixel_at v b x y)
shows {v} {v'} {x} {y} b p fx fy ev e h =
    let h' : reads p ≡ pixel_at v b x y = rw (to_z-of_z w32 x fx, to_z-of_z w32 y fy) at (rw ev at h) in
    e ∙ ap tells h'

-- nothing off the canvas, and a colour on it
pub nothing_seen : (p : Result (Option Color) Refusal) {o : Option Color} → p ≡ Ok o → o ≡ None
    → ◌≡◌ {A = ℕ × (Bool × ℕ)} (0, (false, 0)) (tells (reads p))
unfolding look.status_of seen_of tells
nothing_seen p e k = rw (e, k) refl

pub color_seen : (p : Result (Option Color) Refusal) {o : Option Color} {c : Color} {w : ℕ} → p ≡ Ok o → o ≡ Some c → w ≡ from_color argb c
    → ◌≡◌ {A = ℕ × (Bool × ℕ)} (0, (true, w)) (tells (reads p))
unfolding look.status_of seen_of tells
color_seen p e k h = rw (e, k, h) refl
