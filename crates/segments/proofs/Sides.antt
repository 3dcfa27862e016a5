-- The cases of one side of the cut, of the cut and of what is left.
use mathlib.Core.Path.{◌≡◌, refl, sym, ap, subst, ◌∙◌}
use mathlib.Core.Bool.{Bool, true, false, cond}
use Rattle.std.specs.Prelude.{Option, Some, None}
use Prim.Native.Nat.{ℕ}
use lib.IntN.{ℤ, pos}
use lib.Ieee.{Float, binary64, add, sub, mul, div, neg, lt, eq}
use mir.Syntax.{w32}
use mir.Val.{SFits, to_z, of_z}
use mir.ValLaws.{to_z-of_z}
use Rattle.floats.specs.Size.{plus_zero, one}
use Rattle.floats.proofs.Rounds.{round_fits}
use Rattle.segments.specs.declared.Part.{Part}
use Rattle.segments.specs.Cut.{float, part, narrowed, forward, parameters, kept, segment, between, end, clip_segment}

-- ---- one side

module _ (p q : Float) (t : Part) where
  pub along : (out : Bool) → eq p plus_zero ≡ true → lt q plus_zero ≡ out → cond out None (Some t) ≡ narrowed p q (Some t)
  unfolding narrowed
  along out h k = rw (h, k) refl

  pub enters : (later : Bool) → eq p plus_zero ≡ false → lt p plus_zero ≡ true → lt t.enter (div binary64 q p) ≡ later
      → Some (part (cond later (div binary64 q p) t.enter) t.leave) ≡ narrowed p q (Some t)
  unfolding narrowed
  enters later h k l = rw (h, k, l) refl

  pub leaves : (sooner : Bool) → eq p plus_zero ≡ false → lt p plus_zero ≡ false → lt (div binary64 q p) t.leave ≡ sooner
      → Some (part t.enter (cond sooner (div binary64 q p) t.leave)) ≡ narrowed p q (Some t)
  unfolding narrowed
  leaves sooner h k l = rw (h, k, l) refl

-- nothing stays nothing
pub still : (p q : Float) → None ≡ narrowed p q None
unfolding narrowed
still p q = refl

-- ---- the four, in their order

pub four : (x1 y1 x2 y2 : ℤ) (width height : ℕ) (a b c d : Option Part)
    → a ≡ narrowed (neg (sub binary64 (float x2) (float x1))) (sub binary64 (float x1) (neg one)) (Some (part plus_zero one))
    → b ≡ narrowed (sub binary64 (float x2) (float x1)) (sub binary64 (float (pos width)) (float x1)) a
    → c ≡ narrowed (neg (sub binary64 (float y2) (float y1))) (sub binary64 (float y1) (neg one)) b
    → d ≡ narrowed (sub binary64 (float y2) (float y1)) (sub binary64 (float (pos height)) (float y1)) c
    → forward d ≡ parameters x1 y1 x2 y2 width height
unfolding parameters
four x1 y1 x2 y2 width height a b c d ea eb ec ed =
    let dx = sub binary64 (float x2) (float x1) in
    let dy = sub binary64 (float y2) (float y1) in
    ap forward (ed ∙ ap (narrowed dy (sub binary64 (float (pos height)) (float y1)))
    (ec ∙ ap (narrowed (neg dy) (sub binary64 (float y1) (neg one))) (eb ∙ ap (narrowed dx (sub binary64 (float (pos width)) (float x1))) ea)))

-- from ends that arrive as `to_z w (of_z w x)`
module _ (x1 y1 x2 y2 : ℤ) (width height : ℕ) (fx1 : SFits w32 x1) (fy1 : SFits w32 y1) (fx2 : SFits w32 x2) (fy2 : SFits w32 y2) (a b c d : Option Part) where
  pub cut_by : a ≡ narrowed (neg (sub binary64 (float (to_z w32 (of_z w32 x2))) (float (to_z w32 (of_z w32 x1))))) (sub binary64 (float (to_z w32 (of_z w32 x1))) (neg one)) (Some (part plus_zero one))
      → b ≡ narrowed (sub binary64 (float (to_z w32 (of_z w32 x2))) (float (to_z w32 (of_z w32 x1)))) (sub binary64 (float (pos width)) (float (to_z w32 (of_z w32 x1)))) a
      → c ≡ narrowed (neg (sub binary64 (float (to_z w32 (of_z w32 y2))) (float (to_z w32 (of_z w32 y1))))) (sub binary64 (float (to_z w32 (of_z w32 y1))) (neg one)) b
      → d ≡ narrowed (sub binary64 (float (to_z w32 (of_z w32 y2))) (float (to_z w32 (of_z w32 y1)))) (sub binary64 (float (pos height)) (float (to_z w32 (of_z w32 y1)))) c
      → forward d ≡ parameters x1 y1 x2 y2 width height
  cut_by ea eb ec ed =
      rw (to_z-of_z w32 x1 fx1, to_z-of_z w32 y1 fy1, to_z-of_z w32 x2 fx2, to_z-of_z w32 y2 fy2) at
      (four (to_z w32 (of_z w32 x1)) (to_z w32 (of_z w32 y1)) (to_z w32 (of_z w32 x2)) (to_z w32 (of_z w32 y2)) width height a b c d ea eb ec ed)

-- a rounded end, from ends that arrive as `to_z w (of_z w x)`
pub is-end : (first second r : ℤ) (t : Float) → SFits w32 first → SFits w32 second → r ≡ end (to_z w32 (of_z w32 first)) (to_z w32 (of_z w32 second)) t → to_z w32 (of_z w32 r) ≡ end first second t
unfolding end
is-end first second r t f s e =
    let g : r ≡ end first second t = rw (to_z-of_z w32 first f, to_z-of_z w32 second s) at e in
    to_z-of_z w32 r (subst (SFits w32) (sym g) (round_fits (add binary64 (float first) (mul binary64 (sub binary64 (float second) (float first)) t)))) ∙ g

-- ---- what is left

module _ (x1 y1 x2 y2 : ℤ) (width height : ℕ) (fx1 : SFits w32 x1) (fy1 : SFits w32 y1) (fx2 : SFits w32 x2) (fy2 : SFits w32 y2) where
  pub is-kept : (t : Bool) → t ≡ kept (to_z w32 (of_z w32 x1)) (to_z w32 (of_z w32 y1)) (to_z w32 (of_z w32 x2)) (to_z w32 (of_z w32 y2)) width height → t ≡ true
      → Some (segment (to_z w32 (of_z w32 x1)) (to_z w32 (of_z w32 y1)) (to_z w32 (of_z w32 x2)) (to_z w32 (of_z w32 y2))) ≡ clip_segment x1 y1 x2 y2 width height
  unfolding clip_segment
  is-kept t e h =
      let g : t ≡ kept x1 y1 x2 y2 width height = rw (to_z-of_z w32 x1 fx1, to_z-of_z w32 y1 fy1, to_z-of_z w32 x2 fx2, to_z-of_z w32 y2 fy2) at e in
      rw (to_z-of_z w32 x1 fx1, to_z-of_z w32 y1 fy1, to_z-of_z w32 x2 fx2, to_z-of_z w32 y2 fy2, ← g, h) refl

  pub is_cut : (t : Bool) (c : Option Part) → t ≡ kept (to_z w32 (of_z w32 x1)) (to_z w32 (of_z w32 y1)) (to_z w32 (of_z w32 x2)) (to_z w32 (of_z w32 y2)) width height → t ≡ false
      → c ≡ parameters (to_z w32 (of_z w32 x1)) (to_z w32 (of_z w32 y1)) (to_z w32 (of_z w32 x2)) (to_z w32 (of_z w32 y2)) width height → between x1 y1 x2 y2 c ≡ clip_segment x1 y1 x2 y2 width height
  unfolding clip_segment
  is_cut t c e h k =
      let g : t ≡ kept x1 y1 x2 y2 width height = rw (to_z-of_z w32 x1 fx1, to_z-of_z w32 y1 fy1, to_z-of_z w32 x2 fx2, to_z-of_z w32 y2 fy2) at e in
      let l : c ≡ parameters x1 y1 x2 y2 width height = rw (to_z-of_z w32 x1 fx1, to_z-of_z w32 y1 fy1, to_z-of_z w32 x2 fx2, to_z-of_z w32 y2 fy2) at k in
      rw (← g, h) (ap (between x1 y1 x2 y2) l)
