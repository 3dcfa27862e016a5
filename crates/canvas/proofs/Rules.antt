-- Only `draw` with XOR off asks for the rule, and only for its own canvas's. Of all other calls, and of a source, a rule is asked to be 1
-- or 2, and says nothing more.
use Rattle.std.proofs.Common.{◌≡◌, ℕ, true, ◌⊎◌, List, [], ◌∷◌, length, ℤ, refl, ap, ◌∙◌, ap₂, inl, inr}
use Rattle.blending.specs.Blend.{blend_word}
use Rattle.pixels.specs.declared.Canvas.{Canvas}
use Rattle.canvas.specs.declared.Clip.{Clip}
use Rattle.pixels.specs.Bytes.{pitch, extent, pixel, load_at, store_at}
use Rattle.pixels.specs.Hits.{Hit, touch, paint}
use Rattle.canvas.specs.Faults.{format_fault, rule_fault, size_fault, row_fault, length_fault, or_else, first, verdict}
use Rattle.canvas.specs.Plot.{Plot, plot, Dye, plain, over, inverse, Dot, dip, on_canvas, hits}
use Rattle.canvas.specs.Call.{Call, shape, draw, clip_of, dots, brush, plots, Outcome, drawing, call}
use Rattle.canvas.specs.Calls.{after}
use Rattle.canvas.specs.Look.{look, pixel_at}
use Rattle.canvas.proofs.plot.Sides.{Sided, AllSided, no_call, one-call, hits_sided, dots_sided}
use Rattle.canvas.proofs.Reverse.{Dots, no_more, and, every_dot}

-- the canvas with another rule
abbrev pub ruled_by : Canvas → ℕ → Canvas
ruled_by v r = record { format = v.format; width = v.width; height = v.height; row = v.row; xor = v.xor; rule = r }

-- a dye that is not blended with XOR off, and a call of such dyes: every one but `draw` with XOR off
abbrev Unblended : Canvas → Dye → Type 0
Unblended v (plain c) = Unit {0}
Unblended v (over c) = v.xor ≡ true
Unblended v inverse = Unit {0}

abbrev pub Unasking : Canvas → Call → Type 0
Unasking v (shape own points dye clip) = Unblended v dye
Unasking v (draw dx dy w h source image sx sy clip) = v.xor ≡ true

-- with XOR on none asks
pub with_xor : (v : Canvas) (k : Call) → v.xor ≡ true → Unasking v k
with_xor v (shape own points (plain c) clip) x = tt
with_xor v (shape own points (over c) clip) x = x
with_xor v (shape own points inverse clip) x = tt
with_xor v (draw dx dy w h source image sx sy clip) x = x

-- a rule of 1 or 2: the canvas is refused as if there were no rules
pub ruled-verdict :
    (v : Canvas) (n : ℕ) → (v.rule ≡ 1) ⊎ (v.rule ≡ 2) → verdict v n ≡ first (format_fault v ∷ size_fault v ∷ row_fault v ∷ length_fault v n ∷ [])
unfolding verdict first rule_fault or_else
ruled-verdict v n (inl e) = rw e refl
ruled-verdict v n (inr e) = rw e refl

-- another rule that is refused if the first one is
module _ (v : Canvas) (r : ℕ) (same : rule_fault (ruled_by v r) ≡ rule_fault v) where
  pub verdict-ruled : (n : ℕ) → verdict (ruled_by v r) n ≡ verdict v n
  unfolding verdict first format_fault size_fault row_fault length_fault extent pitch
  verdict-ruled n = rw same refl

  brush-ruled : (d : Dye) → Unblended v d → brush (ruled_by v r) d ≡ brush v d
  unfolding blend_word
  brush-ruled (plain c) u = refl
  brush-ruled (over c) u = rw u refl
  brush-ruled inverse u = refl

  all_ruled : (k : Call) → Unasking v k → Dots (λ (d : Dye). brush (ruled_by v r) d ≡ brush v d) (dots v k)
  all_ruled (shape own points dye clip) u =
      every_dot (λ (d : Dye). brush (ruled_by v r) d ≡ brush v d) v (shape own points dye clip) (brush-ruled dye u)
  all_ruled (draw dx dy w h source image sx sy clip) u =
      every_dot (λ (d : Dye). brush (ruled_by v r) d ≡ brush v d) v (draw dx dy w h source image sx sy clip) (λ c k. brush-ruled (over c) u)

  dip-ruled : (ds : List Dot) → Dots (λ (d : Dye). brush (ruled_by v r) d ≡ brush v d) ds → dip (brush (ruled_by v r)) ds ≡ dip (brush v) ds
  unfolding dip
  dip-ruled [] no_more = refl
  dip-ruled (d ∷ ds) (and e es) = ap₂ (λ (f : ℕ → ℕ) (l : List Plot). plot f d.x d.y ∷ l) e (dip-ruled ds es)

  paint-ruled : (hs : List Hit) (b : List ℕ) → paint (ruled_by v r) hs b ≡ paint v hs b
  unfolding paint touch load_at store_at pixel pitch
  paint-ruled [] b = refl
  paint-ruled (h ∷ hs) b = paint-ruled hs (touch v b h)

  pub hits_unasked : (k : Call) → Sided k → Unasking v k → hits (ruled_by v r) (clip_of k) (plots (ruled_by v r) k) ≡ hits v (clip_of k) (plots v k)
  hits_unasked k s u =
      hits_sided v (ruled_by v r) (clip_of k) (plots (ruled_by v r) k)
      ∙ ap (hits v (clip_of k)) (ap (dip (brush (ruled_by v r))) (dots_sided v (ruled_by v r) k s) ∙ dip-ruled (dots v k) (all_ruled k u))

  -- A call that does not ask: the same answer, and the same bytes.
  pub call_unasked : (k : Call) (b : List ℕ) → Sided k → Unasking v k → call (ruled_by v r) k b ≡ call v k b
  unfolding drawing
  call_unasked k b s u = rw (verdict-ruled (length b), hits_unasked k s u, paint-ruled (hits v (clip_of k) (plots v k)) b) refl

  -- A list of calls with XOR on.
  pub after_unasked : (ks : List Call) (b : List ℕ) → v.xor ≡ true → AllSided ks → after (ruled_by v r) ks b ≡ after v ks b
  unfolding after
  after_unasked [] b x no_call = refl
  after_unasked (k ∷ ks) b x (one-call s ss) =
      ap (λ (o : Outcome). after (ruled_by v r) ks o.bytes) (call_unasked k b s (with_xor v k x)) ∙ after_unasked ks (call v k b).bytes x ss

  -- Reading.
  pub look_unasked : (b : List ℕ) (x y : ℤ) → pixel_at (ruled_by v r) b x y ≡ pixel_at v b x y
  unfolding pixel_at look on_canvas load_at pixel pitch
  look_unasked b x y = rw (verdict-ruled (length b)) refl

-- An image's rule.
pub source_unasked :
    (v s : Canvas) (r : ℕ) → rule_fault (ruled_by s r) ≡ rule_fault s → (dx dy : ℤ) (w h : ℕ) (image : List ℕ) (sx sy : ℤ) (clip : Clip) (b : List ℕ) →
    call v (draw dx dy w h (ruled_by s r) image sx sy clip) b ≡ call v (draw dx dy w h s image sx sy clip) b
unfolding dots load_at pixel pitch
source_unasked v s r same dx dy w h image sx sy clip b = rw (verdict-ruled s r same (length image)) refl
