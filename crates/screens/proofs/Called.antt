-- The public functions as makers of calls: each step of a run is the contract of the function itself. A new call adds a constructor of
-- `Made` and a case of `made_is`, of `colored` and of `sided`.
use mathlib.Core.Path.{◌≡◌, refl, ap, ◌∙◌}
use mathlib.Core.List.{List}
use Prim.Native.Nat.{ℕ}
use lib.IntN.{ℤ}
use lib.ListN.{length}
use denote.Laws.{Is}
use denote.Ref.{Bor}
use denote.MutBor.{MutBor}
use denote.Struct.Declared.{row}
use denote.Struct.Laws.{vals}
use Rattle.words.specs.declared.Color.{Color}
use Rattle.words.specs.contracts.Color as color_type
use Rattle.words.proofs.Color.TheLaws as color_laws
use Rattle.words.proofs.Laws.{Channels}
use Rattle.pixels.specs.declared.Canvas.{Canvas}
use Rattle.canvas.specs.declared.Clip.{Clip}
use Rattle.canvas.specs.Call.{Call, put_pixel, draw_line, draw_rect, fill_rect, invert_rect, Outcome, Landed, leaves, call}
use Rattle.canvas.specs.Call.{draw as draw_call}
use Rattle.ovals.specs.Call.{draw_arc, fill_arc, draw_round_rect, fill_round_rect}
use Rattle.canvas.proofs.Determined.{leaves-same}
use Rattle.canvas.proofs.Reverse.{Colored}
use Rattle.canvas.proofs.plot.Sides.{Sided}
use Rattle.canvas.proofs.put_pixel.Kinds as put_pixel_kinds
use Rattle.canvas.proofs.put_pixel.Reads as put-pixel
use Rattle.canvas.proofs.draw_line.Kinds as draw_line_kinds
use Rattle.canvas.proofs.draw_line.Reads as draw-line
use Rattle.canvas.proofs.draw_rect.Kinds as draw_rect_kinds
use Rattle.canvas.proofs.draw_rect.Reads as draw-rect
use Rattle.canvas.proofs.fill_rect.Kinds as fill_rect_kinds
use Rattle.canvas.proofs.fill_rect.Reads as fill-rect
use Rattle.ovals.proofs.draw_arc.Kinds as draw_arc_kinds
use Rattle.ovals.proofs.draw_arc.Reads as draw-arc
use Rattle.ovals.proofs.fill_arc.Kinds as fill_arc_kinds
use Rattle.ovals.proofs.fill_arc.Reads as fill-arc
use Rattle.ovals.proofs.draw_round_rect.Kinds as draw_round_rect_kinds
use Rattle.ovals.proofs.draw_round_rect.Reads as draw_round_rect
use Rattle.ovals.proofs.fill_round_rect.Kinds as fill_round_rect_kinds
use Rattle.ovals.proofs.fill_round_rect.Reads as fill_round_rect
use Rattle.canvas.proofs.invert_rect.Kinds as invert_rect_kinds
use Rattle.canvas.proofs.invert_rect.Reads as invert-rect
use Rattle.images.proofs.draw.Kinds as draw_kinds
use Rattle.images.proofs.draw.Reads as draw
use Rattle.images.proofs.copy_area.Kinds as copy_area_kinds
use Rattle.images.proofs.copy_area.Reads as copy-area
use Rattle.screens.proofs.Sides.{of_line, of_outline, of_fill, of_arc, of_pie, of_round, of_round_fill}
use Rattle.screens.proofs.Runs.{Ran, answer, call_answers, Copy, copy, Maker}

pub data Made : Canvas → Call → List ℕ → Landed → List ℕ → Type 0 where
  by_put_pixel : {κs : _} {v : Canvas} {m : MutBor (List ℕ)} {x y : ℤ} {c : Color} {k : Clip} {d : Landed} {s : _}
      → Ran put_pixel_kinds.ps put_pixel_kinds.r put-pixel.Post κs (v, (m, (x, (y, (c, (k, tt)))))) d s
      → Made v (put_pixel x y c k) m.now d s.1.0.now
  by_draw_line : {κs : _} {v : Canvas} {m : MutBor (List ℕ)} {x1 y1 x2 y2 : ℤ} {c : Color} {k : Clip} {d : Landed} {s : _}
      → Ran draw_line_kinds.ps draw_line_kinds.r draw-line.Post κs (v, (m, (x1, (y1, (x2, (y2, (c, (k, tt)))))))) d s
      → Made v (draw_line x1 y1 x2 y2 c k) m.now d s.1.0.now
  by_draw_rect : {κs : _} {v : Canvas} {m : MutBor (List ℕ)} {x y : ℤ} {w h : ℕ} {c : Color} {k : Clip} {d : Landed} {s : _}
      → Ran draw_rect_kinds.ps draw_rect_kinds.r draw-rect.Post κs (v, (m, (x, (y, (w, (h, (c, (k, tt)))))))) d s
      → Made v (draw_rect x y w h c k) m.now d s.1.0.now
  by_fill_rect : {κs : _} {v : Canvas} {m : MutBor (List ℕ)} {x y : ℤ} {w h : ℕ} {c : Color} {k : Clip} {d : Landed} {s : _}
      → Ran fill_rect_kinds.ps fill_rect_kinds.r fill-rect.Post κs (v, (m, (x, (y, (w, (h, (c, (k, tt)))))))) d s
      → Made v (fill_rect x y w h c k) m.now d s.1.0.now
  by_draw_arc : {κs : _} {v : Canvas} {m : MutBor (List ℕ)} {x y : ℤ} {w h : ℕ} {start arc : ℤ} {c : Color} {k : Clip} {d : Landed} {s : _}
      → Ran draw_arc_kinds.ps draw_arc_kinds.r draw-arc.Post κs (v, (m, (x, (y, (w, (h, (start, (arc, (c, (k, tt)))))))))) d s
      → Made v (draw_arc x y w h start arc c k) m.now d s.1.0.now
  by_fill_arc : {κs : _} {v : Canvas} {m : MutBor (List ℕ)} {x y : ℤ} {w h : ℕ} {start arc : ℤ} {c : Color} {k : Clip} {d : Landed} {s : _}
      → Ran fill_arc_kinds.ps fill_arc_kinds.r fill-arc.Post κs (v, (m, (x, (y, (w, (h, (start, (arc, (c, (k, tt)))))))))) d s
      → Made v (fill_arc x y w h start arc c k) m.now d s.1.0.now
  by_draw_round_rect : {κs : _} {v : Canvas} {m : MutBor (List ℕ)} {x y : ℤ} {w h aw ah : ℕ} {c : Color} {k : Clip} {d : Landed} {s : _}
      → Ran draw_round_rect_kinds.ps draw_round_rect_kinds.r draw_round_rect.Post κs (v, (m, (x, (y, (w, (h, (aw, (ah, (c, (k, tt)))))))))) d s
      → Made v (draw_round_rect x y w h aw ah c k) m.now d s.1.0.now
  by_fill_round_rect : {κs : _} {v : Canvas} {m : MutBor (List ℕ)} {x y : ℤ} {w h aw ah : ℕ} {c : Color} {k : Clip} {d : Landed} {s : _}
      → Ran fill_round_rect_kinds.ps fill_round_rect_kinds.r fill_round_rect.Post κs (v, (m, (x, (y, (w, (h, (aw, (ah, (c, (k, tt)))))))))) d s
      → Made v (fill_round_rect x y w h aw ah c k) m.now d s.1.0.now
  by_invert_rect : {κs : _} {v : Canvas} {m : MutBor (List ℕ)} {x y : ℤ} {w h : ℕ} {k : Clip} {d : Landed} {s : _}
      → Ran invert_rect_kinds.ps invert_rect_kinds.r invert-rect.Post κs (v, (m, (x, (y, (w, (h, (k, tt))))))) d s
      → Made v (invert_rect x y w h k) m.now d s.1.0.now
  by_draw : {κs : _} {v : Canvas} {m : MutBor (List ℕ)} {dx dy : ℤ} {w h : ℕ} {source : Canvas} {image : Bor (List ℕ)} {sx sy : ℤ} {k : Clip} {d : Landed} {s : _}
      → Ran draw_kinds.ps draw_kinds.r draw.Post κs (v, (m, (dx, (dy, (w, (h, (source, (image, (sx, (sy, (k, tt))))))))))) d s
      → Made v (draw_call dx dy w h source image.now sx sy k) m.now d s.1.0.now

pub made_is : {v : Canvas} {k : Call} {b b' : List ℕ} {d : Landed} → Made v k b d b' → leaves d b' ≡ call v k b
made_is (by_put_pixel q) = q.post
made_is (by_draw_line q) = q.post
made_is (by_draw_rect q) = q.post
made_is (by_fill_rect q) = q.post
made_is (by_draw_arc q) = q.post
made_is (by_fill_arc q) = q.post
made_is (by_draw_round_rect q) = q.post
made_is (by_fill_round_rect q) = q.post
made_is (by_invert_rect q) = q.post
made_is (by_draw q) = q.post

-- a colour that a caller can own is of bytes
channels : (c : Color) → Is (row color_type.the_type) c (vals color_type.the_type color_laws.the_laws c) → Channels c
channels c o = record { a = o.1.1.0.1; r = o.1.1.1.0.1; g = o.1.1.1.1.0.1; b = o.1.1.1.1.1.0.1 }

colored : {v : Canvas} {k : Call} {b b' : List ℕ} {d : Landed} → Made v k b d b' → Colored k
colored (by_put_pixel q) = channels _ q.owned.1.1.1.1.0
colored (by_draw_line q) = channels _ q.owned.1.1.1.1.1.1.0
colored (by_draw_rect q) = channels _ q.owned.1.1.1.1.1.1.0
colored (by_fill_rect q) = channels _ q.owned.1.1.1.1.1.1.0
colored (by_draw_arc q) = channels _ q.owned.1.1.1.1.1.1.1.1.0
colored (by_fill_arc q) = channels _ q.owned.1.1.1.1.1.1.1.1.0
colored (by_draw_round_rect q) = channels _ q.owned.1.1.1.1.1.1.1.1.0
colored (by_fill_round_rect q) = channels _ q.owned.1.1.1.1.1.1.1.1.0
colored (by_invert_rect q) = tt
colored (by_draw q) = tt

told : {v : Canvas} {k : Call} {b b' : List ℕ} {d : Landed} → Made v k b d b' → d ≡ answer v (length b) k
told {v} {k} {b} {b'} {d} m = (leaves-same d (answer v (length b) k) b' (call v k b).bytes (made_is m ∙ call_answers v k b)).0

sided : {v : Canvas} {k : Call} {b b' : List ℕ} {d : Landed} → Made v k b d b' → Sided k
sided (by_put_pixel q) = λ v r. refl
sided (by_draw_line q) = of_line _ _ _ _
sided (by_draw_rect q) = of_outline _ _ _ _
sided (by_fill_rect q) = of_fill _ _ _ _
sided (by_draw_arc q) = of_arc _ _ _ _ _ _
sided (by_fill_arc q) = of_pie _ _ _ _ _ _
sided (by_draw_round_rect q) = of_round _ _ _ _ _ _
sided (by_fill_round_rect q) = of_round_fill _ _ _ _ _ _
sided (by_invert_rect q) = of_fill _ _ _ _
sided (by_draw q) = tt

pub data Copied : Canvas → Copy → List ℕ → List ℕ → Type 0 where
  by_copy_area : {κs : _} {v : Canvas} {m : MutBor (List ℕ)} {dx dy sx sy : ℤ} {w h : ℕ} {k : Clip} {d : Landed} {s : _}
      → Ran copy_area_kinds.ps copy_area_kinds.r copy-area.Post κs (v, (m, (dx, (dy, (sx, (sy, (w, (h, (k, tt))))))))) d s
      → Copied v (record { dx = dx; dy = dy; sx = sx; sy = sy; w = w; h = h; clip = k }) m.now s.1.0.now

copied : {v : Canvas} {k : Copy} {b b' : List ℕ} → Copied v k b b' → b' ≡ (copy v k b).bytes
copied (by_copy_area q) = ap (λ (o : Outcome). o.bytes) q.post

-- the calls of `canvas`, `ovals` and `images`
pub called : Maker
called = record {
  Answer = Landed;
  tell = λ d. d;
  Made = Made;
  leaving = λ m. ap (λ (o : Outcome). o.bytes) (made_is m);
  telling = told;
  colored = colored;
  sided = sided;
  Copied = Copied;
  copying = copied;
}
