-- The functions that C and Rust link as makers of calls, on records and numbers: each step of a run is the contract of the function itself.
use mathlib.Core.Path.{◌≡◌, refl, ap, ◌∙◌}
use mathlib.Core.List.{List}
use Prim.Native.Nat.{ℕ}
use lib.IntN.{ℤ}
use lib.ListN.{length}
use denote.Ref.{Bor}
use denote.MutBor.{MutBor}
use Rattle.words.specs.Format.{argb}
use Rattle.words.proofs.Reading.{read_channels}
use Rattle.pixels.specs.declared.Canvas.{Canvas}
use Rattle.canvas.specs.Call.{Call, put_pixel, draw_line, draw_rect, fill_rect, invert_rect, Outcome, Landed, status_of, count_of, call}
use Rattle.canvas.specs.Call.{draw as draw_call}
use Rattle.ovals.specs.Call.{draw_arc, fill_arc, draw_round_rect, fill_round_rect}
use Rattle.canvas.proofs.Reverse.{Colored}
use Rattle.canvas.proofs.plot.Sides.{Sided}
use Rattle.tuyrashka.specs.Exported.{canvas_of, source_of, clip_of, color_of, drawn_of, gives}
use Rattle.tuyrashka.proofs.tuyrashka_put_pixel.Kinds as put_pixel_kinds
use Rattle.tuyrashka.proofs.tuyrashka_put_pixel.Reads as put-pixel
use Rattle.tuyrashka.proofs.tuyrashka_draw_line.Kinds as draw_line_kinds
use Rattle.tuyrashka.proofs.tuyrashka_draw_line.Reads as draw-line
use Rattle.tuyrashka.proofs.tuyrashka_draw_rect.Kinds as draw_rect_kinds
use Rattle.tuyrashka.proofs.tuyrashka_draw_rect.Reads as draw-rect
use Rattle.tuyrashka.proofs.tuyrashka_fill_rect.Kinds as fill_rect_kinds
use Rattle.tuyrashka.proofs.tuyrashka_fill_rect.Reads as fill-rect
use Rattle.tuyrashka.proofs.tuyrashka_draw_arc.Kinds as draw_arc_kinds
use Rattle.tuyrashka.proofs.tuyrashka_draw_arc.Reads as draw-arc
use Rattle.tuyrashka.proofs.tuyrashka_fill_arc.Kinds as fill_arc_kinds
use Rattle.tuyrashka.proofs.tuyrashka_fill_arc.Reads as fill-arc
use Rattle.tuyrashka.proofs.tuyrashka_draw_round_rect.Kinds as draw_round_rect_kinds
use Rattle.tuyrashka.proofs.tuyrashka_draw_round_rect.Reads as draw_round_rect
use Rattle.tuyrashka.proofs.tuyrashka_fill_round_rect.Kinds as fill_round_rect_kinds
use Rattle.tuyrashka.proofs.tuyrashka_fill_round_rect.Reads as fill_round_rect
use Rattle.tuyrashka.proofs.tuyrashka_invert_rect.Kinds as invert_rect_kinds
use Rattle.tuyrashka.proofs.tuyrashka_invert_rect.Reads as invert-rect
use Rattle.tuyrashka.proofs.tuyrashka_draw.Kinds as draw_kinds
use Rattle.tuyrashka.proofs.tuyrashka_draw.Reads as draw
use Rattle.tuyrashka.proofs.tuyrashka_copy_area.Kinds as copy_area_kinds
use Rattle.tuyrashka.proofs.tuyrashka_copy_area.Reads as copy-area
use Rattle.screens.proofs.Sides.{of_line, of_outline, of_fill, of_arc, of_pie, of_round, of_round_fill}
use Rattle.screens.proofs.Runs.{Ran, answer, call_answers, Copy, copy, Maker}

-- An answer is the number returned and the record given back.
pub data Made : Canvas → Call → List ℕ → ℕ × List ℕ → List ℕ → Type 0 where
  by_put_pixel : {κs : _} {g z : Bor (List ℕ)} {m n : MutBor (List ℕ)} {x y : ℤ} {c : ℕ} {r : ℕ} {s : _}
      → Ran put_pixel_kinds.ps put_pixel_kinds.r put-pixel.Post κs (g, (m, (x, (y, (c, (z, (n, tt))))))) r s
      → Made (canvas_of g.now) (put_pixel x y (color_of c) (clip_of z.now)) m.now (r, s.1.1.1.1.1.1.0.now) s.1.0.now
  by_draw_line : {κs : _} {g z : Bor (List ℕ)} {m n : MutBor (List ℕ)} {x1 y1 x2 y2 : ℤ} {c : ℕ} {r : ℕ} {s : _}
      → Ran draw_line_kinds.ps draw_line_kinds.r draw-line.Post κs (g, (m, (x1, (y1, (x2, (y2, (c, (z, (n, tt))))))))) r s
      → Made (canvas_of g.now) (draw_line x1 y1 x2 y2 (color_of c) (clip_of z.now)) m.now (r, s.1.1.1.1.1.1.1.1.0.now) s.1.0.now
  by_draw_rect : {κs : _} {g z : Bor (List ℕ)} {m n : MutBor (List ℕ)} {x y : ℤ} {w h : ℕ} {c : ℕ} {r : ℕ} {s : _}
      → Ran draw_rect_kinds.ps draw_rect_kinds.r draw-rect.Post κs (g, (m, (x, (y, (w, (h, (c, (z, (n, tt))))))))) r s
      → Made (canvas_of g.now) (draw_rect x y w h (color_of c) (clip_of z.now)) m.now (r, s.1.1.1.1.1.1.1.1.0.now) s.1.0.now
  by_fill_rect : {κs : _} {g z : Bor (List ℕ)} {m n : MutBor (List ℕ)} {x y : ℤ} {w h : ℕ} {c : ℕ} {r : ℕ} {s : _}
      → Ran fill_rect_kinds.ps fill_rect_kinds.r fill-rect.Post κs (g, (m, (x, (y, (w, (h, (c, (z, (n, tt))))))))) r s
      → Made (canvas_of g.now) (fill_rect x y w h (color_of c) (clip_of z.now)) m.now (r, s.1.1.1.1.1.1.1.1.0.now) s.1.0.now
  by_draw_arc : {κs : _} {g z : Bor (List ℕ)} {m n : MutBor (List ℕ)} {x y : ℤ} {w h : ℕ} {start arc : ℤ} {c : ℕ} {r : ℕ} {s : _}
      → Ran draw_arc_kinds.ps draw_arc_kinds.r draw-arc.Post κs (g, (m, (x, (y, (w, (h, (start, (arc, (c, (z, (n, tt))))))))))) r s
      → Made (canvas_of g.now) (draw_arc x y w h start arc (color_of c) (clip_of z.now)) m.now (r, s.1.1.1.1.1.1.1.1.1.1.0.now) s.1.0.now
  by_fill_arc : {κs : _} {g z : Bor (List ℕ)} {m n : MutBor (List ℕ)} {x y : ℤ} {w h : ℕ} {start arc : ℤ} {c : ℕ} {r : ℕ} {s : _}
      → Ran fill_arc_kinds.ps fill_arc_kinds.r fill-arc.Post κs (g, (m, (x, (y, (w, (h, (start, (arc, (c, (z, (n, tt))))))))))) r s
      → Made (canvas_of g.now) (fill_arc x y w h start arc (color_of c) (clip_of z.now)) m.now (r, s.1.1.1.1.1.1.1.1.1.1.0.now) s.1.0.now
  by_draw_round_rect : {κs : _} {g z : Bor (List ℕ)} {m n : MutBor (List ℕ)} {x y : ℤ} {w h aw ah : ℕ} {c : ℕ} {r : ℕ} {s : _}
      → Ran draw_round_rect_kinds.ps draw_round_rect_kinds.r draw_round_rect.Post κs (g, (m, (x, (y, (w, (h, (aw, (ah, (c, (z, (n, tt))))))))))) r s
      → Made (canvas_of g.now) (draw_round_rect x y w h aw ah (color_of c) (clip_of z.now)) m.now (r, s.1.1.1.1.1.1.1.1.1.1.0.now) s.1.0.now
  by_fill_round_rect : {κs : _} {g z : Bor (List ℕ)} {m n : MutBor (List ℕ)} {x y : ℤ} {w h aw ah : ℕ} {c : ℕ} {r : ℕ} {s : _}
      → Ran fill_round_rect_kinds.ps fill_round_rect_kinds.r fill_round_rect.Post κs (g, (m, (x, (y, (w, (h, (aw, (ah, (c, (z, (n, tt))))))))))) r s
      → Made (canvas_of g.now) (fill_round_rect x y w h aw ah (color_of c) (clip_of z.now)) m.now (r, s.1.1.1.1.1.1.1.1.1.1.0.now) s.1.0.now
  by_invert_rect : {κs : _} {g z : Bor (List ℕ)} {m n : MutBor (List ℕ)} {x y : ℤ} {w h : ℕ} {r : ℕ} {s : _}
      → Ran invert_rect_kinds.ps invert_rect_kinds.r invert-rect.Post κs (g, (m, (x, (y, (w, (h, (z, (n, tt)))))))) r s
      → Made (canvas_of g.now) (invert_rect x y w h (clip_of z.now)) m.now (r, s.1.1.1.1.1.1.1.0.now) s.1.0.now
  by_draw : {κs : _} {g i p z : Bor (List ℕ)} {m n : MutBor (List ℕ)} {dx dy : ℤ} {w h : ℕ} {sx sy : ℤ} {r : ℕ} {s : _}
      → Ran draw_kinds.ps draw_kinds.r draw.Post κs (g, (m, (dx, (dy, (w, (h, (i, (p, (sx, (sy, (z, (n, tt)))))))))))) r s
      → Made (canvas_of g.now) (draw_call dx dy w h (source_of i.now) p.now sx sy (clip_of z.now)) m.now (r, s.1.1.1.1.1.1.1.1.1.1.1.0.now) s.1.0.now

made_is : {v : Canvas} {k : Call} {b b' : List ℕ} {a : ℕ × List ℕ} → Made v k b a b' → ◌≡◌ {A = ℕ × (List ℕ × List ℕ)} (a.0, (a.1, b')) (gives (call v k b))
made_is (by_put_pixel q) = q.post
made_is (by_draw_line q) = q.post
made_is (by_draw_rect q) = q.post
made_is (by_fill_rect q) = q.post
made_is (by_draw_arc q) = q.post
made_is (by_fill_arc q) = q.post
made_is (by_draw_round_rect q) = q.post
made_is (by_fill_round_rect q) = q.post
made_is (by_invert_rect q) = q.post
made_is (by_draw q) = q.post

colored : {v : Canvas} {k : Call} {b b' : List ℕ} {a : ℕ × List ℕ} → Made v k b a b' → Colored k
colored (by_put_pixel {c = c} q) = read_channels argb c
colored (by_draw_line {c = c} q) = read_channels argb c
colored (by_draw_rect {c = c} q) = read_channels argb c
colored (by_fill_rect {c = c} q) = read_channels argb c
colored (by_draw_arc {c = c} q) = read_channels argb c
colored (by_fill_arc {c = c} q) = read_channels argb c
colored (by_draw_round_rect {c = c} q) = read_channels argb c
colored (by_fill_round_rect {c = c} q) = read_channels argb c
colored (by_invert_rect q) = tt
colored (by_draw q) = tt

left : {v : Canvas} {k : Call} {b b' : List ℕ} {a : ℕ × List ℕ} → Made v k b a b' → b' ≡ (call v k b).bytes
unfolding gives
left m = ap (λ (t : ℕ × (List ℕ × List ℕ)). t.1.1) (made_is m)

-- how the answer of a call is told
abbrev pub tell : Landed → ℕ × List ℕ
tell d = (status_of d, drawn_of (count_of d))

told : {v : Canvas} {k : Call} {b b' : List ℕ} {a : ℕ × List ℕ} → Made v k b a b' → a ≡ tell (answer v (length b) k)
unfolding gives
told {v} {k} {b} m =
    ap (λ (t : ℕ × (List ℕ × List ℕ)). (t.0, t.1.0)) (made_is m) ∙ ap (λ (o : Outcome). (o.status, drawn_of o.count)) (call_answers v k b)

sided : {v : Canvas} {k : Call} {b b' : List ℕ} {a : ℕ × List ℕ} → Made v k b a b' → Sided k
sided (by_put_pixel q) = λ v r. refl
sided (by_draw_line q) = of_line _ _ _ _
sided (by_draw_rect q) = of_outline _ _ _ _
sided (by_fill_rect q) = of_fill _ _ _ _
sided (by_draw_arc q) = of_arc _ _ _ _ _ _
sided (by_fill_arc q) = of_pie _ _ _ _ _ _
sided (by_draw_round_rect q) = of_round _ _ _ _ _ _
sided (by_fill_round_rect q) = of_round_fill _ _ _ _ _ _
sided (by_invert_rect q) = of_fill _ _ _ _
sided (by_draw q) = tt

pub data Copied : Canvas → Copy → List ℕ → List ℕ → Type 0 where
  by_copy_area : {κs : _} {g z : Bor (List ℕ)} {m n : MutBor (List ℕ)} {dx dy sx sy : ℤ} {w h : ℕ} {r : ℕ} {s : _}
      → Ran copy_area_kinds.ps copy_area_kinds.r copy-area.Post κs (g, (m, (dx, (dy, (sx, (sy, (w, (h, (z, (n, tt)))))))))) r s
      → Copied (canvas_of g.now) (record { dx = dx; dy = dy; sx = sx; sy = sy; w = w; h = h; clip = clip_of z.now }) m.now s.1.0.now

copied : {v : Canvas} {k : Copy} {b b' : List ℕ} → Copied v k b b' → b' ≡ (copy v k b).bytes
unfolding gives
copied (by_copy_area q) = ap (λ (t : ℕ × (List ℕ × List ℕ)). t.1.1) q.post

-- the calls of include/tuyrashka.h
pub linked : Maker
linked = record {
  Answer = ℕ × List ℕ;
  tell = tell;
  Made = Made;
  leaving = left;
  telling = told;
  colored = colored;
  sided = sided;
  Copied = Copied;
  copying = copied;
}
