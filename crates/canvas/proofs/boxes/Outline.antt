-- An outline's plots land as those of four fills do, in another order.
use Rattle.std.proofs.Common.{◌≡◌, ℕ, zero, suc, ◌+◌, ◌-◌, ◌*◌, ◌/◌, ◌<◌, ◌≤◌, min, Bool, true, false, cond, ◌||◌, eqb, ltb, leb, List, [], ◌∷◌, ◌++◌, length, ℤ, pos, negsuc, ◌+ℤ◌, sym, refl, ap, ◌∙◌, ap₂, append_assoc, append-nil, zero-add, arith, length-append, le-ltb, lt-ltb, ne_eqb, le-leb}
use mathlib.Core.List.Permᴰ
use mathlib.Core.List.{Permᴰ, flat_map}
use native.Mathlib.Decide.{dec_lt}
use borrow.Author.Tests.{eqb-false, lt-leb}
use lib.Dec.{leb-zero}
use lib.IntN.{sub_ℕ}
use lib.Signed.{lt_z}
use Rattle.words.specs.declared.Ink.{Ink}
use Rattle.words.specs.Ink.{inked}
use Rattle.pixels.specs.declared.Canvas.{Canvas}
use Rattle.canvas.specs.declared.Clip.{Clip}
use Rattle.canvas.specs.declared.Tally.{Tally}
use Rattle.canvas.specs.Clip.{within}
use Rattle.canvas.specs.Plot.{Point, at, inks, on_canvas, hits}
use Rattle.pixels.specs.Hits.{Hit}
use Rattle.canvas.specs.Boxes.{side, fill, below, border, outline}
use Rattle.pixels.specs.Rows.{run, flat}
use Rattle.canvas.specs.Boxes.{edges}
use Rattle.canvas.specs.Walk.{lowered, Holds, Work, work, drawn, Keeps, Ready, Did}
use Rattle.canvas.proofs.span.Spans.{both_no, run_is, select-none}
use Rattle.canvas.proofs.span.Differences.{sub_pos, sub-add}
use Rattle.canvas.proofs.plot.Fates.{off_across, off_down, is-outside, lands_on}
use Rattle.canvas.proofs.plot.Paints.{drawn-is}
use Rattle.pixels.proofs.Orders.{perm_of, Screen, By, by_pixel, paint-perm}
use Rattle.canvas.proofs.plot.Landed.{Plots, no_more, and, hits_all}
use Rattle.pixels.proofs.rows.Rows.{each_same}
use Rattle.words.proofs.Either.{neither}
use Rattle.canvas.proofs.boxes.Boxes.{inks-append, inks_each, hits-append, hits_each, some_sides, none_each, fill_none, select-le, each_le, fill-le}

-- ---- a span of one

data One (a : ℤ) (n : ℕ) : Type 0 where
  on : (m : ℕ) → a ≡ pos m → m < n → side a 1 n ≡ m ∷ [] → One a n
  off : within (pos 0) n a ≡ false → side a 1 n ≡ [] → One a n

run-one : (m k : ℕ) → k ≡ 1 → run m k ≡ m ∷ []
unfolding run
run-one m k e = rw e refl

one_at : (m n : ℕ) → m < n → side (pos m) 1 n ≡ m ∷ []
unfolding within
one_at m n h =
    let holds : Holds (λ k. within (pos m) 1 (pos k)) m (m + 1) = record {
      before = λ k l. rw (lt-leb m k l) refl;
      inside = λ k l r. rw (le-leb m k l, lt-ltb k (m + 1) r) refl;
      past = λ k l. rw (le-ltb k (m + 1) l) (both_no (leb m k));
    } in
    sym (run_is (λ k. within (pos m) 1 (pos k)) m (m + 1) n (min (m + 1) n) holds refl) ∙ run-one m (min (m + 1) n - m) (omega arith)

one_of : (a : ℤ) (n : ℕ) → One a n
unfolding within
one_of (pos m) n = go (dec_lt m n)
  where
    go : Dec (m < n) → One (pos m) n
    go (yes h) = on m refl h (one_at m n h)
    go (no h) =
        off (rw (leb-zero m, zero-add n, le-ltb m n (omega arith)) refl)
        (select-none (λ k. within (pos m) 1 (pos k)) 0 n (λ k p q. rw (lt-leb m k (omega arith)) refl))
one_of (negsuc m) n = off refl (select-none (λ k. within (negsuc m) 1 (pos k)) 0 n (λ k p q. past m k))
  where
    past : (m k : ℕ) → within (negsuc m) 1 (pos k) ≡ false
    past zero k = le-ltb k 0 (omega arith)
    past (suc m) k = rw (lt-ltb 1 (suc (suc m)) (omega arith)) refl

-- ---- edges that reach the corners, the corners with the rows

add_nought : (x : ℤ) → x +ℤ pos 0 ≡ x
add_nought (pos n) = ap pos (omega arith)
add_nought (negsuc n) = rw (lt-ltb 0 (suc n) (omega arith)) (ap negsuc (omega arith))

no_inset : (v : Canvas) (x y : ℤ) (w h : ℕ) → edges v x y w h 0 1
    ≡ fill v x y w 1 ++ (fill v x (y +ℤ pos (h - 1)) w 1 ++ (fill v x (y +ℤ pos 1) 1 (h - 2) ++ fill v (x +ℤ pos (w - 1)) (y +ℤ pos 1) 1 (h - 2)))
unfolding edges
no_inset v x y w h = let e : w - 2 * 0 ≡ w = omega arith in rw (add_nought x, e) refl

module _ (v : Canvas) (c : Clip) (f : ℕ → ℕ) where
  abbrev land : List Point → List Hit
  land ps = hits v c (inks f ps)

  land-append : (ps qs : List Point) → land (ps ++ qs) ≡ land ps ++ land qs
  land-append ps qs = ap (hits v c) (inks-append f ps qs) ∙ hits-append v c (inks f ps) (inks f qs)

  land_each : (g : ℕ → List Point) (xs : List ℕ) → land (flat_map g xs) ≡ flat_map (λ x. land (g x)) xs
  land_each g xs = ap (hits v c) (inks_each f g (λ x. inks f (g x)) xs (λ x. refl)) ∙ hits_each v c (λ x. inks f (g x)) xs

  -- points off the canvas do not land
  land_off : (g : ℕ → Point) → ((k : ℕ) → on_canvas v (g k).x (g k).y ≡ false) → (xs : List ℕ) → land (flat_map (λ k. g k ∷ []) xs) ≡ []
  unfolding flat_map inks hits
  land_off g e [] = refl
  land_off g e (x ∷ xs) = rw (is-outside v c (g x).x (g x).y f (e x)) (land_off g e xs)

  -- ---- a row of points at any y, and a column at any x, land as fills do

  row_lands : (x y : ℤ) (w : ℕ) → land (flat_map (λ i. at (pos i) y ∷ []) (side x w v.width)) ≡ land (fill v x y w 1)
  unfolding fill flat_map inks hits
  row_lands x y w = go (one_of y v.height)
    where
      go : One y v.height → land (flat_map (λ i. at (pos i) y ∷ []) (side x w v.width)) ≡ land (flat_map (λ j. flat_map (λ i. at (pos i) (pos j) ∷ []) (side x w v.width)) (side y 1 v.height))
      go (on m e l s) = rw (e, rw e at s) (ap land (sym (append-nil (flat_map (λ i. at (pos i) (pos m) ∷ []) (side x w v.width)))))
      go (off e s) = rw s (land_off (λ i. at (pos i) y) (λ k. off_down v (pos k) y e) (side x w v.width))

  column-lands : (x y : ℤ) (h : ℕ) → land (flat_map (λ j. at x (pos j) ∷ []) (side y h v.height)) ≡ land (fill v x y 1 h)
  unfolding fill flat_map inks hits
  column-lands x y h = go (one_of x v.width)
    where
      go : One x v.width → land (flat_map (λ j. at x (pos j) ∷ []) (side y h v.height)) ≡ land (flat_map (λ j. flat_map (λ i. at (pos i) (pos j) ∷ []) (side x 1 v.width)) (side y h v.height))
      go (on m e l s) = rw (e, rw e at s) refl
      go (off e s) = land_off (λ j. at x (pos j)) (λ k. off_across v x (pos k) e) (side y h v.height) ∙ sym (rw s (ap land (none_each (side y h v.height))))

  -- ---- those that are plotted only if below the side's end

  off_past : (a : ℤ) (n : ℕ) → lt_z a (pos n) ≡ false → side a 1 n ≡ []
  off_past a n e = go (one_of a n)
    where
      go : One a n → side a 1 n ≡ []
      go (off f s) = s
      go (on m f l s) = absurd (let q : ltb m n ≡ false = rw f at e in let z : ◌≡◌ {A = ℕ} 0 1 = ap (λ (t : Bool). cond t 0 1) (sym (lt-ltb m n l) ∙ q) in omega arith)

  no_row : (x y : ℤ) (w : ℕ) → lt_z y (pos v.height) ≡ false → fill v x y w 1 ≡ []
  unfolding fill flat_map
  no_row x y w e = rw (off_past y v.height e) refl

  no_column : (x y : ℤ) (h : ℕ) → lt_z x (pos v.width) ≡ false → fill v x y 1 h ≡ []
  unfolding fill flat_map
  no_column x y h e = rw (off_past x v.width e) (none_each (side y h v.height))

  bottom_lands : (x y : ℤ) (w : ℕ) → flat_map (λ i. land (below y v.height (at (pos i) y))) (side x w v.width) ≡ land (fill v x y w 1)
  bottom_lands x y w = sym (land_each (λ i. below y v.height (at (pos i) y)) (side x w v.width)) ∙ go (lt_z y (pos v.height)) refl
    where
      go : (t : Bool) → lt_z y (pos v.height) ≡ t → land (flat_map (λ i. below y v.height (at (pos i) y)) (side x w v.width)) ≡ land (fill v x y w 1)
      go true e = rw e (row_lands x y w)
      go false e = rw e (ap land (none_each (side x w v.width) ∙ sym (no_row x y w e)))

  right-lands : (x y : ℤ) (h : ℕ) → flat_map (λ j. land (below x v.width (at x (pos j)))) (side y h v.height) ≡ land (fill v x y 1 h)
  right-lands x y h = sym (land_each (λ j. below x v.width (at x (pos j))) (side y h v.height)) ∙ go (lt_z x (pos v.width)) refl
    where
      go : (t : Bool) → lt_z x (pos v.width) ≡ t → land (flat_map (λ j. below x v.width (at x (pos j))) (side y h v.height)) ≡ land (fill v x y 1 h)
      go true e = rw e (column-lands x y h)
      go false e = rw e (ap land (none_each (side y h v.height) ∙ sym (no_column x y h e)))

  -- ---- two of each number are all of the first and all of the second

  each_both : (g h : ℕ → List Hit) (xs : List ℕ) → Permᴰ (flat_map (λ x. g x ++ h x) xs) (flat_map g xs ++ flat_map h xs)
  unfolding flat_map
  each_both g h [] = Permᴰ.nil
  each_both g h (x ∷ xs) =
      let G : List Hit = flat_map g xs in
      let H : List Hit = flat_map h xs in
      Permᴰ.trans (Permᴰ.append_left (g x ++ h x) (each_both g h xs))
      (Permᴰ.trans (perm_of (append_assoc (g x) (h x) (G ++ H)))
      (Permᴰ.trans (Permᴰ.append_left (g x)
      (Permᴰ.trans (perm_of (sym (append_assoc (h x) G H)))
      (Permᴰ.trans (Permᴰ.append_right H (Permᴰ.append_comm (h x) G)) (perm_of (append_assoc G (h x) H)))))
      (perm_of (sym (append_assoc (g x) G (h x ++ H))))))

  -- ---- the border

  -- points of each number, and points that may come with them
  pairs-land : (p : ℕ → Point) (q : ℕ → List Point) (xs : List ℕ) → Permᴰ (land (flat_map (λ k. p k ∷ q k) xs)) (land (flat_map (λ k. p k ∷ []) xs) ++ flat_map (λ k. land (q k)) xs)
  pairs-land p q xs =
      Permᴰ.trans (perm_of (land_each (λ k. p k ∷ q k) xs ∙ each_same _ _ xs (λ k. land-append (p k ∷ []) (q k))))
      (Permᴰ.trans (each_both _ _ xs) (perm_of (ap (λ (l : List Hit). l ++ flat_map (λ k. land (q k)) xs) (sym (land_each (λ k. p k ∷ []) xs)))))

  land_four : (a b d e : List Point) → land (a ++ (b ++ (d ++ e))) ≡ (land a ++ land b) ++ (land d ++ land e)
  land_four a b d e =
      land-append a (b ++ (d ++ e))
      ∙ ap (λ (l : List Hit). land a ++ l) (land-append b (d ++ e) ∙ ap (λ (l : List Hit). land b ++ l) (land-append d e))
      ∙ sym (append_assoc (land a) (land b) (land d ++ land e))

  border-lands : (x y : ℤ) (w h : ℕ) → Permᴰ (land (border v x y w h)) (land (edges v x y w h 0 1))
  unfolding border
  border-lands x y w h =
      let r = x +ℤ pos (w - 1) in
      let u = y +ℤ pos (h - 1) in
      let xs = side x w v.width in
      let ys = side (y +ℤ pos 1) (h - 2) v.height in
      let rows : List Point = flat_map (λ i. at (pos i) y ∷ below u v.height (at (pos i) u)) xs in
      let columns : List Point = flat_map (λ j. at x (pos j) ∷ below r v.width (at r (pos j))) ys in
      let tb : Permᴰ (land rows) (land (fill v x y w 1) ++ land (fill v x u w 1))
      = Permᴰ.trans (pairs-land (λ i. at (pos i) y) (λ i. below u v.height (at (pos i) u)) xs)
      (perm_of (ap₂ (λ (l m : List Hit). l ++ m) (row_lands x y w) (bottom_lands x u w))) in
      let lr : Permᴰ (land columns) (land (fill v x (y +ℤ pos 1) 1 (h - 2)) ++ land (fill v r (y +ℤ pos 1) 1 (h - 2)))
      = Permᴰ.trans (pairs-land (λ j. at x (pos j)) (λ j. below r v.width (at r (pos j))) ys)
      (perm_of (ap₂ (λ (l m : List Hit). l ++ m) (column-lands x (y +ℤ pos 1) (h - 2)) (right-lands r (y +ℤ pos 1) (h - 2)))) in
      Permᴰ.trans (perm_of (land-append rows columns))
      (Permᴰ.trans (Permᴰ.append_right (land columns) tb)
      (Permᴰ.trans (Permᴰ.append_left (land (fill v x y w 1) ++ land (fill v x u w 1)) lr)
      (perm_of (sym (ap land (no_inset v x y w h) ∙ land_four (fill v x y w 1) (fill v x u w 1) (fill v x (y +ℤ pos 1) 1 (h - 2)) (fill v r (y +ℤ pos 1) 1 (h - 2)))))))

-- ---- the code's four fills do a border's work

perm-length : {hs ks : List Hit} → Permᴰ hs ks → length hs ≡ length ks
perm-length Permᴰ.nil = refl
perm-length (Permᴰ.cons e p) = ap suc (perm-length p)
perm-length (Permᴰ.swap e f) = refl
perm-length (Permᴰ.trans p q) = perm-length p ∙ perm-length q

inks-plots : (f : ℕ → ℕ) (ps : List Point) → Plots (λ p. p.ink ≡ f) (inks f ps)
unfolding inks
inks-plots f [] = no_more
inks-plots f (p ∷ ps) = and refl (inks-plots f ps)

pub lowered-add : (u k : ℕ) → lowered u +ℤ pos k ≡ lowered (u + k)
unfolding lowered
lowered-add u k = ap (λ (z : ℤ). sub_ℕ u 2147483648 +ℤ z) (ap pos (omega arith) ∙ sym (sub_pos k 0 (omega arith))) ∙ sub-add u 2147483648 k 0

module _ (v : Canvas) (c : Clip) (i : Ink) (k : Keeps v i) (x y : ℤ) (w h : ℕ) (b : List ℕ) (t : Tally) (s : Screen v b) where
  border-drawn : drawn v c (inks (inked i) (border v x y w h)) (work b t) ≡ drawn v c (inks (inked i) (edges v x y w h 0 1)) (work b t)
  border-drawn =
      let p = border-lands v c (inked i) x y w h in
      drawn-is v c _ (work b t)
      ∙ ap₂ (λ (x : List ℕ) (n : ℕ). work x (record { landed = t.landed + n }))
      (paint-perm v (By v (flat (inked i))) (by_pixel v (flat (inked i)) (λ x y u l. k.keeps u l)) b p s
      (hits_all v c (λ r. r.ink ≡ inked i) (By v (flat (inked i))) (λ r e l. record { on = lands_on v c r l; inked = e }) _ (inks-plots (inked i) _)))
      (perm-length p)
      ∙ sym (drawn-is v c (inks (inked i) (edges v x y w h 0 1)) (work b t))

  pub border_ready : Ready v c (inks (inked i) (border v x y w h)) (work b t) → Ready v c (inks (inked i) (edges v x y w h 0 1)) (work b t)
  border_ready r = record { sized = r.sized; room = rw border-drawn at r.room }

  pub border_did : {u : Work} → Did v c (inks (inked i) (edges v x y w h 0 1)) (work b t) u → Did v c (inks (inked i) (border v x y w h)) (work b t) u
  border_did d = record { same = d.same ∙ sym border-drawn }

-- ---- the cases of an outline

pub two_sides : (w h : ℕ) → (eqb (w / 2) 0 || eqb (h / 2) 0) ≡ false → (2 ≤ w) × (2 ≤ h)
two_sides w h e = let l = some_sides (w / 2) (h / 2) e in (omega (arith, l.0), omega (arith, l.1))

module _ (v : Canvas) (p q w h : ℕ) where
  pub thin_box : (eqb (w / 2) 0 || eqb (h / 2) 0) ≡ true → outline v (lowered p) (lowered q) w h ≡ fill v (lowered p) (lowered q) w h
  unfolding outline
  thin_box e = none (eqb w 0 || eqb h 0) refl
    where
      one : (t : Bool) → (eqb w 1 || eqb h 1) ≡ t → (1 ≤ w) × (1 ≤ h) → cond t (fill v (lowered p) (lowered q) w h) (border v (lowered p) (lowered q) w h) ≡ fill v (lowered p) (lowered q) w h
      one true f l = refl
      one false f l =
          let n = neither (eqb w 1) (eqb h 1) f in
          let a : eqb (w / 2) 0 ≡ false = ne_eqb (w / 2) 0 (λ z. omega (arith, l.0, eqb-false w 1 n.0)) in
          let b : eqb (h / 2) 0 ≡ false = ne_eqb (h / 2) 0 (λ z. omega (arith, l.1, eqb-false h 1 n.1)) in
          absurd (let d : false ≡ true = rw (a, b) at e in let z : ◌≡◌ {A = ℕ} 0 1 = cc in omega arith)

      none : (t : Bool) → (eqb w 0 || eqb h 0) ≡ t
          → cond t [] (cond (eqb w 1 || eqb h 1) (fill v (lowered p) (lowered q) w h) (border v (lowered p) (lowered q) w h)) ≡ fill v (lowered p) (lowered q) w h
      none true f = sym (fill_none v p q w h f)
      none false f = one (eqb w 1 || eqb h 1) refl (some_sides w h f)

  pub larger_box : (eqb (w / 2) 0 || eqb (h / 2) 0) ≡ false → outline v (lowered p) (lowered q) w h ≡ border v (lowered p) (lowered q) w h
  unfolding outline
  larger_box e =
      let l = two_sides w h e in
      rw (ne_eqb w 0 (λ z. omega arith), ne_eqb h 0 (λ z. omega arith), ne_eqb w 1 (λ z. omega arith), ne_eqb h 1 (λ z. omega arith)) refl

-- ---- how many points

border-le : (v : Canvas) (x y : ℤ) (w h : ℕ) → v.width ≤ 32767 → v.height ≤ 32767 → length (border v x y w h) ≤ 131068
unfolding border
border-le v x y w h hw hh =
    let r = x +ℤ pos (w - 1) in
    let u = y +ℤ pos (h - 1) in
    let xs = side x w v.width in
    let ys = side (y +ℤ pos 1) (h - 2) v.height in
    let two : (a : ℤ) (n : ℕ) (p q : Point) → length (p ∷ below a n q) ≤ 2 = λ a n p q. at_most_two (lt_z a (pos n)) p q in
    omega (
      arith,
      length-append (flat_map (λ i. at (pos i) y ∷ below u v.height (at (pos i) u)) xs) (flat_map (λ j. at x (pos j) ∷ below r v.width (at r (pos j))) ys),
      each_le (λ i. at (pos i) y ∷ below u v.height (at (pos i) u)) 2 xs (λ i. two u v.height (at (pos i) y) (at (pos i) u)),
      each_le (λ j. at x (pos j) ∷ below r v.width (at r (pos j))) 2 ys (λ j. two r v.width (at x (pos j)) (at r (pos j))),
      select-le (λ i. within x w (pos i)) 0 v.width,
      select-le (λ j. within (y +ℤ pos 1) (h - 2) (pos j)) 0 v.height,
    )
  where
    at_most_two : (t : Bool) (p q : Point) → length (p ∷ cond t (q ∷ []) []) ≤ 2
    at_most_two true p q = omega arith
    at_most_two false p q = omega arith

pub outline-le : (v : Canvas) (x y : ℤ) (w h : ℕ) → v.width ≤ 32767 → v.height ≤ 32767 → length (outline v x y w h) ≤ 1073676289
unfolding outline
outline-le v x y w h hw hh = go (eqb w 0 || eqb h 0) (eqb w 1 || eqb h 1)
  where
    go : (s t : Bool) → length (cond s [] (cond t (fill v x y w h) (border v x y w h))) ≤ 1073676289
    go true t = omega arith
    go false true = fill-le v x y w h hw hh
    go false false = omega (arith, border-le v x y w h hw hh)
