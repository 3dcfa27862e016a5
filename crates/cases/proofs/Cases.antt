-- The bytes that a canvas has fit the room exactly where its area is at most the room divided by a pixel's size; and a line
-- as a case, part by part.
use mathlib.Core.Bool.{Bool, true, false, cond, true≢false}
use mathlib.Core.List.{List, [], ◌∷◌, ◌++◌}
use mathlib.Core.Path.{◌≡◌, refl, sym, ◌∙◌, subst}
use Prim.Native.Nat.{ℕ, ◌*◌, ◌/◌, ◌^◌, ◌<◌, ◌≤◌}
use native.Mathlib.Nat.{div-lt_iff_lt-mul, le-div_iff_mul-le, mul-le-mul}
use native.Mathlib.Omega.{arith}
use lib.ListN.{length, take, drop}
use lib.Dec.{leb}
use lib.Seq.{length-take-le}
use borrow.Author.Tests.{leb-true, le-leb, lt-leb, eq-eqb, ne_eqb}
use Rattle.std.specs.Prelude.{Option, Some, None, is_some, IfSome}
use Rattle.std.specs.Borrow.{Bor}
use Rattle.words.specs.Format.{format_of, bytes_per_pixel}
use Rattle.cases.specs.Line.{Left, words, lost, words_of, got, after, next}
use Rattle.cases.specs.Number.{letters, name_of}
use Rattle.cases.specs.Row.{Args, head, row_of, args_of}
use Rattle.cases.specs.Seed.{Sown, zeros, counted, given, first_bytes}
use Rattle.cases.specs.Place.{left_of, sown, Fills}
use Rattle.cases.specs.Case.{exactly, lent, fitting, capped, whole, Outcome, no_case, laid, lent_at, laid_out, called, known, case_of}
use Rattle.cases.specs.declared.ops.Kind.{Kind}
use Rattle.cases.specs.declared.seed.Seed.{Seed}
use Rattle.cases.specs.declared.seed.Seed.TheVariants.{Zeros, Bytes}
use Rattle.cases.proofs.Seeds.{length_pairs}

pub area_fits : (w h : ℕ) → w < 2 ^ 32 → h < 2 ^ 32 → w * h < 2 ^ 64
area_fits w h a b =
    let a' : w ≤ 4294967295 = omega arith in
    let b' : h ≤ 4294967295 = omega arith in
    let p : w * h ≤ 4294967295 * 4294967295 = mul-le-mul a' b' in omega (arith, p)

pub over : (room n : ℕ) → room < n → None ≡ fitting room n
unfolding fitting
over room n h = rw (lt-leb n room h)

pub fits : (room n : ℕ) → n ≤ room → Some n ≡ fitting room n
unfolding fitting
fits room n h = rw (le-leb n room h)

module _ (room size f w h : ℕ) (s : size ≡ bytes_per_pixel (format_of f)) where
  pub no_format : size ≡ 0 → None ≡ capped room (exactly f w h)
  unfolding exactly capped
  no_format z = rw (eq-eqb (bytes_per_pixel (format_of f)) 0 (sym s ∙ z))

  module _ (n : size ≡ 0 → ⊥) where
    known_format : fitting room (w * h * size) ≡ capped room (exactly f w h)
    unfolding exactly capped
    known_format = rw (ne_eqb (bytes_per_pixel (format_of f)) 0 (λ (z : bytes_per_pixel (format_of f) ≡ 0). n (s ∙ z)), s)

    pub too_big : room / size < w * h → None ≡ capped room (exactly f w h)
    too_big l = let p : 0 < size = omega (arith, n) in over room (w * h * size) ((div-lt_iff_lt-mul p).0 l) ∙ known_format

    pub held_is : w * h ≤ room / size → Some (w * h * size) ≡ capped room (exactly f w h)
    held_is l = let p : 0 < size = omega (arith, n) in fits room (w * h * size) ((le-div_iff_mul-le p).0 l) ∙ known_format

pub product_fits : (a room size : ℕ) → (size ≡ 0 → ⊥) → a ≤ room / size → a * size ≤ room
product_fits a room size n h = let p : 0 < size = omega (arith, n) in (le-div_iff_mul-le p).0 h

-- What the seed lends.
pub bytes_lent : (room f w h : ℕ) (s : Seed) (d : Bor (List ℕ)) → s ≡ Bytes d → fitting room (length d.now / 2) ≡ capped room (lent f w h (sown s))
unfolding lent capped
bytes_lent room f w h s d e = rw (e, length_pairs d.now)

pub canvas_lent : (f w h : ℕ) (s : Seed) → ((d : Bor (List ℕ)) → s ≡ Bytes d → ⊥) → exactly f w h ≡ lent f w h (sown s)
unfolding lent
canvas_lent f w h Zeros n = refl
canvas_lent f w h (Seed.Number k) n = refl
canvas_lent f w h (Bytes d) n = absurd (n d refl)

fitting_by : (room n m : ℕ) (b : Bool) → leb m room ≡ b → Some n ≡ cond b (Some m) None → (n ≡ m) × (n ≤ room)
fitting_by room n m true e h = let p : n ≡ m = cc in (p, rw p (leb-true m room e))
fitting_by room n m false e h = cc

capped_by : (room n : ℕ) (v : Option ℕ) → Some n ≡ capped room v → n ≤ room
unfolding capped fitting
capped_by room n (Some m) h = (fitting_by room n m (leb m room) refl h).1
capped_by room n None h = cc

pub within : (room i j n : ℕ) (g : Args) → Some n ≡ lent_at room i j g → n ≤ room
within room i j n g h = capped_by room n _ h

fills_by : (room f w h n : ℕ) (s : Sown) → Some n ≡ capped room (lent f w h s) → Fills s n
unfolding capped fitting lent
fills_by room f w h n zeros e = tt
fills_by room f w h n (counted k) e = tt
fills_by room f w h n (given bs) e = (fitting_by room n (length bs) (leb (length bs) room) refl e).0

pub fills : (room i j n : ℕ) (g : Args) → Some n ≡ lent_at room i j g → Fills g.seed n
fills room i j n g h = fills_by room _ _ _ n g.seed h

-- Both are laid out, or neither is.
module _ (op : ℕ) (h r : Args) (bytes image : List ℕ) where
  pub no_first : None ≡ lent_at (length bytes) 0 5 h → (no_case, bytes, image) ≡ laid_out op h r bytes image
  unfolding laid
  no_first e = rw (← e)

  module _ (n : ℕ) (e : Some n ≡ lent_at (length bytes) 0 5 h) where
    pub no_second : None ≡ lent_at (length image) 4 8 r → (no_case, bytes, image) ≡ laid_out op h r bytes image
    unfolding laid
    no_second f = rw (← e, ← f)

    pub both_laid : (m : ℕ) → Some m ≡ lent_at (length image) 4 8 r → {t u : List ℕ} → t ≡ first_bytes h.seed (length (take n bytes)) → u ≡ first_bytes r.seed (length (take m image))
        → (Some (record { name = op; head = h.numbers; args = r.numbers; bytes = n; image = m }), t ++ drop n bytes, u ++ drop m image) ≡ laid_out op h r bytes image
    unfolding laid
    both_laid m f p q =
        let a : n ≤ length bytes = within (length bytes) 0 5 n h e in
        let b : m ≤ length image = within (length image) 4 8 m r f in
        rw (← e, ← f, p, q, length-take-le n bytes a, length-take-le m image b)

-- The head, the name and the row one after the other are the case.
lost_name : (l : Left) → (name_of l).left ≡ lost → (name_of l).value ≡ 0
unfolding name_of next after
lost_name (words []) e = refl
lost_name (words (w ∷ ws)) e = by (letters 0 w) e
  where
    by : (v : Option ℕ) → (after 0 v (words ws)).left ≡ lost → (after 0 v (words ws)).value ≡ 0
    by None e = refl
    by (Some n) e = cc
lost_name lost e = refl

-- A row is whole where nothing is left of the line.
not_whole : (l : Option (Bor (List ℕ))) (b : Bool) → b ≡ is_some l → b ≡ true → (x y : Outcome) → y ≡ whole (left_of l) x y
unfolding whole
not_whole None b e t x y = absurd (true≢false (sym t ∙ e))
not_whole (Some s) b e t x y = refl

is_whole : (l : Option (Bor (List ℕ))) (b : Bool) → b ≡ is_some l → b ≡ false → (x y : Outcome) → x ≡ whole (left_of l) x y
unfolding whole
is_whole None b e t x y = refl
is_whole (Some s) b e t x y = absurd (true≢false (sym e ∙ t))

module _ (line bytes image : List ℕ) where
  abbrev bad : Outcome
  bad = (no_case, bytes, image)

  pub head_lost : (args_of head (words_of line)).left ≡ lost → bad ≡ case_of line bytes image
  unfolding case_of known name_of next row_of
  head_lost e = rw e

  module _ (h : Args) (l : Left) (e : args_of head (words_of line) ≡ got h l) where
    pub name_lost : (name_of l).left ≡ lost → bad ≡ case_of line bytes image
    unfolding case_of known row_of
    name_lost f = rw (e, lost_name l f)

    module _ (op : ℕ) (m : Left) (f : name_of l ≡ got op m) (r : List Kind) (z : r ≡ row_of op) where
      pub no_op : length r ≡ 0 → bad ≡ case_of line bytes image
      unfolding case_of known
      no_op n = rw (e, f, ← z) (none_known r n _)
        where
          none_known : (r : List Kind) → length r ≡ 0 → (x : Outcome) → bad ≡ known r x bad
          none_known [] n x = refl
          none_known (k ∷ ks) n x = absurd (omega arith)

      module _ (n : length r ≡ 0 → ⊥) where
        some_row : called op h (args_of r m) bytes image ≡ case_of line bytes image
        unfolding case_of known
        some_row = rw (e, f, ← z) (all_known r n _)
          where
            all_known : (r : List Kind) → (length r ≡ 0 → ⊥) → (x : Outcome) → x ≡ known r x bad
            all_known [] n x = absurd (n refl)
            all_known (k ∷ ks) n x = refl

        pub row_lost : (args_of r m).left ≡ lost → bad ≡ case_of line bytes image
        unfolding called whole
        row_lost g = (rw g) ∙ some_row

        module _ (a : Args) (left : Option (Bor (List ℕ))) (g : args_of r m ≡ got a (left_of left)) (b : Bool) (i : b ≡ is_some left) where
          pub more_left : b ≡ true → bad ≡ case_of line bytes image
          unfolding called
          more_left t =
              let ends : bad ≡ called op h (args_of r m) bytes image = rw g (not_whole left b i t (laid_out op h a bytes image) bad) in
              ends ∙ some_row

          pub none_left : b ≡ false → laid_out op h a bytes image ≡ case_of line bytes image
          unfolding called
          none_left t =
              let ends : laid_out op h a bytes image ≡ called op h (args_of r m) bytes image = rw g (is_whole left b i t (laid_out op h a bytes image) bad) in
              ends ∙ some_row

-- What a case holds of each is within what is lent.
unfoldable Under : ℕ → Option ℕ → Type 0
Under room (Some n) = n ≤ room
Under room None = Unit {0}

module _ (bytes image : List ℕ) where
  abbrev Fits : Outcome → Type 0
  Fits x = IfSome x.0 (λ c. (c.bytes ≤ length bytes) × (c.image ≤ length image))

  no_case_fits : Fits (no_case, bytes, image)
  no_case_fits = tt

  under_by : (room n : ℕ) (b : Bool) → leb n room ≡ b → Under room (cond b (Some n) None)
  unfolding Under
  under_by room n true e = leb-true n room e
  under_by room n false e = tt

  under : (room : ℕ) (v : Option ℕ) → Under room (capped room v)
  unfolding capped fitting Under
  under room (Some n) = under_by room n (leb n room) refl
  under room None = tt

  laid_fits : (op : ℕ) (h r : Args) (v w : Option ℕ) → Under (length bytes) v → Under (length image) w → Fits (laid op h r v w bytes image)
  unfolding laid Under
  laid_fits op h r (Some n) (Some m) a b = (a, b)
  laid_fits op h r (Some n) None a b = no_case_fits
  laid_fits op h r None w a b = no_case_fits

  whole_fits : (l : Left) (x : Outcome) → Fits x → Fits (whole l x (no_case, bytes, image))
  unfolding whole
  whole_fits (words []) x a = a
  whole_fits (words (w ∷ ws)) x a = no_case_fits
  whole_fits lost x a = no_case_fits

  known_fits : (ks : List Kind) (x : Outcome) → Fits x → Fits (known ks x (no_case, bytes, image))
  unfolding known
  known_fits [] x a = no_case_fits
  known_fits (k ∷ ks) x a = a

  of_line : (line : List ℕ) → Fits (case_of line bytes image)
  unfolding case_of called
  of_line line = known_fits _ _ (whole_fits _ _ (laid_fits _ _ _ _ _ (under (length bytes) _) (under (length image) _)))

  pub case_fits : (line : List ℕ) {x : Outcome} → x ≡ case_of line bytes image → Fits x
  case_fits line e = subst Fits (sym e) (of_line line)
