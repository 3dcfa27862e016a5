-- What a part sweep may be asked for: from a box to its rows, and from a row to its parts. Assumes nothing.
use Rattle.std.proofs.Common.{◌≡◌, ℕ, ◌+◌, ◌<◌, ◌≤◌, Bool, false, ◌&&◌, T, ℤ, pos, ◌+ℤ◌, nat_abs, sym, refl, ap, ◌∙◌, subst, ap₂, arith, lt-ltb, le-leb}
use lib.Signed.{le_z, lt_z}
use Rattle.words.proofs.Either.{both}
use Rattle.curves.specs.declared.bulges.Side.{Side}
use Rattle.curves.specs.declared.pies.Pie.{Pie}
use Rattle.curves.specs.Bulges.{pie_side}
use Rattle.curves.specs.Oval.{offset, oval_of}
use Rattle.curves.specs.Pies.{is_all, pie_of, all_round, Asked, Swept, Inside}
use Rattle.curves.proofs.Domain.{in_domain}
use Rattle.canvas.specs.Clip.{within}
use Rattle.canvas.specs.Walk.{lowered}
use Rattle.canvas.proofs.span.Spans.{within-lowered}
use Rattle.ovals.specs.Faults.{Shaped}
use Rattle.ovals.specs.Sift.{Lies, Asks}

pub swept-part : (k : Pie) (x0 x1 y a b : ℕ) → Swept k x0 x1 y → x0 ≤ a → b ≤ x1 → Swept k a b y
swept-part k x0 x1 y a b s h l = record { degrees = s.degrees; asked = λ e i f g. s.asked e i (omega arith) (omega arith) }

pub asks_row : (k : Pie) (p n q m x0 x1 y0 y1 y : ℕ) → Asks k p n q m → Lies p n x0 x1 → Lies q m y0 y1 → y0 ≤ y → y < y1 → x1 ≤ 32767 → y1 ≤ 32767 → Swept k x0 x1 y
asks_row k p n q m x0 x1 y0 y1 y s lx ly f g h l =
    record {
      degrees = s.degrees;
      asked = λ e i a b.
          let u : x0 < x1 = omega arith in
          let v : y0 < y1 = omega arith in
          s.asked e i y (omega arith) (omega arith) (omega (arith, lx.begins u)) (omega (arith, lx.ends u)) (omega (arith, ly.begins v)) (omega (arith, ly.ends v));
    }

-- a sweep of all asks for nothing
pub asks_none : (k : Pie) (p w q h : ℕ) → k ≡ all_round → Asks k p w q h
asks_none k p w q h e = record { degrees = λ f. absurd (other f); asked = λ f. absurd (other f) }
  where
    other : is_all k.sweep ≡ false → ⊥
    other f = subst T (ap (λ (z : Pie). is_all z.sweep) (sym e) ∙ f) (unfold all_round in tt)

pub asks_sides : (k : Pie) (p q w h : ℕ) (sx sy : Side) → sx ≡ pie_side w → sy ≡ pie_side h → Asks k p w q h → Asks k p sx.count q sy.count
asks_sides k p q w h sx sy e f s = subst (λ (n : ℕ). Asks k p n q sy.count) (sym (count sx w e)) (subst (λ (n : ℕ). Asks k p w q n) (sym (count sy h f)) s)
  where
    count : (s : Side) (n : ℕ) → s ≡ pie_side n → s.count ≡ n
    count s n e = ap (λ (z : Side). z.count) e ∙ unfold pie_side in refl

-- ---- a pie's box
inside : (x : ℤ) (w p i : ℕ) → nat_abs x ≤ 32768 → w ≤ 32767 → lowered p ≡ x → i ≤ 32767 → p ≤ i + 2147483648 → i + 2147483648 < p + w → Inside x w i
unfolding within
inside x w p i a b e l f g =
    let f' = le-leb p (2147483648 + i) (omega arith) in
    let g' = lt-ltb (2147483648 + i) (p + w) (omega arith) in
    let t = ap (λ (z : ℤ). within z w (pos i)) (sym e) ∙ within-lowered p w i ∙ ap₂ (λ (c d : Bool). c && d) f' g' in
    let k = both (le_z x (pos i)) (lt_z (pos i) (x +ℤ pos w)) t in
    record { corner = a; side = b; place = l; from = k.0; to = k.1 }

pub asks_pie : (k : Pie) (x y : ℤ) (w h : ℕ) (start arc : ℤ) (p q : ℕ) → k ≡ pie_of x y w h start arc → Shaped x y w h → lowered p ≡ x → lowered q ≡ y → Asks k p w q h
asks_pie k x y w h start arc p q e s a b = subst (λ (z : Pie). Asks z p w q h) (sym e) (record { degrees = λ f. unfold pie_of in refl; asked = asked })
  where
    asked : is_all (pie_of x y w h start arc).sweep ≡ false → (i j : ℕ) → i ≤ 32767 → j ≤ 32767
        → p ≤ i + 2147483648 → i + 2147483648 < p + w → q ≤ j + 2147483648 → j + 2147483648 < q + h → Asked (pie_of x y w h start arc) i j
    asked f i j l m t u v o = unfold pie_of oval_of offset in in_domain x y w h i j (inside x w p i s.left s.wide a l t u) (inside y h q j s.top s.high b m v o)
