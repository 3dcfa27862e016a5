-- A row that is one run, held to the columns that are drawn.
use Rattle.std.proofs.Common.{◌≡◌, ℕ, ◌+◌, ◌-◌, ◌<◌, ◌≤◌, min, max, Bool, false, ◌&&◌, T, ℤ, sym, ap, subst, arith}
use lib.Ieee.{Float}
use Rattle.pixels.specs.declared.Canvas.{Canvas}
use Rattle.pixels.specs.Rows.{run}
use Rattle.canvas.specs.Walk.{Cut, Work, Fits}
use Rattle.curves.specs.declared.bulges.Side.{Side}
use Rattle.curves.specs.Pies.{covers}
use Rattle.curves.specs.Bulges.{part_on, has_at, Sided, Rising, Run}
use Rattle.curves.proofs.Rising.{plain}
use Rattle.curves.proofs.Disc.{rising, on_plain}
use Rattle.ovals.specs.declared.runs.Region.{Region}
use Rattle.ovals.specs.Sift.{sifts, land, takes, Lies}
use Rattle.ovals.proofs.runs.Sifts.{part_fits, part-lands}

module _ (v low high r : ℕ) (e : r ≡ min (max (v - 2147483648) low) high) (h : low ≤ high) where
  pub held_low : low ≤ r
  held_low = omega arith

  pub held_high : r ≤ high
  held_high = omega arith

  before-held : (i : ℕ) → low ≤ i → i < r → i + 2147483648 < v
  before-held i l k = omega arith

  from-held : (i : ℕ) → r ≤ i → i < high → v ≤ i + 2147483648
  from-held i l k = omega arith

less : (p n c : ℕ) → p ≤ n → n < p + c → n - p < c
less p n c h k = omega arith

more : (p n c : ℕ) → p + c ≤ n → c ≤ n - p
more p n c h = omega arith

module _ (area : Region) (r y x0 x1 a e : ℕ) (m : x0 ≤ x1) (row : Run (has_at area.sx (part_on area.sy (y + 2147483648 - area.q))) area.sx.count r) (lies : Lies area.p area.sx.count x0 x1)
    (f : a ≡ min (max (area.p + r - 2147483648) x0) x1) (g : e ≡ min (max (area.p + (area.sx.count - r) - 2147483648) a) x1) where
  in_low : x0 ≤ a
  in_low = held_low (area.p + r) x0 x1 a f m

  in_high : a ≤ x1
  in_high = held_high (area.p + r) x0 x1 a f m

  pub ordered : a ≤ e
  ordered = held_low (area.p + (area.sx.count - r)) a x1 e g in_high

  pub ends : e ≤ x1
  ends = held_high (area.p + (area.sx.count - r)) a x1 e g in_high

  pub starts : x0 ≤ a
  starts = in_low

  module _ (i : ℕ) where
    pub before : x0 ≤ i → i < a → takes area i y ≡ false
    before l k =
        let s : x0 < x1 = above x0 i a x1 l k in_high in ap (λ (b : Bool). b && covers area.pie i y)
        (row.before (i + 2147483648 - area.p) (less area.p (i + 2147483648) r (reach x0 i (lies.begins s) l) (before-held (area.p + r) x0 x1 a f m i l k)))
      where
        above : (x0 i a x1 : ℕ) → x0 ≤ i → i < a → a ≤ x1 → x0 < x1
        above x0 i a x1 l k h = omega arith

        reach : (x0 i : ℕ) → area.p ≤ x0 + 2147483648 → x0 ≤ i → area.p ≤ i + 2147483648
        reach x0 i h l = omega arith

    pub within : a ≤ i → i < e → takes area i y ≡ covers area.pie i y
    within l k =
        let s : i < x1 = under i e x1 k ends in
        let u : area.p + r ≤ i + 2147483648 = from-held (area.p + r) x0 x1 a f m i l s in
        ap (λ (b : Bool). b && covers area.pie i y)
        (row.taken (i + 2147483648 - area.p) (more area.p (i + 2147483648) r u)
        (less area.p (i + 2147483648) (area.sx.count - r) (on r (i + 2147483648) u) (before-held (area.p + (area.sx.count - r)) a x1 e g in_high i l k)))
      where
        under : (i e x1 : ℕ) → i < e → e ≤ x1 → i < x1
        under i e x1 h l = omega arith

        on : (r n : ℕ) → area.p + r ≤ n → area.p ≤ n
        on r n h = omega arith

    pub after : e ≤ i → i < x1 → takes area i y ≡ false
    after l k =
        let s : x0 < x1 = under x0 a e i x1 in_low ordered l k in
        let u : area.p + (area.sx.count - r) ≤ i + 2147483648 = from-held (area.p + (area.sx.count - r)) a x1 e g in_high i l k in
        ap (λ (b : Bool). b && covers area.pie i y)
        (row.after (i + 2147483648 - area.p) (more area.p (i + 2147483648) (area.sx.count - r) u)
        (less area.p (i + 2147483648) area.sx.count (on (area.sx.count - r) (i + 2147483648) u) (past area.sx.count (lies.ends s))))
      where
        under : (x0 a e i x1 : ℕ) → x0 ≤ a → a ≤ e → e ≤ i → i < x1 → x0 < x1
        under x0 a e i x1 h l m n = omega arith

        on : (r n : ℕ) → area.p + r ≤ n → area.p ≤ n
        on r n h = omega arith

        past : (n : ℕ) → x1 + 2147483648 ≤ area.p + n → i + 2147483648 < area.p + n
        past n h = omega arith

  pub row_fits : (v : Canvas) (h : ℕ → ℕ) (w : Work) → Fits (land v (sifts (takes area) h (run x0 (x1 - x0)) y) w).tally → Fits (land v (sifts (covers area.pie) h (run a (e - a)) y) w).tally
  row_fits v h w = part_fits (takes area) (covers area.pie) h y x0 a e x1 starts ordered ends before within after v w

  pub row-lands : (v : Canvas) (h : ℕ → ℕ) (w w' : Work) → w' ≡ land v (sifts (covers area.pie) h (run a (e - a)) y) w → w' ≡ land v (sifts (takes area) h (run x0 (x1 - x0)) y) w
  row-lands v h w w' = part-lands (takes area) (covers area.pie) h y x0 a e x1 starts ordered ends before within after v w w'

-- a row that is drawn is one of the box's
module _ (q n y0 y1 y : ℕ) (lies : Lies q n y0 y1) (h : y0 ≤ y) (k : y < y1) where
  pub at_row : q ≤ y + 2147483648
  at_row = omega (arith, lies.begins (omega arith))

  pub in_rows : y + 2147483648 - q < n
  in_rows = less q (y + 2147483648) n at_row (omega (arith, lies.ends (omega arith)))

pub run_of : (sx : Side) (row z : Float) → row ≡ z → {n r : ℕ} → Run (has_at sx row) n r → Run (has_at sx z) n r
run_of sx row z e {n} {r} g = subst (λ (w : Float). Run (has_at sx w) n r) e g

pub rising_row : (sx sy : Side) → Sided sx → Sided sy → (row : Float) (j : ℕ) → row ≡ part_on sy j → j < sy.count → Rising (has_at sx row) sx.count
rising_row sx sy g h row j e l = rising sx g row (subst (λ (w : Float). T (plain w)) (sym e) (on_plain sy h j l))

pub cut_lies : (p n : ℕ) {c : ℤ} {m w x0 x1 : ℕ} → Cut (p - 2147483648) (p + n - 2147483648) c m w x0 x1 → Lies p n x0 x1
cut_lies p n {c} {m} {w} {x0} {x1} k = record { begins = λ l. omega (arith, k.begins l); ends = λ l. omega (arith, k.ends l) }
