-- The first fault of a canvas by its tests; and a canvas with none is sized.
use Rattle.std.proofs.Common.{◌≡◌, ℕ, ◌≤◌, Bool, true, false, not, ◌||◌, eqb, ltb, List, length, refl, arith, ltb-false, le-ltb, eqb-true, Ok, Err}
use borrow.Author.Tests.{not-false}
use Rattle.words.proofs.Either.{neither}
use Rattle.pixels.specs.declared.Canvas.{Canvas}
use Rattle.canvas.specs.declared.Refusal.{Refusal}
use Rattle.canvas.specs.declared.Refusal.TheVariants.{Format, Size, Length, Row, Rule}
use Rattle.pixels.specs.Bytes.{extent, folded, Sized}
use Rattle.pixels.proofs.bytes.Places.{folded-is}
use Rattle.canvas.specs.Faults.{Verdict, fault, format_fault, rule_fault, size_fault, row_fault, length_fault, or_else, first, verdict}

-- ---- the first fault by its tests

abbrev unruly : Canvas → Bool
unruly v = not (eqb v.rule 1 || eqb v.rule 2)

abbrev large_sides : Canvas → Bool
large_sides v = ltb 32767 v.width || ltb 32767 v.height

abbrev off_row : Canvas → Bool
off_row v = ltb v.row v.width || ltb 32767 v.row

sides_known : (v : Canvas) → large_sides v ≡ false → (v.width ≤ 32767) × (v.height ≤ 32767)
sides_known v e =
    let p : (ltb 32767 v.width ≡ false) × (ltb 32767 v.height ≡ false) = neither _ _ e in
    (ltb-false _ _ p.0, ltb-false _ _ p.1)

rows-known : (v : Canvas) → off_row v ≡ false → (v.width ≤ v.row) × (v.row ≤ 32767)
rows-known v e =
    let p : (ltb v.row v.width ≡ false) × (ltb 32767 v.row ≡ false) = neither _ _ e in
    (ltb-false _ _ p.0, ltb-false _ _ p.1)

pub narrow : (v : Canvas) → large_sides v ≡ false → v.width ≤ 32767
narrow v e = (sides_known v e).0

pub rows_even : (v : Canvas) → large_sides v ≡ false → v.row ≡ v.width → off_row v ≡ false
rows_even v e h = rw (le-ltb v.row v.width (omega arith), le-ltb 32767 v.row (omega (arith, narrow v e))) refl

module _ (v : Canvas) (n : ℕ) (known : ltb 4 v.format ≡ false) where
  pub rule_first : unruly v ≡ true → Err Rule ≡ verdict v n
  unfolding verdict first format_fault rule_fault or_else
  rule_first e = rw (known, e) refl

  module _ (ruly : unruly v ≡ false) where
    pub size-first : large_sides v ≡ true → Err Size ≡ verdict v n
    unfolding verdict first format_fault rule_fault size_fault or_else
    size-first e = rw (known, ruly, e) refl

    module _ (sides : large_sides v ≡ false) where
      pub row_first : off_row v ≡ true → Err Row ≡ verdict v n
      unfolding verdict first format_fault rule_fault size_fault row_fault or_else
      row_first e = rw (known, ruly, sides, e) refl

      module _ (rows : off_row v ≡ false) where
        whole : folded v ≡ extent v
        whole = folded-is v (record { high = (sides_known v sides).1; rows = (rows-known v rows).0; tails = (rows-known v rows).1 })

        pub length-first : eqb n (folded v) ≡ false → Err Length ≡ verdict v n
        unfolding verdict first format_fault rule_fault size_fault row_fault length_fault or_else
        length-first e = rw (known, ruly, sides, rows, ← whole, e) refl

        pub none_first : eqb n (folded v) ≡ true → Ok tt ≡ verdict v n
        unfolding verdict first format_fault rule_fault size_fault row_fault length_fault or_else
        none_first e = rw (known, ruly, sides, rows, ← whole, e) refl

-- a test that passes leaves no fault
pub passes : (t : Bool) (r : Refusal) → fault t r ≡ Ok tt → t ≡ false
passes true r e = absurd (let z : ◌≡◌ {A = ℕ} 0 1 = cc in omega arith)
passes false r e = refl

pub or_nothing : (f : Verdict) → or_else f (Ok tt) ≡ f
unfolding or_else
or_nothing (Ok u) = refl
or_nothing (Err r) = refl

pub both_sound : (f d : Verdict) → or_else f d ≡ Ok tt → (f ≡ Ok tt) × (d ≡ Ok tt)
unfolding or_else
both_sound (Ok u) d e = (refl, e)
both_sound (Err r) d e = absurd (let z : ◌≡◌ {A = ℕ} 0 1 = cc in omega arith)

pub sized : (v : Canvas) (b : List ℕ) → verdict v (length b) ≡ Ok tt → Sized v b
unfolding verdict first format_fault rule_fault size_fault row_fault length_fault
sized v b e =
    let rules = both_sound (format_fault v) (or_else (rule_fault v) (after_rule v b)) e in
    let sides = both_sound (rule_fault v) (after_rule v b) rules.1 in
    let rows = both_sound (size_fault v) (after-size v b) sides.1 in
    let lengths = both_sound (row_fault v) (or_else (length_fault v (length b)) (Ok tt)) rows.1 in
    record {
      known = ltb-false _ _ (passes (ltb 4 v.format) Format rules.0);
      wide = (sides_known v (passes _ Size rows.0)).0;
      high = (sides_known v (passes _ Size rows.0)).1;
      long = eqb-true _ _ (not-false (eqb (length b) (extent v)) (passes (not (eqb (length b) (extent v))) Length (both_sound _ _ lengths.1).0));
      rows = (rows-known v (passes _ Row lengths.0)).0;
      tails = (rows-known v (passes _ Row lengths.0)).1;
    }
  where
    after-size : Canvas → List ℕ → Verdict
    after-size v b = or_else (row_fault v) (or_else (length_fault v (length b)) (Ok tt))

    after_rule : Canvas → List ℕ → Verdict
    after_rule v b = or_else (size_fault v) (after-size v b)
