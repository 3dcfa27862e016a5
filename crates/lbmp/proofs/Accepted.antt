-- Both directions: a file that is refused nothing has every property that the tests look for, and a file that has them is decoded.
use mathlib.Core.Path.{◌≡◌, refl}
use mathlib.Core.List.{List, ◌++◌}
use Rattle.std.specs.Prelude.{Option, Some, None}
use Prim.Native.Nat.{ℕ, ◌+◌, ◌*◌, ◌<◌, ◌≤◌}
use native.Mathlib.Omega.{arith}
use borrow.Author.Tests.{ltb-false, le-ltb}
use lib.Dec.{ltb}
use lib.ListN.{length, drop}
use Rattle.lbmp.specs.declared.header.Kind.{Kind}
use Rattle.lbmp.specs.declared.header.Kind.TheVariants.{Greys, Rgb332, Rgb565}
use Rattle.lbmp.specs.File.{header_of, kind_of, pixel_size, mask_size}
use Rattle.lbmp.specs.Faults.{sound, invalid, beyond, short_fault, area_fault, twice_fault, kind_fault, or_else, planes_fault, bytes_fault, header_verdict, verdict, room_fault}
use Rattle.lbmp.specs.Image.{pixels, image}
use Rattle.lbmp.specs.Call.{reading_of, outcome, decoding}
use Rattle.lbmp.specs.Walk.{Whole}
use Rattle.lbmp.proofs.faults.Verdicts.{both_sound, valid, fields_fine, whole_file, long_enough}

-- What 01 asks of a file, each as a plain fact.
pub record Lbmp (f : List ℕ) : Type 0 where
  pub header : 24 ≤ length f
  pub whole : Whole (header_of f) (length f)
  pub twice : kind_of (header_of f).kind ≡ Some Rgb565 → 2 * pixels f ≤ 4294967295
  pub doubled : kind_of (header_of f).kind ≡ Some Greys → 2 * (header_of f).size ≤ 4294967295

-- ---- each test that looks at the type

beyond-known : (n : ℕ) → beyond n ≡ sound → n ≤ 4294967295
beyond-known n e = ltb-false _ _ (valid (ltb 4294967295 n) e)

within : (n : ℕ) → n ≤ 4294967295 → beyond n ≡ sound
within n l = rw (le-ltb _ _ l) refl

twice_known : (k : Option Kind) (n : ℕ) → twice_fault k n ≡ sound → k ≡ Some Rgb565 → 2 * n ≤ 4294967295
unfolding twice_fault
twice_known k n e g = beyond-known (2 * n) (rw g at e)

planes_known : (k : Option Kind) (s : ℕ) → planes_fault k s ≡ sound → k ≡ Some Greys → 2 * s ≤ 4294967295
unfolding planes_fault
planes_known k s e g = beyond-known (2 * s) (rw g at e)

twice_fine : (k : Option Kind) (n : ℕ) → (k ≡ Some Rgb565 → 2 * n ≤ 4294967295) → twice_fault k n ≡ sound
unfolding twice_fault
twice_fine (Some Greys) n h = refl
twice_fine (Some Rgb332) n h = refl
twice_fine (Some Rgb565) n h = within (2 * n) (h refl)
twice_fine None n h = refl

planes_fine : (k : Option Kind) (s : ℕ) → (k ≡ Some Greys → 2 * s ≤ 4294967295) → planes_fault k s ≡ sound
unfolding planes_fault
planes_fine (Some Greys) s h = within (2 * s) (h refl)
planes_fine (Some Rgb332) s h = refl
planes_fine (Some Rgb565) s h = refl
planes_fine None s h = refl

kind_fine : (k : Option Kind) → (k ≡ None → ⊥) → kind_fault k ≡ sound
unfolding kind_fault
kind_fine (Some Greys) h = refl
kind_fine (Some Rgb332) h = refl
kind_fine (Some Rgb565) h = refl
kind_fine None h = absurd (h refl)

-- ---- the two directions

pub sound_is : (f : List ℕ) → verdict f ≡ sound → Lbmp f
unfolding verdict header_verdict
sound_is f e =
    let area = both_sound _ _ (both_sound _ _ e).1 in
    let twice = both_sound _ _ area.1 in
    let kind = both_sound _ _ twice.1 in
    let field = both_sound _ _ kind.1 in
    record {
      header = long_enough f e;
      whole = whole_file f e;
      twice = twice_known _ _ twice.0;
      doubled = planes_known _ _ (both_sound _ _ field.1).0;
    }

positive_not : (n : ℕ) → 0 < n → n ≡ 0 → ⊥
positive_not n l e = omega arith

pub is_sound : (f : List ℕ) → Lbmp f → verdict f ≡ sound
unfolding verdict header_verdict short_fault area_fault bytes_fault or_else
is_sound f l =
    let h = header_of f in
    let w = l.whole in
    let v = w.fair in
    let s : invalid (ltb (length f) 24) ≡ sound = rw (le-ltb _ _ l.header) refl in
    let b : invalid (ltb (length f) (24 + pixel_size h + mask_size h)) ≡ sound = rw (le-ltb _ _ w.long) refl in
    rw (
      s,
      within _ v.few,
      twice_fine _ _ l.twice,
      kind_fine _ v.known,
      ← fields_fine h (positive_not _ v.wide) (positive_not _ v.high) v.sized v.switch,
      planes_fine _ _ l.doubled,
      b,
    ) refl

-- What is asked for is decoded, where the output has a word for each pixel.
pub accepted : (f out : List ℕ) → Lbmp f → pixels f ≤ length out → decoding f out ≡ outcome (reading_of f) (image f ++ drop (pixels f) out)
unfolding decoding room_fault or_else
accepted f out l r = rw (is_sound f l, le-ltb _ _ r) refl
