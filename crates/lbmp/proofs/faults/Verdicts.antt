-- The first of two faults; and a file with none is whole, as a whole file has none.
use mathlib.Core.Path.{◌≡◌, refl}
use mathlib.Core.Bool.{Bool, true, false}
use mathlib.Core.List.{List}
use Rattle.std.specs.Prelude.{Option, Some, None, Ok, Err}
use Prim.Native.Nat.{ℕ, ◌*◌, ◌≤◌, ◌<◌}
use native.Mathlib.Omega.{arith}
use borrow.Author.Tests.{ltb-false, eqb-true, eqb-false, le-ltb, eq-eqb, ne_eqb, not-false}
use lib.Dec.{ltb}
use lib.ListN.{length}
use Rattle.words.proofs.Either.{neither}
use Rattle.lbmp.specs.declared.Refusal.{Refusal}
use Rattle.lbmp.specs.declared.Refusal.TheVariants.{BadType}
use Rattle.lbmp.specs.declared.header.Header.{Header}
use Rattle.lbmp.specs.declared.header.Kind.{Kind}
use Rattle.lbmp.specs.declared.header.Kind.TheVariants.{Greys, Rgb332, Rgb565}
use Rattle.lbmp.specs.File.{header_of, kind_of, expected_size}
use Rattle.lbmp.specs.Faults.{Verdict, sound, invalid, short_fault, area_fault, twice_fault, kind_fault, or_else, field_fault, bytes_fault, header_verdict, verdict}
use Rattle.lbmp.specs.Walk.{Whole}

-- The first of two faults, where it is known.
pub or_else-sound : (f d : Verdict) → f ≡ sound → or_else f d ≡ d
unfolding or_else
or_else-sound f d e = rw e refl

pub or_else-faulty : (f d : Verdict) (r : Refusal) → f ≡ Err r → or_else f d ≡ Err r
unfolding or_else
or_else-faulty f d r e = rw e refl

pub kind-sound : (k : Option Kind) (j : Kind) → k ≡ Some j → kind_fault k ≡ sound
unfolding kind_fault
kind-sound k Greys e = rw e refl
kind-sound k Rgb332 e = rw e refl
kind-sound k Rgb565 e = rw e refl

pub kind-faulty : (k : Option Kind) → k ≡ None → kind_fault k ≡ Err BadType
unfolding kind_fault
kind-faulty k e = rw e refl

pub ruleset first_fault = (or_else-sound, or_else-faulty, kind-sound, kind-faulty)

pub both_sound : (f d : Verdict) → or_else f d ≡ sound → (f ≡ sound) × (d ≡ sound)
unfolding or_else
both_sound (Ok u) d e = (refl, e)
both_sound (Err r) d e = absurd (let z : ◌≡◌ {A = ℕ} 0 1 = cc in omega arith)

-- a test that passes
pub valid : (t : Bool) → invalid t ≡ sound → t ≡ false
valid true e = absurd (let z : ◌≡◌ {A = ℕ} 0 1 = cc in omega arith)
valid false e = refl

pub area-known : (h : Header) → area_fault h ≡ sound → h.width * h.height ≤ 4294967295
unfolding area_fault
area-known h e = ltb-false _ _ (valid (ltb 4294967295 (h.width * h.height)) e)

kind-known : (k : Option Kind) → kind_fault k ≡ sound → k ≡ None → ⊥
unfolding kind_fault
kind-known k e u = let z : ◌≡◌ {A = ℕ} 0 1 = (let f : kind_fault k ≡ Err BadType = rw u refl in cc) in omega arith

-- ---- the fields of a header whose sides are not zero

module _ (h : Header) (w : h.width ≡ 0 → ⊥) (t : h.height ≡ 0 → ⊥) where
  pub fields_fine : h.size ≡ expected_size (kind_of h.kind) h.width h.height → h.mask ≤ 1 → sound ≡ field_fault h
  unfolding field_fault
  fields_fine s m = rw (ne_eqb _ _ w, ne_eqb _ _ t, eq-eqb _ _ s, le-ltb _ _ m) refl

pub whole : (h : Header) (n : ℕ) → header_verdict h n ≡ sound → Whole h n
unfolding header_verdict field_fault bytes_fault
whole h n e =
    let area : (area_fault h ≡ sound) × (or_else (twice_fault (kind_of h.kind) (h.width * h.height)) _ ≡ sound) = both_sound _ _ e in
    let twice = both_sound _ _ area.1 in
    let kind = both_sound _ _ twice.1 in
    let field = both_sound _ _ kind.1 in
    let planes = both_sound _ _ field.1 in
    let mask = neither _ _ (valid _ field.0) in
    let size = neither _ _ mask.0 in
    let sides = neither _ _ size.0 in
    let w : h.width ≡ 0 → ⊥ = eqb-false _ _ sides.0 in
    let t : h.height ≡ 0 → ⊥ = eqb-false _ _ sides.1 in
    record {
      fair = record {
        known = kind-known _ kind.0;
        few = area-known h area.0;
        wide = positive _ w;
        high = positive _ t;
        sized = eqb-true _ _ (not-false _ size.1);
        switch = ltb-false _ _ mask.1;
      };
      long = ltb-false _ _ (valid _ planes.1);
    }
  where
    positive : (k : ℕ) → (k ≡ 0 → ⊥) → 0 < k
    positive k p = omega arith

pub long_enough : (f : List ℕ) → verdict f ≡ sound → 24 ≤ length f
unfolding verdict short_fault
long_enough f e = ltb-false _ _ (valid (ltb (length f) 24) (both_sound _ _ e).0)

pub whole_file : (f : List ℕ) → verdict f ≡ sound → Whole (header_of f) (length f)
unfolding verdict
whole_file f e = whole _ _ (both_sound _ _ e).1

pub same_whole : {h k : Header} {n : ℕ} → h ≡ k → Whole k n → Whole h n
same_whole {h} {k} {n} e w = rw e w
