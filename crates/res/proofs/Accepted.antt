-- What is accepted: a record of type 2 and depth 8 that stands whole in the file, so that its pixels are a part of it; and
-- the first record that does not lead on decides.
use mathlib.Core.Path.{◌≡◌, refl, sym, ap, subst, ◌∙◌}
use mathlib.Core.Bool.{true}
use mathlib.Core.List.{List, []}
use Rattle.std.specs.Prelude.{Result, Ok, Err}
use Prim.Native.Nat.{ℕ, zero, suc, ◌+◌, ◌-◌, ◌*◌, ◌≤◌}
use native.Mathlib.Omega.{arith}
use lib.ListN.{length, take, drop, length-drop}
use lib.Seq.{length-take-le}
use Rattle.res.specs.declared.Refusal.{Refusal}
use Rattle.res.specs.declared.Icon.{Icon}
use Rattle.res.specs.declared.records.Step.{Step}
use Rattle.res.specs.declared.records.Step.TheVariants.{Here, Next}
use Rattle.res.specs.Record.{is_res, first_record, step_at}
use Rattle.res.specs.Search.{follow, search, first_icon, part, icon_pixels}
use Rattle.res.proofs.Search.{Left, begun, leads, ends-here, ends-refused}
use Rattle.res.proofs.records.Steps.{Static, Tells, tells, either}

-- The records from one place to another, each leading to the next.
pub data Leads (f : List ℕ) : ℕ → ℕ → Type 0 where
  there : {at : ℕ} → Leads f at at
  onward : {at k to : ℕ} → step_at f at ≡ Ok (Next k) → Leads f k to → Leads f at to

followed : {f : List ℕ} {at to : ℕ} → Left f at → Leads f at to → Left f to
followed l there = l
followed {f} {at} l (onward {k = k} e p) = followed (leads f at l k e) p

-- Where the records of a RES file lead to a static one, its icon is the answer; where they lead to a fault, the fault.
module _ (f : List ℕ) (at : ℕ) (s : is_res f ≡ true) (p : Leads f (first_record f) at) where
  pub found_at : (i : Icon) → step_at f at ≡ Ok (Here i) → first_icon f ≡ Ok i
  found_at i e = sym (ends-here f at (followed (begun f (first_record f) s refl) p) i e)

  pub refused-at : (r : Refusal) → step_at f at ≡ Err r → first_icon f ≡ Err r
  refused-at r e = sym (ends-refused f at (followed (begun f (first_record f) s refl) p) r e)

-- A static record of the file whose icon this is.
pub record Stands (f : List ℕ) (i : Icon) : Type 0 where
  pub at : ℕ
  pub static : Static f at i

Sound : List ℕ → Result Icon Refusal → Type 0
Sound f (Err r) = Unit {0}
Sound f (Ok i) = Stands f i

sound : (n : ℕ) (f : List ℕ) (at : ℕ) → Sound f (search n f at)
unfolding search follow Sound Tells
sound zero f at = tt
sound (suc n) f at = by (step_at f at) (tells f at) (sound n f)
  where
    by : (t : Result Step Refusal) → Tells f at t → ((k : ℕ) → Sound f (search n f k)) → Sound f (follow t (search n f))
    by (Ok (Here i)) m go = record { at = at; static = m }
    by (Ok (Next k)) m go = go k
    by (Err r) m go = tt

-- An icon that is found is that of a static record of the file.
pub stands : (f : List ℕ) (i : Icon) → first_icon f ≡ Ok i → Stands f i
unfolding first_icon Sound
stands f i e = subst (Sound f) e (either (Sound f) (is_res f) (λ _. sound (suc (length f)) f (first_record f)) (λ _. tt))

-- Its pixels lie inside the file.
pub inside : (f : List ℕ) (i : Icon) → first_icon f ≡ Ok i → i.start + i.width * i.height ≤ length f
inside f i e = let s = (stands f i e).static in rw s.same s.whole

-- The part, as the code cuts it.
pub part-is : (f : List ℕ) (i : Icon) → first_icon f ≡ Ok i → take (i.start + i.width * i.height - i.start) (drop i.start f) ≡ icon_pixels f
unfolding icon_pixels part
part-is f i e =
    let n : i.start + i.width * i.height - i.start ≡ i.width * i.height = omega arith in
    ap (λ (k : ℕ). take k (drop i.start f)) n ∙ sym (ap (part f) e)

-- Of a refusal it is empty.
pub part_none : (f : List ℕ) (r : Refusal) → first_icon f ≡ Err r → [] ≡ icon_pixels f
unfolding icon_pixels part
part_none f r e = sym (ap (part f) e)

-- The part is as long as the icon has pixels.
pub part_length : (f : List ℕ) (i : Icon) → first_icon f ≡ Ok i → length (icon_pixels f) ≡ i.width * i.height
unfolding icon_pixels part
part_length f i e =
    ap (λ (x : Result Icon Refusal). length (part f x)) e ∙ length-take-le _ _ (omega (arith, inside f i e, length-drop i.start f))
