-- The bounds of angles and of boxes: as the code asks them, and what they give.
use Rattle.std.proofs.Common.{◌≡◌, ℕ, suc, ◌≤◌, Bool, true, false, ◌||◌, ltb, ℤ, pos, negsuc, nat_abs, sym, refl, ◌∙◌, arith, w32, SFits, to_z, of_z, ltb-false, Ok}
use mir.ValLaws.{to_z-of_z}
use Rattle.canvas.specs.declared.Refusal.TheVariants.{Shape}
use Rattle.canvas.specs.Faults.{Verdict}
use Rattle.ovals.specs.Faults.{outside, angle_fault, shape_fault, arc_fault, Shaped}
use Rattle.words.proofs.Either.{neither}
use Rattle.canvas.proofs.faults.Verdicts.{passes, both_sound}

-- what `beyond` answered of an argument, which reaches it as `to_z w (of_z w x)`
pub told : (low high a : ℤ) {r t : Bool} → SFits w32 a → r ≡ outside low high (to_z w32 (of_z w32 a)) → r ≡ t → outside low high a ≡ t
told low high a s e h = sym (rw (to_z-of_z w32 a s) at e) ∙ h

-- what `shape_fault` and `arc_fault` answered of arguments
pub shape_of : (x y : ℤ) (w h : ℕ) (d : Verdict) → SFits w32 x → SFits w32 y → d ≡ shape_fault (to_z w32 (of_z w32 x)) (to_z w32 (of_z w32 y)) w h → d ≡ shape_fault x y w h
shape_of x y w h d sx sy e = rw (to_z-of_z w32 x sx, to_z-of_z w32 y sy) at e

pub arc_of : (x y : ℤ) (w h : ℕ) (start arc : ℤ) (d : Verdict) → SFits w32 x → SFits w32 y → SFits w32 start → SFits w32 arc
    → d ≡ arc_fault (to_z w32 (of_z w32 x)) (to_z w32 (of_z w32 y)) w h (to_z w32 (of_z w32 start)) (to_z w32 (of_z w32 arc)) → d ≡ arc_fault x y w h start arc
arc_of x y w h start arc d sx sy ss sa e = rw (to_z-of_z w32 x sx, to_z-of_z w32 y sy, to_z-of_z w32 start ss, to_z-of_z w32 arc sa) at e

-- ---- a box without a fault

in_bounds : (x : ℤ) → outside (negsuc 32767) (pos 32767) x ≡ false → nat_abs x ≤ 32768
in_bounds (pos n) e = omega (arith, ltb-false 32767 n e)
in_bounds (negsuc n) e = go (ltb 32767 n) refl e
  where
    go : (t : Bool) → ltb 32767 n ≡ t → (t || false) ≡ false → suc n ≤ 32768
    go true p q = absurd (let z : ◌≡◌ {A = ℕ} 0 1 = cc in omega arith)
    go false p q = omega (arith, ltb-false 32767 n p)

pub shape-known : (x y : ℤ) (w h : ℕ) → shape_fault x y w h ≡ Ok tt → Shaped x y w h
unfolding shape_fault
shape-known x y w h e =
    let p : (outside (negsuc 32767) (pos 32767) x ≡ false) × _ = neither (outside (negsuc 32767) (pos 32767) x) _ (passes _ Shape e) in
    let q : (outside (negsuc 32767) (pos 32767) y ≡ false) × _ = neither (outside (negsuc 32767) (pos 32767) y) _ p.1 in
    let r : (ltb 32767 w ≡ false) × (ltb 32767 h ≡ false) = neither (ltb 32767 w) (ltb 32767 h) q.1 in
    record { left = in_bounds x p.0; top = in_bounds y q.0; wide = ltb-false _ _ r.0; high = ltb-false _ _ r.1 }

pub arc-known : (x y : ℤ) (w h : ℕ) (start arc : ℤ) → arc_fault x y w h start arc ≡ Ok tt → Shaped x y w h
unfolding arc_fault
arc-known x y w h start arc e = shape-known x y w h (both_sound (angle_fault start arc) (shape_fault x y w h) e).1
