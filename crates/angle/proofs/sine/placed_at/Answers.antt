-- `placed_at` meets its contract: the parity says which of the two, the half which sign, and two minuses are none. Assumes nothing.
use Rattle.std.proofs.Common.{◌≡◌, ℕ, zero, suc, ◌+◌, ◌/◌, ◌%◌, ◌<◌, true, false, cond, eqb, sym, refl, ap, ◌∙◌, subst, arith}
use lib.Ieee.{Float, nan, inf, fin, neg}
use Rattle.angle.specs.Meaning.{placed}
use Rattle.angle.proofs.sine.Minus.{Number, either, turned_by}
use Rattle.angle.proofs.sine.placed_at.Goals as goal

back : (x : Float) → x ≡ neg (neg x)
unfolding neg
back nan = refl
back (inf true) = refl
back (inf false) = refl
back (fin true m e) = refl
back (fin false m e) = refl

no_fifth : (m : ℕ) → suc (suc (suc (suc m))) < 4 → ⊥
no_fifth m h = omega arith

no_third : (p : ℕ) → suc (suc p) < 2 → ⊥
no_third p h = omega arith

module _ (s c : Float) where
  at : (m p : ℕ) → m < 4 → p < 2 → turned_by ((m / 2 + p) % 2) (cond (eqb (m % 2) 0) s c) ≡ turned_by p (placed neg m s c)
  unfolding placed
  at zero zero h i = refl
  at zero (suc zero) h i = refl
  at (suc zero) zero h i = refl
  at (suc zero) (suc zero) h i = refl
  at (suc (suc zero)) zero h i = refl
  at (suc (suc zero)) (suc zero) h i = back s
  at (suc (suc (suc zero))) zero h i = refl
  at (suc (suc (suc zero))) (suc zero) h i = back c
  at (suc (suc (suc (suc m)))) zero h i = absurd (no_fifth m h)
  at (suc (suc (suc (suc m)))) (suc zero) h i = absurd (no_fifth m h)
  at m (suc (suc p)) h i = absurd (no_third p i)

  by : (k n : ℕ) → turned_by ((k / 2 + n % 2) % 2) (cond (eqb (k % 2) 0) s c) ≡ turned_by (n % 2) (placed neg (k % 4) s c)
  by k n =
      let e : (k / 2 + n % 2) % 2 ≡ (k % 4 / 2 + n % 2) % 2 = omega arith in
      let f : k % 2 ≡ k % 4 % 2 = omega arith in
      ap (λ (m : ℕ). turned_by m (cond (eqb (k % 2) 0) s c)) e ∙ ap (λ (m : ℕ). turned_by ((k % 4 / 2 + n % 2) % 2) (cond (eqb m 0) s c)) f ∙ at (k % 4) (n % 2) (omega arith) (omega arith)

pub turned-requires : goal.turned-requires
turned-requires c =
    let a = c.args in
    subst Number (sym c.even_or_odd.ensures) (either (eqb (a.k % 2) 0) a.s a.c c.requires.0 c.requires.1)

pub returns : goal.returns
returns c =
    let a = c.args in
    c.turned.ensures ∙ ap (turned_by ((a.k / 2 + a.n % 2) % 2)) c.even_or_odd.ensures ∙ by a.s a.c a.k a.n
