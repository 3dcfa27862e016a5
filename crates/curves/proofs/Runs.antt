-- A search along a row: what has been passed, and where it ends. Assumes nothing.
use Rattle.std.proofs.Common.{◌≡◌, ℕ, ◌+◌, ◌<◌, ◌≤◌, Bool, true, false, not, sym, refl, ap, ◌∙◌, arith}
use mathlib.Core.Bool.{beq}
use native.Mathlib.Decide.{dec_lt}
use Rattle.curves.specs.Pies.{Next}

-- the invariant: no number from x up to i answers so
pub record Passed (t : ℕ → Bool) (taken : Bool) (x x1 i : ℕ) : Type 0 where
  pub from : x ≤ i
  pub to : i ≤ x1
  pub before : (k : ℕ) → x ≤ k → k < i → t k ≡ not taken

alike : (a b : Bool) → beq a b ≡ true → a ≡ b
alike true true e = refl
alike false false e = refl
alike true false e = cc
alike false true e = cc

unlike : (a b : Bool) → beq a b ≡ false → a ≡ not b
unlike true true e = cc
unlike false false e = cc
unlike true false e = refl
unlike false true e = refl

module _ (t : ℕ → Bool) (taken : Bool) (x x1 : ℕ) where
  pub passed_none : x ≤ x1 → Passed t taken x x1 x
  passed_none h = record { from = omega arith; to = h; before = λ k l m. absurd (omega arith) }

  module _ (i : ℕ) (p : Passed t taken x x1 i) where
    -- the answer here is what is asked for
    pub finds : (r : Bool) → i < x1 → r ≡ t i → beq r taken ≡ true → Next t taken x x1 i
    finds r h e q = record { from = p.from; to = p.to; before = p.before; here = λ l. sym e ∙ alike r taken q }

    -- it is not
    pub passes : (r : Bool) → i < x1 → r ≡ t i → beq r taken ≡ false → Passed t taken x x1 (i + 1)
    passes r h e q = record { from = omega (arith, p.from); to = omega arith; before = λ k l m. go k l m (dec_lt k i) }
      where
        go : (k : ℕ) → x ≤ k → k < i + 1 → Dec (k < i) → t k ≡ not taken
        go k l m (yes n) = p.before k l n
        go k l m (no n) = let s : k ≡ i = omega arith in ap t s ∙ sym e ∙ unlike r taken q

    pub ends : x1 ≤ i → Next t taken x x1 x1
    ends h = record { from = omega (arith, p.from, p.to); to = omega arith; before = λ k l m. p.before k l (omega arith); here = λ l. absurd (omega arith) }

-- there is one first
differ : (b : Bool) → b ≡ not b → ⊥
differ true e = let z : ◌≡◌ {A = ℕ} 0 1 = cc in omega arith
differ false e = let z : ◌≡◌ {A = ℕ} 0 1 = cc in omega arith

no_earlier : {t : ℕ → Bool} {taken : Bool} {x x1 r s : ℕ} → Next t taken x x1 r → Next t taken x x1 s → s ≤ r
no_earlier {t} {taken} {x} {x1} {r} {s} p q = go (dec_lt r s)
  where
    go : Dec (r < s) → s ≤ r
    go (yes l) = absurd (differ taken (sym (p.here (omega (arith, q.to))) ∙ q.before r p.from l))
    go (no l) = omega arith

pub one-next : {t : ℕ → Bool} {taken : Bool} {x x1 r s : ℕ} → Next t taken x x1 r → Next t taken x x1 s → r ≡ s
one-next p q = omega (arith, no_earlier p q, no_earlier q p)
