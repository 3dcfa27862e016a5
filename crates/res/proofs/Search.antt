-- The search from a record on: the loop's turns, and that no answer hangs on how many records the definition follows.
use mathlib.Core.Path.{◌≡◌, refl, sym, ap, subst, ◌∙◌}
use mathlib.Core.Bool.{Bool, true, false, cond}
use mathlib.Core.List.{List}
use Rattle.std.specs.Prelude.{Result, Ok, Err}
use Prim.Native.Nat.{ℕ, zero, suc, ◌+◌, ◌<◌, ◌≤◌}
use native.Mathlib.Omega.{arith}
use native.Mathlib.Nat.{lt_of_not-le}
use native.Mathlib.Decide.{dec_le}
use borrow.Author.Tests.{ltb-false}
use lib.Dec.{ltb}
use lib.ListN.{length}
use Rattle.res.specs.declared.Refusal.{Refusal}
use Rattle.res.specs.declared.Refusal.TheVariants.{Res}
use Rattle.res.specs.declared.Icon.{Icon}
use Rattle.res.specs.declared.records.Step.{Step}
use Rattle.res.specs.declared.records.Step.TheVariants.{Here, Next}
use Rattle.res.specs.Record.{is_res, first_record, step_at}
use Rattle.res.specs.Search.{follow, search, first_icon}
use Rattle.res.proofs.records.Steps.{Moving, Tells, tells, at-end}

-- One record more changes nothing, where more than the bytes that are left are followed.
search-more : (n : ℕ) (f : List ℕ) (at : ℕ) → length f < n + at → search n f at ≡ search (suc n) f at
unfolding search follow Tells
search-more zero f at l = ap (λ (t : Result Step Refusal). follow t (search 0 f)) (at-end f at (omega arith))
search-more (suc n) f at l = by (step_at f at) (tells f at) (search-more n f)
  where
    by : (t : Result Step Refusal) → Tells f at t → ((k : ℕ) → length f < n + k → search n f k ≡ search (suc n) f k)
        → follow t (search n f) ≡ follow t (search (suc n) f)
    by (Ok (Here i)) m go = refl
    by (Ok (Next k)) m go = go k (omega (arith, m.further))
    by (Err r) m go = refl

-- However many records are followed, if they are more than the file has bytes, the answer is the same.
pub no_further : (n : ℕ) (f : List ℕ) (at : ℕ) → length f < n → search n f at ≡ search (suc (length f)) f at
no_further zero f at l = absurd (omega arith)
no_further (suc n) f at l = by (dec_le n (length f)) (no_further n f at)
  where
    by : Dec (n ≤ length f) → (length f < n → search n f at ≡ search (suc (length f)) f at) → search (suc n) f at ≡ search (suc (length f)) f at
    by (yes h) go = let e : n ≡ length f = omega arith in ap (λ (k : ℕ). search (suc k) f at) e
    by (no h) go = sym (search-more n f at (omega (arith, lt_of_not-le h))) ∙ go (lt_of_not-le h)

-- ---- the loop

pub next-is : (f : List ℕ) (at k : ℕ) → step_at f at ≡ Ok (Next k) → Moving f at k
unfolding Tells
next-is f at k e = subst (Tells f at) e (tells f at)

-- The search from here is the whole one.
pub record Left (f : List ℕ) (at : ℕ) : Type 0 where
  pub same : first_icon f ≡ search (suc (length f)) f at

pub not_res : (f : List ℕ) → is_res f ≡ false → Err Res ≡ first_icon f
unfolding first_icon
not_res f e = rw e refl

pub long_enough : (f : List ℕ) → is_res f ≡ true → 8 ≤ length f
unfolding is_res
long_enough f e = by (ltb (length f) 8) refl _ e
  where
    by : (b : Bool) → b ≡ ltb (length f) 8 → (c : Bool) → cond b false c ≡ true → 8 ≤ length f
    by true q c e = absurd (let z : ◌≡◌ {A = ℕ} 0 1 = cc in omega arith)
    by false q c e = ltb-false _ _ (sym q)

module _ (f : List ℕ) (at : ℕ) where
  pub begun : is_res f ≡ true → at ≡ first_record f → Left f at
  unfolding first_icon
  begun s e = record { same = rw (s, e) refl }

  module _ (l : Left f at) where
    pub leads : (k : ℕ) → step_at f at ≡ Ok (Next k) → Left f k
    unfolding search follow
    leads k e = record { same = l.same ∙ ap (λ (t : Result Step Refusal). follow t (search (length f) f)) e ∙ search-more (length f) f k (omega (arith, (next-is f at k e).further)) }

    pub ends-here : (i : Icon) → step_at f at ≡ Ok (Here i) → Ok i ≡ first_icon f
    unfolding search follow
    ends-here i e = sym (l.same ∙ ap (λ (t : Result Step Refusal). follow t (search (length f) f)) e)

    pub ends-refused : (r : Refusal) → step_at f at ≡ Err r → Err r ≡ first_icon f
    unfolding search follow
    ends-refused r e = sym (l.same ∙ ap (λ (t : Result Step Refusal). follow t (search (length f) f)) e)
