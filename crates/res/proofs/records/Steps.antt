-- The step of a record, as the code meets it, and what each step tells of the file.
use mathlib.Core.Path.{◌≡◌, refl, sym, ◌∙◌}
use mathlib.Core.Bool.{Bool, true, false, cond}
use mathlib.Core.List.{List}
use Rattle.std.specs.Prelude.{Result, Ok, Err}
use Prim.Native.Nat.{ℕ, ◌+◌, ◌-◌, ◌*◌, ◌<◌, ◌≤◌}
use native.Mathlib.Omega.{arith}
use borrow.Author.Tests.{lt-ltb, le-ltb, eq-eqb, ne_eqb, ltb-false, eqb-true}
use lib.Dec.{ltb, eqb}
use lib.ListN.{length}
use Rattle.fields.specs.Fields.{u8_at}
use Rattle.res.specs.declared.Refusal.{Refusal}
use Rattle.res.specs.declared.Refusal.TheVariants.{Res, Depth, ResType, NoIcon}
use Rattle.res.specs.declared.Icon.{Icon}
use Rattle.res.specs.declared.records.Step.{Step}
use Rattle.res.specs.declared.records.Step.TheVariants.{Here, Next}
use Rattle.res.specs.Record.{kind, width, height, depth, area, icon_at, static, moving, by_type, step_at}

-- ---- as the code meets it

pub uncut : (n k : ℕ) (b : Bool) → b ≡ ltb n k → b ≡ false → k ≤ n
uncut n k b p q = ltb-false _ _ (sym p ∙ q)

module _ (f : List ℕ) (at : ℕ) where
  module _ (n : ℕ) (e : n ≡ area f at) (l : at + 8 ≤ length f) where
    pub static_short : length f - (at + 8) < n → Err Res ≡ static f at
    unfolding static
    static_short s = rw (← e, lt-ltb (length f) (at + 8 + n) (omega arith)) refl

    pub static-whole : (w h : ℕ) → n ≤ length f - (at + 8) → w ≡ width f at → h ≡ height f at
        → Ok (Here (record { start = at + 8; width = w; height = h })) ≡ static f at
    unfolding static
    static-whole w h s p q = rw (← e, le-ltb (length f) (at + 8 + n) (omega arith), p, q) refl

  pub moving_short : length f < at + 9 → Err Res ≡ moving f at
  unfolding moving
  moving_short l = rw (lt-ltb _ _ l) refl

  pub moving-whole : (k n : ℕ) → at + 9 ≤ length f → k ≡ u8_at f (at + 8) → n ≡ area f at → Ok (Next (at + 9 + k * n)) ≡ moving f at
  unfolding moving
  moving-whole k n l p q = rw (le-ltb _ _ l, p, q) refl

  pub type_static : kind f at ≡ 2 → static f at ≡ by_type f at
  unfolding by_type
  type_static k = rw (eq-eqb _ _ k) refl

  pub type_moving : kind f at ≡ 3 → moving f at ≡ by_type f at
  unfolding by_type
  type_moving k =
      let n : kind f at ≡ 2 → ⊥ = λ e. omega arith in
      rw (ne_eqb _ _ n, eq-eqb _ _ k) refl

  pub type_other : (kind f at ≡ 2 → ⊥) → (kind f at ≡ 3 → ⊥) → Err ResType ≡ by_type f at
  unfolding by_type
  type_other n m = rw (ne_eqb _ _ n, ne_eqb _ _ m) refl

  pub at-end : length f < at + 8 → Err NoIcon ≡ step_at f at
  unfolding step_at
  at-end l = rw (lt-ltb _ _ l) refl

  pub too_deep : at + 8 ≤ length f → (depth f at ≡ 8 → ⊥) → Err Depth ≡ step_at f at
  unfolding step_at
  too_deep l n = rw (le-ltb _ _ l, ne_eqb _ _ n) refl

  pub right-depth : at + 8 ≤ length f → depth f at ≡ 8 → by_type f at ≡ step_at f at
  unfolding step_at
  right-depth l d = rw (le-ltb _ _ l, eq-eqb _ _ d) refl

-- ---- what a step tells

-- A record of type 2 and depth 8 whose header and pixels are in the file, and its icon.
pub record Static (f : List ℕ) (at : ℕ) (i : Icon) : Type 0 where
  pub type : kind f at ≡ 2
  pub deep : depth f at ≡ 8
  pub whole : at + 8 + area f at ≤ length f
  pub same : i ≡ icon_at f at

-- A record whose header and count byte are in the file; the next one is behind them.
pub record Moving (f : List ℕ) (at k : ℕ) : Type 0 where
  pub inside : at + 9 ≤ length f
  pub further : at + 9 ≤ k

unfoldable pub Tells : List ℕ → ℕ → Result Step Refusal → Type 0
Tells f at (Ok (Here i)) = Static f at i
Tells f at (Ok (Next k)) = Moving f at k
Tells f at (Err r) = Unit {0}

pub either : {A : Type 0} (P : A → Type 0) (b : Bool) {x y : A} → (b ≡ true → P x) → (b ≡ false → P y) → P (cond b x y)
either P true p q = p refl
either P false p q = q refl

pub tells : (f : List ℕ) (at : ℕ) → Tells f at (step_at f at)
unfolding step_at by_type static moving Tells
tells f at =
    let T : Result Step Refusal → Type 0 = Tells f at in
    either T (ltb (length f) (at + 8)) (λ _. tt) (λ _. either T (eqb (depth f at) 8) (λ d. either T (eqb (kind f at) 2)
    (λ k. either T (ltb (length f) (at + 8 + area f at)) (λ _. tt)
    (λ w. record { type = eqb-true _ _ k; deep = eqb-true _ _ d; whole = ltb-false _ _ w; same = refl }))
    (λ _. either T (eqb (kind f at) 3)
    (λ _. either T (ltb (length f) (at + 9)) (λ _. tt) (λ w. record { inside = ltb-false _ _ w; further = omega arith }))
    (λ _. tt))) (λ _. tt))
