-- `round_i32_f64` meets its contract: the rounded size with its sign is an i32. Assumes nothing.
use Rattle.std.proofs.Common.{◌≡◌, ℕ, ◌<◌, ◌≤◌, min, pos, neg_ℤ, ap, ◌∙◌, arith, w32}
use lib.Ieee.{of_bits}
use mir.ValLaws.{to_z_pos}
use Rattle.floats.proofs.Range.{yes, no}
use Rattle.floats.proofs.whole.Signed.{minus_fits, minus_narrow, minus_is, negative, other}
use Rattle.floats.proofs.whole.round_i32_f64.Goals as goal

pub overflow_sub-result : goal.overflow_sub-result
overflow_sub-result c = minus_fits c.round_size-n.result c.round_size-n.ensures.1

pub overflow_cast-result-then-x : goal.overflow_cast-result-then-x
overflow_cast-result-then-x c = minus_narrow c.round_size-n.result c.round_size-n.ensures.1

pub returns-then-x : goal.returns-then-x
unfolding of_bits
returns-then-x c =
    let n = c.round_size-n in
    minus_is n.result n.ensures.1 ∙ ap (λ (k : ℕ). neg_ℤ (pos k)) n.ensures.0 ∙ negative c.args.x (yes c.if-x.true)

pub returns-then-n-gt2147483647 : goal.returns-then-n-gt2147483647
unfolding of_bits
returns-then-n-gt2147483647 c =
    let n = c.round_size-n in
    ap pos (at_top n.result c.if-n-gt2147483647.true) ∙ ap (λ (k : ℕ). pos (min k 0x7fff_ffff)) n.ensures.0 ∙ other c.args.x (no c.if-x.false)
  where
    at_top : (n : ℕ) → 2147483647 < n → 2147483647 ≡ min n 0x7fff_ffff
    at_top n h = omega arith

pub returns : goal.returns
unfolding of_bits
returns c =
    let n = c.round_size-n in
    to_z_pos w32 n.result (below n.result c.if-n-gt2147483647.false) ∙ ap pos (whole n.result c.if-n-gt2147483647.false) ∙ ap (λ (k : ℕ). pos (min k 0x7fff_ffff)) n.ensures.0 ∙ other c.args.x (no c.if-x.false)
  where
    below : (n : ℕ) → n ≤ 2147483647 → n < 2147483648
    below n h = omega arith

    whole : (n : ℕ) → n ≤ 2147483647 → n ≡ min n 0x7fff_ffff
    whole n h = omega arith
