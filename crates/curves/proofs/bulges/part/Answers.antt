-- The part is the definition, step by step; what is compared and cast is small. Assumes nothing.
use Rattle.std.proofs.Common.{arith, ◌≡◌, ℕ, ◌+◌, ◌-◌, ◌*◌, ◌≤◌, pos, w32, to_z, of_z, ◌-ℤ◌, ◌∙◌}
use Rattle.std.specs.Int.{int_max}
use Rattle.std.specs.Prelude.{unsigned_abs}
use Rattle.std.proofs.lemmas.Int.{ints, to_z-of_z, int_max_is}
use Rattle.curves.specs.Bulges.{part_at, part_on, reach}
use Rattle.curves.proofs.Casts.{plain}
use Rattle.curves.proofs.bulges.part.Goals as goal

apart : (n m : ℕ) → n ≤ 0x100_0000 → m ≤ 0x100_0000 → unsigned_abs (to_z w32 n -ℤ to_z w32 m) ≡ (n - m) + (m - n)
apart n m h k = rw (plain n h, plain m k) (omega (arith, ints))

more : (n m : ℕ) → int_max (pos n -ℤ pos m) (pos 0) ≡ pos (n - m)
more n m = omega (arith, ints, int_max_is (pos n -ℤ pos m) (pos 0))

beyond : (n m : ℕ) → n ≤ 0x100_0000 → m ≤ 0x100_0000 → int_max (to_z w32 (of_z w32 (to_z w32 n -ℤ to_z w32 m))) (pos 0) ≡ pos (n - m)
beyond n m h k = rw (plain n h, plain m k, to_z-of_z w32 (pos n -ℤ pos m) (omega (arith, ints))) (more n m)

pub returns : goal.returns
unfolding part_on part_at
returns c =
    let s = c.args.s in
    let m : ℕ = s.count - 1 in
    let few : s.count ≤ 32767 = omega (arith, c.requires.0.few) in
    let bent : s.arc ≤ 32767 = omega (arith, c.requires.0.few, c.requires.0.bent) in
    let far : c.abs_diff-far.result ≡ (2 * c.args.i - m) + (m - 2 * c.args.i) =
    c.abs_diff-far.ensures ∙ apart (2 * c.args.i) m (omega (arith, few, c.requires.1)) (omega (arith, few)) in
    let k : c.max-k.result ≡ pos (reach s.count s.arc c.args.i) =
    c.max-k.ensures.value ∙ rw far (beyond _ m (omega (arith, few, bent, c.requires.1)) (omega (arith, few))) in
    rw (k, plain (reach s.count s.arc c.args.i) (omega (arith, few, bent, c.requires.1)), plain s.by (omega (arith, c.requires.0.small)))
