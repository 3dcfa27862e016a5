-- The library's bytes of a word are its bytes.
use mathlib.Core.Path.{◌≡◌, ◌∙◌, ap, refl}
use Prim.Native.Nat.{ℕ}
use Rattle.std.proofs.Common.{rules}
use Rattle.std.specs.Prelude.{fold}
use Rattle.std.specs.Int.{w32, to_le_bytes}
use Rattle.cases.specs.Hash.{taken_in, hash_from, bytes_of}
use Rattle.cases.proofs.fnv.take_word.Goals as goal

le_bytes : (n : ℕ) → to_le_bytes w32 n ≡ bytes_of n
unfolding bytes_of
le_bytes n = refl

pub returns : goal.returns
returns c =
    let folded : c.fold.result ≡ fold taken_in c.args.h c.to_le_bytes-bytes.result = search rules in
    folded ∙ ap (hash_from c.args.h) (c.to_le_bytes-bytes.ensures ∙ le_bytes c.args.word)
