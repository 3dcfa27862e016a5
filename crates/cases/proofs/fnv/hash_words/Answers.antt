-- The words are taken in one by one.
use mathlib.Core.Path.{◌≡◌, ◌∙◌}
use Rattle.std.proofs.Common.{rules}
use Rattle.std.specs.Prelude.{fold}
use Rattle.cases.specs.Hash.{hash_from, hash_of, bytes_of}
use Rattle.cases.proofs.Hashes.{word_by_word}
use Rattle.cases.proofs.fnv.hash_words.Goals as goal

pub returns : goal.returns
unfolding hash_of
returns c =
    let folded : c.fold.result ≡ fold (λ h w. hash_from h (bytes_of w)) 14695981039346656037 c.args.words.now = search rules in
    folded ∙ word_by_word _ c.args.words.now
