-- The hash of words goes word by word.
use mathlib.Core.List.{List, [], ◌∷◌, ◌++◌}
use mathlib.Core.Path.{◌≡◌, refl, sym, ◌∙◌}
use Prim.Native.Nat.{ℕ}
use Rattle.std.specs.Prelude.{fold}
use Rattle.cases.specs.Hash.{taken_in, hash_from, bytes_of, all_bytes}

hash_append : (h : ℕ) (s t : List ℕ) → hash_from h (s ++ t) ≡ hash_from (hash_from h s) t
hash_append h [] t = refl
hash_append h (b ∷ s) t = hash_append (taken_in h b) s t

pub word_by_word : (h : ℕ) (ws : List ℕ) → fold (λ h w. hash_from h (bytes_of w)) h ws ≡ hash_from h (all_bytes ws)
unfolding all_bytes
word_by_word h [] = refl
word_by_word h (w ∷ ws) = word_by_word (hash_from h (bytes_of w)) ws ∙ sym (hash_append h (bytes_of w) (all_bytes ws))
