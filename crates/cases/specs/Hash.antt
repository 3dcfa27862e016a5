-- "the 64-bit FNV-1a of the final bytes"
use Rattle.std.specs.Prelude.{List, [], ◌∷◌, ◌++◌, ℕ, ◌*◌, ◌/◌, ◌%◌, fold}
use Rattle.std.specs.Int.Bits.{bit_xor}

-- A byte is taken in by XOR, and the result times the prime is cut to 64 bits.
unfoldable pub stirred : ℕ → ℕ
stirred h = h * 1099511628211 % 18446744073709551616

abbrev pub taken_in : ℕ → ℕ → ℕ
taken_in h b = stirred (bit_xor h b)

abbrev pub hash_from : ℕ → List ℕ → ℕ
hash_from = fold taken_in

unfoldable pub hash_of : List ℕ → ℕ
hash_of = hash_from 14695981039346656037

-- "the words written, each little-endian"
unfoldable pub bytes_of : ℕ → List ℕ
bytes_of w = w % 256 ∷ w / 256 % 256 ∷ w / 65536 % 256 ∷ w / 16777216 % 256 ∷ []

unfoldable pub all_bytes : List ℕ → List ℕ
all_bytes [] = []
all_bytes (w ∷ ws) = bytes_of w ++ all_bytes ws
