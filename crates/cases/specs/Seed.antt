-- "SEED: what the bytes hold first."
use Rattle.std.specs.Prelude.{cond, List, [], ◌∷◌, ◌++◌, ℕ, zero, suc, ◌+◌, ◌*◌, ◌/◌, ◌%◌, eqb, ltb, replicate, Option, Some, None}
use Rattle.std.specs.Char.{is_digit, digit_value}
use Rattle.cases.specs.Line.{Left, Got, got, next}
use Rattle.cases.specs.Number.{natural, name_of}

pub data Sown : Type 0 where
  zeros : Sown
  counted : ℕ → Sown
  given : List ℕ → Sown

-- What a hex digit stands for; 16 for what is none.
unfoldable pub nibble : ℕ → ℕ
nibble b = cond (is_digit b 16) (digit_value b) 16

abbrev pub byte : ℕ → ℕ → ℕ
byte a b = nibble a % 16 * 16 + nibble b % 16

unfoldable pub before : List ℕ → Option (List ℕ) → Option (List ℕ)
before p (Some bs) = Some (p ++ bs)
before p None = None

-- "hex: those bytes, however many", two digits each.
unfoldable pub hexes : List ℕ → Option (List ℕ)
hexes [] = Some []
hexes (a ∷ []) = None
hexes (a ∷ b ∷ w) = cond (ltb (nibble a) 16) (cond (ltb (nibble b) 16) (before (byte a b ∷ []) (hexes w)) None) None

unfoldable pub given_by : Option (List ℕ) → Option Sown
given_by (Some bs) = Some (given bs)
given_by None = None

unfoldable pub given_hex : List ℕ → Option Sown
given_hex w = given_by (hexes w)

unfoldable pub counted_by : Option ℕ → Option Sown
counted_by (Some n) = Some (counted n)
counted_by None = None

-- "A number s: .. `x` and then hex"
unfoldable pub sowing : List ℕ → Option Sown
sowing [] = None
sowing (b ∷ w) = cond (eqb b 120) (given_hex w) (counted_by (natural 4294967295 (b ∷ w)))

-- "`z`: zeros."
unfoldable pub seed_of : Left → Got Sown
seed_of l = let z = name_of l in cond (eqb z.value 122) (got zeros z.left) (next (counted 0) sowing l)

unfoldable pub filled : List ℕ → Option Sown
filled [] = None
filled (b ∷ w) = given_hex (b ∷ w)

-- "the file's bytes, `-` for none"
unfoldable pub file_of : Left → Got Sown
file_of l = let m = name_of l in cond (eqb m.value 45) (got (given []) m.left) (next (counted 0) filled l)

-- "for each byte in turn s = s*1664525 + 1013904223 mod 2^32, and the byte is s >> 24"
abbrev pub turned : ℕ → ℕ → ℕ
turned step s = (s * 1664525 + step) % 4294967296

unfoldable pub turns : ℕ → ℕ → ℕ → List ℕ
turns step zero s = []
turns step (suc n) s = turned step s / 16777216 ∷ turns step n (turned step s)

-- The first bytes of a canvas of so many.
unfoldable pub first_bytes : Sown → ℕ → List ℕ
first_bytes zeros n = replicate n 0
first_bytes (counted s) n = turns 1013904223 n s
first_bytes (given bs) n = bs
