-- The words of a case that are numbers or names.
use Rattle.std.specs.Prelude.{Bool, false, cond, List, [], ◌∷◌, ℕ, ◌+◌, ◌-◌, ◌*◌, ◌%◌, eqb, leb, Option, Some, None}
use Rattle.cases.specs.Line.{Left, Got, got, next, first_of}
use Rattle.cases.specs.declared.ops.Kind.{Kind}
use Rattle.cases.specs.declared.ops.Kind.TheVariants.{Int, Switch, Channel}

-- A digit, after which the value is still at most so much.
unfoldable pub accepts : ℕ → ℕ → ℕ → Bool
accepts most v b = cond (leb 48 b) (cond (leb b 57) (leb (v * 10 + (b - 48)) most) false) false

-- "numbers in decimal": digits after a value so far.
unfoldable pub digits : ℕ → ℕ → List ℕ → Option ℕ
digits most v [] = Some v
digits most v (b ∷ w) = cond (accepts most v b) (digits most (v * 10 + (b - 48)) w) None

-- A number has a digit at least.
unfoldable pub natural : ℕ → List ℕ → Option ℕ
natural most [] = None
natural most (b ∷ w) = digits most 0 (b ∷ w)

-- A minus, and a number of at most 2^31; the 32 bits that an i32 has.
unfoldable pub minus : Option ℕ → Option ℕ
minus (Some n) = Some ((4294967296 - n) % 4294967296)
minus None = None

unfoldable pub negative : List ℕ → Option ℕ
negative [] = None
negative (b ∷ w) = cond (eqb b 45) (minus (natural 2147483648 w)) None

unfoldable pub number_of : ℕ → Left → Got ℕ
number_of most = next 0 (natural most)

unfoldable pub negative_of : Left → Got ℕ
negative_of = next 0 negative

-- A number that an i32 holds, by its bits.
unfoldable pub signed_of : Left → Got ℕ
signed_of l = first_of (number_of 2147483647 l) (negative_of l)

-- "X is at most 1"; "a channel at most 255"; "coordinates and angles fit an i32"; others fit a u32.
unfoldable pub numeric : Kind → Left → Got ℕ
numeric Switch l = number_of 1 l
numeric Channel l = number_of 255 l
numeric Int l = signed_of l
numeric _ l = number_of 4294967295 l

-- "`name=N`": a name with its sign, and a u32 right behind it.
unfoldable pub behind : List ℕ → List ℕ → Option ℕ
behind [] w = natural 4294967295 w
behind (k ∷ ks) [] = None
behind (k ∷ ks) (b ∷ w) = cond (eqb b k) (behind ks w) None

-- "Words `name=N` may stand": where the first word left is no such word, nothing is taken, and the number is what it is
-- "absent".
unfoldable pub named_of : List ℕ → ℕ → Left → Got ℕ
named_of name absent l = first_of (next 0 (behind name) l) (got absent l)

-- A name by its letters, the first one highest: at most seven, and none of them 0.
unfoldable pub letters : ℕ → List ℕ → Option ℕ
letters v [] = Some v
letters v (b ∷ w) = cond (eqb b 0) None (cond (leb v 281474976710655) (letters (v * 256 + b) w) None)

unfoldable pub name_of : Left → Got ℕ
name_of = next 0 (letters 0)
