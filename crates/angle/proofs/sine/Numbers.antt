-- No step of the rule up to the quarters is a NaN, whatever the angle. Assumes nothing.
use Rattle.std.proofs.Common.{ℕ, zero, suc, ◌+◌, ◌-◌, ◌*◌, ◌^◌, Bool, true, false, cond, not, ◌&&◌, T, ltb, ℤ, pos, negsuc, sym, subst}
use lib.Ieee.{Float, nan, inf, fin, Format, binary32, binary64, prec, emax, low, unlike, up, down, odd, units, round, sum, add, mul, fits, is_nan, of_bits}
use lib.Ieee.Fits.{and_i, fits_widens}
use Rattle.angle.specs.Sine.{per_radian, size_of, counted_of}
use Rattle.angle.proofs.sine.Held.{size-held}

abbrev Number : Float → Type 0
Number x = T (not (is_nan x))

either : (b : Bool) (x y : Float) → Number x → Number y → Number (cond b x y)
either true x y h k = h
either false x y h k = k

odd_number : (d : ℕ) (s : Bool) (q k l : ℕ) → Number (odd d s q k l)
unfolding odd is_nan
odd_number d s zero k l = tt
odd_number d s (suc q) k l = tt

units_number : (f : Format) (s : Bool) (q k : ℕ) → Number (units f s q k)
unfolding units is_nan
units_number f s q k = either (ltb (q * 2 ^ k) (2 ^ (low f + suc (emax f)))) (odd (suc (prec f)) s q k (low f)) (inf s) (odd_number (suc (prec f)) s q k (low f)) tt

round_number : (f : Format) (s : Bool) (num den : ℕ) → Number (round f s num den)
unfolding round
round_number f s num den = units_number f s _ _

sum_number : (f : Format) (s : Bool) (a : ℕ) (t : Bool) (b c : ℕ) → Number (sum f s a t b c)
unfolding sum
sum_number f true a true b c = round_number f true (a + b) c
sum_number f false a false b c = round_number f false (a + b) c
sum_number f true a false b c = either (ltb a b) (round f false (b - a) c) (round f (true && ltb b a) (a - b) c) (round_number f false (b - a) c) (round_number f (true && ltb b a) (a - b) c)
sum_number f false a true b c = either (ltb a b) (round f true (b - a) c) (round f (false && ltb b a) (a - b) c) (round_number f true (b - a) c) (round_number f (false && ltb b a) (a - b) c)

add-number : (f : Format) (x : Float) (t : Bool) (n : ℕ) (d : ℤ) → Number x → Number (add f x (fin t n d))
unfolding add is_nan
add-number f nan t n d h = absurd h
add-number f (inf s) t n d h = tt
add-number f (fin s m e) t n d h = sum_number f s (m * up e * down d) t (n * up d * down e) (down e * down d)

mul-number : (f : Format) (s : Bool) (m : ℕ) (e : ℤ) (t : Bool) (n : ℕ) (d : ℤ) → Number (mul f (fin s m e) (fin t n d))
unfolding mul
mul-number f s m e t n d = round_number f (unlike s t) (m * up e * (n * up d)) (down e * down d)

counted-number : (s : Bool) (m : ℕ) (e : ℤ) → Number (counted_of (fin s m e))
unfolding counted_of of_bits
counted-number s m e = add-number binary64 (mul binary64 (fin s m e) per_radian) false 3 (pos 51) (mul-number binary64 s m e false 0x145F306DC9C883 (negsuc 52))

pub size-counted : (t : Float) → T (fits binary32 t) → T (not (is_nan (counted_of (size_of t))))
size-counted t f = let h = size-held t f in subst (λ (x : Float). Number (counted_of x)) (sym h.is) (counted-number false h.m h.e)

-- and the size is an f64
pub size_double : (t : Float) → T (fits binary32 t) → T (fits binary64 (size_of t) && not (is_nan (size_of t)))
unfolding is_nan
size_double t f =
    let h = size-held t f in
    subst (λ (x : Float). T (fits binary64 x && not (is_nan x))) (sym h.is) (and_i (fits binary64 (fin false h.m h.e)) true (fits_widens (fin false h.m h.e) h.fit) tt)
