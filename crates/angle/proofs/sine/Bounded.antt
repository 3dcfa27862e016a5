-- Whatever the angle, the two polynomials' bits are those of an f64 from 2 ^ -126 up to 2. Assumes nothing.
use Rattle.std.proofs.Common.{ℕ, T, sym, subst}
use lib.Ieee.{Float, binary32, binary64, fits, mul}
use Rattle.angle.specs.Sine.{size_of, sine_from, cosine_from}
use Rattle.angle.proofs.sine.Held.{size-held}
use Rattle.angle.proofs.sine.Narrowed.{Whole, whole_bits}
use Rattle.angle.proofs.sine.Steps.{Answer, r_of, steps}

bounded : (x : Float) (F c : ℕ) → Answer x F c → Whole x
bounded x F c a = whole_bits a.p a.few a.low x a.is

module _ (t : Float) (f : T (fits binary32 t)) where
  abbrev r : Float
  r = r_of (size_of t)

  pub sine_bounded : Whole (sine_from r (mul binary64 r r))
  sine_bounded =
      let h = size-held t f in
      let s = steps h.m h.e h.fit h.few h.low in
      subst (λ (x : Float). Whole (sine_from (r_of x) (mul binary64 (r_of x) (r_of x)))) (sym h.is) (bounded _ _ _ s.sine)

  pub cosine_bounded : Whole (cosine_from (mul binary64 r r))
  cosine_bounded =
      let h = size-held t f in
      let s = steps h.m h.e h.fit h.few h.low in
      subst (λ (x : Float). Whole (cosine_from (mul binary64 (r_of x) (r_of x)))) (sym h.is) (bounded _ _ _ s.cosine)
