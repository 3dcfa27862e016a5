-- `sine_cosine` meets its contract: both answers come from one rest. Assumes nothing.
use Rattle.std.proofs.Common.{◌≡◌, ℕ, ◌+◌, ◌%◌, Bool, true, false, cond, not, ◌&&◌, T, eqb, sym, ap, ◌∙◌, subst, arith}
use Rattle.std.specs.Int.{from_bool}
use lib.Ieee.{Float, binary32, binary64, neg, mul, sub, lt, le, of_bits, to_bits, fits, is_nan}
use Rattle.floats.proofs.Range.{yes}
use Rattle.angle.specs.declared.sine.SineCosine.{SineCosine}
use Rattle.angle.specs.Meaning.{placed}
use Rattle.angle.specs.Sine.{least, zero, many, size_of, counted_of, off_of, sized_of, rest_of, sine_from, cosine_from}
use Rattle.angle.specs.Sine.{narrow_of, tiny_of, sine_at, cosine_at, sine_of_size, cosine_of_size, sine_of, cosine_of, sine_cosine_of}
use Rattle.angle.proofs.sine.Numbers.{size-counted, size_double}
use Rattle.angle.proofs.sine.Narrowed.{Whole}
use Rattle.angle.proofs.sine.Minus.{Number, either, minus_number, narrow_number, turned_by}
use Rattle.angle.proofs.sine.Steps.{r_of}
use Rattle.angle.proofs.sine.Bounded.{sine_bounded, cosine_bounded}
use Rattle.angle.proofs.sine.sine_cosine.Goals as goal

-- the rest's size is the rule's
rest : (t x y d r : Float) → x ≡ size_of t → y ≡ counted_of x → d ≡ off_of x (sub binary64 y many) → r ≡ sized_of d → r ≡ r_of (size_of t)
unfolding rest_of
rest t x y d r e f g h = cc

-- so the polynomials are an f32 once they are rounded
sine-whole : (t r p : Float) → T (fits binary32 t) → r ≡ r_of (size_of t) → p ≡ sine_from r (mul binary64 r r) → Whole p
sine-whole t r p f e g = subst Whole (sym (g ∙ ap (λ (r : Float). sine_from r (mul binary64 r r)) e)) (sine_bounded t f)

cosine-whole : (t r w : Float) → T (fits binary32 t) → r ≡ r_of (size_of t) → w ≡ cosine_from (mul binary64 r r) → Whole w
cosine-whole t r w f e g = subst Whole (sym (g ∙ ap (λ (r : Float). cosine_from (mul binary64 r r)) e)) (cosine_bounded t f)

number : (p q : Float) → Whole p → q ≡ narrow_of p → Number q
number p q w e = subst Number (sym e) (narrow_number p w)

signed-number : (n : ℕ) (q s : Float) → Number q → s ≡ cond (eqb (n % 2) 0) q (neg q) → Number s
signed-number n q s k e = subst Number (sym e) (either (eqb (n % 2) 0) q (neg q) k (minus_number q k))

abbrev pair : Float → Float → SineCosine
pair y x = record { sine = y; cosine = x }

-- a minus where the test holds
minus_if_lem : (b : Bool) (n : ℕ) (q : Float) → n ≡ from_bool b → turned_by (n % 2) q ≡ cond b (neg q) q
minus_if_lem true n q e = ap (λ (m : ℕ). turned_by (m % 2) q) e
minus_if_lem false n q e = ap (λ (m : ℕ). turned_by (m % 2) q) e

once : (n : ℕ) → n % 4 % 4 ≡ n % 4
once n = omega arith

placed-sine : (b : Bool) (i n : ℕ) (s c v : Float) → v ≡ turned_by (i % 2) (placed neg (n % 4 % 4) s c) → i ≡ from_bool b
    → v ≡ cond b (neg (placed neg (n % 4) s c)) (placed neg (n % 4) s c)
placed-sine b i n s c v e f = e ∙ ap (λ (k : ℕ). turned_by (i % 2) (placed neg k s c)) (once n) ∙ minus_if_lem b i (placed neg (n % 4) s c) f

-- the answers from the parts that the code works out
both : (b : Bool) (t x y d r p q s w c v z : Float) → x ≡ size_of t → le x least ≡ b → y ≡ counted_of x → d ≡ off_of x (sub binary64 y many) → r ≡ sized_of d
    → p ≡ sine_from r (mul binary64 r r) → q ≡ narrow_of p → s ≡ cond (lt d zero) (neg q) q → w ≡ cosine_from (mul binary64 r r) → c ≡ narrow_of w
    → v ≡ cond (lt t (of_bits binary32 0)) (neg (placed neg (to_bits binary64 y % 4) s c)) (placed neg (to_bits binary64 y % 4) s c)
    → z ≡ placed neg ((to_bits binary64 y % 4 + 1) % 4) s c → pair (cond b t v) z ≡ sine_cosine_of t
unfolding tiny_of rest_of sine_at cosine_at sine_of_size cosine_of_size sine_of cosine_of sine_cosine_of
both b t x y d r p q s w c v z e1 f e2 e3 e4 e5 e6 e7 e8 e9 e10 e11 = let g : tiny_of t ≡ b = sym (ap (λ (z : Float). le z least) e1) ∙ f in cc

pub float_to_float-w : goal.float_to_float-w
float_to_float-w c =
    let t = c.args.t in
    subst (λ (z : Float). T (fits binary64 z && not (is_nan z))) (sym c.size_of-x.ensures) (size_double t (yes c.well_formed.0.1))

pub float_to_bits-k : goal.float_to_bits-k
float_to_bits-k c =
    let y = c.counted-y in
    let x = c.size_of-x in
    subst (λ (z : Float). T (not (is_nan z))) (sym (y.ensures ∙ ap counted_of x.ensures)) (size-counted c.args.t (yes c.well_formed.0.1))

pub narrow-requires : goal.narrow-requires
narrow-requires c =
    let t = c.args.t in
    let r = c.sized-r in
    let e = rest t c.size_of-x.result c.counted-y.result c.off-d.result r.result c.size_of-x.ensures c.counted-y.ensures c.off-d.ensures r.ensures in
    sine-whole t r.result c.sine_from.result (yes c.well_formed.0.1) e c.sine_from.ensures

pub turned-s-requires : goal.turned-s-requires
turned-s-requires c =
    let t = c.args.t in
    let r = c.sized-r in
    let e = rest t c.size_of-x.result c.counted-y.result c.off-d.result r.result c.size_of-x.ensures c.counted-y.ensures c.off-d.ensures r.ensures in
    let p = c.sine_from in
    number p.result c.narrow.result (sine-whole t r.result p.result (yes c.well_formed.0.1) e p.ensures) c.narrow.ensures

pub narrow-c-requires : goal.narrow-c-requires
narrow-c-requires c =
    let t = c.args.t in
    let r = c.sized-r in
    let e = rest t c.size_of-x.result c.counted-y.result c.off-d.result r.result c.size_of-x.ensures c.counted-y.ensures c.off-d.ensures r.ensures in
    cosine-whole t r.result c.cosine_from.result (yes c.well_formed.0.1) e c.cosine_from.ensures

pub placed_at-v-requires : goal.placed_at-v-requires
placed_at-v-requires c =
    let t = c.args.t in
    let f = yes c.well_formed.0.1 in
    let r = c.sized-r in
    let e = rest t c.size_of-x.result c.counted-y.result c.off-d.result r.result c.size_of-x.ensures c.counted-y.ensures c.off-d.ensures r.ensures in
    let p = c.sine_from in
    let q = c.narrow in
    let w = c.cosine_from in
    let k = number p.result q.result (sine-whole t r.result p.result f e p.ensures) q.ensures in
    let l = number w.result c.narrow-c.result (cosine-whole t r.result w.result f e w.ensures) c.narrow-c.ensures in
    (signed-number c.from.result q.result c.turned-s.result k c.turned-s.ensures, l)

pub placed_at-cosine-requires : goal.placed_at-cosine-requires
placed_at-cosine-requires c =
    let t = c.args.t in
    let f = yes c.well_formed.0.1 in
    let r = c.sized-r in
    let e = rest t c.size_of-x.result c.counted-y.result c.off-d.result r.result c.size_of-x.ensures c.counted-y.ensures c.off-d.ensures r.ensures in
    let p = c.sine_from in
    let q = c.narrow in
    let w = c.cosine_from in
    let k = number p.result q.result (sine-whole t r.result p.result f e p.ensures) q.ensures in
    let l = number w.result c.narrow-c.result (cosine-whole t r.result w.result f e w.ensures) c.narrow-c.ensures in
    (signed-number c.from.result q.result c.turned-s.result k c.turned-s.ensures, l)

pub returns-then-x : goal.returns-then-x
unfolding of_bits
returns-then-x c =
    let z = c.placed_at-cosine in
    let v = c.placed_at-v in
    let i = c.from-2 in
    let n = c.narrow-c in
    let w = c.cosine_from in
    let s = c.turned-s in
    let q = c.narrow in
    let p = c.sine_from in
    let g = c.from in
    let r = c.sized-r in
    let d = c.off-d in
    let y = c.counted-y in
    let x = c.size_of-x in
    let t = c.args.t in
    both true t x.result y.result d.result r.result p.result q.result s.result
    w.result n.result v.result z.result
    x.ensures c.if-x.true y.ensures d.ensures r.ensures p.ensures q.ensures
    (s.ensures ∙ minus_if_lem (lt d.result zero) g.result q.result g.ensures) w.ensures n.ensures
    (placed-sine (lt t (of_bits binary32 0)) i.result (to_bits binary64 y.result) s.result n.result v.result v.ensures i.ensures) z.ensures

pub returns : goal.returns
unfolding of_bits
returns c =
    let z = c.placed_at-cosine in
    let v = c.placed_at-v in
    let i = c.from-2 in
    let n = c.narrow-c in
    let w = c.cosine_from in
    let s = c.turned-s in
    let q = c.narrow in
    let p = c.sine_from in
    let g = c.from in
    let r = c.sized-r in
    let d = c.off-d in
    let y = c.counted-y in
    let x = c.size_of-x in
    let t = c.args.t in
    both false t x.result y.result d.result r.result p.result q.result s.result
    w.result n.result v.result z.result
    x.ensures c.if-x.false y.ensures d.ensures r.ensures p.ensures q.ensures
    (s.ensures ∙ minus_if_lem (lt d.result zero) g.result q.result g.ensures) w.ensures n.ensures
    (placed-sine (lt t (of_bits binary32 0)) i.result (to_bits binary64 y.result) s.result n.result v.result v.ensures i.ensures) z.ensures
