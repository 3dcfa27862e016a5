-- `direction` meets its contract: each branch is one of the definition. Assumes nothing.
use Rattle.std.proofs.Common.{◌≡◌, Bool, true, false, cond, sym, refl, ◌∙◌}
use lib.Ieee.{Float, binary32, of_bits, sub, add, div, neg, eq, lt}
use Rattle.floats.specs.Size.{plus_zero, abs_of, sign_of}
use Rattle.angle.specs.Arctangent.{of_ratio, direction_of}
use Rattle.angle.proofs.arctangent.direction.Goals as goal

on_axis : (y x r : Float) (s t : Bool) → eq y plus_zero ≡ true → sign_of x ≡ s → sign_of y ≡ t → cond s (cond t (neg (of_bits binary32 0x40490FDB)) (of_bits binary32 0x40490FDB)) y ≡ r
    → r ≡ direction_of y x
unfolding direction_of
on_axis y x r s t e f g h = sym (rw (e, f, g) h)

upright : (y x r : Float) (s : Bool) → eq y plus_zero ≡ false → eq x plus_zero ≡ true → lt y plus_zero ≡ s
    → cond s (neg (of_bits binary32 0x3FC90FDB)) (of_bits binary32 0x3FC90FDB) ≡ r → r ≡ direction_of y x
unfolding direction_of
upright y x r s e f g h = sym (rw (e, f, g) h)

slanted : (y x a d r : Float) (s t : Bool) → eq y plus_zero ≡ false → eq x plus_zero ≡ false → lt x plus_zero ≡ s → lt y plus_zero ≡ t
    → d ≡ abs_of (div binary32 y x) → a ≡ of_ratio d → cond s
    (cond t (sub binary32 (add binary32 a (of_bits binary32 0x33BBBD2E)) (of_bits binary32 0x40490FDB)) (sub binary32 (of_bits binary32 0x40490FDB) (add binary32 a (of_bits binary32 0x33BBBD2E))))
    (cond t (neg a) a) ≡ r → r ≡ direction_of y x
unfolding direction_of
slanted y x a d r s t e f g g' p q h = sym (rw (e, f, g, g', sym p, sym q) h)

pub returns-then-is_sign_negative-2 : goal.returns-then-is_sign_negative-2
unfolding of_bits
returns-then-is_sign_negative-2 c =
    on_axis _ _ _ true true c.if-up.true (sym c.is_sign_negative.ensures ∙ c.if-is_sign_negative.true)
    (sym c.is_sign_negative-then-is_sign_negative.ensures ∙ c.if-is_sign_negative-2.true) refl

pub returns-then-is_sign_negative : goal.returns-then-is_sign_negative
unfolding of_bits
returns-then-is_sign_negative c =
    on_axis _ _ _ true false c.if-up.true (sym c.is_sign_negative.ensures ∙ c.if-is_sign_negative.true)
    (sym c.is_sign_negative-then-is_sign_negative.ensures ∙ c.if-is_sign_negative-2.false) refl

pub returns-then-up : goal.returns-then-up
unfolding of_bits
returns-then-up c = on_axis _ _ _ false _ c.if-up.true (sym c.is_sign_negative.ensures ∙ c.if-is_sign_negative.false) refl refl

pub returns-then-up-2 : goal.returns-then-up-2
unfolding of_bits
returns-then-up-2 c = upright _ _ _ true c.if-up.false c.if-right.true c.if-up-2.true refl

pub returns-then-right : goal.returns-then-right
unfolding of_bits
returns-then-right c = upright _ _ _ false c.if-up.false c.if-right.true c.if-up-2.false refl

pub returns-then-up-3 : goal.returns-then-up-3
unfolding of_bits
returns-then-up-3 c =
    slanted _ _ _ _ _ true true c.if-up.false c.if-right.false c.if-right-2.true c.if-up-3.true
    c.abs.ensures c.of_ratio-a.ensures refl

pub returns-then-right-2 : goal.returns-then-right-2
unfolding of_bits
returns-then-right-2 c =
    slanted _ _ _ _ _ true false c.if-up.false c.if-right.false c.if-right-2.true c.if-up-3.false
    c.abs.ensures c.of_ratio-a.ensures refl

pub returns-then-up-4 : goal.returns-then-up-4
unfolding of_bits
returns-then-up-4 c =
    slanted _ _ _ _ _ false true c.if-up.false c.if-right.false c.if-right-2.false c.if-up-4.true
    c.abs.ensures c.of_ratio-a.ensures refl

pub returns : goal.returns
unfolding of_bits
returns c =
    slanted _ _ _ _ _ false false c.if-up.false c.if-right.false c.if-right-2.false c.if-up-4.false
    c.abs.ensures c.of_ratio-a.ensures refl
