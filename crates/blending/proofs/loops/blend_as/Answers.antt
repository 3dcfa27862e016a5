-- `blend_as` takes the loop of its mode and its rule.
use mathlib.Core.Path.{◌≡◌, refl, ◌∙◌}
use mathlib.Core.Bool.{Bool, true, false}
use mathlib.Core.List.{List}
use Prim.Native.Nat.{ℕ}
use Rattle.std.proofs.Common.{rules}
use Rattle.words.specs.Format.{Format}
use Rattle.blending.specs.Blend.{Rule, rule_of, rule1, rule2, blend_word}
use Rattle.blending.specs.Loops.{flip, draw, blended, flipped}
use Rattle.blending.proofs.Laws.{first, second}
use Rattle.blending.proofs.loops.blend_as.Goals as goal

flips_on : (f : Format) (k : Rule) {x : Bool} (cs ws : List ℕ) → x ≡ true → flipped f cs ws ≡ blended f k x cs ws
unfolding flipped blended blend_word
flips_on f k cs ws e = rw e refl

-- Rules and modes that are the same.
alike : (f : Format) {k l : Rule} {x : Bool} (cs ws : List ℕ) → l ≡ k → x ≡ false → blended f k false cs ws ≡ blended f l x cs ws
alike f cs ws p q = rw (p, q) refl

pub returns-then-xor : goal.returns-then-xor
unfolding flipped
returns-then-xor g c =
    let f = g.L.Layout.form in
    let a = c.args in
    c.pairwise.ensures (flip f) (λ c w r p. search rules) ∙ flips_on f (rule_of a.rule) a.colors.now a.words.now c.if-xor.true

pub returns-then-rule-eq2 : goal.returns-then-rule-eq2
unfolding blended rule_of
returns-then-rule-eq2 g c =
    let f = g.L.Layout.form in
    let a = c.args in
    c.pairwise-then-rule-eq2.ensures (draw f rule2 false) (λ c w r p. search rules)
    ∙ alike f a.colors.now a.words.now (second a.rule c.if-rule-eq2.true) c.if-xor.false

pub returns-else-rule-eq2 : goal.returns-else-rule-eq2
unfolding blended rule_of
returns-else-rule-eq2 g c =
    let f = g.L.Layout.form in
    let a = c.args in
    c.pairwise-else-rule-eq2.ensures (draw f rule1 false) (λ c w r p. search rules)
    ∙ alike f a.colors.now a.words.now (first a.rule c.if-rule-eq2.false) c.if-xor.false
