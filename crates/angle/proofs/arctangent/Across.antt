-- Two right angles less an angle up to 16/10, as the rule takes it on the left: what it is in D-ths. Assumes nothing.
use Rattle.std.proofs.Common.{◌≡◌, ℕ, ◌+◌, ◌-◌, ◌*◌, ◌^◌, ◌<◌, ◌≤◌, Bool, true, false, cond, sym, refl, subst, mul-lt-mul_of_pos_right, le_of_mul-le-mul_right, arith, lit<, lit≤}
use lib.Ieee.{Float, binary32, of_bits, round, add, sub}
use lib.Ieee.Exact.{HasValue}
use Rattle.angle.specs.Meaning.{D, H}
use Rattle.angle.proofs.arctangent.Ops.{Val, D-pos, Near, rounds, Op, plus, sub_is, sub_under}

-- the f32 next to pi, and what it is more than pi
unfoldable pub pp : ℕ
pp = 13176795 * 2 ^ 127

unfoldable pub lo : ℕ
lo = 12303662 * 2 ^ 102

v-pp : Val (of_bits binary32 0x40490FDB) pp
unfolding of_bits D pp
v-pp = (refl, refl)

v-lo : Val (of_bits binary32 0x33BBBD2E) lo
unfolding of_bits D lo
v-lo = (refl, refl)

-- how far the difference may lie from the exact one
unfoldable pub E4 : ℕ
E4 = 2 ^ 127

n-plus : 16 * D + 10 * lo < 10 * 2 ^ 150
unfolding D lo
n-plus = lit< tt

n-under : 16 * D + 10 * lo + 10 * 2 ^ 126 < 10 * pp
unfolding D lo pp
n-under = lit< tt

n-pp : pp < 2 ^ 151
unfolding pp
n-pp = lit< tt

n-top : 5 * pp + 5 * 2 ^ 127 ≤ 16 * D
unfolding pp D
n-top = lit≤ tt

n-hi : pp + 2 ^ 125 + 2 ^ 126 ≤ 2 * H + lo + E4
unfolding pp H lo E4
n-hi = lit≤ tt

n-lo : 2 * H + lo + 2 ^ 125 + 2 ^ 126 ≤ pp + E4
unfolding pp H lo E4
n-lo = lit≤ tt

module _ (a : Float) (A : ℕ) (va : Val a A) (top : 10 * A ≤ 16 * D) where
  bn : Op (add binary32 a (of_bits binary32 0x33BBBD2E)) (A + lo) 126
  bn = plus a (of_bits binary32 0x33BBBD2E) A lo 126 (lit≤ tt) va v-lo (go A lo D (2 ^ 150) top n-plus)
    where
      go : (a l d k : ℕ) → 10 * a ≤ 16 * d → 16 * d + 10 * l < 10 * k → a + l < k
      go a l d k p q = omega arith

  Bp : ℕ
  Bp = bn.parts

  b-hi : Bp * 2 ≤ (A + lo) * 2 + 2 ^ 126
  unfolding Bp
  b-hi = bn.hi

  b-lo : (A + lo) * 2 ≤ Bp * 2 + 2 ^ 126
  unfolding Bp
  b-lo = bn.lo

  b-pp : Bp < pp
  b-pp = go Bp A lo D pp (2 ^ 126) top b-hi n-under
    where
      go : (b a l d p k : ℕ) → 10 * a ≤ 16 * d → b * 2 ≤ (a + l) * 2 + k → 16 * d + 10 * l + 10 * k < 10 * p → b < p
      go b a l d p k x y z = omega arith

  cn : Near (round binary32 false (pp - Bp) D) (pp - Bp) D 127
  cn = rounds (pp - Bp) D 127 D-pos (lit≤ tt) (mul-lt-mul_of_pos_right (go pp Bp (2 ^ 151) n-pp) D-pos)
    where
      go : (p b k : ℕ) → p < k → p - b < k
      go p b k h = omega arith

  pub C : ℕ
  C = cn.parts

  c-hi : C * 2 ≤ (pp - Bp) * 2 + 2 ^ 127
  unfolding C
  c-hi = go cn.parts (pp - Bp) D (2 ^ 127) D-pos cn.hi
    where
      go : (c n d k : ℕ) → 0 < d → c * d * 2 ≤ n * d * 2 + d * k → c * 2 ≤ n * 2 + k
      go c n d k p h = le_of_mul-le-mul_right {k = d} (omega arith) p

  c-lo : (pp - Bp) * 2 ≤ C * 2 + 2 ^ 127
  unfolding C
  c-lo = go cn.parts (pp - Bp) D (2 ^ 127) D-pos cn.lo
    where
      go : (c n d k : ℕ) → 0 < d → n * d * 2 ≤ c * d * 2 + d * k → n * 2 ≤ c * 2 + k
      go c n d k p h = le_of_mul-le-mul_right {k = d} (omega arith) p

  pub C-val : (s : Bool)
      → HasValue
      (cond s (sub binary32 (add binary32 a (of_bits binary32 0x33BBBD2E)) (of_bits binary32 0x40490FDB)) (sub binary32 (of_bits binary32 0x40490FDB) (add binary32 a (of_bits binary32 0x33BBBD2E)))) s C D
  unfolding C Bp
  C-val true =
      subst (λ (z : Float). HasValue z true cn.parts D) (sym (sub_under (add binary32 a (of_bits binary32 0x33BBBD2E)) (of_bits binary32 0x40490FDB) bn.parts pp bn.val v-pp b-pp))
      (cn.either true)
  C-val false =
      subst (λ (z : Float). HasValue z false cn.parts D)
      (sym (sub_is (of_bits binary32 0x40490FDB) (add binary32 a (of_bits binary32 0x33BBBD2E)) pp bn.parts v-pp bn.val (weak bn.parts pp b-pp))) (cn.either false)
    where
      weak : (a b : ℕ) → a < b → a ≤ b
      weak a b h = omega arith

  pub C-top : 5 * C ≤ 16 * D
  C-top = go C pp Bp D (2 ^ 127) c-hi n-top
    where
      go : (c p b d k : ℕ) → c * 2 ≤ (p - b) * 2 + k → 5 * p + 5 * k ≤ 16 * d → 5 * c ≤ 16 * d
      go c p b d k x y = omega arith

  pub C-hi : C + A ≤ 2 * H + E4
  C-hi = go C A Bp pp lo H E4 (2 ^ 125) (2 ^ 126) (2 ^ 127) refl refl c-hi b-lo b-pp n-hi
    where
      go : (c a b p l h e i j k : ℕ) → j ≡ 2 * i → k ≡ 2 * j → c * 2 ≤ (p - b) * 2 + k → (a + l) * 2 ≤ b * 2 + j → b < p → p + i + j ≤ 2 * h + l + e → c + a ≤ 2 * h + e
      go c a b p l h e i j k f g x y z w = omega arith

  pub C-lo : 2 * H ≤ C + A + E4
  C-lo = go C A Bp pp lo H E4 (2 ^ 125) (2 ^ 126) (2 ^ 127) refl refl c-lo b-hi b-pp n-lo
    where
      go : (c a b p l h e i j k : ℕ) → j ≡ 2 * i → k ≡ 2 * j → (p - b) * 2 ≤ c * 2 + k → b * 2 ≤ (a + l) * 2 + j → b < p → 2 * h + l + i + j ≤ p + e → 2 * h ≤ c + a + e
      go c a b p l h e i j k f g x y z w = omega arith

  -- no more than the f32 next to pi
  pub C-pp : E4 ≤ A → C ≤ pp
  C-pp far = go C pp Bp A lo (2 ^ 126) (2 ^ 127) refl c-hi b-lo b-pp (unfold E4 in far)
    where
      go : (c p b a l j k : ℕ) → k ≡ 2 * j → c * 2 ≤ (p - b) * 2 + k → (a + l) * 2 ≤ b * 2 + j → b < p → k ≤ a → c ≤ p
      go c p b a l j k e x y z w = omega arith
