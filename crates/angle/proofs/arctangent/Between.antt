-- The angle of every ratio between 7/16 and 39/16, off the diagonal: below an eighth of a turn, or above. Assumes nothing.
use Rattle.std.proofs.Common.{◌≡◌, ℕ, ◌+◌, ◌-◌, ◌*◌, ◌^◌, ◌<◌, ◌≤◌, true, false, ◌⊎◌, sym, refl, ap, ◌∙◌, subst, inl, inr, mul-le-mul_right, mul-pos, le_of_mul-le-mul_right, arith, lit<, lit≤}
use native.Mathlib.Decide.{dec_lt}
use lib.Ieee.{Float, binary32, of_bits, round, add, sub, mul, div, neg, lt}
use lib.Ieee.Scale.{round_same}
use Rattle.angle.specs.Meaning.{D, H}
use Rattle.angle.specs.Arctangent.{even_of, odd_of, less_of, from_of, past_half, past_one, past_three_halves, of_ratio}
use Rattle.angle.proofs.arctangent.Ops.{Val, lt_not, lt-is}
use Rattle.angle.proofs.arctangent.Horner.{h}
use Rattle.angle.proofs.arctangent.Budget.{B, E}
use Rattle.angle.proofs.arctangent.Sides.{Low, High}
use Rattle.angle.proofs.arctangent.Degrees.{slack, n-slack}
use Rattle.angle.proofs.arctangent.Known.{past, short}
use Rattle.angle.proofs.arctangent.Reduced.{n-D}
use Rattle.angle.proofs.arctangent.Ratio.{Q, q-val, q-low, q-top, as_ratio, at_most}
use Rattle.angle.proofs.arctangent.Bands.{half_short, half-past, one_short, one-past, three_short, three_past}
use Rattle.angle.proofs.arctangent.Turned.{half, eighth, thirds, half_test, eighth_test, thirds_test, K0, quarter}
use Rattle.angle.proofs.arctangent.Middle.{p-top, tk, on_low, off_low, on_high, off_high, swing_on, swing_off, on_line}
use Rattle.angle.proofs.arctangent.Figures.{n-half-B, n-eighth-B, n-thirds-B, I1, L1, I2, L2, I3, L3, A3, v-A3, v-I1, v-L1, v-I2}
use Rattle.angle.proofs.arctangent.Figures.{v-L2, v-I3, v-L3, angle_1, angle_2, rest_2, rest_3, n-half-room, n-half-far, n-half-low, n-eighth-low}
use Rattle.angle.proofs.arctangent.Figures.{n-eighth-far, n-half-on, n-thirds-on, n-high-2, n-high-3, n-near-2, n-near-3, n-near-3', n_pos}

-- ---- numbers: the record's bounds, from the angle's
module _ (A l P i t s d k : ℕ) (top : 9 * P ≤ 2 * d + 9 * t) (far : d ≤ 262144 * P) (few : 4 * l ≤ 3 * P) (e : s ≡ 20 * t) (f : d ≡ 33554432 * t) (t0 : 0 < t) where
  past-far : 2 * i + 2 * P ≤ 2 * A + 2 * l + 6 * t → d ≤ 4 * i → s ≤ A
  past-far a b = omega arith

  past_room : 2 * A + 2 * l ≤ 2 * i + 2 * P + 6 * t → 18 * i + 4 * d + 500 * t < 9 * k → 2 * (A + s) < k
  past_room a b = omega arith

  short_far : 2 * i + 2 * l ≤ 2 * A + 2 * P + 6 * t → d ≤ 4 * i → s ≤ A
  short_far a b = omega arith

  short_room : (b : ℕ) → 2 * A + 2 * P ≤ 2 * i + 2 * l + 6 * t → i ≤ b + t → 2 * b ≤ k + t → 2 * (A + s) < k
  short_room b a c g = omega arith

  past-high : 2 * A + 2 * l ≤ 2 * i + 2 * P + 6 * t → 9 * i + 2 * d + 500 * t ≤ 9 * k → A + s ≤ k
  past-high a b = omega arith

  past_near : 2 * i + 2 * P ≤ 2 * A + 2 * l + 6 * t → k ≤ 2 * i + t → k + 2 * s < 2 * A
  past_near a b = omega arith

  short_high : 2 * A + 2 * P ≤ 2 * i + 2 * l + 6 * t → 9 * i + 2 * d + 500 * t ≤ 9 * k → A + s ≤ k
  short_high a b = omega arith

  short_near : 16 * P ≤ 3 * d → 2 * i + 2 * l ≤ 2 * A + 2 * P + 6 * t → 8 * k + 3 * d + 500 * t < 16 * i → k + 2 * s < 2 * A
  short_near c a b = omega arith

  -- the angle's end
  past_end : (b m y : ℕ) → 2 * A + 2 * l ≤ 2 * i + 2 * P + 6 * t → i ≤ b + t → y ≤ A + s → 18 * b + 4 * d + 500 * t ≤ 18 * m → y ≤ m
  past_end b m y a c g n = omega arith

  short_end : (b m y : ℕ) → 16 * P ≤ 3 * d → 2 * i + 2 * l ≤ 2 * A + 2 * P + 6 * t → k ≤ b + i + t → b + i ≤ k + t → y + A ≤ k + s → 16 * b + 3 * d + 500 * t ≤ 16 * m → y ≤ m
  short_end b m y c a g j o n = omega arith

-- ---- the turns are short enough for the bound to carry over
module _ (u v X : ℕ) where
  half_on_room : X + 1 * v ≡ 2 * u → 16 * u ≤ 12 * v → K0 * (2 * v + 1 * u + X) + 2 ^ 28 * (v + u) ≤ 2458582741759 * (v + u)
  unfolding K0
  half_on_room e b = omega arith

  half_off_room : X + 2 * u ≡ 1 * v → 7 * v ≤ 16 * u → K0 * (2 * v + 1 * u + X) + 2 ^ 28 * (v + u) ≤ 2458582741759 * (v + u)
  unfolding K0
  half_off_room e b = omega arith

  eighth_room : X + 1 * u ≡ 1 * v → 10 * v ≤ 16 * u → K0 * (1 * v + 1 * u + X) + 2 ^ 28 * (v + u) ≤ 1554944255988 * (v + u)
  unfolding K0
  eighth_room e b = omega arith

  thirds_off_room : X + 3 * u ≡ 2 * v → 16 * v ≤ 39 * u → K0 * (3 * v + 2 * u + X) + 2 ^ 28 * (v + u) ≤ 3964345551915 * (v + u)
  unfolding K0
  thirds_off_room e b = omega arith

  thirds_on_room : X + 2 * v ≡ 3 * u → 18 * u ≤ 16 * v → K0 * (3 * v + 2 * u + X) + 2 ^ 28 * (v + u) ≤ 3964345551915 * (v + u)
  unfolding K0
  thirds_on_room e b = omega arith

-- which of the two is larger
module _ (u v X : ℕ) (X0 : 0 < X) where
  half_on_flat : X + 1 * v ≡ 2 * u → 16 * u ≤ 12 * v → u ≤ v
  half_on_flat e h = omega arith

  half_off_flat : X + 2 * u ≡ 1 * v → u ≤ v
  half_off_flat e = omega arith

  eighth_flat : X + 1 * u ≡ 1 * v → u ≤ v
  eighth_flat e = omega arith

  eighth_steep : X + 1 * v ≡ 1 * u → v < u
  eighth_steep e = omega arith

  thirds_off_steep : X + 3 * v ≡ 2 * u → v < u
  thirds_off_steep e = omega arith

thirds_on_steep : (u v : ℕ) → 0 < v → 18 * v ≤ 16 * u → v < u
thirds_on_steep u v p h = omega arith

some_right : (c d u v : ℕ) → 0 < v → 0 < d → 0 < c → 0 < c * v + d * u
some_right c d u v p q r = omega (arith, mul-pos r p)

module _ (u v : ℕ) (v0 : 0 < v) (vt : v ≤ 32766) (ut : u ≤ 32766) (low : 7 * v ≤ 16 * u) (top : 16 * u < 39 * v) where
  abbrev qf : Float
  qf = round binary32 false u v

  abbrev q : ℕ
  q = Q u v v0 vt ut low top

  u0 : 0 < u
  u0 = omega arith

  -- ---- which known angle
  c7 : ℕ
  c7 = 7 * 2 ^ 145

  c11 : ℕ
  c11 = 11 * 2 ^ 145

  c19 : ℕ
  c19 = 19 * 2 ^ 145

  c39 : ℕ
  c39 = 39 * 2 ^ 145

  v7 : Val (of_bits binary32 0x3EE00000) c7
  unfolding of_bits D c7
  v7 = (refl, refl)

  v11 : Val (of_bits binary32 0x3F300000) c11
  unfolding of_bits D c11
  v11 = (refl, refl)

  v19 : Val (of_bits binary32 0x3F980000) c19
  unfolding of_bits D c19
  v19 = (refl, refl)

  v39 : Val (of_bits binary32 0x401C0000) c39
  unfolding of_bits D c39
  v39 = (refl, refl)

  n7 : 16 * c7 ≡ 7 * D
  unfolding c7 D
  n7 = refl

  n11 : 16 * c11 ≡ 11 * D
  unfolding c11 D
  n11 = refl

  n19 : 16 * c19 ≡ 19 * D
  unfolding c19 D
  n19 = refl

  n39 : 16 * c39 ≡ 39 * D
  unfolding c39 D
  n39 = refl

  vq : Val qf q
  vq = q-val u v v0 vt ut low top

  not_below : (c : ℕ) (f : Float) (k : ℕ) → Val f c → 16 * c ≡ k * D → k * D ≤ 16 * q → lt qf f ≡ false
  not_below c f k vf e g = lt_not qf f q c 124 (lit≤ tt) vq vf (go c q (k * D) e g)
    where
      go : (c q m : ℕ) → 16 * c ≡ m → m ≤ 16 * q → c ≤ q
      go c q m e g = omega arith

  is_below : (c : ℕ) (f : Float) (k : ℕ) → Val f c → 16 * c ≡ k * D → 16 * q < k * D → lt qf f ≡ true
  is_below c f k vf e g = lt-is qf f q c 124 (lit≤ tt) vq vf (go c q (k * D) e g)
    where
      go : (c q m : ℕ) → 16 * c ≡ m → 16 * q < m → q < c
      go c q m e g = omega arith

  e7 : lt qf (of_bits binary32 0x3EE00000) ≡ false
  e7 = not_below c7 (of_bits binary32 0x3EE00000) 7 v7 n7 (q-low u v v0 vt ut low top)

  by_half : 16 * q < 11 * D → of_ratio qf ≡ from_of 0x3EED6338 0x31AC3769 (past_half qf)
  unfolding of_ratio
  by_half b = rw (e7, is_below c11 (of_bits binary32 0x3F300000) 11 v11 n11 b)

  by_one : 11 * D ≤ 16 * q → 16 * q < 19 * D → of_ratio qf ≡ from_of 0x3F490FDA 0x33222168 (past_one qf)
  unfolding of_ratio
  by_one a b = rw (e7, not_below c11 (of_bits binary32 0x3F300000) 11 v11 n11 a, is_below c19 (of_bits binary32 0x3F980000) 19 v19 n19 b)

  by_three : 19 * D ≤ 16 * q → of_ratio qf ≡ from_of 0x3F7B985E 0x33140FB4 (past_three_halves qf)
  unfolding of_ratio
  by_three a =
      rw (
        e7,
        not_below c11 (of_bits binary32 0x3F300000) 11 v11 n11 (fewer q D a),
        not_below c19 (of_bits binary32 0x3F980000) 19 v19 n19 a,
        is_below c39 (of_bits binary32 0x401C0000) 39 v39 n39
            (q-top u v v0 vt ut low top),
      )
    where
      fewer : (q d : ℕ) → 19 * d ≤ 16 * q → 11 * d ≤ 16 * q
      fewer q d h = omega arith

  -- ---- past a half, and short of it
  half_on : 16 * q < 11 * D → (X : ℕ) → X + 1 * v ≡ 2 * u → 0 < X → Low u v
  half_on b X e X0 =
      let Y = 2 * v + 1 * u in
      let Y0 = some_right 2 1 u v v0 (lit< tt) (lit< tt) in
      let x = past_half qf in
      let r = half-past u v v0 vt ut low top b X e X0 in
      let n = tk x false X Y r Y0 in
      let g = past 0x3EED6338 0x31AC3769 I1 L1 v-I1 v-L1 angle_1.few r.p r.parts r.val (p-top x false X Y r Y0) r.far n angle_1.top in
      let A = g.parts in
      record {
        parts = A;
        val = subst (λ (z : Float). Val z A) (sym (by_half b ∙ ap (from_of 0x3EED6338 0x31AC3769) r.is)) g.val;
        far = past-far A n.parts r.parts (I1 + L1) h slack D H r.top r.far n.few n-slack n-D n_pos g.lo n-half-far;
        room = past_room A n.parts r.parts (I1 + L1) h slack D H r.top r.far n.few n-slack n-D n_pos g.hi n-half-room;
        flat = half_on_flat u v X X0 e (as_ratio u v v0 vt ut low top 11 b);
        good =
            λ y y1 y2.
            swing_on x false X Y r Y0 0x3EED6338 0x31AC3769 I1 L1 half v-I1 v-L1 angle_1.few 2 1 2458582741759 u v half_test (lit< tt) v0
            (half_on_room u v X e (as_ratio u v v0 vt ut low top 11 b)) refl e y
            (on_low x false X Y r Y0 0x3EED6338 0x31AC3769 I1 L1 half v-I1 v-L1 angle_1.few A y angle_1.above angle_1.below y1 y2 g.hi g.lo)
            (past_end A n.parts r.parts (I1 + L1) h slack D H r.top r.far n.few n-slack n-D n_pos half B y g.hi angle_1.above y1 n-half-on);
      }

  half_off : 16 * q < 11 * D → (X : ℕ) → X + 2 * u ≡ 1 * v → 0 < X → Low u v
  half_off b X e X0 =
      let Y = 2 * v + 1 * u in
      let Y0 = some_right 2 1 u v v0 (lit< tt) (lit< tt) in
      let x = past_half qf in
      let r = half_short u v v0 vt ut low top b X e X0 in
      let n = tk x true X Y r Y0 in
      let g = short 0x3EED6338 0x31AC3769 I1 L1 v-I1 v-L1 angle_1.few r.p r.parts r.val (p-top x true X Y r Y0) r.far n angle_1.big angle_1.fits in
      let A = g.parts in
      record {
        parts = A;
        val = subst (λ (z : Float). Val z A) (sym (by_half b ∙ ap (from_of 0x3EED6338 0x31AC3769) r.is)) g.val;
        far = short_far A n.parts r.parts (I1 + L1) h slack D H r.top r.far n.few n-slack n-D n_pos g.lo n-half-far;
        room = short_room A n.parts r.parts (I1 + L1) h slack D H r.top r.far n.few n-slack n-D n_pos half g.hi angle_1.above n-half-low;
        flat = half_off_flat u v X X0 e;
        good =
            λ y y1 y2.
            swing_off x true X Y r Y0 0x3EED6338 0x31AC3769 I1 L1 half v-I1 v-L1 angle_1.few 2 1 2458582741759 u v half_test (lit< tt) v0 (half_off_room u v X e low) refl e n-half-B y
            (off_low x true X Y r Y0 0x3EED6338 0x31AC3769 I1 L1 half v-I1 v-L1 angle_1.few A y angle_1.above angle_1.below y1 y2 g.hi g.lo);
      }

  -- ---- short of 45 degrees, and past it
  eighth_off : 11 * D ≤ 16 * q → 16 * q < 19 * D → (X : ℕ) → X + 1 * u ≡ 1 * v → 0 < X → Low u v
  eighth_off a b X e X0 =
      let Y = 1 * v + 1 * u in
      let Y0 = some_right 1 1 u v v0 (lit< tt) (lit< tt) in
      let x = past_one qf in
      let r = one_short u v v0 vt ut low top a b X e X0 in
      let n = tk x true X Y r Y0 in
      let g = short 0x3F490FDA 0x33222168 I2 L2 v-I2 v-L2 angle_2.few r.p r.parts r.val (p-top x true X Y r Y0) r.far n angle_2.big angle_2.fits in
      let A = g.parts in
      record {
        parts = A;
        val = subst (λ (z : Float). Val z A) (sym (by_one a b ∙ ap (from_of 0x3F490FDA 0x33222168) r.is)) g.val;
        far = short_far A n.parts r.parts (I2 + L2) h slack D H r.top r.far n.few n-slack n-D n_pos g.lo n-eighth-far;
        room = short_room A n.parts r.parts (I2 + L2) h slack D H r.top r.far n.few n-slack n-D n_pos eighth g.hi angle_2.above n-eighth-low;
        flat = eighth_flat u v X X0 e;
        good =
            λ y y1 y2.
            swing_off x true X Y r Y0 0x3F490FDA 0x33222168 I2 L2 eighth v-I2 v-L2 angle_2.few 1 1 1554944255988 u v eighth_test (lit< tt) v0
            (eighth_room u v X e (at_most u v v0 vt ut low top 10 a)) refl e n-eighth-B y
            (off_low x true X Y r Y0 0x3F490FDA 0x33222168 I2 L2 eighth v-I2 v-L2 angle_2.few A y angle_2.above angle_2.below y1 y2 g.hi g.lo);
      }

  eighth_on : 11 * D ≤ 16 * q → 16 * q < 19 * D → (X : ℕ) → X + 1 * v ≡ 1 * u → 0 < X → High u v
  eighth_on a b X e X0 =
      let Y = 1 * v + 1 * u in
      let Y0 = some_right 1 1 u v v0 (lit< tt) (lit< tt) in
      let x = past_one qf in
      let r = one-past u v v0 vt ut low top a b X e X0 in
      let n = tk x false X Y r Y0 in
      let g = past 0x3F490FDA 0x33222168 I2 L2 v-I2 v-L2 rest_2.few r.p r.parts r.val (p-top x false X Y r Y0) r.far n rest_2.top in
      let A = g.parts in
      record {
        parts = A;
        val = subst (λ (z : Float). Val z A) (sym (by_one a b ∙ ap (from_of 0x3F490FDA 0x33222168) r.is)) g.val;
        room = past-high A n.parts r.parts (I2 + L2) h slack D H r.top r.far n.few n-slack n-D n_pos g.hi n-high-2;
        near = past_near A n.parts r.parts (I2 + L2) h slack D H r.top r.far n.few n-slack n-D n_pos g.lo n-near-2;
        steep = eighth_steep u v X X0 e;
        good =
            λ y y1 y2.
            swing_off x false X Y r Y0 0x3F490FDA 0x33222168 I2 L2 eighth v-I2 v-L2 rest_2.few 1 1 1554944255988 v u eighth_test (lit< tt) u0
            (eighth_room v u X e (more u v (as_ratio u v v0 vt ut low top 19 b))) (turn u v) e n-eighth-B y
            (off_high x false X Y r Y0 0x3F490FDA 0x33222168 I2 L2 eighth v-I2 v-L2 rest_2.few A y rest_2.above rest_2.below y1 y2 g.hi g.lo);
      }
    where
      more : (u v : ℕ) → 16 * u ≤ (19 + 1) * v → 10 * u ≤ 16 * v
      more u v h = omega arith

      turn : (u v : ℕ) → 1 * v + 1 * u ≡ 1 * u + 1 * v
      turn u v = omega arith

  -- ---- past three halves, and short of it
  thirds_off : 19 * D ≤ 16 * q → (X : ℕ) → X + 3 * v ≡ 2 * u → 0 < X → High u v
  thirds_off a X e X0 =
      let Y = 3 * u + 2 * v in
      let Y0 = some_right 3 2 v u u0 (lit< tt) (lit< tt) in
      let x = past_three_halves qf in
      let r = three_past u v v0 vt ut low top a X e X0 in
      let n = tk x false X Y r Y0 in
      let g = past 0x3F7B985E 0x33140FB4 I3 L3 v-I3 v-L3 rest_3.few r.p r.parts r.val (p-top x false X Y r Y0) r.far n rest_3.top in
      let A = g.parts in
      record {
        parts = A;
        val = subst (λ (z : Float). Val z A) (sym (by_three a ∙ ap (from_of 0x3F7B985E 0x33140FB4) r.is)) g.val;
        room = past-high A n.parts r.parts (I3 + L3) h slack D H r.top r.far n.few n-slack n-D n_pos g.hi n-high-3;
        near = past_near A n.parts r.parts (I3 + L3) h slack D H r.top r.far n.few n-slack n-D n_pos g.lo n-near-3;
        steep = thirds_off_steep u v X X0 e;
        good =
            λ y y1 y2.
            swing_off x false X Y r Y0 0x3F7B985E 0x33140FB4 I3 L3 thirds v-I3 v-L3 rest_3.few 3 2 3964345551915 v u thirds_test (lit< tt) u0
            (thirds_off_room v u X e (weak u v top)) refl e n-thirds-B y
            (off_high x false X Y r Y0 0x3F7B985E 0x33140FB4 I3 L3 thirds v-I3 v-L3 rest_3.few A y rest_3.above rest_3.below y1 y2 g.hi g.lo);
      }
    where
      weak : (u v : ℕ) → 16 * u < 39 * v → 16 * u ≤ 39 * v
      weak u v h = omega arith

  thirds_on : 19 * D ≤ 16 * q → (X : ℕ) → X + 2 * u ≡ 3 * v → 0 < X → High u v
  thirds_on a X e X0 =
      let Y = 3 * u + 2 * v in
      let Y0 = some_right 3 2 v u u0 (lit< tt) (lit< tt) in
      let x = past_three_halves qf in
      let r = three_short u v v0 vt ut low top a X e X0 in
      let n = tk x true X Y r Y0 in
      let g = short 0x3F7B985E 0x33140FB4 I3 L3 v-I3 v-L3 rest_3.few r.p r.parts r.val (p-top x true X Y r Y0) r.far n rest_3.big rest_3.fits in
      let A = g.parts in
      let m : 18 * v ≤ 16 * u = at_most u v v0 vt ut low top 18 a in
      let p3 : 16 * r.parts ≤ 3 * D = le_of_mul-le-mul_right {k = Y} (few X Y r.parts D h (share u v X e m) r.hi n-D) Y0 in
      record {
        parts = A;
        val = subst (λ (z : Float). Val z A) (sym (by_three a ∙ ap (from_of 0x3F7B985E 0x33140FB4) r.is)) g.val;
        room = short_high A n.parts r.parts (I3 + L3) h slack D H r.top r.far n.few n-slack n-D n_pos g.hi n-high-3;
        near = short_near A n.parts r.parts (I3 + L3) h slack D H r.top r.far n.few n-slack n-D n_pos p3 g.lo n-near-3';
        steep = thirds_on_steep u v v0 m;
        good =
            λ y y1 y2.
            swing_on x true X Y r Y0 0x3F7B985E 0x33140FB4 I3 L3 thirds v-I3 v-L3 rest_3.few 3 2 3964345551915 v u thirds_test (lit< tt) u0 (thirds_on_room v u X e m) refl e y
            (on_high x true X Y r Y0 0x3F7B985E 0x33140FB4 I3 L3 thirds v-I3 v-L3 rest_3.few A y rest_3.above rest_3.below y1 y2 g.hi g.lo)
            (short_end A n.parts r.parts (I3 + L3) h slack D H r.top r.far n.few n-slack n-D n_pos thirds B y p3 g.lo rest_3.below rest_3.above y1 n-thirds-on);
      }
    where
      share : (u v X : ℕ) → X + 2 * u ≡ 3 * v → 18 * v ≤ 16 * u → 20 * X ≤ 3 * (3 * u + 2 * v)
      share u v X e h = omega arith

      few : (X Y P d t : ℕ) → 20 * X ≤ 3 * Y → P * Y * 2 ≤ X * d * 2 + Y * (20 * t) → d ≡ 33554432 * t → 16 * P * Y ≤ 3 * d * Y
      few X Y P d t a b e = let f : Y * d ≡ 33554432 * (Y * t) = omega (arith, ap (λ (z : ℕ). Y * z) e) in omega (arith, mul-le-mul_right d a)

  -- ---- on the lines of a half and of three halves
  half-line : 2 * u ≡ 1 * v → Low u v
  half-line e = record {
    parts = I1;
    val = subst (λ (z : Float). Val z I1) (sym (ap of_ratio (round_same binary32 false u v 1 2 v0 (lit< tt) (same u v e)) ∙ at-half)) v-I1;
    far = unfold I1 slack in lit≤ tt;
    room = unfold I1 slack H in lit< tt;
    flat = smaller u v e;
    good =
        λ y y1 y2.
        on_line half 2 1 2458582741759 half_test (lit< tt) u v y (slack + 2 * h) v0 e (half_on_room u v 0 (swap u v e) (less u v e)) (some_right 2 1 u v v0 (lit< tt) (lit< tt))
        (unfold slack h E in lit≤ tt) (unfold slack h quarter D in lit≤ tt) (unfold half slack h B in lit≤ tt) (more y I1 half slack h y1 n-at-half) (more' y I1 half slack h y2 n-at-half');
  }
    where
      at-half : of_ratio (round binary32 false 1 2) ≡ of_bits binary32 0x3EED6338
      at-half = unfold of_ratio from_of past_half less_of even_of odd_of lt add sub mul div neg of_bits round in refl

      n-at-half : I1 ≤ half + 2 * h
      n-at-half = unfold I1 half h in lit≤ tt

      n-at-half' : half ≤ I1 + 2 * h
      n-at-half' = unfold I1 half h in lit≤ tt

      smaller : (u v : ℕ) → 2 * u ≡ 1 * v → u ≤ v
      smaller u v e = omega arith

      same : (u v : ℕ) → 2 * u ≡ 1 * v → u * 2 ≡ 1 * v
      same u v e = omega arith

      swap : (u v : ℕ) → 2 * u ≡ 1 * v → 0 + 1 * v ≡ 2 * u
      swap u v e = omega arith

      less : (u v : ℕ) → 2 * u ≡ 1 * v → 16 * u ≤ 12 * v
      less u v e = omega arith

      more : (y a b s t : ℕ) → y ≤ a + s → a ≤ b + 2 * t → y ≤ b + (s + 2 * t)
      more y a b s t f g = omega arith

      more' : (y a b s t : ℕ) → a ≤ y + s → b ≤ a + 2 * t → b ≤ y + (s + 2 * t)
      more' y a b s t f g = omega arith

  thirds_line : 2 * u ≡ 3 * v → High u v
  thirds_line e = record {
    parts = A3;
    val = subst (λ (z : Float). Val z A3) (sym (ap of_ratio (round_same binary32 false u v 3 2 v0 (lit< tt) (same u v e)) ∙ at_three)) v-A3;
    room = unfold A3 slack H in lit≤ tt;
    near = unfold A3 slack H in lit< tt;
    steep = larger u v v0 e;
    good =
        λ y y1 y2.
        on_line thirds 3 2 3964345551915 thirds_test (lit< tt) v u y (slack + 2 * h) u0 (sym e) (thirds_off_room v u 0 (swap u v e) (less u v e)) (some_right 3 2 v u u0 (lit< tt) (lit< tt))
        (unfold slack h E in lit≤ tt) (unfold slack h quarter D in lit≤ tt) (unfold thirds slack h B in lit≤ tt) (more y A3 thirds slack h H y1 n-at) (more' y A3 thirds slack h H y2 n-at');
  }
    where
      at_three : of_ratio (round binary32 false 3 2) ≡ of_bits binary32 0x3F7B985F
      at_three = unfold of_ratio from_of past_three_halves less_of even_of odd_of lt add sub mul div neg of_bits round in refl

      n-at : H ≤ thirds + A3 + 2 * h
      n-at = unfold A3 thirds h H in lit≤ tt

      n-at' : thirds + A3 ≤ H + 2 * h
      n-at' = unfold A3 thirds h H in lit≤ tt

      larger : (u v : ℕ) → 0 < v → 2 * u ≡ 3 * v → v < u
      larger u v p e = omega arith

      same : (u v : ℕ) → 2 * u ≡ 3 * v → u * 2 ≡ 3 * v
      same u v e = omega arith

      swap : (u v : ℕ) → 2 * u ≡ 3 * v → 0 + 3 * v ≡ 2 * u
      swap u v e = omega arith

      less : (u v : ℕ) → 2 * u ≡ 3 * v → 16 * u ≤ 39 * v
      less u v e = omega arith

      more : (y a b s t k : ℕ) → y + a ≤ k + s → k ≤ b + a + 2 * t → y ≤ b + (s + 2 * t)
      more y a b s t k f g = omega arith

      more' : (y a b s t k : ℕ) → k ≤ y + a + s → b + a ≤ k + 2 * t → b ≤ y + (s + 2 * t)
      more' y a b s t k f g = omega arith

  -- ---- all of it
  pub between : (u ≡ v → ⊥) → Low u v ⊎ High u v
  between n = first (dec_lt (16 * q) (11 * D))
    where
      at-half : 16 * q < 11 * D → Dec (2 * u < 1 * v) → Dec (1 * v < 2 * u) → Low u v
      at-half b (yes l) m = half_off b (1 * v - 2 * u) (omega arith) (omega arith)
      at-half b (no l) (yes m) = half_on b (2 * u - 1 * v) (omega arith) (omega arith)
      at-half b (no l) (no m) = half-line (omega arith)

      at_three : 19 * D ≤ 16 * q → Dec (2 * u < 3 * v) → Dec (3 * v < 2 * u) → High u v
      at_three b (yes l) m = thirds_on b (3 * v - 2 * u) (omega arith) (omega arith)
      at_three b (no l) (yes m) = thirds_off b (2 * u - 3 * v) (omega arith) (omega arith)
      at_three b (no l) (no m) = thirds_line (omega arith)

      at_one : 11 * D ≤ 16 * q → 16 * q < 19 * D → Dec (u < v) → Low u v ⊎ High u v
      at_one a b (yes l) = inl (eighth_off a b (1 * v - 1 * u) (omega arith) (omega arith))
      at_one a b (no l) = inr (eighth_on a b (1 * u - 1 * v) (past u v l n) (some u v l n))
        where
          past : (u v : ℕ) → (u < v → ⊥) → (u ≡ v → ⊥) → 1 * u - 1 * v + 1 * v ≡ 1 * u
          past u v l n = omega arith

          some : (u v : ℕ) → (u < v → ⊥) → (u ≡ v → ⊥) → 0 < 1 * u - 1 * v
          some u v l n = omega arith

      second : 11 * D ≤ 16 * q → Dec (16 * q < 19 * D) → Low u v ⊎ High u v
      second a (yes b) = at_one a b (dec_lt u v)
      second a (no b) = inr (at_three (omega arith) (dec_lt (2 * u) (3 * v)) (dec_lt (3 * v) (2 * u)))

      first : Dec (16 * q < 11 * D) → Low u v ⊎ High u v
      first (yes b) = inl (at-half b (dec_lt (2 * u) (1 * v)) (dec_lt (1 * v) (2 * u)))
      first (no b) = second (omega arith) (dec_lt (16 * q) (19 * D))
