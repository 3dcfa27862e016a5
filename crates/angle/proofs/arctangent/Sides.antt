-- The answer off the axes, from the angle of the ratio: below an eighth of a turn, or above, to the right and to the left. Assumes nothing.
use Rattle.std.proofs.Common.{◌≡◌, ℕ, ◌+◌, ◌-◌, ◌*◌, ◌<◌, ◌≤◌, Bool, true, false, cond, T, ℤ, sym, refl, ap, ◌∙◌, subst, le_trans, add-zero, zero-mul, arith, lit≤}
use lib.Ieee.{Float, binary32, of_bits, round, add, sub, mul, neg, lt, div}
use lib.Ieee.Exact.{HasValue}
use Rattle.floats.specs.Degrees.{radians_of}
use Rattle.floats.specs.Size.{plus_zero, sign_of, abs_of}
use Rattle.angle.specs.Meaning.{D, H, signed, parts, sine, cosine, Along}
use Rattle.angle.specs.Arctangent.{is_halves, halves_of, of_ratio, half_turn, too_much, arctangent_of}
use Rattle.angle.proofs.Rounded.{is}
use Rattle.angle.proofs.arctangent.Placed.{part, Good, meets_1, meets_2, meets_3, meets_4}
use Rattle.angle.proofs.arctangent.Halves.{parts_are, right_is}
use Rattle.angle.proofs.arctangent.Exactly.{slanted, no_zero, sign_is, ratio_is}
use Rattle.angle.proofs.arctangent.Ops.{Val, neg_val}
use Rattle.angle.proofs.arctangent.Horner.{h}
use Rattle.angle.proofs.arctangent.Answer.{E3, t-val, T-hi, T-lo}
use Rattle.angle.proofs.arctangent.Answer as answer
use Rattle.angle.proofs.arctangent.Degrees.{slack, InEighth, t45, t90, t135, eighth_0, eighth_1, eighth_2, eighth_3}
use Rattle.angle.proofs.arctangent.Across.{E4, pp, C, C-val, C-top, C-hi, C-lo, C-pp}

n-E3 : E3 ≤ slack
unfolding E3 slack
n-E3 = lit≤ tt

n-E34 : E3 + E4 ≤ slack
unfolding slack
n-E34 = lit≤ tt

n-H : 5 * H ≤ 8 * D
unfolding H D
n-H = lit≤ tt

-- ---- the angle of the ratio u / v, and any rest near it
pub record Low (u v : ℕ) : Type 0 where
  pub parts : ℕ
  pub val : Val (of_ratio (round binary32 false u v)) parts
  pub far : slack ≤ parts
  pub room : 2 * (parts + slack) < H
  pub flat : u ≤ v
  pub good : (y : ℕ) → y ≤ parts + slack → parts ≤ y + slack → Good u v y

pub record High (u v : ℕ) : Type 0 where
  pub parts : ℕ
  pub val : Val (of_ratio (round binary32 false u v)) parts
  pub room : parts + slack ≤ H
  pub near : H + 2 * slack < 2 * parts
  pub steep : v < u
  pub good : (y : ℕ) → y + parts ≤ H + slack → H ≤ y + parts + slack → Good v u y

-- ---- the answer
pub parts_of : (x : Float) (s : Bool) (g : ℕ) → HasValue x s g D → parts x ≡ signed s g
unfolding D
parts_of x s g v = (is x s g v).parts_are

pub by : (a b t a' b' t' : ℤ) → a ≡ a' → b ≡ b' → t ≡ t' → Along a' b' (sine t') (cosine t') → Along a b (sine t) (cosine t)
by a b t a' b' t' e f g h =
    subst (λ (z : ℤ). Along z b (sine t) (cosine t)) (sym e) (subst (λ (z : ℤ). Along a' z (sine t) (cosine t)) (sym f) (subst (λ (z : ℤ). Along a' b' (sine z) (cosine z)) (sym g) h))

module _ (y x : Float) (hy : T (is_halves y)) (hx : T (is_halves x)) (u0 : 0 < halves_of y) (v0 : 0 < halves_of x) where
  abbrev u : ℕ
  u = halves_of y

  abbrev v : ℕ
  v = halves_of x

  abbrev s : Bool
  s = sign_of y

  abbrev a : Float
  a = of_ratio (round binary32 false u v)

  abbrev pub Meets : ℕ → Type 0
  Meets e = Along (parts y) (parts x) (sine (parts (radians_of (arctangent_of y x)))) (cosine (parts (radians_of (arctangent_of y x)))) × InEighth s e (arctangent_of y x)

  ratio : of_ratio (abs_of (div binary32 y x)) ≡ a
  ratio = ap of_ratio (ratio_is y x hy hx v0)

  meets : (l : Bool) (t : ℕ) → lt x plus_zero ≡ l → parts (radians_of (arctangent_of y x)) ≡ signed s t → Along (signed s (u * part)) (signed l (v * part)) (sine (signed s t)) (cosine (signed s t))
      → Along (parts y) (parts x) (sine (parts (radians_of (arctangent_of y x)))) (cosine (parts (radians_of (arctangent_of y x))))
  meets l t e p k =
      by (parts y) (parts x) (parts (radians_of (arctangent_of y x))) (signed s (u * part)) (signed l (v * part)) (signed s t) (parts_are y hy)
      (right_is x hx ∙ ap (λ (b : Bool). signed b (v * part)) e) p k

  module _ (A : ℕ) (va : Val a A) (top : 10 * A ≤ 16 * D) (far : slack ≤ A) where
    few : 5 * A ≤ 16 * D
    few = go A D top
      where
        go : (a d : ℕ) → 10 * a ≤ 16 * d → 5 * a ≤ 16 * d
        go a d h = omega arith

    -- to the right
    record Right : Type 0 where
      t : ℕ
      is : parts (radians_of (arctangent_of y x)) ≡ signed s t
      hi : t ≤ A + slack
      lo : A ≤ t + slack
      flat : A ≤ t45 → InEighth s 0 (arctangent_of y x)
      steep : t45 ≤ A → A ≤ t90 → InEighth s 1 (arctangent_of y x)

    right : lt x plus_zero ≡ false → Right
    right l =
        let dir = cond s (neg a) a in
        let vd = neg_val s a A va in
        let e : arctangent_of y x ≡ mul binary32 dir (of_bits binary32 0x42652EE1) = slanted y x a false s (no_zero y hy u0) (no_zero x hx v0) l (sign_is y hy u0) ratio in
        record {
          t = answer.T s dir A vd few;
          is = ap (λ (z : Float). parts (radians_of z)) e ∙ parts_of _ s (answer.T s dir A vd few) (t-val s dir A vd few);
          hi = more (answer.T s dir A vd few) A E3 slack (T-hi s dir A vd few) n-E3;
          lo = more A (answer.T s dir A vd few) E3 slack (T-lo s dir A vd few) n-E3;
          flat = λ k. subst (λ (z : Float). InEighth s 0 z) (sym e) (eighth_0 s dir A vd far (under A D pp top n-D-pp) k);
          steep = λ k m. subst (λ (z : Float). InEighth s 1 z) (sym e) (eighth_1 s dir A vd far (under A D pp top n-D-pp) k m);
        }
      where
        more : (a b e f : ℕ) → a ≤ b + e → e ≤ f → a ≤ b + f
        more a b e f h k = omega arith

        n-D-pp : 2 * D ≤ pp
        n-D-pp = unfold D pp in lit≤ tt

        under : (a d p : ℕ) → 10 * a ≤ 16 * d → 2 * d ≤ p → a ≤ p
        under a d p h k = omega arith

    -- to the left
    record Left : Type 0 where
      t : ℕ
      is : parts (radians_of (arctangent_of y x)) ≡ signed s t
      hi : t + A ≤ 2 * H + slack
      lo : 2 * H ≤ t + A + slack
      flat : 2 * (A + slack) < H → InEighth s 3 (arctangent_of y x)
      steep : A + slack ≤ H → H + 2 * slack < 2 * A → InEighth s 2 (arctangent_of y x)

    left : lt x plus_zero ≡ true → Left
    left l =
        let dir = cond s (sub binary32 (add binary32 a too_much) half_turn) (sub binary32 half_turn (add binary32 a too_much)) in
        let c = C a A va top in
        let vd = C-val a A va top s in
        let e : arctangent_of y x ≡ mul binary32 dir (of_bits binary32 0x42652EE1) = slanted y x a true s (no_zero y hy u0) (no_zero x hx v0) l (sign_is y hy u0) ratio in
        record {
          t = answer.T s dir c vd (C-top a A va top);
          is = ap (λ (z : Float). parts (radians_of z)) e ∙ parts_of _ s (answer.T s dir c vd (C-top a A va top)) (t-val s dir c vd (C-top a A va top));
          hi = sum_hi (answer.T s dir c vd (C-top a A va top)) c A H E3 E4 slack (T-hi s dir c vd (C-top a A va top)) (C-hi a A va top) n-E34;
          lo = sum_lo (answer.T s dir c vd (C-top a A va top)) c A H E3 E4 slack (T-lo s dir c vd (C-top a A va top)) (C-lo a A va top) n-E34;
          flat = λ k. subst (λ (z : Float). InEighth s 3 z) (sym e) (eighth_3 s dir c vd much less (last c A H E4 slack t135 (C-lo a A va top) k n-135));
          steep =
              λ k m.
              subst (λ (z : Float). InEighth s 2 z) (sym e)
              (eighth_2 s dir c vd much less (past c A H E4 slack t90 (C-lo a A va top) k n-90) (before c A H E4 slack t135 (C-hi a A va top) m n-135'));
        }
      where
        sum_hi : (t c a h e f g : ℕ) → t ≤ c + e → c + a ≤ 2 * h + f → e + f ≤ g → t + a ≤ 2 * h + g
        sum_hi t c a h e f g x y z = omega arith

        sum_lo : (t c a h e f g : ℕ) → c ≤ t + e → 2 * h ≤ c + a + f → e + f ≤ g → 2 * h ≤ t + a + g
        sum_lo t c a h e f g x y z = omega arith

        n-135 : 2 * t135 + 2 * E4 ≤ 3 * H + 2 * slack
        n-135 = unfold t135 E4 H slack in lit≤ tt

        n-135' : 3 * H + 2 * E4 ≤ 2 * t135 + 2 * slack
        n-135' = unfold t135 E4 H slack in lit≤ tt

        n-90 : t90 + E4 ≤ H + slack
        n-90 = unfold t90 E4 H slack in lit≤ tt

        last : (c a h e f t : ℕ) → 2 * h ≤ c + a + e → 2 * (a + f) < h → 2 * t + 2 * e ≤ 3 * h + 2 * f → t ≤ c
        last c a h e f t x y z = omega arith

        past : (c a h e f t : ℕ) → 2 * h ≤ c + a + e → a + f ≤ h → t + e ≤ h + f → t ≤ c
        past c a h e f t x y z = omega arith

        before : (c a h e f t : ℕ) → c + a ≤ 2 * h + e → h + 2 * f < 2 * a → 3 * h + 2 * e ≤ 2 * t + 2 * f → c ≤ t
        before c a h e f t x y z = omega arith

        n-rest : 16 * D + 10 * (E4 + slack) ≤ 20 * H
        n-rest = unfold D E4 slack H in lit≤ tt

        rest : (c a h d e f : ℕ) → 2 * h ≤ c + a + e → 10 * a ≤ 16 * d → 16 * d + 10 * (e + f) ≤ 20 * h → f ≤ c
        rest c a h d e f x y z = omega arith

        n-E4 : E4 ≤ slack
        n-E4 = unfold E4 slack in lit≤ tt

        much : slack ≤ C a A va top
        much = rest (C a A va top) A H D E4 slack (C-lo a A va top) top n-rest

        less : C a A va top ≤ pp
        less = C-pp a A va top (le_trans n-E4 far)

  -- ---- below an eighth of a turn
  pub low : Low u v → Meets (cond (lt x plus_zero) 3 0)
  low w = go (lt x plus_zero) refl
    where
      top : 10 * w.parts ≤ 16 * D
      top = small w.parts slack H D w.room n-H
        where
          small : (a e h d : ℕ) → 2 * (a + e) < h → 5 * h ≤ 8 * d → 10 * a ≤ 16 * d
          small a e h d p q = omega arith

      go : (l : Bool) → lt x plus_zero ≡ l → Meets (cond l 3 0)
      go false e =
          let r = right w.parts w.val top w.far e in (
            meets false r.t e r.is (meets_1 s u v r.t r.t (half r.t w.parts slack H r.hi w.room) (whole r.t) (w.good r.t r.hi r.lo)),
            r.flat
                (under w.parts slack H t45 w.room n-45),
          )
        where
          n-45 : H ≤ 2 * t45
          n-45 = unfold H t45 in lit≤ tt

          under : (a e h t : ℕ) → 2 * (a + e) < h → h ≤ 2 * t → a ≤ t
          under a e h t p q = omega arith

          half : (t a e h : ℕ) → t ≤ a + e → 2 * (a + e) < h → 2 * t < h
          half t a e h p q = omega arith

          whole : (t : ℕ) → t + 0 * H ≡ t
          whole t = ap (λ (z : ℕ). t + z) (zero-mul H) ∙ add-zero t
      go true e =
          let r = left w.parts w.val top w.far e in
          let f = rest r.t w.parts slack H r.hi r.lo w.far w.room in
          (meets true r.t e r.is (meets_4 s u v r.t (2 * H - r.t) f.2 f.3 (w.good (2 * H - r.t) f.0 f.1)), r.flat w.room)
        where
          rest : (t a e h : ℕ) → t + a ≤ 2 * h + e → 2 * h ≤ t + a + e → e ≤ a → 2 * (a + e) < h → (2 * h - t ≤ a + e) × (a ≤ 2 * h - t + e) × (2 * (2 * h - t) < h) × (2 * h - t + t ≡ 2 * h)
          rest t a e h p q f r = (omega arith, omega arith, omega arith, omega arith)

  -- ---- above
  pub high : High u v → Meets (cond (lt x plus_zero) 2 1)
  high w = go (lt x plus_zero) refl
    where
      top : 10 * w.parts ≤ 16 * D
      top = small w.parts slack H D w.room n-H
        where
          small : (a e h d : ℕ) → a + e ≤ h → 5 * h ≤ 8 * d → 10 * a ≤ 16 * d
          small a e h d p q = omega arith

      far : slack ≤ w.parts
      far = much w.parts slack H w.near
        where
          much : (a e h : ℕ) → h + 2 * e < 2 * a → e ≤ a
          much a e h p = omega arith

      go : (l : Bool) → lt x plus_zero ≡ l → Meets (cond l 2 1)
      go false e =
          let r = right w.parts w.val top far e in
          let f = rest r.t w.parts slack H r.hi r.lo w.room w.near in (
            meets false r.t e r.is (meets_2 s u v r.t (H - r.t) f.2 f.3 (w.good (H - r.t) f.0 f.1)),
            r.steep (over w.parts slack H t45 w.near n-45)
                (under w.parts slack H t90 w.room n-90),
          )
        where
          n-45 : 2 * t45 ≤ H + 2 * slack
          n-45 = unfold H t45 slack in lit≤ tt

          n-90 : H ≤ t90
          n-90 = unfold H t90 in lit≤ tt

          over : (a e h t : ℕ) → h + 2 * e < 2 * a → 2 * t ≤ h + 2 * e → t ≤ a
          over a e h t p q = omega arith

          under : (a e h t : ℕ) → a + e ≤ h → h ≤ t → a ≤ t
          under a e h t p q = omega arith

          rest : (t a e h : ℕ) → t ≤ a + e → a ≤ t + e → a + e ≤ h → h + 2 * e < 2 * a → (h - t + a ≤ h + e) × (h ≤ h - t + a + e) × (2 * (h - t) < h) × (h - t + t ≡ 1 * h)
          rest t a e h p q f r = (omega arith, omega arith, omega arith, omega arith)
      go true e =
          let r = left w.parts w.val top far e in
          let f = rest r.t w.parts slack H r.hi r.lo w.room w.near in
          (meets true r.t e r.is (meets_3 s u v r.t (r.t - H) f.2 f.3 (w.good (r.t - H) f.0 f.1)), r.steep w.room w.near)
        where
          rest : (t a e h : ℕ) → t + a ≤ 2 * h + e → 2 * h ≤ t + a + e → a + e ≤ h → h + 2 * e < 2 * a → (t - h + a ≤ h + e) × (h ≤ t - h + a + e) × (2 * (t - h) < h) × (t - h + 1 * h ≡ t)
          rest t a e h p q f r = (omega arith, omega arith, omega arith, omega arith)
