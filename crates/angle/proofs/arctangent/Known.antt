-- The angle that the rule works out from a known one, for a tangent p past it or short of it: within three times 2 ^ -25 of the known angle and
-- p less what `less_of` takes off. Assumes nothing.
use Rattle.std.proofs.Common.{◌≡◌, ℕ, ◌+◌, ◌-◌, ◌*◌, ◌^◌, ◌<◌, ◌≤◌, Bool, true, false, T, sym, refl, ap, subst, mul-lt-mul_of_pos_right, mul-pos, le_of_mul-le-mul_right, arith, lit≤}
use native.Mathlib.Decide.{dec_lt}
use lib.Ieee.{Float, nan, inf, fin, binary32, of_bits, up, down, round, sum, add, sub, neg}
use lib.Ieee.Fits.{down_pos}
use lib.Ieee.Exact.{HasValue}
use lib.Ieee.Scale.{round_same}
use Rattle.angle.specs.Meaning.{D}
use Rattle.angle.specs.Arctangent.{less_of, from_of}
use Rattle.angle.proofs.arctangent.Ops.{Val, D-pos, Near, rounds, Op, plus, less, sub_under}
use Rattle.angle.proofs.arctangent.Horner.{h}
use Rattle.angle.proofs.arctangent.Taken.{Taken}
use Rattle.angle.proofs.arctangent.Minus.{from-neg}

-- ---- sums of two numbers with a minus

cross : (X Y a p b q d : ℕ) → a * d ≡ X * p → b * d ≡ Y * q → (a * q + b * p) * d ≡ (X + Y) * (p * q)
cross X Y a p b q d f g = omega (arith, ap (λ (z : ℕ). z * q) f, ap (λ (z : ℕ). z * p) g)

-- -x - y
both_minus : (x y : Float) (X Y : ℕ) → HasValue x true X D → Val y Y → sub binary32 x y ≡ round binary32 true (X + Y) D
unfolding sub add neg sum
both_minus nan y X Y v w = absurd v
both_minus (inf s) y X Y v w = absurd v
both_minus (fin s m e) nan X Y v w = absurd w
both_minus (fin s m e) (inf t) X Y v w = absurd w
both_minus (fin false m e) (fin t n d) X Y v w = absurd (subst (λ (b : Bool). T b) (sym v.0) tt)
both_minus (fin true m e) (fin true n d) X Y v w = absurd (subst (λ (b : Bool). T b) w.0 tt)
both_minus (fin true m e) (fin false n d) X Y v w =
    round_same binary32 true (m * up e * down d + n * up d * down e) (down e * down d) (X + Y) D (mul-pos (down_pos e) (down_pos d)) D-pos
    (cross X Y (m * up e) (down e) (n * up d) (down d) D v.1 w.1)

-- x - -y
minus_minus : (x y : Float) (X Y : ℕ) → Val x X → HasValue y true Y D → sub binary32 x y ≡ round binary32 false (X + Y) D
unfolding sub add neg sum
minus_minus nan y X Y v w = absurd v
minus_minus (inf s) y X Y v w = absurd v
minus_minus (fin s m e) nan X Y v w = absurd w
minus_minus (fin s m e) (inf t) X Y v w = absurd w
minus_minus (fin true m e) (fin t n d) X Y v w = absurd (subst (λ (b : Bool). T b) v.0 tt)
minus_minus (fin false m e) (fin false n d) X Y v w = absurd (subst (λ (b : Bool). T b) (sym w.0) tt)
minus_minus (fin false m e) (fin true n d) X Y v w =
    round_same binary32 false (m * up e * down d + n * up d * down e) (down e * down d) (X + Y) D (mul-pos (down_pos e) (down_pos d)) D-pos
    (cross X Y (m * up e) (down e) (n * up d) (down d) D v.1 w.1)

-- r is a number with a sign, n D-ths within a half of 2 ^ b
pub record Sized (r : Float) (s : Bool) (n b : ℕ) : Type 0 where
  pub parts : ℕ
  pub val : HasValue r s parts D
  pub hi : parts * 2 ≤ n * 2 + 2 ^ b
  pub lo : n * 2 ≤ parts * 2 + 2 ^ b

pub sized : (r : Float) (s : Bool) (n b : ℕ) → b ≤ 240 → r ≡ round binary32 s n D → n < 2 ^ (24 + b) → Sized r s n b
sized r s n b top e l =
    let w : Near (round binary32 false n D) n D b = rounds n D b D-pos top (mul-lt-mul_of_pos_right l D-pos) in
    record {
      parts = w.parts;
      val = subst (λ (z : Float). HasValue z s w.parts D) (sym e) (w.either s);
      hi = le_of_mul-le-mul_right {k = D} (omega (arith, w.hi)) D-pos;
      lo = le_of_mul-le-mul_right {k = D} (omega (arith, w.lo)) D-pos;
    }

-- ---- closed numbers
pub n-half : 2 * 2 ^ 148 ≡ D
unfolding D
n-half = refl

pub n-h : 10000000 * h ≤ D
unfolding D h
n-h = lit≤ tt

pub n-two : 2 ^ 126 ≡ 4 * h
unfolding h
n-two = refl

pub n-150 : 2 ^ 150 ≡ 2 * D
unfolding D
n-150 = refl

-- ---- the known angle, hi and lo, and the tangent p
module _ (high low : ℕ) (H L : ℕ) (v_high : Val (of_bits binary32 high) H) (v_low : Val (of_bits binary32 low) L) (n-low : 10000000 * L ≤ D) (p : Float) (P : ℕ) (vp : Val p P)
    (top : 16 * P < 7 * D) (far : D ≤ 262144 * P) (tk : Taken p P) where
  abbrev l : ℕ
  l = tk.parts

  abbrev lf : Float
  lf = less_of p

  abbrev ll : Float
  ll = of_bits binary32 low

  -- ---- past it
  record Gone : Type 0 where
    parts : ℕ
    val : HasValue (sub binary32 (sub binary32 lf ll) p) true parts D
    hi : 2 * parts + 2 * l ≤ 2 * P + 2 * L + 2 * h
    lo : 2 * P + 2 * L ≤ 2 * parts + 2 * l + 2 * h

  few : (n : ℕ) → n ≤ P + L + h → n < 2 ^ 148
  few n k = go n P L h D (2 ^ 148) n-half D-pos k top n-low n-h
    where
      go : (n p o t d k : ℕ) → 2 * k ≡ d → 0 < d → n ≤ p + o + t → 16 * p < 7 * d → 10000000 * o ≤ d → 10000000 * t ≤ d → n < k
      go n p o t d k e z a b c f = omega arith

  above : L ≤ l → Gone
  unfolding h
  above k =
      let t : Op (sub binary32 lf ll) (l - L) 124 = less lf ll l L 124 (lit≤ tt) tk.val v_low k (few l (small l P L (2 ^ 124) tk.few)) in
      let T = t.parts in
      let T-P : T < P = under T l L P (2 ^ 124) D t.hi tk.few far n-h D-pos in
      let m : Sized (sub binary32 (sub binary32 lf ll) p) true (P - T) 124 =
      sized (sub binary32 (sub binary32 lf ll) p) true (P - T) 124 (lit≤ tt) (sub_under (sub binary32 lf ll) p T P t.val vp T-P) (few (P - T) (cut P T L (2 ^ 124))) in
      record { parts = m.parts; val = m.val; hi = hi' m.parts T l L P (2 ^ 124) k T-P t.lo m.hi; lo = lo' m.parts T l L P (2 ^ 124) k T-P t.hi m.lo }
    where
      small : (l p o t : ℕ) → 4 * l ≤ 3 * p → l ≤ p + o + t
      small l p o t h = omega arith

      cut : (p t o e : ℕ) → p - t ≤ p + o + e
      cut p t o e = omega arith

      under : (T l o p t d : ℕ) → T * 2 ≤ (l - o) * 2 + t → 4 * l ≤ 3 * p → d ≤ 262144 * p → 10000000 * t ≤ d → 0 < d → T < p
      under T l o p t d a b c e f = omega arith

      hi' : (m T l o p t : ℕ) → o ≤ l → T < p → (l - o) * 2 ≤ T * 2 + t → m * 2 ≤ (p - T) * 2 + t → 2 * m + 2 * l ≤ 2 * p + 2 * o + 2 * t
      hi' m T l o p t a b c d = omega arith

      lo' : (m T l o p t : ℕ) → o ≤ l → T < p → T * 2 ≤ (l - o) * 2 + t → (p - T) * 2 ≤ m * 2 + t → 2 * p + 2 * o ≤ 2 * m + 2 * l + 2 * t
      lo' m T l o p t a b c d = omega arith

  beneath : l < L → Gone
  unfolding h
  beneath k =
      let t : Sized (sub binary32 lf ll) true (L - l) 124 = sized (sub binary32 lf ll) true (L - l) 124 (lit≤ tt) (sub_under lf ll l L tk.val v_low k) (few (L - l) (cut L l P (2 ^ 124))) in
      let T = t.parts in
      let m : Sized (sub binary32 (sub binary32 lf ll) p) true (T + P) 124 =
      sized (sub binary32 (sub binary32 lf ll) p) true (T + P) 124 (lit≤ tt) (both_minus (sub binary32 lf ll) p T P t.val vp) (few (T + P) (small T l L P (2 ^ 124) t.hi)) in
      record { parts = m.parts; val = m.val; hi = hi' m.parts T l L P (2 ^ 124) k t.hi m.hi; lo = lo' m.parts T l L P (2 ^ 124) k t.lo m.lo }
    where
      cut : (o l p t : ℕ) → o - l ≤ p + o + t
      cut o l p t = omega arith

      small : (T l o p t : ℕ) → T * 2 ≤ (o - l) * 2 + t → T + p ≤ p + o + t
      small T l o p t h = omega arith

      hi' : (m T l o p t : ℕ) → l < o → T * 2 ≤ (o - l) * 2 + t → m * 2 ≤ (T + p) * 2 + t → 2 * m + 2 * l ≤ 2 * p + 2 * o + 2 * t
      hi' m T l o p t a b c = omega arith

      lo' : (m T l o p t : ℕ) → l < o → (o - l) * 2 ≤ T * 2 + t → (T + p) * 2 ≤ m * 2 + t → 2 * p + 2 * o ≤ 2 * m + 2 * l + 2 * t
      lo' m T l o p t a b c = omega arith

  gone : Gone
  gone = go (dec_lt l L)
    where
      go : Dec (l < L) → Gone
      go (yes k) = beneath k
      go (no k) = above (omega arith)

  pub record Past (a : Float) : Type 0 where
    pub parts : ℕ
    pub val : Val a parts
    pub hi : 2 * parts + 2 * l ≤ 2 * (H + L) + 2 * P + 6 * h
    pub lo : 2 * (H + L) + 2 * P ≤ 2 * parts + 2 * l + 6 * h

  pub past : H ≤ D → Past (from_of high low p)
  unfolding from_of
  past top' =
      let g = gone in
      let a : Sized (sub binary32 (of_bits binary32 high) (sub binary32 (sub binary32 lf ll) p)) false (H + g.parts) 126 =
      sized (sub binary32 (of_bits binary32 high) (sub binary32 (sub binary32 lf ll) p)) false (H + g.parts) 126 (lit≤ tt)
      (minus_minus (of_bits binary32 high) (sub binary32 (sub binary32 lf ll) p) H g.parts v_high g.val) (fits H g.parts l P L h D (2 ^ 150) n-150 top' g.hi top n-low n-h D-pos) in
      record { parts = a.parts; val = a.val; hi = hi' a.parts g.parts H L P l h (2 ^ 126) n-two a.hi g.hi; lo = lo' a.parts g.parts H L P l h (2 ^ 126) n-two a.lo g.lo }
    where
      fits : (H m l p o t d k : ℕ) → k ≡ 2 * d → H ≤ d → 2 * m + 2 * l ≤ 2 * p + 2 * o + 2 * t → 16 * p < 7 * d → 10000000 * o ≤ d → 10000000 * t ≤ d → 0 < d → H + m < k
      fits H m l p o t d k e a b c f g z = omega arith

      hi' : (a m H o p l t k : ℕ) → k ≡ 4 * t → a * 2 ≤ (H + m) * 2 + k → 2 * m + 2 * l ≤ 2 * p + 2 * o + 2 * t → 2 * a + 2 * l ≤ 2 * (H + o) + 2 * p + 6 * t
      hi' a m H o p l t k e b c = omega arith

      lo' : (a m H o p l t k : ℕ) → k ≡ 4 * t → (H + m) * 2 ≤ a * 2 + k → 2 * p + 2 * o ≤ 2 * m + 2 * l + 2 * t → 2 * (H + o) + 2 * p ≤ 2 * a + 2 * l + 6 * t
      lo' a m H o p l t k e b c = omega arith

  -- ---- short of it
  pub record Short (a : Float) : Type 0 where
    pub parts : ℕ
    pub val : Val a parts
    pub hi : 2 * parts + 2 * P ≤ 2 * (H + L) + 2 * l + 6 * h
    pub lo : 2 * (H + L) + 2 * l ≤ 2 * parts + 2 * P + 6 * h

  pub short : 7 * D + 16 * h ≤ 16 * H → H < 2 ^ 150 → Short (from_of high low (neg p))
  unfolding h
  short big top' =
      let c : Op (add binary32 lf ll) (l + L) 124 = plus lf ll l L 124 (lit≤ tt) tk.val v_low (few (l + L) (small l P L (2 ^ 124) tk.few)) in
      let C = c.parts in
      let C-P : C < P = under C l L P (2 ^ 124) D c.hi tk.few far n-low n-h D-pos in
      let m : Op (sub binary32 p (add binary32 lf ll)) (P - C) 124 = less p (add binary32 lf ll) P C 124 (lit≤ tt) vp c.val (weak C P C-P) (few P (plain P L (2 ^ 124))) in
      let a : Op (sub binary32 (of_bits binary32 high) (sub binary32 p (add binary32 lf ll))) (H - m.parts) 126 =
      less (of_bits binary32 high) (sub binary32 p (add binary32 lf ll)) H m.parts 126 (lit≤ tt) v_high m.val (within m.parts C P H D (2 ^ 124) m.hi top big) top' in
      let m-H = within m.parts C P H D (2 ^ 124) m.hi top big in
      record {
        parts = a.parts;
        val = subst (λ (z : Float). Val z a.parts) (sym (from-neg high low p P l L vp tk.val v_low C c.val C-P)) a.val;
        hi = hi' a.parts m.parts C H L P l (2 ^ 124) (2 ^ 126) n-two C-P m-H a.hi m.lo c.hi;
        lo = lo' a.parts m.parts C H L P l (2 ^ 124) (2 ^ 126) n-two C-P m-H a.lo m.hi c.lo;
      }
    where
      small : (l p o t : ℕ) → 4 * l ≤ 3 * p → l + o ≤ p + o + t
      small l p o t h = omega arith

      plain : (p o t : ℕ) → p ≤ p + o + t
      plain p o t = omega arith

      weak : (a b : ℕ) → a < b → a ≤ b
      weak a b h = omega arith

      under : (c l o p t d : ℕ) → c * 2 ≤ (l + o) * 2 + t → 4 * l ≤ 3 * p → d ≤ 262144 * p → 10000000 * o ≤ d → 10000000 * t ≤ d → 0 < d → c < p
      under c l o p t d a b e f g z = omega arith

      within : (m c p H d t : ℕ) → m * 2 ≤ (p - c) * 2 + t → 16 * p < 7 * d → 7 * d + 16 * t ≤ 16 * H → m ≤ H
      within m c p H d t a b e = omega arith

      hi' : (a m c H o p l t k : ℕ) → k ≡ 4 * t → c < p → m ≤ H → a * 2 ≤ (H - m) * 2 + k → (p - c) * 2 ≤ m * 2 + t → c * 2 ≤ (l + o) * 2 + t → 2 * a + 2 * p ≤ 2 * (H + o) + 2 * l + 6 * t
      hi' a m c H o p l t k e b f g i j = omega arith

      lo' : (a m c H o p l t k : ℕ) → k ≡ 4 * t → c < p → m ≤ H → (H - m) * 2 ≤ a * 2 + k → m * 2 ≤ (p - c) * 2 + t → (l + o) * 2 ≤ c * 2 + t → 2 * (H + o) + 2 * l ≤ 2 * a + 2 * p + 6 * t
      lo' a m c H o p l t k e b f g i j = omega arith
