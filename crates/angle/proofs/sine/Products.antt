-- Products of numbers that are near to fractions, all in E-ths, with an error that grows by the rounding of each. Assumes nothing.
use Rattle.std.proofs.Common.{◌≡◌, ℕ, ◌+◌, ◌*◌, ◌<◌, ◌≤◌, ap, mul-le-mul_right, mul_assoc, mul_comm, add-mul, mul-le-mul_left, mul-pos, mul-add, le_of_mul-le-mul_right, mul_left_comm, arith}
use Rattle.angle.proofs.sine.Doubles.{Near}

-- products multiplied out, and their factors sorted: then two equal monomials are one atom to `omega`, of any degree
pub ruleset ring = (mul-add, add-mul, mul_assoc, mul_comm, mul_left_comm)

-- E stands for 1, and τ for one rounding
module _ (E τ : ℕ) (EP : 0 < E) where
  -- p is w * v, where w is near T / W and v near Y / Q; and T' / W is their product
  module _ (W Q w v p T Y T' ε δ : ℕ) (QP : 0 < Q) (wE : w ≤ E) (YQ : Y ≤ Q) (hw : Near (w * W) (T * E) (ε * τ * W)) (hv : Near (v * Q) (Y * E) (δ * τ * Q)) (TW : T ≤ W)
      (hp : Near (p * E) (w * v) (τ * E))
      (e : T' * Q ≡ Y * T) where
    up : p * E * (W * Q) ≤ (w * v + τ * E) * (W * Q) → v * Q * (w * W) ≤ (Y * E + δ * τ * Q) * (w * W) → w * W * (Y * E) ≤ (T * E + ε * τ * W) * (Y * E) → w * (δ * τ * Q * W) ≤ E * (δ * τ * Q * W)
        → Y * (ε * τ * W * E) ≤ Q * (ε * τ * W * E) → T' * Q * (E * E) ≡ Y * T * (E * E) → p * W * (Q * E) ≤ (T' * E + (1 + ε + δ) * τ * W) * (Q * E)
    up f1 f2 f3 f4 f5 f6 = simp ring (omega (arith, simp ring at f1, simp ring at f2, simp ring at f3, simp ring at f4, simp ring at f5, simp ring at f6))

    down : w * v * (W * Q) ≤ (p * E + τ * E) * (W * Q) → Y * E * (w * W) ≤ (v * Q + δ * τ * Q) * (w * W) → T * E * (Y * E) ≤ (w * W + ε * τ * W) * (Y * E) → w * (δ * τ * Q * W) ≤ E * (δ * τ * Q * W)
        → Y * (ε * τ * W * E) ≤ Q * (ε * τ * W * E) → T' * Q * (E * E) ≡ Y * T * (E * E) → T' * E * (Q * E) ≤ (p * W + (1 + ε + δ) * τ * W) * (Q * E)
    down f1 f2 f3 f4 f5 f6 = simp ring (omega (arith, simp ring at f1, simp ring at f2, simp ring at f3, simp ring at f4, simp ring at f5, simp ring at f6))

    pub product : Near (p * W) (T' * E) ((1 + ε + δ) * τ * W)
    product = record {
      hi =
          le_of_mul-le-mul_right {k = Q * E}
          (up (mul-le-mul_right (W * Q) hp.hi) (mul-le-mul_right (w * W) hv.hi) (mul-le-mul_right (Y * E) hw.hi) (mul-le-mul_right (δ * τ * Q * W) wE)
          (mul-le-mul_right (ε * τ * W * E) YQ) (ap (λ (x : ℕ). x * (E * E)) e))
          (mul-pos QP EP);
      lo =
          le_of_mul-le-mul_right {k = Q * E}
          (down (mul-le-mul_right (W * Q) hp.lo) (mul-le-mul_right (w * W) hv.lo) (mul-le-mul_right (Y * E) hw.lo) (mul-le-mul_right (δ * τ * Q * W) wE)
          (mul-le-mul_right (ε * τ * W * E) YQ) (ap (λ (x : ℕ). x * (E * E)) e))
          (mul-pos QP EP);
    }

  -- p is w * g, where g is known exactly
  module _ (W w g p T ε : ℕ) (gE : g ≤ E) (hw : Near (w * W) (T * E) (ε * τ * W)) (hp : Near (p * E) (w * g) (τ * E)) where
    up' : p * E * W ≤ (w * g + τ * E) * W → w * W * g ≤ (T * E + ε * τ * W) * g → g * (ε * τ * W) ≤ E * (ε * τ * W) → p * W * E ≤ (T * g + (1 + ε) * τ * W) * E
    up' f1 f2 f3 = simp ring (omega (arith, simp ring at f1, simp ring at f2, simp ring at f3))

    down' : w * g * W ≤ (p * E + τ * E) * W → T * E * g ≤ (w * W + ε * τ * W) * g → g * (ε * τ * W) ≤ E * (ε * τ * W) → T * g * E ≤ (p * W + (1 + ε) * τ * W) * E
    down' f1 f2 f3 = simp ring (omega (arith, simp ring at f1, simp ring at f2, simp ring at f3))

    pub scaled : Near (p * W) (T * g) ((1 + ε) * τ * W)
    scaled = record {
      hi = le_of_mul-le-mul_right {k = E} (up' (mul-le-mul_right W hp.hi) (mul-le-mul_right g hw.hi) (mul-le-mul_right (ε * τ * W) gE)) EP;
      lo = le_of_mul-le-mul_right {k = E} (down' (mul-le-mul_right W hp.lo) (mul-le-mul_right g hw.lo) (mul-le-mul_right (ε * τ * W) gE)) EP;
    }

  -- p is w * v, where w is near T / W and v is near g - g' * Y / Q
  module _ (W Q w v p T Y T' g g' ε δ : ℕ) (QP : 0 < Q) (vE : v ≤ E) (TW : T ≤ W) (hw : Near (w * W) (T * E) (ε * τ * W)) (hv : Near (v * Q + Y * g') (g * Q) (δ * τ * Q))
      (hp : Near (p * E) (w * v) (τ * E)) (e : T' * Q ≡ Y * T) where
    up'' : p * E * (W * Q) ≤ (w * v + τ * E) * (W * Q) → w * W * (v * Q) ≤ (T * E + ε * τ * W) * (v * Q) → (v * Q + Y * g') * (T * E) ≤ (g * Q + δ * τ * Q) * (T * E)
        → v * (ε * τ * W * Q) ≤ E * (ε * τ * W * Q)
        → T * (δ * τ * Q * E) ≤ W * (δ * τ * Q * E) → T' * Q * (g' * E) ≡ Y * T * (g' * E) → (p * W + T' * g') * (Q * E) ≤ (T * g + (1 + ε + δ) * τ * W) * (Q * E)
    up'' f1 f2 f3 f4 f5 f6 = simp ring (omega (arith, simp ring at f1, simp ring at f2, simp ring at f3, simp ring at f4, simp ring at f5, simp ring at f6))

    down'' : w * v * (W * Q) ≤ (p * E + τ * E) * (W * Q) → T * E * (v * Q) ≤ (w * W + ε * τ * W) * (v * Q) → g * Q * (T * E) ≤ (v * Q + Y * g' + δ * τ * Q) * (T * E)
        → v * (ε * τ * W * Q) ≤ E * (ε * τ * W * Q)
        → T * (δ * τ * Q * E) ≤ W * (δ * τ * Q * E) → T' * Q * (g' * E) ≡ Y * T * (g' * E) → T * g * (Q * E) ≤ (p * W + T' * g' + (1 + ε + δ) * τ * W) * (Q * E)
    down'' f1 f2 f3 f4 f5 f6 = simp ring (omega (arith, simp ring at f1, simp ring at f2, simp ring at f3, simp ring at f4, simp ring at f5, simp ring at f6))

    pub tail : Near (p * W + T' * g') (T * g) ((1 + ε + δ) * τ * W)
    tail = record {
      hi =
          le_of_mul-le-mul_right {k = Q * E}
          (up'' (mul-le-mul_right (W * Q) hp.hi) (mul-le-mul_right (v * Q) hw.hi) (mul-le-mul_right (T * E) hv.hi) (mul-le-mul_right (ε * τ * W * Q) vE)
          (mul-le-mul_right (δ * τ * Q * E) TW) (ap (λ (x : ℕ). x * (g' * E)) e))
          (mul-pos QP EP);
      lo =
          le_of_mul-le-mul_right {k = Q * E}
          (down'' (mul-le-mul_right (W * Q) hp.lo) (mul-le-mul_right (v * Q) hw.lo) (mul-le-mul_right (T * E) hv.lo) (mul-le-mul_right (ε * τ * W * Q) vE)
          (mul-le-mul_right (δ * τ * Q * E) TW) (ap (λ (x : ℕ). x * (g' * E)) e))
          (mul-pos QP EP);
    }

  -- a product of which one factor is at most 1
  pub at_most : (w g p : ℕ) → w ≤ E → Near (p * E) (w * g) (τ * E) → p ≤ g + τ
  at_most w g p h n = le_of_mul-le-mul_right {k = E} (go n.hi (mul-le-mul_right g h)) EP
    where
      go : p * E ≤ w * g + τ * E → w * g ≤ E * g → p * E ≤ (g + τ) * E
      go a b = omega arith

  pub at_most' : (w g p : ℕ) → g ≤ E → Near (p * E) (w * g) (τ * E) → p ≤ w + τ
  at_most' w g p h n = le_of_mul-le-mul_right {k = E} (go n.hi (mul-le-mul_left w h)) EP
    where
      go : p * E ≤ w * g + τ * E → w * g ≤ w * E → p * E ≤ (w + τ) * E
      go a b = omega arith
