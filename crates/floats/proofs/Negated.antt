-- What is rounded with one sign is what is rounded with the other, negated. Assumes nothing.
use Rattle.std.proofs.Common.{◌≡◌, ℕ, zero, suc, ◌+◌, ◌*◌, ◌^◌, Bool, true, false, cond, not, ltb, sym, refl, ap, ◌∙◌}
use lib.Ieee.{inf, binary32, round, neg, odd, units}
use lib.Ieee.Fits.{round_is}
use lib.Ieee.Order.{drop, kept}

pub neg_round : (s : Bool) (a c : ℕ) → neg (round binary32 s a c) ≡ round binary32 (not s) a c
neg_round s a c = ap neg (round_is binary32 s a c) ∙ neg_units (kept 24 (a * 2 ^ 149) c) (drop 24 (a * 2 ^ 149) c) ∙ sym (round_is binary32 (not s) a c)
  where
    neg_odd : (d q k l : ℕ) → neg (odd d s q k l) ≡ odd d (not s) q k l
    neg_odd d zero k l = unfold neg odd in refl
    neg_odd d (suc q) k l = unfold neg odd in refl

    neg_units : (q k : ℕ) → neg (units binary32 s q k) ≡ units binary32 (not s) q k
    neg_units q k = unfold units in go (ltb (q * 2 ^ k) (2 ^ (149 + 128)))
      where
        go : (b : Bool) → neg (cond b (odd 25 s q k 149) (inf s)) ≡ cond b (odd 25 (not s) q k 149) (inf (not s))
        go true = neg_odd 25 q k 149
        go false = unfold neg in refl
