-- The known angles of the rule between the ratios 7/16 and 39/16, in D-ths, and what is needed of these numbers, computed. Assumes nothing.
use Rattle.std.proofs.Common.{ℕ, ◌+◌, ◌*◌, ◌^◌, ◌<◌, ◌≤◌, refl, lit<, lit≤}
use lib.Ieee.{binary32, of_bits}
use Rattle.angle.specs.Meaning.{D, H}
use Rattle.angle.proofs.arctangent.Ops.{Val}
use Rattle.angle.proofs.arctangent.Horner.{h}
use Rattle.angle.proofs.arctangent.Budget.{B}
use Rattle.angle.proofs.arctangent.Turned.{half, eighth, thirds}

-- ---- the known angles, in D-ths
unfoldable pub I1 : ℕ
I1 = 15557432 * 2 ^ 124

unfoldable pub L1 : ℕ
L1 = 11286377 * 2 ^ 98

unfoldable pub I2 : ℕ
I2 = 13176794 * 2 ^ 125

unfoldable pub L2 : ℕ
L2 = 10625384 * 2 ^ 101

unfoldable pub I3 : ℕ
I3 = 16488542 * 2 ^ 125

unfoldable pub L3 : ℕ
L3 = 9703348 * 2 ^ 101

unfoldable pub A3 : ℕ
A3 = 16488543 * 2 ^ 125

pub v-A3 : Val (of_bits binary32 0x3F7B985F) A3
unfolding of_bits D A3
v-A3 = (refl, refl)

pub v-I1 : Val (of_bits binary32 0x3EED6338) I1
unfolding of_bits D I1
v-I1 = (refl, refl)

pub v-L1 : Val (of_bits binary32 0x31AC3769) L1
unfolding of_bits D L1
v-L1 = (refl, refl)

pub v-I2 : Val (of_bits binary32 0x3F490FDA) I2
unfolding of_bits D I2
v-I2 = (refl, refl)

pub v-L2 : Val (of_bits binary32 0x33222168) L2
unfolding of_bits D L2
v-L2 = (refl, refl)

pub v-I3 : Val (of_bits binary32 0x3F7B985E) I3
unfolding of_bits D I3
v-I3 = (refl, refl)

pub v-L3 : Val (of_bits binary32 0x33140FB4) L3
unfolding of_bits D L3
v-L3 = (refl, refl)

-- the same, against the angles that a turn goes by
pub record Angle (I L b : ℕ) : Type 0 where
  pub few : 10000000 * L ≤ D
  pub above : I + L ≤ b + h
  pub below : b ≤ I + L + h
  pub top : I ≤ D
  pub big : 7 * D + 16 * h ≤ 16 * I
  pub fits : I < 2 ^ 150

pub angle_1 : Angle I1 L1 half
unfolding I1 L1 half D h
angle_1 = record { few = lit≤ tt; above = lit≤ tt; below = lit≤ tt; top = lit≤ tt; big = lit≤ tt; fits = lit< tt }

pub angle_2 : Angle I2 L2 eighth
unfolding I2 L2 eighth D h
angle_2 = record { few = lit≤ tt; above = lit≤ tt; below = lit≤ tt; top = lit≤ tt; big = lit≤ tt; fits = lit< tt }

pub record Rest (I L b : ℕ) : Type 0 where
  pub few : 10000000 * L ≤ D
  pub above : b + (I + L) ≤ H + h
  pub below : H ≤ b + (I + L) + h
  pub top : I ≤ D
  pub big : 7 * D + 16 * h ≤ 16 * I
  pub fits : I < 2 ^ 150

pub rest_2 : Rest I2 L2 eighth
unfolding I2 L2 eighth D H h
rest_2 = record { few = lit≤ tt; above = lit≤ tt; below = lit≤ tt; top = lit≤ tt; big = lit≤ tt; fits = lit< tt }

pub rest_3 : Rest I3 L3 thirds
unfolding I3 L3 thirds D H h
rest_3 = record { few = lit≤ tt; above = lit≤ tt; below = lit≤ tt; top = lit≤ tt; big = lit≤ tt; fits = lit< tt }

pub n-half-room : 18 * (I1 + L1) + 4 * D + 500 * h < 9 * H
unfolding I1 L1 D h H
n-half-room = lit< tt

pub n-half-far : D ≤ 4 * (I1 + L1)
unfolding I1 L1 D
n-half-far = lit≤ tt

pub n-half-low : 2 * half ≤ H + h
unfolding half H h
n-half-low = lit≤ tt

pub n-eighth-low : 2 * eighth ≤ H + h
unfolding eighth H h
n-eighth-low = lit≤ tt

pub n-eighth-far : D ≤ 4 * (I2 + L2)
unfolding I2 L2 D
n-eighth-far = lit≤ tt

pub n-half-B : half ≤ B
unfolding half B
n-half-B = lit≤ tt

pub n-half-on : 18 * half + 4 * D + 500 * h ≤ 18 * B
unfolding half B D h
n-half-on = lit≤ tt

pub n-eighth-B : eighth ≤ B
unfolding eighth B
n-eighth-B = lit≤ tt

pub n-thirds-B : thirds ≤ B
unfolding thirds B
n-thirds-B = lit≤ tt

pub n-thirds-on : 16 * thirds + 3 * D + 500 * h ≤ 16 * B
unfolding thirds B D h
n-thirds-on = lit≤ tt

pub n-high-2 : 9 * (I2 + L2) + 2 * D + 500 * h ≤ 9 * H
unfolding I2 L2 D H h
n-high-2 = lit≤ tt

pub n-high-3 : 9 * (I3 + L3) + 2 * D + 500 * h ≤ 9 * H
unfolding I3 L3 D H h
n-high-3 = lit≤ tt

pub n-near-2 : H ≤ 2 * (I2 + L2) + h
unfolding I2 L2 H h
n-near-2 = lit≤ tt

pub n-near-3 : H ≤ 2 * (I3 + L3) + h
unfolding I3 L3 H h
n-near-3 = lit≤ tt

pub n-near-3' : 8 * H + 3 * D + 500 * h < 16 * (I3 + L3)
unfolding I3 L3 H D h
n-near-3' = lit< tt

pub n_pos : 0 < h
unfolding h
n_pos = lit< tt
