-- The eighth of a turn that the rule's answer lies in, by the signs of up and right and by which of them is the larger in size. Assumes nothing.
pub use Rattle.angle.proofs.arctangent.Degrees.{InEighth, eighth_of}
pub use Rattle.angle.proofs.arctangent.Asked.{in_eighth}
