-- A refusal is the first fault; else the mask's ones are counted.
use mathlib.Core.Path.{◌≡◌, sym, ap, ◌∙◌}
use native.Mathlib.Omega.{arith}
use lib.ListN.{length}
use Rattle.std.specs.Prelude.{Err}
use Rattle.lbmp.specs.File.{mask_size}
use Rattle.lbmp.proofs.faults.Verdicts.{long_enough, whole_file, same_whole}
use Rattle.lbmp.proofs.header.Parts.{mask_length}
use Rattle.lbmp.proofs.Answers.{refuses, accepts}
use Rattle.lbmp.proofs.judge.Goals as goal

pub returns-in_err-verdict_of : goal.returns-in_err-verdict_of
returns-in_err-verdict_of c =
    let e : c.from_residual.result ≡ Err c.in_err-verdict_of.field-0.0 = grind arith in
    rw e (refuses _ _ _ c.verdict_of.ensures c.in_err-verdict_of.was)

pub read_header-h-requires : goal.read_header-h-requires
read_header-h-requires c = long_enough _ (sym c.verdict_of.ensures ∙ c.in_ok-verdict_of.was)

pub mask_bytes-requires : goal.mask_bytes-requires
mask_bytes-requires c =
    (c.read_header-h.ensures, same_whole c.read_header-h.ensures (whole_file _ (sym c.verdict_of.ensures ∙ c.in_ok-verdict_of.was)))

pub clear_of-clear-requires : goal.clear_of-clear-requires
clear_of-clear-requires c =
    let w = whole_file c.args.file.now (sym c.verdict_of.ensures ∙ c.in_ok-verdict_of.was) in
    let h = c.read_header-h.ensures in (
      ap mask_size h ∙ sym (mask_length _ w) ∙ sym (ap length c.mask_bytes.ensures),
      (same_whole h w).fair.few,
    )

pub returns : goal.returns
returns c =
    accepts _ _ _ _ _ c.verdict_of.ensures c.in_ok-verdict_of.was c.read_header-h.ensures c.mask_bytes.ensures c.clear_of-clear.ensures
