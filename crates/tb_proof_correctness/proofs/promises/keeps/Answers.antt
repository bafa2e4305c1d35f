-- The goals of `keeps` in src/promises.rt.
use Rattle.std.proofs.Common.{arith}
use Rattle.tb_basic_syntax.specs.Source.{numbers}
use Rattle.tb_machine_reaching.specs.View.{part_at}
use Rattle.tb_runtime16.specs.Routines.{limit_by}
use Rattle.tb_proof_simulation.specs.Layout.{layout_of}
use Rattle.tb_proof_correctness.proofs.Whole.GroupWhole.{keeps}
use Rattle.tb_proof_correctness.proofs.Image.Lines.{groups_laid}
use Rattle.tb_proof_correctness.proofs.Image.Served.{routines, prologue}
use Rattle.tb_proof_correctness.proofs.promises.keeps.Goals as goal

pub returns : goal.returns
returns c place bytes labels seed program code i =
    keeps place bytes i.from i.to (layout_of labels (numbers code) seed) program code i.follows i.closed i.laid.first (groups_laid labels seed (part_at place bytes) code i.laid i.polled)
    limit_by (λ k. omega arith) 192 (routines place bytes i.from i.to labels seed code i.laid) (prologue place bytes i.from i.to labels seed code i.laid)
