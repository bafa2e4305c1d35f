-- The goals of `assemble_reading` in src/assembling.rt.
use Rattle.std.proofs.Common.{map, sym, ◌∙◌}
use Rattle.tb_assembly_files.specs.Libraries.{source_of}
use Rattle.tb_assembly_files.specs.Expansion.{read_of}
use Rattle.tb_assembly_output.proofs.Answering.{lines_refused}
use Rattle.tb_assembly_output.proofs.assembling.assemble_reading.Goals as goal

pub returns : goal.returns
returns c =
    lines_refused c.args.at (map source_of c.args.library.now) (read_of c.args.reading.now) c.in_ok-findings.findings.items c.refused.result
    c.refused.ensures.text c.refused.ensures.memory c.in_ok-findings.ensures (sym c.is_good.ensures ∙ c.if-is_good.false)
