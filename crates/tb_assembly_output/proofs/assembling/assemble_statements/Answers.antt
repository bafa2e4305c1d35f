-- The goals of `assemble_statements` in src/assembling.rt.
use Rattle.std.proofs.Common.{map, sym, ◌∙◌}
use Rattle.tb_asm.specs.Layout.{entry_of}
use Rattle.tb_assembly_files.specs.Libraries.{source_of}
use Rattle.tb_assembly_files.specs.Expansion.{read_of}
use Rattle.tb_assembly_meaning.specs.Places.{laid_of}
use Rattle.tb_assembly_output.proofs.Answering.{statements_made, statements_refused}
use Rattle.tb_assembly_output.proofs.assembling.assemble_statements.Goals as goal

pub returns-then-is_right : goal.returns-then-is_right
returns-then-is_right c =
    let m = c.in_ok-meaning.meaning in
    let is = c.in_ok-meaning.ensures in
    statements_made c.args.at (map source_of c.args.library.now) (read_of c.args.reading.now) m.base (map entry_of m.items.items) (map laid_of m.laid.items) m.faults.items
    c.requires is.faults (sym c.is_right.ensures ∙ c.if-is_right.true) c.make.result is.base is.items is.laid c.make.ensures

pub returns : goal.returns
returns c =
    let m = c.in_ok-meaning.meaning in
    statements_refused c.args.at (map source_of c.args.library.now) (read_of c.args.reading.now) c.in_ok-findings.findings.items m.faults.items c.refused.result
    c.refused.ensures.text c.refused.ensures.memory c.in_ok-findings.ensures c.requires c.in_ok-meaning.ensures.faults (sym c.is_right.ensures ∙ c.if-is_right.false)
