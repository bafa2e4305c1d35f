-- The goal of `without_last` in src/expanding.rt.
use Rattle.std.proofs.Common.{◌≡◌, ◌-◌, length, ap, ◌∙◌}
use Rattle.tb_assembly_text.specs.Statements.{said_of}
use Rattle.tb_assembly_files.proofs.Included.{cut}
use Rattle.tb_assembly_files.proofs.expanding.without_last.Goals as goal

pub returns : goal.returns
returns c =
    let m : c.saturating_sub-count.result ≡ length c.args.statements.items - 1 = c.saturating_sub-count.ensures ∙ ap (λ xs. length xs - 1) c.as_slice.ensures.value in
    cut said_of c.args.statements.items c.truncate.new.self.items c.saturating_sub-count.result c.truncate.ensures.items m
