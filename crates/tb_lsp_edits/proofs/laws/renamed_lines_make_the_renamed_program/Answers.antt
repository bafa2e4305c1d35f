-- The goal of `renamed_lines_make_the_renamed_program` in src/laws.rt.
use Rattle.tb_lsp_edits.proofs.Made.{renamed_made}
use Rattle.tb_lsp_edits.proofs.laws.renamed_lines_make_the_renamed_program.Goals as goal

pub returns : goal.returns
returns c = renamed_made
