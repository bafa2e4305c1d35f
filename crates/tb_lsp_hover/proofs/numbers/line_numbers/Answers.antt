-- The goals of `line_numbers` in src/numbers.rt.
use Rattle.std.proofs.Common.{inl, ◌∙◌}
use Rattle.tb_basic_syntax.specs.PlainData.{lines_of}
use Rattle.tb_compiled.proofs.SmallPrograms.{are_small, cost_small}
use Rattle.tb_lsp_hover.specs.Numbers.{part_of}
use Rattle.tb_lsp_hover.proofs.numbers.line_numbers.Goals as goal

pub numbers_in-requires : goal.numbers_in-requires
numbers_in-requires g c =
    cost_small (lines_of c.in-Ok-parse_in.program) (are_small (lines_of c.in-Ok-parse_in.program) c.in-Ok-parse_in.ensures.stated) c.in-Ok-parse_in.ensures.rising

pub returns : goal.returns
returns g c =
    let program = lines_of c.in-Ok-parse_in.program in inl (
      c.in-Ok.compiled,
      program,
      c.in-Ok.ensures.found,
      c.in-Ok-parse_in.ensures.found,
      c.numbers_in.ensures ∙ (λ i. part_of c.args.number (c.starts-starts.ensures i) (c.table-table.ensures i) program),
    )
