-- The goals of `with_matches` in src/words.rt.
use Rattle.std.proofs.Common.{rules, ◌≡◌, Some, option_map, ap, ◌∙◌}
use Rattle.clap.specs.Words.{found_of, rows_of, subcommand_name_of, subcommand_rows_of}
use Rattle.tb_program_command_line.specs.Table.{command_of}
use Rattle.tb_program_command_line.proofs.Named.{found_name}
use Rattle.tb_program_command_line.proofs.words.with_matches.Goals as goal

pub returns-clause-asked : goal.returns-clause-asked
returns-clause-asked c =
    let command = c.in-Some-command_named.command in
    let name : subcommand_name_of c.args.matches.now ≡ Some c.in-Some.name.now = search rules in
    let is : command_of c.rows.result.now c.in-Some.name.now ≡ Some command = search rules in
    let rows : option_map (λ p. p.1) (subcommand_rows_of c.args.matches.now) ≡ Some (rows_of (found_of c.in-Some.found.now)) = search rules in (
      command,
      found_of c.in-Some.found.now,
      name ∙ ap (λ n. Some n) (found_name c.rows.result.now c.in-Some.name.now command c.rows.ensures.named is),
      rows,
      c.in_ok-job_of.ensures.asked,
      search rules,
    )
