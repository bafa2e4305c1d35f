-- The goal of `assemble_job` in src/words.rt: at any seed of the clock.
use Rattle.std.proofs.Common.{rules}
use Rattle.tb_program_command_line.proofs.words.assemble_job.Goals as goal

pub returns-clause-asked : goal.returns-clause-asked
returns-clause-asked c clock = search rules
