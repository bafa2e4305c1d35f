-- The goals of `programs_are_made` in src/laws.rt.
use Rattle.tb_parser.proofs.Programs.{makes_program, program_of}
use Rattle.tb_parser.proofs.laws.programs_are_made.Goals as goal

pub returns : goal.returns
returns c = λ source program. (makes_program source program, program_of source program)
