-- The goals of `write_profile` in src/profiling.rt.
use Rattle.tb_program_files.proofs.profiling.write_profile.Goals as goal

pub returns-in-Some-clause-transfers : goal.returns-in-Some-clause-transfers
returns-in-Some-clause-transfers g c = rw c.in-Some.is c.convert.ensures.transfers

pub returns-in-None-clause-transfers : goal.returns-in-None-clause-transfers
returns-in-None-clause-transfers g c = rw c.in-None.is c.convert-in-None.ensures.transfers
