-- The goals of `job_of` in src/words.rt: those of commands that have no seed.
use Rattle.clap.specs.Words.{found_of}
use Rattle.tb_program_command_line.proofs.words.job_of.Goals as goal

pub returns-in-Test-clause-asked : goal.returns-in-Test-clause-asked
returns-in-Test-clause-asked c = rw c.in-Test.is (c.test_job.ensures.asked c.args.clock)

pub returns-in-Asm-clause-asked : goal.returns-in-Asm-clause-asked
returns-in-Asm-clause-asked c = rw c.in-Asm.is (c.asm_job.ensures.asked c.args.clock)

pub returns-in-Assemble-clause-asked : goal.returns-in-Assemble-clause-asked
returns-in-Assemble-clause-asked c = rw c.in-Assemble.is (c.assemble_job.ensures.asked c.args.clock)

pub returns-in-Dis-clause-asked : goal.returns-in-Dis-clause-asked
returns-in-Dis-clause-asked c = rw c.in-Dis.is (c.dis_job.ensures.asked c.args.clock)

pub returns-in-Disk-clause-asked : goal.returns-in-Disk-clause-asked
returns-in-Disk-clause-asked c = rw c.in-Disk.is (c.disk_job.ensures.asked c.args.clock)

pub returns-in-Check-clause-asked : goal.returns-in-Check-clause-asked
returns-in-Check-clause-asked c = rw c.in-Check.is (c.check_job.ensures.asked c.args.clock)

pub returns-in-Format-clause-asked : goal.returns-in-Format-clause-asked
returns-in-Format-clause-asked c = rw c.in-Format.is (c.format_job.ensures.asked c.args.clock)

pub returns-in-Renumber-clause-asked : goal.returns-in-Renumber-clause-asked
returns-in-Renumber-clause-asked c = rw c.in-Renumber.is (c.renumber_job.ensures.asked c.args.clock)

pub returns-in-Version-clause-asked : goal.returns-in-Version-clause-asked
returns-in-Version-clause-asked c = rw c.in-Version.is (c.version_job.ensures.asked c.args.clock (found_of c.args.found.now))
