-- Each command is found by its name, and each row has its command's, by computing. A command that no row has is refused here,
-- and so is another name.
use Rattle.std.proofs.Common.{refl}
use Rattle.tb_program_command_line.specs.declared.commands.CommandName.TheVariants.{Build, Run, Play, Test, Asm, Assemble, Dis, Step, Debug, Profile, Page, Disk, Check, Format, Renumber, Lsp, Dap, Version}
use Rattle.tb_program_command_line.proofs.commands.rows.Goals as goal

pub returns-clause-each : goal.returns-clause-each
returns-clause-each c Build = refl
returns-clause-each c Run = refl
returns-clause-each c Play = refl
returns-clause-each c Test = refl
returns-clause-each c Asm = refl
returns-clause-each c Assemble = refl
returns-clause-each c Dis = refl
returns-clause-each c Step = refl
returns-clause-each c Debug = refl
returns-clause-each c Profile = refl
returns-clause-each c Page = refl
returns-clause-each c Disk = refl
returns-clause-each c Check = refl
returns-clause-each c Format = refl
returns-clause-each c Renumber = refl
returns-clause-each c Lsp = refl
returns-clause-each c Dap = refl
returns-clause-each c Version = refl

pub returns-clause-named : goal.returns-clause-named
returns-clause-named c = refl
