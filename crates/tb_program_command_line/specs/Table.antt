-- The commands by their rows.
use Rattle.std.specs.Prelude.{◌≡◌, ℕ, true, List, Option, Some, option_map, find, codes}
use Rattle.std.specs.List.{list_all}
use Rattle.std.specs.Str.{bytes_eq}
use Rattle.tb_program_command_line.specs.declared.commands.CommandRow.{CommandRow}
use Rattle.tb_program_command_line.specs.declared.commands.CommandName.{CommandName}
use Rattle.tb_program_command_line.specs.declared.commands.CommandName.TheVariants.{Build, Run, Play, Test, Asm, Assemble, Dis, Step, Debug, Profile, Page, Disk, Check, Format, Renumber, Lsp, Dap, Version}

-- what a command is called
abbrev pub name_of : CommandName → List ℕ
name_of Build = codes "build"
name_of Run = codes "run"
name_of Play = codes "play"
name_of Test = codes "test"
name_of Asm = codes "asm"
name_of Assemble = codes "assemble"
name_of Dis = codes "dis"
name_of Step = codes "step"
name_of Debug = codes "debug"
name_of Profile = codes "profile"
name_of Page = codes "page"
name_of Disk = codes "disk"
name_of Check = codes "check"
name_of Format = codes "format"
name_of Renumber = codes "renumber"
name_of Lsp = codes "lsp"
name_of Dap = codes "dap"
name_of Version = codes "version"

-- the command of the first row that has this name
abbrev pub command_of : List CommandRow → List ℕ → Option CommandName
command_of rows name = option_map (λ row. row.command) (find (λ row. bytes_eq row.name.now name) rows)

-- each command is found by its name
abbrev pub NamesEach : List CommandRow → Type 0
NamesEach rows = (command : CommandName) → command_of rows (name_of command) ≡ Some command

-- and each row has the name of its command
abbrev pub AreNamed : List CommandRow → Type 0
AreNamed rows = list_all (λ row. bytes_eq row.name.now (name_of row.command)) rows ≡ true
