-- The theorem of a compiler: what is compiled keeps its source, and marks its lines.
use Rattle.std.specs.Prelude.{ℕ, List, Ok}
use Rattle.tb_memmap.specs.Regions.{BASIC_START}
use Rattle.tb_basic_text.specs.declared.notation.Notation.{Notation}
use Rattle.tb_parser.specs.Programs.{IsProgramOf}
use Rattle.tb_basic_syntax.specs.Source.{Program}
use Rattle.tb_compiled_kept.specs.LineStarts.{MarksLines}
use Rattle.tb_compiled_kept.specs.Keeps.{Keeps}
use Rattle.tb_compiled.specs.declared.compiled.Compiled.{Compiled}
use Rattle.tb_compiled.specs.Answers.{SourceMakes}
use Rattle.tb_compiled.specs.Compiled.{loaded_of, start_of}

-- a compiled file's code, loaded at $0801, keeps a program, whatever the ROM does
abbrev pub KeepsProgram : ℕ → Program → Compiled → Type 0
KeepsProgram seed program c = Keeps BASIC_START (loaded_of c) program seed

-- when it comes to the address that start_of answers for a line, the program begins that line, in the same state
abbrev pub MarksProgram : ℕ → Program → Compiled → Type 0
MarksProgram seed program c = MarksLines BASIC_START (loaded_of c) program seed (start_of c)

-- it keeps the program that its source makes in a notation
abbrev pub KeepsSourceIn : Notation → ℕ → List ℕ → Compiled → Type 0
KeepsSourceIn notation seed source c = (program : Program) × SourceMakes notation source (Ok program) × KeepsProgram seed program c

-- it marks the lines of the program that its source makes in a notation
abbrev pub MarksLinesIn : Notation → ℕ → List ℕ → Compiled → Type 0
MarksLinesIn notation seed source c = (program : Program) × SourceMakes notation source (Ok program) × MarksProgram seed program c

-- it keeps the program of its source
abbrev pub KeepsItsSource : ℕ → List ℕ → Compiled → Type 0
KeepsItsSource seed source c = (program : Program) × IsProgramOf source program × KeepsProgram seed program c

-- it marks the lines of the program of its source
abbrev pub MarksItsLines : ℕ → List ℕ → Compiled → Type 0
MarksItsLines seed source c = (program : Program) × IsProgramOf source program × MarksProgram seed program c
