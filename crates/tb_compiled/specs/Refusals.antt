-- Why a source is refused, said of what its lines make.
use Rattle.std.specs.Prelude.{◌≡◌, ℕ, ◌+◌, ◌-◌, ◌<◌, ◌≤◌, nat_lt, if◌then◌else◌, Option, Some, None, Ok, Err}
use Rattle.tb_basic_syntax.specs.Source.{Program}
use Rattle.tb_basic_meaning.specs.Cost.{cost}
use Rattle.tb_basic_meaning.specs.Need.{too_deep}
use Rattle.tb_basic_meaning.specs.declared.needs.LowerError.TheVariants as deep
use Rattle.tb_parser.specs.Answers.{refusal_of}
use Rattle.tb_parser.specs.Files.{FileRefusal, Outcome, refused_at}
use Rattle.tb_parser.specs.Readings.{Refusal}
use Rattle.tb_compiled_errors.specs.declared.refusals.CompileError.{CompileError}
use Rattle.tb_compiled_errors.specs.declared.refusals.CompileError.TheVariants.{Source, Lower, TooLarge, NoMemory}
use Rattle.tb_memmap.specs.Regions.{CODE_START}
use Rattle.tb_compiled_kept.specs.Addresses.{LINES_AT}
use Rattle.tb_compiled.specs.Promise.{Own}
use Rattle.tb_compiled.specs.Compiled.{most_cost}
use Rattle.tb_compiled.specs.declared.settings.CompileSettings.{CompileSettings}
use Rattle.tb_compiled.specs.declared.settings.SizeLimit.{SizeLimit}
use Rattle.tb_compiled.specs.declared.settings.SizeLimit.TheVariants.{Cost, Memory}

-- the cost is within the limit; by the memory there is no limit of the cost
abbrev pub IsWithinCost : SizeLimit → Program → Type 0
IsWithinCost Cost program = cost program ≤ most_cost
IsWithinCost Memory program = Unit {0}

-- whether a program costs more than it may, and what it costs then
abbrev pub IsExcess : SizeLimit → Program → Option ℕ → Type 0
IsExcess Cost program (Some n) = (cost program ≡ n) × (most_cost < n)
IsExcess Memory program (Some n) = ⊥
IsExcess size program None = IsWithinCost size program

-- the number that is told of code that takes this many bytes from the first line's address on: where it does not end below
-- 65,536, the most that could
abbrev pub told_of : ℕ → ℕ
told_of bytes = if nat_lt bytes 62464 then bytes else 62464

-- what a program takes ends past $9FFF, and n is what is told of it
abbrev pub TakesTooMuch : Own → Program → ℕ → Type 0
TakesTooMuch own program n = (0xA000 < CODE_START + own.takes program) × (n ≡ told_of (CODE_START + own.takes program - LINES_AT))

-- a program is too large, and this number tells it: its cost, or what its code and line table take
abbrev pub IsTooLarge : Own → SizeLimit → Program → ℕ → Type 0
IsTooLarge own Cost program n = (cost program ≡ n) × (most_cost < n)
IsTooLarge own Memory program n = TakesTooMuch own program n

-- why a program is refused: its first line that needs too many slots, else its size, if that is too large
abbrev pub RefusesProgram : Own → CompileSettings → Program → CompileError → Type 0
RefusesProgram own settings program (Source e) = ⊥
RefusesProgram own settings program (Lower deep.NoMemory) = ⊥
RefusesProgram own settings program (Lower (deep.TooDeep n)) = too_deep program ≡ Some n
RefusesProgram own settings program (TooLarge n) = (too_deep program ≡ None) × IsTooLarge own settings.size program n
RefusesProgram own settings program NoMemory = ⊥

-- what an error says of a line is the file's refusal; an error that says nothing, as running out of memory, is not one
abbrev pub Tells : Option Refusal → ℕ → FileRefusal → Type 0
Tells None line r = ⊥
Tells (Some said) line r = refused_at line said ≡ r

-- why lines that make no program are refused: the first bad line, or that no line is left
abbrev pub RefusesLines : FileRefusal → CompileError → Type 0
RefusesLines r (Source e) = Tells (refusal_of e.kind e.column) e.line r
RefusesLines r (Lower e) = ⊥
RefusesLines r (TooLarge n) = ⊥
RefusesLines r NoMemory = ⊥

-- why what lines make is refused
abbrev pub Refuses : Own → CompileSettings → Outcome → CompileError → Type 0
Refuses own settings (Ok program) e = RefusesProgram own settings program e
Refuses own settings (Err r) e = RefusesLines r e
