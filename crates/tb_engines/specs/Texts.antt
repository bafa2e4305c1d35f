-- Texts of refusals and ends that more than one command shows.
use Rattle.std.specs.Prelude.{ℕ, ◌-◌, ◌^◌, false, true, List, [], ◌++◌, codes}
use Rattle.std.specs.Fmt.{decimal, digits, format_spec, padded_integral}
use Rattle.tb_cpu.specs.declared.wrong.Wrong.{Wrong}
use Rattle.tb_cpu.specs.declared.wrong.Wrong.TheVariants as wrong
use Rattle.tb_engines.specs.declared.outcome.End.{End}
use Rattle.tb_engines.specs.declared.outcome.End.TheVariants as end
use Rattle.tb_parser.specs.declared.errors.SourceErrorKind.{SourceErrorKind}
use Rattle.tb_parser.specs.declared.errors.SourceErrorKind.TheVariants.{LineTooLong, BadByte, Unnumbered, BadLineNumber, NotCompiled, Syntax, NumberTooLarge, Empty, NoMemory}
use Rattle.tb_engine_streams.specs.declared.outcome.TheConstants.{OUT_OF_MEMORY}
use Rattle.tb_engines.specs.declared.texts.TheConstants.{BAD_BYTE, BAD_DECIMAL, BAD_LINE_NUMBER, EMPTY, LINE_TOO_LONG, NOT_COMPILED}
use Rattle.tb_engines.specs.declared.texts.TheConstants.{NUMBER_TOO_LARGE, STEP_LIMIT, TOO_DEEP, UNKNOWN_OPCODE, UNNUMBERED, WAITS_FOR_KEY}

-- what is wrong with a line of a source, or that no line is left
abbrev pub source_text : SourceErrorKind → List ℕ
source_text LineTooLong = LINE_TOO_LONG.now
source_text BadByte = BAD_BYTE.now
source_text Unnumbered = UNNUMBERED.now
source_text BadLineNumber = BAD_LINE_NUMBER.now
source_text NotCompiled = NOT_COMPILED.now
source_text Syntax = codes "syntax"
source_text NumberTooLarge = NUMBER_TOO_LARGE.now
source_text Empty = EMPTY.now
source_text NoMemory = OUT_OF_MEMORY.now

-- a line whose expression is too deep
abbrev pub too_deep_text : List ℕ
too_deep_text = TOO_DEEP.now

-- a program that has this cost
abbrev pub too_large_text : ℕ → List ℕ
too_large_text cost = codes "program too large (" ++ (decimal cost ++ codes " bytes)")

-- the four hexadecimal digits of an address, as `{:04X}` writes them
abbrev pub address_text : ℕ → List ℕ
address_text address = padded_integral (format_spec 32 0 4 4 (2 ^ 64 - 1)) false [] (digits 16 true address)

-- why an instruction was refused
abbrev pub wrong_text : Wrong → List ℕ
wrong_text wrong.UnknownOpcode = UNKNOWN_OPCODE.now
wrong_text wrong.BadDecimal = BAD_DECIMAL.now
wrong_text (wrong.Closed address) = codes "closed address " ++ address_text address
wrong_text wrong.Brk = codes "brk"

-- how a run ended; nothing if it ended well
abbrev pub end_text : End → List ℕ
end_text end.Done = []
end_text end.StepLimit = STEP_LIMIT.now
end_text end.WaitsForKey = WAITS_FOR_KEY.now
end_text (end.WentWrong wrong pc) = codes "wrong: " ++ (wrong_text wrong ++ (codes " at " ++ address_text pc))
