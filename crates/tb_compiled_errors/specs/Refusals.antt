-- How the refusals of a source's parts become refusals of the source.
use Rattle.tb_basic_meaning.specs.declared.needs.LowerError.{LowerError}
use Rattle.tb_basic_meaning.specs.declared.needs.LowerError.TheVariants as deep
use Rattle.tb_parser.specs.declared.errors.SourceError.{SourceError}
use Rattle.tb_parser.specs.declared.errors.SourceErrorKind.{SourceErrorKind}
use Rattle.tb_parser.specs.declared.errors.SourceErrorKind.TheVariants as source_kind
use Rattle.tb_compiled_errors.specs.declared.refusals.CompileError.{CompileError}
use Rattle.tb_compiled_errors.specs.declared.refusals.CompileError.TheVariants.{Source, Lower, NoMemory}

-- running out of memory is one answer, wherever it happened
abbrev pub of_kind : SourceErrorKind → SourceError → CompileError
of_kind source_kind.NoMemory e = NoMemory
of_kind k e = Source e

-- the refusal of a source whose text was refused
abbrev pub of_source : SourceError → CompileError
of_source e = of_kind e.kind e

-- the refusal of a source whose lowering was refused: an expression that is too deep, or no memory
abbrev pub of_lower : LowerError → CompileError
of_lower deep.NoMemory = NoMemory
of_lower (deep.TooDeep n) = Lower (deep.TooDeep n)
