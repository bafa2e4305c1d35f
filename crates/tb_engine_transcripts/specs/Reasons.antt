-- Why a line is refused, in words.
use Rattle.std.specs.Prelude.{ℕ, List, ◌++◌, codes}
use Rattle.std.specs.Fmt.{decimal}
use Rattle.tb_engine_transcripts.specs.declared.reasons.BadLine.{BadLine}
use Rattle.tb_engine_transcripts.specs.declared.reasons.Reason.{Reason}
use Rattle.tb_engine_transcripts.specs.declared.reasons.Reason.TheVariants as reason
use Rattle.tb_engine_transcripts.specs.declared.reasons.TheConstants.{BELOW_OUTPUT, NO_FAULT, NO_LIMIT, NO_RUDE, NO_SEED, TWICE, UNKNOWN_OPTION}

-- the text of a reason
abbrev pub reason_text : Reason → List ℕ
reason_text reason.UnknownOption = UNKNOWN_OPTION.now
reason_text reason.Twice = TWICE.now
reason_text reason.NoSeed = NO_SEED.now
reason_text reason.NoLimit = NO_LIMIT.now
reason_text reason.NoRude = NO_RUDE.now
reason_text reason.NoFault = NO_FAULT.now
reason_text reason.BelowOutput = BELOW_OUTPUT.now

-- that with the number of the line
abbrev pub bad_line_text : BadLine → List ℕ
bad_line_text bad = codes "line " ++ decimal bad.line ++ codes ": " ++ reason_text bad.why
