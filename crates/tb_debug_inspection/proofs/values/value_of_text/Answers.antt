-- The goals of `value_of_text` in src/values.rt.
use Rattle.std.proofs.Common.{map}
use Rattle.std.specs.Prelude.{Ok}
use Rattle.tb_words.specs.Words.{word_of}
use Rattle.tb_basic_syntax.specs.PlainData.{expression_of}
use Rattle.tb_debug_inspection.proofs.Refusing.{refused_text}
use Rattle.tb_debug_inspection.proofs.values.value_of_text.Goals as goal

pub returns-in-Ok : goal.returns-in-Ok
returns-in-Ok c = (Ok (expression_of c.in-Ok.expression), c.in-Ok.ensures.found, c.eval.ensures)

pub returns-in_default : goal.returns-in_default
returns-in_default c =
    refused_text (map word_of c.args.variables.now) c.args.text.now c.in-Err.error.kind c.in-Err.error.line c.in-Err.error.column
    c.in_default.not-NoMemory c.in-Err.ensures.found
