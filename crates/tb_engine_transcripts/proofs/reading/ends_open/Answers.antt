-- The goals of `ends_open` in src/reading.rt.
use Rattle.std.proofs.Common.{◌≡◌, ◌∙◌, true, false, sym}
use Rattle.tb_basic_text.specs.Lines.{lines_of_file}
use Rattle.tb_engine_transcripts.specs.Reading.{are_none}
use Rattle.tb_engine_transcripts.proofs.Lines.{none_left}
use Rattle.tb_engine_transcripts.proofs.reading.ends_open.Goals as goal

pub returns-then-is_empty : goal.returns-then-is_empty
returns-then-is_empty c =
    let none : are_none (lines_of_file c.args.below.now) ≡ true = none_left c.args.below.now ∙ sym c.is_empty.ensures ∙ c.if-is_empty.true in
    rw none c.eq.ensures

pub returns-else-is_empty : goal.returns-else-is_empty
returns-else-is_empty c =
    let none : are_none (lines_of_file c.args.below.now) ≡ false = none_left c.args.below.now ∙ sym c.is_empty.ensures ∙ c.if-is_empty.false in
    rw none c.if-is_empty.false
