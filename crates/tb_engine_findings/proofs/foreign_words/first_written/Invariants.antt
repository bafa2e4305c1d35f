-- What holds at each turn of the loop of `first_written` in src/foreign_words.rt.
use Rattle.std.proofs.Common.{◌≡◌, drop}
use Rattle.std.specs.List.{find}
use Rattle.tb_engine_findings.specs.ForeignWords.{is_written}
use Rattle.tb_engine_findings.proofs.foreign_words.first_written.Given as goal

abbrev pub invariant-loop-word : goal.invariant-loop-word
invariant-loop-word l = find (λ f. is_written f l.letters l.whole) (drop l.word-index l.words) ≡ find (λ f. is_written f l.letters l.whole) l.words
