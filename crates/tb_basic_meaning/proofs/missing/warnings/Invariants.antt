-- What holds at each turn of the loop of `warnings` in src/missing.rt.
use Rattle.std.proofs.Common.{◌≡◌, ◌++◌, map}
use Rattle.tb_words.specs.Words.{word_of}
use Rattle.tb_basic_syntax.specs.PlainData.{lines_of}
use Rattle.tb_basic_syntax.specs.Source.{numbers}
use Rattle.tb_basic_meaning.specs.Missing.{missing_in, missing_targets}
use Rattle.tb_basic_meaning.proofs.missing.warnings.Given as goal

abbrev pub invariant-loop-line : goal.invariant-loop-line
invariant-loop-line l =
    map (λ w. (w.line, word_of w.target)) l.warnings.items ++ missing_in (numbers (lines_of l.program)) (lines_of l.line-iterator) ≡ missing_targets (lines_of l.program)
