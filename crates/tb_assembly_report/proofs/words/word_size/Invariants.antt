-- What holds at each turn of the loop of `word_size` in src/words.rt.
use Rattle.std.proofs.Common.{◌≡◌, ◌+◌, drop}
use Rattle.tb_assembly_text.specs.Tokens.{run}
use Rattle.tb_assembly_report.specs.Words.{is_word_byte}
use Rattle.tb_assembly_report.proofs.words.word_size.Given as goal

abbrev pub invariant-loop-i : goal.invariant-loop-i
invariant-loop-i l = run is_word_byte (drop l.i l.text) + l.i ≡ run is_word_byte l.text
