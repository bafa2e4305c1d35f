-- What holds at each turn of the loop of `push_more` in src/texts.rt.
use Rattle.std.proofs.Common.{◌≡◌, ◌++◌, drop, string_bytes}
use Rattle.tb_lsp_hover.specs.Texts.{more_text}
use Rattle.tb_lsp_hover.proofs.texts.push_more.Given as goal

abbrev pub invariant-loop-number : goal.invariant-loop-number
invariant-loop-number l = string_bytes l.text ++ more_text (drop l.number-index l.numbers) ≡ string_bytes l.initial.text ++ more_text l.numbers
