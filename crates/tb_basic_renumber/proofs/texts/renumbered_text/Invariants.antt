-- What holds at each turn of the loop of `renumbered_text` in src/texts.rt.
use Rattle.std.proofs.Common.{◌≡◌, drop, false, map}
use Rattle.tb_basic_syntax.specs.PlainData.{lines_of}
use Rattle.tb_basic_syntax.specs.Source.{numbers}
use Rattle.tb_basic_text.specs.Lines.{lines_from}
use Rattle.tb_basic_renumber.specs.Renumbered.{new_number}
use Rattle.tb_basic_names.specs.Sources.{edits_of}
use Rattle.tb_basic_renumber.specs.Ends.{ends_from}
use Rattle.tb_basic_renumber.specs.Texts.{first_long, first_long_from, new_text, text_from}
use Rattle.tb_basic_renumber.proofs.texts.renumbered_text.Given as goal

abbrev pub invariant-loop-i : goal.invariant-loop-i
invariant-loop-i l =
    let f = new_number l.fn.numbering.first l.fn.numbering.step (numbers (lines_of l.program)) in
    let all = edits_of l.source.lines.items in
    let left = drop l.i l.source.lines.items in record {
      lines : map (λ x. x.text.now) left ≡ lines_from false l.rest;
      text : text_from f all l.i l.new.items left (ends_from false l.rest) ≡ new_text f l.source.lines.items l.text;
      long : first_long_from f all l.i left ≡ first_long f l.source.lines.items;
    }
