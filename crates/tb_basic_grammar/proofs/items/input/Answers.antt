-- The goals of `input` in src/items.rt.
use Rattle.std.proofs.Common.{sym, ◌∙◌}
use Rattle.tb_words.specs.Letters.{letter_index}
use Rattle.tb_basic_syntax.specs.PlainData.{letters_of}
use Rattle.tb_basic_grammar.proofs.ListLoops.{is_empty, is_longer, letters_last, letters_next, letters_stop, letter_pushed, no_letter, input_is, no_input}
use Rattle.tb_basic_grammar.proofs.items.input.Goals as goal
use Rattle.tb_basic_grammar.proofs.items.input.Goals.{in-Some+in_ok-push+else-is_empty+in-None, in_default}

pub returns-then-is_empty : goal.returns-then-is_empty
returns-then-is_empty c =
    let i = c.loop-letter.invariant in
    input_is c.args.text.now _ (letters_last i.0 (letters_of c.loop-letter.letters.items) c.loop-letter.rest.now (letter_index c.in-Some.letter) c.in-Some.others.now i.1 c.in-Some.ensures _ _
    (is_empty c.in-Some.others.now c.if-is_empty.ensures) (letter_pushed c.loop-letter.letters.items c.push.new.self.items c.in-Some.letter c.in_ok-push.ensures.items) i.2)

pub loop-letter-preserved : goal.loop-letter-preserved
loop-letter-preserved c =
    let i = c.loop-letter.invariant in
    letters_next i.0 (letters_of c.loop-letter.letters.items) c.loop-letter.rest.now (letter_index c.in-Some.letter) c.in-Some.others.now i.1 c.in-Some.ensures c.in-Some-behind.after.now _ _
    c.in-Some-behind.ensures (letter_pushed c.loop-letter.letters.items c.push.new.self.items c.in-Some.letter c.in_ok-push.ensures.items) i.2

pub returns : goal.returns
returns c =
    let i = c.loop-letter.invariant in
    elim c.match-split_letter.branch [
      | in-Some+in_ok-push+else-is_empty+in-None w ↦
          no_input c.args.text.now (sym i.2 ∙ letters_stop i.0 (letters_of c.loop-letter.letters.items) c.loop-letter.rest.now
          (letter_index w.in-Some.letter) w.in-Some.others.now i.1 w.in-Some.ensures
          (is_longer w.in-Some.others.now w.if-is_empty.ensures) w.in-None.ensures)
      | in_default w ↦ no_input c.args.text.now (sym i.2 ∙ no_letter i.0 (letters_of c.loop-letter.letters.items) c.loop-letter.rest.now w.in_default.ensures)
    ]
