-- The goals of `program_items` in src/program.rt.
use Rattle.std.proofs.Common.{◌++◌, map, sym, ap, ◌∙◌, subst}
use Rattle.tb_asm.specs.Layout.{entry_of}
use Rattle.tb_basic_syntax.specs.Source.{numbers}
use Rattle.tb_lower.specs.PlainData.{code_of}
use Rattle.tb_compiler_program.specs.Program.{AreInTurn, lines_code, past_code, table_code, program_code}
use Rattle.tb_compiler_program.specs.Search.{compares, find_code}
use Rattle.tb_compiler_templates.proofs.Appends.{three}
use Rattle.tb_compiler_program.proofs.Ordered.{lines_in_turn}
use Rattle.tb_compiler_program.proofs.program.program_items.Goals as goal

pub put_lines-requires-clause-in_turn : goal.put_lines-requires-clause-in_turn
put_lines-requires-clause-in_turn c =
    subst (λ ns. AreInTurn ns (code_of c.lines-2.result.now)) (sym (c.deref.ensures.value ∙ c.in_ok-numbers.ensures ∙ ap (λ k. numbers (code_of k)) c.lines.ensures))
    (subst (λ k. AreInTurn (numbers (code_of c.args.code.now)) (code_of k)) (sym c.lines-2.ensures) (lines_in_turn (code_of c.args.code.now) c.requires.rising))

pub returns : goal.returns
returns c =
    let code = code_of c.args.code.now in
    let listed = c.in_ok-numbers.ensures ∙ ap (λ k. numbers (code_of k)) c.lines.ensures in
    let lines = c.in_ok-put_lines.ensures ∙ ap (λ es. map entry_of c.put_block.new.items.items ++ es)
    (λ i. lines_code ((c.deref.ensures.value ∙ listed) i) c.args.seed (code_of (c.lines-2.ensures i))) in
    let past = c.in_ok-put_past.ensures ∙ ap (λ ns. map entry_of c.put_lines.new.items.items ++ past_code ns) (c.deref-2.ensures.value ∙ listed) in
    let find = c.in_ok-put_find.ensures ∙ (λ i. map entry_of c.put_past.new.items.items ++ find_code ((c.compares.ensures ∙ ap (λ k. compares (code_of k)) c.lines-3.ensures) i) ((c.deref-3.ensures.value ∙ listed) i)) in
    let table = c.in_ok-put_table.ensures ∙ ap (λ ns. map entry_of c.put_find.new.items.items ++ table_code ns) (c.deref-4.ensures.value ∙ listed) in
    three _ _ _ _ _ _ _ c.in_ok-put_block.ensures lines (three _ _ _ _ _ _ _ past find table)
    ∙ ap (λ o. map entry_of o ++ program_code c.args.seed code) c.in_ok-items.ensures.items
