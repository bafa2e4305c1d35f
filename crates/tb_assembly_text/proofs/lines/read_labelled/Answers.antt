-- The goals of `read_labelled` in src/lines.rt.
use Rattle.std.proofs.Common.{map, sym, subst, ap, ◌∙◌}
use Rattle.tb_assembly_text.specs.Tokens.{token_of}
use Rattle.tb_assembly_text.specs.Statements.{said_of}
use Rattle.tb_assembly_text.specs.Lines.{name_of, rest_of_line, Pushes}
use Rattle.tb_assembly_text.proofs.Labels.{pushes_labelled}
use Rattle.tb_assembly_text.proofs.lines.read_labelled.Goals as goal

pub returns-clause-pushes : goal.returns-clause-pushes
returns-clause-pushes c =
    let end = c.args.end in
    let word = c.args.word in
    let tokens = map token_of c.args.tokens.now in
    let mid = map said_of c.push.new.statements.items in
    let new = map said_of c.read_rest.new.statements.items in
    pushes_labelled c.args.scope.now.items end word.column word.letters.now tokens c.in_ok-name.name.letters.items (map said_of c.args.statements.now.items) mid new c.read_rest.result
    (ap (λ s. name_of s word.column word.letters.now) (sym c.deref.ensures.value) ∙ c.in_ok-name.ensures) c.in_ok-push.ensures.added
    (subst (λ s. Pushes (rest_of_line s end tokens) mid c.read_rest.result new) (c.deref-2.ensures.value ∙ c.in_ok-enter_scope.ensures.scope) c.read_rest.ensures)
