-- The goals of `read_text` in src/text.rt.
use Rattle.std.proofs.Common.{◌≡◌, ◌+◌, ◌-◌, ◌<◌, ◌≤◌, [], ◌∷◌, length, map, sym, ap, subst, ◌∙◌, arith, length-drop}
use Rattle.std.specs.Prelude.{IfSome}
use Rattle.tb_asm.specs.Layout.{entry_of}
use Rattle.tb_asm.specs.Text.{split_lines}
use Rattle.tb_asm.specs.Reads.{lines_at}
use Rattle.tb_asm.proofs.ReadLines.{line_taken, text_done}
use Rattle.tb_asm.proofs.text.read_text.Goals as goal

pub returns-in_default : goal.returns-in_default
returns-in_default c =
    let rest = c.lines.rest.now in
    let split : split_lines rest ≡ c.before-in-lines.result.now ∷ [] =
    c.first_line-end.ensures.0 ∙ (λ j. sym c.before-in-lines.ensures j ∷ lines_at (c.in_default.is j) rest) in
    text_done (map entry_of c.read_line.new.items.items) (c.lines.number + 1) _
    (line_taken (map entry_of c.lines.items.items) rest c.before-in-lines.result.now [] c.lines.number _ split c.lines.invariant.0 _ c.in-Ok.ensures)

pub lines-preserved : goal.lines-preserved
lines-preserved c =
    let rest = c.lines.rest.now in
    let split : split_lines rest ≡ c.before-in-lines.result.now ∷ split_lines c.behind-rest.result.now =
    c.first_line-end.ensures.0 ∙ (λ j. sym c.before-in-lines.ensures j ∷ lines_at (c.in-Some.is j) rest)
    ∙ ap (λ t. c.before-in-lines.result.now ∷ split_lines t) (sym c.behind-rest.ensures) in
    let within = subst (λ o. IfSome o (λ n. (0 < n) × (n ≤ length rest))) c.in-Some.is c.first_line-end.ensures.2 in
    let some : 0 < c.in-Some.next = within.0 in
    let left : length c.behind-rest.result.now ≡ length rest - c.in-Some.next = ap length c.behind-rest.ensures ∙ length-drop c.in-Some.next rest in
    let fits : c.in-Some.next ≤ length rest = within.1 in
    let count : c.lines.number + length rest ≤ length c.args.text.now + 1 = c.lines.invariant.1 in
    (line_taken (map entry_of c.lines.items.items) rest c.before-in-lines.result.now (split_lines c.behind-rest.result.now) c.lines.number _ split c.lines.invariant.0 _ c.in-Ok.ensures, omega arith)
