-- The goals of `push_code` in src/readings.rt.
use Rattle.std.proofs.Common.{◌≡◌, ◌+◌, ◌-◌, ◌%◌, suc, ◌++◌, ◌∷◌, [], ap, ◌∙◌, arith}
use Rattle.std.specs.Prelude.{map}
use Rattle.std.proofs.lemmas.List.{map-append}
use Rattle.tb_memmap.specs.Bytes.{at}
use Rattle.tb_disasm.specs.Lines.{shown}
use Rattle.tb_debug.specs.Readings.{code_of}
use Rattle.tb_debug.proofs.CodeLines.{code_ends, code_goes_on, no_code}
use Rattle.tb_debug.proofs.readings.+push_code.Goals as goal

pub returns-then-count-eq0 : goal.returns-then-count-eq0
returns-then-count-eq0 t c = no_code c.args.count (at c.args.memory.now) c.args.address (map shown c.args.lines.now.items) c.if-count-eq0.true

pub returns-in_default : goal.returns-in_default
returns-in_default t c =
    code_ends c.args.count (at c.args.memory.now) c.args.address (map shown c.args.lines.now.items) c.if-count-eq0.false c.in_default.ensures

pub returns : goal.returns
returns t c =
    let before = map shown c.args.lines.now.items in
    let line = shown c.in-Some.line in
    let m = at c.args.memory.now in
    let next = (c.args.address + c.in-Some.size) % 65536 in
    let pushed : map shown c.push.new.self.items ≡ before ++ line ∷ [] = ap (map shown) c.in_ok-push.ensures.items ∙ map-append shown c.args.lines.now.items (c.in-Some.line ∷ []) in
    let one_more : suc (c.args.count - 1) ≡ c.args.count = omega (arith, c.if-count-eq0.false) in
    code_goes_on (c.args.count - 1) c.args.count m c.args.address c.in-Some.size before (map shown c.push_code.new.lines.items) line
    one_more c.in-Some.ensures.0 c.in-Some.ensures.1
    (c.in_ok-push_code.ensures ∙ ap (λ x. x ++ code_of (c.args.count - 1) m next) pushed)
