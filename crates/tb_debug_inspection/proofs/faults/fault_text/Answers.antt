-- The goals of `fault_text` in src/faults.rt.
use Rattle.std.proofs.Common.{rules, ◌≡◌, ◌∷◌, [], ◌++◌, ◌+◌, sym, ap, ◌∙◌}
use Rattle.std.specs.Fmt.{decimal}
use Rattle.tb_debug_inspection.specs.Faults.{number_of}
use Rattle.tb_debug_inspection.proofs.Ending.{spelled, within}
use Rattle.tb_debug_inspection.proofs.faults.fault_text.Goals as goal

pub returns-clause-text : goal.returns-clause-text
returns-clause-text c =
    let all : c.append-3.new.text.items ≡ (13 ∷ 33 ∷ (48 + number_of c.args.kind) ∷ 32 ∷ 65 ∷ 84 ∷ 32 ∷ decimal c.args.line) ++ 13 ∷ [] = search rules in
    all ∙ sym (spelled c.args.line c.args.kind)

pub returns-clause-short : goal.returns-clause-short
returns-clause-short c = within c.args.line c.args.kind (search rules)
