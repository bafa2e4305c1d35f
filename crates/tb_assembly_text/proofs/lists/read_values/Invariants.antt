-- What holds at each turn of the loop of `read_values` in src/lists.rt.
use Rattle.std.proofs.Common.{◌≡◌, ◌++◌, ◌≤◌, ◌+◌, ◌-◌, map, drop, length}
use Rattle.tb_assembly_text.specs.Tokens.{token_of}
use Rattle.tb_assembly_text.specs.Expressions.{sum_of}
use Rattle.tb_assembly_text.specs.Lists.{segments, values}
use Rattle.tb_assembly_text.specs.Statements.{reading}
use Rattle.tb_assembly_text.proofs.lists.read_values.Given as goal

abbrev pub invariant-parts : goal.invariant-parts
invariant-parts l =
    (reading (λ more. map sum_of l.list.items ++ more) (values l.scope (segments l.end (drop l.start (map token_of l.tokens))))
    ≡ values l.scope (segments l.end (map token_of l.tokens)))
    × (l.start ≤ length l.tokens)

abbrev pub decreases-parts : goal.decreases-parts
decreases-parts l = length l.initial.tokens + 1 - l.start
