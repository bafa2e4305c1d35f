-- What holds at each turn of the loop of `read_data` in src/lists.rt.
use Rattle.std.proofs.Common.{◌≡◌, ◌++◌, ◌≤◌, ◌+◌, ◌-◌, map, drop, length}
use Rattle.tb_assembly_text.specs.Tokens.{token_of}
use Rattle.tb_assembly_text.specs.Lists.{segments, contents, content_of}
use Rattle.tb_assembly_text.specs.Statements.{reading}
use Rattle.tb_assembly_text.proofs.lists.read_data.Given as goal

abbrev pub invariant-parts : goal.invariant-parts
invariant-parts l =
    (reading (λ more. map content_of l.list.items ++ more) (contents l.scope l.shown (segments l.end (drop l.start (map token_of l.tokens))))
    ≡ contents l.scope l.shown (segments l.end (map token_of l.tokens)))
    × (l.start ≤ length l.tokens)

abbrev pub decreases-parts : goal.decreases-parts
decreases-parts l = length l.initial.tokens + 1 - l.start
