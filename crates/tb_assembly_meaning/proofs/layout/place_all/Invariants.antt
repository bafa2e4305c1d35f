-- What holds at each turn of the loop of `place_all` in src/layout.rt.
use Rattle.std.proofs.Common.{◌≡◌, ◌≤◌, ◌++◌, drop, map}
use Rattle.tb_assembly_text.specs.Statements.{said_of}
use Rattle.tb_assembly_meaning.specs.Places.{laid_of, layout_of, reached_from, spots_from, start_at}
use Rattle.tb_assembly_meaning.proofs.layout.place_all.Given as goal

abbrev pub invariant-loop-statement : goal.invariant-loop-statement
invariant-loop-statement l =
    (map laid_of l.laid.items ++ spots_from (layout_of l.layout) (drop l.statement-index (map said_of l.statements))
    ≡ spots_from (start_at l.at) (map said_of l.statements))
    × (reached_from (layout_of l.layout) (drop l.statement-index (map said_of l.statements)) ≡ reached_from (start_at l.at) (map said_of l.statements))
    × (l.layout.at ≤ 65536)
