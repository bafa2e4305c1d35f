-- What holds at each turn of the loop of `settle` in src/settling.rt.
use Rattle.std.proofs.Common.{List, map}
use Rattle.tb_assembly_text.specs.Statements.{Said, said_of}
use Rattle.tb_assembly_meaning.specs.Settling.{Settles}
use Rattle.tb_assembly_meaning.proofs.Rounds.{shorts}
use Rattle.tb_assembly_meaning.proofs.settling.settle.Given as goal

abbrev pub invariant-rounds : goal.invariant-rounds
invariant-rounds l = (end : List Said) → Settles l.at (map said_of l.statements) end → Settles l.at (map said_of l.fn.statements) end

abbrev pub decreases-rounds : goal.decreases-rounds
decreases-rounds l = shorts (map said_of l.statements)
