-- What holds at each turn of the loop of `lengthen_all` in src/settling.rt.
use Rattle.std.proofs.Common.{◌≡◌, ◌++◌, drop, length, map, take}
use Rattle.tb_assembly_text.specs.Statements.{said_of}
use Rattle.tb_assembly_meaning.specs.Settling.{by_marks}
use Rattle.tb_assembly_meaning.proofs.settling.lengthen_all.Given as goal

abbrev pub invariant-loop-statement : goal.invariant-loop-statement
invariant-loop-statement l =
    (l.index ≡ l.statement-index)
    × (length l.marks ≡ length l.statements)
    × (map said_of (take l.index l.statements) ++ by_marks (drop l.index l.marks) (map said_of (drop l.index l.statements))
    ≡ by_marks l.marks (map said_of l.fn.statements))
