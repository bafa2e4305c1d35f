-- What holds at each turn of the loop of `names_in` in src/names.rt.
use Rattle.std.proofs.Common.{◌≡◌, take, map}
use Rattle.tb_assembly_text.specs.Statements.{said_of}
use Rattle.tb_assembly_output.specs.Names.{names_in}
use Rattle.tb_assembly_output.proofs.names.names_in.Given as goal

abbrev pub invariant-loop-statement : goal.invariant-loop-statement
invariant-loop-statement l = map (λ n. n.now) l.names.items ≡ names_in (map said_of (take l.statement-index l.statements))
