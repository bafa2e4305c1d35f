-- What holds at each turn of the loop of `first_near` in src/near.rt.
use Rattle.std.proofs.Common.{◌≡◌, drop, map}
use Rattle.std.specs.List.{find}
use Rattle.tb_assembly_report.specs.Near.{is_near}
use Rattle.tb_assembly_report.proofs.near.first_near.Given as goal

abbrev pub invariant-loop-name : goal.invariant-loop-name
invariant-loop-name l =
    find (is_near l.count l.word) (map (λ n. n.now) (drop l.name-index l.names)) ≡ find (is_near l.count l.word) (map (λ n. n.now) l.names)
