-- What holds at each turn of the loop of `places` in src/code.rt.
use Rattle.std.proofs.Common.{◌≡◌, ◌≤◌, ◌++◌, ◌-◌, length}
use Rattle.tb_memmap.specs.Bytes.{at}
use Rattle.tb_dap_views.specs.Code.{places}
use Rattle.tb_dap_views.proofs.code.places.Given as goal

abbrev pub invariant-loop : goal.invariant-loop
invariant-loop l =
    (l.places.items ++ places (l.most - l.counter) (at l.memory) l.end l.place ≡ places l.most (at l.memory) l.end 0)
    × (length l.places.items ≤ l.counter)
