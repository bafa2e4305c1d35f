-- What holds at each turn of the loop of `typed_keys` in src/typing.rt.
use Rattle.std.proofs.Common.{◌≡◌, ◌++◌, length}
use Rattle.tb_program_jobs.specs.Typing.{keys_typed}
use Rattle.tb_program_jobs.proofs.typing.typed_keys.Given as goal

abbrev pub invariant-loop-key : goal.invariant-loop-key
invariant-loop-key l = l.keys.items ++ keys_typed l.rest ≡ keys_typed l.text

abbrev pub decreases-loop-key : goal.decreases-loop-key
decreases-loop-key l = length l.rest
