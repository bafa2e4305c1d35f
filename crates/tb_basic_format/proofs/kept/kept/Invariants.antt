-- What holds at each turn of the loop of `kept` in src/kept.rt.
use Rattle.std.proofs.Common.{◌≡◌, ◌++◌, drop}
use Rattle.tb_basic_format.specs.declared.modes.Mode.TheVariants.{Code}
use Rattle.tb_basic_format.specs.Kept.{kept_from}
use Rattle.tb_basic_format.proofs.kept.kept.Given as goal

abbrev pub invariant-loop-byte : goal.invariant-loop-byte
invariant-loop-byte l = l.bytes.items ++ kept_from l.mode (drop l.byte-index l.line) ≡ kept_from Code l.line
