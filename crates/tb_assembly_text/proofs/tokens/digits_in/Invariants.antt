-- What holds at each turn of the loop of `digits_in` in src/tokens.rt.
use Rattle.std.proofs.Common.{◌≡◌, drop}
use Rattle.tb_assembly_text.specs.Tokens.{digits_in}
use Rattle.tb_assembly_text.proofs.tokens.digits_in.Given as goal

abbrev pub invariant-loop-byte : goal.invariant-loop-byte
invariant-loop-byte l = digits_in l.base l.value (drop l.byte-index l.digits) ≡ digits_in l.base 0 l.digits
