-- What holds at each turn of the loop of `keys_of_text` in src/lines.rt.
use Rattle.std.proofs.Common.{◌≡◌, take}
use Rattle.std.specs.Prelude.{map}
use Rattle.std.specs.Char.{to_ascii_uppercase}
use Rattle.tb_engine_play.proofs.lines.keys_of_text.Given as goal

abbrev pub invariant-loop-byte : goal.invariant-loop-byte
invariant-loop-byte l = l.keys.items ≡ map to_ascii_uppercase (take l.byte-index l.text)
