-- What holds at each turn of the loop of `write_text` in src/texts.rt.
use Rattle.std.proofs.Common.{◌≡◌, true, take}
use Rattle.std.specs.Prelude.{flat_map}
use Rattle.std.specs.List.{list_all}
use Rattle.tb_basic_signs.specs.Characters.{may_hold}
use Rattle.tb_basic_signs.specs.Texts.{written}
use Rattle.tb_basic_signs.proofs.texts.write_text.Given as goal

abbrev pub invariant-loop-byte : goal.invariant-loop-byte
invariant-loop-byte l = record {
  text : l.text.items ≡ flat_map written (take l.byte-index l.bytes);
  held : list_all may_hold (take l.byte-index l.bytes) ≡ true;
}
