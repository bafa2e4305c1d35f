-- What holds at each turn of the loop of `push_barred` in src/texts.rt.
use Rattle.std.proofs.Common.{◌≡◌, ◌++◌, true, drop}
use Rattle.tb_debug_engine.specs.Texts.{barred_from}
use Rattle.tb_debug_engine.proofs.texts.push_barred.Given as goal

abbrev pub invariant-loop-byte : goal.invariant-loop-byte
invariant-loop-byte l =
    l.text.items ++ barred_from l.begins (drop l.byte-index l.form) ≡ l.fn.text.items ++ barred_from true l.form
