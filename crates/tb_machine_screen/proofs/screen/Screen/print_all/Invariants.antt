-- What holds at each turn of the loop of `Screen::print_all` in src/screen/printing.rt.
use Rattle.std.proofs.Common.{◌≡◌, drop}
use Rattle.tb_machine_screen.specs.Printing.{all_printed}
use Rattle.tb_machine_screen.proofs.screen.Screen.print_all.Given as goal

abbrev pub invariant-loop-byte : goal.invariant-loop-byte
invariant-loop-byte l = all_printed (drop l.byte-index l.bytes) l.self ≡ all_printed l.bytes l.initial.self
