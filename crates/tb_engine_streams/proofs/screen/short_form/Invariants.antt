-- What holds at each turn of the loop of `short_form` in src/screen.rt.
use Rattle.std.proofs.Common.{◌≡◌, ◌≤◌, ◌*◌, take}
use Rattle.arrayvec.specs.ArrayVec.{array_vec_len}
use Rattle.tb_engine_streams.specs.HostForm.{shown_as}
use Rattle.tb_engine_streams.proofs.screen.short_form.Given as goal

abbrev pub invariant-loop-byte : goal.invariant-loop-byte
invariant-loop-byte l = (l.text.items ≡ shown_as l.notation (take l.byte-index l.sent)) × (array_vec_len l.text ≤ 6 * l.byte-index)
