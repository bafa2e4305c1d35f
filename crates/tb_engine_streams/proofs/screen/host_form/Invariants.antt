-- What holds at each turn of the loop of `host_form` in src/screen.rt.
use Rattle.std.proofs.Common.{◌≡◌, take}
use Rattle.tb_engine_streams.specs.HostForm.{host_form_of}
use Rattle.tb_engine_streams.proofs.screen.host_form.Given as goal

abbrev pub invariant-loop-byte : goal.invariant-loop-byte
invariant-loop-byte l = l.text.items ≡ host_form_of (take l.byte-index l.sent)
