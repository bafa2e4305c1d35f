-- What holds at each turn of the loop of `place` in src/texts.rt.
use Rattle.std.proofs.Common.{◌≡◌, drop}
use Rattle.tb_lsp_server.specs.Texts.{place_from}
use Rattle.tb_lsp_server.proofs.texts.Texts.place.Given as goal

abbrev pub invariant-loop-i : goal.invariant-loop-i
invariant-loop-i l = place_from l.i l.uri (drop l.i l.self.all.items) ≡ place_from 0 l.uri l.self.all.items
