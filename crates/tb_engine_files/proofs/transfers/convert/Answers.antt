-- The goals of `convert` in src/transfers.rt.
use Rattle.std.proofs.Common.{[], ◌∷◌, map, refl, inr}
use Rattle.tb_engine_files.specs.Deeds.{OfOne}
use Rattle.tb_engine_files.proofs.Orders.{no_fault, nothing_made}
use Rattle.tb_engine_files.proofs.transfers.convert.Goals as goal

pub returns-in-Ok-make-clause-transfers : goal.returns-in-Ok-make-clause-transfers
returns-in-Ok-make-clause-transfers g c =
    let read = c.in-Ok.ensures in
    inr (
      c.in-Ok-make.made.0,
      c.read_file.new.files,
      map (λ t. t.items) c.in-Ok-make.made.1.items,
      (c.in-Ok.text.items ∷ [], c.in-Ok-make.ensures, (read.1, c.read_file.new.files, read.0, refl)),
      c.save_made.ensures,
    )

pub returns-in-Err-make-clause-transfers : goal.returns-in-Err-make-clause-transfers
returns-in-Err-make-clause-transfers g c =
    let makes = g.M.Maker.makes c.args.maker.now in
    nothing_made g.F.FileSystem.does g.F.FileSystem.holds (OfOne makes) c.args.files.now (c.args.input.now ∷ []) (map (λ p. p.now) c.args.outputs.now)
    c.in-Err-make.failure c.of.result c.of.ensures (no_fault (makes c.in-Ok.text.items) c.in-Err-make.failure c.in-Err-make.ensures)
    c.read_file.new.files (1, c.in-Ok.ensures.0)
