-- The goals of `take_place` in src/putting.rt.
use Rattle.std.proofs.Common.{rules, ◌≡◌, true, false, [], ◌∷◌, refl, sym, subst}
use Rattle.tb_engine_files.specs.Putting.{Writes, Dresses, Renames, Taking, unfilled, undressed, is_done}
use Rattle.tb_engine_files.proofs.Stepping.{known, taken}
use Rattle.tb_engine_files.proofs.putting.take_place.Goals as goal

pub returns-in_err-write : goal.returns-in_err-write
returns-in_err-write g c =
    let n = c.args.names in
    let no : is_done c.write.result ≡ false = search rules in
    let so : is_done c.from_residual.result ≡ false = search rules in (
      Writes n.beside.now c.args.bytes.now false ∷ [],
      (c.write.new.self, known g.F.Folder.does (Writes n.beside.now c.args.bytes.now) c.args.folder.now c.write.new.self (is_done c.write.result) false no c.write.ensures, refl),
      subst (λ b. Taking n c.args.bytes.now (Writes n.beside.now c.args.bytes.now false ∷ []) b) (sym so) unfilled,
    )

pub returns-in_err-dress : goal.returns-in_err-dress
returns-in_err-dress g c =
    let n = c.args.names in
    let yes : is_done c.write.result ≡ true = search rules in
    let no : is_done c.dress.result ≡ false = search rules in
    let so : is_done c.from_residual-in_err-dress.result ≡ false = search rules in (
      Writes n.beside.now c.args.bytes.now true ∷ Dresses n.file.now n.beside.now false ∷ [],
      (
        c.write.new.self,
        known g.F.Folder.does (Writes n.beside.now c.args.bytes.now) c.args.folder.now c.write.new.self (is_done c.write.result) true yes c.write.ensures,
        (c.dress.new.self, known g.F.Folder.does (Dresses n.file.now n.beside.now) c.write.new.self c.dress.new.self (is_done c.dress.result) false no c.dress.ensures, refl),
      ),
      subst (λ b. Taking n c.args.bytes.now (Writes n.beside.now c.args.bytes.now true ∷ Dresses n.file.now n.beside.now false ∷ []) b) (sym so) undressed,
    )

pub returns : goal.returns
returns g c =
    let n = c.args.names in
    let yes : is_done c.write.result ≡ true = search rules in
    let dressed : is_done c.dress.result ≡ true = search rules in (
      Writes n.beside.now c.args.bytes.now true ∷ Dresses n.file.now n.beside.now true ∷ Renames n.beside.now n.file.now (is_done c.rename.result) ∷ [],
      (
        c.write.new.self,
        known g.F.Folder.does (Writes n.beside.now c.args.bytes.now) c.args.folder.now c.write.new.self (is_done c.write.result) true yes c.write.ensures,
        (
          c.dress.new.self,
          known g.F.Folder.does (Dresses n.file.now n.beside.now) c.write.new.self c.dress.new.self (is_done c.dress.result) true dressed c.dress.ensures,
          (c.rename.new.self, c.rename.ensures, refl),
        ),
      ),
      taken n c.args.bytes.now (is_done c.rename.result),
    )
