-- The goals of `write_over` in src/putting.rt.
use Rattle.std.proofs.Common.{rules, ◌≡◌, true, false, [], ◌∷◌, refl}
use Rattle.tb_engine_files.specs.Putting.{Writes, Copies, Removes, written, put_back, unput, is_done}
use Rattle.tb_engine_files.proofs.Stepping.{known}
use Rattle.tb_engine_files.proofs.putting.write_over.Goals as goal

pub returns-then-is_err : goal.returns-then-is_err
returns-then-is_err g c =
    let n = c.args.names in
    let no : is_done c.write.result ≡ false = search rules in
    let none : is_done c.copy.result ≡ false = search rules in (
      Writes n.file.now c.args.bytes.now false ∷ Copies n.kept.now n.file.now false ∷ [],
      (
        c.write.new.self,
        known g.F.Folder.does (Writes n.file.now c.args.bytes.now) c.args.folder.now c.write.new.self (is_done c.write.result) false no c.write.ensures,
        (c.copy.new.self, known g.F.Folder.does (Copies n.kept.now n.file.now) c.write.new.self c.copy.new.self (is_done c.copy.result) false none c.copy.ensures, refl),
      ),
      unput,
    )

pub returns-in-Err : goal.returns-in-Err
returns-in-Err g c =
    let n = c.args.names in
    let no : is_done c.write.result ≡ false = search rules in
    let back : is_done c.copy.result ≡ true = search rules in (
      Writes n.file.now c.args.bytes.now false ∷ Copies n.kept.now n.file.now true ∷ Removes n.kept.now (is_done c.remove.result) ∷ [],
      (
        c.write.new.self,
        known g.F.Folder.does (Writes n.file.now c.args.bytes.now) c.args.folder.now c.write.new.self (is_done c.write.result) false no c.write.ensures,
        (
          c.copy.new.self,
          known g.F.Folder.does (Copies n.kept.now n.file.now) c.write.new.self c.copy.new.self (is_done c.copy.result) true back c.copy.ensures,
          (c.remove.new.self, c.remove.ensures, refl),
        ),
      ),
      put_back (is_done c.remove.result),
    )

pub returns : goal.returns
returns g c =
    let n = c.args.names in
    let yes : is_done c.write.result ≡ true = search rules in (
      Writes n.file.now c.args.bytes.now true ∷ Removes n.kept.now (is_done c.remove-2.result) ∷ [],
      (
        c.write.new.self,
        known g.F.Folder.does (Writes n.file.now c.args.bytes.now) c.args.folder.now c.write.new.self (is_done c.write.result) true yes c.write.ensures,
        (c.remove-2.new.self, c.remove-2.ensures, refl),
      ),
      written (is_done c.remove-2.result),
    )
