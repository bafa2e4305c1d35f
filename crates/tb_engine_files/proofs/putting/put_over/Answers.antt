-- The goals of `put_over` in src/putting.rt.
use Rattle.std.proofs.Common.{rules, ◌≡◌, true, false, [], ◌∷◌, refl}
use Rattle.tb_engine_files.specs.Putting.{Creates, Copies, Removes, unkept, uncopied, kept, is_done, end_of}
use Rattle.tb_engine_files.proofs.Stepping.{known}
use Rattle.tb_engine_files.proofs.putting.put_over.Goals as goal

pub returns-in-Err : goal.returns-in-Err
returns-in-Err g c =
    let n = c.args.names in
    let no : is_done c.create.result ≡ false = search rules in (
      Creates n.kept.now false ∷ [],
      (c.create.new.self, known g.F.Folder.does (Creates n.kept.now) c.args.folder.now c.create.new.self (is_done c.create.result) false no c.create.ensures, refl),
      unkept,
    )

pub returns-in-Err-copy : goal.returns-in-Err-copy
returns-in-Err-copy g c =
    let n = c.args.names in
    let yes : is_done c.create.result ≡ true = search rules in
    let no : is_done c.copy.result ≡ false = search rules in (
      Creates n.kept.now true ∷ Copies n.file.now n.kept.now false ∷ Removes n.kept.now (is_done c.remove.result) ∷ [],
      (
        c.create.new.self,
        known g.F.Folder.does (Creates n.kept.now) c.args.folder.now c.create.new.self (is_done c.create.result) true yes c.create.ensures,
        (
          c.copy.new.self,
          known g.F.Folder.does (Copies n.file.now n.kept.now) c.create.new.self c.copy.new.self (is_done c.copy.result) false no c.copy.ensures,
          (c.remove.new.self, c.remove.ensures, refl),
        ),
      ),
      uncopied (is_done c.remove.result),
    )

pub returns : goal.returns
returns g c =
    let n = c.args.names in
    let yes : is_done c.create.result ≡ true = search rules in
    let copied : is_done c.copy.result ≡ true = search rules in
    let over = c.write_over.ensures in (
      Creates n.kept.now true ∷ Copies n.file.now n.kept.now true ∷ over.0,
      (
        c.create.new.self,
        known g.F.Folder.does (Creates n.kept.now) c.args.folder.now c.create.new.self (is_done c.create.result) true yes c.create.ensures,
        (
          c.copy.new.self,
          known g.F.Folder.does (Copies n.file.now n.kept.now) c.create.new.self c.copy.new.self (is_done c.copy.result) true copied c.copy.ensures,
          over.1,
        ),
      ),
      kept over.0 (end_of c.write_over.result) over.2,
    )
