-- The goals of `put_beside` in src/putting.rt.
use Rattle.std.proofs.Common.{rules, ◌≡◌, true, false, [], ◌∷◌, ◌++◌, refl, sym, subst}
use Rattle.tb_engine_files.specs.Putting.{Creates, Removes, Making, unmade, undone, made, Taking, is_done}
use Rattle.tb_engine_files.proofs.Stepping.{known, ran_more}
use Rattle.tb_engine_files.proofs.putting.put_beside.Goals as goal

pub returns-in_err-create : goal.returns-in_err-create
returns-in_err-create g c =
    let n = c.args.names in
    let no : is_done c.create.result ≡ false = search rules in
    let so : is_done c.from_residual.result ≡ false = search rules in (
      Creates n.beside.now false ∷ [],
      (c.create.new.self, known g.F.Folder.does (Creates n.beside.now) c.args.folder.now c.create.new.self (is_done c.create.result) false no c.create.ensures, refl),
      subst (λ b. Making n c.args.bytes.now (Creates n.beside.now false ∷ []) b) (sym so) unmade,
    )

pub returns-in-Ok : goal.returns-in-Ok
returns-in-Ok g c =
    let n = c.args.names in
    let yes : is_done c.create.result ≡ true = search rules in
    let took : is_done c.take_place.result ≡ true = search rules in
    let place = c.take_place.ensures in (
      Creates n.beside.now true ∷ place.0,
      (c.create.new.self, known g.F.Folder.does (Creates n.beside.now) c.args.folder.now c.create.new.self (is_done c.create.result) true yes c.create.ensures, place.1),
      made place.0 (subst (λ b. Taking n c.args.bytes.now place.0 b) took place.2),
    )

pub returns-in-Err : goal.returns-in-Err
returns-in-Err g c =
    let n = c.args.names in
    let yes : is_done c.create.result ≡ true = search rules in
    let took : is_done c.take_place.result ≡ false = search rules in
    let place = c.take_place.ensures in
    let gone = is_done c.remove.result in (
      Creates n.beside.now true ∷ (place.0 ++ (Removes n.beside.now gone ∷ [])),
      (
        c.create.new.self,
        known g.F.Folder.does (Creates n.beside.now) c.args.folder.now c.create.new.self (is_done c.create.result) true yes c.create.ensures,
        ran_more g.F.Folder.does c.create.new.self c.take_place.new.folder c.remove.new.self place.0 (Removes n.beside.now gone ∷ []) place.1 (c.remove.new.self, c.remove.ensures, refl),
      ),
      undone place.0 gone (subst (λ b. Taking n c.args.bytes.now place.0 b) took place.2),
    )
