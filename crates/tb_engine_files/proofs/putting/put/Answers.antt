-- The goals of `put` in src/putting.rt.
use Rattle.std.proofs.Common.{rules, ◌≡◌, true, false, ◌++◌, sym, subst}
use Rattle.tb_engine_files.specs.Putting.{Making, Putting, whole, new, over as on_it, Unchanged, is_done, end_of}
use Rattle.tb_engine_files.proofs.Stepping.{ran_more}
use Rattle.tb_engine_files.proofs.putting.put.Goals as goal

pub returns-in-Ok : goal.returns-in-Ok
returns-in-Ok g c =
    let n = c.args.names in
    let yes : is_done c.put_beside.result ≡ true = search rules in
    let beside = c.put_beside.ensures in
    (beside.0, beside.1, whole c.args.is_there beside.0 (subst (λ b. Making n c.args.bytes.now beside.0 b) yes beside.2))

pub returns-in-Err : goal.returns-in-Err
returns-in-Err g c =
    let n = c.args.names in
    let no : is_done c.put_beside.result ≡ false = search rules in
    let there : c.args.is_there ≡ true = search rules in
    let beside = c.put_beside.ensures in
    let over = c.put_over.ensures in
    let end = end_of c.put_over.result in (
      beside.0 ++ over.0,
      ran_more g.F.Folder.does c.args.folder.now c.put_beside.new.folder c.put_over.new.folder beside.0 over.0 beside.1 over.1,
      subst (λ b. Putting n c.args.bytes.now b (beside.0 ++ over.0) end) (sym there)
          (on_it beside.0 over.0 end (subst (λ b. Making n c.args.bytes.now beside.0 b) no beside.2) over.2),
    )

pub returns-in-Err-2 : goal.returns-in-Err-2
returns-in-Err-2 g c =
    let n = c.args.names in
    let no : is_done c.put_beside.result ≡ false = search rules in
    let none : c.args.is_there ≡ false = search rules in
    let beside = c.put_beside.ensures in (
      beside.0,
      beside.1,
      subst (λ b. Putting n c.args.bytes.now b beside.0 Unchanged) (sym none)
          (new beside.0 (subst (λ b. Making n c.args.bytes.now beside.0 b) no beside.2)),
    )
