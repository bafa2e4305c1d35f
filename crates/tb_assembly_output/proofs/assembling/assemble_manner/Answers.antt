-- The goals of `assemble_manner` in src/assembling.rt.
use Rattle.std.proofs.Common.{List, map, arith, sym, ap, subst, ◌∙◌}
use Rattle.std.proofs.lemmas.List.{with_items_is}
use Rattle.tb_assembly_text.specs.declared.statements.Statement.{Statement}
use Rattle.tb_assembly_text.specs.Statements.{said_of}
use Rattle.tb_assembly_meaning.specs.Settling.{Settles}
use Rattle.tb_assembly_files.specs.Libraries.{source_of}
use Rattle.tb_assembly_files.specs.Expansion.{Read, read_of}
use Rattle.tb_assembly_output.specs.Assembled.{IsReadAs}
use Rattle.tb_assembly_output.proofs.Answering.{by_reading}
use Rattle.tb_assembly_output.proofs.assembling.assemble_manner.Goals as goal
use Rattle.tb_assembly_output.proofs.assembling.assemble_manner.Goals.{then-manner+in_ok-settle, else-manner}

abbrev with_said : Read → List Statement → Read
with_said r statements = record r { said = map said_of statements }

pub returns : goal.returns
returns c =
    let m = c.args.manner in
    let lib = map source_of c.args.library.now in
    elim c.if-manner.branch [
      | then-manner+in_ok-settle w ↦ by_reading m lib (read_of c.args.reading) (read_of c.if-manner.reading) c.assemble_reading.result
          (subst (λ b. IsReadAs b m.at (read_of c.args.reading) (read_of c.if-manner.reading)) (sym w.if-manner.true) (
            map said_of w.settle.new.statements,
            subst (λ l. Settles m.at (map said_of l) (map said_of w.settle.new.statements)) w.deref_mut.ensures.value (w.in_ok-settle.ensures {u = tt}),
            ap read_of w.reading-is ∙ ap (with_said (read_of c.args.reading)) (with_items_is c.args.reading.statements w.settle.new.statements (omega arith)),
          )) c.assemble_reading.ensures
      | else-manner w ↦ by_reading m lib (read_of c.args.reading) (read_of c.if-manner.reading) c.assemble_reading.result
          (subst (λ b. IsReadAs b m.at (read_of c.args.reading) (read_of c.if-manner.reading)) (sym w.if-manner.false) (ap read_of w.reading-is)) c.assemble_reading.ensures
    ]
