-- The goal of `assemble_source` in src/engine.rt.
use Rattle.std.proofs.Common.{inr, map, subst}
use Rattle.tb_assembly_files.specs.Libraries.{source_of}
use Rattle.tb_assembly_engine.specs.Deeds.{Writes}
use Rattle.tb_assembly_engine.proofs.engine.assemble_source.Goals as goal

pub returns : goal.returns
returns g c =
    let all = c.in_ok-gathered.gathered in
    inr (
      map source_of all.library.items,
      all.made,
      c.gather.new.files,
      c.in_ok-gathered.ensures,
      subst (λ x. Writes g.F.FileSystem.leads g.F.FileSystem.shows g.F.FileSystem.does c.gather.new.files (map source_of x) c.args.names all.made c.write.result c.write.new.files)
          c.deref.ensures.value c.write.ensures,
    )
