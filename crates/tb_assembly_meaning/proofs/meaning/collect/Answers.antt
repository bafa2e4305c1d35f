-- The goals of `collect` in src/meaning.rt.
use Rattle.std.proofs.Common.{◌+◌, ◌++◌, drop, map, sym, ap, ◌∙◌}
use Rattle.tb_asm.specs.Layout.{entry_of}
use Rattle.tb_assembly_meaning.specs.Names.{named}
use Rattle.tb_assembly_meaning.specs.Places.{laid_of}
use Rattle.tb_assembly_meaning.specs.Meaning.{faults_from, faults_in, items_from, items_in, outcome}
use Rattle.tb_assembly_meaning.proofs.Next.{next, append_on}
use Rattle.tb_assembly_meaning.proofs.meaning.collect.Goals as goal

pub loop-index-preserved : goal.loop-index-preserved
loop-index-preserved c =
    let env = named c.args.symbols.now.entries in
    let x = laid_of c.index-laid-index.result in
    let rest = drop (c.loop-index.index + 1) (map laid_of c.args.laid.now) in
    let n = next laid_of c.args.laid.now c.loop-index.index c.index-laid-index.result c.loop-index-test.true c.index-laid-index.is in (
      append_on (map entry_of c.loop-index.items.items) (map entry_of c.collect_one.new.items.items) (items_in (outcome env x)) (items_from env rest) _
          c.in_ok-collect_one.ensures.items (sym (ap (λ l. map entry_of c.loop-index.items.items ++ items_from env l) n) ∙ c.loop-index.invariant.0),
      append_on c.loop-index.faults.items c.collect_one.new.faults.items (faults_in c.loop-index.index (outcome env x)) (faults_from env (c.loop-index.index + 1) rest) _
          c.in_ok-collect_one.ensures.faults (sym (ap (λ l. c.loop-index.faults.items ++ faults_from env c.loop-index.index l) n) ∙ c.loop-index.invariant.1),
    )
