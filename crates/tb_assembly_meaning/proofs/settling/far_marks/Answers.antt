-- The goals of `far_marks` in src/settling.rt.
use Rattle.std.proofs.Common.{◌+◌, ◌++◌, ◌∷◌, [], drop, map, sym, ap, ◌∙◌}
use Rattle.tb_assembly_meaning.specs.Names.{named}
use Rattle.tb_assembly_meaning.specs.Places.{laid_of}
use Rattle.tb_assembly_meaning.specs.Settling.{is_far}
use Rattle.tb_assembly_meaning.proofs.Next.{next, append_on}
use Rattle.tb_assembly_meaning.proofs.settling.far_marks.Goals as goal

pub loop-one-preserved : goal.loop-one-preserved
loop-one-preserved c =
    let far = is_far (named c.args.symbols.now.entries) in
    append_on c.loop-one.marks.items c.push.new.self.items (far (laid_of c.one-item.result) ∷ []) (map far (drop (c.loop-one.one-index + 1) (map laid_of c.args.laid.now))) _
    (c.in_ok-push.ensures.items ∙ ap (λ b. c.loop-one.marks.items ++ b ∷ []) c.in_ok-is_far.ensures)
    (sym (ap (λ ls. c.loop-one.marks.items ++ map far ls) (next laid_of c.args.laid.now c.loop-one.one-index c.one-item.result c.loop-one-test.true c.one-item.is)) ∙ c.loop-one.invariant)
