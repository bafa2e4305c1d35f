-- The goal of `sections` in src/covering.rt.
use Rattle.std.proofs.Common.{rules, ◌≡◌, ◌++◌, ◌∙◌, ap, sym}
use Rattle.tb_engine_test.specs.Covering.{covered_of, section}
use Rattle.tb_engine_test.proofs.Flat.{flat_more}
use Rattle.tb_engine_test.proofs.covering.sections.Goals as goal

pub loop-source-preserved : goal.loop-source-preserved
loop-source-preserved c =
    let grown : c.extend_from_slice.new.self.items ≡ c.loop-source.text.items ++ section (covered_of c.source-item.result) = search rules in
    grown ∙ ap (λ t. t ++ section (covered_of c.source-item.result)) c.loop-source.invariant
    ∙ sym (flat_more section covered_of c.args.sources.now c.loop-source.source-index c.source-item.result c.loop-source-test.true c.source-item.is)
