-- The goal of `coverage_page` in src/covering.rt.
use Rattle.std.proofs.Common.{◌≡◌, ◌∙◌, map}
use Rattle.std.specs.Prelude.{flat_map}
use Rattle.tb_engine_test.specs.Covering.{covered_of, section}
use Rattle.tb_engine_test.proofs.covering.coverage_page.Goals as goal

pub returns : goal.returns
returns c =
    let shown : c.as_slice.result.now ≡ flat_map section (map covered_of c.args.sources.now) = c.as_slice.ensures.value ∙ c.in_ok-sections.ensures in
    rw shown at c.joined.ensures
