-- The goals of `place_at` in src/columns.rt.
use Rattle.std.proofs.Common.{ap, sym, ◌∙◌}
use Rattle.tb_basic_places.specs.Columns.{place_at}
use Rattle.tb_basic_places.proofs.Back.{back}
use Rattle.tb_basic_places.proofs.columns.place_at.Goals as goal

pub returns-clause-back : goal.returns-clause-back
returns-clause-back c = λ i few begins is.
    c.bytes_before.ensures.value ∙ (ap (λ column. place_at column c.args.bytes.now) is ∙ back c.args.bytes.now i few begins)
