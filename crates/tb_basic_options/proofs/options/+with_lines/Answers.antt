-- The goals of `with_lines` in src/options.rt.
use Rattle.std.proofs.Common.{◌≡◌, ℕ, zero, suc, List, [], take, false, refl}
use Rattle.tb_basic_text.specs.Lines.{lines_from}
use Rattle.tb_basic_options.specs.Options.{with_lines}
use Rattle.tb_basic_options.specs.declared.options.OwnOptions.{OwnOptions}
use Rattle.tb_basic_options.proofs.options.+with_lines.Goals as goal

-- no line is left
at_end : (options : OwnOptions) (number left : ℕ) (source : List ℕ) → source ≡ []
    → options ≡ with_lines options number (take left (lines_from false source))
unfolding lines_from
at_end options number zero source none = refl
at_end options number (suc left) source none = rw none refl

pub returns-in-None : goal.returns-in-None
returns-in-None t c = at_end c.args.options c.args.number c.args.left c.args.source.now c.in-None.ensures
