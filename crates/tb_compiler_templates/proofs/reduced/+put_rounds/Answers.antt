-- The goals of `put_rounds` in src/reduced.rt.
use Rattle.std.proofs.Common.{◌<◌, ◌++◌, map, ap, sym, subst, ◌∙◌, arith}
use Rattle.tb_asm.specs.Layout.{entry_of}
use Rattle.tb_compiler_templates.proofs.Appends.{two}
use Rattle.tb_compiler_templates.proofs.Multiples.{again, doubled_below, last_round}
use Rattle.tb_compiler_templates.proofs.reduced.+put_rounds.Goals as goal

pub overflow_mul-last : goal.overflow_mul-last
overflow_mul-last t c = record { fits = doubled_below c.args.count c.args.last 65536 c.if-count-eq0.false c.requires }

pub put_rounds-requires : goal.put_rounds-requires
put_rounds-requires t c = (
  let some = c.if-count-eq0.false in let d = c.decreases in omega (arith, some, d),
  subst (λ p. p < 65536) (sym (again c.args.count c.args.last c.if-count-eq0.false)) c.requires,
)

pub returns : goal.returns
returns t c =
    two _ _ _ _ _ c.in_ok-put_rounds.ensures c.in_ok-put_round.ensures
    ∙ ap (λ es. map entry_of c.args.items.now.items ++ es) (sym (last_round c.args.count c.args.last c.if-count-eq0.false))
