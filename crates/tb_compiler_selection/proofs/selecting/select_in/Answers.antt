-- The goals of `select_in` in src/selecting.rt.
use Rattle.std.proofs.Common.{rules, ◌≡◌, [], sym, ap, ◌∙◌, subst, map}
use Rattle.tb_lower.specs.PlainData.{instr_of}
use Rattle.tb_compiler_selection.specs.Groups.{expand_all}
use Rattle.tb_compiler_selection.specs.Laws.{AreLive}
use Rattle.tb_compiler_selection.specs.Liveness.{live}
use Rattle.tb_compiler_selection.specs.PlainData.{groups_in, in_order}
use Rattle.tb_compiler_selection.proofs.Bracketed.{brackets}
use Rattle.tb_compiler_selection.proofs.Stacked.{onto, onto_none, attached_live, map_last, stepped}
use Rattle.tb_compiler_selection.proofs.selecting.select_in.Goals as goal

pub loop-instr-init : goal.loop-instr-init
loop-instr-init c =
    let e : in_order c.clear.new.self.items ≡ [] = ap in_order c.clear.ensures.items in (
      ap (λ ps. live (expand_all (groups_in ps))) (sym e),
      ap (λ ps. onto (map instr_of c.args.code.now) (groups_in ps)) e ∙ onto_none (map instr_of c.args.code.now),
      subst AreLive (sym e) tt,
    )

pub loop-instr-preserved : goal.loop-instr-preserved
loop-instr-preserved c =
    let h = c.loop-instr.invariant in
    let gs = groups_in (in_order c.loop-instr.placed.items) in
    let e = map_last instr_of _ _ _ c.in-Some.ensures.cases.0 in
    let a = c.in_ok-attach.ensures.attached in (
      attached_live (instr_of c.in-Some.instr.now) gs _ _ _ h.0 c.live_before-before.ensures a,
      stepped _ _ (instr_of c.in-Some.instr.now) gs _ _ e a h.1,
      c.in_ok-attach.ensures.live,
    )

pub returns-clause-selected : goal.returns-clause-selected
returns-clause-selected c = search rules

pub returns-clause-bracketed : goal.returns-clause-bracketed
returns-clause-bracketed c = ap expand_all (returns-clause-selected c) ∙ brackets (map instr_of c.args.code.now)
