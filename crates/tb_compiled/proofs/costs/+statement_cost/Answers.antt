-- The goals of `statement_cost` in src/costs.rt.
use Rattle.std.proofs.Common.{ℕ, ◌≡◌, ◌∙◌, map, ap, sym, arith}
use Rattle.tb_basic_syntax.specs.PlainData.{item_of, statement_of}
use Rattle.tb_basic_meaning.specs.Cost.{statement_cost, items_cost}
use Rattle.tb_basic_meaning.proofs.Costs.{items_pay}
use Rattle.tb_compiled.proofs.costs.+statement_cost.Goals as goal

-- the cost of a PRINT is that of its items
printed : (t : ℕ) (c : goal.After-deref t) → items_cost (map item_of c.deref.result.now) ≡ statement_cost (statement_of c.args.statement.now)
printed t c = ap (λ is. items_cost (map item_of is)) c.deref.ensures.value ∙ items_pay (map item_of c.in-Print.items.items) ∙ ap (λ s. statement_cost (statement_of s)) (sym c.in-Print.is)

pub items_cost-requires : goal.items_cost-requires
items_cost-requires t c = let e = printed t c in let h = c.requires in omega (arith, e, h)

pub returns-in-Print : goal.returns-in-Print
returns-in-Print t c = c.items_cost.ensures ∙ ap (λ is. items_cost (map item_of is)) c.deref.ensures.value
    ∙ items_pay (map item_of c.in-Print.items.items) ∙ ap (λ s. statement_cost (statement_of s)) (sym c.in-Print.is)
