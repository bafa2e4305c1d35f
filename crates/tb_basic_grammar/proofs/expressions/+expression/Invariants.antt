-- What decreases when `expression` and others in src/expressions.rt call one another, and what holds in their loops.
use Rattle.std.proofs.Common.{◌≡◌, ℕ, ◌+◌, ◌*◌, ◌≤◌, length}
use Rattle.tb_basic_grammar.specs.Grammar.{Whole, Term}
use Rattle.tb_basic_grammar.specs.Reading.{more, factor_at, term_at, whole_by}
use Rattle.tb_basic_grammar.specs.ReadValues.{seen}
use Rattle.tb_basic_grammar.proofs.expressions.+expression.Given as goal

abbrev pub decreases-whole : goal.decreases-whole
decreases-whole l = 6 * l.nesting

abbrev pub decreases-sum : goal.decreases-sum
decreases-sum l = 6 * l.nesting + 5

abbrev pub decreases-signed : goal.decreases-signed
decreases-signed l = 6 * l.nesting + 4

abbrev pub decreases-term : goal.decreases-term
decreases-term l = 6 * l.nesting + 3

abbrev pub decreases-factor : goal.decreases-factor
decreases-factor l = 6 * l.nesting + 2

abbrev pub decreases-group : goal.decreases-group
decreases-group l = 6 * l.nesting + 1

abbrev pub invariant-term-loop-op : goal.invariant-term-loop-op
invariant-term-loop-op l = (k : ℕ) × (length l.found.rest.now ≤ k) × (more Term (factor_at l.nesting) k (seen l.found) ≡ term_at l.nesting l.fn.text)

abbrev pub decreases-term-loop-op : goal.decreases-term-loop-op
decreases-term-loop-op l = length l.found.rest.now

abbrev pub invariant-sum-loop-op : goal.invariant-sum-loop-op
invariant-sum-loop-op l = (k : ℕ) × (length l.found.rest.now ≤ k) × (more Whole (term_at l.nesting) k (seen l.found) ≡ whole_by (factor_at l.nesting) l.fn.text)

abbrev pub decreases-sum-loop-op : goal.decreases-sum-loop-op
decreases-sum-loop-op l = length l.found.rest.now
