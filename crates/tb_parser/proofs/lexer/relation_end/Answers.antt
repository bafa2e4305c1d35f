-- The goals of `relation_end` in src/lexer.rt.
use Rattle.std.proofs.Common.{◌≡◌, true, sym, ◌∙◌, slice_index}
use Rattle.std.proofs.lemmas.Bool.{true≢false}
use Rattle.tb_parser.specs.Kinds.{is_pair, pair, single}
use Rattle.tb_parser.proofs.Written.{follows_here, none_written}
use Rattle.tb_parser.proofs.lexer.relation_end.Goals as goal
use Rattle.tb_parser.proofs.lexer.relation_end.Goals.{in-Some+else-is_pair, in_default}

pub returns-then-is_pair-clause-is : goal.returns-then-is_pair-clause-is
returns-then-is_pair-clause-is c = pair c.in-Some.place c.in-Some.ensures (sym c.is_pair.ensures ∙ c.if-is_pair.true)

pub returns-clause-is : goal.returns-clause-is
returns-clause-is c =
    elim c.match-written_from.branch [
      | in-Some+else-is_pair w ↦ single (λ f. true≢false (sym (follows_here _ _ _ (λ b. is_pair (slice_index c.args.line.now c.args.start) b ≡ true) w.in-Some.ensures f) ∙ sym w.is_pair.ensures ∙ w.if-is_pair.false))
      | in_default w ↦ single (λ f. none_written _ _ f.0 w.in_default.ensures f.1)
    ]
