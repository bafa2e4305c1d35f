-- The goals of `first_segment` in src/lists.rt.
use Rattle.std.proofs.Common.{◌≡◌, length, map, sym, ◌∙◌, arith}
use Rattle.std.proofs.lemmas.List.{length-map}
use Rattle.tb_assembly_text.specs.Tokens.{token_of}
use Rattle.tb_assembly_text.proofs.Segments.{segment_ends, segment_on}
use Rattle.tb_assembly_text.proofs.lists.first_segment.Goals as goal

pub returns-then-is_comma : goal.returns-then-is_comma
returns-then-is_comma c =
    let p =
    segment_ends c.args.end c.args.tokens.now c.loop-i.i _ c.loop-i-test.true c.loop-i.invariant.0 c.loop-i.invariant.1
    (sym c.is_comma.ensures ∙ c.if-is_comma.true) in
    let size : length (map token_of c.args.tokens.now) ≡ length c.args.tokens.now = length-map c.args.tokens.now token_of in
    (p.0, p.1, omega arith)

pub loop-i-preserved : goal.loop-i-preserved
loop-i-preserved c =
    segment_on c.args.end c.args.tokens.now c.loop-i.i _ c.loop-i-test.true c.loop-i.invariant.0 c.loop-i.invariant.1 (sym c.is_comma.ensures ∙ c.if-is_comma.false)
