-- The goals of `write_output` in src/stream.rt.
use Rattle.std.proofs.Common.{rules, ◌+◌, ap, ◌∙◌, drop}
use Rattle.std.proofs.lemmas.List.{drop-drop, take_rest}
use Rattle.tb_engine_streams.proofs.Written.{appends_more}
use Rattle.tb_engine_streams.proofs.stream.write_output.Goals as goal

pub writing-preserved : goal.writing-preserved
writing-preserved g c =
    let (n, at, done, sound) = c.writing.invariant in
    let m = c.in_ok-count.count in
    (n + m, take_rest _ m ∙ ap (drop m) at ∙ drop-drop m n _, appends_more _ _ _ _ _ n m at done c.in_ok-count.ensures.bytes, search rules)
