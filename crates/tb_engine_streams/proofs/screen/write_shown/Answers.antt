-- The goals of `write_shown` in src/screen.rt.
use Rattle.std.proofs.Common.{rules, ◌+◌, ap, ◌∙◌, drop}
use Rattle.std.proofs.lemmas.List.{drop-drop}
use Rattle.tb_engine_streams.specs.HostForm.{shown_as}
use Rattle.tb_engine_streams.specs.Streams.{AppendsPrefix}
use Rattle.tb_engine_streams.proofs.Written.{shown_more, shown_part}
use Rattle.tb_engine_streams.proofs.screen.write_shown.Goals as goal

pub returns-in_err-write_output-clause-prefix : goal.returns-in_err-write_output-clause-prefix
returns-in_err-write_output-clause-prefix g c =
    let (n, at, done, sound) = c.showing.invariant in
    let old = g.W.Write.contents c.args.writer.now.stream in
    let new = g.W.Write.contents c.write_output.new.writer.stream in
    let wrote : AppendsPrefix (g.W.Write.contents c.showing.writer.stream) new (shown_as c.args.notation c.split_at.result.0.now) = search rules in
    let part : AppendsPrefix old new (shown_as c.args.notation c.args.sent.now) =
    shown_part c.args.notation old (g.W.Write.contents c.showing.writer.stream) new c.args.sent.now c.showing.rest.now c.split_at.result.0.now n c.min.result at c.split_at.ensures.front done wrote in
    search (rules, part)

pub showing-preserved : goal.showing-preserved
showing-preserved g c =
    let (n, at, done, sound) = c.showing.invariant in
    let m = c.min.result in
    (n + m, c.split_at.ensures.back ∙ ap (drop m) at ∙ drop-drop m n _, shown_more c.args.notation _ _ _ _ _ _ n m at c.split_at.ensures.front done (search rules), search rules)
