-- The goal of `lines_hunk` in src/differing.rt.
use Rattle.std.proofs.Common.{◌≡◌, IfOk, map, subst}
use Rattle.tb_engine_transcripts.proofs.Hunks.{hunk_of_slices}
use Rattle.tb_engine_transcripts.proofs.differing.lines_hunk.Goals as goal

pub returns : goal.returns
returns c =
    let same =
    hunk_of_slices (λ l. l.now) c.args.above c.args.wanted.now c.args.ran.now c.alike_lines-alike.result c.saturating_sub-first.result
    (map (λ l. l.now) c.few.result.now) (map (λ l. l.now) c.few-2.result.now) c.alike_lines-alike.ensures.value c.saturating_sub-first.ensures c.few.ensures c.few-2.ensures in
    subst (λ bytes. IfOk c.hunk.result (λ text. text.items ≡ bytes)) same c.hunk.ensures
