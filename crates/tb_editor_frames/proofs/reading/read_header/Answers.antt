-- The goals of `read_header` in src/reading.rt.
use Rattle.std.proofs.Common.{rules, Ok, subst, sym, ◌∙◌}
use Rattle.tb_editor_frames.specs.Frames.{TakesHeaderLine}
use Rattle.tb_editor_frames.proofs.Taken.{Stands, ends_early, ends_header, line_failed, refused_field, says_no_length, stands_more, too_many}
use Rattle.tb_editor_frames.proofs.reading.read_header.Goals as goal

pub returns-in-Err : goal.returns-in-Err
returns-in-Err g c =
    let (stands, sound) = c.loop-count.invariant in
    line_failed _ _ _ c.loop-count.count c.loop-count.found c.in-Err.error _ _ _ stands sound c.in-Err.ensures

pub returns-in-Some : goal.returns-in-Some
returns-in-Some g c =
    let (stands, sound) = c.loop-count.invariant in
    let now = subst (λ l. TakesHeaderLine (Ok l) (g.R.Read.remaining c.loop-count.reader.stream) (g.R.Read.remaining c.next_line.new.reader.stream) c.loop-count.reader.failures c.next_line.new.reader.failures) c.in-Empty.is c.in-Ok.ensures in
    let (line, taken, shape, kept) = now in
    let (header, took, is) = ends_header _ _ _ c.loop-count.count c.loop-count.found c.in-Some.length line c.loop-count-test.true c.in-Some.is stands taken shape in
    (header, took, is, kept ∙ sound)

pub returns-in-None : goal.returns-in-None
returns-in-None g c =
    let (stands, sound) = c.loop-count.invariant in
    let now = subst (λ l. TakesHeaderLine (Ok l) (g.R.Read.remaining c.loop-count.reader.stream) (g.R.Read.remaining c.next_line.new.reader.stream) c.loop-count.reader.failures c.next_line.new.reader.failures) c.in-Empty.is c.in-Ok.ensures in
    let (line, taken, shape, kept) = now in
    (says_no_length _ _ _ c.loop-count.count c.loop-count.found line c.in-None.is stands taken shape, kept ∙ sound)

pub returns-else-count-eq0 : goal.returns-else-count-eq0
returns-else-count-eq0 g c =
    let (stands, sound) = c.loop-count.invariant in
    let now = subst (λ l. TakesHeaderLine (Ok l) (g.R.Read.remaining c.loop-count.reader.stream) (g.R.Read.remaining c.next_line.new.reader.stream) c.loop-count.reader.failures c.next_line.new.reader.failures) c.in-End.is c.in-Ok.ensures in
    let ((none, at_end), kept) = now in
    (ends_early _ _ _ c.loop-count.count c.loop-count.found c.if-count-eq0.false stands none at_end, kept ∙ sound)

pub returns-in-Err-length_after : goal.returns-in-Err-length_after
returns-in-Err-length_after g c =
    let (stands, sound) = c.loop-count.invariant in
    let now = subst (λ l. TakesHeaderLine (Ok l) (g.R.Read.remaining c.loop-count.reader.stream) (g.R.Read.remaining c.next_line.new.reader.stream) c.loop-count.reader.failures c.next_line.new.reader.failures) c.in-Field.is c.in-Ok.ensures in
    let (line, taken, shape, kept) = now in
    let (bad, is) = c.in-Err-length_after.ensures in
    refused_field _ _ _ c.loop-count.count c.loop-count.found line c.in-Field.field c.in-Err-length_after.error _ _ bad is stands taken shape (kept ∙ sound)

pub loop-count-preserved : goal.loop-count-preserved
loop-count-preserved g c =
    let (stands, sound) = c.loop-count.invariant in
    let now = subst (λ l. TakesHeaderLine (Ok l) (g.R.Read.remaining c.loop-count.reader.stream) (g.R.Read.remaining c.next_line.new.reader.stream) c.loop-count.reader.failures c.next_line.new.reader.failures) c.in-Field.is c.in-Ok.ensures in
    let (line, taken, shape, kept) = now in
    let (good, says) = c.in-Ok-length_after.ensures in
    (subst (Stands _ _ _) (sym says) (stands_more _ _ _ c.loop-count.count c.loop-count.found line c.in-Field.field good stands taken shape), kept ∙ sound)

pub returns : goal.returns
returns g c =
    let (stands, sound) = c.loop-count.invariant in
    (too_many _ _ c.loop-count.count c.loop-count.found (search rules) stands, sound)
