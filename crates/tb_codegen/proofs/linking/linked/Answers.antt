-- The goals of `linked` in src/linking.rt.
use Rattle.std.proofs.Common.{Some, ap, map, sym, subst, ◌∙◌}
use Rattle.tb_words.specs.Words.{word_of}
use Rattle.tb_basic_syntax.specs.Source.{numbers}
use Rattle.tb_lower.specs.PlainData.{code_of}
use Rattle.tb_codegen.specs.Compiled.{AreKnown, starts_in}
use Rattle.tb_codegen.proofs.Kept.{file_keeps}
use Rattle.tb_codegen.proofs.Marked.{file_marks}
use Rattle.tb_codegen.proofs.Sized.{bytes_end, has_table, known, made}
use Rattle.tb_codegen.proofs.linking.linked.Goals as goal

pub line_starts-requires : goal.line_starts-requires
line_starts-requires c = subst (λ k. AreKnown c.in_ok-image.image.labels.entries (numbers (code_of k))) (sym c.lines.ensures)
    (known c.args.seed c.requires.listed c.in_ok-image.ensures.laid)

pub label_address-table-requires : goal.label_address-table-requires
label_address-table-requires c = has_table c.args.seed c.requires.listed c.in_ok-image.ensures.laid

pub returns-clause-compiled : goal.returns-clause-compiled
returns-clause-compiled c =
    let image = c.in_ok-image.ensures in
    let is = c.new.ensures in
    made c.new.result c.requires.lowered c.requires.listed c.requires.shallow image.laid (bytes_end c.args.seed c.requires.listed image.laid image.fits)
    (is.prg ∙ c.in_ok-prg.ensures)
    (is.starts ∙ c.in_ok-starts.ensures ∙ ap (λ k. starts_in c.in_ok-image.image.labels.entries (numbers (code_of k))) c.lines.ensures)
    (c.label_address-table.ensures ∙ ap Some (sym is.table)) (ap (map (λ w. (w.line, word_of w.target))) is.warnings ∙ c.in_ok-warnings.ensures)

pub returns-clause-keeps : goal.returns-clause-keeps
returns-clause-keeps c some =
    let image = c.in_ok-image.ensures in
    file_keeps c.ranges.seed.fits some c.requires.lowered c.requires.follows c.requires.listed image.laid
    (bytes_end c.args.seed c.requires.listed image.laid image.fits) (c.new.ensures.prg ∙ c.in_ok-prg.ensures)

pub returns-clause-marks : goal.returns-clause-marks
returns-clause-marks c some =
    let image = c.in_ok-image.ensures in
    file_marks c.ranges.seed.fits some c.requires.lowered c.requires.follows c.requires.listed image.laid
    (bytes_end c.args.seed c.requires.listed image.laid image.fits) (c.new.ensures.prg ∙ c.in_ok-prg.ensures)
    (c.new.ensures.starts ∙ c.in_ok-starts.ensures ∙ ap (λ k. starts_in c.in_ok-image.image.labels.entries (numbers (code_of k))) c.lines.ensures)
