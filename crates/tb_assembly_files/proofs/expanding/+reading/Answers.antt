-- The goals of `include` and `read_file` in src/expanding.rt.
use Rattle.std.proofs.Common.{map, sym, ap, ◌∙◌}
use Rattle.std.specs.Prelude.{option_map}
use Rattle.tb_assembly_files.specs.Libraries.{found, source_of}
use Rattle.tb_assembly_files.specs.Paths.{beside}
use Rattle.tb_assembly_files.specs.Expansion.{including, read_of}
use Rattle.tb_assembly_files.proofs.Included.{at_end, is_read, is_refused, is_unread, reaches_as}
use Rattle.tb_assembly_files.proofs.expanding.+reading.Goals as goal

pub include-returns-in-Some-file_fault : goal.include-returns-in-Some-file_fault
include-returns-in-Some-file_fault t c =
    let lib = map source_of c.args.within.library.now in
    reaches_as _ _ _ _
    (is_refused c.args.within.depth lib c.args.within.chain.now c.args.place c.args.column c.args.name.now (read_of c.args.reading.now) c.if-depth-eq0.false
    c.in_ok-path.path.items (c.in_ok-path.ensures ∙ ap (λ p. beside p c.args.name.now) c.path_at.ensures)
    c.in-Some.file (ap (λ p. found p lib) (sym c.deref.ensures.value) ∙ sym c.file_with.ensures ∙ c.in-Some.is)
    c.in-Some-file_fault.fault (sym c.file_fault.ensures ∙ c.in-Some-file_fault.is))
    c.refuse-in-Some-file_fault.ensures

pub include-returns-in-None : goal.include-returns-in-None
include-returns-in-None t c =
    let lib = map source_of c.args.within.library.now in
    reaches_as _ _ _ _
    (is_unread c.args.within.depth lib c.args.within.chain.now c.args.place c.args.column c.args.name.now (read_of c.args.reading.now) c.if-depth-eq0.false
    c.in_ok-path.path.items (c.in_ok-path.ensures ∙ ap (λ p. beside p c.args.name.now) c.path_at.ensures)
    c.in-Some.file (ap (λ p. found p lib) (sym c.deref.ensures.value) ∙ sym c.file_with.ensures ∙ c.in-Some.is)
    (sym c.file_fault.ensures ∙ c.in_default-file_fault.is) (sym c.text_at.ensures ∙ ap (option_map (λ t. t.now)) c.in-None.is))
    c.refuse-in-None.ensures

pub include-returns : goal.include-returns
include-returns t c =
    let lib = map source_of c.args.within.library.now in
    reaches_as _ _ _ _
    (is_read c.args.within.depth lib c.args.within.chain.now c.args.place c.args.column c.args.name.now (read_of c.args.reading.now) c.if-depth-eq0.false
    c.in_ok-path.path.items (c.in_ok-path.ensures ∙ ap (λ p. beside p c.args.name.now) c.path_at.ensures)
    c.in-Some.file (ap (λ p. found p lib) (sym c.deref.ensures.value) ∙ sym c.file_with.ensures ∙ c.in-Some.is)
    c.in-Some-text_at.text.now c.deref-in-Some-text_at.result.now (sym c.file_fault.ensures ∙ c.in_default-file_fault.is)
    (sym c.text_at.ensures ∙ ap (option_map (λ t. t.now)) c.in-Some-text_at.is)
    (c.deref-in-Some-text_at.ensures.value ∙ c.in_ok-chain-in-Some-text_at.ensures))
    c.read_file.ensures

pub read_file-returns : goal.read_file-returns
read_file-returns t c = at_end (including c.args.within.depth (map source_of c.args.within.library.now) c.args.within.chain.now) c.args.file c.loop-first.line c.loop-first.rest.now (read_of c.loop-first.reading) _ c.in_default.ensures c.loop-first.invariant.0
