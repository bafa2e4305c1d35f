-- The goal of `directive_note` in src/notes.rt.
use Rattle.tb_assembly_report.proofs.notes.directive_note.Goals as goal

pub returns : goal.returns
returns c = c.near_note.ensures
