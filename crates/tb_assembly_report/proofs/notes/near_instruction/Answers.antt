-- The goal of `near_instruction` in src/notes.rt.
use Rattle.tb_assembly_report.proofs.notes.near_instruction.Goals as goal

pub returns : goal.returns
returns c = c.near_note.ensures
