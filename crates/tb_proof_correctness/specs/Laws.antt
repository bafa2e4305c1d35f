-- What is promised of a program's image: it keeps the program, and it marks the program's lines.
use Rattle.std.specs.Prelude.{ℕ, ◌+◌, ◌≤◌, List, length}
use Rattle.tb_asm.specs.declared.names.Name.{Name}
use Rattle.tb_basic_syntax.specs.Source.{Program, numbers}
use Rattle.tb_lower.specs.Follows.{Follows}
use Rattle.tb_lower.specs.Slots.{SlotCode}
use Rattle.tb_machine_reaching.specs.View.{part_at}
use Rattle.tb_compiled_kept.specs.Keeps.{Keeps}
use Rattle.tb_compiler_selection.specs.Laws.{AreClosed}
use Rattle.tb_proof_simulation.specs.Layout.{layout_of}
use Rattle.tb_proof_correctness.specs.Laid.{ArePolled, Laid}
use Rattle.tb_compiled_kept.specs.LineStarts.{MarksLines}

-- bytes from an address on hold the routine block and the settled code of the program's slot code, with the labels right;
-- each of its lists takes an answer first and reads nothing that it doesn't write
pub record IsImage (place : ℕ) (bytes : List ℕ) (labels : List (Name × ℕ)) (seed : ℕ) (program : Program) (code : SlotCode) : Type 0 where
  pub from : 0x0800 ≤ place
  pub to : place + length bytes ≤ 0xa000
  pub follows : Follows program code
  pub closed : AreClosed code
  pub polled : ArePolled code
  pub laid : Laid labels seed (part_at place bytes) code

-- every image of a program keeps the program
abbrev pub KeepingLaw : Type 0
KeepingLaw = (place : ℕ) (bytes : List ℕ) (labels : List (Name × ℕ)) (seed : ℕ) (program : Program) (code : SlotCode)
    → IsImage place bytes labels seed program code → Keeps place bytes program seed

-- every image of a program marks the program's lines, each at the address of its label
abbrev pub MarkingLaw : Type 0
MarkingLaw = (place : ℕ) (bytes : List ℕ) (labels : List (Name × ℕ)) (seed : ℕ) (program : Program) (code : SlotCode)
    → IsImage place bytes labels seed program code → MarksLines place bytes program seed (layout_of labels (numbers code) seed).start
