-- Compiled programs: the settled items of their templates, and where the labels of lines stand.
use Rattle.std.specs.Prelude.{◌≡◌, ℕ, ◌+◌, ◌≤◌, true, is_some, List, [], ◌∷◌, ◌++◌, map, None, Some, unwrap_or}
use Rattle.tb_words.specs.Words.{word_of}
use Rattle.tb_basic_syntax.specs.Source.{Program, numbers}
use Rattle.tb_asm.specs.declared.names.Name.{Name}
use Rattle.tb_asm.specs.Layout.{Entry, size, image_of, labels_from, address_in}
use Rattle.tb_asm.specs.Settle.{SettlesTo}
use Rattle.tb_prg.specs.Prg.{header}
use Rattle.tb_lower.specs.Lowered as lowered
use Rattle.tb_basic_meaning.specs.Missing.{missing_targets}
use Rattle.tb_basic_meaning.specs.Need.{too_deep}
use Rattle.tb_runtime16.specs.Addresses.{PROLOGUE_AT}
use Rattle.tb_compiled_kept.specs.Addresses.{LINES_AT}
use Rattle.tb_compiler_templates.specs.declared.labels.Target.TheVariants.{Line, Past, Table}
use Rattle.tb_compiler_templates.specs.Labels.{label_of}
use Rattle.tb_compiler_program.specs.Program.{program_code}
use Rattle.tb_compiled.specs.Compiled.{AddressesRise, prg_of, starts_of, table_of, warnings_of}
use Rattle.tb_compiled.specs.Texts.{LinesHoldTexts}
use Rattle.tb_compiled.specs.declared.compiled.Compiled.{Compiled}

-- the address of a label; 0 if there is no label of this name
abbrev pub stands_at : List (Name × ℕ) → Name → ℕ
stands_at labels name = unwrap_or (address_in labels name) 0

-- the lines with the addresses of their labels
abbrev pub starts_in : List (Name × ℕ) → List ℕ → List (ℕ × ℕ)
starts_in labels [] = []
starts_in labels (n ∷ ns) = (n, stands_at labels (label_of (Line n))) ∷ starts_in labels ns

-- each of these lines has a label
abbrev pub AreKnown : List (Name × ℕ) → List ℕ → Type 0
AreKnown labels [] = Unit {0}
AreKnown labels (n ∷ ns) = (is_some (address_in labels (label_of (Line n))) ≡ true) × AreKnown labels ns

-- Compiled, a program is a PRG file with its settled items from the block's address on; code and table end by $9FFF. A
-- line begins at the address of its label among them, and so does the line table.
pub record IsLinked (seed : ℕ) (program : Program) (c : Compiled) : Type 0 where
  pub shallow : too_deep program ≡ None
  pub items : List Entry
  pub settled : SettlesTo PROLOGUE_AT (program_code seed (lowered.program_code program)) items
  pub prg : prg_of c ≡ header ++ image_of PROLOGUE_AT items
  pub texts : LinesHoldTexts (prg_of c) (stands_at (labels_from PROLOGUE_AT items) (label_of Past)) (starts_of c) program
  pub ends : PROLOGUE_AT + size items ≤ 0xA000
  pub starts : starts_of c ≡ starts_in (labels_from PROLOGUE_AT items) (numbers program)
  pub lines : map (λ s. s.0) (starts_of c) ≡ numbers program
  pub rising : AddressesRise LINES_AT (starts_of c)
  pub table : address_in (labels_from PROLOGUE_AT items) (label_of Table) ≡ Some (table_of c)
  pub warned : map (λ w. (w.line, word_of w.target)) (warnings_of c) ≡ missing_targets program
