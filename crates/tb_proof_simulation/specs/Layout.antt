-- The addresses of a program's code in its image.
use Rattle.std.specs.Prelude.{ℕ, ◌+◌, ◌≤◌, if◌then◌else◌, List}
use Rattle.tb_asm.specs.declared.names.Name.{Name}
use Rattle.tb_asm.specs.declared.items.Operand.TheVariants.{Label}
use Rattle.tb_asm.specs.Layout.{Entry, number_in, bytes_from, size}
use Rattle.tb_basic_meaning.specs.Control.{Place, At, Past, has_line}
use Rattle.tb_compiler_templates.specs.declared.labels.Target.{Target}
use Rattle.tb_compiler_templates.specs.declared.labels.Target.TheVariants as target
use Rattle.tb_compiler_templates.specs.Labels.{label_of}
use Rattle.tb_compiler_program.specs.Layout.{LabelsAt}
use Rattle.tb_compiled_kept.specs.LineStarts.{is_start}
use Rattle.tb_machine_reaching.specs.View.{Part}
use Rattle.tb_machine_reaching.specs.View.{without}
use Rattle.tb_machine_reaching.specs.View.{Bytes}

-- ---- items in the code

-- the bytes of these items are there from an address on, and each of their labels gives its address
pub record Lies (code : Part) (labels : List (Name × ℕ)) (at : ℕ) (es : List Entry) : Type 0 where
  pub bytes : Bytes code at (bytes_from labels at es)
  pub labelled : LabelsAt labels at es
  pub below : at + size es ≤ 0xa000

-- ---- the addresses of a program

-- the numbers of its lines, where each line, fault 7, the search and the line table begin, and the option's RND state
pub record Layout : Type 0 where
  pub numbers : List ℕ
  pub start : ℕ → ℕ
  pub past : ℕ
  pub find : ℕ
  pub table : ℕ
  pub seed : ℕ

-- the address of a label
abbrev pub label_address : List (Name × ℕ) → Target → ℕ
label_address labels t = number_in labels (Label (label_of t))

-- a number without a line has the address of fault 7
abbrev pub start_at : List (Name × ℕ) → List ℕ → ℕ → ℕ
start_at labels ns n = if has_line ns n then label_address labels (target.Line n) else label_address labels target.Past

-- the addresses of a program with these line numbers by those of its labels, with the option's RND state
abbrev pub layout_of : List (Name × ℕ) → List ℕ → ℕ → Layout
layout_of labels ns seed = record {
  numbers = ns;
  start = start_at labels ns;
  past = label_address labels target.Past;
  find = label_address labels target.Find;
  table = label_address labels target.Table;
  seed = seed;
}

-- where a place of a run begins
abbrev pub place_address : Layout → Place → ℕ
place_address ly (At n) = ly.start n
place_address ly Past = ly.past

-- the program's bytes without the first one of each line
abbrev pub inner : Layout → Part → Part
inner ly code = without (is_start ly.start ly.numbers) code
