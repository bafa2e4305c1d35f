-- The addresses of a program's settled code in its image.
use Rattle.std.specs.Prelude.{◌≡◌, ◌⊎◌, ℕ, ◌+◌, ◌≤◌, ◌<◌, true, false, List, [], ◌∷◌, length, Some}
use Rattle.tb_asm.specs.declared.names.Name.{Name}
use Rattle.tb_asm.specs.Layout.{Entry, size}
use Rattle.tb_asm.specs.Settle.{Form, items_from, some_branch_far}
use Rattle.tb_basic_syntax.specs.Source.{numbers, Rises}
use Rattle.tb_basic_meaning.specs.Control.{first_place, has_line, content_at}
use Rattle.tb_lower.specs.Slots.{Instr, Poll, SlotCode}
use Rattle.tb_lower.specs.Ranges.{AreInRange}
use Rattle.tb_runtime16.specs.Addresses.{PROLOGUE_AT}
use Rattle.tb_compiled_kept.specs.Addresses.{LINES_AT}
use Rattle.tb_runtime16.specs.Block.{block_bytes}
use Rattle.tb_assembly_settling.specs.Settled.{AreFormsOf}
use Rattle.tb_compiler_templates.specs.declared.labels.Target.TheVariants as target
use Rattle.tb_compiler_templates.specs.Templates.{next_line}
use Rattle.tb_compiler_program.specs.Program.{line_code, past_code, table_code}
use Rattle.tb_compiler_program.specs.Search.{compares, find_code}
use Rattle.tb_machine_reaching.specs.View.{Part, Bytes}
use Rattle.tb_proof_simulation.specs.Layout.{Lies, label_address, place_address, layout_of}

-- each list of slot code begins by taking an answer
abbrev pub ArePolled : SlotCode → Type 0
ArePolled [] = Unit {0}
ArePolled (line ∷ lines) = ((rest : List Instr) × (line.content ≡ Poll ∷ rest)) × ArePolled lines

-- no line begins inside these items
abbrev pub IsClear : List (Name × ℕ) → List ℕ → ℕ → List Entry → Type 0
IsClear labels ns at es =
    (n : ℕ) → has_line ns n ≡ true → (label_address labels (target.Line n) < at) ⊎ (at + size es ≤ label_address labels (target.Line n))

-- a line's settled code, which has bytes, lies at its label; its branches reach; the next line's code or fault 7 follows
-- it; and no line begins inside it but itself
pub record LineLies (labels : List (Name × ℕ)) (code : Part) (ns : List ℕ) (seed n : ℕ) (is : List Instr) : Type 0 where
  pub forms : List Form
  pub of : AreFormsOf (line_code ns seed (record { number = n; content = is })) forms
  pub some : 1 ≤ size (items_from (label_address labels (target.Line n)) forms)
  pub lies : Lies code labels (label_address labels (target.Line n)) (items_from (label_address labels (target.Line n)) forms)
  pub near : some_branch_far labels (label_address labels (target.Line n)) (items_from (label_address labels (target.Line n)) forms) ≡ false
  pub next : label_address labels (target.Line n) + size (items_from (label_address labels (target.Line n)) forms) ≡ label_address labels (next_line ns n)
  pub clear : (m : ℕ) → has_line ns m ≡ true → (label_address labels (target.Line m) ≤ label_address labels (target.Line n)) ⊎ (label_address labels (target.Line n)
      + size (items_from (label_address labels (target.Line n)) forms) ≤ label_address labels (target.Line m))
  pub ranged : AreInRange 256 is
  pub small : n < 65536
  pub after_block : LINES_AT ≤ label_address labels (target.Line n)

-- the code of a program lies where the labels say
pub record Laid (labels : List (Name × ℕ)) (seed : ℕ) (code : Part) (program : SlotCode) : Type 0 where
  pub block : Bytes code PROLOGUE_AT block_bytes
  pub lines : (n : ℕ) (is : List Instr) → content_at program n ≡ Some is → LineLies labels code (numbers program) seed n is
  pub past : Lies code labels (label_address labels target.Past) (past_code (numbers program))
  pub past_clear : IsClear labels (numbers program) (label_address labels target.Past) (past_code (numbers program))
  pub find : Lies code labels (label_address labels target.Find) (find_code (compares program) (numbers program))
  pub find_clear : IsClear labels (numbers program) (label_address labels target.Find) (find_code (compares program) (numbers program))
  pub table : Lies code labels (label_address labels target.Table) (table_code (numbers program))
  pub table_clear : IsClear labels (numbers program) (label_address labels target.Table) (table_code (numbers program))
  -- the lines begin after the block
  pub first : place_address (layout_of labels (numbers program) seed) (first_place (numbers program)) ≡ LINES_AT
  pub some : 1 ≤ length (numbers program)
  pub rising : Rises 0 65536 (numbers program)
  pub seed_small : seed < 65536
  pub count_small : length (numbers program) < 65536
  pub bytes_small : (a b : ℕ) → code a ≡ Some b → b < 256
