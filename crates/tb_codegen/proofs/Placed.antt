-- Where the lines of a compiled program begin.
use Rattle.std.proofs.Common.{◌≡◌, ℕ, ◌+◌, ◌≤◌, List, [], ◌∷◌, map, ap, arith, refl, is_some}
use Rattle.std.specs.Prelude.{unwrap_or}
use Rattle.tb_asm.specs.declared.names.Name.{Name}
use Rattle.tb_asm.specs.Settle.{Form, items_from}
use Rattle.tb_basic_syntax.specs.Source.{Numbered, Program, numbers}
use Rattle.tb_lower.specs.Lowered as lowered
use Rattle.tb_lower.specs.Slots.{Instr, SlotCode}
use Rattle.tb_assembly_settling.specs.Settled.{AreFormsOf}
use Rattle.tb_assembly_settling.proofs.Forms.{forms_size, split}
use Rattle.tb_compiler_templates.specs.declared.labels.Target.TheVariants.{Line}
use Rattle.tb_compiler_templates.specs.Labels.{label_of}
use Rattle.tb_compiler_program.specs.Layout.{LabelsAt}
use Rattle.tb_compiler_program.specs.Program.{line_code, lines_code}
use Rattle.tb_compiler_program.proofs.Settled.{labels_behind, line_at, some_bytes}
use Rattle.tb_codegen.specs.Compiled.{starts_in, stands_at, AreKnown}
use Rattle.tb_compiled.specs.Compiled.{AddressesRise}

-- each line has a label in the settled code of the lines
pub lines_known : (labels : List (Name × ℕ)) (ns : List ℕ) (seed a : ℕ) (lines : SlotCode) (fs : List Form)
    → AreFormsOf (lines_code ns seed lines) fs → LabelsAt labels a (items_from a fs) → AreKnown labels (numbers lines)
lines_known labels ns seed a [] fs h l = tt
lines_known labels ns seed a (line ∷ lines) fs h l =
    let s = split (line_code ns seed line) (lines_code ns seed lines) fs h in
    let ls = labels_behind labels a fs s.front s.back s.are l in
    (ap is_some (line_at labels ns seed a line s.front s.of_front ls.0), lines_known labels ns seed (a + forms_size s.front) lines s.back s.of_back ls.1)

-- addresses that rise from one number rise from any lower one
pub starts_low : (low low' : ℕ) (starts : List (ℕ × ℕ)) → low ≤ low' → AddressesRise low' starts → AddressesRise low starts
starts_low low low' [] l h = tt
starts_low low low' (s ∷ starts) l h = (omega (arith, l, h.0), h.1)

-- the lines begin in rising order
pub lines_begin_in_order : (labels : List (Name × ℕ)) (ns : List ℕ) (seed a : ℕ) (p : Program) (fs : List Form)
    → AreFormsOf (lines_code ns seed (lowered.program_code p)) fs → LabelsAt labels a (items_from a fs) → AddressesRise a (starts_in labels (numbers p))
lines_begin_in_order labels ns seed a [] fs h l = tt
lines_begin_in_order labels ns seed a (line ∷ lines) fs h l =
    let own : Numbered (List Instr) = record { number = line.number; content = lowered.list_code line.content } in
    let s = split (line_code ns seed own) (lines_code ns seed (lowered.program_code lines)) fs h in
    let ls = labels_behind labels a fs s.front s.back s.are l in
    let there : stands_at labels (label_of (Line line.number)) ≡ a = ap (λ o. unwrap_or o 0) (line_at labels ns seed a own s.front s.of_front ls.0) in
    let long = some_bytes ns seed line.number (lowered.statement_code line.content) s.front s.of_front in
    let b = a + forms_size s.front in (
      omega (arith, there),
      starts_low (stands_at labels (label_of (Line line.number)) + 1) b (starts_in labels (numbers lines))
          (omega (arith, there, long)) (lines_begin_in_order labels ns seed b lines s.back s.of_back ls.1),
    )

-- the starts have the numbers of the lines
pub start_numbers : (labels : List (Name × ℕ)) (ns : List ℕ) → map (λ s. s.0) (starts_in labels ns) ≡ ns
start_numbers labels [] = refl
start_numbers labels (n ∷ ns) = ap (λ ms. n ∷ ms) (start_numbers labels ns)
