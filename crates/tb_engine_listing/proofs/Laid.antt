-- The addresses of a compiled program's parts: the block, its lines, and the line table after them.
use Rattle.std.proofs.Common.{◌≡◌, ℕ, ◌+◌, ◌-◌, ◌≤◌, List, [], ◌∷◌, ◌++◌, length, ap, sym, subst, ◌∙◌, arith, refl, length-append}
use Rattle.std.specs.Prelude.{unwrap_or}
use Rattle.tb_asm.specs.declared.names.Name.{Name}
use Rattle.tb_asm.specs.Layout.{labels_from, image_of, size}
use Rattle.tb_asm.specs.Settle.{Form, items_from}
use Rattle.tb_asm.proofs.Laws.{all_size}
use Rattle.tb_asm.proofs.Settled.{settled_reaches}
use Rattle.tb_basic_syntax.specs.Source.{Numbered, Program, numbers, Rises}
use Rattle.tb_basic_syntax.specs.PlainData.{lines_of}
use Rattle.tb_basic_syntax.specs.declared.statements.Statement.{Statement}
use Rattle.tb_lower.specs.Lowered as lowered
use Rattle.tb_lower.specs.Slots.{Instr}
use Rattle.tb_lower.proofs.Ranged.{in_range}
use Rattle.tb_parser.specs.Files.{AreStated}
use Rattle.tb_prg.specs.Prg.{header}
use Rattle.tb_runtime16.specs.Addresses.{PROLOGUE_AT}
use Rattle.tb_compiled_kept.specs.Addresses.{LINES_AT}
use Rattle.tb_assembly_settling.specs.Settled.{AreFormsOf}
use Rattle.tb_assembly_settling.proofs.Forms.{forms_size, items_size, size_append, split, settled_by}
use Rattle.tb_compiler_templates.specs.declared.labels.Target.TheVariants.{Line}
use Rattle.tb_compiler_templates.specs.Labels.{label_of}
use Rattle.tb_compiler_program.specs.Layout.{LabelsAt}
use Rattle.tb_compiler_program.specs.Search.{compares, find_code}
use Rattle.tb_compiler_program.specs.Program.{line_code, lines_code, past_code, table_code, block_code, program_code}
use Rattle.tb_compiler_program.proofs.Settled.{Sections, sections, labels_behind, line_at, some_bytes, total_size}
use Rattle.tb_compiler_program.proofs.Taken.{block_size}
use Rattle.tb_compiled.specs.declared.compiled.Compiled.{Compiled}
use Rattle.tb_codegen.specs.Coded.{IsListed}
use Rattle.tb_codegen.specs.Compiled.{IsLinked, starts_in, stands_at}
use Rattle.tb_compiled.specs.Compiled.{AddressesRise, prg_of, starts_of, table_of}
use Rattle.tb_codegen.proofs.Sized.{listed}
use Rattle.tb_codegen.proofs.Placed.{starts_low}

-- lines that begin one after another from $0C00 on, and a line table after them in an image with this many bytes
pub record AreLaid (starts : List (ℕ × ℕ)) (table bytes : ℕ) : Type 0 where
  pub rising : AddressesRise LINES_AT (starts ++ (0, table) ∷ [])
  pub within : table ≤ PROLOGUE_AT + bytes
  pub ends : PROLOGUE_AT + bytes ≤ 0xA000

-- sums of addresses (by themselves, so that no proof about them reads what lies there)
front_within : (a front end : ℕ) → a + front ≤ end → a ≤ end
front_within a front end le = omega arith

not_below : (a there : ℕ) → there ≡ a → a ≤ there
not_below a there e = omega arith

past_first : (a front there : ℕ) → there ≡ a → 1 ≤ front → there + 1 ≤ a + front
past_first a front there e some = omega arith

back_within : (a whole front back end : ℕ) → whole ≡ front + back → a + whole ≤ end → a + front + back ≤ end
back_within a whole front back end e le = omega arith

before_table : (table own past find : ℕ) → table ≡ LINES_AT + own + past + find → LINES_AT + own ≤ table
before_table table own past find e = omega arith

-- lines begin one after another, and what is laid after their code comes after them
lines_rise : (labels : List (Name × ℕ)) (ns : List ℕ) (seed a : ℕ) (p : Program) (fs : List Form) (end : ℕ)
    → AreFormsOf (lines_code ns seed (lowered.program_code p)) fs → LabelsAt labels a (items_from a fs) → a + forms_size fs ≤ end
    → AddressesRise a (starts_in labels (numbers p) ++ (0, end) ∷ [])
lines_rise labels ns seed a [] fs end h l le = (front_within a (forms_size fs) end le, tt)
lines_rise labels ns seed a (line ∷ lines) fs end h l le =
    let own : Numbered (List Instr) = record { number = line.number; content = lowered.list_code line.content } in
    let s = split (line_code ns seed own) (lines_code ns seed (lowered.program_code lines)) fs h in
    let ls = labels_behind labels a fs s.front s.back s.are l in
    let at = stands_at labels (label_of (Line line.number)) in
    let there : at ≡ a = ap (λ o. unwrap_or o 0) (line_at labels ns seed a own s.front s.of_front ls.0) in
    let long = some_bytes ns seed line.number (lowered.statement_code line.content) s.front s.of_front in
    let all = total_size a fs s.front s.back s.are in
    let b = a + forms_size s.front in (
      not_below a at there,
      starts_low (at + 1) b (starts_in labels (numbers lines) ++ (0, end) ∷ []) (past_first a (forms_size s.front) at there long)
          (lines_rise labels ns seed b lines s.back end s.of_back ls.1 (back_within a (forms_size fs) (forms_size s.front) (forms_size s.back) end all le)),
    )

-- the parts of a compiled program are laid in this way
pub are_laid : (seed : ℕ) (ls : List (ℕ × Statement)) (c : Compiled) → AreStated (lines_of ls) → Rises 1 32768 (numbers (lines_of ls))
    → IsLinked seed (lines_of ls) c → AreLaid (starts_of c) (table_of c) (length (prg_of c) - 14)
are_laid seed ls c stated rises h =
    let p = lines_of ls in
    let code = lowered.program_code p in
    let ns = numbers code in
    let s : IsListed code = listed p refl stated rises (in_range ls code h.shallow refl) in
    let labels = labels_from PROLOGUE_AT h.items in
    let g : Sections seed code h.items labels = sections seed code s.lists s.rising h.items
    (settled_by PROLOGUE_AT (program_code seed code) h.items h.settled (settled_reaches PROLOGUE_AT (program_code seed code) h.items h.settled)) in
    let own = items_from LINES_AT g.lines in
    let past = past_code ns in let find = find_code (compares code) ns in let rows = table_code ns in
    let table : table_of c ≡ LINES_AT + forms_size g.lines + size past + size find = ap (λ o. unwrap_or o 0) (sym h.table ∙ g.table) in
    let all : size h.items ≡ size block_code + (size own + (size past + (size find + size rows))) =
    ap size g.are ∙ size_append block_code (own ++ (past ++ (find ++ rows)))
    ∙ ap (λ n. size block_code + n) (size_append own (past ++ (find ++ rows))
    ∙ ap (λ n. size own + n) (size_append past (find ++ rows) ∙ ap (λ n. size past + n) (size_append find rows))) in
    let own_size : size own ≡ forms_size g.lines = items_size LINES_AT g.lines in
    let file : length (prg_of c) ≡ length header + length (image_of PROLOGUE_AT h.items) = ap length h.prg ∙ length-append header (image_of PROLOGUE_AT h.items) in
    let image : length (image_of PROLOGUE_AT h.items) ≡ size h.items = all_size labels PROLOGUE_AT h.items in
    record {
      rising = subst (λ ss. AddressesRise LINES_AT (ss ++ (0, table_of c) ∷ [])) (sym h.starts)
          (lines_rise labels ns seed LINES_AT p g.lines (table_of c) g.of_lines g.line_labels (before_table (table_of c) (forms_size g.lines) (size past) (size find) table));
      within = lies (table_of c) (length (prg_of c)) (length (image_of PROLOGUE_AT h.items)) (size h.items) (forms_size g.lines) (size block_code)
          (size past) (size find) (size rows) (size own) table all block_size own_size file image;
      ends = fits (length (prg_of c)) (length (image_of PROLOGUE_AT h.items)) (size h.items) file image h.ends;
    }
  where
    lies : (t n m k l block past find rows own : ℕ) → t ≡ LINES_AT + l + past + find → k ≡ block + (own + (past + (find + rows)))
        → block ≡ 1011 → own ≡ l → n ≡ 14 + m → m ≡ k → t ≤ PROLOGUE_AT + (n - 14)
    lies t n m k l block past find rows own e a b o f i = omega arith

    fits : (n m k : ℕ) → n ≡ 14 + m → m ≡ k → PROLOGUE_AT + k ≤ 0xA000 → PROLOGUE_AT + (n - 14) ≤ 0xA000
    fits n m k e f l = omega arith
