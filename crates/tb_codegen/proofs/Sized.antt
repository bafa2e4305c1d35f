-- Small programs have code that settles and that the assembler takes, and the addresses of their lines.
use Rattle.std.proofs.Common.{◌≡◌, ℕ, ◌+◌, ◌≤◌, List, [], ◌∷◌, ◌++◌, length, map, ap, sym, subst, ◌∙◌}
use Rattle.std.proofs.Common.{arith, refl, true, None, Some, is_some, append_assoc, length-append}
use Rattle.tb_asm.specs.declared.names.Name.{Name}
use Rattle.tb_asm.specs.Layout.{Entry, size, address_in, labels_from, image_of, bytes_from}
use Rattle.tb_asm.specs.Settle.{kept, items_from, SettlesTo}
use Rattle.tb_asm.proofs.Laws.{all_size, bytes_append}
use Rattle.tb_basic_syntax.specs.Source.{Program, numbers, Rises}
use Rattle.tb_basic_syntax.specs.Texts.{HasShortTexts}
use Rattle.tb_basic_meaning.specs.Cost.{cost}
use Rattle.tb_lower.specs.Lowered as lowered
use Rattle.tb_basic_meaning.specs.Missing.{missing_targets}
use Rattle.tb_basic_meaning.specs.Need.{too_deep}
use Rattle.tb_lower.specs.Ranges.{IsCodeInRange}
use Rattle.tb_lower.specs.Slots.{Instr, Put, Load, Store, Negate, Compute, Random, SendText, SendNumber, SendZone, SendNewline, Input, Poll, Hold, LeaveUnless}
use Rattle.tb_lower.specs.Slots.{Jump, Call, JumpTo, CallTo, Return, End, SlotCode}
use Rattle.tb_parser.specs.Files.{AreStated}
use Rattle.tb_prg.specs.Prg.{header}
use Rattle.tb_runtime16.specs.Addresses.{PROLOGUE_AT}
use Rattle.tb_compiled_kept.specs.Addresses.{LINES_AT}
use Rattle.tb_assembly_settling.specs.Settled.{IsLaid}
use Rattle.tb_assembly_settling.proofs.Forms.{forms_most, items_size, kept_forms, settled_forms}
use Rattle.tb_compiler_templates.specs.declared.labels.Target.TheVariants.{Past, Table}
use Rattle.tb_compiler_templates.specs.Labels.{label_of}
use Rattle.tb_compiler_program.specs.Sizes.{room, list_room}
use Rattle.tb_compiler_program.specs.Program.{past_code, table_code, block_code, program_code, AreCodable}
use Rattle.tb_compiler_program.specs.Search.{compares, find_code}
use Rattle.tb_compiler_program.proofs.Fitting.{statement_room, program_fits}
use Rattle.tb_compiler_program.proofs.Prices.{program_price}
use Rattle.tb_compiler_program.proofs.Taken.{block_size, program_most}
use Rattle.tb_words.specs.Words.{word_of}
use Rattle.tb_compiled.specs.declared.compiled.Compiled.{Compiled}
use Rattle.tb_compiled.specs.Compiled.{prg_of, starts_of, table_of, warnings_of, AddressesRise, most_cost}
use Rattle.tb_codegen.specs.Compiled.{IsLinked, starts_in, stands_at, AreKnown}
use Rattle.tb_codegen.specs.Coded.{IsListed, SettlesTooLong}
use Rattle.tb_compiled.specs.Texts.{LinesHoldTexts, offset_of}
use Rattle.tb_compiler_program.proofs.Settled.{Sections, sections}
use Rattle.tb_codegen.proofs.Placed.{lines_known, lines_begin_in_order, start_numbers}
use Rattle.tb_codegen.proofs.Texts.{lines_texts}
use Rattle.tb_compiled.proofs.SmallPrograms.{AreSmall, are_small, small_spaced, small_short, few_lines, count_numbers}

-- ── counts ──
one_room : (i : Instr) → 1 ≤ room i
one_room (Put k w) = omega arith
one_room (Load k x) = omega arith
one_room (Store x) = omega arith
one_room (Negate k) = omega arith
one_room (Compute op k) = omega arith
one_room (Random k) = omega arith
one_room (SendText bs) = omega arith
one_room SendNumber = omega arith
one_room SendZone = omega arith
one_room SendNewline = omega arith
one_room (Input x) = omega arith
one_room Poll = omega arith
one_room Hold = omega arith
one_room (LeaveUnless rel) = omega arith
one_room Jump = omega arith
one_room Call = omega arith
one_room (JumpTo to) = omega arith
one_room (CallTo to) = omega arith
one_room Return = omega arith
one_room End = omega arith

list_length : (is : List Instr) → length is ≤ list_room is
list_length [] = omega arith
list_length (i ∷ is) = let a = one_room i in let b = list_length is in omega (arith, a, b)

-- ── numbers ──
pub same_numbers : (p : Program) → numbers (lowered.program_code p) ≡ numbers p
same_numbers [] = refl
same_numbers (line ∷ lines) = ap (λ ns. line.number ∷ ns) (same_numbers lines)

rising_words : (low : ℕ) (ns : List ℕ) → Rises (low + 1) 32768 ns → Rises (low + 1) 65536 ns
rising_words low [] h = tt
rising_words low (n ∷ ns) h = (omega (arith, h.0), omega (arith, h.1), rising_words n ns h.2)

rising_zero : (ns : List ℕ) → Rises 1 65536 ns → Rises 0 65536 ns
rising_zero [] h = tt
rising_zero (n ∷ ns) h = (omega arith, h.1, h.2)

-- slot code has rising line numbers if its program has
code_rises : (p : Program) → Rises 1 32768 (numbers p) → Rises 0 65536 (numbers (lowered.program_code p))
code_rises p h = subst (Rises 0 65536) (sym (same_numbers p)) (rising_zero (numbers p) (rising_words 0 (numbers p) h))

-- ── a file's code ──
-- a line of a file has a list of a bounded length
lists_codable : (p : Program) → AreSmall p → IsCodeInRange 256 (lowered.program_code p) → AreCodable (lowered.program_code p)
lists_codable [] small ranges = tt
lists_codable (line ∷ lines) small ranges = (
  ranges.0,
  let a = list_length (lowered.list_code line.content) in let b = statement_room line.content small.0.spaced in let c = small.0.paid in omega (arith, a, b, c),
  lists_codable lines small.1 ranges.1,
)

listed_code : (p : Program) → AreSmall p → Rises 1 32768 (numbers p) → IsCodeInRange 256 (lowered.program_code p) → IsListed (lowered.program_code p)
listed_code p small rises ranges =
    record {
      lists = lists_codable p small ranges;
      lines = let a = few_lines p rises in let b = count_numbers (lowered.program_code p) in let c = ap length (same_numbers p) in let d = count_numbers p in omega (arith, a, b, c, d);
      rising = code_rises p rises;
    }

-- the slot code of a file's program is listed
pub listed : (p : Program) {code : SlotCode} → code ≡ lowered.program_code p → AreStated p → Rises 1 32768 (numbers p)
    → ((limit : ℕ) → HasShortTexts limit p → IsCodeInRange limit code) → IsListed code
listed p same stated rises ranges =
    let small = are_small p stated in
    subst IsListed (sym same) (listed_code p small rises (subst (IsCodeInRange 256) same (ranges 256 (small_short p small))))

-- a program whose cost is small enough does not take too much
pub cheap_fits : (seed : ℕ) (p : Program) {code : SlotCode} {n : ℕ} → code ≡ lowered.program_code p → AreStated p → cost p ≤ most_cost → SettlesTooLong n seed code → ⊥
cheap_fits seed p {code} {n} same stated cheap long =
    let t = subst (SettlesTooLong n seed) same long in
    let es = program_code seed (lowered.program_code p) in
    let a = program_fits p (small_spaced p (are_small p stated)) in
    let b = program_most seed (lowered.program_code p) (cost p) a (program_price p) in
    let d = forms_most es t.forms (settled_forms PROLOGUE_AT es (map kept es) t.forms t.rounds (kept_forms es)) in
    let e = items_size PROLOGUE_AT t.forms in
    let f = t.past in let g = t.takes in
    omega (arith, b, cheap, d, e, f, g)

-- ── its image ──
module _ (seed : ℕ) {code : SlotCode} (s : IsListed code) {from : ℕ} {image : List ℕ} {labels : List (Name × ℕ)} (l : IsLaid PROLOGUE_AT (program_code seed code) from image labels) where
  abbrev items : List Entry
  items = l.items

  abbrev own : List (Name × ℕ)
  own = labels_from PROLOGUE_AT items

  -- the sections of a program's settled code
  pub placed : Sections seed code items own
  placed = sections seed code s.lists s.rising items l.settled

  -- each line has a label
  pub known : AreKnown labels (numbers code)
  known = subst (λ ls. AreKnown ls (numbers code)) (sym l.labels_are) (lines_known own (numbers code) seed LINES_AT code placed.lines placed.of_lines placed.line_labels)

  -- the line table has a label
  pub has_table : is_some (address_in labels (label_of Table)) ≡ true
  has_table = ap (λ ls. is_some (address_in ls (label_of Table))) l.labels_are ∙ ap is_some placed.table

  -- the items are as long as the image's bytes
  pub bytes_end : PROLOGUE_AT + length image ≤ 0xA000 → PROLOGUE_AT + size items ≤ 0xA000
  bytes_end h = let a = ap length l.bytes_are in let b = all_size own PROLOGUE_AT items in omega (arith, a, b, h)

-- ── what is compiled ──
-- the texts of a PRG file's program
file_texts : (seed : ℕ) (p : Program) (items : List Entry) (file : List ℕ) → Sections seed (lowered.program_code p) items
    (labels_from PROLOGUE_AT items) → file ≡ header ++ image_of PROLOGUE_AT items
    → LinesHoldTexts file (stands_at (labels_from PROLOGUE_AT items) (label_of Past)) (starts_in (labels_from PROLOGUE_AT items) (numbers p)) p
file_texts seed p items file g is =
    let code = lowered.program_code p in
    let ns = numbers code in
    let labels = labels_from PROLOGUE_AT items in
    let lines = items_from LINES_AT g.lines in
    let tail = past_code ns ++ (find_code (compares code) ns ++ table_code ns) in
    let start = PROLOGUE_AT + size block_code in
    let here : start ≡ LINES_AT = (let b = block_size in omega (arith, b)) in
    let block = bytes_from labels PROLOGUE_AT block_code in
    let body = bytes_from labels LINES_AT lines in
    let back = bytes_from labels (LINES_AT + size lines) tail in
    let image : image_of PROLOGUE_AT items ≡ block ++ (body ++ back) =
    ap (bytes_from labels PROLOGUE_AT) g.are ∙ bytes_append labels PROLOGUE_AT block_code (lines ++ tail)
    ∙ ap (λ a. block ++ bytes_from labels a (lines ++ tail)) here ∙ ap (λ b. block ++ b) (bytes_append labels LINES_AT lines tail) in
    let whole : (header ++ block) ++ (body ++ back) ≡ file = append_assoc header block (body ++ back) ∙ ap (λ b. header ++ b) (sym image) ∙ sym is in
    let before : length (header ++ block) ≡ offset_of LINES_AT =
    (let a = length-append header block in let b = all_size labels PROLOGUE_AT block_code in let c = block_size in omega (arith, a, b, c)) in
    subst (λ f. LinesHoldTexts f (stands_at labels (label_of Past)) (starts_in labels (numbers p)) p) whole
    (lines_texts labels ns seed (stands_at labels (label_of Past)) LINES_AT p g.lines (header ++ block) back g.of_lines g.line_labels g.past (omega arith) before)

-- a program's compiled form, from its image's bytes and labels
pub made : {seed : ℕ} {p : Program} {code : SlotCode} (c : Compiled) {from : ℕ} {image : List ℕ} {labels : List (Name × ℕ)}
    → code ≡ lowered.program_code p → IsListed code → too_deep p ≡ None
    → (l : IsLaid PROLOGUE_AT (program_code seed code) from image labels) → PROLOGUE_AT + size l.items ≤ 0xA000
    → prg_of c ≡ header ++ image → starts_of c ≡ starts_in labels (numbers code) → address_in labels (label_of Table) ≡ Some (table_of c)
    → map (λ w. (w.line, word_of w.target)) (warnings_of c) ≡ missing_targets p → IsLinked seed p c
made {seed} {p} {code} c same s shallow l ends file starts table warned =
    let own = labels_from PROLOGUE_AT l.items in
    let own_numbers : numbers code ≡ numbers p = ap numbers same ∙ same_numbers p in
    let all : starts_of c ≡ starts_in own (numbers p) = starts ∙ ap (λ ls. starts_in ls (numbers code)) l.labels_are ∙ ap (starts_in own) own_numbers in
    let bytes : prg_of c ≡ header ++ image_of PROLOGUE_AT l.items = file ∙ ap (λ b. header ++ b) l.bytes_are in
    let g : Sections seed (lowered.program_code p) l.items own = subst (λ k. Sections seed k l.items own) same (placed seed s l) in
    record {
      shallow = shallow;
      items = l.items;
      settled = subst (λ k. SettlesTo PROLOGUE_AT (program_code seed k) l.items) same l.rounds;
      prg = bytes;
      texts = subst (λ ss. LinesHoldTexts (prg_of c) (stands_at own (label_of Past)) ss p) (sym all) (file_texts seed p l.items (prg_of c) g bytes);
      ends = ends;
      starts = all;
      lines = ap (map (λ s. s.0)) all ∙ start_numbers own (numbers p);
      rising = subst (AddressesRise LINES_AT) (sym all) (lines_begin_in_order own (numbers (lowered.program_code p)) seed LINES_AT p g.lines g.of_lines g.line_labels);
      table = ap (λ ls. address_in ls (label_of Table)) (sym l.labels_are) ∙ table;
      warned = warned;
    }
