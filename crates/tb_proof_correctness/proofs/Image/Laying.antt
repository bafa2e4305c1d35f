-- A program whose settled code lies where its labels say is laid out as the laws of the groups want it.
use Rattle.std.proofs.Common.{leb, ◌≡◌, ◌⊎◌, ℕ, ◌+◌, ◌/◌, ◌%◌, ◌≤◌, ◌<◌, Bool, true, false, ◌||◌, List, [], ◌∷◌, ◌++◌}
use Rattle.std.proofs.Common.{length, refl, sym, ap, ◌∙◌, subst, inr, ⊎_elim, arith, Some, None}
use Rattle.std.specs.Prelude.{if◌then◌else◌, nat_eq}
use Rattle.std.proofs.lemmas.Bool.{leb-true, eq-eqb, ne_eqb}
use Rattle.std.proofs.Math.Bool.{or-true}
use Rattle.tb_opcodes.specs.declared.Mnemonic.TheVariants.{Jmp}
use Rattle.tb_opcodes.specs.Opcodes as opcodes
use Rattle.tb_asm.specs.declared.names.Name.{Name}
use Rattle.tb_asm.specs.declared.items.Operand.TheVariants.{LowOf, HighOf}
use Rattle.tb_asm.specs.Layout.{Entry, bytes_from, number_in, size}
use Rattle.tb_asm.proofs.Laws.{bytes_append, all_size}
use Rattle.tb_machine_reaching.specs.View.{Part, Bytes}
use Rattle.tb_machine_reaching.proofs.Parts.{bytes_front}
use Rattle.tb_basic_syntax.specs.Source.{numbers, Rises}
use Rattle.tb_basic_meaning.specs.Control.{Place, At, Past, has_line, highest, content_at}
use Rattle.tb_lower.specs.Slots as slots
use Rattle.tb_compiled_kept.specs.Addresses.{COUNT, LINES_AT, RESULT, TABLE, WANTED}
use Rattle.tb_runtime16.specs.Addresses.{PROLOGUE_AT, SEARCH_AT}
use Rattle.tb_runtime16.specs.Block.{block_bytes}
use Rattle.tb_assembly_settling.proofs.Forms.{size_append}
use Rattle.tb_compiler_templates.specs.declared.labels.Target.TheVariants as target
use Rattle.tb_compiler_templates.specs.Templates as product
use Rattle.tb_compiler_program.specs.Program as program
use Rattle.tb_compiler_program.specs.Search as search
use Rattle.tb_compiler_program.specs.Search.{compares}
use Rattle.tb_compiler_templates.specs.Labels.{label_of}
use Rattle.tb_compiler_program.proofs.Reached.{labels_split}
use Rattle.tb_proof_simulation.specs.Layout.{Layout, Lies, label_address, layout_of, place_address, inner}
use Rattle.tb_compiled_kept.specs.LineStarts.{is_start}
use Rattle.tb_proof_simulation.proofs.Resolved as resolved
use Rattle.tb_proof_simulation.proofs.Resolved.{Piece, pieces_size}
use Rattle.tb_proof_simulation.proofs.Emitted.{pieces_bytes, pieces_length, behind, lies}
use Rattle.tb_proof_simulation.proofs.LineStarts.{has_content}
use Rattle.tb_proof_simulation.proofs.Numbers.{joined, constant_bytes, faulted_bytes, address_bytes, start_of_line, low_byte, high_byte, low_of, high_of}
use Rattle.tb_proof_correctness.specs.Laid.{IsClear, LineLies, Laid}

-- ---- one list of items after another
module _ (code : Part) (labels : List (Name × ℕ)) where
  -- the first of two lists of items lies there
  pub front : (a : ℕ) (xs ys : List Entry) → Lies code labels a (xs ++ ys) → Lies code labels a xs
  front a xs ys h = record {
    bytes = bytes_front code a (bytes_from labels a xs) (bytes_from labels (a + size xs) ys) (subst (Bytes code a) (bytes_append labels a xs ys) h.bytes);
    labelled = (labels_split labels a xs ys h.labelled).0;
    below = omega (arith, h.below, size_append xs ys);
  }

  -- the second of two lists of items lies after the first
  pub back : (a : ℕ) (xs ys : List Entry) → Lies code labels a (xs ++ ys) → Lies code labels (a + size xs) ys
  back a xs ys h = record {
    bytes = subst (λ n. Bytes code (a + n) (bytes_from labels (a + size xs) ys)) (all_size labels a xs) (behind code a (bytes_from labels a xs)
        (bytes_from labels (a + size xs) ys) (omega (arith, h.below, size_append xs ys, all_size labels a xs)) (subst (Bytes code a) (bytes_append labels a xs ys) h.bytes));
    labelled = (labels_split labels a xs ys h.labelled).1;
    below = omega (arith, h.below, size_append xs ys);
  }

-- ---- addresses at which no line begins
module _ (ly : Layout) (code : Part) where
  inner_same : (a : ℕ) → is_start ly.start ly.numbers a ≡ false → inner ly code a ≡ code a
  inner_same a e = ap (λ t. if t then None else code a) e

  -- bytes in which no line begins are among the inner bytes
  pub inner_bytes : (at : ℕ) (bs : List ℕ) → at + length bs ≤ 0xa000 → ((a : ℕ) → at ≤ a → a < at + length bs → is_start ly.start ly.numbers a
      ≡ false) → Bytes code at bs → Bytes (inner ly code) at bs
  inner_bytes at [] small none h = tt
  inner_bytes at (b ∷ bs) small none h =
      let e : (at + 1) % 65536 ≡ at + 1 = omega (arith, small) in (
        inner_same at (none at (omega arith) (omega arith)) ∙ h.0,
        subst (λ p. Bytes (inner ly code) p bs) (sym e) (inner_bytes (at + 1) bs (omega (arith, small)) (λ a lo hi. none a (omega (arith, lo))
            (omega (arith, hi))) (subst (λ p. Bytes code p bs) e h.1)),
      )

-- a number of the list has a line
module _ (labels : List (Name × ℕ)) (all : List ℕ) (seed : ℕ) where
  abbrev ly : Layout
  ly = layout_of labels all seed

  -- an address that is no line's label is no start
  pub no_start : (ns : List ℕ) → ((n : ℕ) → has_line ns n ≡ true → has_line all n ≡ true) → (a : ℕ)
      → ((n : ℕ) → has_line all n ≡ true → a ≡ label_address labels (target.Line n) → ⊥) → is_start ly.start ns a ≡ false
  no_start [] among a none = refl
  no_start (n ∷ ns) among a none =
      let here : has_line all n ≡ true = among n (ap (λ b. b || has_line ns n) (eq-eqb n n refl)) in
      ap (λ b. b || is_start ly.start ns a) (ne_eqb a (ly.start n) (λ e. none n here (e ∙ sym (start_of_line labels all seed n here))))
      ∙ no_start ns (λ m h. among m (ap (λ b. nat_eq n m || b) h ∙ or-true (nat_eq n m))) a none

-- ---- the lines' code as pieces
module _ (labels : List (Name × ℕ)) (seed : ℕ) (code : Part) (sc : slots.SlotCode) (laid : Laid labels seed code sc) where
  abbrev ns : List ℕ
  ns = numbers sc

  abbrev pub laid_layout : Layout
  laid_layout = layout_of labels ns seed

  abbrev within : Part
  within = inner laid_layout code

  -- the inner bytes are bytes
  pub within_small : (a b : ℕ) → within a ≡ Some b → b < 256
  within_small a b e = go (is_start laid_layout.start laid_layout.numbers a) e
    where
      go : (t : Bool) → (if t then None else code a) ≡ Some b → b < 256
      go true e = cc
      go false e = laid.bytes_small a b e

  -- ---- which numbers are lines
  pub content_has : (lines : slots.SlotCode) (n : ℕ) (is : List slots.Instr) → content_at lines n ≡ Some is → has_line (numbers lines) n ≡ true
  content_has [] n is e = cc
  content_has (l ∷ ls) n is e = go (nat_eq l.number n) (content_has ls n is) e
    where
      go : (t : Bool) → (content_at ls n ≡ Some is → has_line (numbers ls) n ≡ true) → (if t then Some l.content else content_at ls n) ≡ Some is → (t || has_line (numbers ls) n) ≡ true
      go true later e = refl
      go false later e = later e

  -- a number without a list is not a line
  pub content_none : (lines : slots.SlotCode) (n : ℕ) → content_at lines n ≡ None → has_line (numbers lines) n ≡ false
  content_none [] n e = refl
  content_none (l ∷ ls) n e = go (nat_eq l.number n) (content_none ls n) e
    where
      go : (t : Bool) → (content_at ls n ≡ None → has_line (numbers ls) n ≡ false) → (if t then Some l.content else content_at ls n) ≡ None → (t || has_line (numbers ls) n) ≡ false
      go true later e = cc
      go false later e = later e

  -- each line's code is laid as the specification says
  pub line_of : (n : ℕ) → has_line ns n ≡ true → (is : List slots.Instr) × LineLies labels code ns seed n is
  line_of n e = let c = has_content sc n e in (c.0, laid.lines n c.0 c.1)

  -- ---- addresses below 65,536
  line_small : (n : ℕ) → has_line ns n ≡ true → label_address labels (target.Line n) < 0xa000
  line_small n e = let l = line_of n e in omega (arith, l.1.lies.below, l.1.some)

  past_small : label_address labels target.Past < 0xa000
  past_small = omega (arith, laid.past.below)

  -- each line begins below $A000
  pub start_small : (n : ℕ) → laid_layout.start n < 0xa000
  start_small n = go (has_line ns n) refl
    where
      go : (t : Bool) → has_line ns n ≡ t → (if t then label_address labels (target.Line n) else label_address labels target.Past) < 0xa000
      go true e = line_small n e
      go false e = past_small

  -- each place of a run has an address below 65,536
  pub place_small : (p : Place) → place_address laid_layout p < 65536
  place_small (At n) = omega (arith, start_small n)
  place_small Past = omega (arith, past_small)

  -- the highest line number is a word
  pub top_small : (lines : slots.SlotCode) → ((n : ℕ) → has_line (numbers lines) n ≡ true → n < 65536) → highest (numbers lines) < 65536
  top_small [] h = omega arith
  top_small (l ∷ []) h = h l.number (ap (λ b. b || false) (eq-eqb l.number l.number refl))
  top_small (l ∷ k ∷ ls) h = top_small (k ∷ ls) (λ n e. h n (ap (λ b. nat_eq l.number n || b) e ∙ or-true (nat_eq l.number n)))

  -- ---- where no line begins
  pub none_between : (from to : ℕ) → ((n : ℕ) → has_line ns n ≡ true → (label_address labels (target.Line n) < from) ⊎
      (to ≤ label_address labels (target.Line n))) → (a : ℕ) → from ≤ a → a < to → is_start laid_layout.start laid_layout.numbers a ≡ false
  none_between from to clear a lo hi = no_start labels ns seed ns (λ n h. h) a (λ n e q. ⊎_elim (λ l. (let no : ⊥ = omega (arith, l, q, lo) in no))
      (λ l. (let no : ⊥ = omega (arith, l, q, hi) in no)) (clear n e))

  -- items that no line begins in lie among the inner bytes
  inside : (at : ℕ) (es : List Entry) → Lies code labels at es → IsClear labels ns at es → Lies within labels at es
  inside at es h clear = record {
    bytes = inner_bytes laid_layout code at (bytes_from labels at es) (omega (arith, h.below, all_size labels at es))
        (λ a lo hi. none_between at (at + size es) clear a lo (omega (arith, hi, all_size labels at es))) h.bytes;
    labelled = h.labelled;
    below = h.below;
  }

  -- items are the pieces that have their bytes
  pieces : (at : ℕ) (es : List Entry) (ps : List Piece) → Lies within labels at es → bytes_from labels at es ≡ pieces_bytes ps → (size es ≡ pieces_size ps) × resolved.Lies within at ps
  pieces at es ps h e =
      let same : size es ≡ pieces_size ps = sym (all_size labels at es) ∙ ap length e ∙ pieces_length ps in
      (same, lies within within_small at ps (omega (arith, h.below, same)) (subst (Bytes within at) e h.bytes))

  -- fault 7
  pub past_lies : resolved.Lies within (label_address labels target.Past) (resolved.past_code laid_layout)
  unfolding opcodes.encoded
  past_lies =
      let at = label_address labels target.Past in
      (pieces at (program.past_code ns) (resolved.past_code laid_layout) (inside at (program.past_code ns) laid.past laid.past_clear)
      (faulted_bytes labels ns seed at (highest ns) 7 (top_small sc (λ n e. (line_of n e).1.small)) (omega arith))).1

  -- the line table's address is a word
  pub table_small : label_address labels target.Table < 65536
  table_small = omega (arith, laid.table.below)

  -- the search in the line table
  looked_up_bytes : (at : ℕ) → bytes_from labels at (search.looked_up (length ns)) ≡ pieces_bytes (resolved.looked_up laid_layout)
  unfolding opcodes.encoded
  looked_up_bytes at =
      joined labels ns seed at 8 (product.address target.Table TABLE) (product.constant (length ns) COUNT ++ (product.at Jmp SEARCH_AT ∷ []))
      _ _ refl (address_bytes labels ns seed at target.Table (label_address labels target.Table) TABLE refl table_small (omega arith))
      (joined labels ns seed (at + 8) 10 (product.constant (length ns) COUNT) (product.at Jmp SEARCH_AT ∷ []) _ _ refl
      (constant_bytes labels ns seed (at + 8) (length ns) COUNT laid.count_small) refl)

  -- comparisons with some of the lines' numbers, before other pieces
  compared_bytes : (ms : List ℕ) (low : ℕ) → Rises low 65536 ms → ((n : ℕ) → has_line ms n ≡ true → has_line ns n ≡ true) → (at : ℕ) (es : List Entry)
      (ps : List Piece) → ((a : ℕ) → bytes_from labels a es ≡ pieces_bytes ps)
      → bytes_from labels at (search.all_compared ms ++ es) ≡ pieces_bytes (resolved.all_compared laid_layout ms ps)
  unfolding opcodes.encoded
  compared_bytes [] low r among at es ps h = h at
  compared_bytes (n ∷ ms) low r among at es ps h =
      let there = start_of_line labels ns seed n (among n (ap (λ b. b || has_line ms n) (eq-eqb n n refl))) in
      let small = start_small n in
      let l : number_in labels (LowOf (label_of (target.Line n))) % 256 ≡ laid_layout.start n % 256 = omega (arith, low_of labels ns seed (label_of (target.Line n)), there) in
      let u : number_in labels (HighOf (label_of (target.Line n))) % 256 ≡ laid_layout.start n / 256 = omega (arith, high_of labels ns seed (label_of (target.Line n)), there, small) in
      let rest = compared_bytes ms (n + 1) r.2 (λ m e. among m (ap (λ b. nat_eq n m || b) e ∙ or-true (nat_eq n m))) (at + 2 + 2 + 2 + 2 + 2 + 3 + 2 + 3 + 1) es ps h in
      λ i. 0xc9 ∷ low_byte n i ∷ 0xd0 ∷ 15 ∷ 0xe0 ∷ high_byte n r.1 i ∷ 0xd0 ∷ 11 ∷ 0xa9 ∷ l i ∷ 0x8d ∷ RESULT % 256 ∷ RESULT / 256 ∷ 0xa9 ∷ u i
      ∷ 0x8d ∷ (RESULT + 1) % 256 ∷ (RESULT + 1) / 256 ∷ 0x60 ∷ rest i

  -- the whole search
  find_bytes : (t : Bool) (at : ℕ) → bytes_from labels at (search.find_code t ns) ≡ pieces_bytes (resolved.find_code t laid_layout)
  unfolding opcodes.encoded
  find_bytes true at =
      let rest = compared_bytes ns 0 laid.rising (λ n h. h) (at + 0 + 3 + 3) (search.looked_up (length ns)) (resolved.looked_up laid_layout) looked_up_bytes in
      λ i. 0xad ∷ WANTED % 256 ∷ WANTED / 256 ∷ 0xae ∷ (WANTED + 1) % 256 ∷ (WANTED + 1) / 256 ∷ rest i
  find_bytes false at = looked_up_bytes (at + 0)

  -- the search is laid at its label
  pub find_lies : resolved.Lies within (label_address labels target.Find) (resolved.find_code (compares sc) laid_layout)
  find_lies =
      let at = label_address labels target.Find in let t = compares sc in
      (pieces at (search.find_code t ns) (resolved.find_code t laid_layout) (inside at (search.find_code t ns) laid.find laid.find_clear) (find_bytes t at)).1

  -- the block and the line table lie among the inner bytes, for the routines
  pub block_short : leb (length block_bytes) 1011 ≡ true
  block_short = refl

  -- the block is among the inner bytes
  pub block_lies : Bytes within PROLOGUE_AT block_bytes
  block_lies =
      let short : length block_bytes ≤ 1011 = leb-true (length block_bytes) 1011 block_short in
      inner_bytes laid_layout code PROLOGUE_AT block_bytes (omega (arith, short))
      (λ a lo hi. none_between PROLOGUE_AT LINES_AT (λ n e. inr (line_of n e).1.after_block) a lo (omega (arith, hi, short))) laid.block

  -- the line table is among the inner bytes
  pub table_lies : Lies within labels (label_address labels target.Table) (program.table_code ns)
  table_lies = inside (label_address labels target.Table) (program.table_code ns) laid.table laid.table_clear
