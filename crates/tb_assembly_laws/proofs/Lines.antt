-- Lines that `tbc asm` reads, `tbc assemble` reads as statements of the same items.
use Rattle.std.proofs.Common.{◌≡◌, ℕ, ◌+◌, ◌<◌, Bool, true, false, List, [], ◌∷◌, ◌++◌, map, length, Option, Some, None, Result, Ok, refl, sym, ap, ◌∙◌, if◌then◌else◌}
use Rattle.std.specs.Prelude.{option_and_then, option_map, codes}
use Rattle.tb_opcodes.specs.declared.Mnemonic.{Mnemonic}
use Rattle.tb_opcodes.specs.declared.Mode.{Mode}
use Rattle.tb_asm.specs.declared.parts.Part.{Part}
use Rattle.tb_asm.specs.declared.items.Operand.{Operand}
use Rattle.tb_asm.specs.Layout.{Entry, instr, label, bytes, word}
use Rattle.tb_asm.specs.Names.{fold_byte, is_name, name_from}
use Rattle.tb_asm.specs.Mnemonics.{same_text, mnemonic_of}
use Rattle.tb_asm.specs.Parts.{parts_of}
use Rattle.tb_asm.specs.Text.{is_branch, byte_list, word_operand, operand_form, instruction_of, item_of, one_item, behind_label, labelled as asm_labelled, items_of, line_items}
use Rattle.tb_assembly_text.specs.declared.faults.Fault.{Fault}
use Rattle.tb_assembly_text.specs.declared.words.Directive.TheVariants as directives
use Rattle.tb_assembly_text.specs.Names.{scope_after}
use Rattle.tb_assembly_text.specs.Expressions.{Sum}
use Rattle.tb_assembly_text.specs.Lists.{Content, amount, contents, segments, with_first, values}
use Rattle.tb_assembly_text.specs.Statements.{Said, labels, instructs, lays, lays_words, reading, and_then, word_item, named_item, directive_item}
use Rattle.tb_assembly_text.specs.Words.{is_item, mnemonic_named}
use Rattle.tb_assembly_text.specs.Lines.{alone, rest_of_line, plain_word, after_label, name_unless, line_statements, said_in}
use Rattle.tb_assembly_laws.proofs.Pieces.{letters, two, four, comma, colon, Written, part, token, doubles, AreSound}
use Rattle.tb_assembly_laws.proofs.Scanning.{spells}
use Rattle.tb_assembly_laws.proofs.Words.{none_some, some_is, text_is, name_full, name_label, directive_by, no_mnemonic, item_by_directive, item_by_mnemonic}
use Rattle.tb_assembly_laws.proofs.Operands.{Address, at, of, Given, mode_in, operand_in, form_in, sum_at, address_in, IsAddress, IsGiven, operand_read}

-- a statement with the columns of its parts: a label by its letters, an instruction, bytes, or a word
pub data Stated : Type 0 where
  named_here : ℕ → List ℕ → Stated
  instructed : ℕ → Mnemonic → Given → Stated
  laid : ℕ → List (ℕ × ℕ) → Stated
  word_laid : ℕ → ℕ → Address → Stated

-- a number with its column
abbrev pub number_in : ℕ × ℕ → ℕ
number_in p = p.1

abbrev pub content_in : ℕ × ℕ → Content
content_in p = amount (sum_at p.0 (at p.1))

-- its item for `tbc asm`
abbrev pub entry : Stated → Entry
entry (named_here c w) = label (name_from (map fold_byte w))
entry (instructed c m g) = instr m (mode_in (is_branch m) g) (operand_in g)
entry (laid c bs) = bytes (map number_in bs)
entry (word_laid c d a) = word (address_in a)

-- the statement for `tbc assemble`
abbrev pub said : Stated → Said
said (named_here c w) = (c, labels (map fold_byte w))
said (instructed c m g) = (c, instructs m (form_in g))
said (laid c bs) = (c, lays (map content_in bs))
said (word_laid c d a) = (c, lays_words (sum_at d a ∷ []))

-- all numbers are bytes
abbrev pub AreBytes : List (ℕ × ℕ) → Type 0
AreBytes [] = Unit {0}
AreBytes (p ∷ ps) = (p.1 < 256) × AreBytes ps

-- numbers are bytes or words
abbrev pub IsStated : Stated → Type 0
IsStated (named_here c w) = Unit {0}
IsStated (instructed c m g) = IsGiven g
IsStated (laid c bs) = AreBytes bs
IsStated (word_laid c d a) = IsAddress a

abbrev pub AreStated : List Stated → Type 0
AreStated [] = Unit {0}
AreStated (s ∷ ss) = IsStated s × AreStated ss

pub stated_append : (ss ts : List Stated) → AreStated ss → AreStated ts → AreStated (ss ++ ts)
stated_append [] ts h k = k
stated_append (s ∷ ss) ts h k = (h.0, stated_append ss ts h.1 k)

module _ (scope : List ℕ) (end : ℕ) where
  -- bytes with commas between them
  bytes_read : (qs : List Written) (bs : List ℕ) → AreSound qs → byte_list (map part qs) ≡ Some bs
      → (ps : List (ℕ × ℕ)) × (bs ≡ map number_in ps) × (contents scope false (segments end (map token qs)) ≡ Ok (map content_in ps)) × AreBytes ps × (doubles qs ≡ false)
  bytes_read [] bs s h = absurd (none_some h)
  bytes_read ((c, two b) ∷ []) bs s h = ((c, b) ∷ [], some_is h, refl, (s.0, tt), refl)
  bytes_read ((c, two b) ∷ (d, comma) ∷ qs) bs s h = by (byte_list (map part qs)) h (λ xs. bytes_read qs xs s.1.1)
    where
      by : (o : Option (List ℕ)) → option_map (λ xs. b ∷ xs) o ≡ Some bs
          → ((xs : List ℕ) → o ≡ Some xs
          → (ps : List (ℕ × ℕ)) × (xs ≡ map number_in ps) × (contents scope false (segments end (map token qs)) ≡ Ok (map content_in ps)) × AreBytes ps × (doubles qs ≡ false))
          → (ps : List (ℕ × ℕ)) × (bs ≡ map number_in ps)
          × (contents scope false (segments end (map token ((c, two b) ∷ (d, comma) ∷ qs))) ≡ Ok (map content_in ps)) × AreBytes ps × (doubles ((c, two b) ∷ (d, comma) ∷ qs) ≡ false)
      by None e go = absurd (none_some e)
      by (Some xs) e go =
          let (ps, same, are, small, clean) = go xs refl in
          ((c, b) ∷ ps, some_is e ∙ ap (λ t. b ∷ t) same, ap (with_first (Ok (content_in (c, b)))) are, (s.0, small), clean)
  bytes_read (q ∷ qs) bs s h = absurd (none_some h)

  -- an address or a name
  word_read : (qs : List Written) (o : Operand) → AreSound qs → word_operand (map part qs) ≡ Some o
      → (d : ℕ) × (a : Address) × (o ≡ address_in a) × (values scope (segments end (map token qs)) ≡ Ok (sum_at d a ∷ [])) × IsAddress a × (doubles qs ≡ false)
  word_read ((c, four n) ∷ []) o s h = (c, at n, some_is h, refl, s.0, refl)
  word_read ((c, letters w) ∷ []) o s h = by (is_name (map fold_byte w)) refl h
    where
      by : (t : Bool) → is_name (map fold_byte w) ≡ t → option_map Operand.Label (if t then Some (name_from (map fold_byte w)) else None) ≡ Some o
          → (d : ℕ) × (a : Address) × (o ≡ address_in a) × (values scope (segments end (map token ((c, letters w) ∷ []))) ≡ Ok (sum_at d a ∷ [])) × IsAddress a
          × (doubles ((c, letters w) ∷ []) ≡ false)
      by true name e = (c, of w, some_is e, ap (λ n. Ok ((c, (c, Rattle.tb_assembly_text.specs.Expressions.named n) ∷ []) ∷ [])) (name_full scope w name), tt, refl)
      by false name e = absurd (none_some e)
  word_read qs o s h = absurd (none_some h)

  -- what is read of the tokens after a word
  abbrev IsItem : ℕ → List ℕ → List Written → Entry → Type 0
  IsItem c w qs e =
      (s : Stated) × (e ≡ entry s) × (alone c (word_item scope end c w (map token qs)) ≡ Ok (said s ∷ [])) × IsStated s × (doubles qs ≡ false) × (is_item w ≡ true)

  module _ (c : ℕ) (w : List ℕ) (qs : List Written) (e : Entry) (sound : AreSound qs) where
    byte_item : map fold_byte w ≡ codes ".BYTE" → option_map bytes (byte_list (map part qs)) ≡ Some e → IsItem c w qs e
    byte_item is h = by (byte_list (map part qs)) refl h
      where
        by : (o : Option (List ℕ)) → byte_list (map part qs) ≡ o → option_map bytes o ≡ Some e → IsItem c w qs e
        by None k g = absurd (none_some g)
        by (Some bs) k g =
            let (ps, same, are, small, clean) = bytes_read qs bs sound k in
            let no = no_mnemonic w (codes ".BYTE") is refl in
            let yes = directive_by w (codes ".BYTE") directives.Byte is refl in (
              laid c ps,
              some_is g ∙ ap bytes same,
              ap (λ x. alone c (named_item x scope end c w (map token qs))) no ∙ ap (λ x. alone c (directive_item x scope end c w (map token qs))) yes
                  ∙ ap (λ r. alone c (reading lays r)) are,
              small,
              clean,
              item_by_directive w directives.Byte no yes,
            )

    word_item_read : map fold_byte w ≡ codes ".WORD" → option_map word (word_operand (map part qs)) ≡ Some e → IsItem c w qs e
    word_item_read is h = by (word_operand (map part qs)) refl h
      where
        by : (o : Option Operand) → word_operand (map part qs) ≡ o → option_map word o ≡ Some e → IsItem c w qs e
        by None k g = absurd (none_some g)
        by (Some o) k g =
            let (d, a, same, are, small, clean) = word_read qs o sound k in
            let no = no_mnemonic w (codes ".WORD") is refl in
            let yes = directive_by w (codes ".WORD") directives.Word is refl in (
              word_laid c d a,
              some_is g ∙ ap word same,
              ap (λ x. alone c (named_item x scope end c w (map token qs))) no ∙ ap (λ x. alone c (directive_item x scope end c w (map token qs))) yes
                  ∙ ap (λ r. alone c (reading lays_words r)) are,
              small,
              clean,
              item_by_directive w directives.Word no yes,
            )

    instruction_read : (m : Mnemonic) → mnemonic_of (map fold_byte w) ≡ Some m → instruction_of m (map part qs) ≡ Some e → IsItem c w qs e
    instruction_read m is h = by (operand_form (is_branch m) (map part qs)) refl h
      where
        by : (o : Option (Mode × Operand)) → operand_form (is_branch m) (map part qs) ≡ o → option_map (λ f. instr m f.0 f.1) o ≡ Some e → IsItem c w qs e
        by None k g = absurd (none_some g)
        by (Some f) k g =
            let (given, same, are, small, clean) = operand_read scope end (is_branch m) f qs sound k in
            let mnemonic : mnemonic_named w ≡ Some m = is in (
              instructed c m given,
              some_is g ∙ ap (λ (p : Mode × Operand). instr m p.0 p.1) same,
              ap (λ x. alone c (named_item x scope end c w (map token qs))) mnemonic ∙ ap (λ r. alone c (reading (instructs m) r)) are,
              small,
              clean,
              item_by_mnemonic w m mnemonic,
            )

    item_read : item_of (map fold_byte w) (map part qs) ≡ Some e → IsItem c w qs e
    item_read h = by (same_text (map fold_byte w) (codes ".BYTE")) (same_text (map fold_byte w) (codes ".WORD")) refl refl h
      where
        found : (o : Option Mnemonic) → mnemonic_of (map fold_byte w) ≡ o → option_and_then (λ n. instruction_of n (map part qs)) o ≡ Some e → IsItem c w qs e
        found None k g = absurd (none_some g)
        found (Some m) k g = instruction_read m k g

        by : (s t : Bool) → same_text (map fold_byte w) (codes ".BYTE") ≡ s → same_text (map fold_byte w) (codes ".WORD") ≡ t
            → (if s then option_map bytes (byte_list (map part qs)) else if t then option_map word (word_operand (map part qs)) else option_and_then (λ n. instruction_of n (map part qs)) (mnemonic_of (map fold_byte w)))
            ≡ Some e → IsItem c w qs e
        by true t k j g = byte_item (text_is (map fold_byte w) (codes ".BYTE") k) g
        by false true k j g = word_item_read (text_is (map fold_byte w) (codes ".WORD") j) g
        by false false k j g = found (mnemonic_of (map fold_byte w)) refl g

-- ── lines ──
-- what is read of a line, or of a part of it
abbrev IsLine : Result (List Said) Fault → List Written → List Entry → Type 0
IsLine r qs es = (ss : List Stated) × (es ≡ map entry ss) × (r ≡ Ok (map said ss)) × AreStated ss × (doubles qs ≡ false)

-- the one item of a word and what follows it
one_read : (scope : List ℕ) (end c : ℕ) (w : List ℕ) (qs : List Written) (es : List Entry) → AreSound qs → one_item (map fold_byte w) (map part qs) ≡ Some es
    → IsLine (alone c (word_item scope end c w (map token qs))) qs es × (is_item w ≡ true)
one_read scope end c w qs es sound h = by (item_of (map fold_byte w) (map part qs)) refl h
  where
    by : (o : Option Entry) → item_of (map fold_byte w) (map part qs) ≡ o → option_map (λ e. e ∷ []) o ≡ Some es
        → IsLine (alone c (word_item scope end c w (map token qs))) qs es × (is_item w ≡ true)
    by None k g = absurd (none_some g)
    by (Some e) k g =
        let (s, same, are, small, clean, item) = item_read scope end c w qs e sound k in
        ((s ∷ [], some_is g ∙ ap (λ x. x ∷ []) same, are, (small, tt), clean), item)

-- what follows a label
rest_read : (scope : List ℕ) (end : ℕ) (qs : List Written) (es : List Entry) → AreSound qs → behind_label (map part qs) ≡ Some es → IsLine (rest_of_line scope end (map token qs)) qs es
rest_read scope end [] es sound h = ([], some_is h, refl, tt, refl)
rest_read scope end ((c, letters w) ∷ qs) es sound h = let (line, item) = one_read scope end c w qs es sound.1 h in line
rest_read scope end (q ∷ qs) es sound h = absurd (none_some h)

-- a label and what follows it
labelled_read : (scope : List ℕ) (end c d : ℕ) (w : List ℕ) (qs : List Written) (es : List Entry) → AreSound qs → asm_labelled (map fold_byte w) (map part qs) ≡ Some es
    → IsLine (line_statements scope end (map token ((c, letters w) ∷ (d, colon) ∷ qs))) ((c, letters w) ∷ (d, colon) ∷ qs) es
labelled_read scope end c d w qs es sound h = named_by (is_name (map fold_byte w)) refl h
  where
    with_rest : is_name (map fold_byte w) ≡ true → (o : Option (List Entry)) → behind_label (map part qs) ≡ o → option_map (λ xs. label (name_from (map fold_byte w)) ∷ xs) o ≡ Some es
        → IsLine (line_statements scope end (map token ((c, letters w) ∷ (d, colon) ∷ qs))) ((c, letters w) ∷ (d, colon) ∷ qs) es
    with_rest name None k g = absurd (none_some g)
    with_rest name (Some xs) k g =
        let (ss, same, are, small, clean) = rest_read (scope_after scope w) end qs xs sound k in (
          named_here c w ∷ ss,
          some_is g ∙ ap (λ t. label (name_from (map fold_byte w)) ∷ t) same,
          (λ i. and_then (name_unless (name_label w name i) c (name_full scope w name i)) (λ n. after_label c n (rest_of_line (scope_after scope w) end (map token qs))))
              ∙ ap (after_label c (map fold_byte w)) are,
          (tt, small),
          clean,
        )

    named_by : (t : Bool) → is_name (map fold_byte w) ≡ t
        → option_and_then (λ n. option_map (λ xs. label n ∷ xs) (behind_label (map part qs))) (if t then Some (name_from (map fold_byte w)) else None) ≡ Some es
        → IsLine (line_statements scope end (map token ((c, letters w) ∷ (d, colon) ∷ qs))) ((c, letters w) ∷ (d, colon) ∷ qs) es
    named_by true name g = with_rest name (behind_label (map part qs)) refl g
    named_by false name g = absurd (none_some g)

-- a line by its parts
parts_read : (scope : List ℕ) (end : ℕ) (qs : List Written) (es : List Entry) → AreSound qs → items_of (map part qs) ≡ Some es → IsLine (line_statements scope end (map token qs)) qs es
parts_read scope end [] es sound h = ([], some_is h, refl, tt, refl)
parts_read scope end ((c, letters w) ∷ []) es sound h =
    let ((ss, same, are, small, clean), item) = one_read scope end c w [] es tt h in
    let ts = map token ((c, letters w) ∷ []) in
    (ss, same, ap (λ x. if x then rest_of_line scope end ts else plain_word scope end c w []) item ∙ are, small, clean)
parts_read scope end ((c, letters w) ∷ (d, colon) ∷ qs) es sound h = labelled_read scope end c d w qs es sound.1.1 h
parts_read scope end ((c, letters w) ∷ q ∷ qs) es sound h =
    let ((ss, same, are, small, clean), item) = one_read scope end c w (q ∷ qs) es sound.1 h in
    let ts = map token ((c, letters w) ∷ q ∷ qs) in
    (ss, same, ap (λ x. if x then rest_of_line scope end ts else plain_word scope end c w (map token (q ∷ qs))) item ∙ are, small, clean)
parts_read scope end (q ∷ qs) es sound h = absurd (none_some h)

-- a line that `tbc asm` reads
pub line_read : (scope line : List ℕ) (es : List Entry) → line_items line ≡ Some es → (ss : List Stated) × (es ≡ map entry ss) × (said_in scope line ≡ Ok (map said ss)) × AreStated ss
line_read scope line es h = by (parts_of line) refl h
  where
    by : (o : Option (List Part)) → parts_of line ≡ o → option_and_then items_of o ≡ Some es
        → (ss : List Stated) × (es ≡ map entry ss) × (said_in scope line ≡ Ok (map said ss)) × AreStated ss
    by None k g = absurd (none_some g)
    by (Some ps) k g =
        let (qs, same, sound, tokens) = spells line ps k in
        let (ss, all, are, small, clean) = parts_read scope (length line + 1) qs es sound (ap items_of (sym same) ∙ g) in
        (ss, all, ap (λ r. and_then r (line_statements scope (length line + 1))) (tokens clean) ∙ are, small)
