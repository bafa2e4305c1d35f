-- The settled code of a program that is laid from the block's address lies where its labels say.
use Rattle.std.proofs.Common.{Option, ◌≡◌, ◌⊎◌, ℕ, suc, ◌+◌, ◌-◌, ◌≤◌, ◌<◌, Bool, true, false, ◌||◌, List, [], ◌∷◌}
use Rattle.std.proofs.Common.{◌++◌, length, replicate, refl, sym, ap, ◌∙◌, subst, inl, inr, arith}
use Rattle.std.proofs.Common.{Some}
use Rattle.std.specs.Prelude.{if◌then◌else◌, nat_eq, unwrap_or}
use Rattle.std.proofs.lemmas.Bool.{eq-eqb, eqb-true}
use Rattle.tb_asm.specs.declared.names.Name.{Name}
use Rattle.tb_asm.specs.Layout.{Entry, labels_from, image_of, size}
use Rattle.tb_asm.specs.Settle.{Form, items_from, some_branch_far}
use Rattle.tb_machine_reaching.specs.View.{Part, Bytes}
use Rattle.tb_machine_reaching.proofs.Parts.{bytes_front}
use Rattle.tb_basic_syntax.specs.Source.{Numbered, numbers, Rises}
use Rattle.tb_basic_meaning.specs.Control.{has_line, content_at, first_place}
use Rattle.tb_lower.specs.Slots.{Instr, Poll, SlotCode}
use Rattle.tb_lower.specs.Ranges.{AreInRange}
use Rattle.tb_runtime16.specs.Addresses.{PROLOGUE_AT}
use Rattle.tb_compiled_kept.specs.Addresses.{LINES_AT}
use Rattle.tb_runtime16.specs.Block.{block_bytes}
use Rattle.tb_assembly_settling.specs.Settled.{AreFormsOf, IsSettled}
use Rattle.tb_assembly_settling.proofs.Forms.{forms_size, items_size, near_split, split}
use Rattle.tb_compiler_templates.specs.declared.labels.Target.TheVariants as target
use Rattle.tb_compiler_templates.specs.Templates.{next_line}
use Rattle.tb_compiler_program.specs.Program.{line_code, lines_code, past_code, table_code, block_code, program_code, first_of, AreCodable, AreInTurn}
use Rattle.tb_compiler_program.specs.Search.{compares, find_code}
use Rattle.tb_compiler_program.proofs.Ordered.{lines_in_turn}
use Rattle.tb_compiler_program.proofs.Settled.{Sections, joined_items, line_at, sections, some_bytes, total_size}
use Rattle.tb_compiler_program.proofs.Taken.{block_size}
use Rattle.tb_proof_simulation.specs.Layout.{Lies, label_address, layout_of, place_address}
use Rattle.tb_proof_correctness.specs.Laid.{ArePolled, Laid}
use Rattle.tb_proof_correctness.proofs.Image.Laying.{front, back}
use Rattle.tb_proof_simulation.proofs.Numbers.{start_of_line}

-- ---- the numbers
count_same : (lines : SlotCode) → length (numbers lines) ≡ length lines
count_same [] = refl
count_same (line ∷ lines) = ap suc (count_same lines)

-- ---- a line of a list
same_some : (a b : List Instr) → ◌≡◌ {A = Option (List Instr)} (Some a) (Some b) → a ≡ b
same_some a b e = cc

ranged : (lines : SlotCode) → AreCodable lines → (n : ℕ) (is : List Instr) → content_at lines n ≡ Some is → AreInRange 256 is
ranged [] h n is e = cc
ranged (l ∷ ls) h n is e = go (nat_eq l.number n) (ranged ls h.2 n is) e
  where
    go : (t : Bool) → (content_at ls n ≡ Some is → AreInRange 256 is) → (if t then Some l.content else content_at ls n) ≡ Some is → AreInRange 256 is
    go true later e = subst (AreInRange 256) (same_some l.content is e) h.0
    go false later e = later e

small_number : (low : ℕ) (lines : SlotCode) → Rises low 65536 (numbers lines) → (n : ℕ) (is : List Instr) → content_at lines n ≡ Some is → n < 65536
small_number low [] h n is e = cc
small_number low (l ∷ ls) h n is e = go (nat_eq l.number n) refl (small_number (l.number + 1) ls h.2 n is) e
  where
    go : (t : Bool) → nat_eq l.number n ≡ t → (content_at ls n ≡ Some is → n < 65536) → (if t then Some l.content else content_at ls n) ≡ Some is → n < 65536
    go true q later e = omega (arith, eqb-true l.number n q, h.1)
    go false q later e = later e

module _ (part : Part) (labels : List (Name × ℕ)) (ns : List ℕ) (seed : ℕ) where
  abbrev at : ℕ → ℕ
  at n = label_address labels (target.Line n)

  abbrev whole : ℕ → List Instr → List Entry
  whole n is = line_code ns seed (record { number = n; content = is })

  -- the settled code of lines lies from an address on, and its branches reach
  record Lined (a : ℕ) (lines : SlotCode) (fs : List Form) : Type 0 where
    of : AreFormsOf (lines_code ns seed lines) fs
    lies : Lies part labels a (items_from a fs)
    near : some_branch_far labels a (items_from a fs) ≡ false

  -- the first of these lines, and the lines after that
  record Parted (a : ℕ) (l : Numbered (List Instr)) (ls : SlotCode) (fs : List Form) : Type 0 where
    own : List Form
    of : AreFormsOf (line_code ns seed l) own
    lies : Lies part labels a (items_from a own)
    near : some_branch_far labels a (items_from a own) ≡ false
    here : at l.number ≡ a
    rest : List Form
    behind : Lined (a + forms_size own) ls rest
    total : forms_size fs ≡ forms_size own + forms_size rest
    some : 1 ≤ forms_size own
    polled : ArePolled ls

  -- where the lines after the first one begin
  abbrev then_at : (a : ℕ) (l : Numbered (List Instr)) (ls : SlotCode) (fs : List Form) → Parted a l ls fs → ℕ
  then_at a l ls fs p = a + forms_size p.own

  has_bytes : (l : Numbered (List Instr)) (rest : List Instr) → l.content ≡ Poll ∷ rest → (fs : List Form) → AreFormsOf (line_code ns seed l) fs → 1 ≤ forms_size fs
  has_bytes l rest e fs h = some_bytes ns seed l.number rest fs (subst (λ is. AreFormsOf (line_code ns seed (record { number = l.number; content = is })) fs) e h)

  parted : (a : ℕ) (l : Numbered (List Instr)) (ls : SlotCode) (fs : List Form) → ArePolled (l ∷ ls) → Lined a (l ∷ ls) fs → Parted a l ls fs
  parted a l ls fs polls h =
      let s = split (line_code ns seed l) (lines_code ns seed ls) fs h.of in
      let b = a + forms_size s.front in
      let mine = items_from a s.front in let more = items_from b s.back in
      let joint : items_from a fs ≡ mine ++ more = joined_items a fs s.front s.back s.are in
      let all : Lies part labels a (mine ++ more) = subst (Lies part labels a) joint h.lies in
      let there : a + size mine ≡ b = (let q = items_size a s.front in omega (arith, q)) in
      let first = front part labels a mine more all in
      let near = near_split labels a mine more (subst (λ es. some_branch_far labels a es ≡ false) joint h.near) in
      record {
        own = s.front;
        of = s.of_front;
        lies = first;
        near = near.0;
        here = ap (λ o. unwrap_or o 0) (line_at labels ns seed a l s.front s.of_front first.labelled);
        rest = s.back;
        behind = record {
          of = s.of_back;
          lies = subst (λ c. Lies part labels c more) there (back part labels a mine more all);
          near = subst (λ c. some_branch_far labels c more ≡ false) there near.1;
        };
        total = total_size a fs s.front s.back s.are;
        some = has_bytes l polls.0.0 polls.0.1 s.front s.of_front;
        polled = polls.1;
      }

  within : (lines : SlotCode) (a : ℕ) (fs : List Form) → ArePolled lines → Lined a lines fs → (m : ℕ)
      → has_line (numbers lines) m ≡ true → (a ≤ at m) × (at m < a + forms_size fs)
  within [] a fs polls h m e = cc
  within (l ∷ ls) a fs polls h m e = go (nat_eq l.number m) refl (within ls (then_at a l ls fs p) p.rest p.polled p.behind m) e
    where
      p : Parted a l ls fs
      p = parted a l ls fs polls h

      go : (t : Bool) → nat_eq l.number m ≡ t → (has_line (numbers ls) m ≡ true → (then_at a l ls fs p ≤ at m)
          × (at m < then_at a l ls fs p + forms_size p.rest)) → (t || has_line (numbers ls) m) ≡ true → (a ≤ at m) × (at m < a + forms_size fs)
      go true q later e =
          let k = ap (λ j. at j) (eqb-true l.number m q) in
          let h = p.here in let s = p.total in let o = p.some in
          (omega (arith, k, h), omega (arith, k, h, s, o))
      go false q later e =
          let r = later e in
          let s = p.total in
          (omega (arith, r.0), omega (arith, r.1, s))

  -- where the first of these lines begins, or what follows them
  first_there : (lines : SlotCode) (a : ℕ) (fs : List Form) → ArePolled lines → Lined a lines fs
      → label_address labels target.Past ≡ a + forms_size fs → label_address labels (first_of lines) ≡ a
  first_there [] a [] polls h past = past ∙ (let e : a + 0 ≡ a = omega arith in e)
  first_there [] a (f ∷ fs) polls h past = absurd h.of
  first_there (l ∷ ls) a fs polls h past = (parted a l ls fs polls h).here

  -- the line with a number, at its label
  -- beginning and ending between these addresses, and none of these lines beginning inside it but itself
  record Found (ms : List ℕ) (a to n : ℕ) (is : List Instr) : Type 0 where
    from : a ≤ at n
    forms : List Form
    of : AreFormsOf (whole n is) forms
    some : 1 ≤ size (items_from (at n) forms)
    lies : Lies part labels (at n) (items_from (at n) forms)
    near : some_branch_far labels (at n) (items_from (at n) forms) ≡ false
    next : at n + size (items_from (at n) forms) ≡ label_address labels (next_line ns n)
    ends : at n + size (items_from (at n) forms) ≤ to
    clear : (m : ℕ) → has_line ms m ≡ true → (at m ≤ at n) ⊎ (at n + size (items_from (at n) forms) ≤ at m)

  -- the first line of these, as the line of its number
  first_found : (a : ℕ) (l : Numbered (List Instr)) (ls : SlotCode) (fs : List Form) (p : Parted a l ls fs)
      → label_address labels (next_line ns l.number) ≡ then_at a l ls fs p → Found (numbers (l ∷ ls)) a (a + forms_size fs) l.number l.content
  first_found a l ls fs p next =
      let there : a ≡ at l.number = sym p.here in
      let mine : Lies part labels (at l.number) (items_from (at l.number) p.own) = subst (λ b. Lies part labels b (items_from b p.own)) there p.lies in
      let long : size (items_from (at l.number) p.own) ≡ forms_size p.own = items_size (at l.number) p.own in
      let h = p.here in let s = p.total in
      record {
        from = omega (arith, h);
        forms = p.own;
        of = p.of;
        some = (let o = p.some in omega (arith, long, o));
        lies = mine;
        near = subst (λ b. some_branch_far labels b (items_from b p.own) ≡ false) there p.near;
        next = (let e : at l.number + size (items_from (at l.number) p.own) ≡ then_at a l ls fs p = omega (arith, long, h) in e) ∙ sym next;
        ends = omega (arith, long, h, s);
        clear = clear;
      }
    where
      clear : (m : ℕ) → has_line (numbers (l ∷ ls)) m ≡ true → (at m ≤ at l.number) ⊎ (at l.number + size (items_from (at l.number) p.own) ≤ at m)
      clear m = by (nat_eq l.number m) refl
        where
          by : (t : Bool) → nat_eq l.number m ≡ t → (t || has_line (numbers ls) m) ≡ true → (at m ≤ at l.number) ⊎ (at l.number + size (items_from (at l.number) p.own) ≤ at m)
          by true q e = inl (let k = ap (λ j. at j) (eqb-true l.number m q) in omega (arith, k))
          by false q e = inr (let w = within ls (then_at a l ls fs p) p.rest p.polled p.behind m e in
              let long = items_size (at l.number) p.own in let h = p.here in omega (arith, w.0, long, h))

  same_line : (ms : List ℕ) (l : Numbered (List Instr)) (n : ℕ) (is : List Instr) → l.number ≡ n → l.content ≡ is → (a to : ℕ)
      → Found ms a to l.number l.content → Found ms a to n is
  same_line ms l n is e c a to f = subst (λ is. Found ms a to n is) c (subst (λ k. Found ms a to k l.content) e f)

  -- a line after the first one
  later_found : (a : ℕ) (l : Numbered (List Instr)) (ls : SlotCode) (fs : List Form) (p : Parted a l ls fs) (n : ℕ)
      (is : List Instr) → Found (numbers ls) (then_at a l ls fs p) (then_at a l ls fs p + forms_size p.rest) n is
      → Found (numbers (l ∷ ls)) a (a + forms_size fs) n is
  later_found a l ls fs p n is f =
      let s = p.total in
      record { from = omega (arith, f.from); forms = f.forms; of = f.of; some = f.some; lies = f.lies; near = f.near; next = f.next; ends = omega (arith, f.ends, s); clear = clear }
    where
      clear : (m : ℕ) → has_line (numbers (l ∷ ls)) m ≡ true → (at m ≤ at n) ⊎ (at n + size (items_from (at n) f.forms) ≤ at m)
      clear m = by (nat_eq l.number m) refl
        where
          by : (t : Bool) → nat_eq l.number m ≡ t → (t || has_line (numbers ls) m) ≡ true → (at m ≤ at n) ⊎ (at n + size (items_from (at n) f.forms) ≤ at m)
          by true q e = inl (let k = ap (λ j. at j) (eqb-true l.number m q) in let h = p.here in omega (arith, k, h, f.from))
          by false q e = f.clear m e

  found : (lines : SlotCode) (a : ℕ) (fs : List Form) → ArePolled lines → AreInTurn ns lines → Lined a lines fs
      → label_address labels target.Past ≡ a + forms_size fs → (n : ℕ) (is : List Instr) → content_at lines n ≡ Some is → Found (numbers lines) a (a + forms_size fs) n is
  found [] a fs polls turns h past n is e = cc
  found (l ∷ ls) a fs polls turns h past n is e =
      let p = parted a l ls fs polls h in
      let b = then_at a l ls fs p in
      let later : label_address labels target.Past ≡ b + forms_size p.rest = (let s = p.total in omega (arith, past, s)) in
      go p (ap (label_address labels) (sym turns.0) ∙ first_there ls b p.rest p.polled p.behind later)
      (found ls b p.rest p.polled turns.1 p.behind later n is) (nat_eq l.number n) refl e
    where
      go : (p : Parted a l ls fs) → label_address labels (next_line ns l.number) ≡ then_at a l ls fs p
          → (content_at ls n ≡ Some is → Found (numbers ls) (then_at a l ls fs p) (then_at a l ls fs p + forms_size p.rest) n is)
          → (t : Bool) → nat_eq l.number n ≡ t → (if t then Some l.content else content_at ls n) ≡ Some is → Found (numbers (l ∷ ls)) a (a + forms_size fs) n is
      go p next rest true q e = same_line (numbers (l ∷ ls)) l n is (eqb-true l.number n q) (same_some l.content is e) a (a + forms_size fs) (first_found a l ls fs p next)
      go p next rest false q e = later_found a l ls fs p n is (rest e)

-- ---- the whole program
first_at : (labels : List (Name × ℕ)) (seed : ℕ) (code : SlotCode) → 1 ≤ length (numbers code) → label_address labels (first_of code) ≡ LINES_AT
    → place_address (layout_of labels (numbers code) seed) (first_place (numbers code)) ≡ LINES_AT
first_at labels seed [] some h = absurd (let no : ⊥ = omega (arith, some) in no)
first_at labels seed (l ∷ ls) some h = sym (start_of_line labels (numbers (l ∷ ls)) seed l.number (ap (λ b. b || has_line (numbers ls) l.number) (eq-eqb l.number l.number refl))) ∙ h

-- settled code that is laid from the block's address is laid as its labels say
pub image_laid : (seed : ℕ) (code : SlotCode) → seed < 65536 → Rises 0 65536 (numbers code) → AreCodable code → ArePolled code
    → 1 ≤ length (numbers code) → length code < 65536 → (items : List Entry) → IsSettled PROLOGUE_AT (program_code seed code) items → PROLOGUE_AT + size items ≤ 0xa000 →
    (part : Part) → ((a b : ℕ) → part a ≡ Some b → b < 256) → Bytes part PROLOGUE_AT (image_of PROLOGUE_AT items) → Laid (labels_from PROLOGUE_AT items) seed part code
image_laid seed code seed_small rises codable polls some few items settled ends part small shown =
    let ns = numbers code in
    let labels = labels_from PROLOGUE_AT items in
    let past = past_code ns in let search = find_code (compares code) ns in let table = table_code ns in
    let tail = past ++ (search ++ table) in
    let g : Sections seed code items labels = sections seed code codable rises items settled in
    let lines = items_from LINES_AT g.lines in
    let here = LINES_AT + forms_size g.lines in
    let long : size lines ≡ forms_size g.lines = items_size LINES_AT g.lines in
    let all : Lies part labels PROLOGUE_AT items = record { bytes = shown; labelled = g.all_labels; below = ends } in
    let near : some_branch_far labels PROLOGUE_AT items ≡ false = settled.reach in
    let parts = g.are in
    let cut : Lies part labels PROLOGUE_AT (block_code ++ (lines ++ tail)) = subst (Lies part labels PROLOGUE_AT) parts all in
    let start : PROLOGUE_AT + size block_code ≡ LINES_AT = (let b = block_size in omega (arith, b)) in
    let head = front part labels PROLOGUE_AT block_code (lines ++ tail) cut in
    let s = subst (λ a. Lies part labels a (lines ++ tail)) start (back part labels PROLOGUE_AT block_code (lines ++ tail) cut) in
    let lines_near = (near_split labels LINES_AT lines tail (subst (λ a. some_branch_far labels a (lines ++ tail) ≡ false) start
    (near_split labels PROLOGUE_AT block_code (lines ++ tail) (subst (λ es. some_branch_far labels PROLOGUE_AT es ≡ false) parts near)).1)).0 in
    let own : Lined part labels ns seed LINES_AT code g.lines = record { of = g.of_lines; lies = front part labels LINES_AT lines tail s; near = lines_near } in
    let behind : LINES_AT + size lines ≡ here = omega (arith, long) in
    let t = subst (λ a. Lies part labels a tail) behind (back part labels LINES_AT lines tail s) in
    let w = back part labels here past (search ++ table) t in
    let b = here + size past in
    let v = back part labels b search table w in
    let p = front part labels here past (search ++ table) t in
    let f = front part labels b search table w in
    let at_past : here ≡ label_address labels target.Past = sym (ap (λ o. unwrap_or o 0) p.labelled.0) in
    let at_find : b ≡ label_address labels target.Find = sym (ap (λ o. unwrap_or o 0) f.labelled.0) in
    let at_table : b + size search ≡ label_address labels target.Table = sym (ap (λ o. unwrap_or o 0) v.labelled.0) in
    let turns = lines_in_turn code rises in
    let before : (to : ℕ) → here ≤ to → (m : ℕ) → has_line ns m ≡ true → label_address labels (target.Line m) < to = λ to l m e. omega (
      arith,
      l,
      (within part labels ns seed code LINES_AT g.lines polls own m e).1,
    ) in
    record {
      block = bytes_front part PROLOGUE_AT block_bytes (replicate (LINES_AT - PROLOGUE_AT - length block_bytes) 0 ++ []) head.bytes;
      lines = λ n is e.
          let d = found part labels ns seed code LINES_AT g.lines polls turns own (sym at_past) n is e in
          record {
            forms = d.forms;
            of = d.of;
            some = d.some;
            lies = d.lies;
            near = d.near;
            next = d.next;
            clear = d.clear;
            ranged = ranged code codable n is e;
            small = small_number 0 code rises n is e;
            after_block = d.from;
          };
      past = subst (λ a. Lies part labels a past) at_past p;
      past_clear = λ m e. inl (before (label_address labels target.Past) (omega (arith, at_past)) m e);
      find = subst (λ a. Lies part labels a search) at_find f;
      find_clear = λ m e. inl (before (label_address labels target.Find) (omega (arith, at_find)) m e);
      table = subst (λ a. Lies part labels a table) at_table v;
      table_clear = λ m e. inl (before (label_address labels target.Table) (omega (arith, at_table)) m e);
      first = first_at labels seed code some (first_there part labels ns seed code LINES_AT g.lines polls own (sym at_past));
      some = some;
      rising = rises;
      seed_small = seed_small;
      count_small = omega (arith, few, count_same code);
      bytes_small = small;
    }
