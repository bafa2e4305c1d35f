-- The settled code of lines is laid out as the laws of the groups want it.
use Rattle.std.proofs.Common.{◌≡◌, ℕ, ◌+◌, ◌≤◌, ◌<◌, Bool, true, false, List, [], ◌∷◌, ◌++◌, length, refl, sym, ap, ◌∙◌}
use Rattle.std.proofs.Common.{append-nil, cond, subst, inl, inr, ⊎_elim, arith, true≢false, Option, Some, None}
use Rattle.std.specs.Prelude.{if◌then◌else◌, not, ◌||◌, nat_eq, unwrap_or}
use Rattle.tb_opcodes.specs.Opcodes as opcodes
use Rattle.tb_opcodes.specs.declared.Mnemonic.{Mnemonic}
use Rattle.tb_opcodes.specs.declared.Mnemonic.TheVariants.{Cmp, Jsr}
use Rattle.tb_asm.specs.declared.names.Name.{Name}
use Rattle.tb_asm.specs.Layout.{Entry, address_in, bytes_from, size}
use Rattle.tb_asm.specs.Settle.{Form, items_from}
use Rattle.tb_asm.proofs.Laws.{all_size}
use Rattle.tb_machine_reaching.specs.View.{Part, Bytes}
use Rattle.tb_machine_reaching.proofs.Instr.{flat}
use Rattle.tb_machine_reaching.proofs.Parts.{bytes_front, stands as stands_there}
use Rattle.tb_basic_syntax.specs.Source.{numbers}
use Rattle.tb_basic_meaning.specs.Control.{Place, At, Past, next_after, has_line, content_at}
use Rattle.tb_lower.specs.Slots as slots
use Rattle.tb_lower.specs.Ranges.{AreInRange}
use Rattle.tb_kernal.specs.Numbers.{GETIN}
use Rattle.tb_compiler_selection.specs.Groups.{Group, expand, expand_all}
use Rattle.tb_compiler_selection.specs.Select.{select}
use Rattle.tb_compiler_selection.proofs.Bracketed.{brackets}
use Rattle.tb_assembly_settling.specs.Settled.{AreFormsOf}
use Rattle.tb_assembly_settling.proofs.Forms.{forms_append, forms_size, items_size, split}
use Rattle.tb_compiler_templates.specs.declared.labels.Target.{Target}
use Rattle.tb_compiler_templates.specs.declared.labels.Target.TheVariants as target
use Rattle.tb_compiler_templates.specs.Labels.{label_of}
use Rattle.tb_compiler_templates.specs.Templates as product
use Rattle.tb_compiler_templates.specs.Templates.{next_line, target_of}
use Rattle.tb_compiler_templates.specs.GroupTemplates.{group_template}
use Rattle.tb_compiler_templates.specs.Breaks.{asking, in_line, leaves, some_leaves}
use Rattle.tb_compiler_templates.specs.Breaks.{behind as behind_groups}
use Rattle.tb_compiler_program.specs.Layout.{LabelsAt}
use Rattle.tb_compiler_program.specs.Program.{rest_code}
use Rattle.tb_compiler_program.proofs.Settled.{line_at, straight_items}
use Rattle.tb_proof_simulation.specs.Layout.{Layout, label_address, place_address, layout_of, inner}
use Rattle.tb_proof_simulation.proofs.Numbers.{faulted_bytes, next_has, next_same, start_of_line}
use Rattle.tb_proof_simulation.proofs.Resolved.{Lies, call, pieces_size, highest_code, next_at}
use Rattle.tb_proof_simulation.proofs.Emitted.{behind, lies}
use Rattle.tb_proof_correctness.specs.Laid.{ArePolled, LineLies, Laid}
use Rattle.tb_proof_correctness.proofs.CodeBytes.GroupCode.{GroupsLie, GroupsLaid, LineStands, OnlyIf, Way, BranchReaches, broken_code, group_code, poll_code, way_size, Zero}
use Rattle.tb_proof_correctness.proofs.Pieces.Branches.{branch_size}
use Rattle.tb_proof_correctness.proofs.Slots.SlotsRead.{range_split}
use Rattle.tb_proof_correctness.proofs.CodeBytes.Emits.{branch_by, bytes_behind, emitted_size}
use Rattle.tb_proof_correctness.proofs.CodeBytes.CallBytes.{each_emitted}
use Rattle.tb_proof_correctness.proofs.CodeBytes.ItemBytes.{Rest, rest_before, rest_behind}
use Rattle.tb_proof_correctness.proofs.CodeBytes.GroupBytes.{poll_emitted}
use Rattle.tb_proof_correctness.proofs.Image.Laying.{inner_bytes, line_of, none_between, start_small, place_small, within_small, past_lies, find_lies}
use Rattle.tb_proof_correctness.proofs.Image.Laying.{top_small, table_small, content_has, content_none}
use Rattle.tb_proof_correctness.proofs.Slots.Singles.{AreAlone, all_alone}

-- the poll's code after the call of GETIN
poll_size : (at : ℕ) (away : Bool) (way : Way) (to : ℕ) → pieces_size (poll_code at away way to) ≡ 2 + way_size way
poll_size at away way to = let b = branch_size way Zero away (at + 2) to in omega (arith, b)

module _ (labels : List (Name × ℕ)) (seed : ℕ) (code : Part) (sc : slots.SlotCode) (laid : Laid labels seed code sc) where
  abbrev ns : List ℕ
  ns = numbers sc

  abbrev ly : Layout
  ly = layout_of labels ns seed

  abbrev within : Part
  within = inner ly code

  -- the bytes of forms, one list after another
  part_bytes : (part : Part) (a : ℕ) (fs gs : List Form) → a + forms_size (fs ++ gs) ≤ highest_code → Bytes part a (bytes_from labels a (items_from a (fs ++ gs)))
      → Bytes part a (bytes_from labels a (items_from a fs)) × Bytes part (a + forms_size fs) (bytes_from labels (a + forms_size fs) (items_from (a + forms_size fs) gs))
  part_bytes part a fs gs below h =
      let x = bytes_from labels a (items_from a fs) in
      let y = bytes_from labels (a + forms_size fs) (items_from (a + forms_size fs) gs) in
      let both : Bytes part a (x ++ y) = subst (Bytes part a) (bytes_behind labels a fs gs) h in
      let long : length x ≡ forms_size fs = all_size labels a (items_from a fs) ∙ items_size a fs in
      let sum = forms_append fs gs in
      (bytes_front part a x y both, subst (λ n. Bytes part (a + n) y) long (behind part a x y (omega (arith, long, sum, below)) both))

  -- a label that exists gives its address
  stands : (t : Target) (a : ℕ) → address_in labels (label_of t) ≡ Some a → address_in labels (label_of t) ≡ Some (label_address labels t)
  stands t a e = e ∙ ap Some (sym (ap (λ o. unwrap_or o 0) e))

  line_stands : (n : ℕ) → has_line ns n ≡ true → address_in labels (label_of (target.Line n)) ≡ Some (label_address labels (target.Line n))
  line_stands n e = let l = line_of labels seed code sc laid n e in line_at labels ns seed _ (record { number = n; content = l.0 }) l.1.forms l.1.of l.1.lies.labelled

  next_stands : (n : ℕ) → address_in labels (label_of (next_line ns n)) ≡ Some (next_at ly n)
  next_stands n = by (next_after ns n) refl ∙ ap Some (next_same labels ns seed n)
    where
      by : (p : Place) → next_after ns n ≡ p → address_in labels (label_of (next_line ns n)) ≡ Some (label_address labels (next_line ns n))
      by (At m) e = subst (λ p. address_in labels (label_of (target_of p)) ≡ Some (label_address labels (target_of p))) (sym e) (line_stands m (next_has ns n m e))
      by Past e = subst (λ p. address_in labels (label_of (target_of p)) ≡ Some (label_address labels (target_of p))) (sym e) (stands target.Past _ laid.past.labelled.0)

  next_below : (n : ℕ) → next_at ly n ≤ highest_code
  next_below n = by (next_after ns n)
    where
      by : (p : Place) → place_address ly p ≤ highest_code
      by (At m) = omega (arith, start_small labels seed code sc laid m)
      by Past = omega (arith, laid.past.below)

  starts_there : (m : ℕ) → has_line ns m ≡ true → address_in labels (label_of (target.Line m)) ≡ Some (ly.start m)
  starts_there m e = line_stands m e ∙ ap Some (start_of_line labels ns seed m e)

  starts_below : (m : ℕ) → ly.start m ≤ highest_code
  starts_below m = omega (arith, start_small labels seed code sc laid m)

  module _ (n : ℕ) (small : n < 65536) where
    -- what follows a group, if its code goes on
    behind_by : {claim : Type 0} (t : Bool) → (t ≡ false → claim) → OnlyIf (not t) claim
    behind_by true h = tt
    behind_by false h = h refl

    -- the groups of the rest of a line
    rest_lies : (i at : ℕ) (gs : List Group) (fs : List Form) → 0x0800 ≤ at → AreInRange 256 (expand_all gs) → AreAlone gs → AreFormsOf (rest_code ns seed n i gs) fs → Rest labels at fs
        → Bytes within at (bytes_from labels at (items_from at fs)) → (some_leaves gs ≡ false → at + forms_size fs ≡ next_at ly n) → GroupsLie ly within n at gs
    rest_lies i at [] [] low ranged alone of r b e = (let q : at ≡ at + 0 = omega arith in q) ∙ e refl
    rest_lies i at [] (f ∷ fs) low ranged alone of r b e = absurd of
    rest_lies i at (g ∷ gs) fs low ranged alone of r b e =
        let s = split (group_template ns seed n i g) (rest_code ns seed n (i + 1) gs) fs of in
        let rs = subst (Rest labels at) s.are r in
        let below = rs.below in
        let range = range_split (expand g) (expand_all gs) ranged in
        let m = each_emitted labels ns seed n laid.seed_small small (record {
          there = next_stands n;
          top = next_below n;
          lines_there = starts_there;
          starts_top = starts_below;
        }) i at g s.front alone.0 range.0 s.of_front (rest_before labels at s.front s.back rs) in
        let ps = group_code ly n at m.first m.second g in
        let long : forms_size s.front ≡ pieces_size ps = emitted_size labels m.emits in
        let bs = part_bytes within at s.front s.back below (subst (λ k. Bytes within at (bytes_from labels at (items_from at k))) s.are b) in
        let sum = forms_append s.front s.back in
        let size_is = ap forms_size s.are in
        let there : at + forms_size s.front ≡ at + pieces_size ps = omega (arith, long) in (
          m.first,
          m.second,
          ranged,
          lies within (within_small labels seed code sc laid) at ps (omega (arith, below, sum, long)) (subst (Bytes within at) m.emits.bytes bs.0),
          behind_by (leaves g) (λ stays. rest_lies (i + 1) (at + pieces_size ps) gs s.back (omega (arith, low)) range.1 alone.1 s.of_back
              (rest_behind labels at (at + pieces_size ps) s.front s.back there rs)
              (subst (λ a. Bytes within a (bytes_from labels a (items_from a s.back))) there bs.1) (λ none. let q =
              e (ap (λ t. t || some_leaves gs) stays ∙ none) in omega (arith, q, size_is, sum, long))),
          m.reach,
          low,
        )

    -- ---- what follows a poll's branch
    -- what is done for the STOP key lies where it has its bytes
    broken_lies : (at : ℕ) → at + 9 ≤ highest_code → Bytes within at (bytes_from labels at (product.faulted n 0)) → Lies within at (broken_code n)
    unfolding opcodes.encoded
    broken_lies at below b = lies within (within_small labels seed code sc laid) at (broken_code n) below (subst (Bytes within at) (faulted_bytes labels ns seed at n 0 small (omega arith)) b)

    abbrev stop : ℕ
    stop = label_address labels (target.Polled n)

    abbrev onward : Bool → List Group → List Entry
    onward away gs = in_line away n ++ (rest_code ns seed n 1 gs ++ behind_groups away n)

    -- if that is at an address, what is done for the STOP key and the groups are there and at the branch's label
    record OnwardLies (at : ℕ) (away : Bool) (gs : List Group) : Type 0 where
      there : address_in labels (label_of (target.Polled n)) ≡ Some stop
      below : stop ≤ highest_code
      broken : Lies within (cond away stop at) (broken_code n)
      groups : GroupsLie ly within n (cond away at stop) gs

    onward_lies : (at : ℕ) (away : Bool) (gs : List Group) (fs : List Form) → some_leaves gs ≡ away → 0x0800 ≤ at → AreInRange 256 (expand_all gs) → AreAlone gs
        → AreFormsOf (onward away gs) fs → Rest labels at fs → Bytes within at (bytes_from labels at (items_from at fs)) → at + forms_size fs ≡ next_at ly n → OnwardLies at away gs
    unfolding opcodes.encoded
    onward_lies at true gs fs leaves low ranged alone of r b ends =
        let s = split (rest_code ns seed n 1 gs) (behind_groups true n) fs of in
        let to = at + forms_size s.front in
        let last : items_from to s.back ≡ behind_groups true n = straight_items to (behind_groups true n) s.back refl s.of_back in
        let nine : forms_size s.back ≡ 9 = (let q = items_size to s.back in let z = ap size last in omega (arith, q, z)) in
        let all = subst (Rest labels at) s.are r in
        let rest = rest_behind labels at to s.front s.back refl all in
        let label = (subst (LabelsAt labels to) last rest.labels_at).0 in
        let here : stop ≡ to = ap (λ o. unwrap_or o 0) label in
        let bs = part_bytes within at s.front s.back (let q = all.below in q) (subst (λ k. Bytes within at (bytes_from labels at (items_from at k))) s.are b) in
        record {
          there = stands (target.Polled n) to label;
          below = (let q = rest.below in omega (arith, here, q));
          broken = subst (λ p. Lies within p (broken_code n)) (sym here) (broken_lies to (let q = rest.below in omega (arith, q, nine))
              (subst (λ es. Bytes within to (bytes_from labels to es)) last bs.1));
          groups = rest_lies 1 at gs s.front low ranged alone s.of_front (rest_before labels at s.front s.back all) bs.0 (λ none. absurd (true≢false (sym leaves ∙ none)));
        }
    onward_lies at false gs fs leaves low ranged alone of r b ends =
        let code = rest_code ns seed n 1 gs in
        let s = split (in_line false n) (code ++ []) fs of in
        let to = at + forms_size s.front in
        let first : items_from at s.front ≡ in_line false n = straight_items at (in_line false n) s.front refl s.of_front in
        let nine : forms_size s.front ≡ 9 = (let q = items_size at s.front in let z = ap size first in omega (arith, q, z)) in
        let all = subst (Rest labels at) s.are r in
        let front = rest_before labels at s.front s.back all in
        let rest = rest_behind labels at to s.front s.back refl all in
        let label = (subst (LabelsAt labels at) first front.labels_at).1.1.1.1.0 in
        let here : stop ≡ to = ap (λ o. unwrap_or o 0) label ∙ (let q : at + 2 + 2 + 2 + 3 ≡ to = omega (arith, nine) in q) in
        let bs = part_bytes within at s.front s.back (let q = all.below in q) (subst (λ k. Bytes within at (bytes_from labels at (items_from at k))) s.are b) in
        record {
          there = stands (target.Polled n) _ label;
          below = (let q = rest.below in omega (arith, here, q));
          broken = broken_lies at (let q = front.below in omega (arith, q, nine)) (subst (λ es. Bytes within at (bytes_from labels at es)) first bs.0);
          groups = subst (λ p. GroupsLie ly within n p gs) (sym here) (rest_lies 1 to gs s.back (omega (arith, low)) ranged alone
              (subst (λ es. AreFormsOf es s.back) (append-nil code) s.of_back) rest bs.1
              (λ none. let z = ap forms_size s.are in let q = forms_append s.front s.back in omega (arith, ends, z, q)));
        }

    -- ---- a whole line
    -- its label and the call of GETIN, and what follows the call
    abbrev asks : List Entry
    asks = product.here (target.Line n) ∷ product.at Jsr GETIN ∷ []

    abbrev answered : Mnemonic → List Entry
    answered m = product.const Cmp 3 ∷ product.branch m (target.Polled n) ∷ []

    same_branch : (away : Bool) → asking away ≡ branch_by Zero away
    same_branch true = refl
    same_branch false = refl

    line_lies : (rest : List slots.Instr) → LineLies labels code ns seed n (slots.Poll ∷ rest) → LineStands ly within code n (label_address labels (target.Line n)) rest
    unfolding opcodes.encoded
    line_lies rest l =
        let at = label_address labels (target.Line n) in
        let gs = select rest in
        let away = some_leaves gs in
        let s = split asks (answered (asking away) ++ onward away gs) l.forms l.of in
        let t = split (answered (asking away)) (onward away gs) s.back s.of_back in
        let whole : l.forms ≡ s.front ++ (t.front ++ t.back) = s.are ∙ ap (λ k. s.front ++ k) t.are in
        let head : items_from at s.front ≡ asks = straight_items at asks s.front refl s.of_front in
        let three : forms_size s.front ≡ 3 = (let a = items_size at s.front in let b = ap size head in omega (arith, a, b)) in
        let long : size (items_from at l.forms) ≡ forms_size l.forms = items_size at l.forms in
        let total : forms_size l.forms ≡ forms_size s.front + (forms_size t.front + forms_size t.back) = ap forms_size whole
        ∙ forms_append s.front (t.front ++ t.back) ∙ ap (λ k. forms_size s.front + k) (forms_append t.front t.back) in
        let below : at + forms_size l.forms ≤ highest_code = (let b = l.lies.below in omega (arith, b, long)) in
        let all : Rest labels at (s.front ++ (t.front ++ t.back)) = subst (Rest labels at) whole (record { labels_at = l.lies.labelled; near = l.near; below = below }) in
        let there : at + forms_size s.front ≡ at + 3 = omega (arith, three) in
        let behind_call : Rest labels (at + 3) (t.front ++ t.back) = rest_behind labels at (at + 3) s.front (t.front ++ t.back) there all in
        let bytes = part_bytes code at s.front (t.front ++ t.back) (let b = all.below in b) (subst (λ k. Bytes code at (bytes_from labels at (items_from at k))) whole l.lies.bytes) in
        let call_bytes : Bytes code at (flat (call GETIN)) = subst (λ es. Bytes code at (bytes_from labels at es)) head bytes.0 in
        let later : Bytes code (at + 3) (bytes_from labels (at + 3) (items_from (at + 3) (t.front ++ t.back))) =
        subst (λ a. Bytes code a (bytes_from labels a (items_from a (t.front ++ t.back)))) there bytes.1 in
        let inner_later : Bytes within (at + 3) (bytes_from labels (at + 3) (items_from (at + 3) (t.front ++ t.back))) =
        inner_bytes ly code (at + 3) (bytes_from labels (at + 3) (items_from (at + 3) (t.front ++ t.back))) (later_end at s.front t.front t.back three total below)
        (λ a lo hi. none_between labels seed code sc laid (at + 3) (at + size (items_from at l.forms)) (λ m e. ⊎_elim (λ q. inl (omega (arith, q)))
        (λ q. inr q) (l.clear m e)) a lo (later_inside at s.front t.front t.back l.forms three total long a hi)) later in
        let poll_rest = rest_before labels (at + 3) t.front t.back behind_call in
        let behind_below = behind_call.below in
        let parts = part_bytes within (at + 3) t.front t.back behind_below inner_later in
        let next_at_end : at + 3 + forms_size t.front + forms_size t.back ≡ next_at ly n =
        (let q : at + 3 + forms_size t.front + forms_size t.back ≡ at + size (items_from at l.forms) = omega (arith, three, total, long) in q) ∙ l.next ∙ next_same labels ns seed n in
        let o = onward_lies (at + 3 + forms_size t.front) away gs t.back refl (let b = l.after_block in omega (arith, b)) (subst (AreInRange 256) (sym (brackets rest)) l.ranged.1)
        (all_alone rest) t.of_back (rest_behind labels (at + 3) (at + 3 + forms_size t.front) t.front t.back refl behind_call) parts.1 next_at_end in
        let p = poll_emitted labels ns seed n laid.seed_small small (at + 3) away stop (label_of (target.Polled n)) t.front o.there o.below
        (subst (λ m. AreFormsOf (answered m) t.front) (same_branch away) t.of_front) poll_rest in
        let ps = poll_code (at + 3) away p.way stop in
        let poll_long : forms_size t.front ≡ pieces_size ps = emitted_size labels p.emits in
        let sum = forms_append t.front t.back in
        let onward_at : at + 3 + forms_size t.front ≡ at + 5 + way_size p.way = (let q = poll_size (at + 3) away p.way stop in omega (arith, poll_long, q)) in (
          away,
          p.way,
          stop,
          omega (arith, below, total, three),
          stands_there code at (call GETIN) (omega (arith, below, total, three)) call_bytes,
          lies within (within_small labels seed code sc laid) (at + 3) ps (omega (arith, behind_below, sum, poll_long)) (subst (Bytes within (at + 3)) p.emits.bytes parts.0),
          subst (λ a. BranchReaches p.way a stop) (let q : at + 3 + 2 ≡ at + 5 = omega arith in q) p.reach,
          subst (λ a. Lies within (cond away stop a) (broken_code n)) onward_at o.broken,
          subst (λ a. GroupsLie ly within n (cond away a stop) gs) onward_at o.groups,
        )
      where
        later_end : (at : ℕ) (f g h : List Form) → forms_size f ≡ 3 → forms_size l.forms ≡ forms_size f + (forms_size g + forms_size h)
            → at + forms_size l.forms ≤ highest_code → at + 3 + length (bytes_from labels (at + 3) (items_from (at + 3) (g ++ h))) ≤ 0xa000
        later_end at f g h three total below = let a = all_size labels (at + 3) (items_from (at + 3) (g ++ h)) in
            let b = items_size (at + 3) (g ++ h) in let c = forms_append g h in omega (arith, a, b, c, three, total, below)

        later_inside : (at : ℕ) (f g h fs : List Form) → forms_size f ≡ 3 → forms_size fs ≡ forms_size f + (forms_size g + forms_size h)
            → size (items_from at fs) ≡ forms_size fs → (a : ℕ) → a < at + 3 + length (bytes_from labels (at + 3) (items_from (at + 3) (g ++ h))) → a < at + size (items_from at fs)
        later_inside at f g h fs three total long x hi = let a = all_size labels (at + 3) (items_from (at + 3) (g ++ h)) in
            let b = items_size (at + 3) (g ++ h) in let c = forms_append g h in omega (arith, a, b, c, three, total, long, hi)

  -- the whole program
  polled_at : (lines : slots.SlotCode) → ArePolled lines → (n : ℕ) (is : List slots.Instr) → content_at lines n ≡ Some is → (rest : List slots.Instr) × (is ≡ slots.Poll ∷ rest)
  polled_at [] h n is e = absurd (no_list is e)
    where
      no_list : (is : List slots.Instr) → ◌≡◌ {A = Option (List slots.Instr)} None (Some is) → ⊥
      no_list is e = cc
  polled_at (l ∷ ls) h n is e = go (polled_at ls h.1 n is) (nat_eq l.number n) e
    where
      same : (a b : List slots.Instr) → ◌≡◌ {A = Option (List slots.Instr)} (Some a) (Some b) → a ≡ b
      same a b e = cc

      go : (content_at ls n ≡ Some is → (rest : List slots.Instr) × (is ≡ slots.Poll ∷ rest)) → (t : Bool)
          → (if t then Some l.content else content_at ls n) ≡ Some is → (rest : List slots.Instr) × (is ≡ slots.Poll ∷ rest)
      go later true e = (h.0.0, sym (same l.content is e) ∙ h.0.1)
      go later false e = later e

  -- the settled code of a program is laid by groups
  pub groups_laid : ArePolled sc → GroupsLaid ly within code sc
  groups_laid polled = record {
    numbered = refl;
    lines = λ n is e.
        let p = polled_at sc polled n is e in
        let l : LineLies labels code ns seed n (slots.Poll ∷ p.0) = subst (LineLies labels code ns seed n) p.1 (laid.lines n is e) in
        record {
          rest = p.0;
          polled = p.1;
          stands = subst (λ a. LineStands ly within code n a p.0) (start_of_line labels ns seed n (content_has labels seed code sc laid sc n is e))
              (line_lies n (laid.lines n is e).small p.0 l);
          small = (laid.lines n is e).small;
        };
    absent = λ n e. ap (λ t. if t then label_address labels (target.Line n) else label_address labels target.Past) (content_none labels seed code sc laid sc n e);
    places = place_small labels seed code sc laid;
    past = past_lies labels seed code sc laid;
    find = find_lies labels seed code sc laid;
    rising = laid.rising;
    top = top_small labels seed code sc laid sc (λ n e. (line_of labels seed code sc laid n e).1.small);
    table_small = table_small labels seed code sc laid;
    count_small = laid.count_small;
    seed_small = laid.seed_small;
  }
