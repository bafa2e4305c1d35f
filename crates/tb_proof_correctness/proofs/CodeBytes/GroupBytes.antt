-- The bytes of groups, whatever the ways of their branches.
use Rattle.std.proofs.Common.{◌≡◌, ℕ, ◌+◌, ◌≤◌, ◌<◌, Bool, true, false, List, [], ◌∷◌, ◌++◌, map, refl, sym, ap, ◌∙◌, subst, arith, Some, true≢false}
use Rattle.std.specs.Prelude.{if◌then◌else◌, Option, None}
use Rattle.std.specs.List.{list_all}
use Rattle.tb_opcodes.specs.Opcodes as opcodes
use Rattle.tb_opcodes.specs.declared.Mnemonic.{Mnemonic}
use Rattle.tb_opcodes.specs.declared.Mnemonic.TheVariants.{Cmp, Sbc}
use Rattle.tb_opcodes.specs.declared.Mode.TheVariants.{Relative}
use Rattle.tb_asm.specs.declared.names.Name.{Name}
use Rattle.tb_asm.specs.declared.items.Operand.TheVariants.{Label}
use Rattle.tb_asm.specs.Layout.{Entry, instr, bytes_from, address_in}
use Rattle.tb_asm.specs.Settle.{Form, kept}
use Rattle.tb_asm.proofs.Settled.{items_kept}
use Rattle.tb_assembly_settling.specs.Settled.{AreFormsOf}
use Rattle.tb_assembly_settling.proofs.Forms.{kept_size, is_straight, straight_forms, split}
use Rattle.tb_machine_reaching.proofs.Instr.{ins}
use Rattle.tb_words.specs.declared.Rel.{Rel}
use Rattle.tb_words.specs.declared.Rel.TheVariants as rel
use Rattle.tb_basic_meaning.specs.Control.{has_line}
use Rattle.tb_lower.specs.Ranges.{AreInRange, IsInRange}
use Rattle.tb_lower.specs.Slots as slots
use Rattle.tb_compiled_kept.specs.Addresses.{LINE, LEFT, RESULT, WANTED}
use Rattle.tb_runtime16.specs.Addresses.{RANDOM_AT, NUMBER_AT, PUSH_AT}
use Rattle.tb_compiler_selection.specs.Select.{alone}
use Rattle.tb_compiler_selection.specs.Groups.{Operand, Variable, Tested, Conversion, Negated, Drawn, Usage, AsNumber, AsLine, AsSubroutine, Divisibility, Divisible}
use Rattle.tb_compiler_selection.specs.Groups.{Indivisible, Group, Calculate, Stepped, Convert, Move, Use, Test, TestGo, Divides, Remains, Single, contrary, denied}
use Rattle.tb_compiler_selection.specs.Groups.{slot_of, expand}
use Rattle.tb_compiler_templates.specs.declared.labels.Inner.TheVariants as inside
use Rattle.tb_compiler_templates.specs.declared.labels.Target.{Target}
use Rattle.tb_compiler_templates.specs.declared.labels.Target.TheVariants as target
use Rattle.tb_compiler_templates.specs.Labels.{label_of}
use Rattle.tb_compiler_program.specs.Layout.{LabelsAt}
use Rattle.tb_compiler_templates.specs.declared.sources.Source.{Source}
use Rattle.tb_compiler_templates.specs.declared.sources.Source.TheVariants.{FixedWord}
use Rattle.tb_compiler_templates.specs.Sources.{source_of, tested_source, home_at, destination_at}
use Rattle.tb_compiler_templates.specs.Templates as product
use Rattle.tb_compiler_templates.specs.Templates.{next_line}
use Rattle.tb_compiler_templates.specs.GroupTemplates as items
use Rattle.tb_compiler_templates.specs.declared.orders.Side.TheVariants.{Below, NotBelow}
use Rattle.tb_compiler_templates.specs.Masks.{mask}
use Rattle.tb_compiler_program.proofs.Divided.{left_over_plain, masking_is}
use Rattle.tb_compiler_templates.proofs.Plain.{plain_straight}
use Rattle.tb_proof_simulation.specs.Layout.{Layout, layout_of}
use Rattle.tb_proof_simulation.proofs.Resolved as resolved
use Rattle.tb_proof_simulation.proofs.Resolved.{Piece, Code, highest_code, next_at}
use Rattle.tb_proof_correctness.proofs.CodeBytes.GroupCode as coded
use Rattle.tb_proof_correctness.proofs.CodeBytes.GroupCode.{Way, Short, Zero, BranchReaches, test_code, TestReaches, group_code, BranchesReach}
use Rattle.tb_proof_correctness.proofs.Slots.Singles.{IsAlone}
use Rattle.tb_proof_correctness.proofs.CodeBytes.Emits.{formed, branch_by, Emits, emits_append, emitted_size, ends, block, branches}
use Rattle.tb_proof_simulation.proofs.Numbers.{address_bytes, constant_bytes, faulted_bytes, next_same}
use Rattle.tb_proof_correctness.proofs.CodeBytes.SingleBytes.{template_bytes}
use Rattle.tb_proof_correctness.proofs.CodeBytes.ItemBytes.{AllEncode, IsWord, Rest, all_straight, behind_straight, brought_bytes, brought_straight, cut, cut_branch}
use Rattle.tb_proof_correctness.proofs.CodeBytes.ItemBytes.{gets_there, handed_emits, handed_straight, joined_straight, left_over_emits, lined_emits, lined_straight, no_more}
use Rattle.tb_proof_correctness.proofs.CodeBytes.ItemBytes.{rest_before, rest_behind, source_word, taken_bytes, template_straight, tested_word, value_of}
use Rattle.tb_proof_correctness.proofs.CodeBytes.TestBytes.{equal_emitted, unequal_emitted, compared_emitted}

-- ---- groups
-- forms that emit a test whose branches go to an address, by their ways, all of which reach
pub record TestEmitted (labels : List (Name × ℕ)) (r : Rel) (at : ℕ) (a b : Source) (to : ℕ) (fs : List Form) : Type 0 where
  pub first : Way
  pub second : Way
  pub emits : Emits labels at fs (test_code r first second at a b to)
  pub reach : TestReaches r first second at a b to

-- forms that emit a test by a divisor of line n, whose branch goes to an address, by its way, which reaches
pub record DividedEmitted (labels : List (Name × ℕ)) (n at : ℕ) (how : Divisibility) (a b : Source) (to : ℕ) (fs : List Form) : Type 0 where
  pub first : Way
  pub emits : Emits labels at fs (coded.divided_code n at first how a b to)
  pub reach : coded.DividedReaches n at first a b to

-- forms that emit a group by the ways of its branches, all of which reach
pub record GroupEmitted (labels : List (Name × ℕ)) (ly : Layout) (n at : ℕ) (g : Group) (fs : List Form) : Type 0 where
  pub first : Way
  pub second : Way
  pub emits : Emits labels at fs (group_code ly n at first second g)
  pub reach : BranchesReach ly n at first second g

-- the next line's code and every line's begin where their labels are
pub record Starting (labels : List (Name × ℕ)) (ns : List ℕ) (seed n : ℕ) : Type 0 where
  pub there : address_in labels (label_of (next_line ns n)) ≡ Some (next_at (layout_of labels ns seed) n)
  pub top : next_at (layout_of labels ns seed) n ≤ highest_code
  pub lines_there : (m : ℕ) → has_line ns m ≡ true → address_in labels (label_of (target.Line m)) ≡ Some ((layout_of labels ns seed).start m)
  pub starts_top : (m : ℕ) → (layout_of labels ns seed).start m ≤ highest_code

module _ (labels : List (Name × ℕ)) (ns : List ℕ) (seed n : ℕ) (seed_small : seed < 65536) (n_small : n < 65536) where
  abbrev ly : Layout
  ly = layout_of labels ns seed

  module _ (starting : Starting labels ns seed n) where
    open starting use {there, top, lines_there, starts_top}

    next_small : next_at ly n < 65536
    next_small = omega (arith, top)

    -- a single instruction, with the line's number set before it if it may fault
    abbrev alone_items : ℕ → slots.Instr → Bool → List Entry
    alone_items i c t = if t then product.constant n LINE ++ product.template ns n i c else product.template ns n i c

    abbrev alone_pieces : ℕ → slots.Instr → Bool → List Piece
    alone_pieces at c t = if t then Code (resolved.constant n LINE) ∷ resolved.template ly n (at + 10) c else resolved.template ly n at c

    alone_straight : (i : ℕ) (c : slots.Instr) (t : Bool) → coded.has_branches c ≡ false → list_all is_straight (alone_items i c t) ≡ true
    alone_straight i c true b = template_straight ns n i c b
    alone_straight i c false b = template_straight ns n i c b

    line_set : AllEncode labels (product.constant n LINE) (resolved.constant n LINE)
    line_set = record { same = λ a. constant_bytes labels ns seed a n LINE n_small }

    template_emits : (i at : ℕ) (c : slots.Instr) → coded.has_branches c ≡ false → alone c ≡ Single c → IsInRange 256 c → Rest labels at (map kept (product.template ns n i c))
        → Emits labels at (map kept (product.template ns n i c)) (resolved.template ly n at c)
    template_emits i at c b q range r =
        let es = product.template ns n i c in
        let below = r.below in let k = kept_size es in
        record {
          bytes = ap (bytes_from labels at) (items_kept at es)
              ∙ template_bytes labels ns seed seed_small n n_small next_small i at c b q range (omega (arith, below, k)) (subst (LabelsAt labels at) (items_kept at es) r.labels_at);
        }

    alone_emits : (i at : ℕ) (c : slots.Instr) (t : Bool) → coded.has_branches c ≡ false → alone c ≡ Single c → IsInRange 256 c → Rest labels at (map kept (alone_items i c t))
        → Emits labels at (map kept (alone_items i c t)) (alone_pieces at c t)
    alone_emits i at c true b q range r =
        block labels (product.constant n LINE) (resolved.constant n LINE) (line_set.same at)
        (template_emits i (at + 10) c b q range (behind_straight labels at (product.constant n LINE) (resolved.constant n LINE) (map kept (product.template ns n i c)) line_set r))
    alone_emits i at c false b q range r = template_emits i at c b q range r

    -- an instruction alone without branches
    plain_emitted : (at : ℕ) (c : slots.Instr) (fs : List Form) (t : Bool) → t ≡ false → Emits labels at fs (coded.plain_code ly n at c)
        → (first second : Way) × Emits labels at fs (if t then coded.branching_code ly n at first second c else coded.plain_code ly n at c)
        × coded.OnlyIf t (coded.BranchingReaches ly first second at c)
    plain_emitted at c fs true e h = absurd (true≢false e)
    plain_emitted at c fs false e h = (Short, Short, h, tt)

    straight_emitted : (at : ℕ) (g : Group) (es : List Entry) (fs : List Form) → list_all is_straight es ≡ true → AreFormsOf es fs → Rest labels at fs
        → (Rest labels at (map kept es) → GroupEmitted labels ly n at g (map kept es)) → GroupEmitted labels ly n at g fs
    straight_emitted at g es fs s h r k =
        let is : fs ≡ map kept es = straight_forms es fs s h in
        subst (GroupEmitted labels ly n at g) (sym is) (k (subst (Rest labels at) is r))

    -- a test whose branches go to any label
    module _ (to : ℕ) (goal skip : Target) (goal_there : address_in labels (label_of goal) ≡ Some to) (goal_top : to ≤ highest_code) where
      tested_emitted : (r : Rel) (at : ℕ) (x : Tested) (b : Operand) (fs : List Form)
          → AreFormsOf (items.tested r (tested_source x) (source_of 0 b) skip goal) fs → Rest labels at fs → TestEmitted labels r at (tested_source x) (source_of 0 b) to fs
      tested_emitted rel.Eq at x b fs h r =
          let e = equal_emitted labels (tested_source x) (source_of 0 b) (tested_word x) (source_word 0 b) to (label_of goal) goal_there goal_top at fs h r in
          record { first = e.first; second = e.second; emits = e.emits; reach = e.reach }
      tested_emitted rel.Ne at x b fs h r =
          let e = unequal_emitted labels (tested_source x) (source_of 0 b) (tested_word x) (source_word 0 b) to (label_of goal) goal_there goal_top at (label_of skip) fs h r in
          record { first = e.first; second = e.second; emits = e.emits; reach = e.reach }
      tested_emitted rel.Lt at x b fs h r =
          let e = compared_emitted labels to goal goal_there goal_top (tested_source x) (source_of 0 b) Below skip at fs (tested_word x) (source_word 0 b) h r in
          record { first = e.first; second = e.second; emits = e.emits; reach = e.reach }
      tested_emitted rel.Ge at x b fs h r =
          let e = compared_emitted labels to goal goal_there goal_top (tested_source x) (source_of 0 b) NotBelow skip at fs (tested_word x) (source_word 0 b) h r in
          record { first = e.first; second = e.second; emits = e.emits; reach = e.reach }
      tested_emitted rel.Gt at x b fs h r =
          let e = compared_emitted labels to goal goal_there goal_top (source_of 0 b) (tested_source x) Below skip at fs (source_word 0 b) (tested_word x) h r in
          record { first = e.first; second = e.second; emits = e.emits; reach = e.reach }
      tested_emitted rel.Le at x b fs h r =
          let e = compared_emitted labels to goal goal_there goal_top (source_of 0 b) (tested_source x) NotBelow skip at fs (source_word 0 b) (tested_word x) h r in
          record { first = e.first; second = e.second; emits = e.emits; reach = e.reach }

    -- a fault in line n
    fault_emits : {at : ℕ} → Emits labels at (map kept (product.faulted n 1)) (Code (resolved.faulting n 1) ∷ [])
    fault_emits = block labels (product.faulted n 1) (resolved.faulting n 1) (faulted_bytes labels ns seed 0 n 1 n_small (omega arith)) (ends labels)

    -- a test that goes straight to a line, by whether there is one
    go_emitted : (i at : ℕ) (r : Rel) (x : Tested) (b : Operand) (to : ℕ) (has : Bool) → has_line ns to ≡ has → (fs : List Form)
        → AreFormsOf (items.gone n r (tested_source x) (source_of 0 b) (target.Inside inside.Skip n i) (next_line ns n) has to) fs → Rest labels at fs
        → (first second : Way) × Emits labels at fs (coded.go_code ly n at first second r (tested_source x) (source_of 0 b) has to)
        × coded.GoReaches ly n at first second r (tested_source x) (source_of 0 b) has to
    go_emitted i at r x b to true has fs h rest =
        let e = tested_emitted (ly.start to) (target.Line to) (target.Inside inside.Skip n i) (lines_there to has) (starts_top to) (denied r) at x b fs h rest in
        (e.first, e.second, e.emits, e.reach)
    go_emitted i at r x b to false has fs h rest =
        let test = items.tested r (tested_source x) (source_of 0 b) (target.Inside inside.Skip n i) (next_line ns n) in
        let s = split test (product.faulted n 1) fs h in
        let parts = subst (Rest labels at) s.are rest in
        let e = tested_emitted (next_at ly n) (next_line ns n) (target.Inside inside.Skip n i) there top r at x b s.front s.of_front (rest_before labels at s.front s.back parts) in
        let behind : s.back ≡ map kept (product.faulted n 1) = straight_forms (product.faulted n 1) s.back refl s.of_back in (
          e.first,
          e.second,
          subst (λ k. Emits labels at k (coded.go_code ly n at e.first e.second r (tested_source x) (source_of 0 b) false to))
              (sym (s.are ∙ ap (λ k. s.front ++ k) behind)) (emits_append labels e.emits fault_emits),
          e.reach,
        )

    -- a test by a divisor whose branch goes to any label
    module _ (to : ℕ) (goal : Target) (goal_there : address_in labels (label_of goal) ≡ Some to) (goal_top : to ≤ highest_code) (x y : Source) (x_word : IsWord x) (y_word : IsWord y) where
      abbrev left_items : List Entry
      left_items = items.left_over n (mask y) x y

      left_emits : (at : ℕ) → Emits labels at (map kept left_items) (coded.left_over n (mask y) x y)
      left_emits at = left_over_emits labels n at (mask y) x y (masking_is y) n_small x_word y_word

      abbrev leaving : Bool → Mnemonic
      leaving wanted = branch_by Zero wanted

      record Leaving (wanted : Bool) (at : ℕ) (fs : List Form) : Type 0 where
        first : Way
        emits : Emits labels at fs (coded.left_over n (mask y) x y ++ (Code (coded.branch_code first (coded.branch_on Zero wanted) (coded.divided_at n at x y) to) ∷ []))
        reach : BranchReaches first (coded.divided_at n at x y) to

      leaving_emitted : (wanted : Bool) (at : ℕ) (fs : List Form)
          → AreFormsOf (left_items ++ (instr (leaving wanted) Relative (Label (label_of goal)) ∷ [])) fs → Rest labels at fs → Leaving wanted at fs
      leaving_emitted wanted at fs h r =
          let l = label_of goal in
          let c1 = cut left_items (instr (leaving wanted) Relative (Label l) ∷ []) fs (plain_straight left_items (left_over_plain n (mask y) x y)) h in
          let b1 = cut_branch (leaving wanted) l [] c1.rest c1.of in
          let is : fs ≡ map kept left_items ++ (formed b1.way (leaving wanted) l ∷ []) =
          c1.is ∙ ap (λ t. map kept left_items ++ t) (b1.is ∙ ap (λ t. formed b1.way (leaving wanted) l ∷ t) (no_more b1.rest b1.of)) in
          let e = left_emits at in
          let r1 = rest_behind labels at (coded.divided_at n at x y) (map kept left_items) (formed b1.way (leaving wanted) l ∷ [])
          (ap (λ k. at + k) (emitted_size labels e)) (subst (Rest labels at) is r) in
          subst (Leaving wanted at) (sym is)
          (record {
            first = b1.way;
            emits = emits_append labels e (branches labels b1.way Zero wanted l (let q = r1.below in omega (arith, q)) (value_of labels l to goal_there) (ends labels));
            reach = gets_there labels _ to b1.way (leaving wanted) l _ goal_there goal_top r1;
          })

      divided_emitted : (how : Divisibility) (at : ℕ) (fs : List Form) → AreFormsOf (items.divided_by n how x y goal) fs → Rest labels at fs → DividedEmitted labels n at how x y to fs
      divided_emitted Divisible at fs h r = let e = leaving_emitted false at fs h r in record { first = e.first; emits = e.emits; reach = e.reach }
      divided_emitted Indivisible at fs h r = let e = leaving_emitted true at fs h r in record { first = e.first; emits = e.emits; reach = e.reach }

    -- a test by a divisor that goes straight to a line, by whether there is one, and one that goes to no line
    divided_gone : (at : ℕ) (how : Divisibility) (x y : Source) → IsWord x → IsWord y → (to : ℕ) (has : Bool) → has_line ns to ≡ has → (fs : List Form)
        → AreFormsOf (items.divided_gone n how x y (next_line ns n) has to) fs → Rest labels at fs
        → (first : Way) × Emits labels at fs (coded.divided_go ly n at first how x y has to) × coded.DividedGoes ly n at first x y has to
    divided_gone at how x y xw yw to true has fs h rest =
        let e = divided_emitted (ly.start to) (target.Line to) (lines_there to has) (starts_top to) x y xw yw (contrary how) at fs h rest in
        (e.first, e.emits, e.reach)
    divided_gone at how x y xw yw to false has fs h rest =
        let test = items.divided_by n how x y (next_line ns n) in
        let s = split test (product.faulted n 1) fs h in
        let parts = subst (Rest labels at) s.are rest in
        let e = divided_emitted (next_at ly n) (next_line ns n) there top x y xw yw how at s.front s.of_front (rest_before labels at s.front s.back parts) in
        let behind : s.back ≡ map kept (product.faulted n 1) = straight_forms (product.faulted n 1) s.back refl s.of_back in (
          e.first,
          subst (λ k. Emits labels at k (coded.divided_go ly n at e.first how x y false to)) (sym (s.are ∙ ap (λ k. s.front ++ k) behind))
              (emits_append labels e.emits fault_emits),
          e.reach,
        )

    divides_emitted : (at : ℕ) (how : Divisibility) (x y : Source) → IsWord x → IsWord y → (to : Option ℕ) (fs : List Form)
        → AreFormsOf (items.divides ns n how x y to) fs → Rest labels at fs
        → (first : Way) × Emits labels at fs (coded.divides_code ly n at first how x y to) × coded.DividesReach ly n at first x y to
    divides_emitted at how x y xw yw None fs h r = let e = divided_emitted (next_at ly n) (next_line ns n) there top x y xw yw how at fs h r in (e.first, e.emits, e.reach)
    divides_emitted at how x y xw yw (Some to) fs h r = divided_gone at how x y xw yw to (has_line ns to) refl fs h r

    -- the search in the line table for a word, and what follows it
    searched_emits : {at : ℕ} {fs : List Form} {ps : List Piece} (x : Source) → IsWord x
        → Emits labels (at + 10 + resolved.size (coded.brought x WANTED) + 3) fs ps → Emits labels at (map kept (items.searched n x) ++ fs) (coded.searched ly n x ps)
    unfolding opcodes.encoded
    searched_emits x w e =
        block labels (product.constant n LINE) (resolved.constant n LINE) (line_set.same 0)
        (block labels (items.brought x WANTED) (coded.brought x WANTED) ((brought_bytes labels x WANTED w).same _)
        (block labels (product.find ∷ []) (resolved.call ly.find) refl e))

    used_straight : (how : Usage) (x : Source) → list_all is_straight (items.used n (next_line ns n) how x) ≡ true
    used_straight AsNumber x = all_straight (items.brought x LEFT) (product.call NUMBER_AT ∷ []) (brought_straight x LEFT) refl
    used_straight AsLine x = all_straight (items.brought x WANTED) (product.find ∷ product.jump_through) (brought_straight x WANTED) refl
    used_straight AsSubroutine x = all_straight (items.brought x WANTED) (product.find ∷ (product.return_address (next_line ns n) ++ product.jump_through)) (brought_straight x WANTED) refl

    used_emits : {at : ℕ} (how : Usage) (x : Source) → IsWord x → Emits labels at (map kept (items.used n (next_line ns n) how x)) (coded.use_code ly n how x)
    unfolding opcodes.encoded
    used_emits AsNumber x w = block labels (items.brought x LEFT) (coded.brought x LEFT) ((brought_bytes labels x LEFT w).same _)
        (block labels (product.call NUMBER_AT ∷ []) (resolved.call NUMBER_AT) refl (ends labels))
    used_emits AsLine x w = searched_emits x w (block labels product.jump_through resolved.jump_through refl (ends labels))
    used_emits AsSubroutine x w =
        searched_emits x w
        (block labels (product.address (next_line ns n) LEFT) (resolved.pointed (next_at ly n) LEFT) (address_bytes labels ns seed 0 (next_line ns n)
        (next_at ly n) LEFT (next_same labels ns seed n) next_small (omega arith))
        (block labels (product.call PUSH_AT ∷ []) (resolved.call PUSH_AT) refl (block labels product.jump_through resolved.jump_through refl (ends labels))))

    converted_straight : (what : Conversion) (x : Source) (to : ℕ) → list_all is_straight (items.converted n seed what x to) ≡ true
    converted_straight Negated x to = joined_straight Sbc (FixedWord 0) x to
    converted_straight Drawn x to = lined_straight (items.may_have_none x) n (items.handed RANDOM_AT RESULT (FixedWord seed) x to) (handed_straight RANDOM_AT RESULT (FixedWord seed) x to)

    converted_emits : (at : ℕ) (what : Conversion) (x : Source) (to : ℕ) → IsWord x → Emits labels at (map kept (items.converted n seed what x to)) (coded.convert_code ly n what x to)
    converted_emits at Negated x to w = block labels (items.taken (FixedWord 0) x to) (coded.taken (FixedWord 0) x to) ((taken_bytes labels (FixedWord 0) x to (omega arith) w).same _) (ends labels)
    converted_emits at Drawn x to w =
        lined_emits labels at (items.may_have_none x) n n_small (items.handed RANDOM_AT RESULT (FixedWord seed) x to)
        (coded.routine RANDOM_AT RESULT (FixedWord seed) x to) (λ b. handed_emits labels {at = b} RANDOM_AT RESULT (FixedWord seed) x to seed_small w)

    -- the forms of each group without branches of a single instruction emit it
    pub group_emitted : (i at : ℕ) (g : Group) (fs : List Form) → coded.is_branching g ≡ false → IsAlone g → AreInRange 256 (expand g)
        → AreFormsOf (items.group_template ns seed n i g) fs → Rest labels at fs
        → GroupEmitted labels ly n at g fs
    group_emitted i at (Calculate o a b d) fs plain q range h r = absurd (true≢false plain)
    group_emitted i at (Stepped o a b by w x) fs plain q range h r = absurd (true≢false plain)
    group_emitted i at (Remains x d to) fs plain q range h r = absurd (true≢false plain)
    group_emitted i at (Move a home) fs plain q range h r =
        let x = source_of 0 a in let to = home_at home in
        straight_emitted at (Move a home) (items.brought x to) fs (brought_straight x to) h r
        (λ s. record {
          first = Short;
          second = Short;
          emits = block labels (items.brought x to) (coded.brought x to)
              ((brought_bytes labels x to (source_word 0 a)).same at) (ends labels);
          reach = tt;
        })
    group_emitted i at (Convert what a d) fs plain q range h r =
        let x = source_of (slot_of d) a in let to = destination_at d in
        straight_emitted at (Convert what a d) (items.converted n seed what x to) fs (converted_straight what x to) h r
        (λ s. record { first = Short; second = Short; emits = converted_emits at what x to (source_word (slot_of d) a); reach = tt })
    group_emitted i at (Use how a) fs plain q range h r =
        straight_emitted at (Use how a) (items.used n (next_line ns n) how (source_of 0 a)) fs (used_straight how (source_of 0 a)) h r
        (λ s. record { first = Short; second = Short; emits = used_emits how (source_of 0 a) (source_word 0 a); reach = tt })
    group_emitted i at (Test rel x b) fs plain q range h r =
        let e = tested_emitted (next_at ly n) (next_line ns n) (target.Inside inside.Skip n i) there top rel at x b fs h r in
        record { first = e.first; second = e.second; emits = e.emits; reach = e.reach }
    group_emitted i at (TestGo rel x b to) fs plain q range h r =
        let e = go_emitted i at rel x b to (has_line ns to) refl fs h r in
        record { first = e.0; second = e.1; emits = e.2; reach = e.3 }
    group_emitted i at (Divides how x d side to) fs plain q range h r =
        let e = divides_emitted at how (source_of 0 (Variable x)) (source_of 1 d) tt (source_word 1 d) to fs h r in
        record { first = e.0; second = Short; emits = e.1; reach = e.2 }
    group_emitted i at (Single c) fs plain q range h r =
        straight_emitted at (Single c) (alone_items i c (items.may_fault c)) fs (alone_straight i c (items.may_fault c) plain) h r
        (λ s. let e = plain_emitted at c _ (coded.has_branches c) plain (alone_emits i at c (items.may_fault c) plain q range.0 s) in
        record { first = e.0; second = e.1; emits = e.2; reach = e.3 })

  -- ---- the poll at a line's beginning
  -- the forms of a poll after its call emit it by the way of its branch, which reaches its label
  pub record PollEmitted (at : ℕ) (away : Bool) (to : ℕ) (fs : List Form) : Type 0 where
    pub way : Way
    pub emits : Emits labels at fs (coded.poll_code at away way to)
    pub reach : BranchReaches way (at + 2) to

  abbrev stop_asked : List Entry
  stop_asked = product.const Cmp 3 ∷ []

  stop_asked_bytes : AllEncode labels stop_asked (ins 0xC9 3 ∷ [])
  unfolding opcodes.encoded
  stop_asked_bytes = record { same = λ a. refl }

  -- the forms of a poll emit its code
  pub poll_emitted : (at : ℕ) (away : Bool) (to : ℕ) (l : Name) (fs : List Form) → address_in labels l ≡ Some to → to ≤ highest_code
      → AreFormsOf (stop_asked ++ (instr (branch_by Zero away) Relative (Label l) ∷ [])) fs → Rest labels at fs → PollEmitted at away to fs
  poll_emitted at away to l fs there top h r =
      let m = branch_by Zero away in
      let c1 = cut stop_asked (instr m Relative (Label l) ∷ []) fs refl h in
      let b1 = cut_branch m l [] c1.rest c1.of in
      let is : fs ≡ map kept stop_asked ++ (formed b1.way m l ∷ []) =
      c1.is ∙ ap (λ t. map kept stop_asked ++ t) (b1.is ∙ ap (λ t. formed b1.way m l ∷ t) (no_more b1.rest b1.of)) in
      let r1 = behind_straight labels at stop_asked (ins 0xC9 3 ∷ []) _ stop_asked_bytes (subst (Rest labels at) is r) in
      subst (PollEmitted at away to) (sym is)
      (record {
        way = b1.way;
        emits = block labels stop_asked (ins 0xC9 3 ∷ []) (stop_asked_bytes.same at) (branches labels b1.way Zero away l (let q = r1.below in
            omega (arith, q)) (value_of labels l to there) (ends labels));
        reach = gets_there labels (at + 2) to b1.way m l _ there top r1;
      })
