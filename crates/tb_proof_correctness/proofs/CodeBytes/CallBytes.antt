-- The bytes of GOSUB and RETURN, whatever the ways of their branches; and with them those of every group.
use Rattle.std.proofs.Common.{◌≡◌, ℕ, ◌+◌, ◌/◌, ◌%◌, ◌≤◌, ◌<◌, Bool, true, false, if◌then◌else◌, List, [], ◌∷◌}
use Rattle.std.proofs.Common.{◌++◌, map, refl, sym, ap, ◌∙◌, subst, arith, Some}
use Rattle.tb_opcodes.specs.Opcodes as opcodes
use Rattle.tb_opcodes.specs.declared.Mnemonic.TheVariants.{Beq, Bne, Dex, Inc, Lda, Ldx, Sta, Stx}
use Rattle.tb_opcodes.specs.declared.Mode.TheVariants.{Relative}
use Rattle.tb_asm.specs.declared.names.Name.{Name}
use Rattle.tb_asm.specs.declared.items.Operand.TheVariants.{HighOf, Label, LowOf}
use Rattle.tb_asm.specs.Layout.{Entry, instr, label, address_in, number_in}
use Rattle.tb_asm.specs.Settle.{Form, kept}
use Rattle.tb_assembly_settling.specs.Settled.{AreFormsOf}
use Rattle.tb_assembly_settling.proofs.Forms.{straight_forms}
use Rattle.tb_machine_reaching.proofs.Instr.{ins}
use Rattle.tb_basic_meaning.specs.Control.{has_line}
use Rattle.tb_lower.specs.Ranges.{AreInRange}
use Rattle.tb_lower.specs.Slots as slots
use Rattle.tb_compiled_kept.specs.Addresses.{LEFT, LINE, NOTES, RETURN_HIGH, RETURN_LOW, RESULT, var_at}
use Rattle.tb_runtime16.specs.Addresses.{POP_AT, PUSH_AT}
use Rattle.tb_compiler_selection.specs.Groups.{Constant, Group, Calculate, Stepped, Single, slot_of, expand, Remains}
use Rattle.tb_compiler_templates.specs.declared.labels.Inner.TheVariants as inside
use Rattle.tb_compiler_templates.specs.declared.labels.Target.TheVariants as target
use Rattle.tb_compiler_templates.specs.Labels.{label_of}
use Rattle.tb_compiler_templates.specs.Templates as product
use Rattle.tb_compiler_templates.specs.Templates.{next_line}
use Rattle.tb_compiler_templates.specs.declared.sources.Source.TheVariants.{AtAddress}
use Rattle.tb_compiler_templates.specs.GroupTemplates as items
use Rattle.tb_compiler_templates.specs.InPlace.{change_of}
use Rattle.tb_compiler_templates.specs.Sources.{source_of, destination_at}
use Rattle.tb_proof_simulation.specs.Layout.{Layout, layout_of}
use Rattle.tb_proof_simulation.proofs.Numbers.{address_bytes, constant_bytes, faulted_bytes, high_of, jump_bytes, low_of, next_same, start_of_line}
use Rattle.tb_proof_simulation.proofs.Resolved as resolved
use Rattle.tb_proof_simulation.proofs.Resolved.{Code, highest_code, next_at}
use Rattle.tb_proof_correctness.proofs.CodeBytes.ChangeBytes.{computed_emitted, remains_emitted, stepped_emitted}
use Rattle.tb_proof_correctness.proofs.Arithmetic.Changes.{change_is}
use Rattle.tb_proof_correctness.proofs.CodeBytes.GroupCode as coded
use Rattle.tb_proof_correctness.proofs.CodeBytes.GroupCode.{Way, Short, Zero, way_size}
use Rattle.tb_proof_correctness.proofs.CodeBytes.Emits.{Emits, block, branches, ends, formed, labelled}
use Rattle.tb_proof_correctness.proofs.CodeBytes.ItemBytes.{AllEncode, Encodes, Rest, behind_branch, behind_label, behind_straight, cut, cut_branch, gets_there, label_here, no_more, source_word, value_of}
use Rattle.tb_proof_correctness.proofs.CodeBytes.GroupBytes.{GroupEmitted, Starting, group_emitted}
use Rattle.tb_proof_correctness.proofs.Slots.Singles.{IsAlone}

module _ (labels : List (Name × ℕ)) (ns : List ℕ) (seed n : ℕ) (seed_small : seed < 65536) (n_small : n < 65536) where
  abbrev ly : Layout
  ly = layout_of labels ns seed

  module _ (starting : Starting labels ns seed n) where
    open starting use {there, top}

    next_small : next_at ly n < 65536
    next_small = omega (arith, top)

    line_set : AllEncode labels (product.constant n LINE) (resolved.constant n LINE)
    line_set = record { same = λ a. constant_bytes labels ns seed a n LINE n_small }

    -- loads of the two bytes of the next line's address
    low_made : Encodes labels (product.low_part (next_line ns n)) (ins 0xA9 (next_at ly n % 256))
    unfolding opcodes.encoded
    low_made = record {
      same = λ a. ap (λ b. 0xa9 ∷ b ∷ []) (let e : number_in labels (LowOf (label_of (next_line ns n))) % 256 ≡ next_at ly n % 256 =
          omega (arith, low_of labels ns seed (label_of (next_line ns n)), next_same labels ns seed n) in e);
    }

    high_made : Encodes labels (product.high_part (next_line ns n)) (ins 0xA9 (next_at ly n / 256))
    unfolding opcodes.encoded
    high_made = record {
      same = λ a. ap (λ b. 0xa9 ∷ b ∷ []) (let e : number_in labels (HighOf (label_of (next_line ns n))) % 256
          ≡ next_at ly n / 256 = omega (arith, high_of labels ns seed (label_of (next_line ns n)), next_same labels ns seed n, next_small) in e);
    }

    abbrev asked : ℕ → List Entry
    asked place = product.at Ldx place ∷ []

    asked_bytes : (place : ℕ) → AllEncode labels (asked place) (coded.asked place)
    unfolding opcodes.encoded
    asked_bytes place = record { same = λ a. refl }

    abbrev storing : List Entry
    storing = product.at Ldx NOTES ∷ product.low_part (next_line ns n) ∷ product.by_x Sta RETURN_LOW ∷ product.high_part (next_line ns n)
        ∷ product.by_x Sta RETURN_HIGH ∷ product.at Inc NOTES ∷ []

    storing_bytes : AllEncode labels storing (coded.return_stored (next_at ly n % 256) (next_at ly n / 256))
    unfolding opcodes.encoded
    storing_bytes = record {
      same = λ a. λ i. 0xae ∷ NOTES % 256 ∷ NOTES / 256
          ∷ (low_made.same a i ++ (0x9d ∷ RETURN_LOW % 256 ∷ RETURN_LOW / 256 ∷ (high_made.same a i ++ (0x9d ∷ RETURN_HIGH % 256 ∷ RETURN_HIGH / 256 ∷ 0xee
          ∷ NOTES % 256 ∷ NOTES / 256 ∷ []))));
    }

    raising_bytes : AllEncode labels (product.at Inc (NOTES + 1) ∷ []) (ins 0xEE (NOTES + 1) ∷ [])
    unfolding opcodes.encoded
    raising_bytes = record { same = λ a. refl }

    abbrev taking : List Entry
    taking = product.alone Dex ∷ product.at Stx NOTES ∷ product.by_x Lda RETURN_LOW ∷ product.on Sta LEFT ∷ product.by_x Lda RETURN_HIGH ∷ product.on Sta (LEFT + 1) ∷ []

    taking_bytes : AllEncode labels taking coded.return_taken
    unfolding opcodes.encoded
    taking_bytes = record { same = λ a. refl }

    by_bytes : (place : ℕ) → AllEncode labels (product.jump_by place) (resolved.jump_by place)
    unfolding opcodes.encoded
    by_bytes place = record { same = λ a. refl }

    call_bytes : (routine : ℕ) → AllEncode labels (product.call routine ∷ []) (resolved.call routine)
    unfolding opcodes.encoded
    call_bytes routine = record { same = λ a. refl }

    -- forms that emit a call of a line, by whether there is one, by the ways of its branches, all of which reach
    abbrev CallEmitted : (at to : ℕ) → Bool → List Form → Type 0
    CallEmitted at to has fs = (first second : Way) × Emits labels at fs (coded.call_code ly n at first second has to) × coded.CallReaches first second at has

    module _ (to : ℕ) (has : has_line ns to ≡ true) (skip over : Name) where
      abbrev going : List Entry
      going = product.jump (target.Line to) ∷ []

      going_bytes : AllEncode labels going (resolved.jump (ly.start to))
      going_bytes = record { same = λ a. jump_bytes labels ns seed a (target.Line to) _ (start_of_line labels ns seed to has) }

      -- what follows its branches
      abbrev pushing : List Entry
      pushing = product.constant n LINE ++ (product.return_address (next_line ns n) ++ going)

      abbrev onward : List Entry
      onward = product.at Inc (NOTES + 1) ∷ label skip ∷ (going ++ (label over ∷ pushing))

      abbrev called_forms : (first second : Way) → List Form
      called_forms first second = map kept (asked (NOTES + 1)) ++ (formed first Bne over ∷ (map kept storing ++ (formed second Bne skip ∷ map kept onward)))

      module _ (first second : Way) (at : ℕ) (r : Rest labels at (called_forms first second)) where
        c1 : Rest labels (at + 3) (formed first Bne over ∷ (map kept storing ++ (formed second Bne skip ∷ map kept onward)))
        c1 = behind_straight labels at (asked (NOTES + 1)) (coded.asked (NOTES + 1)) _ (asked_bytes (NOTES + 1)) r

        c2 : Rest labels (at + 3 + way_size first) (map kept storing ++ (formed second Bne skip ∷ map kept onward))
        c2 = behind_branch labels _ first Bne over _ c1

        c3 : Rest labels (coded.counted_at first at) (formed second Bne skip ∷ map kept onward)
        c3 = behind_straight labels _ storing (coded.return_stored (next_at ly n % 256) (next_at ly n / 256)) _ storing_bytes c2

        c4 : Rest labels (coded.counted_at first at + way_size second) (map kept onward)
        c4 = behind_branch labels _ second Bne skip _ c3

        c5 : Rest labels (coded.held_at first second at) (map kept (label skip ∷ (going ++ (label over ∷ pushing))))
        c5 = behind_straight labels _ (product.at Inc (NOTES + 1) ∷ []) (ins 0xEE (NOTES + 1) ∷ []) _ raising_bytes c4

        c6 : Rest labels (coded.pushing_at first second at) (map kept (label over ∷ pushing))
        c6 = behind_straight labels _ going (resolved.jump (ly.start to)) _ going_bytes (behind_label labels _ skip _ c5)

        skip_there : address_in labels skip ≡ Some (coded.held_at first second at)
        skip_there = label_here labels _ skip _ c5

        over_there : address_in labels over ≡ Some (coded.pushing_at first second at)
        over_there = label_here labels _ over _ c6

        called : CallEmitted at to true (called_forms first second)
        called = (
          first,
          second,
          block labels (asked (NOTES + 1)) (coded.asked (NOTES + 1)) ((asked_bytes (NOTES + 1)).same at)
              (branches labels first Zero false over (let q = c1.below in omega (arith, q)) (value_of labels over _ over_there)
              (block labels storing (coded.return_stored (next_at ly n % 256) (next_at ly n / 256)) (storing_bytes.same 0)
              (branches labels second Zero false skip (let q = c3.below in omega (arith, q)) (value_of labels skip _ skip_there)
              (block labels (product.at Inc (NOTES + 1) ∷ []) (ins 0xEE (NOTES + 1) ∷ []) (raising_bytes.same 0)
              (labelled labels skip
              (block labels going (resolved.jump (ly.start to)) (going_bytes.same 0)
              (labelled labels over
              (block labels (product.constant n LINE) (resolved.constant n LINE) (line_set.same 0)
              (block labels (product.address (next_line ns n) LEFT) (resolved.pointed (next_at ly n) LEFT)
              (address_bytes labels ns seed 0 (next_line ns n) (next_at ly n) LEFT (next_same labels ns seed n) next_small (omega arith))
              (block labels (product.call PUSH_AT ∷ []) (resolved.call PUSH_AT) ((call_bytes PUSH_AT).same 0)
              (block labels going (resolved.jump (ly.start to)) (going_bytes.same 0) (ends labels)))))))))))),
          (
            gets_there labels (at + 3) _ first Bne over _ over_there (let q = c6.below in omega (arith, q)) c1,
            gets_there labels (coded.counted_at first at) _ second Bne skip _ skip_there (let q = c5.below in omega (arith, q)) c3,
          ),
        )

      called_emitted : (at : ℕ) (fs : List Form)
          → AreFormsOf (asked (NOTES + 1) ++ (instr Bne Relative (Label over) ∷ (storing ++ (instr Bne Relative (Label skip) ∷ (onward ++ []))))) fs
          → Rest labels at fs → CallEmitted at to true fs
      called_emitted at fs h r =
          let k1 = cut (asked (NOTES + 1)) (instr Bne Relative (Label over) ∷ (storing ++ (instr Bne Relative (Label skip) ∷ (onward ++ [])))) fs refl h in
          let b1 = cut_branch Bne over (storing ++ (instr Bne Relative (Label skip) ∷ (onward ++ []))) k1.rest k1.of in
          let k2 = cut storing (instr Bne Relative (Label skip) ∷ (onward ++ [])) b1.rest refl b1.of in
          let b2 = cut_branch Bne skip (onward ++ []) k2.rest k2.of in
          let k3 = cut onward [] b2.rest refl b2.of in
          let is : fs ≡ called_forms b1.way b2.way =
          k1.is ∙ ap (λ t. map kept (asked (NOTES + 1)) ++ t) (b1.is ∙ ap (λ t. formed b1.way Bne over ∷ t) (k2.is
          ∙ ap (λ t. map kept storing ++ t) (b2.is ∙ ap (λ t. formed b2.way Bne skip ∷ t) (k3.is ∙ ap (λ t. map kept onward ++ t) (no_more k3.rest k3.of))))) in
          subst (CallEmitted at to true) (sym is) (called b1.way b2.way at (subst (Rest labels at) is r))

    call_emitted : (i at to : ℕ) (has : Bool) → has_line ns to ≡ has → (fs : List Form)
        → AreFormsOf (if has then product.called n to (next_line ns n) (target.Inside inside.Skip n i) (target.Inside inside.Behind n i)
        else product.faulted n 1) fs → Rest labels at fs → CallEmitted at to has fs
    call_emitted i at to true e fs h r = called_emitted to e (label_of (target.Inside inside.Skip n i)) (label_of (target.Inside inside.Behind n i)) at fs h r
    call_emitted i at to false e fs h r = (
      Short,
      Short,
      subst (λ fs. Emits labels at fs (Code (resolved.faulting n 1) ∷ [])) (sym (straight_forms (product.faulted n 1) fs refl h))
          (block labels (product.faulted n 1) (resolved.faulting n 1) (faulted_bytes labels ns seed 0 n 1 n_small (omega arith)) (ends labels)),
      tt,
    )

    module _ (over : Name) where
      -- what follows its branches
      abbrev popping : List Entry
      popping = product.constant n LINE ++ (product.call POP_AT ∷ product.jump_through)

      abbrev behind : List Entry
      behind = taking ++ (product.jump_by LEFT ++ (label over ∷ popping))

      abbrev returned_forms : (first second : Way) → List Form
      returned_forms first second = map kept (asked (NOTES + 1)) ++ (formed first Bne over ∷ (map kept (asked NOTES) ++ (formed second Beq over ∷ map kept behind)))

      module _ (first second : Way) (at : ℕ) (r : Rest labels at (returned_forms first second)) where
        r1 : Rest labels (at + 3) (formed first Bne over ∷ (map kept (asked NOTES) ++ (formed second Beq over ∷ map kept behind)))
        r1 = behind_straight labels at (asked (NOTES + 1)) (coded.asked (NOTES + 1)) _ (asked_bytes (NOTES + 1)) r

        r2 : Rest labels (coded.some_at first at) (map kept (asked NOTES) ++ (formed second Beq over ∷ map kept behind))
        r2 = behind_branch labels _ first Bne over _ r1

        r3 : Rest labels (coded.some_at first at + 3) (formed second Beq over ∷ map kept behind)
        r3 = behind_straight labels _ (asked NOTES) (coded.asked NOTES) _ (asked_bytes NOTES) r2

        r4 : Rest labels (coded.some_at first at + 3 + way_size second) (map kept behind)
        r4 = behind_branch labels _ second Beq over _ r3

        r5 : Rest labels (coded.some_at first at + 3 + way_size second + 14) (map kept (product.jump_by LEFT ++ (label over ∷ popping)))
        r5 = behind_straight labels _ taking coded.return_taken _ taking_bytes r4

        r6 : Rest labels (coded.popping_at first second at) (map kept (label over ∷ popping))
        r6 = behind_straight labels _ (product.jump_by LEFT) (resolved.jump_by LEFT) _ (by_bytes LEFT) r5

        end_there : address_in labels over ≡ Some (coded.popping_at first second at)
        end_there = label_here labels _ over _ r6

        top_there : coded.popping_at first second at ≤ highest_code
        top_there = let q = r6.below in omega (arith, q)

        returned : GroupEmitted labels ly n at (Single slots.Return) (returned_forms first second)
        returned = record {
          first = first;
          second = second;
          emits =
              block labels (asked (NOTES + 1)) (coded.asked (NOTES + 1)) ((asked_bytes (NOTES + 1)).same at)
              (branches labels first Zero false over (let q = r1.below in omega (arith, q)) (value_of labels over _ end_there)
              (block labels (asked NOTES) (coded.asked NOTES) ((asked_bytes NOTES).same 0)
              (branches labels second Zero true over (let q = r3.below in omega (arith, q)) (value_of labels over _ end_there)
              (block labels taking coded.return_taken (taking_bytes.same 0)
              (block labels (product.jump_by LEFT) (resolved.jump_by LEFT) ((by_bytes LEFT).same 0)
              (labelled labels over
              (block labels (product.constant n LINE) (resolved.constant n LINE) (line_set.same 0)
              (block labels (product.call POP_AT ∷ []) (resolved.call POP_AT) ((call_bytes POP_AT).same 0)
              (block labels product.jump_through resolved.jump_through ((by_bytes RESULT).same 0) (ends labels))))))))));
          reach = (
            gets_there labels (at + 3) _ first Bne over _ end_there top_there r1,
            gets_there labels (coded.some_at first at + 3) _ second Beq over _ end_there top_there r3,
          );
        }

      return_emitted : (at : ℕ) (fs : List Form)
          → AreFormsOf (asked (NOTES + 1) ++ (instr Bne Relative (Label over) ∷ (asked NOTES ++ (instr Beq Relative (Label over) ∷ (behind ++ [])))))
          fs → Rest labels at fs → GroupEmitted labels ly n at (Single slots.Return) fs
      return_emitted at fs h r =
          let k1 = cut (asked (NOTES + 1)) (instr Bne Relative (Label over) ∷ (asked NOTES ++ (instr Beq Relative (Label over) ∷ (behind ++ [])))) fs refl h in
          let b1 = cut_branch Bne over (asked NOTES ++ (instr Beq Relative (Label over) ∷ (behind ++ []))) k1.rest k1.of in
          let k2 = cut (asked NOTES) (instr Beq Relative (Label over) ∷ (behind ++ [])) b1.rest refl b1.of in
          let b2 = cut_branch Beq over (behind ++ []) k2.rest k2.of in
          let k3 = cut behind [] b2.rest refl b2.of in
          let is : fs ≡ returned_forms b1.way b2.way =
          k1.is ∙ ap (λ t. map kept (asked (NOTES + 1)) ++ t) (b1.is ∙ ap (λ t. formed b1.way Bne over ∷ t) (k2.is
          ∙ ap (λ t. map kept (asked NOTES) ++ t) (b2.is ∙ ap (λ t. formed b2.way Beq over ∷ t) (k3.is ∙ ap (λ t. map kept behind ++ t) (no_more k3.rest k3.of))))) in
          subst (GroupEmitted labels ly n at (Single slots.Return)) (sym is) (returned b1.way b2.way at (subst (Rest labels at) is r))

    without_branches : (i at : ℕ) (g : Group) (fs : List Form) → coded.is_branching g ≡ false → IsAlone g → AreInRange 256 (expand g)
        → AreFormsOf (items.group_template ns seed n i g) fs → Rest labels at fs
        → GroupEmitted labels ly n at g fs
    without_branches = group_emitted labels ns seed n seed_small n_small starting

    -- the forms of each group emit it
    pub each_emitted : (i at : ℕ) (g : Group) (fs : List Form) → IsAlone g → AreInRange 256 (expand g) → AreFormsOf (items.group_template ns seed n i g) fs → Rest labels at fs
        → GroupEmitted labels ly n at g fs
    each_emitted i at (Single (slots.CallTo to)) fs q range h r =
        let e = call_emitted i at to (has_line ns to) refl fs h r in record { first = e.0; second = e.1; emits = e.2; reach = e.3 }
    each_emitted i at (Single slots.Return) fs q range h r = return_emitted (label_of (target.Inside inside.Behind n i)) at fs h r
    each_emitted i at (Calculate op a b d) fs q range h r =
        let x = source_of (slot_of d) a in let y = source_of (slot_of d + 1) b in let to = destination_at d in
        let e = computed_emitted labels n at (target.Inside inside.Skip n i) op x y to (change_of op x y to) (change_is op x y to) n_small
        (source_word (slot_of d) a) (source_word (slot_of d + 1) b) fs h r in
        record { first = e.0; second = Short; emits = e.1; reach = e.2 }
    each_emitted i at (Stepped op a b by w x) fs q range h r =
        let e = stepped_emitted labels n at (target.Inside inside.Skip n i) (target.Inside inside.Behind n i) op (source_of 0 a) (source_of 1 b) by
        (source_of 1 (Constant w)) (var_at x) n_small (source_word 0 a) (source_word 1 b) (source_word 1 (Constant w)) fs h r in
        record { first = e.first; second = e.second; emits = e.emits; reach = e.reach }
    each_emitted i at (Remains x d to) fs q range h r =
        let e = remains_emitted labels n at (target.Inside inside.Skip n i) (AtAddress (var_at x)) (source_of (slot_of to + 2) d)
        (destination_at to) n_small tt (source_word (slot_of to + 2) d) fs h r in
        record { first = e.first; second = Short; emits = e.emits; reach = e.reach }
    each_emitted i at g fs q range h r = without_branches i at g fs refl q range h r
