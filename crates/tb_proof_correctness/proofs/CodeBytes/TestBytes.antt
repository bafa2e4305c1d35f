-- The bytes of tests, whatever the ways of their branches.
use Rattle.std.proofs.Common.{not, ◌≡◌, ℕ, ◌+◌, ◌%◌, ◌≤◌, Bool, true, false, ◌&&◌, List, [], ◌∷◌, ◌++◌, map, refl, sym, ap, ◌∙◌, subst, arith, Some}
use Rattle.std.specs.Prelude.{if◌then◌else◌, nat_eq}
use Rattle.std.specs.List.{list_all}
use Rattle.tb_opcodes.specs.Opcodes as opcodes
use Rattle.tb_opcodes.specs.declared.Mnemonic.TheVariants.{Beq, Bmi, Bne, Bvc, Cmp, Lda, Ora, Sbc, Eor}
use Rattle.tb_opcodes.specs.declared.Mode.TheVariants.{Relative}
use Rattle.tb_asm.specs.declared.names.Name.{Name}
use Rattle.tb_asm.specs.declared.items.Operand.TheVariants.{Label}
use Rattle.tb_asm.specs.Layout.{Entry, instr, label, address_in}
use Rattle.tb_asm.specs.Settle.{Form, kept}
use Rattle.tb_assembly_settling.specs.Settled.{AreFormsOf}
use Rattle.tb_assembly_settling.proofs.Forms.{is_straight}
use Rattle.tb_machine_reaching.proofs.Instr.{Instr, ins}
use Rattle.tb_compiler_templates.specs.declared.labels.Target.{Target}
use Rattle.tb_compiler_templates.specs.Labels.{label_of}
use Rattle.tb_compiler_templates.specs.declared.sources.Source.{Source}
use Rattle.tb_compiler_templates.specs.declared.sources.Source.TheVariants.{FixedWord, AtAddress}
use Rattle.tb_compiler_templates.specs.Templates as product
use Rattle.tb_compiler_templates.specs.GroupTemplates as items
use Rattle.tb_compiler_templates.specs.Orders as orders
use Rattle.tb_compiler_templates.specs.Orders.{order_of, wanted_side}
use Rattle.tb_compiler_templates.specs.declared.orders.Side.{Side}
use Rattle.tb_compiler_templates.specs.declared.orders.Side.TheVariants.{Below, NotBelow}
use Rattle.tb_compiler_templates.specs.declared.orders.Order.{Order}
use Rattle.tb_compiler_templates.specs.declared.orders.Order.TheVariants.{BySign, ByPositive, ByConstant, ByDifference}
use Rattle.tb_compiler_templates.proofs.Plain.{lifted_plain, plain_straight}
use Rattle.tb_proof_simulation.proofs.Resolved as resolved
use Rattle.tb_proof_simulation.proofs.Resolved.{Code, highest_code}
use Rattle.tb_proof_correctness.proofs.Pieces.Sources.{lda, ora}
use Rattle.tb_proof_correctness.proofs.CodeBytes.GroupCode as coded
use Rattle.tb_proof_correctness.proofs.CodeBytes.GroupCode.{low, high, matched, difference, Way, Short, way_size, Flag, Zero, Overflow, Negative, Carry, BranchReaches}
use Rattle.tb_proof_correctness.proofs.CodeBytes.GroupCode.{branch_code, branch_on, second_at, turned_at, zero_asked_at}
use Rattle.tb_proof_correctness.proofs.CodeBytes.Emits.{formed, branch_by, Emits, ends, block, labelled, branches}
use Rattle.tb_proof_correctness.proofs.CodeBytes.ItemBytes.{AllEncode, IsWord, Rest, behind_branch, behind_label, behind_straight, cut, cut_branch, difference_bytes}
use Rattle.tb_proof_correctness.proofs.CodeBytes.ItemBytes.{gets_there, high_made, high_straight, label_here, lifted_bytes, low_straight, no_more, value_of}
use Rattle.tb_proof_correctness.proofs.CodeBytes.ItemBytes.{joined_made, matched_high, matched_low, matched_straight}

module _ (labels : List (Name × ℕ)) where
  -- ---- tests
  module _ (a b : Source) (a_word : IsWord a) (b_word : IsWord b) (next : ℕ) (leaves : Name) (there : address_in labels leaves ≡ Some next) (top : next ≤ highest_code) where
    abbrev low_pair : List Entry
    low_pair = items.low_matched a b

    abbrev high_pair : List Entry
    high_pair = items.high_matched a b

    abbrev both_pairs : List Entry
    both_pairs = items.low_of Lda a ∷ items.low_of Cmp b ∷ items.high_of Lda a ∷ items.high_of Sbc b ∷ []

    low_pair_straight : list_all is_straight low_pair ≡ true
    low_pair_straight = (matched_straight labels a b).0

    high_pair_straight : list_all is_straight high_pair ≡ true
    high_pair_straight = (matched_straight labels a b).1

    both_straight : list_all is_straight both_pairs ≡ true
    both_straight = λ i. low_straight Lda a i && (low_straight Cmp b i && (high_straight Lda a i && (high_straight Sbc b i && true)))

    -- ---- equality
    pub record Equality (differ : Bool) (at : ℕ) (fs : List Form) : Type 0 where
      pub first : Way
      pub second : Way
      pub emits : Emits labels at fs (coded.equality_code differ first second at a b next)
      pub reach : coded.EqualityReaches differ first second at a b next

    abbrev equality_forms : Bool → (first second : Way) → Name → List Form → List Form
    equality_forms differ first second l tail = map kept low_pair ++ (formed first (branch_by Zero false) l ∷ (map kept high_pair ++ (formed second (branch_by Zero differ) leaves ∷ tail)))

    module _ (differ : Bool) (first second : Way) (at : ℕ) (l : Name) (tail : List Form) (r : Rest labels at (equality_forms differ first second l tail)) where
      r1 : Rest labels (at + resolved.size (matched (low a) (low b))) (formed first (branch_by Zero false) l ∷ (map kept high_pair ++ (formed second (branch_by Zero differ) leaves ∷ tail)))
      r1 = behind_straight labels at low_pair (matched (low a) (low b)) _ (matched_low labels a b) r

      r2 : Rest labels (at + resolved.size (matched (low a) (low b)) + way_size first) (map kept high_pair ++ (formed second (branch_by Zero differ) leaves ∷ tail))
      r2 = behind_branch labels _ first (branch_by Zero false) l _ r1

      r3 : Rest labels (second_at first at a b) (formed second (branch_by Zero differ) leaves ∷ tail)
      r3 = behind_straight labels _ high_pair (matched (high a) (high b)) _ (matched_high labels a b a_word b_word) r2

      r4 : Rest labels (second_at first at a b + way_size second) tail
      r4 = behind_branch labels _ second (branch_by Zero differ) leaves _ r3

      equality : address_in labels l ≡ Some (coded.first_to differ first second at a b next) → coded.first_to differ first second at a b next ≤ highest_code
          → Emits labels (second_at first at a b + way_size second) tail [] → Equality differ at (equality_forms differ first second l tail)
      equality h t e = record {
        first = first;
        second = second;
        emits =
            block labels low_pair (matched (low a) (low b)) ((matched_low labels a b).same at)
            (branches labels first Zero false l (let q = r1.below in omega (arith, q)) (value_of labels l _ h)
            (block labels high_pair (matched (high a) (high b)) ((matched_high labels a b a_word b_word).same _)
            (branches labels second Zero differ leaves (let q = r3.below in omega (arith, q)) (value_of labels leaves next there) e)));
        reach = (
          gets_there labels _ _ first (branch_by Zero false) l _ h t r1,
          gets_there labels _ next second (branch_by Zero differ) leaves _ there top r3,
        );
      }

    -- the forms of a test for equality emit its code
    pub equal_emitted : (at : ℕ) (fs : List Form)
        → AreFormsOf (low_pair ++ (instr Bne Relative (Label leaves) ∷ (high_pair ++ (instr Bne Relative (Label leaves) ∷ [])))) fs → Rest labels at fs → Equality false at fs
    equal_emitted at fs h r =
        let c1 = cut low_pair (instr Bne Relative (Label leaves) ∷ (high_pair ++ (instr Bne Relative (Label leaves) ∷ []))) fs low_pair_straight h in
        let b1 = cut_branch Bne leaves (high_pair ++ (instr Bne Relative (Label leaves) ∷ [])) c1.rest c1.of in
        let c2 = cut high_pair (instr Bne Relative (Label leaves) ∷ []) b1.rest high_pair_straight b1.of in
        let b2 = cut_branch Bne leaves [] c2.rest c2.of in
        let is : fs ≡ equality_forms false b1.way b2.way leaves [] =
        c1.is ∙ ap (λ t. map kept low_pair ++ t) (b1.is ∙ ap (λ t. formed b1.way Bne leaves ∷ t) (c2.is ∙ ap (λ t. map kept high_pair ++ t) (b2.is
        ∙ ap (λ t. formed b2.way Bne leaves ∷ t) (no_more b2.rest b2.of)))) in
        subst (Equality false at) (sym is) (equality false b1.way b2.way at leaves [] (subst (Rest labels at) is r) there top (ends labels))

    -- the forms of a test for inequality emit its code
    pub unequal_emitted : (at : ℕ) (skip : Name) (fs : List Form)
        → AreFormsOf (low_pair ++ (instr Bne Relative (Label skip) ∷ (high_pair ++ (instr Beq Relative (Label leaves) ∷ (label skip ∷ []))))) fs → Rest labels at fs → Equality true at fs
    unequal_emitted at skip fs h r =
        let c1 = cut low_pair (instr Bne Relative (Label skip) ∷ (high_pair ++ (instr Beq Relative (Label leaves) ∷ (label skip ∷ [])))) fs low_pair_straight h in
        let b1 = cut_branch Bne skip (high_pair ++ (instr Beq Relative (Label leaves) ∷ (label skip ∷ []))) c1.rest c1.of in
        let c2 = cut high_pair (instr Beq Relative (Label leaves) ∷ (label skip ∷ [])) b1.rest high_pair_straight b1.of in
        let b2 = cut_branch Beq leaves (label skip ∷ []) c2.rest c2.of in
        let c3 = cut (label skip ∷ []) [] b2.rest refl b2.of in
        let tail : List Form = kept (label skip) ∷ [] in
        let is : fs ≡ equality_forms true b1.way b2.way skip tail =
        c1.is ∙ ap (λ t. map kept low_pair ++ t) (b1.is ∙ ap (λ t. formed b1.way Bne skip ∷ t) (c2.is ∙ ap (λ t. map kept high_pair ++ t) (b2.is
        ∙ ap (λ t. formed b2.way Beq leaves ∷ t) (c3.is ∙ ap (λ t. kept (label skip) ∷ t) (no_more c3.rest c3.of))))) in
        let r' = subst (Rest labels at) is r in
        let end = r4 true b1.way b2.way at skip tail r' in
        subst (Equality true at) (sym is)
        (equality true b1.way b2.way at skip tail r' (label_here labels _ skip [] end) (let q = end.below in omega (arith, q)) (labelled labels skip (ends labels)))

    -- ---- order, by the difference of both
    pub record Weighing (below : Bool) (at : ℕ) (fs : List Form) : Type 0 where
      pub first : Way
      pub second : Way
      pub emits : Emits labels at fs (coded.weighing_code below first second at a b next)
      pub reach : coded.WeighingReaches first second at a b next

    abbrev turn : List Entry
    turn = product.const Eor 128 ∷ []

    turn_bytes : AllEncode labels turn (ins 0x49 128 ∷ [])
    unfolding opcodes.encoded
    turn_bytes = record { same = λ a. refl }

    abbrev order_forms : Bool → (first second : Way) → Name → List Form
    order_forms below first second skip =
        map kept both_pairs ++ (formed first (branch_by Overflow false) skip ∷ (map kept turn ++ (kept (label skip) ∷ formed second (branch_by Negative below) leaves ∷ [])))

    module _ (below : Bool) (first second : Way) (at : ℕ) (skip : Name) (r : Rest labels at (order_forms below first second skip)) where
      o1 : Rest labels (at + resolved.size (difference a b)) (formed first (branch_by Overflow false) skip
          ∷ (map kept turn ++ (kept (label skip) ∷ formed second (branch_by Negative below) leaves ∷ [])))
      o1 = behind_straight labels at both_pairs (difference a b) _ (difference_bytes labels a b a_word b_word) r

      o2 : Rest labels (at + resolved.size (difference a b) + way_size first) (map kept turn ++ (kept (label skip) ∷ formed second (branch_by Negative below) leaves ∷ []))
      o2 = behind_branch labels _ first (branch_by Overflow false) skip _ o1

      o3 : Rest labels (turned_at first at a b) (kept (label skip) ∷ formed second (branch_by Negative below) leaves ∷ [])
      o3 = behind_straight labels _ turn (ins 0x49 128 ∷ []) _ turn_bytes o2

      o4 : Rest labels (turned_at first at a b) (formed second (branch_by Negative below) leaves ∷ [])
      o4 = behind_label labels _ skip _ o3

      order : Weighing below at (order_forms below first second skip)
      order =
          let h = label_here labels _ skip _ o3 in record {
            first = first;
            second = second;
            emits =
                block labels both_pairs (difference a b) ((difference_bytes labels a b a_word b_word).same at)
                (branches labels first Overflow false skip (let q = o1.below in omega (arith, q)) (value_of labels skip _ h)
                (block labels turn (ins 0x49 128 ∷ []) (turn_bytes.same 0)
                (labelled labels skip (branches labels second Negative below leaves (let q = o4.below in omega (arith, q)) (value_of labels leaves next there) (ends labels)))));
            reach = (
              gets_there labels _ _ first (branch_by Overflow false) skip _ h (let q = o3.below in omega (arith, q)) o1,
              gets_there labels _ next second (branch_by Negative below) leaves _ there top o4,
            );
          }

    -- the forms of a test for order by the difference emit its code
    pub weighing_emitted : (below : Bool) (at : ℕ) (skip : Name) (fs : List Form)
        → AreFormsOf (both_pairs ++ (instr Bvc Relative (Label skip) ∷ ((product.const Eor 128 ∷ label skip ∷ [])
        ++ (instr (branch_by Negative below) Relative (Label leaves) ∷ [])))) fs → Rest labels at fs → Weighing below at fs
    weighing_emitted below at skip fs h r =
        let c1 = cut both_pairs (instr Bvc Relative (Label skip) ∷ ((product.const Eor 128 ∷ label skip ∷ [])
        ++ (instr (branch_by Negative below) Relative (Label leaves) ∷ []))) fs both_straight h in
        let b1 = cut_branch Bvc skip ((product.const Eor 128 ∷ label skip ∷ []) ++ (instr (branch_by Negative below) Relative (Label leaves) ∷ [])) c1.rest c1.of in
        let c2 = cut (product.const Eor 128 ∷ label skip ∷ []) (instr (branch_by Negative below) Relative (Label leaves) ∷ []) b1.rest refl b1.of in
        let b2 = cut_branch (branch_by Negative below) leaves [] c2.rest c2.of in
        let is : fs ≡ order_forms below b1.way b2.way skip =
        c1.is ∙ ap (λ t. map kept both_pairs ++ t) (b1.is ∙ ap (λ t. formed b1.way Bvc skip ∷ t) (c2.is
        ∙ ap (λ t. kept (product.const Eor 128) ∷ kept (label skip) ∷ t) (b2.is ∙ ap (λ t. formed b2.way (branch_by Negative below) leaves ∷ t) (no_more b2.rest b2.of)))) in
        subst (Weighing below at) (sym is) (order below b1.way b2.way at skip (subst (Rest labels at) is r))

  -- ---- order, by whether a word is positive
  module _ (a : Source) (a_word : IsWord a) (next : ℕ) (leaves : Name) (there : address_in labels leaves ≡ Some next) (top : next ≤ highest_code) where
    abbrev sign_list : List Entry
    sign_list = items.high_of Lda a ∷ []

    abbrev rest_list : List Entry
    rest_list = items.low_of Ora a ∷ []

    sign_straight : list_all is_straight sign_list ≡ true
    sign_straight = λ i. high_straight Lda a i && true

    rest_straight : list_all is_straight rest_list ≡ true
    rest_straight = λ i. low_straight Ora a i && true

    pub record Positive (below : Bool) (at : ℕ) (fs : List Form) : Type 0 where
      pub first : Way
      pub second : Way
      pub emits : Emits labels at fs (coded.positive_code below first second at a next)
      pub reach : coded.PositiveReaches below first second at a next

    abbrev positive_forms : Bool → (first second : Way) → Name → List Form → List Form
    positive_forms below first second l tail = map kept sign_list ++ (formed first (branch_by Negative true) l ∷ (map kept rest_list ++ (formed second (branch_by Zero below) leaves ∷ tail)))

    module _ (below : Bool) (first second : Way) (at : ℕ) (l : Name) (tail : List Form) (r : Rest labels at (positive_forms below first second l tail)) where
      q1 : Rest labels (at + resolved.size (lda (high a) ∷ [])) (formed first (branch_by Negative true) l ∷ (map kept rest_list ++ (formed second (branch_by Zero below) leaves ∷ tail)))
      q1 = behind_straight labels at sign_list (lda (high a) ∷ []) _ (high_made labels a a_word) r

      q2 : Rest labels (at + resolved.size (lda (high a) ∷ []) + way_size first) (map kept rest_list ++ (formed second (branch_by Zero below) leaves ∷ tail))
      q2 = behind_branch labels _ first (branch_by Negative true) l _ q1

      q3 : Rest labels (zero_asked_at first at a) (formed second (branch_by Zero below) leaves ∷ tail)
      q3 = behind_straight labels _ rest_list (ora (low a) ∷ []) _ (joined_made labels a) q2

      q4 : Rest labels (zero_asked_at first at a + way_size second) tail
      q4 = behind_branch labels _ second (branch_by Zero below) leaves _ q3

      is_positive : address_in labels l ≡ Some (coded.negative_to below first second at a next) → coded.negative_to below first second at a next ≤ highest_code
          → Emits labels (zero_asked_at first at a + way_size second) tail [] → Positive below at (positive_forms below first second l tail)
      is_positive h t e = record {
        first = first;
        second = second;
        emits =
            block labels sign_list (lda (high a) ∷ []) ((high_made labels a a_word).same at)
            (branches labels first Negative true l (let q = q1.below in omega (arith, q)) (value_of labels l _ h)
            (block labels rest_list (ora (low a) ∷ []) ((joined_made labels a).same _)
            (branches labels second Zero below leaves (let q = q3.below in omega (arith, q)) (value_of labels leaves next there) e)));
        reach = (
          gets_there labels _ _ first (branch_by Negative true) l _ h t q1,
          gets_there labels _ next second (branch_by Zero below) leaves _ there top q3,
        );
      }

    -- the forms of a test whether a word is below 1 emit its code
    pub below_emitted : (at : ℕ) (skip : Name) (fs : List Form)
        → AreFormsOf (sign_list ++ (instr Bmi Relative (Label skip) ∷ (rest_list ++ (instr Bne Relative (Label leaves) ∷ (label skip ∷ []))))) fs → Rest labels at fs → Positive false at fs
    below_emitted at skip fs h r =
        let c1 = cut sign_list (instr Bmi Relative (Label skip) ∷ (rest_list ++ (instr Bne Relative (Label leaves) ∷ (label skip ∷ [])))) fs sign_straight h in
        let b1 = cut_branch Bmi skip (rest_list ++ (instr Bne Relative (Label leaves) ∷ (label skip ∷ []))) c1.rest c1.of in
        let c2 = cut rest_list (instr Bne Relative (Label leaves) ∷ (label skip ∷ [])) b1.rest rest_straight b1.of in
        let b2 = cut_branch Bne leaves (label skip ∷ []) c2.rest c2.of in
        let c3 = cut (label skip ∷ []) [] b2.rest refl b2.of in
        let tail : List Form = kept (label skip) ∷ [] in
        let is : fs ≡ positive_forms false b1.way b2.way skip tail =
        c1.is ∙ ap (λ t. map kept sign_list ++ t) (b1.is ∙ ap (λ t. formed b1.way Bmi skip ∷ t) (c2.is ∙ ap (λ t. map kept rest_list ++ t) (b2.is
        ∙ ap (λ t. formed b2.way Bne leaves ∷ t) (c3.is ∙ ap (λ t. kept (label skip) ∷ t) (no_more c3.rest c3.of))))) in
        let r' = subst (Rest labels at) is r in
        let end = q4 false b1.way b2.way at skip tail r' in
        subst (Positive false at) (sym is)
        (is_positive false b1.way b2.way at skip tail r' (label_here labels _ skip [] end) (let q = end.below in omega (arith, q)) (labelled labels skip (ends labels)))

    -- the forms of a test whether a word is not below 1 emit its code
    pub not_below_emitted : (at : ℕ) (fs : List Form)
        → AreFormsOf (sign_list ++ (instr Bmi Relative (Label leaves) ∷ (rest_list ++ (instr Beq Relative (Label leaves) ∷ [])))) fs → Rest labels at fs → Positive true at fs
    not_below_emitted at fs h r =
        let c1 = cut sign_list (instr Bmi Relative (Label leaves) ∷ (rest_list ++ (instr Beq Relative (Label leaves) ∷ []))) fs sign_straight h in
        let b1 = cut_branch Bmi leaves (rest_list ++ (instr Beq Relative (Label leaves) ∷ [])) c1.rest c1.of in
        let c2 = cut rest_list (instr Beq Relative (Label leaves) ∷ []) b1.rest rest_straight b1.of in
        let b2 = cut_branch Beq leaves [] c2.rest c2.of in
        let is : fs ≡ positive_forms true b1.way b2.way leaves [] =
        c1.is ∙ ap (λ t. map kept sign_list ++ t) (b1.is ∙ ap (λ t. formed b1.way Bmi leaves ∷ t) (c2.is ∙ ap (λ t. map kept rest_list ++ t) (b2.is
        ∙ ap (λ t. formed b2.way Beq leaves ∷ t) (no_more b2.rest b2.of)))) in
        subst (Positive true at) (sym is) (is_positive true b1.way b2.way at leaves [] (subst (Rest labels at) is r) there top (ends labels))

  -- ---- order, by how it is decided
  module _ (to : ℕ) (goal : Target) (there : address_in labels (label_of goal) ≡ Some to) (top : to ≤ highest_code) where
    -- code without a branch, and a branch after it
    record Ended (is : List Instr) (which : Flag) (wanted : Bool) (at : ℕ) (fs : List Form) : Type 0 where
      first : Way
      emits : Emits labels at fs (Code is ∷ Code (branch_code first (branch_on which wanted) (at + resolved.size is) to) ∷ [])
      reach : BranchReaches first (at + resolved.size is) to

    ended : (es : List Entry) (is : List Instr) (which : Flag) (wanted : Bool) (at : ℕ) (fs : List Form) → list_all is_straight es ≡ true → AllEncode labels es is
        → AreFormsOf (es ++ (product.branch (branch_by which wanted) goal ∷ [])) fs → Rest labels at fs → Ended is which wanted at fs
    ended es is which wanted at fs straight makes h r =
        let l = label_of goal in
        let n = branch_by which wanted in
        let c1 = cut es (instr n Relative (Label l) ∷ []) fs straight h in
        let b1 = cut_branch n l [] c1.rest c1.of in
        let cuts : fs ≡ map kept es ++ (formed b1.way n l ∷ []) = c1.is ∙ ap (λ t. map kept es ++ t) (b1.is ∙ ap (λ t. formed b1.way n l ∷ t) (no_more b1.rest b1.of)) in
        let r1 = behind_straight labels at es is _ makes (subst (Rest labels at) cuts r) in
        subst (Ended is which wanted at) (sym cuts)
        (record {
          first = b1.way;
          emits = block labels es is (makes.same at) (branches labels b1.way which wanted l (let q = r1.below in omega (arith, q)) (value_of labels l to there) (ends labels));
          reach = gets_there labels _ to b1.way n l _ there top r1;
        })

    sign_emitted : (side : Side) (s : Source) (at : ℕ) (fs : List Form) → IsWord s → AreFormsOf (orders.signed side s goal) fs → Rest labels at fs
        → Ended (lda (high s) ∷ []) Negative (coded.leaves_below side) at fs
    sign_emitted Below s at fs h f r = ended (items.high_of Lda s ∷ []) (lda (high s) ∷ []) Negative false at fs (λ i. high_straight Lda s i && true) (high_made labels s h) f r
    sign_emitted NotBelow s at fs h f r = ended (items.high_of Lda s ∷ []) (lda (high s) ∷ []) Negative true at fs (λ i. high_straight Lda s i && true) (high_made labels s h) f r

    lifted_emitted : (side : Side) (s : Source) (w at : ℕ) (fs : List Form) → IsWord s
        → AreFormsOf (orders.lifted s w ++ (product.branch (orders.unless_carry side) goal ∷ [])) fs → Rest labels at fs
        → Ended (coded.lifted s w) Carry (not (coded.leaves_below side)) at fs
    lifted_emitted Below s w at fs h f r = ended (orders.lifted s w) (coded.lifted s w) Carry true at fs (plain_straight (orders.lifted s w) (lifted_plain s w)) (lifted_bytes labels s w h) f r
    lifted_emitted NotBelow s w at fs h f r = ended (orders.lifted s w) (coded.lifted s w) Carry false at fs (plain_straight (orders.lifted s w) (lifted_plain s w)) (lifted_bytes labels s w h) f r

    -- the words of an order
    abbrev AreWords : Order → Type 0
    AreWords (BySign side s) = IsWord s
    AreWords (ByPositive side s) = IsWord s
    AreWords (ByConstant side s w) = IsWord s
    AreWords (ByDifference s t) = IsWord s × IsWord t

    against_words : (side : Side) (s : Source) (w : ℕ) → IsWord s → AreWords (orders.against side s w)
    against_words side s w h = by (nat_eq w 0) (nat_eq w 1)
      where
        by : (t u : Bool) → AreWords (if t then BySign side s else if u then ByPositive side s else ByConstant side s w)
        by true u = h
        by false true = h
        by false false = h

    order_words : (s t : Source) → IsWord s → IsWord t → AreWords (order_of s t)
    order_words s (FixedWord w) h k = against_words Below s w h
    order_words (FixedWord v) (AtAddress q) h k = by (nat_eq v 32767)
      where
        by : (t : Bool) → AreWords (if t then ByDifference (FixedWord v) (AtAddress q) else orders.against NotBelow (AtAddress q) ((v + 1) % 65536))
        by true = (h, k)
        by false = against_words NotBelow (AtAddress q) ((v + 1) % 65536) k
    order_words (AtAddress p) (AtAddress q) h k = (h, k)

    pub record OrderEmitted (order : Order) (wanted : Side) (at : ℕ) (fs : List Form) : Type 0 where
      pub first : Way
      pub second : Way
      pub emits : Emits labels at fs (coded.order_by order wanted first second at to)
      pub reach : coded.ReachesBy order wanted first second at to

    weighed_emitted : (wanted : Side) (s t : Source) (skip : Target) (at : ℕ) (fs : List Form) (h : IsWord s) (k : IsWord t)
        → AreFormsOf (orders.weighed wanted s t skip goal) fs → Rest labels at fs
        → Weighing s t h k to (label_of goal) there top (coded.leaves_below wanted) at fs
    weighed_emitted Below s t skip at fs h k f r = weighing_emitted s t h k to (label_of goal) there top false at (label_of skip) fs f r
    weighed_emitted NotBelow s t skip at fs h k f r = weighing_emitted s t h k to (label_of goal) there top true at (label_of skip) fs f r

    positive_emitted : (side : Side) (s : Source) (skip : Target) (at : ℕ) (fs : List Form) (h : IsWord s)
        → AreFormsOf (orders.positive side s skip goal) fs → Rest labels at fs → Positive s h to (label_of goal) there top (coded.leaves_below side) at fs
    positive_emitted Below s skip at fs h f r = below_emitted s h to (label_of goal) there top at (label_of skip) fs f r
    positive_emitted NotBelow s skip at fs h f r = not_below_emitted s h to (label_of goal) there top at fs f r

    order_emitted : (order : Order) (wanted : Side) (skip : Target) (at : ℕ) (fs : List Form) → AreWords order
        → AreFormsOf (orders.ordered_by order wanted skip goal) fs → Rest labels at fs → OrderEmitted order wanted at fs
    order_emitted (BySign side s) wanted skip at fs h f r =
        let e = sign_emitted (wanted_side wanted side) s at fs h f r in record { first = e.first; second = Short; emits = e.emits; reach = e.reach }
    order_emitted (ByPositive side s) wanted skip at fs h f r =
        let e = positive_emitted (wanted_side wanted side) s skip at fs h f r in record { first = e.first; second = e.second; emits = e.emits; reach = e.reach }
    order_emitted (ByConstant side s w) wanted skip at fs h f r =
        let e = lifted_emitted (wanted_side wanted side) s w at fs h f r in record { first = e.first; second = Short; emits = e.emits; reach = e.reach }
    order_emitted (ByDifference s t) wanted skip at fs h f r =
        let e = weighed_emitted wanted s t skip at fs h.0 h.1 f r in record { first = e.first; second = e.second; emits = e.emits; reach = e.reach }

    -- the forms of a test for order emit its code
    pub compared_emitted : (s t : Source) (wanted : Side) (skip : Target) (at : ℕ) (fs : List Form) → IsWord s → IsWord t
        → AreFormsOf (orders.ordered wanted s t skip goal) fs → Rest labels at fs → OrderEmitted (order_of s t) wanted at fs
    compared_emitted s t wanted skip at fs h k f r = order_emitted (order_of s t) wanted skip at fs (order_words s t h k) f r
