-- The bytes of calculations, also of those that change a word in place, whatever the way of the branch.
use Rattle.std.proofs.Common.{◌≡◌, ℕ, ◌+◌, ◌/◌, ◌%◌, ◌<◌, Bool, true, false, List, [], ◌∷◌, ◌++◌, map, refl, sym, ap, ◌∙◌, subst, arith, Option}
use Rattle.std.specs.Prelude.{◌&&◌, ◌-◌, ◌^◌, None, Some}
use Rattle.std.specs.List.{list_all}
use Rattle.tb_opcodes.specs.Opcodes as opcodes
use Rattle.tb_opcodes.specs.declared.Mnemonic.TheVariants.{Adc, Asl, Clc, Dec, Inc, Lda, Ldy, Ror, Sbc, Sec, Sta}
use Rattle.tb_opcodes.specs.declared.Mode.TheVariants.{Relative}
use Rattle.tb_asm.specs.declared.names.Name.{Name}
use Rattle.tb_asm.specs.declared.items.Operand.TheVariants.{Label}
use Rattle.tb_asm.specs.Layout.{Entry, instr, label}
use Rattle.tb_asm.specs.Settle.{Form, kept}
use Rattle.tb_assembly_settling.specs.Settled.{AreFormsOf}
use Rattle.tb_assembly_settling.proofs.Forms.{is_straight, split, straight_forms}
use Rattle.tb_machine_reaching.proofs.Instr.{Instr, ins}
use Rattle.tb_basic_syntax.specs.declared.expressions.Operator.{Operator}
use Rattle.tb_compiler_templates.specs.declared.labels.Target.{Target}
use Rattle.tb_compiler_templates.specs.declared.sources.Source.{Source}
use Rattle.tb_compiler_templates.specs.declared.sources.Source.TheVariants.{FixedWord, AtAddress}
use Rattle.tb_compiler_templates.specs.Labels.{label_of}
use Rattle.tb_compiler_templates.specs.Templates as product
use Rattle.tb_compiler_templates.specs.Scaled as scaled
use Rattle.tb_compiler_templates.specs.InPlace as in_place
use Rattle.tb_compiler_templates.specs.InPlace.{change_of}
use Rattle.tb_compiler_templates.specs.Masks as masks
use Rattle.tb_compiler_templates.specs.Masks.{mask}
use Rattle.tb_compiler_templates.specs.Reduced as reduced
use Rattle.tb_compiler_templates.specs.Reduced.{doublings}
use Rattle.tb_compiler_templates.proofs.Multiples.{IsReducing, by_multiples, by_routine, reduced_plain, reducing_is, six_more}
use Rattle.tb_compiler_program.proofs.Divided.{IsMasking, asked_rest_plain, by_bits, by_division, masking_is}
use Rattle.tb_compiler_templates.proofs.Plain.{plain_straight}
use Rattle.tb_compiled_kept.specs.Addresses.{RESULT}
use Rattle.tb_compiler_templates.specs.declared.in_place.Change.{Change}
use Rattle.tb_compiler_templates.specs.declared.in_place.Change.TheVariants.{Increment, Decrement, Raise, Lower, Halve, Double}
use Rattle.tb_compiler_templates.specs.GroupTemplates as items
use Rattle.tb_proof_simulation.proofs.Resolved.{copied, size}
use Rattle.tb_proof_correctness.proofs.Arithmetic.Changes.{IsByte, IsChange, change_is, of_left, of_right, elsewhere}
use Rattle.tb_proof_correctness.proofs.CodeBytes.GroupCode as coded
use Rattle.tb_proof_correctness.proofs.CodeBytes.GroupCode.{Carry, Flag, Negative, Way, Short, Zero, way_size}
use Rattle.tb_proof_correctness.proofs.CodeBytes.Emits.{Emits, block, branch_by, branches, emits_append, emitted_size, formed, labelled}
use Rattle.tb_proof_correctness.proofs.CodeBytes.ItemBytes.{AllEncode, IsWord, Rest, all_made, asked_emits, behind_branch, behind_straight, calculated_emits}
use Rattle.tb_proof_correctness.proofs.CodeBytes.ItemBytes.{both_stored_bytes, calculated_straight, copied_made, copied_straight, cut, cut_branch, gets_there}
use Rattle.tb_proof_correctness.proofs.CodeBytes.ItemBytes.{high_made, high_straight, low_straight, rest_and_sign_bytes, rest_below_bytes}
use Rattle.tb_proof_correctness.proofs.CodeBytes.ItemBytes.{label_here, reduced_bytes, rest_before, rest_behind, taken_bytes, value_of}

module _ (labels : List (Name × ℕ)) where
  -- ---- code with a branch over a part of it
  module _ (before skipped behind : List Entry) (front mid back : List Instr) (which : Flag) (wanted : Bool) (skip : Name)
      (plain_front : list_all is_straight before ≡ true) (plain_mid : list_all is_straight skipped ≡ true) (plain_back : list_all is_straight behind ≡ true)
      (makes_front : AllEncode labels before front) (makes_mid : AllEncode labels skipped mid) (makes_back : AllEncode labels behind back) where
    record Over (at : ℕ) (fs : List Form) : Type 0 where
      first : Way
      emits : Emits labels at fs (coded.over_code first at front which wanted mid back)
      reach : coded.OverReaches first at front mid

    abbrev forms : Way → List Form
    forms way = map kept before ++ (formed way (branch_by which wanted) skip ∷ (map kept skipped ++ (kept (label skip) ∷ map kept behind)))

    module _ (way : Way) (at : ℕ) (r : Rest labels at (forms way)) where
      p1 : Rest labels (at + size front) (formed way (branch_by which wanted) skip ∷ (map kept skipped ++ (kept (label skip) ∷ map kept behind)))
      p1 = behind_straight labels at before front _ makes_front r

      p2 : Rest labels (at + size front + way_size way) (map kept skipped ++ (kept (label skip) ∷ map kept behind))
      p2 = behind_branch labels _ way (branch_by which wanted) skip _ p1

      p3 : Rest labels (coded.over_at way at front mid) (kept (label skip) ∷ map kept behind)
      p3 = behind_straight labels _ skipped mid _ makes_mid p2

      over : Over at (forms way)
      over =
          let h = label_here labels _ skip _ p3 in record {
            first = way;
            emits =
                block labels before front (makes_front.same at)
                (branches labels way which wanted skip (let q = p1.below in omega (arith, q)) (value_of labels skip _ h)
                (block labels skipped mid (makes_mid.same _) (labelled labels skip (all_made labels behind back makes_back))));
            reach = gets_there labels _ _ way (branch_by which wanted) skip _ h (let q = p3.below in omega (arith, q)) p1;
          }

    over_emitted : (at : ℕ) (fs : List Form)
        → AreFormsOf (before ++ (instr (branch_by which wanted) Relative (Label skip) ∷ (skipped ++ (label skip ∷ behind)))) fs → Rest labels at fs → Over at fs
    over_emitted at fs h r =
        let c1 = cut before (instr (branch_by which wanted) Relative (Label skip) ∷ (skipped ++ (label skip ∷ behind))) fs plain_front h in
        let b1 = cut_branch (branch_by which wanted) skip (skipped ++ (label skip ∷ behind)) c1.rest c1.of in
        let c2 = cut skipped (label skip ∷ behind) b1.rest plain_mid b1.of in
        let last : c2.rest ≡ kept (label skip) ∷ map kept behind = straight_forms (label skip ∷ behind) c2.rest plain_back c2.of in
        let is : fs ≡ forms b1.way =
        c1.is ∙ ap (λ t. map kept before ++ t) (b1.is ∙ ap (λ t. formed b1.way (branch_by which wanted) skip ∷ t) (c2.is ∙ ap (λ t. map kept skipped ++ t) last)) in
        subst (Over at) (sym is) (over b1.way at (subst (Rest labels at) is r))

  -- ---- changes
  pub record ChangeEmitted (c : Change) (p at : ℕ) (fs : List Form) : Type 0 where
    pub first : Way
    pub emits : Emits labels at fs (coded.change_code first at c p)
    pub reach : coded.ChangeReaches first at c p

  module _ (p at : ℕ) (skip : Target) (fs : List Form) where
    byte_is : (c : ℕ) → c < 256 → c % 256 ≡ c
    byte_is c h = omega (arith, h)

    inc_bytes : (q : ℕ) → AllEncode labels (product.at Inc q ∷ []) (ins 0xEE q ∷ [])
    unfolding opcodes.encoded
    inc_bytes q = record { same = λ a. refl }

    dec_bytes : (q : ℕ) → AllEncode labels (product.at Dec q ∷ []) (ins 0xCE q ∷ [])
    unfolding opcodes.encoded
    dec_bytes q = record { same = λ a. refl }

    lda_bytes : AllEncode labels (product.at Lda p ∷ []) (ins 0xAD p ∷ [])
    unfolding opcodes.encoded
    lda_bytes = record { same = λ a. refl }

    none_bytes : AllEncode labels [] []
    none_bytes = record { same = λ a. refl }

    raised_bytes : (c : ℕ) → c < 256 → AllEncode labels (product.alone Clc ∷ product.at Lda p ∷ product.const Adc c ∷ product.at Sta p ∷ []) (coded.low_raised c p)
    unfolding opcodes.encoded
    raised_bytes c h = record { same = λ a. ap (λ b. 0x18 ∷ 0xad ∷ p % 256 ∷ p / 256 ∷ 0x69 ∷ b ∷ 0x8d ∷ p % 256 ∷ p / 256 ∷ []) (byte_is c h) }

    lowered_bytes : (c : ℕ) → c < 256 → AllEncode labels (product.alone Sec ∷ product.at Lda p ∷ product.const Sbc c ∷ product.at Sta p ∷ []) (coded.low_lowered c p)
    unfolding opcodes.encoded
    lowered_bytes c h = record { same = λ a. ap (λ b. 0x38 ∷ 0xad ∷ p % 256 ∷ p / 256 ∷ 0xe9 ∷ b ∷ 0x8d ∷ p % 256 ∷ p / 256 ∷ []) (byte_is c h) }

    sign_bytes : AllEncode labels (product.at Lda (p + 1) ∷ scaled.on_a Asl ∷ []) (coded.sign_asked p)
    unfolding opcodes.encoded
    sign_bytes = record { same = λ a. refl }

    by_sign_bytes : AllEncode labels (in_place.one_more p ++ (scaled.on_a Asl ∷ [])) (coded.raised_by_sign p)
    unfolding opcodes.encoded
    by_sign_bytes = record { same = λ a. refl }

    right_bytes : AllEncode labels (product.at Ror (p + 1) ∷ product.at Ror p ∷ []) (coded.turned_right p)
    unfolding opcodes.encoded
    right_bytes = record { same = λ a. refl }

    double_bytes : AllEncode labels (in_place.doubled_in_place p) (ins 0x0E p ∷ ins 0x2E (p + 1) ∷ [])
    unfolding opcodes.encoded
    double_bytes = record { same = λ a. refl }

    change_emitted : (c : Change) → IsByte c → AreFormsOf (in_place.changed c p skip) fs → Rest labels at fs → ChangeEmitted c p at fs
    change_emitted Increment few h r =
        let e = over_emitted (product.at Inc p ∷ []) (product.at Inc (p + 1) ∷ []) [] (ins 0xEE p ∷ []) (ins 0xEE (p + 1) ∷ []) [] Zero false
        (label_of skip) refl refl refl (inc_bytes p) (inc_bytes (p + 1)) none_bytes at fs h r in
        record { first = e.first; emits = e.emits; reach = e.reach }
    change_emitted Decrement few h r =
        let e = over_emitted (product.at Lda p ∷ []) (product.at Dec (p + 1) ∷ []) (product.at Dec p ∷ []) (ins 0xAD p ∷ []) (ins 0xCE (p + 1) ∷ [])
        (ins 0xCE p ∷ []) Zero false (label_of skip) refl refl refl lda_bytes (dec_bytes (p + 1)) (dec_bytes p) at fs h r in
        record { first = e.first; emits = e.emits; reach = e.reach }
    change_emitted (Raise c) few h r =
        let e = over_emitted (product.alone Clc ∷ product.at Lda p ∷ product.const Adc c ∷ product.at Sta p ∷ []) (product.at Inc (p + 1) ∷ []) []
        (coded.low_raised c p) (ins 0xEE (p + 1) ∷ []) [] Carry false (label_of skip) refl refl refl (raised_bytes c few) (inc_bytes (p + 1)) none_bytes at fs h r in
        record { first = e.first; emits = e.emits; reach = e.reach }
    change_emitted (Lower c) few h r =
        let e = over_emitted (product.alone Sec ∷ product.at Lda p ∷ product.const Sbc c ∷ product.at Sta p ∷ []) (product.at Dec (p + 1) ∷ []) []
        (coded.low_lowered c p) (ins 0xCE (p + 1) ∷ []) [] Carry true (label_of skip) refl refl refl (lowered_bytes c few) (dec_bytes (p + 1)) none_bytes at fs h r in
        record { first = e.first; emits = e.emits; reach = e.reach }
    change_emitted Halve few h r =
        let e = over_emitted (product.at Lda (p + 1) ∷ scaled.on_a Asl ∷ []) (in_place.one_more p ++ (scaled.on_a Asl ∷ []))
        (product.at Ror (p + 1) ∷ product.at Ror p ∷ []) (coded.sign_asked p) (coded.raised_by_sign p) (coded.turned_right p) Carry false
        (label_of skip) refl refl refl sign_bytes by_sign_bytes right_bytes at fs h r in
        record { first = e.first; emits = e.emits; reach = e.reach }
    change_emitted Double few h r =
        let is : fs ≡ map kept (in_place.doubled_in_place p) = straight_forms (in_place.doubled_in_place p) fs refl h in
        record {
          first = Short;
          emits = subst (λ k. Emits labels at k (coded.change_code Short at Double p)) (sym is) (all_made labels (in_place.doubled_in_place p) (ins 0x0E p ∷ ins 0x2E (p + 1) ∷ []) double_bytes);
          reach = tt;
        }

  -- ---- calculations
  pub computed_emitted : (n at : ℕ) (skip : Target) (op : Operator) (a b : Source) (to : ℕ) (o : Option Change) → IsChange op a b to o → n < 65536
      → IsWord a → IsWord b → (fs : List Form)
      → AreFormsOf (items.changed_or o n skip op a b to) fs → Rest labels at fs → (first : Way)
      × Emits labels at fs (coded.changed_or o first n at op a b to) × coded.ChangedReaches o first at to
  computed_emitted n at skip op a b to _ (of_left w c e e' k) small u v fs h r = let m = change_emitted to at skip fs c k.few h r in (m.first, m.emits, m.reach)
  computed_emitted n at skip op a b to _ (of_right w c e e' k) small u v fs h r = let m = change_emitted to at skip fs c k.few h r in (m.first, m.emits, m.reach)
  computed_emitted n at skip op a b to _ elsewhere small u v fs h r =
      let is : fs ≡ map kept (items.calculated n op a b to) = straight_forms (items.calculated n op a b to) fs (calculated_straight n op a b to) h in
      (Short, subst (λ k. Emits labels at k (coded.calc_code n op a b to)) (sym is) (calculated_emits labels n at op a b to small u v), tt)

  -- ---- a result that goes on by a constant
  pub record StepEmitted (n at : ℕ) (op : Operator) (a b : Source) (by : Operator) (c : Source) (to : ℕ) (fs : List Form) : Type 0 where
    pub first : Way
    pub second : Way
    pub emits : Emits labels at fs (coded.stepped_code first second n at op a b by c to)
    pub reach : coded.StepReaches first second n at op a b by c to

  -- the forms of a result that goes on by a constant emit its code
  pub stepped_emitted : (n at : ℕ) (skip behind : Target) (op : Operator) (a b : Source) (by : Operator) (c : Source) (to : ℕ) → n < 65536 → IsWord a
      → IsWord b → IsWord c → (fs : List Form)
      → AreFormsOf (items.stepped n skip behind op a b by c to) fs → Rest labels at fs → StepEmitted n at op a b by c to fs
  stepped_emitted n at skip behind op a b by c to small u v w fs h r =
      let s = split (items.computed n skip op a b to) (items.computed n behind by (AtAddress to) c to) fs h in
      let parts = subst (Rest labels at) s.are r in
      let e = computed_emitted n at skip op a b to (change_of op a b to) (change_is op a b to) small u v s.front s.of_front (rest_before labels at s.front s.back parts) in
      let next = coded.going_at e.0 n at op a b to in
      let back = rest_behind labels at next s.front s.back (ap (λ k. at + k) (emitted_size labels e.1)) parts in
      let g = computed_emitted n next behind by (AtAddress to) c to (change_of by (AtAddress to) c to) (change_is by (AtAddress to) c to) small tt w s.back s.of_back back in
      record {
        first = e.0;
        second = g.0;
        emits = subst (λ fs. Emits labels at fs (coded.stepped_code e.0 g.0 n at op a b by c to)) (sym s.are) (emits_append labels e.1 g.1);
        reach = (e.2, g.2);
      }

  -- ---- remainders
  pub record RestEmitted (o : Option ℕ) (o' : Option (ℕ × ℕ)) (n at : ℕ) (a b : Source) (to : ℕ) (fs : List Form) : Type 0 where
    pub first : Way
    pub emits : Emits labels at fs (coded.rest_code o o' first n at a b to)
    pub reach : coded.RestReachesBy o o' first n at a b

  -- the forms of a remainder emit its code
  rest_emitted : (n at : ℕ) (o : Option ℕ) (o' : Option (ℕ × ℕ)) (skip : Target) (a b : Source) (to : ℕ) → IsMasking b o → IsReducing b o' → n < 65536
      → IsWord a → IsWord b → (fs : List Form) → AreFormsOf (items.rest_by n o o' skip a b to) fs → Rest labels at fs → RestEmitted o o' n at a b to fs
  rest_emitted n at _ o' skip a b to (by_bits w k e few p) g small u v fs h r =
      let bits = 2 ^ (k + 1) - 1 in
      let e = over_emitted (masks.rest_and_sign bits a) (masks.rest_below bits) (masks.both_stored to) (coded.rest_and_sign bits a) (coded.rest_below bits)
      (coded.both_stored to) Negative false (label_of skip) (λ i. low_straight Lda a i && (high_straight Ldy a i && true)) refl refl
      (rest_and_sign_bytes labels k a few u) (rest_below_bytes labels k few) (both_stored_bytes labels to) at fs h r in
      record { first = e.first; emits = e.emits; reach = e.reach }
  rest_emitted n at _ _ skip a b to by_division (by_multiples w k e few over below) small u v fs h r =
      let es = reduced.reduced_rest k w a to in
      let is : fs ≡ map kept es = straight_forms es fs (plain_straight es (reduced_plain k w a to)) h in
      record {
        first = Short;
        emits = subst (λ fs. Emits labels at fs (coded.rest_code None (Some (k, w)) Short n at a b to)) (sym is)
            (all_made labels es (coded.reduced k w a to) (reduced_bytes labels k w a to (six_more k w below) u));
        reach = tt;
      }
  rest_emitted n at _ _ skip a b to by_division by_routine small u v fs h r =
      let s = split (items.asked_rest n a b) (items.signed_rest skip a to) fs h in
      let parts = subst (Rest labels at) s.are r in
      let front : s.front ≡ map kept (items.asked_rest n a b) = straight_forms (items.asked_rest n a b) s.front (plain_straight (items.asked_rest n a b) (asked_rest_plain n a b)) s.of_front in
      let asks : Emits labels at s.front (coded.rest_asked n a b) = subst (λ fs. Emits labels at fs (coded.rest_asked n a b)) (sym front) (asked_emits labels n at a b small u v) in
      let next = coded.rest_at n at a b in
      let back = rest_behind labels at next s.front s.back (ap (λ k. at + k) (emitted_size labels asks)) parts in
      let e = over_emitted (items.high_of Lda a ∷ []) (items.taken (FixedWord 0) (AtAddress RESULT) RESULT) (product.copied RESULT to)
      (coded.sign_looked_at a) coded.rest_turned (copied RESULT to) Negative false (label_of skip) (ap (λ b. b && true) (high_straight Lda a))
      refl (copied_straight RESULT to) (high_made labels a u) (taken_bytes labels (FixedWord 0) (AtAddress RESULT) RESULT (omega arith) tt)
      (copied_made labels RESULT to) next s.back s.of_back back in
      record {
        first = e.first;
        emits = subst (λ fs. Emits labels at fs (coded.rest_code None None e.first n at a b to)) (sym s.are) (emits_append labels asks e.emits);
        reach = e.reach;
      }

  pub remains_emitted : (n at : ℕ) (skip : Target) (a b : Source) (to : ℕ) → n < 65536 → IsWord a → IsWord b → (fs : List Form)
      → AreFormsOf (items.remains n skip a b to) fs → Rest labels at fs → RestEmitted (mask b) (doublings b) n at a b to fs
  remains_emitted n at skip a b to small u v fs h r = rest_emitted n at (mask b) (doublings b) skip a b to (masking_is b) (reducing_is b) small u v fs h r
