-- Where statements lie: where `tbc asm` lays their items.
use Rattle.std.proofs.Common.{◌≡◌, ℕ, ◌+◌, ◌-◌, ◌<◌, Bool, true, false, not, ◌&&◌, List, [], ◌∷◌, ◌++◌, map, length, pos, Some, None, Ok, Err, refl, sym, ap, subst, ◌∙◌, eqb, if◌then◌else◌, arith, true≢false, nat_lt, cond, is_some, append_assoc}
use Rattle.std.proofs.lemmas.Bool.{and_parts}
use Rattle.std.proofs.lemmas.Bool.Decides.{nat_tests}
use Rattle.std.proofs.lemmas.List.{append-nil}
use Rattle.tb_opcodes.specs.Opcodes.{encoded, length_of}
use Rattle.tb_opcodes.specs.declared.Mode.{Mode}
use Rattle.tb_opcodes.specs.declared.Mode.TheVariants.{Implied}
use Rattle.tb_asm.specs.declared.names.Name.{Name}
use Rattle.tb_asm.specs.Names.{fold_byte, name_from}
use Rattle.tb_asm.specs.Mnemonics.{same_text}
use Rattle.tb_asm.specs.Text.{is_branch}
use Rattle.tb_asm.specs.Layout.{Entry, label, size_of, size, suits, same_name, address_in as address_of_label, label_at, labels_from, place_fault, place_fault_in, first_fault}
use Rattle.tb_asm.proofs.Faults.{first_none, none_first, size_push, labels_push, Taken, taken}
use Rattle.tb_asm.proofs.Laws.{none_of, label_stands}
use Rattle.tb_assembly_text.specs.Statements.{Said, labels}
use Rattle.tb_assembly_meaning.specs.declared.faults.Wrong.TheVariants.{NoSuchMode, PastEnd}
use Rattle.tb_assembly_meaning.specs.declared.spots.Spot.{Spot}
use Rattle.tb_assembly_meaning.specs.Names.{Env, with_name}
use Rattle.tb_assembly_meaning.specs.Modes.{has, size_in}
use Rattle.tb_assembly_meaning.specs.Places.{Reached, Lying, spot, here_at, capped, data_size, ended, unless_named, mode_spot, spot_of, after, after_spot, spots_from, reached_from, start_at, resolved_all}
use Rattle.tb_assembly_laws.specs.Items.{is_shortened, none_shortened}
use Rattle.tb_assembly_laws.proofs.Words.{some_is, text_is}
use Rattle.tb_assembly_laws.proofs.Scanning.{eqb_is}
use Rattle.tb_assembly_laws.proofs.Operands.{mode_in, operand_in, form_in, never_long}
use Rattle.tb_assembly_laws.proofs.Lines.{Stated, named_here, instructed, laid, word_laid, entry, said, content_in, number_in, IsStated}
use Rattle.tb_assembly_laws.proofs.Values.{known, StandsFor, AreWords, IsKnown, mode_is}

-- the mode of a statement that is an instruction
abbrev pub mode_at : Stated → Mode
mode_at (instructed c m g) = mode_in (is_branch m) g
mode_at s = Implied

-- statements with where they lie from an address on
abbrev pub spots : ℕ → List Stated → List Lying
spots a [] = []
spots a (s ∷ ss) = (said s, Ok (spot a (size_of (entry s)) (mode_at s))) ∷ spots (a + size_of (entry s)) ss

-- what holds of a statement below others with these labels: its numbers are bytes or words, and known where it matters
abbrev pub IsKnownAt : List (Name × ℕ) → Stated → Type 0
IsKnownAt above (instructed c m g) = IsKnown above g
IsKnownAt above s = IsStated s

-- each statement from an address on has numbers that are bytes or words, and known where it matters
abbrev pub AreKnown : List (Name × ℕ) → ℕ → List Stated → Type 0
AreKnown above a [] = Unit {0}
AreKnown above a (s ∷ ss) = IsKnownAt above s × AreKnown (above ++ label_at a (entry s)) (a + size_of (entry s)) ss

-- what is reached after some items
pub record IsAt (at : ℕ) (before : List Entry) (r : Reached) : Type 0 where
  pub place : r.at ≡ at + size before
  pub base : r.base ≡ at
  pub fresh : r.fresh ≡ true → r.at ≡ at
  pub stands : StandsFor r.env (labels_from at before)
  pub words : AreWords (labels_from at before)

-- before the first
pub at_start : (at : ℕ) → IsAt at [] (start_at at)
at_start at = record {
  place = omega arith;
  base = refl;
  fresh = λ h. refl;
  stands = λ w. refl;
  words = λ w a h. absurd (let e : ⊥ = cc in e);
}

-- ── one statement ──
data_sizes : (ps : List (ℕ × ℕ)) → data_size (map content_in ps) ≡ length (map number_in ps)
data_sizes [] = refl
data_sizes (p ∷ ps) = ap (λ n. 1 + n) (data_sizes ps) ∙ (let e : 1 + length (map number_in ps) ≡ length (map number_in (p ∷ ps)) = omega arith in e)

-- what ends by 65,536 lies there
ends_well : (c a n : ℕ) (mode : Mode) → nat_lt 65536 (a + n) ≡ false → ended c a n mode ≡ Ok (spot a n mode)
ends_well c a n mode h =
    let t : nat_lt (65536 - a) n ≡ false = grind (arith, nat_tests) in
    ap (λ x. if x then Err (record { column = c; wrong = PastEnd }) else Ok (spot a n mode)) t

module _ (at : ℕ) (before : List Entry) (r : Reached) (here : IsAt at before r) where
  -- a statement lies where its item does
  placed : (s : Stated) → IsKnownAt (labels_from at before) s → Taken (labels_from at before) (at + size before) (entry s) → is_shortened (labels_from at before) (entry s) ≡ false
      → spot_of r (said s) ≡ Ok (spot r.at (size_of (entry s)) (mode_at s))
  placed (named_here c w) l t short =
      ap (λ o. unless_named o c r.at) (here.stands (map fold_byte w) ∙ ap known (none_of (address_of_label (labels_from at before) (name_from (map fold_byte w))) t.new))
  placed (instructed c m g) l t short =
      let mode = mode_in (is_branch m) g in
      let there : has m mode ≡ true = (and_parts (is_some (encoded m mode)) (suits mode (operand_in g)) t.mode).0 in
      let end : nat_lt 65536 (r.at + length_of mode) ≡ false = ap (λ x. nat_lt 65536 (x + length_of mode)) here.place ∙ t.ends in
      ap (mode_spot r c m (form_in g)) (mode_is r.env (labels_from at before) here.stands (here_at r.at) m g l there short)
      ∙ ap (λ x. if x then ended c r.at (size_in (form_in g) mode) mode else Err (record { column = c; wrong = NoSuchMode })) there
      ∙ ap (λ x. ended c r.at (if is_some x then 5 else length_of mode) mode) (never_long g mode)
      ∙ ends_well c r.at (length_of mode) mode end
  placed (laid c ps) l t short =
      let end : nat_lt 65536 (r.at + length (map number_in ps)) ≡ false = ap (λ x. nat_lt 65536 (x + length (map number_in ps))) here.place ∙ t.ends in
      ap (λ n. ended c r.at n Implied) (data_sizes ps) ∙ ends_well c r.at (length (map number_in ps)) Implied end
  placed (word_laid c d a) l t short =
      let end : nat_lt 65536 (r.at + 2) ≡ false = ap (λ x. nat_lt 65536 (x + 2)) here.place ∙ t.ends in
      ends_well c r.at 2 Implied end

-- a label after others
more_labels : (ls : List (Name × ℕ)) (n k : Name) (a : ℕ) → same_name n k ≡ false → address_of_label (ls ++ (k, a) ∷ []) n ≡ address_of_label ls n
more_labels [] n k a other = ap (λ b. cond b (Some a) None) other
more_labels (p ∷ ls) n k a other = ap (λ x. cond (same_name n p.0) (Some p.1) x) (more_labels ls n k a other)

-- the address of a label after others is its own, and that of another is as before
module _ (at : ℕ) (before : List Entry) (w : List ℕ) (new : address_of_label (labels_from at before) (name_from w) ≡ None) where
  own : address_of_label (labels_from at (before ++ label (name_from w) ∷ [])) (name_from w) ≡ Some (at + size before)
  own = label_stands at before [] (name_from w) new

  other : (v : List ℕ) → same_text v w ≡ false → address_of_label (labels_from at (before ++ label (name_from w) ∷ [])) (name_from v) ≡ address_of_label (labels_from at before) (name_from v)
  other v different =
      ap (λ ls. address_of_label ls (name_from v)) (labels_push at before (label (name_from w)))
      ∙ more_labels (labels_from at before) (name_from v) (name_from w) (at + size before) different

-- what holds before a statement holds after it
module _ (at : ℕ) (before : List Entry) (r : Reached) (here : IsAt at before r) where
  -- a label
  after_label_here : (c : ℕ) (w : List ℕ) → Taken (labels_from at before) (at + size before) (label (name_from w))
      → IsAt at (before ++ label (name_from w) ∷ []) (after r (spot r.at 0 Implied) (c, labels w))
  after_label_here c w t =
      let none : address_of_label (labels_from at before) (name_from w) ≡ None = none_of (address_of_label (labels_from at before) (name_from w)) t.new in
      let below : at + size before < 65536 = let e = t.ends in grind (arith, nat_tests) in
      let sizes : size (before ++ label (name_from w) ∷ []) ≡ size before + 0 = size_push before (label (name_from w)) in
      let place = here.place in
      let address : here_at r.at ≡ pos (at + size before) = ap pos (ap capped here.place ∙ (let e : capped (at + size before) ≡ at + size before = omega arith in e)) in
      record {
        place = omega arith;
        base = base_by r.fresh refl;
        fresh = λ h. (let e : r.at + 0 ≡ r.at = omega arith in e) ∙ here.fresh (first_of r.fresh (eqb 0 0) h);
        stands = λ v. stands_by v none address (same_text v w) refl;
        words = λ v a e. words_by v a none below e (same_text v w) refl;
      }
    where
      first_of : (s t : Bool) → (s && t) ≡ true → s ≡ true
      first_of true t h = refl
      first_of false t h = h

      base_by : (b : Bool) → r.fresh ≡ b → (if r.fresh then r.at else r.base) ≡ at
      base_by true e = ap (λ x. if x then r.at else r.base) e ∙ here.fresh e
      base_by false e = ap (λ x. if x then r.at else r.base) e ∙ here.base

      stands_by : (v : List ℕ) → address_of_label (labels_from at before) (name_from w) ≡ None → here_at r.at ≡ pos (at + size before) → (b : Bool) → same_text v w ≡ b
          → with_name r.env w (Some (here_at r.at)) v ≡ known (address_of_label (labels_from at (before ++ label (name_from w) ∷ [])) (name_from v))
      stands_by v none address true e =
          ap (λ x. if x then Some (Some (here_at r.at)) else r.env v) e ∙ ap (λ x. Some (Some x)) address
          ∙ sym (ap known (ap (λ x. address_of_label (labels_from at (before ++ label (name_from w) ∷ [])) (name_from x)) (text_is v w e) ∙ own at before w none))
      stands_by v none address false e = ap (λ x. if x then Some (Some (here_at r.at)) else r.env v) e ∙ here.stands v ∙ sym (ap known (other at before w none v e))

      words_by : (v : List ℕ) (a : ℕ) → address_of_label (labels_from at before) (name_from w) ≡ None → at + size before < 65536
          → address_of_label (labels_from at (before ++ label (name_from w) ∷ [])) (name_from v) ≡ Some a → (b : Bool) → same_text v w ≡ b → a < 65536
      words_by v a none below e true same =
          let is : Some (at + size before) ≡ Some a =
          sym (ap (λ x. address_of_label (labels_from at (before ++ label (name_from w) ∷ [])) (name_from x)) (text_is v w same) ∙ own at before w none) ∙ e in
          subst (λ x. x < 65536) (sym (some_is is)) below
      words_by v a none below e false different = here.words v a (sym (other at before w none v different) ∙ e)

  -- anything else
  after_item : (e : Entry) (p : Spot) (s : Said) → label_at (at + size before) e ≡ [] → p.at ≡ r.at → p.size ≡ size_of e → (after r p s).env ≡ r.env
      → IsAt at (before ++ e ∷ []) (after r p s)
  after_item e p s unnamed same long names =
      let sizes : size (before ++ e ∷ []) ≡ size before + size_of e = size_push before e in
      let place = here.place in
      let ls : labels_from at (before ++ e ∷ []) ≡ labels_from at before =
      labels_push at before e ∙ ap (λ x. labels_from at before ++ x) unnamed ∙ append-nil (labels_from at before) in
      record {
        place = omega arith;
        base = base_by r.fresh refl;
        fresh = fresh_by r.fresh refl (eqb p.size 0) refl;
        stands = subst (λ env. StandsFor env (labels_from at (before ++ e ∷ []))) (sym names) (subst (StandsFor r.env) (sym ls) here.stands);
        words = subst AreWords (sym ls) here.words;
      }
    where
      base_by : (b : Bool) → r.fresh ≡ b → (if r.fresh then p.at else r.base) ≡ at
      base_by true e = ap (λ x. if x then p.at else r.base) e ∙ same ∙ here.fresh e
      base_by false e = ap (λ x. if x then p.at else r.base) e ∙ here.base

      fresh_by : (b : Bool) → r.fresh ≡ b → (z : Bool) → eqb p.size 0 ≡ z → (r.fresh && eqb p.size 0) ≡ true → p.at + p.size ≡ at
      fresh_by true e true k h =
          let first : r.at ≡ at = here.fresh e in
          let empty : p.size ≡ 0 = eqb_is p.size 0 k in omega (arith, same, first, empty)
      fresh_by true e false k h = absurd (true≢false (sym h ∙ (λ i. e i && k i)))
      fresh_by false e z k h = absurd (true≢false (sym h ∙ ap (λ x. x && eqb p.size 0) e))

  after_statement : (s : Stated) → Taken (labels_from at before) (at + size before) (entry s)
      → IsAt at (before ++ entry s ∷ []) (after r (spot r.at (size_of (entry s)) (mode_at s)) (said s))
  after_statement (named_here c w) t = after_label_here c (map fold_byte w) t
  after_statement (instructed c m g) t = after_item (entry (instructed c m g)) (spot r.at (size_of (entry (instructed c m g))) (mode_at (instructed c m g))) (said (instructed c m g)) refl refl refl refl
  after_statement (laid c ps) t = after_item (entry (laid c ps)) (spot r.at (size_of (entry (laid c ps))) Implied) (said (laid c ps)) refl refl refl refl
  after_statement (word_laid c d a) t = after_item (entry (word_laid c d a)) (spot r.at 2 Implied) (said (word_laid c d a)) refl refl refl refl

-- ── all statements ──
-- what holds of those below a statement
pub known_on : (at : ℕ) (before : List Entry) (s : Stated) (ss : List Stated) → AreKnown (labels_from at before ++ label_at (at + size before) (entry s)) (at + size before + size_of (entry s)) ss
    → AreKnown (labels_from at (before ++ entry s ∷ [])) (at + size (before ++ entry s ∷ [])) ss
known_on at before s ss h =
    let e = entry s in
    let sizes : size (before ++ e ∷ []) ≡ size before + size_of e = size_push before e in
    let behind : at + size before + size_of e ≡ at + size (before ++ e ∷ []) = omega arith in
    subst (λ ls. AreKnown ls (at + size (before ++ e ∷ [])) ss) (sym (labels_push at before e))
    (subst (λ a. AreKnown (labels_from at before ++ label_at (at + size before) e) a ss) behind h)

pub split_short : (a b : Bool) → (not a && b) ≡ true → (a ≡ false) × (b ≡ true)
split_short true b h = absurd (true≢false (sym h))
split_short false b h = (refl, h)

abbrev pub ArePlaced : ℕ → List Stated → List Entry → Reached → Type 0
ArePlaced at ss before r = (spots_from r (map said ss) ≡ spots r.at ss) × IsAt at (before ++ map entry ss) (reached_from r (map said ss))

pub all_placed : (at : ℕ) (ss : List Stated) (before : List Entry) (r : Reached) → IsAt at before r → AreKnown (labels_from at before) (at + size before) ss
    → first_fault (place_fault_in at) before (map entry ss) ≡ None → none_shortened (labels_from at before) (at + size before) (map entry ss) ≡ true → ArePlaced at ss before r
all_placed at [] before r here l free long = (refl, subst (λ es. IsAt at es r) (sym (append-nil before)) here)
all_placed at (s ∷ ss) before r here l free long =
    let e = entry s in
    let none : place_fault (labels_from at before) (at + size before) e ≡ None = none_first (place_fault_in at) before (map entry ss) e free in
    let t = taken (labels_from at before) (at + size before) e none in
    let (whole, longs) = split_short (is_shortened (labels_from at before) e) (none_shortened (labels_from at before ++ label_at (at + size before) e) (at + size before + size_of e) (map entry ss)) long in
    let p = spot r.at (size_of e) (mode_at s) in
    let there : spot_of r (said s) ≡ Ok p = placed at before r here s l.0 t whole in
    let next = after_statement at before r here s t in
    let sizes : size (before ++ e ∷ []) ≡ size before + size_of e = size_push before e in
    let behind : at + size before + size_of e ≡ at + size (before ++ e ∷ []) = omega arith in
    let below = known_on at before s ss l.1 in
    let on = all_placed at ss (before ++ e ∷ []) (after r p (said s)) next below (sym (first_none (place_fault_in at) before (map entry ss) e none) ∙ free)
    ((λ i. none_shortened (labels_push at before e i) (sym behind i) (map entry ss)) ∙ longs) in (
      (λ i. (said s, there i) ∷ spots_from (after_spot r (there i) (said s)) (map said ss)) ∙ ap (λ t. (said s, Ok p) ∷ t) on.0,
      subst (λ q. IsAt at (before ++ map entry (s ∷ ss)) (reached_from (after_spot r q (said s)) (map said ss))) (sym there)
          (subst (λ es. IsAt at es (reached_from (after r p (said s)) (map said ss))) (append_assoc before (e ∷ []) (map entry ss)) on.1),
    )

-- no value is named
pub none_resolved : (env : Env) (a : ℕ) (ss : List Stated) → resolved_all env (spots a ss) ≡ env
none_resolved env a [] = refl
none_resolved env a (named_here c w ∷ ss) = none_resolved env (a + size_of (entry (named_here c w))) ss
none_resolved env a (instructed c m g ∷ ss) = none_resolved env (a + size_of (entry (instructed c m g))) ss
none_resolved env a (laid c ps ∷ ss) = none_resolved env (a + size_of (entry (laid c ps))) ss
none_resolved env a (word_laid c d p ∷ ss) = none_resolved env (a + size_of (entry (word_laid c d p))) ss
