-- Bytes of settled items, and the pieces of code that they are.
use Rattle.std.proofs.Common.{◌≡◌, ℕ, ◌+◌, ◌%◌, ◌/◌, ◌≤◌, ◌<◌, Bool, true, false, not, ◌||◌, List, [], ◌∷◌, ◌++◌}
use Rattle.std.proofs.Common.{length, map, refl, sym, ap, ◌∙◌, subst, arith, Option, Some, None, append_assoc, true≢false}
use Rattle.std.proofs.lemmas.List.{append-nil}
use Rattle.tb_opcodes.specs.Opcodes as opcodes
use Rattle.tb_opcodes.specs.declared.Mnemonic.{Mnemonic}
use Rattle.tb_opcodes.specs.declared.Mnemonic.TheVariants.{Bcc, Bcs, Beq, Bmi, Bne, Bpl, Bvc, Bvs}
use Rattle.tb_opcodes.specs.declared.Mode.TheVariants.{Relative}
use Rattle.tb_asm.specs.declared.names.Name.{Name}
use Rattle.tb_asm.specs.declared.items.Operand.TheVariants.{Label}
use Rattle.tb_asm.specs.Layout.{Entry, instr, label, bytes_from, address_in, number_in, distance, is_near}
use Rattle.tb_asm.specs.Settle.{Form, kept, long, items_at, items_from, form_size, is_far, is_beyond, some_branch_far}
use Rattle.tb_asm.proofs.Laws.{bytes_append, all_size}
use Rattle.tb_assembly_settling.specs.Settled.{IsFormOf}
use Rattle.tb_assembly_settling.proofs.Forms.{forms_size, items_size, items_append}
use Rattle.tb_asm.proofs.Settled.{items_kept}
use Rattle.tb_machine_reaching.proofs.Instr.{Instr, flat}
use Rattle.tb_proof_simulation.proofs.Resolved as resolved
use Rattle.tb_proof_simulation.proofs.Resolved.{Piece, Code, pieces_size, highest_code}
use Rattle.tb_proof_simulation.proofs.Emitted.{piece_bytes, pieces_bytes, pieces_length}
use Rattle.tb_proof_correctness.proofs.CodeBytes.GroupCode.{Flag, Negative, Overflow, Carry, Zero, Way, Short, Long, way_size, branch_on, branch_code, BranchReaches}

-- ---- branches by their ways
-- the form of a branch to a label by its way
abbrev pub formed : Way → Mnemonic → Name → Form
formed Short n l = kept (instr n Relative (Label l))
formed Long n l = long n l

-- the form of a branch has the size of its way
pub formed_size : (way : Way) (n : Mnemonic) (l : Name) → form_size (formed way n l) ≡ way_size way
formed_size Short n l = refl
formed_size Long n l = refl

-- each form of a branch to a label is one of these
pub record Formed (n : Mnemonic) (l : Name) (f : Form) : Type 0 where
  pub way : Way
  pub is : f ≡ formed way n l

-- each form of a branch is one by a way
pub branch_formed : (n : Mnemonic) (l : Name) (f : Form) → IsFormOf (instr n Relative (Label l)) f → Formed n l f
branch_formed n l (kept e) h = record { way = Short; is = ap kept h }
branch_formed n l (long m k) h = record { way = Long; is = ap (λ o. by o) (sym h) }
  where
    by : Option (Mnemonic × Name) → Form
    by None = long m k
    by (Some b) = long b.0 b.1

-- the branch that a flag's value takes
abbrev pub branch_by : Flag → Bool → Mnemonic
branch_by Negative false = Bpl
branch_by Negative true = Bmi
branch_by Overflow false = Bvc
branch_by Overflow true = Bvs
branch_by Carry false = Bcc
branch_by Carry true = Bcs
branch_by Zero false = Bne
branch_by Zero true = Beq

-- ---- emitted pieces
module _ (labels : List (Name × ℕ)) where
  -- the items of these forms, laid from an address, have the bytes of these pieces
  pub record Emits (at : ℕ) (fs : List Form) (ps : List Piece) : Type 0 where
    pub bytes : bytes_from labels at (items_from at fs) ≡ pieces_bytes ps

  -- they are as long
  pub emitted_size : {at : ℕ} {fs : List Form} {ps : List Piece} → Emits at fs ps → forms_size fs ≡ pieces_size ps
  emitted_size {at} {fs} {ps} h = sym (items_size at fs) ∙ sym (all_size labels at (items_from at fs)) ∙ ap length h.bytes ∙ pieces_length ps

  -- the bytes of two lists of forms are those of the first and then those of the second
  pub bytes_behind : (at : ℕ) (fs gs : List Form) → bytes_from labels at (items_from at (fs ++ gs)) ≡ bytes_from labels at (items_from at fs)
      ++ bytes_from labels (at + forms_size fs) (items_from (at + forms_size fs) gs)
  bytes_behind at fs gs =
      ap (bytes_from labels at) (items_append at fs gs)
      ∙ bytes_append labels at (items_from at fs) (items_from (at + forms_size fs) gs)
      ∙ ap (λ n. bytes_from labels at (items_from at fs) ++ bytes_from labels (at + n) (items_from (at + forms_size fs) gs)) (items_size at fs)

  pieces_behind : (ps qs : List Piece) → pieces_bytes (ps ++ qs) ≡ pieces_bytes ps ++ pieces_bytes qs
  pieces_behind [] qs = refl
  pieces_behind (p ∷ ps) qs = ap (λ t. piece_bytes p ++ t) (pieces_behind ps qs) ∙ sym (append_assoc (piece_bytes p) (pieces_bytes ps) (pieces_bytes qs))

  -- forms that emit pieces, before forms that emit pieces
  pub emits_append : {at : ℕ} {fs gs : List Form} {ps qs : List Piece} → Emits at fs ps → Emits (at + pieces_size ps) gs qs → Emits at (fs ++ gs) (ps ++ qs)
  emits_append {at} {fs} {gs} {ps} {qs} h k = record {
    bytes =
        bytes_behind at fs gs
        ∙ (λ i. h.bytes i ++ bytes_from labels (at + emitted_size h i) (items_from (at + emitted_size h i) gs))
        ∙ ap (λ t. pieces_bytes ps ++ t) k.bytes
        ∙ sym (pieces_behind ps qs);
  }

  -- no forms emit no pieces
  pub ends : {at : ℕ} → Emits at [] []
  ends = record { bytes = refl }

  -- instructions without branches: their bytes are those of the items
  pub block : {at : ℕ} {fs : List Form} {ps : List Piece} (es : List Entry) (is : List Instr) → bytes_from labels at es ≡ flat is
      → Emits (at + resolved.size is) fs ps → Emits at (map kept es ++ fs) (Code is ∷ ps)
  block {at} {fs} {ps} es is h k =
      let own : Emits at (map kept es) (Code is ∷ []) = record { bytes = ap (bytes_from labels at) (items_kept at es) ∙ h ∙ sym (append-nil (flat is)) } in
      emits_append own (subst (λ n. Emits (at + n) fs ps) (let e : resolved.size is ≡ resolved.size is + 0 = omega arith in e) k)

  -- a label has no bytes
  pub labelled : {at : ℕ} {fs : List Form} {ps : List Piece} (n : Name) → Emits at fs ps → Emits at (kept (label n) ∷ fs) ps
  labelled {at} {fs} n h = record { bytes = ap (λ a. bytes_from labels a (items_from a fs)) (let e : at + 0 ≡ at = omega arith in e) ∙ h.bytes }

  -- a branch, short or long
  branch_bytes : (way : Way) (which : Flag) (wanted : Bool) (at to : ℕ) (l : Name) → at + 5 < 65536 → number_in labels (Label l) ≡ to
      → bytes_from labels at (items_at at (formed way (branch_by which wanted) l)) ≡ flat (branch_code way (branch_on which wanted) at to)
  unfolding opcodes.encoded
  branch_bytes Short Negative false at to l small h = ap (λ v. 0x10 ∷ distance at v % 256 ∷ []) h
  branch_bytes Short Negative true at to l small h = ap (λ v. 0x30 ∷ distance at v % 256 ∷ []) h
  branch_bytes Short Overflow false at to l small h = ap (λ v. 0x50 ∷ distance at v % 256 ∷ []) h
  branch_bytes Short Overflow true at to l small h = ap (λ v. 0x70 ∷ distance at v % 256 ∷ []) h
  branch_bytes Short Carry false at to l small h = ap (λ v. 0x90 ∷ distance at v % 256 ∷ []) h
  branch_bytes Short Carry true at to l small h = ap (λ v. 0xb0 ∷ distance at v % 256 ∷ []) h
  branch_bytes Short Zero false at to l small h = ap (λ v. 0xd0 ∷ distance at v % 256 ∷ []) h
  branch_bytes Short Zero true at to l small h = ap (λ v. 0xf0 ∷ distance at v % 256 ∷ []) h
  branch_bytes Long which wanted at to l small h = over which wanted
    where
      three : distance at ((at + 5) % 65536) % 256 ≡ 3
      three = omega (arith, small)

      over : (which : Flag) (wanted : Bool) → bytes_from labels at (items_at at (formed Long (branch_by which wanted) l)) ≡ flat (branch_code Long (branch_on which wanted) at to)
      over Negative false = λ i. 0x30 ∷ three i ∷ 0x4c ∷ h i % 256 ∷ h i / 256 ∷ []
      over Negative true = λ i. 0x10 ∷ three i ∷ 0x4c ∷ h i % 256 ∷ h i / 256 ∷ []
      over Overflow false = λ i. 0x70 ∷ three i ∷ 0x4c ∷ h i % 256 ∷ h i / 256 ∷ []
      over Overflow true = λ i. 0x50 ∷ three i ∷ 0x4c ∷ h i % 256 ∷ h i / 256 ∷ []
      over Carry false = λ i. 0xb0 ∷ three i ∷ 0x4c ∷ h i % 256 ∷ h i / 256 ∷ []
      over Carry true = λ i. 0x90 ∷ three i ∷ 0x4c ∷ h i % 256 ∷ h i / 256 ∷ []
      over Zero false = λ i. 0xf0 ∷ three i ∷ 0x4c ∷ h i % 256 ∷ h i / 256 ∷ []
      over Zero true = λ i. 0xd0 ∷ three i ∷ 0x4c ∷ h i % 256 ∷ h i / 256 ∷ []

  -- a branch before forms that emit pieces
  pub branches : {at to : ℕ} {fs : List Form} {ps : List Piece} (way : Way) (which : Flag) (wanted : Bool) (l : Name) → at + 5 < 65536 → number_in labels (Label l) ≡ to
      → Emits (at + way_size way) fs ps → Emits at (formed way (branch_by which wanted) l ∷ fs) (Code (branch_code way (branch_on which wanted) at to) ∷ ps)
  branches {at} {to} {fs} {ps} way which wanted l small h k =
      let f = formed way (branch_by which wanted) l in
      let one : Emits at (f ∷ []) (Code (branch_code way (branch_on which wanted) at to) ∷ []) = record {
        bytes =
            ap (bytes_from labels at) (append-nil (items_at at f)) ∙ branch_bytes way which wanted at to l small h ∙ sym (append-nil (flat (branch_code way (branch_on which wanted) at to)));
      } in
      let long : pieces_size (Code (branch_code way (branch_on which wanted) at to) ∷ []) ≡ way_size way =
      sym (emitted_size one) ∙ (let e = formed_size way (branch_by which wanted) l in omega (arith, e)) in
      emits_append one (subst (λ n. Emits (at + n) fs ps) (sym long) k)

  -- ---- reach
  -- a branch that reaches its label goes to that label's address
  pub reaches : (way : Way) (n : Mnemonic) (at to : ℕ) (l : Name) (es : List Entry) → address_in labels l ≡ Some to → to ≤ highest_code
      → some_branch_far labels at (items_at at (formed way n l) ++ es) ≡ false → BranchReaches way at to
  reaches Short n at to l es h top near = (by (is_near (distance at to)) (first (is_far labels at (instr n Relative (Label l))) _ near (ap (is_beyond at) h)), top)
    where
      first : (p q : Bool) → (p || q) ≡ false → p ≡ not (is_near (distance at to)) → not (is_near (distance at to)) ≡ false
      first false q e same = sym same
      first true q e same = absurd (true≢false e)

      by : (b : Bool) → not b ≡ false → b ≡ true
      by true q = refl
      by false q = absurd (true≢false q)
  reaches Long n at to l es h top near = top
