-- Instructions at addresses that are not known as numbers, and data at addresses that are known by a proof.
use Rattle.std.proofs.Common.{◌≡◌, ℕ, ◌+◌, ◌*◌, ◌/◌, ◌%◌, Bool, true, false, ◌&&◌, List, [], ◌∷◌, length, refl, sym, ap}
use Rattle.std.proofs.Common.{◌∙◌, subst, arith, leb, Option, Some, None}
use Rattle.std.specs.Prelude.{Result, Ok, Err, if◌then◌else◌, ◌==◌}
use Rattle.std.proofs.lemmas.Bool.{leb-true}
use Rattle.tb_memmap.specs.Bytes.{with_byte}
use Rattle.tb_opcodes.specs.Opcodes.{find_row, rows}
use Rattle.tb_opcodes.specs.declared.Mnemonic.{Mnemonic}
use Rattle.tb_opcodes.specs.declared.Mode.{Mode}
use Rattle.tb_opcodes.specs.declared.Mode.TheVariants.{Implied, Accumulator, Immediate, ZeroPage, ZeroPageX, ZeroPageY, IndirectX, IndirectY, Relative, Absolute, AbsoluteX, AbsoluteY, Indirect}
use Rattle.tb_cpu.specs.declared.registers.Regs.{Regs}
use Rattle.tb_cpu.specs.declared.wrong.Wrong.{Wrong}
use Rattle.tb_cpu.specs.declared.wrong.Wrong.TheVariants.{Closed}
use Rattle.tb_cpu.specs.Operands.{reading, and_then, operand_of, word_at, is_accumulator}
use Rattle.tb_cpu.specs.Instructions.{Outcome, executed, executed_on_a, advanced, instruction, stored}
use Rattle.tb_kernal.specs.Machine.{State}
use Rattle.tb_machine_reaching.specs.View.{View, Setup, At, Part, Fits, Comes, with_s, is_data, Bytes}
use Rattle.tb_machine_reaching.proofs.Acting.{read_view, from_part, finish_view, act_operand, act_kind, Plain, kind_of}
use Rattle.tb_machine_reaching.proofs.Instr.{Instr, operand_bytes, instr_bytes, bytes_by, Stands, operand_by, reader_by, act_instr_row, act_instr, run_along, Follows}
use Rattle.tb_machine_reaching.proofs.Readers.{then_more, more_word, more_executed, moved}
use Rattle.tb_machine_reaching.proofs.Memory.{data_fixed, fixed_open}
use Rattle.tb_machine_reaching.proofs.Act.{none≢some, read_code, read_more, Left, mode_left, goes_by}
use Rattle.tb_machine_reaching.proofs.Comes.{by_hand, comes_at, looser}

ok_eq : (a b : ℕ) → ◌≡◌ {A = Result ℕ Wrong} (Ok a) (Ok b) → a ≡ b
ok_eq a b h = cc

known : {A B : Type 0} (x : Result A Wrong) (a : A) (g : A → Result B Wrong) (c : B) → x ≡ Ok a → g a ≡ Ok c → and_then x g ≡ Ok c
known x a g c e h = ap (λ z. and_then z g) e ∙ h

-- ---- the operand is what follows the opcode
abbrev Behind : Setup → View → List ℕ → Type 0
Behind f v bs = Bytes f.code ((v.regs.pc + 1) % 65536) bs

module _ (f : Setup) (v : View) (s : State) (at : At f v s) where
  one_byte : (o : ℕ) → Behind f v (o ∷ []) → reading s.mem ((v.regs.pc + 1) % 65536) ≡ Ok o
  one_byte o h = read_code f v s at ((v.regs.pc + 1) % 65536) o h.0

  two_bytes : (o : ℕ) → Behind f v (o % 256 ∷ o / 256 ∷ []) → word_at (reading s.mem) ((v.regs.pc + 1) % 65536) ((v.regs.pc + 2) % 65536) ≡ Ok o
  two_bytes o h =
      let whole : o % 256 + 256 * (o / 256) ≡ o = omega arith in
      let next : ((v.regs.pc + 1) % 65536 + 1) % 65536 ≡ (v.regs.pc + 2) % 65536 = omega arith in
      known _ (o % 256) _ o (read_code f v s at _ (o % 256) h.0) (known _ (o / 256) _ o (read_code f v s at _ (o / 256) (ap f.code (sym next) ∙ h.1.0)) (ap (λ n. Ok n) whole))

  more : (a b w : ℕ) → word_at (read_view f.code v.mem) a b ≡ Ok w → word_at (reading s.mem) a b ≡ Ok w
  more a b w h = more_word (read_view f.code v.mem) (reading s.mem) (read_more f v s at f.code (λ a b e. e)) a b w h

  operand_there : (mode : Mode) (o p : ℕ) → Behind f v (operand_bytes mode o) → operand_by mode o v.regs (read_view f.code v.mem) ≡ Ok p
      → operand_of mode (with_s s.regs.s v.regs) (reading s.mem) ≡ Ok p
  operand_there Implied o p b h = h
  operand_there Accumulator o p b h = h
  operand_there Immediate o p b h = h
  operand_there Relative o p b h = h
  operand_there ZeroPage o p b h = one_byte o b ∙ h
  operand_there ZeroPageX o p b h = known _ o _ p (one_byte o b) h
  operand_there ZeroPageY o p b h = known _ o _ p (one_byte o b) h
  operand_there IndirectX o p b h = known _ o _ p (one_byte o b) (more ((o + v.regs.x) % 256) (((o + v.regs.x) % 256 + 1) % 256) p h)
  operand_there IndirectY o p b h = known _ o _ p (one_byte o b) (then_more (word_at (read_view f.code v.mem) o ((o + 1) % 256))
      (word_at (reading s.mem) o ((o + 1) % 256)) (λ p. Ok ((p + v.regs.y) % 65536)) (λ p. Ok ((p + v.regs.y) % 65536)) p p (more o ((o + 1) % 256)) (λ p h. h) h)
  operand_there Absolute o p b h = two_bytes o b ∙ h
  operand_there AbsoluteX o p b h = known _ o _ p (two_bytes o b) h
  operand_there AbsoluteY o p b h = known _ o _ p (two_bytes o b) h
  operand_there Indirect o p b h = known _ o _ p (two_bytes o b) (more o (o / 256 * 256 + (o % 256 + 1) % 256) p h)

  -- what is read there
  datum_there : (mode : Mode) (o p : ℕ) → Behind f v (operand_bytes mode o) → operand_by mode o v.regs (read_view f.code v.mem) ≡ Ok p → (b : ℕ)
      → reader_by mode o (read_view f.code v.mem) p ≡ Ok b → reading s.mem p ≡ Ok b
  datum_there Immediate o p b h d g = subst (λ p. reading s.mem p ≡ Ok d) (ok_eq _ p h) (one_byte o b ∙ g)
  datum_there Relative o p b h d g = subst (λ p. reading s.mem p ≡ Ok d) (ok_eq _ p h) (one_byte o b ∙ g)
  datum_there _ o p b h d g = read_more f v s at f.code (λ a b e. e) p d g

module _ (f : Setup) (room : ℕ) (fits : Fits f room) where
  -- a row's instruction with its bytes at PC
  by_row : (i : Instr) (v w : View) (x : Option (Mnemonic × Mode)) → Bytes f.code v.regs.pc (bytes_by x i) → act_instr_row f.code room x i.operand v
      ≡ Some w → (f.code v.regs.pc ≡ Some i.opcode) × ((s : State) (at : At f v s) → Left f room fits v s at w (instruction x (with_s s.regs.s v.regs) (reading s.mem)))
  by_row i v w None st h = absurd (none≢some w h)
  by_row i v w (Some y) st h = (
    st.0,
    λ s at. mode_left f room fits v s at (reader_by y.1 i.operand (read_view f.code v.mem)) y.0 y.1 (operand_by y.1 i.operand v.regs (read_view f.code v.mem))
        (λ p e. operand_there f v s at y.1 i.operand p st.1 e)
        (λ p e b g. datum_there f v s at y.1 i.operand p st.1 e b g) w h,
  )

  -- an opcode that isn't BRK's
  record Placed (i : Instr) (v w : View) (x : Option (Mnemonic × Mode)) : Type 0 where
    here : f.code v.regs.pc ≡ Some i.opcode
    some : (i.opcode == 0) ≡ false
    comes : (s : State) (at : At f v s) → Left f room fits v s at w (instruction x (with_s s.regs.s v.regs) (reading s.mem))

  placed : (i : Instr) (v w : View) (x : Option (Mnemonic × Mode)) → Bytes f.code v.regs.pc (bytes_by x i) → (t : Bool) → (i.opcode == 0) ≡ t
      → (if t then None else act_instr_row f.code room x i.operand v) ≡ Some w → Placed i v w x
  placed i v w x st true z h = absurd (none≢some w h)
  placed i v w x st false z h = let r = by_row i v w x st h in record { here = r.0; some = z; comes = r.1 }

  -- one instruction at any address, and then a law
  pub placing : (i : Instr) (v w : View) (q : View → Type 0) (t : List ℕ) (m : ℕ) → leb (length v.stack) room ≡ true
      → Bytes f.code v.regs.pc (instr_bytes i) → act_instr f.code room i v ≡ Some w → Comes f w q t m → Comes f v q t (1 + m)
  placing i v w q t m small st h next =
      let p = placed i v w (find_row rows i.opcode) st (i.opcode == 0) refl h in
      by_hand f room fits v w i.opcode q t m small p.here p.some p.comes next

  -- one instruction at any address, as the last piece
  pub placed_last : (i : Instr) (v w : View) (q : View → Type 0) → leb (length v.stack) room ≡ true → Bytes f.code v.regs.pc (instr_bytes i)
      → act_instr f.code room i v ≡ Some w → q w → Comes f v q [] 1
  placed_last i v w q small st h x =
      let p = placed i v w (find_row rows i.opcode) st (i.opcode == 0) refl h in
      comes_at f v w q room i.opcode fits (leb-true _ _ small) p.here (λ s at k. goes_by f room fits v s at i.opcode p.here p.some w (p.comes s at) k) x

  -- straight on from any address, and then a law
  pub along : (is : List Instr) (at : ℕ) (v w : View) (q : View → Type 0) (t : List ℕ) (m : ℕ) → Stands f.code at is
      → Follows f.code room is at (Some v) → run_along f.code room is v ≡ Some w → Comes f w q t m → Comes f v q t (length is + m)
  along [] at v w q t m st fo h c = looser f v q q t m (0 + m) (omega arith) (λ w x. x) (subst (λ w. Comes f w q t m) (let e : w ≡ v = cc in e) c)
  along (i ∷ is) at v w q t m st fo h c = go (along is ((at + length (instr_bytes i)) % 65536)) (act_instr f.code room i v) refl fo h
    where
      go : ((v w : View) (q : View → Type 0) (t : List ℕ) (m : ℕ) → Stands f.code ((at + length (instr_bytes i)) % 65536) is
          → Follows f.code room is ((at + length (instr_bytes i)) % 65536) (Some v) → run_along f.code room is v ≡ Some w → Comes f w q t m
          → Comes f v q t (length is + m)) → (o : Option View) → act_instr f.code room i v ≡ o → (at ≡ v.regs.pc) × (leb (length v.stack) room ≡ true)
          × Follows f.code room is ((at + length (instr_bytes i)) % 65536) o
          → (elim o as (λ _. Option View) [ None ↦ None | Some w ↦ run_along f.code room is w ]) ≡ Some w → Comes f v q t (length (i ∷ is) + m)
      go r None a fo h = absurd (none≢some w h)
      go r (Some u) a fo h =
          looser f v q q t (1 + (length is + m)) (length (i ∷ is) + m) (omega arith) (λ w x. x)
          (placing i v u q t (length is + m) fo.1 (subst (λ p. Bytes f.code p (instr_bytes i)) fo.0 st.0) a (r u w q t m st.1 fo.2 h c))

-- ---- data at an address that a proof gives
pub reads_data : (part : Part) (m : ℕ → ℕ) (a : ℕ) → is_data a ≡ true → read_view part m a ≡ Ok (m a)
reads_data part m a h = ap (λ t. if t then Ok (m a) else from_part a (part a)) h

-- a view reads the program's bytes from the program
pub reads_code : (part : Part) (m : ℕ → ℕ) (a b : ℕ) → is_data a ≡ false → part a ≡ Some b → read_view part m a ≡ Ok b
reads_code part m a b h e = ap (λ t. if t then Ok (m a) else from_part a (part a)) h ∙ ap (from_part a) e

module _ (part : Part) (room : ℕ) (i : Instr) (v : View) (m : Mnemonic) (mode : Mode) (o : ℕ) (row : find_row rows i.opcode ≡ Some (m, mode))
    (some : (i.opcode == 0) ≡ false) (plain : kind_of m ≡ Plain) (apart : is_accumulator mode ≡ false) (there : operand_by mode i.operand v.regs
    (read_view part v.mem) ≡ Ok o) where
  acts_so : (e : Outcome) → executed m (advanced v.regs mode) (reader_by mode i.operand (read_view part v.mem)) o ≡ Ok e → act_instr part room i v ≡ finish_view v (Ok e)
  acts_so e h =
      let read = reader_by mode i.operand (read_view part v.mem) in
      let r = advanced v.regs mode in
      ap (λ t. if t then None else act_instr_row part room (find_row rows i.opcode) i.operand v) some
      ∙ ap (λ x. act_instr_row part room x i.operand v) row
      ∙ ap (λ t. if t then finish_view v (executed_on_a m r) else act_operand room m v r read (operand_by mode i.operand v.regs (read_view part v.mem))) apart
      ∙ ap (act_operand room m v r read) there
      ∙ ap (λ k. act_kind k room m v r read o) plain
      ∙ ap (finish_view v) h

  -- an instruction that reads the byte b there
  pub takes_at : (b : ℕ) (r : Regs) → reader_by mode i.operand (read_view part v.mem) o ≡ Ok b → executed m (advanced v.regs mode) (λ a. Ok b) o
      ≡ Ok (r, []) → act_instr part room i v ≡ Some (record v { regs = with_s v.regs.s r })
  takes_at b r read h = acts_so (moved v.regs.s (r, [])) (more_executed (λ a. Ok b) (reader_by mode i.operand (read_view part v.mem)) o (λ c e. read
      ∙ e) v.regs.s m plain (advanced v.regs mode) (r, []) h)

  -- an instruction that reads the byte b there and stores c instead
  pub changes_at : (b c : ℕ) (r : Regs) → is_data o ≡ true → reader_by mode i.operand (read_view part v.mem) o ≡ Ok b → executed m (advanced v.regs mode) (λ a. Ok b) o ≡ stored r o c
      → act_instr part room i v ≡ Some (record v { regs = with_s v.regs.s r; mem = with_byte v.mem o c })
  changes_at b c r d read h =
      let allowed : stored r o c ≡ Ok (r, (o, c) ∷ []) = ap (λ t. if t then Ok (r, (o, c) ∷ []) else Err (Closed o)) (fixed_open o (data_fixed o d)) in
      acts_so (moved v.regs.s (r, (o, c) ∷ [])) (more_executed (λ a. Ok b) (reader_by mode i.operand (read_view part v.mem)) o (λ x e. read
      ∙ e) v.regs.s m plain (advanced v.regs mode) (r, (o, c) ∷ []) (h ∙ allowed))
      ∙ ap (λ t. if t && true then Some (record v { regs = with_s v.regs.s r; mem = with_byte v.mem o c }) else None) d

  -- an instruction that stores the byte b there
  pub stores_at : (b : ℕ) → is_data o ≡ true → executed m (advanced v.regs mode) (reader_by mode i.operand (read_view part v.mem)) o
      ≡ stored (advanced v.regs mode) o b → act_instr part room i v ≡ Some (record v { regs = advanced v.regs mode; mem = with_byte v.mem o b })
  stores_at b d h =
      let r = advanced v.regs mode in
      acts_so (r, (o, b) ∷ []) (h ∙ ap (λ t. if t then Ok (r, (o, b) ∷ []) else Err (Closed o)) (fixed_open o (data_fixed o d)))
      ∙ ap (λ t. if t && true then Some (record v { regs = r; mem = with_byte v.mem o b }) else None) d
