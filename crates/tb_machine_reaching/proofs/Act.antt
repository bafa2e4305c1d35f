-- The machine does what the view says, whatever the ROM does.
use Rattle.std.proofs.Common.{◌≡◌, ℕ, suc, ◌+◌, ◌/◌, ◌%◌, ◌≤◌, Bool, true, false, ◌||◌, ◌&&◌, not, List, [], ◌∷◌}
use Rattle.std.proofs.Common.{◌++◌, length, refl, sym, ap, ◌∙◌, subst, ⊎_elim, arith, eqb, leb, Option, Some, None, length-append}
use Rattle.std.specs.Prelude.{Result, Ok, Err, if◌then◌else◌, ◌==◌}
use Rattle.std.proofs.lemmas.Bool.{leb-true, ne_eqb}
use Rattle.arrayvec.specs.ArrayVec.{ArrayVec}
use Rattle.tb_memmap.specs.Regions.{is_open, is_owned}
use Rattle.tb_memmap.specs.Bytes.{Writes, with_byte, written}
use Rattle.tb_opcodes.specs.Opcodes.{decoded, find_row, rows}
use Rattle.tb_opcodes.specs.declared.Mode.{Mode}
use Rattle.tb_opcodes.specs.declared.Mnemonic.{Mnemonic}
use Rattle.tb_opcodes.specs.declared.Mnemonic.TheVariants.{Tsx, Txs, Jsr, Rts, Rti, Pha, Pla, Php, Plp, Brk as BrkM}
use Rattle.tb_cpu.specs.declared.registers.Regs.{Regs}
use Rattle.tb_cpu.specs.declared.wrong.Wrong.{Wrong}
use Rattle.tb_cpu.specs.declared.wrong.Wrong.TheVariants.{Closed, Brk}
use Rattle.tb_cpu.specs.Effects.{status_flags}
use Rattle.tb_cpu.specs.Operands.{Reader, reading, and_then, operand_of, is_accumulator, word_from}
use Rattle.tb_cpu.specs.Instructions.{Outcome, executed, executed_on_a, advanced, instruction, outcome, finished, unchanged, next, pulled as pulled_byte}
use Rattle.tb_kernal.specs.declared.rom.Service.TheVariants.{Chrout, Chrin, Getin}
use Rattle.tb_kernal.specs.declared.events.Clobber.{Clobber}
use Rattle.tb_kernal.specs.declared.events.Event.TheVariants.{Go, Interrupt}
use Rattle.tb_kernal.specs.declared.status.Status.{Status}
use Rattle.tb_kernal.specs.declared.status.Status.TheVariants.{Running, Waits, Returned, Wrong as WentWrong}
use Rattle.tb_kernal.specs.Rom.{all_writable, service_at}
use Rattle.tb_kernal.specs.Machine.{State, status, status_by, is_home, waits_for, happens, gone, gone_at, stepped, interrupted, is_lawful, is_stopped}
use Rattle.tb_kernal.proofs.Keeping.{written_keeps}
use Rattle.tb_machine_reaching.specs.View.{View, Setup, At, Stays, Part, Holds, Fits, Stacked, with_s, is_data, is_program, is_fixed}
use Rattle.tb_machine_reaching.proofs.Acting.{all_data, from_part, read_view, kind_of, finish_view, push_view, pushed_byte, with_pulled, pull_one, pull_two, pull_three}
use Rattle.tb_machine_reaching.proofs.Acting.{behind, act_kind, act_operand, act_row, act_opcode, act}
use Rattle.tb_machine_reaching.proofs.Memory.{fixed_owned, stack_owned, put_same, put_other, data_leaves, written_same, stacked_same, program_not_data, program_fixed}
use Rattle.tb_machine_reaching.proofs.Memory.{data_fixed, stack_not_data, fixed_not_stack, fixed_open, stack_open, program_range}
use Rattle.tb_machine_reaching.proofs.Readers.{ok≢err, moved, on_a_moved, more_operand, more_executed}

-- equal answers have equal contents
pub some_eq : {A : Type 0} {a b : A} → Some a ≡ Some b → a ≡ b
some_eq h = cc

-- without a view there is nothing to equal one
pub none≢some : (w : View) → ◌≡◌ {A = Option View} None (Some w) → ⊥
none≢some w h = cc

abbrev pub up : ℕ → ℕ
up s = (s + 1) % 256

-- decoding an opcode is a search through its table
pub decoded_by : (b : ℕ) → decoded b ≡ find_row rows b
unfolding decoded
decoded_by b = refl

-- ---- what stays
-- the program is in any memory that has its bytes
pub stays_in : (f : Setup) (m k : ℕ → ℕ) (wrong : Option Wrong) (to to_s : ℕ) → ((a : ℕ) → is_program a ≡ true → k a ≡ m a) → Stays f m wrong to to_s → Stays f k wrong to to_s
stays_in f m k wrong to to_s e h = record {
  whole = λ a b p. let c = h.whole a b p in (c.0, e a c.0 ∙ c.1);
  inner = h.inner;
  right = h.right;
  home = h.home;
  home_s = h.home_s;
  far = h.far;
  apart = h.apart;
}

module _ (f : Setup) (v : View) (s : State) (at : At f v s) where
  -- the machine's PC is the view's
  pub pc_here : s.regs.pc ≡ v.regs.pc
  pc_here = ap (λ r. r.pc) at.regs

  -- the stack pointer is a byte
  pub s_small : s.regs.s ≤ 255
  s_small = omega (arith, at.depth)

  -- a byte of the program
  pub code_at : (a b : ℕ) → f.code a ≡ Some b → (is_program a ≡ true) × (s.mem a ≡ b)
  code_at a b h = at.stays.whole a b (at.stays.inner a b h)

  no_service : is_program v.regs.pc ≡ true → service_at v.regs.pc ≡ None
  no_service h =
      let r = program_range v.regs.pc h in
      ap (λ b. if b then Some Chrout else if eqb v.regs.pc 0xffcf then Some Chrin else if eqb v.regs.pc 0xffe4 then Some Getin else None) (ne_eqb v.regs.pc 0xffd2 (λ e. omega arith))
      ∙ ap (λ b. if b then Some Chrin else if eqb v.regs.pc 0xffe4 then Some Getin else None) (ne_eqb v.regs.pc 0xffcf (λ e. omega arith))
      ∙ ap (λ b. if b then Some Getin else None) (ne_eqb v.regs.pc 0xffe4 (λ e. omega arith))

  service_here : is_program v.regs.pc ≡ true → service_at s.regs.pc ≡ None
  service_here h = ap service_at pc_here ∙ no_service h

  -- a PC that is not the home address is not at home
  pub not_home : eqb s.regs.pc s.home ≡ false → is_home s ≡ false
  not_home e = ap (λ b. b && eqb s.regs.s s.home_s && not s.regs.flags.d) e

  -- at an address of the program, the machine runs
  pub runs : is_program v.regs.pc ≡ true → status s ≡ Running
  runs h =
      let r = program_range v.regs.pc h in
      let apart : s.regs.pc ≡ s.home → ⊥ = λ e. omega (arith, e, pc_here, at.stays.home, at.stays.far) in
      ap (λ b. status_by b s.wrong (waits_for (service_at s.regs.pc) s.text)) (not_home (ne_eqb s.regs.pc s.home apart))
      ∙ ap (λ o. status_by false o (waits_for (service_at s.regs.pc) s.text)) at.stays.right
      ∙ ap (λ q. status_by false None (waits_for q s.text)) (service_here h)

  -- at an address of the program, a Go executes one instruction
  pub goes_by_instruction : is_program v.regs.pc ≡ true → (k : Clobber) → happens s (Go k) ≡ stepped s (next s.regs s.mem)
  goes_by_instruction h k = ap (λ q. gone q k s) (runs h) ∙ ap (λ q. gone_at q k s) (service_here h)

  -- ---- interrupts
  rom_leaves : (ws : Writes) → all_writable s.regs.s ws ≡ true → (a : ℕ) → is_owned s.regs.s a ≡ true → written s.mem ws a ≡ s.mem a
  rom_leaves ws h a o = written_keeps s.regs.s a ws s.mem (omega (arith, s_small)) h o

  -- lawful writes of the ROM keep the view
  pub rom_wrote : (ws : Writes) → all_writable s.regs.s ws ≡ true → At f v (record s { mem = written s.mem ws })
  rom_wrote ws h = record {
    regs = at.regs;
    depth = at.depth;
    stack = stacked_same (0x0101 + s.regs.s) (0x0101 + s.regs.s) s.mem (written s.mem ws) _ (omega arith) (omega (arith, at.depth))
        (λ a lo hi. rom_leaves ws h a (stack_owned s.regs.s a lo hi)) at.stack;
    bytes = λ a e. rom_leaves ws h a (fixed_owned s.regs.s a e) ∙ at.bytes a e;
    text = at.text;
    answers = at.answers;
    stays = stays_in f s.mem (written s.mem ws) s.wrong s.home s.home_s (λ a p. rom_leaves ws h a (fixed_owned s.regs.s a (program_fixed a p))) at.stays;
  }

  -- a lawful interrupt keeps the view
  pub kept_by_interrupt : (ws : ArrayVec (ℕ × ℕ)) → is_lawful s (Interrupt ws) ≡ true → At f v (happens s (Interrupt ws))
  kept_by_interrupt ws h = go (status s) h
    where
      go : (q : Status) → (is_stopped q || all_writable s.regs.s ws.items) ≡ true → At f v (interrupted q ws.items s)
      go Returned h = at
      go (WentWrong w) h = at
      go Waits h = rom_wrote ws.items h
      go Running h = rom_wrote ws.items h

  -- ---- reading
  read_open : (a b : ℕ) → is_open a ≡ true → s.mem a ≡ b → reading s.mem a ≡ Ok b
  read_open a b h e = ap (λ t. if t then Ok (s.mem a) else Err (Closed a)) h ∙ ap Ok e

  -- the machine reads each byte of the code
  pub read_code : (a b : ℕ) → f.code a ≡ Some b → reading s.mem a ≡ Ok b
  read_code a b h = let c = code_at a b h in read_open a b (fixed_open a (program_fixed a c.0)) c.1

  module _ (part : Part) (holds : Holds part f.code) where
    -- what a view reads, the machine reads too
    pub read_more : (a b : ℕ) → read_view part v.mem a ≡ Ok b → reading s.mem a ≡ Ok b
    read_more a b h = go (is_data a) refl h
      where
        of_part : (o : Option ℕ) → part a ≡ o → from_part a o ≡ Ok b → reading s.mem a ≡ Ok b
        of_part None e h = absurd (ok≢err b (Closed a) (Err (Closed a)) h refl)
        of_part (Some x) e h = read_code a x (holds a x e) ∙ h

        go : (t : Bool) → is_data a ≡ t → (if t then Ok (v.mem a) else from_part a (part a)) ≡ Ok b → reading s.mem a ≡ Ok b
        go true e h = read_open a (v.mem a) (fixed_open a (data_fixed a e)) (at.bytes a (data_fixed a e)) ∙ h
        go false e h = of_part (part a) refl h

  -- ---- other registers, other bytes
  pub with_regs : (r : Regs) → At f (record v { regs = r }) (record s { regs = with_s s.regs.s r })
  with_regs r = record { regs = refl; depth = at.depth; stack = at.stack; bytes = at.bytes; text = at.text; answers = at.answers; stays = at.stays }

  leaves_data : (ws : Writes) → all_data ws ≡ true → At f (record v { mem = written v.mem ws }) (record s { mem = written s.mem ws })
  leaves_data ws h = record {
    regs = at.regs;
    depth = at.depth;
    stack = stacked_same (0x0101 + s.regs.s) (0x0101 + s.regs.s) s.mem (written s.mem ws) _ (omega arith) (omega (arith, at.depth))
        (λ a lo hi. data_leaves a ws s.mem (stack_not_data a (omega arith) hi) h) at.stack;
    bytes = λ a t. written_same a ws s.mem v.mem (at.bytes a t);
    text = at.text;
    answers = at.answers;
    stays = stays_in f s.mem (written s.mem ws) s.wrong s.home s.home_s (λ a p. data_leaves a ws s.mem (program_not_data a p) h) at.stays;
  }

  -- ---- the stack
  pushed : (b : ℕ) (r : Regs) → 1 ≤ s.regs.s → At f (record v { regs = r; stack = b ∷ v.stack }) (record s {
    regs = with_s ((s.regs.s + 255) % 256) r;
    mem = with_byte s.mem (256 + s.regs.s) b;
  })
  pushed b r some =
      let down = (s.regs.s + 255) % 256 in
      let one_less : down + 1 ≡ s.regs.s = omega (arith, s_small) in
      let m = with_byte s.mem (256 + s.regs.s) b in
      let other : (a : ℕ) → is_fixed a ≡ true → m a ≡ s.mem a = λ a t. put_other s.mem (256 + s.regs.s) b a
      (λ e. ⊎_elim (λ h. omega arith) (λ h. omega (arith, s_small)) (fixed_not_stack a t)) in
      let at_one : 0x0101 + down + 1 ≡ 0x0101 + s.regs.s = omega arith in
      record {
        regs = refl;
        depth = omega (arith, at.depth);
        stack = (
          put_same s.mem (256 + s.regs.s) b (0x0101 + down) (omega arith),
          subst (λ n. Stacked m n (v.stack ++ f.rest)) (sym at_one) (stacked_same (0x0101 + s.regs.s) (0x0101 + s.regs.s) s.mem m _ (omega arith)
              (omega (arith, at.depth)) (λ a lo hi. put_other s.mem (256 + s.regs.s) b a (λ e. omega arith)) at.stack),
        );
        bytes = λ a t. other a t ∙ at.bytes a t;
        text = at.text;
        answers = at.answers;
        stays = stays_in f s.mem m s.wrong s.home s.home_s (λ a p. other a (program_fixed a p)) at.stays;
      }

  -- a byte from the stack
  pub pulled : (b : ℕ) (r : Regs) (bs : List ℕ) → v.stack ≡ b ∷ bs → (up s.regs.s ≡ s.regs.s + 1) × (s.mem (256 + up s.regs.s) ≡ b)
      × (reading s.mem (256 + up s.regs.s) ≡ Ok b) × At f (record v { regs = r; stack = bs }) (record s { regs = with_s (up s.regs.s) r })
  pulled b r bs e =
      let st : Stacked s.mem (0x0101 + s.regs.s) (b ∷ (bs ++ f.rest)) = subst (λ l. Stacked s.mem (0x0101 + s.regs.s) (l ++ f.rest)) e at.stack in
      let len : length (v.stack ++ f.rest) ≡ suc (length (bs ++ f.rest)) = ap (λ l. length (l ++ f.rest)) e in
      let one_more : up s.regs.s ≡ s.regs.s + 1 = omega (arith, at.depth) in
      let here : 256 + up s.regs.s ≡ 0x0101 + s.regs.s = omega arith in
      let after : 0x0101 + s.regs.s + 1 ≡ 0x0101 + up s.regs.s = omega arith in
      let byte : s.mem (256 + up s.regs.s) ≡ b = ap s.mem here ∙ st.0 in (
        one_more,
        byte,
        read_open (256 + up s.regs.s) b (stack_open (256 + up s.regs.s) (omega arith) (omega (arith, at.depth))) byte,
        record {
          regs = refl;
          depth = omega (arith, at.depth);
          stack = subst (λ n. Stacked s.mem n (bs ++ f.rest)) after st.1;
          bytes = at.bytes;
          text = at.text;
          answers = at.answers;
          stays = at.stays;
        },
      )

module _ (f : Setup) (room : ℕ) (fits : Fits f room) (v : View) (s : State) (at : At f v s) where
  -- what an instruction leads to, seen from a view
  abbrev pub Left : View → Result Outcome Wrong → Type 0
  Left w x = (e : Outcome) × (x ≡ Ok e) × At f w (record s { regs = e.0; mem = written s.mem e.1 })

  -- an outcome for the view is one for the machine, with its S
  done_left : (w : View) (x : Result Outcome Wrong) (y : Result Outcome Wrong) → ((e : Outcome) → x ≡ Ok e → y ≡ Ok (moved s.regs.s e)) → finish_view v x ≡ Some w → Left w y
  done_left w (Err e) y g h = absurd (none≢some w h)
  done_left w (Ok e) y g h = go (all_data e.1) refl h
    where
      go : (t : Bool) → all_data e.1 ≡ t → (if t then Some (record v { regs = e.0; mem = written v.mem e.1 }) else None) ≡ Some w → Left w y
      go true d h = (
        moved s.regs.s e,
        g e refl,
        subst (λ x. At f x (record s { regs = with_s s.regs.s e.0; mem = written s.mem e.1 })) (some_eq h)
            (with_regs f (record v { mem = written v.mem e.1 }) (record s { mem = written s.mem e.1 }) (leaves_data f v s at e.1 d) e.0),
      )
      go false d h = cc

  deep : (bs : List ℕ) → leb (length (bs ++ v.stack)) room ≡ true → length bs ≤ s.regs.s
  deep bs h = omega (arith, leb-true _ _ h, length-append bs v.stack, length-append v.stack f.rest, at.depth, fits)

  pushed_left : (bs : List ℕ) (r : Regs) (w : View) → push_view room v bs r ≡ Some w → (leb (length (bs ++ v.stack)) room ≡ true) × (record v { regs = r; stack = bs ++ v.stack } ≡ w)
  pushed_left bs r w h = go (leb (length (bs ++ v.stack)) room) refl h
    where
      go : (t : Bool) → leb (length (bs ++ v.stack)) room ≡ t → (if t then Some (record v { regs = r; stack = bs ++ v.stack }) else None) ≡ Some w
          → (leb (length (bs ++ v.stack)) room ≡ true) × (record v { regs = r; stack = bs ++ v.stack } ≡ w)
      go true e h = (e, some_eq h)
      go false e h = cc

  calls_left : (r : Regs) (o : ℕ) (w : View) → push_view room v (behind r % 256 ∷ behind r / 256 ∷ []) (record r { pc = o }) ≡ Some w
      → Left w (executed Jsr (with_s s.regs.s r) (reading s.mem) o)
  calls_left r o w h =
      let lo = behind r % 256 in
      let hi = behind r / 256 in
      let q = record r { pc = o } in
      let p = pushed_left (lo ∷ hi ∷ []) q w h in
      let d = deep (lo ∷ hi ∷ []) p.0 in
      let down = (s.regs.s + 255) % 256 in
      let less : 1 ≤ down = omega (arith, s_small f v s at) in
      let one = pushed f v s at hi q (omega arith) in
      let two = pushed f (record v { regs = q; stack = hi ∷ v.stack }) (record s { regs = with_s down q; mem = with_byte s.mem (256 + s.regs.s) hi }) one lo q less in
      let e : Outcome = (with_s ((down + 255) % 256) q, (256 + s.regs.s, hi) ∷ (256 + down, lo) ∷ []) in
      (e, refl, subst (λ x. At f x (record s { regs = e.0; mem = written s.mem e.1 })) p.1 two)

  returns_left : (r : Regs) (o : ℕ) (w : View) → pull_two v r v.stack ≡ Some w → Left w (executed Rts (with_s s.regs.s r) (reading s.mem) o)
  returns_left r o w h = go v.stack refl h
    where
      go : (l : List ℕ) → v.stack ≡ l → pull_two v r l ≡ Some w → Left w (executed Rts (with_s s.regs.s r) (reading s.mem) o)
      go [] e h = absurd (none≢some w h)
      go (lo ∷ []) e h = absurd (none≢some w h)
      go (lo ∷ hi ∷ bs) e h =
          let q = record r { pc = (word_from lo hi + 1) % 65536 } in
          let one = pulled f v s at lo q (hi ∷ bs) e in
          let two = pulled f (record v { regs = q; stack = hi ∷ bs }) (record s { regs = with_s (up s.regs.s) q }) one.3 hi q bs refl in
          let second = λ (low : ℕ) (x : Result ℕ Wrong). and_then x (λ high. unchanged (record r { s = up (up s.regs.s); pc = (word_from low high + 1) % 65536 })) in (
            (with_s (up (up s.regs.s)) q, []),
            ap (λ x. and_then x (λ low. second low (reading s.mem (256 + up (up s.regs.s))))) one.2 ∙ ap (second lo) two.2,
            subst (λ x. At f x (record s { regs = with_s (up (up s.regs.s)) q })) (some_eq h) two.3,
          )

  resumes_left : (r : Regs) (o : ℕ) (w : View) → pull_three v r v.stack ≡ Some w → Left w (executed Rti (with_s s.regs.s r) (reading s.mem) o)
  resumes_left r o w h = go v.stack refl h
    where
      go : (l : List ℕ) → v.stack ≡ l → pull_three v r l ≡ Some w → Left w (executed Rti (with_s s.regs.s r) (reading s.mem) o)
      go [] e h = absurd (none≢some w h)
      go (p ∷ []) e h = absurd (none≢some w h)
      go (p ∷ lo ∷ []) e h = absurd (none≢some w h)
      go (p ∷ lo ∷ hi ∷ bs) e h =
          let q = record r { flags = status_flags p; pc = word_from lo hi } in
          let s1 = up s.regs.s in
          let s2 = up s1 in
          let s3 = up s2 in
          let one = pulled f v s at p q (lo ∷ hi ∷ bs) e in
          let two = pulled f (record v { regs = q; stack = lo ∷ hi ∷ bs }) (record s { regs = with_s s1 q }) one.3 lo q (hi ∷ bs) refl in
          let three = pulled f (record v { regs = q; stack = hi ∷ bs }) (record s { regs = with_s s2 q }) two.3 hi q bs refl in
          let third = λ (p low : ℕ) (x : Result ℕ Wrong). and_then x (λ high. unchanged (record r { s = s3; flags = status_flags p; pc = word_from low high })) in
          let second = λ (p : ℕ) (x : Result ℕ Wrong). and_then x (λ low. third p low (reading s.mem (256 + s3))) in (
            (with_s s3 q, []),
            ap (λ x. and_then x (λ p. second p (reading s.mem (256 + s2)))) one.2 ∙ ap (second p) two.2 ∙ ap (third p lo) three.2,
            subst (λ x. At f x (record s { regs = with_s s3 q })) (some_eq h) three.3,
          )

  -- one byte, and one push
  pushes_left : (b : ℕ) (r : Regs) (w : View) → push_view room v (b ∷ []) r ≡ Some w → Left w (Ok (with_s ((s.regs.s + 255) % 256) r, (256 + s.regs.s, b) ∷ []))
  pushes_left b r w h =
      let p = pushed_left (b ∷ []) r w h in
      let d = deep (b ∷ []) p.0 in
      let one = pushed f v s at b r (omega arith) in
      (_, refl, subst (λ x. At f x (record s { regs = with_s ((s.regs.s + 255) % 256) r; mem = with_byte s.mem (256 + s.regs.s) b })) p.1 one)

  pulls_left : (m : Mnemonic) (r : Regs) (w : View) → pull_one m v r v.stack ≡ Some w
      → Left w (and_then (pulled_byte (with_s s.regs.s r) (reading s.mem)) (λ b. unchanged (with_s (up s.regs.s) (with_pulled m r b))))
  pulls_left m r w h = go v.stack refl h
    where
      go : (l : List ℕ) → v.stack ≡ l → pull_one m v r l ≡ Some w
          → Left w (and_then (pulled_byte (with_s s.regs.s r) (reading s.mem)) (λ b. unchanged (with_s (up s.regs.s) (with_pulled m r b))))
      go [] e h = absurd (none≢some w h)
      go (b ∷ bs) e h =
          let one = pulled f v s at b (with_pulled m r b) bs e in (
            (with_s (up s.regs.s) (with_pulled m r b), []),
            ap (λ x. and_then x (λ b. unchanged (with_s (up s.regs.s) (with_pulled m r b)))) one.2,
            subst (λ x. At f x (record s { regs = with_s (up s.regs.s) (with_pulled m r b) })) (some_eq h) one.3,
          )

  -- any mnemonic, if a reader gives the machine's bytes at the operand
  pub left : (read : Reader) (m : Mnemonic) (r : Regs) (o : ℕ) → ((b : ℕ) → read o ≡ Ok b → reading s.mem o ≡ Ok b) → (w : View)
      → act_kind (kind_of m) room m v r read o ≡ Some w → Left w (executed m (with_s s.regs.s r) (reading s.mem) o)
  left read Jsr r o g w h = calls_left r o w h
  left read Rts r o g w h = returns_left r o w h
  left read Rti r o g w h = resumes_left r o w h
  left read Pha r o g w h = pushes_left (pushed_byte Pha r) r w h
  left read Php r o g w h = pushes_left (pushed_byte Php r) r w h
  left read Pla r o g w h = pulls_left Pla r w h
  left read Plp r o g w h = pulls_left Plp r w h
  left read Tsx r o g w h = absurd (none≢some w h)
  left read Txs r o g w h = absurd (none≢some w h)
  left read BrkM r o g w h = absurd (none≢some w h)
  left read m r o g w h = done_left w (executed m r read o) _ (more_executed read (reading s.mem) o g s.regs.s m refl r) h

  on_a_left : (m : Mnemonic) (r : Regs) (w : View) → finish_view v (executed_on_a m r) ≡ Some w → Left w (executed_on_a m (with_s s.regs.s r))
  on_a_left m r w h = done_left w (executed_on_a m r) _ (λ e p. on_a_moved s.regs.s m r ∙ ap (λ x. elim x as (λ _. Result Outcome Wrong) [ Ok e ↦ Ok (moved s.regs.s e) | Err w ↦ Err w ]) p) h

  -- an instruction by its row, if its operand and a reader of it are known
  pub mode_left : (read : Reader) (m : Mnemonic) (mode : Mode) (x : Result ℕ Wrong)
      → ((o : ℕ) → x ≡ Ok o → operand_of mode (with_s s.regs.s v.regs) (reading s.mem) ≡ Ok o) → ((o : ℕ) → x ≡ Ok o → (b : ℕ) → read o ≡ Ok b
      → reading s.mem o ≡ Ok b) → (w : View) → (if is_accumulator mode then finish_view v (executed_on_a m (advanced v.regs mode))
      else act_operand room m v (advanced v.regs mode) read x) ≡ Some w → Left w (instruction (Some (m, mode)) (with_s s.regs.s v.regs) (reading s.mem))
  mode_left read m mode x there bytes w h = by_mode (is_accumulator mode) h
    where
      by_operand : (y : Result ℕ Wrong) → x ≡ y → act_operand room m v (advanced v.regs mode) read y ≡ Some w
          → Left w (and_then (operand_of mode (with_s s.regs.s v.regs) (reading s.mem)) (λ o. executed m (with_s s.regs.s (advanced v.regs mode)) (reading s.mem) o))
      by_operand (Err e) p h = absurd (none≢some w h)
      by_operand (Ok o) p h =
          let l = left read m (advanced v.regs mode) o (bytes o p) w h in
          (l.0, ap (λ x. and_then x (λ o. executed m (with_s s.regs.s (advanced v.regs mode)) (reading s.mem) o)) (there o p) ∙ l.1, l.2)

      by_mode : (t : Bool) → (if t then finish_view v (executed_on_a m (advanced v.regs mode)) else act_operand room m v (advanced v.regs mode) read
          x) ≡ Some w → Left w (if t then executed_on_a m (with_s s.regs.s (advanced v.regs mode)) else and_then
          (operand_of mode (with_s s.regs.s v.regs) (reading s.mem)) (λ o. executed m (with_s s.regs.s (advanced v.regs mode)) (reading s.mem) o))
      by_mode true h = on_a_left m (advanced v.regs mode) w h
      by_mode false h = by_operand x refl h

  -- one Go at an opcode of the program
  pub goes_by : (b : ℕ) → f.code v.regs.pc ≡ Some b → (b == 0) ≡ false → (w : View)
      → Left w (instruction (find_row rows b) (with_s s.regs.s v.regs) (reading s.mem)) → (k : Clobber) → At f w (happens s (Go k)) × ((happens s (Go k)).sent ≡ s.sent)
  goes_by b here some w l k =
      let same : outcome s.regs (reading s.mem) ≡ Ok l.0 =
      ap (λ r. outcome r (reading s.mem)) at.regs
      ∙ ap (λ x. and_then x (λ b. if b == 0 then Err Brk else instruction (decoded b) (with_s s.regs.s v.regs) (reading s.mem))) (read_code f v s at v.regs.pc b here)
      ∙ ap (λ x. if x then Err Brk else instruction (decoded b) (with_s s.regs.s v.regs) (reading s.mem)) some
      ∙ ap (λ x. instruction x (with_s s.regs.s v.regs) (reading s.mem)) (decoded_by b) ∙ l.1 in
      let e : happens s (Go k) ≡ record s { regs = l.0.0; mem = written s.mem l.0.1 } = goes_by_instruction f v s at
      (code_at f v s at v.regs.pc b here).0 k ∙ ap (λ x. stepped s (finished s.mem x)) same in
      (subst (At f w) (sym e) l.2, ap (λ x. x.sent) e)

  -- ---- an instruction that is fetched from a part of the program
  module _ (part : Part) (holds : Holds part f.code) where
    row_left : (x : Option (Mnemonic × Mode)) (w : View) → act_row room v (read_view part v.mem) x ≡ Some w → Left w (instruction x (with_s s.regs.s v.regs) (reading s.mem))
    row_left None w h = absurd (none≢some w h)
    row_left (Some y) w h =
        mode_left (read_view part v.mem) y.0 y.1 (operand_of y.1 v.regs (read_view part v.mem))
        (λ o p. more_operand (read_view part v.mem) (reading s.mem) (read_more f v s at part holds) s.regs.s y.1 v.regs o p)
        (λ o p b q. read_more f v s at part holds o b q) w h

    -- an opcode of the part, and what it leads to
    record Fetched (w : View) : Type 0 where
      opcode : ℕ
      here : part v.regs.pc ≡ Some opcode
      some : (opcode == 0) ≡ false
      comes : Left w (instruction (find_row rows opcode) (with_s s.regs.s v.regs) (reading s.mem))

    fetched : (w : View) → act part room v ≡ Some w → Fetched w
    fetched w h = go (part v.regs.pc) refl h
      where
        at_opcode : (b : ℕ) → part v.regs.pc ≡ Some b → (t : Bool) → (b == 0) ≡ t → (if t then None else act_row room v (read_view part v.mem) (find_row rows b)) ≡ Some w → Fetched w
        at_opcode b p true z h = absurd (none≢some w h)
        at_opcode b p false z h = record { opcode = b; here = p; some = z; comes = row_left (find_row rows b) w h }

        go : (x : Option ℕ) → part v.regs.pc ≡ x → act_opcode room v (read_view part v.mem) x ≡ Some w → Fetched w
        go None p h = absurd (none≢some w h)
        go (Some b) p h = at_opcode b p (b == 0) refl h

    -- one Go event does what the view's instruction does, and sends nothing
    pub acts : (w : View) → act part room v ≡ Some w → (k : Clobber) → At f w (happens s (Go k)) × ((happens s (Go k)).sent ≡ s.sent)
    acts w h k = let x = fetched w h in goes_by x.opcode (holds v.regs.pc x.opcode x.here) x.some w x.comes k

-- if a part acts, its opcode is there
pub fetched_here : (part : Part) (room : ℕ) (v w : View) → act part room v ≡ Some w → (b : ℕ) × (part v.regs.pc ≡ Some b)
fetched_here part room v w h = go (part v.regs.pc) refl h
  where
    go : (x : Option ℕ) → part v.regs.pc ≡ x → act_opcode room v (read_view part v.mem) x ≡ Some w → (b : ℕ) × (part v.regs.pc ≡ Some b)
    go None p h = absurd (none≢some w h)
    go (Some b) p h = (b, p)
