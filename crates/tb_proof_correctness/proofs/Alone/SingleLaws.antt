-- The law of each instruction that is a group of its own.
use Rattle.std.proofs.Common.{◌≡◌, ℕ, ◌+◌, Bool, true, false, if◌then◌else◌, List, [], ◌∷◌, length, refl, sym, ap, ◌∙◌, subst, arith}
use Rattle.std.specs.Prelude.{nat_eq, nat_lt, drop}
use Rattle.tb_kernal.specs.Machine.{first_or_zero}
use Rattle.tb_basic_meaning.specs.Control.{At, Place, State, answered, column_after, deepest, fault, fault_text, has_line, next_after, return_to, zone}
use Rattle.tb_basic_meaning.specs.Input.{Bad, Dry, Got, Nothing, Turn, take_turn, turn}
use Rattle.tb_lower.specs.Slots.{Instr, Put, Load, Store, Negate, Compute, Random, SendText, SendNumber, SendZone, SendNewline, Input, Poll, Hold, LeaveUnless}
use Rattle.tb_lower.specs.Slots.{Jump, Call, JumpTo, CallTo, Return, End, Slots, SlotCode, SlotState, act, leaving, settled, staying}
use Rattle.tb_basic_meaning.specs.Steps.{Goes, Step, after_sending}
use Rattle.tb_machine_reaching.proofs.Comes.{looser}
use Rattle.tb_machine_reaching.specs.View.{Comes, Fits, View}
use Rattle.tb_opcodes.specs.Bytes.{AreBytes}
use Rattle.tb_proof_simulation.proofs.Joins.{sent_in}
use Rattle.tb_compiler_selection.specs.Groups.{Single}
use Rattle.tb_compiler_selection.specs.Select.{alone}
use Rattle.tb_proof_correctness.proofs.Alone.Asking.{input_fails, input_law, input_waits, poll_breaks, poll_law}
use Rattle.tb_proof_correctness.proofs.Alone.Calling.{call_to_fails, call_to_found, call_to_full, return_fails, return_law}
use Rattle.tb_proof_correctness.proofs.Alone.Leaving.{end_law, to_fails, to_found}
use Rattle.tb_proof_correctness.proofs.Relation.Matching.{Target}
use Rattle.tb_proof_correctness.proofs.CodeBytes.GroupCode.{GroupsLaid}
use Rattle.tb_proof_correctness.proofs.Alone.Quiet.{load_law, put_law}
use Rattle.tb_proof_correctness.proofs.Relation.Ready.{Ready}
use Rattle.tb_proof_correctness.proofs.Alone.Sending.{newline_law, text_law, zone_law}
use Rattle.tb_proof_correctness.proofs.Relation.Surroundings.{Serves, Surroundings}

module _ (around : Surroundings) (fits : Fits around.f 16) (limit : ℕ) (rs : Serves around limit) (code : SlotCode) (laid : GroupsLaid around.ly around.f.code around.f.whole code) where
  open around use {ly, f}

  abbrev most : ℕ
  most = 34 + (limit + limit)

  -- from its beginning to what a step gives
  abbrev pub Leads : View → Step SlotState → Type 0
  Leads w x = Comes f w (Target around x) (sent_in x) most

  module _ (n : ℕ) (is : List Instr) (s : State) (r : Slots) (w : View) where
    abbrev Begins : Instr → Type 0
    Begins i = Ready around n (Single i) (i ∷ is) is s r w

    by_number : (k : ℕ) → Begins (JumpTo k) → (t : Bool) → has_line ly.numbers k ≡ t → Leads w (settled n is r (leaving (if t then Goes (record s { place = At k }) [] else fault 1 n)))
    by_number k h true e = looser f w _ _ [] 1 most (omega arith) (λ u x. x) (to_found around fits limit rs code laid n is s r w k h e)
    by_number k h false e = looser f w _ _ (fault_text 1 n) (4 + limit) most (omega arith) (λ u x. x) (to_fails around fits limit rs code laid n is s r w k h e)

    by_number_room : (k : ℕ) → Begins (CallTo k) → (t u : Bool) → has_line ly.numbers k ≡ t → nat_lt (length s.returns) deepest ≡ u
        → Leads w (settled n is r (leaving (if t then (if u then Goes (record s { place = At k; returns = next_after ly.numbers n ∷ s.returns }) []
        else fault 4 n) else fault 1 n)))
    by_number_room k h false u e e' = looser f w _ _ (fault_text 1 n) (4 + limit) most (omega arith) (λ u x. x) (call_to_fails around fits limit rs code laid n is s r w k h e)
    by_number_room k h true false e e' = looser f w _ _ (fault_text 4 n) (12 + limit) most (omega arith) (λ u x. x) (call_to_full around fits limit rs code laid n is s r w k h e e')
    by_number_room k h true true e e' = looser f w _ _ [] (13 + limit) most (omega arith) (λ u x. x) (call_to_found around fits limit rs code laid n is s r w k h e e')

    by_returns : Begins Return → (l : List Place) → s.returns ≡ l → Leads w (settled n is r (leaving (return_to n l s)))
    by_returns h [] e = looser f w _ _ (fault_text 5 n) (11 + limit) most (omega arith) (λ u x. x) (return_fails around fits limit rs code laid n is s r w h e)
    by_returns h (p ∷ ps) e = looser f w _ _ [] (13 + limit) most (omega arith) (λ u x. x) (return_law around fits limit rs code laid n is s r w h p ps e)

    by_turn : (x : ℕ) → Begins (Input x) → (o : Bool) → s.open_line ≡ o → (t : Turn) → turn Nothing s.text ≡ t
        → Leads w (settled n is r (staying r (if o then take_turn n x t s else after_sending (63 ∷ 32 ∷ [])
        (take_turn n x t (record s { column = column_after s.column (63 ∷ 32 ∷ []) })))))
    by_turn x h true e (Got v true left) e' = looser f w _ _ [] (9 + limit) most (omega arith) (λ u x. x) (input_law around fits limit rs code n is s r w x h true e true v left e')
    by_turn x h true e (Got v false left) e' = looser f w _ _ (13 ∷ []) (9 + limit) most (omega arith) (λ u x. x) (input_law around fits limit rs code n is s r w x h true e false v left e')
    by_turn x h true e Bad e' = looser f w _ _ (fault_text 6 n) (9 + limit) most (omega arith) (λ u x. x) (input_fails around fits limit rs code n is s r w x h true e e')
    by_turn x h true e Dry e' = looser f w _ _ [] (9 + limit) most (omega arith) (λ u x. x) (input_waits around fits limit rs code n is s r w x h true e e')
    by_turn x h false e (Got v true left) e' = looser f w _ _ (63 ∷ 32 ∷ []) (9 + limit) most (omega arith) (λ u x. x) (input_law around fits limit rs code n is s r w x h false e true v left e')
    by_turn x h false e (Got v false left) e' = looser f w _ _ (63 ∷ 32 ∷ 13 ∷ []) (9 + limit) most (omega arith) (λ u x. x)
        (input_law around fits limit rs code n is s r w x h false e false v left e')
    by_turn x h false e Bad e' = looser f w _ _ (63 ∷ 32 ∷ fault_text 6 n) (9 + limit) most (omega arith) (λ u x. x) (input_fails around fits limit rs code n is s r w x h false e e')
    by_turn x h false e Dry e' = looser f w _ _ (63 ∷ 32 ∷ []) (9 + limit) most (omega arith) (λ u x. x) (input_waits around fits limit rs code n is s r w x h false e e')

    by_break : Begins Poll → (a : ℕ) (l : List ℕ) → s.answers ≡ a ∷ l → (t : Bool) → nat_eq a 3 ≡ t
        → Leads w (settled n is r (staying r (if t then fault 0 n else Goes (record s { answers = l }) [])))
    by_break h a l e true q = looser f w _ _ (fault_text 0 n) (5 + limit) most (omega arith) (λ u x. x)
        (poll_breaks around fits limit rs code n is s r w h (ap (λ l. nat_eq (first_or_zero l) 3) e ∙ q))
    by_break h a l e false q = looser f w _ _ [] (5 + limit) most (omega arith) (λ u x. x) (poll_law around fits limit rs code n is s r w h l
        (ap (drop 1) e) (subst AreBytes e h.short.answer_bytes).1 (ap (λ l. nat_eq (first_or_zero l) 3) e ∙ q))

    by_answers : Begins Poll → (l : List ℕ) → s.answers ≡ l → Leads w (settled n is r (staying r (answered n l s)))
    by_answers h [] e = looser f w _ _ [] (5 + limit) most (omega arith) (λ u x. x) (poll_law around fits limit rs code n is s r w h s.answers
        (ap (drop 1) e ∙ sym e) h.short.answer_bytes (ap (λ l. nat_eq (first_or_zero l) 3) e))
    by_answers h (a ∷ l) e = by_break h a l e (nat_eq a 3) refl

    -- the law of each instruction that is a group of its own
    pub act_law : (i : Instr) → alone i ≡ Single i → Begins i → Leads w (settled n is r (act ly.numbers n i s r))
    act_law (Put k v) a h = looser f w _ _ [] 4 most (omega arith) (λ u x. x) (put_law around fits code n is s r w k v h)
    act_law (Load k x) a h = looser f w _ _ [] 4 most (omega arith) (λ u x. x) (load_law around fits code n is s r w k x h)
    act_law (Store x) a h = absurd (let no : ⊥ = cc in no)
    act_law (Negate k) a h = absurd (let no : ⊥ = cc in no)
    act_law (Compute op k) a h = absurd (let no : ⊥ = cc in no)
    act_law (Random k) a h = absurd (let no : ⊥ = cc in no)
    act_law (SendText t) a h = looser f w _ _ t (8 + limit) most (omega arith) (λ u x. x) (text_law around fits limit rs code n is s r w t h)
    act_law SendNumber a h = absurd (let no : ⊥ = cc in no)
    act_law SendZone a h = looser f w _ _ (zone s.column) (1 + limit) most (omega arith) (λ u x. x) (zone_law around fits limit rs code n is s r w h)
    act_law SendNewline a h = looser f w _ _ (13 ∷ []) 5 most (omega arith) (λ u x. x) (newline_law around fits limit rs code n is s r w h)
    act_law (Input x) a h = by_turn x h s.open_line refl (turn Nothing s.text) refl
    act_law Poll a h = by_answers h s.answers refl
    act_law Hold a h = absurd (let no : ⊥ = cc in no)
    act_law (LeaveUnless rel) a h = absurd (let no : ⊥ = cc in no)
    act_law Jump a h = absurd (let no : ⊥ = cc in no)
    act_law Call a h = absurd (let no : ⊥ = cc in no)
    act_law (JumpTo k) a h = by_number k h (has_line ly.numbers k) refl
    act_law (CallTo k) a h = by_number_room k h (has_line ly.numbers k) (nat_lt (length s.returns) deepest) refl refl
    act_law Return a h = by_returns h s.returns refl
    act_law End a h = looser f w _ _ [] 1 most (omega arith) (λ u x. x) (end_law around fits n is s r w h)
