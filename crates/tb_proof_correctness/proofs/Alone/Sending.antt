-- The laws of what PRINT sends.
use Rattle.std.proofs.Common.{◌≡◌, ℕ, ◌+◌, ◌-◌, ◌/◌, ◌%◌, ◌≤◌, ◌<◌, List, [], ◌∷◌, length, refl, ap, ◌∙◌, subst, arith, append-nil}
use Rattle.std.specs.Prelude.{◌<◌, Option, Some, None, replicate}
use Rattle.tb_words.specs.Words.{digits_of}
use Rattle.tb_kernal.specs.declared.rom.Service.TheVariants.{Chrout}
use Rattle.tb_basic_meaning.specs.Control.{State, column_after, zone}
use Rattle.tb_lower.specs.Slots.{Instr, SendText, SendNumber, SendZone, SendNewline, Slots, SlotCode}
use Rattle.tb_memmap.specs.Bytes.{with_byte}
use Rattle.tb_machine_reaching.proofs.Comes.{chained, looser}
use Rattle.tb_machine_reaching.proofs.Memory.{put_other}
use Rattle.tb_machine_reaching.proofs.Instr.{Stands, ins}
use Rattle.tb_machine_reaching.proofs.Placed.{along, placed_last, placing}
use Rattle.tb_machine_reaching.proofs.Services.{served_last}
use Rattle.tb_machine_reaching.specs.View.{Bytes, Comes, Fits, View, back_at, view}
use Rattle.tb_runtime16.specs.Laws.{Leaves, Sent}
use Rattle.tb_runtime16.specs.Routines.{Here, Moves, WithA, is_scratch}
use Rattle.tb_compiled_kept.specs.Addresses.{COLUMN, LEFT, LENGTH}
use Rattle.tb_runtime16.specs.Addresses.{NUMBER_AT, SEND_AT, TEXT_AT, ZONE_AT}
use Rattle.tb_proof_simulation.proofs.Frames.{word_put}
use Rattle.tb_proof_simulation.proofs.Pieces.{calls, jumps, moves_then, put_word, whatever}
use Rattle.tb_proof_simulation.proofs.Resolved as texts
use Rattle.tb_proof_simulation.proofs.Resolved.{Lies, byte_sent, highest_code, newline, pieces_size, size, text_call}
use Rattle.tb_compiler_templates.specs.Templates.{only_byte}
use Rattle.tb_compiler_program.proofs.Sent.{IsOnly, only, only_is, other}
use Rattle.tb_proof_simulation.proofs.Returning.{apart, back_here, behind_call, moved}
use Rattle.tb_compiler_selection.specs.Groups.{AsNumber, Group, Operand, Single, Use}
use Rattle.tb_compiler_selection.specs.Liveness.{live}
use Rattle.tb_compiler_selection.specs.Select.{select}
use Rattle.tb_compiler_templates.specs.Sources.{source_of}
use Rattle.tb_proof_correctness.proofs.CodeBytes.GroupCode.{GroupsLie, brought, high, low}
use Rattle.tb_proof_correctness.proofs.Relation.GroupInvariants.{Kept, kept, kept_put, kept_scratch, kept_told}
use Rattle.tb_proof_correctness.proofs.Relation.Matching.{HoldsLive, Matches}
use Rattle.tb_proof_correctness.proofs.Slots.OneWord.{spread_use, use_fits, used_read, word_asked}
use Rattle.tb_proof_correctness.proofs.Relation.Operands.{operand_apart, operand_held}
use Rattle.tb_proof_correctness.proofs.Relation.Ready.{Ready, here, stood}
use Rattle.tb_proof_correctness.proofs.Slots.SlotSide.{fetched, line, with_fetched}
use Rattle.tb_proof_correctness.proofs.Pieces.Sources.{value}
use Rattle.tb_proof_correctness.proofs.Pieces.Sums.{brings}
use Rattle.tb_proof_correctness.proofs.Relation.Surroundings.{Serves, Surroundings}

-- the address of the last byte of a carriage return's code
abbrev last : ℕ → ℕ
last at = (((((at + 2) % 65536 + 3) % 65536 + 2) % 65536 + 3) % 65536 + 65535) % 65536

module _ (around : Surroundings) (fits : Fits around.f 16) (limit : ℕ) (rs : Serves around limit) (code : SlotCode) (n : ℕ) (is : List Instr) (s : State) (r : Slots) (w : View) where
  open around use {ly, f, lo, hi}

  abbrev own : List ℕ
  own = lo ∷ hi ∷ []

  -- the state after bytes were sent
  abbrev sent : List ℕ → State
  sent t = record s { column = column_after s.column t }

  -- after the call of a routine that sends bytes
  told_lands : (g : Group) (js : List Instr) (h : Ready around n g js is s r w) (r' : Slots) → ((m : ℕ → ℕ) → HoldsLive (live js) r m
      → HoldsLive (live is) r' m) → (t : List ℕ) (at back : ℕ) (m : ℕ → ℕ) → GroupsLie ly f.code n at (select is) → Kept around (live js) s r m
      → back ≡ at → (v : View) → Leaves back own w.text w.answers (Sent is_scratch m t) v → Matches around (line code n is (sent t) r') v
  told_lands g js h r' read t at back m rest c e v q =
      let c' = kept_told around (live js) s r m t v.mem h.some_read q.memory c in
      stood around code n h.small is (sent t) r' at v.mem w.text w.answers rest c'.state (read v.mem c'.read) c'.homed h.text h.answers h.short v
      (back_here back at w.text w.answers _ v q e)

  -- COLUMN is 0, and the service sends a 13
  pub newline_law : Ready around n (Single SendNewline) (SendNewline ∷ is) is s r w → Comes f w (Matches around (line code n is (sent (13 ∷ [])) r)) (13 ∷ []) 5
  newline_law h =
      whatever f 16 fits w.regs.pc own w.mem w.text w.answers _ (13 ∷ []) 5 (λ a x y n' v i z c'.
      along f 16 fits newline w.regs.pc (view a x y n' v i z c' w.regs.pc own w.mem w.text w.answers) _ _ (13 ∷ []) 1 h.lies.1 (refl, refl, (refl, refl, (refl, refl, (refl, refl, tt)))) refl
      (served_last f 16 fits Chrout _ _ _ _ _ refl refl refl refl (λ j.
      told_lands _ _ h r (λ m k. k) (13 ∷ []) (w.regs.pc + 10) _ w.mem h.rest (kept h) (returns_to w.regs.pc h.lies.0) _
      (record {
        pc = refl;
        stack_is = refl;
        binary = refl;
        same_text = refl;
        same_answers = refl;
        memory = record { column = refl; others = λ a o other. put_other w.mem COLUMN 0 a other };
      })))) w (here h)
    where
      returns_to : (at : ℕ) → at + 10 ≤ highest_code → back_at (last at % 256) (last at / 256) ≡ at + 10
      returns_to at b = let e : last at ≡ at + 9 = omega arith in ap (λ p. back_at (p % 256) (p / 256)) e ∙ (let e' : back_at ((at + 9) % 256) ((at + 9) / 256) ≡ at + 10 = omega arith in e')

  -- ---- a byte
  -- A goes to Send
  calls_send : (b at : ℕ) (m : ℕ → ℕ) → at + 5 ≤ highest_code → Stands f.code at (byte_sent b)
      → Moves f (Here at own m w.text w.answers) (WithA SEND_AT b ((at + 4) % 256 ∷ (at + 4) / 256 ∷ own) m w.text w.answers) [] 2
  calls_send b at m room st = whatever f 16 fits at own m w.text w.answers _ [] 2 (λ a x y n v i z c.
      placing f 16 fits (ins 0xA9 b) (view a x y n v i z c at own m w.text w.answers) _ _ [] 1 refl st.0 refl
      (placed_last f 16 fits (ins 0x20 SEND_AT) (view b x y _ v i _ c ((at + 2) % 65536) own m w.text w.answers) _ _ refl st.1.0 refl
      (record { here = record { pc = refl; stack = returns_to; binary = refl; mem = refl; text = refl; answers = refl }; number = refl })))
    where
      returns_to : (((at + 2) % 65536 + 3) % 65536 + 65535) % 65536 % 256 ∷ (((at + 2) % 65536 + 3) % 65536 + 65535) % 65536 / 256 ∷ own ≡ (at + 4) % 256 ∷ (at + 4) / 256 ∷ own
      returns_to = let e : (((at + 2) % 65536 + 3) % 65536 + 65535) % 65536 ≡ at + 4 = omega (arith, room) in ap (λ p. p % 256 ∷ p / 256 ∷ own) e

  byte_law : (b : ℕ) (h : Ready around n (Single (SendText (b ∷ []))) (SendText (b ∷ []) ∷ is) is s r w) → b < 256 → Lies f.code w.regs.pc (texts.sent w.regs.pc (Some b) (b ∷ []))
      → GroupsLie ly f.code n (w.regs.pc + 5) (select is) → Comes f w (Matches around (line code n is (sent (b ∷ [])) r)) (b ∷ []) (2 + limit)
  byte_law b h byte lies rest =
      moves_then f _ _ _ [] (b ∷ []) 2 limit (calls_send b w.regs.pc w.mem (let l = lies.0 in omega (arith, l)) lies.1)
      (λ u e. looser f u _ _ (b ∷ []) limit limit (omega arith)
      (told_lands _ _ h r (λ m k. k) (b ∷ []) (w.regs.pc + 5) _ w.mem rest (kept h) back)
      (rs.send _ _ w.mem w.text w.answers b byte u e)) w (here h)
    where
      back : back_at ((w.regs.pc + 4) % 256) ((w.regs.pc + 4) / 256) ≡ w.regs.pc + 5
      back = let l = lies.0 in omega (arith, l)

  -- ---- any other text
  module _ (t : List ℕ) (h : Ready around n (Single (SendText t)) (SendText t ∷ is) is s r w) (lies : Lies f.code w.regs.pc (texts.sent w.regs.pc None t))
      (rest : GroupsLie ly f.code n (w.regs.pc + pieces_size (texts.sent w.regs.pc None t)) (select is)) where
    -- from the call of Text on
    text_sent : (low high : ℕ) → back_at low high ≡ w.regs.pc + 16
        → (m : ℕ → ℕ) → Kept around (live is) s r m → m 0xFB ≡ (w.regs.pc + 19) % 256 → m 0xFC ≡ (w.regs.pc + 19) / 256 → m LENGTH ≡ length t
        → Moves f (Here TEXT_AT (low ∷ high ∷ own) m w.text w.answers) (Matches around (line code n is (sent t) r)) t (limit + 1)
    text_sent low high e0 m c el eh en v e =
        let shown = subst (λ p. Bytes f.code p t) (let e : w.regs.pc + 16 + 3 ≡ w.regs.pc + 19 = omega arith in e) lies.2.2.1.0 in
        subst (λ l. Comes f v (Matches around (line code n is (sent t) r)) l (limit + 1)) (append-nil t)
        (chained f v _ _ t [] limit 1
        (rs.text low high m w.text w.answers (w.regs.pc + 19) t (record { low = el; high = eh; small = omega (arith, lies.2.2.0) }) en shown
        lies.2.2.1.1 (omega (arith, h.above)) (omega (arith, lies.2.2.0)) h.ranged.0 (omega (arith, c.state.column)) v e)
        (λ u g.
        let c' = kept_told around (live is) s r m t u.mem h.few_behind g.memory c in
        looser f u _ _ [] 1 1 (omega arith)
        (λ v e. stood around code n h.small is (sent t) r (w.regs.pc + (16 + (3 + (length t + 0)))) u.mem w.text w.answers rest c'.state c'.read
        c'.homed h.text h.answers h.short v (moved _ _ own _ w.text w.answers v e (omega arith)))
        (jumps f 16 fits (w.regs.pc + 16) own u.mem w.text w.answers refl (w.regs.pc + 19 + length t) lies.2.1 u (back_here _ (w.regs.pc + 16) w.text w.answers _ u g e0))))

    long_sent : Comes f w (Matches around (line code n is (sent t) r)) t (8 + limit)
    long_sent =
        let m = with_byte w.mem 0xFB ((w.regs.pc + 19) % 256) in
        let m' = with_byte m 0xFC ((w.regs.pc + 19) / 256) in
        let c = kept_scratch around (live is) s r w.mem (with_byte m' LENGTH (length t)) h.few_behind (λ a o. put_other m' LENGTH (length t) a
        (apart a LENGTH o refl) ∙ put_other m 0xFC ((w.regs.pc + 19) / 256) a (apart a 0xFC o refl)
        ∙ put_other w.mem 0xFB ((w.regs.pc + 19) % 256) a (apart a 0xFB o refl)) (kept h) in
        whatever f 16 fits w.regs.pc own w.mem w.text w.answers _ t (8 + limit) (λ a x y n' v i z c'.
        looser f _ _ _ t (7 + (limit + 1)) (8 + limit) (omega arith) (λ u g. g)
        (along f 16 fits (text_call TEXT_AT (w.regs.pc + 19) (length t)) w.regs.pc (view a x y n' v i z c' w.regs.pc own w.mem w.text w.answers) _ _ t
        (limit + 1) lies.1 (refl, refl, (refl, refl, (refl, refl, (refl, refl, (refl, refl, (refl, refl, (refl, refl, tt))))))) refl
        (text_sent _ _ (returns_to w.regs.pc lies.0) (with_byte m' LENGTH (length t)) c refl refl refl _
        (record { pc = refl; stack = refl; binary = refl; mem = refl; text = refl; answers = refl })))) w (here h)
      where
        returns_to : (at : ℕ) → at + 16 ≤ highest_code
            → back_at ((((((((((at + 2) % 65536 + 2) % 65536 + 2) % 65536 + 2) % 65536 + 2) % 65536) + 3) % 65536 + 3) % 65536 + 65535) % 65536 % 256)
            ((((((((((at + 2) % 65536 + 2) % 65536 + 2) % 65536 + 2) % 65536 + 2) % 65536) + 3) % 65536 + 3) % 65536 + 65535) % 65536 / 256) ≡ at + 16
        returns_to at b = let e : (((((((((at + 2) % 65536 + 2) % 65536 + 2) % 65536 + 2) % 65536 + 2) % 65536) + 3) % 65536 + 3) % 65536 + 65535) %
            65536 ≡ at + 15 = omega arith in ap (λ p. back_at (p % 256) (p / 256)) e ∙ (let e' : back_at ((at + 15) % 256) ((at + 15) / 256) ≡ at + 16 = omega arith in e')

  -- the law of a text
  pub text_law : (t : List ℕ) → Ready around n (Single (SendText t)) (SendText t ∷ is) is s r w → Comes f w (Matches around (line code n is (sent t) r)) t (8 + limit)
  text_law t h = by t (only_byte t) (only_is t) h h.lies h.rest
    where
      by : (t : List ℕ) (o : Option ℕ) → IsOnly t o → Ready around n (Single (SendText t)) (SendText t ∷ is) is s r w → Lies f.code w.regs.pc (texts.sent w.regs.pc o t)
          → GroupsLie ly f.code n (w.regs.pc + pieces_size (texts.sent w.regs.pc o t)) (select is) → Comes f w (Matches around (line code n is (sent t) r)) t (8 + limit)
      by _ _ (only b byte) h lies rest = looser f w _ _ (b ∷ []) (2 + limit) (8 + limit) (omega arith) (λ u g. g) (byte_law b h byte lies rest)
      by t _ (other _) h lies rest = long_sent t h lies rest

  -- the law of a zone
  pub zone_law : Ready around n (Single SendZone) (SendZone ∷ is) is s r w → Comes f w (Matches around (line code n is (sent (zone s.column)) r)) (zone s.column) (1 + limit)
  zone_law h =
      let same : zone (w.mem COLUMN) ≡ zone s.column = ap zone' h.state.column ∙ zone_mod s.column in
      subst (λ t. Comes f w (Matches around (line code n is (sent t) r)) t (1 + limit)) same
      (chained f w _ _ [] (zone (w.mem COLUMN)) 1 limit (calls f 16 fits w.regs.pc own w.mem w.text w.answers refl ZONE_AT refl h.lies.0 h.lies.1 w (here h)) (λ u e.
      looser f u _ _ (zone (w.mem COLUMN)) limit limit (omega arith)
      (told_lands _ _ h r (λ m k. k) (zone (w.mem COLUMN)) (w.regs.pc + 3) _ w.mem h.rest (kept h) (behind_call w.regs.pc h.lies.0))
      (rs.zone _ _ w.mem w.text w.answers (omega (arith, h.state.column)) u e)))
    where
      zone' : ℕ → List ℕ
      zone' c = zone c

      zone_mod : (c : ℕ) → zone (c % 256) ≡ zone c
      zone_mod c = ap (λ k. replicate (8 - k) 32) (let e : c % 256 % 8 ≡ c % 8 = omega arith in e)

  -- the law of a number
  pub number_law : (a : Operand) → Ready around n (Use AsNumber a) (spread_use AsNumber a is) is s r w
      → Comes f w (Matches around (line code n is (sent (digits_of (fetched s r 0 a))) (with_fetched s r 0 a))) (digits_of (fetched s r 0 a)) (5 + limit)
  number_law a h =
      let lies = h.lies in
      let fit = use_fits AsNumber a h.ranged in
      let t = digits_of (fetched s r 0 a) in
      let src = source_of 0 a in
      let u = live (spread_use AsNumber a is) in
      let v = operand_held ly s u r w.mem 0 a h.state h.read fit (word_asked 0 a SendNumber is refl) in
      let m = put_word w.mem LEFT (value w.mem (low src)) (value w.mem (high src)) in
      let c = kept_put around u s r w.mem LEFT _ _ h.some_read refl refl (kept h) in
      let p = w.regs.pc + size (brought src LEFT) in
      looser f w _ _ t (4 + (1 + limit)) (5 + limit) (omega arith) (λ u x. x)
      (chained f w _ _ [] t 4 (1 + limit) (brings f 16 fits w.regs.pc own w.mem w.text w.answers refl src LEFT lies.0
      (operand_apart 0 a LEFT (omega arith) (omega arith) fit) (refl, refl) lies.1 w (here h)) (λ u e.
      chained f u _ _ [] t 1 limit (calls f 16 fits p own m w.text w.answers refl NUMBER_AT refl lies.2.0 lies.2.1 u e) (λ u e.
      looser f u _ _ t limit limit (omega arith)
      (told_lands _ _ h (with_fetched s r 0 a) (λ m k. used_read AsNumber a is s r m h.free k) t (w.regs.pc + (size (brought src LEFT) + 3)) _ m
      h.rest c (behind_call p lies.2.0 ∙ (let q : p + 3 ≡ w.regs.pc + (size (brought src LEFT) + 3) = omega arith in q)))
      (rs.number _ _ m w.text w.answers (fetched s r 0 a) (word_put w.mem LEFT _ _ _ v.low_byte v.high_byte v.small) (omega (arith, c.state.column)) u e))))
