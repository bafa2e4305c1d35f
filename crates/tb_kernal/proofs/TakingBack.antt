-- Undoing takes an event back.
use Rattle.std.proofs.Common.{◌≡◌, ℕ, ◌+◌, ◌-◌, ◌<◌, ◌≤◌, ◌%◌, Bool, true, false, ◌&&◌, ◌||◌, not, [], ◌∷◌, length}
use Rattle.std.proofs.Common.{take, arith, refl, ap, ◌∙◌, ◌⊎◌, inl, inr, nat_eq, length-append}
use Rattle.std.proofs.lemmas.Bool.{and_from, and_parts, or_left, or_right, or_cases, eq-eqb}
use Rattle.std.specs.Prelude.{◌==◌, if◌then◌else◌, Option, Some, None, Result, Ok, Err, nat_le}
use Rattle.std.proofs.lemmas.Bool.Decides.{nat_tests}
use Rattle.std.proofs.Math.Seq.{take-append_seam, take-length}
use Rattle.tb_memmap.specs.Regions.{is_open}
use Rattle.tb_memmap.specs.Bytes.{Writes, written, at}
use Rattle.tb_cpu.specs.declared.wrong.Wrong.{Wrong}
use Rattle.tb_cpu.specs.Operands.{reading}
use Rattle.tb_cpu.specs.Instructions as cpu
use Rattle.tb_cpu.specs.Instructions.{Outcome, outcome, finished, next, operand_address}
use Rattle.tb_cpu.proofs.Touching.{IsTouched, AllTouched, Touches, outcome_touches}
use Rattle.tb_kernal.specs.declared.rom.Service.{Service}
use Rattle.tb_kernal.specs.declared.rom.Service.TheVariants.{Chrout, Chrin, Getin}
use Rattle.tb_kernal.specs.declared.events.Clobber.{Clobber}
use Rattle.tb_kernal.specs.declared.events.Event.{Event}
use Rattle.tb_kernal.specs.declared.events.Event.TheVariants.{Go, Interrupt}
use Rattle.tb_kernal.specs.declared.status.Status.{Status}
use Rattle.tb_kernal.specs.declared.status.Status.TheVariants.{Running, Waits, Returned, Wrong as WentWrong}
use Rattle.tb_kernal.specs.declared.status.EventError.TheVariants.{Unlawful, Sent}
use Rattle.tb_kernal.specs.Former.{Former}
use Rattle.tb_kernal.specs.Rom.{all_writable, all_open, old_of, written_open, service_at}
use Rattle.tb_kernal.specs.Machine.{State, Content, state_of, status, is_stopped, happens, gone, gone_at, stepped, is_lawful, is_lawful_go, sends, SameKeyboard, Happened}
use Rattle.tb_kernal.specs.Undoing.{IsFormer, Undone, TakesBack, SameButRoom, addresses_of, addresses_of_go, back_to}
use Rattle.tb_kernal.proofs.WriteLists.{rom_writable_open}
use Rattle.tb_kernal.proofs.Restoring.{is_among, all_among, AreOf, restored_open}

-- ---- the bytes noted

noted_are : (b : Bool) (m : ℕ → ℕ) (a : ℕ) (us : Writes) → AreOf m us → AreOf m (if b then (a, m a) ∷ us else us)
noted_are true m a us h = (refl, h)
noted_are false m a us h = h

are_old : (m : ℕ → ℕ) (ps : Writes) → AreOf m (old_of m ps)
are_old m [] = tt
are_old m (p ∷ ps) = noted_are (is_open p.0) m p.0 (old_of m ps) (are_old m ps)

noted_open : (b : Bool) (m : ℕ → ℕ) (a : ℕ) (us : Writes) → is_open a ≡ b → all_open us ≡ true → all_open (if b then (a, m a) ∷ us else us) ≡ true
noted_open true m a us e h = rw (e, h) refl
noted_open false m a us e h = h

old_open : (m : ℕ → ℕ) (ps : Writes) → all_open (old_of m ps) ≡ true
old_open m [] = refl
old_open m (p ∷ ps) = noted_open (is_open p.0) m p.0 (old_of m ps) refl (old_open m ps)

noted_among : (b : Bool) (m : ℕ → ℕ) (a p : ℕ) (us : Writes) → is_open p ≡ b → is_open a ≡ true → (nat_eq a p ≡ true) ⊎ (is_among a us ≡ true) →
    is_among a (if b then (p, m p) ∷ us else us) ≡ true
noted_among true m a p us e h (inl o) = rw o refl
noted_among true m a p us e h (inr o) = or_right (nat_eq a p) _ o
noted_among false m a p us e h (inl o) = let same : a ≡ p = grind (arith, nat_tests) in let bad : is_open a ≡ false = ap is_open same ∙ e in absurd (cc)
noted_among false m a p us e h (inr o) = o

old_among : (m : ℕ → ℕ) (a : ℕ) (ps : Writes) → is_open a ≡ true → is_among a ps ≡ true → is_among a (old_of m ps) ≡ true
old_among m a [] h o = absurd (cc)
old_among m a (p ∷ ps) h o =
    let found : (nat_eq a p.0 ≡ true) ⊎ (is_among a (old_of m ps) ≡ true) =
    elim (or_cases (nat_eq a p.0) (is_among a ps) o) [ inl e ↦ inl e | inr e ↦ inr (old_among m a ps h e) ] in
    noted_among (is_open p.0) m a p.0 (old_of m ps) refl h found

all_old_among : (m : ℕ → ℕ) (ws ps : Writes) → all_open ws ≡ true → all_among ws ps ≡ true → all_among ws (old_of m ps) ≡ true
all_old_among m [] ps o a = refl
all_old_among m (w ∷ ws) ps o a =
    let p = and_parts (is_open w.0) (all_open ws) o in
    let q = and_parts (is_among w.0 ps) (all_among ws ps) a in
    and_from _ _ (old_among m w.0 ps p.0 q.0) (all_old_among m ws ps p.1 q.1)

among_more : (p : ℕ × ℕ) (ws us : Writes) → all_among ws us ≡ true → all_among ws (p ∷ us) ≡ true
among_more p [] us h = refl
among_more p (w ∷ ws) us h =
    let q = and_parts (is_among w.0 us) (all_among ws us) h in
    and_from _ _ (or_right (nat_eq w.0 p.0) _ q.0) (among_more p ws us q.1)

among_itself : (ws : Writes) → all_among ws ws ≡ true
among_itself [] = refl
among_itself (w ∷ ws) = and_from _ _ (or_left (nat_eq w.0 w.0) (is_among w.0 ws) (eq-eqb w.0 w.0 refl)) (among_more w ws ws (among_itself ws))

-- writes to open addresses among those noted are taken back
writes_back : (m : ℕ → ℕ) (ps ws : Writes) → all_open ws ≡ true → all_among ws ps ≡ true → written_open (written m ws) (old_of m ps) ≡ m
writes_back m ps ws o a = restored_open (old_of m ps) ws m (are_old m ps) (old_open m ps) (all_old_among m ws ps o a)

-- putting the noted bytes back where nothing was written changes nothing
nothing_back : (m : ℕ → ℕ) (ps : Writes) → written_open m (old_of m ps) ≡ m
nothing_back m ps = writes_back m ps [] refl refl

writable_open : (s : ℕ) (ws : Writes) → s < 256 → all_writable s ws ≡ true → all_open ws ≡ true
writable_open s [] l h = refl
writable_open s (w ∷ ws) l h =
    let p = and_parts _ _ h in
    and_from _ _ (rom_writable_open s w.0 l p.0) (writable_open s ws l p.1)

-- the ROM's own writes are taken back
own_back : (s : ℕ) (m : ℕ → ℕ) (ws : Writes) → s < 256 → all_writable s ws ≡ true → written_open (written m ws) (old_of m ws) ≡ m
own_back s m ws l h = writes_back m ws ws (writable_open s ws l h) (among_itself ws)

-- ---- the writes of an instruction

abbrev three : ℕ → ℕ → Writes
three s o = (o, 0) ∷ (256 + s, 0) ∷ (256 + (s + 255) % 256, 0) ∷ []

touched_among : (s o a : ℕ) → IsTouched s o a → is_among a (three s o) ≡ true
touched_among s o a (inl e) = grind (arith, nat_tests)
touched_among s o a (inr (inl e)) = grind (arith, nat_tests)
touched_among s o a (inr (inr e)) = grind (arith, nat_tests)

all_touched_among : (s o : ℕ) (ws : Writes) → AllTouched s o ws → all_among ws (three s o) ≡ true
all_touched_among s o [] h = refl
all_touched_among s o (w ∷ ws) h = and_from _ _ (touched_among s o w.0 h.0) (all_touched_among s o ws h.2)

all_touched_open : (s o : ℕ) (ws : Writes) → AllTouched s o ws → all_open ws ≡ true
all_touched_open s o [] h = refl
all_touched_open s o (w ∷ ws) h = and_from _ _ h.1 (all_touched_open s o ws h.2)

stepped_back : (s : State) (o : ℕ) (x : Result Outcome Wrong) → Touches s.regs.s o x → written_open (stepped s (finished s.mem x)).mem (old_of s.mem (three s.regs.s o)) ≡ s.mem
stepped_back s o (Ok (r, ws)) h = writes_back s.mem (three s.regs.s o) ws (all_touched_open s.regs.s o ws h) (all_touched_among s.regs.s o ws h)
stepped_back s o (Err w) h = nothing_back s.mem (three s.regs.s o)

-- ---- the writes of an event

gone_at_back : (o : Option Service) (k : Clobber) (m : Content) → m.regs.s < 256 → is_lawful_go o m.regs.s k.writes.items ≡ true →
    written_open (gone_at o k (state_of m)).mem (old_of (at m.memory) (addresses_of_go o k m)) ≡ at m.memory
gone_at_back None k m l h =
    let read = reading (at m.memory) in
    stepped_back (state_of m) (operand_address m.regs read) (outcome m.regs read) (outcome_touches m.regs read l)
gone_at_back (Some Chrout) k m l h = own_back m.regs.s (at m.memory) k.writes.items l h
gone_at_back (Some Chrin) k m l h = own_back m.regs.s (at m.memory) k.writes.items l h
gone_at_back (Some Getin) k m l h = own_back m.regs.s (at m.memory) k.writes.items l h

gone_back : (t : Status) (k : Clobber) (m : Content) → m.regs.s < 256 → (is_stopped t || is_lawful_go (service_at m.regs.pc) m.regs.s k.writes.items) ≡ true →
    written_open (gone t k (state_of m)).mem (old_of (at m.memory) (addresses_of_go (service_at m.regs.pc) k m)) ≡ at m.memory
gone_back Running k m l h = gone_at_back (service_at m.regs.pc) k m l h
gone_back Waits k m l h = nothing_back (at m.memory) (addresses_of_go (service_at m.regs.pc) k m)
gone_back Returned k m l h = nothing_back (at m.memory) (addresses_of_go (service_at m.regs.pc) k m)
gone_back (WentWrong w) k m l h = nothing_back (at m.memory) (addresses_of_go (service_at m.regs.pc) k m)

interrupted_back : (b : Bool) (ws : Writes) (m : Content) → m.regs.s < 256 → (b || all_writable m.regs.s ws) ≡ true →
    written_open (if b then state_of m else record (state_of m) { mem = written (at m.memory) ws }).mem (old_of (at m.memory) ws) ≡ at m.memory
interrupted_back true ws m l h = nothing_back (at m.memory) ws
interrupted_back false ws m l h = own_back m.regs.s (at m.memory) ws l h

memory_back : (m : Content) (e : Event) → m.regs.s < 256 → is_lawful (state_of m) e ≡ true →
    written_open (happens (state_of m) e).mem (old_of (at m.memory) (addresses_of e m)) ≡ at m.memory
memory_back m (Go k) l h = gone_back (status (state_of m)) k m l h
memory_back m (Interrupt ws) l h = interrupted_back (is_stopped (status (state_of m))) ws.items m l h

-- ---- what else an event leaves

-- the return address is kept, and what was sent stays sent
record Onward (s t : State) : Type 0 where
  home : t.home ≡ s.home
  home_s : t.home_s ≡ s.home_s
  sent : take (length s.sent) t.sent ≡ s.sent
  more : length s.sent ≤ length t.sent

onward_same : (s t : State) → t.home ≡ s.home → t.home_s ≡ s.home_s → t.sent ≡ s.sent → Onward s t
onward_same s t p q e =
    record { home = p; home_s = q; sent = rw e (take-length s.sent); more = rw e (omega arith) }

onward_stepped : (s : State) (x : Result cpu.State Wrong) → Onward s (stepped s x)
onward_stepped s (Ok t) = onward_same s (stepped s (Ok t)) refl refl refl
onward_stepped s (Err w) = onward_same s (stepped s (Err w)) refl refl refl

onward_gone_at : (o : Option Service) (k : Clobber) (s : State) → Onward s (gone_at o k s)
onward_gone_at None k s = onward_stepped s (next s.regs s.mem)
onward_gone_at (Some Chrout) k s =
    record { home = refl; home_s = refl; sent = take-append_seam s.sent (s.regs.a ∷ []); more = omega (arith, length-append s.sent (s.regs.a ∷ [])) }
onward_gone_at (Some Chrin) k s = onward_same s (gone_at (Some Chrin) k s) refl refl refl
onward_gone_at (Some Getin) k s = onward_same s (gone_at (Some Getin) k s) refl refl refl

onward_gone : (t : Status) (k : Clobber) (s : State) → Onward s (gone t k s)
onward_gone Running k s = onward_gone_at (service_at s.regs.pc) k s
onward_gone Waits k s = onward_same s s refl refl refl
onward_gone Returned k s = onward_same s s refl refl refl
onward_gone (WentWrong w) k s = onward_same s s refl refl refl

onward_interrupted : (b : Bool) (ws : Writes) (s : State) → Onward s (if b then s else record s { mem = written s.mem ws })
onward_interrupted true ws s = onward_same s s refl refl refl
onward_interrupted false ws s = onward_same s (record s { mem = written s.mem ws }) refl refl refl

onward : (s : State) (e : Event) → Onward s (happens s e)
onward s (Go k) = onward_gone (status s) k s
onward s (Interrupt ws) = onward_interrupted (is_stopped (status s)) ws.items s

-- ---- undoing as a whole

back_is : (noted now n : ℕ) → noted ≤ n → back_to noted now n ≡ noted
back_is noted now n h = let t : nat_le noted n ≡ true = grind (arith, nat_tests) in rw t refl

-- undoing what came to t, an onward state whose writes the noted bytes take back
taken_back_from : (u : Former) (m n q : Content) (e : Event) (t : State) → IsFormer u m e → Undone u n q → state_of n ≡ t → SameKeyboard m n → Onward (state_of m) t →
    written_open t.mem (old_of (at m.memory) (addresses_of e m)) ≡ at m.memory →
    SameButRoom m q × (q.room ≡ n.room + (length n.sent - length m.sent))
taken_back_from u m n q e t noted done s keys on back =
    let text_in : m.text_taken ≤ length n.all_text = rw keys.0 noted.text_in in
    let answers_in : m.answers_taken ≤ length n.all_answers = rw keys.1 noted.answers_in in
    let text : q.text_taken ≡ m.text_taken = done.text ∙ rw noted.text (back_is _ _ _ text_in) in
    let answers : q.answers_taken ≡ m.answers_taken = done.answers ∙ rw noted.answers (back_is _ _ _ answers_in) in
    let all_text : q.all_text ≡ m.all_text = done.keyboard.0 ∙ keys.0 in
    let all_answers : q.all_answers ≡ m.all_answers = done.keyboard.1 ∙ keys.1 in
    let mem : at n.memory ≡ t.mem = ap (λ (x : State). x.mem) s in
    let were : n.sent ≡ t.sent = ap (λ (x : State). x.sent) s in
    let homes : n.home ≡ t.home = ap (λ (x : State). x.home) s in
    let homes_s : n.home_s ≡ t.home_s = ap (λ (x : State). x.home_s) s in
    let memory : at q.memory ≡ at m.memory = done.memory ∙ rw (mem, noted.bytes) back in
    let sent : q.sent ≡ m.sent = done.sent ∙ rw (were, noted.sent) on.sent in
    let regs : q.regs ≡ m.regs = done.regs ∙ noted.regs in
    let wrong : q.wrong ≡ m.wrong = done.wrong ∙ noted.wrong in
    let home : q.home ≡ m.home = done.home ∙ homes ∙ on.home in
    let home_s : q.home_s ≡ m.home_s = done.home_s ∙ homes_s ∙ on.home_s in
    let more : length m.sent ≤ length n.sent = rw were on.more in
    let fewer : length q.sent ≡ length m.sent = ap length sent in
    (((cc), (all_text, all_answers)), omega (arith, done.room))

lawful_if : (b c : Bool) → (if not b then Some Unlawful else if c then Some Sent else None) ≡ None → b ≡ true
lawful_if true c h = refl
lawful_if false c h = absurd (cc)

-- `undo` with the undo of an event takes the event back
pub takes_back : (u : Former) (n q : Content) → Undone u n q → TakesBack u n q
takes_back u n q done m e (Ok t) after noted h same =
    let lawful = lawful_if (is_lawful (state_of m) e) (sends (state_of m) && m.room == 0) h.0 in
    let keys : SameKeyboard m n = (same.1.0 ∙ h.4.0, same.1.1 ∙ h.4.1) in
    taken_back_from u m n q e (happens (state_of m) e) noted done (same.0 ∙ h.1) keys (onward (state_of m) e) (memory_back m e noted.stack lawful)
takes_back u n q done m e (Err w) after noted h same =
    let unchanged : state_of n ≡ state_of m = same.0 ∙ ap state_of h.1 in
    let keys : SameKeyboard m n = (same.1.0 ∙ ap (λ (c : Content). c.all_text) h.1, same.1.1 ∙ ap (λ (c : Content). c.all_answers) h.1) in
    taken_back_from u m n q e (state_of m) noted done unchanged keys (onward_same (state_of m) (state_of m) refl refl refl) (nothing_back (at m.memory) (addresses_of e m))

-- what the undo of an event gives back of the machine that the event came to
pub former_gives_back : (u : Former) (m : Content) (e : Event) (t : Status) (n : Content) → IsFormer u m e → Happened m e (Ok t) n →
    (written_open (at n.memory) u.bytes ≡ at m.memory) × (take u.sent n.sent ≡ m.sent) × (n.home ≡ m.home) × (n.home_s ≡ m.home_s)
former_gives_back u m e t n noted h =
    let lawful = lawful_if (is_lawful (state_of m) e) (sends (state_of m) && m.room == 0) h.0 in
    let on = onward (state_of m) e in
    let mem : at n.memory ≡ (happens (state_of m) e).mem = ap (λ (x : State). x.mem) h.1 in
    let were : n.sent ≡ (happens (state_of m) e).sent = ap (λ (x : State). x.sent) h.1 in
    let homes : n.home ≡ (happens (state_of m) e).home = ap (λ (x : State). x.home) h.1 in
    let homes_s : n.home_s ≡ (happens (state_of m) e).home_s = ap (λ (x : State). x.home_s) h.1 in
    (rw (mem, noted.bytes) (memory_back m e noted.stack lawful), rw (were, noted.sent) on.sent, homes ∙ on.home, homes_s ∙ on.home_s)
