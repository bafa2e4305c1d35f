-- CHROUT, CHRIN and GETIN; waiting for a key, and returning home.
use Rattle.std.proofs.Common.{◌≡◌, ℕ, ◌+◌, ◌%◌, true, false, not, ◌&&◌, ◌||◌, List, [], ◌∷◌, ◌++◌, length, drop, refl, sym}
use Rattle.std.proofs.Common.{ap, ◌∙◌, subst, ap₂, arith, eqb, leb, Some, None, append-nil, inl}
use Rattle.std.proofs.lemmas.Bool.{ne_eqb, eq-eqb, leb-true}
use Rattle.tb_memmap.specs.Bytes.{written}
use Rattle.tb_cpu.specs.declared.registers.Regs.{Regs}
use Rattle.tb_cpu.specs.Operands.{word_from}
use Rattle.tb_kernal.specs.declared.rom.Service.{Service}
use Rattle.tb_kernal.specs.declared.rom.Service.TheVariants.{Chrout, Chrin, Getin}
use Rattle.tb_kernal.specs.declared.events.Clobber.{Clobber}
use Rattle.tb_kernal.specs.declared.events.Event.{Event}
use Rattle.tb_kernal.specs.declared.events.Event.TheVariants.{Go, Interrupt}
use Rattle.tb_kernal.specs.declared.status.Status.TheVariants.{Running, Waits, Returned}
use Rattle.tb_kernal.specs.Rom.{all_writable, service_at}
use Rattle.tb_kernal.specs.Machine.{State, status, status_by, waits_for, happens, gone, gone_at, served, after_service, clobbered, returned, first_or_zero}
use Rattle.tb_kernal.specs.Machine.{interrupted, is_lawful, is_lawful_go, is_lawful_event, is_stopped}
use Rattle.tb_machine_reaching.specs.View.{View, Setup, At, Fits, Comes, with_s, back_at}
use Rattle.tb_kernal.proofs.EventLists.{interrupt_sends_nothing}
use Rattle.tb_machine_reaching.proofs.Act.{kept_by_interrupt, rom_wrote, pc_here, pulled, not_home, up}
use Rattle.tb_machine_reaching.proofs.Comes.{comes_by, chained, looser}

-- a view after a service
abbrev pub served_view : Service → Clobber → View → ℕ → List ℕ → View
served_view Chrout k v pc bs = record v { regs = record (clobbered k k.a v.regs) { pc = pc }; stack = bs }
served_view Chrin k v pc bs = record v { regs = record (clobbered k (first_or_zero v.text) v.regs) { pc = pc }; stack = bs; text = drop 1 v.text }
served_view Getin k v pc bs = record v { regs = record (clobbered k (first_or_zero v.answers) v.regs) { pc = pc }; stack = bs; answers = drop 1 v.answers }

-- what a service sends, with a in A
abbrev pub sent_by : Service → ℕ → List ℕ
sent_by Chrout a = a ∷ []
sent_by _ a = []

module _ (f : Setup) where
  with_keys : (v : View) (s : State) → At f v s → (t u l : List ℕ) → At f (record v { text = t; answers = u }) (record s { text = t; answers = u; sent = l })
  with_keys v s at t u l = record { regs = at.regs; depth = at.depth; stack = at.stack; bytes = at.bytes; text = refl; answers = refl; stays = at.stays }

  -- the return
  returned_at : (v : View) (s : State) (lo hi : ℕ) (bs : List ℕ) (r : Regs) → At f v s → v.stack ≡ lo ∷ hi ∷ bs
      → At f (record v { regs = record r { pc = back_at lo hi }; stack = bs }) (record s { regs = returned s.mem (with_s s.regs.s r) })
  returned_at v s lo hi bs r at e =
      let q = record r { pc = back_at lo hi } in
      let one = pulled f v s at lo q (hi ∷ bs) e in
      let two = pulled f (record v { regs = q; stack = hi ∷ bs }) (record s { regs = with_s (up s.regs.s) q }) one.3 hi q bs refl in
      let to : (word_from (s.mem (256 + up s.regs.s)) (s.mem (256 + up (up s.regs.s))) + 1) % 65536 ≡ back_at lo hi = ap₂ (λ l h. (word_from l h + 1) % 65536) one.1 two.1 in
      subst (λ p. At f (record v { regs = q; stack = bs }) (record s { regs = record r { pc = p; s = up (up s.regs.s) } })) (sym to) two.3

  -- the machine's status at a service
  at_service : (v : View) (s : State) (q : Service) → At f v s → service_at v.regs.pc ≡ Some q → status s ≡ status_by false None (waits_for (Some q) v.text)
  at_service v s q at e =
      let here : service_at s.regs.pc ≡ Some q = ap service_at (pc_here f v s at) ∙ e in
      let apart : s.regs.pc ≡ s.home → ⊥ = λ h. (let none : Some q ≡ None = sym here ∙ ap service_at (h ∙ at.stays.home) ∙ at.stays.apart in cc) in
      ap (λ b. status_by b s.wrong (waits_for (service_at s.regs.pc) s.text)) (not_home f v s at (ne_eqb s.regs.pc s.home apart))
      ∙ ap (λ o. status_by false o (waits_for (service_at s.regs.pc) s.text)) at.stays.right
      ∙ ap₂ (λ x t. status_by false None (waits_for x t)) here at.text

  runs_at : (v : View) (s : State) (q : Service) → At f v s → service_at v.regs.pc ≡ Some q → waits_for (Some q) v.text ≡ false → status s ≡ Running
  runs_at v s q at e w = at_service v s q at e ∙ ap (λ b. status_by false None b) w

  -- what a service leaves
  serves : (q : Service) (v : View) (s : State) (k : Clobber) (lo hi : ℕ) (bs : List ℕ) → At f v s → all_writable s.regs.s k.writes.items ≡ true
      → v.stack ≡ lo ∷ hi ∷ bs → At f (served_view q k v (back_at lo hi) bs) (served q k s) × ((served q k s).sent ≡ s.sent ++ sent_by q v.regs.a)
  serves q v s k lo hi bs at fair st = go q
    where
      leaves : (a : ℕ) (t u l : List ℕ) → At f (record v {
        regs = record (clobbered k a v.regs) { pc = back_at lo hi };
        stack = bs;
        text = t;
        answers = u;
      }) (after_service k a (record s { text = t; answers = u; sent = l }))
      leaves a t u l =
          let m = written s.mem k.writes.items in
          let w = with_keys v (record s { mem = m }) (rom_wrote f v s at k.writes.items fair) t u l in
          let d = returned_at (record v { text = t; answers = u }) (record s { mem = m; text = t; answers = u; sent = l }) lo hi bs (clobbered k a v.regs) w st in
          subst (λ r. At f (record v { regs = record (clobbered k a v.regs) { pc = back_at lo hi }; stack = bs; text = t; answers = u })
          (record s { regs = returned m (clobbered k a r); mem = m; text = t; answers = u; sent = l })) (sym at.regs) d

      both : ◌≡◌ {A = List ℕ × List ℕ} (v.text, v.answers) (s.text, s.answers)
      both = λ i. (sym at.text i, sym at.answers i)

      go : (q : Service) → At f (served_view q k v (back_at lo hi) bs) (served q k s) × ((served q k s).sent ≡ s.sent ++ sent_by q v.regs.a)
      go Chrout = (
        subst (λ (p : List ℕ × List ℕ). At f (served_view Chrout k v (back_at lo hi) bs)
            (after_service k k.a (record s { text = p.0; answers = p.1; sent = s.sent ++ s.regs.a ∷ [] }))) both
            (leaves k.a v.text v.answers (s.sent ++ s.regs.a ∷ [])),
        ap (λ r. s.sent ++ r.a ∷ []) at.regs,
      )
      go Chrin = (
        subst (λ (p : List ℕ × List ℕ). At f (served_view Chrin k v (back_at lo hi) bs) (after_service k (first_or_zero p.0)
            (record s { text = drop 1 p.0; answers = p.1; sent = s.sent }))) both (leaves (first_or_zero v.text) (drop 1 v.text) v.answers s.sent),
        sym (append-nil s.sent),
      )
      go Getin = (
        subst (λ (p : List ℕ × List ℕ). At f (served_view Getin k v (back_at lo hi) bs) (after_service k (first_or_zero p.1)
            (record s { text = p.0; answers = drop 1 p.1; sent = s.sent }))) both (leaves (first_or_zero v.answers) v.text (drop 1 v.answers) s.sent),
        sym (append-nil s.sent),
      )

  -- some view after a service
  abbrev AfterService : Service → View → ℕ → List ℕ → View → Type 0
  AfterService q v pc bs w = (k : Clobber) × (served_view q k v pc bs ≡ w)

  module _ (room : ℕ) (fits : Fits f room) where
    served_once : (q : Service) (v : View) (lo hi : ℕ) (bs : List ℕ) → leb (length v.stack) room ≡ true → service_at v.regs.pc ≡ Some q
        → waits_for (Some q) v.text ≡ false → v.stack ≡ lo ∷ hi ∷ bs → Comes f v (AfterService q v (back_at lo hi) bs) (sent_by q v.regs.a) 1
    served_once q v lo hi bs small here ready st = comes_by f v _ (sent_by q v.regs.a) room fits (leb-true _ _ small)
        (λ s at. runs_at v s q at here ready)
        (λ s at. inl (q, ap service_at (pc_here f v s at) ∙ here))
        (λ s at k l.
        let run = runs_at v s q at here ready in
        let service : service_at s.regs.pc ≡ Some q = ap service_at (pc_here f v s at) ∙ here in
        let fair : all_writable s.regs.s k.writes.items ≡ true = ap (λ x. is_lawful_go x s.regs.s k.writes.items) (sym service)
        ∙ ap (λ t. is_stopped t || is_lawful_event s (Go k)) (sym run) ∙ l in
        let e : happens s (Go k) ≡ served q k s = ap (λ t. gone t k s) run ∙ ap (λ x. gone_at x k s) service in
        let d = serves q v s k lo hi bs at fair st in (
          (served_view q k v (back_at lo hi) bs, subst (At f (served_view q k v (back_at lo hi) bs)) (sym e) d.0, (k, refl)),
          ap (λ x. x.sent) e ∙ d.1,
        ))

    -- a service, and then a law
    pub serving : (q : Service) (v : View) (lo hi : ℕ) (bs : List ℕ) (goal : View → Type 0) (u : List ℕ) (m : ℕ) → leb (length v.stack) room ≡ true
        → service_at v.regs.pc ≡ Some q → waits_for (Some q) v.text ≡ false → v.stack ≡ lo ∷ hi ∷ bs
        → ((k : Clobber) → Comes f (served_view q k v (back_at lo hi) bs) goal u m) → Comes f v goal (sent_by q v.regs.a ++ u) (1 + m)
    serving q v lo hi bs goal u m small here ready st next =
        chained f v (AfterService q v (back_at lo hi) bs) goal (sent_by q v.regs.a) u 1 m (served_once q v lo hi bs small here ready st)
        (λ w h. subst (λ w. Comes f w goal u m) h.1 (next h.0))

    -- a service as the last piece
    pub served_last : (q : Service) (v : View) (lo hi : ℕ) (bs : List ℕ) (goal : View → Type 0) → leb (length v.stack) room ≡ true
        → service_at v.regs.pc ≡ Some q → waits_for (Some q) v.text ≡ false → v.stack ≡ lo ∷ hi ∷ bs
        → ((k : Clobber) → goal (served_view q k v (back_at lo hi) bs)) → Comes f v goal (sent_by q v.regs.a) 1
    served_last q v lo hi bs goal small here ready st next =
        looser f v (AfterService q v (back_at lo hi) bs) goal (sent_by q v.regs.a) 1 1 (omega arith) (λ w h. subst goal h.1 (next h.0)) (served_once q v lo hi bs small here ready st)

  -- ---- waiting: CHRIN without a byte
  pub waits : (v : View) (s : State) → At f v s → v.regs.pc ≡ 0xffcf → v.text ≡ [] → status s ≡ Waits
  waits v s at p t = at_service v s Chrin at (ap service_at p) ∙ ap (λ l. status_by false None (waits_for (Some Chrin) l)) t

  -- while CHRIN waits without a byte, every lawful event keeps the view and sends nothing
  pub waits_on : (v : View) (s : State) → At f v s → v.regs.pc ≡ 0xffcf → v.text ≡ [] → (e : Event) → is_lawful s e ≡ true → At f v (happens s e) × ((happens s e).sent ≡ s.sent)
  waits_on v s at p t (Go k) l = let e : happens s (Go k) ≡ s = ap (λ q. gone q k s) (waits v s at p t) in (subst (At f v) (sym e) at, ap (λ x. x.sent) e)
  waits_on v s at p t (Interrupt ws) l = (kept_by_interrupt f v s at ws l, interrupt_sends_nothing s ws)

  -- ---- home: back where the machine was entered, with D clear
  pub comes_home : (v : View) (s : State) → At f v s → v.regs.pc ≡ f.home → f.home_s + length (v.stack ++ f.rest) ≡ 255 → v.regs.flags.d ≡ false → status s ≡ Returned
  comes_home v s at p d b =
      let same : s.regs.s ≡ s.home_s = omega (arith, at.depth, at.stays.home_s, d) in
      ap (λ h. status_by h s.wrong (waits_for (service_at s.regs.pc) s.text))
      (ap (λ c. c && eqb s.regs.s s.home_s && not s.regs.flags.d) (eq-eqb s.regs.pc s.home (pc_here f v s at ∙ p ∙ sym at.stays.home))
      ∙ ap (λ c. c && not s.regs.flags.d) (eq-eqb s.regs.s s.home_s same) ∙ ap (λ r. not r.flags.d) at.regs ∙ ap not b)

  -- at home, every event leaves the state as it is
  pub stays_home : (v : View) (s : State) → At f v s → v.regs.pc ≡ f.home → f.home_s + length (v.stack ++ f.rest) ≡ 255 → v.regs.flags.d ≡ false → (e : Event) → happens s e ≡ s
  stays_home v s at p d b (Go k) = ap (λ q. gone q k s) (comes_home v s at p d b)
  stays_home v s at p d b (Interrupt ws) = ap (λ q. interrupted q ws.items s) (comes_home v s at p d b)
