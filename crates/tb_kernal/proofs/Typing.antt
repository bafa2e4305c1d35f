-- A run that has not waited is the same with more text after.
use Rattle.std.proofs.Common.{◌≡◌, ℕ, ◌≤◌, Bool, true, false, ◌||◌, ◌&&◌, List, [], ◌∷◌, ◌++◌, length, refl, ap, ◌∙◌}
use Rattle.std.proofs.lemmas.List.{drop-append-le}
use Rattle.std.specs.Prelude.{◌≢◌, Option, Some, None, Result, Ok, Err, if◌then◌else◌}
use Rattle.tb_memmap.specs.Bytes.{Writes, written}
use Rattle.tb_cpu.specs.declared.wrong.Wrong.{Wrong}
use Rattle.tb_cpu.specs.Instructions as cpu
use Rattle.tb_cpu.specs.Instructions.{next}
use Rattle.tb_kernal.specs.declared.rom.Service.{Service}
use Rattle.tb_kernal.specs.declared.rom.Service.TheVariants.{Chrout, Chrin, Getin}
use Rattle.tb_kernal.specs.declared.events.Clobber.{Clobber}
use Rattle.tb_kernal.specs.declared.events.Event.{Event}
use Rattle.tb_kernal.specs.declared.events.Event.TheVariants.{Go, Interrupt}
use Rattle.tb_kernal.specs.declared.status.Status.{Status}
use Rattle.tb_kernal.specs.declared.status.Status.TheVariants.{Running, Waits, Returned, Wrong as WentWrong}
use Rattle.tb_kernal.specs.Rom.{service_at}
use Rattle.tb_kernal.specs.Machine.{State, Content, state_of, status, status_by, is_home, is_stopped, waits_for, stepped, gone, gone_at, interrupted, happens, is_lawful, is_lawful_event}
use Rattle.tb_kernal.specs.Runs.{run, all_lawful}
use Rattle.tb_kernal.specs.Typing.{with_typed, with_more, TypingKeepsRuns}

-- with more text after, a machine that does not wait has the same status
same_status : (home : Bool) (wrong : Option Wrong) (o : Option Service) (text more : List ℕ) →
    status_by home wrong (waits_for o text) ≢ Waits →
    status_by home wrong (waits_for o (text ++ more)) ≡ status_by home wrong (waits_for o text)
same_status true wrong o text more h = refl
same_status false (Some w) o text more h = refl
same_status false None None text more h = refl
same_status false None (Some Chrout) text more h = refl
same_status false None (Some Getin) text more h = refl
same_status false None (Some Chrin) [] more h = absurd (h refl)
same_status false None (Some Chrin) (b ∷ text) more h = refl

-- with more text after, the state of a machine that does not wait has the same status
pub status_kept : (s : State) (more : List ℕ) → status s ≢ Waits → status (with_more more s) ≡ status s
status_kept s more h = same_status (is_home s) s.wrong (service_at s.regs.pc) s.text more h

stepped_kept : (s : State) (more : List ℕ) (x : Result cpu.State Wrong) → stepped (with_more more s) x ≡ with_more more (stepped s x)
stepped_kept s more (Ok t) = refl
stepped_kept s more (Err w) = refl

-- a service or an instruction of a machine that has a byte whenever it wants one
gone_at_kept : (o : Option Service) (k : Clobber) (s : State) (text more : List ℕ) → waits_for o text ≡ false →
    gone_at o k (record s { text = text ++ more }) ≡ with_more more (gone_at o k (record s { text = text }))
gone_at_kept None k s text more h = stepped_kept (record s { text = text }) more (next s.regs s.mem)
gone_at_kept (Some Chrout) k s text more h = refl
gone_at_kept (Some Getin) k s text more h = refl
gone_at_kept (Some Chrin) k s [] more h = absurd (cc)
gone_at_kept (Some Chrin) k s (b ∷ text) more h = refl

running_has_text : (home : Bool) (wrong : Option Wrong) (waits : Bool) → status_by home wrong waits ≡ Running → waits ≡ false
running_has_text true wrong waits h = absurd (cc)
running_has_text false (Some w) waits h = absurd (cc)
running_has_text false None true h = absurd (cc)
running_has_text false None false h = refl

gone_kept : (t : Status) (k : Clobber) (s : State) (more : List ℕ) → status s ≡ t → gone t k (with_more more s) ≡ with_more more (gone t k s)
gone_kept Running k s more h =
    gone_at_kept (service_at s.regs.pc) k s s.text more (running_has_text (is_home s) s.wrong (waits_for (service_at s.regs.pc) s.text) h)
gone_kept Waits k s more h = refl
gone_kept Returned k s more h = refl
gone_kept (WentWrong w) k s more h = refl

interrupted_kept : (b : Bool) (ws : Writes) (s : State) (more : List ℕ) →
    (if b then with_more more s else record (with_more more s) { mem = written s.mem ws }) ≡ with_more more (if b then s else record s { mem = written s.mem ws })
interrupted_kept true ws s more = refl
interrupted_kept false ws s more = refl

-- an event of a machine that doesn't wait does the same with more text after
pub happens_kept : (e : Event) (s : State) (more : List ℕ) → status s ≢ Waits → happens (with_more more s) e ≡ with_more more (happens s e)
happens_kept (Go k) s more h = ap (λ t. gone t k (with_more more s)) (status_kept s more h) ∙ gone_kept (status s) k s more refl
happens_kept (Interrupt ws) s more h =
    ap (λ t. interrupted t ws.items (with_more more s)) (status_kept s more h) ∙ interrupted_kept (is_stopped (status s)) ws.items s more

lawful_event_kept : (e : Event) (s : State) (more : List ℕ) → is_lawful_event (with_more more s) e ≡ is_lawful_event s e
lawful_event_kept (Go k) s more = refl
lawful_event_kept (Interrupt ws) s more = refl

lawful_kept : (e : Event) (s : State) (more : List ℕ) → status s ≢ Waits → is_lawful (with_more more s) e ≡ is_lawful s e
lawful_kept e s more h = λ i. is_stopped (status_kept s more h i) || lawful_event_kept e s more i

-- `TypingKeepsRuns` holds: the law that `typing_keeps_runs` hands on
pub typing_keeps_runs : TypingKeepsRuns
typing_keeps_runs [] s more h = (refl, refl)
typing_keeps_runs (e ∷ es) s more h =
    let now = happens_kept e s more h.0 in
    let later = typing_keeps_runs es (happens s e) more h.1 in
    (ap (run es) now ∙ later.0, λ i. lawful_kept e s more h.0 i && (ap (all_lawful es) now ∙ later.1) i)

-- what is put after the whole text comes after the rest that is not yet taken
pub typed_is_more : (m : Content) (more : List ℕ) → m.text_taken ≤ length m.all_text → state_of (with_typed m more) ≡ with_more more (state_of m)
typed_is_more m more h = ap (λ text. record (state_of m) { text = text }) (drop-append-le m.text_taken m.all_text more h)
