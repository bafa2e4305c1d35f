-- What a run sends, and that it is the same whatever was sent before it.
use Rattle.std.proofs.Common.{◌≡◌, ℕ, ◌+◌, ◌≤◌, Bool, true, false, ◌||◌, ◌&&◌, List, [], ◌∷◌, ◌++◌, length, refl, sym, ap, ◌∙◌, append-nil, append_assoc, arith, length-append}
use Rattle.std.specs.Prelude.{Option, Some, None, Result, Ok, Err, if◌then◌else◌}
use Rattle.std.specs.declared.alloc.AllocError.{AllocError}
use Rattle.tb_memmap.specs.Bytes.{Writes, written}
use Rattle.tb_cpu.specs.declared.wrong.Wrong.{Wrong}
use Rattle.tb_cpu.specs.Instructions as cpu
use Rattle.tb_kernal.specs.declared.rom.Service.{Service}
use Rattle.tb_kernal.specs.declared.rom.Service.TheVariants.{Chrout, Chrin, Getin}
use Rattle.tb_kernal.specs.declared.events.Clobber.{Clobber}
use Rattle.tb_kernal.specs.declared.events.Event.{Event}
use Rattle.tb_kernal.specs.declared.events.Event.TheVariants.{Go, Interrupt}
use Rattle.tb_kernal.specs.declared.status.Status.{Status}
use Rattle.tb_kernal.specs.declared.status.Status.TheVariants.{Running, Waits, Returned, Wrong as WentWrong}
use Rattle.tb_kernal.specs.Rom.{service_at}
use Rattle.tb_kernal.specs.Machine.{State, Content, state_of, status, is_stopped, stepped, after_service, gone, gone_at, interrupted, happens, is_lawful, is_lawful_event}
use Rattle.tb_kernal.specs.Runs.{Answered, Gave, RanOver, run, all_lawful}
use Rattle.tb_kernal.specs.Sending.{sent_before, with_earlier, SendingKeepsRuns}

-- ---- what a run sends

-- a state sent more than another one, at most so many bytes more
pub record SendsMore (s : State) (most : ℕ) (t : State) : Type 0 where
  pub fresh : List ℕ
  pub comes : t.sent ≡ s.sent ++ fresh
  pub few : length fresh ≤ most

nothing : (s t : State) (most : ℕ) → t.sent ≡ s.sent → SendsMore s most t
nothing s t most same = record { fresh = []; comes = same ∙ sym (append-nil s.sent); few = omega arith }

stepped_sends : (s : State) (x : Result cpu.State Wrong) → SendsMore s 1 (stepped s x)
stepped_sends s (Ok t) = nothing s (stepped s (Ok t)) 1 refl
stepped_sends s (Err w) = nothing s (stepped s (Err w)) 1 refl

gone_at_sends : (o : Option Service) (k : Clobber) (s : State) → SendsMore s 1 (gone_at o k s)
gone_at_sends None k s = stepped_sends s (cpu.next s.regs s.mem)
gone_at_sends (Some Chrout) k s = record { fresh = s.regs.a ∷ []; comes = refl; few = omega arith }
gone_at_sends (Some Chrin) k s = nothing s (gone_at (Some Chrin) k s) 1 refl
gone_at_sends (Some Getin) k s = nothing s (gone_at (Some Getin) k s) 1 refl

gone_sends : (t : Status) (k : Clobber) (s : State) → SendsMore s 1 (gone t k s)
gone_sends Running k s = gone_at_sends (service_at s.regs.pc) k s
gone_sends Waits k s = nothing s s 1 refl
gone_sends Returned k s = nothing s s 1 refl
gone_sends (WentWrong w) k s = nothing s s 1 refl

interrupted_sends : (b : Bool) (ws : Writes) (s : State) → SendsMore s 1 (if b then s else record s { mem = written s.mem ws })
interrupted_sends true ws s = nothing s s 1 refl
interrupted_sends false ws s = nothing s (record s { mem = written s.mem ws }) 1 refl

-- an event sends at most one byte
happens_sends : (e : Event) (s : State) → SendsMore s 1 (happens s e)
happens_sends (Go k) s = gone_sends (status s) k s
happens_sends (Interrupt ws) s = interrupted_sends (is_stopped (status s)) ws.items s

-- a run sends at most as many bytes as it has events
pub run_sends : (es : List Event) (s : State) → SendsMore s (length es) (run es s)
run_sends [] s = nothing s s 0 refl
run_sends (e ∷ es) s =
    let now = happens_sends e s in
    let later = run_sends es (happens s e) in
    let first = now.few in
    let rest = later.few in
    record {
      fresh = now.fresh ++ later.fresh;
      comes = later.comes ∙ ap (λ l. l ++ later.fresh) now.comes ∙ append_assoc s.sent now.fresh later.fresh;
      few = omega (arith, length-append now.fresh later.fresh, first, rest);
    }

-- ---- what was sent before

stepped_alike : (s : State) (earlier : List ℕ) (x : Result cpu.State Wrong) → stepped (sent_before earlier s) x ≡ sent_before earlier (stepped s x)
stepped_alike s earlier (Ok t) = refl
stepped_alike s earlier (Err w) = refl

gone_at_alike : (o : Option Service) (k : Clobber) (s : State) (earlier : List ℕ) → gone_at o k (sent_before earlier s) ≡ sent_before earlier (gone_at o k s)
gone_at_alike None k s earlier = stepped_alike s earlier (cpu.next s.regs s.mem)
gone_at_alike (Some Chrout) k s earlier = ap (λ sent. after_service k k.a (record s { sent = sent })) (append_assoc earlier s.sent (s.regs.a ∷ []))
gone_at_alike (Some Chrin) k s earlier = refl
gone_at_alike (Some Getin) k s earlier = refl

gone_alike : (t : Status) (k : Clobber) (s : State) (earlier : List ℕ) → gone t k (sent_before earlier s) ≡ sent_before earlier (gone t k s)
gone_alike Running k s earlier = gone_at_alike (service_at s.regs.pc) k s earlier
gone_alike Waits k s earlier = refl
gone_alike Returned k s earlier = refl
gone_alike (WentWrong w) k s earlier = refl

interrupted_alike : (b : Bool) (ws : Writes) (s : State) (earlier : List ℕ) →
    (if b then sent_before earlier s else record (sent_before earlier s) { mem = written s.mem ws }) ≡ sent_before earlier (if b then s else record s { mem = written s.mem ws })
interrupted_alike true ws s earlier = refl
interrupted_alike false ws s earlier = refl

-- an event does the same whatever was sent before it
happens_alike : (e : Event) (s : State) (earlier : List ℕ) → happens (sent_before earlier s) e ≡ sent_before earlier (happens s e)
happens_alike (Go k) s earlier = gone_alike (status s) k s earlier
happens_alike (Interrupt ws) s earlier = interrupted_alike (is_stopped (status s)) ws.items s earlier

lawful_event_alike : (e : Event) (s : State) (earlier : List ℕ) → is_lawful_event (sent_before earlier s) e ≡ is_lawful_event s e
lawful_event_alike (Go k) s earlier = refl
lawful_event_alike (Interrupt ws) s earlier = refl

lawful_alike : (e : Event) (s : State) (earlier : List ℕ) → is_lawful (sent_before earlier s) e ≡ is_lawful s e
lawful_alike e s earlier = ap (λ b. is_stopped (status s) || b) (lawful_event_alike e s earlier)

-- `SendingKeepsRuns` holds: the law that `sending_keeps_runs` hands on
pub sending_keeps_runs : SendingKeepsRuns
sending_keeps_runs [] s earlier = (refl, refl)
sending_keeps_runs (e ∷ es) s earlier =
    let now = happens_alike e s earlier in
    let later = sending_keeps_runs es (happens s e) earlier in
    (ap (run es) now ∙ later.0, λ i. lawful_alike e s earlier i && (ap (all_lawful es) now ∙ later.1) i)

module _ {O : Type 0} (gives : O → Content → Event → O → Type 0)
    (blind : (o : O) (m : Content) (e : Event) (p : O) (sent : List ℕ) → gives o m e p → gives o (record m { sent = sent }) e p) where
  -- events are given alike whatever was sent before them
  pub gave_alike : (es : List Event) (o : O) (m : Content) (p : O) (n : Content) (earlier : List ℕ)
      → Gave gives o m es p n → Gave gives o (with_earlier earlier m) es p (with_earlier earlier n)
  gave_alike [] o m p n earlier h = (h.0, ap (sent_before earlier) h.1)
  gave_alike (e ∷ es) o m p n earlier (runs, (q, ready, after, same, given, did, rest)) = (
    runs,
    (
      q,
      with_earlier earlier ready,
      with_earlier earlier after,
      ap (sent_before earlier) same,
      blind o ready e q (earlier ++ ready.sent) given,
      ap (sent_before earlier) did ∙ sym (happens_alike e (state_of ready) earlier),
      gave_alike es q after p n earlier rest,
    ),
  )

  -- a run is the same whatever was sent before it
  pub ran_alike : (o : O) (m : Content) (limit : ℕ) (result : Result Status AllocError) (p : O) (n : Content) (earlier : List ℕ)
      → RanOver gives o m limit result p n → RanOver gives o (with_earlier earlier m) limit result p (with_earlier earlier n)
  ran_alike o m limit result p n earlier ran =
      let law = sending_keeps_runs ran.events (state_of m) earlier in record {
        events = ran.events;
        few = ran.few;
        gave = gave_alike ran.events o m p n earlier ran.gave;
        ran = ap (sent_before earlier) ran.ran ∙ sym law.0;
        lawful = law.1 ∙ ran.lawful;
        answer = answered result ran.answer;
      }
    where
      answered : (r : Result Status AllocError) → Answered r n (length ran.events) limit → Answered r (with_earlier earlier n) (length ran.events) limit
      answered (Ok t) h = h
      answered (Err e) h = h
