-- Where lines begin along a run.
use Rattle.std.proofs.Common.{◌≡◌, ℕ, suc, ◌+◌, ◌<◌, ◌≤◌, ◌&&◌, Bool, true, false, List, refl, sym, ap, ◌∙◌, subst, inl, inr, add-one, arith}
use Rattle.std.proofs.lemmas.Bool.{cases_eq, cases_lt}
use Rattle.std.specs.Prelude.{if◌then◌else◌}
use Rattle.tb_kernal.specs.declared.events.Event.{Event}
use Rattle.tb_kernal.specs.declared.events.Event.TheVariants.{Go, Interrupt}
use Rattle.tb_kernal.specs.Machine.{State, happens, is_stopped, status}
use Rattle.tb_kernal.specs.Runs.{is_own}
use Rattle.tb_debug.specs.Begins.{GoesBetween, NoneBegins, comes_to, own_at}
use Rattle.tb_debug.specs.Runs.{Point, IsOfRun, is_marked, point_at}
use Rattle.tb_debug.specs.declared.moment.Moment.{Moment}

at_suc : (marks : List Bool) (start : Point) (n : ℕ)
    → comes_to marks start (suc n) ≡ (own_at marks start n && is_marked marks (point_at marks start (suc n)).state.regs.pc)
unfolding comes_to
at_suc marks start n = refl

-- whether a line begins after an event, by the event
pub comes_next : (marks : List Bool) (start : Point) (n m : ℕ) → m ≡ n + 1
    → comes_to marks start m ≡ (own_at marks start n && is_marked marks (point_at marks start m).state.regs.pc)
comes_next marks start n m e =
    subst (λ k. comes_to marks start k ≡ (own_at marks start n && is_marked marks (point_at marks start k).state.regs.pc))
    (sym (e ∙ add-one n)) (at_suc marks start n)

-- whether a line begins after one more event
pub comes_by : (marks : List Bool) (start : Point) (p q : Moment) (own marked comes : Bool) → IsOfRun marks start q → q.events ≡ p.events + 1
    → own ≡ own_at marks start p.events → marked ≡ is_marked marks q.machine.regs.pc → comes ≡ (own && marked)
    → comes_to marks start q.events ≡ comes
comes_by marks start p q own marked comes h one is_own is_marked' both =
    comes_next marks start p.events q.events one
    ∙ ap (λ x. own_at marks start p.events && is_marked marks x.state.regs.pc) (sym h.stands)
    ∙ (λ i. sym is_own i && sym is_marked' i) ∙ sym both

-- no line begins after one more event either
pub none_more : (marks : List Bool) (start : Point) (m n next : ℕ) → next ≡ n + 1 → NoneBegins marks start m (suc n)
    → comes_to marks start next ≡ false → NoneBegins marks start m (suc next)
none_more marks start m n next e none last k above below =
    elim (cases_eq k next) [
      | inl same ↦ ap (comes_to marks start) same ∙ last
      | inr other ↦ none k above (omega (arith, below, e, other))
    ]

-- if no line begins after n events, none begins before the next event
pub none_before : (marks : List Bool) (start : Point) (m n next : ℕ) → next ≡ n + 1 → NoneBegins marks start m (suc n) → NoneBegins marks start m next
none_before marks start m n next e none k above below = none k above (omega (arith, below, e))

-- no line begins on a way on at whose events none begins
pub none_between : (marks : List Bool) (start : Point) (m : ℕ) (p q : Moment) (begins : Bool) → NoneBegins marks start m (suc p.events)
    → GoesBetween marks start p begins q → NoneBegins marks start m q.events
none_between marks start m p q begins none on k above below =
    elim (cases_lt p.events k) [
      | inl after ↦ on.none k after below
      | inr before ↦ none k above (omega (arith, before))
    ]

-- and none at its end, if none begins there
pub none_on : (marks : List Bool) (start : Point) (m : ℕ) (p q : Moment) → p.events ≤ q.events → NoneBegins marks start m (suc p.events)
    → GoesBetween marks start p false q → NoneBegins marks start m (suc q.events)
none_on marks start m p q later none on k above below =
    elim (cases_lt p.events k) [
      | inr before ↦ none k above (omega (arith, before))
      | inl after ↦ elim (cases_eq k q.events) [
        | inl same ↦ ap (comes_to marks start) same ∙ on.comes (omega (arith, after, same))
        | inr other ↦ on.none k after (omega (arith, below, other))
      ]
    ]

-- an event that isn't the program's own leaves the program counter where it is
pub stays_there : (s t : State) (e : Event) (own : Bool) → own ≡ is_own e → own ≡ false → t ≡ happens s e → t.regs.pc ≡ s.regs.pc
stays_there s t (Go k) own is other moved = let never = sym is ∙ other in absurd (cc)
stays_there s t (Interrupt ws) own is other moved = ap (λ x. x.regs.pc) moved ∙ same (is_stopped (status s)) _
  where
    same : (stopped : Bool) (mem : ℕ → ℕ) → (if stopped then s else record s { mem = mem }).regs.pc ≡ s.regs.pc
    same true mem = refl
    same false mem = refl

-- ---- how many lines are begun on the way to the next one

-- at most the line that begins where the way began was begun; and none, if the way is still there
pub record IsTally (marks : List Bool) (first now : Moment) : Type 0 where
  pub few : now.begun ≤ first.begun + (if is_marked marks first.machine.regs.pc then 1 else 0)
  pub here : is_marked marks now.machine.regs.pc ≡ true → (is_marked marks first.machine.regs.pc ≡ true) × (now.begun ≡ first.begun)

-- one event more
pub tally_few : (marks : List Bool) (first p q : Moment) (own : Bool) → IsTally marks first p
    → q.begun ≡ p.begun + (if own && is_marked marks p.machine.regs.pc then 1 else 0)
    → q.begun ≤ first.begun + (if is_marked marks first.machine.regs.pc then 1 else 0)
tally_few marks first p q own t counted = by own (is_marked marks p.machine.regs.pc) refl counted
  where
    by : (o m : Bool) → is_marked marks p.machine.regs.pc ≡ m → q.begun ≡ p.begun + (if o && m then 1 else 0)
        → q.begun ≤ first.begun + (if is_marked marks first.machine.regs.pc then 1 else 0)
    by true true is counted =
        let (was, same) = t.here is in
        subst (λ b. q.begun ≤ first.begun + (if b then 1 else 0)) (sym was) (omega (arith, counted, same))
    by true false is counted = omega (arith, counted, t.few)
    by false m is counted = omega (arith, counted, t.few)

-- the tally after one event more at which no line begins
pub tally_more : (marks : List Bool) (first p q : Moment) (own : Bool) → IsTally marks first p
    → q.begun ≡ p.begun + (if own && is_marked marks p.machine.regs.pc then 1 else 0)
    → (own ≡ false → q.machine.regs.pc ≡ p.machine.regs.pc) → (own && is_marked marks q.machine.regs.pc) ≡ false → IsTally marks first q
tally_more marks first p q true t counted kept off =
    record { few = tally_few marks first p q true t counted; here = λ marked. let never = sym off ∙ marked in absurd (cc) }
tally_more marks first p q false t counted kept off =
    record {
      few = tally_few marks first p q false t counted;
      here = λ marked.
          let (was, same) = t.here (ap (is_marked marks) (sym (kept refl)) ∙ marked) in
          (was, omega (arith, counted, same));
    }

-- the tally after a way on at whose events no line begins
pub tally_on : (marks : List Bool) (first p q : Moment) → IsTally marks first p → p.events ≤ q.events → q.begun ≡ p.begun
    → (q.events ≡ p.events → q.machine.regs.pc ≡ p.machine.regs.pc)
    → ((p.events < q.events) × (is_marked marks q.machine.regs.pc ≡ true) → false ≡ true) → IsTally marks first q
tally_on marks first p q t later same stays off =
    record {
      few = omega (arith, same, t.few);
      here = λ marked. elim (cases_eq q.events p.events) [
        | inl none ↦
            let (was, begun) = t.here (ap (is_marked marks) (sym (stays none)) ∙ marked) in
            (was, same ∙ begun)
        | inr some ↦ let never = off (omega (arith, later, some), marked) in absurd (cc)
      ];
    }
