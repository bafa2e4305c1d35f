-- Going on quickly: quiet events at addresses where no line begins.
use Rattle.std.proofs.Common.{◌≡◌, ℕ, ◌+◌, ◌<◌, ◌⊎◌, Bool, true, false, List, [], ◌∷◌, length, refl, sym, ap, ◌∙◌, subst, inl, inr, arith}
use Rattle.std.proofs.lemmas.Bool.{cases_eq}
use Rattle.std.specs.Prelude.{◌&&◌, if◌then◌else◌}
use Rattle.tb_kernal.specs.declared.events.Event.{Event}
use Rattle.tb_kernal.specs.Machine.{Content, State, state_of, happens, status}
use Rattle.tb_kernal.specs.Runs.{WentQuietly, is_own}
use Rattle.tb_debug.specs.Begins.{NoneBegins, comes_to, own_at}
use Rattle.tb_debug.specs.Roms.{after, event_at}
use Rattle.tb_debug.specs.Runs.{Point, RunsUpTo, behind, is_begin, is_marked, point_at}
use Rattle.tb_debug.specs.declared.rom.Rom.TheVariants.{Quiet}
use Rattle.tb_debug.proofs.Beginning.{comes_next}
use Rattle.tb_debug.proofs.Roms.{given_at}
use Rattle.tb_debug.proofs.Running.{behind_by, one_more, runs_on}

-- where some events more of this kind lead
pub record GoneOn (marks : List Bool) (start p : Point) (first last : ℕ) (n : Content) : Type 0 where
  pub stands : record p { state = state_of n } ≡ point_at marks start last
  pub ran : RunsUpTo marks start last
  pub none : NoneBegins marks start first last
  pub comes : first < last → comes_to marks start last ≡ is_marked marks n.regs.pc

-- there is an event, at whose address no line begins; or the machine stays as it is
first_is_free : (marks : List Bool) (m : Content) (es : List Event) (n : Content) → WentQuietly marks m es n
    → ((0 < length es) × (is_marked marks m.regs.pc ≡ false)) ⊎ ((length es ≡ 0) × (state_of n ≡ state_of m))
first_is_free marks m [] n same = inr (refl, same)
first_is_free marks m (e ∷ es) n w = inl (omega arith, w.1)

-- from a point of a quiet ROM's run, after `first` events
pub goes_on : (marks : List Bool) (start p : Point) (first last : ℕ) (m : Content) (es : List Event) (n : Content) → WentQuietly marks m es n
    → p ≡ point_at marks start first → p.state ≡ state_of m → p.rom ≡ Quiet → RunsUpTo marks start first → last ≡ first + length es
    → GoneOn marks start p first last n
goes_on marks start p first last m [] n same here is quiet ran count =
    let none : last ≡ first = omega (arith, count) in
    record {
      stands = (λ i. record p { state = (same ∙ sym is) i }) ∙ here ∙ ap (point_at marks start) (sym none);
      ran = subst (RunsUpTo marks start) (sym none) ran;
      none = λ k above below. absurd (omega (arith, above, below, none));
      comes = λ more. absurd (omega (arith, more, none));
    }
goes_on marks start p first last m (e ∷ es) n w here is quiet ran count =
    let next = w.3.0 in
    let q : Point = record p { state = state_of next } in
    let given : e ≡ event_at p.rom p.state.regs = given_at Quiet m m e refl w.2 ∙ (λ i. event_at (sym quiet i) (sym is i).regs) in
    let own : is_own e ≡ true = ap is_own w.2 in
    let free : is_begin marks p.state e ≡ false = (λ i. own i && is_marked marks (is i).regs.pc) ∙ w.1 in
    let happened : q.state ≡ happens p.state e = w.3.1 ∙ ap (λ s. happens s e) (sym is) in
    let left : q.rom ≡ after p.rom = quiet ∙ sym (ap after quiet) in
    let counted : q.begun ≡ p.begun + (if false then 1 else 0) = omega arith in
    let moved = behind_by marks p q e false happened left (sym free) counted refl refl in
    let there = one_more marks start p q first (first + 1) e here given moved refl in
    let runs = runs_on marks start p first (first + 1) ran here (ap status is ∙ w.0) refl in
    let rest = goes_on marks start q (first + 1) last next es n w.3.2 there refl quiet runs (omega (arith, count)) in
    let is_own : own_at marks start first ≡ true =
    ap (λ (x : Point). is_own (event_at x.rom x.state.regs)) (sym here) ∙ ap is_own (sym given) ∙ own in
    let comes : comes_to marks start (first + 1) ≡ is_marked marks next.regs.pc =
    comes_next marks start first (first + 1) refl ∙ (λ i. is_own i && is_marked marks (sym there i).state.regs.pc) in
    record {
      stands = rest.stands;
      ran = rest.ran;
      none = λ k above below. elim (cases_eq k (first + 1)) [
        | inl same ↦ elim (first_is_free marks next es n w.3.2) [
          | inl free ↦ ap (comes_to marks start) same ∙ comes ∙ free.1
          | inr stays ↦ absurd (omega (arith, same, below, count, stays.0))
        ]
        | inr other ↦ rest.none k (omega (arith, above, other)) below
      ];
      comes = λ more. elim (cases_eq last (first + 1)) [
        | inl same ↦ elim (first_is_free marks next es n w.3.2) [
          | inl free ↦ absurd (omega (arith, same, count, free.0))
          | inr stays ↦ ap (comes_to marks start) same ∙ comes ∙ ap (λ (s : State). is_marked marks s.regs.pc) (sym stays.1)
        ]
        | inr other ↦ rest.comes (omega (arith, more, other))
      ];
    }
