-- The run of a start with more at the end of the keyboard's text.
use Rattle.std.proofs.Common.{◌≡◌, ℕ, zero, suc, ◌<◌, ◌≤◌, Bool, List, length, slice_index_or, refl, sym, ap, ◌∙◌, arith}
use Rattle.std.specs.Prelude.{◌≢◌, ◌&&◌}
use Rattle.tb_kernal.specs.declared.status.Status.TheVariants.{Running, Waits}
use Rattle.tb_kernal.specs.Machine.{State, status}
use Rattle.tb_kernal.proofs.Typing.{happens_kept, status_kept}
use Rattle.tb_kernal.specs.Runs.{is_own}
use Rattle.tb_debug.specs.Begins.{IsNear, comes_to}
use Rattle.tb_debug.specs.Roms.{event_at}
use Rattle.tb_debug.specs.Runs.{Point, RunsUpTo, IsOfRun, IsCheckpoint, AreCheckpoints, IsTyped, AreTyped, is_marked, next_point, point_at, typed, unsent}
use Rattle.tb_debug.specs.declared.history.Checkpoint.{Checkpoint}
use Rattle.tb_debug.specs.declared.moment.Moment.{Moment}
use Rattle.tb_debug.proofs.Running.{at_next, at_start}

never_both : (s : State) → status s ≡ Running → status s ≢ Waits
never_both s runs waits = let no : Running ≡ Waits = sym runs ∙ waits in absurd (cc)

next_typed : (marks : List Bool) (more : List ℕ) (p : Point) → status p.state ≡ Running
    → next_point marks (typed more p) ≡ typed more (next_point marks p)
next_typed marks more p runs =
    ap (λ s. record (next_point marks p) { state = s }) (happens_kept (event_at p.rom p.state.regs) p.state more (never_both p.state runs))

-- a run that has not waited goes the same way
pub typed_at : (marks : List Bool) (start : Point) (more : List ℕ) (n : ℕ) → RunsUpTo marks start n
    → point_at marks (typed more start) n ≡ typed more (point_at marks start n)
typed_at marks start more zero ran = at_start marks (typed more start) ∙ ap (typed more) (sym (at_start marks start))
typed_at marks start more (suc n) ran =
    at_next marks (typed more start) n
    ∙ ap (next_point marks) (typed_at marks start more n (λ k below. ran k (omega (arith, below))))
    ∙ next_typed marks more (point_at marks start n) (ran n (omega arith))
    ∙ ap (typed more) (sym (at_next marks start n))

typed_ran : (marks : List Bool) (start : Point) (more : List ℕ) (n : ℕ) → RunsUpTo marks start n → RunsUpTo marks (typed more start) n
typed_ran marks start more n ran k below =
    let s = (point_at marks start k).state in
    ap (λ p. status p.state) (typed_at marks start more k (λ j before. ran j (omega (arith, before, below))))
    ∙ status_kept s more (never_both s (ran k below)) ∙ ran k below

-- a moment of the run, typed to, is of the run of the start that is typed to
pub typed_moment : (marks : List Bool) (start : Point) (more : List ℕ) (m n : Moment) → IsTyped more m n → IsOfRun marks start m
    → IsOfRun marks (typed more start) n
typed_moment marks start more m n t h = record {
  stands = t.point ∙ ap (typed more) h.stands ∙ sym (typed_at marks start more m.events h.ran) ∙ ap (point_at marks (typed more start)) (sym t.events);
  ran = λ k below. typed_ran marks start more m.events h.ran k (omega (arith, below, t.events));
}

-- a checkpoint of the run, typed to, is of the run of the start that is typed to
pub typed_checkpoint : (marks : List Bool) (start : Point) (more : List ℕ) (n : ℕ) (k l : Checkpoint) → RunsUpTo marks start n → IsTyped more k.moment l.moment
    → l.sent ≡ k.sent → IsCheckpoint marks start k × (k.moment.events ≤ n) → IsCheckpoint marks (typed more start) l × (l.moment.events ≤ n)
typed_checkpoint marks start more n k l ran t sent (h, few) =
    let there = typed_at marks start more k.moment.events (λ j below. ran j (omega (arith, below, few))) in
    let at = point_at marks (typed more start) in (
      record {
        stands = t.point ∙ ap (typed more) h.stands ∙ ap unsent (sym there) ∙ ap (λ i. unsent (at i)) (sym t.events);
        counts = sent ∙ h.counts ∙ ap (λ p. length p.state.sent) (sym there) ∙ ap (λ i. length (at i).state.sent) (sym t.events);
      },
      omega (arith, few, t.events),
    )

-- all checkpoints of the run, typed to, are of the run of the start that is typed to
pub typed_all : (marks : List Bool) (start : Point) (more : List ℕ) (n : ℕ) (ks ls : List Checkpoint) → RunsUpTo marks start n → AreTyped more ks ls
    → AreCheckpoints marks start n ks → AreCheckpoints marks (typed more start) n ls
typed_all marks start more n ks ls ran t all i d inside =
    let there : i < length ks = omega (arith, inside, t.many) in
    typed_checkpoint marks start more n (slice_index_or ks i d) (slice_index_or ls i d) ran (t.each i d there) (t.sent i d there) (all i d there)

-- lines begin at the same points
comes_typed : (marks : List Bool) (start : Point) (more : List ℕ) (n : ℕ) → RunsUpTo marks start n
    → comes_to marks (typed more start) n ≡ comes_to marks start n
unfolding comes_to
comes_typed marks start more zero ran = refl
comes_typed marks start more (suc n) ran =
    let own = ap (λ p. is_own (event_at p.rom p.state.regs)) (typed_at marks start more n (λ k below. ran k (omega (arith, below)))) in
    let marked = ap (λ p. is_marked marks p.state.regs.pc) (typed_at marks start more (suc n) ran) in
    λ i. own i && marked i

-- so the newest checkpoint is as near as it was
pub near_typed : (marks : List Bool) (start : Point) (more : List ℕ) (before after n m : ℕ) → RunsUpTo marks start n → after ≡ before → m ≡ n
    → IsNear marks start before n → IsNear marks (typed more start) after m
near_typed marks start more before after n m ran same stays near k inside comes =
    let there = comes_typed marks start more k (λ j below. ran j (omega (arith, below, inside, stays))) in
    let few = near k (omega (arith, inside, stays)) (sym there ∙ comes) in
    omega (arith, few, same)
