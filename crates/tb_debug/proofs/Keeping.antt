-- Checkpoints are of the run.
use Rattle.std.proofs.Common.{◌≡◌, ℕ, ◌≤◌, Bool, List, length, take, sym, ap, ◌∙◌, arith}
use Rattle.std.proofs.lemmas.List.Elements.{All-weaker}
use Rattle.tb_debug.specs.Runs.{Point, IsOfRun, IsCheckpoint, AreCheckpoints, point_at, shown}
use Rattle.tb_debug.specs.declared.history.Checkpoint.{Checkpoint}
use Rattle.tb_debug.specs.declared.moment.Moment.{Moment}
use Rattle.tb_debug.proofs.Running.{sent_before}

-- a point with these bytes as what was sent
abbrev resent : List ℕ → Point → Point
resent sent p = record p { state = record p.state { sent = sent } }

-- the moment of a checkpoint, by what a later moment has sent
pub again_of : (marks : List Bool) (start : Point) (k : Checkpoint) (m now : Moment) (sent : List ℕ)
    → m ≡ record k.moment { machine = record k.moment.machine { sent = sent; room = 0 } } → sent ≡ take k.sent now.machine.sent
    → IsOfRun marks start now → IsCheckpoint marks start k → k.moment.events ≤ now.events → IsOfRun marks start m
again_of marks start k m now sent copied begins h kept before =
    let same : k.moment.events ≡ m.events = sym (ap (λ x. x.events) copied) in
    let p = point_at marks start k.moment.events in
    let cut : sent ≡ p.state.sent =
    begins ∙ ap (λ n. take n now.machine.sent) kept.counts ∙ ap (λ q. take (length p.state.sent) q.state.sent) h.stands
    ∙ sent_before marks start k.moment.events now.events before in
    record {
      stands = ap shown copied ∙ ap (resent sent) kept.stands ∙ ap (λ xs. resent xs p) cut
          ∙ ap (point_at marks start) same;
      ran = λ j below. h.ran j (omega (arith, below, same, before));
    }

-- checkpoints of the first n events are checkpoints of more
pub kept_later : (marks : List Bool) (start : Point) (n m : ℕ) (ks : List Checkpoint) → n ≤ m → AreCheckpoints marks start n ks → AreCheckpoints marks start m ks
kept_later marks start n m ks few all =
    All-weaker (λ k. IsCheckpoint marks start k × (k.moment.events ≤ n)) (λ k. IsCheckpoint marks start k × (k.moment.events ≤ m))
    (λ k h. (h.0, omega (arith, few, h.1))) ks all
