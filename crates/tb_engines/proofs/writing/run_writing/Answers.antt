-- The goals of `run_writing` in src/writing.rt.
use Rattle.std.proofs.Common.{rules, ◌≡◌, ◌≤◌, ◌+◌, true, false, refl, sym, ◌∙◌}
use Rattle.tb_kernal.specs.Machine.{is_running}
use Rattle.tb_kernal.specs.Hearing.{STRETCH}
use Rattle.tb_kernal.proofs.Stretches.{ended, taken_on}
use Rattle.tb_engines.specs.Writing.{kept_sent}
use Rattle.tb_engines.proofs.Stretched.{begun, onward}
use Rattle.tb_engines.proofs.writing.run_writing.Goals.{then-not-is_running-via-then-not-is_running, then-not-is_running-via-else-not-is_running+then-stretch-left}
use Rattle.tb_engines.proofs.writing.run_writing.Goals as goal

pub stretches-init : goal.stretches-init
stretches-init g c =
    let room : STRETCH + kept_sent ≤ c.reserve.new.self.room = search rules in
    begun g.O.Outside.gives g.V.Watch.hears g.met.O.Outside.gives_lawful g.met.O.Outside.gives_blindly _ _ _ _ _ _ _ _ c.reserve.ensures.rest room c.began.ensures refl refl

pub returns-then-not-is_running-clause-ran : goal.returns-then-not-is_running-clause-ran
returns-then-not-is_running-clause-ran g c =
    let few : c.min-stretch.result ≤ c.stretches.left = search rules in
    let short : c.min-stretch.result ≤ STRETCH = search rules in
    let last : is_running c.run_stretch-run.result.status ≡ true → c.min-stretch.result ≡ c.stretches.left =
    elim c.then-not-is_running.branch [
      | then-not-is_running-via-then-not-is_running w ↦
          let no : is_running c.run_stretch-run.result.status ≡ false = search rules in
          λ on. let both : true ≡ false = sym on ∙ no in absurd (cc)
      | then-not-is_running-via-else-not-is_running+then-stretch-left w ↦
          let all : c.min-stretch.result ≡ c.stretches.left = search rules in
          λ on. all
    ] in
    let on = onward g.O.Outside.gives g.V.Watch.hears g.met.O.Outside.gives_lawful g.met.O.Outside.gives_blindly _ _ _ _ _ _ _ _ _ _ _ _ _ _ _ _ _ _ _ _ _
    c.stretches.invariant c.run_stretch-run.ensures in
    record {
      earlier = on.earlier';
      ran = ended g.O.Outside.gives g.V.Watch.hears g.met.O.Outside.gives_lawful _ _ _ _ _ _ _ _ _ _ _ _ _ c.stretches.invariant.taken on.ran few short last c.ended.ensures;
      known = on.known;
      wrote = on.wrote;
    }

pub stretches-preserved : goal.stretches-preserved
stretches-preserved g c =
    let few : c.min-stretch.result ≤ c.stretches.left = search rules in
    let full : c.min-stretch.result ≡ STRETCH = search rules in
    let runs : is_running c.run_stretch-run.result.status ≡ true = search rules in
    let on = onward g.O.Outside.gives g.V.Watch.hears g.met.O.Outside.gives_lawful g.met.O.Outside.gives_blindly _ _ _ _ _ _ _ _ _ _ _ _ _ _ _ _ _ _ _ _ _
    c.stretches.invariant c.run_stretch-run.ensures in
    record {
      earlier = on.earlier';
      taken = taken_on g.O.Outside.gives g.V.Watch.hears g.met.O.Outside.gives_lawful _ _ _ _ _ _ _ _ _ _ _ _ _ c.stretches.invariant.taken on.ran runs few full c.took.ensures;
      known = on.known;
      wrote = on.wrote;
      longer = on.longer;
      room = on.room;
      spare = on.spare;
    }
