-- The goals of `take_quickly` in src/events.rt.
use Rattle.std.proofs.Common.{rules, ◌≡◌, true, ap, refl, ◌∙◌}
use Rattle.tb_kernal.specs.declared.events.Event.TheVariants.{Go}
use Rattle.tb_kernal.specs.Machine.{happens}
use Rattle.tb_kernal.specs.Runs.{quiet}
use Rattle.tb_debug.proofs.events.take_quickly.Goals as goal

pub returns : goal.returns
returns g c =
    let (ready, same, happened) = c.in_ok-go_once.ensures in
    let is : c.is_quiet.result ≡ true = search rules in
    record {
      event = Go (quiet ready);
      ready = ready;
      same = same;
      given = c.is_quiet.ensures is ready;
      happened = happened ∙ ap (λ s. happens s (Go (quiet ready))) same;
      is_own = refl;
    }
