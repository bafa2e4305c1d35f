-- The goals of `launch` in src/greeting.rt.
use Rattle.std.proofs.Common.{option_map, subst, sym}
use Rattle.tb_dap_adapter.specs.Greeting.{Launches}
use Rattle.tb_dap_requests.specs.Launching.{asked_of}
use Rattle.tb_dap_adapter.proofs.greeting.launch.Goals as goal

pub returns-in_ok-load-in-Some : goal.returns-in_ok-load-in-Some
returns-in_ok-load-in-Some g c =
    subst (λ launch. Launches g.K.Compile.own g.S.Sources.reads (option_map asked_of launch) c.args.sources.now c.greeted.result c.load.new.sources)
    (sym c.in-Some.is) (c.in_ok-load-in-Some.field-0, c.in_ok-load-in-Some.ensures, c.greeted.ensures)
