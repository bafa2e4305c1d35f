-- The goals of `load` in src/loading.rt.
use Rattle.std.proofs.Common.{inl}
use Rattle.tb_dap_requests.proofs.loading.load.Goals as goal

pub returns-in_ok-loading-in-Some : goal.returns-in_ok-loading-in-Some
returns-in_ok-loading-in-Some g c =
    inl (c.in-Some.keyboard, rw c.in-Some.is at c.in_ok-keyboard.ensures, c.in_ok-loading-in-Some.ensures)
