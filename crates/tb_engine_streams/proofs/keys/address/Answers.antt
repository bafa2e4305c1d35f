-- The goals of `address` in src/keys.rt.
use Rattle.std.proofs.Common.{refl}
use Rattle.hex.proofs.HexLemmas.{IsOk-decode_sized}
use Rattle.tb_engine_streams.proofs.keys.address.Goals as goal

pub returns-in-Ok-clause-found : goal.returns-in-Ok-clause-found
returns-in-Ok-clause-found c =
    let digits = IsOk-decode_sized c.args.text.now 2 in
    (λ h. digits.0 (rw (← c.in-Ok.ensures) refl), λ h. refl)

pub returns-in-Err-clause-found : goal.returns-in-Err-clause-found
returns-in-Err-clause-found c =
    let digits = IsOk-decode_sized c.args.text.now 2 in
    (λ h. cc, λ h. rw (← c.in-Err.ensures) at digits.1 h)
