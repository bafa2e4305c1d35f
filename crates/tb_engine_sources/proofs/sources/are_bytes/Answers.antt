-- The goals of `are_bytes` in src/sources.rt.
use Rattle.tb_engine_sources.proofs.Output.{all_bytes}
use Rattle.tb_engine_sources.proofs.sources.are_bytes.Goals as goal

pub returns : goal.returns
returns c = all_bytes c.args.bytes.now (λ k. (c.type_inv.bytes k).fits)
