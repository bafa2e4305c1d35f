-- The goals of `data_bytes` in src/items.rt.
use Rattle.std.proofs.Common.{ℕ, List, refl}
use Rattle.tb_assembly_text.specs.Lists.{content_of}
use Rattle.tb_assembly_meaning.specs.Names.{named}
use Rattle.tb_assembly_meaning.specs.Items.{content_bytes, data_bytes}
use Rattle.tb_assembly_meaning.proofs.Next.{bytes_go, bytes_fails}
use Rattle.tb_assembly_meaning.proofs.items.data_bytes.Goals as goal

pub loop-datum-preserved : goal.loop-datum-preserved
loop-datum-preserved c =
    let env = named c.args.symbols.now.entries in
    bytes_go content_of (content_bytes env c.args.at) (data_bytes env c.args.at) (λ d ds. refl) c.args.list.now c.loop-datum.datum-index c.datum-item.result c.loop-datum-test.true c.datum-item.is
    c.loop-datum.bytes.items _ c.loop-datum.invariant c.push_datum.new.bytes.items c.in-Ok.ensures

pub returns-in-Err : goal.returns-in-Err
returns-in-Err c =
    let env = named c.args.symbols.now.entries in
    bytes_fails content_of (content_bytes env c.args.at) (data_bytes env c.args.at) (λ d ds. refl) c.args.list.now c.loop-datum.datum-index c.datum-item.result c.loop-datum-test.true c.datum-item.is
    c.loop-datum.bytes.items _ c.loop-datum.invariant (Unit {0}) (List ℕ) (λ v. v) c.in-Err.error _ c.in-Err.ensures
