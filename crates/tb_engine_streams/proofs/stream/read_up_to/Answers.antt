-- The goals of `read_up_to` in src/stream.rt.
use Rattle.std.proofs.Common.{rules, ◌≤◌, ◌+◌, ◌++◌, take, length, length-append}
use Rattle.std.proofs.KnownBytes.{Consumes-trans}
use Rattle.tb_engine_streams.proofs.stream.read_up_to.Goals as goal

pub returns-then-is_err : goal.returns-then-is_err
returns-then-is_err g c =
    let items = c.reading.input.items in
    let last = take c.in-Ok.count c.pull.new.buf in
    let within : length items + length last ≤ c.args.most + 1 = search rules in
    ((items ++ last, Consumes-trans _ _ _ _ _ c.reading.invariant.taken c.in-Ok.ensures.bytes.0, rw length-append within), search rules)
