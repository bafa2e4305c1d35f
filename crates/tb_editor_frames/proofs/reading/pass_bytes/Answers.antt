-- The goals of `pass_bytes` in src/reading.rt.
use Rattle.std.proofs.Common.{rules, ◌++◌, ◌≤◌, ◌≡◌, take, length, length-append, arith}
use Rattle.std.proofs.KnownBytes.{Consumes-trans}
use Rattle.tb_editor_frames.proofs.reading.pass_bytes.Goals as goal

pub passing-preserved : goal.passing-preserved
passing-preserved g c =
    let (bytes, taken, sum, sound) = c.passing.invariant in
    let last = take c.in-Ok.count c.pull.new.buf in
    let within : length last ≤ c.passing.left = search rules in
    let whole : c.in-Ok.count ≡ length last = search rules in
    (bytes ++ last, Consumes-trans _ _ _ _ _ taken c.in-Ok.ensures.bytes.0, omega (arith, length-append bytes last, within, whole, sum), search rules)
