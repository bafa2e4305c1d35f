-- The goals of `read_line` in src/lines.rt.
use Rattle.std.proofs.Common.{rules, ◌++◌, ◌∷◌, [], ◌≡◌, inl, get_or, subst, sym}
use Rattle.tb_engine_streams.specs.Lines.{IsLine}
use Rattle.std.specs.Io.KnownBytes.{Consumes}
use Rattle.tb_engine_streams.proofs.Reading.{line_more, takes_byte}
use Rattle.tb_engine_streams.proofs.lines.read_line.Goals as goal

pub returns-then-is_err : goal.returns-then-is_err
returns-then-is_err g c =
    let byte = get_or c.pull.new.buf 0 0 in
    let taken = takes_byte _ _ _ c.reading.line.items c.pull.new.buf c.in-Ok.count (search rules) c.if-count-eq0.false (search rules)
    c.reading.invariant.taken c.in-Ok.ensures.bytes.0 in
    (c.reading.line.items ++ byte ∷ [], (line_more _ byte c.reading.invariant.is_line (search rules) c.if-byte-eq10.false, inl taken), search rules)

pub reading-preserved : goal.reading-preserved
reading-preserved g c =
    let byte = get_or c.pull.new.buf 0 0 in
    let taken = takes_byte _ _ _ c.reading.line.items c.pull.new.buf c.in-Ok.count (search rules) c.if-count-eq0.false (search rules)
    c.reading.invariant.taken c.in-Ok.ensures.bytes.0 in
    let more : c.push.new.self.items ≡ c.reading.line.items ++ byte ∷ [] = search rules in
    record {
      taken = subst (Consumes _ _) (sym more) taken;
      is_line = subst IsLine (sym more) (line_more _ byte c.reading.invariant.is_line (search rules) c.if-byte-eq10.false);
      within = search rules;
      sound = search rules;
    }
