-- The goals of `read_lines` in src/lines.rt.
use Rattle.std.proofs.Common.{arith}
use Rattle.tb_engine_findings.proofs.Read.{all_read, past_line}
use Rattle.tb_engine_findings.proofs.lines.read_lines.Goals as goal

pub loop-text-preserved : goal.loop-text-preserved
loop-text-preserved c = record {
  so_far = past_line c.args.notation c.args.source.now c.loop-text.lines c.add.new.self c.loop-text.number c.loop-text.rest.now c.in-Some.text.now c.in-Some.after.now
      c.in-Some.ensures.0 c.in_ok-add.ensures.written c.in_ok-add.ensures.says c.loop-text.invariant.so_far;
  count = let k = c.loop-text.invariant.count in let l = c.in-Some.ensures.1 in omega (arith, k, l);
}

pub returns : goal.returns
returns c = all_read c.args.notation c.args.source.now c.loop-text.lines c.loop-text.number c.loop-text.rest.now c.in_default.ensures c.loop-text.invariant.so_far
