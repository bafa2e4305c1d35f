-- The goals of `frames_of` in src/said.rt.
use Rattle.std.proofs.Common.{rules, [], sym, subst, arith}
use Rattle.std.proofs.lemmas.List.{length_push}
use Rattle.tb_dap_requests.specs.Said.{AreFrames, none}
use Rattle.tb_dap_requests.proofs.Frames.{frames_more}
use Rattle.tb_dap_requests.proofs.said.frames_of.Goals as goal

pub loop-one-init : goal.loop-one-init
loop-one-init c = (
  subst (AreFrames c.args.seq c.args.asker.seq c.args.asker.command.now []) (sym c.new-frames.ensures.items) none,
  search rules,
)

pub loop-one-preserved : goal.loop-one-preserved
loop-one-preserved c = (
  frames_more c.args.seq c.args.asker.seq c.args.asker.command.now c.loop-one.yielded c.in-Some.one c.loop-one.number
      c.loop-one.frames.items c.push_frame.new.frames.items c.loop-one.invariant.0 c.loop-one.invariant.1 c.in_ok-push_frame.ensures,
  omega (arith, length_push c.loop-one.yielded c.in-Some.one, c.loop-one.invariant.1),
)
