-- What holds at each turn of the loop of `remark_in` in src/remarks.rt.
use Rattle.std.proofs.Common.{◌≡◌, drop}
use Rattle.tb_editor_navigation.specs.Remarks.{remark_in}
use Rattle.tb_editor_navigation.proofs.remarks.remark_in.Given as goal

abbrev pub invariant-loop-token : goal.invariant-loop-token
invariant-loop-token l = remark_in (drop l.token-index l.tokens) ≡ remark_in l.tokens
