-- What holds at each turn of the loop of `last_lines` in src/remaining.rt.
use Rattle.std.proofs.Common.{◌≡◌, ℕ, drop}
use Rattle.std.specs.Option.{option_or}
use Rattle.std.specs.BTreeMap as tree
use Rattle.std.specs.Ordering.{nat_cmp}
use Rattle.tb_engine_findings.specs.Warnings.{last_with}
use Rattle.tb_engine_findings.proofs.remaining.last_lines.Given as goal

-- the last one among the rest, or else that found before
abbrev pub invariant-loop-line : goal.invariant-loop-line
invariant-loop-line l = (n : ℕ) → option_or (last_with n (drop l.line-index l.lines)) (tree.get nat_cmp l.last n) ≡ last_with n l.lines
