-- What holds at each turn of the loop of `squeeze` in src/squeeze.rt.
use Rattle.std.proofs.Common.{◌≡◌, ◌++◌, ◌+◌, ◌≤◌, drop, length, vec_len, vec_capacity}
use Rattle.tb_parser.specs.Squeezed.{squeezed_from}
use Rattle.tb_parser.specs.declared.squeeze.Mode.TheVariants.{Code}
use Rattle.tb_parser.proofs.squeeze.squeeze.Given as goal

abbrev pub invariant-loop-i : goal.invariant-loop-i
invariant-loop-i l = record {
  walked : l.placed.items ++ squeezed_from l.mode (l.i + 1) (drop l.i l.line) ≡ squeezed_from Code 1 l.line;
  few : vec_len l.placed ≤ l.i;
  room : length l.line ≤ vec_capacity l.placed;
}
