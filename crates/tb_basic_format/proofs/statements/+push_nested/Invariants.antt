-- What decreases when `push_nested`, `push_by_word`, `push_conditional` and `push_guarded` in src/statements.rt call one
-- another.
use Rattle.std.proofs.Common.{◌+◌, ◌*◌}
use Rattle.tb_basic_format.proofs.statements.+push_nested.Given as goal

abbrev pub decreases-push_nested : goal.decreases-push_nested
decreases-push_nested l = 4 * l.nesting

abbrev pub decreases-push_by_word : goal.decreases-push_by_word
decreases-push_by_word l = 4 * l.nesting + 3

abbrev pub decreases-push_conditional : goal.decreases-push_conditional
decreases-push_conditional l = 4 * l.nesting + 2

abbrev pub decreases-push_guarded : goal.decreases-push_guarded
decreases-push_guarded l = 4 * l.nesting + 1
