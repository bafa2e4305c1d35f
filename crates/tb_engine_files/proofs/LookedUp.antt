-- Paths that were looked up one after the other.
use Rattle.std.proofs.lemmas.List.Elements.{All-push, All-nil}

-- one more was looked up, or none yet
pub ruleset looked_up = (All-push, All-nil)
