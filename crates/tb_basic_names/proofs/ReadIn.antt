-- Lines that are read in one notation.
use Rattle.std.proofs.lemmas.List.Elements.{All-nil, All-push}

-- one more was read, or none yet
pub ruleset all_read = (All-nil, All-push)
