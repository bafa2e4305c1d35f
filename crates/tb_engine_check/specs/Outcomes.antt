-- How checks end.
use Rattle.std.specs.Prelude.{ℕ}
use Rattle.tb_engine_streams.specs.declared.outcome.NoRefusal.{NoRefusal}
use Rattle.tb_engine_streams.specs.Numbers.{DONE, REFUSED}
use Rattle.tb_engine_streams.specs.declared.outcome.Outcome.{Outcome}
use Rattle.tb_engine_check.specs.declared.outcome.Checked.{Checked}
use Rattle.tb_engine_check.specs.declared.outcome.Checked.TheVariants.{Accepted, Refused}

-- how a check of sources ended
abbrev pub CheckOutcome : Type 0
CheckOutcome = Outcome Checked NoRefusal

-- the exit status by what a check found
abbrev pub status_of : Checked → ℕ
status_of Accepted = DONE
status_of Refused = REFUSED
