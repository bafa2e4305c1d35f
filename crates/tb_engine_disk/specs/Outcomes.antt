-- How making disks ends.
use Rattle.tb_engine_streams.specs.Outcomes.{Failure}
use Rattle.tb_engine_disk.specs.declared.outcome.DiskRefusal.{DiskRefusal}

-- why there is no name, no file or no image
abbrev pub DiskFailure : Type 0
DiskFailure = Failure DiskRefusal
