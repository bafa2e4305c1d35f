-- Why a PRG file is not played.
use Rattle.std.proofs.Common.{ℕ, List, [], Err}
use Rattle.tb_engines.specs.Delivery.{outcome_without}
use Rattle.tb_engines.specs.Programs.{StartsPrg}
use Rattle.tb_engines.specs.declared.delivery.NoText.{NoText}
use Rattle.tb_engines.specs.declared.delivery.NoText.TheVariants.{Refused, NoMemory}
use Rattle.tb_engine_screen.specs.Files.{IsUnplayed}

pub unplayed : (file : List ℕ) (stop : NoText) → StartsPrg [] [] file (Err stop) → IsUnplayed file (outcome_without stop)
unplayed file (Refused e) refused = refused
unplayed file NoMemory none = tt
