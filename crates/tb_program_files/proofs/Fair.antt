-- What the maker of disks answers is no fault of a file.
use Rattle.std.proofs.Common.{List, ℕ, Vec, Result, Ok, Err, IfErr, MatchResult}
use Rattle.std.specs.declared.alloc.Global.{Global}
use Rattle.tb_engine_files.specs.Deeds.{IsNoFault}
use Rattle.tb_engine_streams.specs.declared.outcome.Outcome.TheVariants.{Ended, Refused, ReadFault, WriteFault, NoMemory}
use Rattle.tb_machine_disk.specs.declared.names.Name.{Name}
use Rattle.tb_engine_disk.specs.Outcomes.{DiskFailure}
use Rattle.tb_engine_disk.specs.Files.{Adds, HasNoImage, NamesNext}
use Rattle.tb_engine_disk.specs.declared.files.DiskFiles.{DiskFiles}

-- why a file gets no name
pub name_fair : (d : DiskFiles) (path : List ℕ) (r : Result Name DiskFailure) → NamesNext d path r → IfErr r IsNoFault
name_fair d path (Ok name) named = tt
name_fair d path (Err (Ended never)) named = tt
name_fair d path (Err (Refused e)) named = tt
name_fair d path (Err ReadFault) none = none
name_fair d path (Err WriteFault) none = none
name_fair d path (Err NoMemory) named = tt

-- why a file is not taken in
pub add_fair : (d : DiskFiles) (name : Name) (bytes : List ℕ) (r : Result DiskFiles DiskFailure) → Adds d name bytes r → IfErr r IsNoFault
add_fair d name bytes (Ok new) added = tt
add_fair d name bytes (Err (Ended never)) added = tt
add_fair d name bytes (Err (Refused e)) added = tt
add_fair d name bytes (Err ReadFault) none = none
add_fair d name bytes (Err WriteFault) none = none
add_fair d name bytes (Err NoMemory) added = tt

-- why there is no image
pub image_fair : (d : DiskFiles) (e : DiskFailure) → HasNoImage d e → IsNoFault e
image_fair d (Ended never) none = tt
image_fair d (Refused e) full = tt
image_fair d ReadFault none = none
image_fair d WriteFault none = none
image_fair d NoMemory lacks = tt

-- no answer of the maker of disks is a fault
pub ruleset fair = (name_fair, add_fair, image_fair)
