-- What a function promises that writes code.
use Rattle.std.specs.Prelude.{◌≡◌, Result, OnOk, List, ◌++◌, map}
use Rattle.std.specs.declared.vec.Vec.{Vec}
use Rattle.std.specs.declared.alloc.Global.{Global}
use Rattle.tb_asm.specs.declared.items.Item.{Item}
use Rattle.tb_asm.specs.Layout.{Entry, entry_of}

-- if the call succeeds, these items follow those that were there
abbrev pub Puts : {T E : Type 0} → Result T E → Vec Item Global → Vec Item Global → List Entry → Type 0
Puts result old new entries = OnOk result (map entry_of new.items ≡ map entry_of old.items ++ entries)
