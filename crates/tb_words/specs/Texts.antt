-- What a function promises that appends to a text.
use Rattle.std.specs.Prelude.{◌≡◌, ℕ, Result, OnOk, List, ◌++◌}
use Rattle.std.specs.declared.vec.Vec.{Vec}
use Rattle.std.specs.declared.alloc.Global.{Global}

-- if the call succeeds, these bytes follow those that were there
abbrev pub AppendsBytes : {T E : Type 0} → Result T E → Vec ℕ Global → Vec ℕ Global → List ℕ → Type 0
AppendsBytes result old new bytes = OnOk result (new.items ≡ old.items ++ bytes)
