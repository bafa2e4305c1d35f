-- What is done with files, in its order.
use Rattle.std.specs.Prelude.{◌≡◌, ◌≢◌, ◌⊎◌, ℕ, List, [], ◌∷◌, map, take, Option, Result, Ok, Err}
use Rattle.std.specs.declared.alloc.Global.{Global}
use Rattle.std.specs.declared.vec.Vec.{Vec}
use Rattle.tb_engine_streams.specs.Outcomes.{Failure}
use Rattle.tb_engine_streams.specs.Streams.{MayPassMost, Reads}
use Rattle.tb_engine_streams.specs.declared.outcome.Outcome.{Outcome}
use Rattle.tb_engine_streams.specs.declared.outcome.Outcome.TheVariants.{Ended, Refused, ReadFault, WriteFault, NoMemory}
use Rattle.tb_engine_streams.specs.declared.stream.InputError.{InputError}
use Rattle.tb_engine_streams.specs.declared.stream.InputError.TheVariants as input
use Rattle.tb_engine_files.specs.declared.system.Trouble.{Trouble}
use Rattle.tb_engine_files.specs.declared.system.Trouble.TheVariants as trouble

-- a file is opened for reading; it is closed after so many of its reads failed; or one is opened for writing and given these
-- bytes; the first and the last with how that ended
pub data Deed : Type 0 where
  Opens : List ℕ → Result Unit Trouble → Deed
  Closes : List ℕ → ℕ → Deed
  Saves : List ℕ → List ℕ → Result Unit Trouble → Deed

-- how a deed ended, by what was answered
abbrev pub ending : {A : Type 0} → Result A Trouble → Result Unit Trouble
ending (Ok a) = Ok tt
ending (Err why) = Err why

-- a deed, but that it failed for this reason; a closing never fails
abbrev pub failed : Trouble → Deed → Deed
failed why (Opens path end) = Opens path (Err why)
failed why (Closes path n) = Closes path n
failed why (Saves path text end) = Saves path text (Err why)

-- from one state of the system to another exactly these deeds were done, in this order
abbrev pub Did : {F : Type 0} → (F → Deed → F → Type 0) → F → List Deed → F → Type 0
Did does f [] g = g ≡ f
Did does f (d ∷ ds) g = (h : _) × does f d h × Did does h ds g

-- some first ones of these deeds were done, the next one failed for this reason, and nothing else was done
abbrev pub BreaksOff : {F : Type 0} → (F → Deed → F → Type 0) → Trouble → F → List Deed → F → Type 0
BreaksOff does why f [] g = ⊥
BreaksOff does why f (d ∷ ds) g = does f (failed why d) g ⊎ ((h : _) × does f d h × BreaksOff does why h ds g)

-- a file is opened and closed, and so many of its reads fail
abbrev pub read_with : ℕ → List ℕ → List Deed
read_with n path = Opens path (Ok tt) ∷ Closes path n ∷ []

-- the files at these paths are read whole, in this order
abbrev pub all_read : List (List ℕ) → List Deed
all_read [] = []
all_read (p ∷ ps) = Opens p (Ok tt) ∷ Closes p 0 ∷ all_read ps

-- the files at these paths are written, each with its text, in this order
abbrev pub saved : List (List ℕ) → List (List ℕ) → List Deed
saved (p ∷ ps) (t ∷ ts) = Saves p t (Ok tt) ∷ saved ps ts
saved ps ts = []

-- the file at a path holds these bytes, as far as its reader tells
abbrev pub Holds : {F : Type 0} → (F → List ℕ → Option (List ℕ) → Type 0) → F → List ℕ → List ℕ → Type 0
Holds holds f path bytes = (had : Option (List ℕ)) × holds f path had × Reads had bytes

-- it holds more bytes than are taken, as far as its reader tells
abbrev pub HoldsTooMany : {F : Type 0} → (F → List ℕ → Option (List ℕ) → Type 0) → F → List ℕ → Type 0
HoldsTooMany holds f path = (had : Option (List ℕ)) × holds f path had × MayPassMost had

-- a file can't be read: it can't be opened, a read of it fails, or it holds too many bytes
abbrev pub CantRead : {F : Type 0} → (F → Deed → F → Type 0) → (F → List ℕ → Option (List ℕ) → Type 0) → F → List ℕ → F → Type 0
CantRead does holds f path g =
    does f (Opens path (Err trouble.Fault)) g ⊎ ((n : ℕ) × Did does f (read_with n path) g × ((n ≢ 0) ⊎ HoldsTooMany holds f path))

-- what reading gave, by its bytes
abbrev pub bytes_in : Result (Vec ℕ Global) InputError → Result (List ℕ) InputError
bytes_in (Ok text) = Ok text.items
bytes_in (Err why) = Err why

-- what reading a file did, by what it gave: all that the file holds, or why there is nothing
abbrev pub ReadsFile : {F : Type 0} → (F → Deed → F → Type 0) → (F → List ℕ → Option (List ℕ) → Type 0)
    → F → List ℕ → Result (List ℕ) InputError → F → Type 0
ReadsFile does holds f path (Ok bytes) g = Did does f (read_with 0 path) g × Holds holds f path bytes
ReadsFile does holds f path (Err input.Fault) g = CantRead does holds f path g
ReadsFile does holds f path (Err input.NoMemory) g = does f (Opens path (Err trouble.NoMemory)) g ⊎ Did does f (read_with 0 path) g

-- the files at these paths were read whole and nothing else was done, in this order, and each held these bytes
abbrev pub ReadsAll : {F : Type 0} → (F → Deed → F → Type 0) → (F → List ℕ → Option (List ℕ) → Type 0) → F → List (List ℕ) → List (List ℕ) → F → Type 0
ReadsAll does holds f [] [] g = g ≡ f
ReadsAll does holds f (p ∷ ps) (bytes ∷ all) g =
    Holds holds f p bytes × (h : _) × Did does f (read_with 0 p) h × ReadsAll does holds h ps all g
ReadsAll does holds f ps all g = ⊥

-- some first ones of these files were read whole, in this order, and nothing else was done
abbrev pub ReadsSome : {F : Type 0} → (F → Deed → F → Type 0) → F → List (List ℕ) → F → Type 0
ReadsSome does f paths g = (n : ℕ) × Did does f (all_read (take n paths)) g

-- some first ones of these files were read whole, the next one can't be read, and nothing else was done
abbrev pub FailsToRead : {F : Type 0} → (F → Deed → F → Type 0) → (F → List ℕ → Option (List ℕ) → Type 0) → F → List (List ℕ) → F → Type 0
FailsToRead does holds f [] g = ⊥
FailsToRead does holds f (p ∷ ps) g =
    CantRead does holds f p g ⊎ ((h : _) × Did does f (read_with 0 p) h × FailsToRead does holds h ps g)

-- nothing was made after some first ones of these files were read, by how that ended: a read fault is one of a file
abbrev pub MakesNothing : {F E R : Type 0} → (F → Deed → F → Type 0) → (F → List ℕ → Option (List ℕ) → Type 0)
    → F → List (List ℕ) → Outcome E R → F → Type 0
MakesNothing does holds f inputs (Ended end) g = ⊥
MakesNothing does holds f inputs (Refused e) g = ReadsSome does f inputs g
MakesNothing does holds f inputs ReadFault g = FailsToRead does holds f inputs g
MakesNothing does holds f inputs WriteFault g = ⊥
MakesNothing does holds f inputs NoMemory g = ReadsSome does f inputs g ⊎ BreaksOff does trouble.NoMemory f (all_read inputs) g

-- how writing the outputs ended, with how it ends if all are written: a write fault is one of a file
abbrev pub Writes : {F E R : Type 0} → (F → Deed → F → Type 0) → F → List (List ℕ) → E → List (List ℕ) → Outcome E R → F → Type 0
Writes does f outputs end texts (Ended e) g = (e ≡ end) × Did does f (saved outputs texts) g
Writes does f outputs end texts (Refused e) g = ⊥
Writes does f outputs end texts ReadFault g = ⊥
Writes does f outputs end texts WriteFault g = BreaksOff does trouble.Fault f (saved outputs texts) g
Writes does f outputs end texts NoMemory g = BreaksOff does trouble.NoMemory f (saved outputs texts) g

-- the inputs were read whole and nothing else was done, and of what they hold these texts are made
abbrev pub IsReady : {F : Type 0} → (F → Deed → F → Type 0) → (F → List ℕ → Option (List ℕ) → Type 0) → (List (List ℕ) → List (List ℕ) → Type 0)
    → F → List (List ℕ) → List (List ℕ) → F → Type 0
IsReady does holds makes f inputs texts g = (all : List (List ℕ)) × makes all texts × ReadsAll does holds f inputs all g

-- all was made of the inputs, and then the outputs were written, up to one that can't be
abbrev pub MakesAll : {F E R : Type 0} → (F → Deed → F → Type 0) → (F → List ℕ → Option (List ℕ) → Type 0) → (E → List (List ℕ) → List (List ℕ) → Type 0)
    → F → List (List ℕ) → List (List ℕ) → Outcome E R → F → Type 0
MakesAll {F} {E} does holds makes f inputs outputs outcome g =
    (end : E) × (h : F) × (texts : List (List ℕ)) × IsReady does holds (makes end) f inputs texts h × Writes does h outputs end texts outcome g

-- What a command did with files, by how it ended. `makes` says which texts are made, and how it ends with them, by what its
-- inputs hold. Either nothing was made, or all was, and then each output was written with its text. So nothing is opened for
-- writing before all is made, a read fault is one of an input, and a write fault one of an output.
abbrev pub Transfers : {F E R : Type 0} → (F → Deed → F → Type 0) → (F → List ℕ → Option (List ℕ) → Type 0) → (E → List (List ℕ) → List (List ℕ) → Type 0)
    → F → List (List ℕ) → List (List ℕ) → Outcome E R → F → Type 0
Transfers does holds makes f inputs outputs outcome g =
    MakesNothing does holds f inputs outcome g ⊎ MakesAll does holds makes f inputs outputs outcome g

-- it is no fault: a refusal, or want of memory
abbrev pub IsNoFault : {E R : Type 0} → Outcome E R → Type 0
IsNoFault (Ended end) = Unit {0}
IsNoFault (Refused e) = Unit {0}
IsNoFault ReadFault = ⊥
IsNoFault WriteFault = ⊥
IsNoFault NoMemory = Unit {0}

-- this is so of a refusal
abbrev pub IfRefused : {E R : Type 0} → Outcome E R → (R → Type 0) → Type 0
IfRefused (Ended end) so = Unit {0}
IfRefused (Refused e) so = so e
IfRefused ReadFault so = Unit {0}
IfRefused WriteFault so = Unit {0}
IfRefused NoMemory so = Unit {0}

-- what a maker makes of the bytes of an input: how the command ends, with all texts; or why there are none
abbrev pub Product : Type 0 → Type 0 → Type 0
Product E R = Result (E × List (List ℕ)) R

-- what was made; there is nothing if memory ran out, and no file fails here
abbrev pub Makes : {E R : Type 0} → (Product E R → Type 0) → Result (E × Vec (Vec ℕ Global) Global) (Failure R) → Type 0
Makes makes (Ok made) = makes (Ok (made.0, map (λ t. t.items) made.1.items))
Makes makes (Err (Refused e)) = makes (Err e)
Makes makes (Err ReadFault) = ⊥
Makes makes (Err WriteFault) = ⊥
Makes makes (Err NoMemory) = Unit {0}
Makes makes (Err (Ended never)) = Unit {0}

-- a command has one input, and this is made of its bytes
abbrev pub OfOne : {E R : Type 0} → (List ℕ → Product E R → Type 0) → E → List (List ℕ) → List (List ℕ) → Type 0
OfOne makes end (bytes ∷ []) texts = makes bytes (Ok (end, texts))
OfOne makes end all texts = ⊥

-- a refusal is what is made of bytes that the file at a path holds
abbrev pub Refuses : {F E R : Type 0} → (F → List ℕ → Option (List ℕ) → Type 0) → (List ℕ → Product E R → Type 0) → F → List ℕ → Outcome E R → Type 0
Refuses {F} {E} {R} holds makes f path outcome = IfRefused outcome (λ e. (bytes : List ℕ) × Holds holds f path bytes × makes bytes (Err e))

-- a work took these inputs in, one after the other, each with its bytes
abbrev pub TakesAll : {W : Type 0} → (W → List ℕ → List ℕ → W → Type 0) → W → List (List ℕ) → List (List ℕ) → W → Type 0
TakesAll takes w [] [] v = v ≡ w
TakesAll takes w (p ∷ ps) (bytes ∷ all) v = (u : _) × takes w p bytes u × TakesAll takes u ps all v
TakesAll takes w ps all v = ⊥

-- a work makes these texts of inputs at these paths, by what they hold
abbrev pub Works : {W E : Type 0} → (W → List ℕ → List ℕ → W → Type 0) → (W → E → List (List ℕ) → Type 0)
    → W → List (List ℕ) → E → List (List ℕ) → List (List ℕ) → Type 0
Works takes makes w inputs end all texts = (v : _) × TakesAll takes w inputs all v × makes v end texts
