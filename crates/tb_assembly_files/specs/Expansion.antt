-- The statements of a text with those of the files that it includes, line by line, or all that is wrong with the lines.
use Rattle.std.specs.Prelude.{◌≡◌, ℕ, zero, suc, ◌+◌, ◌-◌, Bool, Option, Some, None, Result, Ok, Err, List, [], ◌∷◌, ◌++◌, map, length, take, replicate, nat_le, eqb, if◌then◌else◌}
use Rattle.std.specs.List.{list_any, slice_get}
use Rattle.tb_basic_text.specs.Lines.{lines_of_file}
use Rattle.tb_assembly_text.specs.declared.faults.Fault.{Fault}
use Rattle.tb_assembly_text.specs.Tokens.{Placed, tokens_of}
use Rattle.tb_assembly_text.specs.Statements.{Said, said_of, includes}
use Rattle.tb_assembly_text.specs.Lines.{said_in, scope_of_line}
use Rattle.tb_assembly_text.specs.declared.statements.Statement.{Statement}
use Rattle.std.specs.declared.alloc.Global.{Global}
use Rattle.std.specs.declared.vec.Vec.{Vec}
use Rattle.tb_assembly_files.specs.declared.faults.Place.{Place}
use Rattle.tb_assembly_files.specs.declared.faults.IncludeFault.{IncludeFault}
use Rattle.tb_assembly_files.specs.declared.faults.IncludeFault.TheVariants.{Circle, TooDeep, TooMany, Unread}
use Rattle.tb_assembly_files.specs.declared.faults.Problem.{Problem}
use Rattle.tb_assembly_files.specs.declared.faults.Problem.TheVariants.{Line, Include}
use Rattle.tb_assembly_files.specs.declared.faults.BadLine.{BadLine}
use Rattle.tb_assembly_files.specs.Numbers.{MOST_LINES, DEEPEST}
use Rattle.tb_assembly_files.specs.declared.expanding.Included.{Included}
use Rattle.tb_assembly_files.specs.declared.expanding.Reading.{Reading}
use Rattle.tb_assembly_files.specs.declared.expanding.Stop.{Stop}
use Rattle.tb_assembly_files.specs.declared.expanding.Stop.TheVariants.{Wants, NoMemory}
use Rattle.tb_assembly_files.specs.Paths.{beside}
use Rattle.tb_assembly_files.specs.Libraries.{Source, found, path_at, text_at}

-- what was read: the last plain label, the statements with their places, what is wrong, and how many lines it were
pub record Read : Type 0 where
  pub scope : List ℕ
  pub said : List Said
  pub places : List Place
  pub bad : List BadLine
  pub lines : ℕ

-- a `Reading` of the code as what was read
abbrev pub read_of : Reading → Read
read_of r = record { scope = r.scope.items; said = map said_of r.statements.items; places = r.places.items; bad = r.bad.items; lines = r.lines }

-- what was read behind a step, or the path of a file that is wanted
abbrev pub Course : Type 0
Course = Result Read (List ℕ)

-- what comes next, unless a file is wanted
abbrev pub then_read : Course → (Read → Course) → Course
then_read (Ok r) go = go r
then_read (Err p) go = Err p

-- one more that is wrong
abbrev pub with_bad : Read → Place → ℕ → Problem → Read
with_bad r place c what = record (r) { bad = r.bad ++ record { place = place; column = c; problem = what } ∷ [] }

-- one more include that is refused
abbrev pub refused : Read → Place → ℕ → IncludeFault → Course
refused r place c what = Ok (with_bad r place c (Include what))

-- the statements of a line at a place behind the others
abbrev pub with_said : Read → Place → List Said → Read
with_said r place ss = record (r) { said = r.said ++ ss; places = r.places ++ replicate (length ss) place }

-- the path of a statement that is an include, with its column
abbrev pub include_in : Option Said → Option (ℕ × List ℕ)
include_in (Some (c, includes p)) = Some (c, p)
include_in s = None

-- an include of the code as contracts see it
abbrev pub included_of : Included → ℕ × List ℕ
included_of i = (i.column, i.name.items)

-- the include with which the statements of a line end
abbrev pub last_include : List Said → Option (ℕ × List ℕ)
last_include ss = include_in (slice_get ss (length ss - 1))

-- all but the last one
abbrev pub front : List Said → List Said
front ss = take (length ss - 1) ss

-- what an include at a place and a column makes of what was read
abbrev pub Including : Type 0
Including = Place → ℕ → List ℕ → Read → Course

-- the statements of a line; what it includes stands in its place
abbrev pub by_include : Including → Place → List Said → Option (ℕ × List ℕ) → Read → Course
by_include inc place ss None r = Ok (with_said r place ss)
by_include inc place ss (Some (c, p)) r = inc place c p (with_said r place (front ss))

-- the last plain label behind a line, by its tokens
abbrev pub scope_by : List ℕ → Result (List Placed) Fault → List ℕ
scope_by scope (Ok ts) = scope_of_line scope ts
scope_by scope (Err f) = scope

-- a line that is read, or is bad: then names belong to no label behind it
abbrev pub by_line : Including → Place → List ℕ → Result (List Said) Fault → Read → Course
by_line inc place line (Ok ss) r = by_include inc place ss (last_include ss) (record (r) { scope = scope_by r.scope (tokens_of line) })
by_line inc place line (Err f) r = Ok (with_bad (record (r) { scope = [] }) place f.column (Line f.kind))

-- a line
abbrev pub line_read : Including → Place → List ℕ → Read → Course
line_read inc place line r = by_line inc place line (said_in r.scope line) (record (r) { lines = r.lines + 1 })

-- a line of a file, counted from 1
abbrev pub place_of : ℕ → ℕ → Place
place_of file n = record { file = file; line = n }

-- lines of a file, of which the first has the number n
abbrev pub lines_read : Including → ℕ → ℕ → List (List ℕ) → Read → Course
lines_read inc file n [] r = Ok r
lines_read inc file n (l ∷ ls) r = then_read (line_read inc (place_of file n) l r) (lines_read inc file (n + 1) ls)

-- a file that may have no text
abbrev pub by_text : (ℕ → List ℕ → Read → Course) → Place → ℕ → ℕ → Option (List ℕ) → Read → Course
by_text go place c i None r = refused r place c Unread
by_text go place c i (Some text) r = go i text r

-- why a file is not included by those that are being read: it is one of them, or too many lines were read
abbrev pub file_fault : List ℕ → ℕ → ℕ → Option IncludeFault
file_fault chain lines i = if list_any (λ j. eqb j i) chain then Some Circle else if nat_le MOST_LINES lines then Some TooMany else None

-- a file that is included, or not
abbrev pub by_fault : (ℕ → List ℕ → Read → Course) → Option IncludeFault → Place → ℕ → ℕ → Option (List ℕ) → Read → Course
by_fault go (Some what) place c i text r = refused r place c what
by_fault go None place c i text r = by_text go place c i text r

-- a file by its path, which is wanted if it is not there
abbrev pub by_path : (ℕ → List ℕ → Read → Course) → List Source → List ℕ → Place → ℕ → List ℕ → Option ℕ → Read → Course
by_path go lib chain place c path None r = Err path
by_path go lib chain place c path (Some i) r = by_fault go (file_fault chain r.lines i) place c i (text_at lib i) r

-- a file by its name in another one
abbrev pub by_name : (ℕ → List ℕ → Read → Course) → List Source → List ℕ → Place → ℕ → List ℕ → Read → Course
by_name go lib chain place c name r = let path = beside (path_at lib place.file) name in by_path go lib chain place c path (found path lib) r

-- what an include makes of what was read, by how deep it may be and by the files that are being read
abbrev pub including : ℕ → List Source → List ℕ → Including
including zero lib chain place c name r = refused r place c TooDeep
including (suc depth) lib chain place c name r =
    by_name (λ i text s. lines_read (including depth lib (i ∷ chain)) i 1 (lines_of_file text) s) lib chain place c name r

-- before the first line
abbrev pub nothing_read : Read
nothing_read = record { scope = []; said = []; places = []; bad = []; lines = 0 }

-- a text, if it could be read
abbrev pub text_read : List Source → Option (List ℕ) → Option Course
text_read lib None = None
text_read lib (Some text) = Some (lines_read (including DEEPEST lib (0 ∷ [])) 0 1 (lines_of_file text) nothing_read)

-- the first file of a library, with all that it includes
abbrev pub expansion : List Source → Option Course
expansion lib = text_read lib (text_at lib 0)

-- a state is reached, or a file is wanted, or memory ran out
abbrev pub Reaches : {U : Type 0} → Course → Result U Stop → Read → Type 0
Reaches wanted (Ok u) new = wanted ≡ Ok new
Reaches wanted (Err (Wants p)) new = wanted ≡ Err p.items
Reaches wanted (Err NoMemory) new = Unit {0}

-- a line was read: its statements, or that it is bad; or memory ran out
abbrev pub Parses : Place → List ℕ → Read → Result (Option (Vec Statement Global)) Stop → Read → Type 0
Parses place line r (Ok (Some ss)) new =
    (said_in r.scope line ≡ Ok (map said_of ss.items)) × (new ≡ record (r) { scope = scope_by r.scope (tokens_of line); lines = r.lines + 1 })
Parses place line r (Ok None) new =
    (f : Fault) × (said_in r.scope line ≡ Err f) × (new ≡ with_bad (record (r) { scope = []; lines = r.lines + 1 }) place f.column (Line f.kind))
Parses place line r (Err (Wants p)) new = ⊥
Parses place line r (Err NoMemory) new = Unit {0}

-- the whole was read, or could not be read, or a file is wanted, or memory ran out
abbrev pub Expands : Option Course → Result (Option Reading) Stop → Type 0
Expands wanted (Ok None) = wanted ≡ None
Expands wanted (Ok (Some r)) = wanted ≡ Some (Ok (read_of r))
Expands wanted (Err (Wants p)) = wanted ≡ Some (Err p.items)
Expands wanted (Err NoMemory) = Unit {0}
