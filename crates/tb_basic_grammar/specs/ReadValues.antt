-- How the program's values are seen.
use Rattle.std.specs.Prelude.{◌≡◌, [], Option, Some, None, Result, Ok, Err}
use Rattle.tb_basic_syntax.specs.PlainData.{expression_of, item_of, statement_of}
use Rattle.tb_basic_grammar.specs.declared.expressions.Front.{Front}
use Rattle.tb_basic_grammar.specs.declared.expressions.ReadExpression.{ReadExpression}
use Rattle.tb_basic_grammar.specs.declared.items.FrontItem.{FrontItem}
use Rattle.tb_basic_grammar.specs.declared.statements.ReadStatement.{ReadStatement}
use Rattle.tb_basic_grammar.specs.declared.read_error.ReadError.{ReadError}
use Rattle.tb_basic_grammar.specs.declared.read_error.ReadError.TheVariants as stop
use Rattle.tb_basic_grammar.specs.Reading.{Found}
use Rattle.tb_basic_grammar.specs.StatementReading.{FoundItem, Told}

-- an expression that was read at the front of a text, with what is left after it
abbrev pub seen : Front → Found
seen f = record { tree = expression_of f.expr; large = f.large; rest = f.rest.now }

-- an expression that is a whole text, with nothing left after it
abbrev pub whole_seen : ReadExpression → Found
whole_seen r = record { tree = expression_of r.expr; large = r.large; rest = [] }

-- an item of PRINT that was read at the front of a text, with what is left after it
abbrev pub item_seen : FrontItem → FoundItem
item_seen f = record { item = item_of f.item; large = f.large; rest = f.rest.now }

-- a statement that was read, and where its first literal above 65,535 begins
abbrev pub told : ReadStatement → Told
told r = record { statement = statement_of r.statement; large = r.large }

-- a call that stops says that reading gives nothing, unless memory ran out
abbrev pub Fails : {Y : Type 0} → ReadError → Option Y → Type 0
Fails stop.NoMemory read = Unit {0}
Fails (stop.NoReading left) read = read ≡ None

-- a call that succeeds gives, as view shows it, what reading gives; one that stops is as Fails says
abbrev pub Gives : {X Y : Type 0} → (X → Y) → Result X ReadError → Option Y → Type 0
Gives view (Ok x) read = read ≡ Some (view x)
Gives view (Err e) read = Fails e read

-- The answer is this one, unless memory ran out.
abbrev pub Answers : {X : Type 0} → Result X ReadError → (X → Type 0) → Type 0
Answers (Ok x) Is = Is x
Answers (Err stop.NoMemory) Is = Unit {0}
Answers (Err (stop.NoReading left)) Is = ⊥
