-- What messages ask for, and the contents that answer them.
use Rattle.std.specs.Prelude.{ℕ, ◌≡◌, ◌≤◌, Bool, true, ◌&&◌, ◌||◌, not, List, codes, Option, Some, None, Result, Ok, Err, option_and_then, option_map, if◌then◌else◌}
use Rattle.std.specs.Borrow.{Bor}
use Rattle.std.specs.Option.{is_some}
use Rattle.std.specs.Str.{IsUtf8}
use Rattle.serde_json.specs.Data.{Data, depth, member, no_members, number, object, string}
use Rattle.serde_json.specs.Find.{as_i64, as_number, as_str, as_u64, get, of_integer}
use Rattle.serde_json.specs.Read.{max_depth, read}
use Rattle.serde_json.specs.View.{view}
use Rattle.serde_json.specs.declared.value.Value.{Value}
use Rattle.tb_editor_messages.specs.Refusals.{code_of, text_of}
use Rattle.tb_editor_messages.specs.declared.messages.Message.{Message}
use Rattle.tb_editor_messages.specs.declared.messages.Message.TheVariants.{Request, Notification, Answer, NoMessage}
use Rattle.tb_editor_messages.specs.declared.messages.Unreadable.{Unreadable}
use Rattle.tb_editor_messages.specs.declared.messages.Unreadable.TheVariants.{NotJson, NoMemory}
use Rattle.tb_editor_messages.specs.declared.refusals.Refusal.{Refusal}

-- what reading a content answers
abbrev pub ReadsValue : List ℕ → Result Value Unreadable → Type 0
ReadsValue content (Ok value) = read content ≡ Some (view value)
ReadsValue content (Err NotJson) = IsUtf8 content → read content ≡ None
ReadsValue content (Err NoMemory) = Unit {0}

-- whether an id is an integer of 64 bits or a text
abbrev pub is_id : Data → Bool
is_id d = is_some (as_str d) || (is_some (option_and_then as_u64 (as_number d)) || is_some (option_and_then as_i64 (as_number d)))

-- an id that can be answered
abbrev pub good_id : Option Data → Option Data
good_id None = None
good_id (Some id) = if is_id id then Some id else None

-- a value that was found
abbrev pub seen : Option (Bor Value) → Option Data
seen found = option_map (λ v. view v.now) found

-- whether what has this method and this id is no message, by whether it has a result or an error
abbrev pub is_none : Option Data → Option Data → Bool → Bool
is_none None id answers = not answers
is_none (Some method) None answers = not (is_some (as_str method))
is_none (Some method) (Some id) answers = not (is_some (as_str method) && is_id id)

-- what is told of a message with these members, by whether it has a result or an error
abbrev pub TellsBy : (method id params : Option Data) → Bool → Message → Type 0
TellsBy method id params answers (Request i m p) =
    (option_and_then as_str method ≡ Some m.now) × (id ≡ Some (view i.now)) × (is_id (view i.now) ≡ true) × (seen p ≡ params)
TellsBy method id params answers (Notification m p) = (option_and_then as_str method ≡ Some m.now) × (id ≡ None) × (seen p ≡ params)
TellsBy method id params answers Answer = (method ≡ None) × (answers ≡ true)
TellsBy method id params answers (NoMessage i) = (is_none method id answers ≡ true) × (seen i ≡ good_id id)

-- whether it has a result or an error
abbrev pub answers : Data → Bool
answers d = is_some (get (codes "result") d) || is_some (get (codes "error") d)

-- what is told of a message
abbrev pub Tells : Data → Message → Type 0
Tells d m = TellsBy (get (codes "method") d) (get (codes "id") d) (get (codes "params") d) (answers d) m

-- a content reads, by JSON's grammar, as this, if it nests no deeper than a message may
abbrev pub Says : List ℕ → Data → Type 0
Says content d = depth d ≤ max_depth → read content ≡ Some d

-- the answer to a request
abbrev pub success_of : Data → Data → Data
success_of id answer = object (member (codes "id") id (member (codes "jsonrpc") (string (codes "2.0")) (member (codes "result") answer no_members)))

-- the answer that refuses a message
abbrev pub failure_of : Data → Refusal → Data
failure_of id refusal =
    object (member (codes "error") (object (member (codes "code") (number (of_integer (code_of refusal))) (member (codes "message") (string (text_of refusal)) no_members)))
    (member (codes "id") id (member (codes "jsonrpc") (string (codes "2.0")) no_members)))
