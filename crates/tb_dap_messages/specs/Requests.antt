-- What messages ask for.
use Rattle.std.specs.Prelude.{ℕ, List, codes, Option, Some, None, option_and_then, option_map, if◌then◌else◌}
use Rattle.std.specs.Prelude.{◌||◌}
use Rattle.std.specs.Str.{bytes_eq}
use Rattle.serde_json.specs.Data.{Data}
use Rattle.serde_json.specs.Find.{as_number, as_str, as_u64, get}
use Rattle.serde_json.specs.View.{view}
use Rattle.tb_dap_messages.specs.declared.requests.Message.{Message}
use Rattle.tb_dap_messages.specs.declared.requests.Message.TheVariants as message

-- what a message asks for: a command by its number and with its arguments; nothing, as it answers or tells something; or it is
-- no message
pub data Asked : Type 0 where
  request : (seq : ℕ) (command : List ℕ) → Option Data → Asked
  passed : Asked
  no_message : Asked

-- a message that was read, as what it asks for
abbrev pub asked_of : Message → Asked
asked_of (message.Request seq command arguments) = request seq command.now (option_map (λ v. view v.now) arguments)
asked_of message.Passed = passed
asked_of message.NoMessage = no_message

-- a text that is a member of a value
abbrev pub text_in : Data → List ℕ → Option (List ℕ)
text_in d name = option_and_then as_str (get name d)

-- a message with this number, by its command
abbrev pub commanded : Data → ℕ → Option (List ℕ) → Asked
commanded d seq (Some command) = request seq command (get (codes "arguments") d)
commanded d seq None = no_message

-- a message with this number, by the command that it names
abbrev pub numbered : Data → ℕ → Asked
numbered d seq = commanded d seq (text_in d (codes "command"))

-- a request, by its number
abbrev pub request_by : Data → Option ℕ → Asked
request_by d (Some seq) = numbered d seq
request_by d None = no_message

-- a request: its number is an integer from 0, and its command a text
abbrev pub request_in : Data → Asked
request_in d = request_by d (option_and_then (λ v. option_and_then as_u64 (as_number v)) (get (codes "seq") d))

-- a message, by its type
abbrev pub asked_by : Data → Option (List ℕ) → Asked
asked_by d (Some kind) =
    if bytes_eq kind (codes "request") then request_in d
    else if bytes_eq kind (codes "response") || bytes_eq kind (codes "event") then passed
    else no_message
asked_by d None = no_message

-- what a message asks for
abbrev pub asked_in : Data → Asked
asked_in d = asked_by d (text_in d (codes "type"))
