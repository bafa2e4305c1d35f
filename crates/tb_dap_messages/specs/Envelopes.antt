-- The contents of answers and events.
use Rattle.std.specs.Prelude.{ℕ, Bool, true, false, List, codes, Option, Some, None}
use Rattle.serde_json.specs.Data.{Data, Members, boolean, member, no_members, number, object, string, unsigned}

-- members after a body, if there is one
abbrev pub with_body : Option Data → Members → Members
with_body (Some body) ms = member (codes "body") body ms
with_body None ms = ms

-- the answer with this number to a request by its number and its command
abbrev pub success_of : (seq asked : ℕ) → List ℕ → Option Data → Data
success_of seq asked command body =
    object (with_body body (member (codes "command") (string command) (member (codes "request_seq") (number (unsigned asked))
    (member (codes "seq") (number (unsigned seq)) (member (codes "success") (boolean true) (member (codes "type") (string (codes "response")) no_members))))))

-- why a request is refused: a text, and whether a user is to see it
abbrev pub reason_of : List ℕ → Bool → Data
reason_of text is_shown =
    object (member (codes "error") (object (member (codes "format") (string text) (member (codes "id") (number (unsigned 1))
    (member (codes "showUser") (boolean is_shown) no_members)))) no_members)

-- the answer that refuses a request
abbrev pub failure_of : (seq asked : ℕ) → (command text : List ℕ) → Bool → Data
failure_of seq asked command text is_shown =
    object (member (codes "body") (reason_of text is_shown) (member (codes "command") (string command) (member (codes "message") (string text)
    (member (codes "request_seq") (number (unsigned asked)) (member (codes "seq") (number (unsigned seq))
    (member (codes "success") (boolean false) (member (codes "type") (string (codes "response")) no_members)))))))

-- an event
abbrev pub event_of : ℕ → List ℕ → Option Data → Data
event_of seq name body =
    object (with_body body (member (codes "event") (string name) (member (codes "seq") (number (unsigned seq))
    (member (codes "type") (string (codes "event")) no_members))))
