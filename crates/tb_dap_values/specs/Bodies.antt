-- Bodies of answers and events.
use Rattle.std.specs.Prelude.{ℕ, true, false, List, codes}
use Rattle.serde_json.specs.Data.{Data, Items, array, boolean, item, member, no_items, no_members, number, object, string, unsigned}

-- what the adapter supports
abbrev pub capabilities_body : Data
capabilities_body =
    object (member (codes "supportsConfigurationDoneRequest") (boolean true) (member (codes "supportsDataBreakpoints") (boolean true)
    (member (codes "supportsDisassembleRequest") (boolean true) (member (codes "supportsEvaluateForHovers") (boolean true)
    (member (codes "supportsReadMemoryRequest") (boolean true) (member (codes "supportsStepBack") (boolean true)
    (member (codes "supportsSteppingGranularity") (boolean true)
    (member (codes "supportsTerminateRequest") (boolean true) no_members))))))))

-- a text that is written in a category
abbrev pub output_body : List ℕ → List ℕ → Data
output_body category text =
    object (member (codes "category") (string category) (member (codes "output") (string text) no_members))

-- that a run stopped, and why
abbrev pub stopped_body : List ℕ → List ℕ → Data
stopped_body reason description =
    object (member (codes "allThreadsStopped") (boolean true) (member (codes "description") (string description)
    (member (codes "reason") (string reason) (member (codes "threadId") (number (unsigned 1)) no_members))))

-- that a run stopped at the breakpoint of a line
abbrev pub stopped_at_body : List ℕ → ℕ → Data
stopped_at_body description line =
    object (member (codes "allThreadsStopped") (boolean true) (member (codes "description") (string description)
    (member (codes "hitBreakpointIds") (array (item (number (unsigned line)) no_items))
    (member (codes "reason") (string (codes "breakpoint")) (member (codes "threadId") (number (unsigned 1)) no_members)))))

-- that a run goes on
abbrev pub continued_body : Data
continued_body =
    object (member (codes "threadId") (number (unsigned 1)) no_members)

-- that a run goes on with all its threads
abbrev pub all_continued_body : Data
all_continued_body =
    object (member (codes "allThreadsContinued") (boolean true) no_members)

-- how a run ended
abbrev pub exited_body : ℕ → Data
exited_body code =
    object (member (codes "exitCode") (number (unsigned code)) no_members)

-- the only thread
abbrev pub threads_body : List ℕ → Data
threads_body name =
    object (member (codes "threads") (array (item (object (member (codes "id") (number (unsigned 1))
    (member (codes "name") (string name) no_members))) no_items)) no_members)

-- a file
abbrev pub source_value : List ℕ → List ℕ → Data
source_value name path =
    object (member (codes "name") (string name) (member (codes "path") (string path) no_members))

-- the frame before the first line, with where its code is
abbrev pub start_value : List ℕ → Data
start_value address =
    object (member (codes "column") (number (unsigned 0)) (member (codes "id") (number (unsigned 1))
    (member (codes "instructionPointerReference") (string address) (member (codes "line") (number (unsigned 0))
    (member (codes "name") (string (codes "start")) no_members)))))

-- a frame at a line of a file, with where its code is, and the line as it is written
abbrev pub frame_value : ℕ → ℕ → List ℕ → List ℕ → Data → Data
frame_value id line text address source =
    object (member (codes "column") (number (unsigned 1)) (member (codes "id") (number (unsigned id))
    (member (codes "instructionPointerReference") (string address) (member (codes "line") (number (unsigned line))
    (member (codes "name") (string text) (member (codes "source") source no_members))))))

-- frames, of so many in all
abbrev pub stack_body : Items → ℕ → Data
stack_body frames count =
    object (member (codes "stackFrames") (array frames) (member (codes "totalFrames") (number (unsigned count)) no_members))

-- a scope, by a name and the number that asks for what it shows
abbrev pub scope_value : List ℕ → ℕ → Data
scope_value name reference =
    object (member (codes "expensive") (boolean false) (member (codes "name") (string name)
    (member (codes "variablesReference") (number (unsigned reference)) no_members)))

-- a variable of the program, with its value and where it is
abbrev pub variable_value : List ℕ → List ℕ → List ℕ → Data
variable_value name value address =
    object (member (codes "evaluateName") (string name) (member (codes "memoryReference") (string address)
    (member (codes "name") (string name) (member (codes "type") (string (codes "word")) (member (codes "value") (string value)
    (member (codes "variablesReference") (number (unsigned 0)) no_members))))))

-- anything else that has a name and a text
abbrev pub named_value : List ℕ → List ℕ → Data
named_value name value =
    object (member (codes "name") (string name) (member (codes "value") (string value)
    (member (codes "variablesReference") (number (unsigned 0)) no_members)))

-- what a scope shows
abbrev pub variables_body : Items → Data
variables_body values =
    object (member (codes "variables") (array values) no_members)

-- the value of an expression
abbrev pub value_body : List ℕ → Data
value_body value =
    object (member (codes "result") (string value) (member (codes "type") (string (codes "word"))
    (member (codes "variablesReference") (number (unsigned 0)) no_members)))

-- that something was typed
abbrev pub typed_body : Data
typed_body =
    object (member (codes "result") (string (codes "typed")) (member (codes "variablesReference") (number (unsigned 0)) no_members))

-- bytes from an address on in base64, and how many more can't be read
abbrev pub memory_body : List ℕ → List ℕ → ℕ → Data
memory_body address bytes unreadable =
    object (member (codes "address") (string address) (member (codes "data") (string bytes)
    (member (codes "unreadableBytes") (number (unsigned unreadable)) no_members)))

-- what each frame shows
abbrev pub scopes_body : Data
scopes_body =
    object (member (codes "scopes") (array (item (scope_value (codes "Variables") 1) (item (scope_value (codes "Registers") 2)
    (item (scope_value (codes "Run") 3) no_items)))) no_members)
