-- What requests ask for, and the answers to those that only look.
use Rattle.std.specs.Prelude.{ℕ, ◌-◌, ◌&&◌, ◌==◌, Bool, false, not, nat_le, List, [], ◌∷◌, codes, Option, Some, None, option_and_then, option_map, if◌then◌else◌}
use Rattle.std.specs.Char.{encode_utf8}
use Rattle.std.specs.Str.{bytes_eq}
use Rattle.serde_json.specs.Data.{Data}
use Rattle.serde_json.specs.Find.{as_number, as_u64, get}
use Rattle.tb_dap_messages.specs.Refusals.{text_of}
use Rattle.tb_dap_messages.specs.declared.refusals.Refusal.TheVariants.{BadArguments}
use Rattle.tb_dap_values.specs.Arguments.{number_in, offset_in, optional_text, text_in}
use Rattle.tb_dap_values.specs.Stops.{unwatchable_body, watchable_body}
use Rattle.tb_dap_views.specs.Code.{code_of}
use Rattle.tb_dap_views.specs.Frames.{stack_of}
use Rattle.tb_dap_views.specs.Memory.{memory_of, shifted}
use Rattle.tb_dap_views.specs.Scopes.{scope_of}
use Rattle.tb_dap_views.specs.Texts.{place_of}
use Rattle.tb_dap_views.specs.declared.code.CodeRange.{CodeRange}
use Rattle.tb_dap_views.specs.declared.sources.SourceFile.{SourceFile}
use Rattle.tb_debug.specs.declared.debugger.Debugger.{Debugger}
use Rattle.tb_kernal.specs.Machine.{state_of}
use Rattle.tb_dap_requests.specs.Said.{Saying, done, refused}
use Rattle.tb_dap_requests.specs.declared.asking.Question.{Question}
use Rattle.tb_dap_requests.specs.declared.asking.Question.TheVariants as question

-- what `evaluate` asks for: a line is typed, or the value of an expression is asked for
pub data Evaluation : Type 0 where
  typed : List ℕ → Evaluation
  expression : List ℕ → Evaluation

abbrev pub asked_by : Question → Evaluation
asked_by (question.Typed line) = typed line.now
asked_by (question.Expression text) = expression text.now

-- a text without one space before it
abbrev pub without_space : List ℕ → List ℕ
without_space [] = []
without_space (b ∷ bs) = if b == 32 then bs else b ∷ bs

-- what a text in the console asks for
abbrev pub console_question : List ℕ → Evaluation
console_question [] = expression []
console_question (b ∷ bs) = if b == 62 then typed (without_space bs) else expression (b ∷ bs)

-- what a text in a context asks for
abbrev pub question_by : Option (List ℕ) → List ℕ → Evaluation
question_by (Some context) text = if bytes_eq context (codes "repl") then console_question text else expression text
question_by None text = expression text

-- what `evaluate` asks for
abbrev pub question_in : Data → Option Evaluation
question_in d =
    option_and_then (λ text. option_map (λ context. question_by context text) (optional_text d (codes "context")))
    (text_in d (codes "expression"))

-- arguments have another form
abbrev pub bad : Saying
bad = refused (text_of BadArguments) false

-- an answer with this body, if there is one
abbrev pub with_body : Option Data → Saying
with_body (Some body) = done (Some body)
with_body None = bad

-- the frames that are asked for
abbrev pub stack_by : SourceFile → Debugger → Option ℕ → Option ℕ → Saying
stack_by f d (Some start) (Some levels) = done (Some (stack_of f d start levels))
stack_by f d _ _ = bad

abbrev pub stack : SourceFile → Debugger → Data → Saying
stack f d a = stack_by f d (number_in a (codes "startFrame") 0) (number_in a (codes "levels") 0)

-- what a scope shows
abbrev pub variables_by : Debugger → Option ℕ → Saying
variables_by d (Some scope) = with_body (scope_of d scope)
variables_by d None = bad

abbrev pub variables : Debugger → Data → Saying
variables d a = variables_by d (number_in a (codes "variablesReference") 0)

-- the place in memory that arguments name, with the offset
abbrev pub place_in : Data → Option (Option ℕ)
place_in a =
    option_and_then (λ place. option_map (λ offset. shifted place offset) (offset_in a (codes "offset")))
    (option_and_then place_of (text_in a (codes "memoryReference")))

-- a number from 0 that must be there
abbrev pub needed : Data → List ℕ → Option ℕ
needed a name = option_and_then (λ v. option_and_then as_u64 (as_number v)) (get name a)

-- bytes of memory
abbrev pub memory_by : Debugger → Option (Option ℕ) → Option ℕ → Saying
memory_by d (Some place) (Some count) = done (Some (memory_of (state_of d.present.machine).mem place count))
memory_by d _ _ = bad

abbrev pub memory : Debugger → Data → Saying
memory d a = memory_by d (place_in a) (needed a (codes "count"))

-- how many instructions are shown
abbrev pub count_by : ℕ → Option ℕ
count_by n = if nat_le n 65536 then Some n else None

-- the code that arguments name
abbrev pub range_in : Data → Option CodeRange
range_in a =
    option_and_then (λ place. option_and_then (λ offset. option_map (λ count. record { place = place; offset = offset; count = count })
    (option_and_then count_by (needed a (codes "instructionCount")))) (offset_in a (codes "instructionOffset"))) (place_in a)

-- instructions
abbrev pub code_by : SourceFile → Debugger → Option CodeRange → Saying
code_by f d (Some range) = done (Some (code_of f d range))
code_by f d None = bad

abbrev pub code : SourceFile → Debugger → Data → Saying
code f d a = code_by f d (range_in a)

-- the capital of the letter that a name is
abbrev pub letter_by : ℕ → Option ℕ
letter_by b =
    if nat_le 65 b && nat_le b 90 then Some b
    else if nat_le 97 b && nat_le b 122 then Some (b - 32)
    else None

abbrev pub letter_in : List ℕ → Option ℕ
letter_in (b ∷ []) = letter_by b
letter_in _ = None

-- names in a scope are those of variables: not in that of registers, or of the run
abbrev pub has_variables : ℕ → Bool
has_variables scope = not (scope == 2) && not (scope == 3)

-- that a variable can be watched, or nothing else
abbrev pub watchable_value : Option ℕ → Data
watchable_value (Some b) = watchable_body (encode_utf8 b)
watchable_value None = unwatchable_body

-- which variable a name is in a scope
abbrev pub variable_in : List ℕ → ℕ → Option ℕ
variable_in name scope = if has_variables scope then letter_in name else None

abbrev pub watchable_by : Option (List ℕ) → Option ℕ → Saying
watchable_by (Some name) (Some scope) = done (Some (watchable_value (variable_in name scope)))
watchable_by _ _ = bad

-- whether a variable can be watched
abbrev pub watchable : Data → Saying
watchable a = watchable_by (text_in a (codes "name")) (number_in a (codes "variablesReference") 0)
