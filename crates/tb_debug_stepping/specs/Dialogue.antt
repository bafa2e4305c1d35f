-- What a history answers to commands, and what becomes of it.
use Rattle.std.specs.Prelude.{ℕ, ℤ, ◌≡◌, ◌⊎◌, Bool, true, false, not, ◌&&◌, List, [], ◌∷◌, ◌++◌, Option, Some, None, is_some, Result, Ok, Err}
use Rattle.tb_memmap.specs.Bytes.{at}
use Rattle.std.specs.declared.alloc.AllocError.{AllocError}
use Rattle.tb_words.specs.Words.{word_of}
use Rattle.tb_basic_meaning.specs.declared.evaluation.EvalError.{EvalError}
use Rattle.tb_kernal.specs.declared.events.Event.{Event}
use Rattle.tb_kernal.specs.Machine.{Content, state_of, status, SameKeyboard}
use Rattle.tb_cpu.specs.Operands.{word_in}
use Rattle.tb_compiled_kept.specs.Addresses.{NOTES}
use Rattle.tb_stepper.specs.Holding.{Holds, machines}
use Rattle.tb_stepper.specs.History.{Stepped, ReachesLine, begins_at, line_of}
use Rattle.tb_debug_inspection.specs.Readings.{variable_in, variables_in}
use Rattle.tb_debug_inspection.specs.Values.{IsValueOfText}
use Rattle.tb_stepper.specs.declared.reached.Reached.{Reached}
use Rattle.tb_stepper.specs.declared.reached.Reached.TheVariants as reached
use Rattle.tb_stepper.specs.declared.reached.StepError.{StepError}
use Rattle.tb_stepper.specs.declared.reached.StepError.TheVariants as error
use Rattle.tb_debug_stepping.specs.declared.answer.Answer.{Answer}
use Rattle.tb_debug_stepping.specs.declared.answer.Answer.TheVariants.{Registers, NothingBack, At, NoSuchLine, NoSource, Limit, Stands, Value, Depth, What}
use Rattle.tb_debug_stepping.specs.Commands as asked
use Rattle.tb_debug_stepping.specs.Commands.{Asked, asked_in, needs_source}
use Rattle.tb_debug_stepping.specs.Answers.{text_of}

-- how the present machine stands
abbrev pub registers_of : {O : Type 0} → Holds O → Answer
registers_of h = Registers h.machine.regs (line_of h.program h.machine.regs.pc) (status (state_of h.machine))

-- a step, and how the machine then stands
abbrev pub SaysStep : {O : Type 0} → (O → Content → Event → O → Type 0) → Holds O → Result Answer AllocError → Holds O → Type 0
SaysStep gives h (Ok answer) k = Stepped gives h (Ok (status (state_of k.machine))) k × (answer ≡ registers_of k)
SaysStep gives h (Err e) k = Stepped gives h (Err e) k

-- the newest machine is taken off; outside and program stay
pub record TakenBack {O : Type 0} (h k : Holds O) : Type 0 where
  pub machines : machines h ≡ machines k ++ state_of h.machine ∷ []
  pub outside : k.outside ≡ h.outside
  pub program : k.program ≡ h.program
  pub keyboard : SameKeyboard h.machine k.machine

-- a step back, and how the machine then stands, or that no step is noted
abbrev pub SaysBack : {O : Type 0} → Holds O → Answer → Holds O → Type 0
SaysBack h answer k =
    (TakenBack h k × (answer ≡ registers_of k)) ⊎ ((h.undos ≡ []) × (k ≡ h) × (answer ≡ NothingBack))

-- the answer to a walk to a line that came to this
abbrev pub walk_answer : ℕ → Result Reached StepError → Result Answer AllocError
walk_answer line (Ok reached.There) = Ok (At line)
walk_answer line (Ok (reached.Stopped t)) = Ok (Stands t)
walk_answer line (Ok reached.Limit) = Ok Limit
walk_answer line (Err error.NoSuchLine) = Ok NoSuchLine
walk_answer line (Err error.NoMemory) = Err (record {})

-- a walk to a line
abbrev pub SaysGo : {O : Type 0} → (O → Content → Event → O → Type 0) → (limit line : ℕ) → Holds O → Result Answer AllocError → Holds O → Type 0
SaysGo gives limit line h result k =
    (r : Result Reached StepError) × ReachesLine gives (begins_at h.program line) limit h r k × (result ≡ walk_answer line r)

-- the answer to a text that came to this: its value, or `what?`
abbrev pub value_answer : Option (Result ℤ EvalError) → Answer
value_answer (Some value) = Value value
value_answer None = What

-- what is answered to `e` and the text after it: what that comes to over the variables
abbrev pub SaysValue : {O : Type 0} → Holds O → List ℕ → Answer → Type 0
SaysValue h text answer =
    (value : Option (Result ℤ EvalError)) × IsValueOfText (variables_in (at h.machine.memory)) text value × (answer ≡ value_answer value)

-- an answer for which only the history is read; want of memory is none
abbrev pub Reads : {O : Type 0} → (Answer → Type 0) → Holds O → Result (Option Answer) AllocError → Holds O → Type 0
Reads says h (Ok (Some answer)) k = says answer × (k ≡ h)
Reads says h (Ok None) k = ⊥
Reads says h (Err e) k = k ≡ h

-- an answer, or want of memory
abbrev pub Answered : (Result Answer AllocError → Type 0) → Result (Option Answer) AllocError → Type 0
Answered says (Ok (Some answer)) = says (Ok answer)
Answered says (Ok None) = ⊥
Answered says (Err e) = says (Err e)

-- what is answered to a command, and the history after it, unless a source is wanting
abbrev pub Performs : {O : Type 0} → (O → Content → Event → O → Type 0) → ℕ → Holds O → Asked → Result (Option Answer) AllocError → Holds O → Type 0
Performs gives limit h asked.Step result k = Answered (λ r. SaysStep gives h r k) result
Performs gives limit h asked.Back (Ok (Some answer)) k = SaysBack h answer k
Performs gives limit h asked.Back (Ok None) k = ⊥
Performs gives limit h asked.Back (Err e) k = ⊥
Performs gives limit h (asked.Go line) result k = Answered (λ r. SaysGo gives limit line h r k) result
Performs gives limit h (asked.Variable index) result k =
    Reads (λ answer. (v : ℤ) × (word_of v ≡ variable_in (at h.machine.memory) index) × (answer ≡ Value (Ok v))) h result k
Performs gives limit h (asked.Value text) result k = Reads (SaysValue h text) h result k
Performs gives limit h asked.Depth result k = Reads (λ answer. answer ≡ Depth (word_in (at h.machine.memory) NOTES)) h result k
Performs gives limit h asked.Quit result k = (result ≡ Ok None) × (k ≡ h)
Performs gives limit h asked.Unknown result k = Reads (λ answer. answer ≡ What) h result k

-- whether a command asks for what only a source tells, and there is none
abbrev pub lacks_source : {O : Type 0} → Holds O → Asked → Bool
lacks_source h asked = needs_source asked && not (is_some h.program)

-- what is answered to a command, by whether a source is wanting: then nothing changes
abbrev pub RespondsBy : {O : Type 0} → Bool → (O → Content → Event → O → Type 0) → ℕ → Holds O → Asked → Result (Option Answer) AllocError → Holds O → Type 0
RespondsBy true gives limit h asked result k = (result ≡ Ok (Some NoSource)) × (k ≡ h)
RespondsBy false gives limit h asked result k = Performs gives limit h asked result k

-- what is answered to a command, and the history after it
abbrev pub Responds : {O : Type 0} → (O → Content → Event → O → Type 0) → ℕ → Holds O → Asked → Result (Option Answer) AllocError → Holds O → Type 0
Responds gives limit h asked result k = RespondsBy (lacks_source h asked) gives limit h asked result k

-- after a command: its answer's line and what `rest` says of the lines after it, or the end
abbrev pub GoesOn : {O : Type 0} → (Holds O → List ℕ → Holds O → Type 0) → Option Answer → Holds O → List ℕ → Holds O → Type 0
GoesOn rest None b text k = (text ≡ []) × (k ≡ b)
GoesOn rest (Some answer) b text k = (more : List ℕ) × rest b more k × (text ≡ text_of answer ++ 10 ∷ more)

-- the lines that answer lines of commands, up to `q` or the end, and the history after them
abbrev pub Dialogue : {O : Type 0} → (O → Content → Event → O → Type 0) → ℕ → Holds O → List (List ℕ) → List ℕ → Holds O → Type 0
Dialogue gives limit h [] text k = (text ≡ []) × (k ≡ h)
Dialogue {O} gives limit h (line ∷ lines) text k =
    (said : Option Answer) × (b : Holds O) × Responds gives limit h (asked_in line) (Ok said) b
    × GoesOn (λ a more c. Dialogue gives limit a lines more c) said b text k
