-- What is said before a program is launched.
use Rattle.std.specs.Prelude.{ℕ, ◌≡◌, Bool, true, false, List, [], ◌∷◌, map, Option, Some, None, Result, if◌then◌else◌}
use Rattle.serde_json.specs.Data.{Data}
use Rattle.tb_dap_messages.specs.Refusals.{text_of}
use Rattle.tb_dap_messages.specs.declared.refusals.Refusal.{Refusal}
use Rattle.tb_dap_messages.specs.declared.refusals.Refusal.TheVariants as refusal
use Rattle.tb_dap_values.specs.Bodies.{capabilities_body}
use Rattle.tb_dap_values.specs.declared.requests.Command.{Command}
use Rattle.tb_dap_values.specs.declared.requests.Command.TheVariants as command
use Rattle.tb_engine_streams.specs.declared.stream.InputError.{InputError}
use Rattle.tb_dap_requests.specs.Launching.{Asked, is_understood, launch_in}
use Rattle.tb_dap_requests.specs.Loading.{Loads}
use Rattle.tb_dap_requests.specs.declared.launching.Usual.{Usual}
use Rattle.tb_dap_requests.specs.Said.{Saying, done, refused, seen}
use Rattle.tb_dap_adapter.specs.declared.greeting.Greeting.{Greeting}
use Rattle.tb_dap_adapter.specs.declared.greeting.Greeting.TheVariants as greeting
use Rattle.tb_dap_requests.specs.declared.loading.Loading.{Loading}
use Rattle.tb_dap_requests.specs.declared.loading.Loading.TheVariants as loading
use Rattle.tb_compiled.specs.Promise.{Own}

-- this is said, and nothing else
abbrev pub SaysAlone : Saying → Greeting → Type 0
SaysAlone one (greeting.Said said) = map seen said.items ≡ one ∷ []
SaysAlone one (greeting.Launched l) = ⊥

-- a request is refused
abbrev pub Refuses : Refusal → Greeting → Type 0
Refuses why g = SaysAlone (refused (text_of why) false) g

-- a request is done
abbrev pub IsDone : Greeting → Type 0
IsDone g = SaysAlone (done None) g

-- what is said to `initialize`, by whether the client is understood
abbrev pub initialized : Bool → Saying
initialized understood = if understood then done (Some capabilities_body) else refused (text_of refusal.BadArguments) false

-- what comes of `initialize`, by whether it was done before, and whether the client is understood
abbrev pub Initializes : Bool → Bool → Greeting → Bool → Type 0
Initializes true understood g after = Refuses refusal.Initialized g × (after ≡ true)
Initializes false understood g after = SaysAlone (initialized understood) g × (after ≡ understood)

-- what comes of loading
abbrev pub greeted : Loading → Greeting
greeted (loading.Loaded l) = greeting.Launched l
greeted (loading.Unloaded said) = greeting.Said said

-- what comes of `launch`
abbrev pub Launches : {S : Type 0} → Own → (S → List ℕ → Result (List ℕ) InputError → S → Type 0) → Option Asked → S → Greeting → S → Type 0
Launches own reads (Some a) s g t = (l : Loading) × Loads own reads a s l t × (g ≡ greeted l)
Launches own reads None s g t = Refuses refusal.BadArguments g × (t ≡ s)

-- why a request comes too early
abbrev pub too_early : Bool → Refusal
too_early before = if before then refusal.NotLaunched else refusal.NotInitialized

-- what comes of `launch`, by whether the adapter was initialized, which has this for a launch
abbrev pub LaunchesAfter : {S : Type 0} → Own → (S → List ℕ → Result (List ℕ) InputError → S → Type 0) → Usual → Bool → Data → S → Greeting → S → Type 0
LaunchesAfter own reads usual true a s g t = Launches own reads (launch_in usual a) s g t
LaunchesAfter own reads usual false a s g t = Refuses refusal.NotInitialized g × (t ≡ s)

-- what comes of a request before a program is launched, by whether the adapter was initialized
abbrev pub Greets : {S : Type 0} → Own → (S → List ℕ → Result (List ℕ) InputError → S → Type 0) → Usual → Option Command → Data → Bool → S → Greeting → Bool → S
    → Type 0
Greets own reads usual None a before s g after t = Refuses refusal.UnknownCommand g × (after ≡ before) × (t ≡ s)
Greets own reads usual (Some command.Disconnect) a before s g after t = IsDone g × (after ≡ before) × (t ≡ s)
Greets own reads usual (Some command.Initialize) a before s g after t = Initializes before (is_understood a) g after × (t ≡ s)
Greets own reads usual (Some command.Launch) a before s g after t = LaunchesAfter own reads usual before a s g t × (after ≡ before)
Greets own reads usual (Some c) a before s g after t = Refuses (too_early before) g × (after ≡ before) × (t ≡ s)
