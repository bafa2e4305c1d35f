-- Why messages and requests are refused.
use Rattle.std.specs.Prelude.{ℕ, List, codes}
use Rattle.tb_dap_messages.specs.declared.refusals.Refusal.{Refusal}
use Rattle.tb_dap_messages.specs.declared.refusals.Refusal.TheVariants as refusal
use Rattle.tb_editor_messages.specs.declared.refusals.TheConstants.{INITIALIZED, NOT_INITIALIZED, NO_JSON, NO_MESSAGE, TOO_LARGE}
use Rattle.tb_dap_messages.specs.declared.refusals.TheConstants.{BAD_ARGUMENTS, BAD_KEYS, LAUNCHED, NOT_LAUNCHED, NOT_STARTED, NO_CHANGE}
use Rattle.tb_dap_messages.specs.declared.refusals.TheConstants.{READ_FAULT, STARTED, TOO_MUCH_TYPED, UNKNOWN_COMMAND}

-- what is said of it
abbrev pub text_of : Refusal → List ℕ
text_of refusal.NoJson = NO_JSON.now
text_of refusal.TooLarge = TOO_LARGE.now
text_of refusal.NoMessage = NO_MESSAGE.now
text_of refusal.UnknownCommand = UNKNOWN_COMMAND.now
text_of refusal.BadArguments = BAD_ARGUMENTS.now
text_of refusal.NotInitialized = NOT_INITIALIZED.now
text_of refusal.Initialized = INITIALIZED.now
text_of refusal.NotLaunched = NOT_LAUNCHED.now
text_of refusal.Launched = LAUNCHED.now
text_of refusal.NotStarted = NOT_STARTED.now
text_of refusal.Started = STARTED.now
text_of refusal.Terminated = codes "terminated"
text_of refusal.BadKeys = BAD_KEYS.now
text_of refusal.ReadFault = READ_FAULT.now
text_of refusal.TooMuchTyped = TOO_MUCH_TYPED.now
text_of refusal.NoChange = NO_CHANGE.now
