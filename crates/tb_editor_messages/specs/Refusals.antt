-- Why messages are refused.
use Rattle.std.specs.Prelude.{ℕ, ℤ, negsuc, List}
use Rattle.tb_editor_messages.specs.declared.refusals.Refusal.{Refusal}
use Rattle.tb_editor_messages.specs.declared.refusals.Refusal.TheVariants.{NoJson, TooLarge, NoMessage, NotInitialized, Initialized, ShutDown, UnknownMethod, BadParams, NotOpen, NoVariable, NotALetter, BadLine, LetterInUse, ReadsOtherwise}
use Rattle.tb_editor_messages.specs.declared.refusals.TheConstants.{BAD_LINE, BAD_PARAMS, INITIALIZED, LETTER_IN_USE, NOT_A_LETTER, NOT_INITIALIZED, NOT_OPEN, NO_JSON}
use Rattle.tb_editor_messages.specs.declared.refusals.TheConstants.{NO_MESSAGE, NO_VARIABLE, READS_OTHERWISE, SHUT_DOWN, TOO_LARGE, UNKNOWN_METHOD}

-- the code of the error, which is negative: that of -32700 is one more than 32699
abbrev pub code_of : Refusal → ℤ
code_of NoJson = negsuc 32699
code_of TooLarge = negsuc 32599
code_of NoMessage = negsuc 32599
code_of NotInitialized = negsuc 32001
code_of Initialized = negsuc 32599
code_of ShutDown = negsuc 32599
code_of UnknownMethod = negsuc 32600
code_of BadParams = negsuc 32601
code_of NotOpen = negsuc 32601
code_of NoVariable = negsuc 32802
code_of NotALetter = negsuc 32601
code_of BadLine = negsuc 32802
code_of LetterInUse = negsuc 32802
code_of ReadsOtherwise = negsuc 32802

-- what the error says
abbrev pub text_of : Refusal → List ℕ
text_of NoJson = NO_JSON.now
text_of TooLarge = TOO_LARGE.now
text_of NoMessage = NO_MESSAGE.now
text_of NotInitialized = NOT_INITIALIZED.now
text_of Initialized = INITIALIZED.now
text_of ShutDown = SHUT_DOWN.now
text_of UnknownMethod = UNKNOWN_METHOD.now
text_of BadParams = BAD_PARAMS.now
text_of NotOpen = NOT_OPEN.now
text_of NoVariable = NO_VARIABLE.now
text_of NotALetter = NOT_A_LETTER.now
text_of BadLine = BAD_LINE.now
text_of LetterInUse = LETTER_IN_USE.now
text_of ReadsOtherwise = READS_OTHERWISE.now
