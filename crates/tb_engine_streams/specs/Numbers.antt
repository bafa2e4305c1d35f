-- The numbers that are promised, and that the code has the same ones.
use Rattle.std.specs.Prelude.{ℕ, ◌≡◌}
use Rattle.tb_engine_streams.specs.declared.status.TheConstants as code_status
use Rattle.tb_engine_streams.specs.declared.stream.TheConstants as code_stream
use Rattle.tb_engine_streams.specs.declared.key_files.TheConstants as code_key_files

-- all is done, and a program that ran has returned
abbrev pub DONE : ℕ
DONE = 0

-- a source, a text, a PRG file or a disk is refused
abbrev pub REFUSED : ℕ
REFUSED = 1

-- words of the command line are refused, or a key list or an address
abbrev pub BAD_WORDS : ℕ
BAD_WORDS = 2

-- a file or a stream failed
abbrev pub FAULT : ℕ
FAULT = 3

-- a growth was refused
abbrev pub NO_MEMORY : ℕ
NO_MEMORY = 4

-- the program was still running after its last event
abbrev pub STEP_LIMIT : ℕ
STEP_LIMIT = 5

-- the program waits for a key
abbrev pub WAITS_FOR_KEY : ℕ
WAITS_FOR_KEY = 6

-- an instruction of the program was refused
abbrev pub WENT_WRONG : ℕ
WENT_WRONG = 7

-- the most bytes that an engine takes from a reader
abbrev pub MOST_INPUT : ℕ
MOST_INPUT = 1048576

-- the most bytes of a key file: two digits a key, and a line end
abbrev pub MOST_KEY_FILE : ℕ
MOST_KEY_FILE = 2097154

-- the constants of the code are these numbers
abbrev pub ConstantsAreNumbers : Type 0
ConstantsAreNumbers =
    (code_status.DONE ≡ DONE) × (code_status.REFUSED ≡ REFUSED) × (code_status.BAD_WORDS ≡ BAD_WORDS)
    × (code_status.FAULT ≡ FAULT) × (code_status.NO_MEMORY ≡ NO_MEMORY) × (code_status.STEP_LIMIT ≡ STEP_LIMIT)
    × (code_status.WAITS_FOR_KEY ≡ WAITS_FOR_KEY) × (code_status.WENT_WRONG ≡ WENT_WRONG)
    × (code_stream.MOST_INPUT ≡ MOST_INPUT) × (code_key_files.MOST_KEY_FILE ≡ MOST_KEY_FILE)
