-- Key files: hexadecimal digits, and perhaps a line end.
use Rattle.std.specs.Prelude.{ℕ, ◌≡◌, ◌≢◌, ◌⊎◌, ◌-◌, ◌≤◌, ◌==◌, List, [], ◌∷◌, ◌++◌, length, take, slice_index}
use Rattle.std.specs.Prelude.{true, is_err, Option, Result, Ok, Err, if◌then◌else◌}
use Rattle.std.specs.Io.KnownBytes.{Consumes}
use Rattle.std.specs.declared.alloc.Global.{Global}
use Rattle.std.specs.declared.vec.Vec.{Vec}
use Rattle.hex.specs.Hex.{decode_of, encode_lower}
use Rattle.hex.specs.declared.error.FromHexError.{FromHexError}
use Rattle.tb_engine_streams.specs.Streams.{MayPass, Reads}
use Rattle.tb_engine_streams.specs.Numbers.{MOST_KEY_FILE}
use Rattle.tb_engine_streams.specs.declared.key_files.KeyFileError.{KeyFileError}
use Rattle.tb_engine_streams.specs.declared.key_files.KeyFileError.TheVariants.{BadKeys, Fault, NoMemory}

-- the most bytes of a key file
abbrev pub most_key_file : ℕ
most_key_file = MOST_KEY_FILE

-- the last byte of a text
abbrev pub last_of : List ℕ → ℕ
last_of text = slice_index text (length text - 1)

-- a text without the given byte at its end, if it ends with it
abbrev pub without_last : ℕ → List ℕ → List ℕ
without_last byte text = if last_of text == byte then take (length text - 1) text else text

-- a text without the 10, or the 13 10, at its end
abbrev pub without_line_end : List ℕ → List ℕ
without_line_end text = if last_of text == 10 then without_last 13 (take (length text - 1) text) else text

-- the keys that the text of a key file spells
abbrev pub keys_of_file : List ℕ → Result (List ℕ) FromHexError
keys_of_file text = decode_of (without_line_end text)

-- the text of the key file that spells these keys
abbrev pub key_file_of : List ℕ → List ℕ
key_file_of keys = encode_lower keys ++ 10 ∷ []

-- what reading a key file answers, with the reader's count of failures
abbrev pub ReadsKeyFile : Result (Vec ℕ Global) KeyFileError → Option (List ℕ) → Option (List ℕ) → ℕ → ℕ → Type 0
ReadsKeyFile (Ok keys) had left read read' =
    (text : List ℕ) × Reads had text × Consumes had left text × (length text ≤ most_key_file)
    × (keys_of_file text ≡ Ok keys.items) × (read' ≡ read)
ReadsKeyFile (Err BadKeys) had left read read' =
    (MayPass most_key_file had ⊎ ((text : List ℕ) × Reads had text × (is_err (keys_of_file text) ≡ true))) × (read' ≡ read)
ReadsKeyFile (Err Fault) had left read read' = read' ≢ read
ReadsKeyFile (Err NoMemory) had left read read' = read' ≡ read
