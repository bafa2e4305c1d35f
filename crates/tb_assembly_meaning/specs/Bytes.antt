-- Bytes, words and addresses.
use Rattle.std.specs.Prelude.{ℕ, ◌-◌, ◌%◌, ◌&&◌, ℤ, pos, negsuc, Result, Ok, Err, eqb, nat_lt, nat_le, if◌then◌else◌}
use Rattle.tb_assembly_meaning.specs.declared.faults.Wrong.{Wrong}
use Rattle.tb_assembly_meaning.specs.declared.faults.Wrong.TheVariants.{NoByte, NoWord, NoAddress, NoZeroPage, NoCount, NoMultiple}

-- a number from 0 to `most`
abbrev pub up_to : ℕ → Wrong → ℤ → Result ℕ Wrong
up_to most w (pos n) = if nat_le n most then Ok n else Err w
up_to most w (negsuc n) = Err w

-- the byte of a value from -128 to 255: a negative one counts from 256 down
abbrev pub byte_of : ℤ → Result ℕ Wrong
byte_of (pos n) = if nat_le n 255 then Ok n else Err NoByte
byte_of (negsuc n) = if nat_lt n 128 then Ok (255 - n) else Err NoByte

-- the word of a value from -32768 to 65535: a negative one counts from 65536 down
abbrev pub word_of : ℤ → Result ℕ Wrong
word_of (pos n) = if nat_le n 65535 then Ok n else Err NoWord
word_of (negsuc n) = if nat_lt n 32768 then Ok (65535 - n) else Err NoWord

-- an address
abbrev pub address_of : ℤ → Result ℕ Wrong
address_of z = up_to 65535 NoAddress z

-- an address in the zero page
abbrev pub zero_page_of : ℤ → Result ℕ Wrong
zero_page_of z = up_to 255 NoZeroPage z

-- how many bytes there are to be
abbrev pub count_of : ℤ → Result ℕ Wrong
count_of z = up_to 65536 NoCount z

-- of what an address is to be a multiple
abbrev pub multiple_of : ℤ → Result ℕ Wrong
multiple_of (pos n) = if nat_lt 0 n && nat_le n 65536 then Ok n else Err NoMultiple
multiple_of (negsuc n) = Err NoMultiple

-- how far an address is from the next multiple
abbrev pub padding : ℕ → ℕ → ℕ
padding at n = if eqb (at % n) 0 then 0 else n - at % n
