-- Where the code of a program keeps its data, and where its lines' code begins. A word is low byte first.
use Rattle.std.specs.Prelude.{ℕ, ◌+◌, ◌*◌}

-- ── page zero: arguments, and pointers at the same addresses ──
-- a routine's first argument
abbrev pub LEFT : ℕ
LEFT = 0xFB

-- a routine's second argument
abbrev pub RIGHT : ℕ
RIGHT = 0xFD

-- the pointer to the byte or the table entry that is looked at
abbrev pub POINTER : ℕ
POINTER = 0xFB

-- the line table's address, and then the address of the first entry that the search may still end at
abbrev pub TABLE : ℕ
TABLE = 0xFD

-- ── data ──
-- 26 words, one a variable
abbrev pub VARS : ℕ
VARS = 0xC000

-- the address of variable x
abbrev pub var_at : ℕ → ℕ
var_at x = VARS + 2 * x

-- bytes sent since the last 13 or the start, modulo 256
abbrev pub COLUMN : ℕ
COLUMN = 0xC034

-- 1 if an input line is open, else 0
abbrev pub OPEN : ℕ
OPEN = 0xC035

-- 1 if an RND state is stored, else 0
abbrev pub SEEDED : ℕ
SEEDED = 0xC036

-- the stack pointer as at the start
abbrev pub HOME_S : ℕ
HOME_S = 0xC037

-- the stored RND state
abbrev pub SEED : ℕ
SEED = 0xC038

-- the number of the line that is executed
abbrev pub LINE : ℕ
LINE = 0xC03A

-- how many returns the return list holds, 0 to 500
abbrev pub NOTES : ℕ
NOTES = 0xC03C

-- 16 words
abbrev pub SLOTS : ℕ
SLOTS = 0xC040

-- the held word
abbrev pub HELD : ℕ
HELD = 0xC060

-- a routine's result
abbrev pub RESULT : ℕ
RESULT = 0xC066

-- the number of the line that Search looks for
abbrev pub WANTED : ℕ
WANTED = 0xC068

-- how many entries the line table has
abbrev pub COUNT : ℕ
COUNT = 0xC06A

-- a text's length, a byte
abbrev pub LENGTH : ℕ
LENGTH = 0xC06C

-- a byte that is sent
abbrev pub BYTE : ℕ
BYTE = 0xC06D

-- scratch bytes of the routines, up to $C07F
abbrev pub SCRATCH : ℕ
SCRATCH = 0xC06E

-- the low bytes of 500 returns, which are code addresses
abbrev pub RETURN_LOW : ℕ
RETURN_LOW = 0xC100

-- their high bytes
abbrev pub RETURN_HIGH : ℕ
RETURN_HIGH = 0xC300

-- ── the lines' code ──
-- where the lines' code begins, after the block
abbrev pub LINES_AT : ℕ
LINES_AT = 0x0C00
