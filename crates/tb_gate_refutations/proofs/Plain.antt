-- A start that is known byte by byte.
use Rattle.std.proofs.Common.{◌≡◌, ◌<◌, ℕ, zero, suc, ◌+◌, ◌-◌, Bool, true, false, ◌&&◌, List, [], ◌∷◌, length, refl, ap, ◌∙◌, arith, None}
use Rattle.std.specs.Prelude.{if◌then◌else◌, slice_index, nat_le, nat_lt}
use Rattle.std.proofs.lemmas.Bool.{and_parts}
use Rattle.std.proofs.lemmas.Bool.Decides.{nat_tests}
use Rattle.tb_opcodes.specs.Bytes.{AreBytes}
use Rattle.tb_memmap.specs.Bytes.{with_bytes}
use Rattle.tb_memmap.specs.Regions.{BASIC_START, CODE_START}
use Rattle.tb_kernal.specs.declared.events.Clobber.{Clobber}
use Rattle.tb_kernal.specs.Machine.{State}
use Rattle.tb_kernal.specs.Starts.{HoldsBytes}
use Rattle.tb_compiled_kept.specs.Keeps.{Starts}

-- the bytes, a return address in ROM above S = $F0, and one byte everywhere else
abbrev pub memory_with : List ℕ → ℕ → ℕ → ℕ
memory_with bytes fill = with_bytes (with_bytes (λ b. fill) 0x01f1 (0xff ∷ 0xa0 ∷ [])) BASIC_START bytes

-- the byte that is everywhere else, D and the keyboard
pub record Setting : Type 0 where
  pub fill : ℕ
  pub d : Bool
  pub text : List ℕ
  pub answers : List ℕ

-- memory filled with 0, D clear, no keyboard
abbrev pub plain : Setting
plain = record { fill = 0; d = false; text = []; answers = [] }

-- memory filled with 0, D clear, and a keyboard's text
abbrev pub typed : List ℕ → Setting
typed text = record { fill = 0; d = false; text = text; answers = [] }

-- memory filled with 0, D clear, and a keyboard's answers
abbrev pub answering : List ℕ → Setting
answering answers = record { fill = 0; d = false; text = []; answers = answers }

-- memory filled with 0, D set, no keyboard
abbrev pub decimal : Setting
decimal = record { fill = 0; d = true; text = []; answers = [] }

-- memory filled with 1, D clear, no keyboard
abbrev pub filled : Setting
filled = record { fill = 1; d = false; text = []; answers = [] }

-- a start in a setting
abbrev pub started : List ℕ → Setting → State
started bytes k =
    record {
      regs = record { a = 0; x = 0; pc = CODE_START; y = 0; s = 0xf0; flags = record { n = false; v = false; d = k.d; i = false; z = false; c = false } };
      mem = memory_with bytes k.fill;
      text = k.text;
      answers = k.answers;
      sent = [];
      wrong = None;
      home = 0xa100;
      home_s = 0xf2;
    }

-- whether all are bytes
abbrev pub are_below : List ℕ → Bool
are_below [] = true
are_below (x ∷ xs) = nat_lt x 256 && are_below xs

-- whether the image and the setting have bytes alone
abbrev pub fit : List ℕ → Setting → Bool
fit bytes k = are_below bytes && (nat_lt k.fill 256 && (are_below k.text && are_below k.answers))

all_bytes : (xs : List ℕ) → are_below xs ≡ true → AreBytes xs
all_bytes [] h = tt
all_bytes (x ∷ xs) h =
    let p = and_parts (nat_lt x 256) (are_below xs) h in
    let t : x < 256 = grind (arith, nat_tests, p.0) in
    (t, all_bytes xs p.1)

byte_at : (xs : List ℕ) → AreBytes xs → (k : ℕ) → slice_index xs k < 256
byte_at [] h k = omega arith
byte_at (x ∷ xs) h zero = h.0
byte_at (x ∷ xs) h (suc k) = byte_at xs h.1 k

byte_put : (m : ℕ → ℕ) (a : ℕ) (bytes : List ℕ) (k : ℕ) → k < length bytes → with_bytes m a bytes (a + k) ≡ slice_index bytes k
byte_put m a bytes k l =
    let inside : nat_le a (a + k) && nat_lt (a + k) (a + length bytes) ≡ true = grind (arith, nat_tests) in
    let place : a + k - a ≡ k = omega arith in
    ap (λ t. if t then slice_index bytes (a + k - a) else m (a + k)) inside ∙ ap (λ i. slice_index bytes i) place

bytes_hold : (m : ℕ → ℕ) (a : ℕ) (bytes : List ℕ) → HoldsBytes m → AreBytes bytes → HoldsBytes (with_bytes m a bytes)
bytes_hold m a bytes h bs b =
    elim (nat_le a b && nat_lt b (a + length bytes)) as (λ t. (if t then slice_index bytes (b - a) else m b) < 256) [ true ↦ byte_at bytes bs (b - a) | false ↦ h b ]

-- such a start is a start
pub starts : (bytes : List ℕ) (k : Setting) → fit bytes k ≡ true → Starts BASIC_START bytes (started bytes k)
starts bytes k h =
    let p = and_parts (are_below bytes) _ h in
    let q = and_parts (nat_lt k.fill 256) _ p.1 in
    let r = and_parts (are_below k.text) _ q.1 in
    let f : k.fill < 256 = grind (arith, nat_tests, q.0) in
    record {
      start = record {
        loaded = byte_put (with_bytes (λ b. k.fill) 0x01f1 (0xff ∷ 0xa0 ∷ [])) BASIC_START bytes;
        holds_bytes = bytes_hold _ BASIC_START bytes (bytes_hold (λ b. k.fill) 0x01f1 (0xff ∷ 0xa0 ∷ []) (λ x. f) (omega arith, (omega arith, tt))) (all_bytes bytes p.0);
        pc = refl;
        s_from = omega arith;
        s_to = omega arith;
        home = refl;
        home_s = refl;
        in_rom = refl;
        no_service = refl;
        nothing_refused = refl;
        nothing_sent = refl;
      };
      text = all_bytes k.text r.0;
      answers = all_bytes k.answers r.1;
    }

-- what a service leaves that clears A, X, Y and the flags, and writes nothing
abbrev pub clearing : Clobber
clearing = record { a = 0; x = 0; y = 0; n = false; v = false; i = false; z = false; c = false; writes = record { items = [] } }

-- what a service leaves that sets X, clears A, Y and the flags, and writes nothing
abbrev pub leaving_x : ℕ → Clobber
leaving_x x = record { a = 0; x = x; y = 0; n = false; v = false; i = false; z = false; c = false; writes = record { items = [] } }
