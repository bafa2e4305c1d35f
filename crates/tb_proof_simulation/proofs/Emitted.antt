-- Bytes as they are laid, and the pieces of code that they are.
use Rattle.std.proofs.Common.{◌≡◌, ℕ, ◌+◌, ◌%◌, ◌≤◌, ◌<◌, List, [], ◌∷◌, ◌++◌, length, refl, ap, ◌∙◌, subst, arith, length-append, Some}
use Rattle.tb_machine_reaching.specs.View.{Part}
use Rattle.tb_machine_reaching.specs.View.{Bytes}
use Rattle.tb_machine_reaching.proofs.Instr.{Instr, instr_bytes, flat}
use Rattle.tb_machine_reaching.proofs.Parts.{bytes_front, bytes_back, stands}
use Rattle.tb_opcodes.specs.Bytes.{AreBytes}
use Rattle.tb_proof_simulation.proofs.Resolved.{Piece, Code, Text, size, piece_size, pieces_size, Lies, PieceLies, highest_code}

abbrev pub piece_bytes : Piece → List ℕ
piece_bytes (Code is) = flat is
piece_bytes (Text bs) = bs

abbrev pub pieces_bytes : List Piece → List ℕ
pieces_bytes [] = []
pieces_bytes (p ∷ ps) = piece_bytes p ++ pieces_bytes ps

flat_length : (is : List Instr) → length (flat is) ≡ size is
flat_length [] = refl
flat_length (i ∷ is) = length-append (instr_bytes i) (flat is) ∙ ap (λ n. length (instr_bytes i) + n) (flat_length is)

piece_length : (p : Piece) → length (piece_bytes p) ≡ piece_size p
piece_length (Code is) = flat_length is
piece_length (Text bs) = refl

-- the bytes of pieces are as many as their sizes say
pub pieces_length : (ps : List Piece) → length (pieces_bytes ps) ≡ pieces_size ps
pieces_length [] = refl
pieces_length (p ∷ ps) = length-append (piece_bytes p) (pieces_bytes ps) ∙ ap (λ n. n + length (pieces_bytes ps)) (piece_length p) ∙ ap (λ n. piece_size p + n) (pieces_length ps)

-- what is read in code that is bytes is bytes
shown_bytes : (code : Part) → ((a b : ℕ) → code a ≡ Some b → b < 256) → (at : ℕ) (bs : List ℕ) → Bytes code at bs → AreBytes bs
shown_bytes code small at [] h = tt
shown_bytes code small at (b ∷ bs) h = (small at b h.0, shown_bytes code small ((at + 1) % 65536) bs h.1)

-- the bytes after the first ones, below the end of the program
pub behind : (code : Part) (at : ℕ) (a b : List ℕ) → at + length a ≤ highest_code → Bytes code at (a ++ b) → Bytes code (at + length a) b
behind code at a b r h = subst (λ p. Bytes code p b) (let e : (at + length a) % 65536 ≡ at + length a = omega (arith, r) in e) (bytes_back code at a b (omega (arith, r)) h)

module _ (code : Part) (bytes_small : (a b : ℕ) → code a ≡ Some b → b < 256) where
  piece_lies : (at : ℕ) (p : Piece) → at + piece_size p ≤ highest_code → Bytes code at (piece_bytes p) → PieceLies code at p
  piece_lies at (Code is) r h = stands code at is (omega (arith, r)) h
  piece_lies at (Text bs) r h = (h, shown_bytes code bytes_small at bs h)

  -- laid bytes are the pieces
  pub lies : (at : ℕ) (ps : List Piece) → at + pieces_size ps ≤ highest_code → Bytes code at (pieces_bytes ps) → Lies code at ps
  lies at [] r h = tt
  lies at (p ∷ ps) r h =
      let here : at + piece_size p ≤ highest_code = omega (arith, r) in (
        here,
        piece_lies at p here (bytes_front code at (piece_bytes p) (pieces_bytes ps) h),
        lies (at + piece_size p) ps (omega (arith, r)) (subst (λ n. Bytes code (at + n) (pieces_bytes ps)) (piece_length p)
            (behind code at (piece_bytes p) (pieces_bytes ps) (omega (arith, here, piece_length p)) h)),
      )
