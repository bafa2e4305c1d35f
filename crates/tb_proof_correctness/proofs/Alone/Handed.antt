-- A routine that is handed two words and gives one: up to its call, and after it.
use Rattle.std.proofs.Common.{◌≡◌, ◌≢◌, ℕ, ◌+◌, ◌/◌, ◌%◌, List, [], ◌∷◌, refl, ◌∙◌, subst, arith}
use Rattle.tb_basic_meaning.specs.Control.{State}
use Rattle.tb_lower.specs.Slots.{Instr, Slots, SlotCode, with_word}
use Rattle.tb_machine_reaching.proofs.Comes.{chained, looser}
use Rattle.tb_machine_reaching.specs.View.{Fits, View, back_at}
use Rattle.tb_runtime16.specs.Routines.{Here, Moves, WordAt}
use Rattle.tb_compiled_kept.specs.Addresses.{LEFT, LINE, RESULT, RIGHT}
use Rattle.tb_proof_simulation.proofs.Frames.{word_away, word_put}
use Rattle.tb_proof_simulation.proofs.Mirrors.{Typable}
use Rattle.tb_proof_simulation.proofs.Pieces.{InData, calls, put_word}
use Rattle.tb_proof_simulation.proofs.Resolved.{Code, Lies, Piece, call, copied, pieces_size, size}
use Rattle.tb_proof_simulation.proofs.Returning.{behind_call}
use Rattle.tb_compiler_selection.specs.Groups.{IntoHeld, IntoHome, IntoSlot, IntoVariable, Destination, Group, slot_of}
use Rattle.tb_compiler_selection.specs.Liveness.{live}
use Rattle.tb_compiler_selection.specs.Select.{select}
use Rattle.tb_compiler_templates.specs.declared.sources.Source.{Source}
use Rattle.tb_compiler_templates.specs.Sources.{destination_at}
use Rattle.tb_proof_correctness.proofs.CodeBytes.GroupCode.{GroupsLie, brought, high, low, routine}
use Rattle.tb_proof_correctness.proofs.Relation.Landing.{DestFits}
use Rattle.tb_proof_correctness.proofs.Relation.GroupInvariants.{Kept, kept_put, word_lands}
use Rattle.tb_proof_correctness.proofs.Relation.Matching.{Matches}
use Rattle.tb_proof_correctness.proofs.Relation.Operands.{SourceHolds, dest_in_data}
use Rattle.tb_proof_correctness.proofs.Relation.Ready.{Ready}
use Rattle.tb_proof_correctness.proofs.Slots.SlotSide.{Lasting, landed, line, slots_landed}
use Rattle.tb_proof_correctness.proofs.Pieces.Sources.{value}
use Rattle.tb_proof_correctness.proofs.Pieces.Sums.{Grounded, brings, copies}
use Rattle.tb_proof_correctness.proofs.Relation.Surroundings.{Surroundings}

-- where a routine may leave what it gives: among the data, and its high byte is not where it goes
abbrev pub Gives : ℕ → Type 0
Gives from = InData from × ((d : Destination) → DestFits d → from + 1 ≢ destination_at d)

-- LEFT is such an address
pub left_gives : Gives LEFT
left_gives = ((refl, refl), apart)
  where
    apart : (d : Destination) → DestFits d → LEFT + 1 ≢ destination_at d
    apart (IntoSlot k) fit e = omega (arith, e)
    apart (IntoHome (IntoVariable x)) fit e = omega (arith, e)
    apart (IntoHome IntoHeld) fit e = omega (arith, e)

-- RESULT is such an address
pub result_gives : Gives RESULT
result_gives = ((refl, refl), apart)
  where
    apart : (d : Destination) → DestFits d → RESULT + 1 ≢ destination_at d
    apart (IntoSlot k) fit e = omega (arith, e, fit)
    apart (IntoHome (IntoVariable x)) fit e = omega (arith, e, fit)
    apart (IntoHome IntoHeld) fit e = omega (arith, e)

module _ {around : Surroundings} (fits : Fits around.f 16) {n : ℕ} {g : Group} {js is : List Instr} {s : State} {r : Slots} {w : View} (h : Ready around n g js is s r w) where
  open around use {ly, f, lo, hi, keys}

  abbrev own : List ℕ
  own = lo ∷ hi ∷ []

  -- the routine is back, with a word and a state
  pub record Given (from at : ℕ) (s' : State) (v : ℕ) (u : View) : Type 0 where
    pub here : Here at own u.mem w.text w.answers u
    pub result : WordAt u.mem from v
    pub kept : Kept around (live js) s' r u.mem

  -- a memory in which it finds its words, at its call
  pub record Handed (m : ℕ → ℕ) (x y : ℕ) (m' : ℕ → ℕ) : Type 0 where
    pub left : WordAt m' LEFT x
    pub right : WordAt m' RIGHT y
    pub line : WordAt m LINE n → WordAt m' LINE n
    pub kept : Kept around (live js) s r m'

  -- its two words, its call and what follows it
  module _ (entry at : ℕ) (a b : Source) (tail : List Piece) (m : ℕ → ℕ) (c : Kept around (live js) s r m)
      (lies : Lies f.code at (Code (brought a LEFT) ∷ Code (brought b RIGHT) ∷ Code (call entry) ∷ tail)) (x y : ℕ) (ga : Grounded a LEFT)
      (gb : Grounded b RIGHT) (ha : SourceHolds m a x) (hb : (m' : ℕ → ℕ) → Kept around (live js) s r m' → SourceHolds m' b y) where
    -- memory with the left word, then with the right one
    abbrev one : ℕ → ℕ
    one = put_word m LEFT (value m (low a)) (value m (high a))

    abbrev two : ℕ → ℕ
    two = put_word one RIGHT (value one (low b)) (value one (high b))

    kept_one : Kept around (live js) s r one
    kept_one = kept_put around (live js) s r m LEFT _ _ h.some_read refl refl c

    handed : Handed m x y two
    handed = record {
      left = word_away one RIGHT _ _ LEFT x (λ e. omega (arith, e)) (λ e. omega (arith, e)) (λ e. omega (arith, e)) (word_put m LEFT _ _ x ha.low_byte ha.high_byte ha.small);
      right = let k = hb one kept_one in word_put one RIGHT _ _ y k.low_byte k.high_byte k.small;
      line = λ k.
          word_away one RIGHT _ _ LINE n (λ e. omega (arith, e)) (λ e. omega (arith, e)) (λ e. omega (arith, e))
          (word_away m LEFT _ _ LINE n (λ e. omega (arith, e)) (λ e. omega (arith, e)) (λ e. omega (arith, e)) k);
      kept = kept_put around (live js) s r one RIGHT _ _ h.some_read refl refl kept_one;
    }

    -- where the right word is brought, and the call
    abbrev second_at : ℕ
    second_at = at + size (brought a LEFT)

    abbrev pub call_at : ℕ
    call_at = second_at + size (brought b RIGHT)

    -- up to the call
    pub asks_by : (q : View → Type 0) (t : List ℕ) (k : ℕ)
        → ((m' : ℕ → ℕ) → Handed m x y m' → Moves f (Here entry ((call_at + 2) % 256 ∷ (call_at + 2) / 256 ∷ own) m' w.text w.answers) q t k)
        → Moves f (Here at own m w.text w.answers) q t (9 + k)
    asks_by q t k next u e =
        looser f u q q t (4 + (4 + (1 + k))) (9 + k) (omega arith) (λ v z. z)
        (chained f u _ q [] t 4 (4 + (1 + k)) (brings f 16 fits at own m w.text w.answers refl a LEFT lies.0 ga (refl, refl) lies.1 u e) (λ u e.
        chained f u _ q [] t 4 (1 + k) (brings f 16 fits second_at own one w.text w.answers refl b RIGHT lies.2.0 gb (refl, refl) lies.2.1 u e) (λ u e.
        chained f u _ q [] t 1 k (calls f 16 fits call_at own two w.text w.answers refl entry refl lies.2.2.0 lies.2.2.1 u e) (next two handed))))

    -- the call returns to what follows it
    pub comes_back : back_at ((call_at + 2) % 256) ((call_at + 2) / 256) ≡ call_at + 3
    comes_back = behind_call call_at lies.2.2.0

  -- its two words, its call, and its result copied to where it goes
  module _ (entry from at : ℕ) (a b : Source) (d : Destination) (m : ℕ → ℕ) (c : Kept around (live js) s r m)
      (lies : Lies f.code at (routine entry from a b (destination_at d))) (x y : ℕ) (ga : Grounded a LEFT) (gb : Grounded b RIGHT)
      (ha : SourceHolds m a x) (hb : (m' : ℕ → ℕ) → Kept around (live js) s r m' → SourceHolds m' b y) where
    abbrev taken : List Piece
    taken = Code (copied from (destination_at d)) ∷ []

    abbrev place : ℕ
    place = at + size (brought a LEFT) + size (brought b RIGHT)

    -- up to the routine's entry, with both words handed over
    pub asks : (q : View → Type 0) (t : List ℕ) (k : ℕ)
        → ((m' : ℕ → ℕ) → Handed m x y m' → Moves f (Here entry ((place + 2) % 256 ∷ (place + 2) / 256 ∷ own) m' w.text w.answers) q t k)
        → Moves f (Here at own m w.text w.answers) q t (9 + k)
    asks = asks_by entry at a b taken m c lies x y ga gb ha hb

    abbrev end_at : ℕ
    end_at = place + 3 + size (copied from (destination_at d))

    behind_is : at + pieces_size (routine entry from a b (destination_at d)) ≡ end_at
    behind_is = let e : at + (size (brought a LEFT) + (size (brought b RIGHT) + (3 + (size (copied from (destination_at d)) + 0)))) ≡ end_at = omega arith in e

    -- and on, if it gives a word
    pub gives : (code : SlotCode) (s' : State) (q : Slots) (v limit : ℕ) → Gives from → DestFits d → Lasting (live js) d is r q
        → GroupsLie ly f.code n (at + pieces_size (routine entry from a b (destination_at d))) (select is) → w.text ≡ s'.text → w.answers ≡ s'.answers
        → Typable keys s'.text s'.answers → ((l k : ℕ) (m' : ℕ → ℕ) → Handed m x y m' → Moves f (Here entry (l ∷ k ∷ own) m' w.text w.answers)
        (Given from (back_at l k) s' v) [] limit) → Moves f (Here at own m w.text w.answers)
        (Matches around (line code n is (landed d v s') (slots_landed d v (with_word q (slot_of d) v)))) [] (13 + limit)
    gives code s' q v limit g fit last rest text answers short does u e =
        looser f u _ _ [] (9 + (limit + 4)) (13 + limit) (omega arith) (λ v z. z)
        (asks _ [] (limit + 4) (λ m' k u e.
        chained f u _ _ [] [] limit 4 (does _ _ m' k u e) (λ u c'.
        looser f u _ _ [] 4 4 (omega arith)
        (word_lands around code n h.small (live js) d is s' r q v _ _ end_at u.mem w.text w.answers c'.result.low c'.result.high c'.result.small fit
        last (subst (λ p. GroupsLie ly f.code n p (select is)) behind_is rest) c'.kept text answers short)
        (copies f 16 fits (place + 3) own u.mem w.text w.answers refl from (destination_at d) lies.2.2.2.0 g.0 (dest_in_data d fit) (g.1 d fit) lies.2.2.2.1 u
        (record {
          pc = c'.here.pc ∙ comes_back entry at a b taken m c lies x y ga gb ha hb;
          stack = c'.here.stack;
          binary = c'.here.binary;
          mem = refl;
          text = c'.here.text;
          answers = c'.here.answers;
        })))) u e)
