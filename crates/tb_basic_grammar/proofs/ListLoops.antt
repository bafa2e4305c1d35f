-- The loops that read a text, the items of PRINT and the variables of INPUT.
use Rattle.std.proofs.Common.{◌≡◌, ℕ, zero, suc, ◌<◌, ◌≤◌, Bool, true, false, List, [], ◌∷◌, ◌++◌, length, Option, Some, None, refl}
use Rattle.std.proofs.Common.{sym, ap, ◌∙◌, arith, append_assoc, map, inl, inr, ◌==◌}
use Rattle.std.specs.Option.{option_or}
use Rattle.std.proofs.lemmas.Bool.{eqb-true}
use Rattle.std.proofs.lemmas.List.{map-append}
use Rattle.tb_words.specs.Letters.{letter_index}
use Rattle.tb_words.specs.declared.Letter.{Letter}
use Rattle.tb_basic_syntax.specs.declared.statements.PrintItem.{PrintItem}
use Rattle.tb_basic_syntax.specs.PlainData.{item_of, letters_of}
use Rattle.tb_basic_syntax.specs.Source.{Item, Input}
use Rattle.tb_basic_grammar.specs.Reading.{◌>>=◌, behind, letter_at}
use Rattle.tb_basic_grammar.specs.StatementReading.{quotation_at, FoundItem, as_text, item_at, between, Printed, with_items, others_by, items_at, letters_after, letters_at, input_at}
use Rattle.tb_basic_grammar.proofs.Steps.{chosen, behind_is, letter_found}
use Rattle.tb_basic_grammar.proofs.Complete.{one_more}
use Rattle.tb_basic_grammar.proofs.Lists.{item_is, item_shorter, items_step}

not_behind : (b c : ℕ) (text : List ℕ) → behind c (b ∷ text) ≡ None → (b == c) ≡ false
not_behind b c text e = elim (chosen (b == c) (Some text) None None e) [
  | inl h ↦ let e' = h.1 in absurd cc
  | inr h ↦ h.0
]

-- a text that the code sees as empty is empty
pub is_empty : (text : List ℕ) → true ≡ (length text == 0) → text ≡ []
is_empty [] e = refl
is_empty (b ∷ text) e = let same : suc (length text) ≡ 0 = eqb-true (suc (length text)) 0 (sym e) in absurd (omega (arith, same))

-- a text that the code does not see as empty has a byte
pub is_longer : (text : List ℕ) → false ≡ (length text == 0) → 0 < length text
is_longer [] e = absurd cc
is_longer (b ∷ text) e = omega arith

-- the rest of a text after bytes that were read
abbrev pub text_behind : List ℕ → List ℕ → Option FoundItem
text_behind bytes rest = quotation_at rest >>= λ q. Some (as_text (bytes ++ q.0, q.1))

-- the rest of the items of PRINT after those that were read
abbrev pub printed_behind : ℕ → Bool → List Item → Option ℕ → List ℕ → Option Printed
printed_behind k ends items large rest = items_at k ends rest >>= λ p. Some (with_items items large p)

or_assoc : (a b c : Option ℕ) → option_or a (option_or b c) ≡ option_or (option_or a b) c
or_assoc None b c = refl
or_assoc (Some n) b c = refl

printed_step : (k : ℕ) (ends : Bool) (items : List Item) (large : Option ℕ) (rest : List ℕ) (i : FoundItem) → 0 < length rest → item_at rest ≡ Some i
    → printed_behind (suc k) ends items large rest ≡ (others_by (items_at k false) i.rest >>= λ p. Some (with_items (items ++ i.item ∷ []) (option_or large i.large) p))
printed_step k ends items large rest i some is =
    ap (λ (o : Option Printed). o >>= λ p. Some (with_items items large p)) (items_step k ends rest i some is) ∙ go (others_by (items_at k false) i.rest)
  where
    go : (o : Option Printed) → ((o >>= λ p. Some (with_items (i.item ∷ []) i.large p)) >>= λ p. Some (with_items items large p))
        ≡ (o >>= λ p. Some (with_items (items ++ i.item ∷ []) (option_or large i.large) p))
    go None = refl
    go (Some p) = rw (append_assoc items (i.item ∷ []) p.items, or_assoc large i.large p.large) refl

-- one more item: what it leaves, and where the others begin
module _ (k : ℕ) (ends : Bool) (items : List Item) (large : Option ℕ) (rest : List ℕ) (i : FoundItem) (some : 0 < length rest) (fits : length rest ≤ k) (is : item_at rest ≡ Some i) where
  fuel : (j : ℕ) × (k ≡ suc j)
  fuel = one_more k 0 (omega (arith, some, fits))

  -- an item with its separator leaves a shorter text
  pub printed_shrinks : (b : ℕ) (others : List ℕ) → behind b i.rest ≡ Some others → length others < length rest
  printed_shrinks b others e = let s = item_shorter (item_is rest i is) in omega (arith, s, ap length (behind_is b i.rest others e))

  -- a turn of the loop of `print` that reads an item and its separator keeps what is to be read
  pub printed_next : (b : ℕ) (others : List ℕ) (zone : List Item) (items' : List Item) (ends' : Bool) (large' : Option ℕ) (total : Option Printed)
      → behind b i.rest ≡ Some others → between b ≡ Some zone
      → items' ≡ (items ++ i.item ∷ []) ++ zone → ends' ≡ false → large' ≡ option_or large i.large → printed_behind k ends items large rest ≡ total
      → (j : ℕ) × (length others ≤ j) × (printed_behind j ends' items' large' others ≡ total)
  printed_next b others zone items' ends' large' total e h ei ee el t = (
    fuel.0,
    omega (arith, fuel.1, fits, printed_shrinks b others e),
    rw (ei, ee, el) (sym
        (ap (λ (k : ℕ). printed_behind k ends items large rest) fuel.1 ∙ printed_step fuel.0 ends items large rest i some is
        ∙ ap (λ (t : List ℕ). others_by (items_at fuel.0 false) t >>= λ p. Some (with_items (items ++ i.item ∷ []) (option_or large i.large) p)) (behind_is b i.rest others e)
        ∙ rw h (go (items_at fuel.0 false others))) ∙ t),
  )
    where
      go : (o : Option Printed) → ((o >>= λ p. Some (with_items zone None p)) >>= λ p. Some
          (with_items (items ++ i.item ∷ []) (option_or large i.large) p)) ≡ (o >>= λ p. Some (with_items ((items ++ i.item ∷ []) ++ zone) (option_or large i.large) p))
      go None = refl
      go (Some p) = rw (append_assoc (items ++ i.item ∷ []) zone p.items) refl

-- the rest of the variables of INPUT after those that were read
abbrev pub letters_behind : ℕ → List ℕ → List ℕ → Option (List ℕ)
letters_behind k letters rest = letters_at k rest >>= λ others. Some (letters ++ others)

module _ (k : ℕ) (letters rest : List ℕ) (v : ℕ) (others : List ℕ) (fits : length rest ≤ k) (is : letter_at rest ≡ Some (v, others)) where
  -- a variable takes one byte
  pub shorter_by_one : length rest ≡ suc (length others)
  shorter_by_one = let l = letter_found rest (v, others) is in ap length l.2 ∙ omega arith

  one_letter : (j : ℕ) × (k ≡ suc j)
  one_letter = one_more k 0 (omega (arith, shorter_by_one, fits))

  letter_step : letters_behind k letters rest ≡ (letters_after (letters_at one_letter.0) v others >>= λ more. Some (letters ++ more))
  letter_step = ap (λ (k : ℕ). letters_behind k letters rest) one_letter.1 ∙ rw is refl

  -- the loop of `input` ends with the last variable at the end of the text
  pub letters_last : (letters' : List ℕ) (total : Option (List ℕ)) → others ≡ [] → letters' ≡ letters ++ v ∷ [] → letters_behind k letters rest ≡ total → total ≡ Some letters'
  letters_last letters' total e el t = sym t ∙ letter_step ∙ ap (λ (t : List ℕ). letters_after (letters_at one_letter.0) v t >>= λ more. Some
      (letters ++ more)) e ∙ ap (λ (l : List ℕ). Some l) (sym el)

  -- a turn of the loop of `input` that reads a variable and its comma keeps what is to be read
  pub letters_next : (after letters' : List ℕ) (total : Option (List ℕ)) → behind 44 others ≡ Some after → letters' ≡ letters ++ v ∷ [] → letters_behind k letters rest ≡ total
      → (j : ℕ) × (length after ≤ j) × (letters_behind j letters' after ≡ total)
  letters_next after letters' total e el t =
      let comma = behind_is 44 others after e in (
        one_letter.0,
        omega (arith, shorter_by_one, one_letter.1, fits, ap length comma),
        rw el (sym (letter_step ∙ ap (λ (t : List ℕ). letters_after (letters_at one_letter.0) v t >>= λ more. Some (letters ++ more)) comma ∙ go (letters_at one_letter.0 after)) ∙ t),
      )
    where
      go : (o : Option (List ℕ)) → (◌>>=◌ {B = List ℕ} o (λ more. Some (v ∷ more)) >>= λ more. Some (letters ++ more)) ≡ (o >>= λ more. Some ((letters ++ v ∷ []) ++ more))
      go None = refl
      go (Some more) = ap (λ (l : List ℕ). Some l) (sym (append_assoc letters (v ∷ []) more))

  -- a variable before anything but a comma or the end of the text gives no list
  pub letters_stop : 0 < length others → behind 44 others ≡ None → letters_behind k letters rest ≡ None
  letters_stop some e = letter_step ∙ ap (λ (o : Option (List ℕ)). o >>= λ more. Some (letters ++ more)) (stopped others some e)
    where
      stopped : (others : List ℕ) → 0 < length others → behind 44 others ≡ None → letters_after (letters_at one_letter.0) v others ≡ None
      stopped [] some e = absurd (omega arith)
      stopped (b ∷ others) some e = rw (not_behind b 44 others e) refl

-- an appended item of PRINT is appended in the plain data
pub item_pushed : (old new : List PrintItem) (x : PrintItem) → new ≡ old ++ x ∷ [] → map item_of new ≡ map item_of old ++ item_of x ∷ []
item_pushed old new x e = ap (map item_of) e ∙ map-append item_of old (x ∷ [])

-- an appended letter is appended in the plain data
pub letter_pushed : (old new : List Letter) (x : Letter) → new ≡ old ++ x ∷ [] → letters_of new ≡ letters_of old ++ letter_index x ∷ []
letter_pushed old new x e = ap letters_of e ∙ map-append letter_index old (x ∷ [])

-- without a letter there is no list of variables
pub no_letter : (k : ℕ) (letters rest : List ℕ) → letter_at rest ≡ None → letters_behind k letters rest ≡ None
no_letter zero letters rest e = refl
no_letter (suc k) letters rest e = rw e refl

-- a list of variables is the whole of an INPUT
pub input_is : (text letters : List ℕ) → letters_at (length text) text ≡ Some letters → input_at text ≡ Some (record { statement = Input letters; large = None })
unfolding input_at
input_is text letters e = rw e refl

-- without a list of variables there is no INPUT
pub no_input : (text : List ℕ) → letters_at (length text) text ≡ None → input_at text ≡ None
unfolding input_at
no_input text e = rw e refl
