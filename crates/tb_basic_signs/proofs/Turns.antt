-- Texts character by character.
use Rattle.std.proofs.Common.{◌≡◌, ℕ, zero, suc, ◌-◌, ◌≤◌, List, [], ◌∷◌, ◌++◌, drop, replicate, Option, Some, None, option_map, refl, sym, ap, ◌∙◌, arith, append_assoc}
use Rattle.tb_basic_signs.specs.declared.characters.Character.{Character}
use Rattle.tb_basic_signs.specs.Characters.{character_at}
use Rattle.tb_basic_signs.specs.Texts.{bytes_from, meant}

-- bytes that belong to a character before are passed
skipped : (taken : ℕ) (text : List ℕ) → bytes_from taken text ≡ bytes_from 0 (drop taken text)
skipped zero text = refl
skipped (suc taken) [] = refl
skipped (suc taken) (b ∷ text) = skipped taken text

-- what is left after the first byte and some more
left : (n b : ℕ) (text : List ℕ) → 1 ≤ n → drop n (b ∷ text) ≡ drop (n - 1) text
left zero b text some = absurd (omega arith)
left (suc n) b text some = ap (λ k. drop k text) (omega arith)

-- a text is what its first character stands for, and what follows that character
pub from_character : (text : List ℕ) (c : Character) → character_at text ≡ Some c → 1 ≤ c.length
    → bytes_from 0 text ≡ option_map (meant c) (bytes_from 0 (drop c.length text))
from_character [] c is some = cc
from_character (b ∷ text) c is some =
    let rest : bytes_from (c.length - 1) text ≡ bytes_from 0 (drop c.length (b ∷ text)) =
    skipped (c.length - 1) text ∙ ap (λ t. bytes_from 0 t) (sym (left c.length b text some)) in
    rw is (ap (λ o. option_map (meant c) o) rest)

-- what is before the rest of a text, put together
joined : (old more : List ℕ) (o : Option (List ℕ)) → option_map (λ bytes. old ++ bytes) (option_map (λ bytes. more ++ bytes) o) ≡ option_map (λ bytes. (old ++ more) ++ bytes) o
joined old more None = refl
joined old more (Some bytes) = ap (λ b. Some b) (sym (append_assoc old more bytes))

-- a turn of the loop over a text
pub one_more : (old new rest : List ℕ) (c : Character) (all : Option (List ℕ)) → character_at rest ≡ Some c → 1 ≤ c.length → new ≡ old ++ replicate c.times c.byte
    → option_map (λ bytes. old ++ bytes) (bytes_from 0 rest) ≡ all → option_map (λ bytes. new ++ bytes) (bytes_from 0 (drop c.length rest)) ≡ all
one_more old new rest c all is some pushed so_far =
    ap (λ (n : List ℕ). option_map (λ bytes. n ++ bytes) (bytes_from 0 (drop c.length rest))) pushed
    ∙ sym (joined old (replicate c.times c.byte) (bytes_from 0 (drop c.length rest)))
    ∙ sym (ap (λ o. option_map (λ bytes. old ++ bytes) o) (from_character rest c is some)) ∙ so_far
