-- Lists that are filled up.
use Rattle.std.proofs.Common.{◌≡◌, ℕ, ◌==◌, ◌+◌, ◌-◌, ◌<◌, true, false, List, ◌++◌, length, take, drop, get_or, refl, ap, ◌∙◌, arith, length-append}
use Rattle.std.specs.Prelude.{replicate}
use Rattle.std.specs.List.{AllPass, position_or_len}
use Rattle.std.proofs.lemmas.List.{take_all, take_at, drop-replicate, length-replicate, get_or_append_left, get_or-append_right, get_or-replicate}
use Rattle.std.proofs.lemmas.List.Elements.{All-get_or}
use Rattle.std.proofs.lemmas.List.Sums.{position_or_len_is}
use Rattle.std.proofs.lemmas.Bool.Decides.{nat_tests}
use Rattle.tb_machine_disk.specs.D64.{name_in}
use Rattle.tb_machine_disk.specs.Names.{field_of, is_name_sign}

-- a list that was filled up with zeros by its new length
pub grown : (xs : List ℕ) (n count : ℕ) → n ≡ length xs → take (n + count) xs ++ replicate (n + count - n) 0 ≡ xs ++ replicate count 0
grown xs n count e =
    let all : take (n + count) xs ≡ xs = take_all (n + count) xs (omega arith) in
    let more : n + count - n ≡ count = omega arith in
    ap (λ x. x ++ replicate (n + count - n) 0) all ∙ ap (λ m. xs ++ replicate m 0) more

-- a field of $A0 whose first bytes were overwritten
pub named : (text part : List ℕ) → part ≡ text → part ++ drop (length text) (replicate 16 0xa0) ≡ field_of text
named text part e = ap (λ x. x ++ drop (length text) (replicate 16 0xa0)) e ∙ ap (λ x. text ++ x) (drop-replicate (length text) 16 0xa0)

sign_stays : (c : ℕ) → is_name_sign c ≡ true → (c == 0xa0) ≡ false
sign_stays c h = grind (arith, nat_tests)

-- a name's field has the name in it
pub name_back : (text : List ℕ) → AllPass is_name_sign text → name_in (field_of text) ≡ text
name_back text signs =
    let stops : position_or_len (λ c. c == 0xa0) (text ++ rest) ≡ length text =
    position_or_len_is (λ c. c == 0xa0) (text ++ rest) (length text) 0 (omega (arith, length-append text rest)) before at in
    ap (λ n. take n (text ++ rest)) stops ∙ take_at text rest (length text) refl
  where
    rest : List ℕ
    rest = replicate (16 - length text) 0xa0

    before : (k : ℕ) → k < length text → (get_or (text ++ rest) k 0 == 0xa0) ≡ false
    before k h = ap (λ c. c == 0xa0) (get_or_append_left text rest 0 k h) ∙ sign_stays (get_or text k 0) (All-get_or (λ c. is_name_sign c ≡ true) text k 0 h signs)

    at : length text < length (text ++ rest) → (get_or (text ++ rest) (length text) 0 == 0xa0) ≡ true
    at h =
        let some : length text - length text < 16 - length text = omega (arith, length-append text rest, length-replicate {A = ℕ} (16 - length text) 0xa0) in
        ap (λ c. c == 0xa0) (get_or-append_right text rest (length text) (length text) 0 refl (omega arith) ∙ get_or-replicate (16 - length text) (length text - length text) 0xa0 0 some)
