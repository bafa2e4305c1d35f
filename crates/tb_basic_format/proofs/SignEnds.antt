-- No quote belongs to a sign: what the rest of a text begins with is decided by what is before the next quote.
use Rattle.std.proofs.Common.{◌≡◌, ℕ, suc, ◌+◌, ◌-◌, ◌<◌, ◌≤◌, Bool, true, false, List, [], ◌∷◌, length, take, Option, Some, None, option_map, refl, sym, ap, ◌∙◌, arith, ◌==◌, ◌⊎◌, inl, inr, if◌then◌else◌}
use Rattle.std.specs.Option.{option_and_then}
use Rattle.std.specs.Char.{to_ascii_lowercase}
use Rattle.std.specs.Str.{str_eq_ignore_ascii_case, str_to_ascii_lowercase}
use Rattle.std.proofs.lemmas.Bool.{eqb-true}
use Rattle.std.proofs.lemmas.Slice.Eq.{bytes_eq-Decides}
use Rattle.tb_basic_signs.specs.declared.characters.Character.{Character}
use Rattle.tb_basic_signs.specs.Characters.{byte_of_digits, character, closing, counted, hexadecimal, longer, several, sign_behind, stands_for}
use Rattle.tb_basic_signs.specs.Names.{Control, byte_named, controls, first_named}

-- whether there is a quote among bytes
abbrev pub has_quote : List ℕ → Bool
has_quote [] = false
has_quote (b ∷ bytes) = if b == 34 then true else has_quote bytes

-- what is before the first quote
abbrev pub before : List ℕ → List ℕ
before [] = []
before (b ∷ bytes) = if b == 34 then [] else b ∷ before bytes

pub true_or_false : (b : Bool) → (b ≡ true) ⊎ (b ≡ false)
true_or_false true = inl refl
true_or_false false = inr refl

-- ── what stands between two braces has no quote ──
or_later : (t u : Bool) → u ≡ true → (if t then true else u) ≡ true
or_later true u e = refl
or_later false u e = e

-- a quote stays a quote in lower case
quote_lowered : (bytes : List ℕ) → has_quote bytes ≡ true → has_quote (str_to_ascii_lowercase bytes) ≡ true
quote_lowered [] e = e
quote_lowered (b ∷ bytes) e = elim (true_or_false (b == 34)) [
  | inl quote ↦ let is : b ≡ 34 = eqb-true b 34 quote in rw is refl
  | inr other ↦
      let rest : has_quote bytes ≡ true = rw other at e in
      or_later (to_ascii_lowercase b == 34) (has_quote (str_to_ascii_lowercase bytes)) (quote_lowered bytes rest)
]

-- whether no name of these has a quote
lack_quotes : List Control → Bool
lack_quotes [] = true
lack_quotes (c ∷ cs) = if has_quote (str_to_ascii_lowercase c.name) then false else lack_quotes cs

first_lacks : (t u : Bool) → (if t then false else u) ≡ true → (t ≡ false) × (u ≡ true)
first_lacks true u e = absurd (let no_match : false ≡ true = e in cc)
first_lacks false u e = (refl, e)

-- bytes with a quote are no name
no_name : (name : List ℕ) (cs : List Control) → has_quote name ≡ true → lack_quotes cs ≡ true → first_named name cs ≡ None
unfolding lack_quotes
no_name name [] quote lack = refl
no_name name (c ∷ cs) quote lack =
    let free = first_lacks (has_quote (str_to_ascii_lowercase c.name)) (lack_quotes cs) lack in
    elim (true_or_false (str_eq_ignore_ascii_case name c.name)) [
      | inl same ↦
          let is : str_to_ascii_lowercase name ≡ str_to_ascii_lowercase c.name =
          (bytes_eq-Decides (str_to_ascii_lowercase name) (str_to_ascii_lowercase c.name)).0 same in
          let both : true ≡ false = sym (quote_lowered name quote) ∙ (ap (λ (t : List ℕ). has_quote t) is ∙ free.0) in
          absurd cc
      | inr other ↦ rw other (no_name name cs quote free.1)
    ]

names_lack : lack_quotes controls ≡ true
unfolding lack_quotes
names_lack = refl

none_after : (o : Option ℕ) → option_and_then {T = ℕ} {U = ℕ} (λ _. None) o ≡ None
none_after None = refl
none_after (Some n) = refl

only_true : (t : Bool) → (if t then true else false) ≡ true → t ≡ true
only_true true e = refl
only_true false e = e

-- no two digits
no_digits : (content : List ℕ) → has_quote content ≡ true → byte_of_digits content ≡ None
no_digits [] e = refl
no_digits (a ∷ []) e = refl
no_digits (a ∷ b ∷ []) e = elim (true_or_false (a == 34)) [
  | inl quote ↦ let is : a ≡ 34 = eqb-true a 34 quote in rw is refl
  | inr other ↦
      let rest : (if b == 34 then true else false) ≡ true = rw other at e in
      let is : b ≡ 34 = eqb-true b 34 (only_true (b == 34) rest) in
      rw is (none_after (hexadecimal a))
]
no_digits (a ∷ b ∷ c ∷ rest) e = refl

none_by : {A : Type 0} (t u : Bool) (x y : Option A) → x ≡ None → y ≡ None → (if t then x else if u then y else None) ≡ None
none_by true u x y e f = e
none_by false true x y e f = f
none_by false false x y e f = refl

either_way : {A : Type 0} (t : Bool) (x : A) → (if t then x else x) ≡ x
either_way true x = refl
either_way false x = refl

-- no count and a name
no_count : (times : ℕ) (content : List ℕ) → has_quote content ≡ true → counted times content ≡ None
no_count times [] e = refl
no_count times (b ∷ rest) e = elim (true_or_false (b == 34)) [
  | inl quote ↦ let is : b ≡ 34 = eqb-true b 34 quote in rw is refl
  | inr other ↦
      let later : has_quote rest ≡ true = rw other at e in
      let unnamed : several times (byte_named rest) ≡ None =
      ap (λ o. several times o) (no_name rest controls later names_lack) ∙ either_way _ None in
      none_by _ (b == 32) (counted (longer times (b - 48)) rest) (several times (byte_named rest)) (no_count (longer times (b - 48)) rest later) unnamed
]

-- nothing at all
stands_for_nothing : (content : List ℕ) → has_quote content ≡ true → stands_for content ≡ None
stands_for_nothing content e = rw (no_digits content e, no_name content controls e names_lack, no_count 0 content e) refl

-- ── where a sign ends ──
-- a closing brace is within the bytes
closes_within : (n : ℕ) (bytes : List ℕ) (end : ℕ) → closing n bytes ≡ Some end → (n ≤ end) × (end < n + length bytes)
closes_within n [] end e = absurd (let no_match : None ≡ Some end = e in cc)
closes_within n (b ∷ bytes) end e = elim (true_or_false (b == 125)) [
  | inl here ↦
      let at : Some n ≡ Some end = rw here at e in
      let same : n ≡ end = cc in (omega arith, omega arith)
  | inr later ↦
      let at : closing (n + 1) bytes ≡ Some end = rw later at e in
      let h = closes_within (n + 1) bytes end at in (omega (arith, h.0), omega (arith, h.1))
]

-- where the first closing brace is: before the first quote, behind one, or nowhere
data Ends (n : ℕ) (inside : List ℕ) : Type 0 where
  within : (end size : ℕ) → end ≡ n + size → closing n inside ≡ Some end → closing n (before inside) ≡ Some end → take size inside ≡ take size (before inside)
      → Ends n inside
  beyond : (end size : ℕ) → end ≡ n + size → closing n inside ≡ Some end → closing n (before inside) ≡ None → has_quote (take size inside) ≡ true → Ends n inside
  nowhere : closing n inside ≡ None → closing n (before inside) ≡ None → Ends n inside

behind_quote : (n b : ℕ) (inside : List ℕ) → (b == 34) ≡ true → (o : Option ℕ) → closing (n + 1) inside ≡ o → Ends n (b ∷ inside)
behind_quote n b inside quote None e = let is : b ≡ 34 = eqb-true b 34 quote in nowhere (rw is e) (rw quote refl)
behind_quote n b inside quote (Some end) e =
    let is : b ≡ 34 = eqb-true b 34 quote in
    let h = closes_within (n + 1) inside end e in
    beyond end (suc (end - n - 1)) (omega (arith, h.0)) (rw is e) (rw quote refl) (rw quote refl)

behind_byte : (n b : ℕ) (inside : List ℕ) → (b == 34) ≡ false → (b == 125) ≡ false → Ends (n + 1) inside → Ends n (b ∷ inside)
behind_byte n b inside other more (within end size is found found_before front) =
    within end (suc size) (omega (arith, is)) (rw more found) (rw (other, more) found_before) (rw other (ap (λ (t : List ℕ). b ∷ t) front))
behind_byte n b inside other more (beyond end size is found none_before quote) =
    beyond end (suc size) (omega (arith, is)) (rw more found) (rw (other, more) none_before) (rw other quote)
behind_byte n b inside other more (nowhere none none_before) = nowhere (rw more none) (rw (other, more) none_before)

ends : (n : ℕ) (inside : List ℕ) → Ends n inside
ends n [] = nowhere refl refl
ends n (b ∷ inside) = elim (true_or_false (b == 34)) [
  | inl quote ↦ behind_quote n b inside quote (closing (n + 1) inside) refl
  | inr other ↦ elim (true_or_false (b == 125)) [
    | inl brace ↦ within n 0 (omega arith) (rw brace refl) (rw (other, brace) refl) refl
    | inr more ↦ behind_byte n b inside other more (ends (n + 1) inside)
  ]
]

-- a sign by its closing brace
sign_at_end : (inside : List ℕ) (end : ℕ) → closing 0 inside ≡ Some end → sign_behind inside ≡ option_map (character (end + 2)) (stands_for (take end inside))
sign_at_end inside end e = ap (λ (o : Option ℕ). option_and_then (λ n. option_map (character (n + 2)) (stands_for (take n inside))) o) e

-- there is none without one
sign_nowhere : (inside : List ℕ) → closing 0 inside ≡ None → sign_behind inside ≡ None
sign_nowhere inside e = ap (λ (o : Option ℕ). option_and_then (λ n. option_map (character (n + 2)) (stands_for (take n inside))) o) e

sign_by_end : (inside : List ℕ) → Ends 0 inside → sign_behind inside ≡ sign_behind (before inside)
sign_by_end inside (within end size is found found_before front) =
    let same : end ≡ size = omega (arith, is) in
    let text : take end inside ≡ take end (before inside) = rw same front in
    sign_at_end inside end found
    ∙ (ap (λ (t : List ℕ). option_map (character (end + 2)) (stands_for t)) text ∙ sym (sign_at_end (before inside) end found_before))
sign_by_end inside (beyond end size is found none_before quote) =
    let same : end ≡ size = omega (arith, is) in
    let inner : has_quote (take end inside) ≡ true = rw same quote in
    sign_at_end inside end found
    ∙ (ap (λ o. option_map (character (end + 2)) o) (stands_for_nothing (take end inside) inner) ∙ sym (sign_nowhere (before inside) none_before))
sign_by_end inside (nowhere none none_before) = sign_nowhere inside none ∙ sym (sign_nowhere (before inside) none_before)

-- a sign is decided before the next quote
pub sign_before : (inside : List ℕ) → sign_behind inside ≡ sign_behind (before inside)
sign_before inside = sign_by_end inside (ends 0 inside)

made_length : {R : Type 0} (make : R → Character) (n : ℕ) → ((r : R) → (make r).length ≡ n) → (o : Option R) (c : Character) → option_map make o ≡ Some c → c.length ≡ n
made_length make n same None c e = absurd (let no_match : None ≡ Some c = e in cc)
made_length make n same (Some r) c e = let is : make r ≡ c = cc in ap (λ (d : Character). d.length) (sym is) ∙ same r

-- a sign is within the bytes
pub sign_within : (inside : List ℕ) (c : Character) → sign_behind inside ≡ Some c → c.length ≤ length inside + 1
sign_within inside c e = go (closing 0 inside) refl
  where
    go : (o : Option ℕ) → closing 0 inside ≡ o → c.length ≤ length inside + 1
    go None none = absurd (let no_match : None ≡ Some c = sym (sign_nowhere inside none) ∙ e in cc)
    go (Some end) found =
        let made : c.length ≡ end + 2 = made_length (character (end + 2)) (end + 2) (λ r. refl) (stands_for (take end inside)) c (sym (sign_at_end inside end found) ∙ e) in
        let h = closes_within 0 inside end found in
        omega (arith, made, h.1)
