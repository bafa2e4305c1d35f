-- Which text is open under a name, after others were opened and closed.
use Rattle.std.proofs.Common.{◌≡◌, ℕ, suc, ◌+◌, Bool, true, false, List, [], ◌∷◌, ◌++◌, Option, Some, None, refl, sym, ap, add-one, subst, ◌∙◌, if◌then◌else◌, option_map, option_and_then, slice_get, string_bytes}
use Rattle.std.specs.Str.{bytes_eq}
use Rattle.std.specs.List.{remove}
use Rattle.std.proofs.lemmas.Slice.Eq.{bytes_eq-Decides}
use Rattle.tb_lsp_server.specs.Texts.{Opens, all_but, place_from, text_of, without}
use Rattle.tb_lsp_server.specs.declared.texts.OpenText.{OpenText}

-- ── by the list itself, in place of places ──
-- what a text is that is open
abbrev pub found : List ℕ → List OpenText → Option (List ℕ)
found uri [] = None
found uri (t ∷ ts) = if bytes_eq (string_bytes t.uri) uri then Some (string_bytes t.text) else found uri ts

-- those that are open without one
abbrev pub left : List ℕ → List OpenText → List OpenText
left uri [] = []
left uri (t ∷ ts) = if bytes_eq (string_bytes t.uri) uri then ts else t ∷ left uri ts

-- a place in a list is one less in its rest
shifted : (i : ℕ) (uri : List ℕ) (ts : List OpenText) → place_from (i + 1) uri ts ≡ option_map (λ k. k + 1) (place_from i uri ts)
shifted i uri [] = refl
shifted i uri (t ∷ ts) = go (bytes_eq (string_bytes t.uri) uri) refl (shifted (i + 1) uri ts)
  where
    go : (same : Bool) → bytes_eq (string_bytes t.uri) uri ≡ same → place_from (i + 1 + 1) uri ts ≡ option_map (λ k. k + 1) (place_from (i + 1) uri ts)
        → place_from (i + 1) uri (t ∷ ts) ≡ option_map (λ k. k + 1) (place_from i uri (t ∷ ts))
    go true e rest = rw e refl
    go false e rest = rw e rest

-- what is open by its place
abbrev at_place : Option ℕ → List OpenText → Option (List ℕ)
at_place place ts = option_and_then (λ i. option_map (λ t. string_bytes t.text) (slice_get ts i)) place

below : (t : OpenText) (ts : List OpenText) (place : Option ℕ) → at_place (option_map (λ k. k + 1) place) (t ∷ ts) ≡ at_place place ts
below t ts None = refl
below t ts (Some k) = rw (add-one k) refl

pub is_found : (uri : List ℕ) (ts : List OpenText) → text_of uri ts ≡ found uri ts
is_found uri [] = refl
is_found uri (t ∷ ts) = go (bytes_eq (string_bytes t.uri) uri) refl (is_found uri ts)
  where
    go : (same : Bool) → bytes_eq (string_bytes t.uri) uri ≡ same → text_of uri ts ≡ found uri ts → text_of uri (t ∷ ts) ≡ found uri (t ∷ ts)
    go true e rest = rw e refl
    go false e rest = rw (e, shifted 0 uri ts) (below t ts (place_from 0 uri ts) ∙ rest)

past : (t : OpenText) (ts : List OpenText) (place : Option ℕ) → all_but (option_map (λ k. k + 1) place) (t ∷ ts) ≡ t ∷ all_but place ts
past t ts None = refl
past t ts (Some k) = rw (add-one k) refl

pub is_left : (uri : List ℕ) (ts : List OpenText) → without uri ts ≡ left uri ts
is_left uri [] = refl
is_left uri (t ∷ ts) = go (bytes_eq (string_bytes t.uri) uri) refl (is_left uri ts)
  where
    go : (same : Bool) → bytes_eq (string_bytes t.uri) uri ≡ same → without uri ts ≡ left uri ts → without uri (t ∷ ts) ≡ left uri (t ∷ ts)
    go true e rest = rw e refl
    go false e rest = rw (e, shifted 0 uri ts) (past t ts (place_from 0 uri ts) ∙ ap (λ rest. t ∷ rest) rest)

-- ── names ──
same_names : (a b : List ℕ) → bytes_eq a b ≡ true → a ≡ b
same_names a b e = (bytes_eq-Decides a b).0 e

itself : (a : List ℕ) → bytes_eq a a ≡ true
itself a = (bytes_eq-Decides a a).1 refl

swapped : (a b : List ℕ) → bytes_eq a b ≡ bytes_eq b a
swapped a b = go (bytes_eq a b) (bytes_eq b a) refl refl
  where
    go : (x y : Bool) → bytes_eq a b ≡ x → bytes_eq b a ≡ y → x ≡ y
    go true true e f = refl
    go false false e f = refl
    go true false e f = sym ((bytes_eq-Decides b a).1 (sym (same_names a b e))) ∙ f
    go false true e f = sym e ∙ (bytes_eq-Decides a b).1 (sym (same_names b a f))

some_none : {A : Type 0} {x : A} → Some x ≡ None → ⊥
some_none e = cc

-- ── each once ──
abbrev pub Once : List OpenText → Type 0
Once [] = Unit {0}
Once (t ∷ ts) = (found (string_bytes t.uri) ts ≡ None) × Once ts

-- what is found after one was closed
found_left : (u v : List ℕ) (ts : List OpenText) → Once ts → found v (left u ts) ≡ (if bytes_eq u v then None else found v ts)
found_left u v [] once = go (bytes_eq u v)
  where
    go : (same : Bool) → found v [] ≡ (if same then None else found v [])
    go true = refl
    go false = refl
found_left u v (t ∷ ts) (new, once) = go (bytes_eq (string_bytes t.uri) u) (bytes_eq u v) refl refl new (found_left u v ts once)
  where
    go : (here same : Bool) → bytes_eq (string_bytes t.uri) u ≡ here → bytes_eq u v ≡ same → found (string_bytes t.uri) ts ≡ None
        → found v (left u ts) ≡ (if bytes_eq u v then None else found v ts)
        → found v (left u (t ∷ ts)) ≡ (if bytes_eq u v then None else found v (t ∷ ts))
    go true true h s new rest = rw (h, s) (ap (λ w. found w ts) (sym (same_names _ _ h ∙ same_names _ _ s)) ∙ new)
    go true false h s new rest = rw (h, s, ap (λ w. bytes_eq w v) (same_names _ _ h) ∙ s) refl
    go false true h s new rest = rw (h, s, ap (λ w. bytes_eq (string_bytes t.uri) w) (sym (same_names _ _ s)) ∙ h) (rest ∙ rw s refl)
    go false false h s new rest = rw (h, s) (ap (λ r. if bytes_eq (string_bytes t.uri) v then Some (string_bytes t.text) else r) (rest ∙ rw s refl))

once_left : (u : List ℕ) (ts : List OpenText) → Once ts → Once (left u ts)
once_left u [] once = tt
once_left u (t ∷ ts) (new, once) = go (bytes_eq (string_bytes t.uri) u) refl (once_left u ts once)
  where
    go : (here : Bool) → bytes_eq (string_bytes t.uri) u ≡ here → Once (left u ts) → Once (left u (t ∷ ts))
    go true h rest = rw h once
    go false h rest = rw h (found_left u (string_bytes t.uri) ts once ∙ rw (swapped u (string_bytes t.uri) ∙ h) new, rest)

-- what is found after one was put behind others
found_more : (v : List ℕ) (ts : List OpenText) (t : OpenText) → bytes_eq (string_bytes t.uri) v ≡ false → found v (ts ++ t ∷ []) ≡ found v ts
found_more v [] t other = rw other refl
found_more v (x ∷ ts) t other = ap (λ r. if bytes_eq (string_bytes x.uri) v then Some (string_bytes x.text) else r) (found_more v ts t other)

found_last : (v : List ℕ) (ts : List OpenText) (t : OpenText) → bytes_eq (string_bytes t.uri) v ≡ true → found v ts ≡ None → found v (ts ++ t ∷ []) ≡ Some (string_bytes t.text)
found_last v [] t same none = rw same refl
found_last v (x ∷ ts) t same none = go (bytes_eq (string_bytes x.uri) v) refl (found_last v ts t same)
  where
    go : (here : Bool) → bytes_eq (string_bytes x.uri) v ≡ here → (found v ts ≡ None → found v (ts ++ t ∷ []) ≡ Some (string_bytes t.text))
        → found v (x ∷ ts ++ t ∷ []) ≡ Some (string_bytes t.text)
    go true h rest = absurd (some_none (rw h at none))
    go false h rest = rw h (rest (rw h at none))

once_more : (ts : List OpenText) (t : OpenText) → Once ts → found (string_bytes t.uri) ts ≡ None → Once (ts ++ t ∷ [])
once_more [] t once none = (refl, tt)
once_more (x ∷ ts) t (new, once) none = go (bytes_eq (string_bytes x.uri) (string_bytes t.uri)) refl (once_more ts t once)
  where
    go : (here : Bool) → bytes_eq (string_bytes x.uri) (string_bytes t.uri) ≡ here → (found (string_bytes t.uri) ts ≡ None → Once (ts ++ t ∷ []))
        → Once (x ∷ ts ++ t ∷ [])
    go true h rest = absurd (some_none (rw h at none))
    go false h rest = (found_more (string_bytes x.uri) ts t (swapped (string_bytes t.uri) (string_bytes x.uri) ∙ h) ∙ new, rest (rw h at none))

-- ── what is open after a text was closed, and after one was opened ──
pub text_closed : (u v : List ℕ) (ts : List OpenText) → Once ts → text_of v (without u ts) ≡ (if bytes_eq u v then None else text_of v ts)
text_closed u v ts once = rw (is_left u ts, is_found v (left u ts), is_found v ts) (found_left u v ts once)

pub once_closed : (u : List ℕ) (ts : List OpenText) → Once ts → Once (without u ts)
once_closed u ts once = rw (is_left u ts) (once_left u ts once)

pub text_opened : (u text v : List ℕ) (old new : List OpenText) → Once old → Opens u text old new
    → text_of v new ≡ (if bytes_eq u v then Some text else text_of v old)
text_opened u text v old new once (t, named, written, is) = go (bytes_eq u v) refl
  where
    before : found v (left u old) ≡ (if bytes_eq u v then None else found v old)
    before = found_left u v old once

    now : text_of v new ≡ found v (left u old ++ t ∷ [])
    now = ap (λ ts. text_of v ts) (is ∙ ap (λ ts. ts ++ t ∷ []) (is_left u old)) ∙ is_found v (left u old ++ t ∷ [])

    go : (same : Bool) → bytes_eq u v ≡ same → text_of v new ≡ (if bytes_eq u v then Some text else text_of v old)
    go true s = rw s (now ∙ (found_last v (left u old) t (ap (λ w. bytes_eq w v) named ∙ s) (before ∙ rw s refl) ∙ ap (λ w. Some w) written))
    go false s = rw s (now ∙ (found_more v (left u old) t (ap (λ w. bytes_eq w v) named ∙ s) ∙ (before ∙ rw s (sym (is_found v old)))))

pub once_opened : (u text : List ℕ) (old new : List OpenText) → Once old → Opens u text old new → Once new
once_opened u text old new once (t, named, written, is) =
    let none : found (string_bytes t.uri) (left u old) ≡ None =
    found_left u (string_bytes t.uri) old once ∙ rw (ap (λ w. bytes_eq u w) named ∙ itself u) refl in
    subst Once (sym (is ∙ ap (λ ts. ts ++ t ∷ []) (is_left u old))) (once_more (left u old) t (once_left u old once) none)
