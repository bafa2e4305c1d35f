-- What stands between commas.
use Rattle.std.proofs.Common.{◌≡◌, ℕ, ◌+◌, ◌<◌, true, false, List, [], ◌∷◌, ◌++◌, length, take, drop, map, get_or, refl, sym, ap, ◌∙◌, add-one, drop-cons, append_assoc, Some, if◌then◌else◌}
use Rattle.std.proofs.lemmas.List.{append-nil, map_more, take-map, drop-map}
use Rattle.tb_assembly_text.specs.declared.tokens.Token.{Token}
use Rattle.tb_assembly_text.specs.Tokens.{Placed, token_of}
use Rattle.tb_assembly_text.specs.Lists.{Segment, is_comma, put, segments, behind_comma}

-- tokens before those of the first segment
abbrev pub puts : List Placed → List Segment → List Segment
puts p [] = []
puts p (s ∷ ss) = (p ++ s.0, s.1) ∷ ss

puts-put : (p : List Placed) (t : Placed) (ss : List Segment) → puts p (put t ss) ≡ puts (p ++ t ∷ []) ss
puts-put p t [] = refl
puts-put p t (s ∷ ss) = ap (λ q. (q, s.1) ∷ ss) (sym (append_assoc p (t ∷ []) s.0))

module _ (end : ℕ) (xs : List Token) (i : ℕ) (d : Token) (below : i < length xs)
    (so_far : puts (map token_of (take i xs)) (segments end (map token_of (drop i xs))) ≡ segments end (map token_of xs))
    (comma : behind_comma (map token_of (drop i xs)) ≡ behind_comma (map token_of xs)) where
  here : map token_of (drop i xs) ≡ token_of (get_or xs i d) ∷ map token_of (drop (i + 1) xs)
  here = ap (map token_of) (drop-cons xs i d below) ∙ ap (λ n. token_of (get_or xs i d) ∷ map token_of (drop n xs)) (sym (add-one i))

  -- a comma ends the segment
  pub segment_ends : is_comma (token_of (get_or xs i d)) ≡ true
      → (segments end (map token_of xs) ≡ (take i (map token_of xs), (get_or xs i d).column) ∷ segments end (drop (i + 1) (map token_of xs)))
      × (behind_comma (map token_of xs) ≡ Some (drop (i + 1) (map token_of xs)))
  segment_ends is =
      let t = token_of (get_or xs i d) in
      let ts = map token_of (drop (i + 1) xs) in
      let first : map token_of (take i xs) ≡ take i (map token_of xs) = sym (take-map token_of i xs) in
      let left : map token_of (drop (i + 1) xs) ≡ drop (i + 1) (map token_of xs) = sym (drop-map token_of (i + 1) xs) in (
        sym so_far ∙ ap (λ us. puts (map token_of (take i xs)) (segments end us)) here
            ∙ ap (λ b. puts (map token_of (take i xs)) (if b then ([], t.0) ∷ segments end ts else put t (segments end ts))) is
            ∙ ap (λ q. (q, t.0) ∷ segments end ts) (append-nil (map token_of (take i xs)))
            ∙ (λ j. (first j, t.0) ∷ segments end (left j)),
        sym comma ∙ ap behind_comma here ∙ ap (λ b. if b then Some ts else behind_comma ts) is ∙ ap Some left,
      )

  -- any other token goes on with it
  pub segment_on : is_comma (token_of (get_or xs i d)) ≡ false
      → (puts (map token_of (take (i + 1) xs)) (segments end (map token_of (drop (i + 1) xs))) ≡ segments end (map token_of xs))
      × (behind_comma (map token_of (drop (i + 1) xs)) ≡ behind_comma (map token_of xs))
  segment_on is =
      let t = token_of (get_or xs i d) in
      let ts = map token_of (drop (i + 1) xs) in
      let more : map token_of (take (i + 1) xs) ≡ map token_of (take i xs) ++ t ∷ [] = map_more token_of xs i d below in (
        ap (λ p. puts p (segments end ts)) more ∙ sym (puts-put (map token_of (take i xs)) t (segments end ts))
            ∙ sym (ap (λ b. puts (map token_of (take i xs)) (if b then ([], t.0) ∷ segments end ts else put t (segments end ts))) is)
            ∙ sym (ap (λ us. puts (map token_of (take i xs)) (segments end us)) here) ∙ so_far,
        sym (ap (λ b. if b then Some ts else behind_comma ts) is) ∙ sym (ap behind_comma here) ∙ comma,
      )
