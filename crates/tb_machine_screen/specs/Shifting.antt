-- How the elements of a list move over.
use Rattle.std.specs.Prelude.{ℕ, ◌+◌, ◌-◌, List, ◌∷◌, ◌++◌, length, take, drop, replicate}

-- a filler stands from one place to another
unfoldable pub filled : {A : Type 0} → ℕ → ℕ → A → List A → List A
filled from to filler xs = take from xs ++ replicate (to - from) filler ++ drop to xs

-- the first elements go, and a filler comes at the end
unfoldable pub scrolled : {A : Type 0} → ℕ → A → List A → List A
scrolled count filler xs = drop count xs ++ replicate count filler

-- a filler comes at a place, and the last elements go
unfoldable pub opened : {A : Type 0} → ℕ → ℕ → A → List A → List A
opened at count filler xs = take at xs ++ replicate count filler ++ take (length xs - (at + count)) (drop at xs)

-- the element at a place goes, and a filler comes at an end after it
unfoldable pub pulled : {A : Type 0} → ℕ → ℕ → A → List A → List A
pulled at end filler xs = take at xs ++ take (end - at) (drop (at + 1) xs) ++ filler ∷ drop (end + 1) xs

-- the element at an end goes, and a filler comes at a place before it
unfoldable pub pushed : {A : Type 0} → ℕ → ℕ → A → List A → List A
pushed at end filler xs = take at xs ++ filler ∷ take (end - at) (drop at xs) ++ drop (end + 1) xs
