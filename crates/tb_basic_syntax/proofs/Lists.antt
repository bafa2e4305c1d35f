-- Comparing lists answers whether they are the same as plain data.
use Rattle.std.proofs.Common.{◌≡◌, Bool, List, map, subst}
use Rattle.std.specs.Prelude.{Decides}
use Rattle.std.specs.Cmp.{unsigned_Decides}
use Rattle.std.specs.Cmp.Derive.Mapped.{pointwise-map}
use Rattle.std.specs.Cmp.Lexicographic.{pointwise, pointwise_decides}
use Rattle.tb_words.specs.Letters.{letter_index}
use Rattle.tb_words.specs.contracts.LetterPartialEq.TheImpl as letter
use Rattle.tb_words.specs.declared.Letter.{Letter}
use Rattle.tb_basic_syntax.specs.declared.statements.PrintItem.{PrintItem}
use Rattle.tb_basic_syntax.specs.PlainData.{item_of, letters_of}
use Rattle.tb_basic_syntax.specs.Same.{answers, is_same, items}

-- where elements are compared as plain data
listed : {X Y : Type 0} (f : X → Y) {E : Y → Y → Bool} → ((x y : Y) → Decides (E x y) (x ≡ y)) → (xs ys : List X)
    → Decides (pointwise (λ x y. E (f x) (f y)) xs ys) (map f xs ≡ map f ys)
listed f {E} decides xs ys =
    subst (λ t. Decides t (map f xs ≡ map f ys)) (pointwise-map f E xs ys) (pointwise_decides decides (map f xs) (map f ys))

-- the items of two PRINTs
pub items_answers : (xs ys : List PrintItem) → Decides (pointwise (λ x y. is_same items (item_of x) (item_of y)) xs ys) (map item_of xs ≡ map item_of ys)
items_answers = listed item_of (answers items)

-- the letters of two INPUTs
pub letters_answers : (xs ys : List Letter) → Decides (pointwise letter.eq-value.it xs ys) (letters_of xs ≡ letters_of ys)
letters_answers = listed letter_index unsigned_Decides
