-- What the loops of settling keep from item to item.
use Rattle.std.proofs.Common.{◌≡◌, ℕ, suc, length, map, drop, get_or, drop-cons, add-one, ◌+◌, ◌%◌, ◌<◌, ◌≤◌, Bool, true, false, not}
use Rattle.std.proofs.Common.{◌&&◌, ◌||◌, List, [], ◌∷◌, ◌++◌, Option, Some, None, refl, sym, ap, subst, ◌∙◌, arith, append_assoc}
use Rattle.std.proofs.Common.{if◌then◌else◌, true≢false}
use Rattle.std.specs.Prelude.{replicate}
use Rattle.tb_opcodes.specs.declared.Mnemonic.{Mnemonic}
use Rattle.tb_asm.specs.declared.names.Name.{Name}
use Rattle.tb_asm.specs.declared.items.Item.{Item}
use Rattle.tb_asm.proofs.Passes.{behind, here}
use Rattle.tb_asm.specs.Layout.{Entry, entry_of, size_of, address_in, distance, is_near}
use Rattle.tb_asm.specs.Settle.{Form, kept, branch_to, form_size, far_to, is_beyond, is_far, form_far, long_of, lengthened, some_far_in, some_far, widen, round, round_labels, Settles, done, more}
use Rattle.tb_asm.specs.Marks.{form_of, forms_of, marks_from, new_mark, wrapped}

-- distances are the same for addresses modulo 65,536
pub distance_wraps : (a b : ℕ) (t u : ℕ) → a ≡ b % 65536 → t % 65536 ≡ u % 65536 → distance a t ≡ distance b u
distance_wraps a b t u h k = omega arith

-- whether a branch reaches is the same for addresses modulo 65,536
pub far_wraps : (labels : List (Name × ℕ)) (a b : ℕ) (e : Entry) → a ≡ b % 65536 → is_far labels a e ≡ is_far labels b e
far_wraps labels a b e h = by (branch_to e)
  where
    found : (o : Option ℕ) → is_beyond a o ≡ is_beyond b o
    found None = refl
    found (Some t) = ap (λ d. not (is_near d)) (distance_wraps a b t t h refl)

    by : (o : Option (Mnemonic × Name)) → far_to labels a o ≡ far_to labels b o
    by None = refl
    by (Some p) = found (address_in labels p.1)

pub record RoundTo (labels : List (Name × ℕ)) (es : List Entry) (bs next : List Bool) (changed : Bool) (address : ℕ) (all : List Bool) (any : Bool) : Type 0 where
  pub place : ℕ
  pub address_is : address ≡ place % 65536
  pub marks : next ++ marks_from labels place es bs ≡ all
  pub news : (changed || new_mark labels place es bs) ≡ any

or_assoc : (a b c : Bool) → ((a || b) || c) ≡ (a || (b || c))
or_assoc true b c = refl
or_assoc false b c = refl

module _ (labels : List (Name × ℕ)) (e : Entry) (es : List Entry) (b : Bool) (bs : List Bool) where
  -- the loop of a round goes on over an item
  pub round_more : (next : List Bool) (changed far : Bool) (address end : ℕ) {all : List Bool} {any : Bool}
      → RoundTo labels (e ∷ es) (b ∷ bs) next changed address all any → far ≡ (not b && is_far labels address e)
      → end ≡ (address + form_size (form_of b e)) % 65536
      → RoundTo labels es bs (next ++ (b || far) ∷ []) (changed || far) end all any
  round_more next changed far address end {all} {any} r is ends =
      let n = form_size (form_of b e) in
      let here : far ≡ (not b && is_far labels r.place e) = is ∙ ap (λ f. not b && f) (far_wraps labels address r.place e r.address_is) in
      let mark : (b || far) ≡ (b || is_far labels r.place e) = ap (λ f. b || f) here ∙ both b (is_far labels r.place e) in
      let tail = marks_from labels (r.place + n) es bs in
      let a : address ≡ r.place % 65536 = r.address_is in
      record {
        place = r.place + n;
        address_is = ends ∙ (let w : (address + n) % 65536 ≡ (r.place + n) % 65536 = omega arith in w);
        marks = append_assoc next ((b || far) ∷ []) tail ∙ ap (λ m. next ++ m ∷ tail) mark ∙ r.marks;
        news = or_assoc changed far (new_mark labels (r.place + n) es bs) ∙ ap (λ f. changed || (f || new_mark labels (r.place + n) es bs)) here ∙ r.news;
      }
    where
      both : (c f : Bool) → (c || (not c && f)) ≡ (c || f)
      both true f = refl
      both false f = refl

-- the marks from the item at i on
pub marks_here : (bs : List Bool) (i : ℕ) → i < length bs → drop i bs ≡ get_or bs i false ∷ drop (i + 1) bs
marks_here bs i l = drop-cons bs i false l ∙ ap (λ n. get_or bs i false ∷ drop n bs) (sym (add-one i))

-- the loop of a round at the item of a list
pub round_item : (labels : List (Name × ℕ)) (items : List Item) (bs : List Bool) (i : ℕ) (item : Item) → i < length items → item ≡ get_or items i item → i < length bs
    → (next new : List Bool) (changed far : Bool) (address k : ℕ) {all : List Bool} {any : Bool}
    → RoundTo labels (behind items i) (drop i bs) next changed address all any
    → far ≡ (not (get_or bs i false) && is_far labels address (entry_of item)) → new ≡ next ++ (get_or bs i false || far) ∷ []
    → k ≡ form_size (form_of (get_or bs i false) (entry_of item))
    → RoundTo labels (behind items (i + 1)) (drop (i + 1) bs) new (changed || far) ((address + k) % 65536) all any
round_item labels items bs i item l is m next new changed far address k {all} {any} r f grown size_is =
    subst (λ n. RoundTo labels (behind items (i + 1)) (drop (i + 1) bs) n (changed || far) ((address + k) % 65536) all any) (sym grown)
    (round_more labels (entry_of item) (behind items (i + 1)) (get_or bs i false) (drop (i + 1) bs) next changed far address ((address + k) % 65536)
    (subst (λ es. RoundTo labels es (get_or bs i false ∷ drop (i + 1) bs) next changed address all any) (here 0 items i item l is)
    (subst (λ ms. RoundTo labels (behind items i) ms next changed address all any) (marks_here bs i m) r))
    f (ap (λ n. (address + n) % 65536) size_is))

-- marks and forms: a long form is kept, whatever the labels are
module _ (labels : List (Name × ℕ)) (a : ℕ) (e : Entry) where
  long_near : form_far labels a (long_of (branch_to e) e) ≡ false
  long_near = by (branch_to e) refl
    where
      by : (o : Option (Mnemonic × Name)) → branch_to e ≡ o → form_far labels a (long_of o e) ≡ false
      by None h = ap (far_to labels a) h
      by (Some p) h = refl

  long_stays : (if form_far labels a (long_of (branch_to e) e) then lengthened (long_of (branch_to e) e) else long_of (branch_to e) e) ≡ long_of (branch_to e) e
  long_stays = ap (λ f. if f then lengthened (long_of (branch_to e) e) else long_of (branch_to e) e) long_near

  short_widens : (f : Bool) → (if f then lengthened (kept e) else kept e) ≡ form_of f e
  short_widens true = refl
  short_widens false = refl

-- widening forms is marking their items
pub forms_widen : (labels : List (Name × ℕ)) (a : ℕ) (es : List Entry) (bs : List Bool) → widen labels a (forms_of es bs) ≡ forms_of es (marks_from labels a es bs)
forms_widen labels a [] bs = refl
forms_widen labels a (e ∷ es) [] = refl
forms_widen labels a (e ∷ es) (true ∷ bs) = λ i. long_stays labels a e i ∷ forms_widen labels (a + form_size (form_of true e)) es bs i
forms_widen labels a (e ∷ es) (false ∷ bs) = λ i. short_widens labels a e (is_far labels a e) i ∷ forms_widen labels (a + form_size (form_of false e)) es bs i

-- a form does not reach exactly if its item gets a new mark
pub forms_far : (labels : List (Name × ℕ)) (a : ℕ) (es : List Entry) (bs : List Bool) → some_far_in labels a (forms_of es bs) ≡ new_mark labels a es bs
forms_far labels a [] bs = refl
forms_far labels a (e ∷ es) [] = refl
forms_far labels a (e ∷ es) (true ∷ bs) = λ i. long_near labels a e i || forms_far labels (a + form_size (form_of true e)) es bs i
forms_far labels a (e ∷ es) (false ∷ bs) = λ i. is_far labels a e || forms_far labels (a + form_size (form_of false e)) es bs i

-- without marks the forms are the items as they are
pub no_marks : (es : List Entry) → forms_of es (replicate (length es) false) ≡ map kept es
no_marks [] = refl
no_marks (e ∷ es) = ap (λ fs. kept e ∷ fs) (no_marks es)

-- a round with a new mark leaves fewer items without one
pub shorts : List Bool → ℕ
shorts [] = 0
shorts (true ∷ bs) = shorts bs
shorts (false ∷ bs) = shorts bs + 1

-- a round gives a mark for each item
pub marks_length : (labels : List (Name × ℕ)) (a : ℕ) (es : List Entry) (bs : List Bool) → length bs ≡ length es → length (marks_from labels a es bs) ≡ length es
marks_length labels a [] bs h = refl
marks_length labels a (e ∷ es) [] h = h
marks_length labels a (e ∷ es) (b ∷ bs) h = ap (λ n. suc n) (marks_length labels (a + form_size (form_of b e)) es bs (let k : length bs ≡ length es = omega arith in k))

fewer_or_same : (labels : List (Name × ℕ)) (a : ℕ) (es : List Entry) (bs : List Bool) → shorts (marks_from labels a es bs) ≤ shorts bs
unfolding shorts
fewer_or_same labels a [] bs = omega arith
fewer_or_same labels a (e ∷ es) [] = omega arith
fewer_or_same labels a (e ∷ es) (true ∷ bs) = fewer_or_same labels (a + form_size (form_of true e)) es bs
fewer_or_same labels a (e ∷ es) (false ∷ bs) = by (is_far labels a e) (fewer_or_same labels (a + form_size (form_of false e)) es bs)
  where
    by : (f : Bool) → shorts (marks_from labels (a + size_of e) es bs) ≤ shorts bs → shorts (f ∷ marks_from labels (a + size_of e) es bs) ≤ shorts bs + 1
    by true h = omega arith
    by false h = omega arith

-- a round with a new mark leaves fewer items without one
pub fewer : (labels : List (Name × ℕ)) (a : ℕ) (es : List Entry) (bs : List Bool) → new_mark labels a es bs ≡ true → shorts (marks_from labels a es bs) < shorts bs
unfolding shorts
fewer labels a [] bs h = absurd (true≢false (sym h))
fewer labels a (e ∷ es) [] h = absurd (true≢false (sym h))
fewer labels a (e ∷ es) (true ∷ bs) h = fewer labels (a + form_size (form_of true e)) es bs h
fewer labels a (e ∷ es) (false ∷ bs) h = by (is_far labels a e) h (fewer labels (a + size_of e) es bs) (fewer_or_same labels (a + size_of e) es bs)
  where
    by : (f : Bool) → (f || new_mark labels (a + size_of e) es bs) ≡ true
        → (new_mark labels (a + size_of e) es bs ≡ true → shorts (marks_from labels (a + size_of e) es bs) < shorts bs)
        → shorts (marks_from labels (a + size_of e) es bs) ≤ shorts bs → shorts (f ∷ marks_from labels (a + size_of e) es bs) < shorts bs + 1
    by true k go le = omega arith
    by false k go le = let l : shorts (marks_from labels (a + size_of e) es bs) < shorts bs = go k in omega arith

-- two rounds by labels that are found at the same addresses modulo 65,536 are the same
module _ (found labels : List (Name × ℕ)) (same : (n : Name) → address_in found n ≡ wrapped (address_in labels n)) where
  far_as : (a : ℕ) (e : Entry) → is_far found a e ≡ is_far labels a e
  far_as a e = by (branch_to e)
    where
      target : (o : Option ℕ) → is_beyond a (wrapped o) ≡ is_beyond a o
      target None = refl
      target (Some t) = ap (λ d. not (is_near d)) (let w : distance a (t % 65536) ≡ distance a t = omega arith in w)

      by : (o : Option (Mnemonic × Name)) → far_to found a o ≡ far_to labels a o
      by None = refl
      by (Some p) = ap (is_beyond a) (same p.1) ∙ target (address_in labels p.1)

  -- both labels give the same marks
  pub marks_as : (a : ℕ) (es : List Entry) (bs : List Bool) → marks_from found a es bs ≡ marks_from labels a es bs
  marks_as a [] bs = refl
  marks_as a (e ∷ es) [] = refl
  marks_as a (e ∷ es) (b ∷ bs) = λ i. (b || far_as a e i) ∷ marks_as (a + form_size (form_of b e)) es bs i

  -- both labels give a new mark or neither does
  pub news_as : (a : ℕ) (es : List Entry) (bs : List Bool) → new_mark found a es bs ≡ new_mark labels a es bs
  news_as a [] bs = refl
  news_as a (e ∷ es) [] = refl
  news_as a (e ∷ es) (b ∷ bs) = λ i. (not b && far_as a e i) || news_as (a + form_size (form_of b e)) es bs i

-- a round by the labels that were found is the round of the forms
module _ (at : ℕ) (es : List Entry) (bs : List Bool) (found : List (Name × ℕ)) (same : (n : Name) → address_in found n ≡ wrapped (address_in (round_labels at (forms_of es bs)) n)) where
  -- a round of the forms is a round of the marks
  pub round_found : round at (forms_of es bs) ≡ forms_of es (marks_from found at es bs)
  round_found = forms_widen (round_labels at (forms_of es bs)) at es bs ∙ ap (forms_of es) (sym (marks_as found (round_labels at (forms_of es bs)) same at es bs))

  -- a branch of the forms does not reach exactly if the round gives a new mark
  pub far_found : some_far at (forms_of es bs) ≡ new_mark found at es bs
  far_found = forms_far (round_labels at (forms_of es bs)) at es bs ∙ sym (news_as found (round_labels at (forms_of es bs)) same at es bs)

  -- settling goes on after a round with a new mark
  pub one_more_round : (gs : List Form) → new_mark found at es bs ≡ true → Settles at (forms_of es (marks_from found at es bs)) gs → Settles at (forms_of es bs) gs
  one_more_round gs new s = more (forms_of es bs) gs (far_found ∙ new) (subst (λ fs. Settles at fs gs) (sym round_found) s)

  -- settling ends with a round without a new mark
  pub last_round : new_mark found at es bs ≡ false → Settles at (forms_of es bs) (forms_of es bs)
  last_round none = done (forms_of es bs) (far_found ∙ none)
