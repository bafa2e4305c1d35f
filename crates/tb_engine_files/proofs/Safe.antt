-- However a text is put in a file's place, nothing is lost.
use Rattle.std.proofs.Common.{◌≡◌, ◌≢◌, inl, inr, ℕ, List, [], ◌∷◌, ◌++◌, Bool, true, false, Option, Some, None, refl, sym, ap, ◌∙◌}
use Rattle.tb_engine_files.specs.declared.putting.PutNames.{PutNames}
use Rattle.tb_engine_files.specs.Putting.{Step, Removes, Taking, unfilled, undressed, unmoved, moved}
use Rattle.tb_engine_files.specs.Putting.{Making, unmade, undone, made, End, Put, Unchanged, Writing, written, put_back, unput}
use Rattle.tb_engine_files.specs.Putting.{Keeping, unkept, uncopied, kept, Putting, whole, new, over}
use Rattle.tb_engine_files.specs.Putting.{Holdings, Only, Makes, Throughout, KeepsOthers, IsSafe, EndsSafe, NothingIsLost}

-- steps, and then others
throughout_more : (now middle last : Holdings → Type 0) (d : Holdings) (ss ts : List Step) → Throughout now middle d ss
    → ((e : Holdings) → middle e → Throughout now last e ts) → Throughout now last d (ss ++ ts)
throughout_more now middle last d [] ts h more = more d h.1
throughout_more now middle last d (s ∷ ss) ts h more = (h.0, λ e makes. throughout_more now middle last e ss ts (h.1 e makes) more)

-- less is said of the end
throughout_less : (now last less : Holdings → Type 0) (d : Holdings) (ss : List Step) → ((e : Holdings) → last e → less e)
    → Throughout now last d ss → Throughout now less d ss
throughout_less now last less d [] so h = (h.0, so d h.1)
throughout_less now last less d (s ∷ ss) so h = (h.0, λ e makes. throughout_less now last less e ss so (h.1 e makes))

-- a file that is there is not one that isn't
apart : (d : Holdings) (p q bytes : List ℕ) → d p ≡ None → d q ≡ Some bytes → q ≢ p
apart d p q bytes none some is = let clash : Some bytes ≡ None = sym some ∙ (ap d is ∙ none) in absurd cc

module _ (n : PutNames) (bytes : List ℕ) (d : Holdings) (from_beside : n.file.now ≢ n.beside.now) (from_kept : n.file.now ≢ n.kept.now) where
  -- the file holds this, and all others that were there hold what they held
  abbrev Holds : Option (List ℕ) → Holdings → Type 0
  Holds held e = (e n.file.now ≡ held) × KeepsOthers n d e

  -- what the file held is kept, and so are all others
  abbrev IsCopied : Holdings → Type 0
  IsCopied e = (e n.kept.now ≡ d n.file.now) × KeepsOthers n d e

  -- each of the three is safe
  as_before : (e : Holdings) → Holds (d n.file.now) e → IsSafe n bytes d e
  as_before e h = (inl h.0, h.1)

  renewed : (e : Holdings) → Holds (Some bytes) e → IsSafe n bytes d e
  renewed e h = (inr (inl h.0), h.1)

  copied : (e : Holdings) → IsCopied e → IsSafe n bytes d e
  copied e h = (inr (inr h.0), h.1)

  -- nothing is changed
  same : (held : Option (List ℕ)) (e g : Holdings) → Holds held e → ((q : List ℕ) → g q ≡ e q) → Holds held g
  same held e g h is = (is n.file.now ∙ h.0, λ q x ne had. is q ∙ h.1 q x ne had)

  -- at most a path is changed that led to no file
  only : (held : Option (List ℕ)) (p : List ℕ) (e g : Holdings) → n.file.now ≢ p → d p ≡ None → Holds held e → Only p e g → Holds held g
  only held p e g ne none h is = (is n.file.now ne ∙ h.0, λ q x other had. is q (apart d p q x none had) ∙ h.1 q x other had)

  -- such a file is taken away, or not
  removed : (held : Option (List ℕ)) (p : List ℕ) (gone : Bool) (e g : Holdings) → n.file.now ≢ p → d p ≡ None → Holds held e
      → Makes e (Removes p gone) g → Holds held g
  removed held p true e g ne none h makes = only held p e g ne none h makes.1
  removed held p false e g ne none h makes = same held e g h makes

  -- at most the file is changed
  overwritten : (e g : Holdings) → IsCopied e → Only n.file.now e g → IsCopied g
  overwritten e g h is = (is n.kept.now (λ same. from_kept (sym same)) ∙ h.0, λ q x ne had. is q ne ∙ h.1 q x ne had)

  -- a path that leads to no file now led to none
  unused : (held : Option (List ℕ)) (p : List ℕ) (e : Holdings) → n.file.now ≢ p → Holds held e → e p ≡ None → d p ≡ None
  unused held p e ne h none = go (d p) refl
    where
      go : (had : Option (List ℕ)) → d p ≡ had → d p ≡ None
      go None is = is
      go (Some x) is = let clash : Some x ≡ None = sym (h.1 p x (λ same. ne (sym same)) is) ∙ none in absurd cc

  -- how the file is after the new one took its place, or not
  abbrev After : Bool → Holdings → Type 0
  After true = Holds (Some bytes)
  After false = Holds (d n.file.now)

  taking : (ss : List Step) (done : Bool) → Taking n bytes ss done → (e : Holdings) → d n.beside.now ≡ None → Holds (d n.file.now) e
      → Throughout (IsSafe n bytes d) (After done) e ss
  taking ss done unfilled e none h =
      (as_before e h, λ g m. let a = only (d n.file.now) n.beside.now e g from_beside none h m in (as_before g a, a))
  taking ss done undressed e none h = (
    as_before e h,
    λ g m. let a = only (d n.file.now) n.beside.now e g from_beside none h m.1 in
        (as_before g a, λ k s. let b = same (d n.file.now) g k a s in (as_before k b, b)),
  )
  taking ss done unmoved e none h = (
    as_before e h,
    λ g m. let a = only (d n.file.now) n.beside.now e g from_beside none h m.1 in (
      as_before g a,
      λ k s. let b = same (d n.file.now) g k a s in
          (as_before k b, λ l t. let c = same (d n.file.now) k l b t in (as_before l c, c)),
    ),
  )
  taking ss done moved e none h = (
    as_before e h,
    λ g m. let a = only (d n.file.now) n.beside.now e g from_beside none h m.1 in (
      as_before g a,
      λ k s. let b = same (d n.file.now) g k a s in (
        as_before k b,
        λ l t.
            let c : Holds (Some bytes) l = (t.0 ∙ (s n.beside.now ∙ m.0), λ q x ne had. t.2 q (apart d n.beside.now q x none had) ne ∙ b.1 q x ne had) in
            (renewed l c, c),
      ),
    ),
  )

  start : Holds (d n.file.now) d
  start = (refl, λ q x ne had. had)

  making : (ss : List Step) (done : Bool) → Making n bytes ss done → Throughout (IsSafe n bytes d) (After done) d ss
  making ss done unmade = (as_before d start, λ e s. let a = same (d n.file.now) d e start s in (as_before e a, a))
  making ss done (undone ts gone t) = (
    as_before d start,
    λ e m. throughout_more (IsSafe n bytes d) (Holds (d n.file.now)) (After false) e ts (Removes n.beside.now gone ∷ [])
        (taking ts false t e m.0 (only (d n.file.now) n.beside.now d e from_beside m.0 start m.2))
        (λ g h. (as_before g h, λ k r. let a = removed (d n.file.now) n.beside.now gone g k from_beside m.0 h r in (as_before k a, a))),
  )
  making ss done (made ts t) =
      (as_before d start, λ e m. taking ts true t e m.0 (only (d n.file.now) n.beside.now d e from_beside m.0 start m.2))

  writing : (ss : List Step) (end : End) → Writing n bytes ss end → (e : Holdings) → d n.kept.now ≡ None → Holds (d n.file.now) e → IsCopied e
      → Throughout (IsSafe n bytes d) (EndsSafe n bytes d end) e ss
  writing ss end (written gone) e none h copy = (
    as_before e h,
    λ g m.
        let a : Holds (Some bytes) g = (m.0, (overwritten e g copy m.1).1) in
        (renewed g a, λ k r. let b = removed (Some bytes) n.kept.now gone g k from_kept none a r in (renewed k b, b.0)),
  )
  writing ss end (put_back gone) e none h copy = (
    as_before e h,
    λ g m. let a = overwritten e g copy m in (
      copied g a,
      λ k s.
          let b : Holds (d n.file.now) k = (s.0 ∙ a.0, λ q x ne had. s.1 q ne ∙ a.1 q x ne had) in
          (as_before k b, λ l r. let c = removed (d n.file.now) n.kept.now gone k l from_kept none b r in (as_before l c, c.0)),
    ),
  )
  writing ss end unput e none h copy = (
    as_before e h,
    λ g m. let a = overwritten e g copy m in
        (copied g a, λ k s. let b = overwritten g k a s in (copied k b, b.0)),
  )

  keeping : (ss : List Step) (end : End) → Keeping n bytes ss end → (e : Holdings) → Holds (d n.file.now) e
      → Throughout (IsSafe n bytes d) (EndsSafe n bytes d end) e ss
  keeping ss end unkept e h = (as_before e h, λ g s. let a = same (d n.file.now) e g h s in (as_before g a, a.0))
  keeping ss end (uncopied gone) e h = (
    as_before e h,
    λ g m.
        let none = unused (d n.file.now) n.kept.now e from_kept h m.0 in
        let a = only (d n.file.now) n.kept.now e g from_kept none h m.2 in (
          as_before g a,
          λ k s. let b = only (d n.file.now) n.kept.now g k from_kept none a s in
              (as_before k b, λ l r. let c = removed (d n.file.now) n.kept.now gone k l from_kept none b r in (as_before l c, c.0)),
        ),
  )
  keeping ss end (kept ts end' w) e h = (
    as_before e h,
    λ g m.
        let none = unused (d n.file.now) n.kept.now e from_kept h m.0 in
        let a = only (d n.file.now) n.kept.now e g from_kept none h m.2 in (
          as_before g a,
          λ k s.
              let b = only (d n.file.now) n.kept.now g k from_kept none a s.1 in
              writing ts end' w k none b (s.0 ∙ a.0, b.1),
        ),
  )

  putting : (there : Bool) (ss : List Step) (end : End) → Putting n bytes there ss end → Throughout (IsSafe n bytes d) (EndsSafe n bytes d end) d ss
  putting there ss end (whole there' ts m) = throughout_less (IsSafe n bytes d) (After true) (EndsSafe n bytes d Put) d ts (λ e h. h.0) (making ts true m)
  putting there ss end (new ts m) = throughout_less (IsSafe n bytes d) (After false) (EndsSafe n bytes d Unchanged) d ts (λ e h. h.0) (making ts false m)
  putting there ss end (over ts us end' m k) =
      throughout_more (IsSafe n bytes d) (After false) (EndsSafe n bytes d end') d ts us (making ts false m) (λ e h. keeping us end' k e h)

-- nothing is lost
pub nothing_is_lost : NothingIsLost
nothing_is_lost n bytes there ss end from_beside from_kept p d = putting n bytes d from_beside from_kept there ss end p
