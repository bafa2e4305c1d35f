-- The files of a disk.
use Rattle.std.proofs.Common.{◌≡◌, ⊎_elim, ℕ, List, [], ◌∷◌, ◌++◌, map, Option, Result, Ok, Err, IfOk, Contains, refl, sym, subst, ap, ◌∙◌, append_assoc, arith}
use Rattle.std.proofs.lemmas.List.{map-append, append-nil}
use Rattle.std.proofs.lemmas.List.Elements.{Contains-append_left, Contains-append_cases, Contains-push, Contains-push_cases}
use Rattle.tb_engine_files.specs.Deeds.{Deed, TakesAll, Transfers, Works}
use Rattle.tb_engine_streams.specs.declared.outcome.Done.{Done}
use Rattle.tb_engine_streams.specs.declared.outcome.Outcome.{Outcome}
use Rattle.tb_machine_disk.specs.declared.names.Name.{Name}
use Rattle.tb_engine_disk.specs.Outcomes.{DiskFailure}
use Rattle.tb_engine_disk.specs.Files.{Adds, Entry, NamesNext, entries, entry_of}
use Rattle.tb_engine_disk.specs.declared.files.Taken.{Taken}
use Rattle.tb_engine_disk.specs.declared.files.DiskFiles.{DiskFiles}
use Rattle.tb_engine_disk.specs.declared.outcome.DiskRefusal.{DiskRefusal}
use Rattle.tb_program_files.specs.Memory.{Joins}
use Rattle.tb_program_files.specs.Texts.{AreEntries, IsDiskWith, MakesDisk, OneText, names_of}
use Rattle.tb_program_files.specs.declared.disks.Disk.{Disk}
use Rattle.tb_program_files.proofs.Changing.{transfers_by}

-- the names of files that were taken in
names_from : (ts : List Taken) → names_of (map entry_of ts) ≡ map (λ t. t.name.field) ts
names_from [] = refl
names_from (t ∷ ts) = ap (λ ns. t.name.field ∷ ns) (names_from ts)

-- a file that was named and added stands behind the others
pub joined : (d : DiskFiles) (path : List ℕ) (name : Name) (bytes : List ℕ) → NamesNext d path (Ok name) → (r : Result DiskFiles DiskFailure)
    → Adds d name bytes r → IfOk r (λ new. Joins (entries d) path bytes (entries new))
joined d path name bytes (is_name, field, apart) (Ok new) (fresh, judged, added) = (
  (name.field, bytes),
  (is_name, field, refl, judged),
  (λ c. apart (subst (λ ns. Contains ns name.field) (names_from d.files.items) c)),
  added,
)
joined d path name bytes named (Err e) refused = tt

-- nothing is in no list
nothing : (n : List ℕ) → Contains [] n → ⊥
nothing n (k, low, is) = absurd (omega (arith, low))

-- what is in a list of one is that one
only_is : (x n : List ℕ) → Contains (x ∷ []) n → x ≡ n
only_is x n c = ⊎_elim (λ none. absurd (nothing n none)) (λ same. same) (Contains-push_cases [] x n c)

-- what the work of a disk takes in, and what it makes
abbrev takes : Disk → List ℕ → List ℕ → Disk → Type 0
takes w path bytes v = Joins (entries w.taken) path bytes (entries v.taken) × (v.out ≡ w.out)

abbrev makes : Disk → Done → List (List ℕ) → Type 0
makes w end texts = OneText (IsDiskWith w.out.now (entries w.taken)) texts

-- the files that were taken in stand behind those before, and have other names
all_taken : (w v : Disk) (paths all : List (List ℕ)) → TakesAll takes w paths all v
    → (es : List Entry) × AreEntries paths all es × (entries v.taken ≡ entries w.taken ++ es) × (v.out ≡ w.out)
    × ((n : List ℕ) → Contains (names_of (entries w.taken)) n → ¬ Contains (names_of es) n)
all_taken w v [] [] same =
    ([], tt, ap (λ x. entries x.taken) same ∙ sym (append-nil (entries w.taken)), ap (λ x. x.out) same, λ n c none. nothing n none)
all_taken w v [] (bytes ∷ all) none = absurd none
all_taken w v (p ∷ ps) [] none = absurd none
all_taken w v (p ∷ ps) (bytes ∷ all) (u, ((e, is, fresh, added), out), more) =
    let r = all_taken u v ps all more in
    let es = r.0 in
    let before = names_of (entries w.taken) in
    let named : names_of (entries u.taken) ≡ before ++ e.0 ∷ [] = ap names_of added ∙ map-append (λ e. e.0) (entries w.taken) (e ∷ []) in
    let rest : entries v.taken ≡ entries w.taken ++ e ∷ es = r.2 ∙ ap (λ xs. xs ++ es) added ∙ append_assoc (entries w.taken) (e ∷ []) es in
    let later : ¬ Contains (names_of es) e.0 = r.4 e.0 (subst (λ ns. Contains ns e.0) (sym named) (Contains-push before e.0)) in
    let apart : (n : List ℕ) → Contains before n → ¬ Contains (names_of (e ∷ es)) n =
    λ n c all. ⊎_elim (λ here. fresh (subst (λ m. Contains before m) (sym (only_is e.0 n here)) c))
    (λ there. r.4 n (subst (λ ns. Contains ns n) (sym named) (Contains-append_left before (e.0 ∷ []) n c)) there)
    (Contains-append_cases (e.0 ∷ []) (names_of es) n all) in
    (e ∷ es, (is, later, r.1), rest, r.3 ∙ out, apart)

-- a disk to which all files were added is the disk with them
disk_made : (w : Disk) (paths : List (List ℕ)) → entries w.taken ≡ [] → (end : Done) (all texts : List (List ℕ))
    → Works takes makes w paths end all texts → MakesDisk paths w.out.now end all texts
disk_made w paths empty end all texts (v, taken, (text, is, are)) =
    let r = all_taken w v paths all taken in
    let es = r.0 in
    let same : entries v.taken ≡ es = r.2 ∙ ap (λ xs. xs ++ es) empty in
    (es, r.1, (text, subst (λ x. IsDiskWith x.now es text) r.3 (subst (λ xs. IsDiskWith v.out.now xs text) same is), are))

-- so a transfer with this work is one with the disk's image
pub of_disk : {F : Type 0} (does : F → Deed → F → Type 0) (holds : F → List ℕ → Option (List ℕ) → Type 0) (w : Disk) → entries w.taken ≡ []
    → (f : F) (paths outputs : List (List ℕ)) (ended : Outcome Done DiskRefusal) (g : F)
    → Transfers does holds (Works takes makes w paths) f paths outputs ended g
    → Transfers does holds (MakesDisk paths w.out.now) f paths outputs ended g
of_disk does holds w empty f paths outputs ended g transfers =
    transfers_by does holds (Works takes makes w paths) (MakesDisk paths w.out.now) (disk_made w paths empty) f paths outputs ended g transfers
