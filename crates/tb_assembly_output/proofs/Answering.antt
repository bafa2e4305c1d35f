-- What is answered of what was read.
use Rattle.std.proofs.Common.{◌≡◌, ℕ, true, false, List, [], ◌∷◌, map, refl, sym, ap, subst, ◌∙◌, Result, Ok, Err, if◌then◌else◌}
use Rattle.std.specs.Prelude.{IfOk, IfErr}
use Rattle.tb_asm.specs.Layout.{Entry}
use Rattle.tb_assembly_files.specs.Libraries.{Source}
use Rattle.tb_assembly_files.specs.Expansion.{Read}
use Rattle.tb_assembly_meaning.specs.declared.meaning.StatementFault.{StatementFault}
use Rattle.tb_assembly_meaning.specs.Places.{Lying}
use Rattle.tb_assembly_meaning.specs.Meaning.{base_of, faults_of, items_of, spots_of}
use Rattle.tb_assembly_report.specs.declared.causes.Finding.{Finding}
use Rattle.tb_assembly_output.specs.declared.assembling.Manner.{Manner}
use Rattle.tb_assembly_output.specs.declared.assembling.Assembled.{Assembled}
use Rattle.tb_assembly_output.specs.declared.assembling.Assembled.TheVariants.{Unread, Wants, Refused, Made}
use Rattle.tb_assembly_output.specs.declared.assembling.AssemblyError.{AssemblyError}
use Rattle.tb_assembly_output.specs.declared.assembling.AssemblyError.TheVariants.{Item, NoMemory}
use Rattle.tb_assembly_output.specs.Findings.{bad_finding, fault_finding, findings, is_nil}
use Rattle.tb_assembly_output.specs.Assembled.{AnswersBy, AnswersRead, IsReadAs, IsRefusal, Makes}

-- what is made of each of a list is nothing only of nothing
nil_map : {A B : Type 0} (f : A → B) (xs : List A) → is_nil (map f xs) ≡ is_nil xs
nil_map f [] = refl
nil_map f (x ∷ xs) = refl

-- bad lines are all that is wrong
pub by_lines : (at : ℕ) (r : Read) → is_nil r.bad ≡ false → findings at r ≡ map bad_finding r.bad
by_lines at r some = ap (λ b. if b then map (fault_finding r.places) (faults_of at r.said) else map bad_finding r.bad) some

-- where no line is bad, all that is wrong is what statements mean
pub by_statements : (at : ℕ) (r : Read) (fs : List StatementFault) → is_nil r.bad ≡ true → fs ≡ faults_of at r.said → findings at r ≡ map (fault_finding r.places) fs
by_statements at r fs none same =
    ap (λ b. if b then map (fault_finding r.places) (faults_of at r.said) else map bad_finding r.bad) none ∙ ap (map (fault_finding r.places)) (sym same)

-- what there is to say of all that is wrong
refuses : (at : ℕ) (lib : List Source) (r : Read) (fs : List Finding) (res : Result Assembled AssemblyError)
    → IfOk res (IsRefusal lib r.said fs) → IfErr res (λ e. e ≡ NoMemory) → findings at r ≡ fs → is_nil fs ≡ false → AnswersRead at lib r res
refuses at lib r fs (Ok (Refused text)) said memory same some = (ap is_nil same ∙ some, subst (λ fs. IsRefusal lib r.said fs (Refused text)) (sym same) said)
refuses at lib r fs (Ok Unread) said memory same some = absurd said
refuses at lib r fs (Ok (Wants p)) said memory same some = absurd said
refuses at lib r fs (Ok (Made a)) said memory same some = absurd said
refuses at lib r fs (Err NoMemory) said memory same some = tt
refuses at lib r fs (Err (Item e)) said memory same some = let none : ⊥ = cc in absurd none

-- bad lines are told
pub lines_refused : (at : ℕ) (lib : List Source) (r : Read) (fs : List Finding) (res : Result Assembled AssemblyError)
    → IfOk res (IsRefusal lib r.said fs) → IfErr res (λ e. e ≡ NoMemory) → fs ≡ map bad_finding r.bad → is_nil r.bad ≡ false → AnswersRead at lib r res
lines_refused at lib r fs res said memory are some =
    refuses at lib r fs res said memory (by_lines at r some ∙ sym are) (ap is_nil are ∙ nil_map bad_finding r.bad ∙ some)

-- statements that are refused are told
pub statements_refused : (at : ℕ) (lib : List Source) (r : Read) (fs : List Finding) (faults : List StatementFault) (res : Result Assembled AssemblyError)
    → IfOk res (IsRefusal lib r.said fs) → IfErr res (λ e. e ≡ NoMemory) → fs ≡ map (fault_finding r.places) faults → is_nil r.bad ≡ true
    → faults ≡ faults_of at r.said → is_nil faults ≡ false → AnswersRead at lib r res
statements_refused at lib r fs faults res said memory are none same some =
    refuses at lib r fs res said memory (by_statements at r faults none same ∙ sym are) (ap is_nil are ∙ nil_map (fault_finding r.places) faults ∙ some)

module _ (at : ℕ) (lib : List Source) (r : Read) (base : ℕ) (es : List Entry) (ls : List Lying) (faults : List StatementFault)
    (none : is_nil r.bad ≡ true) (same : faults ≡ faults_of at r.said) (right : is_nil faults ≡ true) where
  nothing_wrong : is_nil (findings at r) ≡ true
  nothing_wrong = ap is_nil (by_statements at r faults none same) ∙ nil_map (fault_finding r.places) faults ∙ right

  as_read : (res : Result Assembled AssemblyError) → Makes (base_of at r.said) (items_of at r.said) (spots_of at r.said) res → AnswersRead at lib r res
  as_read (Ok (Made a)) (accepted, written) = (nothing_wrong, accepted, written)
  as_read (Ok Unread) m = absurd m
  as_read (Ok (Wants p)) m = absurd m
  as_read (Ok (Refused text)) m = absurd m
  as_read (Err (Item e)) m = (nothing_wrong, m)
  as_read (Err NoMemory) m = tt

  -- what the assembler makes of statements of which none is refused
  pub statements_made : (res : Result Assembled AssemblyError) → base ≡ base_of at r.said → es ≡ items_of at r.said → ls ≡ spots_of at r.said → Makes base es ls res
      → AnswersRead at lib r res
  statements_made res b e l m = as_read res (subst (λ b. Makes b (items_of at r.said) (spots_of at r.said) res) b (subst (λ e. Makes base e (spots_of at r.said) res) e (subst (λ l. Makes base es l res) l m)))

-- what is answered of what was read as it is assembled
pub by_reading : (m : Manner) (lib : List Source) (r s : Read) (res : Result Assembled AssemblyError) → IsReadAs m.long m.at r s → AnswersRead m.at lib s res
    → AnswersBy m lib r res
by_reading m lib r s (Ok a) is answers = (s, is, answers)
by_reading m lib r s (Err (Item e)) is answers = (s, is, answers)
by_reading m lib r s (Err NoMemory) is answers = tt
