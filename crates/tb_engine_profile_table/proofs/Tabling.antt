-- The table of a tally of a run.
use Rattle.std.proofs.Common.{◌≡◌, ℕ, suc, ◌<◌, List, [], ◌∷◌, Result, Ok, Err, map, refl, subst, ap, ◌∙◌, slice_index, lit<}
use Rattle.std.specs.Prelude.{IfOk}
use Rattle.std.specs.declared.alloc.AllocError.{AllocError}
use Rattle.tb_kernal.specs.declared.events.Event.{Event}
use Rattle.tb_kernal.specs.Machine.{Content, state_of}
use Rattle.tb_machine_profile.specs.declared.run.Profile.{Profile}
use Rattle.tb_machine_profile.specs.Steps.{Step}
use Rattle.tb_machine_profile.specs.Tallies.{Counted, IsTally}
use Rattle.tb_machine_profile.specs.Profiles.{Profiled}
use Rattle.tb_engine_profile_table.specs.declared.rows.Row.{Row}
use Rattle.tb_engine_profile_table.specs.declared.rows.Start.{Start}
use Rattle.tb_engine_profile_table.specs.declared.rows.Table.{Table}
use Rattle.tb_engine_profile_table.specs.declared.rows.Whole.{Whole}
use Rattle.tb_engine_profile_table.specs.Rows.{start_pair, row_in, row_of, IsTable, IsTableOf, Tabled, Profiles}
use Rattle.tb_engine_profile_table.proofs.Adding.{adds_up}

same_row : (addresses : List ℕ) (ts : List Step) (t : Counted) (line address : ℕ) → IsTally addresses ts t → address < 65536 → row_in t line address ≡ row_of ts line address
same_row addresses ts t line address h inside = λ i. record {
  line = line;
  times = h.times address inside i;
  instructions = h.instructions address inside i;
  cycles = h.cycles address inside i;
}

same_rows : (addresses : List ℕ) (ts : List Step) (t : Counted) (starts : List Start) → IsTally addresses ts t
    → ((k : ℕ) → slice_index (map (λ s. s.1) (map start_pair starts)) k < 65536)
    → map (λ s. row_in t s.line s.address) starts ≡ map (λ s. row_of ts s.0 s.1) (map start_pair starts)
same_rows addresses ts t [] h below = refl
same_rows addresses ts t (s ∷ starts) h below =
    let first : row_in t s.line s.address ≡ row_of ts s.line s.address = same_row addresses ts t s.line s.address h (below 0) in
    let rest : map (λ x. row_in t x.line x.address) starts ≡ map (λ x. row_of ts x.0 x.1) (map start_pair starts) = same_rows addresses ts t starts h (λ k. below (suc k)) in
    λ i. first i ∷ rest i

pair_places : (starts : List Start) → map (λ s. s.address) starts ≡ map (λ s. s.1) (map start_pair starts)
pair_places [] = refl
pair_places (s ∷ starts) = ap (λ ps. s.address ∷ ps) (pair_places starts)

module _ {O : Type 0} (gives : O → Content → Event → O → Type 0) (o : O) (m : Content) (starts : List Start) (limit : ℕ) (p : O) (n : Content) where
  is_table : (ts : List Step) (table : Table) (profile : Profile) → ((k : ℕ) → slice_index (map (λ s. s.1) (map start_pair starts)) k < 65536)
      → IsTally (map (λ s. s.1) (map start_pair starts)) ts profile.tally → IsTableOf profile.tally starts profile.status table
      → IsTable ts (map start_pair starts) table
  is_table ts table profile below counted is =
      record {
        rows = is.rows ∙ same_rows _ _ profile.tally starts counted below;
        before = ap (λ (w : Whole). w.start) is.whole ∙ ap (λ (r : Row). record r { times = 1 }) (same_row _ _ profile.tally 0 0 counted (lit< tt));
        instructions = ap (λ (w : Whole). w.instructions) is.whole ∙ counted.taken;
        cycles = ap (λ (w : Whole). w.cycles) is.whole ∙ counted.spent;
      }

  tabled : (table : Table) (profile : Profile) → ((k : ℕ) → slice_index (map (λ s. s.1) (map start_pair starts)) k < 65536)
      → Profiled gives o m (map (λ s. s.1) (map start_pair starts)) limit (Ok profile) p n → IsTableOf profile.tally starts profile.status table
      → Tabled gives o m (map start_pair starts) limit table p n
  tabled table profile below (ran, counted) is =
      let made = is_table _ table profile below counted is in
      record {
        status = profile.status;
        ran = ran;
        taken = _;
        are_steps = refl;
        is = made;
        ends = is.ends;
        adds_up = adds_up ran.events (state_of m) (map start_pair starts) table made;
      }

  -- a table made from the tally of a counted run is what `profile` promises of these starts
  pub profiles : (addresses : List ℕ) (result : Result Table AllocError) (profile : Profile) → addresses ≡ map (λ s. s.address) starts
      → ((k : ℕ) → slice_index addresses k < 65536) → Profiled gives o m addresses limit (Ok profile) p n
      → IfOk result (IsTableOf profile.tally starts profile.status) → Profiles gives o m (map start_pair starts) limit result p n
  profiles addresses (Ok table) profile are below counted is =
      let there : addresses ≡ map (λ s. s.1) (map start_pair starts) = are ∙ pair_places starts in
      tabled table profile
      (subst (λ (ps : List ℕ). (k : ℕ) → slice_index ps k < 65536) there below)
      (subst (λ ps. Profiled gives o m ps limit (Ok profile) p n) there counted) is
  profiles addresses (Err e) profile are below counted is = tt
