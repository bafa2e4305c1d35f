-- Lists of values that are asked for.
use Rattle.std.proofs.Common.{◌≡◌, ℕ, List, [], ◌∷◌, map, Option, Some, option_map, codes, refl, sym, ap, ap₂, ◌∙◌}
use Rattle.serde_json.specs.Data.{Data}
use Rattle.serde_json.specs.View.{items_of}
use Rattle.tb_dap_values.specs.Arguments.{list_in}
use Rattle.tb_dap_requests.specs.Setting.{all_wanted, asked, asked_by, breakpoints_in, path_in, values_in, watch_in, watches_in}
use Rattle.tb_dap_requests.specs.declared.setting.Wanted.{Wanted}

-- the values of a list of values are these
pub same_values : (ds : List Data) → values_in (items_of ds) ≡ ds
same_values [] = refl
same_values (d ∷ ds) = ap (λ xs. d ∷ xs) (same_values ds)

-- the breakpoints that are asked for, by their path and their list
pub asked_there : (d : Data) (path : List ℕ) (values : List Data) (lines : Option (List Wanted)) → Some path ≡ path_in d
    → Some (items_of values) ≡ list_in d (codes "breakpoints") → lines ≡ all_wanted values → option_map (asked path) lines ≡ breakpoints_in d
asked_there d path values lines at are wanted =
    ap (option_map (asked path)) (wanted ∙ ap all_wanted (sym (same_values values))) ∙ ap₂ asked_by at are

-- the watches that are asked for, by their list
pub watched_there : (d : Data) (values : List Data) (found : List (Option ℕ)) → found ≡ map watch_in values
    → Some (items_of values) ≡ list_in d (codes "breakpoints") → Some found ≡ watches_in d
watched_there d values found same are =
    ap Some (same ∙ ap (map watch_in) (sym (same_values values))) ∙ ap (option_map (λ vs. map watch_in (values_in vs))) are
