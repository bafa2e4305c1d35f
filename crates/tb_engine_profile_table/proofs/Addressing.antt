-- The list of all addresses, each as a line of its own.
use Rattle.std.proofs.Common.{◌≡◌, ℕ, suc, zero, ◌+◌, ◌<◌, ◌≤◌, false, ◌||◌, List, [], ◌∷◌, ◌++◌, map, refl, subst, sym, ap, ◌∙◌, arith}
use Rattle.std.specs.Prelude.{◌==◌, Result, Ok, Err}
use Rattle.std.specs.declared.alloc.AllocError.{AllocError}
use Rattle.std.proofs.lemmas.Bool.Decides.{nat_tests}
use Rattle.tb_kernal.specs.declared.events.Event.{Event}
use Rattle.tb_kernal.specs.Machine.{Content}
use Rattle.tb_machine_profile.specs.Steps.{begins_line}
use Rattle.tb_engine_profile_table.specs.declared.rows.Start.{Start}
use Rattle.tb_engine_profile_table.specs.declared.rows.Table.{Table}
use Rattle.tb_engine_profile_table.specs.Rows.{AreApart, Profiles, start_pair}
use Rattle.tb_engine_profile_table.specs.Addresses.{each_from, each_address, ProfilesAddresses}

-- one more address
pub each_more : (n a : ℕ) → each_from (suc n) a ≡ each_from n a ++ (a + n, a + n) ∷ []
unfolding each_from
each_more zero a =
    let same : a ≡ a + 0 = omega arith in
    λ i. (same i, same i) ∷ []
each_more (suc n) a =
    let same : suc a + n ≡ a + suc n = omega arith in
    ap (λ l. (a, a) ∷ l) (each_more n (suc a)) ∙ (λ i. (a, a) ∷ (each_from n (suc a) ++ (same i, same i) ∷ []))

map_end : (xs : List Start) (s : Start) → map start_pair (xs ++ s ∷ []) ≡ map start_pair xs ++ start_pair s ∷ []
map_end [] s = refl
map_end (x ∷ xs) s = ap (λ l. start_pair x ∷ l) (map_end xs s)

-- one more start
pub mapped_more : (xs ys : List Start) (s : Start) (n : ℕ) → ys ≡ xs ++ s ∷ [] → map start_pair xs ≡ each_from n 1
    → start_pair s ≡ (n + 1, n + 1) → map start_pair ys ≡ each_from (n + 1) 1
mapped_more xs ys s n more before pair =
    let here : (n + 1, n + 1) ≡ (1 + n, 1 + n) = (let same : n + 1 ≡ 1 + n = omega arith in λ i. (same i, same i)) in
    let next : suc n ≡ n + 1 = omega arith in
    ap (map start_pair) more ∙ map_end xs s ∙ (λ i. before i ++ (pair ∙ here) i ∷ []) ∙ sym (each_more n 1) ∙ ap (λ k. each_from k 1) next

-- none of these addresses is below the first
above : (n a b : ℕ) → b < a → begins_line (map (λ s. s.1) (each_from n a)) b ≡ false
unfolding each_from
above zero a b less = refl
above (suc n) a b less =
    let e : (b == a) ≡ false = grind (arith, nat_tests) in
    ap (λ x. x || begins_line (map (λ (s : ℕ × ℕ). s.1) (each_from n (suc a))) b) e ∙ above n (suc a) b (omega arith)

apart_from : (n a : ℕ) → 0 < a → AreApart (map (λ s. s.1) (each_from n a))
unfolding each_from
apart_from zero a positive = tt
apart_from (suc n) a positive = (positive, above n (suc a) a (omega arith), apart_from n (suc a) (omega arith))

-- the addresses are apart
pub addresses_apart : AreApart (map (λ s. s.1) each_address)
unfolding each_address
addresses_apart = apart_from 65535 1 (omega arith)

-- the table of all addresses adds up
pub addresses_profiled : {O : Type 0} (gives : O → Content → Event → O → Type 0) (o : O) (m : Content) (starts : List (ℕ × ℕ)) (limit : ℕ)
    (result : Result Table AllocError) (p : O) (n : Content) → starts ≡ each_address → Profiles gives o m starts limit result p n
    → ProfilesAddresses gives o m limit result p n
addresses_profiled gives o m starts limit (Ok table) p n all tabled =
    let here = subst (λ s. Profiles gives o m s limit (Ok table) p n) all tabled in
    (here, here.adds_up addresses_apart)
addresses_profiled gives o m starts limit (Err e) p n all tabled = tt
