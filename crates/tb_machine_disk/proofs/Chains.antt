-- Following the chain of a file that was laid out.
use Rattle.std.proofs.Common.{◌≡◌, ℕ, zero, suc, ◌==◌, ◌+◌, ◌-◌, ◌*◌, ◌<◌, ◌≤◌, List, [], ◌∷◌, ◌++◌, length, take}
use Rattle.std.proofs.Common.{drop, map, Option, Some, None, sym, ap, ◌∙◌, arith, append_assoc, length-append, length-drop}
use Rattle.std.specs.Prelude.{replicate, flat_map, slice_index, option_map, if◌then◌else◌}
use Rattle.std.specs.List.{range_with_len}
use Rattle.std.proofs.lemmas.List.{take_at, drop_at, drop-drop, length-take-le, length-replicate, append-nil, take-append-drop}
use Rattle.tb_machine_disk.specs.D64.{chain, data_in, block_index}
use Rattle.tb_machine_disk.specs.Layout.{file_block, track_at, sector_at, further, filled, laid}
use Rattle.tb_machine_disk.proofs.Sectors.{index_back, on_disk, some_track, index_within}

-- a chain goes on from a block p with these bytes
step : ℕ → (ℕ → List ℕ) → ℕ → List ℕ → Option (List ℕ)
step most blocks p b =
    if slice_index b 0 == 0 then Some (p ∷ []) else option_map (λ ps. p ∷ ps) (chain most blocks (slice_index b 0) (slice_index b 1))

chain_steps : (most : ℕ) (blocks : ℕ → List ℕ) (p : ℕ) (b : List ℕ) → p < 683 → blocks p ≡ b → chain (suc most) blocks (track_at p) (sector_at p) ≡ step most blocks p b
unfolding chain step
chain_steps most blocks p b h e =
    ap (λ on. if on then step most blocks (block_index (track_at p) (sector_at p)) (blocks (block_index (track_at p) (sector_at p))) else None) (on_disk p h)
    ∙ ap (λ q. step most blocks q (blocks q)) (index_back p h)
    ∙ ap (step most blocks p) e

-- a block that links to track 0 ends the chain
pub chain_last : (most : ℕ) (blocks : ℕ → List ℕ) (p n : ℕ) (rest : List ℕ) → p < 683 → blocks p ≡ 0 ∷ n ∷ rest → chain (suc most) blocks (track_at p)
    (sector_at p) ≡ Some (p ∷ [])
unfolding step
chain_last most blocks p n rest h e = chain_steps most blocks p (0 ∷ n ∷ rest) h e

-- a block that links to another one goes on with that one's chain
pub chain_next : (most : ℕ) (blocks : ℕ → List ℕ) (p q : ℕ) (rest ps : List ℕ) → p < 683 → q < 683 → blocks p ≡ track_at q ∷ sector_at q ∷ rest
    → chain most blocks (track_at q) (sector_at q) ≡ Some ps → chain (suc most) blocks (track_at p) (sector_at p) ≡ Some (p ∷ ps)
unfolding step
chain_next most blocks p q rest ps h k e goes =
    chain_steps most blocks p (track_at q ∷ sector_at q ∷ rest) h e
    ∙ ap (λ none. if none then Some (p ∷ []) else option_map (λ ps. p ∷ ps) (chain most blocks (track_at q) (sector_at q))) (some_track q k)
    ∙ ap (option_map (λ ps. p ∷ ps)) goes

filled_length : (t s : ℕ) (bytes : List ℕ) → length bytes ≤ 254 → length (filled t s bytes) ≡ 256
filled_length t s bytes h = omega (arith, length-append bytes (replicate (254 - length bytes) 0), length-replicate {A = ℕ} (254 - length bytes) 0)

-- what the last block and any other hold
last_data : (bytes : List ℕ) → data_in (filled 0 (length bytes + 1) bytes) ≡ bytes
last_data bytes = take_at bytes (replicate (254 - length bytes) 0) (length bytes + 1 - 1) (omega arith)

full_data : (q : ℕ) (bytes : List ℕ) → q < 683 → length bytes ≡ 254 → data_in (filled (track_at q) (sector_at q) bytes) ≡ bytes
full_data q bytes h e =
    ap (λ none. if none then take (sector_at q - 1) (bytes ++ replicate (254 - length bytes) 0) else (bytes ++ replicate (254 - length bytes) 0)) (some_track q h)
    ∙ (let z : 254 - length bytes ≡ 0 = omega arith in ap (λ n. bytes ++ replicate n 0) z) ∙ append-nil bytes

-- the blocks for files are these bytes
pub record Reads (blocks : ℕ → List ℕ) (area : List ℕ) : Type 0 where
  pub at : (k : ℕ) → k < 664 → blocks (file_block k) ≡ take 256 (drop (256 * k) area)

-- the indices of a file's blocks: the k-th for files, and the given number more
abbrev pub indices_from : ℕ → ℕ → List ℕ
indices_from k more = map file_block (range_with_len k (suc more))

-- what following a chain finds
pub record Follows (blocks : ℕ → List ℕ) (most k more : ℕ) (bytes : List ℕ) : Type 0 where
  pub goes : chain most blocks (track_at (file_block k)) (sector_at (file_block k)) ≡ Some (indices_from k more)
  pub holds : flat_map (λ p. data_in (blocks p)) (indices_from k more) ≡ bytes

-- a block is the first 256 bytes of those known from it on
block_is : (blocks : ℕ → List ℕ) (area b tail : List ℕ) (k : ℕ) → Reads blocks area → k < 664 → length b ≡ 256 → drop (256 * k) area ≡ b ++ tail
    → blocks (file_block k) ≡ b
block_is blocks area b tail k reads h size at = reads.at k h ∙ ap (take 256) at ∙ take_at b tail 256 size

-- the bytes from the next block on
pub next_at : (area b tail : List ℕ) (k : ℕ) → length b ≡ 256 → drop (256 * k) area ≡ b ++ tail → drop (256 * (k + 1)) area ≡ tail
next_at area b tail k size at =
    let block_index : 256 * (k + 1) ≡ 256 * k + 256 = omega arith in
    ap (λ n. drop n area) block_index ∙ sym (drop-drop 256 (256 * k) area) ∙ ap (drop 256) at ∙ drop_at b tail 256 size

follow_last : (blocks : ℕ → List ℕ) (area tail : List ℕ) → Reads blocks area → (k most : ℕ) (bytes : List ℕ) → k < 664 → length bytes ≤ 254
    → drop (256 * k) area ≡ filled 0 (length bytes + 1) bytes ++ tail → Follows blocks (suc most) k zero bytes
follow_last blocks area tail reads k most bytes fits short at =
    let b = block_is blocks area (filled 0 (length bytes + 1) bytes) tail k reads fits (filled_length 0 (length bytes + 1) bytes short) at in
    record {
      goes = chain_last most blocks (file_block k) (length bytes + 1) (bytes ++ replicate (254 - length bytes) 0) (index_within k fits) b;
      holds = append-nil (data_in (blocks (file_block k))) ∙ ap data_in b ∙ last_data bytes;
    }

follow_more : (blocks : ℕ → List ℕ) (area tail : List ℕ) → Reads blocks area → (k most more : ℕ) (bytes : List ℕ) → k + 1 < 664 → 254 < length bytes
    → drop (256 * k) area ≡ filled (track_at (file_block (k + 1))) (sector_at (file_block (k + 1))) (take 254 bytes) ++ tail
    → Follows blocks most (k + 1) more (drop 254 bytes) → Follows blocks (suc most) k (suc more) bytes
follow_more blocks area tail reads k most more bytes fits long at rest =
    let q : ℕ = file_block (k + 1) in
    let within : q < 683 = index_within (k + 1) fits in
    let full : length (take 254 bytes) ≡ 254 = length-take-le 254 bytes (omega arith) in
    let b = block_is blocks area (filled (track_at q) (sector_at q) (take 254 bytes)) tail k reads (omega arith) (filled_length (track_at q) (sector_at q) (take 254 bytes) (omega arith)) at in
    let behind : List ℕ = flat_map (λ p. data_in (blocks p)) (indices_from (k + 1) more) in
    record {
      goes = chain_next most blocks (file_block k) q (take 254 bytes ++ replicate (254 - length (take 254 bytes)) 0) (indices_from (k + 1) more) (index_within k (omega arith)) within b rest.goes;
      holds = ap (λ x. x ++ behind) (ap data_in b ∙ full_data q (take 254 bytes) within full) ∙ ap (λ x. take 254 bytes ++ x) rest.holds ∙ take-append-drop 254 bytes;
    }

-- the chain of a file that was laid out gives the file back
pub follows : (blocks : ℕ → List ℕ) (area tail : List ℕ) → Reads blocks area → (more k most : ℕ) (bytes : List ℕ) → k + more < 664 → more ≡ further bytes
    → more < most → drop (256 * k) area ≡ laid more k bytes ++ tail → Follows blocks most k more bytes
unfolding laid
follows blocks area tail reads more k zero bytes fits is room at = absurd (omega arith)
follows blocks area tail reads zero k (suc most) bytes fits is room at = follow_last blocks area tail reads k most bytes (omega arith) (omega arith) at
follows blocks area tail reads (suc more) k (suc most) bytes fits is room at =
    let long : 254 < length bytes = omega arith in
    let first : List ℕ = filled (track_at (file_block (k + 1))) (sector_at (file_block (k + 1))) (take 254 bytes) in
    let behind : List ℕ = laid more (k + 1) (drop 254 bytes) in
    let there : drop (256 * k) area ≡ first ++ (behind ++ tail) = at ∙ append_assoc first behind tail in
    let full : length (take 254 bytes) ≡ 254 = length-take-le 254 bytes (omega arith) in
    let next = next_at area first (behind ++ tail) k (filled_length (track_at (file_block (k + 1))) (sector_at (file_block (k + 1))) (take 254 bytes) (omega arith)) there in
    follow_more blocks area (behind ++ tail) reads k most more bytes (omega arith) long there
    (follows blocks area tail reads more (k + 1) most (drop 254 bytes) (omega arith) (omega (arith, length-drop 254 bytes)) (omega arith) next)

-- the length of the blocks of a file
pub laid_length : (more k : ℕ) (bytes : List ℕ) → more ≡ further bytes → length (laid more k bytes) ≡ 256 * (more + 1)
unfolding laid
laid_length zero k bytes is = filled_length 0 (length bytes + 1) bytes (omega arith)
laid_length (suc more) k bytes is =
    let t : ℕ = track_at (file_block (k + 1)) in
    let s : ℕ = sector_at (file_block (k + 1)) in
    let full : length (take 254 bytes) ≡ 254 = length-take-le 254 bytes (omega arith) in
    let rest = laid_length more (k + 1) (drop 254 bytes) (omega (arith, length-drop 254 bytes)) in
    length-append (filled t s (take 254 bytes)) (laid more (k + 1) (drop 254 bytes)) ∙ omega (arith, filled_length t s (take 254 bytes) (omega arith), rest)
