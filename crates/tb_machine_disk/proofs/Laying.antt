-- The blocks of a file, one after the other.
use Rattle.std.proofs.Common.{◌≡◌, ℕ, suc, ◌+◌, ◌<◌, ◌≤◌, List, ◌++◌, length, take, drop, sym, ap, ◌∙◌, subst, arith, length-drop, append_assoc}
use Rattle.tb_machine_disk.specs.Layout.{further, filled, laid, track_at, sector_at, file_block}

further_more : (bytes : List ℕ) → 254 < length bytes → further bytes ≡ suc (further (drop 254 bytes))
further_more bytes h = omega (arith, length-drop 254 bytes)

further_none : (bytes : List ℕ) → length bytes ≤ 254 → further bytes ≡ 0
further_none bytes h = omega arith

-- a full block, which links to the k-th for files
linked : ℕ → List ℕ → List ℕ
linked k part = filled (track_at (file_block k)) (sector_at (file_block k)) part

laid_more : (k : ℕ) (bytes : List ℕ) → 254 < length bytes
    → laid (further bytes) k bytes ≡ linked (k + 1) (take 254 bytes) ++ laid (further (drop 254 bytes)) (k + 1) (drop 254 bytes)
unfolding laid linked
laid_more k bytes h = ap (λ n. laid n k bytes) (further_more bytes h)

laid_last : (k : ℕ) (bytes : List ℕ) → length bytes ≤ 254 → laid (further bytes) k bytes ≡ filled 0 (length bytes + 1) bytes
unfolding laid
laid_last k bytes h = ap (λ n. laid n k bytes) (further_none bytes h)

-- what is there so far and what is still to come are the whole
pub record LaidTo (old : List ℕ) (k : ℕ) (bytes : List ℕ) (now : List ℕ) (at : ℕ) (rest : List ℕ) : Type 0 where
  pub count : at + further rest ≡ k + further bytes
  pub whole : now ++ laid (further rest) at rest ≡ old ++ laid (further bytes) k bytes

-- the loop of `push_file` goes on over a full block
pub laid_step : (old : List ℕ) (k : ℕ) (bytes now : List ℕ) (at : ℕ) (rest part behind new : List ℕ) (track sector : ℕ)
    → LaidTo old k bytes now at rest → 254 < length rest → part ≡ take 254 rest → behind ≡ drop 254 rest
    → track ≡ track_at (file_block (at + 1)) → sector ≡ sector_at (file_block (at + 1))
    → new ≡ now ++ filled track sector part → LaidTo old k bytes new (at + 1) behind
unfolding linked
laid_step old k bytes now at rest part behind new track sector l h p b t s e =
    subst (λ r. LaidTo old k bytes new (at + 1) r) (sym b) (record {
      count = let f = further_more rest h in let c : at + further rest ≡ k + further bytes = l.count in omega (arith, f, c);
      whole =
          let full : filled track sector part ≡ linked (at + 1) (take 254 rest) = λ i. filled (t i) (s i) (p i) in
          let coming : List ℕ = laid (further (drop 254 rest)) (at + 1) (drop 254 rest) in
          ap (λ x. x ++ coming) (e ∙ ap (λ x. now ++ x) full) ∙ append_assoc now (linked (at + 1) (take 254 rest)) coming
          ∙ ap (λ x. now ++ x) (sym (laid_more at rest h)) ∙ l.whole;
    })

-- after the last block all blocks of the file are laid
pub laid_end : (old : List ℕ) (k : ℕ) (bytes now : List ℕ) (at : ℕ) (rest new : List ℕ) → LaidTo old k bytes now at rest → length rest ≤ 254
    → new ≡ now ++ filled 0 (length rest + 1) rest → new ≡ old ++ laid (further bytes) k bytes
laid_end old k bytes now at rest new l h e = e ∙ ap (λ x. now ++ x) (sym (laid_last at rest h)) ∙ l.whole
