-- The goals of `has_places` in src/places.rt.
use Rattle.std.proofs.Common.{◌≡◌, ℕ, Bool, false, List, ◌++◌, ◌∷◌, [], map, rules, true}
use Rattle.std.proofs.lemmas.Result.{IfOk-weaker}
use Rattle.std.specs.Prelude.{MatchBool, codes}
use Rattle.tb_compiled.specs.Compiled.{pair_of}
use Rattle.tb_engine_listing.specs.Labels.{block_labels, line_label}
use Rattle.tb_engine_listing.specs.Places.{AreNamed, image_labels}
use Rattle.tb_engine_listing.proofs.Named.{named_back, on_false, on_true, with_lines}
use Rattle.tb_engine_listing.proofs.places.has_places.Goals as goal

pub returns-then-not-has_label : goal.returns-then-not-has_label
returns-then-not-has_label c =
    let labels = c.args.image.now.labels.entries in
    let lines = map line_label (map pair_of c.args.starts.now) in
    let table : List (List ℕ × ℕ) = (codes "line_table", c.args.table) ∷ [] in
    let off : c.has_label.result ≡ false = search rules in
    λ h. on_false c.has_label.result _ _ c.has_label.ensures off (named_back labels lines table (named_back labels block_labels (lines ++ table) h)).0

pub returns : goal.returns
returns c =
    let labels = c.args.image.now.labels.entries in
    let starts = map pair_of c.args.starts.now in
    let lines = map line_label starts in
    let table : List (List ℕ × ℕ) = (codes "line_table", c.args.table) ∷ [] in
    let block : c.has_block.result ≡ true = search rules in
    let last : c.has_label.result ≡ true = search rules in
    IfOk-weaker c.has_lines.result (λ (has : Bool). MatchBool has (AreNamed labels lines) (¬ (AreNamed labels lines)))
    (λ (has : Bool). MatchBool has (AreNamed labels (image_labels starts c.args.table)) (¬ (AreNamed labels (image_labels starts c.args.table))))
    (λ has h. with_lines labels block_labels lines table has (on_true c.has_block.result _ _ c.has_block.ensures block)
    (on_true c.has_label.result _ _ c.has_label.ensures last, tt) h)
    c.has_lines.ensures
