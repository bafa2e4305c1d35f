-- The goals of `assembles_to` in src/listing.rt.
use Rattle.std.proofs.Common.{◌≡◌, Bool, false, map, subst, sym}
use Rattle.std.specs.Prelude.{◌≢◌, MatchBool}
use Rattle.std.proofs.lemmas.Result.{IfOk-weaker}
use Rattle.tb_asm.specs.Layout.{entry_of}
use Rattle.tb_asm.specs.declared.errors.AsmErrorKind.TheVariants.{NoMemory}
use Rattle.tb_engine_listing.specs.Pieces.{plan_of}
use Rattle.tb_engine_listing.specs.Places.{NamesItems, places_of}
use Rattle.tb_engine_listing.proofs.Refused.{names_nothing}
use Rattle.tb_engine_listing.proofs.listing.assembles_to.Goals as goal

pub returns-in-Err : goal.returns-in-Err
returns-in-Err c =
    let image = c.args.program.now.image.now in
    let places = places_of (plan_of c.args.program.now) in
    let items = map entry_of c.args.items.now in
    let kind = c.in-Err.error.kind in
    IfOk-weaker c.no_image.result (λ (same : Bool). (same ≡ false) × (kind ≢ NoMemory))
    (λ (does : Bool). MatchBool does (NamesItems image places items) (¬ (NamesItems image places items)))
    (λ does h. subst (λ (b : Bool). MatchBool b (NamesItems image places items) (¬ (NamesItems image places items))) (sym h.0)
    (names_nothing image places items kind c.in-Err.error.item c.in-Err.ensures.refused h.1))
    c.no_image.ensures
