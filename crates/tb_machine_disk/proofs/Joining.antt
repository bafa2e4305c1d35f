-- The image, put together.
use Rattle.std.proofs.Common.{◌≡◌, ℕ, List, ◌++◌, length, take, drop, ap, ◌∙◌}
use Rattle.std.specs.Prelude.{sum_by}
use Rattle.tb_machine_disk.specs.declared.names.Name.{Name}
use Rattle.tb_machine_disk.specs.declared.image.File.{File}
use Rattle.tb_machine_disk.specs.Images.{blocks_of}
use Rattle.tb_machine_disk.specs.Layout.{directory_blocks, head_block, directory_of, file_area, image_of}

-- the parts that the code appends in turn are the image of the layout
pub put_together : (name : Name) (files : List File) (area below above made headed named whole : List ℕ) (used blocks : ℕ)
    → area ≡ file_area files → below ≡ take 91392 area → above ≡ drop 91392 area → used ≡ sum_by blocks_of files → blocks ≡ directory_blocks (length files)
    → made ≡ below → headed ≡ made ++ head_block used blocks name.field → named ≡ headed ++ directory_of files → whole ≡ named ++ above
    → whole ≡ image_of name files
put_together name files area below above made headed named whole used blocks is b a u d e f g h =
    let low : below ≡ take 91392 (file_area files) = b ∙ ap (take 91392) is in
    let high : above ≡ drop 91392 (file_area files) = a ∙ ap (drop 91392) is in
    h ∙ ap (λ x. x ++ above) (g ∙ ap (λ x. x ++ directory_of files) (f ∙ ap (λ x. x ++ head_block used blocks name.field) e))
    ∙ (λ i. low i ++ head_block (u i) (d i) name.field ++ directory_of files ++ high i)
