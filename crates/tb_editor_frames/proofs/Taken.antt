-- Lines of a header that were taken.
use Rattle.std.proofs.Common.{◌≡◌, ◌≢◌, inl, inr, ◌+◌, ℕ, ◌<◌, List, [], ◌∷◌, ◌++◌, Option, Some, None, length, refl, subst, sym, ap, ◌∙◌, arith}
use Rattle.std.specs.Io.KnownBytes.{Consumes, IsAtEnd}
use Rattle.std.proofs.KnownBytes.{Consumes-trans}
use Rattle.std.proofs.lemmas.List.{append-nil}
use Rattle.std.proofs.lemmas.Grind.{flat_map-append}
use Rattle.tb_engine_streams.specs.Lines.{without_return}
use Rattle.std.proofs.Common.{Ok, Err}
use Rattle.tb_editor_frames.specs.Frames.{PassesBytes, ReadsBytes, ReadsFrame, ReadsHeader, Takes, TakesFewer, TakesFrame, TakesHeaderLine, TakesNoFrame, TakesNoHeader, line_of, shape_of}
use Rattle.tb_editor_frames.specs.Headers.{AreFields, IsField, IsHeader, field_of, joined, length_in, said}
use Rattle.tb_editor_frames.specs.Headers.{bad_length, long, many as too_many_lines, no_length}
use Rattle.tb_editor_frames.specs.Lines.{TakesNoLine}
use Rattle.tb_editor_frames.specs.declared.header.Field.{Field}
use Rattle.tb_editor_frames.specs.declared.header.Field.TheVariants.{BadLength}
use Rattle.tb_editor_frames.specs.declared.reading.FrameError.{FrameError}
use Rattle.tb_editor_frames.specs.declared.reading.FrameError.TheVariants.{Fault, Bad, NoMemory}
use Rattle.tb_editor_frames.specs.declared.reading.Line.TheVariants.{Empty}
use Rattle.tb_editor_frames.specs.declared.reading.Line.TheVariants as kind

-- fields of a header were taken: so many, which say this length
abbrev pub Stands : Option (List ℕ) → Option (List ℕ) → ℕ → Option ℕ → Type 0
Stands had now count found =
    (fields : List (List ℕ)) × Consumes had now (joined fields) × AreFields fields × (length fields ≡ count) × (length_in None fields ≡ found)

-- one more field is a field too
fields_more : (fields : List (List ℕ)) (line : List ℕ) → AreFields fields → IsField line → AreFields (fields ++ line ∷ [])
fields_more [] line are is = (is, tt)
fields_more (f ∷ fields) line (one, are) is = (one, fields_more fields line are is)

-- what fields say, with one more
says_more : (fields : List (List ℕ)) (line : List ℕ) (found : Option ℕ) → length_in found (fields ++ line ∷ []) ≡ said (field_of (without_return line)) (length_in found fields)
says_more [] line found = refl
says_more (f ∷ fields) line found = says_more fields line (said (field_of (without_return f)) found)

-- one more is one more
longer : (fields : List (List ℕ)) (line : List ℕ) → length (fields ++ line ∷ []) ≡ length fields + 1
longer [] line = refl
longer (f ∷ fields) line = grind (arith, longer fields line)

-- the bytes of one more line
joined_more : (fields : List (List ℕ)) (line : List ℕ) → joined fields ++ (line ++ 10 ∷ []) ≡ joined (fields ++ line ∷ [])
joined_more fields line =
    ap (λ l. joined fields ++ l) (sym (append-nil (line ++ 10 ∷ []))) ∙ sym (flat_map-append (λ l. l ++ 10 ∷ []) fields (line ∷ []))

-- one more line was taken
takes_more : (a b c : Option (List ℕ)) (fields : List (List ℕ)) (line : List ℕ) → Consumes a b (joined fields) → Consumes b c (line ++ 10 ∷ [])
    → Consumes a c (joined (fields ++ line ∷ []))
takes_more a b c fields line before now = subst (Consumes a c) (joined_more fields line) (Consumes-trans a b c _ _ before now)

-- an empty line is empty
is_blank : (line : List ℕ) → shape_of line ≡ Empty → line ≡ []
is_blank [] h = refl
is_blank (b ∷ bs) h = absurd (cc)

-- a field says what it says
is_field : (line : List ℕ) (f : Field) → shape_of line ≡ kind.Field f → f ≡ field_of line
is_field [] f h = absurd (cc)
is_field (b ∷ bs) f h = cc

-- a field is not empty
not_blank : (line : List ℕ) (f : Field) → shape_of line ≡ kind.Field f → line ≢ []
not_blank [] f h = absurd (cc)
not_blank (b ∷ bs) f h = λ no. absurd (cc)

-- before the first line
pub stands_first : (a : Option (List ℕ)) → Consumes a a [] → Stands a a 0 None
stands_first a none = ([], none, tt, refl, refl)

-- one more field was taken
pub stands_more : (a b c : Option (List ℕ)) (count : ℕ) (found : Option ℕ) (line : List ℕ) (f : Field) → f ≢ BadLength
    → Stands a b count found → Takes b line c → kind.Field f ≡ line_of line → Stands a c (count + 1) (said f found)
stands_more a b c count found line f good (fields, taken, are, many, says) (short, now) shape =
    let is : f ≡ field_of (without_return line) = is_field _ f (sym shape) in
    let is_good : field_of (without_return line) ≢ BadLength = λ no. good (is ∙ no) in (
      fields ++ line ∷ [],
      takes_more a b c fields line taken now,
      fields_more fields line are (short, not_blank _ f (sym shape), is_good),
      longer fields line ∙ ap (λ n. n + 1) many,
      says_more fields line None ∙ ap (said (field_of (without_return line))) says ∙ ap (λ g. said g found) (sym is),
    )

-- the last line was taken, and a length was said
pub ends_header : (a b c : Option (List ℕ)) (count : ℕ) (found : Option ℕ) (n : ℕ) (line : List ℕ) → count < 16 → found ≡ Some n
    → Stands a b count found → Takes b line c → Empty ≡ line_of line → (header : List ℕ) × Consumes a c header × IsHeader header n
ends_header a b c count found n line within is (fields, taken, are, many, says) (short, now) shape = (
  joined (fields ++ line ∷ []),
  takes_more a b c fields line taken now,
  record {
    fields = fields;
    last = line;
    all = refl;
    are = are;
    ends = (short, is_blank _ (sym shape));
    few = omega (arith, many, within);
    says = says ∙ is;
  },
)

-- the last line was taken, and no length was said
pub says_no_length : (a b c : Option (List ℕ)) (count : ℕ) (found : Option ℕ) (line : List ℕ) → found ≡ None
    → Stands a b count found → Takes b line c → Empty ≡ line_of line → TakesNoHeader a c
says_no_length a b c count found line is (fields, taken, are, many, says) (short, now) shape =
    (joined (fields ++ line ∷ []), takes_more a b c fields line taken now, inl (no_length fields line are (short, is_blank _ (sym shape)) (says ∙ is)))

-- a bad length was taken
says_bad_length : (a b c : Option (List ℕ)) (count : ℕ) (found : Option ℕ) (line : List ℕ)
    → Stands a b count found → Takes b line c → kind.Field BadLength ≡ line_of line → TakesNoHeader a c
says_bad_length a b c count found line (fields, taken, are, many, says) (short, now) shape =
    (joined (fields ++ line ∷ []), takes_more a b c fields line taken now, inl (bad_length fields line are short (sym (is_field _ BadLength (sym shape)))))

-- too many lines were taken
pub too_many : (a b : Option (List ℕ)) (count : ℕ) (found : Option ℕ) → count ≡ 16 → Stands a b count found → TakesNoHeader a b
too_many a b count found is (fields, taken, are, many, says) = (joined fields, taken, inl (too_many_lines fields are (many ∙ is)))

-- fields have bytes
some_bytes : (fields : List (List ℕ)) (part : List ℕ) → length fields ≢ 0 → 0 < length (joined fields ++ part)
some_bytes [] part some = absurd (some refl)
some_bytes ([] ∷ fields) part some = omega arith
some_bytes ((b ∷ bs) ∷ fields) part some = omega arith

-- a part that has bytes, behind others
at_least : (xs part : List ℕ) → 0 < length part → 0 < length (xs ++ part)
at_least [] part some = some
at_least (x ∷ xs) part some = omega arith

-- the input ended after a field
pub ends_early : (a b c : Option (List ℕ)) (count : ℕ) (found : Option ℕ) → count ≢ 0 → Stands a b count found
    → Consumes b c [] → IsAtEnd c → TakesNoHeader a c
ends_early a b c count found some (fields, taken, are, many, says) none at_end = (
  joined fields ++ [],
  Consumes-trans a b c _ _ taken none,
  inr (record { fields = fields; part = []; all = refl; are = are; line = tt; some = some_bytes fields [] (λ no. some (sym many ∙ no)) }, at_end),
)

-- a line was cut off or too long
pub ends_within : (a b c : Option (List ℕ)) (count : ℕ) (found : Option ℕ) → Stands a b count found → TakesNoLine b c → TakesNoHeader a c
ends_within a b c count found (fields, taken, are, many, says) (part, is_line, now, inl more) =
    (joined fields ++ part, Consumes-trans a b c _ _ taken now, inl (long fields part are is_line more))
ends_within a b c count found (fields, taken, are, many, says) (part, is_line, now, inr (some, at_end)) = (
  joined fields ++ part,
  Consumes-trans a b c _ _ taken now,
  inr (record { fields = fields; part = part; all = refl; are = are; line = is_line; some = at_least (joined fields) part some }, at_end),
)

-- no line was had
pub line_failed : (a b c : Option (List ℕ)) (count : ℕ) (found : Option ℕ) (e : FrameError) (n m k : ℕ) → Stands a b count found → n ≡ k
    → TakesHeaderLine (Err e) b c n m → ReadsHeader (Err e) a c k m
line_failed a b c count found Fault n m k stands same h = λ no. h (no ∙ sym same)
line_failed a b c count found Bad n m k stands same (none, kept) = (ends_within a b c count found stands none, kept ∙ same)
line_failed a b c count found NoMemory n m k stands same kept = kept ∙ same

-- no header was had
pub header_failed : (a b : Option (List ℕ)) (e : FrameError) (n m : ℕ) → ReadsHeader (Err e) a b n m → ReadsFrame (Err e) a b n m
header_failed a b Fault n m h = h
header_failed a b Bad n m ((bytes, taken, inl none), kept) = ((bytes, taken, inl none), kept)
header_failed a b Bad n m ((bytes, taken, inr (part, at_end)), kept) = ((bytes, taken, inr (inl part, at_end)), kept)
header_failed a b NoMemory n m h = h

-- a header was taken
pub header_had : (a b : Option (List ℕ)) (found : Option ℕ) (size n k : ℕ) → found ≡ Some size → ReadsHeader (Ok found) a b n k → ReadsHeader (Ok (Some size)) a b n k
header_had a b found size n k is h = subst (λ f. ReadsHeader (Ok f) a b n k) is h

-- the input ended within a content
ends_in_content : (a b c : Option (List ℕ)) (size : ℕ) (header : List ℕ) → Consumes a b header → IsHeader header size → TakesFewer size b c → TakesNoFrame a c
ends_in_content a b c size header before is (part, taken, few, at_end) =
    (header ++ part, Consumes-trans a b c _ _ before taken, inr (inr (size, header, part, is, few, refl), at_end))

-- no content was had
pub content_failed : (a b c : Option (List ℕ)) (size n k m : ℕ) (e : FrameError) → ReadsHeader (Ok (Some size)) a b n k
    → ReadsBytes size (Err e) b c k m → ReadsFrame (Err e) a c n m
content_failed a b c size n k m Fault (header, before, is, same) h = λ no. h (no ∙ sym same)
content_failed a b c size n k m Bad (header, before, is, same) (fewer, kept) = (ends_in_content a b c size header before is fewer, kept ∙ same)
content_failed a b c size n k m NoMemory (header, before, is, same) kept = kept ∙ same

-- a content that is too long was not passed over
pub passing_failed : (a b c : Option (List ℕ)) (size n k m : ℕ) (e : FrameError) → ReadsHeader (Ok (Some size)) a b n k
    → PassesBytes size (Err e) b c k m → ReadsFrame (Err e) a c n m
passing_failed a b c size n k m Fault (header, before, is, same) h = λ no. h (no ∙ sym same)
passing_failed a b c size n k m Bad (header, before, is, same) (fewer, kept) = (ends_in_content a b c size header before is fewer, kept ∙ same)
passing_failed a b c size n k m NoMemory (header, before, is, same) none = absurd none

-- a frame was taken
pub frame_taken : (a b c : Option (List ℕ)) (size n k m : ℕ) (content : List ℕ) → ReadsHeader (Ok (Some size)) a b n k
    → Consumes b c content → length content ≡ size → m ≡ k → TakesFrame a content c × (m ≡ n)
frame_taken a b c size n k m content (header, before, is, same) taken whole kept =
    ((header ++ content, Consumes-trans a b c _ _ before taken, (header, subst (IsHeader header) (sym whole) is, refl)), kept ∙ same)

-- a bad length was taken, which is refused
pub refused_field : (a b c : Option (List ℕ)) (count : ℕ) (found : Option ℕ) (line : List ℕ) (f : Field) (e : FrameError) (n m : ℕ) → f ≡ BadLength → e ≡ Bad
    → Stands a b count found → Takes b line c → kind.Field f ≡ line_of line → m ≡ n → ReadsHeader (Err e) a c n m
refused_field a b c count found line f e n m bad is stands taken shape kept =
    subst (λ e. ReadsHeader (Err e) a c n m) (sym is)
    (says_bad_length a b c count found line stands taken (subst (λ f. kind.Field f ≡ line_of line) bad shape), kept)
