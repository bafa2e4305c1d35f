-- Lists of values and texts, with commas between them.
use Rattle.std.specs.Prelude.{◌≡◌, ℕ, ◌+◌, ◌≤◌, Bool, true, false, Option, Some, None, Result, Ok, Err, List, [], ◌∷◌, map, length, take, drop, if◌then◌else◌}
use Rattle.tb_asm.specs.Names.{fold_byte}
use Rattle.tb_assembly_text.specs.declared.faults.Fault.{Fault}
use Rattle.tb_assembly_text.specs.declared.tokens.Sign.TheVariants.{Comma}
use Rattle.tb_assembly_text.specs.declared.lists.Segment.{Segment as FirstOf}
use Rattle.tb_assembly_text.specs.declared.lists.Datum.{Datum}
use Rattle.tb_assembly_text.specs.declared.lists.Datum.TheVariants.{Value, Text}
use Rattle.tb_assembly_text.specs.Tokens.{Placed, text, sign}
use Rattle.tb_assembly_text.specs.Expressions.{Sum, sum_of, whole}

-- a value or a text among data
pub data Content : Type 0 where
  amount : Sum → Content
  letters : List ℕ → Content

-- a datum of the code as contracts see it
abbrev pub content_of : Datum → Content
content_of (Value e) = amount (sum_of e)
content_of (Text t) = letters t.items

-- whether a token is a comma
abbrev pub is_comma : Placed → Bool
is_comma (c, sign Comma) = true
is_comma (c, l) = false

-- the tokens between two commas, and the column of the second one or of the end
abbrev pub Segment : Type 0
Segment = List Placed × ℕ

-- a token before those of the first segment
abbrev pub put : Placed → List Segment → List Segment
put t [] = []
put t (s ∷ ss) = (t ∷ s.0, s.1) ∷ ss

-- what stands between the commas of a line that ends at a column
abbrev pub segments : ℕ → List Placed → List Segment
segments end [] = ([], end) ∷ []
segments end (t ∷ ts) = if is_comma t then ([], t.0) ∷ segments end ts else put t (segments end ts)

-- the tokens behind the first comma, if there is one
abbrev pub behind_comma : List Placed → Option (List Placed)
behind_comma [] = None
behind_comma (t ∷ ts) = if is_comma t then Some ts else behind_comma ts

-- the segments after the first one, if a comma follows it
abbrev pub segments_after : ℕ → Bool → List Placed → List Segment
segments_after end false ts = []
segments_after end true ts = segments end ts

-- the tokens behind a comma, if there is one
abbrev pub tokens_after : Bool → List Placed → Option (List Placed)
tokens_after false ts = None
tokens_after true ts = Some ts

-- how many tokens a segment takes with its comma
abbrev pub with_comma : FirstOf → ℕ
with_comma s = s.size + (if s.more then 1 else 0)

-- the first segment: how many tokens it has, the column behind it, and whether a comma is there
abbrev pub FirstSegment : ℕ → List Placed → FirstOf → Type 0
FirstSegment end ts s =
    (segments end ts ≡ (take s.size ts, s.end) ∷ segments_after end s.more (drop (s.size + 1) ts))
    × (behind_comma ts ≡ tokens_after s.more (drop (s.size + 1) ts)) × (with_comma s ≤ length ts)

-- the text that some tokens are
abbrev pub lone_text : List Placed → Option (List ℕ)
lone_text ((c, text t) ∷ []) = Some t
lone_text ts = None

-- a text by its bytes; small letters become capitals in one that is shown on the screen
abbrev pub shown_text : Bool → List ℕ → List ℕ
shown_text false t = t
shown_text true t = map fold_byte t

-- a value among data
abbrev pub as_amount : Result Sum Fault → Result Content Fault
as_amount (Ok e) = Ok (amount e)
as_amount (Err f) = Err f

-- a text, or else a value
abbrev pub text_or : Bool → Option (List ℕ) → Result Sum Fault → Result Content Fault
text_or shown (Some t) value = Ok (letters (shown_text shown t))
text_or shown None value = as_amount value

-- a value or a text among data
abbrev pub datum : List ℕ → Bool → ℕ → List Placed → Result Content Fault
datum scope shown end ts = text_or shown (lone_text ts) (whole scope end ts)

-- the first of a list before the others, or the first fault
abbrev pub with_first : {A : Type 0} → Result A Fault → Result (List A) Fault → Result (List A) Fault
with_first (Err f) rest = Err f
with_first (Ok x) (Err f) = Err f
with_first (Ok x) (Ok xs) = Ok (x ∷ xs)

-- what is read of each segment, or the first fault
abbrev pub each : {A : Type 0} → (Segment → Result A Fault) → List Segment → Result (List A) Fault
each f [] = Ok []
each f (s ∷ ss) = with_first (f s) (each f ss)

-- values and texts with commas between them
abbrev pub contents : List ℕ → Bool → List Segment → Result (List Content) Fault
contents scope shown ss = each (λ s. datum scope shown s.1 s.0) ss

-- values with commas between them
abbrev pub values : List ℕ → List Segment → Result (List Sum) Fault
values scope ss = each (λ s. whole scope s.1 s.0) ss
