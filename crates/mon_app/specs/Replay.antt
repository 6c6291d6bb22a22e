-- What a replay prints of its input.
use Rattle.std.specs.Prelude.{ℕ, ◌+◌, List, [], ◌∷◌, ◌++◌, length, map, Option, Some, None, Result}
use Rattle.std.specs.Prelude.{Ok, Err, nat_le, ◌==◌, if◌then◌else◌}
use Rattle.std.specs.FinSet.{len}
use Rattle.std.specs.List.{flat_map, slice_split}
use Rattle.std.specs.Str.Lines.{strip_carriage_return}
use Rattle.mon_app.specs.Offer.{Offer}
use Rattle.mon_app.specs.declared.refusal.Refusal.{Refusal}
use Rattle.mon_app.specs.declared.refusal.Refusal.TheVariants.{TooManyInstances}
use Rattle.mon_oid.specs.Steps.{◌>>=◌}
use Rattle.mon_app.specs.Reading.{line_reading}
use Rattle.mon_app.specs.Windows.{instances, rows_of}
use Rattle.mon_app.specs.Text.{row_text, refused_line, end_line, samples_in}

-- the lines, which LF ends, each without one CR at its end; after the last LF there is an empty
-- line, which says nothing
unfoldable pub lines_of : List ℕ → List (List ℕ)
lines_of input = map strip_carriage_return (slice_split (λ b. b == 10) input)

-- what the octets after an LF hold, where there are such
abbrev pub lines_left : Option (List ℕ) → List (List ℕ)
lines_left None = []
lines_left (Some text) = lines_of text

-- a reading is refused where more than 256 instances would be held
abbrev pub admitted : List Offer → List Offer → Result (List Offer) Refusal
admitted taken offers = if nat_le (len (instances (taken ++ offers))) 256 then Ok offers
    else Err TooManyInstances

-- a line's reading, with that limit
abbrev pub verdict : List Offer → Result (List Offer) Refusal → Result (List Offer) Refusal
verdict taken reading = reading >>= admitted taken

-- what becomes of a line after what was taken: nothing, if it is empty
abbrev pub judged : List Offer → Option (Result (List Offer) Refusal)
    → Option (Result (List Offer) Refusal)
judged taken None = None
judged taken (Some reading) = Some (verdict taken reading)

-- what is taken of a line that was so judged
abbrev pub offered : Option (Result (List Offer) Refusal) → List Offer
offered None = []
offered (Some (Ok offers)) = offers
offered (Some (Err e)) = []

-- a refused line's number, and why it is refused
abbrev pub refused : ℕ → Option (Result (List Offer) Refusal) → List (ℕ × Refusal)
refused k None = []
refused k (Some (Ok offers)) = []
refused k (Some (Err e)) = (k, e) ∷ []

-- all that accepted lines offer, after what was taken
abbrev pub accepted : List Offer → List (List ℕ) → List Offer
accepted taken [] = taken
accepted taken (line ∷ lines) = accepted (taken ++ offered (judged taken (line_reading line))) lines

-- the refusals, where k lines came before
abbrev pub refusals : ℕ → List Offer → List (List ℕ) → List (ℕ × Refusal)
refusals k taken [] = []
refusals k taken (line ∷ lines) =
    refused (k + 1) (judged taken (line_reading line)) ++ refusals (k + 1)
    (taken ++ offered (judged taken (line_reading line))) lines

-- the refused lines, each with its number and why
abbrev pub refused_text : List (ℕ × Refusal) → List ℕ
refused_text why = flat_map (λ r. refused_line r.0 r.1) why

-- the refusals, each instance with its n greatest samples, and the counts
unfoldable pub replayed : ℕ → List ℕ → List ℕ
replayed n input =
    let lines = lines_of input in
    let why = refusals 0 [] lines in
    let rows = rows_of n (accepted [] lines) in
    refused_text why ++ flat_map row_text rows ++ end_line (length rows) (samples_in rows)
    (length why)
