-- What a writer holds after a text was written to it.
use Rattle.std.specs.Prelude.{ℕ, Bool, true, false, List, [], Option, Result, MatchResult, take}
use Rattle.std.specs.Io.KnownBytes.{Appends}

-- a beginning of the text was written
abbrev pub AppendsSome : Option (List ℕ) → Option (List ℕ) → List ℕ → Type 0
AppendsSome old new text = (k : ℕ) × Appends old new (take k text)

-- the whole text was written, or of one that failed a beginning of it
abbrev pub AppendsResult : {A E : Type 0} → Option (List ℕ) → Option (List ℕ) → Result A E → List ℕ
    → Type 0
AppendsResult old new result text = MatchResult result (λ _. Appends old new text)
    (λ _. AppendsSome old new text)

-- A writer that had failed stays failed and gets nothing; else the text is appended, or a beginning
-- of it and the writer has failed.
abbrev pub AppendsIf : Option (List ℕ) → Bool → Option (List ℕ) → Bool → List ℕ → Type 0
AppendsIf old true new true text = Appends old new text
AppendsIf old true new false text = AppendsSome old new text
AppendsIf old false new true text = ⊥
AppendsIf old false new false text = Appends old new []
