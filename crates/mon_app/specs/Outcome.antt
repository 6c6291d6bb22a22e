-- What a whole input comes to, by what its lines say.
use Rattle.std.specs.Prelude.{◌≡◌, ℕ, ◌+◌, ◌<◌, ◌≤◌, List, [], ◌∷◌, ◌++◌, length, take}
use Rattle.std.specs.Prelude.{slice_index_or, Option, Some, None, Result, Ok, Err}
use Rattle.std.specs.FinSet.{len}
use Rattle.std.specs.List.{flat_map}
use Rattle.mon_app.specs.declared.refusal.Refusal.{Refusal}
use Rattle.mon_app.specs.declared.refusal.Refusal.TheVariants.{OutOfMemory, BadHex, BadMessage}
use Rattle.mon_app.specs.declared.refusal.Refusal.TheVariants.{NotAResponse, AgentError, BadStamp}
use Rattle.mon_app.specs.declared.refusal.Refusal.TheVariants.{TooManyInstances}
use Rattle.mon_app.specs.Line.{Says}
use Rattle.mon_app.specs.Offer.{Offer}
use Rattle.mon_app.specs.Replay.{lines_of, offered, refused, refused_text}
use Rattle.mon_app.specs.Text.{row_text, end_line, samples_in}
use Rattle.mon_app.specs.Windows.{instances, rows_of}

-- of a line: nothing, if it is empty; else the samples that it brings, or why it is refused
abbrev pub Outcome : Type 0
Outcome = Option (Result (List Offer) Refusal)

-- The outcome of a line after what was taken: what it says, but where more than 256 instances would
-- then be held it is refused.
abbrev pub IsOutcome : List Offer → List ℕ → Outcome → Type 0
IsOutcome taken [] outcome = outcome ≡ None
IsOutcome taken (c ∷ cs) None = ⊥
IsOutcome taken (c ∷ cs) (Some (Ok offers)) = Says (c ∷ cs) (Ok offers)
    × (len (instances (taken ++ offers)) ≤ 256)
IsOutcome taken (c ∷ cs) (Some (Err OutOfMemory)) = ⊥
IsOutcome taken (c ∷ cs) (Some (Err BadHex)) = Says (c ∷ cs) (Err BadHex)
IsOutcome taken (c ∷ cs) (Some (Err BadMessage)) = Says (c ∷ cs) (Err BadMessage)
IsOutcome taken (c ∷ cs) (Some (Err NotAResponse)) = Says (c ∷ cs) (Err NotAResponse)
IsOutcome taken (c ∷ cs) (Some (Err AgentError)) = Says (c ∷ cs) (Err AgentError)
IsOutcome taken (c ∷ cs) (Some (Err BadStamp)) = Says (c ∷ cs) (Err BadStamp)
IsOutcome taken (c ∷ cs) (Some (Err TooManyInstances)) = (offers : List Offer)
    × Says (c ∷ cs) (Ok offers) × (256 < len (instances (taken ++ offers)))

-- all samples that were taken
abbrev pub taken_by : List Outcome → List Offer
taken_by outcomes = flat_map offered outcomes

-- the refused lines with their numbers, where this many lines came before
abbrev pub refused_in : ℕ → List Outcome → List (ℕ × Refusal)
refused_in k [] = []
refused_in k (outcome ∷ outcomes) = refused (k + 1) outcome ++ refused_in (k + 1) outcomes

-- these are the outcomes of lines: each after what the lines before it brought
pub record AreOutcomes (lines : List (List ℕ)) (outcomes : List Outcome) : Type 0 where
  pub one_each : length outcomes ≡ length lines
  pub each : (k : ℕ) → k < length outcomes → IsOutcome (taken_by (take k outcomes))
      (slice_index_or lines k []) (slice_index_or outcomes k None)

-- The text is what windows of n samples keep of the input: each line has its outcome, after what
-- the lines before it brought; the refused lines are named, and then each instance has the n newest
-- of all samples that were taken of it.
pub record IsReplay (n : ℕ) (input text : List ℕ) : Type 0 where
  pub outcomes : List Outcome
  pub are : AreOutcomes (lines_of input) outcomes
  pub printed : text ≡ refused_text (refused_in 0 outcomes) ++ flat_map row_text
      (rows_of n (taken_by outcomes))
      ++ end_line (length (rows_of n (taken_by outcomes))) (samples_in
      (rows_of n (taken_by outcomes))) (length (refused_in 0 outcomes))
