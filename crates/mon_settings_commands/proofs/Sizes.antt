-- Settings by smaller targets, where a poll was answered tooBig.
use Rattle.std.proofs.Common.{◌≡◌, List, [], Result, Ok, Err, true, false, inl, inr, refl, subst, sym}
use Rattle.std.specs.Prelude.{IsErrAnd, Some, None}
use Rattle.mon_client.specs.Network.{Agents}
use Rattle.mon_console.specs.declared.failure.Failure.{Failure}
use Rattle.mon_poller.specs.declared.target.Target.{Target}
use Rattle.mon_survey.specs.Size.{half_of, sizes_from}
use Rattle.mon_survey.specs.declared.longest.Drafted.{Drafted}
use Rattle.mon_survey.specs.declared.size.TargetSize.{TargetSize}
use Rattle.mon_survey.specs.declared.size.TargetSize.TheVariants.{Sixteen, Eight, Four, Two, One}
use Rattle.mon_settings_commands.specs.Fitting.{IsFitting, IsLastTried, IsTooBigAt}
use Rattle.mon_settings_commands.specs.Tried.{IsTrial, is_too_big}
use Rattle.mon_settings_commands.specs.declared.settings.AgentOptions.{AgentOptions}
use Rattle.mon_settings_commands.proofs.Turns.{failure_is}

-- the sizes below one
abbrev pub after : TargetSize → List TargetSize
after Sixteen = sizes_from Eight
after Eight = sizes_from Four
after Four = sizes_from Two
after Two = sizes_from One
after One = []

pub none_after : (size : TargetSize) → half_of size ≡ None → after size ≡ []
none_after Sixteen none = absurd (let never : ⊥ = cc in never)
none_after Eight none = absurd (let never : ⊥ = cc in never)
none_after Four none = absurd (let never : ⊥ = cc in never)
none_after Two none = absurd (let never : ⊥ = cc in never)
none_after One none = refl

module _ (agents : Agents) (asked : AgentOptions) (Draft : TargetSize → Result Drafted Failure → Type 0) (result : Result Drafted Failure) where
  -- no smaller size is tried
  last_fit : (size : TargetSize) → IsLastTried agents asked Draft size (after size) result → IsFitting agents asked Draft (sizes_from size) result
  last_fit Sixteen last = inl last
  last_fit Eight last = inl last
  last_fit Four last = inl last
  last_fit Two last = inl last
  last_fit One last = inl last

  -- a smaller one is
  smaller_than : (size less : TargetSize) → half_of size ≡ Some less → IsTooBigAt agents asked Draft size → IsFitting agents asked Draft (sizes_from less) result
      → IsFitting agents asked Draft (sizes_from size) result
  smaller_than Sixteen less half big fits = let is : less ≡ Eight = cc in inr (big, subst (λ (s : TargetSize). IsFitting agents asked Draft (sizes_from s) result) is fits)
  smaller_than Eight less half big fits = let is : less ≡ Four = cc in inr (big, subst (λ (s : TargetSize). IsFitting agents asked Draft (sizes_from s) result) is fits)
  smaller_than Four less half big fits = let is : less ≡ Two = cc in inr (big, subst (λ (s : TargetSize). IsFitting agents asked Draft (sizes_from s) result) is fits)
  smaller_than Two less half big fits = let is : less ≡ One = cc in inr (big, subst (λ (s : TargetSize). IsFitting agents asked Draft (sizes_from s) result) is fits)
  smaller_than One less half big fits = absurd (let never : ⊥ = cc in never)

module _ (agents : Agents) (asked : AgentOptions) (Draft : TargetSize → Result Drafted Failure → Type 0) (size : TargetSize) where
  -- the agent answered each poll
  pub fits : (drafted : Drafted) (targets : List Target) (done : Unit {0}) → targets ≡ drafted.targets.items → Draft size (Ok drafted) → IsTrial agents asked targets (Ok done)
      → IsFitting agents asked Draft (sizes_from size) (Ok drafted)
  fits drafted targets done same draft trial = last_fit agents asked Draft (Ok drafted) size
      (record { draft = draft; trial = subst (λ (ts : List Target). IsTrial agents asked ts (Ok tt)) same trial })

  -- there are no such settings
  pub no_draft : (failure : Failure) (result : Result Drafted Failure) → IsErrAnd result (λ f. f ≡ failure) → Draft size (Err failure)
      → IsFitting agents asked Draft (sizes_from size) result
  no_draft failure result is draft = subst (λ (r : Result Drafted Failure). IsFitting agents asked Draft (sizes_from size) r) (sym (failure_is result failure is))
      (last_fit agents asked Draft (Err failure) size (inl draft))

  -- a poll was not answered, or with another error status
  pub refused : (drafted : Drafted) (targets : List Target) (failure : Failure) → targets ≡ drafted.targets.items → Draft size (Ok drafted) → IsTrial agents asked targets (Err failure)
      → is_too_big failure.fault ≡ false → IsFitting agents asked Draft (sizes_from size) (Err failure)
  refused drafted targets failure same draft trial other = last_fit agents asked Draft (Err failure) size
      (inr (drafted, record { draft = draft; trial = subst (λ (ts : List Target). IsTrial agents asked ts (Err failure)) same trial }, inl other))

  -- one object is too big
  pub too_big : (drafted : Drafted) (targets : List Target) (failure : Failure) → targets ≡ drafted.targets.items → Draft size (Ok drafted) → IsTrial agents asked targets (Err failure)
      → half_of size ≡ None → IsFitting agents asked Draft (sizes_from size) (Err failure)
  too_big drafted targets failure same draft trial none = last_fit agents asked Draft (Err failure) size
      (inr (drafted, record { draft = draft; trial = subst (λ (ts : List Target). IsTrial agents asked ts (Err failure)) same trial }, inr (none_after size none)))

  -- a smaller size is tried
  pub goes_on : (drafted : Drafted) (targets : List Target) (failure : Failure) (less : TargetSize) (result : Result Drafted Failure) → targets ≡ drafted.targets.items
      → Draft size (Ok drafted) → IsTrial agents asked targets (Err failure) → is_too_big failure.fault ≡ true → half_of size ≡ Some less
      → IsFitting agents asked Draft (sizes_from less) result → IsFitting agents asked Draft (sizes_from size) result
  goes_on drafted targets failure less result same draft trial big half fits = smaller_than agents asked Draft result size less half
      (drafted, failure, record { draft = draft; trial = subst (λ (ts : List Target). IsTrial agents asked ts (Err failure)) same trial }, big) fits
