-- Groups of counters, and their settings.
use Rattle.std.proofs.Common.{◌≡◌, ◌≤◌, ◌+◌, ◌++◌, ◌∷◌, ◌⊎◌, Bool, List, ℕ, [], length, sym, ap, arith, ◌∙◌, subst}
use Rattle.std.proofs.lemmas.List.{length-append}
use Rattle.std.specs.Prelude.{IfErr, IsErrAnd, Some, Result, Ok, Err}
use Rattle.mon_console.specs.declared.failure.Failure.{Failure}
use Rattle.mon_survey.specs.Plan.{planned_of}
use Rattle.mon_survey.specs.declared.choice.Choice.{Choice}
use Rattle.mon_survey.specs.declared.fault.SurveyFault.{SurveyFault}
use Rattle.mon_survey.specs.declared.fault.SurveyFault.TheVariants as faults
use Rattle.mon_survey.specs.declared.longest.Drafted.{Drafted}
use Rattle.mon_client.specs.Network.{Agents}
use Rattle.mon_settings_commands.specs.Fitting.{AreFitting}
use Rattle.mon_settings_commands.specs.Parts.{AreGroupsFrom, HasGroups, HasNoPlan}
use Rattle.mon_settings_commands.specs.Settings.{IsSettingsOf}
use Rattle.mon_settings_commands.specs.Source.{IsChoice, IsOfSurvey, Source}

-- a group without a plan
pub no_plan : (s : Source) (group : ℕ) (choice : Choice) (fault : SurveyFault) (r : Result Bool Failure) → IsChoice s (Some group) choice
    → (fault ≡ faults.OutOfMemory) ⊎ (planned_of choice s.survey.answers ≡ Err fault) → IfErr r (IsOfSurvey fault) → IfErr r (HasNoPlan s)
no_plan s group choice fault (Ok has) is cause said = tt
no_plan s group choice fault (Err failure) is cause said = (group, choice, fault, is, said, cause)

-- the settings of the next group
pub groups_on : (agents : Agents) (s : Source) (first : ℕ) (parts : List Drafted) (part : Drafted) → AreGroupsFrom agents s first parts
    → AreFitting agents s.asked (IsSettingsOf s (Some (first + length parts))) (Ok part) → AreGroupsFrom agents s first (parts ++ part ∷ [])
groups_on agents s first [] part are is = (subst (λ (n : ℕ). AreFitting agents s.asked (IsSettingsOf s (Some n)) (Ok part)) (grind (arith)) is, tt)
groups_on agents s first (p ∷ parts) part are is =
    (are.0, groups_on agents s (first + 1) parts part are.1 (subst (λ (n : ℕ). AreFitting agents s.asked (IsSettingsOf s (Some n)) (Ok part)) (grind (arith)) is))

-- a failure that a `?` made has what it had
pub still : {A : Type 0} → (P : Failure → Type 0) (failure : Failure) (r : Result A Failure) → IsErrAnd r (λ f. f ≡ failure) → P failure → IfErr r P
still P failure (Ok a) is holds = absurd is
still P failure (Err f) is holds = subst P (sym is) holds

zero-plus : (n : ℕ) → 0 + n ≡ n
zero-plus n = grind (arith)

-- the settings of one group more
pub one_group_more : (agents : Agents) (s : Source) (before after : List Drafted) (group : ℕ) → length before ≡ group → AreGroupsFrom agents s 0 before
    → ((part : Drafted) × (after ≡ before ++ part ∷ []) × AreFitting agents s.asked (IsSettingsOf s (Some group)) (Ok part))
    → (length after ≡ group + 1) × AreGroupsFrom agents s 0 after
one_group_more agents s before after group is are (part, now, said) = (
  ap length now ∙ (length-append before (part ∷ []) ∙ ap (λ n. n + 1) is),
  subst (λ (ts : List Drafted). AreGroupsFrom agents s 0 ts) (sym now) (groups_on agents s 0 before part are
      (subst (λ (n : ℕ). AreFitting agents s.asked (IsSettingsOf s (Some n)) (Ok part)) (sym (zero-plus (length before) ∙ is)) said)),
)

-- there are as many settings as groups
pub all_groups : (s : Source) (parts : List Drafted) (group groups : ℕ) → length parts ≡ group → groups ≤ group → group ≤ groups → HasGroups s groups → HasGroups s (length parts)
all_groups s parts group groups is past fits has = let same : group ≡ groups = omega (arith, past, fits) in subst (λ (n : ℕ). HasGroups s n) (sym (is ∙ same)) has
