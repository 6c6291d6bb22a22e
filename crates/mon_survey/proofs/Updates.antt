-- Why no settings are updated.
use Rattle.std.proofs.Common.{◌≡◌, ℕ, List, Ok, ap, drop, inl, inr, subst, sym, ◌∙◌}
use Rattle.std.specs.Prelude.{length}
use Rattle.mon_settings.specs.StationAccepted.{IsStation, Station}
use Rattle.mon_settings.specs.Text.{Says}
use Rattle.mon_poller.specs.declared.target.Target.{Target}
use Rattle.mon_smi.specs.declared.definition.Definition.{Definition}
use Rattle.mon_survey.specs.declared.counter.Planned.{Planned}
use Rattle.mon_survey.specs.declared.fault.SurveyFault.{SurveyFault}
use Rattle.mon_survey.specs.declared.longest.LongestRound.{LongestRound}
use Rattle.mon_survey.specs.declared.options.Options.{Options}
use Rattle.mon_survey.specs.Appended.{shown_by}
use Rattle.mon_survey.specs.Longest.{longest_of}
use Rattle.mon_survey.specs.Moved.{At, targets_now}
use Rattle.mon_survey.specs.Updated.{IsUndrafted, IsUnread, IsUpdateFault, IsUpdated, IsUpdatedText, update_of, with_space}

module _ (defs : List Definition) (o : Options) (a : At) (ps : List Planned) (text : List ℕ) (old : Station) (e : SurveyFault) (many : ℕ) (same : many ≡ length old.modules) where
  pub undrafted : IsUndrafted (shown_by defs many) a old.core.watch.instances text o ps e → IsUpdateFault defs o a ps text old e
  undrafted none = inr (inr (inl (subst (λ (n : ℕ). IsUndrafted (shown_by defs n) a old.core.watch.instances text o ps e) same none)))

  pub unmeant : (new read : List ℕ) → read ≡ new → update_of (shown_by defs many) a old.core.watch.instances text o ps ≡ Ok new → IsUnread defs o a ps old read e → IsUpdateFault defs o a ps text old e
  unmeant new read is drafted other =
      inr (inr (inr (
        new,
        subst (λ (n : ℕ). update_of (shown_by defs n) a old.core.watch.instances text o ps ≡ Ok new) same drafted,
        subst (λ (t : List ℕ). IsUnread defs o a ps old t e) is other,
      )))

-- a text that was read back is one
module _ (defs : List Definition) (o : Options) (a : At) (ps : List Planned) (text : List ℕ) (old : Station) (many : ℕ) (same : many ≡ length old.modules) where
  pub read_back : (new : List ℕ) → with_space o.size a old ps ≡ Ok ps → update_of (shown_by defs many) a old.core.watch.instances text o ps ≡ Ok new
      → (read : List ℕ) → read ≡ new → (longest : LongestRound) (targets : List Target)
      → ((station : Station) × Says (IsStation defs) read station × IsUpdated o a ps old station × (longest ≡ longest_of station) × (targets ≡ drop (length (targets_now a old.core.targets)) station.core.targets))
      → (made : List ℕ) (longest2 : LongestRound) (targets2 : List Target) → made ≡ new → longest2 ≡ longest → targets2 ≡ targets
      → IsUpdatedText defs o a ps text old made longest2 targets2
  read_back new room drafted read is longest targets reading made longest2 targets2 same_text same_longest same_targets = record {
    room = room;
    drafted = subst (λ (n : ℕ). update_of (shown_by defs n) a old.core.watch.instances text o ps ≡ Ok made) same (drafted ∙ ap (λ (t : List ℕ). Ok t) (sym same_text));
    station = reading.0;
    read = subst (λ (t : List ℕ). Says (IsStation defs) t reading.0) (is ∙ sym same_text) reading.1;
    meant = reading.2;
    round = same_longest ∙ reading.3;
    added = same_targets ∙ reading.4;
  }
