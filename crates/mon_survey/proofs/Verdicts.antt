-- What a comparison of what was read says of the text.
use Rattle.std.proofs.Common.{◌≡◌, ◌∙◌, ℕ, ◌+◌, ◌≤◌, false, List, length, inl, inr, sym, subst}
use Rattle.std.specs.Prelude.{Option, Some, None, Result, Ok, Err, IfOk}
use Rattle.toml.specs.Data.{Items}
use Rattle.mon_settings.specs.StationAccepted.{IsStation, Station}
use Rattle.mon_settings.specs.Text.{Says}
use Rattle.mon_smi.specs.declared.definition.Definition.{Definition}
use Rattle.mon_survey.specs.declared.answers.Cell.{Cell}
use Rattle.mon_survey.specs.declared.counter.Planned.{Planned}
use Rattle.mon_survey.specs.declared.fault.SurveyFault.{SurveyFault}
use Rattle.mon_survey.specs.declared.options.Options.{Options}
use Rattle.mon_survey.specs.Appended.{IsAppended, IsMisread}
use Rattle.mon_survey.specs.Labels.{Continue, ContinueIn, IsLabels, IsNoLabels, ReadsOn, count_items, has_engine, interfaces_in, labels_text}
use Rattle.mon_survey.specs.Meant.{IsMeant, IsNotReadBack, IsUnlike}

-- settings that are not found to be what was meant are not read back
pub not_read_back : (defs : List Definition) (o : Options) (engine : List ℕ) (cells : List Cell) (ps : List Planned) (text : List ℕ) (station : Station) → Says (IsStation defs) text station
    → (e : SurveyFault) → IsUnlike (IsMeant o engine cells ps station) e → IsNotReadBack defs o engine cells ps text e
not_read_back defs o engine cells ps text station says e (inl memory) = subst (IsNotReadBack defs o engine cells ps text) (sym memory) tt
not_read_back defs o engine cells ps text station says e (inr (misread, other)) = subst (IsNotReadBack defs o engine cells ps text) (sym misread) (station, says, other)

-- and settings that are not found to be old ones with an agent's are misread
pub not_appended : (defs : List Definition) (o : Options) (engine : List ℕ) (cells : List Cell) (ps : List Planned) (old : Station) (text : List ℕ) (station : Station) → Says (IsStation defs) text station
    → (e : SurveyFault) → IsUnlike (IsAppended o engine cells ps old station) e → IsMisread defs o engine cells ps old text e
not_appended defs o engine cells ps old text station says e (inl memory) = subst (IsMisread defs o engine cells ps old text) (sym memory) tt
not_appended defs o engine cells ps old text station says e (inr (misread, other)) = subst (IsMisread defs o engine cells ps old text) (sym misread) (station, says, other)

-- and labels that are not read on are none
pub not_labels : (old engine : List ℕ) (cells : List Cell) (indexes : List ℕ) (before : Items) (text : List ℕ) → interfaces_in old ≡ Some before → text ≡ labels_text old engine cells indexes
    → (e : SurveyFault) → IsUnlike (ReadsOn engine cells indexes before text) e → IsNoLabels old engine cells indexes e
not_labels old engine cells indexes before text was is e (inl memory) = subst (IsNoLabels old engine cells indexes) (sym memory) tt
not_labels old engine cells indexes before text was is e (inr (misread, other)) =
    subst (IsNoLabels old engine cells indexes) (sym misread)
    (before, was, λ both. other (subst (λ (t : List ℕ). ReadsOn engine cells indexes before t) (sym is) both.1))

-- a text with the tables of interfaces, which may follow, is that of labels
pub are_labels : {T E : Type 0} (octets : T → List ℕ) (old engine : List ℕ) (cells : List Cell) (indexes : List ℕ) (before : Items) (r : Result T E)
    → interfaces_in old ≡ Some before → has_engine engine before ≡ false → count_items before + length indexes ≤ 4096
    → IfOk r (λ t. octets t ≡ labels_text old engine cells indexes) → IfOk r (λ t. ReadsOn engine cells indexes before (octets t)) → IfOk r (λ t. IsLabels old engine cells indexes (octets t))
are_labels octets old engine cells indexes before (Ok t) was other few is read = record { is = is; before = before; old_read = was; other = other; few = few; read = read }
are_labels octets old engine cells indexes before (Err e) was other few is read = tt

-- a text is read on exactly if the tables in it are there and go on
pub read_on : (engine : List ℕ) (cells : List Cell) (indexes : List ℕ) (before : Items) (text : List ℕ) (found : Option Items) → interfaces_in text ≡ found
    → (ContinueIn engine cells indexes before found → ReadsOn engine cells indexes before text) × (ReadsOn engine cells indexes before text → ContinueIn engine cells indexes before found)
read_on engine cells indexes before text None e = (λ none. absurd none, λ reads. absurd (never (sym reads.1 ∙ e)))
  where
    never : {ds : Items} → Some ds ≡ None → ⊥
    never p = cc
read_on engine cells indexes before text (Some ds) e = (λ all. (ds, e, all), λ reads. subst (λ (x : Items). Continue engine cells indexes before x) (same (sym reads.1 ∙ e)) reads.2)
  where
    same : {a b : Items} → Some a ≡ Some b → a ≡ b
    same p = cc
