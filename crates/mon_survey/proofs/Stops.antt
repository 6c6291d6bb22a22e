-- Why no settings are appended to.
use Rattle.std.proofs.Common.{◌≡◌, ◌⊎◌, ◌∙◌, ℕ, List, Result, Ok, Err, ap, inl, inr, subst, sym}
use Rattle.mon_settings.specs.StationAccepted.{Station}
use Rattle.mon_smi.specs.declared.definition.Definition.{Definition}
use Rattle.mon_survey.specs.declared.answers.Cell.{Cell}
use Rattle.mon_survey.specs.declared.choice.Choice.{Choice}
use Rattle.mon_survey.specs.declared.counter.Planned.{Planned}
use Rattle.mon_survey.specs.declared.fault.SurveyFault.{SurveyFault}
use Rattle.mon_survey.specs.declared.fault.SurveyFault.TheVariants.{OutOfMemory}
use Rattle.mon_survey.specs.declared.options.Options.{Options}
use Rattle.mon_survey.specs.Appended.{IsAppendFault, IsMisread, shown_by, with_room}
use Rattle.mon_survey.specs.Plan.{planned_of}
use Rattle.mon_survey.specs.Text.{addition_of}
use Rattle.std.specs.Prelude.{length}

module _ (defs : List Definition) (choice : Choice) (o : Options) (text : List ℕ) (old : Station) (engine : List ℕ) (cells : List Cell) (e : SurveyFault) where
  pub unplanned : (e ≡ OutOfMemory) ⊎ (planned_of choice cells ≡ Err e) → IsAppendFault defs choice o text old engine cells e
  unplanned (inl memory) = inl memory
  unplanned (inr none) = inr (inl (inl none))

  module _ (ps : List Planned) (plan : planned_of choice cells ≡ Ok ps) where
    pub no_room : (qs : List Planned) → qs ≡ ps → with_room o.size old engine qs ≡ Err e → IsAppendFault defs choice o text old engine cells e
    no_room qs is none = inr (inl (inr (ps, plan, inl (ap (with_room o.size old engine) (sym is) ∙ none))))

    abbrev addition : ℕ → Options → List ℕ → List Planned → Result (List ℕ) SurveyFault
    addition many p id qs = addition_of (shown_by defs many) text p id cells qs

    same_addition : (many : ℕ) (p : Options) (id : List ℕ) (qs : List Planned) → many ≡ length old.modules → p ≡ o → id ≡ engine → qs ≡ ps
        → addition many p id qs ≡ addition (length old.modules) o engine ps
    same_addition many p id qs same_many same_options same_engine is =
        ap (λ (l : List Planned). addition many p id l) is ∙ ap (λ (l : List ℕ). addition many p l ps) same_engine ∙ ap (λ (q : Options). addition many q engine ps) same_options
        ∙ ap (λ (n : ℕ). addition n o engine ps) same_many

    pub no_text : (many : ℕ) (p : Options) (id : List ℕ) (qs : List Planned) → many ≡ length old.modules → p ≡ o → id ≡ engine → qs ≡ ps
        → (e ≡ OutOfMemory) ⊎ (addition_of (shown_by defs many) text p id cells qs ≡ Err e) → IsAppendFault defs choice o text old engine cells e
    no_text many p id qs same_many same_options same_engine is (inl memory) = inl memory
    no_text many p id qs same_many same_options same_engine is (inr none) =
        inr (inl (inr (ps, plan, inr (sym (same_addition many p id qs same_many same_options same_engine is) ∙ none))))

    pub misread : (qs : List Planned) → qs ≡ ps → with_room o.size old engine qs ≡ Ok qs → (many : ℕ) (p : Options) (id : List ℕ) (rs : List Planned) → many ≡ length old.modules → p ≡ o → id ≡ engine → rs ≡ ps
        → (new : List ℕ) → addition_of (shown_by defs many) text p id cells rs ≡ Ok new
        → (us : List Planned) → us ≡ ps → (read : List ℕ) → read ≡ new → IsMisread defs o engine cells us old read e → IsAppendFault defs choice o text old engine cells e
    misread qs is room many p id rs same_many same_options same_engine same new drafted us these read written other =
        let room_is : with_room o.size old engine ps ≡ Ok ps = subst (λ (l : List Planned). with_room o.size old engine l ≡ Ok l) is room in
        let unlike : IsMisread defs o engine cells ps old new e =
        subst (λ (l : List Planned). IsMisread defs o engine cells l old new e) these
        (subst (λ (t : List ℕ). IsMisread defs o engine cells us old t e) written other) in
        inr (inr (ps, new, plan, room_is, sym (same_addition many p id rs same_many same_options same_engine same) ∙ drafted, unlike))
