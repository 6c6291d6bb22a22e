-- Assigning one after another, up to the first that fails.
use Rattle.std.proofs.Common.{◌≡◌, ℕ, List, [], ◌∷◌, ◌++◌, refl, sym, ◌∙◌, ap, subst, append_assoc}
use Rattle.mon_mib.specs.declared.change.Change.{Change}
use Rattle.mon_mib.specs.declared.commit.Commit.{Commit}
use Rattle.mon_mib.specs.declared.commit.Commit.TheVariants.{Done, CommitFailed, UndoFailed}
use Rattle.mon_mib.specs.declared.planned_change.PlannedChange.{PlannedChange}
use Rattle.mon_mib.specs.Assignment.{AreApart}
use Rattle.mon_mib.specs.Change.{changed, undoing, one_failure}
use Rattle.mon_mib.specs.Commit.{changes, undoings, IsFailedAfter, IsUndone, IsCommitted, failures_by_then, failures_after, undo_failures}
use Rattle.mon_mib.specs.Held.{Held}
use Rattle.mon_mib.proofs.Swapping.{changes_push}
use Rattle.mon_mib.proofs.Undoing.{undoings_push, front_apart}

-- this part of the plan is assigned
pub record IsAtAssign (plan : List PlannedChange) (before : Held) (rest undos : List PlannedChange) (now : Held) : Type 0 where
  pub done : List PlannedChange
  pub order : plan ≡ done ++ rest
  pub undos_are : undos ≡ undoings done before
  pub holds : now ≡ changes done before

pub begins : (plan steps undos : List PlannedChange) (before : Held) → steps ≡ plan → undos ≡ [] → IsAtAssign plan before steps undos before
begins plan steps undos before same none = record { done = []; order = sym same; undos_are = none; holds = refl }

pub assigned : (plan all rest undos more : List PlannedChange) (s : PlannedChange) (before now new : Held) → all ≡ s ∷ rest → IsAtAssign plan before all undos now
    → new ≡ changed s.change now → more ≡ undos ++ record { index = s.index; change = undoing s.change now } ∷ [] → IsAtAssign plan before rest more new
assigned plan all rest undos more s before now new split at made listed = record {
  done = at.done ++ s ∷ [];
  order = at.order ∙ (ap (λ l. at.done ++ l) split ∙ sym (append_assoc at.done (s ∷ []) rest));
  undos_are = listed ∙ (ap (λ us. us ++ record { index = s.index; change = undoing s.change now } ∷ []) at.undos_are
      ∙ (ap (λ h. undoings at.done before ++ record { index = s.index; change = undoing s.change h } ∷ []) at.holds ∙ sym (undoings_push at.done s before)));
  holds = made ∙ (ap (changed s.change) at.holds ∙ sym (changes_push at.done s before));
}

pub done_apart : (plan rest undos : List PlannedChange) (before now : Held) → AreApart plan → (at : IsAtAssign plan before rest undos now) → AreApart at.done
done_apart plan rest undos before now apart at = front_apart at.done rest (subst AreApart at.order apart)

module _ {D : Type 0} (held : D → Held) (refuses : D → Change → Type 0) where
  pub failed_after : (plan all rest undos : List PlannedChange) (s : PlannedChange) (before : Held) (number : ℕ) (device : D) → all ≡ s ∷ rest
      → (at : IsAtAssign plan before all undos (held device)) → number ≡ s.index → refuses device s.change → IsFailedAfter held refuses at.done plan before number
  failed_after plan all rest undos s before number device split at is refused = record {
    failed = s;
    others = rest;
    order = at.order ∙ ap (λ l. at.done ++ l) split;
    is = sym is;
    refused = record { device = device; holds = at.holds; refused = refused };
  }

  pub committed : (plan done : List PlannedChange) (before after : Held) (number : ℕ) (r : Commit) → IsFailedAfter held refuses done plan before number
      → IsUndone held refuses done before after number r → IsCommitted held refuses plan before after r
  committed plan done before after number Done failed is = absurd is
  committed plan done before after number (CommitFailed n) failed is = record {
    done = done;
    failed = subst (IsFailedAfter held refuses done plan before) (sym is.0) failed;
    holds = is.1;
  }
  committed plan done before after number (UndoFailed n standing) failed is = record {
    done = done;
    failed = subst (IsFailedAfter held refuses done plan before) (sym is.0) failed;
    holds = is.1;
  }

  pub failures_are : (done : List PlannedChange) (before after : Held) (number : ℕ) (r : Commit) (count old : ℕ) → IsUndone held refuses done before after number r
      → count ≡ one_failure old → undo_failures r count ≡ failures_by_then r old
  failures_are done before after number Done count old is e = absurd is
  failures_are done before after number (CommitFailed n) count old is e = e
  failures_are done before after number (UndoFailed n standing) count old is e = ap (failures_after standing.items) e
