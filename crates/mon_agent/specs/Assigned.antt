-- What a Set is answered, and what it does to the device (RFC 3416 section 4.2.5).
use Rattle.std.specs.Prelude.{◌≡◌, ℕ, ℤ, pos, List, length, All, ◌⊎◌}
use Rattle.mon_pdu.specs.declared.message.Message.{Message}
use Rattle.mon_pdu.specs.Grammar.{bindings_of}
use Rattle.mon_mib.specs.declared.change.Change.{Change}
use Rattle.mon_mib.specs.declared.commit.Commit.{Commit}
use Rattle.mon_mib.specs.declared.commit.Commit.TheVariants.{Done, CommitFailed, UndoFailed}
use Rattle.mon_mib.specs.declared.set_status.SetStatus.{SetStatus}
use Rattle.mon_mib.specs.declared.planned_change.PlannedChange.{PlannedChange}
use Rattle.mon_mib.specs.Assignment.{IsSetPlan}
use Rattle.mon_mib.specs.Commit.{IsCommitted, failures_by_then}
use Rattle.mon_mib.specs.Held.{Held}
use Rattle.mon_mib.specs.Known.{Known}
use Rattle.mon_mib.specs.Refusal.{IsAccepted, IsFirstRefused}
use Rattle.mon_mib.specs.SetStatus.{status_number}
use Rattle.mon_agent.specs.Reply.{response, IsWithinLimit, IsAboveLimit}

-- the response to a Set with the variable bindings of the Set itself
abbrev pub returned : Message → ℤ → ℤ → Message
returned m status index = response m status index (bindings_of m.body)

-- the response by whose size a Set is judged before anything is assigned: its error-index is the
-- number of variable bindings
abbrev pub greatest : Message → Message
greatest m = returned m (pos 0) (pos (length (bindings_of m.body)))

-- commitFailed is 14, undoFailed is 15 (RFC 3416 section 3)
abbrev pub status_of : Commit → ℤ
status_of Done = pos 0
status_of (CommitFailed failed) = pos 14
status_of (UndoFailed failed standing) = pos 15

-- the number of the variable binding that the error-index names; none after undoFailed
abbrev pub place_of : Commit → ℕ
place_of Done = 0
place_of (CommitFailed failed) = failed
place_of (UndoFailed failed standing) = 0

-- how devices of one kind hold, fail and refuse
module _ {D : Type 0} (held : D → Held) (failed : D → ℕ) (refuses : D → Change → Type 0) where
  -- above the limit: nothing is assigned
  pub record IsOversized (k : Known) (before after : D) (m reply : Message) : Type 0 where
    pub above : IsAboveLimit k.settings.max_message_size (greatest m)
    pub stays : after ≡ before
    pub is : reply ≡ greatest m

  -- a variable binding is refused: nothing is assigned, and the first that is refused is named
  pub record IsSetRefused (k : Known) (sees : List ℕ → Type 0) (before after : D)
      (m reply : Message) : Type 0 where
    pub status : SetStatus
    pub index : ℕ
    pub fits : IsWithinLimit k.settings.max_message_size (greatest m)
    pub refused : IsFirstRefused k sees (bindings_of m.body) status index
    pub stays : after ≡ before
    pub is : reply ≡ returned m (status_number status) (pos index)

  -- no variable binding is refused: all are assigned, or an assignment failed and those before it
  -- were undone
  pub record IsAssigned (k : Known) (sees : List ℕ → Type 0) (before after : D) (m reply : Message)
      : Type 0 where
    pub steps : List PlannedChange
    pub outcome : Commit
    pub fits : IsWithinLimit k.settings.max_message_size (greatest m)
    pub accepted : All (IsAccepted k sees) (bindings_of m.body)
    pub plan : IsSetPlan k (bindings_of m.body) steps
    pub committed : IsCommitted held refuses steps (held before) (held after) outcome
    pub failures : failed after ≡ failures_by_then outcome (failed before)
    pub is : reply ≡ returned m (status_of outcome) (pos (place_of outcome))

  -- the response to a Set that is granted in a view, and the device then
  abbrev pub IsSet : Known → (List ℕ → Type 0) → D → D → Message → Message → Type 0
  IsSet k sees before after m reply =
      IsOversized k before after m reply ⊎ (IsSetRefused k sees before after m reply
      ⊎ IsAssigned k sees before after m reply)
