-- Responses to a Set with an error are written no longer than the one by which its size was judged.
use Rattle.std.proofs.Common.{◌≡◌, ℕ, ◌<◌, ◌≤◌, ◌^◌, ℤ, pos, List, ◌∷◌, ◌++◌, length, refl, ap, subst, ◌∙◌, arith, w32, to_z, of_z}
use Rattle.std.specs.Prelude.{FitsSigned, All}
use Rattle.std.proofs.lemmas.Int.{to_z-of_z}
use Rattle.std.proofs.lemmas.List.Elements.{All-contains, Contains-append_right}
use Rattle.mon_pdu.specs.declared.message.Message.{Message}
use Rattle.mon_pdu.specs.declared.message.Pdu.{Pdu}
use Rattle.mon_pdu.specs.declared.message.PduKind.TheVariants.{Response}
use Rattle.mon_pdu.specs.Grammar.{bindings_of, first_of}
use Rattle.mon_pdu.specs.Sizes.{with_error}
use Rattle.mon_pdu.specs.Writing.{HasLength, written_message}
use Rattle.mon_mib.specs.declared.change.Change.{Change}
use Rattle.mon_mib.specs.declared.commit.Commit.{Commit}
use Rattle.mon_mib.specs.declared.commit.Commit.TheVariants.{Done, CommitFailed, UndoFailed}
use Rattle.mon_mib.specs.declared.set_status.SetStatus.{SetStatus}
use Rattle.mon_mib.specs.declared.set_status.SetStatus.TheVariants.{NoAccess, WrongType, WrongLength, WrongValue, NoCreation, NotWritable}
use Rattle.mon_mib.specs.declared.planned_change.PlannedChange.{PlannedChange}
use Rattle.mon_mib.specs.Commit.{IsCommitted, IsFailedAfter}
use Rattle.mon_mib.specs.Held.{Held}
use Rattle.mon_mib.specs.SetStatus.{status_number}
use Rattle.mon_agent.specs.Assigned.{greatest, returned, status_of, place_of}
use Rattle.mon_agent.proofs.Sent.{longer}

-- the response as a PDU
abbrev pdu_of : Message → Pdu
pdu_of m = record { kind = Response; request_id = first_of m.body; error_status = pos 0; error_index = pos 0; bindings = bindings_of m.body }

-- what has a length of 4 octets at most can be written
pub has_length : (m : Message) (n : ℕ) → length (written_message m) ≤ n → n < 2 ^ 32 → HasLength m
has_length m n le lt = omega (arith, longer m, le, lt)

-- signed numbers that are passed to a call are read through their bits
pub passed_on : (m reply : Message) (status index s : ℤ) (place : ℕ) → FitsSigned w32 s → place < 2 ^ 31
    → reply ≡ returned m (to_z w32 (of_z w32 status)) (to_z w32 (of_z w32 index)) → status ≡ s → index ≡ pos place
    → reply ≡ returned m s (pos place)
passed_on m reply status index s place one two is status_is index_is =
    let fits : FitsSigned w32 (pos place) = record { sfits = omega (arith, two) } in
    is ∙ ((λ i. returned m (to_z w32 (of_z w32 (status_is i))) (to_z w32 (of_z w32 (index_is i))))
    ∙ (λ i. returned m (to_z-of_z w32 s one i) (to_z-of_z w32 (pos place) fits i)))

-- the response by whose size a Set is judged
pub greatest_is : (m reply : Message) (count : ℤ) → length (bindings_of m.body) < 2 ^ 31 → count ≡ pos (length (bindings_of m.body))
    → reply ≡ returned m (to_z w32 (of_z w32 (pos 0))) (to_z w32 (of_z w32 count)) → reply ≡ greatest m
greatest_is m reply count few count_is is =
    passed_on m reply (pos 0) count (pos 0) (length (bindings_of m.body)) (record { sfits = omega arith }) few is refl count_is

pub status_fits : (outcome : Commit) → FitsSigned w32 (status_of outcome)
status_fits Done = record { sfits = omega arith }
status_fits (CommitFailed failed) = record { sfits = omega arith }
status_fits (UndoFailed failed standing) = record { sfits = omega arith }

pub refusal_fits : (status : SetStatus) → FitsSigned w32 (status_number status)
refusal_fits NoAccess = record { sfits = omega arith }
refusal_fits WrongType = record { sfits = omega arith }
refusal_fits WrongLength = record { sfits = omega arith }
refusal_fits WrongValue = record { sfits = omega arith }
refusal_fits NoCreation = record { sfits = omega arith }
refusal_fits NotWritable = record { sfits = omega arith }

module _ (shrinks : (community : List ℕ) (p : Pdu) (status index other most : ℕ) → status < 128 → index ≤ most
    → length (written_message (with_error community p (pos status) (pos index))) ≤ length (written_message (with_error community p (pos other) (pos most))))
    (m : Message) (is : m ≡ greatest m) where
  no_longer : (status index : ℕ) → status < 128 → index ≤ length (bindings_of m.body)
      → length (written_message (returned m (pos status) (pos index))) ≤ length (written_message m)
  no_longer status index small le =
      omega (arith, shrinks m.community (pdu_of m) status index 0 (length (bindings_of m.body)) small le, ap (λ (r : Message). length (written_message r)) is)

  pub refused_shorter : (status : SetStatus) (index : ℕ) → index ≤ length (bindings_of m.body)
      → length (written_message (returned m (status_number status) (pos index))) ≤ length (written_message m)
  refused_shorter NoAccess index le = no_longer 6 index (omega arith) le
  refused_shorter WrongType index le = no_longer 7 index (omega arith) le
  refused_shorter WrongLength index le = no_longer 8 index (omega arith) le
  refused_shorter WrongValue index le = no_longer 10 index (omega arith) le
  refused_shorter NoCreation index le = no_longer 11 index (omega arith) le
  refused_shorter NotWritable index le = no_longer 17 index (omega arith) le

  pub outcome_shorter : (outcome : Commit) → place_of outcome ≤ length (bindings_of m.body)
      → length (written_message (returned m (status_of outcome) (pos (place_of outcome)))) ≤ length (written_message m)
  outcome_shorter Done le = no_longer 0 0 (omega arith) le
  outcome_shorter (CommitFailed failed) le = no_longer 14 failed (omega arith) le
  outcome_shorter (UndoFailed failed standing) le = no_longer 15 0 (omega arith) le

-- the assignment that failed is one of the plan's
module _ {D : Type 0} (held : D → Held) (refuses : D → Change → Type 0) where
  number_within : (count : ℕ) (done steps : List PlannedChange) (before : Held) (number : ℕ) → All (λ (s : PlannedChange). s.index ≤ count) steps
      → IsFailedAfter held refuses done steps before number → number ≤ count
  number_within count done steps before number all stopped =
      let numbers = subst (All (λ (s : PlannedChange). s.index ≤ count)) stopped.order all in
      let one : stopped.failed.index ≤ count = All-contains (λ (s : PlannedChange). s.index ≤ count) (done ++ stopped.failed ∷ stopped.others) stopped.failed numbers
      (Contains-append_right done (stopped.failed ∷ stopped.others) stopped.failed (0, omega arith, refl)) in
      omega (arith, one, stopped.is)

  pub place_within : (count : ℕ) (steps : List PlannedChange) (before after : Held) (outcome : Commit) → All (λ (s : PlannedChange). s.index ≤ count) steps
      → IsCommitted held refuses steps before after outcome → place_of outcome ≤ count
  place_within count steps before after Done all committed = omega arith
  place_within count steps before after (CommitFailed failed) all committed = number_within count committed.done steps before failed all committed.failed
  place_within count steps before after (UndoFailed failed standing) all committed = omega arith
