-- Events that add nothing, and what they leave.
use Rattle.std.proofs.Common.{◌≡◌, ℕ, Bool, true, false, [], Option, Some, Ok, refl, sym, ap, ◌∙◌}
use Rattle.std.specs.Prelude.{◌&&◌}
use Rattle.std.specs.FinSet as set
use Rattle.mon_window.specs.Window.{Samples}
use Rattle.mon_window.proofs.Promised.{union_none}
use Rattle.mon_board.specs.Board.{is_marked, window_of}
use Rattle.mon_board.specs.Owed.{kept_marks}
use Rattle.mon_board.specs.Windows.{IsWhole, joined, kept_by}
use Rattle.mon_board.specs.Watch.{Watch}
use Rattle.mon_poller.specs.Polls.{Polls}
use Rattle.mon_station.specs.declared.fault.StationFault.{StationFault}
use Rattle.mon_station.specs.ReadEvent.{ReadEvent, FromPeer}
use Rattle.mon_station.specs.State.{State, IsAfter, known_after, known_of, marks_after, next_serial, setting_of}
use Rattle.mon_station.specs.Step.{IsSettled, left_polls}
use Rattle.mon_station.specs.Verdict.{added, polls_after}

pub kept_own : (m a : Bool) → (m ≡ true → a ≡ true) → m ≡ ((m && a) && a)
kept_own true a h = sym (h refl) ∙ twice a
  where
    twice : (b : Bool) → b ≡ (b && b)
    twice true = refl
    twice false = refl
kept_own false a h = refl

-- windows to which nothing is added
pub nothing_joined : (watch : Watch) (windows : ℕ → Samples) (i : ℕ) → IsWhole watch windows i → windows i ≡ joined watch windows [] i
nothing_joined watch windows i whole = sym whole ∙ ap (kept_by watch i) (sym (union_none (windows i)))

-- an event with this answer adds no samples, and changes no serial, known incarnation or mark
pub record IsQuiet (s : State) (e : ReadEvent) (answer : Option StationFault) : Type 0 where
  pub nothing : added (setting_of s) s.poller.polls e answer ≡ []
  pub serial : s.serial ≡ next_serial s e answer
  pub known : (y : ℕ) → known_of s y ≡ known_after e answer (known_of s) y
  pub marks : (k : ℕ) → marks_after (setting_of s) (known_of s) e answer (window_of s.board) (window_of s.board) (is_marked s.board) k ≡ kept_marks (window_of s.board) (window_of s.board) (is_marked s.board k)

pub quiet_fault : (s : State) (e : ReadEvent) (f : StationFault) → IsQuiet s e (Some f)
quiet_fault s (FromPeer (Ok said)) f = record { nothing = refl; serial = refl; known = λ y. refl; marks = λ k. refl }
quiet_fault s e f = record { nothing = refl; serial = refl; known = λ y. refl; marks = λ k. refl }

-- what such an event leaves: everything except the polls
pub quiet_after : (s : State) → IsSettled s → (e : ReadEvent) (answer : Option StationFault) → IsQuiet s e answer → (polls : Polls) → polls ≡ polls_after (setting_of s) e answer s.poller.polls → IsAfter e answer s (left_polls s polls)
quiet_after s settled e answer quiet polls is = record {
  setting = refl;
  windows = λ i. nothing_joined s.board.watch (window_of s.board) i (settled.whole i) ∙ ap (λ ps. joined s.board.watch (window_of s.board) ps i) (sym quiet.nothing);
  polls = is;
  incarnation = refl;
  serial = quiet.serial;
  known = quiet.known;
  marks = λ k i x. kept_own (is_marked s.board k i x) (set.contains (window_of s.board i) x) (settled.entries k i x) ∙ (λ j. sym (quiet.marks k) j i x);
}
