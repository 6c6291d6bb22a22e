-- The states of a station over all its lives, as the clauses of `open` and `step` give them one
-- after another.
use Rattle.std.specs.Prelude.{ℕ, ◌≡◌, List, [], ◌∷◌, Option, Some, None, Result, Ok, Err, map}
use Rattle.mon_board.specs.Board.{is_marked, window_of}
use Rattle.mon_board.specs.Instance.{instances_of}
use Rattle.mon_board.specs.declared.instance.Instance.{Instance}
use Rattle.mon_saved.specs.Image.{SpellsImage}
use Rattle.mon_saved.specs.Written.{image_of}
use Rattle.mon_station.specs.declared.fault.StationFault.{StationFault}
use Rattle.mon_station.specs.ReadEvent.{ReadEvent}
use Rattle.mon_station.specs.ReadEvent.{Save}
use Rattle.mon_station.specs.Saved.{IsBegun, saved_octets}
use Rattle.mon_station.specs.State.{State, IsHandled, known_of, setting_of}
use Rattle.mon_station.specs.Taken.{Entry, Restart, Answered, Origin, Nothing, Saved, Other}
use Rattle.mon_station.specs.Taken.{at_place}
use Rattle.mon_station.specs.Verdict.{Setting}
use Rattle.mon_window.specs.Window.{In}

-- the state after a list of entries, each with the state that it left, the newest first
abbrev pub last_state : List (Entry × State) → Option State
last_state [] = None
last_state ((entry, s) ∷ past) = Some s

-- a state in front of others, where there is one
abbrev pub in_front : Option State → List State → List State
in_front None states = states
in_front (Some s) states = s ∷ states

-- the states that were saved, the last one first: each with which a life begins, and each that a
-- save found
abbrev pub saved_states : List (Entry × State) → List State
saved_states [] = []
saved_states ((Restart origin w, s) ∷ past) = s ∷ saved_states past
saved_states ((Answered Save answer, s) ∷ past) = in_front (last_state past) (saved_states past)
saved_states ((Answered e answer, s) ∷ past) = saved_states past

-- a life of this setting begins from the image of a saved state, of the same instances
pub record IsReopened (w : Setting) (old new : State) : Type 0 where
  pub instances : instances_of w.watch.instances ≡ instances_of old.board.watch.instances
  pub spells : SpellsImage (saved_octets old) (instances_of old.board.watch.instances)
      (image_of old.board old.incarnation)
  pub begun : IsBegun w (Some (saved_octets old)) new

-- a life of this setting begins from the image of the state, if there is one
abbrev pub Reopens : Setting → Option State → State → Type 0
Reopens w None new = ⊥
Reopens w (Some old) new = IsReopened w old new

-- a life of this setting begins from there
abbrev pub BeginsFrom : List State → Origin → Setting → State → Type 0
BeginsFrom saved Nothing w s = IsBegun w None s
BeginsFrom saved (Saved later) w s = Reopens w (at_place later saved) s
BeginsFrom saved (Other image) w s = (octets : List ℕ) × SpellsImage octets
    (instances_of w.watch.instances) image × IsBegun w (Some octets) s

-- an event is answered in the state that there is
abbrev pub HandledIn : Option State → ReadEvent → Option StationFault → State → Type 0
HandledIn None e answer new = ⊥
HandledIn (Some old) e answer new = IsHandled e answer old new

-- each state follows from the one before it: a life begins as `open` says, and an event is answered
-- as `step` says
abbrev pub IsLived : List (Entry × State) → Type 0
IsLived [] = Unit {0}
IsLived ((Restart origin w, s) ∷ past) = BeginsFrom (saved_states past) origin w s × IsLived past
IsLived ((Answered e answer, s) ∷ past) = HandledIn (last_state past) e answer s × IsLived past

-- the image of this saved state, if there is one, is these octets, and of these instances
abbrev pub IsImageOf : Option State → List ℕ → List Instance → Type 0
IsImageOf None octets instances = ⊥
IsImageOf (Some old) octets instances =
    (saved_octets old ≡ octets) × (instances ≡ instances_of old.board.watch.instances)
    × SpellsImage octets (instances_of old.board.watch.instances)
    (image_of old.board old.incarnation)

-- From where a life of these instances begins that found this body, after these saves: from nothing
-- where none was found, from a save that wrote it, or from an image
abbrev pub IsOrigin : List State → Option (List ℕ) → List Instance → Origin → Type 0
IsOrigin saved None instances Nothing = Unit {0}
IsOrigin saved (Some octets) instances (Saved later) = IsImageOf (at_place later saved) octets
    instances
IsOrigin saved (Some octets) instances (Other image) = SpellsImage octets instances image
IsOrigin saved body instances origin = ⊥

-- the answer of a call as an entry has it: a fault, or none
abbrev pub answer_in : {A F : Type 0} → Result A F → Option F
answer_in (Ok x) = None
answer_in (Err fault) = Some fault

-- what a refused event leaves as it was: of each instance the window, the marks on what is in it
-- and all that was taken; the known incarnations, the incarnation, and the serial of the next
-- offer. It may end an open poll.
pub record IsLeftAlone (old new : State) : Type 0 where
  pub setting : setting_of new ≡ setting_of old
  pub windows : (i : ℕ) → window_of new.board i ≡ window_of old.board i
  pub marks : (k i s : ℕ) → In s (window_of old.board i) → is_marked new.board k i s
      ≡ is_marked old.board k i s
  pub known : (y : ℕ) → known_of new y ≡ known_of old y
  pub incarnation : new.incarnation ≡ old.incarnation
  pub serial : new.serial ≡ old.serial

-- the entries without the states that they left
abbrev pub entries_of : List (Entry × State) → List Entry
entries_of history = map (λ x. x.0) history
