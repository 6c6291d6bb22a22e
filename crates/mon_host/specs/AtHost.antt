-- What a program asks of its surroundings, and what they give.
use Rattle.std.specs.Prelude.{◌≡◌, ℕ, Bool, List, [], ◌∷◌, IfSome, Option, Result, Ok, Err, String}
use Rattle.std.specs.Prelude.{map, string_bytes}
use Rattle.std.specs.Global.{Global, Vec}
use Rattle.std.specs.declared.time.Instant.{Instant}
use Rattle.std.specs.declared.time.SystemTime.{SystemTime}
use Rattle.mon_host.specs.Reason.{Why, why}
use Rattle.mon_host.specs.declared.host.Part.{Part}
use Rattle.mon_host.specs.declared.level.Level.{Level}
use Rattle.mon_host.specs.declared.reason.Reason.{Reason}

-- An event: a call, with what it was asked and gave, or why it failed. Where octets could not be
-- printed or written, a beginning of them may have been.
pub data AtHost : Type 0 where
  Listed : List (List ℕ) → AtHost
  Unlisted : Why → AtHost
  AtTerminal : Bool → AtHost
  OutputAtTerminal : Bool → AtHost
  Printed : List ℕ → AtHost
  Unprinted : List ℕ → Why → AtHost
  Noted : Level → List ℕ → AtHost
  LevelsShown : AtHost
  InputRead : List ℕ → AtHost
  InputUnread : Why → AtHost
  FileRead : List ℕ → List ℕ → AtHost
  FileUnread : List ℕ → Why → AtHost
  PartRead : List ℕ → Part → List ℕ → AtHost
  PartUnread : List ℕ → Part → Why → AtHost
  Written : List ℕ → List ℕ → AtHost
  Unwritten : List ℕ → List ℕ → Why → AtHost
  Renamed : List ℕ → List ℕ → AtHost
  Unrenamed : List ℕ → List ℕ → Why → AtHost
  Found : List ℕ → Bool → AtHost
  Unfound : List ℕ → Why → AtHost
  FileDated : List ℕ → SystemTime → AtHost
  FileUndated : List ℕ → Why → AtHost
  Permitted : List ℕ → AtHost
  Unpermitted : List ℕ → Why → AtHost
  NodeFound : List ℕ → Option (ℕ × ℕ) → AtHost
  NodeUnfound : List ℕ → Why → AtHost
  Timed : Instant → AtHost
  Untimed : Why → AtHost
  Dated : SystemTime → AtHost
  Undated : Why → AtHost

-- the arguments were listed
abbrev pub listing_arguments : Result (Vec (String Global)) Reason → AtHost
listing_arguments (Ok words) = Listed (map string_bytes words.items)
listing_arguments (Err reason) = Unlisted (why reason)

-- it was said whether standard input is a terminal
abbrev pub looking_at_terminal : Bool → AtHost
looking_at_terminal is = AtTerminal is

-- it was said whether standard output is a terminal
abbrev pub looking_at_output : Bool → AtHost
looking_at_output is = OutputAtTerminal is

-- octets were printed on standard output
abbrev pub printing : List ℕ → Result Unit Reason → AtHost
printing octets (Ok done) = Printed octets
printing octets (Err reason) = Unprinted octets (why reason)

-- standard input was read to its end
abbrev pub reading_input : Result (Vec ℕ) Reason → AtHost
reading_input (Ok octets) = InputRead octets.items
reading_input (Err reason) = InputUnread (why reason)

-- the file at a path was read to its end
abbrev pub reading_file : List ℕ → Result (Vec ℕ) Reason → AtHost
reading_file path (Ok octets) = FileRead path octets.items
reading_file path (Err reason) = FileUnread path (why reason)

-- a part of the file at a path was read
abbrev pub reading_part : List ℕ → Part → Result (Vec ℕ) Reason → AtHost
reading_part path part (Ok octets) = PartRead path part octets.items
reading_part path part (Err reason) = PartUnread path part (why reason)

-- octets were written to the file at a path
abbrev pub writing : List ℕ → List ℕ → Result Unit Reason → AtHost
writing path octets (Ok done) = Written path octets
writing path octets (Err reason) = Unwritten path octets (why reason)

-- the file at a path got another one
abbrev pub renaming : List ℕ → List ℕ → Result Unit Reason → AtHost
renaming path other (Ok done) = Renamed path other
renaming path other (Err reason) = Unrenamed path other (why reason)

-- it was said whether something is at a path
abbrev pub finding : List ℕ → Result Bool Reason → AtHost
finding path (Ok is) = Found path is
finding path (Err reason) = Unfound path (why reason)

-- it was said when the file at a path was changed last
abbrev pub dating_file : List ℕ → Result SystemTime Reason → AtHost
dating_file path (Ok changed) = FileDated path changed
dating_file path (Err reason) = FileUndated path (why reason)

-- all users were permitted to read the file at a path
abbrev pub permitting : List ℕ → Result Unit Reason → AtHost
permitting path (Ok done) = Permitted path
permitting path (Err reason) = Unpermitted path (why reason)

-- it was said which file is at a path, by its device and inode, or that none is
abbrev pub finding_node : List ℕ → Result (Option (ℕ × ℕ)) Reason → AtHost
finding_node path (Ok node) = NodeFound path node
finding_node path (Err reason) = NodeUnfound path (why reason)

-- the time was asked of a clock that never goes back
abbrev pub telling_time : Result Instant Reason → AtHost
telling_time (Ok now) = Timed now
telling_time (Err reason) = Untimed (why reason)

-- the time was asked of the wall clock
abbrev pub telling_date : Result SystemTime Reason → AtHost
telling_date (Ok now) = Dated now
telling_date (Err reason) = Undated (why reason)

-- a text of this level was sent to standard error, whose octets are these if its type states them
abbrev pub IsNoted : Level → Option (List ℕ) → List AtHost → Type 0
IsNoted level text log =
    (octets : List ℕ) × IfSome text (λ t. octets ≡ t) × (log ≡ Noted level octets ∷ [])
