-- What claims of a peer have said, and what of a station's windows is owed to it by that.
use Rattle.std.specs.Prelude.{ℕ, ◌≡◌, Bool, true, List, [], ◌∷◌, ◌==◌, ◌&&◌, not, if◌then◌else◌}
use Rattle.std.specs.Prelude.{Option, Some, None}
use Rattle.std.specs.FinSet as set
use Rattle.std.specs.List.{AllByRecursion, list_any}
use Rattle.std.specs.Ordering.{nat_cmp}
use Rattle.mon_window.specs.Window.{Samples, In}
use Rattle.mon_board.specs.Windows.{Has}
use Rattle.mon_exchange.specs.Peers.{latest}

-- what a claim says in a watch: the station, in this incarnation, has taken these samples of the
-- instance of this number
pub record Heard : Type 0 where
  pub station : ℕ
  pub incarnation : ℕ
  pub instance : ℕ
  pub samples : List ℕ

-- the samples of a claim as a set
abbrev pub said_of : Heard → Samples
said_of c = set.from_list {R = nat_cmp} c.samples

-- the greatest incarnation that claims of a station name; the newest claim is first
abbrev pub latest_heard : ℕ → List Heard → Option ℕ
latest_heard y [] = None
latest_heard y (c ∷ claims) = if c.station == y then Some (latest (latest_heard y claims)
    c.incarnation) else latest_heard y claims

-- whether a claim of this station in this incarnation has said a sample of an instance
abbrev pub has_said : ℕ → ℕ → ℕ → ℕ → Heard → Bool
has_said y incarnation i s c = (c.station == y) && ((c.incarnation == incarnation)
    && ((i == c.instance) && set.contains (said_of c) s))

-- whether no claim of the station, in the incarnation that is known, has said it; all is owed where
-- none is known
abbrev pub is_owed_at : ℕ → List Heard → ℕ → ℕ → Option ℕ → Bool
is_owed_at y claims i s None = true
is_owed_at y claims i s (Some incarnation) = not (list_any (has_said y incarnation i s) claims)

-- whether no claim of the station, in its latest incarnation, has said a sample of an instance
abbrev pub is_owed : ℕ → List Heard → ℕ → ℕ → Bool
is_owed y claims i s = is_owed_at y claims i s (latest_heard y claims)

-- the samples of each claim are among these pairs
abbrev pub WereTaken : List (ℕ × ℕ) → List Heard → Type 0
WereTaken pairs claims = AllByRecursion (λ c. (s : ℕ) → In s (said_of c) → Has pairs c.instance s)
    claims

-- the known incarnation and the marks for a station say, of what is in the windows, what its claims
-- have said
pub record TellsDebts (y : ℕ) (windows : ℕ → Samples) (claims : List Heard) (known : Option ℕ)
    (marked : ℕ → ℕ → Bool) : Type 0 where
  pub known_is : known ≡ latest_heard y claims
  pub marked_is : (i s : ℕ) → In s (windows i) → marked i s ≡ not (is_owed y claims i s)
