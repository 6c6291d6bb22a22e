-- What `healthz` does.
use Rattle.std.specs.Prelude.{◌≡◌, ◌≢◌, ◌⊎◌, ℕ, List, Some, Result, Ok, Err, codes}
use Rattle.std.specs.declared.io.Error.{Error}
use Rattle.std.specs.declared.io.ErrorKind.{ErrorKind}
use Rattle.std.specs.IoError.{error_kind}
use Rattle.std.specs.declared.net.socket_addr.SocketAddr.{SocketAddr}
use Rattle.std.specs.Prelude.{Option}
use Rattle.mon_console.specs.Failure.{IsMemory, IsOfText}
use Rattle.mon_console.specs.Files.{IsPrint}
use Rattle.mon_console.specs.declared.failure.Failure.{Failure}
use Rattle.mon_host.specs.AtHost.{AtHost}
use Rattle.mon_host.specs.Log.{GoesOnBy}
use Rattle.mon_host.specs.Then.{Quietly, Then}
use Rattle.mon_http_client.specs.Request.{get_text}
use Rattle.mon_udp.specs.Addr.{addr_in, addr_of}
use Rattle.mon_udp.specs.declared.addr.Addr.{Addr}
use Rattle.mon_health_commands.specs.Asking.{IsExchange, limit}
use Rattle.mon_health_commands.specs.AtStream.{AtStream}
use Rattle.mon_health_commands.specs.Trouble.{IsTroubled}
use Rattle.mon_health_commands.specs.declared.trouble.Trouble.{Trouble}
use Rattle.mon_health_commands.specs.declared.trouble.Trouble.TheVariants.{Broken, Status}

-- A stream was connected, and of what happened at it this holds.
pub record HappensAt {S : Type 0} (Connected : S → Type 0) (log : S → Option (List AtStream))
    (Holds : List AtStream → Type 0) : Type 0 where
  pub before : S
  pub connected : Connected before
  pub after : S
  pub happened : GoesOnBy Holds (log before) (log after)

-- Stations as the command reaches them. `Reached at seconds Holds` says that a stream was connected
-- to an address within this many seconds and that this holds of what happened at it;
-- `Unreached at seconds kind` that none could be, by an error of this kind.
pub record Stations : Type 1 where
  pub Reached : SocketAddr → ℕ → (List AtStream → Type 0) → Type 0
  pub Unreached : SocketAddr → ℕ → ErrorKind → Type 0

-- the stations that are reached by streams of this kind
abbrev pub stations_by : {S : Type 0} → (Connected : SocketAddr → ℕ → S → Type 0)
    → (Failed : SocketAddr → ℕ → Error → Type 0) → (log : S → Option (List AtStream)) → Stations
stations_by Connected Failed log = record {
  Reached = λ at seconds Holds. HappensAt (Connected at seconds) log Holds;
  Unreached = λ at seconds kind. (error : Error) × Failed at seconds error
      × (error_kind error ≡ kind);
}

-- the address of a station, as a word gives it; or it is none
abbrev pub IsAddress : List ℕ → Result Addr Failure → Type 0
IsAddress word (Ok at) = addr_of word ≡ Some at
IsAddress word (Err failure) = (addr_of word ≡ Option.None)
    × IsOfText word (codes "an address, a.b.c.d:port,") failure

-- what is asked of the station that a word gives: /healthz
abbrev pub request_to : List ℕ → List ℕ
request_to word = get_text word (codes "/healthz")

-- What came of asking the station at an address: no stream could be connected; or what happened at
-- it gave this.
abbrev pub IsOutcome : Stations → (word : List ℕ) → SocketAddr → Result ℕ Trouble → Type 0
IsOutcome stations word at outcome = stations.Reached at limit
    (λ log. IsExchange (request_to word) log outcome)
    ⊎ ((kind : ErrorKind) × stations.Unreached at limit kind × (outcome ≡ Err (Broken kind)))

-- the station at an address answers with status 200; or it does not, which the failure says
abbrev pub IsAsked : Stations → (word : List ℕ) → Addr → Result Unit Failure → Type 0
IsAsked stations word addr (Ok done) = (at : SocketAddr) × (addr_in at ≡ Some addr)
    × IsOutcome stations word at (Ok 200)
IsAsked stations word addr (Err failure) = IsMemory failure
    ⊎ ((at : SocketAddr) × (addr_in at ≡ Some addr)
    × (((trouble : Trouble) × IsOutcome stations word at (Err trouble)
    × IsTroubled word trouble failure)
    ⊎ ((status : ℕ) × (status ≢ 200) × IsOutcome stations word at (Ok status)
    × IsTroubled word (Status status) failure)))

-- The command `healthz`: the station at an address is asked for /healthz, and "healthy" is printed
-- if it answers with status 200.
abbrev pub IsHealthz : Stations → (word : List ℕ) → List AtHost → Result Unit Failure → Type 0
IsHealthz stations word = Then (Quietly (IsAddress word)) (λ at. Then
    (Quietly (IsAsked stations word at))
    (λ done. IsPrint (codes "healthy\n")))
