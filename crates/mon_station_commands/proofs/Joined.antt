-- What a station does, step after step.
use Rattle.std.proofs.Common.{◌≡◌, ◌∙◌, ◌++◌, ◌∷◌, Bool, List, ℕ, [], ap, length, option_map, refl, string_bytes, subst, sym, inl, inr}
use Rattle.std.specs.Prelude.{IfOk, IsErrAnd, Option, Some, None, Result, Ok, Err, String}
use Rattle.std.specs.Global.{Global}
use Rattle.std.specs.declared.io.Error.{Error}
use Rattle.std.specs.declared.io.ErrorKind.TheVariants as kinds
use Rattle.std.specs.declared.net.socket_addr.SocketAddr.{SocketAddr}
use Rattle.std.specs.declared.time.Instant.{Instant}
use Rattle.std.specs.IoError.{error_kind}
use Rattle.std.specs.Result.{result_ok}
use Rattle.std.specs.declared.alloc.AllocError.{AllocError}
use Rattle.mon_cli.specs.declared.meaning.StationArgs.{StationArgs}
use Rattle.mon_console.specs.Failure.{HasLine, IsMemory}
use Rattle.mon_console.specs.declared.failure.Failure.{Failure}
use Rattle.mon_console.specs.declared.printing.Printing.{Printing}
use Rattle.mon_disk.specs.declared.disk.DiskError.{DiskError}
use Rattle.mon_disk.specs.declared.open_fault.OpenFault.{OpenFault}
use Rattle.mon_host.specs.declared.level.Level.TheVariants as level
use Rattle.mon_host.specs.AtHost.{AtHost, IsNoted, Noted}
use Rattle.mon_host.specs.Log.{GoesOnBy}
use Rattle.mon_host.specs.Then.{Quietly, Then}
use Rattle.mon_host.proofs.Promised.{goes_on, quietly, stays, then_fails, then_follows, weaker}
use Rattle.mon_settings.specs.declared.station.StationSettings.{StationSettings}
use Rattle.mon_station.specs.State.{State}
use Rattle.mon_station_commands.specs.Opening.{IsOfFile, IsOpenedOr}
use Rattle.mon_station_commands.specs.Pace.{IsTime}
use Rattle.mon_station_commands.specs.Places.{AreSavedIf, IsFile, IsHad, IsLookedAt, IsNoSocket, IsPlace, IsPlaceAt, IsShownOpened, IsSocket, IsSocketOr, IsUnseenOpened, IsWithout, MayBeThere}
use Rattle.mon_station_commands.specs.Rounds.{IsRun, nothing_kept}
use Rattle.mon_station_commands.specs.Station.{IsRunOf, IsSeen, IsStarted, IsUnseen, IsWebSaid, IsWhole}
use Rattle.mon_station_commands.specs.Steps.{SomeOr, only}
use Rattle.mon_file_commands.specs.Line.{AreNoted}
use Rattle.mon_station_commands.specs.Telling.{IsOpening, http_line, short_lines_of}
use Rattle.mon_station_commands.specs.declared.live.Kept.{Kept}
use Rattle.mon_station_commands.specs.declared.live.Paths.{Paths}
use Rattle.mon_station_commands.specs.declared.live.Reports.{Reports}
use Rattle.mon_udp.specs.declared.addr.Addr.{Addr}

-- memory ran out, which is a reason for a socket too
pub memory_is : (at : Addr) (failure : Failure) → IsMemory failure → IsNoSocket at failure
memory_is at failure is = (kinds.OutOfMemory, is)

-- a call for a socket that failed did so for an error
pub unhad : {T : Type 0} → (at : Addr) (given : Result T Error) (failure : Failure) → IsHad at given (Err failure) → IsNoSocket at failure
unhad at (Ok value) failure is = absurd (let never : ⊥ = cc in never)
unhad at (Err error) failure is = (error_kind error, is)

-- a file that could not be opened wasn't for a fault
pub unopened : {T : Type 0} → (path : List ℕ) (given : Result T OpenFault) (failure : Failure) → IsOpenedOr path given (Err failure)
    → (fault : OpenFault) × IsOfFile path fault failure
unopened path (Ok value) failure is = absurd (let never : ⊥ = cc in never)
unopened path (Err fault) failure is = (fault, is)

-- a result that failed by a call for a socket did so for an error
pub unhad_of : {T S : Type 0} → (at : Addr) (given : Result T Error) (failure : Failure) (r : Result S Failure) → IsErrAnd r (λ f. f ≡ failure) → IsHad at given (Err failure)
    → SomeOr (IsNoSocket at) r
unhad_of at given failure (Ok value) is why = tt
unhad_of at given failure (Err other) is why = subst (λ (f : Failure). IsNoSocket at f) (sym is) (unhad at given failure why)

pub memory_of : {S : Type 0} → (at : Addr) (r : Result S Failure) → IsErrAnd r IsMemory → SomeOr (IsNoSocket at) r
memory_of at (Ok value) is = tt
memory_of at (Err failure) is = memory_is at failure is

-- a line that was made, or no memory for it
pub has_line : (made : Result (String Global) AllocError) (text : List ℕ) (more : Option (String Global)) → IfOk made (λ t. string_bytes t ≡ text) → more ≡ result_ok made
    → HasLine text more
has_line (Ok t) text more is same = inl (ap (λ m. option_map string_bytes m) same ∙ ap Some is)
has_line (Err e) text more is same = inr same

-- the file of a station that could be opened, and its line
pub file_opened : {T : Type 0} → (s : StationSettings) (path : List ℕ) (file : T) (size : Result ℕ DiskError) (t0 t1 : Option (List AtHost)) → path ≡ string_bytes s.file
    → GoesOnBy (AreNoted (short_lines_of path size)) t0 t1 → GoesOnBy (λ log. IsFile s log (let r : Result T Failure = Ok file in r)) t0 t1
file_opened {T} s path file size t0 t1 is noted =
    weaker (AreNoted (short_lines_of (string_bytes s.file) size)) (λ log. IsFile s log (let r : Result T Failure = Ok file in r)) t0 t1 (λ log lines. (size, lines))
    (subst (λ (p : List ℕ). GoesOnBy (AreNoted (short_lines_of p size)) t0 t1) is noted)

-- the file of a station that could not be opened
pub file_unopened : {T S : Type 0} → (s : StationSettings) (path : List ℕ) (given : Result S OpenFault) (failure : Failure) (r : Result T Failure) (t : Option (List AtHost))
    → path ≡ string_bytes s.file → r ≡ Err failure → IsOpenedOr path given (Err failure) → GoesOnBy (λ log. IsFile s log r) t t
file_unopened {T} s path given failure r t same is why =
    subst (λ (e : Result T Failure). GoesOnBy (λ log. IsFile s log e) t t) (sym is)
    record { more = []; holds = (refl, subst (λ (p : List ℕ). (fault : OpenFault) × IsOfFile p fault failure) same (unopened path given failure why)); on = stays t }

-- a file was looked for, and read if it may be there
pub looked : (s : StationSettings) (there : Bool) (r : Result Unit Failure) (t0 t1 t2 : Option (List AtHost)) → GoesOnBy (λ log. MayBeThere (string_bytes s.file) log there) t0 t1
    → GoesOnBy (λ log. AreSavedIf there s log r) t1 t2 → GoesOnBy (λ log. IsLookedAt s log r) t0 t2
looked s there r t0 t1 t2 first second = record {
  more = first.more ++ second.more;
  holds = record { there = there; begin = first.more; asked = first.holds; rest = second.more; saved = second.holds; log_is = refl };
  on = goes_on first.more second.more t0 t1 t2 first.on second.on;
}

module _ (s : StationSettings) where
  -- a socket that was had
  had : {T : Type 0} → (given : Result T Error) (value : T) (log : List AtHost) → IsSocketOr s given log (Ok value) → log ≡ []
  had (Ok other) value log is = is.0
  had (Err error) value log is = absurd is

  not_had : {T : Type 0} → (given : Result T Error) (failure : Failure) (log : List AtHost) → IsSocketOr s given log (Err failure) → (error : Error) × IsWithout s error log failure
  not_had (Ok value) failure log is = absurd (let never : ⊥ = cc in never)
  not_had (Err error) failure log is = (error, is)

  opened : {T : Type 0} → (given : Result T Error) (value : T) (t0 t1 : Option (List AtHost)) → GoesOnBy (λ log. IsSocketOr s given log (Ok value)) t0 t1
      → GoesOnBy (λ log. IsSocket s log (let r : Result Unit Failure = Ok tt in r)) t0 t1
  opened given value t0 t1 = weaker (λ log. IsSocketOr s given log (Ok value)) (λ log. IsSocket s log (let r : Result Unit Failure = Ok tt in r)) t0 t1 (had given value)

  not_opened : {T : Type 0} → (given : Result T Error) (failure : Failure) (t0 t1 : Option (List AtHost)) → GoesOnBy (λ log. IsSocketOr s given log (let r : Result T Failure = Err failure in r)) t0 t1
      → GoesOnBy (λ log. IsSocket s log (let r : Result Unit Failure = Err failure in r)) t0 t1
  not_opened {T} given failure t0 t1 = weaker (λ log. IsSocketOr s given log (let r : Result T Failure = Err failure in r)) (λ log. IsSocket s log (let r : Result Unit Failure = Err failure in r)) t0 t1
      (not_had given failure)

  placed : (address : Result SocketAddr Error) (r : Result SocketAddr Failure) (t0 t1 : Option (List AtHost)) → GoesOnBy (λ log. IsPlaceAt address s log r) t0 t1
      → GoesOnBy (λ log. IsPlace s log r) t0 t1
  placed address r t0 t1 = weaker (λ log. IsPlaceAt address s log r) (λ log. IsPlace s log r) t0 t1 (λ log is. (address, is))

  -- no socket, so no station
  pub no_socket : {T S : Type 0} → (given : Result S Error) (at : T → SocketAddr) (failure : Failure) (r : Result T Failure) (t0 t1 : Option (List AtHost)) → r ≡ Err failure
      → GoesOnBy (λ log. IsSocketOr s given log (let e : Result S Failure = Err failure in e)) t0 t1 → GoesOnBy (λ log. IsUnseenOpened s log (only at r)) t0 t1
  no_socket {T} given at failure r t0 t1 is socket =
      subst (λ (e : Result T Failure). GoesOnBy (λ log. IsUnseenOpened s log (only at e)) t0 t1) (sym is)
      (then_fails (IsSocket s) (λ (u : Unit {0}). IsPlace s) failure t0 t1 (not_opened given failure t0 t1 socket))

  -- a socket, and then the rest
  pub a_place : {S : Type 0} → (given : Result S Error) (socket : S) (address : Result SocketAddr Error) (r : Result SocketAddr Failure) (t0 t1 t2 : Option (List AtHost))
      → GoesOnBy (λ log. IsSocketOr s given log (Ok socket)) t0 t1 → GoesOnBy (λ log. IsPlaceAt address s log r) t1 t2 → GoesOnBy (λ log. IsUnseenOpened s log r) t0 t2
  a_place given socket address r t0 t1 t2 first second =
      then_follows (IsSocket s) (λ (u : Unit {0}). IsPlace s) (Ok tt) r t0 t1 t2 (opened given socket t0 t1 first) (placed address r t1 t2 second)

  pub no_place : {T S : Type 0} → (given : Result S Error) (socket : S) (address : Result SocketAddr Error) (at : T → SocketAddr) (failure : Failure) (r : Result T Failure)
      (t0 t1 t2 : Option (List AtHost)) → r ≡ Err failure → GoesOnBy (λ log. IsSocketOr s given log (Ok socket)) t0 t1 → GoesOnBy (λ log. IsPlaceAt address s log (Err failure)) t1 t2
      → GoesOnBy (λ log. IsUnseenOpened s log (only at r)) t0 t2
  no_place {T} given socket address at failure r t0 t1 t2 is first second =
      subst (λ (e : Result T Failure). GoesOnBy (λ log. IsUnseenOpened s log (only at e)) t0 t2) (sym is) (a_place given socket address (Err failure) t0 t1 t2 first second)

  module _ (http_at : Addr) where
    abbrev Both : Type 0
    Both = SocketAddr × SocketAddr

    abbrev After : SocketAddr → List AtHost → Result Both Failure → Type 0
    After web = Then (IsPlace s) (λ (at : SocketAddr). Quietly (λ (result : Result Both Failure). result ≡ Ok (at, web)))

    abbrev Rest : Unit {0} → List AtHost → Result Both Failure → Type 0
    Rest u = Then (Quietly (SomeOr (IsNoSocket http_at))) After

    -- no socket, so no station
    pub no_socket_shown : {T S : Type 0} → (given : Result S Error) (at : T → Both) (failure : Failure) (r : Result T Failure) (t0 t1 : Option (List AtHost)) → r ≡ Err failure
        → GoesOnBy (λ log. IsSocketOr s given log (let e : Result S Failure = Err failure in e)) t0 t1 → GoesOnBy (λ log. IsShownOpened s http_at log (only at r)) t0 t1
    no_socket_shown {T} given at failure r t0 t1 is socket =
        subst (λ (e : Result T Failure). GoesOnBy (λ log. IsShownOpened s http_at log (only at e)) t0 t1) (sym is)
        (then_fails (IsSocket s) Rest failure t0 t1 (not_opened given failure t0 t1 socket))

    -- no listener
    pub no_web : {T S : Type 0} → (given : Result S Error) (socket : S) (at : T → Both) (failure : Failure) (r : Result T Failure) (t0 t1 : Option (List AtHost)) → r ≡ Err failure
        → GoesOnBy (λ log. IsSocketOr s given log (Ok socket)) t0 t1 → IsNoSocket http_at failure → GoesOnBy (λ log. IsShownOpened s http_at log (only at r)) t0 t1
    no_web {T} given socket at failure r t0 t1 is first why =
        subst (λ (e : Result T Failure). GoesOnBy (λ log. IsShownOpened s http_at log (only at e)) t0 t1) (sym is)
        (then_follows (IsSocket s) Rest (Ok tt) (Err failure) t0 t1 t1 (opened given socket t0 t1 first)
        (then_fails (Quietly (SomeOr (IsNoSocket http_at))) After failure t1 t1 (quietly {A = SocketAddr} (SomeOr (IsNoSocket http_at)) (Err failure) t1 why)))

    rest_is : {S : Type 0} → (given : Result S Error) (socket : S) (web : SocketAddr) (r : Result Both Failure) (t0 t1 t2 : Option (List AtHost))
        → GoesOnBy (λ log. IsSocketOr s given log (Ok socket)) t0 t1 → GoesOnBy (λ log. After web log r) t1 t2 → GoesOnBy (λ log. IsShownOpened s http_at log r) t0 t2
    rest_is given socket web r t0 t1 t2 first second =
        then_follows (IsSocket s) Rest (Ok tt) r t0 t1 t2 (opened given socket t0 t1 first)
        (then_follows (Quietly (SomeOr (IsNoSocket http_at))) After (Ok web) r t1 t1 t2 (quietly (SomeOr (IsNoSocket http_at)) (Ok web) t1 tt) second)

    pub no_place_shown : {T S : Type 0} → (given : Result S Error) (socket : S) (web : SocketAddr) (address : Result SocketAddr Error) (at : T → Both) (failure : Failure)
        (r : Result T Failure) (t0 t1 t2 : Option (List AtHost)) → r ≡ Err failure → GoesOnBy (λ log. IsSocketOr s given log (Ok socket)) t0 t1
        → GoesOnBy (λ log. IsPlaceAt address s log (Err failure)) t1 t2 → GoesOnBy (λ log. IsShownOpened s http_at log (only at r)) t0 t2
    no_place_shown {T} given socket web address at failure r t0 t1 t2 is first second =
        subst (λ (e : Result T Failure). GoesOnBy (λ log. IsShownOpened s http_at log (only at e)) t0 t2) (sym is)
        (rest_is given socket web (Err failure) t0 t1 t2 first
        (then_fails (IsPlace s) (λ (at : SocketAddr). Quietly (λ (result : Result Both Failure). result ≡ Ok (at, web))) failure t1 t2 (placed address (Err failure) t1 t2 second)))

    pub shown_opened : {S : Type 0} → (given : Result S Error) (socket : S) (web at : SocketAddr) (address : Result SocketAddr Error) (t0 t1 t2 : Option (List AtHost))
        → GoesOnBy (λ log. IsSocketOr s given log (Ok socket)) t0 t1 → GoesOnBy (λ log. IsPlaceAt address s log (Ok at)) t1 t2
        → GoesOnBy (λ log. IsShownOpened s http_at log (Ok (at, web))) t0 t2
    shown_opened given socket web at address t0 t1 t2 first second =
        rest_is given socket web (Ok (at, web)) t0 t1 t2 first
        (then_follows (IsPlace s) (λ (at : SocketAddr). Quietly (λ (result : Result Both Failure). result ≡ Ok (at, web))) (Ok at) (Ok (at, web)) t1 t2 t2
        (placed address (Ok at) t1 t2 second) (quietly (λ (result : Result Both Failure). result ≡ Ok (at, web)) (Ok (at, web)) t2 refl))

  -- the file, the address and the time
  module _ (address : Result SocketAddr Error) where
    abbrev AfterAddress : SocketAddr → List AtHost → Result SocketAddr Failure → Type 0
    AfterAddress at = Then IsTime (λ (origin : Instant). Quietly (λ (result : Result SocketAddr Failure). result ≡ Ok at))

    abbrev AfterFile : Unit {0} → List AtHost → Result SocketAddr Failure → Type 0
    AfterFile u = Then (Quietly (IsHad s.listen address)) AfterAddress

    pub no_file : {T : Type 0} → (at : T → SocketAddr) (failure : Failure) (r : Result T Failure) (t0 t1 : Option (List AtHost)) → r ≡ Err failure
        → GoesOnBy (λ log. IsFile s log (let e : Result Unit Failure = Err failure in e)) t0 t1 → GoesOnBy (λ log. IsPlaceAt address s log (only at r)) t0 t1
    no_file {T} at failure r t0 t1 is file =
        subst (λ (e : Result T Failure). GoesOnBy (λ log. IsPlaceAt address s log (only at e)) t0 t1) (sym is) (then_fails (IsFile s) AfterFile failure t0 t1 file)

    pub no_address : {T : Type 0} → (at : T → SocketAddr) (failure : Failure) (r : Result T Failure) (t0 t1 : Option (List AtHost)) → r ≡ Err failure
        → GoesOnBy (λ log. IsFile s log (let e : Result Unit Failure = Ok tt in e)) t0 t1 → IsHad s.listen address (Err failure)
        → GoesOnBy (λ log. IsPlaceAt address s log (only at r)) t0 t1
    no_address {T} at failure r t0 t1 is file why =
        subst (λ (e : Result T Failure). GoesOnBy (λ log. IsPlaceAt address s log (only at e)) t0 t1) (sym is)
        (then_follows (IsFile s) AfterFile (Ok tt) (Err failure) t0 t1 t1 file
        (then_fails (Quietly (IsHad s.listen address)) AfterAddress failure t1 t1 (quietly (IsHad s.listen address) (Err failure) t1 why)))

    addressed : (at : SocketAddr) (r : Result SocketAddr Failure) (t0 t1 t2 : Option (List AtHost)) → GoesOnBy (λ log. IsFile s log (let e : Result Unit Failure = Ok tt in e)) t0 t1
        → IsHad s.listen address (Ok at) → GoesOnBy (λ log. AfterAddress at log r) t1 t2 → GoesOnBy (λ log. IsPlaceAt address s log r) t0 t2
    addressed at r t0 t1 t2 file given rest =
        then_follows (IsFile s) AfterFile (Ok tt) r t0 t1 t2 file
        (then_follows (Quietly (IsHad s.listen address)) AfterAddress (Ok at) r t1 t1 t2 (quietly (IsHad s.listen address) (Ok at) t1 given) rest)

    pub no_time : {T : Type 0} → (at : T → SocketAddr) (place : SocketAddr) (failure : Failure) (r : Result T Failure) (t0 t1 t2 : Option (List AtHost)) → r ≡ Err failure
        → GoesOnBy (λ log. IsFile s log (let e : Result Unit Failure = Ok tt in e)) t0 t1 → IsHad s.listen address (Ok place) → GoesOnBy (λ log. IsTime log (Err failure)) t1 t2
        → GoesOnBy (λ log. IsPlaceAt address s log (only at r)) t0 t2
    no_time {T} at place failure r t0 t1 t2 is file given time =
        subst (λ (e : Result T Failure). GoesOnBy (λ log. IsPlaceAt address s log (only at e)) t0 t2) (sym is)
        (addressed place (Err failure) t0 t1 t2 file given
        (then_fails IsTime (λ (origin : Instant). Quietly (λ (result : Result SocketAddr Failure). result ≡ Ok place)) failure t1 t2 time))

    pub place_is : (at : SocketAddr) (origin : Instant) (t0 t1 t2 : Option (List AtHost)) → GoesOnBy (λ log. IsFile s log (let e : Result Unit Failure = Ok tt in e)) t0 t1
        → IsHad s.listen address (Ok at) → GoesOnBy (λ log. IsTime log (Ok origin)) t1 t2 → GoesOnBy (λ log. IsPlaceAt address s log (Ok at)) t0 t2
    place_is at origin t0 t1 t2 file given time =
        addressed at (Ok at) t0 t1 t2 file given
        (then_follows IsTime (λ (origin : Instant). Quietly (λ (result : Result SocketAddr Failure). result ≡ Ok at)) (Ok origin) (Ok at) t1 t2 t2 time
        (quietly (λ (result : Result SocketAddr Failure). result ≡ Ok at) (Ok at) t2 refl))

-- the station of settings begins, or not
pub started : (printing : Printing) (s : StationSettings) (at : SocketAddr) (number targets : ℕ) (peers : List ℕ) (r : Result State Failure) (t0 t1 : Option (List AtHost))
    → number ≡ s.core.station → targets ≡ length s.core.targets → peers ≡ s.core.peers
    → GoesOnBy (λ log. IsOpening number at (string_bytes s.file) targets (length peers) printing log r) t0 t1 → GoesOnBy (λ log. IsStarted printing s at log r) t0 t1
started printing s at number targets peers r t0 t1 same_number same_targets same_peers =
    weaker (λ log. IsOpening number at (string_bytes s.file) targets (length peers) printing log r) (λ log. IsStarted printing s at log r) t0 t1
    (λ log is. subst (λ (n : ℕ). IsOpening n at (string_bytes s.file) (length s.core.targets) (length s.core.peers) printing log r) same_number
    (subst (λ (n : ℕ). IsOpening number at (string_bytes s.file) n (length s.core.peers) printing log r) same_targets
    (subst (λ (l : List ℕ). IsOpening number at (string_bytes s.file) targets (length l) printing log r) same_peers is)))

module _ (words : StationArgs) (reports : Reports) (s : StationSettings) where
  abbrev Said : Option SocketAddr → State → List AtHost → Result Unit Failure → Type 0
  Said web u = Then (IsWebSaid web) (λ (v : Unit {0}). IsRunOf words reports)

  abbrev Begun : SocketAddr → Option SocketAddr → Unit {0} → List AtHost → Result Unit Failure → Type 0
  Begun at web u = Then (IsStarted reports.printing s at) (Said web)

  abbrev Socket : List AtHost → Result Unit Failure → Type 0
  Socket = Quietly (SomeOr (IsNoSocket s.listen))

  -- nothing can be received
  unheard : (at : SocketAddr) (web : Option SocketAddr) (failure : Failure) (t : Option (List AtHost)) → IsNoSocket s.listen failure
      → GoesOnBy (λ log. IsWhole words reports s at web log (Err failure)) t t
  unheard at web failure t why = then_fails Socket (Begun at web) failure t t (quietly {A = Unit {0}} (SomeOr (IsNoSocket s.listen)) (Err failure) t why)

  heard : (at : SocketAddr) (web : Option SocketAddr) (r : Result Unit Failure) (t0 t1 : Option (List AtHost)) → GoesOnBy (λ log. Begun at web tt log r) t0 t1
      → GoesOnBy (λ log. IsWhole words reports s at web log r) t0 t1
  heard at web r t0 t1 rest = then_follows Socket (Begun at web) (Ok tt) r t0 t0 t1 (quietly {A = Unit {0}} (SomeOr (IsNoSocket s.listen)) (Ok tt) t0 tt) rest

  not_begun : (at : SocketAddr) (web : Option SocketAddr) (failure : Failure) (t0 t1 : Option (List AtHost))
      → GoesOnBy (λ log. IsStarted reports.printing s at log (Err failure)) t0 t1 → GoesOnBy (λ log. IsWhole words reports s at web log (Err failure)) t0 t1
  not_begun at web failure t0 t1 none =
      heard at web (Err failure) t0 t1 (then_fails (IsStarted reports.printing s at) (Said web) failure t0 t1 none)

  begun : (at : SocketAddr) (web : Option SocketAddr) (state : State) (r : Result Unit Failure) (t0 t1 t2 t3 : Option (List AtHost))
      → GoesOnBy (λ log. IsStarted reports.printing s at log (Ok state)) t0 t1 → GoesOnBy (λ log. IsWebSaid web log (Ok tt)) t1 t2
      → GoesOnBy (λ log. IsRunOf words reports log r) t2 t3 → GoesOnBy (λ log. IsWhole words reports s at web log r) t0 t3
  begun at web state r t0 t1 t2 t3 first said run =
      heard at web r t0 t3 (then_follows (IsStarted reports.printing s at) (Said web) (Ok state) r t0 t1 t3 first
      (then_follows (IsWebSaid web) (λ (v : Unit {0}). IsRunOf words reports) (Ok tt) r t1 t2 t3 said run))

  -- the rounds of a station whose reports are those of its arguments
  pub run_of : (own : Reports) (before : Kept) (r : Result Unit Failure) (t0 t1 : Option (List AtHost)) → own.printing ≡ reports.printing
      → own.paths ≡ reports.paths → before ≡ nothing_kept
      → GoesOnBy (λ log. IsRun words own.printing own.paths before log r) t0 t1
      → GoesOnBy (λ log. IsRunOf words reports log r) t0 t1
  run_of own before r t0 t1 printing out nothing run =
      subst (λ (p : Printing). GoesOnBy (λ log. IsRun words p reports.paths nothing_kept log r) t0 t1) printing
      (subst (λ (o : Paths). GoesOnBy (λ log. IsRun words own.printing o nothing_kept log r) t0 t1) out
      (subst (λ (k : Kept). GoesOnBy (λ log. IsRun words own.printing own.paths k log r) t0 t1) nothing run))

  -- a station without HTTP
  module _ where
    abbrev Unseen : SocketAddr → List AtHost → Result Unit Failure → Type 0
    Unseen at = IsWhole words reports s at None

    pub unseen_unopened : (failure : Failure) (r : Result Unit Failure) (t0 t1 : Option (List AtHost)) → r ≡ Err failure
        → GoesOnBy (λ log. IsUnseenOpened s log (Err failure)) t0 t1 → GoesOnBy (λ log. IsUnseen words reports s log r) t0 t1
    unseen_unopened failure r t0 t1 is none =
        subst (λ (e : Result Unit Failure). GoesOnBy (λ log. IsUnseen words reports s log e) t0 t1) (sym is) (then_fails (IsUnseenOpened s) Unseen failure t0 t1 none)

    pub unseen_unheard : (at : SocketAddr) (failure : Failure) (r : Result Unit Failure) (t0 t1 : Option (List AtHost)) → r ≡ Err failure
        → GoesOnBy (λ log. IsUnseenOpened s log (Ok at)) t0 t1 → IsNoSocket s.listen failure → GoesOnBy (λ log. IsUnseen words reports s log r) t0 t1
    unseen_unheard at failure r t0 t1 is before why =
        subst (λ (e : Result Unit Failure). GoesOnBy (λ log. IsUnseen words reports s log e) t0 t1) (sym is)
        (then_follows (IsUnseenOpened s) Unseen (Ok at) (Err failure) t0 t1 t1 before (unheard at None failure t1 why))

    pub unseen_unstarted : (at : SocketAddr) (failure : Failure) (r : Result Unit Failure) (t0 t1 t2 : Option (List AtHost)) → r ≡ Err failure
        → GoesOnBy (λ log. IsUnseenOpened s log (Ok at)) t0 t1 → GoesOnBy (λ log. IsStarted reports.printing s at log (Err failure)) t1 t2
        → GoesOnBy (λ log. IsUnseen words reports s log r) t0 t2
    unseen_unstarted at failure r t0 t1 t2 is before none =
        subst (λ (e : Result Unit Failure). GoesOnBy (λ log. IsUnseen words reports s log e) t0 t2) (sym is)
        (then_follows (IsUnseenOpened s) Unseen (Ok at) (Err failure) t0 t1 t2 before (not_begun at None failure t1 t2 none))

    pub unseen_run : (at : SocketAddr) (state : State) (r : Result Unit Failure) (t0 t1 t2 t3 : Option (List AtHost)) → GoesOnBy (λ log. IsUnseenOpened s log (Ok at)) t0 t1
        → GoesOnBy (λ log. IsStarted reports.printing s at log (Ok state)) t1 t2 → GoesOnBy (λ log. IsRunOf words reports log r) t2 t3
        → GoesOnBy (λ log. IsUnseen words reports s log r) t0 t3
    unseen_run at state r t0 t1 t2 t3 before first run =
        let silent : GoesOnBy (λ log. IsWebSaid None log (Ok tt)) t2 t2 = record { more = []; holds = (refl, refl); on = stays t2 } in
        then_follows (IsUnseenOpened s) Unseen (Ok at) r t0 t1 t3 before (begun at None state r t1 t2 t2 t3 first silent run)

  -- a station with HTTP
  module _ (http_at : Addr) where
    abbrev Seen : SocketAddr × SocketAddr → List AtHost → Result Unit Failure → Type 0
    Seen both = IsWhole words reports s both.0 (Some both.1)

    pub seen_unopened : (failure : Failure) (r : Result Unit Failure) (t0 t1 : Option (List AtHost)) → r ≡ Err failure
        → GoesOnBy (λ log. IsShownOpened s http_at log (Err failure)) t0 t1 → GoesOnBy (λ log. IsSeen http_at words reports s log r) t0 t1
    seen_unopened failure r t0 t1 is none =
        subst (λ (e : Result Unit Failure). GoesOnBy (λ log. IsSeen http_at words reports s log e) t0 t1) (sym is) (then_fails (IsShownOpened s http_at) Seen failure t0 t1 none)

    pub seen_unheard : (at web : SocketAddr) (failure : Failure) (r : Result Unit Failure) (t0 t1 : Option (List AtHost)) → r ≡ Err failure
        → GoesOnBy (λ log. IsShownOpened s http_at log (Ok (at, web))) t0 t1 → IsNoSocket s.listen failure → GoesOnBy (λ log. IsSeen http_at words reports s log r) t0 t1
    seen_unheard at web failure r t0 t1 is before why =
        subst (λ (e : Result Unit Failure). GoesOnBy (λ log. IsSeen http_at words reports s log e) t0 t1) (sym is)
        (then_follows (IsShownOpened s http_at) Seen (Ok (at, web)) (Err failure) t0 t1 t1 before (unheard at (Some web) failure t1 why))

    pub seen_unstarted : (at web : SocketAddr) (failure : Failure) (r : Result Unit Failure) (t0 t1 t2 : Option (List AtHost)) → r ≡ Err failure
        → GoesOnBy (λ log. IsShownOpened s http_at log (Ok (at, web))) t0 t1 → GoesOnBy (λ log. IsStarted reports.printing s at log (Err failure)) t1 t2
        → GoesOnBy (λ log. IsSeen http_at words reports s log r) t0 t2
    seen_unstarted at web failure r t0 t1 t2 is before none =
        subst (λ (e : Result Unit Failure). GoesOnBy (λ log. IsSeen http_at words reports s log e) t0 t2) (sym is)
        (then_follows (IsShownOpened s http_at) Seen (Ok (at, web)) (Err failure) t0 t1 t2 before (not_begun at (Some web) failure t1 t2 none))

    pub seen_run : (at web : SocketAddr) (state : State) (r : Result Unit Failure) (t0 t1 t2 t3 t4 : Option (List AtHost)) → GoesOnBy (λ log. IsShownOpened s http_at log (Ok (at, web))) t0 t1
        → GoesOnBy (λ log. IsStarted reports.printing s at log (Ok state)) t1 t2 → GoesOnBy (IsNoted level.Info (Some (http_line web))) t2 t3
        → GoesOnBy (λ log. IsRunOf words reports log r) t3 t4 → GoesOnBy (λ log. IsSeen http_at words reports s log r) t0 t4
    seen_run at web state r t0 t1 t2 t3 t4 before first line run =
        let said = weaker (IsNoted level.Info (Some (http_line web))) (λ log. IsWebSaid (Some web) log (Ok tt)) t2 t3
        (λ log noted. (noted.2 ∙ ap (λ (o : List ℕ). Noted level.Info o ∷ []) noted.1, refl)) line in
        then_follows (IsShownOpened s http_at) Seen (Ok (at, web)) r t0 t1 t4 before (begun at (Some web) state r t1 t2 t3 t4 first said run)
