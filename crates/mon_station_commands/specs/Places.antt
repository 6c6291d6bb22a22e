-- Where a station is before its first round: its socket, its file and its address.
use Rattle.std.specs.Prelude.{◌≡◌, ◌⊎◌, ℕ, Bool, true, false, IsErrAnd, List, [], ◌∷◌, ◌++◌, Option}
use Rattle.std.specs.Prelude.{Some, None, Result, Ok, Err, codes, string_bytes}
use Rattle.std.specs.IoError.{error_kind}
use Rattle.std.specs.declared.io.Error.{Error}
use Rattle.std.specs.declared.io.ErrorKind.{ErrorKind}
use Rattle.std.specs.declared.net.socket_addr.SocketAddr.{SocketAddr}
use Rattle.mon_app.specs.AppFault.{of_socket}
use Rattle.mon_board.specs.declared.board.Board.{Board}
use Rattle.mon_console.specs.Failure.{IsOfText, IsUnopened}
use Rattle.mon_console.specs.declared.failure.Failure.{Failure}
use Rattle.mon_disk.specs.declared.disk.DiskError.{DiskError}
use Rattle.mon_disk.specs.declared.open_fault.OpenFault.{OpenFault}
use Rattle.mon_host.specs.AtHost.{AtHost, Found, Unfound}
use Rattle.mon_host.specs.Reason.{Why}
use Rattle.mon_host.specs.Then.{Quietly, Then}
use Rattle.mon_settings.specs.declared.station.StationSettings.{StationSettings}
use Rattle.mon_station_commands.specs.Opening.{IsOfFile}
use Rattle.mon_station_commands.specs.Pace.{IsTime}
use Rattle.mon_file_commands.specs.Saved.{IsSavedIn}
use Rattle.mon_station_commands.specs.Steps.{SomeOr}
use Rattle.mon_file_commands.specs.Line.{AreNoted}
use Rattle.mon_station_commands.specs.Telling.{short_lines_of}
use Rattle.mon_udp.specs.Addr.{addr_of, addr_text}
use Rattle.mon_udp.specs.declared.addr.Addr.{Addr}

-- The address that a text for HTTP writes, if there is a text; or it writes none, which the failure
-- says.
abbrev pub IsHttpAddress : Option (List ℕ) → Result (Option Addr) Failure → Type 0
IsHttpAddress None result = result ≡ Ok None
IsHttpAddress (Some text) (Ok http_at) = (at : Addr) × (addr_of text ≡ Some at)
    × (http_at ≡ Some at)
IsHttpAddress (Some text) (Err failure) = (addr_of text ≡ None)
    × IsOfText text (codes "an address, a.b.c.d:port,") failure

-- the failure of a socket at an address, for the system's error
abbrev pub IsOfError : Addr → Error → Failure → Type 0
IsOfError at error = IsUnopened (Some (addr_text at)) (of_socket (error_kind error))

-- the failure of a socket at an address, for a reason of some kind; memory is one
abbrev pub IsNoSocket : Addr → Failure → Type 0
IsNoSocket at failure = (kind : ErrorKind) × IsUnopened (Some (addr_text at)) (of_socket kind)
    failure

-- what a call for a socket at an address gave: its value, or its error's failure
abbrev pub IsHad : {T : Type 0} → Addr → Result T Error → Result T Failure → Type 0
IsHad at (Ok value) result = result ≡ Ok value
IsHad at (Err error) result = IsErrAnd result (IsOfError at error)

-- It was asked whether something is at a path. If that failed, a file may be there.
abbrev pub MayBeThere : List ℕ → List AtHost → Bool → Type 0
MayBeThere path log there = (log ≡ Found path there ∷ [])
    ⊎ ((why : Why) × (log ≡ Unfound path why ∷ []) × (there ≡ true))

-- The windows in a station's file are read if the file may be there. What they are is not kept.
abbrev pub AreSavedIf : (there : Bool) → StationSettings → List AtHost → Result Unit Failure
    → Type 0
AreSavedIf true s log (Ok done) =
    (board : Board) × IsSavedIn s log (let r : Result Board Failure = Ok board in r)
AreSavedIf true s log (Err failure) = IsSavedIn s log (Err failure)
AreSavedIf false s log result = (log ≡ []) × (result ≡ Ok tt)

-- a station's file is looked for, and read as `report` reads it
pub record IsLookedAt (s : StationSettings) (log : List AtHost) (result : Result Unit Failure)
    : Type 0 where
  pub there : Bool
  pub begin : List AtHost
  pub asked : MayBeThere (string_bytes s.file) begin there
  pub rest : List AtHost
  pub saved : AreSavedIf there s rest result
  pub log_is : log ≡ begin ++ rest

-- Why a station has no socket, after the system's error. A fault of its file, if it is there, comes
-- first; else it is that of the socket.
abbrev pub IsWithout : StationSettings → Error → List AtHost → Failure → Type 0
IsWithout s error log failure = Then (IsLookedAt s)
    (λ (looked : Unit {0}). Quietly (λ (r : Result Unit Failure). IsErrAnd r
    (IsOfError s.listen error)))
    log (Err failure)

-- what the system gave for a station's socket: that socket; or its error
abbrev pub IsSocketOr : {T : Type 0} → StationSettings → Result T Error → List AtHost
    → Result T Failure → Type 0
IsSocketOr s (Ok value) log result = (log ≡ []) × (result ≡ Ok value)
IsSocketOr s (Err error) log result = IsErrAnd result (IsWithout s error log)

-- the socket of a station is opened; or it isn't, for some error of the system's
abbrev pub IsSocket : {T : Type 0} → StationSettings → List AtHost → Result T Failure → Type 0
IsSocket s log (Ok socket) = log ≡ []
IsSocket s log (Err failure) = (error : Error) × IsWithout s error log failure

-- The file of a station is opened, and a line says if it is short; or it isn't opened, for some
-- fault. Its size may be unknown.
abbrev pub IsFile : {T : Type 0} → StationSettings → List AtHost → Result T Failure → Type 0
IsFile s log (Ok file) =
    (size : Result ℕ DiskError) × AreNoted (short_lines_of (string_bytes s.file) size) log
IsFile s log (Err failure) =
    (log ≡ []) × ((fault : OpenFault) × IsOfFile (string_bytes s.file) fault failure)

-- after the socket, which said that it is at this address: the file, the address and the time
abbrev pub IsPlaceAt : Result SocketAddr Error → StationSettings → List AtHost
    → Result SocketAddr Failure → Type 0
IsPlaceAt address s = Then (IsFile s) (λ (file : Unit {0}). Then (Quietly (IsHad s.listen address))
    (λ (at : SocketAddr). Then IsTime (λ origin. Quietly (λ result. result ≡ Ok at))))

-- after the socket, whatever address it said: the file, the address and the time
abbrev pub IsPlace : StationSettings → List AtHost → Result SocketAddr Failure → Type 0
IsPlace s log result = (address : Result SocketAddr Error) × IsPlaceAt address s log result

-- a station that serves no HTTP is opened: its socket, and then its file; the result is where it is
abbrev pub IsUnseenOpened : StationSettings → List AtHost → Result SocketAddr Failure → Type 0
IsUnseenOpened s = Then (IsSocket s) (λ (socket : Unit {0}). IsPlace s)

-- A station that serves HTTP is opened: its socket, the listener at this address, and then its
-- file. The result is where it is, and where it serves HTTP.
abbrev pub IsShownOpened : StationSettings → (http_at : Addr) → List AtHost
    → Result (SocketAddr × SocketAddr) Failure → Type 0
IsShownOpened s http_at = Then (IsSocket s) (λ (socket : Unit {0}).
    Then (Quietly (SomeOr (IsNoSocket http_at))) (λ (web : SocketAddr).
    Then (IsPlace s) (λ at. Quietly (λ result. result ≡ Ok (at, web)))))
