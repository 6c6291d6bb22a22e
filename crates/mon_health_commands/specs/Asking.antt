-- What is asked of a station over a stream, and what comes of it.
use Rattle.std.specs.Prelude.{◌≡◌, ◌≢◌, ◌-◌, ℕ, zero, suc, List, [], ◌∷◌, ◌++◌, codes, drop, length}
use Rattle.std.specs.Prelude.{Result, Ok, Err}
use Rattle.std.specs.declared.io.ErrorKind.{ErrorKind}
use Rattle.mon_host.specs.Then.{Then}
use Rattle.mon_http_client.specs.Response.{IsProgress}
use Rattle.mon_http_client.specs.declared.response.Progress.{Progress}
use Rattle.mon_http_client.specs.declared.response.Progress.TheVariants.{More, Refused, Response}
use Rattle.mon_health_commands.specs.AtStream.{AtStream, Offered, ReadsLimited, Received}
use Rattle.mon_health_commands.specs.AtStream.{WritesLimited}
use Rattle.mon_health_commands.specs.declared.trouble.Trouble.{Trouble}
use Rattle.mon_health_commands.specs.declared.trouble.Trouble.TheVariants.{Broken, Closed}
use Rattle.mon_health_commands.specs.declared.trouble.Trouble.TheVariants.{Malformed, Scattered}

-- how many seconds connecting may take, and each wait after it
abbrev pub limit : ℕ
limit = 2

-- in how many pieces the head of a response may come
abbrev pub pieces : ℕ
pieces = 8

-- how many octets of a response are read at most
abbrev pub most_octets : ℕ
most_octets = 8192

-- a wait was limited, as this event says; or that failed
abbrev pub IsLimited : (Result Unit ErrorKind → AtStream) → List AtStream → Result Unit Trouble
    → Type 0
IsLimited event log (Ok done) = log ≡ event (Ok tt) ∷ []
IsLimited event log (Err trouble) =
    (kind : ErrorKind) × (log ≡ event (Err kind) ∷ []) × (trouble ≡ Broken kind)

-- Octets are sent: offered, and again those that the stream did not take, until it took all; or it
-- took none, or failed.
pub data IsSending : List ℕ → List AtStream → Result Unit Trouble → Type 0 where
  sent : IsSending [] [] (Ok tt)
  took : (octets : List ℕ) (n : ℕ) (log : List AtStream) (result : Result Unit Trouble)
      → octets ≢ []
      → IsSending (drop (suc n) octets) log result → IsSending octets
      (Offered octets (Ok (suc n)) ∷ log) result
  stuck : (octets : List ℕ) → octets ≢ [] → IsSending octets (Offered octets (Ok 0) ∷ [])
      (Err Closed)
  unsent : (octets : List ℕ) (kind : ErrorKind) → octets ≢ []
      → IsSending octets (Offered octets (Err kind) ∷ []) (Err (Broken kind))

-- A further piece was asked for, of as many octets as may still come. It came, and `now` are all
-- octets that came; or the stream ended, or failed.
pub data IsPiece (seen : List ℕ) : (now : List ℕ) → List AtStream → Result Unit Trouble
    → Type 0 where
  came : (more : List ℕ) → more ≢ []
      → IsPiece seen (seen ++ more) (Received (most_octets - length seen) (Ok more) ∷ []) (Ok tt)
  ended : IsPiece seen seen (Received (most_octets - length seen) (Ok []) ∷ []) (Err Closed)
  broke : (kind : ErrorKind)
      → IsPiece seen seen (Received (most_octets - length seen) (Err kind) ∷ []) (Err (Broken kind))

-- The head of a response is read, of which these octets came, in at most `left` further pieces: as
-- long as more is needed. The result is its status, or what the trouble is.
pub data IsReceiving : (left : ℕ) → (seen : List ℕ) → List AtStream → Result ℕ Trouble
    → Type 0 where
  scattered : (seen : List ℕ) → IsReceiving 0 seen [] (Err Scattered)
  failed : (left : ℕ) (seen now : List ℕ) (log : List AtStream) (trouble : Trouble)
      → IsPiece seen now log (Err trouble) → IsReceiving (suc left) seen log (Err trouble)
  malformed : (left : ℕ) (seen now : List ℕ) (log : List AtStream)
      → IsPiece seen now log (Ok tt) → IsProgress now Refused
      → IsReceiving (suc left) seen log (Err Malformed)
  whole : (left : ℕ) (seen now : List ℕ) (log : List AtStream) (status n : ℕ)
      → IsPiece seen now log (Ok tt) → IsProgress now (Response status n)
      → IsReceiving (suc left) seen log (Ok status)
  goes_on : (left : ℕ) (seen now : List ℕ) (log rest : List AtStream) (result : Result ℕ Trouble)
      → IsPiece seen now log (Ok tt) → IsProgress now More → IsReceiving left now rest result
      → IsReceiving (suc left) seen (log ++ rest) result

-- a request is sent over a stream, and the status of its response is read: all waits are limited
-- first
abbrev pub IsExchange : List ℕ → List AtStream → Result ℕ Trouble → Type 0
IsExchange request = Then (IsLimited (ReadsLimited limit)) (λ done. Then
    (IsLimited (WritesLimited limit))
    (λ done. Then (IsSending request) (λ done. IsReceiving pieces [])))
