-- What is said of deliveries.
use Rattle.std.specs.Prelude.{ℕ, List, ◌++◌, codes, decimal}
use Rattle.std.specs.declared.io.ErrorKind.{ErrorKind}
use Rattle.std.specs.declared.io.ErrorKind.TheVariants as kinds
use Rattle.mon_courier.specs.declared.news.Cause.{Cause}
use Rattle.mon_courier.specs.declared.news.Cause.TheVariants.{Connect, Send, Receive, Closed}
use Rattle.mon_courier.specs.declared.news.Cause.TheVariants.{Silent, NoResponse, Status}
use Rattle.mon_courier.specs.declared.news.News.{News}
use Rattle.mon_courier.specs.declared.news.News.TheVariants.{Fails, Again, Refused}

-- what a kind of error is called
abbrev pub kind_text : ErrorKind → List ℕ
kind_text kinds.ConnectionRefused = codes "nothing listens there"
kind_text kinds.ConnectionReset = codes "connection reset"
kind_text kinds.ConnectionAborted = codes "connection aborted"
kind_text kinds.BrokenPipe = codes "connection closed"
kind_text kinds.HostUnreachable = codes "host unreachable"
kind_text kinds.NetworkUnreachable = codes "network unreachable"
kind_text kinds.NetworkDown = codes "network down"
kind_text kinds.TimedOut = codes "timed out"
kind_text kinds.PermissionDenied = codes "permission denied"
kind_text kinds.AddrNotAvailable = codes "no local address"
kind_text kinds.OutOfMemory = codes "out of memory"
kind_text _ = codes "system error"

-- why an attempt failed
abbrev pub cause_text : Cause → List ℕ
cause_text (Connect kind) = codes "cannot connect: " ++ kind_text kind
cause_text (Send kind) = codes "cannot send: " ++ kind_text kind
cause_text (Receive kind) = codes "cannot receive: " ++ kind_text kind
cause_text Closed = codes "connection closed before a response"
cause_text Silent = codes "no response within 5 seconds"
cause_text NoResponse = codes "what came is no response of HTTP"
cause_text (Status status) = codes "response with status " ++ decimal status

-- what is said
abbrev pub news_text : News → List ℕ
news_text (Fails cause) = codes "deliveries fail, and are tried again: " ++ cause_text cause
news_text Again = codes "deliveries go on again"
news_text (Refused status) = codes "the receiver refused a text with status " ++ decimal status
