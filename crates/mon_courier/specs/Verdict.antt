-- What the status of a response says of a text (RFC 9110, section 15).
use Rattle.std.specs.Prelude.{ℕ, ◌||◌, ◌==◌, nat_le, nat_lt, if◌then◌else◌}
use Rattle.mon_courier.specs.declared.verdict.Verdict.{Verdict}
use Rattle.mon_courier.specs.declared.verdict.Verdict.TheVariants.{Delivered, TriedAgain, Refused}

-- A text is delivered by a status of 2xx. It is tried again after one of 5xx, after 408 (Request
-- Timeout) and 429 (Too Many Requests), and after one that no response has. Any other refuses it.
abbrev pub verdict_of : ℕ → Verdict
verdict_of status =
    if nat_lt status 200 then TriedAgain
    else if nat_lt status 300 then Delivered
    else if (status == 408) || (status == 429) || nat_le 500 status then TriedAgain
    else Refused
