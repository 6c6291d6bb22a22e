-- Times of an agent's life, in hundredths of a second since its start.
use Rattle.std.specs.Prelude.{ℕ, ◌<◌, ◌/◌, ◌%◌, ◌^◌}

-- so early that the whole seconds are below 2^31 (snmpEngineTime, RFC 3411 section 5)
abbrev pub IsMoment : ℕ → Type 0
IsMoment moment = moment < 214748364800

-- sysUpTime (RFC 3418 section 2)
abbrev pub up_time : ℕ → ℕ
up_time moment = moment % 2 ^ 32

-- snmpEngineTime (RFC 3411 section 5)
abbrev pub engine_time : ℕ → ℕ
engine_time moment = moment / 100
