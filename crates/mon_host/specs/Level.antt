-- How grave a line on standard error is.
use Rattle.std.specs.Prelude.{ℕ, List, codes}
use Rattle.mon_host.specs.declared.level.Level.{Level}
use Rattle.mon_host.specs.declared.level.Level.TheVariants.{Error, Warning, Notice, Info}

-- what is written before a line for systemd's journal: the level of syslog (RFC 5424 section 6.2.1)
-- as sd-daemon(3) writes it
abbrev pub mark : Level → List ℕ
mark Error = codes "<3>"
mark Warning = codes "<4>"
mark Notice = codes "<5>"
mark Info = codes "<6>"
