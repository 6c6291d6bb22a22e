use Rattle.std.proofs.Common.{subst, sym}
use Rattle.std.specs.Str.{IsUtf8}
use Rattle.mon_notify.proofs.Sound.{time_utf8}
use Rattle.mon_notify.proofs.webhook.time_value.Goals as goal

pub unreachable-requires : goal.unreachable-requires
unreachable-requires c =
    c.in-Err.ensures.cases.0 (subst IsUtf8 (sym c.time_text-octets.ensures) (time_utf8 c.args.date.now))
