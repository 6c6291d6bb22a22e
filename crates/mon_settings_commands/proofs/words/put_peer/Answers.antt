use Rattle.mon_settings_commands.proofs.Counting.{counted}
use Rattle.mon_settings_commands.proofs.words.put_peer.Goals as goal
use Rattle.std.specs.Prelude.{string_bytes}

pub returns-clause-put : goal.returns-clause-put
returns-clause-put c = (
  record { station = c.in_ok-station.station; address = c.put_address.new.place },
  c.in_ok-push.ensures.items,
  record {
    written = c.in_ok-station.text.now;
    named = c.in_ok-station.ensures.named;
    address = counted c.in_ok-station.text.now c.args.up (string_bytes c.new-address.result) (string_bytes c.put_address.new.place) c.new-address.ensures.bytes
        c.in_ok-put_address.ensures.kept c.in_ok-put_address.ensures.moved;
  },
)
