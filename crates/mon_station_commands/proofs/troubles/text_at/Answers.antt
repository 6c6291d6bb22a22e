use Rattle.std.proofs.Common.{refl, string_bytes}
use Rattle.std.proofs.lemmas.Option.{slice_get_read}
use Rattle.mon_station_commands.proofs.Changes.{said_before, said_by_key}
use Rattle.mon_station_commands.proofs.troubles.text_at.Goals as goal

pub returns-then-is_said_in : goal.returns-then-is_said_in
returns-then-is_said_in c =
    said_before c.args.facts c.args.keys.now c.args.place c.index-keys-place.result c.is_said_in.result (string_bytes c.new.result)
    (slice_get_read c.args.keys.now _ c.args.place c.index-keys-place.result refl c.requires c.index-keys-place.is) c.if-is_said_in.true c.is_said_in.ensures c.new.ensures.bytes

pub returns : goal.returns
returns c =
    said_by_key c.args.facts c.args.keys.now c.args.place c.index-keys-place.result c.is_said_in.result c.count_alike.result c.key_text.result
    (slice_get_read c.args.keys.now _ c.args.place c.index-keys-place.result refl c.requires c.index-keys-place.is) c.if-is_said_in.false c.is_said_in.ensures c.count_alike.ensures c.key_text.ensures
