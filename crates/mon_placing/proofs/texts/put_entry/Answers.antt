use Rattle.std.proofs.Common.{◌+◌, ◌++◌, codes, string_bytes}
use Rattle.std.specs.Prelude.{decimal}
use Rattle.mon_placing.specs.Network.{hosts_of, separator}
use Rattle.mon_placing.proofs.Pieces.{four_texts}
use Rattle.mon_placing.proofs.texts.put_entry.Goals as goal

pub returns : goal.returns
returns c =
    let n = c.args.network in
    let part = c.args.part in
    four_texts (separator part (codes ",\n")) (codes "  {\"targets\": [") (hosts_of n part n.stations)
    (codes "], \"labels\": {\"group\": \"group-" ++ (decimal (n.first + part) ++ codes "\"}}"))
    (string_bytes c.args.text.now) (string_bytes c.put_separator.new.text) (string_bytes c.push_str.new.self) (string_bytes c.put_hosts.new.text) (string_bytes c.write.new.self) c.write.result
    c.in_ok-put_separator.ensures c.in_ok-push_str.ensures.bytes c.in_ok-put_hosts.ensures c.write.ensures.bytes
