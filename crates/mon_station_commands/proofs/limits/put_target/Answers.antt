use Rattle.std.proofs.Common.{◌≡◌, ◌++◌, List, ℕ, codes, decimal, length, string_bytes, subst}
use Rattle.std.specs.Prelude.{OnOk}
use Rattle.mon_poller.specs.declared.target.Object.{Object}
use Rattle.mon_station_commands.specs.Limits.{target_text}
use Rattle.mon_station_commands.proofs.Texts.{eight_pieces}
use Rattle.mon_station_commands.proofs.limits.put_target.Goals as goal
use Rattle.mon_udp.specs.Addr.{addr_text}

pub returns : goal.returns
returns c =
    let t = c.args.target.now in
    let pieces = subst (λ (text : List ℕ). OnOk c.write.result (string_bytes c.write.new.self ≡ string_bytes c.args.text.now ++ text))
    (eight_pieces (codes "target ") (decimal c.args.number) (codes " at ") (addr_text t.address) (codes ": objects ") (decimal (length c.as_slice.result.now)) (codes ", tries ")
    (decimal t.tries) (codes "\n")) c.write.ensures.bytes in
    subst (λ (os : List Object). OnOk c.write.result (string_bytes c.write.new.self ≡ string_bytes c.args.text.now ++ target_text c.args.number t.address (length os) t.tries))
    c.as_slice.ensures pieces
