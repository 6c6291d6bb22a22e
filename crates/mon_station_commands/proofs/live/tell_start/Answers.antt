use Rattle.mon_host.specs.declared.level.Level.TheVariants as level
use Rattle.std.proofs.Common.{◌≡◌, List, ℕ, append_assoc, length, rules, subst}
use Rattle.std.specs.Prelude.{Some}
use Rattle.mon_host.specs.AtHost.{IsNoted}
use Rattle.mon_host.specs.Log.{GoesOnBy}
use Rattle.mon_station_commands.specs.Telling.{start_line}
use Rattle.mon_station_commands.proofs.Notes.{begun_new, begun_old}
use Rattle.mon_station_commands.proofs.live.tell_start.Goals as goal

pub returns-then-peers-gt0 : goal.returns-then-peers-gt0
returns-then-peers-gt0 g c =
    let t = c.args.transport.now in
    let targets : c.len-targets.result ≡ length t.engines.items = search rules in
    let peers : c.len-peers.result ≡ length t.peers.items = search rules in
    let start = g.H.Host.log c.args.host.now in
    let said = g.H.Host.log c.note.new.self in
    let line = subst (λ (text : List ℕ). GoesOnBy (IsNoted level.Info (Some text)) start said)
    (λ i. start_line t.number c.args.at c.args.incarnation c.args.file.now (targets i) (peers i)) (simp append_assoc (simp append_assoc at c.note.ensures)) in
    begun_new level.Info c.len-peers.result (length t.peers.items) _ _ start said (g.H.Host.log c.tell_new.new.host) peers c.if-peers-gt0.true line c.tell_new.ensures

pub returns-else-peers-gt0 : goal.returns-else-peers-gt0
returns-else-peers-gt0 g c =
    let t = c.args.transport.now in
    let targets : c.len-targets.result ≡ length t.engines.items = search rules in
    let peers : c.len-peers.result ≡ length t.peers.items = search rules in
    let start = g.H.Host.log c.args.host.now in
    let said = g.H.Host.log c.note.new.self in
    let line = subst (λ (text : List ℕ). GoesOnBy (IsNoted level.Info (Some text)) start said)
    (λ i. start_line t.number c.args.at c.args.incarnation c.args.file.now (targets i) (peers i)) (simp append_assoc (simp append_assoc at c.note.ensures)) in
    begun_old level.Info c.len-peers.result (length t.peers.items) _ _ start said peers c.if-peers-gt0.false line
