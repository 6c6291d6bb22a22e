use Rattle.mon_file_commands.proofs.Rereads.{looks_on}
use Rattle.mon_file_commands.proofs.saved.has_heads_of.Goals as goal

pub returns-then-has_head_of : goal.returns-then-has_head_of
returns-then-has_head_of g c =
    looks_on c.args.path.now c.args.octets.now c.has_head_of.result c.has_head_of-then-has_head_of.result (g.H.Host.log c.args.host.now) (g.H.Host.log c.has_head_of.new.host)
    (g.H.Host.log c.has_head_of-then-has_head_of.new.host) c.if-has_head_of.true c.has_head_of.ensures c.has_head_of-then-has_head_of.ensures
