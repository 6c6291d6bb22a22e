use Rattle.mon_file_commands.proofs.Rereads.{again, last_read, steady, unread}
use Rattle.mon_console.proofs.Added.{failure_is}
use Rattle.mon_file_commands.proofs.saved.+read_saved.Goals as goal

pub returns-in_err-octets : goal.returns-in_err-octets
returns-in_err-octets g n c =
    let failure = c.in_err-octets.field-0.0 in
    unread c.args.path.now c.args.more failure c.from_residual.result (g.H.Host.log c.args.host.now) (g.H.Host.log c.read_part.new.host)
    (failure_is c.from_residual.result failure c.from_residual.ensures.1) c.in_err-octets.ensures

pub returns-then-more-eq0 : goal.returns-then-more-eq0
returns-then-more-eq0 g n c =
    last_read c.args.path.now c.args.more c.in_ok-octets.octets (g.H.Host.log c.args.host.now) (g.H.Host.log c.read_part.new.host) c.if-more-eq0.true c.in_ok-octets.ensures

pub returns-then-has_heads_of : goal.returns-then-has_heads_of
returns-then-has_heads_of g n c =
    steady c.args.path.now c.args.more c.in_ok-octets.octets c.as_slice.result.now c.has_heads_of.result (g.H.Host.log c.args.host.now) (g.H.Host.log c.read_part.new.host)
    (g.H.Host.log c.has_heads_of.new.host) c.if-more-eq0.false c.as_slice.ensures.value c.if-has_heads_of.true c.in_ok-octets.ensures c.has_heads_of.ensures

pub returns : goal.returns
returns g n c =
    again c.args.path.now c.args.more c.in_ok-octets.octets c.as_slice.result.now c.has_heads_of.result c.read_saved.result (g.H.Host.log c.args.host.now)
    (g.H.Host.log c.read_part.new.host) (g.H.Host.log c.has_heads_of.new.host) (g.H.Host.log c.read_saved.new.host) c.if-more-eq0.false c.as_slice.ensures.value
    c.if-has_heads_of.false c.in_ok-octets.ensures c.has_heads_of.ensures c.read_saved.ensures
