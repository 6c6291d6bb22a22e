use Rattle.std.proofs.Common.{List, ℕ, subst}
use Rattle.mon_http_client.specs.Response.{IsProgress}
use Rattle.mon_http_client.specs.declared.response.Progress.TheVariants.{More, Refused, Response}
use Rattle.mon_health_commands.proofs.Streaming.{has_failed, is_malformed, is_scattered, is_whole, needs_more}
use Rattle.mon_health_commands.proofs.asking.+receive.Goals as goal

pub returns-then-left-eq0 : goal.returns-then-left-eq0
returns-then-left-eq0 g t c = is_scattered c.args.left c.args.seen.now.items _ c.if-left-eq0.true

pub returns-in_err-take_piece : goal.returns-in_err-take_piece
returns-in_err-take_piece g t c =
    has_failed c.args.left c.args.seen.now.items c.take_piece.new.seen.items c.in_err-take_piece.field-0.0 _ _ _ c.if-left-eq0.false
    c.from_residual.ensures.1 c.in_err-take_piece.ensures.piece

pub returns-in-More : goal.returns-in-More
returns-in-More g t c =
    needs_more c.args.left c.args.seen.now.items c.take_piece.new.seen.items c.receive.result _ _ _ c.if-left-eq0.false
    (subst (λ (o : List ℕ). IsProgress o More) c.deref.ensures.value c.in-More.ensures) c.in_ok-take_piece.ensures.piece c.receive.ensures

pub returns-in-Response : goal.returns-in-Response
returns-in-Response g t c =
    is_whole c.args.left c.args.seen.now.items c.take_piece.new.seen.items c.in-Response.status c.in-Response.head_len _ _ c.if-left-eq0.false
    (subst (λ (o : List ℕ). IsProgress o (Response c.in-Response.status c.in-Response.head_len)) c.deref.ensures.value c.in-Response.ensures) c.in_ok-take_piece.ensures.piece

pub returns-in-Refused : goal.returns-in-Refused
returns-in-Refused g t c =
    is_malformed c.args.left c.args.seen.now.items c.take_piece.new.seen.items _ _ c.if-left-eq0.false
    (subst (λ (o : List ℕ). IsProgress o Refused) c.deref.ensures.value c.in-Refused.ensures) c.in_ok-take_piece.ensures.piece
