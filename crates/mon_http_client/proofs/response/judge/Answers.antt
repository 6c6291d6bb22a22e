use Rattle.std.proofs.Common.{◌∙◌, ap, sym, subst, rules}
use Rattle.mon_http_client.specs.declared.response.Head.{Head}
use Rattle.mon_http_client.specs.Response.{IsHead, head_of}
use Rattle.mon_http_client.proofs.Heads.{parsed}
use Rattle.mon_http_client.proofs.response.judge.Goals as goal

pub returns : goal.returns
returns c =
    let head = c.args.head.now in
    subst (λ (h : Head). IsHead head h) (sym (c.head_of.ensures ∙ ap head_of c.whole.ensures))
    (parsed head c.parse_response.new.headers c.parse_response.result c.parse_response.ensures.found
    c.parse_response.ensures.complete c.parse_response.ensures.within (search (rules, c.parse_response.auto)))
