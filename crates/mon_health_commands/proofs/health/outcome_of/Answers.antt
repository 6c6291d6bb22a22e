use Rattle.std.proofs.Common.{◌≡◌, ◌∙◌, ◌++◌, List, ℕ, [], ap, codes, inl, subst}
use Rattle.mon_host.specs.Log.{GoesOnBy}
use Rattle.mon_http_client.specs.Request.{get_text}
use Rattle.mon_health_commands.specs.Asking.{IsExchange}
use Rattle.mon_health_commands.proofs.health.outcome_of.Goals as goal

pub returns : goal.returns
returns g c =
    let path = codes "/healthz" in
    let sent : c.as_slice.result.now ≡ get_text c.args.word.now path =
    c.as_slice.ensures.value ∙ (c.in_ok-put_get.ensures.added
    ∙ (ap (λ (o : List ℕ). o ++ get_text c.as_bytes.result.now path) c.new-request.ensures.items
    ∙ ap (λ (o : List ℕ). get_text o path) c.as_bytes.ensures.value)) in
    inl (record {
      before = c.in-Ok.stream;
      connected = c.in-Ok.ensures.connected;
      after = c.exchange.new.stream;
      happened = subst (λ (o : List ℕ). GoesOnBy (λ log. IsExchange o log c.exchange.result)
          (g.C.Stream.Stream.log c.in-Ok.stream) (g.C.Stream.Stream.log c.exchange.new.stream)) sent c.exchange.ensures;
    })
