use Rattle.std.proofs.Common.{rules, ◌≡◌, true, inl, inr, Any, subst, arith}
use Rattle.std.proofs.lemmas.Bool.{cases_lt}
use Rattle.mon_world.proofs.Strangers.{one_free, stranger_at}
use Rattle.mon_world.proofs.speaker.stranger.Goals as goal

pub loop-port-preserved : goal.loop-port-preserved
loop-port-preserved c port lt =
    let test : c.is_target.result ≡ true = search rules in
    elim (cases_lt port c.loop-port.port) [
      | inl less ↦ c.loop-port.invariant port less
      | inr last ↦
          let same : c.loop-port.port ≡ port = omega (arith, lt, last) in
          subst (λ p. Any (λ t. t.address ≡ stranger_at p) c.args.targets.now) same (c.is_target.ensures.0 test)
    ]

pub unreachable-requires : goal.unreachable-requires
unreachable-requires c = one_free c.args.targets.now c.requires.few (λ port lt. c.loop-port.invariant port (omega (arith, lt, c.loop-port-test.false)))
