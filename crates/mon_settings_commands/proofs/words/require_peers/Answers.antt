use Rattle.std.proofs.Common.{Bor, List, ℕ, map}
use Rattle.mon_settings_commands.specs.Named.{IsFirstNoPeer, IsNoPeer, NamesSome}
use Rattle.mon_settings_commands.proofs.Groups.{still}
use Rattle.mon_settings_commands.proofs.Refusals.{all_good, bad_at, one_good}
use Rattle.mon_settings_commands.proofs.words.require_peers.Goals as goal

pub returns-in_err-peer_at-clause-refused : goal.returns-in_err-peer_at-clause-refused
returns-in_err-peer_at-clause-refused c =
    let failure = c.in_err-peer_at.field-0.0 in
    still (IsFirstNoPeer (map (λ (text : Bor (List ℕ)). text.now) c.args.words.now)) failure c.from_residual.result c.from_residual.ensures.1
    (bad_at (λ (text : Bor (List ℕ)). text.now) NamesSome IsNoPeer c.args.words.now c.loop-word.word-index _ failure c.loop-word-test.true c.loop-word.invariant c.in_err-peer_at.ensures.refused)

pub loop-word-preserved : goal.loop-word-preserved
loop-word-preserved c = one_good (λ (text : Bor (List ℕ)). text.now) NamesSome c.args.words.now c.loop-word.word-index _ c.loop-word-test.true c.loop-word.invariant
    (c.in_ok-peer_at.field-0.0, c.in_ok-peer_at.field-0.1.now, c.in_ok-peer_at.ensures.named)

pub returns-clause-named : goal.returns-clause-named
returns-clause-named c = all_good (λ (text : Bor (List ℕ)). text.now) NamesSome c.args.words.now c.loop-word.word-index c.loop-word-test.false c.loop-word.invariant
