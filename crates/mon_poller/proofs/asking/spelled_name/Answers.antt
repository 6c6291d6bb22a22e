use Rattle.std.proofs.Common.{rules, ◌≡◌, ◌<◌, ◌^◌, ℕ, List, length, sym, subst, arith}
use Rattle.mon_ber.specs.declared.value.Value.TheVariants.{Name}
use Rattle.mon_ber.specs.Grammar.{Spells}
use Rattle.mon_ber.specs.Writing.{contents_of}
use Rattle.mon_ber.proofs.Promised.{size_longer, written_size}
use Rattle.mon_poller.specs.Target.{spelled_name}
use Rattle.mon_poller.proofs.asking.spelled_name.Goals as goal

pub returns-clause-spells : goal.returns-clause-spells
returns-clause-spells c =
    let name = c.args.name.now in
    let few : length (contents_of (Name name)) < 2 ^ 32 = omega (arith, written_size (Name name), size_longer (length (contents_of (Name name))), c.name_size.ensures.value, c.name_size.ensures.small) in
    let is : c.new.result ≡ spelled_name name = search rules in
    subst (λ (text : List ℕ). Spells text (Name name)) (sym is) (c.written.ensures (Name name) c.parts-parts.ensures.oid few)
