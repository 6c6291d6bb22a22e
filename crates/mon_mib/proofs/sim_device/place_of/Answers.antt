use Rattle.std.proofs.Common.{rules}
use Rattle.std.proofs.lemmas.Fn.{always_returns_same}
use Rattle.mon_mib.specs.declared.interface.Interface.{Interface}
use Rattle.mon_mib.proofs.Searching.{search_found, search_none}
use Rattle.mon_mib.proofs.sim_device.place_of.Goals as goal

pub returns-in-Ok-clause-found : goal.returns-in-Ok-clause-found
returns-in-Ok-clause-found c =
    let facts = c.binary_search_by_key.ensures in
    search_found c.args.interfaces.now c.args.index c.in-Ok.place c.binary_search_by_key.result
    (facts.position (λ (p : Interface). p.index) (always_returns_same _ _ _ (λ a r f called. search rules))) facts.bound c.in-Ok.is

pub returns-in-Err-clause-missing : goal.returns-in-Err-clause-missing
returns-in-Err-clause-missing c =
    let facts = c.binary_search_by_key.ensures in
    search_none c.args.interfaces.now c.args.index _ c.binary_search_by_key.result c.requires.rising
    (facts.position (λ (p : Interface). p.index) (always_returns_same _ _ _ (λ a r f called. search rules))) c.in-Err.is
