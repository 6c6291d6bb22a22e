use Rattle.mon_smi.specs.ModuleFaults.{AllBegin}
use Rattle.mon_smi.proofs.Begun.{body_begins, ok_on}
use Rattle.mon_smi.proofs.modules.module_body_at.Goals as goal

pub returns-clause-starts : goal.returns-clause-starts
returns-clause-starts c =
    ok_on c.definitions_at.result (λ body. AllBegin c.in_ok-rest-4.rest.now body.starts.items body.defs.items) (λ body. AllBegin c.args.ls.now body.starts.items body.defs.items)
    (λ body begin. body_begins c.args.ls.now c.in_ok-rest.rest.now c.in_ok-rest-2.rest.now c.in_ok-rest-3.rest.now c.in_ok-rest-4.rest.now body.starts.items body.defs.items
    c.in_ok-rest.ensures c.in_ok-rest-2.ensures c.in_ok-rest-3.ensures c.in_ok-rest-4.ensures begin)
    c.definitions_at.ensures.starts
