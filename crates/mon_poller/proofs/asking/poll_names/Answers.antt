use Rattle.std.proofs.Common.{◌∙◌, List, ap, map}
use Rattle.std.proofs.lemmas.Result.{IfOk-weaker}
use Rattle.mon_pdu.specs.declared.message.Binding.{Binding}
use Rattle.mon_poller.specs.Target.{poll_names}
use Rattle.mon_poller.proofs.Asks.{names_back}
use Rattle.mon_poller.proofs.asking.poll_names.Goals as goal

pub returns : goal.returns
returns c = IfOk-weaker c.names_of.result _ _
    (λ names is. is ∙ (ap (λ (bs : List Binding). map (λ (b : Binding). b.name) bs) (c.as_slice.ensures.value ∙ c.in_ok-bindings.ensures.bindings) ∙ names_back (poll_names c.args.target.now)))
    c.names_of.ensures
