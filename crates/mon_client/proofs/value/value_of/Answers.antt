use Rattle.std.proofs.Common.{◌≡◌, ℕ, List, subst, sym, Result, Ok, Err, IfErr}
use Rattle.std.specs.Result.{IsErr, IsErrAnd}
use Rattle.std.specs.Net.Grammar.{IsDotted}
use Rattle.mon_ber.specs.declared.value.Value.{Value}
use Rattle.mon_app.specs.declared.fault.AppFault.{AppFault}
use Rattle.mon_app.specs.declared.fault.AppFault.TheVariants.{OutOfMemory, Timeout, FileFault, SocketFault, NotIncreasing, AgentStatus, BadText}
use Rattle.mon_client.specs.declared.value.ValueKind.{ValueKind}
use Rattle.mon_client.specs.declared.value.ValueKind.TheVariants.{Ip}
use Rattle.mon_client.specs.Meaning.{IsFault, MeansValue}
use Rattle.mon_client.proofs.value.value_of.Goals as goal

refused : (text : List ℕ) (e : AppFault) → IsFault (IsDotted text) e → IsFault (MeansValue Ip text) e
refused text OutOfMemory h = h
refused text Timeout h = h
refused text FileFault h = h
refused text (SocketFault reason) h = h
refused text NotIncreasing h = h
refused text (AgentStatus status index) h = h
refused text BadText h = λ v means. h means.0 means.1

passed : (kind : ValueKind) (text : List ℕ) (r : Result Value AppFault) (e : AppFault) → kind ≡ Ip → IsErr r → IsErrAnd r (λ x. x ≡ e) → IsFault (IsDotted text) e → IfErr r (IsFault (MeansValue kind text))
passed kind text (Ok v) e is err same h = tt
passed kind text (Err x) e is err same h = subst (λ k. IsFault (MeansValue k text) x) (sym is) (subst (λ y. IsFault (MeansValue Ip text) y) (sym same) (refused text e h))

pub returns-in_err-address-in-Ip-clause-fault : goal.returns-in_err-address-in-Ip-clause-fault
returns-in_err-address-in-Ip-clause-fault c =
    let through = c.from_residual-in_err-address-in-Ip.ensures in
    passed c.args.kind c.args.text.now _ c.in_err-address-in-Ip.field-0.0 c.in-Ip.is through.0 through.1 c.in_err-address-in-Ip.ensures.fault
