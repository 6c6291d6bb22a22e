-- From what is found of a value for an object, to whether a binding is refused and what it changes.
use Rattle.std.proofs.Common.{◌≡◌, ℕ, ◌<◌, List, ◌++◌, refl, sym, ◌∙◌, ap, subst}
use Rattle.std.specs.Prelude.{Result, Ok, Err}
use Rattle.mon_ber.specs.Grammar.{tag_of}
use Rattle.mon_pdu.specs.declared.message.Binding.{Binding}
use Rattle.mon_mib.specs.declared.change.Change.{Change}
use Rattle.mon_mib.specs.declared.object.Object.{Object}
use Rattle.mon_mib.specs.declared.binding_fault.BindingFault.{BindingFault}
use Rattle.mon_mib.specs.declared.binding_fault.BindingFault.TheVariants.{OutOfMemory, Refused}
use Rattle.mon_mib.specs.declared.set_status.SetStatus.{SetStatus}
use Rattle.mon_mib.specs.declared.set_status.SetStatus.TheVariants.{NoAccess, WrongType, WrongLength, WrongValue, NoCreation, NotWritable}
use Rattle.mon_mib.specs.Objects.{prefix_of, syntax_of}
use Rattle.mon_mib.specs.Known.{Known, variable}
use Rattle.mon_mib.specs.Refusal.{IsWritable, IsGround, IsNoStatus, longest, octet_count}
use Rattle.mon_mib.specs.Tried.{IsGroundAt, IsTried, IsJudged}
use Rattle.mon_mib.proofs.Unique.{one_object, at_rest, IsAtRest}

same_object : (x : List ℕ) (o q : Object) → IsWritable x o → IsWritable x q → q ≡ o
same_object x o q w v = one_object q o v.listed w.listed v.under.0 w.under.0 (sym v.under.1 ∙ w.under.1)

module _ (k : Known) (sees : List ℕ → Type 0) (b : Binding) (o : Object) (rest : List ℕ) (seen : sees b.name) (w : IsWritable b.name o)
    (named : b.name ≡ prefix_of o ++ rest) where
  down : (q : SetStatus) → IsGround k sees b q → IsGroundAt k o rest b.value q
  down NoAccess g = g seen
  down NotWritable g = g o w
  down WrongType (p, v, other) = λ same. other (subst (λ q. tag_of b.value ≡ syntax_of q) (sym (same_object b.name o p w v)) same)
  down WrongLength (p, v, long) = subst (λ q. longest q < octet_count b.value) (same_object b.name o p w v) long
  down WrongValue (p, v, none) = subst (λ q. IsNoStatus q b.value) (same_object b.name o p w v) none
  down NoCreation g = λ i only there. g (variable k o i) (record { object = o; instance = i; served = w.listed; there = there; is = refl })
      (sym (named ∙ ap (λ r. prefix_of o ++ r) only))

  up : (q : SetStatus) → IsGroundAt k o rest b.value q → IsGround k sees b q
  up NoAccess g = absurd g
  up NotWritable g = absurd g
  up WrongType other = (o, w, other)
  up WrongLength long = (o, w, long)
  up WrongValue none = (o, w, none)
  up NoCreation g = λ c v same. let at : IsAtRest k o rest c = at_rest k o rest c w.listed (same ∙ named) v in g at.instance at.only at.there

  pub judged : (result : Result Change BindingFault) → IsTried k o rest b.value result → IsJudged k sees b result
  judged (Ok c) made = (
    (λ q g. made.accepted q (down q g)),
    record {
      object = o;
      instance = made.instance;
      served = w.listed;
      there = made.there;
      named = named ∙ ap (λ r. prefix_of o ++ r) made.only;
      is = made.is;
    },
  )
  judged (Err OutOfMemory) tried = tt
  judged (Err (Refused r)) tried = record { ground = up r tried.ground; first = λ q lt g. tried.first q lt (down q g) }
