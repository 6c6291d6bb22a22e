-- What does not resolve is unknown.
use Rattle.std.proofs.Common.{◌≡◌, ◌⊎◌, ℕ, List, Option, Some, None, Result, Err, refl, inl, inr}
use Rattle.std.specs.Prelude.{IsOkUnless}
use Rattle.mon_oid.specs.Oid.{IsOid}
use Rattle.mon_smi.specs.Names.{MeansNumbers}
use Rattle.mon_smi.specs.declared.definition.Definition.{Definition}
use Rattle.mon_smi.specs.declared.fault.NamesFault.{NamesFault}
use Rattle.mon_smi.specs.declared.fault.NamesFault.TheVariants.{OutOfMemory, Duplicate, Formless, Unknown, Cycle, TooDeep, BadIdentifier}
use Rattle.mon_settings.specs.declared.fault.SettingsFault.{SettingsFault}
use Rattle.mon_settings.specs.declared.fault.SettingsFault.TheVariants as fault
use Rattle.mon_settings.specs.declared.key.Key.{Key}
use Rattle.mon_settings.specs.StationAccepted.{Resolves}
use Rattle.mon_settings.specs.Place.{at}
use Rattle.mon_settings.specs.Resolving.{or_unknown, unresolved}

none_found : (k : Key) (o : Option (List ℕ)) → ((q : List ℕ) → o ≡ Some q → ⊥) → (let r : Result (List ℕ) SettingsFault = or_unknown k o in r) ≡ Err (fault.UnknownObject (at k))
none_found k None none = refl
none_found k (Some q) none = absurd (none q refl)

module _ (find : List ℕ → Option (List ℕ)) (k : Key) (defs : List Definition) (text : List ℕ) (means : Resolves defs find) where
  -- a text that was refused for another cause than memory
  unknown : (e : NamesFault) → (IsOkUnless (let r : Result (List ℕ) NamesFault = Err e in r) OutOfMemory → ⊥)
      → ((q : List ℕ) → MeansNumbers defs text q → IsOid q → IsOkUnless (let r : Result (List ℕ) NamesFault = Err e in r) OutOfMemory)
      → (let r : Result (List ℕ) SettingsFault = or_unknown k (find text) in r) ≡ Err (fault.UnknownObject (at k))
  unknown e not_memory accepted = none_found k (find text) (λ q is. let known = (means text q).0 is in not_memory (accepted q known.1 known.0))

  pub unresolved_is : (e : NamesFault)
      → ((q : List ℕ) → MeansNumbers defs text q → IsOid q → IsOkUnless (let r : Result (List ℕ) NamesFault = Err e in r) OutOfMemory)
      → (unresolved k e ≡ fault.OutOfMemory) ⊎ ((let r : Result (List ℕ) SettingsFault = or_unknown k (find text) in r) ≡ Err (unresolved k e))
  unresolved_is OutOfMemory accepted = inl refl
  unresolved_is (Duplicate clash) accepted = inr (unknown (Duplicate clash) (λ h. absurd cc) accepted)
  unresolved_is (Formless form) accepted = inr (unknown (Formless form) (λ h. absurd cc) accepted)
  unresolved_is Unknown accepted = inr (unknown Unknown (λ h. absurd cc) accepted)
  unresolved_is Cycle accepted = inr (unknown Cycle (λ h. absurd cc) accepted)
  unresolved_is TooDeep accepted = inr (unknown TooDeep (λ h. absurd cc) accepted)
  unresolved_is BadIdentifier accepted = inr (unknown BadIdentifier (λ h. absurd cc) accepted)
