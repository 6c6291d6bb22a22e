-- A fault that `?` hands on.
use Rattle.std.proofs.Common.{◌≡◌, ◌⊎◌, Result, Ok, Err, sym, ap, ◌∙◌, inl, inr}
use Rattle.std.specs.Result.{IsErrAnd}
use Rattle.mon_labels.specs.declared.fault.LabelsFault.{LabelsFault}
use Rattle.mon_labels.specs.declared.fault.LabelsFault.TheVariants.{OutOfMemory}
use Rattle.mon_labels.specs.Table.{Reads}

pub handed_on : {T A : Type 0} (view : T → A) (expected : Result A LabelsFault) (r : Result T LabelsFault) (e : LabelsFault) → IsErrAnd r (λ f. f ≡ e)
    → (e ≡ OutOfMemory) ⊎ (expected ≡ Err e) → Reads view expected r
handed_on view expected (Ok x) e is h = absurd is
handed_on view expected (Err f) e is (inl memory) = inl (is ∙ memory)
handed_on view expected (Err f) e is (inr bad) = inr (bad ∙ ap Err (sym is))
