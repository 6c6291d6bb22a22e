-- Engine ids that are read one after another.
use Rattle.std.proofs.Common.{◌≡◌, ◌<◌, List, ℕ, Bor, Contains, length, get_or, inl, inr, ⊎_elim, sym, subst}
use Rattle.std.specs.Prelude.{IsErrAnd, Result, Err}
use Rattle.std.specs.Global.{Vec}
use Rattle.std.proofs.lemmas.List.Elements.{Contains-get_or}
use Rattle.mon_console.specs.declared.failure.Failure.{Failure}
use Rattle.mon_carry_commands.specs.Engines.{AreEngines, IsEngine}
use Rattle.mon_carry_commands.proofs.Steps.{failure_is}

-- one that was not read, of these texts
pub unread : (texts : List (Bor (List ℕ))) (text : Bor (List ℕ)) (failure : Failure) (r : Result (Vec (List ℕ)) Failure) → Contains texts text → IsErrAnd r (λ f. f ≡ failure)
    → IsEngine text.now (Err failure) → AreEngines texts r
unread texts text failure r there is why =
    subst (AreEngines texts) (sym (failure_is r failure is)) (⊎_elim (λ memory. inl memory) (λ none. inr (text, there, none)) why)

-- the one at this place was not read
pub read_none : (texts : List (Bor (List ℕ))) (i : ℕ) (d : Bor (List ℕ)) (failure : Failure) (r : Result (Vec (List ℕ)) Failure) → i < length texts
    → IsErrAnd r (λ f. f ≡ failure) → IsEngine (get_or texts i d).now (Err failure) → AreEngines texts r
read_none texts i d failure r lt is why = unread texts (get_or texts i d) failure r (Contains-get_or texts i d lt) is why
