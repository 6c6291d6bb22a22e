-- Names that are added file by file.
use Rattle.std.proofs.Common.{◌≡◌, ◌∙◌, Bool, Bor, List, ℕ, [], ◌∷◌, ◌<◌, ◌≤◌, ◌+◌, cond, drop, false, true, length, map, not, refl, sym, ap, subst}
use Rattle.std.proofs.Math.ListN.{get_or}
use Rattle.std.proofs.lemmas.List.{drop_all, drop_more}
use Rattle.std.specs.Global.{Global}
use Rattle.std.specs.Prelude.{IsErrAnd, Option, Result, Ok, Err, String}
use Rattle.mon_console.specs.Naming.{AreBuiltIn, AreJoinedFrom, AreJoinedFromAll, AreNames, IsAddedFile, is_among, others}
use Rattle.mon_console.specs.declared.failure.Failure.{Failure}
use Rattle.mon_host.specs.AtHost.{AtHost}
use Rattle.mon_host.specs.Log.{GoesOnBy}
use Rattle.mon_host.specs.Then.{Quietly}
use Rattle.mon_host.proofs.Promised.{quietly, stays, then_fails, then_follows}
use Rattle.mon_smi.specs.declared.definition.Definition.{Definition}

-- whatever becomes of these names and the files that are left becomes of those and all files
abbrev pub Leads : (start names : List Definition) (all rest : List (List ℕ)) (before now : Option (List AtHost)) → Type 0
Leads start names all rest before now = (result : Result (List Definition) Failure) (after : Option (List AtHost)) → GoesOnBy (λ log. AreJoinedFromAll names rest log result) now after
    → GoesOnBy (λ log. AreJoinedFromAll start all log result) before after

-- a failure that a `?` made
pub failure_is : {A : Type 0} → (r : Result A Failure) (failure : Failure) → IsErrAnd r (λ f. f ≡ failure) → r ≡ Err failure
failure_is (Ok a) failure is = absurd is
failure_is (Err f) failure is = ap Err is

-- one more file
pub added : (start old new : List Definition) (all rest : List (List ℕ)) (path : List ℕ) (u : Unit) (before now after : Option (List AtHost))
    → Leads start old all (path ∷ rest) before now
    → GoesOnBy (λ log. IsAddedFile path old new log (Ok u)) now after → Leads start new all rest before after
added start old new all rest path u before now after leads done = λ result end later.
    leads result end (then_follows (AreJoinedFrom old path) (λ more. AreJoinedFromAll more rest) (Ok new) result now after end done later)

-- a file that failed
pub failed : (start old new : List Definition) (all rest : List (List ℕ)) (path : List ℕ) (failure : Failure) (before now after : Option (List AtHost))
    → Leads start old all (path ∷ rest) before now
    → GoesOnBy (λ log. IsAddedFile path old new log (Err failure)) now after → GoesOnBy (λ log. AreJoinedFromAll start all log (Err failure)) before after
failed start old new all rest path failure before now after leads done =
    leads (Err failure) after (then_fails (AreJoinedFrom old path) (λ more. AreJoinedFromAll more rest) failure now after done)

-- no file is left
pub ended : (start names : List Definition) (all rest : List (List ℕ)) (before now : Option (List AtHost)) → rest ≡ [] → Leads start names all rest before now
    → GoesOnBy (λ log. AreJoinedFromAll start all log (Ok names)) before now
ended start names all rest before now none leads =
    let nothing : GoesOnBy (λ log. AreJoinedFromAll names [] log (Ok names)) now now = record { more = []; holds = (refl, refl); on = stays now } in
    leads (Ok names) now (subst (λ (ps : List (List ℕ)). GoesOnBy (λ log. AreJoinedFromAll names ps log (Ok names)) now now) (sym none) nothing)

module _ {X : Type 0} (text : X → List ℕ) (start : List Definition) (all : List (List ℕ)) where
  -- the next file, and those after it
  next : (xs : List X) (i : ℕ) (d : X) → i < length xs → map text (drop i xs) ≡ text (get_or xs i d) ∷ map text (drop (i + 1) xs)
  next xs i d inside = ap (λ ys. map text ys) (drop_more xs i d inside)

  pub file_added : (xs : List X) (i : ℕ) (d : X) (path : List ℕ) (old new : List Definition) (u : Unit) (before now after : Option (List AtHost))
      → i < length xs → path ≡ text (get_or xs i d)
      → Leads start old all (map text (drop i xs)) before now → GoesOnBy (λ log. IsAddedFile path old new log (Ok u)) now after
      → Leads start new all (map text (drop (i + 1) xs)) before after
  file_added xs i d path old new u before now after inside is leads done = added start old new all (map text (drop (i + 1) xs)) (text (get_or xs i d)) u before now after
      (subst (λ (ps : List (List ℕ)). Leads start old all ps before now) (next xs i d inside) leads)
      (subst (λ (p : List ℕ). GoesOnBy (λ log. IsAddedFile p old new log (Ok u)) now after) is done)

  pub file_failed : (xs : List X) (i : ℕ) (d : X) (path : List ℕ) (old new : List Definition) (failure : Failure) (before now after : Option (List AtHost))
      → i < length xs
      → path ≡ text (get_or xs i d) → Leads start old all (map text (drop i xs)) before now
      → GoesOnBy (λ log. IsAddedFile path old new log (Err failure)) now after
      → GoesOnBy (λ log. AreJoinedFromAll start all log (Err failure)) before after
  file_failed xs i d path old new failure before now after inside is leads done = failed start old new all (map text (drop (i + 1) xs)) (text (get_or xs i d)) failure before now after
      (subst (λ (ps : List (List ℕ)). Leads start old all ps before now) (next xs i d inside) leads)
      (subst (λ (p : List ℕ). GoesOnBy (λ log. IsAddedFile p old new log (Err failure)) now after) is done)

  pub none_left : (xs : List X) (i : ℕ) (names : List Definition) (before now : Option (List AtHost)) → length xs ≤ i
      → Leads start names all (map text (drop i xs)) before now
      → GoesOnBy (λ log. AreJoinedFromAll start all log (Ok names)) before now
  none_left xs i names before now past leads = ended start names all (map text (drop i xs)) before now (ap (λ ys. map text ys) (drop_all i xs past)) leads

module _ (files : List (String Global)) (start : List Definition) (all : List (List ℕ)) where
  -- the paths that are left, which are none of the files
  abbrev pub rest : List (Bor (List ℕ)) → ℕ → List (List ℕ)
  rest xs i = others files (map (λ p. p.now) (drop i xs))

  next_other : (xs : List (Bor (List ℕ))) (i : ℕ) (d : Bor (List ℕ)) (b : Bool) → i < length xs → is_among files (get_or xs i d).now ≡ b
      → rest xs i ≡ cond (not b) ((get_or xs i d).now ∷ rest xs (i + 1)) (rest xs (i + 1))
  next_other xs i d b inside is = ap (λ ys. others files (map (λ p. p.now) ys)) (drop_more xs i d inside)
      ∙ ap (λ (c : Bool). cond (not c) ((get_or xs i d).now ∷ rest xs (i + 1)) (rest xs (i + 1))) is

  pub other_added : (xs : List (Bor (List ℕ))) (i : ℕ) (d : Bor (List ℕ)) (old new : List Definition) (u : Unit) (before now after : Option (List AtHost))
      → i < length xs
      → is_among files (get_or xs i d).now ≡ false → Leads start old all (rest xs i) before now
      → GoesOnBy (λ log. IsAddedFile (get_or xs i d).now old new log (Ok u)) now after
      → Leads start new all (rest xs (i + 1)) before after
  other_added xs i d old new u before now after inside is leads done = added start old new all (rest xs (i + 1)) (get_or xs i d).now u before now after
      (subst (λ (ps : List (List ℕ)). Leads start old all ps before now) (next_other xs i d false inside is) leads) done

  pub other_failed : (xs : List (Bor (List ℕ))) (i : ℕ) (d : Bor (List ℕ)) (old new : List Definition) (failure : Failure) (before now after : Option (List AtHost)) → i < length xs
      → is_among files (get_or xs i d).now ≡ false → Leads start old all (rest xs i) before now
      → GoesOnBy (λ log. IsAddedFile (get_or xs i d).now old new log (Err failure)) now after
      → GoesOnBy (λ log. AreJoinedFromAll start all log (Err failure)) before after
  other_failed xs i d old new failure before now after inside is leads done = failed start old new all (rest xs (i + 1)) (get_or xs i d).now failure before now after
      (subst (λ (ps : List (List ℕ)). Leads start old all ps before now) (next_other xs i d false inside is) leads) done

  pub other_passed : (xs : List (Bor (List ℕ))) (i : ℕ) (d : Bor (List ℕ)) (names : List Definition) (before now : Option (List AtHost)) → i < length xs
      → is_among files (get_or xs i d).now ≡ true → Leads start names all (rest xs i) before now → Leads start names all (rest xs (i + 1)) before now
  other_passed xs i d names before now inside is leads = subst (λ (ps : List (List ℕ)). Leads start names all ps before now) (next_other xs i d true inside is) leads

  pub no_other_left : (xs : List (Bor (List ℕ))) (i : ℕ) (names : List Definition) (before now : Option (List AtHost)) → length xs ≤ i
      → Leads start names all (rest xs i) before now
      → GoesOnBy (λ log. AreJoinedFromAll start all log (Ok names)) before now
  no_other_left xs i names before now past leads = ended start names all (rest xs i) before now (ap (λ ys. others files (map (λ p. p.now) ys)) (drop_all i xs past)) leads

-- no path is among no files
pub others_of_none : (paths : List (List ℕ)) → others [] paths ≡ paths
others_of_none [] = refl
others_of_none (p ∷ ps) = ap (λ qs. p ∷ qs) (others_of_none ps)

-- the built-in names, and more
pub known : (names : List Definition) (paths : List (List ℕ)) (result : Result (List Definition) Failure) (before after : Option (List AtHost))
    → AreBuiltIn (Ok names)
    → GoesOnBy (λ log. AreJoinedFromAll names paths log result) before after → GoesOnBy (λ log. AreNames paths log result) before after
known names paths result before after is more = then_follows (Quietly AreBuiltIn) (λ names. AreJoinedFromAll names paths) (Ok names) result before before after
    (quietly AreBuiltIn (Ok names) before is) more

-- not even the built-in names
pub unknown : (paths : List (List ℕ)) (failure : Failure) (before : Option (List AtHost)) → AreBuiltIn (Err failure)
    → GoesOnBy (λ log. AreNames paths log (Err failure)) before before
unknown paths failure before is = then_fails (Quietly AreBuiltIn) (λ names. AreJoinedFromAll names paths) failure before before (quietly AreBuiltIn (Err failure) before is)
