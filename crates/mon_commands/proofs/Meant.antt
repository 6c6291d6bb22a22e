-- What words mean, one after another.
use Rattle.std.proofs.Common.{◌≡◌, List, ℕ, [], ◌∷◌, ◌++◌, ◌<◌, ◌≤◌, ◌+◌, drop, length, map, refl, sym, ap, subst, append_assoc, inl, inr}
use Rattle.std.proofs.Math.ListN.{get_or}
use Rattle.std.proofs.lemmas.List.{append-nil, drop_all, drop_more}
use Rattle.std.specs.Borrow.{Bor}
use Rattle.mon_commands.specs.Query.{AreMeant, IsFirstUnmeant, IsUnmeant}
use Rattle.mon_console.specs.declared.failure.Failure.{Failure}
use Rattle.mon_oid.specs.Oid.{IsOid}
use Rattle.mon_smi.specs.Names.{MeansNumbers}
use Rattle.mon_smi.specs.declared.definition.Definition.{Definition}

-- if the remaining arguments mean something, all arguments mean what was found and then that
pub record LeadsTo (known : List Definition) (all rest oids : List (List ℕ)) : Type 0 where
  pub meant : (others : List (List ℕ)) → AreMeant known rest others → AreMeant known all (oids ++ others)
  pub unmeant : (failure : Failure) → IsFirstUnmeant known rest failure → IsFirstUnmeant known all failure

pub begins : (known : List Definition) (all : List (List ℕ)) → LeadsTo known all all []
begins known all = record { meant = λ others are. are; unmeant = λ failure is. is }

one : (known : List Definition) (all rest oids : List (List ℕ)) (word oid : List ℕ) → LeadsTo known all (word ∷ rest) oids
    → IsOid oid × MeansNumbers known word oid → LeadsTo known all rest (oids ++ oid ∷ [])
one known all rest oids word oid leads means = record {
  meant = λ others are. subst (λ (os : List (List ℕ)). AreMeant known all os) (sym (append_assoc oids (oid ∷ []) others))
      (leads.meant (oid ∷ others) (means.0, means.1, are));
  unmeant = λ failure is. leads.unmeant failure (inr (oid, means.0, means.1, is));
}

text : Bor (List ℕ) → List ℕ
text w = w.now

next : (xs : List (Bor (List ℕ))) (i : ℕ) (d : Bor (List ℕ)) → i < length xs
    → map (λ w. w.now) (drop i xs) ≡ (get_or xs i d).now ∷ map (λ w. w.now) (drop (i + 1) xs)
next xs i d inside = ap (λ (ys : List (Bor (List ℕ))). map (λ w. w.now) ys) (drop_more xs i d inside)

pub found : (known : List Definition) (xs : List (Bor (List ℕ))) (i : ℕ) (d : Bor (List ℕ)) (all oids after : List (List ℕ)) (oid : List ℕ) → i < length xs
    → LeadsTo known all (map (λ w. w.now) (drop i xs)) oids → IsOid oid × MeansNumbers known (get_or xs i d).now oid → after ≡ oids ++ oid ∷ []
    → LeadsTo known all (map (λ w. w.now) (drop (i + 1) xs)) after
found known xs i d all oids after oid inside leads means is =
    subst (λ (os : List (List ℕ)). LeadsTo known all (map (λ w. w.now) (drop (i + 1) xs)) os) (sym is)
    (one known all (map (λ w. w.now) (drop (i + 1) xs)) oids (get_or xs i d).now oid
    (subst (λ (ws : List (List ℕ)). LeadsTo known all ws oids) (next xs i d inside) leads) means)

pub refused : (known : List Definition) (xs : List (Bor (List ℕ))) (i : ℕ) (d : Bor (List ℕ)) (all oids : List (List ℕ)) (failure : Failure) → i < length xs
    → LeadsTo known all (map (λ w. w.now) (drop i xs)) oids → IsUnmeant known (get_or xs i d).now failure → IsFirstUnmeant known all failure
refused known xs i d all oids failure inside leads is =
    (subst (λ (ws : List (List ℕ)). LeadsTo known all ws oids) (next xs i d inside) leads).unmeant failure (inl is)

pub ended : (known : List Definition) (xs : List (Bor (List ℕ))) (i : ℕ) (all oids : List (List ℕ)) → length xs ≤ i
    → LeadsTo known all (map (λ w. w.now) (drop i xs)) oids → AreMeant known all oids
ended known xs i all oids past leads =
    let last = subst (λ (ys : List (Bor (List ℕ))). LeadsTo known all (map (λ w. w.now) ys) oids) (drop_all i xs past) leads in
    subst (λ (os : List (List ℕ)). AreMeant known all os) (append-nil oids) (last.meant [] tt)
