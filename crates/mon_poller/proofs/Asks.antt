-- The bindings of a poll.
use Rattle.std.proofs.Common.{◌≡◌, ℕ, List, [], ◌∷◌, map, refl, sym, ap, subst, ◌∙◌, Result, Ok, Err}
use Rattle.std.specs.Prelude.{IfOk}
use Rattle.std.specs.List.{AllByRecursion, flat_map}
use Rattle.mon_ber.specs.declared.value.Value.TheVariants.{Name}
use Rattle.mon_ber.specs.Grammar.{Spells}
use Rattle.mon_pdu.specs.declared.message.Binding.{Binding}
use Rattle.mon_poller.specs.declared.target.Object.{Object}
use Rattle.mon_poller.specs.Stamp.{engine_id_name, engine_boots_name, engine_time_name}
use Rattle.mon_poller.specs.Target.{SpellNames, object_names, spelled_name, unspecified}

-- the bindings that ask for the stamp and for these objects
abbrev pub asking_for : List Object → List Binding
asking_for objects = map unspecified (engine_id_name ∷ engine_boots_name ∷ engine_time_name ∷ flat_map object_names objects)

-- the names that are asked for are spelled
pub asked_spelled : (names : List (List ℕ)) → AllByRecursion (λ (b : Binding). Spells (spelled_name b.name) (Name b.name)) (map unspecified names)
    → SpellNames (map (λ (b : Binding). spelled_name b.name) (map unspecified names)) names
asked_spelled [] h = tt
asked_spelled (n ∷ ns) h = (h.0, asked_spelled ns h.1)

-- what spells the bindings' names spells the names that are asked for
pub all_spelled : {E : Type 0} (names : List (List ℕ)) (bs : List Binding) (r : Result (List (List ℕ)) E) → bs ≡ map unspecified names → IfOk r (λ texts. texts ≡ map (λ (b : Binding). spelled_name b.name) bs)
    → IfOk r (λ _. AllByRecursion (λ (b : Binding). Spells (spelled_name b.name) (Name b.name)) bs) → IfOk r (λ texts. SpellNames texts names)
all_spelled names bs (Ok texts) asked is each =
    subst (λ (ts : List (List ℕ)). SpellNames ts names) (sym (is ∙ ap (λ (xs : List Binding). map (λ (b : Binding). spelled_name b.name) xs) asked))
    (asked_spelled names (subst (λ (xs : List Binding). AllByRecursion (λ (b : Binding). Spells (spelled_name b.name) (Name b.name)) xs) asked each))
all_spelled names bs (Err e) asked is each = tt

-- the names of bindings that ask for names are those names
pub names_back : (names : List (List ℕ)) → map (λ (b : Binding). b.name) (map unspecified names) ≡ names
names_back [] = refl
names_back (n ∷ ns) = ap (λ (rest : List (List ℕ)). n ∷ rest) (names_back ns)
