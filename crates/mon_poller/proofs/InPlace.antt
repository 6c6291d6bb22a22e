-- What is read of a response in place.
use Rattle.std.proofs.Common.{◌≡◌, ℕ, suc, ◌+◌, ◌<◌, ◌≤◌, true, List, [], ◌∷◌, ◌++◌, length, take, drop, get_or, ◌-◌, pos, Ok, refl, sym, ap, subst, ◌∙◌, append_assoc, append-nil, arith, Option, Some, None}
use Rattle.std.specs.List.{flat_map}
use Rattle.std.specs.Str.{bytes_eq}
use Rattle.std.proofs.Math.ListN.{drop_of_length-le}
use Rattle.std.proofs.Math.Seq.{drop-cons, take-length}
use Rattle.std.proofs.lemmas.Slice.Eq.{bytes_eq-Decides}
use Rattle.mon_ber.specs.declared.value.Value.{Value}
use Rattle.mon_ber.specs.declared.value.Value.TheVariants.{Name}
use Rattle.mon_ber.specs.Grammar.{Spells}
use Rattle.mon_ber.specs.Sequence.{AreSpelled}
use Rattle.mon_pdu.specs.declared.frame.Frame.{Frame}
use Rattle.mon_pdu.specs.declared.message.Binding.{Binding}
use Rattle.mon_pdu.specs.Grammar.{IsBinding}
use Rattle.mon_poller.specs.declared.poller.Offered.{Offered}
use Rattle.mon_poller.specs.declared.target.Object.{Object}
use Rattle.mon_poller.specs.InPlace.{IsRead, IsSampled, OffersSo, framed_pdu, given}
use Rattle.mon_poller.specs.declared.target.Target.{Target}
use Rattle.mon_poller.specs.Stamp.{Stamp, engine_boots_name, engine_id_name, engine_time_name, discontinuity_in, octets_in, stamp_number, stamp_of_values}
use Rattle.mon_poller.specs.Target.{SpellNames, name_of_discontinuity, object_names, poll_names}
use Rattle.mon_poller.specs.Verdict.{have_names, object_offers, poll_answer, sample_of, sampled_at, stamp_and_others, target_offers}

-- what follows the first n, as a pattern of a slice has it
abbrev pub behind : {A : Type 0} → ℕ → List A → List A
behind n xs = take (length xs - n) (drop n xs)

-- a list by its first
pub begins : {A : Type 0} (xs : List A) (x : A) → 1 ≤ length xs → x ≡ get_or xs 0 x → xs ≡ x ∷ behind 1 xs
begins [] x some is = absurd (omega arith)
begins (y ∷ ys) x some is =
    let rest : length (y ∷ ys) - 1 ≡ length ys = omega arith in
    ap (λ y'. y' ∷ ys) (sym is) ∙ ap (λ zs. x ∷ zs) (sym (ap (λ n. take n ys) rest ∙ take-length ys))

-- a list of nothing
pub nothing : {A : Type 0} (xs : List A) → length xs < 1 → xs ≡ []
nothing [] few = refl
nothing (x ∷ xs) few = absurd (omega arith)

-- a name is itself
same_name : (name : List ℕ) → bytes_eq name name ≡ true
same_name name = (bytes_eq-Decides name name).1 refl

-- the binding of this name and value
abbrev pub bound : List ℕ → Value → Binding
bound name v = record { name = name; value = v }

-- the first of spelled names, and its value
pub read_first : (names : List (List ℕ)) (text : List ℕ) (others : List (List ℕ)) (list rest : List ℕ) (v : Value) → names ≡ text ∷ others
    → ((name : List ℕ) → Spells text (Name name) → (spelled : List ℕ) × IsBinding spelled (bound name v) × (list ≡ spelled ++ rest)) → IsRead names list v others rest
read_first names text others list rest v is found = record {
  found = λ name more spelled.
      let both : SpellNames (text ∷ others) (name ∷ more) = subst (λ (ns : List (List ℕ)). SpellNames ns (name ∷ more)) is spelled in
      let binding = found name both.0 in (binding.0, binding.1, binding.2, both.1);
}

-- an object without a discontinuity, and one with this discontinuity
abbrev pub plain : ℕ → List ℕ → Object
plain instance name = record { instance = instance; name = name; discontinuity = None }

abbrev pub marked : ℕ → List ℕ → List ℕ → Object
marked instance name discontinuity = record { instance = instance; name = name; discontinuity = Some discontinuity }

-- names and octets are left for these objects; what they offer completes what all objects offer
pub record IsLeft (stamp : Stamp) (all : List Object) (whole : List ℕ) (old : List (ℕ × ℕ)) (objects : List Object) (names : List (List ℕ)) (list : List ℕ) (now : List (ℕ × ℕ)) : Type 0 where
  pub spelled : SpellNames names (flat_map object_names objects)
  pub offers : (new : List (ℕ × ℕ)) → OffersSo stamp objects list now new → OffersSo stamp all whole old new

module _ (stamp : Stamp) where
  -- where no object is left no octets are
  pub none_left : (objects : List Object) (list : List ℕ) (pairs : List (ℕ × ℕ)) → objects ≡ [] → list ≡ [] → OffersSo stamp objects list pairs pairs
  unfolding object_offers
  none_left objects list pairs none end = subst (λ (os : List Object). OffersSo stamp os list pairs pairs) (sym none) (record { bindings = []; spelled = end; named = refl; offers = sym (append-nil pairs) })

  module _ (instance : ℕ) (name : List ℕ) (os : List Object) (list text rest : List ℕ) (v : Value) (is : IsBinding text (bound name v)) (whole : list ≡ text ++ rest) (old : List (ℕ × ℕ)) where
    one_plain : (mid new : List (ℕ × ℕ)) → mid ≡ old ++ given instance (sampled_at stamp v (Some 0)) → OffersSo stamp os rest mid new → OffersSo stamp (plain instance name ∷ os) list old new
    unfolding object_offers sample_of
    one_plain mid new put h = record {
      bindings = bound name v ∷ h.bindings;
      spelled = (text, rest, whole, is, h.spelled);
      named = rw (same_name name) h.named;
      offers = h.offers ∙ ap (λ xs. xs ++ object_offers stamp os h.bindings) put ∙ append_assoc old (given instance (sampled_at stamp v (Some 0))) (object_offers stamp os h.bindings);
    }

    module _ (discontinuity text2 rest2 : List ℕ) (w : Value) (is2 : IsBinding text2 (bound discontinuity w)) (whole2 : rest ≡ text2 ++ rest2) where
      one_with_discontinuity : (mid new : List (ℕ × ℕ)) → mid ≡ old ++ given instance (sampled_at stamp v (discontinuity_in w)) → OffersSo stamp os rest2 mid new → OffersSo stamp (marked instance name discontinuity ∷ os) list old new
      unfolding object_offers sample_of
      one_with_discontinuity mid new put h = record {
        bindings = bound name v ∷ bound discontinuity w ∷ h.bindings;
        spelled = (text, rest, whole, is, (text2, rest2, whole2, is2, h.spelled));
        named = rw (same_name name, same_name discontinuity) h.named;
        offers = h.offers ∙ ap (λ xs. xs ++ object_offers stamp os h.bindings) put ∙ append_assoc old (given instance (sampled_at stamp v (discontinuity_in w))) (object_offers stamp os h.bindings);
      }

  module _ (instance : ℕ) (name : List ℕ) (os : List Object) (names : List (List ℕ)) (list : List ℕ) (sample : Option ℕ) (others : List (List ℕ)) (rest : List ℕ) where
    -- what an object offers comes before what the others offer
    offers_first : (d : Option (List ℕ)) → SpellNames names (name ∷ (name_of_discontinuity d ++ flat_map object_names os)) → IsSampled stamp d names list sample others rest
        → (old mid new : List (ℕ × ℕ)) → mid ≡ old ++ given instance sample → OffersSo stamp os rest mid new → OffersSo stamp (record { instance = instance; name = name; discontinuity = d } ∷ os) list old new
    offers_first None spelled s old mid new put h =
        let found = s.read.found name (flat_map object_names os) spelled in
        one_plain instance name os list found.0 rest s.value found.1 (found.2 ∙ ap (λ xs. found.0 ++ xs) (sym s.marked.2)) old mid new (put ∙ ap (λ x. old ++ given instance x) (s.sampled ∙ ap (sampled_at stamp s.value) s.marked.0)) h
    offers_first (Some d) spelled s old mid new put h =
        let found = s.read.found name (d ∷ flat_map object_names os) spelled in
        let found2 = s.marked.1.found d (flat_map object_names os) found.3 in
        one_with_discontinuity instance name os list found.0 s.list_between s.value found.1 found.2 old d found2.0 rest s.marked.0 found2.1 found2.2 mid new (put ∙ ap (λ x. old ++ given instance x) (s.sampled ∙ ap (sampled_at stamp s.value) s.marked.2)) h

    names_behind : (d : Option (List ℕ)) → SpellNames names (name ∷ (name_of_discontinuity d ++ flat_map object_names os)) → IsSampled stamp d names list sample others rest → SpellNames others (flat_map object_names os)
    names_behind None spelled s = subst (λ (ns : List (List ℕ)). SpellNames ns (flat_map object_names os)) (sym s.marked.1) (s.read.found name (flat_map object_names os) spelled).3
    names_behind (Some d) spelled s = (s.marked.1.found d (flat_map object_names os) (s.read.found name (d ∷ flat_map object_names os) spelled).3).3

  module _ (all : List Object) (whole : List ℕ) (old : List (ℕ × ℕ)) (i : ℕ) (names : List (List ℕ)) (list : List ℕ) (now : List (ℕ × ℕ)) (left : IsLeft stamp all whole old (drop i all) names list now) where
    -- one object more is read
    pub one_less : (o : Object) (sample : Option ℕ) (others : List (List ℕ)) (rest : List ℕ) (next : List (ℕ × ℕ)) → i < length all → o ≡ get_or all i o
        → IsSampled stamp o.discontinuity names list sample others rest → next ≡ now ++ given o.instance sample → IsLeft stamp all whole old (drop (i + 1) all) others rest next
    one_less o sample others rest next lt is s put =
        let os = drop (i + 1) all in
        let after : suc i ≡ i + 1 = omega arith in
        let cut : drop i all ≡ o ∷ os = drop-cons all i o lt ∙ (λ j. sym is j ∷ drop (after j) all) in
        let at : IsLeft stamp all whole old (o ∷ os) names list now = subst (λ (xs : List Object). IsLeft stamp all whole old xs names list now) cut left in record {
          spelled = names_behind o.instance o.name os names list sample others rest o.discontinuity at.spelled s;
          offers = λ new h. at.offers new (offers_first o.instance o.name os names list sample others rest o.discontinuity at.spelled s now next new put h);
        }

    -- all are read, and no octets are left
    pub all_read : length all ≤ i → list ≡ [] → OffersSo stamp all whole old now
    all_read last end = left.offers now (none_left (drop i all) list now (drop_of_length-le all {i = i} last) end)

-- the stamp's bindings, and others
abbrev pub stamped : Value → Value → Value → List Binding → List Binding
stamped engine boots time others = bound engine_id_name engine ∷ bound engine_boots_name boots ∷ bound engine_time_name time ∷ others

-- the values of a stamp's three names are read
module _ (t : Target) (names names1 names2 names3 : List (List ℕ)) (list list1 list2 list3 : List ℕ) (engine boots time : Value) (spelled : SpellNames names (poll_names t))
    (first : IsRead names list engine names1 list1) (second : IsRead names1 list1 boots names2 list2) (third : IsRead names2 list2 time names3 list3) where
  -- the objects' names are left
  pub objects_left : SpellNames names3 (flat_map object_names t.objects)
  objects_left =
      let objects = flat_map object_names t.objects in
      let found = first.found engine_id_name (engine_boots_name ∷ engine_time_name ∷ objects) spelled in
      let found2 = second.found engine_boots_name (engine_time_name ∷ objects) found.3 in
      (third.found engine_time_name objects found2.3).3

  -- the octets spell the stamp's bindings, and the others
  pub stamp_spelled : (others : List Binding) → AreSpelled IsBinding list3 others → AreSpelled IsBinding list (stamped engine boots time others)
  stamp_spelled others rest =
      let objects = flat_map object_names t.objects in
      let found = first.found engine_id_name (engine_boots_name ∷ engine_time_name ∷ objects) spelled in
      let found2 = second.found engine_boots_name (engine_time_name ∷ objects) found.3 in
      let found3 = third.found engine_time_name objects found2.3 in (found.0, list1, found.2, found.1, (found2.0, list2, found2.2, found2.1, (found3.0, list3, found3.2, found3.1, rest)))

-- they have the names of a poll if the others do
pub stamped_named : (t : Target) (engine boots time : Value) (others : List Binding) → have_names (flat_map object_names t.objects) others ≡ true → have_names (poll_names t) (stamped engine boots time others) ≡ true
stamped_named t engine boots time others named = rw (same_name engine_id_name, same_name engine_boots_name, same_name engine_time_name) named

-- a stamp of these numbers and of the target's own engine
pub own_stamp : (engine : List ℕ) (e b n : Value) (boots time : ℕ) → octets_in e ≡ Some engine → stamp_number b ≡ Some boots → stamp_number n ≡ Some time
    → stamp_of_values e b n ≡ Some (record { engine = engine; boots = boots; time = time })
own_stamp engine e b n boots time is is2 is3 = rw (is, is2, is3) refl

-- what they offer of a target whose stamp it is
pub stamped_offers : (number : ℕ) (t : Target) (s : Stamp) (engine boots time : Value) (others : List Binding) → stamp_of_values engine boots time ≡ Some s
    → s.engine ≡ t.engine → target_offers number t (stamped engine boots time others) ≡ Ok (record { target = number; boots = s.boots; time = s.time; pairs = object_offers s t.objects others })
unfolding target_offers stamp_and_others
stamped_offers number t s engine boots time others is own =
    let same : bytes_eq s.engine t.engine ≡ true = (bytes_eq-Decides s.engine t.engine).1 own in
    rw (is, same) refl

-- what a Response without an error offers
pub framed_answer : (number : ℕ) (t : Target) (f : Frame) (bindings : List Binding) (offered : Offered) → f.error_status ≡ pos 0 → have_names (poll_names t) bindings ≡ true
    → target_offers number t bindings ≡ Ok offered → poll_answer number t (framed_pdu f bindings) ≡ Ok offered
unfolding poll_answer
framed_answer number t f bindings offered status named offers = rw (status, named, offers) refl
