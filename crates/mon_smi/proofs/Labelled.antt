-- The labels of identifiers: how a map of them is filled, and how the longest is found.
use Rattle.std.proofs.Common.{◌≡◌, ◌≢◌, ℕ, zero, suc, ◌+◌, ◌-◌, ◌<◌, ◌≤◌, ◌^◌, ◌⊎◌, inl, inr, ⊎_elim, Bool, true, false, cond, List, [], ◌∷◌, ◌++◌, length, get_or, take, drop, Option, Some, None, sym, refl, ap, ◌∙◌, subst, arith, append-nil, append_assoc, length-drop, Bor}
use Rattle.std.specs.Prelude.{if◌then◌else◌, decimal}
use Rattle.std.specs.Option.{option_map, option_map_or}
use Rattle.std.specs.Ordering.{nat_cmp, is_eq}
use Rattle.std.specs.Str.{bytes_eq}
use Rattle.std.specs.Cmp.{eq_by_cmp_equiv}
use Rattle.std.specs.Cmp.Lexicographic.{slice_cmp, nat_list_cmp_total, nat_list_eq_equiv}
use Rattle.std.specs.BTreeMap.{BTreeMap, Updates, get_by}
use Rattle.std.specs.Map.{lookup, IsKeyTest, AreApart, KeepsOthers}
use Rattle.std.specs.Global.{Vec}
use Rattle.std.proofs.lemmas.Bool.{cases_lt}
use Rattle.std.proofs.lemmas.List.{length-take-le, get_or-take, take_all}
use Rattle.std.proofs.lemmas.List.Elements.{All-take}
use Rattle.std.proofs.lemmas.List.Sums.{fold-append}
use Rattle.std.proofs.lemmas.Map.Text.{is_eq-slice_cmp}
use Rattle.std.proofs.lemmas.Slice.Eq.{bytes_eq-Decides}
use Rattle.mon_oid.specs.Oid.{IsOid, dotted}
use Rattle.mon_smi.specs.declared.definition.Definition.{Definition}
use Rattle.mon_smi.specs.declared.fault.NamesFault.{NamesFault}
use Rattle.mon_smi.specs.declared.fault.NamesFault.TheVariants.{OutOfMemory}
use Rattle.mon_smi.specs.Names.{AreDistinct, StandsFor, IsFaultOfName}
use Rattle.mon_smi.specs.Parents.{numbers_of}
use Rattle.mon_smi.specs.Nearest.{dotted_after}
use Rattle.mon_smi.specs.Labels.{is_name_for, is_known, lesser, label_among, label_of, longest, found_at, AreLabels, AreWithin, IsAdded, IsPut, is_meant, name_text, named_by}
use Rattle.mon_smi.proofs.Indexed.{more_is}
use Rattle.mon_smi.proofs.Nearness.{no_cover}
use Rattle.mon_smi.proofs.Standing.{numbers_are}

-- what a name's chain gives are its numbers
pub meant : (defs : List Definition) (w known q : List ℕ) → AreDistinct defs → StandsFor defs w known → q ≡ known ++ [] → numbers_of defs w ≡ Some q
meant defs w known q distinct stands is = (numbers_are defs w q distinct).1 (subst (λ (p : List ℕ). StandsFor defs w p) (sym (append-nil known) ∙ sym is) stands)

-- a name with a fault means no identifier
pub meaningless : (e : NamesFault) (defs : List Definition) (w q : List ℕ) → AreDistinct defs → e ≢ OutOfMemory → IsFaultOfName e defs w [] → IsOid q → numbers_of defs w ≡ Some q → ⊥
meaningless e defs w q distinct other fault oid is = no_cover e defs q w (length q) distinct other fault (q, (numbers_are defs w q distinct).0 is, oid, ([], append-nil q), refl)

-- ---- the map

other_entries : {K X : Type 0} (eq : K → K → Bool) (test : K → Bool) (old new : List (K × X)) → KeepsOthers eq test old new → (other : K → Bool) → IsKeyTest eq other → AreApart test other → lookup other new ≡ lookup other old
unfolding KeepsOthers
other_entries eq test old new h = h

apart : (p q k : List ℕ) → bytes_eq p q ≡ false → is_eq (slice_cmp nat_cmp p k) ≡ true → is_eq (slice_cmp nat_cmp q k) ≡ false
apart p q k other at =
    is_eq-slice_cmp q k ∙ nat_list_eq_equiv.symm q k ∙ sym (nat_list_eq_equiv.congr p k q (sym (is_eq-slice_cmp p k) ∙ at)) ∙ other

-- an insertion changes only what is found for the key
pub inserted : (m n : BTreeMap (Vec ℕ) (Bor (List ℕ))) (key : Vec ℕ) (w : Bor (List ℕ)) → Updates (λ x y. slice_cmp nat_cmp x.items y.items) m n key (Some w) → (q : List ℕ) → found_at n q ≡ cond (bytes_eq key.items q) (Some w.now) (found_at m q)
inserted m n key w h q = go (bytes_eq key.items q) refl
  where
    found : Option (Bor (List ℕ)) → Option (List ℕ)
    found r = option_map (λ (v : Bor (List ℕ)). v.now) r

    go : (t : Bool) → bytes_eq key.items q ≡ t → found_at n q ≡ cond t (Some w.now) (found_at m q)
    go true same = subst (λ (p : List ℕ). found_at n p ≡ Some w.now) ((bytes_eq-Decides key.items q).0 same) (ap found h.1)
    go false other = ap found (other_entries _ _ m.entries n.entries h.3 (λ k. is_eq (slice_cmp nat_cmp q k.items)) (λ x y. (eq_by_cmp_equiv nat_list_cmp_total).congr q x.items y.items) (λ k. apart key.items q k.items other))

-- ---- labels of one definition more

label_step : (defs seen : List Definition) (d : Definition) (q : List ℕ) → label_among defs (seen ++ d ∷ []) q ≡ (if is_name_for defs q d then lesser (label_among defs seen q) d.name else label_among defs seen q)
label_step defs seen d q = fold-append (λ (best : Option (List ℕ)) (e : Definition). if is_name_for defs q e then lesser best e.name else best) None seen (d ∷ [])

pub not_same : (p q : List ℕ) → (p ≡ q → ⊥) → bytes_eq p q ≡ false
not_same p q other = go (bytes_eq p q) refl
  where
    go : (t : Bool) → bytes_eq p q ≡ t → t ≡ false
    go false is = refl
    go true is = absurd (other ((bytes_eq-Decides p q).0 is))

nobody : (r : Option (List ℕ)) (q : List ℕ) → (r ≡ Some q → ⊥) → option_map_or (λ p. bytes_eq p q) r false ≡ false
nobody None q other = refl
nobody (Some p) q other = not_same p q (λ same. other (ap Some same))

-- a name whose identifier has one that is no greater
pub stays : (labels : BTreeMap (Vec ℕ) (Bor (List ℕ))) (p w : List ℕ) → is_known (found_at labels p) w ≡ true → IsPut p w labels labels
stays labels p w known q = go (bytes_eq p q) refl
  where
    go : (t : Bool) → bytes_eq p q ≡ t → found_at labels q ≡ cond t (lesser (found_at labels q) w) (found_at labels q)
    go false other = refl
    go true same = ap (λ (t : Bool). if t then found_at labels q else Some w) (sym (ap (λ (v : List ℕ). is_known (found_at labels v) w) (sym ((bytes_eq-Decides p q).0 same)) ∙ known))

-- a name that is the first of its identifier, or less than the others
pub goes_in : (m n : BTreeMap (Vec ℕ) (Bor (List ℕ))) (key : Vec ℕ) (p w : List ℕ) (name : Bor (List ℕ)) → key.items ≡ p → name.now ≡ w → is_known (found_at m p) w ≡ false → Updates (λ x y. slice_cmp nat_cmp x.items y.items) m n key (Some name) → IsPut p w m n
goes_in m n key p w name key_is name_is new updates q = step ∙ go (bytes_eq p q) refl
  where
    step : found_at n q ≡ cond (bytes_eq p q) (Some w) (found_at m q)
    step = inserted m n key name updates q ∙ ap (λ (k : List ℕ). cond (bytes_eq k q) (Some name.now) (found_at m q)) key_is ∙ ap (λ (v : List ℕ). cond (bytes_eq p q) (Some v) (found_at m q)) name_is

    go : (t : Bool) → bytes_eq p q ≡ t → cond t (Some w) (found_at m q) ≡ cond t (lesser (found_at m q) w) (found_at m q)
    go false other = refl
    go true same = ap (λ (t : Bool). if t then found_at m q else Some w) (sym (ap (λ (v : List ℕ). is_known (found_at m v) w) (sym ((bytes_eq-Decides p q).0 same)) ∙ new))

-- the labels among one definition more
pub labelled : (defs : List Definition) (i : ℕ) (d : Definition) (w : List ℕ) (m n : BTreeMap (Vec ℕ) (Bor (List ℕ))) → i < length defs → d ≡ get_or defs i d → w ≡ d.name → AreLabels defs (take i defs) m → IsAdded defs w m n → AreLabels defs (take (i + 1) defs) n
labelled defs i d w m n lt is named so_far more q oid =
    more q oid
    ∙ ap (λ (l : Option (List ℕ)). if is_meant defs q w then lesser l w else l) (so_far q oid)
    ∙ ap (λ (v : List ℕ). if is_meant defs q v then lesser (label_among defs (take i defs) q) v else label_among defs (take i defs) q) named
    ∙ sym (label_step defs (take i defs) d q) ∙ ap (λ (seen : List Definition). label_among defs seen q) (sym (more_is defs i d lt is))

-- whether a name is known of what the map has
pub asked : (labels : BTreeMap (Vec ℕ) (Bor (List ℕ))) (q p w : List ℕ) (r : Option (Bor (List ℕ))) (t : Bool) → t ≡ is_known (option_map (λ (v : Bor (List ℕ)). v.now) r) w → r ≡ get_by (λ k. slice_cmp nat_cmp q k.items) labels → q ≡ p → is_known (found_at labels p) w ≡ t
asked labels q p w r t is found same = sym (is ∙ ap (λ (o : Option (Bor (List ℕ))). is_known (option_map (λ (v : Bor (List ℕ)). v.now) o) w) found ∙ ap (λ (n : List ℕ). is_known (found_at labels n) w) same)

-- ---- the longest beginning

-- a beginning of an identifier is one too, if it has two numbers
pub begins : (oid : List ℕ) (n : ℕ) → IsOid oid → 2 ≤ n → n ≤ length oid → IsOid (take n oid)
begins oid n is two within =
    let len : length (take n oid) ≡ n = length-take-le n oid within in
    let short : length oid ≤ 128 = is.short in
    let zero_lt : 0 < n = omega arith in
    let one_lt : 1 < n = omega arith in
    let first : get_or (take n oid) 0 0 ≡ get_or oid 0 0 = get_or-take n oid 0 0 zero_lt in
    let second : get_or (take n oid) 1 0 ≡ get_or oid 1 0 = get_or-take n oid 1 0 one_lt in
    record {
      long = omega arith;
      short = omega arith;
      rooted = record {
        first = subst (λ (k : ℕ). k ≤ 2) (sym first) is.rooted.first;
        second = λ small. subst (λ (k : ℕ). k ≤ 39) (sym second) (is.rooted.second (subst (λ (k : ℕ). k < 2) first small));
      };
      small = All-take (λ part. part < 2 ^ 32) n oid is.small;
    }

pub longest_less : (label : List ℕ → Option (List ℕ)) (oid : List ℕ) (n : ℕ) → 2 ≤ n → label (take n oid) ≡ None → longest label oid n ≡ longest label oid (n - 1)
longest_less label oid zero big none = absurd (omega arith)
longest_less label oid (suc zero) big none = absurd (omega arith)
longest_less label oid (suc (suc k)) big none =
    let less : suc k ≡ suc (suc k) - 1 = omega arith in
    ap (λ (r : Option (List ℕ)). option_map_or (λ w. Some (w, suc (suc k))) r (longest label oid (suc k))) none ∙ ap (longest label oid) less

pub longest_here : (label : List ℕ → Option (List ℕ)) (oid w : List ℕ) (n : ℕ) → 2 ≤ n → label (take n oid) ≡ Some w → longest label oid n ≡ Some (w, n)
longest_here label oid w zero big some = absurd (omega arith)
longest_here label oid w (suc zero) big some = absurd (omega arith)
longest_here label oid w (suc (suc k)) big some =
    ap (λ (r : Option (List ℕ)). option_map_or (λ v. Some (v, suc (suc k))) r (longest label oid (suc k))) some

pub longest_none : (label : List ℕ → Option (List ℕ)) (oid : List ℕ) (n : ℕ) → n < 2 → longest label oid n ≡ None
longest_none label oid zero small = refl
longest_none label oid (suc zero) small = refl
longest_none label oid (suc (suc k)) small = absurd (omega arith)

-- lengths of which no beginning has a label are passed over
pub longest_within : (label : List ℕ → Option (List ℕ)) (oid : List ℕ) (k d n : ℕ) → n ≡ d + k → ((m : ℕ) → 2 ≤ m → k < m → m ≤ n → label (take m oid) ≡ None) → longest label oid n ≡ longest label oid k
longest_within label oid k zero n is none =
    let same : n ≡ k = omega (arith, is) in
    ap (longest label oid) same
longest_within label oid k (suc d) n is none =
    step (cases_lt n 2) ∙ longest_within label oid k d (n - 1) (omega (arith, is)) (λ m two lt le. none m two lt (omega (arith, le)))
  where
    step : (n < 2) ⊎ (2 ≤ n) → longest label oid n ≡ longest label oid (n - 1)
    step (inl small) = longest_none label oid n small ∙ sym (longest_none label oid (n - 1) (omega (arith, small)))
    step (inr big) = longest_less label oid n big (none n big (omega (arith, is)) (omega arith))

-- no beginning of an identifier that is longer than all with a label is looked for
pub within_map : (defs : List Definition) (labels : BTreeMap (Vec ℕ) (Bor (List ℕ))) (oid : List ℕ) (bound k : ℕ) → AreLabels defs defs labels → AreWithin bound labels → IsOid oid → k ≤ length oid → (bound ≤ k) ⊎ (length oid ≤ k) → longest (label_of defs) oid (length oid) ≡ longest (label_of defs) oid k
within_map defs labels oid bound k are within is le reach =
    longest_within (label_of defs) oid k (length oid - k) (length oid) (omega (arith, le))
    (λ m two lt fits. ⊎_elim
    (λ bounded.
    sym (are (take m oid) (begins oid m is two fits))
    ∙ within (take m oid) (subst (λ (n : ℕ). bound < n) (sym (length-take-le m oid fits)) (omega (arith, bounded, lt))))
    (λ all. absurd (omega (arith, all, lt, fits)))
    reach)

-- what holds of a map's labels holds with any greater bound
pub widened : (labels : BTreeMap (Vec ℕ) (Bor (List ℕ))) (k n : ℕ) → k ≤ n → AreWithin k labels → AreWithin n labels
widened labels k n le within q long = within q (omega (arith, le, long))

-- a label that is put has as many numbers as it has, and no other label has more than before
pub within_put : (p w : List ℕ) (m n : BTreeMap (Vec ℕ) (Bor (List ℕ))) (k : ℕ) → IsPut p w m n → length p ≤ k → AreWithin k m → AreWithin k n
within_put p w m n k put le within q long =
    put q ∙ ap (λ (t : Bool). if t then lesser (found_at m q) w else found_at m q) (not_same p q (λ same. absurd (omega (arith, le, long, ap length same)))) ∙ within q long

-- ---- how numbers are written

pub dotted_is : (x : ℕ) (xs : List ℕ) → dotted (x ∷ xs) ≡ decimal x ++ dotted_after xs
dotted_is x [] = sym (append-nil (decimal x))
dotted_is x (y ∷ ys) = ap (λ (t : List ℕ). decimal x ++ 46 ∷ t) (dotted_is y ys)

pub dotted_front : (xs : List ℕ) → 1 ≤ length xs → dotted xs ≡ decimal (get_or xs 0 0) ++ dotted_after (take (length xs - 1) (drop 1 xs))
dotted_front [] some = absurd (omega arith)
dotted_front (x ∷ xs) some =
    let enough : length xs ≤ length (x ∷ xs) - 1 = omega arith in
    dotted_is x xs ∙ ap (λ (l : List ℕ). decimal x ++ dotted_after l) (sym (take_all (length (x ∷ xs) - 1) xs enough))

-- a name with the rest is the identifier's text, and so are all its numbers where it has no name
pub with_name : (defs : List Definition) (oid parts w old new : List ℕ) (n : ℕ) → parts ≡ oid → longest (label_of defs) parts (length parts) ≡ Some (w, n) → new ≡ old ++ w → new ++ dotted_after (take (length parts - n) (drop n parts)) ≡ old ++ name_text defs oid
unfolding name_text
with_name defs oid parts w old new n same is new_is =
    let left : length (drop n parts) ≡ length parts - n = length-drop n parts in
    ap (λ (l : List ℕ). new ++ dotted_after l) (take_all (length parts - n) (drop n parts) (omega arith))
    ∙ ap (λ (t : List ℕ). t ++ dotted_after (drop n parts)) new_is ∙ append_assoc old w (dotted_after (drop n parts))
    ∙ ap (λ (b : Option (List ℕ × ℕ)). old ++ named_by parts b) (sym is)
    ∙ ap (λ (l : List ℕ). old ++ named_by l (longest (label_of defs) l (length l))) same

pub without_name : (defs : List Definition) (oid parts old : List ℕ) → parts ≡ oid → longest (label_of defs) parts (length parts) ≡ None → old ++ dotted parts ≡ old ++ name_text defs oid
unfolding name_text
without_name defs oid parts old same is =
    ap (λ (b : Option (List ℕ × ℕ)). old ++ named_by parts b) (sym is)
    ∙ ap (λ (l : List ℕ). old ++ named_by l (longest (label_of defs) l (length l))) same
