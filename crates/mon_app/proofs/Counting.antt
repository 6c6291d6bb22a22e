-- How many instances there are.
use Rattle.std.proofs.Common.{◌≡◌, ℕ, ◌+◌, ◌<◌, ◌≤◌, Bool, true, false, cond, not, ◌||◌, List, [], ◌∷◌, ◌++◌, Bor, length, get_or, take, drop, map, refl, sym, ap, ◌∙◌, subst, append_assoc, arith, Option, Some, None, Result, Ok, Err}
use Rattle.std.specs.Prelude.{IfOk}
use Rattle.std.specs.Ordering.{nat_cmp, is_eq, eq_by_cmp, ordering_then}
use Rattle.std.specs.Cmp.Lexicographic.{slice_cmp, nat_list_cmp_total}
use Rattle.std.specs.Result.{is_err}
use Rattle.std.specs.List.{list_any, filter_map, cons_option}
use Rattle.std.specs.FinSet as finite
use Rattle.std.specs.FinSet.{contains, from_list, len, contains-from_list, contains-insert, len-insert}
use Rattle.std.proofs.lemmas.Bool.{or_left, true≢false}
use Rattle.std.proofs.lemmas.Cmp.{tied_itself}
use Rattle.std.proofs.lemmas.List.{take_more, take-append-drop, append-nil, length_push}
use Rattle.std.proofs.lemmas.List.Elements.{filter_map-append}
use Rattle.std.proofs.lemmas.List.Folds.{list_any_at}
use Rattle.mon_pdu.specs.declared.message.Binding.{Binding}
use Rattle.mon_window.specs.Top.{rising}
use Rattle.mon_window.proofs.Promised.{insert-known, contains-rising, from_list-rising, len-rising, len_within}
use Rattle.mon_board.specs.declared.instance.Instance.{Instance}
use Rattle.mon_poller.specs.Stamp.{Stamp}
use Rattle.mon_app.specs.Offer.{Offer}
use Rattle.mon_app.specs.declared.table.Row.{Row}
use Rattle.mon_app.specs.Find.{StandsAt, instances_of}
use Rattle.mon_board.specs.Instance.{instance_cmp, named}
use Rattle.mon_app.specs.Reading.{offer_in, offers_of}
use Rattle.mon_app.specs.Windows.{instances, rows_of}
use Rattle.mon_board.proofs.Promised.{instance_cmp_total, instance_cmp-IsAntisymmetric}
use Rattle.mon_app.proofs.Windows.{instances-push, listed, length-rows}

pub not_true : (b : Bool) → not b ≡ true → b ≡ false
not_true true e = absurd (true≢false (sym e))
not_true false e = refl

pub not_false : (b : Bool) → not b ≡ false → b ≡ true
not_false true e = refl
not_false false e = absurd (true≢false e)

or_again : (a b c : Bool) → (a || (b || c)) ≡ ((a || b) || c)
or_again true b c = refl
or_again false b c = refl

or_nothing : (a : Bool) → (a || false) ≡ a
or_nothing true = refl
or_nothing false = refl

or_swapped : (a b : Bool) → (a || b) ≡ (b || a)
or_swapped true true = refl
or_swapped true false = refl
or_swapped false true = refl
or_swapped false false = refl

any_push : {X : Type 0} (p : X → Bool) (xs : List X) (y : X) → list_any p (xs ++ y ∷ []) ≡ (list_any p xs || p y)
any_push p [] y = or_nothing (p y)
any_push p (x ∷ xs) y = ap (λ b. p x || b) (any_push p xs y) ∙ or_again (p x) (list_any p xs) (p y)

any_split : (p : Instance → Bool) (xs ys : List Offer) → list_any p (map (λ o. o.instance) (xs ++ ys)) ≡ (list_any p (map (λ o. o.instance) xs) || list_any (λ o. p o.instance) ys)
any_split p [] [] = refl
any_split p [] (y ∷ ys) = ap (λ b. p y.instance || b) (any_split p [] ys)
any_split p (x ∷ xs) ys = ap (λ b. p x.instance || b) (any_split p xs ys) ∙ or_again (p x.instance) (list_any p (map (λ o. o.instance) xs)) (list_any (λ o. p o.instance) ys)

contains_more : (taken more : List Offer) (i : Instance) → contains (instances (taken ++ more)) i ≡ (contains (instances taken) i || list_any (λ o. eq_by_cmp instance_cmp i o.instance) more)
unfolding instances
contains_more taken more i =
    contains-from_list instance_cmp_total (map (λ (o : Offer). o.instance) (taken ++ more)) i
    ∙ any_split (eq_by_cmp instance_cmp i) taken more
    ∙ ap (λ b. b || list_any (λ (o : Offer). eq_by_cmp instance_cmp i o.instance) more) (sym (contains-from_list instance_cmp_total (map (λ (o : Offer). o.instance) taken) i))

-- more offers are of no fewer instances
pub no_fewer : (taken more : List Offer) → len (instances taken) ≤ len (instances (taken ++ more))
no_fewer taken more =
    len_within instance_cmp_total instance_cmp-IsAntisymmetric (instances taken) (instances (taken ++ more)) (λ q m.
    contains_more taken more q ∙ or_left (contains (instances taken) q) (list_any (λ (o : Offer). eq_by_cmp instance_cmp q o.instance) more) m)

pub rows_counted : (n : ℕ) (taken : List Offer) (rows : List Row) → rows ≡ rows_of n taken → length rows ≡ len (instances taken)
rows_counted n taken rows is = length-rows n taken rows is ∙ sym (len-rising instance_cmp_total instance_cmp-IsAntisymmetric (instances taken))

-- an offer is of one instance
one_at_most : (taken : List Offer) (x : Offer) → len (instances (taken ++ x ∷ [])) ≤ len (instances taken) + 1
one_at_most taken x =
    subst (λ n. n ≤ len (instances taken) + 1) (sym (ap len (instances-push taken x) ∙ len-insert instance_cmp_total (instances taken) x.instance))
    (by_test (contains (instances taken) x.instance))
  where
    by_test : (t : Bool) → cond t (len (instances taken)) (len (instances taken) + 1) ≤ len (instances taken) + 1
    by_test true = omega arith
    by_test false = omega arith

-- offers add no more instances than there are offers
no_more : (taken more : List Offer) → len (instances (taken ++ more)) ≤ len (instances taken) + length more
no_more taken [] = subst (λ xs. len (instances xs) ≤ len (instances taken) + 0) (sym (append-nil taken)) (omega arith)
no_more taken (x ∷ xs) =
    let one : len (instances (taken ++ x ∷ [])) ≤ len (instances taken) + 1 = one_at_most taken x in
    let others : len (instances ((taken ++ x ∷ []) ++ xs)) ≤ len (instances (taken ++ x ∷ [])) + length xs = no_more (taken ++ x ∷ []) xs in
    subst (λ ys. len (instances ys) ≤ len (instances taken) + length (x ∷ xs)) (append_assoc taken (x ∷ []) xs) (omega arith)

-- variable bindings offer no more samples than there are bindings
few_offers : (stamp : Stamp) (bs : List Binding) → length (offers_of stamp bs) ≤ length bs
unfolding offers_of
few_offers stamp [] = omega arith
few_offers stamp (b ∷ bs) = by_offer (offer_in stamp b) (few_offers stamp bs)
  where
    by_offer : (o : Option Offer) → length (offers_of stamp bs) ≤ length bs → length (cons_option o (offers_of stamp bs)) ≤ length (b ∷ bs)
    by_offer (Some x) others = omega arith
    by_offer None others = omega arith

-- all instances of a response fit if as many as it has bindings do
pub all_fit : (n : ℕ) (taken : List Offer) (rows : List Row) (stamp : Stamp) (bs : List Binding) → rows ≡ rows_of n taken → length rows + length bs ≤ 256
    → len (instances (taken ++ offers_of stamp bs)) ≤ 256
all_fit n taken rows stamp bs is room =
    let held : length rows ≡ len (instances taken) = rows_counted n taken rows is in
    let more : len (instances (taken ++ offers_of stamp bs)) ≤ len (instances taken) + length (offers_of stamp bs) = no_more taken (offers_of stamp bs) in
    let few : length (offers_of stamp bs) ≤ length bs = few_offers stamp bs in
    omega arith

-- what a search says of the instances
pub held : (n : ℕ) (taken : List Offer) (rows : List Row) → rows ≡ rows_of n taken → (i : Instance) (r : Result ℕ ℕ) → IfOk r (λ at. at < length rows)
    → StandsAt (instances_of rows) i r → is_err r ≡ not (contains (instances taken) i)
held n taken rows is i (Ok at) bound found =
    let stands : get_or (rising (instances taken)) at i ≡ i = sym (ap (λ ys. get_or ys at i) (listed n taken rows is)) ∙ found i in
    let at_xs : at < length (rising (instances taken)) = omega (arith, length-rows n taken rows is) in
    let itself : eq_by_cmp instance_cmp i (get_or (rising (instances taken)) at i) ≡ true = ap (eq_by_cmp instance_cmp i) stands ∙ ap is_eq (tied_itself instance_cmp_total i) in
    let has : contains (instances taken) i ≡ true =
    contains-rising instance_cmp_total instance_cmp-IsAntisymmetric (instances taken) i ∙ list_any_at (eq_by_cmp instance_cmp i) (rising (instances taken)) at i at_xs itself in
    ap not (sym has)
held n taken rows is i (Err at) bound place =
    let absent : contains (instances taken) i ≡ false =
    ap (λ s. contains s i) (sym (from_list-rising instance_cmp_total instance_cmp-IsAntisymmetric (instances taken)) ∙ ap from_list (sym (listed n taken rows is))) ∙ place.absent in
    ap not (sym absent)

-- at one engine instances differ by name
same_engine : (engine a b : List ℕ) → eq_by_cmp instance_cmp (named engine a) (named engine b) ≡ eq_by_cmp (slice_cmp nat_cmp) a b
unfolding instance_cmp
same_engine engine a b = ap (λ o. is_eq (ordering_then o (slice_cmp nat_cmp a b))) (tied_itself nat_list_cmp_total engine)

-- whether a name is among those that are lent
abbrev pub is_one_of : List (Bor (List ℕ)) → List ℕ → Bool
is_one_of names name = list_any (λ other. eq_by_cmp (slice_cmp nat_cmp) name other.now) names

-- the instances of what was taken and of the offers so far: those of the rows, and the fresh names
-- at the engine
pub record Counted (taken offers : List Offer) (engine : List ℕ) (rows : List Row) (fresh : List (Bor (List ℕ))) : Type 0 where
  pub count : len (instances (taken ++ offers)) ≡ length rows + length fresh
  pub covers : (name : List ℕ) → contains (instances (taken ++ offers)) (named engine name) ≡ (contains (instances taken) (named engine name) || is_one_of fresh name)

pub none_counted : (n : ℕ) (taken : List Offer) (engine : List ℕ) (rows : List Row) → rows ≡ rows_of n taken → Counted taken [] engine rows []
none_counted n taken engine rows is = record {
  count = ap (λ xs. len (instances xs)) (append-nil taken) ∙ sym (rows_counted n taken rows is) ∙ omega arith;
  covers = λ name. ap (λ xs. contains (instances xs) (named engine name)) (append-nil taken) ∙ sym (or_nothing (contains (instances taken) (named engine name)));
}

module _ (taken offers : List Offer) (engine : List ℕ) (rows : List Row) (fresh : List (Bor (List ℕ))) (c : Counted taken offers engine rows fresh) (name : List ℕ) (sample : ℕ) where
  abbrev x : Offer
  x = record { instance = named engine name; sample = sample }

  grouped : instances (taken ++ (offers ++ x ∷ [])) ≡ finite.insert (instances (taken ++ offers)) x.instance
  grouped = ap instances (sym (append_assoc taken offers (x ∷ []))) ∙ instances-push (taken ++ offers) x

  contains_one_more : (other : List ℕ) → contains (instances (taken ++ (offers ++ x ∷ []))) (named engine other)
      ≡ (eq_by_cmp (slice_cmp nat_cmp) other name || contains (instances (taken ++ offers)) (named engine other))
  contains_one_more other =
      ap (λ s. contains s (named engine other)) grouped
      ∙ contains-insert instance_cmp_total (instances (taken ++ offers)) x.instance (named engine other)
      ∙ ap (λ b. b || contains (instances (taken ++ offers)) (named engine other)) (same_engine engine other name)

  -- one more offer of a new name
  pub counted_new : (f : Bor (List ℕ)) → f.now ≡ name → (contains (instances taken) (named engine name) || is_one_of fresh name) ≡ false
      → Counted taken (offers ++ x ∷ []) engine rows (fresh ++ f ∷ [])
  counted_new f is new =
      let absent : contains (instances (taken ++ offers)) (named engine name) ≡ false = c.covers name ∙ new in
      record {
        count =
            let more : len (instances (taken ++ (offers ++ x ∷ []))) ≡ len (instances (taken ++ offers)) + 1 =
            ap len grouped ∙ len-insert instance_cmp_total (instances (taken ++ offers)) x.instance
            ∙ ap (λ t. cond t (len (instances (taken ++ offers))) (len (instances (taken ++ offers)) + 1)) absent in
            let one : length (fresh ++ f ∷ []) ≡ length fresh + 1 = length_push fresh f in
            let before : len (instances (taken ++ offers)) ≡ length rows + length fresh = c.count in
            omega arith;
        covers = λ other.
            contains_one_more other
            ∙ ap (λ b. eq_by_cmp (slice_cmp nat_cmp) other name || b) (c.covers other)
            ∙ or_swapped (eq_by_cmp (slice_cmp nat_cmp) other name) (contains (instances taken) (named engine other) || is_one_of fresh other)
            ∙ sym (or_again (contains (instances taken) (named engine other)) (is_one_of fresh other) (eq_by_cmp (slice_cmp nat_cmp) other name))
            ∙ ap (λ b. contains (instances taken) (named engine other) || (is_one_of fresh other || b)) (ap (eq_by_cmp (slice_cmp nat_cmp) other) (sym is))
            ∙ ap (λ b. contains (instances taken) (named engine other) || b) (sym (any_push (λ (g : Bor (List ℕ)). eq_by_cmp (slice_cmp nat_cmp) other g.now) fresh f));
      }

  -- one more offer of a name that is there
  pub counted_known : (contains (instances taken) (named engine name) || is_one_of fresh name) ≡ true → Counted taken (offers ++ x ∷ []) engine rows fresh
  counted_known known =
      let has : contains (instances (taken ++ offers)) (named engine name) ≡ true = c.covers name ∙ known in
      let same : instances (taken ++ (offers ++ x ∷ [])) ≡ instances (taken ++ offers) = grouped ∙ insert-known instance_cmp_total instance_cmp-IsAntisymmetric (instances (taken ++ offers)) (named engine name) has in
      record {
        count = ap len same ∙ c.count;
        covers = λ other. ap (λ s. contains s (named engine other)) same ∙ c.covers other;
      }

-- ---- one binding after the other
offers_push : (stamp : Stamp) (bs : List Binding) (k : ℕ) (b : Binding) → k < length bs → b ≡ get_or bs k b
    → offers_of stamp (take (k + 1) bs) ≡ offers_of stamp (take k bs) ++ offers_of stamp (b ∷ [])
unfolding offers_of
offers_push stamp bs k b lt is =
    ap (filter_map (offer_in stamp)) (take_more bs k b lt ∙ ap (λ y. take k bs ++ y ∷ []) (sym is))
    ∙ filter_map-append (offer_in stamp) (take k bs) (b ∷ [])

one_offer : (stamp : Stamp) (b : Binding) (x : Offer) → offer_in stamp b ≡ Some x → offers_of stamp (b ∷ []) ≡ x ∷ []
unfolding offers_of
one_offer stamp b x e = ap (λ o. cons_option o []) e

no_offer : (stamp : Stamp) (b : Binding) → offer_in stamp b ≡ None → offers_of stamp (b ∷ []) ≡ []
unfolding offers_of
no_offer stamp b e = ap (λ (o : Option Offer). cons_option o []) e

-- a binding that brings a sample
pub offers_more : (stamp : Stamp) (bs : List Binding) (k : ℕ) (b : Binding) (x : Offer) → k < length bs → b ≡ get_or bs k b → offer_in stamp b ≡ Some x
    → offers_of stamp (take (k + 1) bs) ≡ offers_of stamp (take k bs) ++ x ∷ []
offers_more stamp bs k b x lt is e = offers_push stamp bs k b lt is ∙ ap (λ xs. offers_of stamp (take k bs) ++ xs) (one_offer stamp b x e)

-- a binding that brings none
pub offers_same : (stamp : Stamp) (bs : List Binding) (k : ℕ) (b : Binding) → k < length bs → b ≡ get_or bs k b → offer_in stamp b ≡ None
    → offers_of stamp (take (k + 1) bs) ≡ offers_of stamp (take k bs)
offers_same stamp bs k b lt is e = offers_push stamp bs k b lt is ∙ ap (λ xs. offers_of stamp (take k bs) ++ xs) (no_offer stamp b e) ∙ append-nil (offers_of stamp (take k bs))

pub no_offers : (stamp : Stamp) (bs : List Binding) → offers_of stamp (take 0 bs) ≡ []
unfolding offers_of
no_offers stamp [] = refl
no_offers stamp (b ∷ bs) = refl

pub offers_split : (stamp : Stamp) (bs : List Binding) (k : ℕ) → offers_of stamp (take k bs) ++ offers_of stamp (drop k bs) ≡ offers_of stamp bs
unfolding offers_of
offers_split stamp bs k = sym (filter_map-append (offer_in stamp) (take k bs) (drop k bs)) ∙ ap (filter_map (offer_in stamp)) (take-append-drop k bs)

-- if this many instances are counted among the first bindings, all bindings are of no fewer
pub counted_before : (taken : List Offer) (stamp : Stamp) (bs : List Binding) (k : ℕ) (engine : List ℕ) (rows : List Row) (fresh : List (Bor (List ℕ)))
    → Counted taken (offers_of stamp (take k bs)) engine rows fresh → length rows + length fresh ≤ len (instances (taken ++ offers_of stamp bs))
counted_before taken stamp bs k engine rows fresh c =
    let whole : (taken ++ offers_of stamp (take k bs)) ++ offers_of stamp (drop k bs) ≡ taken ++ offers_of stamp bs =
    append_assoc taken (offers_of stamp (take k bs)) (offers_of stamp (drop k bs)) ∙ ap (λ xs. taken ++ xs) (offers_split stamp bs k) in
    let most : len (instances (taken ++ offers_of stamp (take k bs))) ≤ len (instances (taken ++ offers_of stamp bs)) =
    subst (λ xs. len (instances (taken ++ offers_of stamp (take k bs))) ≤ len (instances xs)) whole (no_fewer (taken ++ offers_of stamp (take k bs)) (offers_of stamp (drop k bs))) in
    let count : len (instances (taken ++ offers_of stamp (take k bs))) ≡ length rows + length fresh = c.count in
    omega arith

-- a binding of a new name
pub found_new : (taken : List Offer) (stamp : Stamp) (bs : List Binding) (k : ℕ) (b : Binding) (sample : ℕ) (rows : List Row) (fresh : List (Bor (List ℕ))) (f : Bor (List ℕ))
    → Counted taken (offers_of stamp (take k bs)) stamp.engine rows fresh → k < length bs → b ≡ get_or bs k b
    → offer_in stamp b ≡ Some (record { instance = named stamp.engine b.name; sample = sample }) → f.now ≡ b.name
    → (contains (instances taken) (named stamp.engine b.name) || is_one_of fresh b.name) ≡ false
    → Counted taken (offers_of stamp (take (k + 1) bs)) stamp.engine rows (fresh ++ f ∷ [])
found_new taken stamp bs k b sample rows fresh f counted lt is offered named_so new =
    subst (λ os. Counted taken os stamp.engine rows (fresh ++ f ∷ [])) (sym (offers_more stamp bs k b _ lt is offered))
    (counted_new taken (offers_of stamp (take k bs)) stamp.engine rows fresh counted b.name sample f named_so new)
