-- The listing of names.
use Rattle.std.proofs.Common.{◌≡◌, ◌≢◌, ◌<◌, ◌≤◌, ◌+◌, ℕ, true, false, List, [], ◌∷◌, ◌++◌, length, get_or, take, map, refl, sym, ap, subst, ◌∙◌, ◌⊎◌, inl, inr, arith}
use Rattle.std.specs.Borrow.{Bor}
use Rattle.std.specs.Cmp.Lexicographic.{slice_cmp, nat_list_cmp_total}
use Rattle.std.specs.List.{All, Contains, flat_map}
use Rattle.std.specs.List.Sorted.{IsPermutation, IsSorted}
use Rattle.std.specs.Ordering.{is_lt, nat_cmp}
use Rattle.std.specs.declared.cmp.Ordering.TheVariants.{Less}
use Rattle.std.proofs.lemmas.Bool.{cases_lt}
use Rattle.std.proofs.lemmas.List.{get_or-map, get_or-take, length-map, length-take-le, map-append, take_more}
use Rattle.std.proofs.lemmas.List.Elements.{All-push}
use Rattle.std.proofs.lemmas.List.MinMax.{ranks_by}
use Rattle.std.proofs.lemmas.List.Sorted.{sorted_far, Contains-permutation, IsPermutation-sym}
use Rattle.mon_smi.specs.declared.definition.Definition.{Definition}
use Rattle.mon_smi.specs.declared.fault.NamesFault.{NamesFault}
use Rattle.mon_smi.specs.declared.fault.NamesFault.TheVariants as reason
use Rattle.mon_smi.specs.Names.{IsFaultOfNameText}
use Rattle.mon_smi.specs.declared.listing.ListFault.{ListFault}
use Rattle.mon_smi.specs.declared.listing.ListFault.TheVariants.{OutOfMemory, Unnamed}
use Rattle.mon_smi.specs.Listing.{IsFaultAt, IsFirstUnnamed, IsListFault, IsListing, IsMeant, Row, row_cmp, row_line, row_lines, seen, shown_cmp, text_cmp}

-- a lent name
abbrev pub Name : Type 0
Name = Bor (List ℕ)

-- a row with a lent name
abbrev pub Lent : Type 0
Lent = List ℕ × Name

-- what a list of rows has stays so as they are seen
pub seen_each : (P : Row → Type 0) (rows : List Lent) → All (λ r. P (seen r)) rows → All P (map seen rows)
seen_each P [] all k d less = absurd (omega (arith, less))
seen_each P (r ∷ rows) all k d less = subst P (sym (get_or-map seen (r ∷ rows) k r d (omega (arith, less, length-map (r ∷ rows) seen)))) (all k r (omega (arith, less, length-map (r ∷ rows) seen)))

-- and so does their order
pub seen_order : (rows : List Lent) → IsSorted shown_cmp rows → IsSorted row_cmp (map seen rows)
seen_order [] sorted k d low high = absurd (omega (arith, high))
seen_order (r ∷ rows) sorted k d low high =
    let many : length (map seen (r ∷ rows)) ≡ length (r ∷ rows) = length-map (r ∷ rows) seen in
    let here : get_or (map seen (r ∷ rows)) k d ≡ seen (get_or (r ∷ rows) k r) = get_or-map seen (r ∷ rows) k r d (omega (arith, high, many)) in
    let next : get_or (map seen (r ∷ rows)) (k + 1) d ≡ seen (get_or (r ∷ rows) (k + 1) r) = get_or-map seen (r ∷ rows) (k + 1) r d (omega (arith, high, many)) in
    (λ i. is_lt (row_cmp (next i) (here i))) ∙ sorted k r low (omega (arith, high, many))

-- rows that were found, in order, are a listing
pub is_listing : (known : List Definition) (names : List (List ℕ)) (rows : List Lent) (text : List ℕ) → IsPermutation names (map (λ r. r.1.now) rows) → All (λ r. IsMeant known (seen r)) rows → IsSorted shown_cmp rows
    → text ≡ flat_map (λ r. row_line (seen r)) rows → IsListing known names text
is_listing known names rows text same meant order is = record {
  rows = map seen rows;
  same = subst (IsPermutation names) (own rows) same;
  meant = seen_each (IsMeant known) rows meant;
  order = seen_order rows order;
  is = is ∙ lines rows;
}
  where
    lines : (rows : List Lent) → flat_map (λ (r : Lent). row_line (seen r)) rows ≡ row_lines (map seen rows)
    lines [] = refl
    lines (r ∷ rows) = ap (λ (l : List ℕ). row_line (seen r) ++ l) (lines rows)

    own : (rows : List Lent) → map (λ r. r.1.now) rows ≡ map (λ (r : Row). r.1) (map seen rows)
    own [] = refl
    own (r ∷ rows) = ap (λ (l : List (List ℕ)). r.1.now ∷ l) (own rows)

-- of rising names the one at a place, of which all before it were found, is the first without an
-- identifier
pub is_first : (known : List Definition) (names : List Name) (rows : List Lent) (i : ℕ) (d : Name) (fault : NamesFault) → IsSorted text_cmp names → i < length names
    → map (λ r. r.1.now) rows ≡ map (λ n. n.now) (take i names) → All (λ r. IsMeant known (seen r)) rows → IsFaultOfNameText fault known (get_or names i d).now
    → fault ≢ reason.OutOfMemory → IsFirstUnnamed known (map (λ n. n.now) names) (get_or names i d).now fault
is_first known names rows i d fault sorted less same meant why own = record {
  listed = (i, omega (arith, less, length-map names (λ (n : Name). n.now)), get_or-map (λ (n : Name). n.now) names i d (get_or names i d).now less);
  unmeant = why;
  own = own;
  lesser = λ other found before. by_place other found before (cases_lt found.0 i);
}
  where
    texts : List Name → List (List ℕ)
    texts ns = map (λ n. n.now) ns

    by_place : (other : List ℕ) (found : Contains (texts names) other) → slice_cmp nat_cmp other (get_or names i d).now ≡ Less → ((found.0 < i) ⊎ (i ≤ found.0)) → (q : List ℕ) × IsMeant known (q, other)
    by_place other found before (inl first) =
        let j = found.0 in
        let within : j < length names = omega (arith, first, less) in
        let many : length rows ≡ i = sym (length-map rows (λ (r : Lent). r.1.now)) ∙ ap length same ∙ length-map (take i names) (λ (n : Name). n.now) ∙ length-take-le i names (omega (arith, less)) in
        let e : Lent = (other, d) in
        let row = get_or rows j e in
        let there : row.1.now ≡ other =
        sym (get_or-map (λ (r : Lent). r.1.now) rows j e other (omega (arith, first, many)))
        ∙ ap (λ (l : List (List ℕ)). get_or l j other) same
        ∙ get_or-map (λ (n : Name). n.now) (take i names) j d other (omega (arith, first, length-take-le i names (omega (arith, less))))
        ∙ ap (λ (n : Name). n.now) (get_or-take i names j d first)
        ∙ sym (get_or-map (λ (n : Name). n.now) names j d other within) ∙ found.2 in
        (row.0, subst (λ (o : List ℕ). IsMeant known (row.0, o)) there (meant j e (omega (arith, first, many))))
    by_place other found before (inr later) =
        let j = found.0 in
        let within : j < length names = omega (arith, found.1, length-map names (λ (n : Name). n.now)) in
        let there : (get_or names j d).now ≡ other = sym (get_or-map (λ (n : Name). n.now) names j d other within) ∙ found.2 in
        let not : is_lt (slice_cmp nat_cmp (get_or names j d).now (get_or names i d).now) ≡ false =
        sorted_far (λ a b. is_lt (text_cmp a b)) (ranks_by nat_list_cmp_total (λ (n : Name). n.now)) names sorted i j d later within in
        let is_less : is_lt (slice_cmp nat_cmp (get_or names j d).now (get_or names i d).now) ≡ true =
        (λ k. is_lt (slice_cmp nat_cmp (there k) (get_or names i d).now)) ∙ ap is_lt before in
        absurd cc

-- so what is reported of it is a fault of the names
pub is_fault : (known : List Definition) (names : List Name) (rows : List Lent) (i : ℕ) (d : Name) (why : NamesFault) (fault : ListFault) → IsSorted text_cmp names → i < length names
    → map (λ r. r.1.now) rows ≡ map (λ n. n.now) (take i names) → All (λ r. IsMeant known (seen r)) rows → IsFaultOfNameText why known (get_or names i d).now
    → IsFaultAt (get_or names i d).now why fault → IsListFault known (map (λ n. n.now) names) fault
is_fault known names rows i d why OutOfMemory sorted less same meant unmeant at = tt
is_fault known names rows i d why (Unnamed name fault) sorted less same meant unmeant (text, is, own) =
    subst (λ (f : NamesFault). IsFirstUnnamed known (map (λ n. n.now) names) name.now f) (sym is)
    (subst (λ (t : List ℕ). IsFirstUnnamed known (map (λ n. n.now) names) t why) (sym text) (is_first known names rows i d why sorted less same meant unmeant own))

-- a fault of the names in another order is one of the names
pub fault_moved : (known : List Definition) (names moved : List (List ℕ)) (fault : ListFault) → IsPermutation names moved → IsListFault known moved fault → IsListFault known names fault
fault_moved known names moved OutOfMemory same is = tt
fault_moved known names moved (Unnamed name fault) same is = record {
  listed = Contains-permutation moved names name.now (IsPermutation-sym names moved same) is.listed;
  unmeant = is.unmeant;
  own = is.own;
  lesser = λ other found before. is.lesser other (Contains-permutation names moved other same found) before;
}

-- one name more is found
pub found_more : (known : List Definition) (names : List Name) (rows : List Lent) (i : ℕ) (d : Name) (oid : List ℕ) → i < length names → map (λ r. r.1.now) rows ≡ map (λ n. n.now) (take i names)
    → All (λ r. IsMeant known (seen r)) rows → IsMeant known (oid, (get_or names i d).now)
    → (map (λ r. r.1.now) (rows ++ (oid, get_or names i d) ∷ []) ≡ map (λ n. n.now) (take (i + 1) names)) × All (λ r. IsMeant known (seen r)) (rows ++ (oid, get_or names i d) ∷ [])
found_more known names rows i d oid less same all meant = (
  map-append (λ (r : Lent). r.1.now) rows ((oid, get_or names i d) ∷ []) ∙ ap (λ (l : List (List ℕ)). l ++ (get_or names i d).now ∷ []) same
      ∙ sym (map-append (λ (n : Name). n.now) (take i names) (get_or names i d ∷ [])) ∙ ap (λ (l : List Name). map (λ (n : Name). n.now) l) (sym (take_more names i d less)),
  All-push (λ (r : Lent). IsMeant known (seen r)) rows (oid, get_or names i d) all meant,
)
