-- Samples: what is read was laid out so, and what is laid out so is read.
use Rattle.std.proofs.Common.{◌≡◌, ℕ, ◌-◌, ◌<◌, ◌≤◌, ◌^◌, Bool, true, false, List, [], ◌∷◌, ◌++◌, length, Option, Some, None, Result, Ok, Err, refl, sym, ap, subst, ◌∙◌, ◌⊎◌, ◌↔◌, inl, inr, arith}
use Rattle.std.specs.Prelude.{nat_lt, ◌==◌, if◌then◌else◌}
use Rattle.std.specs.declared.cmp.Ordering.TheVariants.{Less, Equal, Greater}
use Rattle.std.specs.List.{AllByRecursion}
use Rattle.std.specs.List.Sorted.{IsStrictlySortedBy}
use Rattle.std.specs.Ordering.{nat_cmp}
use Rattle.std.proofs.lemmas.Bool.{cases_Bool, cases_eq, cases_lt, and_parts, and_from, eqb-true, eq-eqb, ltb-true, lt-ltb}
use Rattle.mon_oid.specs.Steps.{◌>>=◌}
use Rattle.mon_ber.proofs.Promised.{IsBytes, bind_ok, wanted, ok_is, pair_is}
use Rattle.mon_sample.specs.Kind.{kind_tag}
use Rattle.mon_sample.specs.Key.{boots_of, time_of, tag_of, kind_of, IsSample, HasTag, HasStamp, HasValue}
use Rattle.mon_sample.specs.declared.fault.SampleFault.{SampleFault}
use Rattle.mon_sample.specs.declared.fault.SampleFault.TheVariants.{BadTag, BadStamp, BadValue}
use Rattle.mon_sample.specs.Record.{octets_of, spelled}
use Rattle.mon_fields.specs.declared.fault.LayoutFault.{LayoutFault}
use Rattle.mon_fields.specs.declared.fault.LayoutFault.TheVariants.{OutOfMemory, Truncated, BadSample, NotRising}
use Rattle.mon_fields.specs.Layout.{is_sample_number, samples_octets, AreSamples}
use Rattle.mon_fields.specs.Reading.{Fails, field_at, one_by_one, with_front, sample_of, record_at, rises, sample_at, samples_at}
use Rattle.mon_fields.proofs.OneByOne.{Chain, one_by_one_takes, one_by_one_again, goes_on, stops}
use Rattle.mon_fields.proofs.Fields.{bytes_front, field_takes, field_again, record_back, length-octets_of}

pub sample_is : (k : ℕ) → is_sample_number k ≡ true → IsSample k
unfolding is_sample_number
sample_is k e =
    let a = and_parts (kind_tag (kind_of k) == tag_of k) _ e in
    let b = and_parts (nat_lt (boots_of k) (2 ^ 31)) _ a.1 in
    let c = and_parts (nat_lt (time_of k) (2 ^ 31)) _ b.1 in
    record { tag = eqb-true _ _ a.0; stamp = record { boots = ltb-true _ _ b.0; time = ltb-true _ _ c.0 }; value = c.1 }

pub is_sample_when : (k : ℕ) → IsSample k → is_sample_number k ≡ true
unfolding is_sample_number
is_sample_when k is =
    and_from _ _ (eq-eqb _ _ is.tag) (and_from _ _ (lt-ltb _ _ is.stamp.boots) (and_from _ _ (lt-ltb _ _ is.stamp.time) is.value))

-- a sample that is so to the one before it
abbrev pub Follows : Option ℕ → ℕ → Type 0
Follows last s = IsSample s × (rises last s ≡ true)

sample_of_takes : (octets : List ℕ) (s : ℕ) → sample_of octets ≡ Ok s → (spelled octets ≡ s) × IsSample (spelled octets)
unfolding sample_of
sample_of_takes octets s e =
    let w = wanted (is_sample_number (spelled octets)) BadSample (Ok (spelled octets)) s e in
    (ok_is (spelled octets) s w.1, sample_is (spelled octets) w.0)

record_takes : (octets : List ℕ) (s : ℕ) (rest : List ℕ) → IsBytes octets → record_at octets ≡ Ok (s, rest) → (octets ≡ octets_of s ++ rest) × IsSample s
unfolding record_at
record_takes octets s rest b e =
    let made : ℕ × List ℕ = (s, rest) in
    let f = bind_ok (field_at 21 octets) (λ field. sample_of field.0 >>= λ t. Ok (t, field.1)) made e in
    let t = bind_ok (sample_of f.0.0) (λ t. Ok (t, f.0.1)) made f.2 in
    let p = pair_is t.0 f.0.1 s rest t.2 in
    let c = field_takes 21 octets f.0.0 f.0.1 f.1 in
    let of = sample_of_takes f.0.0 t.0 t.1 in
    let bytes = bytes_front f.0.0 f.0.1 (subst (λ (v : List ℕ). IsBytes v) c.0 b) in
    let same : f.0.0 ≡ octets_of t.0 = sym (record_back f.0.0 c.1 bytes) ∙ ap octets_of of.0 in
    (c.0 ∙ (λ i. same i ++ p.1 i) ∙ ap (λ (k : ℕ). octets_of k ++ rest) p.0, subst (λ (k : ℕ). IsSample k) (of.0 ∙ p.0) of.1)

pub sample_takes : (last : Option ℕ) (octets : List ℕ) (s : ℕ) (rest : List ℕ) → IsBytes octets → sample_at last octets ≡ Ok (s, rest) → (octets ≡ octets_of s ++ rest) × Follows last s
unfolding sample_at
sample_takes last octets s rest b e =
    let made : ℕ × List ℕ = (s, rest) in
    let t = bind_ok (record_at octets) (λ t. if rises last t.0 then Ok t else Err NotRising) made e in
    let w = wanted (rises last t.0.0) NotRising (Ok t.0) made t.2 in
    let p = pair_is t.0.0 t.0.1 s rest w.1 in
    let r = record_takes octets t.0.0 t.0.1 b t.1 in
    (r.0 ∙ (λ i. octets_of (p.0 i) ++ p.1 i), (subst (λ (k : ℕ). IsSample k) p.0 r.1, subst (λ (k : ℕ). rises last k ≡ true) p.0 w.0))

-- ---- lists of them
less_when : (p x : ℕ) → p < x → nat_cmp p x ≡ Less
less_when p x lt = rw (lt-ltb p x lt)

lt_when : (p x : ℕ) → nat_cmp p x ≡ Less → nat_lt p x ≡ true
lt_when p x e = elim (cases_Bool (nat_lt p x)) [
  | inl is ↦ is
  | inr not ↦
      let other : (if p == x then Equal else Greater) ≡ Less = rw not at e in
      absurd (elim (cases_Bool (p == x)) [
        | inl same ↦ (let no : Equal ≡ Less = rw same at other in cc)
        | inr differ ↦ (let no : Greater ≡ Less = rw differ at other in cc)
      ])
]

above_all : (p q : ℕ) (xs : List ℕ) → p ≤ q → Chain Follows (Some q) xs → AllByRecursion (λ y. nat_cmp p y ≡ Less) xs
above_all p q [] le c = tt
above_all p q (x ∷ xs) le c =
    let lt : q < x = ltb-true q x c.0.1 in
    (less_when p x (omega (arith, lt, le)), above_all p x xs (omega (arith, lt, le)) c.1)

sorted_from : (last : Option ℕ) (xs : List ℕ) → Chain Follows last xs → IsStrictlySortedBy nat_cmp xs
unfolding IsStrictlySortedBy
sorted_from last [] c = tt
sorted_from last (x ∷ xs) c = (above_all x x xs (omega arith) c.1, sorted_from (Some x) xs c.1)

each_from : (last : Option ℕ) (xs : List ℕ) → Chain Follows last xs → AllByRecursion IsSample xs
each_from last [] c = tt
each_from last (x ∷ xs) c = (c.0.0, each_from (Some x) xs c.1)

chain_from : (last : Option ℕ) (xs : List ℕ) → AllByRecursion (λ y. rises last y ≡ true) xs → AllByRecursion IsSample xs → IsStrictlySortedBy nat_cmp xs → Chain Follows last xs
unfolding IsStrictlySortedBy
chain_from last [] above each sorted = tt
chain_from last (x ∷ xs) above each sorted = ((each.0, above.0), chain_from (Some x) xs (turned x xs sorted.0) each.1 sorted.1)
  where
    turned : (p : ℕ) (ys : List ℕ) → AllByRecursion (λ y. nat_cmp p y ≡ Less) ys → AllByRecursion (λ y. rises (Some p) y ≡ true) ys
    turned p [] a = tt
    turned p (y ∷ ys) a = (lt_when p y a.0, turned p ys a.1)

chain_of : (xs : List ℕ) → AreSamples xs → Chain Follows None xs
chain_of xs are = chain_from None xs (trivial xs) are.each are.rising
  where
    trivial : (ys : List ℕ) → AllByRecursion (λ y. rises None y ≡ true) ys
    trivial [] = tt
    trivial (y ∷ ys) = (refl, trivial ys)

pub samples_takes : (n : ℕ) (octets samples rest : List ℕ) → IsBytes octets → samples_at n octets ≡ Ok (samples, rest)
    → (octets ≡ samples_octets samples ++ rest) × (length samples ≡ n) × AreSamples samples
unfolding samples_at
samples_takes n octets samples rest b e =
    let t = one_by_one_takes sample_at octets_of Follows sample_takes None n octets samples rest b e in
    (t.0, t.1, record { each = each_from None samples t.2; rising = sorted_from None samples t.2 })

-- what is laid out so is read, by the law that a sample's octets spell it
module _ (one_number : (s : ℕ) → IsSample s → spelled (octets_of s) ≡ s) where
  record_again : (s : ℕ) (rest : List ℕ) → IsSample s → record_at (octets_of s ++ rest) ≡ Ok (s, rest)
  unfolding record_at sample_of
  record_again s rest is =
      let there : field_at 21 (octets_of s ++ rest) ≡ Ok (octets_of s, rest) = ap (λ (n : ℕ). field_at n (octets_of s ++ rest)) (sym (length-octets_of s)) ∙ field_again (octets_of s) rest in
      let same = one_number s is in
      let found = is_sample_when s is in
      rw (there, same, found) refl

  pub sample_again : (last : Option ℕ) (s : ℕ) (rest : List ℕ) → Follows last s → sample_at last (octets_of s ++ rest) ≡ Ok (s, rest)
  unfolding sample_at
  sample_again last s rest is = rw (record_again s rest is.0, is.1) refl

  pub samples_again : (samples rest : List ℕ) → AreSamples samples → samples_at (length samples) (samples_octets samples ++ rest) ≡ Ok (samples, rest)
  unfolding samples_at
  samples_again samples rest are = one_by_one_again sample_at octets_of Follows sample_again None samples rest (chain_of samples are)

-- ---- the loop
module _ (front : List ℕ) (last : Option ℕ) (n : ℕ) (octets : List ℕ) (total : Result (List ℕ × List ℕ) LayoutFault) (so_far : with_front front (one_by_one sample_at last n octets) ≡ total) (some : 0 < n) where
  pub fails : (e : LayoutFault) → Fails e (record_at octets) → Fails e total
  unfolding sample_at
  fails OutOfMemory h = tt
  fails Truncated h = stops sample_at front last n octets total so_far Truncated some (rw h refl)
  fails BadSample h = stops sample_at front last n octets total so_far BadSample some (rw h refl)
  fails NotRising h = stops sample_at front last n octets total so_far NotRising some (rw h refl)

  pub ends_early : (e : LayoutFault) → Fails e (field_at 21 octets) → Fails e total
  unfolding record_at
  ends_early OutOfMemory h = tt
  ends_early Truncated h = fails Truncated (rw h refl)
  ends_early BadSample h = fails BadSample (rw h refl)
  ends_early NotRising h = fails NotRising (rw h refl)

  pub no_record : (field rest : List ℕ) → field_at 21 octets ≡ Ok (field, rest) → (e : LayoutFault) → Fails e (sample_of field) → Fails e total
  unfolding record_at
  no_record field rest is OutOfMemory h = tt
  no_record field rest is Truncated h = fails Truncated (rw (is, h) refl)
  no_record field rest is BadSample h = fails BadSample (rw (is, h) refl)
  no_record field rest is NotRising h = fails NotRising (rw (is, h) refl)

  pub one_record : (field rest : List ℕ) (s : ℕ) → field_at 21 octets ≡ Ok (field, rest) → sample_of field ≡ Ok s → record_at octets ≡ Ok (s, rest)
  unfolding record_at
  one_record field rest s is h = rw (is, h) refl

  pub does_not_rise : (s : ℕ) (rest : List ℕ) → record_at octets ≡ Ok (s, rest) → rises last s ≡ false → total ≡ Err NotRising
  unfolding sample_at
  does_not_rise s rest h low = stops sample_at front last n octets total so_far NotRising some (rw (h, low) refl)

  pub goes_up : (s : ℕ) (rest : List ℕ) → record_at octets ≡ Ok (s, rest) → rises last s ≡ true → with_front (front ++ s ∷ []) (one_by_one sample_at (Some s) (n - 1) rest) ≡ total
  unfolding sample_at
  goes_up s rest h high = goes_on sample_at front last n octets total so_far s rest some (rw (h, high) refl)

-- ---- a record
not_false : (b : Bool) → b ≡ false → b ≡ true → ⊥
not_false true none is = absurd cc
not_false false none is = absurd cc

-- why a number is no sample's
no_sample : (k : ℕ) → is_sample_number k ≡ false → (¬ (HasTag k)) ⊎ ((HasTag k × ¬ (HasStamp k)) ⊎ (HasTag k × HasStamp k × ¬ (HasValue k)))
unfolding is_sample_number
no_sample k none = elim (cases_eq (kind_tag (kind_of k)) (tag_of k)) [
  | inr differ ↦ inl differ
  | inl tag ↦ elim (cases_lt (boots_of k) (2 ^ 31)) [
    | inr late ↦ inr (inl (tag, λ is. omega (arith, late, is.boots)))
    | inl boots ↦ elim (cases_lt (time_of k) (2 ^ 31)) [
      | inr late ↦ inr (inl (tag, λ is. omega (arith, late, is.time)))
      | inl time ↦ inr (inr (
        tag,
        record { boots = boots; time = time },
        λ value.
            not_false _ none (and_from _ _ (eq-eqb _ _ tag) (and_from _ _ (lt-ltb _ _ boots) (and_from _ _ (lt-ltb _ _ time) value))),
      ))
    ]
  ]
]

module _ (octets : List ℕ) (r : Result ℕ SampleFault)
    (sample : (r ≡ Ok (spelled octets)) ↔ IsSample (spelled octets))
    (tag : (r ≡ Err BadTag) ↔ ¬ (HasTag (spelled octets)))
    (stamp : (r ≡ Err BadStamp) ↔ (HasTag (spelled octets) × ¬ (HasStamp (spelled octets))))
    (value : (r ≡ Err BadValue) ↔ (HasTag (spelled octets) × HasStamp (spelled octets) × ¬ (HasValue (spelled octets)))) where
  failed : is_sample_number (spelled octets) ≡ false → (f : SampleFault) × (r ≡ Err f)
  failed none = elim (no_sample (spelled octets) none) [
    | inl a ↦ (BadTag, tag.1 a)
    | inr (inl b) ↦ (BadStamp, stamp.1 b)
    | inr (inr c) ↦ (BadValue, value.1 c)
  ]

  pub record_ok : (s : ℕ) → r ≡ Ok s → sample_of octets ≡ Ok s
  unfolding sample_of
  record_ok s is = elim (cases_Bool (is_sample_number (spelled octets))) [
    | inl found ↦ (let same : r ≡ Ok (spelled octets) = sample.1 (sample_is (spelled octets) found) in rw found (ap (λ (k : ℕ). Ok k) (ok_is (spelled octets) s (sym same ∙ is))))
    | inr none ↦ absurd (let f = failed none in let both : Ok s ≡ Err f.0 = sym is ∙ f.1 in cc)
  ]

  pub record_err : (f : SampleFault) → r ≡ Err f → sample_of octets ≡ Err BadSample
  unfolding sample_of
  record_err f is = elim (cases_Bool (is_sample_number (spelled octets))) [
    | inl found ↦ absurd (let same : r ≡ Ok (spelled octets) = sample.1 (sample_is (spelled octets) found) in let both : Ok (spelled octets) ≡ Err f = sym same ∙ is in cc)
    | inr none ↦ rw none refl
  ]
