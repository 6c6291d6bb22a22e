-- Images: what is read was spelled, and what is spelled is read.
use Rattle.std.proofs.lemmas.List.{append-nil}
use Rattle.mon_saved.specs.declared.image.Image.{Image}
use Rattle.std.proofs.Common.{◌≡◌, ℕ, suc, ◌≤◌, ◌<◌, Bool, true, false, List, [], ◌∷◌, ◌++◌, length, Result, Ok, Err, refl, sym, ap, subst, ◌∙◌, inl, inr, append_assoc, arith, zero, ◌^◌}
use Rattle.std.specs.Prelude.{nat_lt, nat_eq, ◌||◌, if◌then◌else◌, ◌==◌, IfOk}
use Rattle.std.specs.List.{AllByRecursion}
use Rattle.std.specs.Int.{w32, to_be_bytes, w16}
use Rattle.std.specs.Cmp.Lexicographic.{pointwise, same_text, other_text}
use Rattle.std.proofs.lemmas.Bool.{cases_Bool, ltb-false, le-ltb, cases_eq, cases_lt, eqb-true, eqb-false, ne_eqb, lt-ltb}
use Rattle.std.proofs.lemmas.List.Concat.{flat_map-cons}
use Rattle.mon_oid.specs.Steps.{◌>>=◌}
use Rattle.mon_ber.proofs.Promised.{IsBytes, IsBytes-after, bind_ok, wanted, chosen, ok_is, pair_is}
use Rattle.mon_board.specs.declared.instance.Instance.{Instance}
use Rattle.mon_fields.specs.declared.fault.LayoutFault.{LayoutFault}
use Rattle.mon_fields.specs.Layout.{numbers_octets, instance_octets, samples_octets, AreSamples}
use Rattle.mon_fields.specs.Reading.{octet_at, field_at, samples_at, u32_at}
use Rattle.mon_fields.proofs.Promised.{guard, octet_takes, octet_again, field_takes, field_again, samples_takes, u32_takes, u32_again}
use Rattle.mon_saved.specs.declared.fault.ImageFault.{ImageFault}
use Rattle.mon_saved.specs.declared.fault.ImageFault.TheVariants.{OutOfMemory, Truncated, BadVersion, OtherWatch, BadImage}
use Rattle.mon_saved.specs.declared.image.Entry.{Entry}
use Rattle.mon_saved.specs.Image.{ImageVersion, IsVersion, One, Two, entry_octets, entries_octets, of_boots, IsEntry, HasSizes, version_octet, before_count, image_octets, IsImage, SpellsImage}
use Rattle.mon_saved.proofs.Shared.{fits_epoch_from, fits_epoch_when}
use Rattle.mon_saved.specs.Reading.{lifted, octet_within, expected_at, numbers_are, instance_is, sizes_at, fits_epoch, saved_at, entry_at, entries_at, magic_at, incarnation_at, window_at, header_at, all_entries, image_at, Fails, Gives}

pub lifted_ok : {A : Type 0} (r : Result A LayoutFault) (x : A) → lifted r ≡ Ok x → r ≡ Ok x
lifted_ok (Ok y) x e = ap (λ z. Ok z) (ok_is y x e)
lifted_ok (Err d) x e = absurd cc

or_false : (a b : Bool) → (a || b) ≡ false → (a ≡ false) × (b ≡ false)
or_false true b e = absurd cc
or_false false b e = (refl, e)

pub within_takes : (least most : ℕ) (f : ImageFault) (octets : List ℕ) (n : ℕ) (rest : List ℕ) → octet_within least most f octets ≡ Ok (n, rest) → (octets ≡ n ∷ rest) × (least ≤ n) × (n ≤ most)
unfolding octet_within
within_takes least most f octets n rest e =
    let made : ℕ × List ℕ = (n, rest) in
    let b = bind_ok (lifted (octet_at octets)) (λ b. if nat_lt b.0 least || nat_lt most b.0 then Err f else Ok b) made e in
    let g = guard (nat_lt b.0.0 least || nat_lt most b.0.0) f (Ok b.0) made b.2 in
    let o = or_false (nat_lt b.0.0 least) (nat_lt most b.0.0) g.0 in
    let p = pair_is b.0.0 b.0.1 n rest g.1 in (
      octet_takes octets b.0.0 b.0.1 (lifted_ok (octet_at octets) b.0 b.1) ∙ (λ i. p.0 i ∷ p.1 i),
      subst (λ (k : ℕ). least ≤ k) p.0 (ltb-false b.0.0 least o.0),
      subst (λ (k : ℕ). k ≤ most) p.0 (ltb-false most b.0.0 o.1),
    )

pub within_again : (least most : ℕ) (f : ImageFault) (n : ℕ) (rest : List ℕ) → least ≤ n → n ≤ most → octet_within least most f (n ∷ rest) ≡ Ok (n, rest)
unfolding octet_within
within_again least most f n rest low high = rw (octet_again n rest, le-ltb n least low, le-ltb most n high) refl

-- ---- what is expected
pub expected_takes : (want octets rest : List ℕ) → expected_at want octets ≡ Ok rest → octets ≡ want ++ rest
unfolding expected_at
expected_takes want octets rest e =
    let f = bind_ok (lifted (field_at (length want) octets)) (λ field. if pointwise nat_eq field.0 want then Ok field.1 else Err OtherWatch) rest e in
    let w = wanted (pointwise nat_eq f.0.0 want) OtherWatch (Ok f.0.1) rest f.2 in
    let c = field_takes (length want) octets f.0.0 f.0.1 (lifted_ok (field_at (length want) octets) f.0 f.1) in
    c.0 ∙ (λ i. same_text f.0.0 want (sym w.0) i ++ ok_is f.0.1 rest w.1 i)

same : (xs : List ℕ) → pointwise nat_eq xs xs ≡ true
same xs = elim (cases_Bool (pointwise nat_eq xs xs)) [
  | inl is ↦ is
  | inr differ ↦ absurd (other_text xs xs (sym differ) refl)
]

pub expected_again : (want rest : List ℕ) → expected_at want (want ++ rest) ≡ Ok rest
unfolding expected_at
expected_again want rest = rw (field_again want rest, same want) refl

pub numbers_take : (numbers octets rest : List ℕ) → numbers_are numbers octets ≡ Ok rest → octets ≡ numbers_octets numbers ++ rest
unfolding numbers_are
numbers_take [] octets rest e = ok_is octets rest e
numbers_take (n ∷ numbers) octets rest e =
    let x = bind_ok (expected_at (to_be_bytes w32 n) octets) (numbers_are numbers) rest e in
    expected_takes (to_be_bytes w32 n) octets x.0 x.1 ∙ ap (λ (v : List ℕ). to_be_bytes w32 n ++ v) (numbers_take numbers x.0 rest x.2)
    ∙ sym (append_assoc (to_be_bytes w32 n) (numbers_octets numbers) rest) ∙ ap (λ (v : List ℕ). v ++ rest) (sym (flat_map-cons (to_be_bytes w32) n numbers))

pub numbers_again : (numbers rest : List ℕ) → numbers_are numbers (numbers_octets numbers ++ rest) ≡ Ok rest
unfolding numbers_are
numbers_again [] rest = refl
numbers_again (n ∷ numbers) rest =
    ap (numbers_are (n ∷ numbers)) (ap (λ (v : List ℕ). v ++ rest) (flat_map-cons (to_be_bytes w32) n numbers) ∙ append_assoc (to_be_bytes w32 n) (numbers_octets numbers) rest)
    ∙ rw (expected_again (to_be_bytes w32 n) (numbers_octets numbers ++ rest)) (numbers_again numbers rest)

instance_split : (engine name rest : List ℕ) → instance_octets engine name ++ rest ≡ length engine ∷ engine ++ (length name ∷ numbers_octets name ++ rest)
unfolding instance_octets
instance_split engine name rest = ap (λ (v : List ℕ). length engine ∷ v) (append_assoc engine (length name ∷ numbers_octets name) rest)

pub instance_takes : (i : Instance) (octets rest : List ℕ) → instance_is i octets ≡ Ok rest → octets ≡ instance_octets i.engine i.name ++ rest
unfolding instance_is
instance_takes i octets rest e =
    let a = bind_ok (expected_at (length i.engine ∷ []) octets) _ rest e in
    let b = bind_ok (expected_at i.engine a.0) _ rest a.2 in
    let c = bind_ok (expected_at (length i.name ∷ []) b.0) (numbers_are i.name) rest b.2 in
    let one : List ℕ = length i.engine ∷ [] in
    let two : List ℕ = length i.name ∷ [] in
    expected_takes one octets a.0 a.1
    ∙ ap (λ (v : List ℕ). length i.engine ∷ v) (expected_takes i.engine a.0 b.0 b.1 ∙ ap (λ (v : List ℕ). i.engine ++ v) (expected_takes two b.0 c.0 c.1 ∙ ap (λ (v : List ℕ). length i.name ∷ v) (numbers_take i.name c.0 rest c.2)))
    ∙ sym (instance_split i.engine i.name rest)

pub instance_again : (i : Instance) (rest : List ℕ) → instance_is i (instance_octets i.engine i.name ++ rest) ≡ Ok rest
unfolding instance_is
instance_again i rest =
    let one : List ℕ = length i.engine ∷ [] in
    let two : List ℕ = length i.name ∷ [] in
    rw (
      instance_split i.engine i.name rest,
      expected_again one (i.engine ++ (length i.name ∷ numbers_octets i.name ++ rest)),
      expected_again i.engine (length i.name ∷ numbers_octets i.name ++ rest),
      expected_again two (numbers_octets i.name ++ rest),
    ) (numbers_again i.name rest)

-- ---- samples
-- what is laid out as samples is read as them: a law of the layouts
abbrev pub SamplesAgain : Type 0
SamplesAgain = (samples rest : List ℕ) → AreSamples samples → samples_at (length samples) (samples_octets samples ++ rest) ≡ Ok (samples, rest)

saved_takes : (window epoch : ℕ) (octets samples rest : List ℕ) → IsBytes octets → saved_at (window, epoch) octets ≡ Ok (samples, rest)
    → (octets ≡ length samples ∷ samples_octets samples ++ rest) × (length samples ≤ window) × AreSamples samples × ((boots : ℕ) → of_boots boots samples ≤ epoch)
unfolding saved_at
saved_takes window epoch octets samples rest b e =
    let made : List ℕ × List ℕ = (samples, rest) in
    let s = bind_ok (octet_within 0 window BadImage octets) _ made e in
    let u = bind_ok (lifted (samples_at s.0.0 s.0.1)) _ made s.2 in
    let w = wanted (fits_epoch epoch u.0.0) BadImage (Ok u.0) made u.2 in
    let p = pair_is u.0.0 u.0.1 samples rest w.1 in
    let t = within_takes 0 window BadImage octets s.0.0 s.0.1 s.1 in
    let one : List ℕ = s.0.0 ∷ [] in
    let got = samples_takes s.0.0 s.0.1 u.0.0 u.0.1 (IsBytes-after octets one s.0.1 b t.0) (lifted_ok (samples_at s.0.0 s.0.1) u.0 u.1) in
    let laid : s.0.0 ∷ s.0.1 ≡ length u.0.0 ∷ samples_octets u.0.0 ++ rest = λ i. sym got.1 i ∷ (got.0 ∙ ap (λ (v : List ℕ). samples_octets u.0.0 ++ v) p.1) i in
    let few : length u.0.0 ≤ window = omega (arith, got.1, t.2) in
    subst (λ (v : List ℕ). (octets ≡ length v ∷ samples_octets v ++ rest) × (length v ≤ window) × AreSamples v × ((boots : ℕ) → of_boots boots v ≤ epoch)) p.0
    (t.0 ∙ laid, few, got.2, fits_epoch_from epoch u.0.0 w.0)

saved_again : (again : SamplesAgain) (window epoch : ℕ) (samples rest : List ℕ) → length samples ≤ window → AreSamples samples → ((boots : ℕ) → of_boots boots samples ≤ epoch)
    → saved_at (window, epoch) (length samples ∷ samples_octets samples ++ rest) ≡ Ok (samples, rest)
unfolding saved_at
saved_again again window epoch samples rest few are epochs =
    rw (within_again 0 window BadImage (length samples) (samples_octets samples ++ rest) (omega arith) few, again samples rest are, fits_epoch_when epoch samples epochs) refl

-- ---- entries
-- the one window of a version, or 0 if it has none
abbrev pub one_window : ImageVersion → ℕ
one_window (One window) = window
one_window Two = 0

-- the one window is in range

abbrev made_of : ℕ → ℕ → List ℕ × List ℕ → Result (Entry × List ℕ) ImageFault
made_of w e s = Ok (record { window = w; epoch = e; samples = s.0 }, s.1)

body : (i : Instance) (w e : ℕ) (octets : List ℕ) (x : Entry) (rest : List ℕ) → IsBytes octets → 1 ≤ w → w ≤ 64 → 1 ≤ e → e ≤ w
    → (instance_is i octets >>= λ r. saved_at (w, e) r >>= made_of w e) ≡ Ok (x, rest)
    → (octets ≡ instance_octets i.engine i.name ++ (length x.samples ∷ samples_octets x.samples ++ rest)) × IsEntry x × (x.window ≡ w) × (x.epoch ≡ e)
body i w e octets x rest b some small epoch part h =
    let made : Entry × List ℕ = (x, rest) in
    let r = bind_ok (instance_is i octets) _ made h in
    let s = bind_ok (saved_at (w, e) r.0) _ made r.2 in
    let got : Entry = record { window = w; epoch = e; samples = s.0.0 } in
    let p = pair_is got s.0.1 x rest s.2 in
    let t = instance_takes i octets r.0 r.1 in
    let u = saved_takes w e r.0 s.0.0 s.0.1 (IsBytes-after octets (instance_octets i.engine i.name) r.0 b t) s.1 in
    let valid : IsEntry got = record { small = small; part = part; some = epoch; samples = u.2; few = u.1; epochs = u.3 } in
    let laid : octets ≡ instance_octets i.engine i.name ++ (length got.samples ∷ samples_octets got.samples ++ rest) =
    t ∙ ap (λ (v : List ℕ). instance_octets i.engine i.name ++ v) (u.0 ∙ ap (λ (v : List ℕ). length s.0.0 ∷ samples_octets s.0.0 ++ v) p.1) in
    subst (λ (y : Entry). (octets ≡ instance_octets i.engine i.name ++ (length y.samples ∷ samples_octets y.samples ++ rest)) × IsEntry y × (y.window ≡ w) × (y.epoch ≡ e)) p.0 (laid, valid, refl, refl)

pub sizes_one : (w : ℕ) (octets : List ℕ) (s : (ℕ × ℕ) × List ℕ) → 1 ≤ w → sizes_at w octets ≡ Ok s → (octets ≡ s.1) × (s.0.0 ≡ w) × (s.0.1 ≡ w)
unfolding sizes_at
sizes_one w octets s some e =
    let made : (ℕ × ℕ) × List ℕ = ((w, w), octets) in
    elim (chosen (nat_lt 0 w) (Ok made) _ (Ok s) e) [
      | inl here ↦ (let p = ok_is made s here.1 in (ap (λ (y : (ℕ × ℕ) × List ℕ). y.1) p, sym (ap (λ (y : (ℕ × ℕ) × List ℕ). y.0.0) p), sym (ap (λ (y : (ℕ × ℕ) × List ℕ). y.0.1) p)))
      | inr other ↦ absurd (let none = ltb-false 0 w other.0 in omega (arith, none, some))
    ]

pub sizes_two : (octets : List ℕ) (s : (ℕ × ℕ) × List ℕ) → sizes_at 0 octets ≡ Ok s → (octets ≡ s.0.0 ∷ s.0.1 ∷ s.1) × (1 ≤ s.0.0) × (s.0.0 ≤ 64) × (1 ≤ s.0.1) × (s.0.1 ≤ s.0.0)
unfolding sizes_at
sizes_two octets s e =
    let w = bind_ok (octet_within 1 64 BadImage octets) _ s e in
    let p = bind_ok (octet_within 1 w.0.0 BadImage w.0.1) _ s w.2 in
    let made : (ℕ × ℕ) × List ℕ = ((w.0.0, p.0.0), p.0.1) in
    let q = ok_is made s p.2 in
    let t = within_takes 1 64 BadImage octets w.0.0 w.0.1 w.1 in
    let u = within_takes 1 w.0.0 BadImage w.0.1 p.0.0 p.0.1 p.1 in
    subst (λ (y : (ℕ × ℕ) × List ℕ). (octets ≡ y.0.0 ∷ y.0.1 ∷ y.1) × (1 ≤ y.0.0) × (y.0.0 ≤ 64) × (1 ≤ y.0.1) × (y.0.1 ≤ y.0.0)) q
    (t.0 ∙ ap (λ (v : List ℕ). w.0.0 ∷ v) u.0, t.1, t.2, u.1, u.2)

pub entry_takes : (v : ImageVersion) → IsVersion v → (i : Instance) (octets : List ℕ) (x : Entry) (rest : List ℕ) → IsBytes octets → entry_at (one_window v) i octets ≡ Ok (x, rest)
    → (octets ≡ entry_octets v i x ++ rest) × IsEntry x × HasSizes v x
unfolding entry_at entry_octets
entry_takes (One w) good i octets x rest b e =
    let made : Entry × List ℕ = (x, rest) in
    let h = bind_ok (sizes_at w octets) (λ h. instance_is i h.1 >>= λ r. saved_at h.0 r >>= made_of h.0.0 h.0.1) made e in
    let is = sizes_one w octets h.0 good.0 h.1 in
    let t = body i h.0.0.0 h.0.0.1 h.0.1 x rest (subst (λ (v : List ℕ). IsBytes v) is.0 b) (omega (arith, is.1, good.0)) (omega (arith, is.1, good.1)) (omega (arith, is.2, good.0)) (omega (arith, is.1, is.2)) h.2 in
    (is.0 ∙ t.0 ∙ sym (append_assoc (instance_octets i.engine i.name) (length x.samples ∷ samples_octets x.samples) rest), t.1, (t.2 ∙ is.1, t.3 ∙ is.2))
entry_takes Two good i octets x rest b e =
    let made : Entry × List ℕ = (x, rest) in
    let h = bind_ok (sizes_at 0 octets) (λ h. instance_is i h.1 >>= λ r. saved_at h.0 r >>= made_of h.0.0 h.0.1) made e in
    let is = sizes_two octets h.0 h.1 in
    let front : List ℕ = h.0.0.0 ∷ h.0.0.1 ∷ [] in
    let t = body i h.0.0.0 h.0.0.1 h.0.1 x rest (IsBytes-after octets front h.0.1 b is.0) is.1 is.2 is.3 is.4 h.2 in
    let laid : h.0.0.0 ∷ h.0.0.1 ∷ h.0.1 ≡ x.window ∷ x.epoch ∷ (instance_octets i.engine i.name ++ (length x.samples ∷ samples_octets x.samples ++ rest)) =
    λ k. sym t.2 k ∷ sym t.3 k ∷ t.0 k in
    (is.0 ∙ laid ∙ ap (λ (v : List ℕ). x.window ∷ x.epoch ∷ v) (sym (append_assoc (instance_octets i.engine i.name) (length x.samples ∷ samples_octets x.samples) rest)), t.1, tt)

abbrev more_of : Entry → List Entry × List ℕ → Result (List Entry × List ℕ) ImageFault
more_of x ys = Ok (x ∷ ys.0, ys.1)

pub entries_take : (v : ImageVersion) → IsVersion v → (instances : List Instance) (octets : List ℕ) (xs : List Entry) (rest : List ℕ) → IsBytes octets → entries_at (one_window v) instances octets ≡ Ok (xs, rest)
    → (octets ≡ entries_octets v instances xs ++ rest) × (length xs ≡ length instances) × AllByRecursion IsEntry xs × AllByRecursion (HasSizes v) xs
unfolding entries_at
entries_take v good [] octets xs rest b e =
    let none : List Entry = [] in
    let p = pair_is none octets xs rest e in
    subst (λ (ys : List Entry). (octets ≡ entries_octets v [] ys ++ rest) × (length ys ≡ 0) × AllByRecursion IsEntry ys × AllByRecursion (HasSizes v) ys) p.0 (p.1, refl, tt, tt)
entries_take v good (i ∷ instances) octets xs rest b e =
    let made : List Entry × List ℕ = (xs, rest) in
    let x = bind_ok (entry_at (one_window v) i octets) (λ x. entries_at (one_window v) instances x.1 >>= λ ys. more_of x.0 ys) made e in
    let y = bind_ok (entries_at (one_window v) instances x.0.1) (λ ys. more_of x.0.0 ys) made x.2 in
    let p = pair_is (x.0.0 ∷ y.0.0) y.0.1 xs rest y.2 in
    let t = entry_takes v good i octets x.0.0 x.0.1 b x.1 in
    let others = entries_take v good instances x.0.1 y.0.0 y.0.1 (IsBytes-after octets (entry_octets v i x.0.0) x.0.1 b t.0) y.1 in
    let laid : octets ≡ entries_octets v (i ∷ instances) (x.0.0 ∷ y.0.0) ++ rest =
    t.0 ∙ ap (λ (r : List ℕ). entry_octets v i x.0.0 ++ r) (others.0 ∙ ap (λ (r : List ℕ). entries_octets v instances y.0.0 ++ r) p.1)
    ∙ sym (append_assoc (entry_octets v i x.0.0) (entries_octets v instances y.0.0) rest) in
    subst (λ (ys : List Entry). (octets ≡ entries_octets v (i ∷ instances) ys ++ rest) × (length ys ≡ length (i ∷ instances)) × AllByRecursion IsEntry ys × AllByRecursion (HasSizes v) ys) p.0
    (laid, ap (λ (k : ℕ). suc k) others.1, (t.1, others.2), (t.2, others.3))

-- ---- the head of an image
same_number : (n k : ℕ) → k ≤ n → n ≤ k → n ≡ k
same_number n k low high = omega (arith, low, high)

magic_takes : (octets rest : List ℕ) → magic_at octets ≡ Ok rest → octets ≡ 77 ∷ 73 ∷ rest
unfolding magic_at
magic_takes octets rest e =
    let m = bind_ok (octet_within 77 77 BadImage octets) _ rest e in
    let i = bind_ok (octet_within 73 73 BadImage m.0.1) _ rest m.2 in
    let t = within_takes 77 77 BadImage octets m.0.0 m.0.1 m.1 in
    let u = within_takes 73 73 BadImage m.0.1 i.0.0 i.0.1 i.1 in
    t.0 ∙ (λ k. same_number m.0.0 77 t.1 t.2 k ∷ u.0 k) ∙ (λ k. 77 ∷ same_number i.0.0 73 u.1 u.2 k ∷ ok_is i.0.1 rest i.2 k)

positive : (k : ℕ) → (k ≡ 0 → ⊥) → 1 ≤ k
positive zero h = absurd (h refl)
positive (suc k) h = omega arith

incarnation_takes : (octets : List ℕ) (j : ℕ) (rest : List ℕ) → IsBytes octets → incarnation_at octets ≡ Ok (j, rest) → (octets ≡ to_be_bytes w32 j ++ rest) × (1 ≤ j) × (j < 2 ^ 32)
unfolding incarnation_at
incarnation_takes octets j rest b e =
    let made : ℕ × List ℕ = (j, rest) in
    let x = bind_ok (lifted (u32_at octets)) (λ m. if m.0 == 0 then Err BadImage else Ok m) made e in
    let g = guard (x.0.0 == 0) BadImage (Ok x.0) made x.2 in
    let p = pair_is x.0.0 x.0.1 j rest g.1 in
    let t = u32_takes octets x.0.0 x.0.1 b (lifted_ok (u32_at octets) x.0 x.1) in
    (t.0 ∙ (λ i. to_be_bytes w32 (p.0 i) ++ p.1 i), subst (λ (k : ℕ). 1 ≤ k) p.0 (positive x.0.0 (eqb-false x.0.0 0 g.0)), subst (λ (k : ℕ). k < 2 ^ 32) p.0 t.1)

-- a version, and the octets with_front the incarnation
pub record IsHead (version : ℕ) (octets : List ℕ) (window : ℕ) (rest : List ℕ) : Type 0 where
  pub of : ImageVersion
  pub good : IsVersion of
  pub octet : version ≡ version_octet of
  pub is_window : one_window of ≡ window
  pub laid : octets ≡ before_count of ++ rest

second : (version : ℕ) → 1 ≤ version → version ≤ 2 → (version ≡ 1 → ⊥) → version ≡ 2
second version low high other = elim (cases_eq version 1) [
  | inl is ↦ absurd (other is)
  | inr differ ↦ elim (cases_lt version 2) [
    | inl below ↦ absurd (other (omega (arith, low, below)))
    | inr above ↦ omega (arith, high, above)
  ]
]

window_takes : (version : ℕ) (octets : List ℕ) (w : ℕ) (rest : List ℕ) → 1 ≤ version → version ≤ 2 → window_at version octets ≡ Ok (w, rest) → IsHead version octets w rest
unfolding window_at
window_takes version octets w rest low high e =
    let made : ℕ × List ℕ = (w, rest) in
    let none : ℕ × List ℕ = (0, octets) in
    elim (chosen (version == 1) (octet_within 1 64 BadImage octets) (Ok none) (Ok made) e) [
      | inl one ↦ (
          let t = within_takes 1 64 BadImage octets w rest one.1 in
          record { of = One w; good = (t.1, t.2); octet = eqb-true version 1 one.0; is_window = refl; laid = t.0 })
      | inr two ↦ (
          let p = pair_is 0 octets w rest two.1 in
          let other = eqb-false version 1 two.0 in
          record { of = Two; good = tt; octet = second version low high other; is_window = p.0; laid = p.1 })
    ]

abbrev made_head : ℕ → ℕ → List ℕ → Result ((ℕ × ℕ) × List ℕ) ImageFault
made_head j w r = Ok ((j, w), r)

abbrev made_image : ℕ → List Entry → Image
made_image j xs = record { incarnation = j; entries = xs }

pub nothing : (octets : List ℕ) → length octets ≡ 0 → octets ≡ []
nothing [] e = refl
nothing (b ∷ octets) e = absurd (omega (arith, e))

whole : (instances : List Instance) (o : List ℕ) (image : Image) (r0 : List ℕ) (version : ℕ) (r1 : List ℕ) (j : ℕ) (r2 : List ℕ) (w : ℕ) (r3 r4 : List ℕ) (h : (ℕ × ℕ) × List ℕ) (xs : List Entry) (rest : List ℕ) (ys : List Entry) → IsBytes o
    → magic_at o ≡ Ok r0 → octet_within 1 2 BadVersion r0 ≡ Ok (version, r1) → incarnation_at r1 ≡ Ok (j, r2) → window_at version r2 ≡ Ok (w, r3)
    → expected_at (to_be_bytes w16 (length instances)) r3 ≡ Ok r4 → made_head j w r4 ≡ Ok h → entries_at h.0.1 instances h.1 ≡ Ok (xs, rest) → length rest ≡ 0 → xs ≡ ys → made_image h.0.0 ys ≡ image → SpellsImage o instances image
unfolding image_octets
whole instances o image r0 version r1 j r2 w r3 r4 h xs rest ys b em ev ej ew ee eh ex none same_entries is =
    let made : (ℕ × ℕ) × List ℕ = ((j, w), r4) in
    let hd = ok_is made h eh in
    let tm = magic_takes o r0 em in
    let tv = within_takes 1 2 BadVersion r0 version r1 ev in
    let head : List ℕ = 77 ∷ 73 ∷ [] in
    let first : List ℕ = version ∷ [] in
    let b0 = IsBytes-after o head r0 b tm in
    let b1 = IsBytes-after r0 first r1 b0 tv.0 in
    let tj = incarnation_takes r1 j r2 b1 ej in
    let b2 = IsBytes-after r1 (to_be_bytes w32 j) r2 b1 tj.0 in
    let tw = window_takes version r2 w r3 tv.1 tv.2 ew in
    let b3 = IsBytes-after r2 (before_count tw.of) r3 b2 tw.laid in
    let te = expected_takes (to_be_bytes w16 (length instances)) r3 r4 ee in
    let b4 = IsBytes-after r3 (to_be_bytes w16 (length instances)) r4 b3 te in
    let read : entries_at (one_window tw.of) instances r4 ≡ Ok (xs, rest) = (λ k. entries_at (tw.is_window k) instances r4) ∙ (λ k. entries_at (hd k).0.1 instances (hd k).1) ∙ ex in
    let tx = entries_take tw.of tw.good instances r4 xs rest b4 read in
    let all : r4 ≡ entries_octets tw.of instances xs = tx.0 ∙ ap (λ (v : List ℕ). entries_octets tw.of instances xs ++ v) (nothing rest none) ∙ append-nil (entries_octets tw.of instances xs) in
    let got : Image = record { incarnation = j; entries = xs } in
    let same_image : got ≡ image = (λ k. made_image (hd k).0.0 (same_entries k)) ∙ is in
    let f3 = te ∙ ap (λ (v : List ℕ). to_be_bytes w16 (length instances) ++ v) all in
    let f2 = tw.laid ∙ ap (λ (v : List ℕ). before_count tw.of ++ v) f3 in
    let f1 = tj.0 ∙ ap (λ (v : List ℕ). to_be_bytes w32 j ++ v) f2 in
    let f0 = tv.0 ∙ (λ k. tw.octet k ∷ f1 k) in
    subst (λ (y : Image). SpellsImage o instances y) same_image (record {
      version = tw.of;
      spelled = tm ∙ ap (λ (v : List ℕ). 77 ∷ 73 ∷ v) f0;
      valid = record { version = tw.good; positive = tj.1; fits = tj.2; number = tx.1; entries = tx.2; sizes = tx.3 };
    })

pub image_takes : (instances : List Instance) (octets : List ℕ) (image : Image) → IsBytes octets → image_at instances octets ≡ Ok image → SpellsImage octets instances image
unfolding image_at header_at all_entries
image_takes instances octets image b e =
    let h = bind_ok (header_at (length instances) octets) _ image e in
    let x = bind_ok (all_entries h.0.0.1 instances h.0.1) _ image h.2 in
    let y = bind_ok (entries_at h.0.0.1 instances h.0.1) _ x.0 x.1 in
    let z = wanted (length y.0.1 == 0) BadImage (Ok y.0.0) x.0 y.2 in
    let m = bind_ok (magic_at octets) _ h.0 h.1 in
    let v = bind_ok (octet_within 1 2 BadVersion m.0) _ h.0 m.2 in
    let j = bind_ok (incarnation_at v.0.1) _ h.0 v.2 in
    let w = bind_ok (window_at v.0.0 j.0.1) _ h.0 j.2 in
    let r = bind_ok (expected_at (to_be_bytes w16 (length instances)) w.0.1) _ h.0 w.2 in
    whole instances octets image m.0 v.0.0 v.0.1 j.0.0 j.0.1 w.0.0 w.0.1 r.0 h.0 y.0.0 y.0.1 x.0 b m.1 v.1 j.1 w.1 r.1 r.2 y.1 (eqb-true (length y.0.1) 0 z.0) (ok_is y.0.0 x.0 z.1) (ok_is _ image x.2)

-- ---- what is spelled is read
abbrev made_entry : ℕ → ℕ → List ℕ → Entry
made_entry w e samples = record { window = w; epoch = e; samples = samples }

entry_again : (again : SamplesAgain) (v : ImageVersion) → IsVersion v → (i : Instance) (x : Entry) (rest : List ℕ) → IsEntry x → HasSizes v x → entry_at (one_window v) i (entry_octets v i x ++ rest) ≡ Ok (x, rest)
unfolding entry_at entry_octets sizes_at
entry_again again (One w) good i x rest is has =
    let tail : List ℕ = length x.samples ∷ samples_octets x.samples ++ rest in
    let few : length x.samples ≤ w = omega (arith, is.few, has.0) in
    let epochs = subst (λ (e : ℕ). (boots : ℕ) → of_boots boots x.samples ≤ e) has.1 is.epochs in
    let same_entry : made_entry w w x.samples ≡ x = λ k. made_entry (sym has.0 k) (sym has.1 k) x.samples in
    rw (append_assoc (instance_octets i.engine i.name) (length x.samples ∷ samples_octets x.samples) rest, lt-ltb 0 w (omega (arith, good.0)), instance_again i tail, saved_again again w w x.samples rest few is.samples epochs)
    (ap (λ (y : Entry). Ok (y, rest)) same_entry)
entry_again again Two good i x rest is has =
    let tail : List ℕ = length x.samples ∷ samples_octets x.samples ++ rest in
    let front : List ℕ = instance_octets i.engine i.name ++ tail in
    rw (
      append_assoc (instance_octets i.engine i.name) (length x.samples ∷ samples_octets x.samples) rest,
      within_again 1 64 BadImage x.window (x.epoch ∷ front) (omega (arith, is.some, is.part)) is.small,
      within_again 1 x.window BadImage x.epoch front is.some is.part,
      instance_again i tail,
      saved_again again x.window x.epoch x.samples rest is.few is.samples is.epochs,
    ) refl

entries_again : (again : SamplesAgain) (v : ImageVersion) → IsVersion v → (instances : List Instance) (xs : List Entry) (rest : List ℕ) → length xs ≡ length instances → AllByRecursion IsEntry xs → AllByRecursion (HasSizes v) xs
    → entries_at (one_window v) instances (entries_octets v instances xs ++ rest) ≡ Ok (xs, rest)
unfolding entries_at
entries_again again v good [] [] rest n is has = refl
entries_again again v good [] (x ∷ xs) rest n is has = absurd (omega (arith, n))
entries_again again v good (i ∷ instances) [] rest n is has = absurd (omega (arith, n))
entries_again again v good (i ∷ instances) (x ∷ xs) rest n is has =
    rw (
      append_assoc (entry_octets v i x) (entries_octets v instances xs) rest,
      entry_again again v good i x (entries_octets v instances xs ++ rest) is.0 has.0,
      entries_again again v good instances xs rest (omega (arith, n)) is.1 has.1,
    ) refl

incarnation_again : (j : ℕ) (rest : List ℕ) → 1 ≤ j → j < 2 ^ 32 → incarnation_at (to_be_bytes w32 j ++ rest) ≡ Ok (j, rest)
unfolding incarnation_at
incarnation_again j rest some fits = rw (u32_again j rest fits, ne_eqb j 0 (λ e. omega (arith, e, some))) refl

magic_again : (rest : List ℕ) → magic_at (77 ∷ 73 ∷ rest) ≡ Ok rest
unfolding magic_at
magic_again rest = rw (within_again 77 77 BadImage 77 (73 ∷ rest) (omega arith) (omega arith), within_again 73 73 BadImage 73 rest (omega arith) (omega arith)) refl

window_again : (v : ImageVersion) (rest : List ℕ) → IsVersion v → window_at (version_octet v) (before_count v ++ rest) ≡ Ok (one_window v, rest)
unfolding window_at
window_again (One w) rest good = within_again 1 64 BadImage w rest good.0 good.1
window_again Two rest good = refl

version_low : (v : ImageVersion) → 1 ≤ version_octet v
version_low (One w) = omega arith
version_low Two = omega arith

version_high : (v : ImageVersion) → version_octet v ≤ 2
version_high (One w) = omega arith
version_high Two = omega arith

spelled_is_read : (again : SamplesAgain) (v : ImageVersion) → IsVersion v → (instances : List Instance) (image : Image) → IsImage v (length instances) image → image_at instances (image_octets v instances image) ≡ Ok image
unfolding image_at header_at all_entries image_octets
spelled_is_read again v good instances image is =
    let entries : List ℕ = entries_octets v instances image.entries in
    let count : List ℕ = to_be_bytes w16 (length instances) ++ entries in
    let window : List ℕ = before_count v ++ count in
    let incarnation : List ℕ = to_be_bytes w32 image.incarnation ++ window in
    let nothing_ : List ℕ = [] in
    let last : entries_at (one_window v) instances entries ≡ Ok (image.entries, nothing_) =
    ap (entries_at (one_window v) instances) (sym (append-nil entries)) ∙ entries_again again v good instances image.entries nothing_ is.number is.entries is.sizes in
    rw (
      magic_again (version_octet v ∷ incarnation),
      within_again 1 2 BadVersion (version_octet v) incarnation (version_low v) (version_high v),
      incarnation_again image.incarnation window is.positive is.fits,
      window_again v count good,
      expected_again (to_be_bytes w16 (length instances)) entries,
      last,
    ) refl

-- ---- for read
pub is_found : (instances : List Instance) (octets : List ℕ) (r : Result Image ImageFault) → IsBytes octets → Gives (λ x. x) r (image_at instances octets) → IfOk r (λ image. SpellsImage octets instances image)
is_found instances octets (Ok image) b gives = image_takes instances octets image b gives
is_found instances octets (Err e) b gives = tt

pub image_again : (again : SamplesAgain) (instances : List Instance) (octets : List ℕ) (image : Image) → SpellsImage octets instances image → image_at instances octets ≡ Ok image
image_again again instances octets image is =
    ap (image_at instances) is.spelled ∙ spelled_is_read again is.version is.valid.version instances image is.valid

pub is_only : (again : SamplesAgain) (instances : List Instance) (octets : List ℕ) (r : Result Image ImageFault) (image : Image) → Gives (λ x. x) r (image_at instances octets) → SpellsImage octets instances image
    → Gives (λ x. x) r (Ok image)
is_only again instances octets r image gives is = subst (λ (read : Result Image ImageFault). Gives (λ x. x) r read) (image_again again instances octets image is) gives

-- a fault though there is an image is out of memory
pub fails_only : {Y : Type 0} (e : ImageFault) (y : Y) → Fails e (Ok y) → e ≡ OutOfMemory
fails_only OutOfMemory y h = refl
fails_only Truncated y h = absurd cc
fails_only BadVersion y h = absurd cc
fails_only OtherWatch y h = absurd cc
fails_only BadImage y h = absurd cc
