-- Claims: what is read is said, and what is said is read.
use Rattle.std.proofs.Common.{◌≡◌, ℕ, ◌+◌, List, [], ◌∷◌, ◌++◌, length, Result, Ok, Err, refl, sym, ap, subst, ◌∙◌, append_assoc, arith}
use Rattle.std.specs.Prelude.{IfOk, IfErr}
use Rattle.std.specs.Int.{w32, to_be_bytes}
use Rattle.std.proofs.lemmas.List.{append-nil, length-append}
use Rattle.mon_ber.proofs.Promised.{IsBytes, IsBytes-after, bind_ok, ok_is}
use Rattle.mon_fields.specs.Layout.{numbers_octets, instance_octets, samples_octets}
use Rattle.mon_fields.specs.Reading.{u32_at}
use Rattle.mon_fields.proofs.Promised.{u32_takes, u32_again}
use Rattle.mon_exchange.specs.declared.claim.Claim.{Claim}
use Rattle.mon_exchange.specs.declared.fault.ExchangeFault.{ExchangeFault}
use Rattle.mon_exchange.specs.Claim.{kind_octet, counted_samples, claim_octets, IsClaim, SpellsClaim}
use Rattle.mon_exchange.specs.Reading.{Fails, Gives, lifted, version_at, claim_kind_at, positive_at, engine_at, oid_at, claimed_at, all_read, claim_at}
use Rattle.mon_exchange.proofs.Parts.{lifted_ok, version_takes, version_again, kind_takes, kind_again, positive_takes, positive_again, engine_takes, engine_again, oid_takes, oid_again, claimed_takes, ReadsAgain, claimed_again, all_read_takes}

pub claim_octets_length : (c : Claim) → length (claim_octets c) ≡ 17 + length (instance_octets c.engine c.name) + length (samples_octets c.samples)
unfolding claim_octets counted_samples
claim_octets_length c =
    omega (
      arith,
      length-append (to_be_bytes w32 c.station) (to_be_bytes w32 c.incarnation ++ (to_be_bytes w32 c.serial ++ (instance_octets c.engine c.name ++ counted_samples c.samples))),
      length-append (to_be_bytes w32 c.incarnation) (to_be_bytes w32 c.serial ++ (instance_octets c.engine c.name ++ counted_samples c.samples)),
      length-append (to_be_bytes w32 c.serial) (instance_octets c.engine c.name ++ counted_samples c.samples),
      length-append (instance_octets c.engine c.name) (counted_samples c.samples),
    )

-- an instance, and what follows it
instance_split : (engine name rest : List ℕ) → instance_octets engine name ++ rest ≡ length engine ∷ engine ++ (length name ∷ numbers_octets name ++ rest)
unfolding instance_octets
instance_split engine name rest = ap (λ (v : List ℕ). length engine ∷ v) (append_assoc engine (length name ∷ numbers_octets name) rest)

assembled : (c : Claim) (o r0 r1 r2 r3 r4 r5 r6 r7 : List ℕ) → o ≡ 77 ∷ 88 ∷ 1 ∷ r0 → r0 ≡ kind_octet c.kind ∷ r1 → r1 ≡ to_be_bytes w32 c.station ++ r2 → r2 ≡ to_be_bytes w32 c.incarnation ++ r3
    → r3 ≡ to_be_bytes w32 c.serial ++ r4 → r4 ≡ length c.engine ∷ c.engine ++ r5 → r5 ≡ length c.name ∷ numbers_octets c.name ++ r6 → r6 ≡ counted_samples c.samples ++ r7 → r7 ≡ [] → o ≡ claim_octets c
unfolding claim_octets
assembled c o r0 r1 r2 r3 r4 r5 r6 r7 e0 e1 e2 e3 e4 e5 e6 e7 e8 =
    let f6 : r6 ≡ counted_samples c.samples = e7 ∙ ap (λ (v : List ℕ). counted_samples c.samples ++ v) e8 ∙ append-nil (counted_samples c.samples) in
    let f5 : r5 ≡ length c.name ∷ numbers_octets c.name ++ counted_samples c.samples = e6 ∙ ap (λ (v : List ℕ). length c.name ∷ numbers_octets c.name ++ v) f6 in
    let f4 : r4 ≡ instance_octets c.engine c.name ++ counted_samples c.samples = e5 ∙ ap (λ (v : List ℕ). length c.engine ∷ c.engine ++ v) f5 ∙ sym (instance_split c.engine c.name (counted_samples c.samples)) in
    let f3 = e4 ∙ ap (λ (v : List ℕ). to_be_bytes w32 c.serial ++ v) f4 in
    let f2 = e3 ∙ ap (λ (v : List ℕ). to_be_bytes w32 c.incarnation ++ v) f3 in
    let f1 = e2 ∙ ap (λ (v : List ℕ). to_be_bytes w32 c.station ++ v) f2 in
    e0 ∙ ap (λ (v : List ℕ). 77 ∷ 88 ∷ 1 ∷ v) (e1 ∙ ap (λ (v : List ℕ). kind_octet c.kind ∷ v) f1)

whole : (c : Claim) (o r0 r1 r2 r3 r4 r5 r6 r7 : List ℕ) → IsBytes o → version_at o ≡ Ok r0 → claim_kind_at r0 ≡ Ok (c.kind, r1) → positive_at r1 ≡ Ok (c.station, r2) → positive_at r2 ≡ Ok (c.incarnation, r3)
    → u32_at r3 ≡ Ok (c.serial, r4) → engine_at r4 ≡ Ok (c.engine, r5) → oid_at r5 ≡ Ok (c.name, r6) → claimed_at r6 ≡ Ok (c.samples, r7) → r7 ≡ [] → SpellsClaim o c
whole c o r0 r1 r2 r3 r4 r5 r6 r7 b h k s j r g n a z =
    let head : List ℕ = 77 ∷ 88 ∷ 1 ∷ [] in
    let first : List ℕ = kind_octet c.kind ∷ [] in
    let ht = version_takes o r0 h in
    let b0 = IsBytes-after o head r0 b ht in
    let kt = kind_takes r0 c.kind r1 k in
    let b1 = IsBytes-after r0 first r1 b0 kt in
    let st = positive_takes r1 c.station r2 b1 s in
    let b2 = IsBytes-after r1 (to_be_bytes w32 c.station) r2 b1 st.0 in
    let jt = positive_takes r2 c.incarnation r3 b2 j in
    let b3 = IsBytes-after r2 (to_be_bytes w32 c.incarnation) r3 b2 jt.0 in
    let rt = u32_takes r3 c.serial r4 b3 r in
    let b4 = IsBytes-after r3 (to_be_bytes w32 c.serial) r4 b3 rt.0 in
    let gt = engine_takes r4 c.engine r5 g in
    let b5 = IsBytes-after r4 (length c.engine ∷ c.engine) r5 b4 gt.0 in
    let nt = oid_takes r5 c.name r6 b5 n in
    let b6 = IsBytes-after r5 (length c.name ∷ numbers_octets c.name) r6 b5 nt.0 in
    let got = claimed_takes r6 c.samples r7 b6 a in
    record {
      spelled = assembled c o r0 r1 r2 r3 r4 r5 r6 r7 ht kt st.0 jt.0 rt.0 gt.0 nt.0 got.0 z;
      valid = record {
        station = st.1;
        station_fits = st.2;
        incarnation = jt.1;
        incarnation_fits = jt.2;
        serial_fits = rt.1;
        engine = gt.1;
        name = nt.1;
        few = got.1;
        samples = got.2;
      };
    }

pub claim_takes : (octets : List ℕ) (c : Claim) → IsBytes octets → claim_at octets ≡ Ok c → SpellsClaim octets c
unfolding claim_at
claim_takes octets c b e =
    let h = bind_ok (version_at octets) _ c e in
    let k = bind_ok (claim_kind_at h.0) _ c h.2 in
    let s = bind_ok (positive_at k.0.1) _ c k.2 in
    let j = bind_ok (positive_at s.0.1) _ c s.2 in
    let r = bind_ok (lifted (u32_at j.0.1)) _ c j.2 in
    let g = bind_ok (engine_at r.0.1) _ c r.2 in
    let n = bind_ok (oid_at g.0.1) _ c g.2 in
    let a = bind_ok (claimed_at n.0.1) _ c n.2 in
    let made : Claim = record { kind = k.0.0; station = s.0.0; incarnation = j.0.0; serial = r.0.0; engine = g.0.0; name = n.0.0; samples = a.0.0 } in
    let done = all_read_takes a.0.1 made c a.2 in
    subst (λ (d : Claim). SpellsClaim octets d) done.1
    (whole made octets h.0 k.0.1 s.0.1 j.0.1 r.0.1 g.0.1 n.0.1 a.0.1 b h.1 k.1 s.1 j.1 (lifted_ok (u32_at j.0.1) r.0 r.1) g.1 n.1 a.1 done.0)

again : ReadsAgain → (c : Claim) → IsClaim c → claim_at (claim_octets c) ≡ Ok c
unfolding claim_at claim_octets all_read
again law c is =
    let samples : List ℕ = counted_samples c.samples in
    let name : List ℕ = length c.name ∷ numbers_octets c.name ++ samples in
    let serial : List ℕ = to_be_bytes w32 c.serial ++ (instance_octets c.engine c.name ++ samples) in
    let incarnation : List ℕ = to_be_bytes w32 c.incarnation ++ serial in
    let station : List ℕ = to_be_bytes w32 c.station ++ incarnation in
    let nothing : List ℕ = [] in
    let last : claimed_at samples ≡ Ok (c.samples, nothing) = ap claimed_at (sym (append-nil samples)) ∙ claimed_again law c.samples nothing is.few is.samples in
    rw (
      version_again (kind_octet c.kind ∷ station),
      kind_again c.kind station,
      positive_again c.station incarnation is.station is.station_fits,
      positive_again c.incarnation serial is.incarnation is.incarnation_fits,
      u32_again c.serial (instance_octets c.engine c.name ++ samples) is.serial_fits,
      instance_split c.engine c.name samples,
      engine_again c.engine name is.engine,
      oid_again c.name samples is.name,
      last,
    ) refl

pub claim_again : ReadsAgain → (octets : List ℕ) (c : Claim) → SpellsClaim octets c → claim_at octets ≡ Ok c
claim_again law octets c is = ap claim_at is.spelled ∙ again law c is.valid

-- ---- for read_claim
pub is_found : (octets : List ℕ) (r : Result Claim ExchangeFault) → IsBytes octets → Gives (λ c. c) r (claim_at octets) → IfOk r (λ c. SpellsClaim octets c)
is_found octets (Ok c) b gives = claim_takes octets c b gives
is_found octets (Err e) b gives = tt

pub if_failed : (octets : List ℕ) (r : Result Claim ExchangeFault) → Gives (λ c. c) r (claim_at octets) → IfErr r (λ e. Fails e (claim_at octets))
if_failed octets (Ok c) gives = tt
if_failed octets (Err e) gives = gives

pub is_only : ReadsAgain → (octets : List ℕ) (r : Result Claim ExchangeFault) (c : Claim) → Gives (λ d. d) r (claim_at octets) → SpellsClaim octets c → Gives (λ d. d) r (Ok c)
is_only law octets r c gives is = subst (λ (read : Result Claim ExchangeFault). Gives (λ d. d) r read) (claim_again law octets c is) gives

pub one_meaning : ReadsAgain → (octets : List ℕ) (c d : Claim) → SpellsClaim octets c → SpellsClaim octets d → c ≡ d
one_meaning law octets c d is also = ok_is c d (sym (claim_again law octets c is) ∙ claim_again law octets d also)

-- ---- for write_within
pub all_written : (c : Claim) (o a k s j r i n z : List ℕ) → a ≡ o ++ 77 ∷ 88 ∷ 1 ∷ [] → k ≡ a ++ kind_octet c.kind ∷ [] → s ≡ k ++ to_be_bytes w32 c.station → j ≡ s ++ to_be_bytes w32 c.incarnation
    → r ≡ j ++ to_be_bytes w32 c.serial → i ≡ r ++ instance_octets c.engine c.name → n ≡ i ++ length c.samples ∷ [] → z ≡ n ++ samples_octets c.samples → z ≡ o ++ claim_octets c
unfolding claim_octets counted_samples
all_written c o a k s j r i n z ea ek es ej er ei en ez =
    let e7 : z ≡ i ++ counted_samples c.samples = ez ∙ ap (λ (v : List ℕ). v ++ samples_octets c.samples) en ∙ append_assoc i (length c.samples ∷ []) (samples_octets c.samples) in
    let e6 : z ≡ r ++ (instance_octets c.engine c.name ++ counted_samples c.samples) = e7 ∙ ap (λ (v : List ℕ). v ++ counted_samples c.samples) ei ∙ append_assoc r (instance_octets c.engine c.name) (counted_samples c.samples) in
    let e5 : z ≡ j ++ (to_be_bytes w32 c.serial ++ (instance_octets c.engine c.name ++ counted_samples c.samples)) =
    e6 ∙ ap (λ (v : List ℕ). v ++ (instance_octets c.engine c.name ++ counted_samples c.samples)) er ∙ append_assoc j (to_be_bytes w32 c.serial) (instance_octets c.engine c.name ++ counted_samples c.samples) in
    let t5 : List ℕ = to_be_bytes w32 c.serial ++ (instance_octets c.engine c.name ++ counted_samples c.samples) in
    let e4 : z ≡ s ++ (to_be_bytes w32 c.incarnation ++ t5) = e5 ∙ ap (λ (v : List ℕ). v ++ t5) ej ∙ append_assoc s (to_be_bytes w32 c.incarnation) t5 in
    let t4 : List ℕ = to_be_bytes w32 c.incarnation ++ t5 in
    let e3 : z ≡ k ++ (to_be_bytes w32 c.station ++ t4) = e4 ∙ ap (λ (v : List ℕ). v ++ t4) es ∙ append_assoc k (to_be_bytes w32 c.station) t4 in
    let t3 : List ℕ = to_be_bytes w32 c.station ++ t4 in
    let e2 : z ≡ a ++ (kind_octet c.kind ∷ t3) = e3 ∙ ap (λ (v : List ℕ). v ++ t3) ek ∙ append_assoc a (kind_octet c.kind ∷ []) t3 in
    e2 ∙ ap (λ (v : List ℕ). v ++ (kind_octet c.kind ∷ t3)) ea ∙ append_assoc o (77 ∷ 88 ∷ 1 ∷ []) (kind_octet c.kind ∷ t3)
