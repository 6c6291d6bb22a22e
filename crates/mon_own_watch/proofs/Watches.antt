-- The watch of an image: what is read is an image of it, and of an image it is read.
use Rattle.std.proofs.Common.{◌≡◌, ℕ, zero, suc, ◌-◌, ◌<◌, ◌≤◌, List, [], ◌∷◌, ◌++◌, length, Option, Some, None, Result, Ok, Err, refl, sym, ap, subst, ◌∙◌, inl, inr, append_assoc, arith}
use Rattle.std.specs.Prelude.{◌==◌, if◌then◌else◌, IsOk, true}
use Rattle.std.specs.List.{AllByRecursion}
use Rattle.std.specs.Int.{w16, w32, to_be_bytes}
use Rattle.std.specs.List.Sorted.{IsStrictlySortedBy}
use Rattle.std.proofs.lemmas.List.{length-map}
use Rattle.std.proofs.lemmas.List.Elements.{All-from_recursion, recursion_from_All}
use Rattle.mon_alarms.specs.Rule.{Rule}
use Rattle.mon_window.specs.Window.{AreSizes}
use Rattle.mon_oid.specs.Steps.{◌>>=◌}
use Rattle.mon_ber.proofs.Promised.{IsBytes, IsBytes-after, bind_ok, wanted, chosen, ok_is, pair_is}
use Rattle.mon_board.specs.declared.instance.Instance.{Instance}
use Rattle.mon_board.specs.declared.instance.Watched.{Watched}
use Rattle.mon_board.specs.Instance.{AreInstances, AreSized, IsEngine, instances_of, named}
use Rattle.mon_board.specs.RuleOrder.{AreRules}
use Rattle.mon_board.specs.Watch.{IsWatch, Watch}
use Rattle.mon_board.specs.declared.fault.WatchFault.{WatchFault}
use Rattle.mon_fields.specs.Layout.{instance_octets, numbers_octets}
use Rattle.mon_fields.specs.Reading.{one_by_one, u32_at, with_front}
use Rattle.mon_fields.proofs.Promised.{goes_on, guard, stops, u32_takes}
use Rattle.mon_saved.specs.declared.fault.ImageFault.{ImageFault}
use Rattle.mon_saved.specs.declared.fault.ImageFault.TheVariants.{OutOfMemory, Truncated, BadVersion, OtherWatch, BadImage}
use Rattle.mon_saved.specs.declared.image.Entry.{Entry}
use Rattle.mon_saved.specs.declared.image.Image.{Image}
use Rattle.mon_saved.specs.Image.{ImageVersion, IsVersion, One, Two, IsEntry, SpellsImage, entry_octets}
use Rattle.mon_saved.specs.Reading.{Fails, all_entries, entries_at, entry_at, expected_at, header_at, image_at, incarnation_at, instance_is, lifted, magic_at, octet_within, saved_at, sizes_at, window_at}
use Rattle.mon_saved.proofs.Images.{SamplesAgain}
use Rattle.mon_saved.proofs.Promised.{entry_takes, expected_again, expected_takes, image_again, image_takes, instance_again, instance_takes, lifted_ok, one_window, sizes_one, sizes_two, within_takes}
use Rattle.mon_own_watch.specs.Own.{HasName, NamesWatch, all_by, watched_by}
use Rattle.mon_own_watch.specs.Reading.{all_at, engine_at, head_at, many_at, name_at, named_at, next_watched, watched_at}
use Rattle.mon_own_watch.proofs.Parts.{engine_again, engine_takes, many_again, many_takes, name_again, name_takes}

-- ---- one entry
instance_split : (engine name rest : List ℕ) → instance_octets engine name ++ rest ≡ length engine ∷ engine ++ (length name ∷ numbers_octets name ++ rest)
unfolding instance_octets
instance_split engine name rest = ap (λ (v : List ℕ). length engine ∷ v) (append_assoc engine (length name ∷ numbers_octets name) rest)

sizes_behind : (v : ImageVersion) → IsVersion v → (octets : List ℕ) (s : (ℕ × ℕ) × List ℕ) → IsBytes octets → sizes_at (one_window v) octets ≡ Ok s → IsBytes s.1
sizes_behind (One w) good octets s b e = subst (λ (v : List ℕ). IsBytes v) (sizes_one w octets s good.0 e).0 b
sizes_behind Two good octets s b e =
    let front : List ℕ = s.0.0 ∷ s.0.1 ∷ [] in
    IsBytes-after octets front s.1 b (sizes_two octets s e).0

-- an instance that was read by its parts is that instance
instance_read : (octets engine middle name rest : List ℕ) → octets ≡ length engine ∷ engine ++ middle → middle ≡ length name ∷ numbers_octets name ++ rest → instance_is (named engine name) octets ≡ Ok rest
instance_read octets engine middle name rest first second =
    let laid : octets ≡ instance_octets engine name ++ rest = first ∙ ap (λ (v : List ℕ). length engine ∷ engine ++ v) second ∙ sym (instance_split engine name rest) in
    ap (instance_is (named engine name)) laid ∙ instance_again (named engine name) rest

abbrev made_entry : ℕ × ℕ → List ℕ → Entry
made_entry sizes samples = record { window = sizes.0; epoch = sizes.1; samples = samples }

abbrev made_watched : ℕ × ℕ → List ℕ → List ℕ → Watched
made_watched sizes engine name = record { instance = named engine name; discontinuity = None; window = sizes.0; epoch = sizes.1 }

-- a watched instance, and its entry
pub record IsRead (window : ℕ) (octets : List ℕ) (w : Watched) (rest : List ℕ) : Type 0 where
  pub entry : Entry
  pub is : entry_at window w.instance octets ≡ Ok (entry, rest)
  pub watched : w ≡ watched_by w.instance entry
  pub name : HasName w

entry_is : (window : ℕ) (octets : List ℕ) (s : (ℕ × ℕ) × List ℕ) (i : Instance) (r1 samples rest : List ℕ) → sizes_at window octets ≡ Ok s → instance_is i s.1 ≡ Ok r1 → saved_at s.0 r1 ≡ Ok (samples, rest)
    → entry_at window i octets ≡ Ok (made_entry s.0 samples, rest)
unfolding entry_at
entry_is window octets s i r1 samples rest first second third = rw (first, second, third) refl

watched_takes : (v : ImageVersion) → IsVersion v → (octets : List ℕ) (w : Watched) (rest : List ℕ) → IsBytes octets → watched_at (one_window v) octets ≡ Ok (w, rest) → IsRead (one_window v) octets w rest
unfolding watched_at
watched_takes v good octets w rest b e =
    let made : Watched × List ℕ = (w, rest) in
    let s = bind_ok (sizes_at (one_window v) octets) (λ s. engine_at s.1 >>= λ n. name_at n.1 >>= λ m. saved_at s.0 m.1 >>= λ x. Ok (made_watched s.0 n.0 m.0, x.1)) made e in
    let n = bind_ok (engine_at s.0.1) (λ n. name_at n.1 >>= λ m. saved_at s.0.0 m.1 >>= λ x. Ok (made_watched s.0.0 n.0 m.0, x.1)) made s.2 in
    let m = bind_ok (name_at n.0.1) (λ m. saved_at s.0.0 m.1 >>= λ x. Ok (made_watched s.0.0 n.0.0 m.0, x.1)) made n.2 in
    let x = bind_ok (saved_at s.0.0 m.0.1) (λ x. Ok (made_watched s.0.0 n.0.0 m.0.0, x.1)) made m.2 in
    let p = pair_is (made_watched s.0.0 n.0.0 m.0.0) x.0.1 w rest x.2 in
    let te = engine_takes s.0.1 n.0.0 n.0.1 n.1 in
    let one : List ℕ = length n.0.0 ∷ n.0.0 in
    let tn = name_takes n.0.1 m.0.0 m.0.1 (IsBytes-after s.0.1 one n.0.1 (sizes_behind v good octets s.0 b s.1) te.0) m.1 in
    let i : Instance = named n.0.0 m.0.0 in
    let is = entry_is (one_window v) octets s.0 i m.0.1 x.0.0 x.0.1 s.1 (instance_read s.0.1 n.0.0 n.0.1 m.0.0 m.0.1 te.0 tn.0) x.1 in
    let read : IsRead (one_window v) octets (made_watched s.0.0 n.0.0 m.0.0) x.0.1 = record { entry = made_entry s.0.0 x.0.0; is = is; watched = refl; name = tn.1 } in
    subst (λ (r : List ℕ). IsRead (one_window v) octets w r) p.1 (subst (λ (y : Watched). IsRead (one_window v) octets y x.0.1) p.0 read)

-- of an entry, its instance is read as it is watched
watched_again : (window : ℕ) (i : Instance) (octets : List ℕ) (x : Entry) (rest : List ℕ) → IsEngine i.engine → HasName (watched_by i x) → entry_at window i octets ≡ Ok (x, rest)
    → watched_at window octets ≡ Ok (watched_by i x, rest)
unfolding watched_at entry_at
watched_again window i octets x rest engine name e =
    let made : Entry × List ℕ = (x, rest) in
    let s = bind_ok (sizes_at window octets) (λ s. instance_is i s.1 >>= λ r. saved_at s.0 r >>= λ y. Ok (made_entry s.0 y.0, y.1)) made e in
    let r = bind_ok (instance_is i s.0.1) (λ r. saved_at s.0.0 r >>= λ y. Ok (made_entry s.0.0 y.0, y.1)) made s.2 in
    let y = bind_ok (saved_at s.0.0 r.0) (λ y. Ok (made_entry s.0.0 y.0, y.1)) made r.2 in
    let p = pair_is (made_entry s.0.0 y.0.0) y.0.1 x rest y.2 in
    let laid : s.0.1 ≡ length i.engine ∷ i.engine ++ (length i.name ∷ numbers_octets i.name ++ r.0) = instance_takes i s.0.1 r.0 r.1 ∙ instance_split i.engine i.name r.0 in
    let first : engine_at s.0.1 ≡ Ok (i.engine, length i.name ∷ numbers_octets i.name ++ r.0) = ap engine_at laid ∙ engine_again i.engine (length i.name ∷ numbers_octets i.name ++ r.0) engine in
    rw (s.1, first, name_again i.name r.0 name, y.1) (λ k. Ok (watched_by i (p.0 k), p.1 k))

-- ---- all entries
-- watched instances, and their entries
pub record AreRead (window : ℕ) (n : ℕ) (octets : List ℕ) (ws : List Watched) (rest : List ℕ) : Type 0 where
  pub entries : List Entry
  pub are : entries_at window (instances_of ws) octets ≡ Ok (entries, rest)
  pub watched : ws ≡ all_by (instances_of ws) entries
  pub names : AllByRecursion HasName ws
  pub many : length ws ≡ n

none_read : (window : ℕ) (octets rest : List ℕ) → octets ≡ rest → AreRead window 0 octets [] rest
unfolding entries_at
none_read window octets rest is =
    let none : List Entry = [] in
    record { entries = none; are = ap (λ (r : List ℕ). Ok (none, r)) is; watched = refl; names = tt; many = refl }

one_read : (window n : ℕ) (octets : List ℕ) (w : Watched) (ws : List Watched) (middle rest : List ℕ) → IsRead window octets w middle → AreRead window n middle ws rest → AreRead window (suc n) octets (w ∷ ws) rest
unfolding entries_at
one_read window n octets w ws middle rest first others = record {
  entries = first.entry ∷ others.entries;
  are = rw (first.is, others.are) refl;
  watched = λ k. first.watched k ∷ others.watched k;
  names = (first.name, others.names);
  many = ap (λ (k : ℕ). suc k) others.many;
}

all_take : (v : ImageVersion) → IsVersion v → (last : Option Watched) (n : ℕ) (octets : List ℕ) (ws : List Watched) (rest : List ℕ) → IsBytes octets → one_by_one (next_watched (one_window v)) last n octets ≡ Ok (ws, rest)
    → AreRead (one_window v) n octets ws rest
unfolding one_by_one
all_take v good last zero octets ws rest b e =
    let none : List Watched = [] in
    let p = pair_is none octets ws rest e in
    subst (λ (ys : List Watched). AreRead (one_window v) 0 octets ys rest) p.0 (none_read (one_window v) octets rest p.1)
all_take v good last (suc n) octets ws rest b e =
    let made : List Watched × List ℕ = (ws, rest) in
    let x = bind_ok (watched_at (one_window v) octets) (λ y. one_by_one (next_watched (one_window v)) (Some y.0) n y.1 >>= λ ys. Ok (y.0 ∷ ys.0, ys.1)) made e in
    let y = bind_ok (one_by_one (next_watched (one_window v)) (Some x.0.0) n x.0.1) (λ ys. Ok (x.0.0 ∷ ys.0, ys.1)) made x.2 in
    let p = pair_is (x.0.0 ∷ y.0.0) y.0.1 ws rest y.2 in
    let first = watched_takes v good octets x.0.0 x.0.1 b x.1 in
    let t = entry_takes v good x.0.0.instance octets first.entry x.0.1 b first.is in
    let others = all_take v good (Some x.0.0) n x.0.1 y.0.0 y.0.1 (IsBytes-after octets (entry_octets v x.0.0.instance first.entry) x.0.1 b t.0) y.1 in
    subst (λ (r : List ℕ). AreRead (one_window v) (suc n) octets ws r) p.1
    (subst (λ (ys : List Watched). AreRead (one_window v) (suc n) octets ys y.0.1) p.0 (one_read (one_window v) n octets x.0.0 y.0.0 x.0.1 y.0.1 first others))

abbrev more_of : Entry → List Entry × List ℕ → Result (List Entry × List ℕ) ImageFault
more_of x ys = Ok (x ∷ ys.0, ys.1)

all_again : (window : ℕ) (last : Option Watched) (instances : List Instance) (octets : List ℕ) (xs : List Entry) (rest : List ℕ) → AllByRecursion (λ (i : Instance). IsEngine i.engine) instances
    → AllByRecursion HasName (all_by instances xs) → entries_at window instances octets ≡ Ok (xs, rest)
    → one_by_one (next_watched window) last (length instances) octets ≡ Ok (all_by instances xs, rest)
unfolding entries_at one_by_one
all_again window last [] octets xs rest engines names e =
    let none : List Entry = [] in
    ap (λ (r : List ℕ). Ok ([], r)) (pair_is none octets xs rest e).1
all_again window last (i ∷ instances) octets xs rest engines names e =
    let made : List Entry × List ℕ = (xs, rest) in
    let x = bind_ok (entry_at window i octets) (λ x. entries_at window instances x.1 >>= λ ys. more_of x.0 ys) made e in
    let y = bind_ok (entries_at window instances x.0.1) (λ ys. more_of x.0.0 ys) made x.2 in
    let p = pair_is (x.0.0 ∷ y.0.0) y.0.1 xs rest y.2 in
    let own = subst (λ (es : List Entry). AllByRecursion HasName (all_by (i ∷ instances) es)) (sym p.0) names in
    let first = watched_again window i octets x.0.0 x.0.1 engines.0 own.0 x.1 in
    let others = all_again window (Some (watched_by i x.0.0)) instances x.0.1 y.0.0 y.0.1 engines.1 own.1 y.1 in
    rw (first, others) (λ k. Ok (all_by (i ∷ instances) (p.0 k), p.1 k))

-- ---- the head
version_of : (version w : ℕ) (octets rest : List ℕ) → window_at version octets ≡ Ok (w, rest) → (v : ImageVersion) × IsVersion v × (one_window v ≡ w)
unfolding window_at
version_of version w octets rest e =
    let made : ℕ × List ℕ = (w, rest) in
    let none : ℕ × List ℕ = (0, octets) in
    elim (chosen (version == 1) (octet_within 1 64 BadImage octets) (Ok none) (Ok made) e) [
      | inl one ↦ (let t = within_takes 1 64 BadImage octets w rest one.1 in (One w, (t.1, t.2), refl))
      | inr two ↦ (Two, tt, (pair_is 0 octets w rest two.1).0)
    ]

within_behind : (least most : ℕ) (f : ImageFault) (octets : List ℕ) (x : ℕ × List ℕ) → IsBytes octets → octet_within least most f octets ≡ Ok x → IsBytes x.1
within_behind least most f octets x b e =
    let one : List ℕ = x.0 ∷ [] in
    IsBytes-after octets one x.1 b (within_takes least most f octets x.0 x.1 e).0

magic_behind : (octets rest : List ℕ) → IsBytes octets → magic_at octets ≡ Ok rest → IsBytes rest
unfolding magic_at
magic_behind octets rest b e =
    let m = bind_ok (octet_within 77 77 BadImage octets) (λ m. octet_within 73 73 BadImage m.1 >>= λ i. Ok i.1) rest e in
    let i = bind_ok (octet_within 73 73 BadImage m.0.1) (λ i. Ok i.1) rest m.2 in
    subst (λ (r : List ℕ). IsBytes r) (ok_is i.0.1 rest i.2) (within_behind 73 73 BadImage m.0.1 i.0 (within_behind 77 77 BadImage octets m.0 b m.1) i.1)

incarnation_behind : (octets : List ℕ) (x : ℕ × List ℕ) → IsBytes octets → incarnation_at octets ≡ Ok x → IsBytes x.1
unfolding incarnation_at
incarnation_behind octets x b e =
    let n = bind_ok (lifted (u32_at octets)) (λ m. if m.0 == 0 then Err BadImage else Ok m) x e in
    let g = guard (n.0.0 == 0) BadImage (Ok n.0) x n.2 in
    let t = u32_takes octets n.0.0 n.0.1 b (lifted_ok (u32_at octets) n.0 n.1) in
    subst (λ (y : ℕ × List ℕ). IsBytes y.1) (ok_is n.0 x g.1) (IsBytes-after octets (to_be_bytes w32 n.0.0) n.0.1 b t.0)

window_behind : (version : ℕ) (octets : List ℕ) (x : ℕ × List ℕ) → IsBytes octets → window_at version octets ≡ Ok x → IsBytes x.1
unfolding window_at
window_behind version octets x b e =
    let none : ℕ × List ℕ = (0, octets) in
    elim (chosen (version == 1) (octet_within 1 64 BadImage octets) (Ok none) (Ok x) e) [
      | inl one ↦ within_behind 1 64 BadImage octets x b one.1
      | inr two ↦ subst (λ (y : ℕ × List ℕ). IsBytes y.1) (ok_is none x two.1) b
    ]

-- what is before the entries, part by part
pub record IsHead (octets : List ℕ) (many window : ℕ) (rest : List ℕ) : Type 0 where
  pub mark : List ℕ
  pub marked : magic_at octets ≡ Ok mark
  pub version : ℕ × List ℕ
  pub versioned : octet_within 1 2 BadVersion mark ≡ Ok version
  pub incarnation : ℕ × List ℕ
  pub counted : incarnation_at version.1 ≡ Ok incarnation
  pub behind : List ℕ
  pub sized : window_at version.0 incarnation.1 ≡ Ok (window, behind)
  pub numbered : many_at behind ≡ Ok (many, rest)

head_takes : (octets : List ℕ) (h : (ℕ × ℕ) × List ℕ) → head_at octets ≡ Ok h → IsHead octets h.0.0 h.0.1 h.1
unfolding head_at
head_takes octets h e =
    let m = bind_ok (magic_at octets) (λ m. octet_within 1 2 BadVersion m >>= λ v. incarnation_at v.1 >>= λ j. window_at v.0 j.1 >>= λ w. many_at w.1 >>= λ n. Ok ((n.0, w.0), n.1)) h e in
    let v = bind_ok (octet_within 1 2 BadVersion m.0) (λ v. incarnation_at v.1 >>= λ j. window_at v.0 j.1 >>= λ w. many_at w.1 >>= λ n. Ok ((n.0, w.0), n.1)) h m.2 in
    let j = bind_ok (incarnation_at v.0.1) (λ j. window_at v.0.0 j.1 >>= λ w. many_at w.1 >>= λ n. Ok ((n.0, w.0), n.1)) h v.2 in
    let w = bind_ok (window_at v.0.0 j.0.1) (λ w. many_at w.1 >>= λ n. Ok ((n.0, w.0), n.1)) h j.2 in
    let n = bind_ok (many_at w.0.1) (λ n. Ok ((n.0, w.0.0), n.1)) h w.2 in
    let made : (ℕ × ℕ) × List ℕ = ((n.0.0, w.0.0), n.0.1) in
    let head : IsHead octets n.0.0 w.0.0 n.0.1 = record { mark = m.0; marked = m.1; version = v.0; versioned = v.1; incarnation = j.0; counted = j.1; behind = w.0.1; sized = w.1; numbered = n.1 } in
    subst (λ (x : (ℕ × ℕ) × List ℕ). IsHead octets x.0.0 x.0.1 x.1) (ok_is made h n.2) head

module _ (octets : List ℕ) (many window : ℕ) (rest : List ℕ) (head : IsHead octets many window rest) where
  head_behind : IsBytes octets → IsBytes head.behind
  head_behind b =
      let marked = magic_behind octets head.mark b head.marked in
      let versioned = within_behind 1 2 BadVersion head.mark head.version marked head.versioned in
      let counted = incarnation_behind head.version.1 head.incarnation versioned head.counted in
      window_behind head.version.0 head.incarnation.1 (window, head.behind) counted head.sized

  -- it is the header of an image of as many instances
  head_is : (count : ℕ) → count ≡ many → IsBytes octets → header_at count octets ≡ Ok ((head.incarnation.0, window), rest)
  unfolding header_at
  head_is count same b =
      let t = many_takes head.behind many rest (head_behind b) head.numbered in
      let laid : head.behind ≡ to_be_bytes w16 count ++ rest = t.0 ∙ ap (λ (n : ℕ). to_be_bytes w16 n ++ rest) (sym same) in
      let found : expected_at (to_be_bytes w16 count) head.behind ≡ Ok rest = ap (expected_at (to_be_bytes w16 count)) laid ∙ expected_again (to_be_bytes w16 count) rest in
      rw (head.marked, head.versioned, head.counted, head.sized, found) refl

-- ---- all of it
-- the image that was read with its watched instances
pub record IsNamed (octets : List ℕ) (ws : List Watched) : Type 0 where
  pub image : Image
  pub spelled : SpellsImage octets (instances_of ws) image
  pub watched : ws ≡ all_by (instances_of ws) image.entries
  pub names : AllByRecursion HasName ws

read_image : (octets : List ℕ) (instances : List Instance) (incarnation window : ℕ) (rest : List ℕ) (entries : List Entry) (last : List ℕ) → header_at (length instances) octets ≡ Ok ((incarnation, window), rest)
    → entries_at window instances rest ≡ Ok (entries, last) → (length last == 0) ≡ true → image_at instances octets ≡ Ok (record { incarnation = incarnation; entries = entries })
unfolding image_at all_entries
read_image octets instances incarnation window rest entries last head are none = rw (head, are, none) refl

pub named_takes : (octets : List ℕ) (ws : List Watched) → IsBytes octets → named_at octets ≡ Ok ws → IsNamed octets ws
unfolding named_at all_at
named_takes octets ws b e =
    let h = bind_ok (head_at octets) (λ h. all_at h.0.1 h.0.0 h.1 >>= λ a. if length a.1 == 0 then Ok a.0 else Err BadImage) ws e in
    let a = bind_ok (all_at h.0.0.1 h.0.0.0 h.0.1) (λ a. if length a.1 == 0 then Ok a.0 else Err BadImage) ws h.2 in
    let z = wanted (length a.0.1 == 0) BadImage (Ok a.0.0) ws a.2 in
    let head = head_takes octets h.0 h.1 in
    let v = version_of head.version.0 h.0.0.1 head.incarnation.1 head.behind head.sized in
    let t = many_takes head.behind h.0.0.0 h.0.1 (head_behind octets h.0.0.0 h.0.0.1 h.0.1 head b) head.numbered in
    let bytes = IsBytes-after head.behind (to_be_bytes w16 h.0.0.0) h.0.1 (head_behind octets h.0.0.0 h.0.0.1 h.0.1 head b) t.0 in
    let read : one_by_one (next_watched (one_window v.0)) None h.0.0.0 h.0.1 ≡ Ok (a.0.0, a.0.1) = ap (λ (w : ℕ). one_by_one (next_watched w) None h.0.0.0 h.0.1) v.2 ∙ a.1 in
    let are = subst (λ (w : ℕ). AreRead w h.0.0.0 h.0.1 a.0.0 a.0.1) v.2 (all_take v.0 v.1 None h.0.0.0 h.0.1 a.0.0 a.0.1 bytes read) in
    let count : length (instances_of a.0.0) ≡ h.0.0.0 = length-map a.0.0 (λ (w : Watched). w.instance) ∙ are.many in
    let header = head_is octets h.0.0.0 h.0.0.1 h.0.1 head (length (instances_of a.0.0)) count b in
    let image : Image = record { incarnation = head.incarnation.0; entries = are.entries } in
    let found = image_takes (instances_of a.0.0) octets image b (read_image octets (instances_of a.0.0) head.incarnation.0 h.0.0.1 h.0.1 are.entries a.0.1 header are.are z.0) in
    let named : IsNamed octets a.0.0 = record { image = image; spelled = found; watched = are.watched; names = are.names } in
    subst (λ (ys : List Watched). IsNamed octets ys) (ok_is a.0.0 ws z.1) named

-- ---- of an image its watch is read
header_takes : (count : ℕ) (octets : List ℕ) (h : (ℕ × ℕ) × List ℕ) → 1 ≤ count → count ≤ 256 → header_at count octets ≡ Ok h → head_at octets ≡ Ok ((count, h.0.1), h.1)
unfolding header_at head_at
header_takes count octets h some few e =
    let m = bind_ok (magic_at octets) (λ m. octet_within 1 2 BadVersion m >>= λ v. incarnation_at v.1 >>= λ j. window_at v.0 j.1 >>= λ w. expected_at (to_be_bytes w16 count) w.1 >>= λ r. Ok ((j.0, w.0), r)) h e in
    let v = bind_ok (octet_within 1 2 BadVersion m.0) (λ v. incarnation_at v.1 >>= λ j. window_at v.0 j.1 >>= λ w. expected_at (to_be_bytes w16 count) w.1 >>= λ r. Ok ((j.0, w.0), r)) h m.2 in
    let j = bind_ok (incarnation_at v.0.1) (λ j. window_at v.0.0 j.1 >>= λ w. expected_at (to_be_bytes w16 count) w.1 >>= λ r. Ok ((j.0, w.0), r)) h v.2 in
    let w = bind_ok (window_at v.0.0 j.0.1) (λ w. expected_at (to_be_bytes w16 count) w.1 >>= λ r. Ok ((j.0.0, w.0), r)) h j.2 in
    let r = bind_ok (expected_at (to_be_bytes w16 count) w.0.1) (λ r. Ok ((j.0.0, w.0.0), r)) h w.2 in
    let made : (ℕ × ℕ) × List ℕ = ((j.0.0, w.0.0), r.0) in
    let p = ok_is made h r.2 in
    let found : many_at w.0.1 ≡ Ok (count, r.0) = ap many_at (expected_takes (to_be_bytes w16 count) w.0.1 r.0 r.1) ∙ many_again count r.0 some few in
    rw (m.1, v.1, j.1, w.1, found) (λ k. Ok ((count, (p k).0.1), (p k).1))

engines_of : (ws : List Watched) → AllByRecursion (λ (w : Watched). IsEngine w.instance.engine) ws → AllByRecursion (λ (i : Instance). IsEngine i.engine) (instances_of ws)
engines_of [] all = tt
engines_of (w ∷ ws) all = (all.0, engines_of ws all.1)

named_is : (octets : List ℕ) (many window : ℕ) (rest : List ℕ) (ws : List Watched) (last : List ℕ) → head_at octets ≡ Ok ((many, window), rest) → all_at window many rest ≡ Ok (ws, last) → (length last == 0) ≡ true
    → named_at octets ≡ Ok ws
unfolding named_at
named_is octets many window rest ws last head all none = rw (head, all, none) refl

pub named_again : SamplesAgain → (octets : List ℕ) (watch : Watch) → NamesWatch octets watch → named_at octets ≡ Ok watch.instances
unfolding all_at image_at all_entries
named_again again octets watch is =
    let instances = instances_of watch.instances in
    let count : length instances ≡ length watch.instances = length-map watch.instances (λ (w : Watched). w.instance) in
    let e = image_again again instances octets is.image is.spelled in
    let h = bind_ok (header_at (length instances) octets) (λ h. all_entries h.0.1 instances h.1 >>= λ x. Ok (record { incarnation = h.0.0; entries = x })) is.image e in
    let x = bind_ok (all_entries h.0.0.1 instances h.0.1) (λ x. Ok (record { incarnation = h.0.0.0; entries = x })) is.image h.2 in
    let y = bind_ok (entries_at h.0.0.1 instances h.0.1) (λ y. if length y.1 == 0 then Ok y.0 else Err BadImage) x.0 x.1 in
    let z = wanted (length y.0.1 == 0) BadImage (Ok y.0.0) x.0 y.2 in
    let made : Image = record { incarnation = h.0.0.0; entries = x.0 } in
    let same : y.0.0 ≡ is.image.entries = ok_is y.0.0 x.0 z.1 ∙ ap (λ (i : Image). i.entries) (ok_is made is.image x.2) in
    let own : watch.instances ≡ all_by instances y.0.0 = is.watched ∙ ap (all_by instances) (sym same) in
    let names = subst (λ (ws : List Watched). AllByRecursion HasName ws) own is.names in
    let engines = engines_of watch.instances (recursion_from_All (λ (w : Watched). IsEngine w.instance.engine) watch.instances is.listed.engines) in
    let head = header_takes (length instances) octets h.0 (omega (arith, count, is.listed.some)) (omega (arith, count, is.listed.few)) h.1 in
    let all = all_again h.0.0.1 None instances h.0.1 y.0.0 y.0.1 engines names y.1 in
    named_is octets (length instances) h.0.0.1 h.0.1 (all_by instances y.0.0) y.0.1 head all z.0 ∙ ap (λ (ws : List Watched). Ok ws) (sym own)

-- ---- a loop over entries
-- what is before does not matter
unlinked : (window : ℕ) (a b : Option Watched) (n : ℕ) (octets : List ℕ) → one_by_one (next_watched window) a n octets ≡ one_by_one (next_watched window) b n octets
unfolding one_by_one
unlinked window a b zero octets = refl
unlinked window a b (suc n) octets = refl

module _ (window : ℕ) (front : List Watched) (n : ℕ) (octets : List ℕ) (total : Result (List Watched × List ℕ) ImageFault) (so_far : with_front front (one_by_one (next_watched window) None n octets) ≡ total) (some : 0 < n) where
  pub fails : (e : ImageFault) → Fails e (watched_at window octets) → Fails e total
  fails OutOfMemory h = tt
  fails Truncated h = stops (next_watched window) front None n octets total so_far Truncated some h
  fails BadVersion h = stops (next_watched window) front None n octets total so_far BadVersion some h
  fails OtherWatch h = stops (next_watched window) front None n octets total so_far OtherWatch some h
  fails BadImage h = stops (next_watched window) front None n octets total so_far BadImage some h

  pub one_more : (w : Watched) (rest : List ℕ) → watched_at window octets ≡ Ok (w, rest) → with_front (front ++ w ∷ []) (one_by_one (next_watched window) None (n - 1) rest) ≡ total
  one_more w rest h = ap (with_front (front ++ w ∷ [])) (unlinked window None (Some w) (n - 1) rest) ∙ goes_on (next_watched window) front None n octets total so_far w rest some h

-- ---- the watch
sized : (instances : List Instance) (es : List Entry) → AllByRecursion IsEntry es → AllByRecursion (λ (w : Watched). AreSizes w.window w.epoch) (all_by instances es)
sized [] es are = tt
sized (i ∷ instances) [] are = tt
sized (i ∷ instances) (e ∷ es) are = (record { positive = are.0.some; within = are.0.part; small = are.0.small }, sized instances es are.1)

-- the instances have sizes that a window may have
pub are_sized : (octets : List ℕ) (ws : List Watched) → IsNamed octets ws → AreSized ws
are_sized octets ws is =
    All-from_recursion (λ (w : Watched). AreSizes w.window w.epoch) ws
    (subst (λ (ys : List Watched). AllByRecursion (λ (w : Watched). AreSizes w.window w.epoch) ys) (sym is.watched) (sized (instances_of ws) is.image.entries is.spelled.valid.entries))

no_rules : (n : ℕ) → AreRules n []
unfolding IsStrictlySortedBy
no_rules n = record { few = omega arith; known = All-from_recursion (λ (r : Rule). r.instance < n) [] tt; rising = tt }

abbrev pub watch_with : List Watched → Watch
watch_with ws = record { instances = ws; rules = [] }

-- what a watch was made of is named
pub is_found : (octets : List ℕ) (ws : List Watched) (rules : List Rule) (watch : Watch) → IsNamed octets ws → rules ≡ [] → watch ≡ record { instances = ws; rules = rules } → IsWatch watch → NamesWatch octets watch
is_found octets ws rules watch is none made valid =
    let same : watch ≡ watch_with ws = made ∙ ap (λ (r : List Rule). record { instances = ws; rules = r }) none in
    let listed : AreInstances ws = subst (λ (w : Watch). AreInstances w.instances) same valid.listed in
    subst (λ (w : Watch). NamesWatch octets w) (sym same)
    record { image = is.image; spelled = is.spelled; watched = is.watched; names = is.names; listed = listed; unruled = refl }

pub is_only : SamplesAgain → (octets : List ℕ) (ws : List Watched) (rules : List Rule) (watch other : Watch) → named_at octets ≡ Ok ws → rules ≡ [] → watch ≡ record { instances = ws; rules = rules } → NamesWatch octets other → other ≡ watch
is_only again octets ws rules watch other read none made is =
    let same : other.instances ≡ ws = ok_is other.instances ws (sym (named_again again octets other is) ∙ read) in
    (λ k. record { instances = same k; rules = (is.unruled ∙ sym none) k }) ∙ sym made

not_ok : (fault : WatchFault) → (let r : Result Watch WatchFault = Err fault in IsOk r) → ⊥
not_ok fault is = let never : ⊥ = cc in never

-- no watch could be made: the instances are none of one
pub unlisted : (octets : List ℕ) (ws : List Watched) (rules : List Rule) (r : Result Watch WatchFault) (fault : WatchFault) → IsNamed octets ws → rules ≡ [] → r ≡ Err fault
    → (AreSized ws → AreInstances ws → AreRules (length ws) rules → IsOk r) → ¬ (AreInstances ws)
unlisted octets ws rules r fault is none failed accepted = λ listed.
    let ok = accepted (are_sized octets ws is) listed (subst (λ (rs : List Rule). AreRules (length ws) rs) (sym none) (no_rules (length ws))) in
    not_ok fault (subst (λ (x : Result Watch WatchFault). IsOk x) failed ok)

-- what is named is watched
pub is_listed : SamplesAgain → (octets : List ℕ) (ws : List Watched) (watch : Watch) → named_at octets ≡ Ok ws → NamesWatch octets watch → AreInstances ws
is_listed again octets ws watch read is =
    subst (λ (ys : List Watched). AreInstances ys) (ok_is watch.instances ws (sym (named_again again octets watch is) ∙ read)) is.listed

-- a fault though all was read is out of memory
pub only_memory : {Y Z : Type 0} (e : ImageFault) (read : Result Y ImageFault) (y : Y) (z : Z) → read ≡ Ok y → Fails e read → Fails e (let r : Result Z ImageFault = Ok z in r)
only_memory OutOfMemory read y z is h = tt
only_memory Truncated read y z is h = absurd cc
only_memory BadVersion read y z is h = absurd cc
only_memory OtherWatch read y z is h = absurd cc
only_memory BadImage read y z is h = absurd cc

pub one : SamplesAgain → (octets : List ℕ) (a b : Watch) → NamesWatch octets a → NamesWatch octets b → a ≡ b
one again octets a b first second =
    let same = ok_is a.instances b.instances (sym (named_again again octets a first) ∙ named_again again octets b second) in
    λ k. record { instances = same k; rules = (first.unruled ∙ sym second.unruled) k }
