-- The reading of each table returns what the table is, and nothing else.
use Rattle.std.proofs.Common.{◌≡◌, ◌↔◌, ℕ, zero, suc, ◌<◌, ◌≤◌, ◌^◌, true, ◌&&◌, nat_le, nat_lt, List, [], ◌∷◌, Option, Some, None, option_map, All, AllPairs, Result, Ok, Err, refl, sym, ap, ◌∙◌, subst, arith, inl, inr, ℤ, pos, negsuc}
use Rattle.std.specs.Prelude.{option_and_then}
use Rattle.std.proofs.lemmas.Bool.{and_parts, cases_Bool}
use Rattle.std.proofs.lemmas.Bool.Decides.{nat_tests}
use Rattle.std.proofs.lemmas.List.Elements.{All-cons, All-nil}
use Rattle.std.proofs.lemmas.List.Kept.{AllPairs-cons}
use Rattle.toml.specs.Data.{Items, no_items, item, Members, as_table, as_integer, as_bool}
use Rattle.mon_mib.specs.declared.status.Status.{Status}
use Rattle.mon_mib.specs.Held.{at_start}
use Rattle.mon_mib.specs.Held.{AreIndexes}
use Rattle.mon_mib.specs.Sim.{indexes_of}
use Rattle.mon_mib.specs.declared.interface.Growth.{Growth}
use Rattle.mon_mib.specs.declared.interface.Interface.{Interface}
use Rattle.mon_mib.specs.declared.sys_texts.SysTexts.{SysTexts}
use Rattle.mon_vacm.specs.Tables.{PolicyTables, IsPolicy}
use Rattle.mon_vacm.specs.declared.access_entry.AccessEntry.{AccessEntry}
use Rattle.mon_vacm.specs.declared.community.Community.{Community}
use Rattle.mon_vacm.specs.declared.family.ViewTreeFamily.{ViewTreeFamily}
use Rattle.mon_vacm.specs.declared.group.Group.{Group}
use Rattle.mon_settings.specs.declared.agent.System.{System}
use Rattle.mon_settings.specs.declared.key.Key.{Key}
use Rattle.mon_settings.specs.declared.key.Key.TheVariants as key
use Rattle.mon_settings.specs.declared.fault.SettingsFault.{SettingsFault}
use Rattle.mon_settings.specs.declared.place.PathPart.TheVariants as step
use Rattle.mon_settings.specs.declared.tables.Counts.{Counts}
use Rattle.mon_settings.specs.Accepted.{Holds, HoldsOr, HoldsRows, AreRows, HoldsGrowth, IsCommunity, IsGroup, IsAccess, IsFamily, IsGrowth, IsInterface, IsAgent, Agent}
use Rattle.mon_settings.specs.Agent.{set_texts_of, system_of, agent_of}
use Rattle.mon_settings.specs.Interfaces.{counts_of, growth_of, growth_at, interface_of, rise_from, rising, interfaces_in}
use Rattle.mon_settings.specs.Grammar.{agent_keys, growth_keys, table_keys}
use Rattle.mon_settings.specs.Keys.{only, needed_at, default_at, within}
use Rattle.mon_settings.specs.Leaf.{bounded, number_in, int_in, text_in, hex_in, oid_in, addr_in, model_in, long_in}
use Rattle.mon_settings.specs.Lists.{list_at}
use Rattle.mon_settings.specs.Tables.{community_of, group_of, access_entry_of, family_of, policy_in}
use Rattle.mon_settings.proofs.Policies.{policy_made, policy_accepted}
use Rattle.mon_settings.proofs.Steps.{bind_from, bind_to, ok_same, needed_from, needed_to, default_from, default_to, only_from, only_to, within_from, list_from, list_to}

community_of-from : (t : Members) (x : Community) → community_of t ≡ Ok x → IsCommunity t x
unfolding community_of
community_of-from t x h =
    let (v0, p0, h1) = bind_from (only (table_keys key.Community) t) _ x h in
    let (v1, p1, h2) = bind_from (needed_at key.Community (text_in 1 512) t) _ x h1 in
    let (v2, p2, h3) = bind_from (needed_at key.Security (text_in 1 32) t) _ x h2 in
    let made : Community = record { name = v1; security_name = v2 } in
    let is : made ≡ x = ok_same made x h3 in
    subst (λ (y : Community). IsCommunity t y) is (record {
      known = only_from (table_keys key.Community) t _ p0;
      community = needed_from key.Community (text_in 1 512) t _ p1;
      security = needed_from key.Security (text_in 1 32) t _ p2;
    })

community_of-to : (t : Members) (x : Community) → IsCommunity t x → community_of t ≡ Ok x
unfolding community_of
community_of-to t x h =
    bind_to (only (table_keys key.Community) t) _ tt x (only_to (table_keys key.Community) t h.known)
    (bind_to (needed_at key.Community (text_in 1 512) t) _ x.name x (needed_to key.Community (text_in 1 512) t _ h.community)
    (bind_to (needed_at key.Security (text_in 1 32) t) _ x.security_name x (needed_to key.Security (text_in 1 32) t _ h.security)
    refl))

pub community_of-is : (t : Members) (x : Community) → (community_of t ≡ Ok x) ↔ IsCommunity t x
community_of-is t x = (community_of-from t x, community_of-to t x)

group_of-from : (t : Members) (x : Group) → group_of t ≡ Ok x → IsGroup t x
unfolding group_of
group_of-from t x h =
    let (v0, p0, h1) = bind_from (only (table_keys key.Group) t) _ x h in
    let (v1, p1, h2) = bind_from (needed_at key.Security (text_in 1 32) t) _ x h1 in
    let (v2, p2, h3) = bind_from (needed_at key.Group (text_in 1 32) t) _ x h2 in
    let made : Group = record { security_name = v1; group_name = v2 } in
    let is : made ≡ x = ok_same made x h3 in
    subst (λ (y : Group). IsGroup t y) is (record {
      known = only_from (table_keys key.Group) t _ p0;
      security = needed_from key.Security (text_in 1 32) t _ p1;
      group = needed_from key.Group (text_in 1 32) t _ p2;
    })

group_of-to : (t : Members) (x : Group) → IsGroup t x → group_of t ≡ Ok x
unfolding group_of
group_of-to t x h =
    bind_to (only (table_keys key.Group) t) _ tt x (only_to (table_keys key.Group) t h.known)
    (bind_to (needed_at key.Security (text_in 1 32) t) _ x.security_name x (needed_to key.Security (text_in 1 32) t _ h.security)
    (bind_to (needed_at key.Group (text_in 1 32) t) _ x.group_name x (needed_to key.Group (text_in 1 32) t _ h.group)
    refl))

pub group_of-is : (t : Members) (x : Group) → (group_of t ≡ Ok x) ↔ IsGroup t x
group_of-is t x = (group_of-from t x, group_of-to t x)

access_of-from : (t : Members) (x : AccessEntry) → access_entry_of t ≡ Ok x → IsAccess t x
unfolding access_entry_of
access_of-from t x h =
    let (v0, p0, h1) = bind_from (only (table_keys key.Access) t) _ x h in
    let (v1, p1, h2) = bind_from (needed_at key.Group (text_in 1 32) t) _ x h1 in
    let (v2, p2, h3) = bind_from (needed_at key.Model model_in t) _ x h2 in
    let (v3, p3, h4) = bind_from (default_at key.Read None (λ d. option_map Some (text_in 1 32 d)) t) _ x h3 in
    let (v4, p4, h5) = bind_from (default_at key.Write None (λ d. option_map Some (text_in 1 32 d)) t) _ x h4 in
    let made : AccessEntry = record { group_name = v1; security_model = v2; read_view = v3; write_view = v4 } in
    let is : made ≡ x = ok_same made x h5 in
    subst (λ (y : AccessEntry). IsAccess t y) is (record {
      known = only_from (table_keys key.Access) t _ p0;
      group = needed_from key.Group (text_in 1 32) t _ p1;
      model = needed_from key.Model model_in t _ p2;
      read = default_from key.Read (λ d. option_map Some (text_in 1 32 d)) t _ None p3;
      write = default_from key.Write (λ d. option_map Some (text_in 1 32 d)) t _ None p4;
    })

access_of-to : (t : Members) (x : AccessEntry) → IsAccess t x → access_entry_of t ≡ Ok x
unfolding access_entry_of
access_of-to t x h =
    bind_to (only (table_keys key.Access) t) _ tt x (only_to (table_keys key.Access) t h.known)
    (bind_to (needed_at key.Group (text_in 1 32) t) _ x.group_name x (needed_to key.Group (text_in 1 32) t _ h.group)
    (bind_to (needed_at key.Model model_in t) _ x.security_model x (needed_to key.Model model_in t _ h.model)
    (bind_to (default_at key.Read None (λ d. option_map Some (text_in 1 32 d)) t) _ x.read_view x (default_to key.Read (λ d. option_map Some (text_in 1 32 d)) t _ None h.read)
    (bind_to (default_at key.Write None (λ d. option_map Some (text_in 1 32 d)) t) _ x.write_view x (default_to key.Write (λ d. option_map Some (text_in 1 32 d)) t _ None h.write)
    refl))))

pub access_of-is : (t : Members) (x : AccessEntry) → (access_entry_of t ≡ Ok x) ↔ IsAccess t x
access_of-is t x = (access_of-from t x, access_of-to t x)

family_of-from : (t : Members) (x : ViewTreeFamily) → family_of t ≡ Ok x → IsFamily t x
unfolding family_of
family_of-from t x h =
    let (v0, p0, h1) = bind_from (only (table_keys key.View) t) _ x h in
    let (v1, p1, h2) = bind_from (needed_at key.View (text_in 1 32) t) _ x h1 in
    let (v2, p2, h3) = bind_from (needed_at key.Subtree oid_in t) _ x h2 in
    let (v3, p3, h4) = bind_from (default_at key.Mask [] (hex_in 0 16) t) _ x h3 in
    let (v4, p4, h5) = bind_from (needed_at key.Included as_bool t) _ x h4 in
    let made : ViewTreeFamily = record { view_name = v1; subtree = v2; mask = v3; included = v4 } in
    let is : made ≡ x = ok_same made x h5 in
    subst (λ (y : ViewTreeFamily). IsFamily t y) is (record {
      known = only_from (table_keys key.View) t _ p0;
      view = needed_from key.View (text_in 1 32) t _ p1;
      subtree = needed_from key.Subtree oid_in t _ p2;
      mask = default_from key.Mask (hex_in 0 16) t _ [] p3;
      included = needed_from key.Included as_bool t _ p4;
    })

family_of-to : (t : Members) (x : ViewTreeFamily) → IsFamily t x → family_of t ≡ Ok x
unfolding family_of
family_of-to t x h =
    bind_to (only (table_keys key.View) t) _ tt x (only_to (table_keys key.View) t h.known)
    (bind_to (needed_at key.View (text_in 1 32) t) _ x.view_name x (needed_to key.View (text_in 1 32) t _ h.view)
    (bind_to (needed_at key.Subtree oid_in t) _ x.subtree x (needed_to key.Subtree oid_in t _ h.subtree)
    (bind_to (default_at key.Mask [] (hex_in 0 16) t) _ x.mask x (default_to key.Mask (hex_in 0 16) t _ [] h.mask)
    (bind_to (needed_at key.Included as_bool t) _ x.included x (needed_to key.Included as_bool t _ h.included)
    refl))))

pub family_of-is : (t : Members) (x : ViewTreeFamily) → (family_of t ≡ Ok x) ↔ IsFamily t x
family_of-is t x = (family_of-from t x, family_of-to t x)

growth_of-from : (t : Members) (x : Growth) → growth_of t ≡ Ok x → IsGrowth t x
unfolding growth_of
growth_of-from t x h =
    let (v0, p0, h1) = bind_from (only growth_keys t) _ x h in
    let (v1, p1, h2) = bind_from (needed_at key.Start long_in t) _ x h1 in
    let (v2, p2, h3) = bind_from (needed_at key.Rate long_in t) _ x h2 in
    let made : Growth = record { start = v1; rate = v2 } in
    let is : made ≡ x = ok_same made x h3 in
    subst (λ (y : Growth). IsGrowth t y) is (record {
      known = only_from growth_keys t _ p0;
      start = needed_from key.Start long_in t _ p1;
      rate = needed_from key.Rate long_in t _ p2;
    })

growth_of-to : (t : Members) (x : Growth) → IsGrowth t x → growth_of t ≡ Ok x
unfolding growth_of
growth_of-to t x h =
    bind_to (only growth_keys t) _ tt x (only_to growth_keys t h.known)
    (bind_to (needed_at key.Start long_in t) _ x.start x (needed_to key.Start long_in t _ h.start)
    (bind_to (needed_at key.Rate long_in t) _ x.rate x (needed_to key.Rate long_in t _ h.rate)
    refl))

growth_at_from : (k : Key) (t : Members) (g : Growth) → growth_at k t ≡ Ok g → HoldsGrowth k t g
unfolding growth_at
growth_at_from k t g h =
    let (inner, there, is) = bind_from (needed_at k as_table t) (λ inner. within (step.Value k) (growth_of inner)) g h in
    (inner, needed_from k as_table t inner there, growth_of-from inner g (within_from (step.Value k) (growth_of inner) g is))

growth_at_to : (k : Key) (t : Members) (g : Growth) → HoldsGrowth k t g → growth_at k t ≡ Ok g
unfolding growth_at
growth_at_to k t g (inner, there, is) =
    bind_to (needed_at k as_table t) (λ inner. within (step.Value k) (growth_of inner)) inner g (needed_to k as_table t inner there) (ap (within (step.Value k)) (growth_of-to inner g is))

-- the four counts of an interface are those of the table
record HoldsCounts (t : Members) (c : Counts) : Type 0 where
  pub in_octets : HoldsGrowth key.InOctets t c.in_octets
  pub in_packets : HoldsGrowth key.InPackets t c.in_packets
  pub out_octets : HoldsGrowth key.OutOctets t c.out_octets
  pub out_packets : HoldsGrowth key.OutPackets t c.out_packets

counts_of-from : (t : Members) (x : Counts) → counts_of t ≡ Ok x → HoldsCounts t x
unfolding counts_of
counts_of-from t x h =
    let (v0, p0, h1) = bind_from (growth_at key.InOctets t) _ x h in
    let (v1, p1, h2) = bind_from (growth_at key.InPackets t) _ x h1 in
    let (v2, p2, h3) = bind_from (growth_at key.OutOctets t) _ x h2 in
    let (v3, p3, h4) = bind_from (growth_at key.OutPackets t) _ x h3 in
    let made : Counts = record { in_octets = v0; in_packets = v1; out_octets = v2; out_packets = v3 } in
    subst (HoldsCounts t) (ok_same made x h4) (record {
      in_octets = growth_at_from key.InOctets t _ p0;
      in_packets = growth_at_from key.InPackets t _ p1;
      out_octets = growth_at_from key.OutOctets t _ p2;
      out_packets = growth_at_from key.OutPackets t _ p3;
    })

counts_of-to : (t : Members) (x : Counts) → HoldsCounts t x → counts_of t ≡ Ok x
unfolding counts_of
counts_of-to t x h =
    bind_to (growth_at key.InOctets t) _ x.in_octets x (growth_at_to key.InOctets t _ h.in_octets)
    (bind_to (growth_at key.InPackets t) _ x.in_packets x (growth_at_to key.InPackets t _ h.in_packets)
    (bind_to (growth_at key.OutOctets t) _ x.out_octets x (growth_at_to key.OutOctets t _ h.out_octets)
    (bind_to (growth_at key.OutPackets t) _ x.out_packets x (growth_at_to key.OutPackets t _ h.out_packets)
    refl)))

interface_of-from : (t : Members) (x : Interface) → interface_of t ≡ Ok x → IsInterface t x
unfolding interface_of
interface_of-from t x h =
    let (v0, p0, h1) = bind_from (only (table_keys key.Interface) t) _ x h in
    let (v1, p1, h2) = bind_from (needed_at key.Index (number_in 1 2147483647) t) _ x h1 in
    let (v2, p2, h3) = bind_from (needed_at key.Descr (text_in 0 255) t) _ x h2 in
    let (v3, p3, h4) = bind_from (needed_at key.Type (int_in 0 2147483647) t) _ x h3 in
    let (v4, p4, h5) = bind_from (needed_at key.Mtu (int_in 0 2147483647) t) _ x h4 in
    let (v5, p5, h6) = bind_from (needed_at key.Speed long_in t) _ x h5 in
    let (v6, p6, h7) = bind_from (needed_at key.Phys (hex_in 0 255) t) _ x h6 in
    let (v7, p7, h8) = bind_from (needed_at key.Name (text_in 0 255) t) _ x h7 in
    let (v8, p8, h9) = bind_from (needed_at key.Alias (text_in 0 64) t) _ x h8 in
    let (v9, p9, h10) = bind_from (counts_of t) _ x h9 in
    let made : Interface = record { index = v1; descr = v2; kind = v3; mtu = v4; speed = v5; phys = v6; name = v7; alias = v8; status = at_start; in_octets = v9.in_octets; in_packets = v9.in_packets; out_octets = v9.out_octets; out_packets = v9.out_packets } in
    let is : made ≡ x = ok_same made x h10 in
    let counts = counts_of-from t v9 p9 in
    subst (λ (y : Interface). IsInterface t y) is (record {
      known = only_from (table_keys key.Interface) t _ p0;
      index = needed_from key.Index (number_in 1 2147483647) t _ p1;
      descr = needed_from key.Descr (text_in 0 255) t _ p2;
      kind = needed_from key.Type (int_in 0 2147483647) t _ p3;
      mtu = needed_from key.Mtu (int_in 0 2147483647) t _ p4;
      speed = needed_from key.Speed long_in t _ p5;
      phys = needed_from key.Phys (hex_in 0 255) t _ p6;
      name = needed_from key.Name (text_in 0 255) t _ p7;
      alias = needed_from key.Alias (text_in 0 64) t _ p8;
      status = refl;
      in_octets = counts.in_octets;
      in_packets = counts.in_packets;
      out_octets = counts.out_octets;
      out_packets = counts.out_packets;
    })

interface_of-to : (t : Members) (x : Interface) → IsInterface t x → interface_of t ≡ Ok x
unfolding interface_of
interface_of-to t x h =
    let counts : Counts = record { in_octets = x.in_octets; in_packets = x.in_packets; out_octets = x.out_octets; out_packets = x.out_packets } in
    let are : HoldsCounts t counts = record { in_octets = h.in_octets; in_packets = h.in_packets; out_octets = h.out_octets; out_packets = h.out_packets } in
    bind_to (only (table_keys key.Interface) t) _ tt x (only_to (table_keys key.Interface) t h.known)
    (bind_to (needed_at key.Index (number_in 1 2147483647) t) _ x.index x (needed_to key.Index (number_in 1 2147483647) t _ h.index)
    (bind_to (needed_at key.Descr (text_in 0 255) t) _ x.descr x (needed_to key.Descr (text_in 0 255) t _ h.descr)
    (bind_to (needed_at key.Type (int_in 0 2147483647) t) _ x.kind x (needed_to key.Type (int_in 0 2147483647) t _ h.kind)
    (bind_to (needed_at key.Mtu (int_in 0 2147483647) t) _ x.mtu x (needed_to key.Mtu (int_in 0 2147483647) t _ h.mtu)
    (bind_to (needed_at key.Speed long_in t) _ x.speed x (needed_to key.Speed long_in t _ h.speed)
    (bind_to (needed_at key.Phys (hex_in 0 255) t) _ x.phys x (needed_to key.Phys (hex_in 0 255) t _ h.phys)
    (bind_to (needed_at key.Name (text_in 0 255) t) _ x.name x (needed_to key.Name (text_in 0 255) t _ h.name)
    (bind_to (needed_at key.Alias (text_in 0 64) t) _ x.alias x (needed_to key.Alias (text_in 0 64) t _ h.alias)
    (bind_to (counts_of t) _ counts x (counts_of-to t counts are)
    (ap (λ (s : Status). Ok (record x { status = s })) (sym h.status)))))))))))

pub interface_of-is : (t : Members) (x : Interface) → (interface_of t ≡ Ok x) ↔ IsInterface t x
interface_of-is t x = (interface_of-from t x, interface_of-to t x)

-- the indexes of interfaces
bounded-le : (least most : ℕ) (z : ℤ) (n : ℕ) → bounded least most z ≡ Some n → n ≤ most
bounded-le least most (pos m) n h =
    elim (cases_Bool (nat_le least m && nat_le m most)) [
      | inl both ↦
          let (low, high) = and_parts (nat_le least m) (nat_le m most) both in
          let found : Some m ≡ Some n = rw both at h in
          let same : m ≡ n = cc in
          let fits : m ≤ most = grind (arith, nat_tests) in
          subst (λ k. k ≤ most) same fits
      | inr other ↦ let nothing : None ≡ Some n = rw other at h in absurd cc
    ]
bounded-le least most (negsuc m) n h = absurd cc

number-le : (least most : ℕ) (o : Option ℤ) (n : ℕ) → option_and_then (bounded least most) o ≡ Some n → n ≤ most
number-le least most None n h = absurd cc
number-le least most (Some z) n h = bounded-le least most z n h

small_rows : (ds : Items) (ps : List Interface) → AreRows IsInterface ds ps → All (λ i. i < 2 ^ 31) (indexes_of ps)
small_rows no_items [] h = All-nil (λ i. i < 2 ^ 31)
small_rows no_items (p ∷ ps) h = absurd h
small_rows (item d ds) [] h = absurd h
small_rows (item d ds) (p ∷ ps) (t, table, is, others) =
    let (v, there, value) = is.index in
    let most = number-le 1 2147483647 (as_integer v) p.index value in
    All-cons (λ i. i < 2 ^ 31) p.index (indexes_of ps) (omega (arith, most)) (small_rows ds ps others)

weaker : (a b : ℕ) (is : List ℕ) → a < b → All (λ i. b < i) is → All (λ i. a < i) is
weaker a b is lt h = λ k d within. omega (arith, lt, h k d within)

rise_both : (last : ℕ) (ps : List Interface) → rise_from last ps ≡ true → All (λ i. last < i) (indexes_of ps) × AllPairs (λ i j. i < j) (indexes_of ps)
rise_both last [] h = (All-nil (λ i. last < i), λ i j d lt within. absurd (omega arith))
rise_both last (p ∷ ps) h =
    let (here, rest) = and_parts (nat_lt last p.index) (rise_from p.index ps) h in
    let above : last < p.index = grind (arith, nat_tests) in
    let (later, pairs) = rise_both p.index ps rest in (
      All-cons (λ i. last < i) p.index (indexes_of ps) above (weaker last p.index (indexes_of ps) above later),
      AllPairs-cons (λ i j. i < j) p.index (indexes_of ps) later pairs,
    )

rise_back : (last : ℕ) (ps : List Interface) → All (λ i. last < i) (indexes_of ps) → AllPairs (λ i j. i < j) (indexes_of ps) → rise_from last ps ≡ true
rise_back last [] a p = refl
rise_back last (q ∷ ps) a p =
    let above : last < q.index = a 0 0 (omega arith) in
    let here : nat_lt last q.index ≡ true = grind (arith, nat_tests) in
    let later : All (λ i. q.index < i) (indexes_of ps) = λ k d lt. p zero (suc k) d (omega arith) (omega arith) in
    let pairs : AllPairs (λ i j. i < j) (indexes_of ps) = λ i j d lt within. p (suc i) (suc j) d (omega arith) (omega arith) in
    rw (here, rise_back q.index ps later pairs)

one_up : (is : List ℕ) → All (λ i. 0 < i) is → All (λ i. 1 ≤ i) is
one_up is h = λ k d lt. omega (arith, h k d lt)

one_down : (is : List ℕ) → All (λ i. 1 ≤ i) is → All (λ i. 0 < i) is
one_down is h = λ k d lt. omega (arith, h k d lt)

risen : (ps qs : List Interface) → rising ps ≡ Ok qs → (ps ≡ qs) × (rise_from 0 ps ≡ true)
unfolding rising
risen ps qs h =
    elim (cases_Bool (rise_from 0 ps)) [
      | inl up ↦ let found : (let r : Result (List Interface) SettingsFault = Ok ps in r) ≡ Ok qs = rw up at h in (cc, up)
      | inr down ↦ let refused : (let r : Result (List Interface) SettingsFault = Err _ in r) ≡ Ok qs = rw down at h in absurd cc
    ]

-- the indexes of listed interfaces, where they rise
pub listed_indexes : (t : Members) (ps : List Interface) → list_at key.Interface interface_of t ≡ Ok ps → rise_from 0 ps ≡ true → AreIndexes (indexes_of ps)
listed_indexes t ps there rises =
    let listed = list_from key.Interface interface_of IsInterface interface_of-is t ps there in
    let (above, pairs) = rise_both 0 ps rises in
    record { rising = pairs; positive = one_up (indexes_of ps) above; small = small_rows listed.0 ps listed.2 }

module _ (t : Members) (ps : List Interface) where
  interfaces_from : interfaces_in t ≡ Ok ps → HoldsRows key.Interface IsInterface t ps × AreIndexes (indexes_of ps)
  unfolding interfaces_in
  interfaces_from h =
      let (qs, there, up) = bind_from (list_at key.Interface interface_of t) rising ps h in
      let (same, rises) = risen qs ps up in
      let own : list_at key.Interface interface_of t ≡ Ok ps = there ∙ ap Ok same in (
        list_from key.Interface interface_of IsInterface interface_of-is t ps own,
        listed_indexes t ps own (subst (λ (l : List Interface). rise_from 0 l ≡ true) same rises),
      )

  interfaces_to : HoldsRows key.Interface IsInterface t ps → AreIndexes (indexes_of ps) → interfaces_in t ≡ Ok ps
  unfolding interfaces_in rising
  interfaces_to listed is =
      let up = rise_back 0 ps (one_down (indexes_of ps) is.positive) is.rising in
      let kept : rising ps ≡ Ok ps = rw up in
      bind_to (list_at key.Interface interface_of t) rising ps ps (list_to key.Interface interface_of IsInterface interface_of-is t ps listed) kept

-- the policy
record IsTables (t : Members) (p : PolicyTables) : Type 0 where
  pub communities : HoldsRows key.Community IsCommunity t p.communities
  pub groups : HoldsRows key.Group IsGroup t p.groups
  pub accesses : HoldsRows key.Access IsAccess t p.accesses
  pub families : HoldsRows key.View IsFamily t p.families
  pub policy : IsPolicy p

policy_from : (t : Members) (p : PolicyTables) → policy_in t ≡ Ok p → IsTables t p
unfolding policy_in
policy_from t p h =
    let (v0, p0, h1) = bind_from (list_at key.Community community_of t) _ p h in
    let (v1, p1, h2) = bind_from (list_at key.Group group_of t) _ p h1 in
    let (v2, p2, h3) = bind_from (list_at key.Access access_entry_of t) _ p h2 in
    let (v3, p3, h4) = bind_from (list_at key.View family_of t) _ p h3 in
    let made : PolicyTables = record { communities = v0; groups = v1; accesses = v2; families = v3 } in
    let (same, is) = policy_accepted made p h4 in
    subst (λ (y : PolicyTables). IsTables t y) same (record {
      communities = list_from key.Community community_of IsCommunity community_of-is t v0 p0;
      groups = list_from key.Group group_of IsGroup group_of-is t v1 p1;
      accesses = list_from key.Access access_entry_of IsAccess access_of-is t v2 p2;
      families = list_from key.View family_of IsFamily family_of-is t v3 p3;
      policy = is;
    })

policy_to : (t : Members) (p : PolicyTables) → IsTables t p → policy_in t ≡ Ok p
unfolding policy_in
policy_to t p h =
    bind_to (list_at key.Community community_of t) _ p.communities p (list_to key.Community community_of IsCommunity community_of-is t p.communities h.communities)
    (bind_to (list_at key.Group group_of t) _ p.groups p (list_to key.Group group_of IsGroup group_of-is t p.groups h.groups)
    (bind_to (list_at key.Access access_entry_of t) _ p.accesses p (list_to key.Access access_entry_of IsAccess access_of-is t p.accesses h.accesses)
    (bind_to (list_at key.View family_of t) _ p.families p (list_to key.View family_of IsFamily family_of-is t p.families h.families)
    (policy_made p h.policy))))

-- what is outside of the lists
record IsSystem (t : Members) (s : System) : Type 0 where
  pub listen : Holds key.Listen addr_in t s.listen
  pub limit : Holds key.Limit (int_in 484 8192) t s.settings.max_message_size
  pub engine : Holds key.Engine (hex_in 5 32) t s.settings.engine
  pub boots : HoldsOr key.Boots (pos 1) (int_in 1 2147483647) t s.settings.boots
  pub descr : Holds key.Descr (text_in 0 255) t s.settings.descr
  pub object_id : Holds key.ObjectId oid_in t s.settings.object_id
  pub contact : Holds key.Contact (text_in 0 255) t s.texts.contact
  pub name : Holds key.Name (text_in 0 255) t s.texts.name
  pub location : Holds key.Location (text_in 0 255) t s.texts.location
  pub services : Holds key.Services (int_in 0 127) t s.settings.services

-- the texts that can be set are those of the tree
record HoldsTexts (t : Members) (s : SysTexts) : Type 0 where
  pub contact : Holds key.Contact (text_in 0 255) t s.contact
  pub name : Holds key.Name (text_in 0 255) t s.name
  pub location : Holds key.Location (text_in 0 255) t s.location

set_texts_of-from : (t : Members) (x : SysTexts) → set_texts_of t ≡ Ok x → HoldsTexts t x
unfolding set_texts_of
set_texts_of-from t x h =
    let (v0, p0, h1) = bind_from (needed_at key.Contact (text_in 0 255) t) _ x h in
    let (v1, p1, h2) = bind_from (needed_at key.Name (text_in 0 255) t) _ x h1 in
    let (v2, p2, h3) = bind_from (needed_at key.Location (text_in 0 255) t) _ x h2 in
    let made : SysTexts = record { contact = v0; name = v1; location = v2 } in
    subst (HoldsTexts t) (ok_same made x h3) (record {
      contact = needed_from key.Contact (text_in 0 255) t _ p0;
      name = needed_from key.Name (text_in 0 255) t _ p1;
      location = needed_from key.Location (text_in 0 255) t _ p2;
    })

set_texts_of-to : (t : Members) (x : SysTexts) → HoldsTexts t x → set_texts_of t ≡ Ok x
unfolding set_texts_of
set_texts_of-to t x h =
    bind_to (needed_at key.Contact (text_in 0 255) t) _ x.contact x (needed_to key.Contact (text_in 0 255) t _ h.contact)
    (bind_to (needed_at key.Name (text_in 0 255) t) _ x.name x (needed_to key.Name (text_in 0 255) t _ h.name)
    (bind_to (needed_at key.Location (text_in 0 255) t) _ x.location x (needed_to key.Location (text_in 0 255) t _ h.location)
    refl))

system_of-from : (t : Members) (x : System) → system_of t ≡ Ok x → IsSystem t x
unfolding system_of
system_of-from t x h =
    let (v0, p0, h1) = bind_from (needed_at key.Listen addr_in t) _ x h in
    let (v1, p1, h2) = bind_from (needed_at key.Limit (int_in 484 8192) t) _ x h1 in
    let (v2, p2, h3) = bind_from (needed_at key.Engine (hex_in 5 32) t) _ x h2 in
    let (v3, p3, h4) = bind_from (default_at key.Boots (pos 1) (int_in 1 2147483647) t) _ x h3 in
    let (v4, p4, h5) = bind_from (needed_at key.Descr (text_in 0 255) t) _ x h4 in
    let (v5, p5, h6) = bind_from (needed_at key.ObjectId oid_in t) _ x h5 in
    let (v6, p6, h7) = bind_from (set_texts_of t) _ x h6 in
    let (v7, p7, h8) = bind_from (needed_at key.Services (int_in 0 127) t) _ x h7 in
    let made : System = record {
      listen = v0;
      settings = record { descr = v4; object_id = v5; services = v7; engine = v2; boots = v3; max_message_size = v1 };
      texts = v6;
    } in
    let is : made ≡ x = ok_same made x h8 in
    let texts = set_texts_of-from t v6 p6 in
    subst (λ (y : System). IsSystem t y) is (record {
      listen = needed_from key.Listen addr_in t _ p0;
      limit = needed_from key.Limit (int_in 484 8192) t _ p1;
      engine = needed_from key.Engine (hex_in 5 32) t _ p2;
      boots = default_from key.Boots (int_in 1 2147483647) t _ (pos 1) p3;
      descr = needed_from key.Descr (text_in 0 255) t _ p4;
      object_id = needed_from key.ObjectId oid_in t _ p5;
      contact = texts.contact;
      name = texts.name;
      location = texts.location;
      services = needed_from key.Services (int_in 0 127) t _ p7;
    })

system_of-to : (t : Members) (x : System) → IsSystem t x → system_of t ≡ Ok x
unfolding system_of
system_of-to t x h =
    bind_to (needed_at key.Listen addr_in t) _ x.listen x (needed_to key.Listen addr_in t _ h.listen)
    (bind_to (needed_at key.Limit (int_in 484 8192) t) _ x.settings.max_message_size x (needed_to key.Limit (int_in 484 8192) t _ h.limit)
    (bind_to (needed_at key.Engine (hex_in 5 32) t) _ x.settings.engine x (needed_to key.Engine (hex_in 5 32) t _ h.engine)
    (bind_to (default_at key.Boots (pos 1) (int_in 1 2147483647) t) _ x.settings.boots x (default_to key.Boots (int_in 1 2147483647) t _ (pos 1) h.boots)
    (bind_to (needed_at key.Descr (text_in 0 255) t) _ x.settings.descr x (needed_to key.Descr (text_in 0 255) t _ h.descr)
    (bind_to (needed_at key.ObjectId oid_in t) _ x.settings.object_id x (needed_to key.ObjectId oid_in t _ h.object_id)
    (bind_to (set_texts_of t) _ x.texts x (set_texts_of-to t x.texts (record { contact = h.contact; name = h.name; location = h.location }))
    (bind_to (needed_at key.Services (int_in 0 127) t) _ x.settings.services x (needed_to key.Services (int_in 0 127) t _ h.services)
    refl)))))))

agent_of-from : (t : Members) (x : Agent) → agent_of t ≡ Ok x → IsAgent t x
unfolding agent_of
agent_of-from t x h =
    let (v0, p0, h1) = bind_from (only agent_keys t) _ x h in
    let (v1, p1, h2) = bind_from (system_of t) _ x h1 in
    let (v2, p2, h3) = bind_from (policy_in t) _ x h2 in
    let (v3, p3, h4) = bind_from (interfaces_in t) _ x h3 in
    let made : Agent = record { listen = v1.listen; settings = v1.settings; texts = v1.texts; policy = v2; interfaces = v3 } in
    let is : made ≡ x = ok_same made x h4 in
    let system = system_of-from t v1 p1 in
    let tables = policy_from t v2 p2 in
    let rows = interfaces_from t v3 p3 in
    subst (λ (y : Agent). IsAgent t y) is (record {
      known = only_from agent_keys t _ p0;
      listen = system.listen;
      limit = system.limit;
      engine = system.engine;
      boots = system.boots;
      descr = system.descr;
      object_id = system.object_id;
      contact = system.contact;
      name = system.name;
      location = system.location;
      services = system.services;
      communities = tables.communities;
      groups = tables.groups;
      accesses = tables.accesses;
      families = tables.families;
      policy = tables.policy;
      interfaces = rows.0;
      rising = rows.1;
    })

agent_of-to : (t : Members) (x : Agent) → IsAgent t x → agent_of t ≡ Ok x
unfolding agent_of
agent_of-to t x h =
    let system : System = record { listen = x.listen; settings = x.settings; texts = x.texts } in
    let is : IsSystem t system = record {
      listen = h.listen;
      limit = h.limit;
      engine = h.engine;
      boots = h.boots;
      descr = h.descr;
      object_id = h.object_id;
      contact = h.contact;
      name = h.name;
      location = h.location;
      services = h.services;
    } in
    let tables : IsTables t x.policy = record {
      communities = h.communities;
      groups = h.groups;
      accesses = h.accesses;
      families = h.families;
      policy = h.policy;
    } in
    bind_to (only agent_keys t) _ tt x (only_to agent_keys t h.known)
    (bind_to (system_of t) _ system x (system_of-to t system is)
    (bind_to (policy_in t) _ x.policy x (policy_to t x.policy tables)
    (bind_to (interfaces_in t) _ x.interfaces x (interfaces_to t x.interfaces h.interfaces h.rising)
    refl)))

pub agent_of-is : (t : Members) (x : Agent) → (agent_of t ≡ Ok x) ↔ IsAgent t x
agent_of-is t x = (agent_of-from t x, agent_of-to t x)
