-- The stations of a network: their peers, and the files of their settings.
use Rattle.std.proofs.Common.{◌≡◌, ◌≢◌, ◌≤◌, ◌<◌, ◌+◌, ◌*◌, ◌^◌, ◌++◌, ◌∷◌, ◌⊎◌, ◌∙◌, true, false, nat_le, ℕ, suc, List, [], length, map, ap, append_assoc, arith, inl, inr, refl, string_bytes, subst, sym}
use Rattle.std.proofs.lemmas.Bool.Decides.{nat_tests}
use Rattle.std.proofs.lemmas.List.{length-append, length-map, map-append}
use Rattle.std.specs.Prelude.{OnOk, Result, Ok, Err}
use Rattle.mon_client.specs.Network.{Agents}
use Rattle.std.proofs.Math.Nat.{mul-le-mul_right}
use Rattle.mon_app.specs.declared.fault.AppFault.TheVariants.{BadText}
use Rattle.mon_console.specs.Failure.{IsMemory, IsSaid}
use Rattle.mon_console.specs.declared.failure.Failure.{Failure}
use Rattle.mon_faults.specs.declared.fault.Fault.TheVariants.{App}
use Rattle.mon_placing.specs.Machines.{listed}
use Rattle.mon_placing.specs.declared.fault.MachinesFault.{MachinesFault}
use Rattle.mon_placing.specs.declared.fault.MachinesFault.TheVariants as machines_fault
use Rattle.mon_placing.specs.Network.{ArePlaced, seat_at}
use Rattle.mon_placing.specs.declared.machines.Machine.{Machine}
use Rattle.mon_placing.specs.declared.network.Network.{Network}
use Rattle.mon_placing.specs.declared.network.Seat.{Seat}
use Rattle.mon_survey.specs.declared.options.Options.{Options}
use Rattle.mon_survey.specs.declared.options.Peer.{Peer}
use Rattle.mon_survey.specs.declared.size.TargetSize.{TargetSize}
use Rattle.mon_settings_commands.specs.Fitting.{AreFitting}
use Rattle.mon_settings_commands.specs.Network.{AreFilesOf, AreSeatFiles, IsNetwork, IsOfMachines, IsSeatFile, IsUnported, machines_words}
use Rattle.mon_settings_commands.specs.Parts.{HasGroups, HasNoPlan}
use Rattle.mon_settings_commands.specs.Seats.{AreSeatOptions, AreSeatTexts, IsSeatSettings, other_at, others_of, peer_at}
use Rattle.mon_settings_commands.specs.Source.{Source}
use Rattle.mon_settings_commands.specs.declared.network.Output.{Output}
use Rattle.mon_settings_commands.specs.declared.settings.Texts.{Texts}

-- the peers so far, and one station more
pub more_others : (s : Seat) (k : ℕ) (start before after : List (ℕ × List ℕ)) → before ≡ start ++ others_of s k → after ≡ before ++ other_at s k → after ≡ start ++ others_of s (k + 1)
more_others s k start before after was now =
    let one : suc k ≡ k + 1 = omega arith in
    now ∙ (ap (λ (b : List (ℕ × List ℕ)). b ++ other_at s k) was ∙ (append_assoc start (others_of s k) (other_at s k) ∙ ap (λ n. start ++ others_of s n) one))

-- all stations of the group
pub whole_group : (s : Seat) (k count : ℕ) (start peers : List (ℕ × List ℕ)) → peers ≡ start ++ others_of s k → count ≤ k → k ≤ count → peers ≡ start ++ others_of s count
whole_group s k count start peers is past fits = let same : k ≡ count = omega (arith, past, fits) in is ∙ ap (λ n. start ++ others_of s n) same

-- a peer at the end of peers
pub one_peer : (before after : List Peer) (peer : Peer) → after ≡ before ++ peer ∷ [] → map peer_at after ≡ map peer_at before ++ peer_at peer ∷ []
one_peer before after peer is = ap (map peer_at) is ∙ map-append peer_at before (peer ∷ [])

module _ (agents : Agents) (s : Source) (folder : List ℕ) (n : Network) where
  -- the file of the next station
  files_on : (first : ℕ) (xs : List Output) (x : Output) → AreSeatFiles agents s folder n first xs → IsSeatFile agents s folder n (first + length xs) x
      → AreSeatFiles agents s folder n first (xs ++ x ∷ [])
  files_on first [] x are is = (subst (λ (k : ℕ). IsSeatFile agents s folder n k x) (grind (arith)) is, tt)
  files_on first (y ∷ xs) x are is =
      (are.0, files_on (first + 1) xs x are.1 (subst (λ (k : ℕ). IsSeatFile agents s folder n k x) (grind (arith)) is))

  zero-plus : (k : ℕ) → 0 + k ≡ k
  zero-plus k = grind (arith)

  -- the files of one station more
  pub one_file_more : (before after : List Output) (place : ℕ) (x : Output) → length before ≡ place → AreSeatFiles agents s folder n 0 before → after ≡ before ++ x ∷ []
      → IsSeatFile agents s folder n place x → (length after ≡ place + 1) × AreSeatFiles agents s folder n 0 after
  one_file_more before after place x is are now file = (
    ap length now ∙ (length-append before (x ∷ []) ∙ ap (λ k. k + 1) is),
    subst (λ (xs : List Output). AreSeatFiles agents s folder n 0 xs) (sym now)
        (files_on 0 before x are (subst (λ (k : ℕ). IsSeatFile agents s folder n k x) (sym (zero-plus (length before) ∙ is)) file)),
  )

-- all places were gone through
pub all_places : (k count : ℕ) (xs : List Output) → length xs ≡ k → count ≤ k → k ≤ count → length xs ≡ count
all_places k count xs is past fits = is ∙ (omega (arith, past, fits))

-- memory ran out, or this place is the one
pub at_some_place : {M : Type 0} → (At : ℕ → Type 0) (place : ℕ) → M ⊎ At place → M ⊎ ((k : ℕ) × At k)
at_some_place At place (inl memory) = inl memory
at_some_place At place (inr is) = inr (place, is)

-- a place among the stations of groups that have ports is small
pub small_place : (n : Network) (groups place : ℕ) → ArePlaced n groups → IsNetwork n → place < groups * n.stations → place < 2 ^ 32
small_place n groups place placed is inside =
    let fits = placed.listen in
    let few : groups ≤ 65537 = omega (arith, fits) in
    let most = mul-le-mul_right n.stations few in
    let three = is.few in
    omega (arith, inside, most, three)

pub exceeds : (a b : ℕ) → nat_le a b ≡ false → b < a
exceeds a b e = grind (arith, nat_tests)

within_both : (a b : ℕ) → nat_le a b ≡ true → a ≤ b
within_both a b e = grind (arith, nat_tests)

-- groups whose ports can be written
pub are_placed : (n : Network) (groups : ℕ) → IsNetwork n → nat_le (n.port + n.first + groups) 65537 ≡ true → ArePlaced n groups
are_placed n groups is e =
    let sum = within_both (n.port + n.first + groups) 65537 e in
    let port = is.port in
    let three = is.few in
    record {
      machines = is.machines;
      first = is.first;
      few = omega (arith, three);
      listen = sum;
      serve = omega (arith, sum, port);
    }

module _ (agents : Agents) (s : Source) (folder : List ℕ) (n : Network) (failure : Failure) where
  pub no_groups : HasNoPlan s failure ⊎ ((groups : ℕ) × HasGroups s groups × IsUnported n groups failure) → AreFilesOf agents s folder n (Err failure)
  no_groups (inl plan) = inl plan
  no_groups (inr ports) = inr (inr (inl ports))

  pub no_seats : IsMemory failure ⊎ ((place : ℕ) × AreFitting agents s.asked (IsSeatSettings s (seat_at n place)) (Err failure)) → AreFilesOf agents s folder n (Err failure)
  no_seats (inl memory) = inr (inl memory)
  no_seats (inr place) = inr (inr (inr place))

-- the texts of options are those that were made
pub seat_options : (from : Source) (s : Seat) (size : TargetSize) (t : Texts) (o : Options) → AreSeatTexts from.words s t → o.station ≡ s.station + 1 → o.window ≡ from.words.window → o.wait_ms ≡ from.words.wait_ms
    → o.size ≡ size → (from.words.tries ≤ 8 → o.tries ≡ from.words.tries) → (from.asked.percent ≤ 100 → o.percent ≡ from.asked.percent) → o.listen.now ≡ string_bytes t.listen → o.file.now ≡ string_bytes t.file
    → o.peers.now ≡ t.peers.items → o.modules.now ≡ from.words.modules.now → o.address.now ≡ from.words.address.now → o.community.now ≡ from.words.community.now → AreSeatOptions from s size o
seat_options from s size t o texts station window wait_ms size_is tries percent listen file peers modules address community = record {
  station = station;
  listen = listen ∙ texts.listen;
  file = file ∙ texts.file;
  peers = ap (map peer_at) peers ∙ texts.peers;
  window = window;
  wait_ms = wait_ms;
  tries = tries;
  size_is = size_is;
  percent = percent;
  modules = modules;
  address = address;
  community = community;
}

-- as many machines are listed as there are
pub as_listed : (P : ℕ → Type 0) (ms : List Machine) → P (length (map listed ms)) → P (length ms)
as_listed P ms has = subst P (length-map ms listed) has

-- the failure of a file that lists no machines
pub other_machines : (path : List ℕ) (fault : MachinesFault) (failure : Failure) → fault ≢ machines_fault.OutOfMemory → IsSaid (App BadText) (path ++ machines_words fault) failure
    → IsOfMachines path fault failure
other_machines path machines_fault.OutOfMemory failure other said = absurd (other refl)
other_machines path (machines_fault.Malformed n) failure other said = said
other_machines path (machines_fault.RepeatedName n) failure other said = said
other_machines path (machines_fault.RepeatedAddress n) failure other said = said
other_machines path (machines_fault.TooMany n) failure other said = said
other_machines path machines_fault.NoMachine failure other said = said
other_machines path (machines_fault.TooFew n) failure other said = said
