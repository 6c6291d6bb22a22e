-- The test of the numbers of peers is their condition.
use Rattle.std.proofs.Common.{◌≡◌, ◌≢◌, ◌↔◌, ℕ, ◌==◌, ◌≤◌, nat_le, true, false, not, Bool, List, length, map, Ok, Err, refl, sym, inl, inr, arith}
use Rattle.std.specs.List.{list_all}
use Rattle.std.proofs.lemmas.Bool.{and_parts, cases_Bool, false≢true}
use Rattle.std.proofs.lemmas.Bool.Decides.{nat_tests}
use Rattle.mon_settings.specs.SettingsFault.{bad_value}
use Rattle.mon_settings.specs.declared.key.Key.TheVariants as key
use Rattle.mon_settings.specs.declared.station_tables.PeerRow.{PeerRow}
use Rattle.mon_settings.specs.declared.station_tables.TargetRow.{TargetRow}
use Rattle.mon_settings.specs.Station.{are_apart, are_peer_numbers, checked_peers}
use Rattle.mon_config.specs.StationCore.{ArePeersOf}
use Rattle.mon_settings.proofs.Policies.{all_from, all_to, pairs_from, pairs_to}

other_is : (a b : ℕ) → (not (a == b) ≡ true) ↔ (a ≢ b)
other_is a b = (λ h e. grind (arith, nat_tests), λ h. grind (arith, nat_tests))

few_is : (a b : ℕ) → (nat_le a b ≡ true) ↔ (a ≤ b)
few_is a b = (λ h. grind (arith, nat_tests), λ h. grind (arith, nat_tests))

pub peer_numbers_from : (own : ℕ) (ns : List ℕ) → are_peer_numbers own ns ≡ true → ArePeersOf own ns
peer_numbers_from own ns h =
    let (few, rest) = and_parts (nat_le (length ns) 15) _ h in
    let (others, distinct) = and_parts (list_all (λ n. not (n == own)) ns) _ rest in
    record {
      few = (few_is (length ns) 15).0 few;
      others = all_from (λ n. not (n == own)) (λ n. n ≢ own) (λ n. other_is n own) ns others;
      distinct = pairs_from (λ a b. not (a == b)) (λ a b. a ≢ b) other_is ns distinct;
    }

pub peer_numbers_to : (own : ℕ) (ns : List ℕ) → ArePeersOf own ns → are_peer_numbers own ns ≡ true
peer_numbers_to own ns h =
    rw (
      (few_is (length ns) 15).1 h.few,
      all_to (λ n. not (n == own)) (λ n. n ≢ own) (λ n. other_is n own) ns h.others,
      pairs_to (λ a b. not (a == b)) (λ a b. a ≢ b) other_is ns h.distinct,
    )

-- a test that decides the condition is the one of the definition
pub same_test : (own : ℕ) (ns : List ℕ) (r : Bool) → (r ≡ true) ↔ ArePeersOf own ns → r ≡ are_peer_numbers own ns
same_test own ns true is = sym (peer_numbers_to own ns (is.0 refl))
same_test own ns false is =
    elim (cases_Bool (are_peer_numbers own ns)) [
      | inl h ↦ absurd (false≢true (is.1 (peer_numbers_from own ns h)))
      | inr h ↦ sym h
    ]

module _ (own : ℕ) (targets : List TargetRow) (peers : List PeerRow) where
  pub numbers_refused : are_peer_numbers own (map (λ (p : PeerRow). p.station) peers) ≡ false → checked_peers own targets peers ≡ Err (bad_value key.Peer)
  numbers_refused h = rw h

  pub peers_accepted : are_peer_numbers own (map (λ (p : PeerRow). p.station) peers) ≡ true → are_apart targets peers ≡ true → checked_peers own targets peers ≡ Ok peers
  peers_accepted h apart = rw (h, apart)
