-- What stations share, and what is each one's own.
use Rattle.std.specs.Prelude.{◌≡◌, ◌≢◌, ℕ, ◌≤◌, List, length, All, AllPairs, Some, slice_get, refl}
use Rattle.std.specs.Coded.{Coded, code_by, coded_ℕ, coded_list, coded×}
use Rattle.mon_board.specs.Instance.{named}
use Rattle.mon_board.specs.Watch.{Watch, IsWatch}
use Rattle.mon_board.specs.contracts.watch.Watch as watch
use Rattle.mon_board.specs.declared.instance.Watched.{Watched}
use Rattle.mon_poller.specs.Target.{AreTargets}
use Rattle.mon_poller.specs.contracts.target.Target as target
use Rattle.mon_poller.specs.declared.target.Object.{Object}
use Rattle.mon_poller.specs.declared.target.Target.{Target}

-- a station's number, what it watches, whom it polls, and the numbers of its peers
pub record Core : Type 0 where
  pub station : ℕ
  pub watch : Watch
  pub targets : List Target
  pub peers : List ℕ

-- a core as a tuple
abbrev pub core_code : Coded Core
core_code =
    code_by (ℕ × (Watch × (List Target × List ℕ)))
    (coded× coded_ℕ (coded× (watch.the_row).coded (coded× (coded_list (target.the_row).coded)
    (coded_list coded_ℕ))))
    (λ c. (c.station, (c.watch, (c.targets, c.peers)))) (λ p. record
    { station = p.0; watch = p.1.0; targets = p.1.1.0; peers = p.1.1.1 }) (λ _. refl)

-- the instance of the object's number is the one of its name at the engine, with its discontinuity
unfoldable pub IsPolledAs : Watch → List ℕ → Object → Type 0
IsPolledAs watch engine o =
    (w : Watched) × (slice_get watch.instances o.instance ≡ Some w)
    × (w.instance ≡ named engine o.name) × (w.discontinuity ≡ o.discontinuity)

-- the numbers of a target's objects are those of their instances in the watch
unfoldable pub ArePolledAs : Watch → Target → Type 0
ArePolledAs watch t = All (IsPolledAs watch t.engine) t.objects

-- the numbers of all objects are those of their instances in the watch
abbrev pub AreInstancesOf : Watch → List Target → Type 0
AreInstancesOf watch targets = All (ArePolledAs watch) targets

-- at most 15 other stations, none twice
pub record ArePeersOf (own : ℕ) (numbers : List ℕ) : Type 0 where
  pub few : length numbers ≤ 15
  pub others : All (λ number. number ≢ own) numbers
  pub distinct : AllPairs (λ a b. a ≢ b) numbers

-- what every core has
pub record IsCore (c : Core) : Type 0 where
  pub station : 1 ≤ c.station
  pub watch : IsWatch c.watch
  pub targets : AreTargets c.targets
  pub objects : AreInstancesOf c.watch c.targets
  pub peers : ArePeersOf c.station c.peers
