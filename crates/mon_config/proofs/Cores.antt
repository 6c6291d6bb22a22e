-- What holds of every core.
use Rattle.std.proofs.Common.{◌≡◌, ℕ, ◌≤◌, ◌<◌, List, length, All, sym, subst}
use Rattle.std.proofs.lemmas.Option.{slice_get_within}
use Rattle.mon_board.specs.Watch.{Watch, IsWatch}
use Rattle.mon_poller.specs.Target.{AreTargets}
use Rattle.mon_poller.specs.declared.target.Target.{Target}
use Rattle.mon_config.specs.StationCore.{Core, IsPolledAs, ArePolledAs, AreInstancesOf, ArePeersOf, IsCore}

-- the numbers of objects are below that of the instances
pub numbers_below : (watch : Watch) (targets : List Target) → AreInstancesOf watch targets → All (λ t. All (λ o. o.instance < length watch.instances) t.objects) targets
unfolding IsPolledAs ArePolledAs
numbers_below watch targets are = λ k d lt j e within.
    let polled = are k d lt j e within in
    slice_get_within watch.instances _ polled.0 polled.1

-- another station of the same watch and targets
pub with_core : (c : Core) (station : ℕ) (watch : Watch) (targets : List Target) (peers given : List ℕ) → IsCore c → 1 ≤ station → ArePeersOf station given
    → watch ≡ c.watch → targets ≡ c.targets → peers ≡ given → IsCore (record { station = station; watch = watch; targets = targets; peers = peers })
with_core c station watch targets peers given is positive others same_watch same_targets same_peers = record {
  station = positive;
  watch = subst IsWatch (sym same_watch) is.watch;
  targets = subst AreTargets (sym same_targets) is.targets;
  objects = subst (λ (w : Watch). AreInstancesOf w targets) (sym same_watch) (subst (AreInstancesOf c.watch) (sym same_targets) is.objects);
  peers = subst (ArePeersOf station) (sym same_peers) others;
}
