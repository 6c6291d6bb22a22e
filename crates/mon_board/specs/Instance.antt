-- Instances, their order, and which may be watched.
use Rattle.std.specs.Prelude.{ℕ, ◌≤◌, List, length, map, All}
use Rattle.std.specs.declared.cmp.Ordering.{Ordering}
use Rattle.std.specs.Ordering.{nat_cmp, on, then_cmp}
use Rattle.std.specs.Cmp.Lexicographic.{slice_cmp}
use Rattle.std.specs.List.Sorted.{IsStrictlySortedBy}
use Rattle.mon_window.specs.Window.{AreSizes}
use Rattle.mon_board.specs.declared.instance.Instance.{Instance}
use Rattle.mon_board.specs.declared.instance.Watched.{Watched}

-- by the engine's octets, and then by the name
unfoldable pub instance_cmp : Instance → Instance → Ordering
instance_cmp = then_cmp (on (λ i. i.engine) (slice_cmp nat_cmp))
    (on (λ i. i.name) (slice_cmp nat_cmp))

-- the object of this name at this engine
abbrev pub named : List ℕ → List ℕ → Instance
named engine name = record { engine = engine; name = name }

-- the instances that are watched
abbrev pub instances_of : List Watched → List Instance
instances_of watched = map (λ w. w.instance) watched

-- an engine id has 5 to 32 octets (RFC 3411 section 5, SnmpEngineID)
abbrev pub IsEngine : List ℕ → Type 0
IsEngine octets = (5 ≤ length octets) × (length octets ≤ 32)

-- of each instance a window may have the sizes
abbrev pub AreSized : List Watched → Type 0
AreSized watched = All (λ w. AreSizes w.window w.epoch) watched

-- 1 to 256 instances, each at an engine, rising by engine and then by name
pub record AreInstances (watched : List Watched) : Type 0 where
  pub some : 1 ≤ length watched
  pub few : length watched ≤ 256
  pub engines : All (λ w. IsEngine w.instance.engine) watched
  pub rising : IsStrictlySortedBy instance_cmp (instances_of watched)
