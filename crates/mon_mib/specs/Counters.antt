-- The counters of the snmp group (RFC 3418 section 2).
use Rattle.std.specs.Prelude.{ℕ, ◌+◌, ◌%◌, ◌^◌}
use Rattle.mon_mib.specs.declared.counters.Counter.{Counter}
use Rattle.mon_mib.specs.declared.counters.Counter.TheVariants.{InPackets, BadVersions}
use Rattle.mon_mib.specs.declared.counters.Counter.TheVariants.{BadCommunities, ParseErrors}
use Rattle.mon_mib.specs.declared.counters.Counter.TheVariants.{SilentDrops}
use Rattle.mon_mib.specs.declared.counters.Counters.{Counters}

-- before the first message
abbrev pub no_counts : Counters
no_counts = record {
  in_packets = 0;
  bad_versions = 0;
  bad_communities = 0;
  parse_errors = 0;
  silent_drops = 0;
}

-- what a counter has come to
abbrev pub counter_value : Counters → Counter → ℕ
counter_value c InPackets = c.in_packets
counter_value c BadVersions = c.bad_versions
counter_value c BadCommunities = c.bad_communities
counter_value c ParseErrors = c.parse_errors
counter_value c SilentDrops = c.silent_drops

-- one more, after 4294967295 comes 0 (Counter32, RFC 2578 section 7.1.6)
abbrev pub one_more : ℕ → ℕ
one_more n = (n + 1) % 2 ^ 32

-- one more of one counter
abbrev pub counted : Counters → Counter → Counters
counted c InPackets = record c { in_packets = one_more c.in_packets }
counted c BadVersions = record c { bad_versions = one_more c.bad_versions }
counted c BadCommunities = record c { bad_communities = one_more c.bad_communities }
counted c ParseErrors = record c { parse_errors = one_more c.parse_errors }
counted c SilentDrops = record c { silent_drops = one_more c.silent_drops }
