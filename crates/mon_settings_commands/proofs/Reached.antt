-- A survey by a wire that was opened to its agent.
use Rattle.std.proofs.Common.{List, ℕ, inr}
use Rattle.std.specs.Prelude.{Option, Result, Ok, Err}
use Rattle.mon_client.specs.AtWire.{AtWire}
use Rattle.mon_client.specs.Network.{HappensBy, agents_by}
use Rattle.mon_app.specs.declared.fault.AppFault.{AppFault}
use Rattle.mon_console.specs.declared.failure.Failure.{Failure}
use Rattle.mon_udp.specs.declared.addr.Addr.{Addr}
use Rattle.mon_settings_commands.specs.Exchange.{AsksBy}
use Rattle.mon_settings_commands.specs.Surveyed.{IsExplained, IsSurvey, IsSurveyed}
use Rattle.mon_settings_commands.specs.declared.asking.Survey.{Survey}
use Rattle.mon_settings_commands.specs.declared.settings.AgentOptions.{AgentOptions}

module _ {W : Type 0} (Opened : Addr → W → Type 0) (Failed : Addr → AppFault → Type 0) (told : W → Option (List AtWire)) (asked : AgentOptions) where
  -- what was asked, and what it came to
  abbrev pub Asks : Result Survey Failure → (last : ℕ) → (before after : W) → Type 0
  Asks r last before after =
      AsksBy (λ log. IsSurvey asked.agent.word.now asked.kinds log r) asked.community.now 0 last (told before) (told after)

  reached : (r : Result Survey Failure) (before after : W) (last : ℕ) → Opened asked.agent.address before → Asks r last before after
      → HappensBy (Opened asked.agent.address) told (IsExplained asked r)
  reached r before after last opened asks = record {
    before = before;
    opened = opened;
    after = after;
    happened = record {
      more = asks.explained.more;
      holds = record { exchanges = asks.exchanges; survey = asks.holds; last = last; explained = asks.explained.holds };
      told = asks.explained.told;
    };
  }

  pub surveyed : (r : Result Survey Failure) (before after : W) (last : ℕ) → Opened asked.agent.address before → Asks r last before after
      → IsSurveyed (agents_by Opened Failed told) asked r
  surveyed (Ok survey) before after last opened asks = reached (Ok survey) before after last opened asks
  surveyed (Err failure) before after last opened asks = inr (reached (Err failure) before after last opened asks)
