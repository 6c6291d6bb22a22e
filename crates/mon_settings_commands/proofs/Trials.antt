-- Polls that are tried, one after another, by a wire that was opened to their agent; and settings
-- by smaller targets.
use Rattle.std.proofs.Common.{◌≡◌, ◌∙◌, ◌≤◌, ◌-◌, ◌∷◌, ℕ, List, [], Option, Result, Ok, Err, ap, arith, drop, get_or, inr, length, refl, subst, sym, take}
use Rattle.std.proofs.lemmas.List.{take_all}
use Rattle.std.specs.Prelude.{IsErrAnd}
use Rattle.mon_client.specs.AtWire.{AtWire}
use Rattle.mon_client.specs.Network.{HappensBy, agents_by}
use Rattle.mon_app.specs.declared.fault.AppFault.{AppFault}
use Rattle.mon_client.specs.declared.question.Asking.TheVariants.{Get}
use Rattle.mon_console.specs.declared.failure.Failure.{Failure}
use Rattle.mon_pdu.specs.declared.message.Binding.{Binding}
use Rattle.mon_poller.specs.Target.{poll_names}
use Rattle.mon_poller.specs.declared.target.Target.{Target}
use Rattle.mon_udp.specs.declared.addr.Addr.{Addr}
use Rattle.mon_settings_commands.specs.Exchange.{AsksBy, Exchange, IsExchange}
use Rattle.mon_settings_commands.specs.Tried.{AreTried, IsTrial, IsTrialBy, IsTried}
use Rattle.mon_settings_commands.specs.declared.settings.AgentOptions.{AgentOptions}
use Rattle.mon_settings_commands.proofs.Exchanged.{Log, asks_fail, asks_so, asks_then}

-- a list is its first element and the others
pub first_and_rest : (ts : List Target) (first : Target) → 1 ≤ length ts → first ≡ get_or ts 0 first → ts ≡ first ∷ take (length ts - 1) (drop 1 ts)
first_and_rest [] first some is = absurd (omega (arith, some))
first_and_rest (t ∷ ts) first some is =
    let enough : length ts ≤ length (t ∷ ts) - 1 = omega arith in
    ap (λ (x : Target). x ∷ ts) (sym is) ∙ ap (λ (others : List Target). first ∷ others) (sym (take_all (length (t ∷ ts) - 1) ts enough))

module _ (agent community : List ℕ) where
  -- a poll that was answered
  pub polled : (t : Target) (names : List (List ℕ)) (bindings : List Binding) (id last : ℕ) (before after : Log) → names ≡ poll_names t
      → AsksBy (λ log. IsExchange Get names log (Ok bindings)) community id last before after → AsksBy (λ log. IsTried agent t log (Ok tt)) community id last before after
  polled t names bindings id last before after same asks =
      asks_so community (λ log. IsExchange Get names log (Ok bindings)) (λ log. IsTried agent t log (Ok tt)) id last before after
      (λ (es : List Exchange) is. (Ok bindings, subst (λ (ns : List (List ℕ)). IsExchange Get ns es (Ok bindings)) same is, refl)) asks

  -- the first target, and those after it
  pub then_others : (targets : List Target) (first : Target) (rest : List Target) (done : Unit {0}) (result : Result (Unit {0}) Failure) (id between last : ℕ) (before middle after : Log)
      → targets ≡ first ∷ rest → AsksBy (λ log. IsTried agent first log (Ok done)) community id between before middle
      → AsksBy (λ log. AreTried agent rest log result) community between last middle after → AsksBy (λ log. AreTried agent targets log result) community id last before after
  then_others targets first rest done result id between last before middle after is one others =
      subst (λ (ts : List Target). AsksBy (λ log. AreTried agent ts log result) community id last before after) (sym is)
      (asks_then community (IsTried agent first) (λ d. AreTried agent rest) done result id between last before middle after one others)

  pub first_fails : (targets : List Target) (first : Target) (rest : List Target) (failure : Failure) (result : Result (Unit {0}) Failure) (id last : ℕ) (before after : Log)
      → targets ≡ first ∷ rest → IsErrAnd result (λ f. f ≡ failure) → AsksBy (λ log. IsTried agent first log (Err failure)) community id last before after
      → AsksBy (λ log. AreTried agent targets log result) community id last before after
  first_fails targets first rest failure result id last before after is failed one =
      subst (λ (ts : List Target). AsksBy (λ log. AreTried agent ts log result) community id last before after) (sym is)
      (asks_fail community (IsTried agent first) (λ d. AreTried agent rest) failure result id last before after failed one)

module _ {W : Type 0} (Opened : Addr → W → Type 0) (Failed : Addr → AppFault → Type 0) (told : W → Option (List AtWire)) (asked : AgentOptions) (targets : List Target) where
  -- what was asked, and what it came to
  abbrev pub Tries : Result (Unit {0}) Failure → (last : ℕ) → (before after : W) → Type 0
  Tries r last before after =
      AsksBy (λ log. AreTried asked.agent.word.now targets log r) asked.community.now 0 last (told before) (told after)

  reached : (r : Result (Unit {0}) Failure) (before after : W) (last : ℕ) → Opened asked.agent.address before → Tries r last before after
      → HappensBy (Opened asked.agent.address) told (IsTrialBy asked targets r)
  reached r before after last opened asks = record {
    before = before;
    opened = opened;
    after = after;
    happened = record {
      more = asks.explained.more;
      holds = record { exchanges = asks.exchanges; tried = asks.holds; last = last; explained = asks.explained.holds };
      told = asks.explained.told;
    };
  }

  pub tried_at : (r : Result (Unit {0}) Failure) (before after : W) (last : ℕ) → Opened asked.agent.address before → Tries r last before after
      → IsTrial (agents_by Opened Failed told) asked targets r
  tried_at (Ok done) before after last opened asks = reached (Ok done) before after last opened asks
  tried_at (Err failure) before after last opened asks = inr (reached (Err failure) before after last opened asks)
