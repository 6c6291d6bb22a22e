-- What happens by a wire that a network opened.
use Rattle.std.proofs.Common.{◌≡◌, List, ℕ, sym, subst, inl, inr}
use Rattle.std.specs.Prelude.{IsErrAnd, Option, Result, Ok, Err, String, string_bytes}
use Rattle.std.specs.Global.{Global}
use Rattle.mon_client.specs.AtWire.{AtWire}
use Rattle.mon_client.specs.Network.{Agents, agents_by}
use Rattle.mon_app.specs.AppFault.{IsUnopened}
use Rattle.mon_client.specs.Printed.{IsPrinted}
use Rattle.mon_client.specs.Question.{QuestionParts}
use Rattle.mon_app.specs.declared.fault.AppFault.{AppFault}
use Rattle.mon_commands.specs.Client.{IsAnswerText}
use Rattle.mon_udp.specs.Told.{GoesOnBy}
use Rattle.mon_udp.specs.declared.addr.Addr.{Addr}

-- no wire could be opened
pub unopened : (agents : Agents) (at : Addr) (show : List ℕ → List ℕ) (q : QuestionParts) (r : Result (String Global) AppFault) (fault : AppFault) → IsErrAnd r (λ f. f ≡ fault)
    → agents.Unreached at fault → IsUnopened fault → IsAnswerText agents at show q r
unopened agents at show q (Ok text) fault is not why = absurd is
unopened agents at show q (Err f) fault is not why = subst (λ (x : AppFault). IsAnswerText agents at show q (Err x)) (sym is) (inl (not, why))

-- the agent was asked by a wire that was opened to it
pub answered : {W : Type 0} (Opened : Addr → W → Type 0) (Failed : Addr → AppFault → Type 0) (told : W → Option (List AtWire)) (at : Addr) (show : List ℕ → List ℕ) (q : QuestionParts)
    (r : Result (String Global) AppFault) (before after : W) → Opened at before
    → GoesOnBy (λ at_wire. IsPrinted show string_bytes q at_wire r) (told before) (told after) → IsAnswerText (agents_by Opened Failed told) at show q r
answered Opened Failed told at show q (Ok text) before after opened happened = record { before = before; opened = opened; after = after; happened = happened }
answered Opened Failed told at show q (Err fault) before after opened happened =
    inr (record { before = before; opened = opened; after = after; happened = happened })
