-- What is sent for a request to read.
use Rattle.std.specs.Prelude.{◌≡◌, ℕ, ℤ, List}
use Rattle.mon_pdu.specs.declared.message.Binding.{Binding}
use Rattle.mon_pdu.specs.declared.message.Message.{Message}
use Rattle.mon_pdu.specs.Sizes.{with_bindings}
use Rattle.mon_mib.specs.Known.{Known}
use Rattle.mon_agent.specs.declared.reply.Reply.{Reply}
use Rattle.mon_agent.specs.Answer.{IsReading}
use Rattle.mon_agent.specs.Reply.{IsOut, too_big}
use Rattle.mon_agent.specs.Step.{AreFor}

-- what becomes of a right response, which is in the request's community and has its request-id
abbrev pub IsReadOut : Known → (List ℕ → Type 0) → Message → Reply → Type 0
IsReadOut k sees m r = (reply : Message) × IsReading k sees m reply × (too_big reply ≡ too_big m)
    × IsOut k.settings.max_message_size reply reply r

-- what becomes of a response of this head, with one answer for each variable binding of the request
abbrev pub IsSentFor : ℤ → (List ℕ → Binding → Type 0) → Message → List Binding → Reply → Type 0
IsSentFor max_message_size R head asked r =
    (answers : List Binding) × AreFor R asked answers
    × IsOut max_message_size (with_bindings head answers)
    (with_bindings head answers) r
