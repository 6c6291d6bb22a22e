-- What an agent is about to do about a datagram, with all memory for it taken.
use Rattle.std.specs.Prelude.{◌≡◌, ℕ, ◌<◌, ◌≤◌, ◌^◌, pos, List, [], length, All, Result, Ok, Err}
use Rattle.std.specs.Prelude.{vec_capacity}
use Rattle.std.specs.declared.alloc.AllocError.{AllocError}
use Rattle.mon_pdu.specs.declared.message.Message.{Message}
use Rattle.mon_pdu.specs.Grammar.{BeginsWithMessage, bindings_of}
use Rattle.mon_pdu.specs.Writing.{written_message}
use Rattle.mon_vacm.specs.declared.view_type.ViewType.TheVariants.{Write}
use Rattle.mon_vacm.specs.Access.{access_of}
use Rattle.mon_vacm.specs.Tables.{PolicyTables}
use Rattle.mon_vacm.specs.View.{IsInView}
use Rattle.mon_mib.specs.declared.change.Change.{Change}
use Rattle.mon_mib.specs.declared.set_fault.SetFault.{SetFault}
use Rattle.mon_mib.specs.declared.set_fault.SetFault.TheVariants.{OutOfMemory, Refused}
use Rattle.mon_mib.specs.declared.planned_change.PlannedChange.{PlannedChange}
use Rattle.mon_mib.specs.Assignment.{IsSetPlan}
use Rattle.mon_mib.specs.Held.{Held}
use Rattle.mon_mib.specs.Known.{Known}
use Rattle.mon_mib.specs.Refusal.{IsAccepted}
use Rattle.mon_mib.specs.SetStatus.{status_number}
use Rattle.mon_agent.specs.declared.fault.AgentFault.{AgentFault}
use Rattle.mon_agent.specs.declared.fault.AgentFault.TheVariants as faults
use Rattle.mon_agent.specs.declared.ready.Assigning.{Assigning}
use Rattle.mon_agent.specs.declared.ready.Ready.{Ready}
use Rattle.mon_agent.specs.declared.ready.Ready.TheVariants.{Answer, Assign}
use Rattle.mon_agent.specs.declared.reply.Reply.{Reply}
use Rattle.mon_agent.specs.declared.reply.Reply.TheVariants.{Send}
use Rattle.mon_agent.specs.Answer.{IsAnswer, IsAnswered, need_of}
use Rattle.mon_agent.specs.Assigned.{IsSet, greatest, returned}
use Rattle.mon_agent.specs.Reply.{IsWithinLimit, IsOut, too_big}

-- there is capacity for the response, with any of its errors: none is written longer than it is now
pub record HasRoomForErrors (a : Assigning) : Type 0 where
  pub greatest_is : a.response ≡ greatest a.response
  pub few : length (bindings_of a.response.body) < 2 ^ 31
  pub numbers : All (λ s. s.index ≤ length (bindings_of a.response.body)) a.plan
  pub small : length (written_message a.response) < 2 ^ 32
  pub empty : a.room.items ≡ []
  pub room : length (written_message a.response) ≤ vec_capacity a.room

-- there is capacity for all that is about to be done
abbrev pub IsRoomy : Ready → Type 0
IsRoomy (Answer reply) = Unit {0}
IsRoomy (Assign a) = HasRoomForErrors a

-- a Set that is within the limit and of which no variable binding is refused, with what it assigns
pub record IsPlanned (k : Known) (sees : List ℕ → Type 0) (m : Message) (a : Assigning) : Type 0
  where
    pub fits : IsWithinLimit k.settings.max_message_size (greatest m)
    pub accepted : All (IsAccepted k sees) (bindings_of m.body)
    pub plan : IsSetPlan k (bindings_of m.body) a.plan
    pub is : a.response ≡ greatest m

-- what is ready of a message whose community may write
pub record IsToAssign (policy : PolicyTables) (k : Known) (m : Message) (a : Assigning) : Type 0
  where
    pub view : List ℕ
    pub set : need_of m.body ≡ Write
    pub access : access_of policy m.community (need_of m.body) ≡ Ok view
    pub planned : IsPlanned k (IsInView policy.families view) m a

-- what is ready where an answer is, or if memory for it was refused
abbrev pub ready_of : Result Reply AllocError → Result Ready AgentFault
ready_of (Ok reply) = Ok (Answer reply)
ready_of (Err e) = Err faults.OutOfMemory

-- to assign by this plan, with this response, and a buffer for this many octets
abbrev pub IsAssigning : List PlannedChange → Message → ℕ → Ready → Type 0
IsAssigning plan response size (Answer reply) = ⊥
IsAssigning plan response size (Assign a) = (a.plan ≡ plan) × (a.response ≡ response)
    × (a.room.items ≡ []) × (size ≤ vec_capacity a.room)

-- the variable binding that is refused is one of this many
abbrev pub IsNumbered : ℕ → SetFault → Type 0
IsNumbered count OutOfMemory = Unit {0}
IsNumbered count (Refused status index) = index ≤ count

-- a refused Set is answered with its variable bindings, the status and the index
abbrev pub IsReturned : Message → SetFault → Reply → Type 0
IsReturned m (Refused status index) (Send octets) = octets.items
    ≡ written_message (returned m (status_number status) (pos index))
IsReturned m other reply = ⊥

-- how devices of one kind hold, fail and refuse
module _ {D : Type 0} (held : D → Held) (failed : D → ℕ) (refuses : D → Change → Type 0) where
  -- about a Set that is granted in a view
  abbrev pub IsReadyToSet : Known → (List ℕ → Type 0) → D → Message → Ready → Type 0
  IsReadyToSet k sees device m (Answer r) =
      (reply : Message) × IsSet held failed refuses k sees device device m reply
      × (too_big reply ≡ too_big m) × IsOut k.settings.max_message_size reply reply r
  IsReadyToSet k sees device m (Assign a) = IsPlanned k sees m a

  -- about a message
  abbrev pub IsReadyFor : PolicyTables → Known → D → Message → Ready → Type 0
  IsReadyFor policy k device m (Answer r) = IsAnswered held failed refuses policy k device device m
      r
  IsReadyFor policy k device m (Assign a) = IsToAssign policy k m a

  -- about a datagram
  abbrev pub IsReady : PolicyTables → Known → D → List ℕ → Ready → Type 0
  IsReady policy k device datagram (Answer r) = IsAnswer held failed refuses policy k device device
      datagram r
  IsReady policy k device datagram (Assign a) = (m : Message) × BeginsWithMessage datagram m
      × IsToAssign policy k m a
