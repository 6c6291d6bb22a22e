-- What is read of a response in place.
use Rattle.std.specs.Prelude.{◌≡◌, ℕ, pos, true, List, ◌∷◌, ◌++◌, Option, Some, None, Ok}
use Rattle.std.specs.List.{flat_map}
use Rattle.std.specs.Option.{option_map, option_to_list}
use Rattle.mon_ber.specs.declared.value.Value.{Value}
use Rattle.mon_ber.specs.Sequence.{AreSpelled}
use Rattle.mon_pdu.specs.declared.frame.Frame.{Frame}
use Rattle.mon_pdu.specs.declared.message.Binding.{Binding}
use Rattle.mon_pdu.specs.declared.message.Message.{Message}
use Rattle.mon_pdu.specs.declared.message.Pdu.{Pdu}
use Rattle.mon_pdu.specs.Grammar.{BeginsWithMessage, IsBinding}
use Rattle.mon_udp.specs.declared.addr.Addr.{Addr}
use Rattle.mon_poller.specs.declared.poller.Offered.{Offered}
use Rattle.mon_poller.specs.declared.target.Object.{Object}
use Rattle.mon_poller.specs.declared.target.Target.{Target}
use Rattle.mon_poller.specs.Polls.{Poll, Open}
use Rattle.mon_poller.specs.Stamp.{Stamp, discontinuity_in}
use Rattle.mon_poller.specs.Target.{SpellNames, object_names, target_at}
use Rattle.mon_poller.specs.Verdict.{awaited, have_names, object_offers, poll_answer, response_pdu}
use Rattle.mon_poller.specs.Verdict.{sampled_at}

-- the PDU of this frame and these variable bindings
abbrev pub framed_pdu : Frame → List Binding → Pdu
framed_pdu f bindings = record {
  kind = f.kind;
  request_id = f.request_id;
  error_status =
      f.error_status;
  error_index = f.error_index;
  bindings = bindings;
}

-- what is offered of an instance
abbrev pub given : ℕ → Option ℕ → List (ℕ × ℕ)
given instance sample = option_to_list (option_map (λ s. (instance, s)) sample)

-- octets begin with a binding of the first of these spelled names and this value; the names and
-- octets behind it are left
pub record IsRead (names : List (List ℕ)) (list : List ℕ) (v : Value) (others : List (List ℕ))
    (rest : List ℕ) : Type 0 where
  pub found : (name : List ℕ) (more : List (List ℕ)) → SpellNames names (name ∷ more)
      → (text : List ℕ) × IsBinding text (record { name = name; value = v }) × (list ≡ text ++ rest)
      × SpellNames others more

-- the value of a discontinuity is read; without an object for it it is 0, and nothing is read
abbrev pub IsMarked : Option (List ℕ) → List (List ℕ) → List ℕ → Option ℕ → List (List ℕ) → List ℕ
    → Type 0
IsMarked None names list mark others rest = (mark ≡ Some 0) × (others ≡ names) × (rest ≡ list)
IsMarked (Some name) names list mark others rest = (v : Value) × IsRead names list v others rest
    × (mark ≡ discontinuity_in v)

-- an object's value and its discontinuity are read; they are this sample, or none
pub record IsSampled (stamp : Stamp) (discontinuity : Option (List ℕ)) (names : List (List ℕ))
    (list : List ℕ) (sample : Option ℕ) (others : List (List ℕ)) (rest : List ℕ) : Type 0 where
  pub value : Value
  pub mark : Option ℕ
  pub names_between : List (List ℕ)
  pub list_between : List ℕ
  pub read : IsRead names list value names_between list_between
  pub marked : IsMarked discontinuity names_between list_between mark others rest
  pub sampled : sample ≡ sampled_at stamp value mark

-- octets spell variable bindings with the objects' names, and what these offer comes after what was
-- there
pub record OffersSo (stamp : Stamp) (objects : List Object) (list : List ℕ) (old new : List (ℕ × ℕ))
    : Type 0 where
  pub bindings : List Binding
  pub spelled : AreSpelled IsBinding list bindings
  pub named : have_names (flat_map object_names objects) bindings ≡ true
  pub offers : new ≡ old ++ object_offers stamp objects bindings

-- a datagram begins with this message, which answers the open poll and offers this
pub record IsOffered (targets : List Target) (polls : Open) (from : Addr) (octets : List ℕ)
    (m : Message) (pdu : Pdu) (id : ℕ) (poll : Poll) (offered : Offered) : Type 0 where
  pub begins : BeginsWithMessage octets m
  pub response : response_pdu m.body ≡ Some pdu
  pub named : pdu.request_id ≡ pos id
  pub found : awaited targets polls from (Some m) ≡ Ok (poll, pdu)
  pub answer : poll_answer poll.target (target_at targets poll.target) pdu ≡ Ok offered
