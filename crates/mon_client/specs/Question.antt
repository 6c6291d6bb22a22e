-- What a client asks, and which messages reply.
use Rattle.std.specs.Prelude.{ℕ, ℤ, pos, Bool, true, false, not, List, [], ◌∷◌, length, map, ◌==◌}
use Rattle.std.specs.Prelude.{◌&&◌, ◌||◌}
use Rattle.std.specs.Ordering.{int_eq}
use Rattle.std.specs.Str.{bytes_eq}
use Rattle.mon_ber.specs.declared.value.Value.{Value}
use Rattle.mon_ber.specs.declared.value.Value.TheVariants as values
use Rattle.mon_pdu.specs.declared.message.Binding.{Binding}
use Rattle.mon_pdu.specs.declared.message.Body.{Body}
use Rattle.mon_pdu.specs.declared.message.Body.TheVariants.{Pdu, Bulk}
use Rattle.mon_pdu.specs.declared.message.Message.{Message}
use Rattle.mon_pdu.specs.declared.message.PduKind.{PduKind}
use Rattle.mon_pdu.specs.declared.message.PduKind.TheVariants as pdu
use Rattle.mon_pdu.specs.Kinds.{octet_of}
use Rattle.mon_client.specs.declared.question.Asking.{Asking}
use Rattle.mon_client.specs.declared.question.Asking.TheVariants.{Get, GetNext, GetBulk, Set}
use Rattle.mon_client.specs.declared.question.Question.{Question}
use Rattle.mon_app.specs.Reading.{is_zero}

-- a request of a kind that has no numbers of its own (RFC 3416 sections 4.2.1, 4.2.2 and 4.2.5)
abbrev pub plain : PduKind → ℤ → List Binding → Body
plain kind id bindings = Pdu (record {
  kind = kind;
  request_id = id;
  error_status = pos 0;
  error_index = pos 0;
  bindings = bindings;
})

-- the PDU that asks (RFC 3416 section 3)
abbrev pub asking_body : Asking → ℤ → List Binding → Body
asking_body Get id bindings = plain pdu.Get id bindings
asking_body GetNext id bindings = plain pdu.GetNext id bindings
asking_body (GetBulk r) id bindings =
    Bulk (record {
      request_id = id;
      non_repeaters = r.non_repeaters;
      max_repetitions =
          r.max_repetitions;
      bindings = bindings;
    })
asking_body (Set v) id bindings = plain pdu.Set id bindings

-- a question as its parts
pub record QuestionParts : Type 0 where
  pub asking : Asking
  pub request_id : ℤ
  pub community : List ℕ
  pub names : List (List ℕ)

-- the parts of a question that is lent
abbrev pub asked_in : Question → QuestionParts
asked_in q = record {
  asking = q.asking;
  request_id = q.request_id;
  community = q.community.now;
  names = q.names.now;
}

-- the value that each name has in the request: the one to be assigned, or none yet (unSpecified,
-- RFC 3416 section 3)
abbrev pub wanted_value : Asking → Value
wanted_value Get = values.Null
wanted_value GetNext = values.Null
wanted_value (GetBulk r) = values.Null
wanted_value (Set v) = v.now

-- a name with this value
abbrev pub asked_for : Value → List ℕ → Binding
asked_for v name = record { name = name; value = v }

-- the request that asks (RFC 3416 sections 4.2.1 to 4.2.3 and 4.2.5)
abbrev pub request_of : QuestionParts → Message
request_of q = record {
  community = q.community;
  body = asking_body q.asking q.request_id (map (asked_for (wanted_value q.asking)) q.names);
}

-- the bindings have these names, in order
abbrev pub same_names : List (List ℕ) → List Binding → Bool
same_names [] [] = true
same_names [] (b ∷ bs) = false
same_names (n ∷ ns) [] = false
same_names (n ∷ ns) (b ∷ bs) = bytes_eq n b.name && same_names ns bs

-- each name is answered: by itself, or, to a GetNext, by some name; a GetBulk may be answered by
-- any
abbrev pub are_answers : Asking → List (List ℕ) → List Binding → Bool
are_answers Get names bindings = same_names names bindings
are_answers GetNext names bindings = length names == length bindings
are_answers (GetBulk r) names bindings = true
are_answers (Set v) names bindings = same_names names bindings

-- a Response in the question's community, with its request-id, that has an error status or answers
-- each name
abbrev pub is_reply : QuestionParts → Message → Bool
is_reply q m = replies m.body
  where
    replies : Body → Bool
    replies (Bulk b) = false
    replies (Pdu p) =
        (octet_of p.kind == octet_of pdu.Response) && int_eq p.request_id q.request_id
        && bytes_eq m.community q.community
        && (not (is_zero p.error_status) || are_answers q.asking q.names p.bindings)
