-- A line says what reading it from left to right gives.
use Rattle.std.proofs.Common.{◌≡◌, ◌≢◌, ◌⊎◌, inl, inr, ℕ, ℤ, pos, negsuc, zero, suc, ◌<◌, ◌≤◌, true, false, List, [], ◌∷◌, length, get_or, refl, sym, ap, ◌∙◌, subst, arith, Result, Ok, Err}
use Rattle.std.specs.Prelude.{nat_le, ◌==◌, ◌&&◌, if◌then◌else◌, Option, Some, None}
use Rattle.std.specs.Option.{option_and_then, option_map}
use Rattle.std.specs.Str.{bytes_eq}
use Rattle.std.proofs.lemmas.Bool.{and_parts, leb-true}
use Rattle.std.proofs.lemmas.Bool.Decides.{nat_tests}
use Rattle.std.proofs.lemmas.Slice.Eq.{bytes_eq-Decides}
use Rattle.hex.specs.declared.error.FromHexError.{FromHexError}
use Rattle.hex.specs.Hex.{decode_of, IsBytes}
use Rattle.hex.proofs.HexLemmas.{decode_of-ok}
use Rattle.mon_ber.specs.declared.value.Value.{Value}
use Rattle.mon_ber.specs.declared.value.Value.TheVariants.{Integer, Octets, Null, Name, IpAddress, Counter32, Gauge32, TimeTicks, Opaque, Counter64, NoSuchObject, NoSuchInstance, EndOfMibView}
use Rattle.mon_pdu.specs.declared.fault.PduFault.{PduFault}
use Rattle.mon_pdu.specs.declared.message.Binding.{Binding}
use Rattle.mon_pdu.specs.declared.message.Body.{Body}
use Rattle.mon_pdu.specs.declared.message.Body.TheVariants.{Pdu, Bulk}
use Rattle.mon_pdu.specs.declared.message.Message.{Message}
use Rattle.mon_pdu.specs.declared.message.Pdu.{Pdu as AnyPdu}
use Rattle.mon_pdu.specs.declared.message.PduKind.{PduKind}
use Rattle.mon_pdu.specs.declared.message.PduKind.TheVariants.{Get, GetNext, Response, Set, Inform, Trap, Report}
use Rattle.mon_pdu.specs.Grammar.{AreOctets, BeginsWithMessage}
use Rattle.mon_pdu.specs.Kinds.{octet_of}
use Rattle.mon_pdu.specs.Reading.{message_at}
use Rattle.mon_app.specs.declared.refusal.Refusal.{Refusal}
use Rattle.mon_app.specs.declared.refusal.Refusal.TheVariants.{OutOfMemory, BadHex, BadMessage, NotAResponse, AgentError, BadStamp, TooManyInstances}
use Rattle.mon_oid.specs.Steps.{◌>>=◌}
use Rattle.mon_app.specs.Gives.{or_refuse}
use Rattle.mon_app.specs.Line.{HoldsMessage, IsResponse, IsStamped, IsNoMessage, Says}
use Rattle.mon_poller.specs.Stamp.{Stamp, engine_id_name, engine_boots_name, engine_time_name, octets_in, stamp_number, stamp_of_values}
use Rattle.mon_app.specs.Offer.{Offer}
use Rattle.mon_app.specs.Reading.{are_stamp_names, with_engine_id, stamp_of, response_of, is_zero, body_reading, message_in, message_reading, hex_reading, offers_of}

-- ---- octets that hex digits spell
octets_all : (xs : List ℕ) → IsBytes xs → (k d : ℕ) → k < length xs → get_or xs k d < 256
octets_all [] h k d lt = absurd (omega arith)
octets_all (x ∷ xs) h zero d lt = h 0
octets_all (x ∷ xs) h (suc k) d lt = octets_all xs (λ i. h (suc i)) k d (omega arith)

are_octets : (text bytes : List ℕ) → decode_of text ≡ Ok bytes → AreOctets bytes
are_octets text bytes e = octets_all bytes (decode_of-ok text bytes e).3

-- ---- steps of a reading
ok_is : {A E : Type 0} (x y : A) → (let r : Result A E = Ok x in r) ≡ Ok y → x ≡ y
ok_is x y h = cc

bind_ok : {A B E : Type 0} (r : Result A E) (f : A → Result B E) (y : B) → (r >>= f) ≡ Ok y → (x : A) × (r ≡ Ok x) × (f x ≡ Ok y)
bind_ok (Ok x) f y h = (x, refl, h)
bind_ok (Err e) f y h = cc

bind_err : {A B E : Type 0} (r : Result A E) (f : A → Result B E) (e : E) → (r >>= f) ≡ Err e → (r ≡ Err e) ⊎ ((x : A) × (r ≡ Ok x) × (f x ≡ Err e))
bind_err (Ok x) f e h = inr (x, refl, h)
bind_err (Err d) f e h = inl (let same : d ≡ e = cc in ap Err same)

-- ---- the stamp
octets_takes : (v : Value) (octets : List ℕ) → octets_in v ≡ Some octets → v ≡ Octets octets
octets_takes (Octets o) octets h = let same : o ≡ octets = cc in ap Octets same
octets_takes (Integer z) octets h = cc
octets_takes Null octets h = cc
octets_takes (Name o) octets h = cc
octets_takes (IpAddress a) octets h = cc
octets_takes (Counter32 n) octets h = cc
octets_takes (Gauge32 n) octets h = cc
octets_takes (TimeTicks n) octets h = cc
octets_takes (Opaque o) octets h = cc
octets_takes (Counter64 n) octets h = cc
octets_takes NoSuchObject octets h = cc
octets_takes NoSuchInstance octets h = cc
octets_takes EndOfMibView octets h = cc

number_takes : (v : Value) (number : ℕ) → stamp_number v ≡ Some number → v ≡ Integer (pos number)
number_takes (Integer (pos m)) number h = let same : m ≡ number = cc in ap (λ k. Integer (pos k)) same
number_takes (Integer (negsuc m)) number h = cc
number_takes (Octets o) number h = cc
number_takes Null number h = cc
number_takes (Name o) number h = cc
number_takes (IpAddress a) number h = cc
number_takes (Counter32 n) number h = cc
number_takes (Gauge32 n) number h = cc
number_takes (TimeTicks n) number h = cc
number_takes (Opaque o) number h = cc
number_takes (Counter64 n) number h = cc
number_takes NoSuchObject number h = cc
number_takes NoSuchInstance number h = cc
number_takes EndOfMibView number h = cc

then_takes : {A B : Type 0} (f : A → Option B) (o : Option A) (y : B) → option_and_then f o ≡ Some y → (x : A) × (o ≡ Some x) × (f x ≡ Some y)
then_takes f (Some x) y h = (x, refl, h)
then_takes f None y h = cc

map_takes : {A B : Type 0} (f : A → B) (o : Option A) (y : B) → option_map f o ≡ Some y → (x : A) × (o ≡ Some x) × (f x ≡ y)
map_takes f (Some x) y h = (x, refl, (let same : f x ≡ y = cc in same))
map_takes f None y h = cc

values_take : (e b t : Value) (s : Stamp) → stamp_of_values e b t ≡ Some s → (e ≡ Octets s.engine) × (b ≡ Integer (pos s.boots)) × (t ≡ Integer (pos s.time))
values_take e b t s h =
    let engine = then_takes _ (octets_in e) s h in
    let boots = then_takes _ (stamp_number b) s engine.2 in
    let time = map_takes _ (stamp_number t) s boots.2 in (
      octets_takes e engine.0 engine.1 ∙ ap (λ (q : Stamp). Octets q.engine) time.2,
      number_takes b boots.0 boots.1 ∙ ap (λ (q : Stamp). Integer (pos q.boots)) time.2,
      number_takes t time.0 time.1 ∙ ap (λ (q : Stamp). Integer (pos q.time)) time.2,
    )

values_again : (s : Stamp) (e b t : Value) → e ≡ Octets s.engine → b ≡ Integer (pos s.boots) → t ≡ Integer (pos s.time) → stamp_of_values e b t ≡ Some s
values_again s e b t engine boots time = rw (engine, boots, time) refl

id_takes : (o : Option Stamp) (s : Stamp) → with_engine_id o ≡ Ok s → (o ≡ Some s) × (5 ≤ length s.engine) × (length s.engine ≤ 32)
id_takes None s h = cc
id_takes (Some q) s h =
    elim (nat_le 5 (length q.engine) && nat_le (length q.engine) 32) as (λ t. nat_le 5 (length q.engine) && nat_le (length q.engine) 32 ≡ t → (let r : Result Stamp Refusal = (if t then Ok q else Err BadStamp) in r ≡ Ok s)
    → (Some q ≡ Some s) × (5 ≤ length s.engine) × (length s.engine ≤ 32)) [
      | true ↦ λ both g.
          let parts = and_parts (nat_le 5 (length q.engine)) (nat_le (length q.engine) 32) both in
          let same : q ≡ s = cc in
          (ap Some same, subst (λ (p : Stamp). 5 ≤ length p.engine) same (leb-true _ _ parts.0), subst (λ (p : Stamp). length p.engine ≤ 32) same (leb-true _ _ parts.1))
      | false ↦ λ other g. cc
    ] refl h

id_again : (s : Stamp) → 5 ≤ length s.engine → length s.engine ≤ 32 → with_engine_id (Some s) ≡ Ok s
id_again s low high =
    let a : nat_le 5 (length s.engine) ≡ true = grind (arith, nat_tests) in
    let b : nat_le (length s.engine) 32 ≡ true = grind (arith, nat_tests) in
    λ j. if a j && b j then Ok s else Err BadStamp

id_fails : (o : Option Stamp) (e : Refusal) → with_engine_id o ≡ Err e → e ≡ BadStamp
id_fails None e h = cc
id_fails (Some q) e h =
    elim (nat_le 5 (length q.engine) && nat_le (length q.engine) 32) as (λ t. (let r : Result Stamp Refusal = (if t then Ok q else Err BadStamp) in r ≡ Err e) → e ≡ BadStamp) [
      | true ↦ λ g. cc
      | false ↦ λ g. cc
    ] h

stamp_takes : (first second third : Binding) (stamp : Stamp) (others : List Binding) → stamp_of first second third ≡ Ok stamp → IsStamped (first ∷ second ∷ third ∷ others) stamp others
unfolding stamp_of
stamp_takes first second third stamp others h =
    elim (are_stamp_names first second third) as (λ t. are_stamp_names first second third ≡ t
    → (if t then with_engine_id (stamp_of_values first.value second.value third.value) else Err BadStamp) ≡ Ok stamp → IsStamped (first ∷ second ∷ third ∷ others) stamp others) [
      | true ↦ λ named g.
          let outer = and_parts (bytes_eq first.name engine_id_name) (bytes_eq second.name engine_boots_name && bytes_eq third.name engine_time_name) named in
          let inner = and_parts (bytes_eq second.name engine_boots_name) (bytes_eq third.name engine_time_name) outer.1 in
          let id = id_takes (stamp_of_values first.value second.value third.value) stamp g in
          let values = values_take first.value second.value third.value stamp id.0 in
          record {
            first = first;
            second = second;
            third = third;
            whole = refl;
            engine_named = (bytes_eq-Decides first.name engine_id_name).0 outer.0;
            engine_is = values.0;
            engine_long = id.1;
            engine_short = id.2;
            boots_named = (bytes_eq-Decides second.name engine_boots_name).0 inner.0;
            boots_is = values.1;
            time_named = (bytes_eq-Decides third.name engine_time_name).0 inner.1;
            time_is = values.2;
          }
      | false ↦ λ other g. cc
    ] refl h

stamp_again : (first second third : Binding) (s : Stamp) → first.name ≡ engine_id_name → second.name ≡ engine_boots_name → third.name ≡ engine_time_name
    → stamp_of_values first.value second.value third.value ≡ Some s → 5 ≤ length s.engine → length s.engine ≤ 32 → stamp_of first second third ≡ Ok s
unfolding stamp_of
stamp_again first second third s a b c values low high =
    let x : bytes_eq first.name engine_id_name ≡ true = (bytes_eq-Decides first.name engine_id_name).1 a in
    let y : bytes_eq second.name engine_boots_name ≡ true = (bytes_eq-Decides second.name engine_boots_name).1 b in
    let z : bytes_eq third.name engine_time_name ≡ true = (bytes_eq-Decides third.name engine_time_name).1 c in
    (λ j. if x j && (y j && z j) then with_engine_id (values j) else Err BadStamp) ∙ id_again s low high

stamp_fails : (first second third : Binding) (e : Refusal) → stamp_of first second third ≡ Err e → e ≡ BadStamp
unfolding stamp_of
stamp_fails first second third e h =
    elim (are_stamp_names first second third) as (λ t. (if t then with_engine_id (stamp_of_values first.value second.value third.value) else Err BadStamp) ≡ Err e → e ≡ BadStamp) [
      | true ↦ λ g. id_fails (stamp_of_values first.value second.value third.value) e g
      | false ↦ λ g. cc
    ] h

response_takes : (bindings : List Binding) (stamp : Stamp) (others : List Binding) → response_of bindings ≡ Ok (stamp, others) → IsStamped bindings stamp others
unfolding response_of
response_takes [] stamp others h = cc
response_takes (a ∷ []) stamp others h = cc
response_takes (a ∷ b ∷ []) stamp others h = cc
response_takes (a ∷ b ∷ c ∷ rest) stamp others h =
    let made = bind_ok (stamp_of a b c) _ _ h in
    let pair : Stamp × List Binding = (made.0, rest) in
    let wanted : Stamp × List Binding = (stamp, others) in
    let same : pair ≡ wanted = ok_is pair wanted made.2 in
    let s : made.0 ≡ stamp = ap (λ (p : Stamp × List Binding). p.0) same in
    let o : rest ≡ others = ap (λ (p : Stamp × List Binding). p.1) same in
    let is : IsStamped (a ∷ b ∷ c ∷ rest) made.0 rest = stamp_takes a b c made.0 rest made.1 in
    subst (λ st. IsStamped (a ∷ b ∷ c ∷ rest) st others) s (subst (λ os. IsStamped (a ∷ b ∷ c ∷ rest) made.0 os) o is)

response_again : (bindings : List Binding) (stamp : Stamp) (others : List Binding) → IsStamped bindings stamp others → response_of bindings ≡ Ok (stamp, others)
unfolding response_of
response_again bindings stamp others is =
    let values = values_again stamp is.first.value is.second.value is.third.value is.engine_is is.boots_is is.time_is in
    let made = stamp_again is.first is.second is.third stamp is.engine_named is.boots_named is.time_named values is.engine_long is.engine_short in
    ap response_of is.whole ∙ (rw made refl)

response_fails : (bindings : List Binding) (e : Refusal) → response_of bindings ≡ Err e → e ≡ BadStamp
unfolding response_of
response_fails [] e h = cc
response_fails (a ∷ []) e h = cc
response_fails (a ∷ b ∷ []) e h = cc
response_fails (a ∷ b ∷ c ∷ rest) e h =
    elim (bind_err (stamp_of a b c) _ e h) [
      | inl bad ↦ stamp_fails a b c e bad
      | inr made ↦ cc made.2
    ]

-- ---- the body
-- what is read of a body of this kind and status
abbrev by_kind : PduKind → ℤ → List Binding → Result (Stamp × List Binding) Refusal
by_kind kind status bindings = if octet_of kind == octet_of Response then (if is_zero status then response_of bindings else Err AgentError) else Err NotAResponse

not_none : (n : ℕ) → (suc n == 0) ≡ false
not_none n = grind (arith, nat_tests)

-- what is offered by what was read
abbrev offering : Result (Stamp × List Binding) Refusal → Result (List Offer) Refusal
offering read = read >>= λ response. Ok (offers_of response.0 response.1)

module _ (text : List ℕ) (m : Message) (holds : HoldsMessage text m) where
  no_response : (p : AnyPdu) → m.body ≡ Pdu p → (p.kind ≢ Response) → Says text (Err NotAResponse)
  no_response p body other = record {
    message = m;
    holds = holds;
    other = λ status bindings is. let here : IsResponse (Pdu p) status bindings = subst (λ b. IsResponse b status bindings) body is in other here.0;
  }

  module _ (status : ℤ) (bindings : List Binding) (response : IsResponse m.body status bindings) where
    stamped_says : status ≡ pos 0 → Says text (offering (response_of bindings))
    stamped_says ok =
        let fine : IsResponse m.body (pos 0) bindings = subst (λ s. IsResponse m.body s bindings) ok response in
        go fine (response_of bindings) refl
      where
        go : IsResponse m.body (pos 0) bindings → (r : Result (Stamp × List Binding) Refusal) → response_of bindings ≡ r → Says text (offering r)
        go fine (Ok (stamp, others)) e = record {
          message = m;
          bindings = bindings;
          stamp = stamp;
          others = others;
          holds = holds;
          response = fine;
          stamped = response_takes bindings stamp others e;
          samples = refl;
        }
        go fine (Err f) e =
            subst (λ (d : Refusal). Says text (Err d)) (sym (response_fails bindings f e)) (record {
              message = m;
              bindings = bindings;
              holds = holds;
              response = fine;
              unstamped = λ stamp others is. let read = response_again bindings stamp others is in cc;
            })

    failed_says : status ≢ pos 0 → Says text (Err AgentError)
    failed_says failed = record { message = m; status = status; bindings = bindings; holds = holds; response = response; failed = failed }

    status_says : (z : ℤ) → status ≡ z → Says text (offering (if is_zero z then response_of bindings else Err AgentError))
    status_says (pos zero) e = stamped_says e
    status_says (pos (suc n)) e =
        subst (λ t. Says text (offering (if t then response_of bindings else Err AgentError))) (sym (not_none n))
        (failed_says (λ zero_is. let wrong : pos (suc n) ≡ pos 0 = sym e ∙ zero_is in cc))
    status_says (negsuc n) e = failed_says (λ zero_is. let wrong : negsuc n ≡ pos 0 = sym e ∙ zero_is in cc)

  kind_says : (p : AnyPdu) → m.body ≡ Pdu p → (kind : PduKind) → p.kind ≡ kind → Says text (offering (by_kind kind p.error_status p.bindings))
  kind_says p body Response e = status_says p.error_status p.bindings (subst (λ b. IsResponse b p.error_status p.bindings) (sym body) (e, refl, refl)) p.error_status refl
  kind_says p body Get e = no_response p body (λ r. let wrong : Get ≡ Response = sym e ∙ r in cc)
  kind_says p body GetNext e = no_response p body (λ r. let wrong : GetNext ≡ Response = sym e ∙ r in cc)
  kind_says p body Set e = no_response p body (λ r. let wrong : Set ≡ Response = sym e ∙ r in cc)
  kind_says p body Inform e = no_response p body (λ r. let wrong : Inform ≡ Response = sym e ∙ r in cc)
  kind_says p body Trap e = no_response p body (λ r. let wrong : Trap ≡ Response = sym e ∙ r in cc)
  kind_says p body Report e = no_response p body (λ r. let wrong : Report ≡ Response = sym e ∙ r in cc)

  body_says : (body : Body) → m.body ≡ body → Says text (offering (body_reading body))
  unfolding body_reading
  body_says (Bulk b) e = record { message = m; holds = holds; other = λ status bindings is. subst (λ x. IsResponse x status bindings) e is }
  body_says (Pdu p) e = kind_says p e p.kind refl

-- ---- the line
module _ (takes : (bytes : List ℕ) (m : Message) → AreOctets bytes → message_at bytes ≡ Ok m → BeginsWithMessage bytes m)
    (again : (bytes : List ℕ) (m : Message) → BeginsWithMessage bytes m → message_at bytes ≡ Ok m) where
  octets_say : (text bytes : List ℕ) → decode_of text ≡ Ok bytes → (r : Result Message PduFault) → message_at bytes ≡ r → Says text (or_refuse BadMessage r >>= message_reading)
  unfolding message_reading
  octets_say text bytes hex (Ok m) e = body_says text m (record { bytes = bytes; hex = hex; message = takes bytes m (are_octets text bytes hex) e }) m.body refl
  octets_say text bytes hex (Err f) e = record { bytes = bytes; hex = hex; none = λ m begins. let read = again bytes m begins in cc }

  text_says : (text : List ℕ) (r : Result (List ℕ) FromHexError) → decode_of text ≡ r
      → Says text ((or_refuse BadHex r >>= λ bytes. or_refuse BadMessage (message_at bytes)) >>= message_reading)
  text_says text (Ok bytes) e = octets_say text bytes e (message_at bytes) refl
  text_says text (Err f) e = λ bytes is. cc

  -- a line says what reading it gives
  pub says : (text : List ℕ) → Says text (hex_reading text)
  unfolding hex_reading message_in
  says text = text_says text (decode_of text) refl

  -- ---- and nothing else
  held : (text : List ℕ) (m : Message) → HoldsMessage text m → hex_reading text ≡ offering (body_reading m.body)
  unfolding hex_reading message_in message_reading
  held text m h =
      ap (λ r. (or_refuse BadHex r >>= λ bytes. or_refuse BadMessage (message_at bytes)) >>= message_reading) h.hex
      ∙ ap (λ r. or_refuse BadMessage r >>= message_reading) (again h.bytes m h.message)

  responded : (body : Body) (status : ℤ) (bindings : List Binding) → IsResponse body status bindings → body_reading body ≡ by_kind Response status bindings
  unfolding body_reading
  responded (Pdu p) status bindings is = λ j. by_kind (is.0 j) (is.1 j) (is.2 j)
  responded (Bulk b) status bindings is = absurd is

  not_zero : (status : ℤ) (bindings : List Binding) → status ≢ pos 0 → by_kind Response status bindings ≡ Err AgentError
  not_zero (pos zero) bindings failed = absurd (failed refl)
  not_zero (pos (suc n)) bindings failed = ap (λ t. if t then response_of bindings else Err AgentError) (not_none n)
  not_zero (negsuc n) bindings failed = refl

  other_kind : (body : Body) → ((status : ℤ) (bindings : List Binding) → IsResponse body status bindings → ⊥) → body_reading body ≡ Err NotAResponse
  unfolding body_reading
  other_kind (Bulk b) other = refl
  other_kind (Pdu p) other = go p.kind refl
    where
      go : (kind : PduKind) → p.kind ≡ kind → by_kind kind p.error_status p.bindings ≡ Err NotAResponse
      go Response e = absurd (other p.error_status p.bindings (e, refl, refl))
      go Get e = refl
      go GetNext e = refl
      go Set e = refl
      go Inform e = refl
      go Trap e = refl
      go Report e = refl

  unstamped : (bindings : List Binding) → ((stamp : Stamp) (others : List Binding) → IsStamped bindings stamp others → ⊥) → response_of bindings ≡ Err BadStamp
  unstamped bindings none = go (response_of bindings) refl
    where
      go : (r : Result (Stamp × List Binding) Refusal) → response_of bindings ≡ r → response_of bindings ≡ Err BadStamp
      go (Ok (stamp, others)) e = absurd (none stamp others (response_takes bindings stamp others e))
      go (Err f) e = e ∙ ap Err (response_fails bindings f e)

  no_hex : (text : List ℕ) → ((bytes : List ℕ) → decode_of text ≢ Ok bytes) → hex_reading text ≡ Err BadHex
  unfolding hex_reading message_in
  no_hex text none = go (decode_of text) refl
    where
      go : (r : Result (List ℕ) FromHexError) → decode_of text ≡ r → (let made : Result (List Offer) Refusal = ((or_refuse BadHex r >>= λ bytes. or_refuse BadMessage (message_at bytes)) >>= message_reading) in made) ≡ Err BadHex
      go (Ok bytes) e = absurd (none bytes e)
      go (Err f) e = refl

  no_message : (text : List ℕ) → IsNoMessage text → hex_reading text ≡ Err BadMessage
  unfolding hex_reading message_in
  no_message text is =
      ap (λ r. (or_refuse BadHex r >>= λ bytes. or_refuse BadMessage (message_at bytes)) >>= message_reading) is.hex ∙ go (message_at is.bytes) refl
    where
      go : (r : Result Message PduFault) → message_at is.bytes ≡ r → (let made : Result (List Offer) Refusal = (or_refuse BadMessage r >>= message_reading) in made) ≡ Err BadMessage
      go (Ok m) e = absurd (is.none m (takes is.bytes m (are_octets text is.bytes is.hex) e))
      go (Err f) e = refl

  -- what a line says is what reading it gives
  pub only : (text : List ℕ) (reading : Result (List Offer) Refusal) → Says text reading → hex_reading text ≡ reading
  only text (Ok offers) b =
      held text b.message b.holds ∙ ap offering (responded b.message.body (pos 0) b.bindings b.response)
      ∙ ap offering (response_again b.bindings b.stamp b.others b.stamped) ∙ ap Ok (sym b.samples)
  only text (Err OutOfMemory) b = absurd b
  only text (Err BadHex) b = no_hex text b
  only text (Err BadMessage) b = no_message text b
  only text (Err NotAResponse) b = held text b.message b.holds ∙ ap offering (other_kind b.message.body b.other)
  only text (Err AgentError) b =
      held text b.message b.holds ∙ ap offering (responded b.message.body b.status b.bindings b.response) ∙ ap offering (not_zero b.status b.bindings b.failed)
  only text (Err BadStamp) b =
      held text b.message b.holds ∙ ap offering (responded b.message.body (pos 0) b.bindings b.response) ∙ ap offering (unstamped b.bindings b.unstamped)
  only text (Err TooManyInstances) b = absurd b
