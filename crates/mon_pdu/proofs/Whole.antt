-- Messages as a whole: what is read, and when the version or the PDU is refused.
use Rattle.std.proofs.Common.{◌≡◌, ◌≢◌, ℕ, zero, suc, true, false, cond, eqb, ℤ, pos, negsuc, List, [], ◌∷◌, ◌++◌, length, Option, Some, None, Result, Ok, Err, refl, sym, ap, subst, ◌∙◌, inl, inr, ◌⊎◌}
use Rattle.std.specs.Prelude.{IfOk}
use Rattle.std.proofs.lemmas.Bool.{eqb-true, eqb-false, ne_eqb, both_ways}
use Rattle.std.proofs.lemmas.List.{append-nil}
use Rattle.mon_ber.specs.declared.fault.BerFault.{BerFault}
use Rattle.mon_ber.specs.declared.fault.BerFault.TheVariants as ber
use Rattle.mon_ber.specs.declared.value.Value.TheVariants.{Integer, Octets}
use Rattle.mon_ber.specs.Grammar.{IsElement, Spells}
use Rattle.mon_oid.specs.Steps.{◌>>=◌}
use Rattle.mon_ber.specs.Reading.{contents_at, element_at, integer_at, name_at, value_at}
use Rattle.mon_ber.specs.Many.{many}
use Rattle.mon_ber.proofs.Promised.{bind_ok, wanted, chosen, ok_is, pair_is, IsBytes, element_takes, element_again, integer_at_takes, integer_at_again, octets_at_takes, octets_at_again, IsBytes-after, IsBytes-inside}
use Rattle.mon_pdu.specs.declared.fault.PduFault.{PduFault}
use Rattle.mon_pdu.specs.declared.fault.PduFault.TheVariants.{OutOfMemory, Truncated, BadTag, BadLength, OutOfRange, BadOid, BadVersion, UnknownPdu}
use Rattle.mon_pdu.specs.declared.message.PduKind.{PduKind}
use Rattle.mon_pdu.specs.declared.message.Body.{Body}
use Rattle.mon_pdu.specs.declared.message.Body.TheVariants.{Pdu, Bulk}
use Rattle.mon_pdu.specs.declared.message.Message.{Message}
use Rattle.mon_pdu.specs.Fault.{pdu_fault}
use Rattle.mon_pdu.specs.Kinds.{kind_of}
use Rattle.mon_pdu.specs.Grammar.{tag_of, IsBody, IsMessage, IsVersioned, HasUnknownPdu, BeginsWithMessage}
use Rattle.mon_pdu.specs.Reading.{Gives, lifted, ended, binding_at, list_at, made_of, body_of, behind_tag, body_at, is_one, message_of, message_at}
use Rattle.mon_pdu.proofs.Messages.{by_kind, bind_lifted, ended_ok, kind_is, kind_again, body_takes, body_again}

pub is_one_true : (z : ℤ) → is_one z ≡ true → z ≡ pos 1
is_one_true (pos n) e = ap pos (eqb-true n 1 e)
is_one_true (negsuc n) e = absurd cc

is_one_false : (z : ℤ) → z ≢ pos 1 → is_one z ≡ false
is_one_false (pos n) h = ne_eqb n 1 (λ e. h (ap pos e))
is_one_false (negsuc n) h = refl

-- what is read behind the version
abbrev behind_version : List ℕ → Result Message PduFault
behind_version bytes = lifted (element_at 0x04 bytes) >>= λ community. body_at community.1 >>= λ body. ended body.1 (record { community = community.0; body = body.0 })

abbrev with_version : ℤ × List ℕ → Result Message PduFault
with_version version = cond (is_one version.0) (behind_version version.1) (Err (BadVersion version.0))

pub record IsRead (contents : List ℕ) (m : Message) : Type 0 where
  pub version : List ℕ
  pub community : List ℕ
  pub body : List ℕ
  pub whole : contents ≡ version ++ (community ++ body)
  pub spelled_version : Spells version (Integer (pos 1))
  pub spelled_community : Spells community (Octets m.community)
  pub spelled_body : IsBody body m.body

contents_take : (contents : List ℕ) (m : Message) → IsBytes contents → message_of contents ≡ Ok m → IsRead contents m
unfolding message_of
contents_take contents m fits e =
    let x = bind_lifted (integer_at contents) with_version m e in
    let version = x.0 in
    let g = wanted (is_one version.0) (BadVersion version.0) (behind_version version.1) m x.2 in
    let y = bind_lifted (element_at 0x04 version.1) (λ community. body_at community.1 >>= λ body. ended body.1 (record { community = community.0; body = body.0 })) m g.1 in
    let community = y.0 in
    let z = bind_ok (body_at community.1) (λ body. ended body.1 (record { community = community.0; body = body.0 })) m y.2 in
    let body = z.0 in
    let made : Message = record { community = community.0; body = body.0 } in
    let end = ended_ok body.1 made m z.2 in
    let t1 = integer_at_takes contents version.0 version.1 fits x.1 in
    let fits1 = IsBytes-after contents t1.0 version.1 fits t1.2 in
    let t2 = octets_at_takes version.1 community.0 community.1 y.1 in
    let fits2 = IsBytes-after version.1 t2.0 community.1 fits1 t2.2 in
    let t3 = body_takes community.1 body fits2 z.1 in
    let last : community.1 ≡ t3.0 = t3.2 ∙ ap (λ (w : List ℕ). t3.0 ++ w) end.0 ∙ append-nil t3.0 in
    let whole : contents ≡ t1.0 ++ (t2.0 ++ t3.0) = t1.2 ∙ ap (λ (w : List ℕ). t1.0 ++ w) (t2.2 ∙ ap (λ (w : List ℕ). t2.0 ++ w) last) in
    subst (λ (v : Message). IsRead contents v) end.1 (record { version = t1.0; community = t2.0; body = t3.0; whole = whole; spelled_version = subst (λ (v : ℤ). Spells t1.0 (Integer v)) (is_one_true version.0 g.0) t1.1; spelled_community = t2.1; spelled_body = t3.1 })

pub message_takes : (bytes : List ℕ) (m : Message) → IsBytes bytes → message_at bytes ≡ Ok m → (text : List ℕ) × (rest : List ℕ) × (bytes ≡ text ++ rest) × IsMessage text m
unfolding message_at
message_takes bytes m fits e =
    let x = bind_lifted (element_at 0x30 bytes) (λ element. message_of element.0) m e in
    let element = x.0 in
    let t = element_takes 0x30 bytes element.0 element.1 x.1 in
    let inside = IsBytes-inside 0x30 bytes element.0 t.0 element.1 fits t.2 t.1 in
    let r = contents_take element.0 m inside x.2 in
    (t.0, element.1, t.2, record { version = r.version; community = r.community; body = r.body; element = subst (λ (w : List ℕ). IsElement 0x30 w t.0) r.whole t.1; spelled_version = r.spelled_version; spelled_community = r.spelled_community; spelled_body = r.spelled_body })

pub message_again : (text : List ℕ) (m : Message) (rest : List ℕ) → IsMessage text m → message_at (text ++ rest) ≡ Ok m
unfolding message_at message_of
message_again text m rest is =
    let body : body_at is.body ≡ Ok (m.body, []) = ap body_at (sym (append-nil is.body)) ∙ body_again is.body m.body [] is.spelled_body in
    rw (element_again 0x30 (is.version ++ (is.community ++ is.body)) text rest is.element, integer_at_again is.version (pos 1) (is.community ++ is.body) is.spelled_version, octets_at_again is.community m.community is.body is.spelled_community, body) refl

-- ---- another version

pub version_again : (bytes : List ℕ) (v : ℤ) → IsVersioned bytes v → v ≢ pos 1 → message_at bytes ≡ Err (BadVersion v)
unfolding message_at message_of
version_again bytes v is other =
    ap message_at is.whole ∙ rw (element_again 0x30 (is.version ++ is.others) is.front is.rest is.element, integer_at_again is.version v is.others is.spelled, is_one_false v other) refl

-- ---- another PDU

unknown_kind : (t : ℕ) → ((body : Body) → tag_of body ≢ t) → kind_of t ≡ None
unknown_kind t none =
    elim (kind_of t) as (λ k. kind_of t ≡ k → k ≡ None) [
      | Some kind ↦ λ e. absurd (none (Pdu (record { kind = kind; request_id = pos 0; error_status = pos 0; error_index = pos 0; bindings = [] })) (sym (kind_is t kind e)))
      | None ↦ λ e. refl
    ] refl

unknown_bulk : (t : ℕ) → ((body : Body) → tag_of body ≢ t) → eqb t 0xa5 ≡ false
unknown_bulk t none = ne_eqb t 0xa5 (λ e. none (Bulk (record { request_id = pos 0; non_repeaters = pos 0; max_repetitions = pos 0; bindings = [] })) (sym e))

unknown_body : (t : ℕ) (rest : List ℕ) → ((body : Body) → tag_of body ≢ t) → body_at (t ∷ rest) ≡ Err (UnknownPdu t)
unfolding body_at
unknown_body t rest none = rw (unknown_bulk t none, unknown_kind t none, body_at) refl

pub unknown_again : (bytes : List ℕ) (t : ℕ) → HasUnknownPdu bytes t → message_at bytes ≡ Err (UnknownPdu t)
unfolding message_at message_of
unknown_again bytes t is =
    ap message_at is.whole ∙ rw (element_again 0x30 (is.version ++ (is.community ++ (t ∷ is.others))) is.front is.rest is.element, integer_at_again is.version (pos 1) (is.community ++ (t ∷ is.others)) is.spelled_version, octets_at_again is.community is.text (t ∷ is.others) is.spelled_community, unknown_body t is.others is.unknown) refl

-- ---- what gives these faults, and nothing else does

bind_err : {A B : Type 0} (r : Result A PduFault) (f : A → Result B PduFault) (e : PduFault) → (r >>= f) ≡ Err e → (r ≡ Err e) ⊎ ((x : A) × (r ≡ Ok x) × (f x ≡ Err e))
bind_err (Ok x) f e h = inr (x, refl, h)
bind_err (Err d) f e h = inl (let same : d ≡ e = cc in ap (λ (v : PduFault). Err v) same)

abbrev Never : {A : Type 0} → PduFault → Result A PduFault → Type 0
Never e r = r ≡ Err e → ⊥

never_bind : {A B : Type 0} (e : PduFault) (r : Result A PduFault) (f : A → Result B PduFault) → Never e r → ((x : A) → Never e (f x)) → Never e (r >>= f)
never_bind e r f first others h = elim (bind_err r f e h) [ inl h ↦ first h | inr h ↦ others h.0 h.2 ]

-- a fault that BER does not have
module _ (e : PduFault) (own : (b : BerFault) → pdu_fault b ≡ e → ⊥) where
  never_lifted : {A : Type 0} (r : Result A BerFault) → Never e (lifted r)
  never_lifted (Ok x) h = absurd cc
  never_lifted (Err b) h = own b (let same : pdu_fault b ≡ e = cc in same)

  never_ended : {A : Type 0} (bytes : List ℕ) (x : A) → Never e (ended bytes x)
  never_ended bytes x h =
      elim (chosen (eqb (length bytes) 0) (Ok x) (Err BadLength) (Err e) h) [ inl p ↦ absurd (let h = p.1 in cc) | inr p ↦ own ber.BadLength (let h = p.1 in let same : BadLength ≡ e = cc in same) ]

  never_binding : (bytes : List ℕ) → Never e (binding_at bytes)
  unfolding binding_at
  never_binding bytes =
      never_bind e (lifted (element_at 0x30 bytes)) (λ element. lifted (name_at element.0) >>= λ name. lifted (value_at name.1) >>= λ value. ended value.1 (record { name = name.0; value = value.0 }, element.1)) (never_lifted (element_at 0x30 bytes)) (λ element.
      never_bind e (lifted (name_at element.0)) (λ name. lifted (value_at name.1) >>= λ value. ended value.1 (record { name = name.0; value = value.0 }, element.1)) (never_lifted (name_at element.0)) (λ name.
      never_bind e (lifted (value_at name.1)) (λ value. ended value.1 (record { name = name.0; value = value.0 }, element.1)) (never_lifted (value_at name.1)) (λ value.
      never_ended value.1 (record { name = name.0; value = value.0 }, element.1))))

  never_many : (room : ℕ) (bytes : List ℕ) → Never e (many binding_at Truncated room bytes)
  unfolding many
  never_many room [] h = absurd cc
  never_many zero (b ∷ bs) h = own ber.Truncated (let same : Truncated ≡ e = cc in same)
  never_many (suc room) (b ∷ bs) h =
      never_bind e (binding_at (b ∷ bs)) (λ x. many binding_at Truncated room x.1 >>= λ xs. Ok (x.0 ∷ xs)) (never_binding (b ∷ bs)) (λ x.
      never_bind e (many binding_at Truncated room x.1) (λ xs. Ok (x.0 ∷ xs)) (never_many room x.1) (λ xs h. absurd cc)) h

  never_list : (bytes : List ℕ) → Never e (list_at bytes)
  unfolding list_at
  never_list bytes =
      never_bind e (lifted (element_at 0x30 bytes)) (λ element. many binding_at Truncated (length element.0) element.0 >>= λ bindings. Ok (bindings, element.1)) (never_lifted (element_at 0x30 bytes)) (λ element.
      never_bind e (many binding_at Truncated (length element.0) element.0) (λ bindings. Ok (bindings, element.1)) (never_many (length element.0) element.0) (λ bindings h. absurd cc))

  never_body_of : (kind : Option PduKind) (contents : List ℕ) → Never e (body_of kind contents)
  unfolding body_of
  never_body_of kind contents =
      never_bind e (lifted (integer_at contents)) (λ first. lifted (integer_at first.1) >>= λ second. lifted (integer_at second.1) >>= λ third. list_at third.1 >>= λ bindings. ended bindings.1 (made_of kind first.0 second.0 third.0 bindings.0)) (never_lifted (integer_at contents)) (λ first.
      never_bind e (lifted (integer_at first.1)) (λ second. lifted (integer_at second.1) >>= λ third. list_at third.1 >>= λ bindings. ended bindings.1 (made_of kind first.0 second.0 third.0 bindings.0)) (never_lifted (integer_at first.1)) (λ second.
      never_bind e (lifted (integer_at second.1)) (λ third. list_at third.1 >>= λ bindings. ended bindings.1 (made_of kind first.0 second.0 third.0 bindings.0)) (never_lifted (integer_at second.1)) (λ third.
      never_bind e (list_at third.1) (λ bindings. ended bindings.1 (made_of kind first.0 second.0 third.0 bindings.0)) (never_list third.1) (λ bindings.
      never_ended bindings.1 (made_of kind first.0 second.0 third.0 bindings.0)))))

  never_behind : (kind : Option PduKind) (bytes : List ℕ) → Never e (behind_tag kind bytes)
  unfolding behind_tag
  never_behind kind bytes =
      never_bind e (lifted (contents_at bytes)) (λ element. body_of kind element.0 >>= λ body. Ok (body, element.1)) (never_lifted (contents_at bytes)) (λ element.
      never_bind e (body_of kind element.0) (λ body. Ok (body, element.1)) (never_body_of kind element.0) (λ body h. absurd cc))

own_version : (v : ℤ) (b : BerFault) → pdu_fault b ≡ BadVersion v → ⊥
own_version v ber.OutOfMemory h = absurd cc
own_version v ber.Truncated h = absurd cc
own_version v ber.BadTag h = absurd cc
own_version v ber.BadLength h = absurd cc
own_version v ber.OutOfRange h = absurd cc
own_version v ber.BadOid h = absurd cc

own_unknown : (t : ℕ) (b : BerFault) → pdu_fault b ≡ UnknownPdu t → ⊥
own_unknown t ber.OutOfMemory h = absurd cc
own_unknown t ber.Truncated h = absurd cc
own_unknown t ber.BadTag h = absurd cc
own_unknown t ber.BadLength h = absurd cc
own_unknown t ber.OutOfRange h = absurd cc
own_unknown t ber.BadOid h = absurd cc

never_body : (v : ℤ) (bytes : List ℕ) → Never (BadVersion v) (body_at bytes)
unfolding body_at
never_body v [] h = absurd cc
never_body v (t ∷ bs) h =
    elim (chosen (eqb t 0xa5) (behind_tag None bs) (by_kind t bs (kind_of t)) (Err (BadVersion v)) h) [
      | inl p ↦ never_behind (BadVersion v) (own_version v) None bs p.1
      | inr p ↦ elim (kind_of t) as (λ k. by_kind t bs k ≡ Err (BadVersion v) → ⊥) [
        | Some kind ↦ λ e. never_behind (BadVersion v) (own_version v) (Some kind) bs e
        | None ↦ λ e. absurd cc
      ] p.1
    ]

never_behind_version : (v : ℤ) (bytes : List ℕ) → Never (BadVersion v) (behind_version bytes)
never_behind_version v bytes =
    let e : PduFault = BadVersion v in
    never_bind e (lifted (element_at 0x04 bytes)) (λ community. body_at community.1 >>= λ body. ended body.1 (record { community = community.0; body = body.0 })) (never_lifted e (own_version v) (element_at 0x04 bytes)) (λ community.
    never_bind e (body_at community.1) (λ body. ended body.1 (record { community = community.0; body = body.0 })) (never_body v community.1) (λ body.
    never_ended e (own_version v) body.1 (record { community = community.0; body = body.0 })))

-- behind version 1 no version is refused
pub version_known : (contents rest : List ℕ) (v : ℤ) → integer_at contents ≡ Ok (pos 1, rest) → message_of contents ≡ Err (BadVersion v) → ⊥
unfolding message_of
version_known contents rest v read h = never_behind_version v rest (rw read at h)

-- the step behind one that cannot give this fault
past : {A B : Type 0} (e : PduFault) (r : Result A PduFault) (f : A → Result B PduFault) → Never e r → (r >>= f) ≡ Err e → (x : A) × (r ≡ Ok x) × (f x ≡ Err e)
past e r f never h = elim (bind_err r f e h) [ inl h ↦ absurd (never h) | inr h ↦ h ]

lifted_ok : {A : Type 0} (r : Result A BerFault) (x : A) → lifted r ≡ Ok x → r ≡ Ok x
lifted_ok (Ok y) x h = (let same : y ≡ x = cc in ap (λ (v : _). Ok v) same)
lifted_ok (Err b) x h = absurd cc

err_is : {A : Type 0} (d e : PduFault) → Path (Result A PduFault) (Err d) (Err e) → d ≡ e
err_is d e h = cc

pub version_from : (bytes : List ℕ) (v : ℤ) → IsBytes bytes → message_at bytes ≡ Err (BadVersion v) → IsVersioned bytes v × (v ≢ pos 1)
unfolding message_at message_of
version_from bytes v fits h =
    let e : PduFault = BadVersion v in
    let own = own_version v in
    let x = past e (lifted (element_at 0x30 bytes)) (λ element. message_of element.0) (never_lifted e own (element_at 0x30 bytes)) h in
    let element = x.0 in
    let y = past e (lifted (integer_at element.0)) with_version (never_lifted e own (integer_at element.0)) x.2 in
    let version = y.0 in
    let t = element_takes 0x30 bytes element.0 element.1 (lifted_ok (element_at 0x30 bytes) element x.1) in
    let inside = IsBytes-inside 0x30 bytes element.0 t.0 element.1 fits t.2 t.1 in
    let n = integer_at_takes element.0 version.0 version.1 inside (lifted_ok (integer_at element.0) version y.1) in
    elim (chosen (is_one version.0) (behind_version version.1) (Err (BadVersion version.0)) (Err e) y.2) [
      | inl p ↦ absurd (never_behind_version v version.1 p.1)
      | inr p ↦ (
          let fault : BadVersion version.0 ≡ BadVersion v = err_is (BadVersion version.0) e p.1 in
          let same : version.0 ≡ v = cc in (
            record { version = n.0; others = version.1; front = t.0; rest = element.1; whole = t.2; element = subst (λ (w : List ℕ). IsElement 0x30 w t.0) n.2 t.1; spelled = subst (λ (z : ℤ). Spells n.0 (Integer z)) same n.1 },
            λ is. both_ways (is_one version.0) p.0 (ap is_one (same ∙ is)),
          ))
    ]

unknown_body_from : (bytes : List ℕ) (t : ℕ) → body_at bytes ≡ Err (UnknownPdu t) → (others : List ℕ) × (bytes ≡ t ∷ others) × ((body : Body) → tag_of body ≢ t)
unfolding body_at
unknown_body_from [] t h = absurd cc
unknown_body_from (b ∷ bs) t h =
    let own = own_unknown t in
    elim (chosen (eqb b 0xa5) (behind_tag None bs) (by_kind b bs (kind_of b)) (Err (UnknownPdu t)) h) [
      | inl p ↦ absurd (never_behind (UnknownPdu t) own None bs p.1)
      | inr p ↦ elim (kind_of b) as (λ k. kind_of b ≡ k → by_kind b bs k ≡ Err (UnknownPdu t) → (others : List ℕ) × (b ∷ bs ≡ t ∷ others) × ((body : Body) → tag_of body ≢ t)) [
        | Some kind ↦ λ k e. absurd (never_behind (UnknownPdu t) own (Some kind) bs e)
        | None ↦ λ k e. (
            let fault : UnknownPdu b ≡ UnknownPdu t = err_is (UnknownPdu b) (UnknownPdu t) e in
            let same : b ≡ t = cc in
            (bs, ap (λ (x : ℕ). x ∷ bs) same, λ body. no_tag b t body same k p.0))
      ] refl p.1
    ]
  where
    no_tag : (b t : ℕ) (body : Body) → b ≡ t → kind_of b ≡ None → eqb b 0xa5 ≡ false → tag_of body ≢ t
    no_tag b t (Pdu r) same none bulk is = (let some : kind_of b ≡ Some r.kind = ap kind_of (same ∙ sym is) ∙ kind_again r.kind in absurd cc)
    no_tag b t (Bulk r) same none bulk is = eqb-false b 0xa5 bulk (same ∙ sym is)

pub unknown_from : (bytes : List ℕ) (t : ℕ) → IsBytes bytes → message_at bytes ≡ Err (UnknownPdu t) → HasUnknownPdu bytes t
unfolding message_at message_of
unknown_from bytes t fits h =
    let e : PduFault = UnknownPdu t in
    let own = own_unknown t in
    let x = past e (lifted (element_at 0x30 bytes)) (λ element. message_of element.0) (never_lifted e own (element_at 0x30 bytes)) h in
    let element = x.0 in
    let y = past e (lifted (integer_at element.0)) with_version (never_lifted e own (integer_at element.0)) x.2 in
    let version = y.0 in
    let first = element_takes 0x30 bytes element.0 element.1 (lifted_ok (element_at 0x30 bytes) element x.1) in
    let inside = IsBytes-inside 0x30 bytes element.0 first.0 element.1 fits first.2 first.1 in
    let n = integer_at_takes element.0 version.0 version.1 inside (lifted_ok (integer_at element.0) version y.1) in
    elim (chosen (is_one version.0) (behind_version version.1) (Err (BadVersion version.0)) (Err e) y.2) [
      | inl p ↦ (
          let z = past e (lifted (element_at 0x04 version.1)) (λ community. body_at community.1 >>= λ body. ended body.1 (record { community = community.0; body = body.0 })) (never_lifted e own (element_at 0x04 version.1)) p.1 in
          let community = z.0 in
          let o = octets_at_takes version.1 community.0 community.1 (lifted_ok (element_at 0x04 version.1) community z.1) in
          elim (bind_err (body_at community.1) (λ body. ended body.1 (record { community = community.0; body = body.0 })) e z.2) [
            | inl q ↦ (
                let u = unknown_body_from community.1 t q in
                let whole : element.0 ≡ n.0 ++ (o.0 ++ (t ∷ u.0)) = n.2 ∙ ap (λ (w : List ℕ). n.0 ++ w) (o.2 ∙ ap (λ (w : List ℕ). o.0 ++ w) u.1) in
                record {
                  version = n.0;
                  community = o.0;
                  others = u.0;
                  front = first.0;
                  rest = element.1;
                  text = community.0;
                  whole = first.2;
                  element = subst (λ (w : List ℕ). IsElement 0x30 w first.0) whole first.1;
                  spelled_version = subst (λ (z : ℤ). Spells n.0 (Integer z)) (is_one_true version.0 p.0) n.1;
                  spelled_community = o.1;
                  unknown = u.2;
                })
            | inr q ↦ absurd (never_ended e own q.0.1 (record { community = community.0; body = q.0.0 }) q.2)
          ])
      | inr p ↦ absurd (let fault : BadVersion version.0 ≡ UnknownPdu t = err_is (BadVersion version.0) e p.1 in cc)
    ]

-- ---- what the call promises

pub begins_takes : (bytes : List ℕ) (m : Message) → IsBytes bytes → message_at bytes ≡ Ok m → BeginsWithMessage bytes m
begins_takes bytes m fits e = (let t = message_takes bytes m fits e in record { text = t.0; rest = t.1; whole = t.2; spelled = t.3 })

pub begins_again : (bytes : List ℕ) (m : Message) → BeginsWithMessage bytes m → message_at bytes ≡ Ok m
begins_again bytes m is = ap message_at is.whole ∙ message_again is.text m is.rest is.spelled

pub is_found : (bytes : List ℕ) (r : Result Message PduFault) → IsBytes bytes → Gives (λ m. m) r (message_at bytes) → IfOk r (λ m. BeginsWithMessage bytes m)
is_found bytes (Ok m) fits given = begins_takes bytes m fits given
is_found bytes (Err e) fits given = tt

pub is_only : (bytes : List ℕ) (r : Result Message PduFault) (m : Message) → Gives (λ m. m) r (message_at bytes) → BeginsWithMessage bytes m → Gives (λ m. m) r (Ok m)
is_only bytes r m given is = subst (λ f. Gives (λ m. m) r f) (begins_again bytes m is) given

pub is_version : (bytes : List ℕ) (r : Result Message PduFault) (v : ℤ) → IsBytes bytes → Gives (λ m. m) r (message_at bytes) → r ≡ Err (BadVersion v) → IsVersioned bytes v × (v ≢ pos 1)
is_version bytes r v fits given is = version_from bytes v fits (subst (λ s. Gives (λ m. m) s (message_at bytes)) is given)

pub is_unknown : (bytes : List ℕ) (r : Result Message PduFault) (t : ℕ) → IsBytes bytes → Gives (λ m. m) r (message_at bytes) → r ≡ Err (UnknownPdu t) → HasUnknownPdu bytes t
is_unknown bytes r t fits given is = unknown_from bytes t fits (subst (λ s. Gives (λ m. m) s (message_at bytes)) is given)

-- ---- one meaning

pub one_meaning : (text more : List ℕ) (m n : Message) → IsMessage text m → IsMessage (text ++ more) n → (more ≡ []) × (m ≡ n)
one_meaning text more m n is whole =
    let contents : List ℕ = is.version ++ (is.community ++ is.body) in
    let others : List ℕ = whole.version ++ (whole.community ++ whole.body) in
    let one : element_at 0x30 (text ++ more) ≡ Ok (contents, more) = element_again 0x30 contents text more is.element in
    let two : element_at 0x30 (text ++ more) ≡ Ok (others, []) = ap (element_at 0x30) (sym (append-nil (text ++ more))) ∙ element_again 0x30 others (text ++ more) [] whole.element in
    let same = pair_is {E = BerFault} contents more others [] (sym one ∙ two) in
    let read : message_at (text ++ more) ≡ Ok m = message_again text m more is in
    let again : message_at (text ++ more) ≡ Ok n = ap message_at (sym (append-nil (text ++ more))) ∙ message_again (text ++ more) n [] whole in
    (same.1, ok_is {E = PduFault} m n (sym read ∙ again))

-- a fault other than out of memory is the one that reading yields
pub is_told : (r : Result Message PduFault) (e : PduFault) → r ≢ Err OutOfMemory → Gives (λ m. m) r (Err e) → r ≡ Err e
is_told (Ok m) e enough given = absurd cc
is_told (Err OutOfMemory) e enough given = absurd (enough refl)
is_told (Err Truncated) e enough given = sym given
is_told (Err BadTag) e enough given = sym given
is_told (Err BadLength) e enough given = sym given
is_told (Err OutOfRange) e enough given = sym given
is_told (Err BadOid) e enough given = sym given
is_told (Err (BadVersion v)) e enough given = sym given
is_told (Err (UnknownPdu t)) e enough given = sym given
