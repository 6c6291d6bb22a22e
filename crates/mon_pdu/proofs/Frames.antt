-- Frames, and variable bindings whose names are known: what is read was spelled, and what is
-- spelled is read.
use Rattle.std.proofs.Common.{◌≡◌, ◌≢◌, ℕ, true, false, cond, eqb, nat_eq, take, drop, ℤ, pos, List, [], ◌∷◌, ◌++◌, length, Option, Some, None, Result, Ok, Err, refl, sym, ap, subst, ◌∙◌}
use Rattle.std.specs.Prelude.{IfNone, IfSome, IsSome, IsOk}
use Rattle.std.specs.Result.{result_ok}
use Rattle.std.proofs.lemmas.Bool.{eqb-true}
use Rattle.std.proofs.lemmas.List.{append-nil, nil_from_length, take_at, drop_at, take-append-drop}
use Rattle.std.specs.Cmp.Lexicographic.{pointwise, same_text, other_text}
use Rattle.mon_ber.specs.declared.fault.BerFault.{BerFault}
use Rattle.mon_ber.specs.declared.fault.BerFault.TheVariants.{OutOfMemory, Truncated, BadTag, BadLength, OutOfRange, BadOid}
use Rattle.mon_ber.specs.declared.value.Value.{Value}
use Rattle.mon_ber.specs.declared.value.Value.TheVariants.{Integer, Octets, Name}
use Rattle.mon_ber.specs.Grammar.{IsElement, Spells}
use Rattle.mon_oid.specs.Steps.{◌>>=◌}
use Rattle.mon_ber.specs.Reading.{Gives, contents_at, element_at, integer_at, value_at}
use Rattle.mon_ber.specs.Sequence.{AreSpelled}
use Rattle.mon_ber.proofs.Promised.{bind_ok, wanted, ok_is, pair_is, IsBytes, contents_takes, contents_again, element_takes, element_again, value_takes, value_again, integer_at_takes, integer_at_again, octets_at_takes, octets_at_again, IsBytes-after, IsBytes-inside}
use Rattle.mon_pdu.specs.declared.message.Binding.{Binding}
use Rattle.mon_pdu.specs.declared.message.PduKind.{PduKind}
use Rattle.mon_pdu.specs.declared.message.Body.TheVariants.{Pdu, Bulk}
use Rattle.mon_pdu.specs.declared.message.Body.{Body}
use Rattle.mon_pdu.specs.declared.message.Bulk.{Bulk as AnyBulk}
use Rattle.mon_pdu.specs.declared.message.Message.{Message}
use Rattle.mon_pdu.specs.declared.message.Pdu.{Pdu as AnyPdu}
use Rattle.mon_pdu.specs.declared.frame.BulkFrame.{BulkFrame}
use Rattle.mon_pdu.specs.declared.frame.Frame.{Frame}
use Rattle.mon_pdu.specs.Kinds.{octet_of, kind_of}
use Rattle.mon_pdu.specs.Reading.{is_one}
use Rattle.mon_pdu.specs.Grammar.{tag_of, first_of, second_of, third_of, bindings_of, IsBinding, BeginsWithMessage}
use Rattle.mon_pdu.specs.Framed.{Held, BulkHeld, AnyHeld, framed, bulk_framed, held, bulk_held, IsPduFrame, BeginsWithAny, BeginsWithFrame, BeginsWithBulkFrame, fields_of, octet_at, any_of, any_at, frame_at, bulk_frame_at}
use Rattle.mon_pdu.proofs.Messages.{kind_is, kind_again}
use Rattle.mon_pdu.proofs.Whole.{is_one_true}

-- where reading yields a value, a call that allocates nothing yielded one
pub is_given : {X Y : Type 0} (view : X → Y) (r : Result X BerFault) (read : Result Y BerFault) (y : Y) → r ≢ Err OutOfMemory → Gives view r read → read ≡ Ok y → IsSome (result_ok r)
is_given view (Ok x) read y enough given is = refl
is_given view (Err OutOfMemory) read y enough given is = absurd (enough refl)
is_given view (Err Truncated) read y enough given is = absurd cc
is_given view (Err BadTag) read y enough given is = absurd cc
is_given view (Err BadLength) read y enough given is = absurd cc
is_given view (Err OutOfRange) read y enough given is = absurd cc
is_given view (Err BadOid) read y enough given is = absurd cc

-- nothing was left
nothing_left : {A : Type 0} (bytes : List ℕ) (x : Result A BerFault) (y : A) → cond (eqb (length bytes) 0) x (Err BadLength) ≡ Ok y → (bytes ≡ []) × (x ≡ Ok y)
nothing_left bytes x y e =
    let g = wanted (eqb (length bytes) 0) BadLength x y e in
    (nil_from_length bytes (eqb-true (length bytes) 0 g.0), g.1)

-- ---- the contents of a PDU

abbrev Fields : Type 0
Fields = ℤ × ℤ × ℤ × List ℕ

-- the contents of a PDU except its variable bindings
record AreFields (contents : List ℕ) (f : Fields) : Type 0 where
  first : List ℕ
  second : List ℕ
  third : List ℕ
  list : List ℕ
  whole : contents ≡ first ++ (second ++ (third ++ list))
  spelled_first : Spells first (Integer f.0)
  spelled_second : Spells second (Integer f.1)
  spelled_third : Spells third (Integer f.2)
  spelled_list : IsElement 0x30 f.3 list

-- what is read are the contents of a PDU except its variable bindings
fields_take : (contents : List ℕ) (f : Fields) → IsBytes contents → fields_of contents ≡ Ok f → AreFields contents f
unfolding fields_of
fields_take contents f fits e =
    let x = bind_ok (integer_at contents) (λ first. integer_at first.1 >>= λ second. integer_at second.1 >>= λ third. element_at 0x30 third.1 >>= λ list. cond (eqb (length list.1) 0) (Ok (first.0, second.0, third.0, list.0)) (Err BadLength)) f e in
    let first = x.0 in
    let y = bind_ok (integer_at first.1) (λ second. integer_at second.1 >>= λ third. element_at 0x30 third.1 >>= λ list. cond (eqb (length list.1) 0) (Ok (first.0, second.0, third.0, list.0)) (Err BadLength)) f x.2 in
    let second = y.0 in
    let z = bind_ok (integer_at second.1) (λ third. element_at 0x30 third.1 >>= λ list. cond (eqb (length list.1) 0) (Ok (first.0, second.0, third.0, list.0)) (Err BadLength)) f y.2 in
    let third = z.0 in
    let w = bind_ok (element_at 0x30 third.1) (λ list. cond (eqb (length list.1) 0) (Ok (first.0, second.0, third.0, list.0)) (Err BadLength)) f z.2 in
    let list = w.0 in
    let made : Fields = (first.0, second.0, third.0, list.0) in
    let end = nothing_left list.1 (Ok made) f w.2 in
    let same : made ≡ f = ok_is made f end.1 in
    let t1 = integer_at_takes contents first.0 first.1 fits x.1 in
    let fits1 = IsBytes-after contents t1.0 first.1 fits t1.2 in
    let t2 = integer_at_takes first.1 second.0 second.1 fits1 y.1 in
    let fits2 = IsBytes-after first.1 t2.0 second.1 fits1 t2.2 in
    let t3 = integer_at_takes second.1 third.0 third.1 fits2 z.1 in
    let t4 = element_takes 0x30 third.1 list.0 list.1 w.1 in
    let last : third.1 ≡ t4.0 = t4.2 ∙ ap (λ (v : List ℕ). t4.0 ++ v) end.0 ∙ append-nil t4.0 in
    let whole : contents ≡ t1.0 ++ (t2.0 ++ (t3.0 ++ t4.0)) = t1.2 ∙ ap (λ (v : List ℕ). t1.0 ++ v) (t2.2 ∙ ap (λ (v : List ℕ). t2.0 ++ v) (t3.2 ∙ ap (λ (v : List ℕ). t3.0 ++ v) last)) in
    subst (λ (g : Fields). AreFields contents g) same
    (record { first = t1.0; second = t2.0; third = t3.0; list = t4.0; whole = whole; spelled_first = t1.1; spelled_second = t2.1; spelled_third = t3.1; spelled_list = t4.1 })

-- the numbers of a PDU are read, and where its variable bindings are
fields_again : (first second third list held : List ℕ) (a b c : ℤ) → Spells first (Integer a) → Spells second (Integer b) → Spells third (Integer c) → IsElement 0x30 held list
    → fields_of (first ++ (second ++ (third ++ list))) ≡ Ok (a, b, c, held)
unfolding fields_of
fields_again first second third list held a b c one two three is =
    let last : element_at 0x30 list ≡ Ok (held, []) = ap (element_at 0x30) (sym (append-nil list)) ∙ element_again 0x30 held list [] is in
    rw (integer_at_again first a (second ++ (third ++ list)) one, integer_at_again second b (third ++ list) two, integer_at_again third c list three, last) refl

-- the octet in front was read
octet_takes : (bytes : List ℕ) (t : ℕ) (rest : List ℕ) → octet_at bytes ≡ Ok (t, rest) → bytes ≡ t ∷ rest
unfolding octet_at
octet_takes [] t rest e = absurd cc
octet_takes (b ∷ bs) t rest e = (let is = pair_is {E = BerFault} b bs t rest e in λ i. is.0 i ∷ is.1 i)

-- ---- the contents of a message

-- what is read behind the tag of the PDU
abbrev behind_tag : List ℕ → ℕ × List ℕ → Result AnyHeld BerFault
behind_tag community tag = contents_at tag.1 >>= λ element. cond (eqb (length element.1) 0) (fields_of element.0 >>= λ f. Ok (community, tag.0, f.0, f.1, f.2, f.3)) (Err BadLength)

-- what is read behind the version
abbrev behind_version : List ℕ → Result AnyHeld BerFault
behind_version bytes = element_at 0x04 bytes >>= λ community. octet_at community.1 >>= behind_tag community.0

-- what the frame holds of the PDU was spelled
body_takes : (bytes community : List ℕ) (tag : ℕ × List ℕ) (h : AnyHeld) → IsBytes bytes → bytes ≡ tag.0 ∷ tag.1 → behind_tag community tag ≡ Ok h → (h.0 ≡ community) × IsPduFrame bytes h
body_takes bytes community tag h fits begins e =
    let x = bind_ok (contents_at tag.1) (λ element. cond (eqb (length element.1) 0) (fields_of element.0 >>= λ f. Ok (community, tag.0, f.0, f.1, f.2, f.3)) (Err BadLength)) h e in
    let element = x.0 in
    let end = nothing_left element.1 (fields_of element.0 >>= λ f. Ok (community, tag.0, f.0, f.1, f.2, f.3)) h x.2 in
    let y = bind_ok (fields_of element.0) (λ f. Ok (community, tag.0, f.0, f.1, f.2, f.3)) h end.1 in
    let f = y.0 in
    let made : AnyHeld = (community, tag.0, f.0, f.1, f.2, f.3) in
    let same : made ≡ h = ok_is made h y.2 in
    let c = contents_takes tag.1 element.0 element.1 x.1 in
    let whole : bytes ≡ tag.0 ∷ c.0 ++ element.0 = begins ∙ ap (λ (w : List ℕ). tag.0 ∷ w) (c.2 ∙ ap (λ (w : List ℕ). c.0 ++ (element.0 ++ w)) end.0 ∙ ap (λ (w : List ℕ). c.0 ++ w) (append-nil element.0)) in
    let shape : IsElement (tag.0) element.0 bytes = record { len = c.0; spelled = c.1; whole = whole } in
    let inside = IsBytes-inside (tag.0) bytes element.0 bytes [] fits (sym (append-nil bytes)) shape in
    let p = fields_take element.0 f inside y.1 in
    subst (λ (g : AnyHeld). (g.0 ≡ community) × IsPduFrame bytes g) same
    (refl, record { first = p.first; second = p.second; third = p.third; list = p.list; element = subst (λ (w : List ℕ). IsElement (tag.0) w bytes) p.whole shape; spelled_first = p.spelled_first; spelled_second = p.spelled_second; spelled_third = p.spelled_third; spelled_list = p.spelled_list })

-- the contents of a message except its variable bindings
record AreContents (contents : List ℕ) (h : AnyHeld) : Type 0 where
  version : List ℕ
  community : List ℕ
  pdu : List ℕ
  whole : contents ≡ version ++ (community ++ pdu)
  spelled_version : Spells version (Integer (pos 1))
  spelled_community : Spells community (Octets h.0)
  spelled_pdu : IsPduFrame pdu h

-- so was what it holds of the message
contents_take : (contents : List ℕ) (h : AnyHeld) → IsBytes contents → any_of contents ≡ Ok h → AreContents contents h
unfolding any_of
contents_take contents h fits e =
    let x = bind_ok (integer_at contents) (λ version. cond (is_one version.0) (behind_version version.1) (Err OutOfRange)) h e in
    let version = x.0 in
    let g = wanted (is_one version.0) OutOfRange (behind_version version.1) h x.2 in
    let y = bind_ok (element_at 0x04 version.1) (λ community. octet_at community.1 >>= behind_tag community.0) h g.1 in
    let community = y.0 in
    let z = bind_ok (octet_at community.1) (behind_tag community.0) h y.2 in
    let tag = z.0 in
    let t1 = integer_at_takes contents version.0 version.1 fits x.1 in
    let fits1 = IsBytes-after contents t1.0 version.1 fits t1.2 in
    let t2 = octets_at_takes version.1 community.0 community.1 y.1 in
    let fits2 = IsBytes-after version.1 t2.0 community.1 fits1 t2.2 in
    let body = body_takes community.1 community.0 tag h fits2 (octet_takes community.1 tag.0 tag.1 z.1) z.2 in
    record {
      version = t1.0;
      community = t2.0;
      pdu = community.1;
      whole = t1.2 ∙ ap (λ (w : List ℕ). t1.0 ++ w) t2.2;
      spelled_version = subst (λ (v : ℤ). Spells t1.0 (Integer v)) (is_one_true version.0 g.0) t1.1;
      spelled_community = subst (λ (o : List ℕ). Spells t2.0 (Octets o)) (sym body.0) t2.1;
      spelled_pdu = body.1;
    }

-- the frame of a message is read
message_again : (h : AnyHeld) (version community pdu : List ℕ) → Spells version (Integer (pos 1)) → Spells community (Octets h.0) → IsPduFrame pdu h → any_of (version ++ (community ++ pdu)) ≡ Ok h
unfolding any_of octet_at
message_again h version community pdu one spelled is =
    let e = is.element in
    let contents : List ℕ = is.first ++ (is.second ++ (is.third ++ is.list)) in
    let tag : octet_at pdu ≡ Ok (h.1, e.len ++ contents) = ap octet_at e.whole in
    let inside : contents_at (e.len ++ contents) ≡ Ok (contents, []) = ap (λ (w : List ℕ). contents_at (e.len ++ w)) (sym (append-nil contents)) ∙ contents_again e.len contents [] e.spelled in
    rw (integer_at_again version (pos 1) (community ++ pdu) one, octets_at_again community h.0 pdu spelled, tag, inside, fields_again is.first is.second is.third is.list h.5 h.2 h.3 h.4 is.spelled_first is.spelled_second is.spelled_third is.spelled_list) refl

-- ---- what the call promises

any_takes : (bytes : List ℕ) (h : AnyHeld) → IsBytes bytes → any_at bytes ≡ Ok h → BeginsWithAny bytes h
unfolding any_at
any_takes bytes h fits e =
    let x = bind_ok (element_at 0x30 bytes) (λ element. any_of element.0) h e in
    let element = x.0 in
    let t = element_takes 0x30 bytes element.0 element.1 x.1 in
    let inside = IsBytes-inside 0x30 bytes element.0 t.0 element.1 fits t.2 t.1 in
    let r = contents_take element.0 h inside x.2 in
    record {
      text = t.0;
      rest = element.1;
      whole = t.2;
      spelled = record { version = r.version; community = r.community; pdu = r.pdu; element = subst (λ (w : List ℕ). IsElement 0x30 w t.0) r.whole t.1; spelled_version = r.spelled_version; spelled_community = r.spelled_community; spelled_pdu = r.spelled_pdu };
    }

any_again : (bytes : List ℕ) (h : AnyHeld) → BeginsWithAny bytes h → any_at bytes ≡ Ok h
unfolding any_at
any_again bytes h is =
    let s = is.spelled in
    ap any_at is.whole ∙ rw (element_again 0x30 (s.version ++ (s.community ++ s.pdu)) is.text is.rest s.element) (message_again h s.version s.community s.pdu s.spelled_version s.spelled_community s.spelled_pdu)

-- what is read of a frame whose tag means this kind, or none
abbrev of_kind : AnyHeld → Option PduKind → Result Held BerFault
of_kind f o = elim o [ Some kind ↦ Ok (f.0, kind, f.2, f.3, f.4, f.5) | None ↦ Err BadTag ]

frame_takes : (bytes : List ℕ) (h : Held) → IsBytes bytes → frame_at bytes ≡ Ok h → BeginsWithFrame bytes h
unfolding frame_at
frame_takes bytes h fits e =
    let x = bind_ok (any_at bytes) (λ f. of_kind f (kind_of f.1)) h e in
    elim (kind_of x.0.1) as (λ o. kind_of x.0.1 ≡ o → of_kind x.0 o ≡ Ok h → BeginsWithFrame bytes h) [
      | Some kind ↦ λ o e. (
          let same : (x.0.0, kind, x.0.2, x.0.3, x.0.4, x.0.5) ≡ h = ok_is _ h e in
          let tag : x.0.1 ≡ octet_of kind = kind_is x.0.1 kind o in
          subst (λ (g : Held). BeginsWithFrame bytes g) same
          (subst (λ (t : ℕ). BeginsWithAny bytes (x.0.0, t, x.0.2, x.0.3, x.0.4, x.0.5)) tag (any_takes bytes x.0 fits x.1)))
      | None ↦ λ o e. absurd cc
    ] refl x.2

frame_again : (bytes : List ℕ) (h : Held) → BeginsWithFrame bytes h → frame_at bytes ≡ Ok h
unfolding frame_at
frame_again bytes h is =
    ap (λ (r : Result AnyHeld BerFault). r >>= λ f. of_kind f (kind_of f.1)) (any_again bytes (h.0, octet_of h.1, h.2, h.3, h.4, h.5) is)
    ∙ ap (of_kind (h.0, octet_of h.1, h.2, h.3, h.4, h.5)) (kind_again h.1)

bulk_takes : (bytes : List ℕ) (h : BulkHeld) → IsBytes bytes → bulk_frame_at bytes ≡ Ok h → BeginsWithBulkFrame bytes h
unfolding bulk_frame_at
bulk_takes bytes h fits e =
    let x = bind_ok (any_at bytes) (λ f. cond (eqb f.1 0xa5) (Ok (f.0, f.2, f.3, f.4, f.5)) (Err BadTag)) h e in
    let g = wanted (eqb x.0.1 0xa5) BadTag (Ok (x.0.0, x.0.2, x.0.3, x.0.4, x.0.5)) h x.2 in
    let same : (x.0.0, x.0.2, x.0.3, x.0.4, x.0.5) ≡ h = ok_is _ h g.1 in
    subst (λ (g : BulkHeld). BeginsWithBulkFrame bytes g) same
    (subst (λ (t : ℕ). BeginsWithAny bytes (x.0.0, t, x.0.2, x.0.3, x.0.4, x.0.5)) (eqb-true x.0.1 0xa5 g.0) (any_takes bytes x.0 fits x.1))

bulk_again : (bytes : List ℕ) (h : BulkHeld) → BeginsWithBulkFrame bytes h → bulk_frame_at bytes ≡ Ok h
unfolding bulk_frame_at
bulk_again bytes h is = rw (any_again bytes (h.0, 0xa5, h.1, h.2, h.3, h.4) is) refl

-- where its octets spell variable bindings, a frame and these are a message
message_is : (bytes : List ℕ) (h : AnyHeld) (body : Body) → BeginsWithAny bytes h → tag_of body ≡ h.1 → first_of body ≡ h.2 → second_of body ≡ h.3 → third_of body ≡ h.4
    → AreSpelled IsBinding h.5 (bindings_of body) → BeginsWithMessage bytes (record { community = h.0; body = body })
message_is bytes h body is tag first second third each =
    let s = is.spelled in
    let p = s.spelled_pdu in
    record {
      text = is.text;
      rest = is.rest;
      whole = is.whole;
      spelled = record {
        version = s.version;
        community = s.community;
        body = s.pdu;
        element = s.element;
        spelled_version = s.spelled_version;
        spelled_community = s.spelled_community;
        spelled_body = record {
          first = p.first;
          second = p.second;
          third = p.third;
          list = p.list;
          element = subst (λ (t : ℕ). IsElement t (p.first ++ (p.second ++ (p.third ++ p.list))) s.pdu) (sym tag) p.element;
          spelled_first = subst (λ (n : ℤ). Spells p.first (Integer n)) (sym first) p.spelled_first;
          spelled_second = subst (λ (n : ℤ). Spells p.second (Integer n)) (sym second) p.spelled_second;
          spelled_third = subst (λ (n : ℤ). Spells p.third (Integer n)) (sym third) p.spelled_third;
          spelled_list = record { contents = h.5; element = p.spelled_list; each = each };
        };
      };
    }

pub frame_is : (bytes : List ℕ) (f : Frame) (bs : List Binding) → BeginsWithFrame bytes (held f) → AreSpelled IsBinding f.list.now bs → BeginsWithMessage bytes (framed f bs)
frame_is bytes f bs is each = message_is bytes (f.community.now, octet_of f.kind, f.request_id, f.error_status, f.error_index, f.list.now) (framed f bs).body is refl refl refl refl each

pub bulk_is : (bytes : List ℕ) (f : BulkFrame) (bs : List Binding) → BeginsWithBulkFrame bytes (bulk_held f) → AreSpelled IsBinding f.list.now bs → BeginsWithMessage bytes (bulk_framed f bs)
bulk_is bytes f bs is each = message_is bytes (f.community.now, 0xa5, f.request_id, f.non_repeaters, f.max_repetitions, f.list.now) (bulk_framed f bs).body is refl refl refl refl each

-- a message has a frame, whose octets spell its variable bindings
any_in : (bytes : List ℕ) (m : Message) → BeginsWithMessage bytes m
    → (list : List ℕ) × BeginsWithAny bytes (m.community, tag_of m.body, first_of m.body, second_of m.body, third_of m.body, list) × AreSpelled IsBinding list (bindings_of m.body)
any_in bytes m is =
    let s = is.spelled in
    let b = s.spelled_body in
    let h : AnyHeld = (m.community, tag_of m.body, first_of m.body, second_of m.body, third_of m.body, b.spelled_list.contents) in
    let pdu : IsPduFrame s.body h = record {
      first = b.first;
      second = b.second;
      third = b.third;
      list = b.list;
      element = b.element;
      spelled_first = b.spelled_first;
      spelled_second = b.spelled_second;
      spelled_third = b.spelled_third;
      spelled_list = b.spelled_list.element;
    } in
    (b.spelled_list.contents, record { text = is.text; rest = is.rest; whole = is.whole; spelled = record { version = s.version; community = s.community; pdu = s.body; element = s.element; spelled_version = s.spelled_version; spelled_community = s.spelled_community; spelled_pdu = pdu } }, b.spelled_list.each)

-- of these variable bindings there is a frame of this type, which holds what is there
abbrev HasFrame : {H : Type 0} → (H → Type 0) → (H → List ℕ) → List Binding → Type 0
HasFrame {H} begins listed bindings = (h : H) × begins h × AreSpelled IsBinding (listed h) bindings

frame_in : (bytes : List ℕ) (m : Message) (p : AnyPdu) → m.body ≡ Pdu p → BeginsWithMessage bytes m → HasFrame (BeginsWithFrame bytes) (λ h. h.5) p.bindings
frame_in bytes m p body is =
    let own = any_in bytes (record { community = m.community; body = Pdu p }) (subst (λ (b : Body). BeginsWithMessage bytes (record { community = m.community; body = b })) body is) in
    ((m.community, p.kind, p.request_id, p.error_status, p.error_index, own.0), own.1, own.2)

bulk_in : (bytes : List ℕ) (m : Message) (p : AnyBulk) → m.body ≡ Bulk p → BeginsWithMessage bytes m → HasFrame (BeginsWithBulkFrame bytes) (λ h. h.4) p.bindings
bulk_in bytes m p body is =
    let own = any_in bytes (record { community = m.community; body = Bulk p }) (subst (λ (b : Body). BeginsWithMessage bytes (record { community = m.community; body = b })) body is) in
    ((m.community, p.request_id, p.non_repeaters, p.max_repetitions, own.0), own.1, own.2)

-- a call that reads frames of a type, and what reading them is
module _ {F H : Type 0} (view : F → H) (read : Result H BerFault) (begins : H → Type 0) (takes : (h : H) → read ≡ Ok h → begins h) (again : (h : H) → begins h → read ≡ Ok h) where
  all_hold : (r : Result F BerFault) (o : Option F) → o ≡ result_ok r → Gives view r read → IfSome o (λ f. begins (view f))
  all_hold r o is given = subst (λ (v : Option F). IfSome v (λ f. begins (view f))) (sym is) (by_result r given)
    where
      by_result : (r : Result F BerFault) → Gives view r read → IfSome (result_ok r) (λ f. begins (view f))
      by_result (Ok f) given = takes (view f) given
      by_result (Err e) given = tt

  is_none : (r : Result F BerFault) (o : Option F) → o ≡ result_ok r → r ≢ Err OutOfMemory → Gives view r read → IfNone o ((h : H) → begins h → ⊥)
  is_none (Ok f) o is enough given = subst (λ (v : Option F). IfNone v ((h : H) → begins h → ⊥)) (sym is) tt
  is_none (Err e) o is enough given =
      subst (λ (v : Option F). IfNone v ((h : H) → begins h → ⊥)) (sym is)
      (λ h is_there. let some = is_given view (Err e) read h enough given (again h is_there) in absurd cc)

  -- where there is a frame, one is found whose octets spell the variable bindings
  is_spelled : (listed : H → List ℕ) (bindings : List Binding) (r : Result F BerFault) (o : Option F) → o ≡ result_ok r → r ≢ Err OutOfMemory → Gives view r read
      → HasFrame begins listed bindings → (f : F) × (o ≡ Some f) × AreSpelled IsBinding (listed (view f)) bindings
  is_spelled listed bindings (Ok f) o is enough given has =
      let same : has.0 ≡ view f = ok_is {E = BerFault} has.0 (view f) (sym (again has.0 has.1) ∙ given) in
      (f, is, subst (λ (h : H). AreSpelled IsBinding (listed h) bindings) same has.2)
  is_spelled listed bindings (Err e) o is enough given has =
      let some = is_given view (Err e) read has.0 enough given (again has.0 has.1) in
      absurd cc

is_found : {F : Type 0} (o : Option F) (P Q : F → Type 0) → ((f : F) → P f → Q f) → IfSome o P → IfSome o Q
is_found (Some f) P Q leads is = leads f is
is_found None P Q leads is = tt

is_there : {F : Type 0} (o : Option F) (P : F → Type 0) → ((f : F) × (o ≡ Some f) × P f) → IsSome o
is_there o P there = subst (λ (v : Option _). IsSome v) (sym there.1) refl

all_spelled : {F : Type 0} (o : Option F) (P : F → Type 0) → ((f : F) × (o ≡ Some f) × P f) → IfSome o P
all_spelled o P there = subst (λ (v : Option _). IfSome v P) (sym there.1) there.2

-- ---- the clauses of the two calls
-- what the call for any PDU but a GetBulk promises
pub record FrameClauses (bytes : List ℕ) (o : Option Frame) : Type 0 where
  pub holds : IfSome o (λ f. BeginsWithFrame bytes (held f))
  pub none : IfNone o ((h : Held) → BeginsWithFrame bytes h → ⊥)
  pub found : IfSome o (λ f. (bindings : List Binding) → AreSpelled IsBinding f.list.now bindings → BeginsWithMessage bytes (framed f bindings))
  pub only : (m : Message) (p : AnyPdu) → m.body ≡ Pdu p → BeginsWithMessage bytes m → IsSome o
  pub spells : (m : Message) (p : AnyPdu) → m.body ≡ Pdu p → BeginsWithMessage bytes m → IfSome o (λ f. AreSpelled IsBinding f.list.now p.bindings)

pub frame_clauses : (bytes : List ℕ) (r : Result Frame BerFault) (o : Option Frame) → IsBytes bytes → o ≡ result_ok r → r ≢ Err OutOfMemory → Gives held r (frame_at bytes) → FrameClauses bytes o
frame_clauses bytes r o fits is enough given =
    let takes : (h : Held) → frame_at bytes ≡ Ok h → BeginsWithFrame bytes h = λ h. frame_takes bytes h fits in
    let again : (h : Held) → BeginsWithFrame bytes h → frame_at bytes ≡ Ok h = frame_again bytes in
    let holds = all_hold held (frame_at bytes) (BeginsWithFrame bytes) takes again r o is given in
    let spelled : (m : Message) (p : AnyPdu) → m.body ≡ Pdu p → BeginsWithMessage bytes m → (f : Frame) × (o ≡ Some f) × AreSpelled IsBinding f.list.now p.bindings =
    λ m p body begins. is_spelled held (frame_at bytes) (BeginsWithFrame bytes) takes again (λ h. h.5) p.bindings r o is enough given (frame_in bytes m p body begins) in
    record {
      holds = holds;
      none = is_none held (frame_at bytes) (BeginsWithFrame bytes) takes again r o is enough given;
      found = is_found o (λ f. BeginsWithFrame bytes (held f)) (λ f. (bindings : List Binding) → AreSpelled IsBinding f.list.now bindings → BeginsWithMessage bytes (framed f bindings)) (λ f begins bs each. frame_is bytes f bs begins each) holds;
      only = λ m p body begins. is_there o (λ f. AreSpelled IsBinding f.list.now p.bindings) (spelled m p body begins);
      spells = λ m p body begins. all_spelled o (λ f. AreSpelled IsBinding f.list.now p.bindings) (spelled m p body begins);
    }

-- what the call for a GetBulk promises
pub record BulkClauses (bytes : List ℕ) (o : Option BulkFrame) : Type 0 where
  pub holds : IfSome o (λ f. BeginsWithBulkFrame bytes (bulk_held f))
  pub none : IfNone o ((h : BulkHeld) → BeginsWithBulkFrame bytes h → ⊥)
  pub found : IfSome o (λ f. (bindings : List Binding) → AreSpelled IsBinding f.list.now bindings → BeginsWithMessage bytes (bulk_framed f bindings))
  pub only : (m : Message) (p : AnyBulk) → m.body ≡ Bulk p → BeginsWithMessage bytes m → IsSome o
  pub spells : (m : Message) (p : AnyBulk) → m.body ≡ Bulk p → BeginsWithMessage bytes m → IfSome o (λ f. AreSpelled IsBinding f.list.now p.bindings)

pub bulk_clauses : (bytes : List ℕ) (r : Result BulkFrame BerFault) (o : Option BulkFrame) → IsBytes bytes → o ≡ result_ok r → r ≢ Err OutOfMemory → Gives bulk_held r (bulk_frame_at bytes) → BulkClauses bytes o
bulk_clauses bytes r o fits is enough given =
    let takes : (h : BulkHeld) → bulk_frame_at bytes ≡ Ok h → BeginsWithBulkFrame bytes h = λ h. bulk_takes bytes h fits in
    let again : (h : BulkHeld) → BeginsWithBulkFrame bytes h → bulk_frame_at bytes ≡ Ok h = bulk_again bytes in
    let holds = all_hold bulk_held (bulk_frame_at bytes) (BeginsWithBulkFrame bytes) takes again r o is given in
    let spelled : (m : Message) (p : AnyBulk) → m.body ≡ Bulk p → BeginsWithMessage bytes m → (f : BulkFrame) × (o ≡ Some f) × AreSpelled IsBinding f.list.now p.bindings =
    λ m p body begins. is_spelled bulk_held (bulk_frame_at bytes) (BeginsWithBulkFrame bytes) takes again (λ h. h.4) p.bindings r o is enough given (bulk_in bytes m p body begins) in
    record {
      holds = holds;
      none = is_none bulk_held (bulk_frame_at bytes) (BeginsWithBulkFrame bytes) takes again r o is enough given;
      found = is_found o (λ f. BeginsWithBulkFrame bytes (bulk_held f)) (λ f. (bindings : List Binding) → AreSpelled IsBinding f.list.now bindings → BeginsWithMessage bytes (bulk_framed f bindings)) (λ f begins bs each. bulk_is bytes f bs begins each) holds;
      only = λ m p body begins. is_there o (λ f. AreSpelled IsBinding f.list.now p.bindings) (spelled m p body begins);
      spells = λ m p body begins. all_spelled o (λ f. AreSpelled IsBinding f.list.now p.bindings) (spelled m p body begins);
    }

-- ---- a variable binding whose name is known

-- where a call gave a value, reading gives it
pub some_given : {X Y : Type 0} (view : X → Y) (r : Result X BerFault) (read : Result Y BerFault) (x : X) → Some x ≡ result_ok r → Gives view r read → read ≡ Ok (view x)
some_given view (Ok z) read x is given = (let same : z ≡ x = cc in given ∙ ap (λ (w : _). Ok (view w)) same)
some_given view (Err e) read x is given = absurd cc

-- where a call that allocates nothing yielded none, reading yields none
pub none_given : {X Y : Type 0} (view : X → Y) (r : Result X BerFault) (read : Result Y BerFault) (y : Y) → None ≡ result_ok r → r ≢ Err OutOfMemory → Gives view r read → read ≡ Ok y → ⊥
none_given view (Ok x) read y is enough given read_is = absurd cc
none_given view (Err e) read y is enough given read_is = (let some = is_given view (Err e) read y enough given read_is in absurd cc)

-- a call that gave a value gave one
pub ok_given : {X E : Type 0} (r : Result X E) → IsOk r → None ≡ result_ok r → ⊥
ok_given (Ok x) gave is = absurd cc
ok_given (Err e) gave is = absurd cc

-- what an element that begins with the name is read as
pub named_again : (bytes name spelled text rest : List ℕ) → IsElement 0x30 (name ++ spelled) text → bytes ≡ text ++ rest → element_at 0x30 bytes ≡ Ok (name ++ spelled, rest)
named_again bytes name spelled text rest is whole = ap (element_at 0x30) whole ∙ element_again 0x30 (name ++ spelled) text rest is

-- its contents begin with the name
pub contents_are : (bytes name spelled text rest contents after : List ℕ) → IsElement 0x30 (name ++ spelled) text → bytes ≡ text ++ rest → element_at 0x30 bytes ≡ Ok (contents, after) → contents ≡ name ++ spelled
contents_are bytes name spelled text rest contents after is whole read =
    (pair_is {E = BerFault} contents after (name ++ spelled) rest (sym read ∙ named_again bytes name spelled text rest is whole)).0

-- contents that begin with the name are not refused
pub name_begins : (name spelled contents : List ℕ) → contents ≡ name ++ spelled → pointwise nat_eq (take (length name) contents) name ≡ false → ⊥
name_begins name spelled contents is other = other_text (take (length name) contents) name (sym other) (ap (take (length name)) is ∙ take_at name spelled (length name) refl)

-- the value behind the name is read, all of it
pub value_behind : (name spelled contents rest : List ℕ) (v : Value) → contents ≡ name ++ spelled → rest ≡ drop (length name) contents → Spells spelled v → value_at rest ≡ Ok (v, [])
value_behind name spelled contents rest v is left spells =
    let same : rest ≡ spelled ++ [] = left ∙ ap (drop (length name)) is ∙ drop_at name spelled (length name) refl ∙ sym (append-nil spelled) in
    ap value_at same ∙ value_again spelled v [] spells

-- what is read behind the name is the value of a variable binding of that name
pub named_takes : (bytes name contents after rest left : List ℕ) (v : Value) → IsBytes bytes → element_at 0x30 bytes ≡ Ok (contents, after) → pointwise nat_eq (take (length name) contents) name ≡ true → rest ≡ drop (length name) contents
    → value_at rest ≡ Ok (v, left) → left ≡ [] → (oid : List ℕ) → Spells name (Name oid) → (text : List ℕ) × IsBinding text (record { name = oid; value = v }) × (bytes ≡ text ++ after)
named_takes bytes name contents after rest left v fits read begins is value end oid spelled =
    let t = element_takes 0x30 bytes contents after read in
    let inside = IsBytes-inside 0x30 bytes contents t.0 after fits t.2 t.1 in
    let front : take (length name) contents ≡ name = same_text (take (length name) contents) name (sym begins) in
    let whole : contents ≡ name ++ rest = sym (take-append-drop (length name) contents) ∙ (λ i. front i ++ sym is i) in
    let u = value_takes rest v left (IsBytes-after contents name rest inside whole) value in
    let all : rest ≡ u.0 = u.2 ∙ ap (λ (w : List ℕ). u.0 ++ w) end ∙ append-nil u.0 in
    (t.0, record { name = name; value = u.0; element = subst (λ (w : List ℕ). IsElement 0x30 w t.0) (whole ∙ ap (λ (w : List ℕ). name ++ w) all) t.1; spelled_name = spelled; spelled_value = u.1 }, t.2)
