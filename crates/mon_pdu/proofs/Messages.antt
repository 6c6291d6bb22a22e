-- Messages: what is read was spelled, and what is spelled is read.
use Rattle.std.proofs.Common.{◌≡◌, ℕ, ◌<◌, false, cond, eqb, ℤ, List, [], ◌∷◌, ◌++◌, length, Option, Some, None, Result, Ok, Err, refl, sym, ap, subst, ◌∙◌, append_assoc, inl, inr}
use Rattle.std.proofs.lemmas.Bool.{eqb-true}
use Rattle.std.proofs.lemmas.List.{append-nil, nil_from_length}
use Rattle.mon_ber.specs.declared.fault.BerFault.{BerFault}
use Rattle.mon_ber.specs.declared.value.Value.TheVariants.{Integer}
use Rattle.mon_ber.specs.Grammar.{IsLength, IsElement, Spells}
use Rattle.mon_oid.specs.Steps.{◌>>=◌}
use Rattle.mon_ber.specs.Reading.{contents_at, element_at, integer_at, name_at, value_at}
use Rattle.mon_ber.specs.Sequence.{AreSpelled}
use Rattle.mon_ber.specs.Many.{many, with_front}
use Rattle.mon_ber.proofs.Promised.{bind_ok, wanted, chosen, ok_is, pair_is, IsBytes, contents_takes, contents_again, element_takes, element_again, value_takes, value_again, integer_at_takes, integer_at_again, name_at_takes, name_at_again, IsBytes-after, IsBytes-inside, element_some, stops, many_take, many_again, no_more}
use Rattle.mon_pdu.specs.declared.fault.PduFault.{PduFault}
use Rattle.mon_pdu.specs.declared.fault.PduFault.TheVariants.{OutOfMemory, Truncated, BadTag, BadLength, OutOfRange, BadOid, BadVersion, UnknownPdu}
use Rattle.mon_pdu.specs.declared.message.Binding.{Binding}
use Rattle.mon_pdu.specs.declared.message.PduKind.{PduKind}
use Rattle.mon_pdu.specs.declared.message.PduKind.TheVariants as kinds
use Rattle.mon_pdu.specs.declared.message.Body.{Body}
use Rattle.mon_pdu.specs.declared.message.Body.TheVariants.{Pdu, Bulk}
use Rattle.mon_pdu.specs.Kinds.{octet_of, kind_of}
use Rattle.mon_pdu.specs.Grammar.{IsBinding, first_of, second_of, third_of, bindings_of, IsList, IsBody}
use Rattle.mon_pdu.specs.Reading.{Fails, lifted, ended, binding_at, list_at, made_of, body_of, behind_tag, body_at}

-- a loop ends where one of them can't be read
pub fails : (front : List Binding) (room : ℕ) (bytes : List ℕ) (total : Result (List Binding) PduFault) → with_front front (many binding_at Truncated room bytes) ≡ total
    → (e : PduFault) → 0 < room → 0 < length bytes → Fails e (binding_at bytes) → Fails e total
fails front room bytes total so_far OutOfMemory some left h = tt
fails front room bytes total so_far Truncated some left h = stops binding_at Truncated front room bytes total so_far Truncated some left h
fails front room bytes total so_far BadTag some left h = stops binding_at Truncated front room bytes total so_far BadTag some left h
fails front room bytes total so_far BadLength some left h = stops binding_at Truncated front room bytes total so_far BadLength some left h
fails front room bytes total so_far OutOfRange some left h = stops binding_at Truncated front room bytes total so_far OutOfRange some left h
fails front room bytes total so_far BadOid some left h = stops binding_at Truncated front room bytes total so_far BadOid some left h
fails front room bytes total so_far (BadVersion v) some left h = stops binding_at Truncated front room bytes total so_far (BadVersion v) some left h
fails front room bytes total so_far (UnknownPdu t) some left h = stops binding_at Truncated front room bytes total so_far (UnknownPdu t) some left h

-- ---- steps

abbrev ok : {A : Type 0} → A → Result A PduFault
ok x = Ok x

pub bind_lifted : {A B : Type 0} (r : Result A BerFault) (f : A → Result B PduFault) (y : B) → (lifted r >>= f) ≡ Ok y → (x : A) × (r ≡ Ok x) × (f x ≡ Ok y)
bind_lifted (Ok x) f y e = (x, refl, e)
bind_lifted (Err d) f y e = absurd cc

pub ended_ok : {A : Type 0} (bytes : List ℕ) (x y : A) → ended bytes x ≡ Ok y → (bytes ≡ []) × (x ≡ y)
ended_ok bytes x y e =
    let g = wanted (eqb (length bytes) 0) BadLength (Ok x) y e in
    (nil_from_length bytes (eqb-true (length bytes) 0 g.0), ok_is x y g.1)

-- ---- bindings

pub binding_takes : (bytes : List ℕ) (b : Binding) (rest : List ℕ) → IsBytes bytes → binding_at bytes ≡ Ok (b, rest) → (text : List ℕ) × IsBinding text b × (bytes ≡ text ++ rest)
unfolding binding_at
binding_takes bytes b rest fits e =
    let x = bind_lifted (element_at 0x30 bytes) (λ element. lifted (name_at element.0) >>= λ name. lifted (value_at name.1) >>= λ value. ended value.1 (record { name = name.0; value = value.0 }, element.1)) (b, rest) e in
    let element = x.0 in
    let y = bind_lifted (name_at element.0) (λ name. lifted (value_at name.1) >>= λ value. ended value.1 (record { name = name.0; value = value.0 }, element.1)) (b, rest) x.2 in
    let name = y.0 in
    let z = bind_lifted (value_at name.1) (λ value. ended value.1 (record { name = name.0; value = value.0 }, element.1)) (b, rest) y.2 in
    let value = z.0 in
    let made : Binding × List ℕ = (record { name = name.0; value = value.0 }, element.1) in
    let asked : Binding × List ℕ = (b, rest) in
    let end = ended_ok value.1 made asked z.2 in
    let t = element_takes 0x30 bytes element.0 element.1 x.1 in
    let inside = IsBytes-inside 0x30 bytes element.0 t.0 element.1 fits t.2 t.1 in
    let n = name_at_takes element.0 name.0 name.1 y.1 in
    let v = value_takes name.1 value.0 value.1 (IsBytes-after element.0 n.0 name.1 inside n.2) z.1 in
    let contents : element.0 ≡ n.0 ++ v.0 = n.2 ∙ ap (λ (w : List ℕ). n.0 ++ w) (v.2 ∙ ap (λ (w : List ℕ). v.0 ++ w) end.0 ∙ append-nil v.0) in
    subst (λ (p : Binding × List ℕ). (text : List ℕ) × IsBinding text p.0 × (bytes ≡ text ++ p.1)) end.1
    (t.0, record { name = n.0; value = v.0; element = subst (λ (w : List ℕ). IsElement 0x30 w t.0) contents t.1; spelled_name = n.1; spelled_value = v.1 }, t.2)

pub binding_again : (text : List ℕ) (b : Binding) (rest : List ℕ) → IsBinding text b → binding_at (text ++ rest) ≡ Ok (b, rest)
unfolding binding_at
binding_again text b rest is =
    let value : value_at is.value ≡ Ok (b.value, []) = ap value_at (sym (append-nil is.value)) ∙ value_again is.value b.value [] is.spelled_value in
    rw (element_again 0x30 (is.name ++ is.value) text rest is.element, name_at_again is.name b.name is.value is.spelled_name, value) refl

binding_some : (text : List ℕ) (b : Binding) → IsBinding text b → 0 < length text
binding_some text b is = element_some 0x30 (is.name ++ is.value) text is.element

pub list_takes : (bytes : List ℕ) (bs : List Binding) (rest : List ℕ) → IsBytes bytes → list_at bytes ≡ Ok (bs, rest) → (text : List ℕ) × IsList text bs × (bytes ≡ text ++ rest)
unfolding list_at
list_takes bytes bs rest fits e =
    let x = bind_lifted (element_at 0x30 bytes) (λ element. many binding_at Truncated (length element.0) element.0 >>= λ bindings. Ok (bindings, element.1)) (bs, rest) e in
    let element = x.0 in
    let y = bind_ok (many binding_at Truncated (length element.0) element.0) (λ bindings. Ok (bindings, element.1)) (bs, rest) x.2 in
    let is = pair_is y.0 element.1 bs rest y.2 in
    let t = element_takes 0x30 bytes element.0 element.1 x.1 in
    let inside = IsBytes-inside 0x30 bytes element.0 t.0 element.1 fits t.2 t.1 in
    let each = many_take binding_at Truncated IsBinding IsBytes (λ a b h. IsBytes-after (a ++ b) a b h refl) binding_takes (length element.0) element.0 y.0 inside y.1 in
    (t.0, record { contents = element.0; element = t.1; each = subst (λ (v : List Binding). AreSpelled IsBinding element.0 v) is.0 each.0 }, t.2 ∙ ap (λ (w : List ℕ). t.0 ++ w) is.1)

pub list_again : (text : List ℕ) (bs : List Binding) (rest : List ℕ) → IsList text bs → list_at (text ++ rest) ≡ Ok (bs, rest)
unfolding list_at
list_again text bs rest is =
    let each : many binding_at Truncated (length is.contents) is.contents ≡ Ok bs =
    many_again binding_at Truncated IsBinding binding_some binding_again (length is.contents) is.contents bs is.each (no_more binding_at Truncated IsBinding binding_some is.contents bs is.each) in
    rw (element_again 0x30 is.contents text rest is.element, each) refl

-- ---- bodies

abbrev octet : Option PduKind → ℕ
octet (Some kind) = octet_of kind
octet None = 0xa5

-- the parts of a body, apart from its kind
pub record Parts (contents : List ℕ) (a b c : ℤ) (bs : List Binding) : Type 0 where
  pub first : List ℕ
  pub second : List ℕ
  pub third : List ℕ
  pub list : List ℕ
  pub whole : contents ≡ first ++ (second ++ (third ++ list))
  pub spelled_first : Spells first (Integer a)
  pub spelled_second : Spells second (Integer b)
  pub spelled_third : Spells third (Integer c)
  pub spelled_list : IsList list bs

pub record IsMade (kind : Option PduKind) (contents : List ℕ) (body : Body) : Type 0 where
  pub a : ℤ
  pub b : ℤ
  pub c : ℤ
  pub bindings : List Binding
  pub is : made_of kind a b c bindings ≡ body
  pub parts : Parts contents a b c bindings

body_of_takes : (kind : Option PduKind) (contents : List ℕ) (body : Body) → IsBytes contents → body_of kind contents ≡ Ok body → IsMade kind contents body
unfolding body_of
body_of_takes kind contents body fits e =
    let x = bind_lifted (integer_at contents) (λ first. lifted (integer_at first.1) >>= λ second. lifted (integer_at second.1) >>= λ third. list_at third.1 >>= λ bindings. ended bindings.1 (made_of kind first.0 second.0 third.0 bindings.0)) body e in
    let first = x.0 in
    let y = bind_lifted (integer_at first.1) (λ second. lifted (integer_at second.1) >>= λ third. list_at third.1 >>= λ bindings. ended bindings.1 (made_of kind first.0 second.0 third.0 bindings.0)) body x.2 in
    let second = y.0 in
    let z = bind_lifted (integer_at second.1) (λ third. list_at third.1 >>= λ bindings. ended bindings.1 (made_of kind first.0 second.0 third.0 bindings.0)) body y.2 in
    let third = z.0 in
    let w = bind_ok (list_at third.1) (λ bindings. ended bindings.1 (made_of kind first.0 second.0 third.0 bindings.0)) body z.2 in
    let bindings = w.0 in
    let end = ended_ok bindings.1 (made_of kind first.0 second.0 third.0 bindings.0) body w.2 in
    let t1 = integer_at_takes contents first.0 first.1 fits x.1 in
    let fits1 = IsBytes-after contents t1.0 first.1 fits t1.2 in
    let t2 = integer_at_takes first.1 second.0 second.1 fits1 y.1 in
    let fits2 = IsBytes-after first.1 t2.0 second.1 fits1 t2.2 in
    let t3 = integer_at_takes second.1 third.0 third.1 fits2 z.1 in
    let fits3 = IsBytes-after second.1 t3.0 third.1 fits2 t3.2 in
    let t4 = list_takes third.1 bindings.0 bindings.1 fits3 w.1 in
    let last : third.1 ≡ t4.0 = t4.2 ∙ ap (λ (v : List ℕ). t4.0 ++ v) end.0 ∙ append-nil t4.0 in
    let whole : contents ≡ t1.0 ++ (t2.0 ++ (t3.0 ++ t4.0)) = t1.2 ∙ ap (λ (v : List ℕ). t1.0 ++ v) (t2.2 ∙ ap (λ (v : List ℕ). t2.0 ++ v) (t3.2 ∙ ap (λ (v : List ℕ). t3.0 ++ v) last)) in
    record {
      a = first.0;
      b = second.0;
      c = third.0;
      bindings = bindings.0;
      is = end.1;
      parts = record { first = t1.0; second = t2.0; third = t3.0; list = t4.0; whole = whole; spelled_first = t1.1; spelled_second = t2.1; spelled_third = t3.1; spelled_list = t4.1 };
    }

body_of_again : (kind : Option PduKind) (contents : List ℕ) (a b c : ℤ) (bs : List Binding) → Parts contents a b c bs → body_of kind contents ≡ Ok (made_of kind a b c bs)
unfolding body_of
body_of_again kind contents a b c bs is =
    let list : list_at is.list ≡ Ok (bs, []) = ap list_at (sym (append-nil is.list)) ∙ list_again is.list bs [] is.spelled_list in
    ap (body_of kind) is.whole ∙ rw (integer_at_again is.first a (is.second ++ (is.third ++ is.list)) is.spelled_first, integer_at_again is.second b (is.third ++ is.list) is.spelled_second, integer_at_again is.third c is.list is.spelled_third, list) refl

or_else : (b k : ℕ) (t u : PduKind) (others : Option PduKind) → k ≡ octet_of t → cond (eqb b k) (Some t) others ≡ Some u → (others ≡ Some u → b ≡ octet_of u) → b ≡ octet_of u
or_else b k t u others is e next =
    elim (chosen (eqb b k) (Some t) others (Some u) e) [
      | inl p ↦ (let same : t ≡ u = cc in eqb-true b k p.0 ∙ is ∙ ap octet_of same)
      | inr p ↦ next p.1
    ]

pub kind_is : (b : ℕ) (t : PduKind) → kind_of b ≡ Some t → b ≡ octet_of t
kind_is b t e =
    or_else b 160 kinds.Get t _ refl e (λ e.
    or_else b 161 kinds.GetNext t _ refl e (λ e.
    or_else b 162 kinds.Response t _ refl e (λ e.
    or_else b 163 kinds.Set t _ refl e (λ e.
    or_else b 166 kinds.Inform t _ refl e (λ e.
    or_else b 167 kinds.Trap t _ refl e (λ e.
    or_else b 168 kinds.Report t _ refl e (λ e.
    absurd cc)))))))

pub kind_again : (t : PduKind) → kind_of (octet_of t) ≡ Some t
kind_again kinds.Get = refl
kind_again kinds.GetNext = refl
kind_again kinds.Response = refl
kind_again kinds.Set = refl
kind_again kinds.Inform = refl
kind_again kinds.Trap = refl
kind_again kinds.Report = refl

not_bulk : (t : PduKind) → eqb (octet_of t) 0xa5 ≡ false
not_bulk kinds.Get = refl
not_bulk kinds.GetNext = refl
not_bulk kinds.Response = refl
not_bulk kinds.Set = refl
not_bulk kinds.Inform = refl
not_bulk kinds.Trap = refl
not_bulk kinds.Report = refl

body_is : (kind : Option PduKind) (text contents : List ℕ) (body : Body) → IsElement (octet kind) contents text → IsMade kind contents body → IsBody text body
body_is (Some k) text contents body element m =
    let p = m.parts in
    subst (λ (v : Body). IsBody text v) m.is (record { first = p.first; second = p.second; third = p.third; list = p.list; element = subst (λ (w : List ℕ). IsElement (octet_of k) w text) p.whole element; spelled_first = p.spelled_first; spelled_second = p.spelled_second; spelled_third = p.spelled_third; spelled_list = p.spelled_list })
body_is None text contents body element m =
    let p = m.parts in
    subst (λ (v : Body). IsBody text v) m.is (record { first = p.first; second = p.second; third = p.third; list = p.list; element = subst (λ (w : List ℕ). IsElement 0xa5 w text) p.whole element; spelled_first = p.spelled_first; spelled_second = p.spelled_second; spelled_third = p.spelled_third; spelled_list = p.spelled_list })

abbrev Begins : List ℕ → Body × List ℕ → Type 0
Begins bytes p = (text : List ℕ) × IsBody text p.0 × (bytes ≡ text ++ p.1)

behind_takes : (kind : Option PduKind) (t : ℕ) (bytes : List ℕ) (p : Body × List ℕ) → t ≡ octet kind → IsBytes (t ∷ bytes) → behind_tag kind bytes ≡ Ok p → Begins (t ∷ bytes) p
unfolding behind_tag
behind_takes kind t bytes p is fits e =
    let x = bind_lifted (contents_at bytes) (λ element. body_of kind element.0 >>= λ body. Ok (body, element.1)) p e in
    let element = x.0 in
    let y = bind_ok (body_of kind element.0) (λ body. Ok (body, element.1)) p x.2 in
    let made : Body × List ℕ = (y.0, element.1) in
    let c = contents_takes bytes element.0 element.1 x.1 in
    let text : List ℕ = octet kind ∷ c.0 ++ element.0 in
    let shape : IsElement (octet kind) element.0 text = record { len = c.0; spelled = c.1; whole = refl } in
    let whole : t ∷ bytes ≡ text ++ element.1 = ap (λ (b : ℕ). b ∷ bytes) is ∙ ap (λ (w : List ℕ). octet kind ∷ w) (c.2 ∙ sym (append_assoc c.0 element.0 element.1)) in
    let inside = IsBytes-inside (octet kind) (t ∷ bytes) element.0 text element.1 fits whole shape in
    let body = body_is kind text element.0 y.0 shape (body_of_takes kind element.0 y.0 inside y.1) in
    subst (λ (q : Body × List ℕ). Begins (t ∷ bytes) q) (ok_is made p y.2) (text, body, whole)

-- the reading behind a tag that is no GetBulk's
abbrev pub by_kind : ℕ → List ℕ → Option PduKind → Result (Body × List ℕ) PduFault
by_kind t bs k = elim k [ Some kind ↦ behind_tag (Some kind) bs | None ↦ Err (UnknownPdu t) ]

pub body_takes : (bytes : List ℕ) (p : Body × List ℕ) → IsBytes bytes → body_at bytes ≡ Ok p → Begins bytes p
unfolding body_at
body_takes [] p fits e = absurd cc
body_takes (t ∷ bs) p fits e =
    elim (chosen (eqb t 0xa5) (behind_tag None bs) (by_kind t bs (kind_of t)) (Ok p) e) [
      | inl h ↦ behind_takes None t bs p (eqb-true t 0xa5 h.0) fits h.1
      | inr h ↦ elim (kind_of t) as (λ k. kind_of t ≡ k → by_kind t bs k ≡ Ok p → Begins (t ∷ bs) p) [
        | Some kind ↦ λ k e. behind_takes (Some kind) t bs p (kind_is t kind k) fits e
        | None ↦ λ k e. absurd cc
      ] refl h.1
    ]

behind_again : (kind : Option PduKind) (len contents rest : List ℕ) (a b c : ℤ) (bs : List Binding) → IsLength len (length contents) → Parts contents a b c bs → behind_tag kind (len ++ (contents ++ rest)) ≡ Ok (made_of kind a b c bs, rest)
unfolding behind_tag
behind_again kind len contents rest a b c bs spelled parts = rw (contents_again len contents rest spelled, body_of_again kind contents a b c bs parts) refl

abbrev parts_of : (text : List ℕ) (body : Body) (is : IsBody text body) → Parts (is.first ++ (is.second ++ (is.third ++ is.list))) (first_of body) (second_of body) (third_of body) (bindings_of body)
parts_of text body is = record { first = is.first; second = is.second; third = is.third; list = is.list; whole = refl; spelled_first = is.spelled_first; spelled_second = is.spelled_second; spelled_third = is.spelled_third; spelled_list = is.spelled_list }

pub body_again : (text : List ℕ) (body : Body) (rest : List ℕ) → IsBody text body → body_at (text ++ rest) ≡ Ok (body, rest)
unfolding body_at
body_again text (Pdu p) rest is =
    let e = is.element in
    let contents : List ℕ = is.first ++ (is.second ++ (is.third ++ is.list)) in
    let regrouped : text ++ rest ≡ octet_of p.kind ∷ (e.len ++ (contents ++ rest)) = ap (λ (w : List ℕ). w ++ rest) e.whole ∙ ap (λ (w : List ℕ). octet_of p.kind ∷ w) (append_assoc e.len contents rest) in
    ap body_at regrouped ∙ rw (not_bulk p.kind, kind_again p.kind) (behind_again (Some p.kind) e.len contents rest p.request_id p.error_status p.error_index p.bindings e.spelled (parts_of text (Pdu p) is))
body_again text (Bulk p) rest is =
    let e = is.element in
    let contents : List ℕ = is.first ++ (is.second ++ (is.third ++ is.list)) in
    let regrouped : text ++ rest ≡ 0xa5 ∷ (e.len ++ (contents ++ rest)) = ap (λ (w : List ℕ). w ++ rest) e.whole ∙ ap (λ (w : List ℕ). 0xa5 ∷ w) (append_assoc e.len contents rest) in
    ap body_at regrouped ∙ behind_again None e.len contents rest p.request_id p.non_repeaters p.max_repetitions p.bindings e.spelled (parts_of text (Bulk p) is)
