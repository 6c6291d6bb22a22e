-- Values: what is read was spelled, and what is spelled is read.
use Rattle.std.proofs.Common.{◌≡◌, ℕ, ◌+◌, ◌-◌, ◌^◌, ◌<◌, ◌≤◌, ltb, eqb, List, [], ◌∷◌, ◌++◌, length, get_or, take, drop, ℤ, pos, negsuc, Ok, refl, sym, ap, subst, ◌∙◌, append_assoc, arith, inl, inr}
use Rattle.std.specs.Prelude.{FitsSigned}
use Rattle.std.specs.Int.{w32}
use Rattle.std.proofs.lemmas.Bool.{cases_lt, ltb-true, lt-ltb, eqb-true, eq-eqb}
use Rattle.std.proofs.lemmas.List.{append-nil, get_or-append-add, get_or_append_left, get_or_past, length-append, length-drop, take_at, take-append-drop}
use Rattle.mon_ber.specs.declared.fault.BerFault.{BerFault}
use Rattle.mon_ber.specs.declared.fault.BerFault.TheVariants.{BadLength, OutOfRange}
use Rattle.mon_ber.specs.declared.tag.Tag.{Tag}
use Rattle.mon_ber.specs.declared.tag.Tag.TheVariants as tags
use Rattle.mon_ber.specs.declared.value.Value.{Value}
use Rattle.mon_ber.specs.declared.value.Value.TheVariants.{Integer, Octets, Null, Name, IpAddress, Counter32, Gauge32, TimeTicks, Opaque, Counter64, NoSuchObject, NoSuchInstance, EndOfMibView}
use Rattle.mon_ber.specs.Numbers.{IsNumber}
use Rattle.mon_ber.specs.Grammar.{octet_of, tag_of, IsContents, IsElement, Spells}
use Rattle.mon_oid.specs.Steps.{◌>>=◌}
use Rattle.mon_ber.specs.Reading.{Gives, number_of, in_i32, below, integer_of, unsigned_of, address_of, nothing_of, name_of, value_of, tag_at, contents_at, element_at, value_at, integer_at, name_at}
use Rattle.mon_ber.proofs.Steps.{bind_ok, wanted, ok_is, pair_is}
use Rattle.mon_ber.proofs.Numbers.{IsBytes, number_takes, number_again}
use Rattle.mon_ber.proofs.Names.{name_takes, name_again}
use Rattle.mon_ber.proofs.Elements.{tag_takes, tag_again, contents_takes, contents_again, element_takes, element_again}

-- ---- numbers in their ranges

in_i32_takes : (z y : ℤ) → in_i32 z ≡ Ok y → (z ≡ y) × FitsSigned w32 y
in_i32_takes (pos n) y e =
    let g = wanted (ltb n (2 ^ 31)) OutOfRange (Ok (pos n)) y e in
    let is = ok_is (pos n) y g.1 in
    (is, subst (λ (x : ℤ). FitsSigned w32 x) is (record { sfits = ltb-true n (2 ^ 31) g.0 }))
in_i32_takes (negsuc n) y e =
    let g = wanted (ltb n (2 ^ 31)) OutOfRange (Ok (negsuc n)) y e in
    let is = ok_is (negsuc n) y g.1 in
    (is, subst (λ (x : ℤ). FitsSigned w32 x) is (record { sfits = ltb-true n (2 ^ 31) g.0 }))

in_i32_again : (z : ℤ) → FitsSigned w32 z → in_i32 z ≡ Ok z
in_i32_again (pos n) fits = rw (lt-ltb n (2 ^ 31) fits.sfits) refl
in_i32_again (negsuc n) fits = rw (lt-ltb n (2 ^ 31) fits.sfits) refl

below_takes : (limit : ℕ) (z : ℤ) (n : ℕ) → below limit z ≡ Ok n → (z ≡ pos n) × (n < limit)
below_takes limit (pos m) n e =
    let g = wanted (ltb m limit) OutOfRange (Ok m) n e in
    let is = ok_is m n g.1 in
    let lt = ltb-true m limit g.0 in
    (ap pos is, omega arith)
below_takes limit (negsuc m) n e = absurd cc

pub integer_takes : (contents : List ℕ) (z : ℤ) → IsBytes contents → integer_of contents ≡ Ok z → IsNumber contents z × FitsSigned w32 z
unfolding integer_of
integer_takes contents z fits e =
    let b = bind_ok (number_of contents) in_i32 z e in
    let r = in_i32_takes b.0 z b.2 in
    (subst (λ (x : ℤ). IsNumber contents x) r.0 (number_takes contents b.0 fits b.1), r.1)

pub integer_again : (contents : List ℕ) (z : ℤ) → IsNumber contents z → FitsSigned w32 z → integer_of contents ≡ Ok z
unfolding integer_of
integer_again contents z is fits = rw (number_again contents z is) (in_i32_again z fits)

unsigned_takes : (limit : ℕ) (contents : List ℕ) (n : ℕ) → IsBytes contents → unsigned_of limit contents ≡ Ok n → IsNumber contents (pos n) × (n < limit)
unfolding unsigned_of
unsigned_takes limit contents n fits e =
    let b = bind_ok (number_of contents) (below limit) n e in
    let r = below_takes limit b.0 n b.2 in
    (subst (λ (x : ℤ). IsNumber contents x) r.0 (number_takes contents b.0 fits b.1), r.1)

unsigned_again : (limit : ℕ) (contents : List ℕ) (n : ℕ) → IsNumber contents (pos n) → n < limit → unsigned_of limit contents ≡ Ok n
unfolding unsigned_of
unsigned_again limit contents n is lt = rw (number_again contents (pos n) is, lt-ltb n limit lt) refl

-- ---- the others

nothing_takes : {A : Type 0} (x y : A) (contents : List ℕ) → nothing_of x contents ≡ Ok y → (x ≡ y) × (contents ≡ [])
unfolding nothing_of
nothing_takes x y [] e = (ok_is x y e, refl)
nothing_takes x y (b ∷ bs) e = absurd cc

nothing_again : {A : Type 0} (x : A) (contents : List ℕ) → contents ≡ [] → nothing_of x contents ≡ Ok x
unfolding nothing_of
nothing_again x contents is = ap (nothing_of x) is

address_takes : (contents a : List ℕ) → address_of contents ≡ Ok a → (contents ≡ a) × (length a ≡ 4)
unfolding address_of
address_takes contents a e =
    let g = wanted (eqb (length contents) 4) BadLength (Ok contents) a e in
    let is = ok_is contents a g.1 in
    (is, ap (λ (x : List ℕ). length x) (sym is) ∙ eqb-true (length contents) 4 g.0)

address_again : (contents a : List ℕ) → contents ≡ a → length a ≡ 4 → address_of contents ≡ Ok a
unfolding address_of
address_again contents a is four = ap address_of is ∙ rw (eq-eqb (length a) 4 four) refl

-- ---- contents

-- these contents spell v, whose tag is t
abbrev Stands : Tag → List ℕ → Value → Type 0
Stands t contents v = (tag_of v ≡ t) × IsContents contents v

value_of_takes : (t : Tag) (contents : List ℕ) (v : Value) → IsBytes contents → value_of t contents ≡ Ok v → Stands t contents v
unfolding value_of
value_of_takes tags.Integer contents v fits e =
    let b = bind_ok (integer_of contents) (λ z. Ok (Integer z)) v e in
    subst (λ (x : Value). Stands tags.Integer contents x) (ok_is (Integer b.0) v b.2) (refl, integer_takes contents b.0 fits b.1)
value_of_takes tags.OctetString contents v fits e = subst (λ (x : Value). Stands tags.OctetString contents x) (ok_is (Octets contents) v e) (refl, refl)
value_of_takes tags.Null contents v fits e =
    let is = nothing_takes Null v contents e in
    subst (λ (x : Value). Stands tags.Null contents x) is.0 (refl, is.1)
value_of_takes tags.ObjectIdentifier contents v fits e =
    let b = bind_ok (name_of contents) (λ parts. Ok (Name parts)) v e in
    subst (λ (x : Value). Stands tags.ObjectIdentifier contents x) (ok_is (Name b.0) v b.2) (refl, name_takes contents b.0 b.1)
value_of_takes tags.IpAddress contents v fits e =
    let b = bind_ok (address_of contents) (λ a. Ok (IpAddress a)) v e in
    subst (λ (x : Value). Stands tags.IpAddress contents x) (ok_is (IpAddress b.0) v b.2) (refl, address_takes contents b.0 b.1)
value_of_takes tags.Counter32 contents v fits e =
    let b = bind_ok (unsigned_of (2 ^ 32) contents) (λ n. Ok (Counter32 n)) v e in
    subst (λ (x : Value). Stands tags.Counter32 contents x) (ok_is (Counter32 b.0) v b.2) (refl, unsigned_takes (2 ^ 32) contents b.0 fits b.1)
value_of_takes tags.Gauge32 contents v fits e =
    let b = bind_ok (unsigned_of (2 ^ 32) contents) (λ n. Ok (Gauge32 n)) v e in
    subst (λ (x : Value). Stands tags.Gauge32 contents x) (ok_is (Gauge32 b.0) v b.2) (refl, unsigned_takes (2 ^ 32) contents b.0 fits b.1)
value_of_takes tags.TimeTicks contents v fits e =
    let b = bind_ok (unsigned_of (2 ^ 32) contents) (λ n. Ok (TimeTicks n)) v e in
    subst (λ (x : Value). Stands tags.TimeTicks contents x) (ok_is (TimeTicks b.0) v b.2) (refl, unsigned_takes (2 ^ 32) contents b.0 fits b.1)
value_of_takes tags.Opaque contents v fits e = subst (λ (x : Value). Stands tags.Opaque contents x) (ok_is (Opaque contents) v e) (refl, refl)
value_of_takes tags.Counter64 contents v fits e =
    let b = bind_ok (unsigned_of (2 ^ 64) contents) (λ n. Ok (Counter64 n)) v e in
    subst (λ (x : Value). Stands tags.Counter64 contents x) (ok_is (Counter64 b.0) v b.2) (refl, unsigned_takes (2 ^ 64) contents b.0 fits b.1)
value_of_takes tags.NoSuchObject contents v fits e =
    let is = nothing_takes NoSuchObject v contents e in
    subst (λ (x : Value). Stands tags.NoSuchObject contents x) is.0 (refl, is.1)
value_of_takes tags.NoSuchInstance contents v fits e =
    let is = nothing_takes NoSuchInstance v contents e in
    subst (λ (x : Value). Stands tags.NoSuchInstance contents x) is.0 (refl, is.1)
value_of_takes tags.EndOfMibView contents v fits e =
    let is = nothing_takes EndOfMibView v contents e in
    subst (λ (x : Value). Stands tags.EndOfMibView contents x) is.0 (refl, is.1)

value_of_again : (v : Value) (contents : List ℕ) → IsContents contents v → value_of (tag_of v) contents ≡ Ok v
unfolding value_of
value_of_again (Integer z) contents is = rw (integer_again contents z is.0 is.1) refl
value_of_again (Octets o) contents is = ap (λ (x : List ℕ). Ok (Octets x)) is
value_of_again Null contents is = nothing_again Null contents is
value_of_again (Name o) contents is = rw (name_again contents o is) refl
value_of_again (IpAddress a) contents is = rw (address_again contents a is.0 is.1) refl
value_of_again (Counter32 n) contents is = rw (unsigned_again (2 ^ 32) contents n is.0 is.1) refl
value_of_again (Gauge32 n) contents is = rw (unsigned_again (2 ^ 32) contents n is.0 is.1) refl
value_of_again (TimeTicks n) contents is = rw (unsigned_again (2 ^ 32) contents n is.0 is.1) refl
value_of_again (Opaque o) contents is = ap (λ (x : List ℕ). Ok (Opaque x)) is
value_of_again (Counter64 n) contents is = rw (unsigned_again (2 ^ 64) contents n is.0 is.1) refl
value_of_again NoSuchObject contents is = nothing_again NoSuchObject contents is
value_of_again NoSuchInstance contents is = nothing_again NoSuchInstance contents is
value_of_again EndOfMibView contents is = nothing_again EndOfMibView contents is

-- ---- values

-- octets between octets are octets
pub IsBytes-middle : (x y z : List ℕ) → IsBytes (x ++ (y ++ z)) → IsBytes y
IsBytes-middle x y z h i =
    elim (cases_lt i (length y)) [
      | inl lt ↦ subst (λ (n : ℕ). n < 256) (get_or-append-add x (y ++ z) i 0 ∙ get_or_append_left y z 0 i lt) (h (length x + i))
      | inr le ↦ rw (get_or_past y i 0 le) (omega arith)
    ]

pub value_takes : (bytes : List ℕ) (v : Value) (rest : List ℕ) → IsBytes bytes → value_at bytes ≡ Ok (v, rest) → (text : List ℕ) × Spells text v × (bytes ≡ text ++ rest)
unfolding value_at
value_takes bytes v rest fits e =
    let a = bind_ok (tag_at bytes) (λ tag. contents_at tag.1 >>= λ element. value_of tag.0 element.0 >>= λ u. Ok (u, element.1)) (v, rest) e in
    let tag = a.0 in
    let b = bind_ok (contents_at tag.1) (λ element. value_of tag.0 element.0 >>= λ u. Ok (u, element.1)) (v, rest) a.2 in
    let element = b.0 in
    let d = bind_ok (value_of tag.0 element.0) (λ u. Ok (u, element.1)) (v, rest) b.2 in
    let first = tag_takes bytes tag.0 tag.1 a.1 in
    let second = contents_takes tag.1 element.0 element.1 b.1 in
    let whole : bytes ≡ octet_of tag.0 ∷ (second.0 ++ (element.0 ++ element.1)) = first ∙ ap (λ (x : List ℕ). octet_of tag.0 ∷ x) second.2 in
    let inside : IsBytes element.0 = IsBytes-middle (octet_of tag.0 ∷ second.0) element.0 element.1 (subst (λ (x : List ℕ). IsBytes x) whole fits) in
    let third = value_of_takes tag.0 element.0 d.0 inside d.1 in
    let text : List ℕ = octet_of (tag_of d.0) ∷ second.0 ++ element.0 in
    let made : Value × List ℕ = (d.0, element.1) in
    let asked : Value × List ℕ = (v, rest) in
    let same : made ≡ asked = ok_is made asked d.2 in
    let regrouped : bytes ≡ text ++ element.1 = whole ∙ ap (λ (t : Tag). octet_of t ∷ (second.0 ++ (element.0 ++ element.1))) (sym third.0) ∙ ap (λ (x : List ℕ). octet_of (tag_of d.0) ∷ x) (sym (append_assoc second.0 element.0 element.1)) in
    subst (λ (p : Value × List ℕ). (w : List ℕ) × Spells w p.0 × (bytes ≡ w ++ p.1)) same (text, record { contents = element.0; element = record { len = second.0; spelled = second.1; whole = refl }; value = third.1 }, regrouped)

pub value_again : (text : List ℕ) (v : Value) (rest : List ℕ) → Spells text v → value_at (text ++ rest) ≡ Ok (v, rest)
unfolding value_at
value_again text v rest is =
    let e = is.element in
    let regrouped : text ++ rest ≡ octet_of (tag_of v) ∷ (e.len ++ (is.contents ++ rest)) = ap (λ (x : List ℕ). x ++ rest) e.whole ∙ ap (λ (x : List ℕ). octet_of (tag_of v) ∷ x) (append_assoc e.len is.contents rest) in
    ap value_at regrouped ∙ rw (tag_again (tag_of v) (e.len ++ (is.contents ++ rest)), contents_again e.len is.contents rest e.spelled, value_of_again v is.contents is.value) refl

-- a value that is read takes this many octets
pub taken : (bytes : List ℕ) (v : Value) (rest : List ℕ) → IsBytes bytes → value_at bytes ≡ Ok (v, rest) → (length bytes - length rest ≤ length bytes) × Spells (take (length bytes - length rest) bytes) v
taken bytes v rest fits e =
    let t = value_takes bytes v rest fits e in
    let count : length bytes - length rest ≡ length t.0 = omega (arith, ap (λ (x : List ℕ). length x) t.2, length-append t.0 rest) in
    let front : take (length bytes - length rest) bytes ≡ t.0 = ap (λ (k : ℕ). take k bytes) count ∙ ap (λ (x : List ℕ). take (length t.0) x) t.2 ∙ take_at t.0 rest (length t.0) refl in
    (omega arith, subst (λ (x : List ℕ). Spells x v) (sym front) t.1)

pub taken_again : (bytes : List ℕ) (v : Value) (k : ℕ) → k ≤ length bytes → Spells (take k bytes) v → value_at bytes ≡ Ok (v, drop k bytes)
taken_again bytes v k le is = ap value_at (sym (take-append-drop k bytes)) ∙ value_again (take k bytes) v (drop k bytes) is

-- another reading yields an equal value, of as many octets
pub taken_only : (bytes : List ℕ) (u : Value) (rest : List ℕ) → value_at bytes ≡ Ok (u, rest)
    → (v : Value) (k : ℕ) → k ≤ length bytes → Spells (take k bytes) v → Gives {X = Value × ℕ} (λ x. x) (Ok (u, length bytes - length rest)) (Ok (v, k))
taken_only bytes u rest e v k le is =
    let made : Value × List ℕ = (u, rest) in
    let asked : Value × List ℕ = (v, drop k bytes) in
    let same : made ≡ asked = ok_is {E = BerFault} made asked (sym e ∙ taken_again bytes v k le is) in
    let count : k ≡ length bytes - length rest = omega (arith, length-drop k bytes, ap (λ (p : Value × List ℕ). length p.1) same) in
    let value : v ≡ u = sym (ap (λ (p : Value × List ℕ). p.0) same) in
    ap (λ (w : Value). Ok (w, k)) value ∙ ap (λ (n : ℕ). Ok (u, n)) count

-- ---- values of one type

pub integer_at_takes : (bytes : List ℕ) (z : ℤ) (rest : List ℕ) → IsBytes bytes → integer_at bytes ≡ Ok (z, rest) → (text : List ℕ) × Spells text (Integer z) × (bytes ≡ text ++ rest)
unfolding integer_at
integer_at_takes bytes z rest fits e =
    let a = bind_ok (element_at 2 bytes) (λ element. integer_of element.0 >>= λ y. Ok (y, element.1)) (z, rest) e in
    let b = bind_ok (integer_of a.0.0) (λ y. Ok (y, a.0.1)) (z, rest) a.2 in
    let t = element_takes 2 bytes a.0.0 a.0.1 a.1 in
    let is = pair_is b.0 a.0.1 z rest b.2 in
    let whole : bytes ≡ (2 ∷ t.1.len) ++ (a.0.0 ++ a.0.1) = t.2 ∙ ap (λ (x : List ℕ). x ++ a.0.1) t.1.whole ∙ append_assoc (2 ∷ t.1.len) a.0.0 a.0.1 in
    let inside : IsBytes a.0.0 = IsBytes-middle (2 ∷ t.1.len) a.0.0 a.0.1 (subst (λ (x : List ℕ). IsBytes x) whole fits) in
    let value = integer_takes a.0.0 b.0 inside b.1 in
    (t.0, record { contents = a.0.0; element = t.1; value = subst (λ (y : ℤ). IsContents a.0.0 (Integer y)) is.0 value }, t.2 ∙ ap (λ (x : List ℕ). t.0 ++ x) is.1)

pub integer_at_again : (text : List ℕ) (z : ℤ) (rest : List ℕ) → Spells text (Integer z) → integer_at (text ++ rest) ≡ Ok (z, rest)
unfolding integer_at
integer_at_again text z rest is =
    let value = is.value in
    rw (element_again 2 is.contents text rest is.element, integer_again is.contents z value.0 value.1) refl

pub name_at_takes : (bytes : List ℕ) (parts : List ℕ) (rest : List ℕ) → name_at bytes ≡ Ok (parts, rest) → (text : List ℕ) × Spells text (Name parts) × (bytes ≡ text ++ rest)
unfolding name_at
name_at_takes bytes parts rest e =
    let a = bind_ok (element_at 6 bytes) (λ element. name_of element.0 >>= λ y. Ok (y, element.1)) (parts, rest) e in
    let b = bind_ok (name_of a.0.0) (λ y. Ok (y, a.0.1)) (parts, rest) a.2 in
    let t = element_takes 6 bytes a.0.0 a.0.1 a.1 in
    let is = pair_is b.0 a.0.1 parts rest b.2 in
    (t.0, record { contents = a.0.0; element = t.1; value = subst (λ (y : List ℕ). IsContents a.0.0 (Name y)) is.0 (name_takes a.0.0 b.0 b.1) }, t.2 ∙ ap (λ (x : List ℕ). t.0 ++ x) is.1)

pub name_at_again : (text : List ℕ) (parts : List ℕ) (rest : List ℕ) → Spells text (Name parts) → name_at (text ++ rest) ≡ Ok (parts, rest)
unfolding name_at
name_at_again text parts rest is = rw (element_again 6 is.contents text rest is.element, name_again is.contents parts is.value) refl

pub octets_at_takes : (bytes o rest : List ℕ) → element_at 0x04 bytes ≡ Ok (o, rest) → (text : List ℕ) × Spells text (Octets o) × (bytes ≡ text ++ rest)
octets_at_takes bytes o rest e =
    let t = element_takes 4 bytes o rest e in
    (t.0, record { contents = o; element = t.1; value = refl }, t.2)

pub octets_at_again : (text o rest : List ℕ) → Spells text (Octets o) → element_at 0x04 (text ++ rest) ≡ Ok (o, rest)
octets_at_again text o rest is = rw (element_again 4 is.contents text rest is.element) (ap (λ (x : List ℕ). Ok (x, rest)) is.value)

-- ---- octets in what was taken

pub IsBytes-after : (bytes text rest : List ℕ) → IsBytes bytes → bytes ≡ text ++ rest → IsBytes rest
IsBytes-after bytes text rest fits whole i =
    subst (λ (n : ℕ). n < 256) (ap (λ (x : List ℕ). get_or x (length text + i) 0) whole ∙ get_or-append-add text rest i 0) (fits (length text + i))

pub IsBytes-inside : (tag : ℕ) (bytes contents text rest : List ℕ) → IsBytes bytes → bytes ≡ text ++ rest → IsElement tag contents text → IsBytes contents
IsBytes-inside tag bytes contents text rest fits whole is =
    IsBytes-middle (tag ∷ is.len) contents rest (subst (λ (x : List ℕ). IsBytes x) (whole ∙ ap (λ (x : List ℕ). x ++ rest) is.whole ∙ append_assoc (tag ∷ is.len) contents rest) fits)

-- a spelled value has an octet
pub element_some : (tag : ℕ) (contents text : List ℕ) → IsElement tag contents text → 0 < length text
element_some tag contents text is = omega (arith, ap (λ (x : List ℕ). length x) is.whole)

pub one_meaning : (text more : List ℕ) (v w : Value) → Spells text v → Spells (text ++ more) w → (more ≡ []) × (v ≡ w)
one_meaning text more v w is whole =
    let read : value_at (text ++ more) ≡ Ok (v, more) = value_again text v more is in
    let again : value_at (text ++ more) ≡ Ok (w, []) = ap value_at (sym (append-nil (text ++ more))) ∙ value_again (text ++ more) w [] whole in
    let same = pair_is {E = BerFault} v more w [] (sym read ∙ again) in
    (same.1, same.0)
