-- A text means one value at most.
use Rattle.std.proofs.Common.{◌≡◌, inl, inr, ℕ, ◌≤◌, ◌<◌, ℤ, pos, neg_ℤ, List, [], ◌∷◌, ◌++◌, None, Some, codes, sym, ap, subst, ◌∙◌, drop, arith}
use Rattle.std.specs.Net.Grammar.{IsDotted, IsNumber}
use Rattle.std.specs.Net.Reader.{Read}
use Rattle.std.specs.Str.Parse.{IsNumeral}
use Rattle.std.proofs.NetLemmas.Ipv4.{read_ipv4_complete}
use Rattle.mon_oid.specs.Oid.{AreNumbers, dotted}
use Rattle.mon_ber.specs.declared.value.Value.{Value}
use Rattle.mon_ber.specs.declared.value.Value.TheVariants as values
use Rattle.mon_client.specs.declared.value.ValueKind.{ValueKind}
use Rattle.mon_client.specs.declared.value.ValueKind.TheVariants as kinds
use Rattle.mon_client.specs.Meaning.{IsHex, IsDottedName, IsSigned, MeansValue}

one_number : (text : List ℕ) (m n : ℕ) → IsNumber 10 text m → IsNumber 10 text n → m ≡ n
one_number text m n a b = sym a.1 ∙ b.1

-- a text that begins with a minus is no number without a sign
no_minus : (text digits : List ℕ) → text ≡ codes "-" ++ digits → IsNumeral 10 text → ⊥
no_minus text digits is numeral =
    let minus : IsNumeral 10 (45 ∷ digits) = subst (λ t. IsNumeral 10 t) is numeral in
    let small : 36 < 10 = minus.1.0 in
    omega arith

one_signed : (text : List ℕ) (y z : ℤ) → IsSigned text y → IsSigned text z → y ≡ z
one_signed text y z (inl (m, a, is)) (inl (n, b, js)) = is ∙ ap pos (one_number text m n a b) ∙ sym js
one_signed text y z (inl (m, a, is)) (inr (es, n, f, b, js)) = absurd (no_minus text es f a.0)
one_signed text y z (inr (ds, m, e, a, is)) (inl (n, b, js)) = absurd (no_minus text ds e b.0)
one_signed text y z (inr (ds, m, e, a, is)) (inr (es, n, f, b, js)) =
    let same : es ≡ ds = ap (drop 1) (sym f ∙ e) in
    let equal : m ≡ n = one_number ds m n a (subst (λ d. IsNumber 10 d n) same b) in
    is ∙ ap (λ k. neg_ℤ (pos k)) equal ∙ sym js

one_hex : (text a b : List ℕ) → IsHex text a → IsHex text b → a ≡ b
one_hex text a b left right = cc

abbrev front : Read (List ℕ) → List ℕ
front None = []
front (Some read) = read.0

one_address : (text a b : List ℕ) → IsDotted text a → IsDotted text b → a ≡ b
one_address text a b left right =
    let stops : 10 ≤ 36 = omega arith in
    ap front (sym (read_ipv4_complete text a [] left stops) ∙ read_ipv4_complete text b [] right stops)

module _ (one_reading : (a b : List ℕ) → AreNumbers a → AreNumbers b → dotted a ≡ dotted b → a ≡ b) where
  one_name : (text a b : List ℕ) → IsDottedName text a → IsDottedName text b → a ≡ b
  one_name text a b left right = one_reading a b left.1.numbers right.1.numbers (sym left.1.is ∙ right.1.is)

  pub one_value : (kind : ValueKind) (text : List ℕ) (a b : Value) → MeansValue kind text a → MeansValue kind text b → a ≡ b
  one_value kinds.Integer text a b (x, p, is) (y, q, js) = is ∙ ap values.Integer (one_signed text x y p.0 q.0) ∙ sym js
  one_value kinds.String text a b is js = is ∙ sym js
  one_value kinds.Hex text a b (x, p, is) (y, q, js) = is ∙ ap values.Octets (one_hex text x y p q) ∙ sym js
  one_value kinds.Oid text a b (x, p, is) (y, q, js) = is ∙ ap values.Name (one_name text x y p q) ∙ sym js
  one_value kinds.Ip text a b (x, p, is) (y, q, js) = is ∙ ap values.IpAddress (one_address text x y p q) ∙ sym js
  one_value kinds.Counter32 text a b (x, p, is) (y, q, js) = is ∙ ap values.Counter32 (one_number text x y p.0 q.0) ∙ sym js
  one_value kinds.Gauge32 text a b (x, p, is) (y, q, js) = is ∙ ap values.Gauge32 (one_number text x y p.0 q.0) ∙ sym js
  one_value kinds.TimeTicks text a b (x, p, is) (y, q, js) = is ∙ ap values.TimeTicks (one_number text x y p.0 q.0) ∙ sym js
  one_value kinds.Counter64 text a b (x, p, is) (y, q, js) = is ∙ ap values.Counter64 (one_number text x y p.0 q.0) ∙ sym js
