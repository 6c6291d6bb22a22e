-- Targets: the texts of addresses are UTF-8, and where a path goes on.
use native.Mathlib.Omega.{arith}
use Rattle.std.proofs.Common.{◌≡◌, ◌↔◌, ◌<◌, sym, subst, refl, ℕ, List, [], Option, Some, None}
use Rattle.std.specs.Prelude.{codes, decimal}
use Rattle.std.specs.Str.{IsAscii, IsUtf8}
use Rattle.std.specs.Net.Grammar.{IsDotted, IsPortText}
use Rattle.std.proofs.lemmas.Fmt.{IsAscii-decimal, IsAscii-from_digits}
use Rattle.std.proofs.lemmas.Str.{IsAscii-append, IsUtf8-from_ascii}
use Rattle.std.proofs.lemmas.Str.Ascii.{IsAscii-cons, IsAscii-nil}
use Rattle.mon_udp.specs.declared.addr.Addr.{Addr}
use Rattle.mon_udp.specs.Addr.{addr_of, IsAddrText}

number_ascii : (n : ℕ) → n < 256 → IsAscii (decimal n)
number_ascii n low = IsAscii-decimal n (omega arith)

dot_ascii : IsAscii (codes ".")
dot_ascii = IsAscii-cons 46 [] (omega arith) IsAscii-nil

dotted_ascii : (text octets : List ℕ) → IsDotted text octets → IsAscii text
dotted_ascii text octets d =
    let (a, b, c, e) = d.fit in
    subst IsAscii (sym d.spelled)
    (IsAscii-append _ _ (IsAscii-append _ _ (IsAscii-append _ _ (IsAscii-append _ _ (IsAscii-append _ _ (IsAscii-append _ _
    (number_ascii d.a a) dot_ascii) (number_ascii d.b b)) dot_ascii) (number_ascii d.c c)) dot_ascii) (number_ascii d.d e))

port_ascii : (text : List ℕ) (port : ℕ) → IsPortText text port → IsAscii text
port_ascii text port (digits, spelled, number, low) =
    subst IsAscii (sym spelled) (IsAscii-cons 58 digits (omega arith) (IsAscii-from_digits digits number.0.1))

addr_utf8 : (text : List ℕ) (a : Addr) → IsAddrText text a → IsUtf8 text
addr_utf8 text a (ip, port, spelled, dotted, number) =
    IsUtf8-from_ascii text (subst IsAscii (sym spelled)
    (IsAscii-append ip port (dotted_ascii ip a.octets dotted) (port_ascii port a.port number)))

-- octets that are no text are no address
pub no_address : ((text : List ℕ) (a : Addr) → (addr_of text ≡ Some a) ↔ IsAddrText text a) → (text : List ℕ)
    → (IsUtf8 text → ⊥) → None ≡ addr_of text
no_address texts text wrong = at (addr_of text) refl
  where
    at : (o : Option Addr) → addr_of text ≡ o → None ≡ o
    at None e = refl
    at (Some a) e = absurd (wrong (addr_utf8 text a ((texts text a).0 e)))
