-- Requests fit into their buffer, and texts stay short.
use native.Mathlib.Omega.{arith}
use Rattle.std.proofs.Common.{◌≡◌, ◌≤◌, ◌<◌, ◌+◌, ap, sym, subst, refl, ℕ, List, [], ◌++◌, length}
use Rattle.std.proofs.lemmas.Fmt.{length-decimal-le}
use Rattle.std.proofs.lemmas.List.{length-append}
use Rattle.std.specs.Prelude.{codes, decimal, Result, Ok, Err, OnErr, IsOk}
use Rattle.mon_http_client.specs.Request.{field_text, head_text, length_field, post_text, request_line, type_field}

-- how long texts are, one after another
joined4 : (a b c d : List ℕ) (i j k l : ℕ) → length a ≤ i → length b ≤ j → length c ≤ k → length d ≤ l
    → length (((a ++ b) ++ c) ++ d) ≤ i + (j + (k + l))
joined4 a b c d i j k l p q r s =
    omega (arith, p, q, r, s, length-append ((a ++ b) ++ c) d, length-append (a ++ b) c, length-append a b)

joined5 : (a b c d e : List ℕ) (i j k l m : ℕ) → length a ≤ i → length b ≤ j → length c ≤ k → length d ≤ l → length e ≤ m
    → length ((((a ++ b) ++ c) ++ d) ++ e) ≤ i + (j + (k + (l + m)))
joined5 a b c d e i j k l m p q r s t =
    let first = joined4 a b c d i j k l p q r s in
    omega (arith, first, t, length-append (((a ++ b) ++ c) ++ d) e)

weaker : (n m k : ℕ) → n ≤ m → m ≤ k → n ≤ k
weaker n m k p q = omega (arith, p, q)

-- a request line
line_fits : (path : List ℕ) → length (request_line (codes "POST") path) ≤ 16 + length path
unfolding request_line
line_fits path = omega (arith, length-append path (codes " HTTP/1.1\r\n"))

-- the fields that each request has
host_fits : (host : List ℕ) → length (field_text (codes "Host") host) ≤ 8 + length host
unfolding field_text
host_fits host = omega (arith, length-append host (codes "\r\n"))

agent_fits : length (field_text (codes "User-Agent") (codes "snmpmon")) ≤ 21
unfolding field_text
agent_fits = omega arith

close_fits : length (field_text (codes "Connection") (codes "close")) ≤ 19
unfolding field_text
close_fits = omega arith

type_fits : length type_field ≤ 32
unfolding type_field field_text
type_fits = omega arith

length_fits : (n : ℕ) → n ≤ 4096 → length (length_field n) ≤ 22
unfolding length_field field_text
length_fits n few = omega (arith, length-append (decimal n) (codes "\r\n"), length-decimal-le 4 n (omega arith) (omega (arith, few)) (omega (arith, few)))

head_fits : (host path : List ℕ) → length (head_text (codes "POST") host path) ≤ 64 + length host + length path
unfolding head_text
head_fits host path =
    weaker (length (head_text (codes "POST") host path)) ((16 + length path) + ((8 + length host) + (21 + 19))) (64 + length host + length path) (joined4 (request_line (codes "POST") path) (field_text (codes "Host") host) (field_text (codes "User-Agent") (codes "snmpmon"))
    (field_text (codes "Connection") (codes "close")) (16 + length path) (8 + length host) 21 19
    (line_fits path) (host_fits host) agent_fits close_fits) (omega arith)

-- a request is no longer than its buffer
pub post_fits : (host path body : List ℕ) → length body ≤ 4096
    → length (post_text host path body) ≤ length host + length path + 4352
unfolding post_text
post_fits host path body short =
    weaker (length (post_text host path body)) ((64 + length host + length path) + (32 + (22 + (2 + 4096)))) (length host + length path + 4352) (joined5 (head_text (codes "POST") host path) type_field (length_field (length body)) (codes "\r\n") body
    (64 + length host + length path) 32 22 2 4096 (head_fits host path) type_fits (length_fits (length body) short) (omega arith) short) (omega arith)

-- a request is made, since its buffer has capacity for it
pub room_for : {E : Type 0} → (host path body h p before : List ℕ) (cap old : ℕ) (r : Result Unit E)
    → h ≡ host → p ≡ path → before ≡ [] → length host + length path + 4352 ≤ cap → cap ≤ old → length body ≤ 4096
    → OnErr r (old < length before + length (post_text h p body)) → IsOk r
room_for host path body h p before cap old (Ok done) same_host same_path none room kept short full = refl
room_for host path body h p before cap old (Err e) same_host same_path none room kept short full =
    let fits : length (post_text h p body) ≤ length host + length path + 4352 =
    subst (λ (t : List ℕ). length (post_text h t body) ≤ length host + length path + 4352) (sym same_path)
    (subst (λ (t : List ℕ). length (post_text t path body) ≤ length host + length path + 4352) (sym same_host) (post_fits host path body short)) in
    let empty : length before ≡ 0 = ap (λ (t : List ℕ). length t) none in
    absurd (omega (arith, full, fits, empty, room, kept))
