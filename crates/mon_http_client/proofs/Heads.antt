-- What heads are, and what octets come to.
use native.Mathlib.Omega.{arith}
use Rattle.std.proofs.Common.{◌≡◌, ◌≤◌, ◌<◌, ◌⊎◌, inl, inr, ◌∙◌, ap, sym, subst, refl, ℕ, Bool, true, false, List, [], Option, Some, None, Result, Ok, Err, length, take, drop, map, ◌==◌, nat_lt, cond}
use Rattle.std.proofs.lemmas.Bool.Decides.{nat_tests}
use Rattle.std.proofs.lemmas.List.{append-nil, length-map, length-take}
use Rattle.httparse.specs.Grammar.{ResponseHead, print_response, ReadsResponse, status_code}
use Rattle.httparse.proofs.GrammarLemmas.{response_unique}
use Rattle.httparse.specs.Spans.{header_bytes, name_and_value, FindsResponse, IsResponseAt, IsResponseOf, IsResponseWithin}
use Rattle.httparse.specs.Outcome.{IsCompleteAnd, IfComplete}
use Rattle.httparse.specs.declared.Error.{Error}
use Rattle.httparse.specs.declared.Status.{Status}
use Rattle.httparse.specs.declared.Status.TheVariants.{Complete, Partial}
use Rattle.httparse.specs.declared.spans.ResponseSpans.{ResponseSpans}
use Rattle.httparse.specs.declared.spans.HeaderSpan.{HeaderSpan}
use Rattle.mon_http_client.specs.declared.response.Head.TheVariants.{Interim, Final, Bad}
use Rattle.mon_http_client.specs.Response.{HasStatus, IsBad, IsHead, head_of, whole_of}
use Rattle.mon_http_client.proofs.Fronts.{drop_all}

-- a head has at most one status
pub one_status : (head : List ℕ) (s t : ℕ) → HasStatus head s → HasStatus head t → s ≡ t
one_status head s t (h, x, few, e) (k, y, less, f) =
    e ∙ ap status_code (response_unique head h k [] [] x y).0 ∙ sym f

-- the first `count` of some headers are as many as the fields
fields_count : (head : List ℕ) (headers : List HeaderSpan) (spans : ResponseSpans) (h : ResponseHead)
    → IsResponseAt head headers spans h → IsResponseWithin head headers spans → length headers ≤ 32 → length h.fields ≤ 32
fields_count head headers spans h at within few =
    let same : length (map (header_bytes head) (take spans.headers headers)) ≡ length (map name_and_value h.fields) =
    ap (λ (f : List (List ℕ × List ℕ)). length f) at.fields in
    let fits : spans.headers ≤ length headers = within.section.count_fits in
    let left = length-map (take spans.headers headers) (header_bytes head) in
    let right = length-map h.fields name_and_value in
    omega (arith, left, right, length-take spans.headers headers)

-- what is read of a head that has a status
found_whole : (head : List ℕ) (headers : List HeaderSpan) (h : ResponseHead) (r : Result (Status ResponseSpans) Error)
    → ReadsResponse head h [] → IsCompleteAnd r (λ spans. IsResponseAt head headers spans h)
    → whole_of r (length head) ≡ Some (status_code h)
found_whole head headers h (Ok (Complete spans)) x at =
    let len : spans.len ≡ length head = at.len ∙ ap length (sym (append-nil (print_response h)) ∙ sym x.1) in
    let test : (spans.len == length head) ≡ true = grind (arith, nat_tests) in
    ap (λ (b : Bool). cond b (Some spans.code) None) test ∙ ap (λ (c : ℕ). Some c) at.code
found_whole head headers h (Ok Partial) x at = absurd at
found_whole head headers h (Err fault) x at = absurd at

-- what is read of a head is its status
pub reads_status : (head : List ℕ) (headers : List HeaderSpan) (r : Result (Status ResponseSpans) Error)
    → FindsResponse head 32 headers r → (status : ℕ) → HasStatus head status → whole_of r (length head) ≡ Some status
reads_status head headers r found status (h, x, few, e) =
    found_whole head headers h r x (found h [] x few) ∙ ap (λ (s : ℕ). Some s) (sym e)

-- a status that was read is the head's
pub status_read : (head : List ℕ) (headers : List HeaderSpan) (r : Result (Status ResponseSpans) Error) (status : ℕ)
    → IfComplete r (IsResponseOf head headers) → IfComplete r (IsResponseWithin head headers) → length headers ≤ 32
    → whole_of r (length head) ≡ Some status → HasStatus head status
status_read head headers (Ok (Complete spans)) status (h, at) within few e = found (spans.len == length head) refl e
  where
    found : (b : Bool) → (spans.len == length head) ≡ b → cond b (Some spans.code) None ≡ Some status → HasStatus head status
    found true t f =
        let len : spans.len ≡ length head = grind (arith, nat_tests) in
        let whole : drop spans.len head ≡ [] = ap (λ (k : ℕ). drop k head) len ∙ drop_all head in
        let same : spans.code ≡ status = cc in (
          h,
          subst (λ (rest : List ℕ). ReadsResponse head h rest) whole at.reads,
          fields_count head headers spans h at within few,
          sym same ∙ at.code,
        )
    found false t f = cc
status_read head headers (Ok Partial) status complete within few e = cc
status_read head headers (Err fault) status complete within few e = cc

-- a head is what its status says
judged : (head : List ℕ) (status : Option ℕ) → ((s : ℕ) → HasStatus head s → status ≡ Some s)
    → ((s : ℕ) → status ≡ Some s → HasStatus head s) → IsHead head (head_of status)
judged head None all one = λ s has. (let none : None ≡ Some s = all s has in cc)
judged head (Some status) all one = low (nat_lt status 100) refl
  where
    has : HasStatus head status
    has = one status refl

    bad : (status < 100) ⊎ (599 < status) → IsBad head
    bad out s other = subst (λ (k : ℕ). (k < 100) ⊎ (599 < k)) (one_status head status s has other) out

    high : (c : Bool) → nat_lt 599 status ≡ c → 200 ≤ status → IsHead head (cond c Bad (Final status))
    high true e much = bad (inr (grind (arith, nat_tests)))
    high false e much = (has, much, grind (arith, nat_tests))

    middle : (c : Bool) → nat_lt status 200 ≡ c → 100 ≤ status
        → IsHead head (cond c Interim (cond (nat_lt 599 status) Bad (Final status)))
    middle true e some = (status, has, some, grind (arith, nat_tests))
    middle false e some = high (nat_lt 599 status) refl (grind (arith, nat_tests))

    low : (c : Bool) → nat_lt status 100 ≡ c
        → IsHead head (cond c Bad (cond (nat_lt status 200) Interim (cond (nat_lt 599 status) Bad (Final status))))
    low true e = bad (inl (grind (arith, nat_tests)))
    low false e = middle (nat_lt status 200) refl (grind (arith, nat_tests))

-- so is one that was parsed
pub parsed : (head : List ℕ) (headers : List HeaderSpan) (r : Result (Status ResponseSpans) Error)
    → FindsResponse head 32 headers r → IfComplete r (IsResponseOf head headers)
    → IfComplete r (IsResponseWithin head headers) → length headers ≤ 32
    → IsHead head (head_of (whole_of r (length head)))
parsed head headers r found complete within few =
    judged head (whole_of r (length head)) (reads_status head headers r found)
    (λ s e. status_read head headers r s complete within few e)
