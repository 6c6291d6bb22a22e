-- Verdicts of heads.
use native.Mathlib.Omega.{arith}
use Rattle.std.proofs.Common.{◌≡◌, ◌≤◌, ◌<◌, ◌+◌, ◌⊎◌, inl, inr, ◌∙◌, ap, sym, subst, refl, ℕ, Bool, true, false, List, [], ◌∷◌, ◌++◌, Option, Some, None, option_map, Result, Ok, Err, length, map, take, drop, nat_lt, cond}
use Rattle.std.proofs.lemmas.Bool.Decides.{nat_tests}
use Rattle.std.specs.Prelude.{MatchBool, ◌==◌, ◌&&◌}
use Rattle.std.specs.List.{flat_map}
use Rattle.std.proofs.lemmas.List.{append-nil, append_assoc, take_all, length-take}
use Rattle.std.proofs.lemmas.List.Sums.{sum_by-append}
use Rattle.httparse.specs.Grammar.{RequestHead, Field, LineEnd, crlf, lf, print_field, print_end, print_blank, print_version, print_section, print_request, ReadsRequest}
use Rattle.httparse.proofs.GrammarLemmas.{print_request-append, cons-append}
use Rattle.httparse.specs.Spans.{FindsRequest, IsRequestAt, IsRequestOf, span_bytes, header_bytes}
use Rattle.httparse.specs.Outcome.{IsCompleteAnd, IfComplete}
use Rattle.httparse.specs.declared.Error.{Error}
use Rattle.httparse.specs.declared.Status.{Status}
use Rattle.httparse.specs.declared.Status.TheVariants.{Complete, Partial}
use Rattle.httparse.specs.declared.spans.RequestSpans.{RequestSpans}
use Rattle.httparse.specs.declared.spans.HeaderSpan.{HeaderSpan}
use Rattle.mon_http.specs.Whole.{whole_of}
use Rattle.http1.specs.Fields.{known_fields}
use Rattle.http1.specs.declared.fields.KnownFields.{KnownFields}
use Rattle.mon_http.specs.declared.route.Route.{Route}
use Rattle.mon_http.specs.declared.response.Status.TheVariants.{BadRequest, HeaderFieldsTooLarge, Misdirected}
use Rattle.mon_http.specs.declared.request.Verdict.{Verdict}
use Rattle.mon_http.specs.Front.{head_length, line_count}
use Rattle.mon_http.specs.Request.{directed, judged, long_status, method_status, routed, served, is_served, has_good_fields, stays_open, refusal, verdict_of, bad_status, most_lines, IsGood, IsBad, IsVerdict, IsJudged}
use Rattle.mon_http.specs.Host.{has_good_hosts, host_field, host_of, is_served_host}
use Rattle.mon_http.specs.Accept.{accepts_open_metrics}
use Rattle.mon_http.specs.Route.{by_format, path_of, route_at}
use Rattle.mon_http.specs.Conversation.{len_of}
use Rattle.mon_http.proofs.Fronts.{drop_all}

-- each line ends in one LF
pub lines_end : (e : LineEnd) → line_count (print_end e) ≡ 1
lines_end crlf = refl
lines_end lf = refl

pub lines_append : (a b : List ℕ) → line_count (a ++ b) ≡ line_count a + line_count b
lines_append a b = sum_by-append _ a b

pub lines_field : (f : Field) → 1 ≤ line_count (print_field f)
lines_field f =
    let whole : line_count ((f.name ++ 58 ∷ f.raw) ++ print_end f.end) ≡ line_count (f.name ++ 58 ∷ f.raw) + line_count (print_end f.end) =
    lines_append (f.name ++ 58 ∷ f.raw) (print_end f.end) in
    let one : line_count (print_end f.end) ≡ 1 = lines_end f.end in
    omega arith

pub lines_fields : (fields : List Field) → length fields ≤ line_count (flat_map print_field fields)
lines_fields [] = omega arith
lines_fields (f ∷ fields) =
    let whole : line_count (print_field f ++ flat_map print_field fields) ≡ line_count (print_field f) + line_count (flat_map print_field fields) =
    lines_append (print_field f) (flat_map print_field fields) in
    let first : 1 ≤ line_count (print_field f) = lines_field f in
    let rest : length fields ≤ line_count (flat_map print_field fields) = lines_fields fields in
    omega arith

pub lines_section : (fields : List Field) (last : LineEnd) → length fields + 1 ≤ line_count (print_section fields last)
lines_section fields last =
    let whole : line_count (print_section fields last) ≡ line_count (flat_map print_field fields) + line_count (print_end last) = lines_append (flat_map print_field fields) (print_end last) in
    let first : length fields ≤ line_count (flat_map print_field fields) = lines_fields fields in
    let one : line_count (print_end last) ≡ 1 = lines_end last in
    omega arith

-- a request has a line for each field, its request line and an empty line
pub lines_request : (h : RequestHead) → length h.fields + 2 ≤ line_count (print_request h)
lines_request h =
    let e = h.line_end in
    let s = print_section h.fields h.last in
    let front = print_blank h.blank ++ (h.method ++ 32 ∷ (h.target ++ 32 ∷ print_version h.minor)) in
    let split : print_request h ≡ front ++ (print_end e ++ s) =
    sym (append-nil (print_request h)) ∙ print_request-append h []
    ∙ regroup (print_blank h.blank) h.method h.target (print_version h.minor) (print_end e) s in
    let whole : line_count (print_request h) ≡ line_count front + line_count (print_end e ++ s) = ap line_count split ∙ lines_append front (print_end e ++ s) in
    let rest : line_count (print_end e ++ s) ≡ line_count (print_end e) + line_count s = lines_append (print_end e) s in
    let one : line_count (print_end e) ≡ 1 = lines_end e in
    let section : length h.fields + 1 ≤ line_count s = lines_section h.fields h.last in
    omega arith
  where
    regroup : (a b c d e f : List ℕ) → a ++ (b ++ 32 ∷ (c ++ 32 ∷ (d ++ (e ++ (f ++ []))))) ≡ (a ++ (b ++ 32 ∷ (c ++ 32 ∷ d))) ++ (e ++ f)
    regroup a b c d e f = simp (append_assoc, cons-append, append-nil)

module _ (names : List (List ℕ)) where
  -- a head that the grammar could only read with more fields than its lines allow is bad
  pub bad_verdict : (head : List ℕ) (v : Verdict) → line_count head ≤ 34
      → ((h : RequestHead) → ReadsRequest head h [] → 32 < length h.fields)
      → v ≡ refusal (bad_status head) false (length head) → IsVerdict names head v
  unfolding IsVerdict
  bad_verdict head v few many e =
      let test : nat_lt most_lines (line_count head) ≡ false = grind (arith, nat_tests) in
      let no : (h : RequestHead) → ReadsRequest head h [] → ⊥ = λ h x.
      (let same : line_count head ≡ line_count (print_request h) = ap line_count (x.1 ∙ append-nil (print_request h)) in
      let lines : length h.fields + 2 ≤ line_count (print_request h) = lines_request h in
      let over : 32 < length h.fields = many h x in
      omega arith) in
      let P : Bool → Type 0 = λ b. MatchBool b (v ≡ refusal HeaderFieldsTooLarge false (length head)) (IsGood names head v ⊎ IsBad head v) in
      subst P (sym test) (inr (no, e))

  -- a head that the grammar reads
  pub good_verdict : (head : List ℕ) (v : Verdict) (h : RequestHead) → line_count head ≤ 34 → ReadsRequest head h []
      → v ≡ verdict_of names h (length head) → IsVerdict names head v
  unfolding IsVerdict
  good_verdict head v h few x e =
      let test : nat_lt most_lines (line_count head) ≡ false = grind (arith, nat_tests) in
      let P : Bool → Type 0 = λ b. MatchBool b (v ≡ refusal HeaderFieldsTooLarge false (length head)) (IsGood names head v ⊎ IsBad head v) in
      subst P (sym test) (inl (h, x, e))

  pub large_verdict : (head : List ℕ) (v : Verdict) → 34 < line_count head
      → v ≡ refusal HeaderFieldsTooLarge false (length head) → IsVerdict names head v
  unfolding IsVerdict
  large_verdict head v many e =
      let test : nat_lt most_lines (line_count head) ≡ true = grind (arith, nat_tests) in
      let P : Bool → Type 0 = λ b. MatchBool b (v ≡ refusal HeaderFieldsTooLarge false (length head)) (IsGood names head v ⊎ IsBad head v) in
      subst P (sym test) e

  -- the length of what was judged is that of its head
  pub len_routed : (method : List ℕ) (keep_alive : Bool) (len : ℕ) (route : Option Route) → len_of (routed method keep_alive len route) ≡ len
  len_routed method keep_alive len None = refl
  len_routed method keep_alive len (Some route) = refl

  pub len_served : (method target : List ℕ) (om keep_alive : Bool) (len : ℕ) → len_of (served method target om keep_alive len) ≡ len
  len_served method target om keep_alive len = at (is_served method)
    where
      route : Option Route
      route = option_map (by_format om) (route_at (path_of target))

      at : (b : Bool) → len_of (cond b (routed method keep_alive len route) (refusal (method_status method) keep_alive len)) ≡ len
      at true = len_routed method keep_alive len route
      at false = refl

  pub len_directed : (host method target : List ℕ) (om keep_alive : Bool) (len : ℕ) → len_of (directed names host method target om keep_alive len) ≡ len
  len_directed host method target om keep_alive len = at (is_served_host names host)
    where
      at : (b : Bool) → len_of (cond b (served method target om keep_alive len) (refusal Misdirected keep_alive len)) ≡ len
      at true = len_served method target om keep_alive len
      at false = refl

  pub len_judged : (method target : List ℕ) (minor : ℕ) (known : KnownFields) (field : List ℕ) (om : Bool) (len : ℕ)
      → len_of (judged names method target minor known field om len) ≡ len
  unfolding judged
  len_judged method target minor known field om len = at (has_good_fields minor known && has_good_hosts target field)
    where
      at : (b : Bool) → len_of (cond b (directed names (host_of target field) method target om (stays_open minor known) len) (refusal BadRequest false len)) ≡ len
      at true = len_directed (host_of target field) method target om (stays_open minor known) len
      at false = refl

  pub verdict_len : (head : List ℕ) (v : Verdict) → IsVerdict names head v → len_of v ≡ length head
  unfolding IsVerdict
  verdict_len head v x = at (nat_lt most_lines (line_count head)) x
    where
      at : (b : Bool) → MatchBool b (v ≡ refusal HeaderFieldsTooLarge false (length head)) (IsGood names head v ⊎ IsBad head v) → len_of v ≡ length head
      at true e = ap len_of e
      at false (inl (h, y, e)) = ap len_of e ∙ len_judged _ _ _ _ _ _ (length head)
      at false (inr (bad, e)) = ap len_of e

  pub judged_len : (octets : List ℕ) (v : Verdict) → IsJudged names octets v → len_of v ≤ length octets
  unfolding IsJudged
  judged_len octets v (inl (n, e, x)) =
      let len : len_of v ≡ length (take n octets) = verdict_len (take n octets) v x in
      omega (arith, length-take n octets)
  judged_len octets v (inr (long, e)) = let none : len_of v ≡ 0 = ap len_of e in omega arith

  -- at most 8192 octets
  pub judged_found : (octets : List ℕ) (n : ℕ) (v : Verdict) → length octets ≤ 8192 → head_length false octets ≡ Some n
      → IsVerdict names (take n octets) v → IsJudged names octets v
  unfolding IsJudged
  judged_found octets n v short e x = inl (n, ap (head_length false) (take_all 8192 octets short) ∙ e, x)

  pub judged_long : (octets : List ℕ) (v : Verdict) → length octets ≤ 8192 → 8192 ≤ length octets → head_length false octets ≡ None
      → v ≡ refusal (long_status octets) false 0 → IsJudged names octets v
  unfolding IsJudged
  judged_long octets v short long e same = inr (
    (ap (head_length false) (take_all 8192 octets short) ∙ e, long),
    same ∙ ap (λ (s : List ℕ). refusal (long_status s) false 0) (sym (take_all 8192 octets short)),
  )

  -- a head that was not read whole in 32 fields is none of the grammar with at most 32
  pub not_whole : (head : List ℕ) (headers : List HeaderSpan) (r : Result (Status RequestSpans) Error) → FindsRequest head 32 headers r
      → whole_of r (length head) ≡ None → (h : RequestHead) → ReadsRequest head h [] → 32 < length h.fields
  not_whole head headers r found none h x =
      elim (cases_le (length h.fields) 32) as (λ _. 32 < length h.fields) [ inl few ↦ absurd (never r (found h [] x few) none) | inr many ↦ many ]
    where
      cases_le : (a b : ℕ) → (a ≤ b) ⊎ (b < a)
      cases_le a b = grind arith

      never : (r : Result (Status RequestSpans) Error) → IsCompleteAnd r (λ spans. IsRequestAt head headers spans h) → whole_of r (length head) ≡ None → ⊥
      never (Ok (Complete spans)) at e =
          let len : spans.len ≡ length head = at.len ∙ ap length (sym (append-nil (print_request h)) ∙ sym x.1) in
          let test : (spans.len == length head) ≡ true = grind (arith, nat_tests) in
          let some : Some spans ≡ None = ap (λ (b : Bool). cond b (Some spans) None) (sym test) ∙ e in
          cc
      never (Ok Partial) at e = at
      never (Err fault) at e = at

  -- a head that was read whole
  pub whole_len : (r : Result (Status RequestSpans) Error) (len : ℕ) (spans : RequestSpans) → whole_of r len ≡ Some spans
      → (r ≡ Ok (Complete spans)) × (spans.len ≡ len)
  whole_len (Ok (Complete found)) len spans e = at (found.len == len) refl e
    where
      at : (b : Bool) → (found.len == len) ≡ b → cond b (Some found) None ≡ Some spans → (◌≡◌ {A = Result (Status RequestSpans) Error} (Ok (Complete found)) (Ok (Complete spans))) × (spans.len ≡ len)
      at true t e = let same : found ≡ spans = cc in (ap (λ (s : RequestSpans). Ok (Complete s)) same, ap (λ (s : RequestSpans). s.len) (sym same) ∙ grind (arith, nat_tests))
      at false t e = cc
  whole_len (Ok Partial) len spans e = cc
  whole_len (Err fault) len spans e = cc

  -- the verdict from the parts of a head that was read whole
  pub read_verdict : (head : List ℕ) (headers : List HeaderSpan) (r : Result (Status RequestSpans) Error) (spans : RequestSpans) (v : Verdict)
      → line_count head ≤ 34 → whole_of r (length head) ≡ Some spans → IfComplete r (IsRequestOf head headers)
      → v ≡ judged names (span_bytes head spans.method) (span_bytes head spans.path) spans.version
      (known_fields (map (header_bytes head) (take spans.headers headers))) (host_field (map (header_bytes head) (take spans.headers headers)))
      (accepts_open_metrics (map (header_bytes head) (take spans.headers headers))) (length head)
      → IsVerdict names head v
  read_verdict head headers r spans v few e complete same =
      let (is, len) = whole_len r (length head) spans e in
      let read : IsRequestOf head headers spans = subst (λ (s : Result (Status RequestSpans) Error). IfComplete s (IsRequestOf head headers)) is complete in
      let h = read.0 in
      let at = read.1 in
      let n = length head in
      let whole : drop spans.len head ≡ [] = ap (λ (k : ℕ). drop k head) len ∙ drop_all head in
      let reads : ReadsRequest head h [] = subst (λ (rest : List ℕ). ReadsRequest head h rest) whole at.reads in
      let fields = map (header_bytes head) (take spans.headers headers) in
      good_verdict head v h few reads
      (same
      ∙ ap (λ (m : List ℕ). judged names m (span_bytes head spans.path) spans.version (known_fields fields) (host_field fields) (accepts_open_metrics fields) n) at.method
      ∙ ap (λ (t : List ℕ). judged names h.method t spans.version (known_fields fields) (host_field fields) (accepts_open_metrics fields) n) at.path
      ∙ ap (λ (k : ℕ). judged names h.method h.target k (known_fields fields) (host_field fields) (accepts_open_metrics fields) n) at.version
      ∙ ap (λ (f : List (List ℕ × List ℕ)). judged names h.method h.target h.minor (known_fields f) (host_field f) (accepts_open_metrics f) n) at.fields)
