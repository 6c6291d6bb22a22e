-- A request of the grammar ends where its head ends, and has as many lines as it has fields, and
-- two.
use native.Mathlib.Omega.{arith}
use Rattle.std.proofs.Common.{◌≡◌, ◌≤◌, ◌<◌, ◌+◌, inl, ◌∙◌, ap, sym, subst, refl, ℕ, zero, suc, Bool, true, false, ◌&&◌, ◌||◌, ◌==◌, List, [], ◌∷◌, ◌++◌, Option, Some, option_map, length, take, cond, take_all, take_at}
use Rattle.std.proofs.lemmas.Bool.Decides.{nat_tests}
use Rattle.std.specs.Prelude.{All}
use Rattle.std.specs.List.{flat_map, list_all}
use Rattle.std.proofs.lemmas.List.{append-nil, append_assoc}
use Rattle.std.proofs.lemmas.List.Elements.{All-head, All-tail, All-cons, All-nil}
use Rattle.httparse.specs.Grammar.{RequestHead, IsRequestHead, Field, IsField, LineEnd, crlf, lf, AllPass, is_token_byte, is_uri_byte, is_value_byte, print_field, print_end, print_blank, print_version, print_section, print_request, ReadsRequest}
use Rattle.httparse.proofs.GrammarLemmas.{print_request-append, cons-append}
use Rattle.mon_http.specs.Front.{head_length, blank_after, line_count}
use Rattle.mon_http.specs.Request.{verdict_of, most_octets, IsVerdict, IsJudged}
use Rattle.mon_http.proofs.Fronts.{head_at}
use Rattle.mon_http.proofs.Verdicts.{good_verdict, lines_append}
use Rattle.mon_http.proofs.Talks.{head_found}

-- the text is a head, from a line that has no octet but CR so far if `blank`, and has that number
-- of lines
abbrev Ends : Bool → List ℕ → ℕ → Type 0
Ends blank text lines = (head_length blank text ≡ Some (length text)) × (line_count text ≡ lines)

-- a test that LF fails
not_lf : (test : ℕ → Bool) (stop b : ℕ) → test stop ≡ false → test b ≡ true → (b == stop) ≡ false
not_lf test stop b fails passes = at (b == stop) refl
  where
    at : (c : Bool) → (b == stop) ≡ c → c ≡ false
    at false e = refl
    at true e =
        let same : b ≡ stop = grind (arith, nat_tests) in
        let both : true ≡ false = sym passes ∙ ap test same ∙ fails in cc

-- one octet within a line
one_more : (b : ℕ) (rest : List ℕ) (lines : ℕ) → (b == 10) ≡ false → Ends false rest lines → Ends false (b ∷ rest) lines
one_more b rest lines other (e, n) =
    let test : ((b == 10) && false) ≡ false = ap (λ (c : Bool). c && false) other in
    let blank : blank_after false b ≡ false = ap (λ (c : Bool). c || false) other in (
      head_at false b rest test ∙ ap (λ (c : Bool). option_map (λ k. k + 1) (head_length c rest)) blank
          ∙ ap (option_map (λ k. k + 1)) e ∙ ap (λ (k : ℕ). Some k) (omega arith),
      count,
    )
  where
    count : line_count (b ∷ rest) ≡ lines
    count =
        let one : line_count (b ∷ []) ≡ 0 = ap (λ (c : Bool). 0 + cond c 1 0) other in
        lines_append (b ∷ []) rest ∙ omega (arith, one, n)

-- octets within a line
more : (test : ℕ → Bool) → test 10 ≡ false → (line rest : List ℕ) (lines : ℕ) → AllPass test line → Ends false rest lines → Ends false (line ++ rest) lines
more test fails [] rest lines all ends = ends
more test fails (b ∷ line) rest lines all ends =
    one_more b (line ++ rest) lines (not_lf test 10 b fails (All-head (λ c. test c ≡ true) b line all))
    (more test fails line rest lines (All-tail (λ c. test c ≡ true) b line all) ends)

-- a line that begins with neither CR nor LF is not empty
begins : (b : ℕ) (rest : List ℕ) (lines : ℕ) → (b == 10) ≡ false → (b == 13) ≡ false → Ends false (b ∷ rest) lines → Ends true (b ∷ rest) lines
begins b rest lines other plain (e, n) =
    let test : (c : Bool) → ((b == 10) && c) ≡ false = λ c. ap (λ (d : Bool). d && c) other in
    let first : blank_after true b ≡ false = ap (λ (d : Bool). d || (b == 13)) other ∙ plain in
    let second : blank_after false b ≡ false = ap (λ (c : Bool). c || false) other in (
      head_at true b rest (test true) ∙ ap (λ (c : Bool). option_map (λ k. k + 1) (head_length c rest)) (first ∙ sym second)
          ∙ sym (head_at false b rest (test false)) ∙ e,
      n,
    )

-- the end of a line that is not empty
line_over : (end : LineEnd) (rest : List ℕ) (lines : ℕ) → Ends true rest lines → Ends false (print_end end ++ rest) (lines + 1)
line_over crlf rest lines (e, n) = (
  ap (λ (o : Option ℕ). option_map (λ k. k + 1) (option_map (λ k. k + 1) o)) e ∙ ap (λ (k : ℕ). Some k) (omega arith),
  lines_append (print_end crlf) rest ∙ omega (arith, n),
)
line_over lf rest lines (e, n) = (
  ap (λ (o : Option ℕ). option_map (λ k. k + 1) o) e ∙ ap (λ (k : ℕ). Some k) (omega arith),
  lines_append (print_end lf) rest ∙ omega (arith, n),
)

-- the empty line
last_line : (end : LineEnd) → Ends true (print_end end) 1
last_line crlf = (refl, refl)
last_line lf = (refl, refl)

token_fails : is_token_byte 10 ≡ false
unfolding is_token_byte
token_fails = refl

token_fails_cr : is_token_byte 13 ≡ false
unfolding is_token_byte
token_fails_cr = refl

-- a field line
field_line : (f : Field) (rest : List ℕ) (lines : ℕ) → IsField f → Ends true rest lines → Ends true (print_field f ++ rest) (lines + 1)
field_line f rest lines good ends =
    subst (λ (s : List ℕ). Ends true s (lines + 1)) (sym regroup) (named f.name good.name.0 good.name.1)
  where
    value : Ends false ((58 ∷ f.raw) ++ (print_end f.end ++ rest)) (lines + 1)
    value = more is_value_byte refl (58 ∷ f.raw) (print_end f.end ++ rest) (lines + 1)
        (All-cons (λ c. is_value_byte c ≡ true) 58 f.raw refl good.raw) (line_over f.end rest lines ends)

    named : (name : List ℕ) → 0 < length name → AllPass is_token_byte name → Ends true (name ++ ((58 ∷ f.raw) ++ (print_end f.end ++ rest))) (lines + 1)
    named [] some all = absurd (omega arith)
    named (b ∷ name) some all =
        let passes = All-head (λ c. is_token_byte c ≡ true) b name all in
        begins b (name ++ ((58 ∷ f.raw) ++ (print_end f.end ++ rest))) (lines + 1)
        (not_lf is_token_byte 10 b token_fails passes) (not_lf is_token_byte 13 b token_fails_cr passes)
        (more is_token_byte token_fails (b ∷ name) ((58 ∷ f.raw) ++ (print_end f.end ++ rest)) (lines + 1) all value)

    regroup : print_field f ++ rest ≡ f.name ++ ((58 ∷ f.raw) ++ (print_end f.end ++ rest))
    regroup = simp (append_assoc, cons-append)

-- the field lines and the empty line
section : (fields : List Field) (last : LineEnd) → All IsField fields → Ends true (print_section fields last) (length fields + 1)
section [] last good = last_line last
section (f ∷ fields) last good =
    let rest = section fields last (All-tail IsField f fields good) in
    let one = field_line f (print_section fields last) (length fields + 1) (All-head IsField f fields good) rest in
    subst (λ (n : ℕ). Ends true (print_section (f ∷ fields) last) n) (omega arith)
    (subst (λ (s : List ℕ). Ends true s (length fields + 1 + 1)) (sym (append_assoc (print_field f) (flat_map print_field fields) (print_end last))) one)

-- the octets of a literal
literal : (octets : List ℕ) → list_all is_value_byte octets ≡ true → AllPass is_value_byte octets
literal [] e = All-nil (λ c. is_value_byte c ≡ true)
literal (b ∷ octets) e = both (is_value_byte b) refl (literal octets) e
  where
    both : (c : Bool) → is_value_byte b ≡ c → (list_all is_value_byte octets ≡ true → AllPass is_value_byte octets)
        → (c && list_all is_value_byte octets) ≡ true → AllPass is_value_byte (b ∷ octets)
    both true t rest e = All-cons (λ c. is_value_byte c ≡ true) b octets t (rest e)
    both false t rest e = cc

version : (minor : ℕ) → minor ≤ 1 → AllPass is_value_byte (32 ∷ print_version minor)
version zero low = literal (32 ∷ print_version 0) refl
version (suc zero) low = literal (32 ∷ print_version 1) refl
version (suc (suc minor)) low = absurd (omega arith)

-- a head of the grammar
head_ends : (h : RequestHead) → IsRequestHead h → h.blank ≡ [] → Ends false (print_request h) (length h.fields + 2)
head_ends h good none =
    subst (λ (n : ℕ). Ends false (print_request h) n) (omega arith)
    (subst (λ (s : List ℕ). Ends false s (length h.fields + 1 + 1)) (sym whole)
    (more is_token_byte token_fails h.method _ _ good.method.1
    (one_more 32 _ _ refl
    (more is_uri_byte refl h.target _ _ good.target.1
    (more is_value_byte refl (32 ∷ print_version h.minor) _ _ (version h.minor good.minor)
    (line_over h.line_end (print_section h.fields h.last) (length h.fields + 1) (section h.fields h.last good.fields)))))))
  where
    whole : print_request h ≡ h.method ++ (32 ∷ (h.target ++ ((32 ∷ print_version h.minor) ++ (print_end h.line_end ++ print_section h.fields h.last))))
    whole = sym (append-nil (print_request h)) ∙ print_request-append h []
        ∙ ap (λ (b : List LineEnd). print_blank b ++ (h.method ++ 32 ∷ (h.target ++ 32 ∷ (print_version h.minor
        ++ (print_end h.line_end ++ (print_section h.fields h.last ++ [])))))) none
        ∙ ap (λ (s : List ℕ). h.method ++ 32 ∷ (h.target ++ 32 ∷ (print_version h.minor ++ (print_end h.line_end ++ s)))) (append-nil (print_section h.fields h.last))

-- a request within the limits has the verdict of its parts
pub requests : (names : List (List ℕ)) (octets : List ℕ) (h : RequestHead) (rest : List ℕ) → ReadsRequest octets h rest → h.blank ≡ []
    → length h.fields ≤ 32 → length (print_request h) ≤ most_octets → IsJudged names octets (verdict_of names h (length (print_request h)))
unfolding IsJudged
requests names octets h rest x none few short =
    let text = print_request h in
    let n = length text in
    let (ends, lines) = head_ends h x.0 none in
    let found : head_length false (take most_octets (text ++ rest)) ≡ Some n =
    head_found names most_octets text rest n (ap (head_length false) (take_all most_octets text short) ∙ ends) in
    let low : line_count text ≤ 34 = omega arith in
    let good : IsVerdict names text (verdict_of names h n) = good_verdict names text (verdict_of names h n) h low (x.0, sym (append-nil text)) refl in
    inl (
      n,
      ap (λ (s : List ℕ). head_length false (take most_octets s)) x.1 ∙ found,
      subst (λ (s : List ℕ). IsVerdict names s (verdict_of names h n)) (sym (ap (take n) x.1 ∙ take_at text rest n refl)) good,
    )
