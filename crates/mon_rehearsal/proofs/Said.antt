-- What a line says is what it is read as.
use Rattle.std.proofs.Common.{◌≡◌, ℕ, ◌<◌, ◌^◌, Bool, true, false, List, [], ◌∷◌, ◌++◌, length, Option, Some, None, refl, sym, ap, ◌∙◌, subst, append_assoc, arith, ◌⊎◌, inl, inr}
use Rattle.std.specs.Prelude.{◌==◌, if◌then◌else◌, codes, decimal, Result, Ok, Err}
use Rattle.std.specs.Str.{bytes_eq}
use Rattle.std.specs.Str.Parse.{AllDigits}
use Rattle.std.proofs.lemmas.Bool.Decides.{nat_tests}
use Rattle.std.proofs.lemmas.Fmt.{decimal_is_IsNumeral}
use Rattle.std.proofs.lemmas.Option.{same_Some}
use Rattle.std.proofs.lemmas.Slice.Eq.{bytes_eq-Decides}
use Rattle.std.proofs.lemmas.Str.Parse.{digit_from_value}
use Rattle.hex.specs.Hex.{decode_of}
use Rattle.hex.specs.declared.error.FromHexError.{FromHexError}
use Rattle.mon_rehearsal.specs.declared.script.ScriptStep.{ScriptStep}
use Rattle.mon_rehearsal.specs.declared.script.ScriptStep.TheVariants.{StartPoll, AgentSays, Timeout, Share, Deliver, Save, Restart, Forge, Stop}
use Rattle.mon_rehearsal.specs.Fields.{and_then, cut, decoded, number_in, numbers_in, octets_in, with_first}
use Rattle.mon_rehearsal.specs.Reading.{agent_in, fields_in, forge_in, pair_in, short_in, step_in, stop_in}
use Rattle.mon_rehearsal.specs.Script.{AreDigits, HasNumber, HasNumbers, Says}
use Rattle.mon_rehearsal.proofs.Cuts.{cut_joined}
use Rattle.mon_rehearsal.proofs.Numbers.{number_read, number_spelled}

-- ---- what is read was said
there : {A B : Type 0} (r : Option A) (f : A → Option B) (b : B) → and_then r f ≡ Some b → (a : A) × (r ≡ Some a) × (f a ≡ Some b)
there None f b h = cc
there (Some a) f b h = (a, refl, h)

either : (t : Bool) (x other : Option ScriptStep) (y : ScriptStep) → (if t then x else other) ≡ Some y → ((t ≡ true) × (x ≡ Some y)) ⊎ ((t ≡ false) × (other ≡ Some y))
either true x other y h = inl (refl, h)
either false x other y h = inr (refl, h)

word_is : (verb word : List ℕ) → bytes_eq verb word ≡ true → verb ≡ word
word_is verb word h = (bytes_eq-Decides verb word).0 h

has_number : (line verb fields word : List ℕ) (n : ℕ) → line ≡ verb ++ 32 ∷ fields → bytes_eq verb word ≡ true → number_in fields ≡ Some n → HasNumber word n line
has_number line verb fields word n joined same number =
    let spelled = number_spelled fields n number in
    let is : verb ≡ word = word_is verb word same in
    record { small = spelled.0; is = joined ∙ (λ i. is i ++ 32 ∷ spelled.1 i) }

has_numbers : (line verb word a b : List ℕ) (n m : ℕ) → line ≡ verb ++ 32 ∷ a ++ 32 ∷ b → bytes_eq verb word ≡ true → number_in a ≡ Some n → number_in b ≡ Some m → HasNumbers word n m line
has_numbers line verb word a b n m joined same first second =
    let one = number_spelled a n first in
    let two = number_spelled b m second in
    let is : verb ≡ word = word_is verb word same in
    record { small = one.0; small_too = two.0; is = joined ∙ (λ i. is i ++ 32 ∷ one.1 i ++ 32 ∷ two.1 i) }

two_numbers : (text : List ℕ) (n : ℕ × ℕ) → numbers_in text ≡ Some n → (a b : List ℕ) × (text ≡ a ++ 32 ∷ b) × (number_in a ≡ Some n.0) × (number_in b ≡ Some n.1)
unfolding numbers_in
two_numbers text n h =
    let cuts = there (cut 32 text) _ n h in
    let first = there (number_in cuts.0.0) _ n cuts.2 in
    let second = there (number_in cuts.0.1) _ n first.2 in
    let is : (first.0, second.0) ≡ n = same_Some (first.0, second.0) n second.2 in
    (cuts.0.0, cuts.0.1, cut_joined 32 text cuts.0.0 cuts.0.1 cuts.1, first.1 ∙ (λ i. Some (is i).0), second.1 ∙ (λ i. Some (is i).1))

some_decoded : (r : Result (List ℕ) FromHexError) (octets : List ℕ) → decoded r ≡ Some octets → (r ≡ Ok octets) × (0 < length octets)
some_decoded (Ok []) octets h = cc
some_decoded (Ok (c ∷ cs)) octets h =
    let is : c ∷ cs ≡ octets = same_Some (c ∷ cs) octets h in
    (ap Ok is, subst (λ l. 0 < length l) is (omega arith))
some_decoded (Err e) octets h = cc

are_digits : (digits octets : List ℕ) → octets_in digits ≡ Some octets → AreDigits digits octets
are_digits digits octets h = let r = some_decoded (decode_of digits) octets h in record { spelled = r.0; some = r.1 }

-- the last field, apart from the others
last_apart : (a b c : List ℕ) → a ++ 32 ∷ (b ++ 32 ∷ c) ≡ a ++ 32 ∷ b ++ 32 ∷ c
last_apart a b c = sym (append_assoc a (32 ∷ b) (32 ∷ c))

last_of_three : (a b c d : List ℕ) → a ++ 32 ∷ (b ++ 32 ∷ (c ++ 32 ∷ d)) ≡ a ++ 32 ∷ b ++ 32 ∷ c ++ 32 ∷ d
last_of_three a b c d = last_apart a b (c ++ 32 ∷ d) ∙ last_apart (a ++ 32 ∷ b) c d

module _ (line verb fields : List ℕ) (step : ScriptStep) (joined : line ≡ verb ++ 32 ∷ fields) where
  short_says : short_in verb fields ≡ Some step → Says line step
  unfolding short_in
  short_says h =
      let number = there (number_in fields) _ step h in
      let n = number.0 in
      elim (either (bytes_eq verb (codes "deliver")) (Some (Deliver n)) _ step number.2) [
        | inl is ↦ subst (Says line) (same_Some (Deliver n) step is.1) (has_number line verb fields (codes "deliver") n joined is.0 number.1)
        | inr not ↦ elim (either (bytes_eq verb (codes "save")) (Some (Save n)) _ step not.1) [
          | inl is ↦ subst (Says line) (same_Some (Save n) step is.1) (has_number line verb fields (codes "save") n joined is.0 number.1)
          | inr nor ↦ elim (either (bytes_eq verb (codes "restart")) (Some (Restart n)) None step nor.1) [
            | inl is ↦ subst (Says line) (same_Some (Restart n) step is.1) (has_number line verb fields (codes "restart") n joined is.0 number.1)
            | inr none ↦ cc
          ]
        ]
      ]

  pair_says : pair_in verb fields ≡ Some step → Says line step
  unfolding pair_in
  pair_says h =
      let both = there (numbers_in fields) _ step h in
      let n = both.0 in
      let parts = two_numbers fields n both.1 in
      let is_line : line ≡ verb ++ 32 ∷ parts.0 ++ 32 ∷ parts.1 = joined ∙ ap (λ l. verb ++ 32 ∷ l) parts.2 ∙ last_apart verb parts.0 parts.1 in
      elim (either (bytes_eq verb (codes "poll")) (Some (StartPoll n.0 n.1)) _ step both.2) [
        | inl is ↦ subst (Says line) (same_Some (StartPoll n.0 n.1) step is.1) (has_numbers line verb (codes "poll") parts.0 parts.1 n.0 n.1 is_line is.0 parts.3 parts.4)
        | inr not ↦ elim (either (bytes_eq verb (codes "timeout")) (Some (Timeout n.0 n.1)) _ step not.1) [
          | inl is ↦ subst (Says line) (same_Some (Timeout n.0 n.1) step is.1) (has_numbers line verb (codes "timeout") parts.0 parts.1 n.0 n.1 is_line is.0 parts.3 parts.4)
          | inr nor ↦ elim (either (bytes_eq verb (codes "share")) (Some (Share n.0 n.1)) None step nor.1) [
            | inl is ↦ subst (Says line) (same_Some (Share n.0 n.1) step is.1) (has_numbers line verb (codes "share") parts.0 parts.1 n.0 n.1 is_line is.0 parts.3 parts.4)
            | inr none ↦ cc
          ]
        ]
      ]

  agent_says : bytes_eq verb (codes "agent") ≡ true → agent_in fields ≡ Some step → Says line step
  unfolding agent_in
  agent_says same h =
      let one = there (cut 32 fields) _ step h in
      let two = there (cut 32 one.0.1) _ step one.2 in
      let s = there (number_in one.0.0) _ step two.2 in
      let target = there (number_in two.0.0) _ step s.2 in
      let octets = there (octets_in two.0.1) _ step target.2 in
      let front : List ℕ = verb ++ 32 ∷ one.0.0 ++ 32 ∷ two.0.0 in
      let inner : fields ≡ one.0.0 ++ 32 ∷ (two.0.0 ++ 32 ∷ two.0.1) = cut_joined 32 fields one.0.0 one.0.1 one.1 ∙ ap (λ l. one.0.0 ++ 32 ∷ l) (cut_joined 32 one.0.1 two.0.0 two.0.1 two.1) in
      let whole : line ≡ front ++ 32 ∷ two.0.1 = joined ∙ ap (λ l. verb ++ 32 ∷ l) inner ∙ last_of_three verb one.0.0 two.0.0 two.0.1 in
      subst (Says line) (same_Some (AgentSays s.0 target.0 octets.0) step octets.2)
      (front, two.0.1, has_numbers front verb (codes "agent") one.0.0 two.0.0 s.0 target.0 refl same s.1 target.1, are_digits two.0.1 octets.0 octets.1, whole)

  forge_says : bytes_eq verb (codes "forge") ≡ true → forge_in fields ≡ Some step → Says line step
  unfolding forge_in
  forge_says same h =
      let one = there (cut 32 fields) _ step h in
      let s = there (number_in one.0.0) _ step one.2 in
      let octets = there (octets_in one.0.1) _ step s.2 in
      let front : List ℕ = verb ++ 32 ∷ one.0.0 in
      let whole : line ≡ front ++ 32 ∷ one.0.1 = joined ∙ ap (λ l. verb ++ 32 ∷ l) (cut_joined 32 fields one.0.0 one.0.1 one.1) ∙ last_apart verb one.0.0 one.0.1 in
      subst (Says line) (same_Some (Forge s.0 octets.0) step octets.2)
      (front, one.0.1, has_number front verb one.0.0 (codes "forge") s.0 refl same s.1, are_digits one.0.1 octets.0 octets.1, whole)

  stop_says : bytes_eq verb (codes "stop") ≡ true → stop_in fields ≡ Some step → Says line step
  unfolding stop_in
  stop_says same h =
      let one = there (cut 32 fields) _ step h in
      let two = there (cut 32 one.0.1) _ step one.2 in
      let s = there (number_in one.0.0) _ step two.2 in
      let calls = there (number_in two.0.0) _ step s.2 in
      let front : List ℕ = verb ++ 32 ∷ one.0.0 ++ 32 ∷ two.0.0 in
      let inner : fields ≡ one.0.0 ++ 32 ∷ (two.0.0 ++ 32 ∷ two.0.1) = cut_joined 32 fields one.0.0 one.0.1 one.1 ∙ ap (λ l. one.0.0 ++ 32 ∷ l) (cut_joined 32 one.0.1 two.0.0 two.0.1 two.1) in
      let whole : line ≡ front ++ 32 ∷ two.0.1 = joined ∙ ap (λ l. verb ++ 32 ∷ l) inner ∙ last_of_three verb one.0.0 two.0.0 two.0.1 in
      let numbers : HasNumbers (codes "stop") s.0 calls.0 front = has_numbers front verb (codes "stop") one.0.0 two.0.0 s.0 calls.0 refl same s.1 calls.1 in
      elim (either (bytes_eq two.0.1 (codes "keep")) (Some (Stop s.0 calls.0 true)) _ step calls.2) [
        | inl is ↦ subst (Says line) (same_Some (Stop s.0 calls.0 true) step is.1) (front, numbers, whole ∙ ap (λ l. front ++ 32 ∷ l) (word_is two.0.1 (codes "keep") is.0))
        | inr not ↦ elim (either (bytes_eq two.0.1 (codes "lose")) (Some (Stop s.0 calls.0 false)) None step not.1) [
          | inl is ↦ subst (Says line) (same_Some (Stop s.0 calls.0 false) step is.1) (front, numbers, whole ∙ ap (λ l. front ++ 32 ∷ l) (word_is two.0.1 (codes "lose") is.0))
          | inr none ↦ cc
        ]
      ]

  fields_say : fields_in verb fields ≡ Some step → Says line step
  unfolding fields_in
  fields_say h =
      elim (either (bytes_eq verb (codes "agent")) (agent_in fields) _ step h) [
        | inl is ↦ agent_says is.0 is.1
        | inr a ↦ elim (either (bytes_eq verb (codes "forge")) (forge_in fields) _ step a.1) [
          | inl is ↦ forge_says is.0 is.1
          | inr b ↦ elim (either (bytes_eq verb (codes "stop")) (stop_in fields) _ step b.1) [
            | inl is ↦ stop_says is.0 is.1
            | inr c ↦ short_or_pair c.1
          ]
        ]
      ]
    where
      short_or_pair : (if bytes_eq verb (codes "deliver") then short_in verb fields else (if bytes_eq verb (codes "save") then short_in verb fields else (if bytes_eq verb (codes "restart") then short_in verb fields else pair_in verb fields))) ≡ Some step → Says line step
      short_or_pair h =
          elim (either (bytes_eq verb (codes "deliver")) (short_in verb fields) _ step h) [
            | inl is ↦ short_says is.1
            | inr a ↦ elim (either (bytes_eq verb (codes "save")) (short_in verb fields) _ step a.1) [
              | inl is ↦ short_says is.1
              | inr b ↦ elim (either (bytes_eq verb (codes "restart")) (short_in verb fields) (pair_in verb fields) step b.1) [
                | inl is ↦ short_says is.1
                | inr c ↦ pair_says c.1
              ]
            ]
          ]

-- what is read is what the line says
pub read_says : (line : List ℕ) (step : ScriptStep) → step_in line ≡ Some step → Says line step
unfolding step_in
read_says line step h =
    let parts = there (cut 32 line) _ step h in
    fields_say line parts.0.0 parts.0.1 step (cut_joined 32 line parts.0.0 parts.0.1 parts.1) parts.2

-- ---- what is said is read
-- no octet of a text is a blank
abbrev NoBlank : List ℕ → Type 0
NoBlank [] = Unit {0}
NoBlank (c ∷ cs) = ((c == 32) ≡ false) × NoBlank cs

cut_at : (a b : List ℕ) → NoBlank a → cut 32 (a ++ 32 ∷ b) ≡ Some (a, b)
cut_at [] b free = refl
cut_at (c ∷ cs) b free = (λ i. if free.0 i then Some ([], cs ++ 32 ∷ b) else with_first c (cut 32 (cs ++ 32 ∷ b))) ∙ ap (with_first c) (cut_at cs b free.1)

no_blank : (ds : List ℕ) → AllDigits 10 ds → NoBlank ds
no_blank [] all = tt
no_blank (c ∷ cs) all = ((let r = digit_from_value c all.0 in grind (arith, nat_tests)), no_blank cs all.1)

decimal_cut : (n : ℕ) (b : List ℕ) → n < 2 ^ 32 → cut 32 (decimal n ++ 32 ∷ b) ≡ Some (decimal n, b)
decimal_cut n b small = cut_at (decimal n) b (no_blank (decimal n) (decimal_is_IsNumeral n (omega arith)).0.1)

octets_read : (digits octets : List ℕ) → AreDigits digits octets → octets_in digits ≡ Some octets
octets_read digits [] are = absurd (omega (arith, are.some))
octets_read digits (c ∷ cs) are = ap decoded are.spelled

numbers_read : (n m : ℕ) → n < 2 ^ 32 → m < 2 ^ 32 → numbers_in (decimal n ++ 32 ∷ decimal m) ≡ Some (n, m)
unfolding numbers_in
numbers_read n m small small_too =
    ap (λ r. and_then r (λ fields. and_then (number_in fields.0) (λ first. and_then (number_in fields.1) (λ second. Some (first, second))))) (decimal_cut n (decimal m) small)
    ∙ (λ i. and_then (number_read (decimal n) n small refl i) (λ first. and_then (number_read (decimal m) m small_too refl i) (λ second. Some (first, second))))

line_read : (line word fields : List ℕ) → line ≡ word ++ 32 ∷ fields → cut 32 (word ++ 32 ∷ fields) ≡ Some (word, fields) → step_in line ≡ fields_in word fields
unfolding step_in
line_read line word fields is cuts = ap (λ l. and_then (cut 32 l) (λ parts. fields_in parts.0 parts.1)) is ∙ ap (λ r. and_then r (λ parts. fields_in parts.0 parts.1)) cuts

deliver_read : (n : ℕ) → n < 2 ^ 32 → fields_in (codes "deliver") (decimal n) ≡ Some (Deliver n)
unfolding fields_in short_in
deliver_read n small = ap (λ r. and_then r (λ n. Some (Deliver n))) (number_read (decimal n) n small refl)

save_read : (n : ℕ) → n < 2 ^ 32 → fields_in (codes "save") (decimal n) ≡ Some (Save n)
unfolding fields_in short_in
save_read n small = ap (λ r. and_then r (λ n. Some (Save n))) (number_read (decimal n) n small refl)

restart_read : (n : ℕ) → n < 2 ^ 32 → fields_in (codes "restart") (decimal n) ≡ Some (Restart n)
unfolding fields_in short_in
restart_read n small = ap (λ r. and_then r (λ n. Some (Restart n))) (number_read (decimal n) n small refl)

poll_read : (n m : ℕ) → n < 2 ^ 32 → m < 2 ^ 32 → fields_in (codes "poll") (decimal n ++ 32 ∷ decimal m) ≡ Some (StartPoll n m)
unfolding fields_in pair_in
poll_read n m small small_too = ap (λ r. and_then r (λ n. Some (StartPoll n.0 n.1))) (numbers_read n m small small_too)

timeout_read : (n m : ℕ) → n < 2 ^ 32 → m < 2 ^ 32 → fields_in (codes "timeout") (decimal n ++ 32 ∷ decimal m) ≡ Some (Timeout n m)
unfolding fields_in pair_in
timeout_read n m small small_too = ap (λ r. and_then r (λ n. Some (Timeout n.0 n.1))) (numbers_read n m small small_too)

share_read : (n m : ℕ) → n < 2 ^ 32 → m < 2 ^ 32 → fields_in (codes "share") (decimal n ++ 32 ∷ decimal m) ≡ Some (Share n m)
unfolding fields_in pair_in
share_read n m small small_too = ap (λ r. and_then r (λ n. Some (Share n.0 n.1))) (numbers_read n m small small_too)

forge_read : (s : ℕ) (digits octets : List ℕ) → s < 2 ^ 32 → AreDigits digits octets → fields_in (codes "forge") (decimal s ++ 32 ∷ digits) ≡ Some (Forge s octets)
unfolding fields_in forge_in
forge_read s digits octets small are =
    ap (λ r. and_then r (λ one. and_then (number_in one.0) (λ s. and_then (octets_in one.1) (λ octets. Some (Forge s octets))))) (decimal_cut s digits small)
    ∙ (λ i. and_then (number_read (decimal s) s small refl i) (λ s. and_then (octets_read digits octets are i) (λ octets. Some (Forge s octets))))

-- the steps of two numbers and a last field
abbrev after_two : (ℕ → ℕ → List ℕ → Option ScriptStep) → List ℕ → Option ScriptStep
after_two f fields = and_then (cut 32 fields) (λ one. and_then (cut 32 one.1) (λ two. and_then (number_in one.0) (λ s. and_then (number_in two.0) (λ n. f s n two.1))))

two_read : (f : ℕ → ℕ → List ℕ → Option ScriptStep) (s n : ℕ) (last : List ℕ) → s < 2 ^ 32 → n < 2 ^ 32 → after_two f (decimal s ++ 32 ∷ (decimal n ++ 32 ∷ last)) ≡ f s n last
two_read f s n last small small_too =
    ap (λ r. and_then r (λ one. and_then (cut 32 one.1) (λ two. and_then (number_in one.0) (λ s. and_then (number_in two.0) (λ n. f s n two.1))))) (decimal_cut s (decimal n ++ 32 ∷ last) small)
    ∙ ap (λ r. and_then r (λ two. and_then (number_in (decimal s)) (λ s. and_then (number_in two.0) (λ n. f s n two.1)))) (decimal_cut n last small_too)
    ∙ (λ i. and_then (number_read (decimal s) s small refl i) (λ s. and_then (number_read (decimal n) n small_too refl i) (λ n. f s n last)))

agent_read : (s n : ℕ) (digits octets : List ℕ) → s < 2 ^ 32 → n < 2 ^ 32 → AreDigits digits octets → fields_in (codes "agent") (decimal s ++ 32 ∷ (decimal n ++ 32 ∷ digits)) ≡ Some (AgentSays s n octets)
unfolding fields_in agent_in
agent_read s n digits octets small small_too are =
    two_read (λ s n last. and_then (octets_in last) (λ octets. Some (AgentSays s n octets))) s n digits small small_too ∙ ap (λ r. and_then r (λ octets. Some (AgentSays s n octets))) (octets_read digits octets are)

abbrev how_it_stops : ℕ → ℕ → List ℕ → Option ScriptStep
how_it_stops s calls last = if bytes_eq last (codes "keep") then Some (Stop s calls true) else (if bytes_eq last (codes "lose") then Some (Stop s calls false) else None)

keep_read : (s calls : ℕ) → s < 2 ^ 32 → calls < 2 ^ 32 → fields_in (codes "stop") (decimal s ++ 32 ∷ (decimal calls ++ 32 ∷ codes "keep")) ≡ Some (Stop s calls true)
unfolding fields_in stop_in
keep_read s calls small small_too = two_read how_it_stops s calls (codes "keep") small small_too

lose_read : (s calls : ℕ) → s < 2 ^ 32 → calls < 2 ^ 32 → fields_in (codes "stop") (decimal s ++ 32 ∷ (decimal calls ++ 32 ∷ codes "lose")) ≡ Some (Stop s calls false)
unfolding fields_in stop_in
lose_read s calls small small_too = two_read how_it_stops s calls (codes "lose") small small_too

-- a front of a word and two numbers, and a last field
three_fields : (line word front last : List ℕ) (s n : ℕ) → HasNumbers word s n front → line ≡ front ++ 32 ∷ last → line ≡ word ++ 32 ∷ (decimal s ++ 32 ∷ (decimal n ++ 32 ∷ last))
three_fields line word front last s n has is = is ∙ ap (λ l. l ++ 32 ∷ last) has.is ∙ sym (last_of_three word (decimal s) (decimal n) last)

-- what a line says is what it is read as
pub said_read : (line : List ℕ) (step : ScriptStep) → Says line step → step_in line ≡ Some step
said_read line (StartPoll s target) says = line_read line (codes "poll") (decimal s ++ 32 ∷ decimal target) (says.is ∙ sym (last_apart (codes "poll") (decimal s) (decimal target))) refl ∙ poll_read s target says.small says.small_too
said_read line (AgentSays s target octets) says =
    line_read line (codes "agent") (decimal s ++ 32 ∷ (decimal target ++ 32 ∷ says.1)) (three_fields line (codes "agent") says.0 says.1 s target says.2 says.4) refl
    ∙ agent_read s target says.1 octets says.2.small says.2.small_too says.3
said_read line (Timeout s id) says = line_read line (codes "timeout") (decimal s ++ 32 ∷ decimal id) (says.is ∙ sym (last_apart (codes "timeout") (decimal s) (decimal id))) refl ∙ timeout_read s id says.small says.small_too
said_read line (Share s peer) says = line_read line (codes "share") (decimal s ++ 32 ∷ decimal peer) (says.is ∙ sym (last_apart (codes "share") (decimal s) (decimal peer))) refl ∙ share_read s peer says.small says.small_too
said_read line (Deliver d) says = line_read line (codes "deliver") (decimal d) says.is refl ∙ deliver_read d says.small
said_read line (Save s) says = line_read line (codes "save") (decimal s) says.is refl ∙ save_read s says.small
said_read line (Restart s) says = line_read line (codes "restart") (decimal s) says.is refl ∙ restart_read s says.small
said_read line (Forge s octets) says =
    line_read line (codes "forge") (decimal s ++ 32 ∷ says.1) (says.4 ∙ ap (λ l. l ++ 32 ∷ says.1) says.2.is ∙ sym (last_apart (codes "forge") (decimal s) says.1)) refl
    ∙ forge_read s says.1 octets says.2.small says.3
said_read line (Stop s calls true) says =
    line_read line (codes "stop") (decimal s ++ 32 ∷ (decimal calls ++ 32 ∷ codes "keep")) (three_fields line (codes "stop") says.0 (codes "keep") s calls says.1 says.2) refl
    ∙ keep_read s calls says.1.small says.1.small_too
said_read line (Stop s calls false) says =
    line_read line (codes "stop") (decimal s ++ 32 ∷ (decimal calls ++ 32 ∷ codes "lose")) (three_fields line (codes "stop") says.0 (codes "lose") s calls says.1 says.2) refl
    ∙ lose_read s calls says.1.small says.1.small_too
