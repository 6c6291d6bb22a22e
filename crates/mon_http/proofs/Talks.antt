-- However the octets are cut, the same is answered.
use native.Mathlib.Omega.{arith}
use Rattle.std.proofs.Common.{◌≡◌, ◌≤◌, ◌<◌, ◌+◌, ◌-◌, ◌⊎◌, inl, inr, ◌∙◌, ap, sym, subst, refl, ℕ, suc, Bool, true, false, not, List, [], ◌∷◌, ◌++◌, Some, None, length, take, drop, nat_lt, take_all, take-append-drop}
use Rattle.std.specs.Prelude.{MatchBool}
use Rattle.std.proofs.lemmas.List.{append-nil, append_assoc, length-append, length-take, take-append-le, drop-append-le}
use Rattle.std.proofs.Math.Seq.{take-append-add}
use Rattle.httparse.specs.Grammar.{RequestHead}
use Rattle.httparse.proofs.GrammarLemmas.{request_unique}
use Rattle.mon_http.specs.declared.response.Status.TheVariants.{HeaderFieldsTooLarge}
use Rattle.mon_http.specs.declared.request.Verdict.{Verdict}
use Rattle.mon_http.specs.Front.{head_length, line_count, skip_line_ends}
use Rattle.mon_http.specs.Request.{long_status, refusal, verdict_of, most_lines, most_octets, IsGood, IsBad, IsVerdict, IsQuiet, IsJudged}
use Rattle.mon_http.specs.Conversation.{Conversation, Moment, said, len_of, keeps, with_octets, with_sent, with_text, Talk, quiet, closes, goes_on, History, began, received, sent, answered, IsAtRest}
use Rattle.mon_http.proofs.Fronts.{head_append, head_within, skip_again, skip_append, skip_kept}
use Rattle.mon_http.proofs.Verdicts.{judged_len}

module _ (names : List (List ℕ)) where
  abbrev OneOf : List ℕ → Verdict → Bool → Type 0
  OneOf head v b = MatchBool b (v ≡ refusal HeaderFieldsTooLarge false (length head)) (IsGood names head v ⊎ IsBad head v)

  unique_at : (head : List ℕ) (v w : Verdict) (b : Bool) → OneOf head v b → OneOf head w b → v ≡ w
  unique_at head v w true e f = e ∙ sym f
  unique_at head v w false (inl (h, x, e)) (inl (k, y, f)) =
      let same : h ≡ k = (request_unique head h k [] [] x y).0 in
      e ∙ ap (λ (g : RequestHead). verdict_of names g (length head)) same ∙ sym f
  unique_at head v w false (inl (h, x, e)) (inr (bad, f)) = absurd (bad h x)
  unique_at head v w false (inr (bad, e)) (inl (k, y, f)) = absurd (bad k y)
  unique_at head v w false (inr (bad, e)) (inr (bad', f)) = e ∙ sym f

  -- a head has one verdict
  pub verdict_unique : (head : List ℕ) (v w : Verdict) → IsVerdict names head v → IsVerdict names head w → v ≡ w
  unfolding IsVerdict
  verdict_unique head v w x y = unique_at head v w (nat_lt most_lines (line_count head)) x y

  -- so have octets
  pub judged_unique : (octets : List ℕ) (v w : Verdict) → IsJudged names octets v → IsJudged names octets w → v ≡ w
  unfolding IsJudged
  judged_unique octets v w (inl (n, e, x)) (inl (m, f, y)) =
      let same : n ≡ m = (let both : Some n ≡ Some m = sym e ∙ f in cc) in
      verdict_unique (take m octets) v w (subst (λ (k : ℕ). IsVerdict names (take k octets) v) same x) y
  judged_unique octets v w (inl (n, e, x)) (inr (long, f)) = let none : Some n ≡ None = sym e ∙ long.0 in cc
  judged_unique octets v w (inr (long, e)) (inl (m, f, y)) = let none : Some m ≡ None = sym f ∙ long.0 in cc
  judged_unique octets v w (inr (long, e)) (inr (long', f)) = e ∙ sym f

  pub not_quiet : (octets : List ℕ) (v : Verdict) → IsJudged names octets v → IsQuiet octets → ⊥
  unfolding IsJudged
  not_quiet octets v (inl (n, e, x)) (none, short) =
      let both : Some n ≡ None = sym e ∙ ap (head_length false) (take_all 8192 octets (omega arith)) ∙ none in cc
  not_quiet octets v (inr (long, e)) (none, short) = let much : 8192 ≤ length octets = long.1 in absurd (omega arith)

  -- a head that ends within the first octets
  some_head : (top : ℕ) (octets : List ℕ) (n : ℕ) → head_length false (take (suc top) octets) ≡ Some n → 0 < length octets
  some_head top [] n e = cc
  some_head top (octet ∷ octets) n e = omega arith

  pub head_found : (top : ℕ) (octets more : List ℕ) (n : ℕ) → head_length false (take top octets) ≡ Some n
      → head_length false (take top (octets ++ more)) ≡ Some n
  head_found top octets more n e =
      elim (cases_le (length octets) top) as (λ _. head_length false (take top (octets ++ more)) ≡ Some n) [
        | inl short ↦ (
            let all : head_length false octets ≡ Some n = ap (head_length false) (sym (take_all top octets short)) ∙ e in
            let split : top ≡ length octets + (top - length octets) = omega arith in
            ap (λ (k : ℕ). head_length false (take k (octets ++ more))) split
            ∙ ap (head_length false) (take-append-add octets more (top - length octets))
            ∙ head_append false octets (take (top - length octets) more) n all)
        | inr long ↦ ap (head_length false) (take-append-le top octets more (omega arith)) ∙ e
      ]
    where
      cases_le : (a b : ℕ) → (a ≤ b) ⊎ (b < a)
      cases_le a b = grind arith

  head_below : (top : ℕ) (octets : List ℕ) (n : ℕ) → head_length false (take top octets) ≡ Some n → n ≤ length octets
  head_below top octets n e =
      let within : n ≤ length (take top octets) = head_within false (take top octets) n e in
      omega (arith, length-take top octets)

  pub judged_some : (octets : List ℕ) (v : Verdict) → IsJudged names octets v → 0 < length octets
  unfolding IsJudged
  judged_some octets v (inl (n, e, x)) = some_head 8191 octets n e
  judged_some octets v (inr (long, e)) = let much : 8192 ≤ length octets = long.1 in omega arith

  -- the octets that follow change nothing
  pub judged_append : (octets more : List ℕ) (v : Verdict) → IsJudged names octets v → IsJudged names (octets ++ more) v
  unfolding IsJudged
  judged_append octets more v (inl (n, e, x)) =
      let same : take n (octets ++ more) ≡ take n octets = take-append-le n octets more (head_below most_octets octets n e) in
      inl (n, head_found most_octets octets more n e, subst (λ (s : List ℕ). IsVerdict names s v) (sym same) x)
  judged_append octets more v (inr (long, e)) =
      let much : 8192 ≤ length octets = long.1 in
      inr (
        (ap (head_length false) (take-append-le 8192 octets more much) ∙ long.0, omega (arith, length-append octets more)),
        e ∙ ap (λ (s : List ℕ). refusal (long_status s) false 0) (sym (take-append-le 8192 octets more much)),
      )

  -- one answer to a stream
  pub talk_unique : (moments : ℕ → Moment) (k : ℕ) (octets s t : List ℕ) (b c : Bool) → Talk names moments k octets s b → Talk names moments k octets t c
      → (s ≡ t) × (b ≡ c)
  talk_unique moments k octets s t b c (quiet k1 octets1 q) (quiet k2 octets2 r) = (refl, refl)
  talk_unique moments k octets s t b c (quiet k1 octets1 q) (closes k2 octets2 w y f) = absurd (not_quiet octets w y q)
  talk_unique moments k octets s t b c (quiet k1 octets1 q) (goes_on k2 octets2 w text closed y f rest) = absurd (not_quiet octets w y q)
  talk_unique moments k octets s t b c (closes k1 octets1 v x e) (quiet k2 octets2 r) = absurd (not_quiet octets v x r)
  talk_unique moments k octets s t b c (closes k1 octets1 v x e) (closes k2 octets2 w y f) =
      (ap (λ (u : Verdict). said (moments k) u) (judged_unique octets v w x y), refl)
  talk_unique moments k octets s t b c (closes k1 octets1 v x e) (goes_on k2 octets2 w text closed y f rest) =
      let both : false ≡ true = sym e ∙ ap keeps (judged_unique octets v w x y) ∙ f in cc
  talk_unique moments k octets s t b c (goes_on k1 octets1 v text closed x e rest) (quiet k2 octets2 r) = absurd (not_quiet octets v x r)
  talk_unique moments k octets s t b c (goes_on k1 octets1 v text closed x e rest) (closes k2 octets2 w y f) =
      let both : true ≡ false = sym e ∙ ap keeps (judged_unique octets v w x y) ∙ f in cc
  talk_unique moments k octets s t b c (goes_on k1 octets1 v text closed x e rest) (goes_on k2 octets2 w text' closed' y f rest') =
      let same : w ≡ v = judged_unique octets w v y x in
      let next = subst (λ (u : Verdict). Talk names moments (k + 1) (skip_line_ends (drop (len_of u) octets)) text' closed') same rest' in
      let (texts, ends) = talk_unique moments (k + 1) (skip_line_ends (drop (len_of v) octets)) text text' closed closed' rest next in
      (ap (λ (u : List ℕ). said (moments k) v ++ u) texts ∙ ap (λ (u : Verdict). said (moments k) u ++ text') (sym same), ends)

  -- a head, and what follows it: the head is judged whatever follows, and then goes
  judged_more : (octets more : List ℕ) (v : Verdict) → skip_line_ends octets ≡ octets → IsJudged names octets v → IsJudged names (skip_line_ends (octets ++ more)) v
  judged_more octets more v front x =
      subst (λ (s : List ℕ). IsJudged names s v) (sym (skip_kept octets more front (judged_some octets v x))) (judged_append octets more v x)

  rest_more : (octets more : List ℕ) (v : Verdict) → skip_line_ends octets ≡ octets → IsJudged names octets v
      → skip_line_ends (skip_line_ends (drop (len_of v) octets) ++ more) ≡ skip_line_ends (drop (len_of v) (skip_line_ends (octets ++ more)))
  rest_more octets more v front x =
      skip_append (drop (len_of v) octets) more
      ∙ ap skip_line_ends (sym (drop-append-le (len_of v) octets more (judged_len names octets v x)))
      ∙ ap (λ (s : List ℕ). skip_line_ends (drop (len_of v) s)) (sym (skip_kept octets more front (judged_some octets v x)))

  -- once it is closed, whatever follows is not answered
  pub talk_closed : (moments : ℕ → Moment) (k : ℕ) (octets more text : List ℕ) (b : Bool) → skip_line_ends octets ≡ octets
      → Talk names moments k octets text b → b ≡ true → Talk names moments k (skip_line_ends (octets ++ more)) text true
  talk_closed moments k octets more text b front (quiet k1 octets1 q) e = cc
  talk_closed moments k octets more text b front (closes k1 octets1 v x f) e = closes k (skip_line_ends (octets ++ more)) v (judged_more octets more v front x) f
  talk_closed moments k octets more text b front (goes_on k1 octets1 v rest closed x f next) e =
      let there = skip_line_ends (drop (len_of v) octets) in
      let after = talk_closed moments (k + 1) there more rest closed (skip_again (drop (len_of v) octets)) next e in
      goes_on k (skip_line_ends (octets ++ more)) v rest true (judged_more octets more v front x) f
      (subst (λ (s : List ℕ). Talk names moments (k + 1) s rest true) (rest_more octets more v front x) after)

  -- what a history comes to: nothing is skipped at the front of what is unread; where it closes,
  -- all is said; else what is unread goes on
  record Says (moments : ℕ → Moment) (k : ℕ) (got put : List ℕ) (c : Conversation) : Type 0 where
    front : skip_line_ends c.unread ≡ c.unread
    closed : c.closing ≡ true → (more : List ℕ) → Talk names moments 0 (skip_line_ends (got ++ more)) (put ++ c.unsent) true
    open_ : c.closing ≡ false → (more text : List ℕ) (b : Bool) → Talk names moments k (skip_line_ends (c.unread ++ more)) text b
        → Talk names moments 0 (skip_line_ends (got ++ more)) ((put ++ c.unsent) ++ text) b

  says_received : (moments : ℕ → Moment) (k : ℕ) (got put : List ℕ) (c : Conversation) (octets : List ℕ) → Says moments k got put c
      → Says moments k (got ++ octets) put (with_octets octets c)
  says_received moments k got put c octets says = record {
    front = skip_again (c.unread ++ octets);
    closed = λ e more. subst (λ (s : List ℕ). Talk names moments 0 (skip_line_ends s) (put ++ c.unsent) true) (sym (append_assoc got octets more)) (says.closed e (octets ++ more));
    open_ = λ e more text b talk.
        (let same : skip_line_ends (skip_line_ends (c.unread ++ octets) ++ more) ≡ skip_line_ends (c.unread ++ (octets ++ more)) =
        skip_append (c.unread ++ octets) more ∙ ap skip_line_ends (append_assoc c.unread octets more) in
        let whole = says.open_ e (octets ++ more) text b (subst (λ (s : List ℕ). Talk names moments k s text b) same talk) in
        subst (λ (s : List ℕ). Talk names moments 0 (skip_line_ends s) ((put ++ c.unsent) ++ text) b) (sym (append_assoc got octets more)) whole);
  }

  says_sent : (moments : ℕ → Moment) (k : ℕ) (got put : List ℕ) (c : Conversation) (n : ℕ) → Says moments k got put c
      → Says moments k got (put ++ take n c.unsent) (with_sent n c)
  says_sent moments k got put c n says =
      let same : put ++ c.unsent ≡ (put ++ take n c.unsent) ++ drop n c.unsent =
      ap (λ (s : List ℕ). put ++ s) (sym (take-append-drop n c.unsent)) ∙ sym (append_assoc put (take n c.unsent) (drop n c.unsent)) in
      record {
        front = says.front;
        closed = λ e more. subst (λ (s : List ℕ). Talk names moments 0 (skip_line_ends (got ++ more)) s true) same (says.closed e more);
        open_ = λ e more text b talk. subst (λ (s : List ℕ). Talk names moments 0 (skip_line_ends (got ++ more)) (s ++ text) b) same (says.open_ e more text b talk);
      }

  says_answered : (moments : ℕ → Moment) (k : ℕ) (got put : List ℕ) (c : Conversation) (v : Verdict) → Says moments k got put c
      → c.closing ≡ false → c.unsent ≡ [] → IsJudged names c.unread v
      → Says moments (k + 1) got put (with_text (len_of v) (keeps v) (said (moments k) v) c)
  says_answered moments k got put c v says stays none x =
      let text = said (moments k) v in
      let before : put ++ c.unsent ≡ put = ap (λ (s : List ℕ). put ++ s) none ∙ append-nil put in
      record {
        front = skip_again (drop (len_of v) c.unread);
        closed = λ e more.
            (let ends : keeps v ≡ false = not_true (keeps v) e in
            let whole = says.open_ stays more text true (closes k (skip_line_ends (c.unread ++ more)) v (judged_more c.unread more v says.front x) ends) in
            subst (λ (s : List ℕ). Talk names moments 0 (skip_line_ends (got ++ more)) (s ++ text) true) before whole);
        open_ = λ e more rest b talk.
            (let goes : keeps v ≡ true = not_false (keeps v) e in
            let next = subst (λ (s : List ℕ). Talk names moments (k + 1) s rest b) (rest_more c.unread more v says.front x) talk in
            let whole = says.open_ stays more (text ++ rest) b (goes_on k (skip_line_ends (c.unread ++ more)) v rest b (judged_more c.unread more v says.front x) goes next) in
            let same : (put ++ c.unsent) ++ (text ++ rest) ≡ (put ++ text) ++ rest =
            ap (λ (s : List ℕ). s ++ (text ++ rest)) before ∙ sym (append_assoc put text rest) in
            subst (λ (s : List ℕ). Talk names moments 0 (skip_line_ends (got ++ more)) s b) same whole);
      }
    where
      not_true : (b : Bool) → not b ≡ true → b ≡ false
      not_true true e = cc
      not_true false e = refl

      not_false : (b : Bool) → not b ≡ false → b ≡ true
      not_false true e = refl
      not_false false e = cc

  says : (moments : ℕ → Moment) (k : ℕ) (got put : List ℕ) (c : Conversation) → History names moments k got put c → Says moments k got put c
  says moments k got put c began = record { front = refl; closed = λ e. cc; open_ = λ e more text b talk. talk }
  says moments k got put c (received k1 before put1 d octets h) = says_received moments k before put d octets (says moments k before put d h)
  says moments k got put c (sent k1 got1 before d n h few) = says_sent moments k got before d n (says moments k got before d h)
  says moments k got put c (answered k1 got1 put1 d v h stays none x) = says_answered moments k1 got put d v (says moments k1 got put d h) stays none x

  -- what is answered once nothing is left to be done
  pub rests : (moments : ℕ → Moment) (k : ℕ) (got put : List ℕ) (c : Conversation) → History names moments k got put c → IsAtRest c
      → Talk names moments 0 (skip_line_ends got) (put ++ c.unsent) c.closing
  rests moments k got put c h (inl closing) =
      let s = says moments k got put c h in
      let whole = subst (λ (g : List ℕ). Talk names moments 0 (skip_line_ends g) (put ++ c.unsent) true) (append-nil got) (s.closed closing []) in
      subst (λ (b : Bool). Talk names moments 0 (skip_line_ends got) (put ++ c.unsent) b) (sym closing) whole
  rests moments k got put c h (inr (stays, still)) =
      let s = says moments k got put c h in
      let front : c.unread ≡ skip_line_ends (c.unread ++ []) = sym (ap skip_line_ends (append-nil c.unread) ∙ s.front) in
      let talk = subst (λ (u : List ℕ). Talk names moments k u [] false) front (quiet k c.unread still) in
      let whole = subst (λ (g : List ℕ). Talk names moments 0 (skip_line_ends g) ((put ++ c.unsent) ++ []) false) (append-nil got) (s.open_ stays [] [] false talk) in
      let trimmed = subst (λ (t : List ℕ). Talk names moments 0 (skip_line_ends got) t false) (append-nil (put ++ c.unsent)) whole in
      subst (λ (b : Bool). Talk names moments 0 (skip_line_ends got) (put ++ c.unsent) b) (sym stays) trimmed

  -- two histories of one stream, of which the first ended by closing or has all of it
  pub same_answers : (moments : ℕ → Moment) (k l : ℕ) (got more put put' : List ℕ) (c d : Conversation)
      → History names moments k got put c → IsAtRest c → History names moments l (got ++ more) put' d → IsAtRest d
      → (c.closing ≡ true) ⊎ (more ≡ []) → (put ++ c.unsent ≡ put' ++ d.unsent) × (c.closing ≡ d.closing)
  same_answers moments k l got more put put' c d h at i to (inl closing) =
      let first = talk_closed moments 0 (skip_line_ends got) more (put ++ c.unsent) c.closing (skip_again got) (rests moments k got put c h at) closing in
      let whole = subst (λ (s : List ℕ). Talk names moments 0 s (put ++ c.unsent) true) (skip_append got more) first in
      let (texts, ends) = talk_unique moments 0 (skip_line_ends (got ++ more)) (put ++ c.unsent) (put' ++ d.unsent) true d.closing whole (rests moments l (got ++ more) put' d i to) in
      (texts, closing ∙ ends)
  same_answers moments k l got more put put' c d h at i to (inr none) =
      let same : got ++ more ≡ got = ap (λ (s : List ℕ). got ++ s) none ∙ append-nil got in
      let second = subst (λ (s : List ℕ). Talk names moments 0 (skip_line_ends s) (put' ++ d.unsent) d.closing) same (rests moments l (got ++ more) put' d i to) in
      talk_unique moments 0 (skip_line_ends got) (put ++ c.unsent) (put' ++ d.unsent) c.closing d.closing (rests moments k got put c h at) second
