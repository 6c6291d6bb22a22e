-- What becomes of the texts that are put into a courier.
use native.Mathlib.Omega.{arith}
use Rattle.std.proofs.Common.{◌≡◌, ◌≤◌, ◌<◌, ◌+◌, ◌-◌, ◌^◌, ◌∙◌, ◌⊎◌, inl, inr, ap, sym, subst, refl, true≢false, ℕ, Bool, true, false, List, [], ◌∷◌, ◌++◌, length, map, min, drop, nat_lt, nat_le, cond}
use Rattle.std.proofs.lemmas.Bool.Decides.{nat_tests}
use Rattle.std.proofs.lemmas.List.{append_assoc}
use Rattle.std.specs.Prelude.{◌||◌, ◌&&◌, Option, Some, None, Result, Ok, Err}
use Rattle.std.specs.declared.io.Error.{Error}
use Rattle.mon_http_client.specs.Request.{post_text}
use Rattle.mon_notify.specs.Mail.{Mail, after_put, after_text, after_removal}
use Rattle.mon_udp.specs.Counts.{next_count}
use Rattle.mon_courier.specs.Courier.{State, failed, has_text, is_due, prepared, taken_from, with_line, with_parts}
use Rattle.mon_courier.specs.Exchange.{AreSteps, Call, IsStep, Parts, after_offer, restarted, sends, receives, spent, stops, goes_on}
use Rattle.mon_courier.specs.History.{WasDropped, WasRefused, WasDelivered, IsInHand, History, began, put, put_long, lose, turn, IsInHandBy, IsKept, IsKeptBy, dropped_of, refused_of, in_hand_of}
use Rattle.mon_courier.specs.Turn.{Connecting, IsBeginning, IsFlight, IsStart, IsTurnWith, after_verdict, begins, fails, flies, in_time, rests, settled}
use Rattle.mon_courier.specs.Verdict.{verdict_of}
use Rattle.mon_courier.specs.declared.courier.Line.{Line}
use Rattle.mon_courier.specs.declared.exchange.CallOutcome.{CallOutcome}
use Rattle.mon_courier.specs.declared.exchange.Stop.{Stop}
use Rattle.mon_courier.specs.declared.exchange.Stop.TheVariants.{Waits, Fails, Responds}
use Rattle.mon_courier.specs.declared.news.News.{News}
use Rattle.mon_courier.specs.declared.verdict.Verdict.{Verdict}
use Rattle.mon_courier.specs.declared.verdict.Verdict.TheVariants.{Delivered, TriedAgain, Refused}
use Rattle.mon_courier.proofs.Fates.{moved, hand_taken, dropped_taken, refused_taken, hand_dropped, dropped_dropped, refused_dropped, ended, texts_ended, hand_delivered, dropped_delivered, refused_delivered, hand_refused, dropped_refused, refused_refused}

counted : (n d : ℕ) → n ≡ min d (2 ^ 64 - 1) → next_count n ≡ min (d + 1) (2 ^ 64 - 1)
counted n d e = omega (arith, e)

-- what a put does to the texts that wait
put_is : (m : Mail) (text : List ℕ) → length text ≤ 4096 → length m.waiting < 256
    → after_put text m ≡ (let n : Mail = record { waiting = m.waiting ++ text ∷ []; dropped = m.dropped; too_long = m.too_long } in n)
put_is m text short few =
    let fits : nat_lt 4096 (length text) ≡ false = grind (arith, nat_tests) in
    let room : nat_lt (length m.waiting) 256 ≡ true = grind (arith, nat_tests) in
    ap (λ (b : Bool). cond b (let n : Mail = record { waiting = m.waiting; dropped = m.dropped; too_long = next_count m.too_long } in n) (after_text text m)) fits
    ∙ ap (λ (b : Bool). cond b (let n : Mail = record { waiting = m.waiting ++ text ∷ []; dropped = m.dropped; too_long = m.too_long } in n)
    (let n : Mail = record { waiting = drop 1 m.waiting ++ text ∷ []; dropped = next_count m.dropped; too_long = m.too_long } in n)) room

full_is : (m : Mail) (text : List ℕ) → length text ≤ 4096 → 256 ≤ length m.waiting
    → after_put text m ≡ (let n : Mail = record { waiting = drop 1 m.waiting ++ text ∷ []; dropped = next_count m.dropped; too_long = m.too_long } in n)
full_is m text short many =
    let fits : nat_lt 4096 (length text) ≡ false = grind (arith, nat_tests) in
    let room : nat_lt (length m.waiting) 256 ≡ false = grind (arith, nat_tests) in
    ap (λ (b : Bool). cond b (let n : Mail = record { waiting = m.waiting; dropped = m.dropped; too_long = next_count m.too_long } in n) (after_text text m)) fits
    ∙ ap (λ (b : Bool). cond b (let n : Mail = record { waiting = m.waiting ++ text ∷ []; dropped = m.dropped; too_long = m.too_long } in n)
    (let n : Mail = record { waiting = drop 1 m.waiting ++ text ∷ []; dropped = next_count m.dropped; too_long = m.too_long } in n)) room

long_is : (m : Mail) (text : List ℕ) → 4096 < length text
    → after_put text m ≡ (let n : Mail = record { waiting = m.waiting; dropped = m.dropped; too_long = next_count m.too_long } in n)
long_is m text long =
    let over : nat_lt 4096 (length text) ≡ true = grind (arith, nat_tests) in
    ap (λ (b : Bool). cond b (let n : Mail = record { waiting = m.waiting; dropped = m.dropped; too_long = next_count m.too_long } in n) (after_text text m)) over

-- the oldest of those that wait
first_rest : (waiting : List (List ℕ)) → 0 < length waiting → (text : List ℕ) × (rest : List (List ℕ)) × (waiting ≡ text ∷ rest)
first_rest [] some = absurd (omega arith)
first_rest (text ∷ rest) some = (text, rest, refl)

cases_of : (n : ℕ) → (n < 256) ⊎ (256 ≤ n)
cases_of n = grind arith

-- a text that is not too long came
put_kept : (came : List (List ℕ)) (long lost : ℕ) (m : Mail) (taken : Bool) (host path request : List ℕ) (l r : ℕ) (text : List ℕ)
    → length text ≤ 4096 → IsKeptBy came long lost m taken host path request l r
    → (length m.waiting < 256) ⊎ (256 ≤ length m.waiting)
    → IsKeptBy (came ++ text ∷ []) long lost (after_put text m) taken host path request l r
put_kept came long lost m taken host path request l r text short k (inl few) =
    subst (λ (n : Mail). IsKeptBy (came ++ text ∷ []) long lost n taken host path request l r) (sym (put_is m text short few)) (record {
      gone = k.gone;
      came_is = ap (λ (s : List (List ℕ)). s ++ text ∷ []) k.came_is ∙ append_assoc (map (λ g. g.0) k.gone) m.waiting (text ∷ []);
      in_hand = k.in_hand;
      dropped_is = k.dropped_is;
      refused_is = k.refused_is;
      long_is = k.long_is;
      lost_is = k.lost_is;
    })
put_kept came long lost m taken host path request l r text short k (inr many) =
    let (first, rest, is) = first_rest m.waiting (omega (arith, many)) in
    subst (λ (n : Mail). IsKeptBy (came ++ text ∷ []) long lost n taken host path request l r) (sym (full_is m text short many)) (record {
      gone = k.gone ++ (first, WasDropped) ∷ [];
      came_is = ap (λ (s : List (List ℕ)). s ++ text ∷ [])
          (k.came_is ∙ ap (λ (s : List (List ℕ)). map (λ g. g.0) k.gone ++ s) is ∙ moved k.gone first WasDropped rest)
          ∙ append_assoc (map (λ g. g.0) (k.gone ++ (first, WasDropped) ∷ [])) rest (text ∷ [])
          ∙ ap (λ (s : List (List ℕ)). map (λ g. g.0) (k.gone ++ (first, WasDropped) ∷ []) ++ (drop 1 s ++ text ∷ [])) (sym is);
      in_hand = subst (IsInHandBy taken host path request) (sym (hand_dropped k.gone first)) k.in_hand;
      dropped_is = counted m.dropped (dropped_of k.gone) k.dropped_is ∙ ap (λ (n : ℕ). min n (2 ^ 64 - 1)) (sym (dropped_dropped k.gone first));
      refused_is = k.refused_is ∙ ap (λ (n : ℕ). min n (2 ^ 64 - 1)) (sym (refused_dropped k.gone first));
      long_is = k.long_is;
      lost_is = k.lost_is;
    })

-- one that is too long came
long_kept : (came : List (List ℕ)) (long lost : ℕ) (m : Mail) (taken : Bool) (host path request : List ℕ) (l r : ℕ) (text : List ℕ)
    → 4096 < length text → IsKeptBy came long lost m taken host path request l r
    → IsKeptBy came (long + 1) lost (after_put text m) taken host path request l r
long_kept came long lost m taken host path request l r text over k =
    subst (λ (n : Mail). IsKeptBy came (long + 1) lost n taken host path request l r) (sym (long_is m text over)) (record {
      gone = k.gone;
      came_is = k.came_is;
      in_hand = k.in_hand;
      dropped_is = k.dropped_is;
      refused_is = k.refused_is;
      long_is = counted m.too_long long k.long_is;
      lost_is = k.lost_is;
    })

-- one could not be made
lost_kept : (came : List (List ℕ)) (long lost : ℕ) (m : Mail) (taken : Bool) (host path request : List ℕ) (l r : ℕ)
    → IsKeptBy came long lost m taken host path request l r → IsKeptBy came long (lost + 1) m taken host path request (next_count l) r
lost_kept came long lost m taken host path request l r k = record {
  gone = k.gone;
  came_is = k.came_is;
  in_hand = k.in_hand;
  dropped_is = k.dropped_is;
  refused_is = k.refused_is;
  long_is = k.long_is;
  lost_is = counted l lost k.lost_is;
}

-- the oldest was taken
taken_kept : (came : List (List ℕ)) (long lost : ℕ) (m : Mail) (host path request : List ℕ) (l r : ℕ) (text : List ℕ) (rest : List (List ℕ))
    → m.waiting ≡ text ∷ rest → IsKeptBy came long lost m false host path request l r
    → IsKeptBy came long lost (after_removal m) true host path (post_text host path text) l r
taken_kept came long lost m host path request l r text rest is k = record {
  gone = k.gone ++ (text, IsInHand) ∷ [];
  came_is = k.came_is ∙ ap (λ (s : List (List ℕ)). map (λ g. g.0) k.gone ++ s) is ∙ moved k.gone text IsInHand rest
      ∙ ap (λ (s : List (List ℕ)). map (λ g. g.0) (k.gone ++ (text, IsInHand) ∷ []) ++ drop 1 s) (sym is);
  in_hand = (text, hand_taken k.gone text ∙ ap (λ (s : List (List ℕ)). s ++ text ∷ []) k.in_hand, refl);
  dropped_is = k.dropped_is ∙ ap (λ (n : ℕ). min n (2 ^ 64 - 1)) (sym (dropped_taken k.gone text));
  refused_is = k.refused_is ∙ ap (λ (n : ℕ). min n (2 ^ 64 - 1)) (sym (refused_taken k.gone text));
  long_is = k.long_is;
  lost_is = k.lost_is;
}

-- the one in hand was delivered, or refused
delivered_kept : (came : List (List ℕ)) (long lost : ℕ) (m : Mail) (host path request : List ℕ) (l r : ℕ)
    → IsKeptBy came long lost m true host path request l r → IsKeptBy came long lost m false host path request l r
delivered_kept came long lost m host path request l r k = record {
  gone = ended WasDelivered k.gone;
  came_is = k.came_is ∙ ap (λ (s : List (List ℕ)). s ++ m.waiting) (texts_ended WasDelivered k.gone);
  in_hand = hand_delivered k.gone;
  dropped_is = k.dropped_is ∙ ap (λ (n : ℕ). min n (2 ^ 64 - 1)) (sym (dropped_delivered k.gone));
  refused_is = k.refused_is ∙ ap (λ (n : ℕ). min n (2 ^ 64 - 1)) (sym (refused_delivered k.gone));
  long_is = k.long_is;
  lost_is = k.lost_is;
}

refused_kept : (came : List (List ℕ)) (long lost : ℕ) (m : Mail) (host path request : List ℕ) (l r : ℕ)
    → IsKeptBy came long lost m true host path request l r → IsKeptBy came long lost m false host path request l (next_count r)
refused_kept came long lost m host path request l r k =
    let one : length (in_hand_of k.gone) ≡ 1 = ap (λ (s : List (List ℕ)). length s) k.in_hand.1 in
    let more : refused_of (ended WasRefused k.gone) ≡ refused_of k.gone + 1 = omega (arith, one, refused_refused k.gone) in record {
      gone = ended WasRefused k.gone;
      came_is = k.came_is ∙ ap (λ (s : List (List ℕ)). s ++ m.waiting) (texts_ended WasRefused k.gone);
      in_hand = hand_refused k.gone;
      dropped_is = k.dropped_is ∙ ap (λ (n : ℕ). min n (2 ^ 64 - 1)) (sym (dropped_refused k.gone));
      refused_is = counted r (refused_of k.gone) k.refused_is ∙ ap (λ (n : ℕ). min n (2 ^ 64 - 1)) (sym more);
      long_is = k.long_is;
      lost_is = k.lost_is;
    }

-- calls change neither receiver nor request
record Same (e f : Parts) : Type 0 where
  host_is : e.host ≡ f.host
  path_is : e.path ≡ f.path
  request_is : e.request ≡ f.request

itself : (e : Parts) → Same e e
itself e = record { host_is = refl; path_is = refl; request_is = refl }

offer_same : (answer : Result ℕ Error) (e : Parts) → Same e (after_offer answer e)
offer_same (Ok n) e = record { host_is = refl; path_is = refl; request_is = refl }
offer_same (Err error) e = itself e

step_same : {S : Type 0} (Wrote Read : Call S) (s t : S) (e f : Parts) (step : CallOutcome) → IsStep Wrote Read s e t f step → Same e f
step_same Wrote Read s t e f step (sends some sent) = subst (λ (p : Parts). Same e p) (sym sent.left) (offer_same sent.answer e)
step_same Wrote Read s t e f step (receives none came) =
    subst (λ (p : Parts). Same e p) (sym came.came) (record { host_is = refl; path_is = refl; request_is = refl })

steps_same : {S : Type 0} (Wrote Read : Call S) (left : ℕ) (s t : S) (e f : Parts) (stop : Stop) → AreSteps Wrote Read left s e t f stop → Same e f
steps_same Wrote Read left s t e f stop (spent s1 e1) = itself e1
steps_same Wrote Read left s t e f stop (stops n s1 t1 e1 f1 stop1 step) = step_same Wrote Read s1 t1 e1 f1 _ step
steps_same Wrote Read left s t e f stop (goes_on n s1 u t1 e1 g f1 stop1 step rest) =
    let one = step_same Wrote Read s1 u e1 g _ step in
    let more = steps_same Wrote Read n u t1 g f1 stop1 rest in
    record { host_is = one.host_is ∙ more.host_is; path_is = one.path_is ∙ more.path_is; request_is = one.request_is ∙ more.request_is }

parts_kept : {S : Type 0} (came : List (List ℕ)) (long lost : ℕ) (s : State S) (parts : Parts) → Same s.parts parts
    → IsKept came long lost s → IsKept came long lost (with_parts parts s)
parts_kept came long lost s parts same k =
    subst (λ (o : List ℕ). IsKeptBy came long lost s.mail s.taken parts.host parts.path o s.plan.lost s.plan.refused) same.request_is
    (subst (λ (o : List ℕ). IsKeptBy came long lost s.mail s.taken parts.host o s.parts.request s.plan.lost s.plan.refused) same.path_is
    (subst (λ (o : List ℕ). IsKeptBy came long lost s.mail s.taken o s.parts.path s.parts.request s.plan.lost s.plan.refused) same.host_is k))

-- an attempt goes on only with a text in hand
abbrev IsCarried : {S : Type 0} → Option (Line S) → Bool → Type 0
IsCarried (Some line) taken = taken ≡ true
IsCarried None taken = Unit {0}

abbrev Holds : {S : Type 0} → List (List ℕ) → (long lost : ℕ) → State S → Type 0
Holds came long lost s = IsKept came long lost s × IsCarried s.line s.taken

-- where no attempt goes on
idle : {S : Type 0} (s : State S) → s.line ≡ None → IsCarried s.line s.taken
idle {S} s none = subst (λ (l : Option (Line S)). IsCarried l s.taken) (sym none) tt

waited_kept : {S : Type 0} (came : List (List ℕ)) (long lost now : ℕ) (line : Line S) (s : State S) (b : Bool) → s.taken ≡ true → s.line ≡ None
    → IsKept came long lost s → Holds came long lost (cond b (with_line (Some line) s) (failed now s))
waited_kept came long lost now line s true taken none k = (k, taken)
waited_kept came long lost now line s false taken none k = (k, idle s none)

verdict_kept : {S : Type 0} (came : List (List ℕ)) (long lost now : ℕ) (s : State S) (v : Verdict) → s.taken ≡ true → s.line ≡ None
    → IsKept came long lost s → Holds came long lost (after_verdict v now s)
verdict_kept came long lost now s TriedAgain taken none k = (k, idle s none)
verdict_kept {S} came long lost now s Delivered taken none k = (
  delivered_kept came long lost s.mail s.parts.host s.parts.path s.parts.request s.plan.lost s.plan.refused
      (subst (λ (b : Bool). IsKeptBy came long lost s.mail b s.parts.host s.parts.path s.parts.request s.plan.lost s.plan.refused) taken k),
  subst (λ (l : Option (Line S)). IsCarried l false) (sym none) tt,
)
verdict_kept {S} came long lost now s Refused taken none k = (
  refused_kept came long lost s.mail s.parts.host s.parts.path s.parts.request s.plan.lost s.plan.refused
      (subst (λ (b : Bool). IsKeptBy came long lost s.mail b s.parts.host s.parts.path s.parts.request s.plan.lost s.plan.refused) taken k),
  subst (λ (l : Option (Line S)). IsCarried l false) (sym none) tt,
)

settled_kept : {S : Type 0} (came : List (List ℕ)) (long lost now : ℕ) (line : Line S) (s : State S) (stop : Stop) → s.taken ≡ true → s.line ≡ None
    → IsKept came long lost s → Holds came long lost (settled stop now line s)
settled_kept came long lost now line s Waits taken none k = waited_kept came long lost now line s (in_time now line.since) taken none k
settled_kept came long lost now line s (Fails cause) taken none k = (k, idle s none)
settled_kept came long lost now line s (Responds status) taken none k = verdict_kept came long lost now s (verdict_of status) taken none k

flight_kept : {S : Type 0} (Wrote Read : Call S) (came : List (List ℕ)) (long lost now : ℕ) (stream : S) (since : ℕ) (old new : State S) (said : Option News)
    → old.taken ≡ true → old.line ≡ None → IsKept came long lost old → IsFlight Wrote Read now stream since old new said
    → Holds came long lost new
flight_kept {S} Wrote Read came long lost now stream since old new said taken none k flight =
    let same = steps_same Wrote Read 32 stream flight.stream_after old.parts flight.parts_after flight.stop flight.steps in
    subst (λ (s : State S). Holds came long lost s) (sym flight.state_is)
    (settled_kept came long lost now (record { stream = flight.stream_after; since = since }) (with_parts flight.parts_after old) flight.stop taken none
    (parts_kept came long lost old flight.parts_after same k))

and_left : (a b : Bool) → (a && b) ≡ true → a ≡ true
and_left true b is = refl
and_left false b is = is

-- a request that is ready is that of the text in hand
record Ready {S : Type 0} (came : List (List ℕ)) (long lost : ℕ) (old new : State S) : Type 0 where
  taken_is : new.taken ≡ true
  line_is : new.line ≡ old.line
  kept : IsKept came long lost new

ready_from : {S : Type 0} (came : List (List ℕ)) (long lost : ℕ) (s : State S) (waiting : List (List ℕ)) → s.mail.waiting ≡ waiting → s.taken ≡ false
    → has_text s ≡ true → IsKept came long lost s → Ready came long lost s (taken_from waiting s)
ready_from came long lost s [] none free has k =
    let no : has_text s ≡ false = ap (λ (b : Bool). b || nat_lt 0 (length s.mail.waiting)) free ∙ ap (λ (w : List (List ℕ)). false || nat_lt 0 (length w)) none in
    absurd (true≢false (sym has ∙ no))
ready_from came long lost s (text ∷ rest) is free has k = record {
  taken_is = refl;
  line_is = refl;
  kept = taken_kept came long lost s.mail s.parts.host s.parts.path s.parts.request s.plan.lost s.plan.refused text rest is
      (subst (λ (b : Bool). IsKeptBy came long lost s.mail b s.parts.host s.parts.path s.parts.request s.plan.lost s.plan.refused) free k);
}

ready_by : {S : Type 0} (came : List (List ℕ)) (long lost : ℕ) (s : State S) (b : Bool) → s.taken ≡ b → has_text s ≡ true → IsKept came long lost s
    → Ready came long lost s (cond b (with_parts (restarted s.parts) s) (taken_from s.mail.waiting s))
ready_by came long lost s true is has k = record { taken_is = is; line_is = refl; kept = k }
ready_by came long lost s false is has k = ready_from came long lost s s.mail.waiting refl is has k

ready : {S : Type 0} (came : List (List ℕ)) (long lost now : ℕ) (s : State S) → is_due now s ≡ true → IsKept came long lost s
    → Ready came long lost s (prepared s)
ready came long lost now s due k = ready_by came long lost s s.taken refl (and_left (has_text s) (nat_le s.plan.due now) due) k

beginning_kept : {S : Type 0} (Connected : Connecting S) (Wrote Read : Call S) (came : List (List ℕ)) (long lost now : ℕ) (old new : State S) (said : Option News)
    → Ready came long lost old (prepared old) → old.line ≡ None → IsBeginning Connected Wrote Read now old new said → Holds came long lost new
beginning_kept {S} Connected Wrote Read came long lost now old new said done none (fails error asked is news) =
    subst (λ (s : State S). Holds came long lost s) (sym is) (done.kept, idle (prepared old) (done.line_is ∙ none))
beginning_kept Connected Wrote Read came long lost now old new said done none (flies stream asked flight) =
    flight_kept Wrote Read came long lost now stream now (prepared old) new said done.taken_is (done.line_is ∙ none) done.kept flight

start_kept : {S : Type 0} (Connected : Connecting S) (Wrote Read : Call S) (came : List (List ℕ)) (long lost now : ℕ) (old new : State S) (said : Option News)
    → IsKept came long lost old → old.line ≡ None → IsStart Connected Wrote Read now old new said → Holds came long lost new
start_kept {S} Connected Wrote Read came long lost now old new said k none (rests early is news) =
    subst (λ (s : State S). Holds came long lost s) (sym is) (k, idle old none)
start_kept Connected Wrote Read came long lost now old new said k none (begins due beginning) =
    beginning_kept Connected Wrote Read came long lost now old new said (ready came long lost now old due k) none beginning

turn_kept : {S : Type 0} (Connected : Connecting S) (Wrote Read : Call S) (came : List (List ℕ)) (long lost now : ℕ) (old new : State S) (said : Option News)
    (line : Option (Line S)) → old.line ≡ line → IsKept came long lost old → IsCarried line old.taken
    → IsTurnWith line Connected Wrote Read now old new said → Holds came long lost new
turn_kept Connected Wrote Read came long lost now old new said None none k carried start =
    start_kept Connected Wrote Read came long lost now old new said k none start
turn_kept Connected Wrote Read came long lost now old new said (Some line) is k carried flight =
    flight_kept Wrote Read came long lost now line.stream line.since (with_line None old) new said carried refl k flight

holds : {S : Type 0} (Connected : Connecting S) (Wrote Read : Call S) (came : List (List ℕ)) (long lost : ℕ) (s : State S)
    → History Connected Wrote Read came long lost s → Holds came long lost s
holds Connected Wrote Read came long lost s (began host path address) = (
  record {
    gone = [];
    came_is = refl;
    in_hand = refl;
    dropped_is = omega arith;
    refused_is = omega arith;
    long_is = omega arith;
    lost_is = omega arith;
  },
  tt,
)
holds Connected Wrote Read came long lost s (put before n o t text h short) =
    let k = holds Connected Wrote Read before n o t h in
    (put_kept before n o t.mail t.taken t.parts.host t.parts.path t.parts.request t.plan.lost t.plan.refused text short k.0 (cases_of (length t.mail.waiting)), k.1)
holds Connected Wrote Read came long lost s (put_long before n o t text h over) =
    let k = holds Connected Wrote Read before n o t h in
    (long_kept before n o t.mail t.taken t.parts.host t.parts.path t.parts.request t.plan.lost t.plan.refused text over k.0, k.1)
holds Connected Wrote Read came long lost s (lose before n o t h) =
    let k = holds Connected Wrote Read before n o t h in
    (lost_kept before n o t.mail t.taken t.parts.host t.parts.path t.parts.request t.plan.lost t.plan.refused k.0, k.1)
holds Connected Wrote Read came long lost s (turn before n o now old new said h turned) =
    let k = holds Connected Wrote Read before n o old h in
    turn_kept Connected Wrote Read before n o now old new said old.line refl k.0 k.1 turned

-- what becomes of each text
pub kept : {S : Type 0} (Connected : Connecting S) (Wrote Read : Call S) (came : List (List ℕ)) (long lost : ℕ) (s : State S)
    → History Connected Wrote Read came long lost s → IsKept came long lost s
kept Connected Wrote Read came long lost s h = (holds Connected Wrote Read came long lost s h).0
