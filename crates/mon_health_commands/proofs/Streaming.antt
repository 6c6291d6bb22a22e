-- Events at a stream, one after another.
use Rattle.std.proofs.Math.Nat.{min-eq_left}
use Rattle.std.proofs.lemmas.Bool.Decides.{nat_tests}
use Rattle.std.proofs.lemmas.List.{length-drop, length-take, take_all}
use Rattle.std.proofs.Common.{arith, ◌≤◌, min, ◌≡◌, ◌≢◌, ◌-◌, ◌==◌, ℕ, zero, suc, Bool, true, false, List, [], ◌∷◌, ◌++◌, drop, take, length, ap, refl, sym, subst, true≢false, ◌∙◌}
use Rattle.std.specs.Prelude.{IsErrAnd, Option, Result, Ok, Err, if◌then◌else◌}
use Rattle.std.specs.Result.{is_ok}
use Rattle.std.specs.IoError.{error_kind}
use Rattle.std.specs.declared.io.Error.{Error}
use Rattle.std.specs.declared.io.ErrorKind.{ErrorKind}
use Rattle.mon_host.specs.Log.{GoesOn, GoesOnBy}
use Rattle.mon_host.proofs.Promised.{goes_on as on_and_on, once, stays, then_fails, then_follows, weaker}
use Rattle.mon_host.specs.Then.{Then}
use Rattle.mon_http_client.specs.Response.{IsProgress}
use Rattle.mon_http_client.specs.declared.response.Progress.{Progress}
use Rattle.mon_http_client.specs.declared.response.Progress.TheVariants.{More, Refused, Response}
use Rattle.mon_health_commands.specs.AtStream.{AtStream, Offered, Received}
use Rattle.mon_health_commands.specs.Asking.{IsReceiving, IsSending, most_octets, sent, took, stuck, unsent, IsPiece, came, ended, broke, scattered, failed, malformed, whole, goes_on as and_more}
use Rattle.mon_health_commands.specs.declared.trouble.Trouble.{Trouble}
use Rattle.mon_health_commands.specs.declared.trouble.Trouble.TheVariants.{Broken, Closed, Malformed, Scattered}

-- nothing is left to be sent
pub nothing_left : (octets : List ℕ) (told : Option (List AtStream)) → octets ≡ []
    → GoesOnBy (λ log. IsSending octets log (Ok tt)) told told
nothing_left octets told none = record {
  more = [];
  holds = subst (λ (o : List ℕ). IsSending o [] (Ok tt)) (sym none) sent;
  on = stays told;
}

-- the stream took none of them
pub is_stuck : (octets : List ℕ) (n : ℕ) (before after : Option (List AtStream)) → octets ≢ [] → n ≡ 0
    → GoesOn (Offered octets (Ok n) ∷ []) before after → GoesOnBy (λ log. IsSending octets log (Err Closed)) before after
is_stuck octets n before after some none on =
    once (λ log. IsSending octets log (Err Closed)) (Offered octets (Ok 0)) before after (stuck octets some)
    (subst (λ (k : ℕ). GoesOn (Offered octets (Ok k) ∷ []) before after) none on)

-- the stream failed
pub is_unsent : (octets : List ℕ) (kind : ErrorKind) (before after : Option (List AtStream)) → octets ≢ []
    → GoesOn (Offered octets (Err kind) ∷ []) before after → GoesOnBy (λ log. IsSending octets log (Err (Broken kind))) before after
is_unsent octets kind before after some on =
    once (λ log. IsSending octets log (Err (Broken kind))) (Offered octets (Err kind)) before after (unsent octets kind some) on

-- what is left of octets, cut off at their end
rest_is : (octets : List ℕ) (n : ℕ) → take (length octets - n) (drop n octets) ≡ drop n octets
rest_is octets n = take_all (length octets - n) (drop n octets) (omega (arith, length-drop n octets))

-- the stream took some of them, and the others were sent
pub went_on : (octets : List ℕ) (n : ℕ) (result : Result Unit Trouble) (before between after : Option (List AtStream)) → octets ≢ [] → n ≢ 0
    → GoesOn (Offered octets (Ok n) ∷ []) before between → GoesOnBy (λ log. IsSending (take (length octets - n) (drop n octets)) log result) between after
    → GoesOnBy (λ log. IsSending octets log result) before after
went_on octets zero result before between after some is on rest = absurd (is refl)
went_on octets (suc n) result before between after some is on rest = record {
  more = Offered octets (Ok (suc n)) ∷ rest.more;
  holds = took octets n rest.more result some (subst (λ (o : List ℕ). IsSending o rest.more result) (rest_is octets (suc n)) rest.holds);
  on = on_and_on (Offered octets (Ok (suc n)) ∷ []) rest.more before between after on rest.on;
}

not_zero : (n : ℕ) → (suc n == 0) ≡ true → ⊥
not_zero n is = grind (arith, nat_tests)

-- what a test for emptiness says
pub none_there : (octets : List ℕ) (b : Bool) → b ≡ (length octets == 0) → b ≡ true → octets ≡ []
none_there [] b is was = refl
none_there (o ∷ os) b is was = absurd (not_zero (length os) (sym is ∙ was))

pub some_there : (octets : List ℕ) (b : Bool) → b ≡ (length octets == 0) → b ≡ false → octets ≢ []
some_there octets b is not none = true≢false (sym (ap (λ (o : List ℕ). length o == 0) none) ∙ (sym is ∙ not))

-- no further piece may come
pub is_scattered : (left : ℕ) (seen : List ℕ) (told : Option (List AtStream)) → left ≡ 0
    → GoesOnBy (λ log. IsReceiving left seen log (Err Scattered)) told told
is_scattered left seen told none = record {
  more = [];
  holds = subst (λ (n : ℕ). IsReceiving n seen [] (Err Scattered)) (sym none) (scattered seen);
  on = stays told;
}

-- no piece came
pub has_failed : (left : ℕ) (seen now : List ℕ) (trouble : Trouble) (r : Result ℕ Trouble) (before after : Option (List AtStream))
    → left ≢ 0 → IsErrAnd r (λ t. t ≡ trouble) → GoesOnBy (λ log. IsPiece seen now log (Err trouble)) before after
    → GoesOnBy (λ log. IsReceiving left seen log r) before after
has_failed left seen now trouble (Ok status) before after some is piece = absurd is
has_failed zero seen now trouble (Err t) before after some is piece = absurd (some refl)
has_failed (suc n) seen now trouble (Err t) before after some is piece =
    weaker (λ log. IsPiece seen now log (Err trouble)) (λ log. IsReceiving (suc n) seen log (Err t)) before after
    (λ log holds. subst (λ (u : Trouble). IsReceiving (suc n) seen log (Err u)) (sym is) (failed n seen now log trouble holds)) piece

-- the octets are no response
pub is_malformed : (left : ℕ) (seen now : List ℕ) (before after : Option (List AtStream)) → left ≢ 0 → IsProgress now Refused
    → GoesOnBy (λ log. IsPiece seen now log (Ok tt)) before after → GoesOnBy (λ log. IsReceiving left seen log (Err Malformed)) before after
is_malformed zero seen now before after some progress piece = absurd (some refl)
is_malformed (suc n) seen now before after some progress piece =
    weaker (λ log. IsPiece seen now log (Ok tt)) (λ log. IsReceiving (suc n) seen log (Err Malformed)) before after
    (λ log holds. malformed n seen now log holds progress) piece

-- the head of a response is whole
pub is_whole : (left : ℕ) (seen now : List ℕ) (status len : ℕ) (before after : Option (List AtStream)) → left ≢ 0
    → IsProgress now (Response status len) → GoesOnBy (λ log. IsPiece seen now log (Ok tt)) before after
    → GoesOnBy (λ log. IsReceiving left seen log (Ok status)) before after
is_whole zero seen now status len before after some progress piece = absurd (some refl)
is_whole (suc n) seen now status len before after some progress piece =
    weaker (λ log. IsPiece seen now log (Ok tt)) (λ log. IsReceiving (suc n) seen log (Ok status)) before after
    (λ log holds. whole n seen now log status len holds progress) piece

one_less : (n : ℕ) → suc n - 1 ≡ n
one_less n = omega arith

-- more is needed
pub needs_more : (left : ℕ) (seen now : List ℕ) (result : Result ℕ Trouble) (before between after : Option (List AtStream)) → left ≢ 0
    → IsProgress now More → GoesOnBy (λ log. IsPiece seen now log (Ok tt)) before between
    → GoesOnBy (λ log. IsReceiving (left - 1) now log result) between after
    → GoesOnBy (λ log. IsReceiving left seen log result) before after
needs_more zero seen now result before between after some progress piece rest = absurd (some refl)
needs_more (suc n) seen now result before between after some progress piece rest = record {
  more = piece.more ++ rest.more;
  holds = and_more n seen now piece.more rest.more result piece.holds progress
      (subst (λ (m : ℕ). IsReceiving m now rest.more result) (one_less n) rest.holds);
  on = on_and_on piece.more rest.more before between after piece.on rest.on;
}

-- a piece was asked for, and the stream failed
pub piece_broke : (seen : List ℕ) (size : ℕ) (kind same : ErrorKind) (before after : Option (List AtStream)) → size ≡ most_octets - length seen
    → same ≡ kind → GoesOn (Received size (Err kind) ∷ []) before after
    → GoesOnBy (λ log. IsPiece seen seen log (Err (Broken same))) before after
piece_broke seen size kind same before after is likewise on =
    once (λ log. IsPiece seen seen log (Err (Broken same))) (Received (most_octets - length seen) (Err same)) before after (broke same)
    (subst (λ (n : ℕ). GoesOn (Received n (Err same) ∷ []) before after) is
    (subst (λ (k : ErrorKind). GoesOn (Received size (Err k) ∷ []) before after) (sym likewise) on))

-- a piece was asked for, and the stream ended
pub piece_ended : (seen buffer : List ℕ) (n : ℕ) (before after : Option (List AtStream)) → length buffer ≡ most_octets - length seen → n ≡ 0
    → GoesOn (Received (length buffer) (Ok (take n buffer)) ∷ []) before after
    → GoesOnBy (λ log. IsPiece seen seen log (Err Closed)) before after
piece_ended seen buffer n before after is none on =
    once (λ log. IsPiece seen seen log (Err Closed)) (Received (most_octets - length seen) (Ok [])) before after ended
    (subst (λ (size : ℕ). GoesOn (Received size (Ok []) ∷ []) before after) is
    (subst (λ (k : ℕ). GoesOn (Received (length buffer) (Ok (take k buffer)) ∷ []) before after) none on))

some_taken : (buffer : List ℕ) (n : ℕ) → n ≢ 0 → n ≤ length buffer → take n buffer ≢ []
some_taken buffer n some within none =
    some (sym (min-eq_left within) ∙ (sym (length-take n buffer) ∙ ap (λ (o : List ℕ). length o) none))

-- a piece was asked for, and came
pub piece_came : (seen now buffer : List ℕ) (n : ℕ) (before after : Option (List AtStream)) → length buffer ≡ most_octets - length seen
    → n ≢ 0 → n ≤ length buffer → now ≡ seen ++ take n buffer → GoesOn (Received (length buffer) (Ok (take n buffer)) ∷ []) before after
    → GoesOnBy (λ log. IsPiece seen now log (Ok tt)) before after
piece_came seen now buffer n before after is some within all on =
    subst (λ (o : List ℕ). GoesOnBy (λ log. IsPiece seen o log (Ok tt)) before after) (sym all)
    (once (λ log. IsPiece seen (seen ++ take n buffer) log (Ok tt)) (Received (most_octets - length seen) (Ok (take n buffer))) before after
    (came (take n buffer) (some_taken buffer n some within))
    (subst (λ (size : ℕ). GoesOn (Received size (Ok (take n buffer)) ∷ []) before after) is on))

-- a step that was done, and those after it
pub follows : {A B : Type 0} → (First : List AtStream → Result A Trouble → Type 0) (Second : A → List AtStream → Result B Trouble → Type 0)
    (value : A) (result : Result B Trouble) (before between after : Option (List AtStream))
    → GoesOnBy (λ log. First log (Ok value)) before between → GoesOnBy (λ log. Second value log result) between after
    → GoesOnBy (λ log. Then First Second log result) before after
follows First Second value result before between after first second = then_follows First Second (Ok value) result before between after first second

-- a step that failed, as the `?` after it says
pub stopped : {A B : Type 0} → (First : List AtStream → Result A Trouble → Type 0) (Second : A → List AtStream → Result B Trouble → Type 0)
    (trouble : Trouble) (r : Result B Trouble) (before after : Option (List AtStream)) → IsErrAnd r (λ t. t ≡ trouble)
    → GoesOnBy (λ log. First log (Err trouble)) before after → GoesOnBy (λ log. Then First Second log r) before after
stopped First Second trouble (Ok value) before after is first = absurd is
stopped {B = B} First Second trouble (Err t) before after is first =
    subst (λ (u : Trouble). GoesOnBy (λ log. Then First Second log (let e : Result B Trouble = Err u in e)) before after) (sym is)
    (then_fails First Second trouble before after first)

-- octets were added, for which there was capacity
pub added : {E : Type 0} → (seen more now : List ℕ) (r : Result Unit E) (done : Unit {0}) → now ≡ (if is_ok r then seen ++ more else seen) → r ≡ Ok done → now ≡ seen ++ more
added {E = E} seen more now r done all well = all ∙ ap (λ (x : Result Unit E). if is_ok x then seen ++ more else seen) well
