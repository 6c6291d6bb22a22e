-- Changes of trouble that are said.
use Rattle.mon_file_commands.specs.Line.{AreNoted, Line}
use Rattle.std.proofs.Common.{◌≡◌, ◌∙◌, ◌+◌, ◌∷◌, ◌||◌, Bool, List, ℕ, [], ap, arith, length, map, option_map, refl, slice_get, subst, suc, sym, string_bytes, take}
use Rattle.std.proofs.lemmas.List.{length-map}
use Rattle.std.proofs.lemmas.Option.{slice_get-map}
use Rattle.std.specs.List.{list_any, take-map}
use Rattle.std.specs.Prelude.{IfOk, IsErrAnd, Option, None, Some, Result, Ok, Err, String, false, slice_get, true}
use Rattle.std.specs.Global.{Global}
use Rattle.std.specs.declared.alloc.AllocError.{AllocError}
use Rattle.mon_console.specs.Failure.{IsMemory}
use Rattle.mon_console.specs.declared.failure.Failure.{Failure}
use Rattle.mon_host.specs.declared.level.Level.{Level}
use Rattle.mon_host.specs.AtHost.{AtHost}
use Rattle.mon_host.specs.Log.{GoesOnBy}
use Rattle.mon_host.proofs.Promised.{stays, weaker}
use Rattle.mon_rounds.specs.declared.changes.Change.{Change}
use Rattle.mon_rounds.specs.declared.freshness.Freshness.{Freshness}
use Rattle.mon_station_commands.specs.Spans.{AreTroublesOf}
use Rattle.mon_station_commands.specs.Telling.{text_lines}
use Rattle.mon_station_commands.specs.Troubles.{AreAllSaid, AreSomeSaid, AreTroublesSaid, IsText, KeyText, count_alike, joins, key_in, key_of, key_text, level_of, lines_before, lines_of, text_at, text_of, text_unless}
use Rattle.mon_station_commands.specs.declared.troubles.Facts.{Facts}
use Rattle.mon_station_commands.specs.declared.troubles.Key.{Key}
use Rattle.mon_station_commands.proofs.Notes.{noted_on}

-- a test of keys, of what they have
any_keys : (keys : List Key) (key : KeyText) → list_any (λ other. joins (key_in other) key) keys ≡ list_any (λ other. joins other key) (map key_in keys)
any_keys [] key = refl
any_keys (k ∷ ks) key = ap (λ (b : Bool). joins (key_in k) key || b) (any_keys ks key)

-- the text of the change at a place, by whether it is said with one before it
pub text_is : (facts : Facts) (keys : List Key) (place : ℕ) (key : Key) (before : Bool) → slice_get keys place ≡ Some key
    → before ≡ list_any (λ other. joins (key_in other) (key_in key)) (take place keys)
    → text_unless before facts (map key_in keys) (key_in key) ≡ text_at facts (map key_in keys) place
text_is facts keys place key before is said =
    let found : slice_get (map key_in keys) place ≡ Some (key_in key) = slice_get-map key_in keys place ∙ ap (λ (o : Option Key). option_map key_in o) is in
    let test : before ≡ list_any (λ other. joins other (key_in key)) (take place (map key_in keys)) =
    said ∙ (any_keys (take place keys) (key_in key) ∙ ap (λ (ks : List KeyText). list_any (λ other. joins other (key_in key)) ks) (sym (take-map key_in place keys))) in
    ap (λ (b : Bool). text_unless b facts (map key_in keys) (key_in key)) test
    ∙ ap (λ (o : Option KeyText). text_of facts (map key_in keys) place o) (sym found)

-- a change that is said with one before it has no text of its own
pub said_before : (facts : Facts) (keys : List Key) (place : ℕ) (key : Key) (before : Bool) (text : List ℕ) → slice_get keys place ≡ Some key → before ≡ true
    → before ≡ list_any (λ other. joins (key_in other) (key_in key)) (take place keys) → text ≡ [] → IsText (text_at facts (map key_in keys) place) text
said_before facts keys place key before text is true-is said none =
    subst (λ (o : Option (List ℕ)). IsText o text) (text_is facts keys place key before is said)
    (subst (λ (b : Bool). IsText (text_unless b facts (map key_in keys) (key_in key)) text) (sym true-is) none)

-- another one has the text of its key
pub said_by_key : (facts : Facts) (keys : List Key) (place : ℕ) (key : Key) (before : Bool) (alike : ℕ) (r : Result (String Global) AllocError) → slice_get keys place ≡ Some key
    → before ≡ false → before ≡ list_any (λ other. joins (key_in other) (key_in key)) (take place keys) → alike ≡ count_alike (map key_in keys) (key_in key)
    → IfOk r (λ text. IsText (key_text facts (key_in key) alike) (string_bytes text)) → IfOk r (λ text. IsText (text_at facts (map key_in keys) place) (string_bytes text))
said_by_key facts keys place key before alike r is false-is said count text =
    subst (λ (o : Option (List ℕ)). IfOk r (λ text. IsText o (string_bytes text))) (text_is facts keys place key before is said)
    (subst (λ (b : Bool). IfOk r (λ text. IsText (text_unless b facts (map key_in keys) (key_in key)) (string_bytes text))) (sym false-is)
    (subst (λ (n : ℕ). IfOk r (λ text. IsText (key_text facts (key_in key) n) (string_bytes text))) count text))

-- nothing was said
pub unsaid : (told : Option (List AtHost)) → GoesOnBy AreSomeSaid told told
unsaid told = record { more = []; holds = ([], refl); on = stays told }

pub unsaid_for : (facts : Facts) (round : ℕ) (changes : List Change) (fault : AllocError) (r : Result Unit AllocError) (told : Option (List AtHost))
    → IsErrAnd r (λ f. f ≡ fault) → GoesOnBy (λ log. AreTroublesSaid facts round changes log r) told told
unsaid_for facts round changes fault (Ok done) told is = absurd is
unsaid_for facts round changes fault (Err e) told is = unsaid told

one_on : (n : ℕ) → suc n ≡ n + 1
one_on n = grind arith

pub some_said : (lines : List Line) (before after : Option (List AtHost)) → GoesOnBy (AreNoted lines) before after → GoesOnBy AreSomeSaid before after
some_said lines before after = weaker (AreNoted lines) AreSomeSaid before after (λ log is. (lines, is))

-- the lines of a text are those that are expected
as_wanted : (v : Level) (round : ℕ) (wanted : Option (List ℕ)) (text : List ℕ) (log : List AtHost) → IsText wanted text → AreNoted (text_lines v round text) log → AreNoted (lines_of v round wanted) log
as_wanted v round (Some known) text log is noted = subst (λ (t : List ℕ). AreNoted (text_lines v round t) log) is noted
as_wanted v round None [] log is noted = absurd (is refl)
as_wanted v round None (c ∷ cs) log is (octets, rest, known, none, log_is) = (octets, rest, tt, none, log_is)

-- a change more
pub change_more : (facts : Facts) (v : Level) (round : ℕ) (keys : List KeyText) (place : ℕ) (text : List ℕ) (before between after : Option (List AtHost))
    → v ≡ level_of (slice_get keys place) → IsText (text_at facts keys place) text → GoesOnBy (AreNoted (lines_before facts round keys place)) before between
    → GoesOnBy (AreNoted (text_lines v round text)) between after → GoesOnBy (AreNoted (lines_before facts round keys (place + 1))) before after
change_more facts v round keys place text before between after same is first second =
    let own = level_of (slice_get keys place) in
    subst (λ (n : ℕ). GoesOnBy (AreNoted (lines_before facts round keys n)) before after) (one_on place)
    (noted_on (lines_before facts round keys place) (lines_of own round (text_at facts keys place)) before between after first
    (weaker (AreNoted (text_lines own round text)) (AreNoted (lines_of own round (text_at facts keys place))) between after (λ log noted. as_wanted own round (text_at facts keys place) text log is noted)
    (subst (λ (w : Level). GoesOnBy (AreNoted (text_lines w round text)) between after) same second)))

-- all of them
pub all_said : (facts : Facts) (round : ℕ) (changes : List Change) (keys : List KeyText) (place : ℕ) (before after : Option (List AtHost)) → keys ≡ map (key_of facts) changes
    → place ≡ length keys → GoesOnBy (AreNoted (lines_before facts round keys place)) before after → GoesOnBy (AreAllSaid facts round changes) before after
all_said facts round changes keys place before after same end said =
    subst (λ (n : ℕ). GoesOnBy (AreNoted (lines_before facts round (map (key_of facts) changes) n)) before after)
    (end ∙ (ap length same ∙ length-map changes (key_of facts)))
    (subst (λ (ks : List KeyText). GoesOnBy (AreNoted (lines_before facts round ks place)) before after) same said)

module _ (fresh : Freshness) (round : ℕ) (changes : List Change) where
  -- there was no memory for the changes
  pub untaken : (r : Result Unit Failure) (told : Option (List AtHost)) → IsErrAnd r IsMemory → GoesOnBy (λ log. AreTroublesOf fresh round changes log r) told told
  untaken (Ok done) told is = absurd is
  untaken (Err failure) told is = record { more = []; holds = (is, ([], refl)); on = stays told }

  -- memory ran out for a line
  pub half_said : (r : Result Unit Failure) (before after : Option (List AtHost)) → IsErrAnd r IsMemory
      → GoesOnBy AreSomeSaid before after → GoesOnBy (λ log. AreTroublesOf fresh round changes log r) before after
  half_said (Ok done) before after is said = absurd is
  half_said (Err failure) before after is said = weaker AreSomeSaid (λ log. AreTroublesOf fresh round changes log (Err failure)) before after (λ log some. (is, some)) said

  -- all were said
  pub whole_said : (facts : Facts) (done : Unit {0}) (others : List Change) (before after : Option (List AtHost)) → facts.freshness.now ≡ fresh → others ≡ changes
      → GoesOnBy (λ log. AreTroublesSaid facts round others log (Ok done)) before after → GoesOnBy (λ log. AreTroublesOf fresh round changes log (Ok tt)) before after
  whole_said facts done others before after is same said =
      weaker (AreAllSaid facts round changes) (λ log. AreTroublesOf fresh round changes log (Ok tt)) before after (λ log all. (facts, is, all))
      (subst (λ (cs : List Change). GoesOnBy (AreAllSaid facts round cs) before after) same said)
