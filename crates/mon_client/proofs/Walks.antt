-- What is answered, what is printed, and a walk, turn by turn.
use Rattle.std.proofs.Common.{◌≡◌, ℕ, ℤ, zero, suc, pos, ◌+◌, ◌<◌, ◌≤◌, arith, length, Bool, false, true, List, [], ◌∷◌, ◌++◌, refl, sym, ap, ◌∙◌, subst, inl, inr, add-one}
use Rattle.std.specs.Prelude.{◌⊎◌, ◌||◌, drop, get_or, nat_lt, IfErr, IfOk, Option, Some, None, Result, Ok, Err}
use Rattle.std.proofs.lemmas.Bool.Decides.{nat_tests}
use Rattle.std.proofs.lemmas.List.{append-nil, append_assoc, drop_all, drop_more}
use Rattle.mon_host.proofs.Promised as host
use Rattle.mon_host.specs.AtHost.{AtHost}
use Rattle.mon_host.specs.Log as host_log
use Rattle.mon_udp.specs.Told.{GoesOnBy}
use Rattle.mon_udp.proofs.Promised.{extended_by_none, extended_on}
use Rattle.mon_pdu.specs.declared.message.Binding.{Binding}
use Rattle.mon_app.specs.declared.fault.AppFault.{AppFault}
use Rattle.mon_app.specs.declared.fault.AppFault.TheVariants as faults
use Rattle.mon_client.specs.declared.fault.WalkFault.{WalkFault}
use Rattle.mon_client.specs.declared.fault.WalkFault.TheVariants.{App, Output}
use Rattle.mon_client.specs.declared.question.Asking.{Asking}
use Rattle.mon_client.specs.AtWire.{AtWire}
use Rattle.mon_client.specs.Printed.{IsQuestionAnswered}
use Rattle.mon_client.specs.Question.{QuestionParts}
use Rattle.mon_client.specs.Walk.{AreTurns, EndsAt, EndsInLines, Follows, HasWalked, IsAlong, IsNotedAfter, IsOfLines, IsSaid, IsTurn, IsUnsaid, IsWalk, IsWalkStep, SaysWhether, has_some, name_in, walk_failures}
use Rattle.mon_client.specs.declared.walking.WalkStep.TheVariants.{On}
use Rattle.mon_client.specs.declared.walking.Turned.{Turned}
use Rattle.mon_client.specs.declared.walking.Turned.TheVariants as turned
use Rattle.mon_client.proofs.Askings.{Log}

-- a question of these parts is the walk's
pub asked_next : (a : Asking) (community name : List ℕ) (names : List (List ℕ)) (id : ℤ) (n : ℕ) → id ≡ pos n → names ≡ name ∷ []
    → (let q : QuestionParts = record { asking = a; request_id = id; community = community; names = names } in q) ≡ record { asking = a; request_id = pos n; community = community; names = name ∷ [] }
asked_next a community name names id n is named =
    let q : ℤ → List (List ℕ) → QuestionParts = λ i ns. record { asking = a; request_id = i; community = community; names = ns } in
    ap (λ (i : ℤ). q i names) is ∙ ap (λ (ns : List (List ℕ)). q (pos n) ns) named

-- what a host states of what was done
abbrev pub Done : Type 0
Done = Option (List AtHost)

-- this happened at the wire, and this was printed
abbrev pub Both : (List AtWire → List AtHost → Type 0) → Log → Log → Done → Done → Type 0
Both Holds before after done more = GoesOnBy (λ log. host_log.GoesOnBy (λ said. Holds log said) done more) before after

-- what a walk itself fails with is no failure of the wire
pub no_failure : {A : Type 0} → (r : Result A WalkFault) (fault : WalkFault) (count now : ℕ) → r ≡ Err fault → IsOfLines fault → now ≡ count → now ≡ walk_failures r count
no_failure r fault count now is of_lines same = same ∙ sym (ap (λ x. walk_failures x count) is ∙ quiet fault of_lines)
  where
    quiet : (fault : WalkFault) → IsOfLines fault → (let x : Result (Unit {0}) WalkFault = Err fault in walk_failures x count) ≡ count
    quiet (App faults.OutOfMemory) is = refl
    quiet (App faults.FileFault) is = refl
    quiet (App faults.NotIncreasing) is = refl
    quiet (App faults.Timeout) is = refl
    quiet (App (faults.AgentStatus status index)) is = refl
    quiet (App faults.BadText) is = refl
    quiet (App (faults.SocketFault reason)) is = absurd is
    quiet (Output reason) is = refl

-- what is done after a walk that ended well fails by no socket
pub noted_failure : (r : Result Unit WalkFault) (count now : ℕ) → IfErr r IsOfLines → now ≡ count → now ≡ walk_failures r count
noted_failure (Ok done) count now of_lines same = same
noted_failure (Err fault) count now of_lines same = no_failure (let r : Result Unit WalkFault = Err fault in r) fault count now refl of_lines same

-- a line more is a line
some_after : (before line : List AtHost) (a : AtHost) → line ≡ a ∷ [] → true ≡ has_some (before ++ line)
some_after [] line a is = sym (ap has_some is)
some_after (x ∷ xs) line a is = refl

-- something was done if it was before, or then
joined : (xs ys : List AtHost) → has_some (xs ++ ys) ≡ (has_some xs || has_some ys)
joined [] ys = refl
joined (x ∷ xs) ys = refl

or_true : (a b : Bool) → b ≡ true → (a || b) ≡ true
or_true true b is = refl
or_true false b is = is

above : (n : ℕ) → nat_lt 0 (suc n) ≡ true
above n = grind (arith, nat_tests)

-- a turn that failed says nothing of lines
pub no_whether : (r : Result Turned WalkFault) (fault : WalkFault) → r ≡ Err fault → (said : List AtHost) → SaysWhether said r
no_whether r fault is said = subst (λ (x : Result Turned WalkFault). SaysWhether said x) (sym is) tt

some_is_no_fault : {name : Option (List ℕ)} {fault : WalkFault} → (let a : Result (Option (List ℕ)) WalkFault = Ok name in a) ≡ Err fault → ⊥
some_is_no_fault p = cc

module _ (show : List ℕ → List ℕ) where
  -- a turn after which the walk goes on printed a line
  prints : (start last name : List ℕ) (answer : Result (List Binding) AppFault) (said : List AtHost) → Follows show start last answer said (Ok (Some name)) → has_some said ≡ true
  prints start last name (Ok []) said (none, is) = absurd (some_is_no_fault is)
  prints start last name (Ok (b ∷ bs)) said (inl ends) = absurd ends
  prints start last name (Ok (b ∷ bs)) said (inr (step, (rest, is, more))) = ap has_some is
  prints start last name (Err fault) said (none, is) = absurd (some_is_no_fault is)

  -- a fault of the question is the turn's, and nothing is said
  pub fault_of_turn : (q : QuestionParts) (start last : List ℕ) (before after : Log) (text : Done) (fault : AppFault) → GoesOnBy (λ log. IsQuestionAnswered q log (Err fault)) before after
      → Both (λ log said. IsTurn show q start last said log (Err (App fault)) × SaysWhether said (Err (App fault))) before after text text
  fault_of_turn q start last before after text fault asked = record {
    more = asked.more;
    holds = record { more = []; holds = (record { answer = Err fault; answered = asked.holds; follows = (refl, refl) }, tt); on = host.stays text };
    told = asked.told;
  }

  -- what is said of the answer is said in the turn
  pub turn_of : (q : QuestionParts) (start last : List ℕ) (before after : Log) (text more : Done) (found : List Binding) (r : Result Turned WalkFault)
      → GoesOnBy (λ log. IsQuestionAnswered q log (Ok found)) before after
      → host_log.GoesOnBy (λ said. EndsInLines show start last found said (name_in r) × SaysWhether said r) text more
      → Both (λ log said. IsTurn show q start last said log (name_in r) × SaysWhether said r) before after text more
  turn_of q start last before after text more found r asked along = record {
    more = asked.more;
    holds = record { more = along.more; holds = (record { answer = Ok found; answered = asked.holds; follows = along.holds.0 }, along.holds.1); on = along.on };
    told = asked.told;
  }

  -- After the first of these bindings: what is still to come, and what is said of it, is what
  -- remains of the whole.
  abbrev pub Leads : List ℕ → List ℕ → List Binding → List ℕ → List Binding → List AtHost → Type 0
  Leads start first found last left said = (rest : List AtHost) (r : Result (Option (List ℕ)) WalkFault) → IsAlong show start last left rest r → IsAlong show start first found (said ++ rest) r

  module _ (start first : List ℕ) (found : List Binding) where
    -- what was said so far, what it leads to, and whether it has a line
    abbrev pub IsWithin : List ℕ → List Binding → Bool → Done → Done → Type 0
    IsWithin last left printed text said = host_log.GoesOnBy (λ lines. Leads start first found last left lines × (printed ≡ has_some lines)) text said

    pub within_first : (text : Done) → IsWithin first found false text text
    within_first text = record { more = []; holds = (λ rest r along. along, refl); on = host.stays text }

    -- at a place there is a variable binding, or none is left
    pub at_next : (last : List ℕ) (i : ℕ) (b : Binding) (printed : Bool) (text said : Done) → i < length found → b ≡ get_or found i b → IsWithin last (drop i found) printed text said
        → IsWithin last (b ∷ drop (i + 1) found) printed text said
    at_next last i b printed text said lt is at =
        subst (λ (left : List Binding). IsWithin last left printed text said) (drop_more found i b lt ∙ ap (λ (x : Binding). x ∷ drop (i + 1) found) (sym is)) at

    pub at_end : (last : List ℕ) (i : ℕ) (printed : Bool) (text said : Done) → length found ≤ i → IsWithin last (drop i found) printed text said → IsWithin last [] printed text said
    at_end last i printed text said over at = subst (λ (left : List Binding). IsWithin last left printed text said) (drop_all i found (omega (arith, over))) at

    -- one line more
    pub within_more : (last : List ℕ) (b : Binding) (left : List Binding) (printed : Bool) (text said more : Done) → IsWithin last (b ∷ left) printed text said → IsWalkStep start last b On
        → host_log.GoesOnBy (λ line. IsSaid show b line (let r : Result (Unit {0}) WalkFault = Ok tt in r)) said more → IsWithin b.name left true text more
    within_more last b left printed text said more at step line = record {
      more = at.more ++ line.more;
      holds = (
        λ rest r along. subst (λ (lines : List AtHost). IsAlong show start first found lines r) (sym (append_assoc at.more line.more rest))
            (at.holds.0 (line.more ++ rest) r (inr (step, (rest, ap (λ (l : List AtHost). l ++ rest) line.holds, along)))),
        some_after at.more line.more _ line.holds,
      );
      on = host.goes_on at.more line.more text said more at.on line.on;
    }

    -- the walk ends at a variable binding, of which nothing is printed
    pub ended_at : (last : List ℕ) (b : Binding) (left : List Binding) (printed : Bool) (text said : Done) (r : Result Turned WalkFault) → IsWithin last (b ∷ left) printed text said
        → EndsAt show start last b [] (name_in r) → ((lines : List AtHost) → printed ≡ has_some lines → SaysWhether lines r)
        → host_log.GoesOnBy (λ lines. IsAlong show start first found lines (name_in r) × SaysWhether lines r) text said
    ended_at last b left printed text said r at ends says = record {
      more = at.more;
      holds = (
        subst (λ (lines : List AtHost). IsAlong show start first found lines (name_in r)) (append-nil at.more) (at.holds.0 [] (name_in r) (inl ends)),
        says at.more at.holds.1,
      );
      on = at.on;
    }

    -- its line was not printed
    pub refused_at : (last : List ℕ) (b : Binding) (left : List Binding) (printed : Bool) (text said more : Done) (fault : WalkFault) (r : Result Turned WalkFault) → r ≡ Err fault
        → IsWithin last (b ∷ left) printed text said → IsWalkStep start last b On → host_log.GoesOnBy (λ line. IsUnsaid show b line fault) said more
        → host_log.GoesOnBy (λ lines. IsAlong show start first found lines (name_in r) × SaysWhether lines r) text more
    refused_at last b left printed text said more fault r is at step line = record {
      more = at.more ++ line.more;
      holds = (
        at.holds.0 line.more (name_in r) (inl (subst (λ (x : Result (Option (List ℕ)) WalkFault). EndsAt show start last b line.more x) (sym (ap name_in is)) (inr (step, line.holds)))),
        no_whether r fault is (at.more ++ line.more),
      );
      on = host.goes_on at.more line.more text said more at.on line.on;
    }

    -- the walk goes on after all of them, if memory is left
    pub ended_after : (last : List ℕ) (printed : Bool) (text said : Done) (r : Result Turned WalkFault) → IsWithin last [] printed text said
        → (name_in r ≡ Ok (Some last)) ⊎ (name_in r ≡ Err (App faults.OutOfMemory)) → ((lines : List AtHost) → SaysWhether lines r)
        → host_log.GoesOnBy (λ lines. IsAlong show start first found lines (name_in r) × SaysWhether lines r) text said
    ended_after last printed text said r at is says = record {
      more = at.more;
      holds = (subst (λ (lines : List AtHost). IsAlong show start first found lines (name_in r)) (append-nil at.more) (at.holds.0 [] (name_in r) (refl, is)), says at.more);
      on = at.on;
    }

  module _ (ask : ℕ → List ℕ → QuestionParts) (start : List ℕ) where
    -- so far was walked
    abbrev pub IsAt : ℕ → List ℕ → Log → Log → Done → Done → Type 0
    IsAt n last before after text more = Both (λ log said. HasWalked show ask start n log said last) before after text more

    pub begins : (last : List ℕ) (told : Log) (text : Done) → last ≡ start → IsAt 0 last told told text text
    begins last told text is = record {
      more = [];
      holds = record { more = []; holds = (refl, refl, is); on = host.stays text };
      told = sym (extended_by_none told);
    }

    -- one turn more
    pub goes_on : (last name : List ℕ) (n : ℕ) (before between after : Log) (text said more : Done) → IsAt n last before between text said
        → Both (λ log line. IsTurn show (ask n last) start last line log (Ok (Some name)) × SaysWhether line (Ok (turned.On name))) between after said more
        → IsAt (n + 1) name before after text more
    goes_on last name n before between after text said more at turn =
        subst (λ (k : ℕ). IsAt k name before after text more) (sym (add-one n)) (record {
          more = at.more ++ turn.more;
          holds = record {
            more = at.holds.more ++ turn.holds.more;
            holds = (at.more, turn.more, at.holds.more, turn.holds.more, last, at.holds.holds, turn.holds.holds.0, refl, refl);
            on = host.goes_on at.holds.more turn.holds.more text said more at.holds.on turn.holds.on;
          };
          told = extended_on before between after at.more turn.more at.told turn.told;
        })

    -- a line was printed if there was a turn by which the walk went on
    walked_some : (n : ℕ) (log : List AtWire) (said : List AtHost) (last : List ℕ) → HasWalked show ask start n log said last → has_some said ≡ nat_lt 0 n
    walked_some zero log said last (none, no_line, is) = ap has_some no_line
    walked_some (suc n) log said last (earlier, others, lines, more, name, walked, turn, log_is, said_is) =
        ap has_some said_is ∙ (joined lines more ∙ (or_true (has_some lines) (has_some more) (prints start name last turn.answer more turn.follows) ∙ sym (above n)))

    -- the last turn, which failed
    pub fails : (last : List ℕ) (n : ℕ) (before between after : Log) (text said more : Done) (fault : WalkFault)
        → IsAt n last before between text said → n < 65536
        → Both (λ log line. IsTurn show (ask n last) start last line log (Err fault) × SaysWhether line (Err fault)) between after said more
        → Both (λ log said. AreTurns show ask start log said (Err fault)) before after text more
    fails last n before between after text said more fault at few turn = record {
      more = at.more ++ turn.more;
      holds = record {
        more = at.holds.more ++ turn.holds.more;
        holds = record {
          turns = n;
          earlier = at.more;
          lines = at.holds.more;
          last = last;
          walked = at.holds.holds;
          others = turn.more;
          more = turn.holds.more;
          log_is = refl;
          said_is = refl;
          ended = inl (few, turn.holds.holds.0);
          printed = tt;
        };
        on = host.goes_on at.holds.more turn.holds.more text said more at.holds.on turn.holds.on;
      };
      told = extended_on before between after at.more turn.more at.told turn.told;
    }

    -- the last turn, which ends the walk well
    pub ends : (last : List ℕ) (n : ℕ) (before between after : Log) (text said more : Done) (printed all : Bool)
        → IsAt n last before between text said → n < 65536
        → Both (λ log line. IsTurn show (ask n last) start last line log (Ok None) × SaysWhether line (Ok (turned.Over printed))) between after said more
        → all ≡ (nat_lt 0 n || printed) → Both (λ log said. AreTurns show ask start log said (Ok all)) before after text more
    ends last n before between after text said more printed all at few turn is = record {
      more = at.more ++ turn.more;
      holds = record {
        more = at.holds.more ++ turn.holds.more;
        holds = record {
          turns = n;
          earlier = at.more;
          lines = at.holds.more;
          last = last;
          walked = at.holds.holds;
          others = turn.more;
          more = turn.holds.more;
          log_is = refl;
          said_is = refl;
          ended = inl (few, turn.holds.holds.0);
          printed = is ∙ ((λ i. sym (walked_some n at.more at.holds.more last at.holds.holds) i || turn.holds.holds.1 i) ∙ sym (joined at.holds.more turn.holds.more));
        };
        on = host.goes_on at.holds.more turn.holds.more text said more at.holds.on turn.holds.on;
      };
      told = extended_on before between after at.more turn.more at.told turn.told;
    }

    -- all the turns that a walk may take
    pub all_turns : (last : List ℕ) (before after : Log) (text more : Done) → IsAt 65536 last before after text more
        → Both (λ log said. AreTurns show ask start log said (Ok true)) before after text more
    all_turns last before after text more at = record {
      more = at.more;
      holds = record {
        more = at.holds.more;
        holds = record {
          turns = 65536;
          earlier = at.more;
          lines = at.holds.more;
          last = last;
          walked = at.holds.holds;
          others = [];
          more = [];
          log_is = sym (append-nil at.more);
          said_is = sym (append-nil at.holds.more);
          ended = inr (inl (refl, refl, refl, refl));
          printed = sym (walked_some 65536 at.more at.holds.more last at.holds.holds);
        };
        on = at.holds.on;
      };
      told = at.told;
    }

    -- no memory for the first turn
    pub no_turn : (told : Log) (text : Done) (result : Result Bool WalkFault) → result ≡ Err (App faults.OutOfMemory)
        → Both (λ log said. AreTurns show ask start log said result) told told text text
    no_turn told text result is = record {
      more = [];
      holds = record {
        more = [];
        holds = record {
          turns = 0;
          earlier = [];
          lines = [];
          last = start;
          walked = (refl, refl, refl);
          others = [];
          more = [];
          log_is = refl;
          said_is = refl;
          ended = inr (inr (refl, refl, is));
          printed = subst (λ (r : Result Bool WalkFault). IfOk r (λ printed. printed ≡ false)) (sym is) tt;
        };
        on = host.stays text;
      };
      told = sym (extended_by_none told);
    }

    -- turns that ended well, and what is said after them
    pub noted_after : (before after : Log) (text said more : Done) (printed : Bool) (r : Result Unit WalkFault)
        → Both (λ log said. AreTurns show ask start log said (Ok printed)) before after text said
        → host_log.GoesOnBy (λ line. IsNotedAfter (show start) printed line r) said more
        → Both (λ log said. IsWalk show ask start log said r) before after text more
    noted_after before after text said more printed r turns noted = record {
      more = turns.more;
      holds = host.then_follows (AreTurns show ask start turns.more) (IsNotedAfter (show start)) (Ok printed) r text said more turns.holds noted;
      told = turns.told;
    }

    -- turns that failed, after which nothing is said
    pub unnoted : (before after : Log) (text said : Done) (fault : WalkFault) → Both (λ log said. AreTurns show ask start log said (Err fault)) before after text said
        → Both (λ log said. IsWalk show ask start log said (Err fault)) before after text said
    unnoted before after text said fault turns = record {
      more = turns.more;
      holds = host.then_fails (AreTurns show ask start turns.more) (IsNotedAfter (show start)) fault text said turns.holds;
      told = turns.told;
    }
