-- Laws of what is stated, of lists of any elements, which no clause can range over.
use Rattle.std.proofs.Common.{◌≡◌, List, [], ◌∷◌, ◌++◌, refl, sym, ap, ◌∙◌, inl, inr}
use Rattle.std.specs.Prelude.{Option, None, Result, Err}
use Rattle.mon_host.specs.Then.{Follows, Quietly, Then}
use Rattle.std.proofs.lemmas.List.{append-nil}
use Rattle.mon_host.specs.Log.{GoesOn, GoesOnBy}
use Rattle.mon_udp.specs.Told.{extended}
use Rattle.mon_udp.proofs.Promised.{extended_by_none, extended_twice}

-- what is lost stays lost
still_lost : {A : Type 0} → (more : List A) (before between after : Option (List A)) → between ≡ None → GoesOn more between after → after ≡ None
still_lost more before between after lost (inl on) = on ∙ ap (λ t. extended t more) lost
still_lost more before between after lost (inr none) = none

-- more and then others
pub goes_on : {A : Type 0} → (more others : List A) (before between after : Option (List A)) → GoesOn more before between → GoesOn others between after
    → GoesOn (more ++ others) before after
goes_on more others before between after (inl first) (inl then) = inl (then ∙ (ap (λ t. extended t others) first ∙ extended_twice before more others))
goes_on more others before between after (inl first) (inr none) = inr none
goes_on more others before between after (inr lost) then = inr (still_lost others before between after lost then)

-- nothing was done
pub stays : {A : Type 0} → (told : Option (List A)) → GoesOn [] told told
stays told = inl (sym (extended_by_none told))

-- a step, and then one that follows
pub then_follows : {A B F C : Type 0}
    → (First : List C → Result A F → Type 0) (Second : A → List C → Result B F → Type 0) (given : Result A F) (result : Result B F)
    (before between after : Option (List C)) → GoesOnBy (λ log. First log given) before between → GoesOnBy (λ log. Follows Second given log result) between after
    → GoesOnBy (λ log. Then First Second log result) before after
then_follows First Second given result before between after first second = record {
  more = first.more ++ second.more;
  holds = record { given = given; begin = first.more; first = first.holds; rest = second.more; second = second.holds; log_is = refl };
  on = goes_on first.more second.more before between after first.on second.on;
}

-- a step that failed, and nothing after it
pub then_fails : {A B F C : Type 0} → (First : List C → Result A F → Type 0) (Second : A → List C → Result B F → Type 0) (failure : F)
    (before after : Option (List C)) → GoesOnBy (λ log. First log (Err failure)) before after → GoesOnBy (λ log. Then First Second log (Err failure)) before after
then_fails First Second failure before after first = record {
  more = first.more;
  holds = record { given = Err failure; begin = first.more; first = first.holds; rest = []; second = (refl, refl); log_is = sym (append-nil first.more) };
  on = first.on;
}

-- a step that is silent
pub quietly : {A F C : Type 0} → (Gives : Result A F → Type 0) (result : Result A F) (told : Option (List C)) → Gives result
    → GoesOnBy (λ log. Quietly Gives log result) told told
quietly Gives result told gives = record { more = []; holds = (refl, gives); on = stays told }

-- one call
pub once : {C : Type 0} → (Holds : List C → Type 0) (call : C) (before after : Option (List C)) → Holds (call ∷ []) → GoesOn (call ∷ []) before after
    → GoesOnBy Holds before after
once Holds call before after holds told = record { more = call ∷ []; holds = holds; on = told }

-- what holds of what was done gives something else that does
pub weaker : {C : Type 0} → (Holds Others : List C → Type 0) (before after : Option (List C)) → ((log : List C) → Holds log → Others log)
    → GoesOnBy Holds before after → GoesOnBy Others before after
weaker Holds Others before after gives done = record { more = done.more; holds = gives done.more done.holds; on = done.on }
