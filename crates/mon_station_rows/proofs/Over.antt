-- A run over a list.
use Rattle.std.proofs.Common.{ℕ, ◌≡◌, ◌<◌, false, List, [], ◌∷◌, ◌++◌, Option, inl, inr, refl, sym, ap, ◌∙◌, append_assoc, arith}
use Rattle.mon_disk.specs.declared.disk.Disk.{Ghosts}
use Rattle.mon_station.specs.declared.running.Run.{Run}
use Rattle.mon_station.specs.Ran as ran
use Rattle.mon_station.specs.Ran.{AreAsked, AreCalls, Call, Gave, Ran, Turn, events_of, go_on, result_of, turn_in, turns_of, view_after}
use Rattle.mon_station.specs.Seen.{Seen}
use Rattle.mon_station.specs.State.{State}
use Rattle.mon_station_rows.specs.Listed.{GivesListed, GivesNext, Listing, RanOver}

-- what one call gave comes after what was given before it
one_given : (turns : List Turn) (v w : Listing) (gave : Gave) → GivesNext v (result_of gave) w → events_of turns ++ v.events ≡ events_of (turn_in gave ++ turns) ++ w.events
one_given turns v w (ran.Event t) gives = ap (λ l. events_of turns ++ l) gives.2 ∙ sym (append_assoc (events_of turns) (t.event ∷ []) w.events)
one_given turns v w ran.End gives = ap (λ l. events_of turns ++ l) gives.2
one_given turns v w (ran.Fault f) gives = ap (λ l. events_of turns ++ l) (sym gives.2)

given_all : (view : Listing) (first : State) (calls : List (Call Listing)) → AreCalls GivesListed view first calls → view.events ≡ events_of (turns_of calls) ++ (view_after view calls).events
given_all view first [] are = refl
given_all view first (c ∷ calls) are = given_all view first calls are.2 ∙ one_given (turns_of calls) (view_after view calls) c.view c.gave are.0.gives

at_end : (view : Listing) (first : State) (calls : List (Call Listing)) → AreCalls GivesListed view first calls → go_on calls ≡ false → (view_after view calls).events ≡ []
at_end view first [] are ended = absurd cc
at_end view first (c ∷ calls) are ended = last c.gave are.0.gives ended
  where
    last : (gave : Gave) → GivesNext (view_after view calls) (result_of gave) c.view → ran.goes_on gave ≡ false → c.view.events ≡ []
    last (ran.Event t) gives ended = absurd cc
    last ran.End gives ended = gives.3 refl
    last (ran.Fault f) gives ended = absurd cc

-- a run over a list, by its calls
pub ran_over : {X : Type 0} {G : Ghosts X} (before after : Seen Listing G) (turns : ℕ) (run : Run) → Ran GivesListed before after turns run → RanOver before.view.events after.view.events before.handed after.handed turns run
ran_over before after turns run r = record {
  done = turns_of r.calls;
  given = given_all before.view before.state r.calls r.did.are ∙ ap (λ (v : Listing). events_of (turns_of r.calls) ++ v.events) (sym r.did.view);
  answers = r.told.answers;
  handed = r.did.handed;
  whole = λ fewer. ap (λ (v : Listing). v.events) r.did.view ∙ ended fewer r.asked;
}
  where
    ended : run.turns < turns → AreAsked turns r.calls → (view_after before.view r.calls).events ≡ []
    ended fewer (inl all) = absurd (omega (arith, fewer, all, r.told.turns))
    ended fewer (inr end) = at_end before.view before.state r.calls r.did.are end.1
