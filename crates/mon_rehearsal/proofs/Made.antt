-- Steps of a script that were made one after another, and the text of a rehearsal.
use Rattle.std.proofs.Common.{ℕ, suc, ◌≡◌, ◌≢◌, ◌+◌, List, [], ◌∷◌, ◌++◌, Result, Err, length, map, refl, sym, ap, ◌∙◌, append_assoc, subst, arith}
use Rattle.std.proofs.lemmas.List.{append-nil, length-map}
use Rattle.std.specs.List.{AllByRecursion}
use Rattle.mon_disk.specs.declared.disk.Disk.{Ghosts}
use Rattle.mon_disk.specs.declared.memory.MemoryDisk.{MemoryDisk}
use Rattle.mon_exchange.specs.Claim.{IsClaim}
use Rattle.mon_config.specs.StationCore.{Core}
use Rattle.mon_station.specs.declared.station.Station.{Station}
use Rattle.mon_station.specs.State.{State}
use Rattle.mon_station.specs.Verdict.{Setting}
use Rattle.mon_world.specs.declared.fault.WorldFault.{WorldFault}
use Rattle.mon_world.specs.declared.fault.WorldFault.TheVariants.{OutOfMemory}
use Rattle.mon_world.specs.declared.sending.Datagram.{Datagram}
use Rattle.mon_world.specs.declared.sending.Sent.{Sent}
use Rattle.mon_world.specs.declared.step.Step.{Step}
use Rattle.mon_world.specs.Moves.{AreMoves, AreUnforged, Move, sent_in}
use Rattle.mon_world.specs.Outcome.{AreStepOutcomes, IsStepMade, IsUnforged, first_lives}
use Rattle.mon_world.specs.Places.{setting_at}
use Rattle.mon_world.specs.Shows.{LeadsTo, Shows, StatesOweTruly, state_in}
use Rattle.mon_rehearsal.specs.declared.script.ScriptStep.{ScriptStep}
use Rattle.mon_rehearsal.specs.Printed.{stations_text, step_line, step_lines}
use Rattle.mon_rehearsal.specs.declared.script.ScriptStep.TheVariants.{StartPoll, AgentSays, Timeout, Share, Deliver, Save, Restart, Forge, Stop}
use Rattle.mon_rehearsal.specs.Rehearsed.{AreMade, HaveBeenMade, IsMade, IsNoForge, IsRehearsal, IsStepOf}
use Rattle.mon_rehearsal.specs.Script.{AreSteps, Says}
use Rattle.mon_rehearsal.proofs.Texts.{lines_more}

-- one step more
made_more : (settings : ℕ → Setting) (n : ℕ) (steps : List ScriptStep) (answers : List (Result Sent WorldFault)) (said : ScriptStep) (answer : Result Sent WorldFault) (past middle now : List Move)
    → AreMade settings n steps answers past middle → IsMade settings n said answer middle now → AreMade settings n (steps ++ said ∷ []) (answers ++ answer ∷ []) past now
made_more settings n [] [] said answer past middle now is one = (now, subst (λ m. IsMade settings n said answer m now) is one, refl)
made_more settings n [] (a ∷ answers) said answer past middle now is one = absurd is
made_more settings n (s ∷ steps) [] said answer past middle now is one = absurd is
made_more settings n (s ∷ steps) (a ∷ answers) said answer past middle now is one = (is.0, is.1, made_more settings n steps answers said answer is.0 middle now is.2 one)

-- each step has an answer
answers_count : (settings : ℕ → Setting) (n : ℕ) (steps : List ScriptStep) (answers : List (Result Sent WorldFault)) (past now : List Move) → AreMade settings n steps answers past now → length answers ≡ length steps
answers_count settings n [] [] past now is = refl
answers_count settings n [] (a ∷ answers) past now is = absurd is
answers_count settings n (s ∷ steps) [] past now is = absurd is
answers_count settings n (s ∷ steps) (a ∷ answers) past now is = ap suc (answers_count settings n steps answers is.0 now is.2)

-- the steps of the world that were made, and none forges a claim where the script's do not
unforged_step : (said : ScriptStep) (made : Step) → IsStepOf said made → IsNoForge said → IsUnforged made
unforged_step (StartPoll s target) made is none = subst IsUnforged (sym is) tt
unforged_step (AgentSays s target octets) made is none = subst IsUnforged (sym is.2) tt
unforged_step (Timeout s id) made is none = subst IsUnforged (sym is) tt
unforged_step (Share s peer) made is none = subst IsUnforged (sym is) tt
unforged_step (Deliver d) made is none = subst IsUnforged (sym is) tt
unforged_step (Save s) made is none = subst IsUnforged (sym is) tt
unforged_step (Restart s) made is none = subst IsUnforged (sym is) tt
unforged_step (Forge s octets) made is none = absurd none
unforged_step (Stop s calls keep) made is none = subst IsUnforged (sym is) tt

made_steps : (settings : ℕ → Setting) (n : ℕ) (steps : List ScriptStep) (answers : List (Result Sent WorldFault)) (past now : List Move) → AreMade settings n steps answers past now
    → (made : List Step) × AreStepOutcomes settings n made answers past now × (AllByRecursion IsNoForge steps → AllByRecursion IsUnforged made)
made_steps settings n [] [] past now is = ([], is, λ none. tt)
made_steps settings n [] (a ∷ answers) past now is = absurd is
made_steps settings n (s ∷ steps) [] past now is = absurd is
made_steps settings n (s ∷ steps) (a ∷ answers) past now is =
    let rest = made_steps settings n steps answers is.0 now is.2 in
    (is.1.made ∷ rest.0, (is.0, is.1.leads, rest.1), λ none. (unforged_step s is.1.made is.1.is none.0, rest.2 none.1))

-- before the first step
pub none_made : {G : Ghosts MemoryDisk} (core : Core) (stations : List (Station MemoryDisk G)) (sent : List Datagram) (settings : ℕ → Setting) (n : ℕ) (past : List Move) (text : List ℕ) → Shows core stations sent past
    → HaveBeenMade core stations sent settings n [] past text text
none_made core stations sent settings n past text shows = record { answers = []; text = sym (append-nil text); leads = record { now = past; shows = shows; is = refl } }

pub one_made : {G : Ghosts MemoryDisk} (core now_core : Core) (settings now_settings : ℕ → Setting) (n now_n : ℕ) (stations now_stations : List (Station MemoryDisk G)) (sent now_sent : List Datagram) (steps more : List ScriptStep) (said : ScriptStep) (made : Step)
    (answer : Result Sent WorldFault) (past : List Move) (start text now_text : List ℕ) (number : ℕ) → more ≡ steps ++ said ∷ [] → number ≡ length steps + 1 → now_settings ≡ settings → now_n ≡ n → IsStepOf said made → now_text ≡ text ++ step_line number answer
    → ((middle : List Move) → Shows core stations sent middle → LeadsTo now_core now_stations now_sent (λ now. IsStepMade now_settings now_n made answer middle now))
    → answer ≢ Err OutOfMemory → HaveBeenMade core stations sent settings n steps past start text → HaveBeenMade now_core now_stations now_sent settings n more past start now_text
one_made core now_core settings now_settings n now_n stations now_stations sent now_sent steps more said made answer past start text now_text number is_more is_number same same_n is written next ample were =
    let leads = next were.leads.now were.leads.shows in
    let counted : length were.answers ≡ length steps = answers_count settings n steps were.answers past were.leads.now were.leads.is in
    let numbered : number ≡ 1 + length were.answers = omega (arith, is_number, counted) in
    let one : IsMade settings n said answer were.leads.now leads.now = record {
      made = made;
      is = is;
      leads = subst (λ m. IsStepMade settings m made answer were.leads.now leads.now) same_n (subst (λ (w : ℕ → Setting). IsStepMade w now_n made answer were.leads.now leads.now) same leads.is);
      ample = ample;
    } in
    record {
      answers = were.answers ++ answer ∷ [];
      text =
          written ∙ (λ i. were.text i ++ step_line (numbered i) answer) ∙ append_assoc start (step_lines 1 were.answers) (step_line (1 + length were.answers) answer)
          ∙ ap (λ l. start ++ l) (sym (lines_more 1 were.answers answer));
      leads = record {
        now = leads.now;
        shows = leads.shows;
        is = subst (λ (l : List ScriptStep). AreMade settings n l (were.answers ++ answer ∷ []) past leads.now) (sym is_more) (made_more settings n steps were.answers said answer past were.leads.now leads.now were.leads.is one);
      };
    }

-- the law of steps that forge nothing
abbrev pub IsLawOfUnforged : Type 0
IsLawOfUnforged = (settings : ℕ → Setting) (count : ℕ) (steps : List Step) (results : List (Result Sent WorldFault)) (past now : List Move) → AllByRecursion IsUnforged steps
    → AllByRecursion IsClaim (map (λ l. l.claim) (sent_in now)) → AreStepOutcomes settings count steps results past now → AreUnforged past → AreUnforged now

-- the whole text
pub rehearsed : {G : Ghosts MemoryDisk} (core world_core now_core : Core) (count : ℕ) (stations now_stations : List (Station MemoryDisk G)) (sent now_sent : List Datagram) (lines : List (List ℕ)) (steps : List ScriptStep) (start text whole : List ℕ)
    → AreSteps Says lines steps → world_core ≡ core → length stations ≡ count → now_core ≡ world_core → length now_stations ≡ length stations → start ≡ []
    → Shows core stations sent (first_lives (setting_at core count) 1 (map state_in stations))
    → ((past : List Move) → Shows world_core stations sent past → HaveBeenMade now_core now_stations now_sent (setting_at world_core (length stations)) (length stations) steps past start text)
    → ((settings : ℕ → Setting) (x : ℕ) (states : List State) → AreUnforged (first_lives settings x states)) → IsLawOfUnforged
    → ((moves : List Move) → Shows now_core now_stations now_sent moves → AreUnforged moves → StatesOweTruly moves)
    → ((moves : List Move) → Shows now_core now_stations now_sent moves → whole ≡ text ++ stations_text count moves count)
    → IsRehearsal core count lines whole
rehearsed core world_core now_core count stations now_stations sent now_sent lines steps start text whole said same counted kept as_many empty opened made first_unforged law square written =
    let firsts = first_lives (setting_at core count) 1 (map state_in stations) in
    let have = made firsts (subst (λ (c : Core). Shows c stations sent firsts) (sym same) opened) in
    let now_same : now_core ≡ core = kept ∙ same in
    let now_counted : length now_stations ≡ count = as_many ∙ counted in
    let all_made : AreMade (setting_at core count) count steps have.answers firsts have.leads.now = subst (λ m. AreMade (setting_at core count) m steps have.answers firsts have.leads.now) counted
    (subst (λ (w : ℕ → Setting). AreMade w (length stations) steps have.answers firsts have.leads.now) (λ j. setting_at (same j) (counted j)) have.leads.is) in
    let list = made_steps (setting_at core count) count steps have.answers firsts have.leads.now all_made in (
      steps,
      said,
      record {
        first = map state_in stations;
        opened = length-map stations state_in ∙ counted;
        answers = have.answers;
        moves = have.leads.now;
        are = subst (λ (w : ℕ → Setting). AreMoves w have.leads.now) (λ j. setting_at (now_same j) (now_counted j)) have.leads.shows.shown.are;
        made = all_made;
        unforged = λ none. law (setting_at core count) count list.0 have.answers firsts have.leads.now (list.2 none) have.leads.shows.letters.claims list.1 (first_unforged (setting_at core count) 1 (map state_in stations));
        square = square have.leads.now have.leads.shows;
        is = written have.leads.now have.leads.shows ∙ ap (λ l. l ++ stations_text count have.leads.now count) (have.text ∙ ap (λ l. l ++ step_lines 1 have.answers) empty);
      },
    )
