-- The lines of a script that were read so far.
use Rattle.std.proofs.Common.{◌≡◌, ℕ, ◌+◌, List, [], ◌∷◌, ◌++◌, length, Some, None, refl, sym, ap, ◌∙◌, subst, append_assoc, arith}
use Rattle.std.proofs.lemmas.List.{append-nil, length_push}
use Rattle.mon_rehearsal.specs.declared.script.ScriptStep.{ScriptStep}
use Rattle.mon_rehearsal.specs.Reading.{step_in}
use Rattle.mon_rehearsal.specs.Script.{AreSteps, IsFirstBad, Says, lines_of}
use Rattle.mon_rehearsal.proofs.Said.{read_says, said_read}

pub record SoFar (lines : List (List ℕ)) (rest : List ℕ) (line : ℕ) (steps : List ScriptStep) : Type 0 where
  pub done : List (List ℕ)
  pub are : lines ≡ done ++ lines_of rest
  pub said : AreSteps Says done steps
  pub count : line ≡ length done

pub started : (text : List ℕ) → SoFar (lines_of text) text 0 []
started text = record { done = []; are = refl; said = tt; count = refl }

one_more : (lines : List (List ℕ)) (steps : List ScriptStep) (line : List ℕ) (step : ScriptStep) → AreSteps Says lines steps → Says line step → AreSteps Says (lines ++ line ∷ []) (steps ++ step ∷ [])
one_more [] [] line step are says = (says, tt)
one_more [] (s ∷ ss) line step are says = absurd are
one_more (l ∷ ls) [] line step are says = absurd are
one_more (l ∷ ls) (s ∷ ss) line step are says = (are.0, one_more ls ss line step are.1 says)

module _ {lines : List (List ℕ)} {rest : List ℕ} {number : ℕ} {steps : List ScriptStep} (s : SoFar lines rest number steps) where
  pub went_on : (line after : List ℕ) (step : ScriptStep) (now : List ScriptStep) → lines_of rest ≡ line ∷ lines_of after → Some step ≡ step_in line → now ≡ steps ++ step ∷ [] → SoFar lines after (number + 1) now
  went_on line after step now cut reads grew = record {
    done = s.done ++ line ∷ [];
    are = s.are ∙ ap (λ l. s.done ++ l) cut ∙ sym (append_assoc s.done (line ∷ []) (lines_of after));
    said = subst (λ l. AreSteps Says (s.done ++ line ∷ []) l) (sym grew) (one_more s.done steps line step s.said (read_says line step (sym reads)));
    count = (let one : length (s.done ++ line ∷ []) ≡ length s.done + 1 = length_push s.done line in let was : number ≡ length s.done = s.count in omega arith);
  }

  pub stopped_at : (line after : List ℕ) → lines_of rest ≡ line ∷ lines_of after → None ≡ step_in line → IsFirstBad Says lines (number + 1)
  stopped_at line after cut none = record {
    before = s.done;
    line = line;
    after = lines_of after;
    steps = steps;
    are = s.are ∙ ap (λ l. s.done ++ l) cut;
    said = s.said;
    at = ap (λ n. n + 1) s.count;
    none = λ step says. (let read : step_in line ≡ Some step = said_read line step says in cc (none, read));
  }

  pub ended : length rest ≡ 0 → AreSteps Says lines steps
  ended empty = subst (λ l. AreSteps Says l steps) (sym (s.are ∙ ap (λ l. s.done ++ l) (no_lines rest empty) ∙ append-nil s.done)) s.said
    where
      no_lines : (rest : List ℕ) → length rest ≡ 0 → lines_of rest ≡ []
      no_lines [] e = refl
      no_lines (c ∷ cs) e = absurd (omega arith)
