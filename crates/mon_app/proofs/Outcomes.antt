-- The outcomes of lines, one after the other.
use Rattle.std.proofs.Common.{◌≡◌, ℕ, zero, suc, ◌+◌, ◌<◌, ◌≤◌, true, false, List, [], ◌∷◌, ◌++◌, length, map, take, get_or, refl, sym, ap, ◌∙◌, subst, append_assoc, arith, Some, None, Result, Ok, Err}
use Rattle.std.specs.Prelude.{nat_le, if◌then◌else◌}
use Rattle.std.specs.FinSet.{len}
use Rattle.std.specs.List.{flat_map}
use Rattle.std.proofs.lemmas.Bool.{leb-true, leb-false}
use Rattle.std.proofs.lemmas.Bool.Decides.{nat_tests}
use Rattle.std.proofs.lemmas.List.{append-nil}
use Rattle.mon_app.specs.declared.refusal.Refusal.{Refusal}
use Rattle.mon_app.specs.declared.refusal.Refusal.TheVariants.{OutOfMemory, BadHex, BadMessage, NotAResponse, AgentError, BadStamp, TooManyInstances}
use Rattle.mon_app.specs.Line.{Says}
use Rattle.mon_app.specs.Offer.{Offer}
use Rattle.mon_app.specs.Outcome.{Outcome, IsOutcome, taken_by, refused_in, IsReplay}
use Rattle.mon_app.specs.Reported.{IsKept, kept_of, reported_row}
use Rattle.mon_app.specs.Reading.{hex_reading, line_reading}
use Rattle.mon_app.specs.Replay.{admitted, verdict, judged, offered, refused, accepted, refusals, refused_text, lines_of, replayed}
use Rattle.mon_app.specs.Text.{row_text, end_line, samples_in}
use Rattle.mon_app.specs.Windows.{instances, rows_of}

-- what becomes of a line after what was taken
abbrev told : List Offer → List ℕ → Outcome
told taken line = judged taken (line_reading line)

-- what becomes of all lines
abbrev outcomes_of : List Offer → List (List ℕ) → List Outcome
outcomes_of taken [] = []
outcomes_of taken (line ∷ lines) = told taken line ∷ outcomes_of (taken ++ offered (told taken line)) lines

length-outcomes : (taken : List Offer) (lines : List (List ℕ)) → length (outcomes_of taken lines) ≡ length lines
length-outcomes taken [] = refl
length-outcomes taken (line ∷ lines) = ap suc (length-outcomes (taken ++ offered (told taken line)) lines)

accepted_is : (taken : List Offer) (lines : List (List ℕ)) → accepted taken lines ≡ taken ++ taken_by (outcomes_of taken lines)
accepted_is taken [] = sym (append-nil taken)
accepted_is taken (line ∷ lines) =
    accepted_is (taken ++ offered (told taken line)) lines
    ∙ append_assoc taken (offered (told taken line)) (taken_by (outcomes_of (taken ++ offered (told taken line)) lines))

refusals_are : (k : ℕ) (taken : List Offer) (lines : List (List ℕ)) → refusals k taken lines ≡ refused_in k (outcomes_of taken lines)
refusals_are k taken [] = refl
refusals_are k taken (line ∷ lines) = ap (λ why. refused (k + 1) (told taken line) ++ why) (refusals_are (k + 1) (taken ++ offered (told taken line)) lines)

module _ (says : (text : List ℕ) → Says text (hex_reading text))
    (only : (text : List ℕ) (reading : Result (List Offer) Refusal) → Says text reading → hex_reading text ≡ reading) where
  -- ---- one line
  admitted_is : (taken : List Offer) (c : ℕ) (cs : List ℕ) (offers : List Offer) → Says (c ∷ cs) (Ok offers) → IsOutcome taken (c ∷ cs) (Some (admitted taken offers))
  admitted_is taken c cs offers said =
      elim (nat_le (len (instances (taken ++ offers))) 256) as (λ t. nat_le (len (instances (taken ++ offers))) 256 ≡ t
      → IsOutcome taken (c ∷ cs) (Some (if t then Ok offers else Err TooManyInstances))) [
        | true ↦ λ e. (said, leb-true _ _ e)
        | false ↦ λ e. (offers, said, leb-false _ _ e)
      ] refl

  judged_is : (taken : List Offer) (c : ℕ) (cs : List ℕ) (r : Result (List Offer) Refusal) → Says (c ∷ cs) r → IsOutcome taken (c ∷ cs) (Some (verdict taken r))
  judged_is taken c cs (Ok offers) said = admitted_is taken c cs offers said
  judged_is taken c cs (Err OutOfMemory) said = said
  judged_is taken c cs (Err BadHex) said = said
  judged_is taken c cs (Err BadMessage) said = said
  judged_is taken c cs (Err NotAResponse) said = said
  judged_is taken c cs (Err AgentError) said = said
  judged_is taken c cs (Err BadStamp) said = said
  judged_is taken c cs (Err TooManyInstances) said = absurd said

  is_outcome : (taken : List Offer) (line : List ℕ) → IsOutcome taken line (told taken line)
  unfolding line_reading
  is_outcome taken [] = refl
  is_outcome taken (c ∷ cs) = judged_is taken c cs (hex_reading (c ∷ cs)) (says (c ∷ cs))

  few_admitted : (taken offers : List Offer) → len (instances (taken ++ offers)) ≤ 256 → admitted taken offers ≡ Ok offers
  few_admitted taken offers few =
      let e : nat_le (len (instances (taken ++ offers))) 256 ≡ true = grind (arith, nat_tests) in
      ap (λ t. if t then Ok offers else Err TooManyInstances) e

  many_refused : (taken offers : List Offer) → 256 < len (instances (taken ++ offers)) → admitted taken offers ≡ Err TooManyInstances
  many_refused taken offers many =
      let e : nat_le (len (instances (taken ++ offers))) 256 ≡ false = grind (arith, nat_tests) in
      ap (λ t. if t then Ok offers else Err TooManyInstances) e

  read_so : (taken : List Offer) (c : ℕ) (cs : List ℕ) (r : Result (List Offer) Refusal) → Says (c ∷ cs) r → told taken (c ∷ cs) ≡ Some (verdict taken r)
  unfolding line_reading
  read_so taken c cs r said = ap (λ q. Some (verdict taken q)) (only (c ∷ cs) r said)

  one_outcome : (taken : List Offer) (line : List ℕ) (outcome : Outcome) → IsOutcome taken line outcome → outcome ≡ told taken line
  unfolding line_reading
  one_outcome taken [] outcome is = is
  one_outcome taken (c ∷ cs) None is = absurd is
  one_outcome taken (c ∷ cs) (Some (Ok offers)) is = sym (read_so taken c cs (Ok offers) is.0 ∙ ap Some (few_admitted taken offers is.1))
  one_outcome taken (c ∷ cs) (Some (Err OutOfMemory)) is = absurd is
  one_outcome taken (c ∷ cs) (Some (Err BadHex)) is = sym (read_so taken c cs (Err BadHex) is)
  one_outcome taken (c ∷ cs) (Some (Err BadMessage)) is = sym (read_so taken c cs (Err BadMessage) is)
  one_outcome taken (c ∷ cs) (Some (Err NotAResponse)) is = sym (read_so taken c cs (Err NotAResponse) is)
  one_outcome taken (c ∷ cs) (Some (Err AgentError)) is = sym (read_so taken c cs (Err AgentError) is)
  one_outcome taken (c ∷ cs) (Some (Err BadStamp)) is = sym (read_so taken c cs (Err BadStamp) is)
  one_outcome taken (c ∷ cs) (Some (Err TooManyInstances)) is = sym (read_so taken c cs (Ok is.0) is.1 ∙ ap Some (many_refused taken is.0 is.2))

  -- ---- all lines
  each_is : (taken : List Offer) (lines : List (List ℕ)) (k : ℕ) → k < length (outcomes_of taken lines)
      → IsOutcome (taken ++ taken_by (take k (outcomes_of taken lines))) (get_or lines k []) (get_or (outcomes_of taken lines) k None)
  each_is taken [] k lt = absurd (omega arith)
  each_is taken (line ∷ lines) zero lt = subst (λ before. IsOutcome before line (told taken line)) (sym (append-nil taken)) (is_outcome taken line)
  each_is taken (line ∷ lines) (suc k) lt =
      let after = taken ++ offered (told taken line) in
      subst (λ before. IsOutcome before (get_or lines k []) (get_or (outcomes_of after lines) k None))
      (append_assoc taken (offered (told taken line)) (taken_by (take k (outcomes_of after lines))))
      (each_is after lines k (omega arith))

  one_list : (taken : List Offer) (lines : List (List ℕ)) (outcomes : List Outcome) → length outcomes ≡ length lines
      → ((k : ℕ) → k < length outcomes → IsOutcome (taken ++ taken_by (take k outcomes)) (get_or lines k []) (get_or outcomes k None))
      → outcomes ≡ outcomes_of taken lines
  one_list taken [] [] same each = refl
  one_list taken [] (o ∷ os) same each = absurd (omega arith)
  one_list taken (line ∷ lines) [] same each = absurd (omega arith)
  one_list taken (line ∷ lines) (o ∷ os) same each =
      let first : o ≡ told taken line = one_outcome taken line o (subst (λ before. IsOutcome before line o) (append-nil taken) (each 0 (omega arith))) in
      let others : os ≡ outcomes_of (taken ++ offered (told taken line)) lines =
      one_list (taken ++ offered (told taken line)) lines os (omega arith) (λ k lt.
      subst (λ before. IsOutcome before (get_or lines k []) (get_or os k None))
      (sym (append_assoc taken (offered o) (taken_by (take k os))) ∙ ap (λ p. (taken ++ offered p) ++ taken_by (take k os)) first)
      (each (suc k) (omega arith))) in
      λ j. first j ∷ others j

  -- ---- the whole text
  abbrev printed_of : ℕ → List Outcome → List ℕ
  printed_of n outcomes =
      refused_text (refused_in 0 outcomes) ++ flat_map row_text (rows_of n (taken_by outcomes))
      ++ end_line (length (rows_of n (taken_by outcomes))) (samples_in (rows_of n (taken_by outcomes))) (length (refused_in 0 outcomes))

  replayed_is : (n : ℕ) (input : List ℕ) → replayed n input ≡ printed_of n (outcomes_of [] (lines_of input))
  unfolding replayed
  replayed_is n input =
      let why = refusals_are 0 [] (lines_of input) in
      let taken = accepted_is [] (lines_of input) in
      λ j. refused_text (why j) ++ flat_map row_text (rows_of n (taken j)) ++ end_line (length (rows_of n (taken j))) (samples_in (rows_of n (taken j))) (length (why j))

  pub meets : (n : ℕ) (input : List ℕ) → IsReplay n input (replayed n input)
  meets n input = record {
    outcomes = outcomes_of [] (lines_of input);
    are = record { one_each = length-outcomes [] (lines_of input); each = each_is [] (lines_of input) };
    printed = replayed_is n input;
  }

  pub one_text : (n : ℕ) (input text : List ℕ) → IsReplay n input text → text ≡ replayed n input
  one_text n input text is =
      is.printed ∙ ap (printed_of n) (one_list [] (lines_of input) is.outcomes is.are.one_each is.are.each) ∙ sym (replayed_is n input)

  -- ---- what is kept
  pub kept_meets : (n : ℕ) (input : List ℕ) → IsKept n input (kept_of n input)
  kept_meets n input = record {
    outcomes = outcomes_of [] (lines_of input);
    are = record { one_each = length-outcomes [] (lines_of input); each = each_is [] (lines_of input) };
    refused = ap refused_text (refusals_are 0 [] (lines_of input));
    entries = ap (λ taken. map reported_row (rows_of n taken)) (accepted_is [] (lines_of input));
  }
