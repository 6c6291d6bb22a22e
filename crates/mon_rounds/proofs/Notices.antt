-- The notices of events, one after another.
use Rattle.std.proofs.Common.{◌≡◌, ◌≤◌, ◌<◌, ◌+◌, ℕ, suc, List, [], ◌∷◌, ◌++◌, length, take, get_or, refl, sym, ap, ◌∙◌, arith, append_assoc, length-take}
use Rattle.std.specs.Prelude.{zero, min}
use Rattle.std.proofs.lemmas.List.{append-nil, take_more}
use Rattle.mon_rounds.specs.Order.{RoundEvent}
use Rattle.mon_udp.specs.declared.addr.Addr.{Addr}
use Rattle.mon_rounds.specs.declared.reporting.Notice.{Notice}
use Rattle.mon_rounds.specs.Noted.{notices_of, told_of}
use Rattle.mon_station.specs.declared.running.Answer.{Answer}

module _ (targets : List Addr) where
  push : (events : List RoundEvent) (answers : List Answer) (e : RoundEvent) (a : Answer) → length events ≡ length answers
      → notices_of targets (events ++ e ∷ []) (answers ++ a ∷ []) ≡ notices_of targets events answers ++ told_of targets e a
  push [] [] e a same = append-nil (told_of targets e a)
  push [] (b ∷ answers) e a same = absurd (omega (arith, same))
  push (x ∷ events) [] e a same = absurd (omega (arith, same))
  push (x ∷ events) (b ∷ answers) e a same =
      ap (λ l. told_of targets x b ++ l) (push events answers e a (omega (arith, same))) ∙ sym (append_assoc (told_of targets x b) (notices_of targets events answers) (told_of targets e a))

  pub notices_step : (events : List RoundEvent) (answers : List Answer) (i : ℕ) (e : RoundEvent) (a : Answer) (was now : List Notice) → i < length events → i < length answers
      → now ≡ was ++ told_of targets (get_or events i e) (get_or answers i a) → was ≡ notices_of targets (take i events) (take i answers) → now ≡ notices_of targets (take (i + 1) events) (take (i + 1) answers)
  notices_step events answers i e a was now in_events in_answers more so_far =
      let long : length (take i events) ≡ i = grind (arith, length-take) in
      let other : length (take i answers) ≡ i = grind (arith, length-take) in
      more ∙ ap (λ l. l ++ told_of targets (get_or events i e) (get_or answers i a)) so_far
      ∙ sym (push (take i events) (take i answers) (get_or events i e) (get_or answers i a) (long ∙ sym other))
      ∙ sym (λ k. notices_of targets (take_more events i e in_events k) (take_more answers i a in_answers k))

  pub notices_all : (events : List RoundEvent) (answers : List Answer) (n : ℕ) → min (length events) (length answers) ≤ n → notices_of targets (take n events) (take n answers) ≡ notices_of targets events answers
  notices_all [] answers zero le = refl
  notices_all [] answers (suc n) le = refl
  notices_all (x ∷ events) [] zero le = refl
  notices_all (x ∷ events) [] (suc n) le = refl
  notices_all (x ∷ events) (b ∷ answers) zero le = absurd (omega arith)
  notices_all (x ∷ events) (b ∷ answers) (suc n) le = ap (λ l. told_of targets x b ++ l) (notices_all events answers n (omega arith))
