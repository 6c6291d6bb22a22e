-- What bindings offer, object by object.
use Rattle.std.proofs.Common.{◌≡◌, ℕ, suc, ◌+◌, ◌<◌, List, [], ◌∷◌, ◌++◌, length, get_or, drop, sym, ap, ◌∙◌, append_assoc, arith, Option}
use Rattle.std.specs.Option.{option_map, option_to_list}
use Rattle.std.proofs.Math.Seq.{drop-cons}
use Rattle.mon_pdu.specs.declared.message.Binding.{Binding}
use Rattle.mon_poller.specs.declared.target.Object.{Object}
use Rattle.mon_poller.specs.Stamp.{Stamp}
use Rattle.mon_poller.specs.Verdict.{object_offers, sample_of, bindings_for}

module _ (stamp : Stamp) where
  -- what is offered of an object, if it is anything
  abbrev pub offered : Object → Option ℕ → List (ℕ × ℕ)
  offered o sample = option_to_list (option_map (λ s. (o.instance, s)) sample)

  pub no_more : (objects : List Object) (i : ℕ) (rest : List Binding) → drop i objects ≡ [] → object_offers stamp (drop i objects) rest ≡ []
  unfolding object_offers
  no_more objects i rest none = ap (λ os. object_offers stamp os rest) none

  one_more : (objects : List Object) (i : ℕ) (rest : List Binding) (o : Object) → i < length objects → o ≡ get_or objects i o
      → object_offers stamp (drop i objects) rest ≡ offered o (sample_of stamp o rest) ++ object_offers stamp (drop (i + 1) objects) (drop (bindings_for o.discontinuity) rest)
  unfolding object_offers
  one_more objects i rest o lt is =
      let next : suc i ≡ i + 1 = omega arith in
      let cut : drop i objects ≡ o ∷ drop (i + 1) objects = drop-cons objects i o lt ∙ (λ j. sym is j ∷ drop (next j) objects) in
      ap (λ os. object_offers stamp os rest) cut

  -- a step of the loop
  pub step : (objects : List Object) (i : ℕ) (bindings rest after : List Binding) (o : Object) (before pairs : List (ℕ × ℕ)) (sample : Option ℕ)
      → i < length objects → o ≡ get_or objects i o → sample ≡ sample_of stamp o rest → pairs ≡ before ++ offered o sample → after ≡ drop (bindings_for o.discontinuity) rest
      → before ++ object_offers stamp (drop i objects) rest ≡ object_offers stamp objects bindings
      → pairs ++ object_offers stamp (drop (i + 1) objects) after ≡ object_offers stamp objects bindings
  step objects i bindings rest after o before pairs sample lt is sampled put after_first all =
      (λ j. put j ++ object_offers stamp (drop (i + 1) objects) (after_first j))
      ∙ append_assoc before (offered o sample) _
      ∙ ap (λ (s : Option ℕ). before ++ (offered o s ++ object_offers stamp (drop (i + 1) objects) (drop (bindings_for o.discontinuity) rest))) sampled
      ∙ ap (λ xs. before ++ xs) (sym (one_more objects i rest o lt is)) ∙ all
