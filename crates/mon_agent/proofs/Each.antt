-- Answers that are put in place of what was asked, one after the other.
use Rattle.std.proofs.Common.{◌≡◌, ℕ, ◌+◌, ◌<◌, List, [], ◌∷◌, ◌++◌, length, get_or, take, drop, set, sym, subst, ap, ◌∙◌, ◌⊎◌, inl, inr, arith}
use Rattle.std.proofs.lemmas.List.{take_more, take_more_set, drop_more, drop-set-lt, length-set}
use Rattle.mon_ber.specs.declared.value.Value.{Value}
use Rattle.mon_pdu.specs.declared.message.Binding.{Binding}
use Rattle.mon_mib.specs.declared.got.Got.{Got}
use Rattle.mon_mib.specs.declared.got.Got.TheVariants.{NoObject}
use Rattle.mon_mib.specs.Known.{Known}
use Rattle.mon_mib.specs.Next.{IsGot}
use Rattle.mon_agent.specs.Step.{AreFor, IsSeen, got_value}

-- a name that is hidden has no object
pub seen : (k : Known) (sees : List ℕ → Type 0) (name : List ℕ) (got : Got) (value : Value) → value ≡ got_value got
    → (¬ (sees name) × (got ≡ NoObject)) ⊎ (sees name × IsGot k name got) → IsSeen k sees name value
seen k sees name got value is (inl hidden) = inl (hidden.0, is ∙ ap got_value hidden.1)
seen k sees name got value is (inr shown) = inr (shown.0, (got, shown.1, is))

module _ (R : List ℕ → Binding → Type 0) where
  behind : (asked answers : List Binding) (a b : Binding) → AreFor R asked answers → R a.name b → AreFor R (asked ++ a ∷ []) (answers ++ b ∷ [])
  behind [] [] a b each one = (one, tt)
  behind [] (y ∷ ys) a b each one = absurd each
  behind (x ∷ xs) [] a b each one = absurd each
  behind (x ∷ xs) (y ∷ ys) a b each one = (each.0, behind xs ys a b each.1 one)

  -- what is read at place i is still what was asked
  pub asked_at : (asked items : List Binding) (i : ℕ) (d : Binding) → i < length items → length items ≡ length asked → drop i items ≡ drop i asked
      → get_or asked i d ≡ get_or items i d
  asked_at asked items i d lt long rest = heads (sym (drop_more asked i d (omega (arith, lt, long))) ∙ (sym rest ∙ drop_more items i d lt))
    where
      heads : {x y : Binding} {xs ys : List Binding} → x ∷ xs ≡ y ∷ ys → x ≡ y
      heads e = cc

  pub one_more : (asked items : List Binding) (i : ℕ) (d new : Binding) → i < length items → length items ≡ length asked
      → drop i items ≡ drop i asked → AreFor R (take i asked) (take i items) → R (get_or items i d).name new
      → AreFor R (take (i + 1) asked) (take (i + 1) (set items i new))
  one_more asked items i d new lt long rest done one =
      let here : get_or items i d ≡ get_or asked i d = sym (asked_at asked items i d lt long rest) in
      rw (take_more asked i d (omega (arith, lt, long)), take_more_set items i new lt)
      (behind (take i asked) (take i items) (get_or asked i d) new done (subst (λ (b : Binding). R b.name new) here one))

  pub rest_of : (asked items : List Binding) (i : ℕ) (d new : Binding) → i < length items → length items ≡ length asked
      → drop i items ≡ drop i asked → drop (i + 1) (set items i new) ≡ drop (i + 1) asked
  rest_of asked items i d new lt long rest =
      drop-set-lt (i + 1) items i new (omega arith)
      ∙ tails (sym (drop_more items i d lt) ∙ (rest ∙ drop_more asked i d (omega (arith, lt, long))))
    where
      tails : {x y : Binding} {xs ys : List Binding} → x ∷ xs ≡ y ∷ ys → xs ≡ ys
      tails e = cc

  pub long_of : (asked items : List Binding) (i : ℕ) (new : Binding) → length items ≡ length asked → length (set items i new) ≡ length asked
  long_of asked items i new long = length-set items i new ∙ long
