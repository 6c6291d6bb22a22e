-- Which kinds of counters words name.
use Rattle.std.proofs.Common.{◌≡◌, ◌⊎◌, ◌∙◌, ◌++◌, ◌∷◌, ℕ, List, [], true, Contains, ap, arith, get_or, inl, inr, refl, subst, sym}
use Rattle.std.proofs.lemmas.List.Elements.{All-nil, All-push, Contains-append_left, Contains-push, Contains-push_cases}
use Rattle.mon_survey.specs.Plan.{is_wanted}
use Rattle.mon_survey.specs.declared.choice.Kinds.{Kinds}
use Rattle.mon_survey.specs.declared.counter.Kind.{Kind}
use Rattle.mon_survey.specs.declared.counter.Kind.TheVariants.{Octets, Packets, Errors, Discards}
use Rattle.mon_settings_commands.specs.Kinds.{AreKinds, IsKindWord, kind_word, with_kind}

-- a kind that is polled now was polled before, or is the one that was added
was_or_is : (a b : Kind) (old : Kinds) → is_wanted (with_kind a old) b ≡ true → (is_wanted old b ≡ true) ⊎ (kind_word a ≡ kind_word b)
was_or_is Octets Octets old wanted = inr refl
was_or_is Octets Packets old wanted = inl wanted
was_or_is Octets Errors old wanted = inl wanted
was_or_is Octets Discards old wanted = inl wanted
was_or_is Packets Octets old wanted = inl wanted
was_or_is Packets Packets old wanted = inr refl
was_or_is Packets Errors old wanted = inl wanted
was_or_is Packets Discards old wanted = inl wanted
was_or_is Errors Octets old wanted = inl wanted
was_or_is Errors Packets old wanted = inl wanted
was_or_is Errors Errors old wanted = inr refl
was_or_is Errors Discards old wanted = inl wanted
was_or_is Discards Octets old wanted = inl wanted
was_or_is Discards Packets old wanted = inl wanted
was_or_is Discards Errors old wanted = inl wanted
was_or_is Discards Discards old wanted = inr refl

-- a kind that was polled before is polled now
still_wanted : (a b : Kind) (old : Kinds) → is_wanted old b ≡ true → is_wanted (with_kind a old) b ≡ true
still_wanted Octets Octets old wanted = refl
still_wanted Octets Packets old wanted = wanted
still_wanted Octets Errors old wanted = wanted
still_wanted Octets Discards old wanted = wanted
still_wanted Packets Octets old wanted = wanted
still_wanted Packets Packets old wanted = refl
still_wanted Packets Errors old wanted = wanted
still_wanted Packets Discards old wanted = wanted
still_wanted Errors Octets old wanted = wanted
still_wanted Errors Packets old wanted = wanted
still_wanted Errors Errors old wanted = refl
still_wanted Errors Discards old wanted = wanted
still_wanted Discards Octets old wanted = wanted
still_wanted Discards Packets old wanted = wanted
still_wanted Discards Errors old wanted = wanted
still_wanted Discards Discards old wanted = refl

-- the kind that was added is polled
added : (a b : Kind) (old : Kinds) → kind_word a ≡ kind_word b → is_wanted (with_kind a old) b ≡ true
added Octets Octets old same = refl
added Octets Packets old same = let first : 111 ≡ 112 = ap (λ (w : List ℕ). get_or w 0 0) same in absurd (omega (arith, first))
added Octets Errors old same = let first : 111 ≡ 101 = ap (λ (w : List ℕ). get_or w 0 0) same in absurd (omega (arith, first))
added Octets Discards old same = let first : 111 ≡ 100 = ap (λ (w : List ℕ). get_or w 0 0) same in absurd (omega (arith, first))
added Packets Octets old same = let first : 112 ≡ 111 = ap (λ (w : List ℕ). get_or w 0 0) same in absurd (omega (arith, first))
added Packets Packets old same = refl
added Packets Errors old same = let first : 112 ≡ 101 = ap (λ (w : List ℕ). get_or w 0 0) same in absurd (omega (arith, first))
added Packets Discards old same = let first : 112 ≡ 100 = ap (λ (w : List ℕ). get_or w 0 0) same in absurd (omega (arith, first))
added Errors Octets old same = let first : 101 ≡ 111 = ap (λ (w : List ℕ). get_or w 0 0) same in absurd (omega (arith, first))
added Errors Packets old same = let first : 101 ≡ 112 = ap (λ (w : List ℕ). get_or w 0 0) same in absurd (omega (arith, first))
added Errors Errors old same = refl
added Errors Discards old same = let first : 101 ≡ 100 = ap (λ (w : List ℕ). get_or w 0 0) same in absurd (omega (arith, first))
added Discards Octets old same = let first : 100 ≡ 111 = ap (λ (w : List ℕ). get_or w 0 0) same in absurd (omega (arith, first))
added Discards Packets old same = let first : 100 ≡ 112 = ap (λ (w : List ℕ). get_or w 0 0) same in absurd (omega (arith, first))
added Discards Errors old same = let first : 100 ≡ 101 = ap (λ (w : List ℕ). get_or w 0 0) same in absurd (omega (arith, first))
added Discards Discards old same = refl

-- no kind is polled yet, and no word names one
pub no_kinds : (kinds : Kinds) → ((kind : Kind) → is_wanted kinds kind ≡ true → ⊥) → AreKinds [] kinds
no_kinds kinds none = record { each = All-nil IsKindWord; exactly = λ kind. ((λ wanted. absurd (none kind wanted)), (λ contains. absurd (omega (arith, contains.1)))) }

module _ (words : List (List ℕ)) (word : List ℕ) (kind : Kind) (old new : Kinds) (is : word ≡ kind_word kind) (now : new ≡ with_kind kind old) (are : AreKinds words old) where
  named_now : (other : Kind) → (is_wanted old other ≡ true) ⊎ (kind_word kind ≡ kind_word other) → Contains (words ++ word ∷ []) (kind_word other)
  named_now other (inl wanted) = Contains-append_left words (word ∷ []) (kind_word other) ((are.exactly other).0 wanted)
  named_now other (inr same) = subst (λ (w : List ℕ). Contains (words ++ word ∷ []) w) (is ∙ same) (Contains-push words word)

  wanted_now : (other : Kind) → Contains words (kind_word other) ⊎ (word ≡ kind_word other) → is_wanted (with_kind kind old) other ≡ true
  wanted_now other (inl named) = still_wanted kind other old ((are.exactly other).1 named)
  wanted_now other (inr same) = added kind other old (sym is ∙ same)

  -- one word more
  pub one_kind : AreKinds (words ++ word ∷ []) new
  one_kind = record {
    each = All-push IsKindWord words word are.each (kind, is);
    exactly = λ other. (
      (λ wanted. named_now other (was_or_is kind other old (sym (ap (λ (k : Kinds). is_wanted k other) now) ∙ wanted))),
      (λ named. ap (λ (k : Kinds). is_wanted k other) now ∙ wanted_now other (Contains-push_cases words word (kind_word other) named)),
    );
  }
