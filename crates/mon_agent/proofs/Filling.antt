-- The response to a GetBulk as it is filled: names that are listed, and rounds of answers.
use Rattle.std.proofs.Common.{◌≡◌, ℕ, zero, suc, ◌+◌, ◌<◌, ◌≤◌, min, Bool, true, false, ◌&&◌, ℤ, List, [], ◌∷◌, ◌++◌, length, map, get_or, take, drop, set, refl, sym, ap, subst, ◌∙◌, inl, inr, ◌⊎◌, arith}
use Rattle.std.specs.Prelude.{Option, Some, None, OnSome, IfSome, Result, Ok, Err, OnOk}
use Rattle.std.specs.Result.{result_ok}
use Rattle.std.proofs.lemmas.List.{take_more, take_more_set, drop_more, drop-set-lt, map-append, append_assoc, append-nil, take_all}
use Rattle.std.proofs.Math.Seq.{split_at}
use Rattle.mon_pdu.specs.declared.message.Binding.{Binding}
use Rattle.mon_pdu.specs.Grammar.{IsBinding}
use Rattle.mon_pdu.specs.declared.frame.BulkFrame.{BulkFrame}
use Rattle.mon_pdu.specs.declared.message.Message.{Message}
use Rattle.mon_pdu.specs.Framed.{framed, bulk_framed}
use Rattle.mon_pdu.specs.Sizes.{with_bindings}
use Rattle.mon_pdu.specs.Writing.{list_contents, written_message}
use Rattle.mon_mib.specs.Known.{Known}
use Rattle.mon_agent.specs.declared.bulk_in_place.BulkPlan.{BulkPlan}
use Rattle.mon_agent.specs.declared.bulk_in_place.Round.{Round}
use Rattle.mon_agent.specs.declared.bulk_in_place.Round.TheVariants.{Full, Last, More}
use Rattle.mon_agent.specs.Bulk.{IsLongestPart, IsStepper, full_list, is_end, all_end_of_mib_view, names_of, rounds}
use Rattle.mon_agent.specs.Filling.{AreNamed, FitsIn, IsFilled, IsRoundPut}
use Rattle.mon_agent.specs.ResponseBuilder.{IsEnded}
use Rattle.mon_agent.specs.Reply.{IsWithinLimit, answered, count_of}
use Rattle.mon_agent.proofs.Longest.{longest}
use Rattle.mon_agent.proofs.Rounds.{cut_longer, cut_is}

-- ---- names that are listed

pub none_named : (octets : List ℕ) (now : List (List ℕ)) → octets ≡ [] → AreNamed octets now now
none_named octets now end = record { asked = []; spelled = end; named = sym (append-nil now) }

-- what is listed of what is left completes what is listed of all
pub record IsUnnamed (octets : List ℕ) (old : List (List ℕ)) (rest : List ℕ) (now : List (List ℕ)) : Type 0 where
  pub others : (new : List (List ℕ)) → AreNamed rest now new → AreNamed octets old new

pub one_named : (octets : List ℕ) (old : List (List ℕ)) (rest : List ℕ) (now : List (List ℕ)) (after : List ℕ) (new : List (List ℕ)) → IsUnnamed octets old rest now
    → ((text : List ℕ) × (asked : Binding) × IsBinding text asked × (rest ≡ text ++ after) × (new ≡ now ++ asked.name ∷ [])) → IsUnnamed octets old after new
one_named octets old rest now after new left one = record {
  others = λ last listed. left.others last (record {
    asked = one.1 ∷ listed.asked;
    spelled = (one.0, after, one.3, one.2, listed.spelled);
    named = listed.named ∙ ap (λ l. l ++ names_of listed.asked) one.4 ∙ append_assoc now (one.1.name ∷ []) (names_of listed.asked);
  });
}

-- ---- a round

-- so far the old names were answered, and their places have the names of the answers
pub record IsSoFar (k : Known) (sees : List ℕ → Type 0) (before : List Binding) (old new : List (List ℕ)) (ended : Bool) (octets : List ℕ) : Type 0 where
  pub reply : List Binding
  pub put : octets ≡ list_contents reply
  pub right : (next : List ℕ → Binding) → IsStepper k sees next → (reply ≡ before ++ map next old) × (ended ≡ all_end_of_mib_view (map next old)) × (new ≡ names_of (map next old))

pub round_begins : (k : Known) (sees : List ℕ → Type 0) (before : List Binding) (octets : List ℕ) → octets ≡ list_contents before → IsSoFar k sees before [] [] true octets
round_begins k sees before octets put = record { reply = before; put = put; right = λ next steps. (sym (append-nil before), refl, refl) }

-- what is read at place i is still what was there
pub kept_at : (old names : List (List ℕ)) (i : ℕ) (d : List ℕ) → i < length names → length names ≡ length old → drop i names ≡ drop i old → get_or names i d ≡ get_or old i d
kept_at old names i d lt long rest = heads (sym (drop_more names i d lt) ∙ (rest ∙ drop_more old i d (omega (arith, lt, long))))
  where
    heads : {x y : List ℕ} {xs ys : List (List ℕ)} → x ∷ xs ≡ y ∷ ys → x ≡ y
    heads e = cc

pub rest_kept : (old names : List (List ℕ)) (i : ℕ) (d new : List ℕ) → i < length names → length names ≡ length old → drop i names ≡ drop i old
    → drop (i + 1) (set names i new) ≡ drop (i + 1) old
rest_kept old names i d new lt long rest =
    drop-set-lt (i + 1) names i new (omega arith) ∙ tails (sym (drop_more names i d lt) ∙ (rest ∙ drop_more old i d (omega (arith, lt, long))))
  where
    tails : {x y : List ℕ} {xs ys : List (List ℕ)} → x ∷ xs ≡ y ∷ ys → xs ≡ ys
    tails e = cc

last_more : (bs : List Binding) (b : Binding) → all_end_of_mib_view (bs ++ b ∷ []) ≡ (all_end_of_mib_view bs && is_end b.value)
last_more [] b = alone (is_end b.value)
  where
    alone : (x : Bool) → (x && true) ≡ (true && x)
    alone true = refl
    alone false = refl
last_more (a ∷ bs) b = ap (λ (x : Bool). is_end a.value && x) (last_more bs b) ∙ joined (is_end a.value) (all_end_of_mib_view bs) (is_end b.value)
  where
    joined : (x y z : Bool) → (x && (y && z)) ≡ ((x && y) && z)
    joined true y z = refl
    joined false y z = refl

-- one answer more
pub one_answered : (k : Known) (sees : List ℕ → Type 0) (before : List Binding) (old names : List (List ℕ)) (i : ℕ) (d : List ℕ) (answer : Binding) (ended : Bool) (octets now : List ℕ)
    → i < length names → length names ≡ length old → drop i names ≡ drop i old
    → ((next : List ℕ → Binding) → IsStepper k sees next → answer ≡ next (get_or names i d))
    → (so_far : IsSoFar k sees before (take i old) (take i names) ended octets) → now ≡ list_contents (so_far.reply ++ answer ∷ [])
    → IsSoFar k sees before (take (i + 1) old) (take (i + 1) (set names i answer.name)) (ended && is_end answer.value) now
one_answered k sees before old names i d answer ended octets now lt long rest one so_far put = record {
  reply = so_far.reply ++ answer ∷ [];
  put = put;
  right = λ next steps.
      let it = so_far.right next steps in
      let is : answer ≡ next (get_or old i d) = one next steps ∙ ap next (kept_at old names i d lt long rest) in
      let more : map next (take (i + 1) old) ≡ map next (take i old) ++ answer ∷ [] =
      ap (map next) (take_more old i d (omega (arith, lt, long))) ∙ (map-append next (take i old) (get_or old i d ∷ []) ∙ ap (λ (b : Binding). map next (take i old) ++ b ∷ []) (sym is)) in (
        ap (λ l. l ++ answer ∷ []) it.0 ∙ (append_assoc before (map next (take i old)) (answer ∷ []) ∙ ap (λ l. before ++ l) (sym more)),
        ap (λ (e : Bool). e && is_end answer.value) it.1 ∙ (sym (last_more (map next (take i old)) answer) ∙ ap all_end_of_mib_view (sym more)),
        take_more_set names i answer.name lt ∙ (ap (λ l. l ++ answer.name ∷ []) it.2 ∙ (sym (map-append (λ (b : Binding). b.name) (map next (take i old)) (answer ∷ [])) ∙ ap names_of (sym more))),
      );
}

-- one that does not fit
pub round_cut : (k : Known) (sees : List ℕ → Type 0) (fits : List Binding → Type 0) (before : List Binding) (old names new : List (List ℕ)) (i : ℕ) (d : List ℕ) (answer : Binding) (ended : Bool) (octets now : List ℕ)
    → i < length names → length names ≡ length old → drop i names ≡ drop i old
    → ((next : List ℕ → Binding) → IsStepper k sees next → answer ≡ next (get_or names i d))
    → (so_far : IsSoFar k sees before (take i old) (take i names) ended octets) → now ≡ list_contents so_far.reply → ¬ (fits (so_far.reply ++ answer ∷ []))
    → IsRoundPut k sees fits Full before old new now
round_cut k sees fits before old names new i d answer ended octets now lt long rest one so_far put full = record {
  reply = so_far.reply;
  put = put;
  right = λ next steps.
      let is : answer ≡ next (get_or old i d) = one next steps ∙ ap next (kept_at old names i d lt long rest) in
      let later = map next (drop (suc i) old) in
      record {
        next = answer;
        rest = later;
        whole =
            ap (λ l. before ++ map next l) (split_at old i d (omega (arith, lt, long)))
            ∙ (ap (λ l. before ++ l) (map-append next (take i old) (get_or old i d ∷ drop (suc i) old))
            ∙ (sym (append_assoc before (map next (take i old)) (next (get_or old i d) ∷ later))
            ∙ (ap (λ l. l ++ next (get_or old i d) ∷ later) (sym (so_far.right next steps).0)
            ∙ ap (λ (b : Binding). so_far.reply ++ b ∷ later) (sym is))));
        full = full;
      };
}

-- all of them were answered
pub round_ends : (k : Known) (sees : List ℕ → Type 0) (fits : List Binding → Type 0) (before : List Binding) (old names : List (List ℕ)) (i : ℕ) (ended : Bool) (octets : List ℕ)
    → length names ≤ i → length names ≡ length old → IsSoFar k sees before (take i old) (take i names) ended octets
    → (ended ≡ true → IsRoundPut k sees fits Last before old names octets) × (ended ≡ false → IsRoundPut k sees fits More before old names octets)
round_ends k sees fits before old names i ended octets le long so_far =
    let all : take i old ≡ old = take_all i old (omega (arith, le, long)) in
    let own : take i names ≡ names = take_all i names le in (
      λ is. record {
        reply = so_far.reply;
        put = so_far.put;
        right = λ next steps. (
          (so_far.right next steps).0 ∙ ap (λ l. before ++ map next l) all,
          ap (λ l. all_end_of_mib_view (map next l)) (sym all) ∙ (sym (so_far.right next steps).1 ∙ is),
        );
      },
      λ is. record {
        reply = so_far.reply;
        put = so_far.put;
        right = λ next steps. (
          (so_far.right next steps).0 ∙ ap (λ l. before ++ map next l) all,
          ap (λ l. all_end_of_mib_view (map next l)) (sym all) ∙ (sym (so_far.right next steps).1 ∙ is),
          sym own ∙ ((so_far.right next steps).2 ∙ ap (λ l. names_of (map next l)) all),
        );
      },
    )

-- ---- rounds

-- So far rounds were put, and what is still to put is that many more for these names.
pub record IsUnfilled (k : Known) (sees : List ℕ → Type 0) (full : (List ℕ → Binding) → List Binding) (left : ℕ) (names : List (List ℕ)) (octets : List ℕ) : Type 0 where
  pub reply : List Binding
  pub put : octets ≡ list_contents reply
  pub rest : (next : List ℕ → Binding) → IsStepper k sees next → full next ≡ reply ++ rounds next left names

pub rounds_begin : (k : Known) (sees : List ℕ → Type 0) (before : List Binding) (n : ℕ) (names : List (List ℕ)) (octets : List ℕ) → octets ≡ list_contents before
    → IsUnfilled k sees (λ next. before ++ rounds next n names) n names octets
rounds_begin k sees before n names octets put = record { reply = before; put = put; rest = λ next steps. refl }

one_round : (next : List ℕ → Binding) (n : ℕ) (names : List (List ℕ)) → all_end_of_mib_view (map next names) ≡ false
    → rounds next (suc n) names ≡ map next names ++ rounds next n (names_of (map next names))
unfolding rounds
one_round next n names other = rw other refl

last_round : (next : List ℕ → Binding) (n : ℕ) (names : List (List ℕ)) → all_end_of_mib_view (map next names) ≡ true → rounds next (suc n) names ≡ map next names
unfolding rounds
last_round next n names end = rw end (append-nil (map next names))

no_round : (next : List ℕ → Binding) (names : List (List ℕ)) → rounds next 0 names ≡ []
unfolding rounds
no_round next names = refl

-- the first round, and what may follow it
first_of_rounds : (next : List ℕ → Binding) (n : ℕ) (names : List (List ℕ)) → (more : List Binding) × (rounds next (suc n) names ≡ map next names ++ more)
unfolding rounds
first_of_rounds next n names = (_, refl)

module _ (k : Known) (sees : List ℕ → Type 0) (fits : List Binding → Type 0) (full : (List ℕ → Binding) → List Binding) where
  -- another round can follow
  pub round_follows : (left now : ℕ) (names new : List (List ℕ)) (octets after : List ℕ) → left ≡ suc now → (at : IsUnfilled k sees full left names octets)
      → IsRoundPut k sees fits More at.reply names new after → IsUnfilled k sees full now new after
  round_follows left now names new octets after is at round = record {
    reply = round.reply;
    put = round.put;
    rest = λ next steps.
        let it = round.right next steps in
        at.rest next steps
        ∙ (ap (λ n. at.reply ++ rounds next n names) is
        ∙ (ap (λ l. at.reply ++ l) (one_round next now names it.1)
        ∙ (sym (append_assoc at.reply (map next names) (rounds next now (names_of (map next names))))
        ∙ (ap (λ l. l ++ rounds next now (names_of (map next names))) (sym it.0)
        ∙ ap (λ l. round.reply ++ rounds next now l) (sym it.2)))));
  }

  -- none follows one that is at the end
  pub rounds_last : (left now : ℕ) (names new : List (List ℕ)) (octets after : List ℕ) → left ≡ suc now → (at : IsUnfilled k sees full left names octets)
      → IsRoundPut k sees fits Last at.reply names new after → IsFilled k sees fits full after
  rounds_last left now names new octets after is at round = record {
    reply = round.reply;
    put = round.put;
    ended = λ next steps.
        let it = round.right next steps in
        inl (it.0 ∙ sym (at.rest next steps ∙ (ap (λ n. at.reply ++ rounds next n names) is ∙ ap (λ l. at.reply ++ l) (last_round next now names it.1))));
  }

  -- nor one that does not fit
  pub rounds_cut : (left now : ℕ) (names new : List (List ℕ)) (octets after : List ℕ) → left ≡ suc now → (at : IsUnfilled k sees full left names octets)
      → IsRoundPut k sees fits Full at.reply names new after → IsFilled k sees fits full after
  rounds_cut left now names new octets after is at round = record {
    reply = round.reply;
    put = round.put;
    ended = λ next steps.
        let first = first_of_rounds next now names in
        inr (cut_is fits _ _ round.reply
        (append_assoc at.reply (map next names) first.0
        ∙ (ap (λ l. at.reply ++ l) (sym first.1) ∙ (ap (λ n. at.reply ++ rounds next n names) (sym is) ∙ sym (at.rest next steps))))
        (cut_longer fits (at.reply ++ map next names) first.0 round.reply (round.right next steps)));
  }

  -- so none follows a round but after which another can follow
  pub rounds_stop : (round : Round) (left now : ℕ) (names new : List (List ℕ)) (octets after : List ℕ) → ¬ (round ≡ More) → left ≡ suc now → (at : IsUnfilled k sees full left names octets)
      → IsRoundPut k sees fits round at.reply names new after → IsFilled k sees fits full after
  rounds_stop Full left now names new octets after other is at put = rounds_cut left now names new octets after is at put
  rounds_stop Last left now names new octets after other is at put = rounds_last left now names new octets after is at put
  rounds_stop More left now names new octets after other is at put = absurd (other refl)

  -- all were put
  pub rounds_end : (left : ℕ) (names : List (List ℕ)) (octets : List ℕ) → left ≡ 0 → IsUnfilled k sees full left names octets → IsFilled k sees fits full octets
  rounds_end left names octets is at = record {
    reply = at.reply;
    put = at.put;
    ended = λ next steps.
        inl (sym (at.rest next steps ∙ (ap (λ n. at.reply ++ rounds next n names) is ∙ (ap (λ l. at.reply ++ l) (no_round next names) ∙ append-nil at.reply))));
  }

-- ---- those that are answered once, and then the rounds

module _ (k : Known) (sees : List ℕ → Type 0) (fits : List Binding → Type 0) (once n : ℕ) (names first others new : List (List ℕ)) (octets : List ℕ)
    (front : first ≡ take once names) (back : others ≡ drop once names) where
  abbrev whole : (List ℕ → Binding) → List Binding
  whole next = map next (take once names) ++ rounds next n (drop once names)

  pub once_cut : IsRoundPut k sees fits Full [] first new octets → IsFilled k sees fits whole octets
  once_cut round = record {
    reply = round.reply;
    put = round.put;
    ended = λ next steps.
        inr (cut_is fits _ _ round.reply (ap (λ l. map next l ++ rounds next n (drop once names)) front)
        (cut_longer fits (map next first) (rounds next n (drop once names)) round.reply (round.right next steps)));
  }

  pub then_rounds : (reply : List Binding) (after : List ℕ) → ((next : List ℕ → Binding) → IsStepper k sees next → reply ≡ map next first)
      → IsFilled k sees fits (λ next. reply ++ rounds next n others) after → IsFilled k sees fits whole after
  then_rounds reply after is filled = record {
    reply = filled.reply;
    put = filled.put;
    ended = λ next steps.
        subst (λ l. IsEnded fits l filled.reply) (λ i. (is next steps ∙ ap (map next) front) i ++ rounds next n (back i)) (filled.ended next steps);
  }

-- all of a round was put that fits
pub all_put : (k : Known) (sees : List ℕ → Type 0) (fits : List Binding → Type 0) (round : Round) (old new : List (List ℕ)) (octets : List ℕ) → ¬ (round ≡ Full)
    → (put : IsRoundPut k sees fits round [] old new octets) → (next : List ℕ → Binding) → IsStepper k sees next → put.reply ≡ map next old
all_put k sees fits Full old new octets other put = absurd (other refl)
all_put k sees fits Last old new octets other put = λ next steps. (put.right next steps).0
all_put k sees fits More old new octets other put = λ next steps. (put.right next steps).0

either : (n m : ℕ) → (n ≤ m) ⊎ (m ≤ n)
either zero m = inl (omega arith)
either (suc n) zero = inr (omega arith)
either (suc n) (suc m) = elim (either n m) [ inl le ↦ inl (omega arith) | inr le ↦ inr (omega arith) ]

-- no more can be taken, or left out, than there are
pub taken : (n k : ℕ) (l : List (List ℕ)) → k ≡ min n (length l) → take k l ≡ take n l
taken n k l is = elim (either n (length l)) [
  | inl le ↦ ap (λ i. take i l) (omega (arith, is, le))
  | inr le ↦ take_all k l (omega (arith, is, le)) ∙ sym (take_all n l le)
]

pub left_out : (n k : ℕ) (l : List (List ℕ)) → k ≡ min n (length l) → drop k l ≡ drop n l
left_out n k l is = elim (either n (length l)) [
  | inl le ↦ ap (λ i. drop i l) (omega (arith, is, le))
  | inr le ↦ none k l (omega (arith, is, le)) ∙ sym (none n l le)
]
  where
    none : (n : ℕ) (l : List (List ℕ)) → length l ≤ n → drop n l ≡ []
    none zero [] le = refl
    none (suc n) [] le = refl
    none zero (x ∷ l) le = absurd (omega arith)
    none (suc n) (x ∷ l) le = none n l (omega arith)

pub on_some : {A P Q : Type 0} (o : Option A) → (P → Q) → OnSome o P → OnSome o Q
on_some (Some x) f p = f p
on_some None f p = p

pub on_ok : {A E P : Type 0} (r : Result A E) (x : A) → Some x ≡ result_ok r → OnOk r P → P
on_ok (Ok y) x is p = p
on_ok (Err e) x is p = absurd cc

pub mapped : {A : Type 0} (o : Option A) (P Q : A → Type 0) → IfSome o P → ((x : A) → P x → Q x) → IfSome o Q
mapped (Some x) P Q p f = f x p
mapped None P Q p f = tt

pub both_mapped : {A : Type 0} (o : Option A) (P Q R : A → Type 0) → IfSome o P → IfSome o Q → ((x : A) → P x → Q x → R x) → IfSome o R
both_mapped (Some x) P Q R p q f = f x p q
both_mapped None P Q R p q f = tt

-- ---- what was filled answers the GetBulk

taken_names : (n : ℕ) (bs : List Binding) → take n (names_of bs) ≡ names_of (take n bs)
taken_names zero bs = refl
taken_names (suc n) [] = refl
taken_names (suc n) (b ∷ bs) = ap (λ l. b.name ∷ l) (taken_names n bs)

left_names : (n : ℕ) (bs : List Binding) → drop n (names_of bs) ≡ names_of (drop n bs)
left_names zero bs = refl
left_names (suc n) [] = refl
left_names (suc n) (b ∷ bs) = left_names n bs

full_is : (next : List ℕ → Binding) (once n : ℕ) (names : List (List ℕ)) (non_repeaters max_repetitions : ℤ) (asked : List Binding)
    → once ≡ count_of non_repeaters → n ≡ count_of max_repetitions → names ≡ names_of asked
    → map next (take once names) ++ rounds next n (drop once names) ≡ full_list next non_repeaters max_repetitions asked
unfolding full_list
full_is next once n names non_repeaters max_repetitions asked first many named =
    (λ i. map next (take (first i) (named i)) ++ rounds next (many i) (drop (first i) (named i)))
    ∙ (λ i. map next (taken_names (count_of non_repeaters) asked i) ++ rounds next (count_of max_repetitions) (left_names (count_of non_repeaters) asked i))

-- what fits is the same
ended_as : (P Q : List Binding → Type 0) (all other part : List Binding) → ((bindings : List Binding) → Q bindings → P bindings) → all ≡ other → IsEnded P all part → IsEnded Q other part
ended_as P Q all other part since is (inl whole) = inl (whole ∙ is)
ended_as P Q all other part since is (inr cut) = inr (record { next = cut.next; rest = cut.rest; whole = sym is ∙ cut.whole; full = λ fits. cut.full (since (part ++ cut.next ∷ []) fits) })

pub bulk_answered : (k : Known) (sees : List ℕ → Type 0) (plan : BulkPlan) (f : BulkFrame) (asked : List Binding) (names : List (List ℕ)) (list : List ℕ) (max_message_size : ℤ)
    → plan.once ≡ count_of f.non_repeaters → plan.rounds ≡ count_of f.max_repetitions
    → ((asked bindings : List Binding) → framed plan.head bindings ≡ answered (bulk_framed f asked) bindings) → plan.max_message_size ≡ count_of max_message_size → names ≡ names_of asked
    → ((m : Message) (bindings more : List Binding) → length (written_message (with_bindings m bindings)) ≤ length (written_message (with_bindings m (bindings ++ more))))
    → (filled : IsFilled k sees (FitsIn plan) (λ next. map next (take plan.once names) ++ rounds next plan.rounds (drop plan.once names)) list)
    → IsWithinLimit max_message_size (answered (bulk_framed f asked) filled.reply)
    → (next : List ℕ → Binding) → IsStepper k sees next
    → IsLongestPart (λ bindings. IsWithinLimit max_message_size (answered (bulk_framed f asked) bindings)) (full_list next f.non_repeaters f.max_repetitions asked) filled.reply
bulk_answered k sees plan f asked names list max_message_size once many head most named grows filled within next steps =
    let m = bulk_framed f asked in
    let fits : List Binding → Type 0 = λ bindings. IsWithinLimit max_message_size (answered m bindings) in
    longest fits (λ bindings more small. omega (arith, grows (answered m []) bindings more, small)) (full_list next f.non_repeaters f.max_repetitions asked) filled.reply (inr within)
    (ended_as (FitsIn plan) fits _ (full_list next f.non_repeaters f.max_repetitions asked) filled.reply
    (λ bindings small. omega (arith, ap (λ t. length (written_message t)) (head asked bindings), most, small))
    (full_is next plan.once plan.rounds names f.non_repeaters f.max_repetitions asked once many named)
    (filled.ended next steps))
