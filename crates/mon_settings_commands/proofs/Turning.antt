-- A walk through a column, variable by variable and turn by turn, and the columns one after
-- another.
use Rattle.std.proofs.Common.{◌≡◌, ◌∙◌, ◌+◌, ◌<◌, ◌≤◌, ◌∷◌, ℕ, zero, suc, List, [], Result, Ok, Err, add-one, ap, arith, drop, get_or, inl, inr, length, refl, set, subst, sym}
use Rattle.std.specs.Global.{Vec}
use Rattle.std.proofs.lemmas.List.{append-nil, drop-set-lt, drop_all, drop_more}
use Rattle.mon_console.specs.declared.failure.Failure.{Failure}
use Rattle.mon_host.specs.Then.{Follows, Quietly}
use Rattle.mon_pdu.specs.declared.message.Binding.{Binding}
use Rattle.mon_survey.specs.Plan.{needs}
use Rattle.mon_survey.specs.declared.answers.Cell.{Cell}
use Rattle.mon_survey.specs.declared.choice.Kinds.{Kinds}
use Rattle.mon_survey.specs.declared.column.Column.{Column}
use Rattle.mon_settings_commands.specs.Exchange.{AsksBy, Exchange}
use Rattle.mon_settings_commands.specs.Surveyed.{AreWalked, IsWalkIf}
use Rattle.mon_settings_commands.specs.Walked.{ArePut, HasTurned, IsColumnWalk, IsLast, IsPut, IsReplyPut, IsTaken, IsTurn, IsUnending, On, Stand, Turned, last_turn, place_of, stand}
use Rattle.mon_settings_commands.proofs.Exchanged.{Log, asks_both, asks_fail, asks_none, asks_quietly, asks_so, asks_then}

-- whatever becomes of the variables that are left becomes of all of them
abbrev pub LeadsOn : (agent : List ℕ) (first : Stand) (all : List Binding) (now : Stand) (rest : List Binding) → Type 0
LeadsOn agent first all now rest = (result : Result Turned Failure) → ArePut agent now rest result → ArePut agent first all result

module _ (agent : List ℕ) (first : Stand) (all : List Binding) where
  pub next_is : (items : List Binding) (i : ℕ) (b : Binding) → i < length items → b ≡ get_or items i b → drop i items ≡ b ∷ drop (i + 1) items
  next_is items i b inside is = drop_more items i b inside ∙ ap (λ (x : Binding). x ∷ drop (i + 1) items) (sym is)

  -- one variable is taken
  pub leads_on : (now next : Stand) (items : List Binding) (i : ℕ) (b new : Binding) → i < length items → b ≡ get_or items i b → LeadsOn agent first all now (drop i items)
      → IsTaken now b next → LeadsOn agent first all next (drop (i + 1) (set items i new))
  leads_on now next items i b new inside is leads one = λ result later.
      leads result (subst (λ (bs : List Binding). ArePut agent now bs result) (sym (next_is items i b inside is))
      (inr (next, one, subst (λ (bs : List Binding). ArePut agent next bs result) (drop-set-lt (i + 1) items i new (omega arith)) later)))

  -- the walk ends at one
  pub leads_to_last : (now : Stand) (items : List Binding) (i : ℕ) (b : Binding) (result : Result Turned Failure) → i < length items → b ≡ get_or items i b
      → LeadsOn agent first all now (drop i items) → IsLast result → IsPut agent now b result → ArePut agent first all result
  leads_to_last now items i b result inside is leads last one =
      leads result (subst (λ (bs : List Binding). ArePut agent now bs result) (sym (next_is items i b inside is)) (inl (last, one)))

  -- none is left
  pub leads_to_end : (now : Stand) (items : List Binding) (i : ℕ) → length items ≤ i → LeadsOn agent first all now (drop i items) → ArePut agent first all (Ok (On now))
  leads_to_end now items i past leads = leads (Ok (On now)) (subst (λ (bs : List Binding). ArePut agent now bs (Ok (On now))) (sym (drop_all i items past)) refl)

-- variables that are taken leave the walk under the same name
start_of_put : (agent : List ℕ) (s now : Stand) (bs : List Binding) → ArePut agent s bs (Ok (On now)) → now.place.start ≡ s.place.start
start_of_put agent s now [] put = same_start s now put
  where
    same_start : (s now : Stand) → (let r : Result Turned Failure = Ok (On now) in r) ≡ Ok (On s) → now.place.start ≡ s.place.start
    same_start s now is = let same : now ≡ s = cc in ap (λ (x : Stand). x.place.start) same
start_of_put agent s now (b ∷ bs) (inl (last, put)) = absurd last
start_of_put agent s now (b ∷ bs) (inr (next, one, put)) = start_of_put agent next now bs put ∙ one.start

start_of_reply : (agent : List ℕ) (s now : Stand) (bs : List Binding) → IsReplyPut agent s bs (Ok (On now)) → now.place.start ≡ s.place.start
start_of_reply agent s now [] put = absurd put
start_of_reply agent s now (b ∷ bs) put = start_of_put agent s now (b ∷ bs) put

start_of_given : (agent : List ℕ) (s now : Stand) (given : Result (Vec Binding) Failure) (rest : List Exchange)
    → Follows (λ (bindings : Vec Binding). Quietly (IsReplyPut agent s bindings.items)) given rest (Ok (On now)) → now.place.start ≡ s.place.start
start_of_given agent s now (Ok bindings) rest (none, put) = start_of_reply agent s now bindings.items put
start_of_given agent s now (Err failure) rest (none, is) = absurd (let never : ⊥ = cc in never)

-- and so do turns
start_of_turns : (agent : List ℕ) (first now : Stand) (n : ℕ) (log : List Exchange) → HasTurned agent first n log now → now.place.start ≡ first.place.start
start_of_turns agent first now zero log (none, is) = ap (λ (x : Stand). x.place.start) is
start_of_turns agent first now (suc n) log (earlier, others, before, walked, turn, is) =
    start_of_given agent before now turn.given turn.rest turn.second ∙ start_of_turns agent first before n earlier walked

module _ (agent community : List ℕ) (column : Column) (cells : List Cell) where
  -- so far was walked
  abbrev pub IsAt : ℕ → Stand → ℕ → ℕ → Log → Log → Type 0
  IsAt n now id last before after = AsksBy (λ log. HasTurned agent (stand (place_of column) cells) n log now) community id last before after

  pub begins : (now : Stand) (id : ℕ) (told : Log) → now ≡ stand (place_of column) cells → IsAt 0 now id id told told
  begins now id told is = asks_none community (λ log. HasTurned agent (stand (place_of column) cells) 0 log now) id told (refl, is)

  -- one turn more
  pub goes_on : (now next : Stand) (n id between last : ℕ) (before middle after : Log) → IsAt n now id between before middle
      → AsksBy (λ log. IsTurn agent now log (Ok (On next))) community between last middle after → IsAt (n + 1) next id last before after
  goes_on now next n id between last before middle after at turn =
      subst (λ (k : ℕ). IsAt k next id last before after) (sym (add-one n))
      (asks_both community (λ log. HasTurned agent (stand (place_of column) cells) n log now) (λ log. IsTurn agent now log (Ok (On next)))
      (λ log. HasTurned agent (stand (place_of column) cells) (suc n) log next) id between last before middle after
      (λ es fs walked one. (es, fs, now, walked, one, refl)) at turn)

  -- the last turn
  pub ends : (now : Stand) (n : ℕ) (result : Result (List Cell) Failure) (id between last : ℕ) (before middle after : Log) → n < 65536 → IsAt n now id between before middle
      → AsksBy (λ log. IsTurn agent now log (last_turn result)) community between last middle after → AsksBy (λ log. IsColumnWalk agent column cells log result) community id last before after
  ends now n result id between last before middle after few at turn =
      asks_both community (λ log. HasTurned agent (stand (place_of column) cells) n log now) (λ log. IsTurn agent now log (last_turn result))
      (λ log. IsColumnWalk agent column cells log result) id between last before middle after
      (λ es fs walked one. record { turns = n; earlier = es; now = now; walked = walked; others = fs; log_is = refl; ended = inl (few, one) }) at turn

  -- all the turns that a walk may take
  pub never_ends : (now : Stand) (n : ℕ) (failure : Failure) (id last : ℕ) (before after : Log) → n ≡ 65536 → IsUnending agent now.place.start failure → IsAt n now id last before after
      → AsksBy (λ log. IsColumnWalk agent column cells log (Err failure)) community id last before after
  never_ends now n failure id last before after full said at =
      asks_so community (λ log. HasTurned agent (stand (place_of column) cells) n log now) (λ log. IsColumnWalk agent column cells log (Err failure)) id last before after
      (λ es walked. record {
        turns = n;
        earlier = es;
        now = now;
        walked = walked;
        others = [];
        log_is = sym (append-nil es);
        ended = inr (full, refl, subst (λ (start : List ℕ). IsUnending agent start failure) (start_of_turns agent (stand (place_of column) cells) now n es walked) said);
      }) at

-- whatever becomes of the columns that are left becomes of all of them
abbrev pub LeadsThrough : (agent : List ℕ) (kinds : Kinds) (community : List ℕ) (all : List Column) (cells : List Cell) (id : ℕ) (before : Log) (rest : List Column) (now : List Cell) (between : ℕ) (middle : Log) → Type 0
LeadsThrough agent kinds community all cells id before rest now between middle = (result : Result (List Cell) Failure) (last : ℕ) (after : Log)
    → AsksBy (λ log. AreWalked agent kinds rest now log result) community between last middle after → AsksBy (λ log. AreWalked agent kinds all cells log result) community id last before after

module _ (agent : List ℕ) (kinds : Kinds) (community : List ℕ) (all : List Column) (cells : List Cell) (id : ℕ) (before : Log) where
  abbrev pub LeadsFrom : List Column → List Cell → ℕ → Log → Type 0
  LeadsFrom rest now between middle = LeadsThrough agent kinds community all cells id before rest now between middle

  column_at : (items : List Column) (i : ℕ) (d : Column) → items ≡ all → i < length items → drop i all ≡ get_or items i d ∷ drop (i + 1) all
  column_at items i d same inside =
      sym (ap (λ (cs : List Column). drop i cs) same) ∙ (drop_more items i d inside ∙ ap (λ (cs : List Column). get_or items i d ∷ drop (i + 1) cs) same)

  -- one column more
  pub through_one : (items : List Column) (i : ℕ) (d : Column) (now next : List Cell) (between then : ℕ) (middle later : Log) → items ≡ all → i < length items
      → LeadsFrom (drop i all) now between middle → AsksBy (λ log. IsWalkIf (needs kinds (get_or items i d)) agent (get_or items i d) now log (Ok next)) community between then middle later
      → LeadsFrom (drop (i + 1) all) next then later
  through_one items i d now next between then middle later same inside leads one = λ result last after rest.
      leads result last after (subst (λ (cs : List Column). AsksBy (λ log. AreWalked agent kinds cs now log result) community between last middle after) (sym (column_at items i d same inside))
      (asks_then community (IsWalkIf (needs kinds (get_or items i d)) agent (get_or items i d) now) (λ more. AreWalked agent kinds (drop (i + 1) all) more) next result between then last middle later after one rest))

  -- a column fails
  pub through_fails : (items : List Column) (i : ℕ) (d : Column) (now : List Cell) (failure : Failure) (between then : ℕ) (middle later : Log) → items ≡ all → i < length items
      → LeadsFrom (drop i all) now between middle → AsksBy (λ log. IsWalkIf (needs kinds (get_or items i d)) agent (get_or items i d) now log (Err failure)) community between then middle later
      → AsksBy (λ log. AreWalked agent kinds all cells log (Err failure)) community id then before later
  through_fails items i d now failure between then middle later same inside leads one =
      leads (Err failure) then later (subst (λ (cs : List Column). AsksBy (λ log. AreWalked agent kinds cs now log (Err failure)) community between then middle later) (sym (column_at items i d same inside))
      (asks_fail community (IsWalkIf (needs kinds (get_or items i d)) agent (get_or items i d) now) (λ more. AreWalked agent kinds (drop (i + 1) all) more) failure (Err failure) between then middle later refl one))

  -- none is left
  pub through_all : (items : List Column) (i : ℕ) (now : List Cell) (between : ℕ) (middle : Log) → items ≡ all → length items ≤ i → LeadsFrom (drop i all) now between middle
      → AsksBy (λ log. AreWalked agent kinds all cells log (Ok now)) community id between before middle
  through_all items i now between middle same past leads =
      let none : drop i all ≡ [] = sym (ap (λ (cs : List Column). drop i cs) same) ∙ drop_all i items past in
      leads (Ok now) between middle (subst (λ (cs : List Column). AsksBy (λ log. AreWalked agent kinds cs now log (Ok now)) community between between middle middle) (sym none)
      (asks_quietly community (λ (r : Result (List Cell) Failure). r ≡ Ok now) (Ok now) between middle refl))
