-- Passing over what a view hides of an object.
use Rattle.std.proofs.Common.{◌≡◌, ◌≢◌, ℕ, ◌<◌, ◌≤◌, List, [], ◌∷◌, ◌++◌, refl, sym, ◌∙◌, ap, subst, arith, inr}
use Rattle.std.specs.Prelude.{Option, Some, None, Result, Ok, Err, IfOk, IfSome, Contains, ◌⊎◌}
use Rattle.std.specs.Option.{option_map}
use Rattle.std.specs.declared.cmp.Ordering.TheVariants.{Less}
use Rattle.std.proofs.lemmas.List.Elements.{All-contains, All-push, Contains-push}
use Rattle.mon_pdu.specs.declared.message.Binding.{Binding}
use Rattle.mon_mib.specs.declared.gaps.Gap.{Gap}
use Rattle.mon_mib.specs.declared.got.Got.{Got}
use Rattle.mon_mib.specs.declared.shown.Shown.{Shown}
use Rattle.mon_mib.specs.Shown.{got_of}
use Rattle.mon_mib.specs.declared.got.Got.TheVariants.{NoObject}
use Rattle.mon_mib.specs.declared.object.Object.{Object}
use Rattle.mon_mib.specs.declared.start.Start.{Start}
use Rattle.mon_mib.specs.declared.start.Start.TheVariants.{Above}
use Rattle.mon_mib.specs.Gaps.{IsLeastInView, AreGaps, Covers}
use Rattle.mon_mib.specs.Held.{Held, IsLeastOf}
use Rattle.mon_mib.specs.Known.{Known, instances, variable}
use Rattle.mon_mib.specs.Next.{IsGot, IsVariable, IsLater, IsNext}
use Rattle.mon_mib.specs.Objects.{prefix_of}
use Rattle.mon_mib.specs.Order.{IsFrom, name_cmp, start_of}
use Rattle.mon_mib.specs.Search.{Sought, IsSeenIn, known_in}
use Rattle.mon_mib.proofs.Under.{begins, one, rises, upward}

module _ (held : Held) (sees : List ℕ → Type 0) (o : Object) where
  -- From a start on what is in view is from here on, and what is from here on is from that start
  -- on.
  pub record IsRest (start rest : Start) : Type 0 where
    pub inside : (i : ℕ) → IsFrom rest i → IsFrom start i
    pub all : (i : ℕ) → Contains (instances held o) i → IsFrom start i → sees (prefix_of o ++ i ∷ []) → IsFrom rest i

  pub whole : (start : Start) → IsRest start start
  whole start = record { inside = λ i from. from; all = λ i there from seen. from }

  -- what is least in view in the rest is least in view
  pub in_rest : (start rest : Start) (least : Option ℕ) → IsRest start rest → IsLeastInView held sees o rest least
      → IsLeastInView held sees o start least
  in_rest start rest None is none = λ j there wanted. none j there (is.all j there wanted.0 wanted.1, wanted.1)
  in_rest start rest (Some i) is some = (
    some.0,
    (is.inside i some.1.0, some.1.1),
    λ j there wanted. some.2 j there (is.all j there wanted.0 wanted.1, wanted.1),
  )

  pub in_view : (rest : Start) (i : ℕ) → IsLeastOf (instances held o) (IsFrom rest) (Some i) → sees (prefix_of o ++ i ∷ [])
      → IsLeastInView held sees o rest (Some i)
  in_view rest i least seen = (least.0, (least.1, seen), λ j there wanted. least.2 j there wanted.0)

  pub nothing : (rest : Start) → IsLeastOf (instances held o) (IsFrom rest) None → IsLeastInView held sees o rest None
  nothing rest least = λ j there wanted. least j there wanted.0

  pub hidden : (start rest : Start) (i : ℕ) → IsRest start rest → IsLeastOf (instances held o) (IsFrom rest) (Some i)
      → ¬ (sees (prefix_of o ++ i ∷ [])) → IsRest start (Above i)
  hidden start rest i is least unseen = record {
    inside = λ j lt. is.inside j (upward rest i j least.1 lt);
    all = λ j there from seen. above j (least.2 j there (is.all j there from seen)) seen;
  }
    where
      above : (j : ℕ) → i ≤ j → sees (prefix_of o ++ j ∷ []) → i < j
      above j le seen = by_cases j le (λ e. unseen (subst (λ n. sees (prefix_of o ++ n ∷ [])) (sym e) seen))
        where
          by_cases : (j : ℕ) → i ≤ j → (i ≡ j → ⊥) → i < j
          by_cases j le apart_from = grind (arith, apart_from)

  -- a gap that the instances begin in ends where they do
  ends : (start : Start) (g : Gap) (least : Option ℕ) → g.least ≡ least → Covers o start g → IsLeastInView held sees o g.start least
      → IsLeastInView held sees o start least
  ends start g None is covers none = λ j there wanted. none j there (covers.begun j wanted.0, wanted.1)
  ends start g (Some i) is covers some = (
    some.0,
    (subst (λ (l : Option ℕ). IfSome l (IsFrom start)) is covers.ended, some.1.1),
    λ j there wanted. some.2 j there (covers.begun j wanted.0, wanted.1),
  )

  pub in_gap : (start : Start) (gaps : List Gap) (g : Gap) → AreGaps held sees gaps → Contains gaps g → Covers o start g
      → IsLeastInView held sees o start g.least
  in_gap start gaps g are listed covers =
      ends start g g.least refl covers
      (subst (λ q. IsLeastInView held sees q g.start g.least) covers.same
      (All-contains (λ (h : Gap). IsLeastInView held sees h.object h.start h.least) gaps g are listed))

module _ (k : Known) (sees : List ℕ → Type 0) (x : List ℕ) (o : Object) where
  -- the least instance in view yields the next variable of the object
  pub next_some : (i : ℕ) → IsLeastInView k.held sees o (start_of (prefix_of o) x) (Some i) → IsNext (o ∷ []) k sees x (Some (variable k o i))
  next_some i least = record {
    variable = record { object = o; instance = i; served = Contains-push [] o; there = least.0; is = refl };
    later = record { beyond = (begins k sees x o).beyond i least.1.0; in_view = least.1.1 };
    least = λ c v later. no_less c v later;
  }
    where
      no_less : (c : Binding) → IsVariable (o ∷ []) k c → IsLater sees x c → name_cmp c.name (prefix_of o ++ i ∷ []) ≢ Less
      no_less c v later =
          let same : v.object ≡ o = one o v.object v.served in
          let there : Contains (instances k.held o) v.instance = subst (λ q. Contains (instances k.held q) v.instance) same v.there in
          let is : c ≡ variable k o v.instance = v.is ∙ ap (λ q. variable k q v.instance) same in
          let wanted : IsLater sees x (variable k o v.instance) = subst (IsLater sees x) is later in
          subst (λ (b : Binding). name_cmp b.name (prefix_of o ++ i ∷ []) ≢ Less) (sym is)
          (rises (prefix_of o) i v.instance (least.2 v.instance there ((begins k sees x o).covers v.instance there wanted, wanted.in_view)))

  pub next_none : IsLeastInView k.held sees o (start_of (prefix_of o) x) None → IsNext (o ∷ []) k sees x None
  next_none none c v later =
      let same : v.object ≡ o = one o v.object v.served in
      let there : Contains (instances k.held o) v.instance = subst (λ q. Contains (instances k.held q) v.instance) same v.there in
      let is : c ≡ variable k o v.instance = v.is ∙ ap (λ q. variable k q v.instance) same in
      let wanted : IsLater sees x (variable k o v.instance) = subst (IsLater sees x) is later in
      none v.instance there ((begins k sees x o).covers v.instance there wanted, wanted.in_view)

  -- so whatever is found
  pub next_found : (found : Option ℕ) → IsLeastInView k.held sees o (start_of (prefix_of o) x) found → IsNext (o ∷ []) k sees x (option_map (variable k o) found)
  next_found (Some i) least = next_some i least
  next_found None none = next_none none

  pub found_there : (start : Start) (found : Option ℕ) → IsLeastInView k.held sees o start found → IfSome found (λ i. Contains (instances k.held o) i)
  found_there start (Some i) least = least.0
  found_there start None none = tt

pub on_ok : {A E : Type 0} (r : Result A E) (P Q : A → Type 0) → ((x : A) → P x → Q x) → IfOk r P → IfOk r Q
on_ok (Ok x) P Q f p = f x p
on_ok (Err e) P Q f p = tt

-- what is so of a search is so of an equal one
module _ {D : Type 0} (held : D → Held) (s t : Sought D) (same : s ≡ t) where
  pub moved : (os : List Object) (x : List ℕ) (r : Option Binding) → IsNext os (known_in held s) (IsSeenIn s) x r
      → IsNext os (known_in held t) (IsSeenIn t) x r
  moved os x r is = subst (λ (u : Sought D). IsNext os (known_in held u) (IsSeenIn u) x r) same is

  pub moved_found : (os : List Object) (x : List ℕ) (o : Object) (found : Option ℕ) → IsNext os (known_in held s) (IsSeenIn s) x (option_map (variable (known_in held s) o) found)
      → IsNext os (known_in held t) (IsSeenIn t) x (option_map (variable (known_in held t) o) found)
  moved_found os x o found is = subst (λ (u : Sought D). IsNext os (known_in held u) (IsSeenIn u) x (option_map (variable (known_in held u) o) found)) same is

  pub there_found : (o : Object) (x : List ℕ) (found : Option ℕ) (i : ℕ) → IsNext (o ∷ []) (known_in held s) (IsSeenIn s) x (option_map (variable (known_in held s) o) found) → found ≡ Some i
      → IfSome found (λ j. Contains (instances (held s.map.device) o) j) → Contains (instances (held t.map.device) o) i
  there_found o x found i next is there =
      subst (λ (u : Sought D). Contains (instances (held u.map.device) o) i) same (subst (λ (r : Option ℕ). IfSome r (λ j. Contains (instances (held s.map.device) o) j)) is there)

  pub shown : {E : Type 0} (x : List ℕ) (r : Result Got E) → IsSeenIn s x → IfOk r (IsGot (known_in held s) x)
      → IfOk r (λ got. (¬ (IsSeenIn t x) × (got ≡ NoObject)) ⊎ (IsSeenIn t x × IsGot (known_in held t) x got))
  shown x (Ok got) seen is =
      inr (subst (λ (u : Sought D). IsSeenIn u x) same seen, subst (λ (u : Sought D). IsGot (known_in held u) x got) same is)
  shown x (Err e) seen is = tt

  pub seen_as : {E : Type 0} (x : List ℕ) (r : Result Shown E) → IsSeenIn s x → IfOk r (λ shown. IsGot (known_in held s) x (got_of shown))
      → IfOk r (λ shown. (¬ (IsSeenIn t x) × (got_of shown ≡ NoObject)) ⊎ (IsSeenIn t x × IsGot (known_in held t) x (got_of shown)))
  seen_as x (Ok shown) seen is =
      inr (subst (λ (u : Sought D). IsSeenIn u x) same seen, subst (λ (u : Sought D). IsGot (known_in held u) x (got_of shown)) same is)
  seen_as x (Err e) seen is = tt

  -- one more gap
  pub added : (gaps more : List Gap) (g : Gap) → more ≡ gaps ++ g ∷ [] → AreGaps (held s.map.device) (IsSeenIn s) gaps
      → IsLeastInView (held t.map.device) (IsSeenIn t) g.object g.start g.least → AreGaps (held s.map.device) (IsSeenIn s) more
  added gaps more g is are least =
      rw is (All-push (λ (h : Gap). IsLeastInView (held s.map.device) (IsSeenIn s) h.object h.start h.least) gaps g are
      (subst (λ (u : Sought D). IsLeastInView (held u.map.device) (IsSeenIn u) g.object g.start g.least) (sym same) least))
