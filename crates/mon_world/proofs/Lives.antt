-- The lives of a station from an honestly kept file: its setting, its incarnations, and what it
-- took.
use Rattle.std.proofs.Common.{ℕ, zero, suc, ◌≡◌, ◌≤◌, ◌+◌, ◌∙◌, List, [], ◌∷◌, Option, Some, None, refl, sym, ap, subst, arith}
use Rattle.mon_window.specs.Window.{In}
use Rattle.mon_window.proofs.Promised.{in_left}
use Rattle.mon_board.specs.Instance.{instances_of}
use Rattle.mon_board.specs.declared.instance.Instance.{Instance}
use Rattle.mon_board.specs.Windows.{set_of}
use Rattle.mon_exchange.specs.Debts.{Heard, said_of}
use Rattle.mon_saved.specs.declared.image.Image.{Image}
use Rattle.mon_saved.specs.Image.{SpellsImage}
use Rattle.mon_saved.specs.Written.{image_of}
use Rattle.mon_station.specs.declared.fault.StationFault.{StationFault}
use Rattle.mon_station.specs.Lived.{BeginsFrom, HandledIn, IsLived, IsReopened, Reopens, entries_of, in_front, last_state, saved_states}
use Rattle.mon_station.specs.ReadEvent.{ReadEvent}
use Rattle.mon_station.specs.declared.event.Event.TheVariants.{Save}
use Rattle.mon_station.specs.Saved.{saved_octets}
use Rattle.mon_station.specs.State.{State, IsHandled, setting_of}
use Rattle.mon_station.specs.Taken.{Entry, Restart, Answered, Origin, Nothing, Saved, Other, at_place, past_of, taken}
use Rattle.mon_station.specs.Verdict.{Setting, added}
use Rattle.mon_world.specs.Moves.{AreLives, MayBegin, MayFind}

pub some_same : {A : Type 0} {x y : A} → Some x ≡ Some y → x ≡ y
some_same e = cc

pub not_some : {A : Type 0} {x : A} → None ≡ Some x → ⊥
not_some e = cc

-- there is a state before an event
pub before : (old : Option State) (e : ReadEvent) (answer : Option StationFault) (new : State) → HandledIn old e answer new → (o : State) × (old ≡ Some o) × IsHandled e answer o new
before None e answer new h = absurd h
before (Some o) e answer new h = (o, refl, h)

-- ---- the setting
begun_setting : (saved : List State) (origin : Origin) (w : Setting) (s : State) → BeginsFrom saved origin w s → setting_of s ≡ w
begun_setting saved Nothing w s h = h.setting
begun_setting saved (Saved later) w s h = at (at_place later saved) h
  where
    at : (old : Option State) → Reopens w old s → setting_of s ≡ w
    at None r = absurd r
    at (Some old) r = r.begun.setting
begun_setting saved (Other image) w s h = h.2.setting

pub setting_is : (w : Setting) (h : List (Entry × State)) → IsLived h → AreLives w h → (s : State) → last_state h ≡ Some s → setting_of s ≡ w
setting_is w [] lived are s is = absurd (not_some is)
setting_is w ((Restart origin v, t) ∷ past) lived are s is =
    let same : t ≡ s = some_same is in
    subst (λ (u : State). setting_of u ≡ w) same (begun_setting (saved_states past) origin v t lived.0 ∙ are.0)
setting_is w ((Answered e answer, t) ∷ past) lived are s is =
    let same : t ≡ s = some_same is in
    let o = before (last_state past) e answer t lived.0 in
    subst (λ (u : State). setting_of u ≡ w) same (o.2.after.setting ∙ setting_is w past lived.1 are.1 o.0 o.1)

-- ---- incarnations
-- what an opening may find was saved in the present incarnation
abbrev IsOfLife : ℕ → Option State → Type 0
IsOfLife incarnation None = ⊥
IsOfLife incarnation (Some o) = o.incarnation ≡ incarnation

front_of_life : (incarnation : ℕ) (old : Option State) (o : State) (saved : List State) → old ≡ Some o → o.incarnation ≡ incarnation → IsOfLife incarnation (at_place 0 (in_front old saved))
front_of_life incarnation None o saved is same = absurd (not_some is)
front_of_life incarnation (Some p) o saved is same = let here : p ≡ o = some_same is in subst (λ (q : State). q.incarnation ≡ incarnation) (sym here) same

next_of_life : (incarnation later : ℕ) (old : Option State) (o : State) (saved : List State) → old ≡ Some o → IsOfLife incarnation (at_place later saved) → IsOfLife incarnation (at_place (suc later) (in_front old saved))
next_of_life incarnation later None o saved is h = absurd (not_some is)
next_of_life incarnation later (Some p) o saved is h = h

found_of_life : (h : List (Entry × State)) → IsLived h → (s : State) → last_state h ≡ Some s → (later : ℕ) → MayFind h later → IsOfLife s.incarnation (at_place later (saved_states h))
found_of_life [] lived s is later may = absurd may
found_of_life ((Restart origin w, t) ∷ past) lived s is later may =
    let same : t ≡ s = some_same is in
    subst (λ n. IsOfLife s.incarnation (at_place n (t ∷ saved_states past))) (sym may) (ap (λ (u : State). u.incarnation) same)
found_of_life ((Answered Save None, t) ∷ past) lived s is later may =
    let o = before (last_state past) Save None t lived.0 in
    subst (λ n. IsOfLife s.incarnation (at_place n (in_front (last_state past) (saved_states past)))) (sym may)
    (front_of_life s.incarnation (last_state past) o.0 (saved_states past) o.1 (sym o.2.after.incarnation ∙ ap (λ (u : State). u.incarnation) (some_same is)))
found_of_life ((Answered Save (Some f), t) ∷ past) lived s is zero may =
    let o = before (last_state past) Save (Some f) t lived.0 in
    front_of_life s.incarnation (last_state past) o.0 (saved_states past) o.1 (sym o.2.after.incarnation ∙ ap (λ (u : State). u.incarnation) (some_same is))
found_of_life ((Answered Save (Some f), t) ∷ past) lived s is (suc later) may =
    let o = before (last_state past) Save (Some f) t lived.0 in
    let same : o.0.incarnation ≡ s.incarnation = sym o.2.after.incarnation ∙ ap (λ (u : State). u.incarnation) (some_same is) in
    next_of_life s.incarnation later (last_state past) o.0 (saved_states past) o.1 (subst (λ n. IsOfLife n (at_place later (saved_states past))) same (found_of_life past lived.1 o.0 o.1 later may))
found_of_life ((Answered e answer, t) ∷ past) lived s is later may =
    let o = before (last_state past) e answer t lived.0 in
    subst (λ n. IsOfLife n (at_place later (saved_states past))) (sym o.2.after.incarnation ∙ ap (λ (u : State). u.incarnation) (some_same is)) (found_of_life past lived.1 o.0 o.1 later may)

module _ (one_image : (octets : List ℕ) (instances : List Instance) (a b : Image) → SpellsImage octets instances a → SpellsImage octets instances b → a ≡ b) where
  raised : (w : Setting) (old new : State) → IsReopened w old new → new.incarnation ≡ old.incarnation + 1
  raised w old new r =
      let restored = r.begun.restored in
      let spelled : SpellsImage (saved_octets old) (instances_of old.board.watch.instances) restored.1.image = subst (λ (l : List Instance). SpellsImage (saved_octets old) l restored.1.image) r.instances restored.1.spelled in
      let same : restored.1.image ≡ image_of old.board old.incarnation = one_image (saved_octets old) (instances_of old.board.watch.instances) restored.1.image (image_of old.board old.incarnation) spelled r.spells in
      restored.2 ∙ ap (λ n. n + 1) (restored.1.incarnation_is ∙ ap (λ (m : Image). m.incarnation) same)

  -- each life that is not the first has the next incarnation
  pub next_life : (past : List (Entry × State)) → IsLived past → (o : State) → last_state past ≡ Some o → (origin : Origin) (w : Setting) (s : State) → MayBegin past origin → BeginsFrom (saved_states past) origin w s
      → s.incarnation ≡ o.incarnation + 1
  next_life [] lived o is origin w s may h = absurd (not_some is)
  next_life (x ∷ past) lived o is Nothing w s may h = absurd may
  next_life (x ∷ past) lived o is (Other image) w s may h = absurd may
  next_life (x ∷ past) lived o is (Saved later) w s may h = at (at_place later (saved_states (x ∷ past))) (found_of_life (x ∷ past) lived o is later may) h
    where
      at : (old : Option State) → IsOfLife o.incarnation old → Reopens w old s → s.incarnation ≡ o.incarnation + 1
      at None of_life r = absurd r
      at (Some old) of_life r = raised w old s r ∙ ap (λ n. n + 1) of_life

  -- ---- what a claim says of its sender
  -- the sender is in the claim's incarnation or past it, and while it is in it, it has taken what
  -- the claim says
  pub record IsTrue (h : List (Entry × State)) (d : Heard) : Type 0 where
    pub state : State
    pub is : last_state h ≡ Some state
    pub reached : d.incarnation ≤ state.incarnation
    pub says : d.incarnation ≡ state.incarnation → (k : ℕ) → In k (said_of d) → In k (taken (entries_of h) d.instance)

  pub true_next : (w : Setting) (entry : Entry) (s : State) (h : List (Entry × State)) (d : Heard) → IsLived ((entry, s) ∷ h) → AreLives w ((entry, s) ∷ h) → IsTrue h d → IsTrue ((entry, s) ∷ h) d
  true_next w (Restart origin v) s h d lived are was =
      let up = next_life h lived.1 was.state was.is origin v s are.1 lived.0 in
      record { state = s; is = refl; reached = omega (arith, was.reached, up); says = λ same k there. absurd (omega (arith, was.reached, up, same)) }
  true_next w (Answered e answer) s h d lived are was =
      let o = before (last_state h) e answer s lived.0 in
      let same_state : o.0 ≡ was.state = some_same (sym o.1 ∙ was.is) in
      let same : s.incarnation ≡ was.state.incarnation = o.2.after.incarnation ∙ ap (λ (u : State). u.incarnation) same_state in
      record {
        state = s;
        is = refl;
        reached = omega (arith, was.reached, same);
        says = λ now k there. in_left k (taken (entries_of h) d.instance) (set_of d.instance (added (past_of (entries_of h)).setting (past_of (entries_of h)).polls e answer)) (was.says (now ∙ same) k there);
      }
