-- What a station received is true of its peers, unless claims were forged; so what it does not owe
-- was taken.
use Rattle.std.proofs.Common.{ℕ, zero, suc, ◌≡◌, ◌∙◌, inl, inr, Bool, true, false, List, [], ◌∷◌, Option, Some, None, Ok, refl, sym, ap, subst, arith}
use Rattle.std.specs.Prelude.{◌==◌, not, Contains}
use Rattle.std.specs.List.{AllByRecursion, list_any}
use Rattle.std.proofs.lemmas.Bool.{and_parts, cases_Bool, eqb-true, or_cases}
use Rattle.mon_window.specs.Window.{In}
use Rattle.mon_board.specs.Watch.{IsWatch}
use Rattle.mon_board.specs.declared.instance.Instance.{Instance}
use Rattle.mon_exchange.specs.Debts.{Heard, has_said, is_owed, is_owed_at, latest_heard}
use Rattle.mon_saved.specs.declared.image.Image.{Image}
use Rattle.mon_saved.specs.Image.{SpellsImage}
use Rattle.mon_config.specs.StationCore.{Core}
use Rattle.mon_station.specs.Alike.{WindowsAreOfTaken}
use Rattle.mon_station.specs.declared.fault.StationFault.{StationFault}
use Rattle.mon_station.specs.Lived.{entries_of, last_state}
use Rattle.mon_station.specs.ReadEvent.{ReadEvent}
use Rattle.mon_station.specs.declared.event.Event.TheVariants.{FromPeer}
use Rattle.mon_station.specs.State.{State}
use Rattle.mon_station.specs.Taken.{Entry, Restart, Answered, taken}
use Rattle.mon_world.specs.Debts.{heard_of_claim, heard_by, heard_in}
use Rattle.mon_world.specs.Moves.{Move, AreLives, AreMoves, AreUnforged, IsNumberedIn, WasSent, lives_of, sent_in}
use Rattle.mon_world.specs.Places.{setting_at}
use Rattle.mon_world.proofs.Lives.{IsTrue, some_same}
use Rattle.mon_world.proofs.Letters.{IsTrueClaim, at_lives, claims_of, earlier, last_lives, letters_true, other_lives, true_move}
use Rattle.mon_world.proofs.Offers.{all_append, all_map}

-- what holds of all holds of one
pub all_at : {A : Type 0} (P : A → Type 0) (xs : List A) (x : A) → AllByRecursion P xs → Contains xs x → P x
all_at P [] x all (k, lt, is) = absurd (omega (arith, lt))
all_at P (y ∷ xs) x all (zero, lt, is) = subst P is all.0
all_at P (y ∷ xs) x all (suc k, lt, is) = all_at P xs x all.1 (k, omega (arith, lt), is)

-- one of them passes
pub one_passes : (P : Heard → Type 0) (test : Heard → Bool) (claims : List Heard) → AllByRecursion P claims → list_any test claims ≡ true → (d : Heard) × (test d ≡ true) × P d
one_passes P test [] all is = absurd (let both : false ≡ true = is in cc)
one_passes P test (d ∷ claims) all is = elim (or_cases (test d) (list_any test claims) is) [
  | inl here ↦ (d, here, all.0)
  | inr there ↦ one_passes P test claims all.1 there
]

module _ (one_image : (octets : List ℕ) (instances : List Instance) (a b : Image) → SpellsImage octets instances a → SpellsImage octets instances b → a ≡ b)
    (windows_taken : WindowsAreOfTaken)
    (core : Core) (count : ℕ) (are_watch : IsWatch core.watch) where
  -- what was received is true of who said it
  abbrev pub IsTrueOf : List Move → Heard → Type 0
  IsTrueOf moves d = IsTrue one_image (lives_of d.station moves) d

  heard_now : (moves : List Move) → AreMoves (setting_at core count) moves → (e : ReadEvent) (answer : Option StationFault) → IsNumberedIn core.watch e → WasSent (sent_in moves) (Answered e answer) → AllByRecursion (IsTrueOf moves) (heard_by e answer)
  heard_now moves are (FromPeer (Ok said)) None numbered sent = at said.number numbered
    where
      at : (n : Option ℕ) → IsNumberedIn core.watch (FromPeer (Ok (record { claim = said.claim; number = n }))) → AllByRecursion (IsTrueOf moves) (heard_of_claim said.claim n)
      at None watched = tt
      at (Some i) watched =
          (all_at (IsTrueClaim one_image windows_taken core count are_watch moves) (claims_of (sent_in moves)) said.claim (letters_true one_image windows_taken core count are_watch moves are) sent i watched, tt)
  heard_now moves are e answer numbered sent = tt

  heard_next : (m : Move) (moves : List Move) → AreMoves (setting_at core count) (m ∷ moves) → WasSent (sent_in moves) m.entry → (x : ℕ) → AllByRecursion (IsTrueOf moves) (heard_in (lives_of x moves)) → (entry : Entry) → m.entry ≡ entry
      → AllByRecursion (IsTrueOf (m ∷ moves)) (heard_in ((entry, m.after) ∷ lives_of x moves))
  heard_next m moves are sent x were (Restart origin w) is = tt
  heard_next m moves are sent x were (Answered e answer) is =
      let whole : AreLives (setting_at core count m.station) ((Answered e answer, m.after) ∷ lives_of m.station moves) =
      subst (λ (entry : Entry). AreLives (setting_at core count m.station) ((entry, m.after) ∷ lives_of m.station moves)) is (last_lives (setting_at core count) m moves are) in
      let next : (d : Heard) → IsTrueOf moves d → IsTrueOf (m ∷ moves) d = λ d was. true_move one_image windows_taken core count are_watch m moves are d was in
      all_append (IsTrueOf (m ∷ moves)) (heard_by e answer) (heard_in (lives_of x moves))
      (all_map (IsTrueOf moves) (IsTrueOf (m ∷ moves)) (heard_by e answer) next
      (heard_now moves (earlier (setting_at core count) m moves are) e answer whole.0 (subst (WasSent (sent_in moves)) is sent)))
      (all_map (IsTrueOf moves) (IsTrueOf (m ∷ moves)) (heard_in (lives_of x moves)) next were)

  pub heard_true : (moves : List Move) → AreMoves (setting_at core count) moves → AreUnforged moves → (x : ℕ) → AllByRecursion (IsTrueOf moves) (heard_in (lives_of x moves))
  heard_true [] are unforged x = tt
  heard_true (m ∷ moves) are unforged x =
      let were = heard_true moves (earlier (setting_at core count) m moves are) unforged.1 x in
      elim (cases_Bool (m.station == x)) [
        | inl is ↦ subst (λ h. AllByRecursion (IsTrueOf (m ∷ moves)) (heard_in h)) (sym (at_lives x m moves is)) (heard_next m moves are unforged.0 x were m.entry refl)
        | inr not ↦ subst (λ h. AllByRecursion (IsTrueOf (m ∷ moves)) (heard_in h)) (sym (other_lives x m moves not))
            (all_map (IsTrueOf moves) (IsTrueOf (m ∷ moves)) (heard_in (lives_of x moves)) (λ d was. true_move one_image windows_taken core count are_watch m moves are d was) were)
      ]

  -- what x does not owe y, whose present incarnation it knows, y has taken
  pub paid : (moves : List Move) → AreMoves (setting_at core count) moves → AreUnforged moves → (x y i k : ℕ) (t : State) → last_state (lives_of y moves) ≡ Some t → latest_heard y (heard_in (lives_of x moves)) ≡ Some t.incarnation
      → is_owed y (heard_in (lives_of x moves)) i k ≡ false → In k (taken (entries_of (lives_of y moves)) i)
  paid moves are unforged x y i k t is known paid_for =
      let claims = heard_in (lives_of x moves) in
      let said : list_any (has_said y t.incarnation i k) claims ≡ true = passes (list_any (has_said y t.incarnation i k) claims) (sym (ap (is_owed_at y claims i k) known) ∙ paid_for) in
      let one = one_passes (IsTrueOf moves) (has_said y t.incarnation i k) claims (heard_true moves are unforged x) said in
      let d = one.0 in
      let first = and_parts (d.station == y) _ one.1 in
      let second = and_parts (d.incarnation == t.incarnation) _ first.1 in
      let third = and_parts (i == d.instance) _ second.1 in
      let station : d.station ≡ y = eqb-true d.station y first.0 in
      let same_state : one.2.state ≡ t = some_same (sym one.2.is ∙ ap (λ z. last_state (lives_of z moves)) station ∙ is) in
      let now : d.incarnation ≡ one.2.state.incarnation = eqb-true d.incarnation t.incarnation second.0 ∙ ap (λ (u : State). u.incarnation) (sym same_state) in
      subst (λ j. In k (taken (entries_of (lives_of y moves)) j)) (sym (eqb-true i d.instance third.0))
      (subst (λ z. In k (taken (entries_of (lives_of z moves)) d.instance)) station (one.2.says now k third.1))
    where
      passes : (b : Bool) → not b ≡ false → b ≡ true
      passes true h = refl
      passes false h = absurd (let no_way : true ≡ false = h in cc)
