-- Every claim that was sent is true of its sender.
use Rattle.std.proofs.Common.{ℕ, ◌≡◌, ◌∙◌, inl, inr, true, false, List, [], ◌∷◌, ◌++◌, Option, Some, None, Ok, map, refl, sym, ap, subst, arith}
use Rattle.std.specs.Prelude.{◌==◌}
use Rattle.std.specs.List.{AllByRecursion}
use Rattle.std.proofs.lemmas.Bool.{cases_Bool, eq-eqb}
use Rattle.mon_window.specs.Window.{In}
use Rattle.mon_window.proofs.Promised.{in_left, in_right}
use Rattle.mon_board.specs.Board.{window_of}
use Rattle.mon_board.specs.Watch.{IsWatch}
use Rattle.mon_board.specs.declared.instance.Instance.{Instance}
use Rattle.mon_board.proofs.Promised.{kept_within}
use Rattle.mon_exchange.specs.declared.claim.Claim.{Claim}
use Rattle.mon_exchange.specs.Debts.{Heard}
use Rattle.mon_exchange.specs.Peers.{IsWatchedAs}
use Rattle.mon_saved.specs.declared.image.Image.{Image}
use Rattle.mon_saved.specs.Image.{SpellsImage}
use Rattle.mon_config.specs.StationCore.{Core}
use Rattle.mon_station.specs.Alike.{WindowsAreOfTaken}
use Rattle.mon_station.specs.Lived.{IsLived, entries_of, last_state}
use Rattle.mon_station.specs.ReadEvent.{ReadEvent}
use Rattle.mon_station.specs.declared.event.Event.TheVariants.{FromPeer, Share}
use Rattle.mon_station.specs.State.{State, setting_of}
use Rattle.mon_station.specs.Taken.{Entry, Restart, Answered, taken}
use Rattle.mon_station.specs.Told.{claims_sent}
use Rattle.mon_station.specs.Verdict.{Setting}
use Rattle.mon_world.specs.Moves.{Move, Letter, AreLives, AreMoves, addressee, letter, letters_by, lives_of, sent_in}
use Rattle.mon_world.specs.Places.{setting_at}
use Rattle.mon_world.proofs.Lives.{IsTrue, before, setting_is, some_same, true_next}
use Rattle.mon_world.proofs.Offers.{Claims, all_append, all_map, confirm_claims, share_claims}

-- ---- lists of moves
abbrev pub entry_of : Move → Entry × State
entry_of m = (m.entry, m.after)

pub own_lives : (m : Move) (moves : List Move) → lives_of m.station (m ∷ moves) ≡ entry_of m ∷ lives_of m.station moves
own_lives m moves = let same = eq-eqb m.station m.station refl in rw same refl

pub at_lives : (x : ℕ) (m : Move) (moves : List Move) → (m.station == x) ≡ true → lives_of x (m ∷ moves) ≡ entry_of m ∷ lives_of x moves
at_lives x m moves is = rw is refl

pub other_lives : (x : ℕ) (m : Move) (moves : List Move) → (m.station == x) ≡ false → lives_of x (m ∷ moves) ≡ lives_of x moves
other_lives x m moves not = rw not refl

lived_tail : (entry : Entry) (s : State) (h : List (Entry × State)) → IsLived ((entry, s) ∷ h) → IsLived h
lived_tail (Restart origin w) s h lived = lived.1
lived_tail (Answered e answer) s h lived = lived.1

lives_tail : (w : Setting) (entry : Entry) (s : State) (h : List (Entry × State)) → AreLives w ((entry, s) ∷ h) → AreLives w h
lives_tail w (Restart origin v) s h are = are.2
lives_tail w (Answered e answer) s h are = are.1

pub earlier : (settings : ℕ → Setting) (m : Move) (moves : List Move) → AreMoves settings (m ∷ moves) → AreMoves settings moves
earlier settings m moves are = record { lived = lived; lives = lives }
  where
    lived : (x : ℕ) → IsLived (lives_of x moves)
    lived x = elim (cases_Bool (m.station == x)) [
      | inl is ↦ lived_tail m.entry m.after (lives_of x moves) (subst IsLived (at_lives x m moves is) (are.lived x))
      | inr not ↦ subst IsLived (other_lives x m moves not) (are.lived x)
    ]

    lives : (x : ℕ) → AreLives (settings x) (lives_of x moves)
    lives x = elim (cases_Bool (m.station == x)) [
      | inl is ↦ lives_tail (settings x) m.entry m.after (lives_of x moves) (subst (AreLives (settings x)) (at_lives x m moves is) (are.lives x))
      | inr not ↦ subst (AreLives (settings x)) (other_lives x m moves not) (are.lives x)
    ]

-- the last move at its station
pub last_lived : (settings : ℕ → Setting) (m : Move) (moves : List Move) → AreMoves settings (m ∷ moves) → IsLived (entry_of m ∷ lives_of m.station moves)
last_lived settings m moves are = subst IsLived (own_lives m moves) (are.lived m.station)

pub last_lives : (settings : ℕ → Setting) (m : Move) (moves : List Move) → AreMoves settings (m ∷ moves) → AreLives (settings m.station) (entry_of m ∷ lives_of m.station moves)
last_lives settings m moves are = subst (AreLives (settings m.station)) (own_lives m moves) (are.lives m.station)

-- the claims of letters
abbrev pub claims_of : List Letter → List Claim
claims_of letters = map (λ (l : Letter). l.claim) letters

pub claims_append : (xs ys : List Letter) → claims_of (xs ++ ys) ≡ claims_of xs ++ claims_of ys
claims_append [] ys = refl
claims_append (x ∷ xs) ys = ap (λ (l : List Claim). x.claim ∷ l) (claims_append xs ys)

pub claims_to : (y : ℕ) (cs : List Claim) → claims_of (map (letter y) cs) ≡ cs
claims_to y [] = refl
claims_to y (c ∷ cs) = ap (λ (l : List Claim). c ∷ l) (claims_to y cs)

module _ (one_image : (octets : List ℕ) (instances : List Instance) (a b : Image) → SpellsImage octets instances a → SpellsImage octets instances b → a ≡ b)
    (windows_taken : WindowsAreOfTaken)
    (core : Core) (count : ℕ) (are_watch : IsWatch core.watch) where
  -- ---- what stays true
  pub true_move : (m : Move) (moves : List Move) → AreMoves (setting_at core count) (m ∷ moves) → (d : Heard) → IsTrue one_image (lives_of d.station moves) d → IsTrue one_image (lives_of d.station (m ∷ moves)) d
  true_move m moves are d was = elim (cases_Bool (m.station == d.station)) [
    | inl is ↦ subst (λ h. IsTrue one_image h d) (sym (at_lives d.station m moves is))
        (true_next one_image (setting_at core count d.station) m.entry m.after (lives_of d.station moves) d (subst IsLived (at_lives d.station m moves is) (are.lived d.station))
        (subst (AreLives (setting_at core count d.station)) (at_lives d.station m moves is) (are.lives d.station)) was)
    | inr not ↦ subst (λ h. IsTrue one_image h d) (sym (other_lives d.station m moves not)) was
  ]

  -- what a claim says of the instance of this number
  abbrev pub said_in : Claim → ℕ → Heard
  said_in c i = record { station = c.station; incarnation = c.incarnation; instance = i; samples = c.samples }

  -- the claim is true of its sender, by whatever number its instance has
  abbrev pub IsTrueClaim : List Move → Claim → Type 0
  IsTrueClaim moves c = (i : ℕ) → IsWatchedAs core.watch c.engine c.name i → IsTrue one_image (lives_of c.station moves) (said_in c i)

  -- ---- what is sent
  -- what is in a window was taken
  window_was_taken : (h : List (Entry × State)) (s : State) → IsLived h → last_state h ≡ Some s → (i k : ℕ) → In k (window_of s.board i) → In k (taken (entries_of h) i)
  window_was_taken h s lived is i k there =
      kept_within s.board.watch i (taken (entries_of h) i) k (subst (λ a. In k a) (windows_taken h s lived is i) there)

  -- the claims that an accepted event sends: of this station in this incarnation, and it has taken
  -- what they say
  module _ (x : ℕ) (h : List (Entry × State)) (o s : State) (is : last_state h ≡ Some o) where
    abbrev P : ReadEvent → ℕ → ℕ → Type 0
    P e i k = In k (taken (entries_of ((Answered e None, s) ∷ h)) i)

    pub sent_claims : (e : ReadEvent) → IsLived ((Answered e None, s) ∷ h) → AreLives (setting_at core count x) ((Answered e None, s) ∷ h) → AllByRecursion (Claims core.watch are_watch (P e) x o.incarnation) (claims_sent o e)
    sent_claims e lived are = at e lived are
      where
        setting : IsLived h → AreLives (setting_at core count x) h → setting_of o ≡ (setting_at core count) x
        setting l a = setting_is (setting_at core count x) h l a o is

        at : (e : ReadEvent) → IsLived ((Answered e None, s) ∷ h) → AreLives (setting_at core count x) ((Answered e None, s) ∷ h) → AllByRecursion (Claims core.watch are_watch (P e) x o.incarnation) (claims_sent o e)
        at (Share y) l a =
            let same = setting l.1 a.1 in
            share_claims core.watch are_watch (P (Share y)) x o.incarnation o (ap (λ (w : Setting). w.watch) same) (ap (λ (w : Setting). w.own) same) refl
            (λ i k there. in_left k (taken (entries_of h) i) _ (window_was_taken h o l.1 is i k there)) y
        at (FromPeer (Ok said)) l a =
            let same = setting l.1 a.1 in
            confirm_claims core.watch are_watch (P (FromPeer (Ok said))) x o.incarnation o (ap (λ (w : Setting). w.watch) same) (ap (λ (w : Setting). w.own) same) refl
            said.claim said.number a.0 (λ i k there. in_right k (taken (entries_of h) i) _ there) said.claim.kind
        at e l a = tt

  -- a claim that is sent by this move, as its station says it
  abbrev pub SentBy : Move → List Move → ReadEvent → State → Claim → Type 0
  SentBy m moves e o c = Claims core.watch are_watch (λ i k. In k (taken (entries_of ((Answered e None, m.after) ∷ lives_of m.station moves)) i)) m.station o.incarnation c

  -- what holds of all that a move may send holds of what it sends
  pub new_letters : (Q : Claim → Type 0) (m : Move) (moves : List Move) → AreMoves (setting_at core count) (m ∷ moves)
      → ((e : ReadEvent) (o : State) → m.entry ≡ Answered e None → m.after.incarnation ≡ o.incarnation → (c : Claim) → SentBy m moves e o c → Q c)
      → AllByRecursion Q (claims_of (letters_by (last_state (lives_of m.station moves)) m.entry))
  new_letters Q m moves are each = by_state (last_state (lives_of m.station moves)) refl
    where
      by_entry : (o : State) → last_state (lives_of m.station moves) ≡ Some o → (entry : Entry) → m.entry ≡ entry → AllByRecursion Q (claims_of (letters_by (Some o) entry))
      by_entry o is (Restart origin w) is_entry = tt
      by_entry o is (Answered e (Some f)) is_entry = tt
      by_entry o is (Answered e None) is_entry =
          let h = lives_of m.station moves in
          let whole : entry_of m ∷ h ≡ (Answered e None, m.after) ∷ h = (λ j. (is_entry j, m.after) ∷ h) in
          let lived : IsLived ((Answered e None, m.after) ∷ h) = subst IsLived whole (last_lived (setting_at core count) m moves are) in
          let are_lives : AreLives (setting_at core count m.station) ((Answered e None, m.after) ∷ h) = subst (AreLives (setting_at core count m.station)) whole (last_lives (setting_at core count) m moves are) in
          let b = before (last_state h) e None m.after lived.0 in
          let same : m.after.incarnation ≡ o.incarnation = b.2.after.incarnation ∙ ap (λ (u : State). u.incarnation) (some_same (sym b.1 ∙ is)) in
          subst (AllByRecursion Q) (sym (claims_to (addressee e) (claims_sent o e)))
          (all_map (SentBy m moves e o) Q (claims_sent o e) (each e o is_entry same) (sent_claims m.station h o m.after is e lived are_lives))

      by_state : (old : Option State) → last_state (lives_of m.station moves) ≡ old → AllByRecursion Q (claims_of (letters_by old m.entry))
      by_state None is = tt
      by_state (Some o) is = by_entry o is m.entry refl

  true_claim : (m : Move) (moves : List Move) (e : ReadEvent) (o : State) → m.entry ≡ Answered e None → m.after.incarnation ≡ o.incarnation → (c : Claim) → SentBy m moves e o c → IsTrueClaim (m ∷ moves) c
  true_claim m moves e o entry same c claims i watched =
      let lives_are : lives_of c.station (m ∷ moves) ≡ (Answered e None, m.after) ∷ lives_of m.station moves =
      ap (λ y. lives_of y (m ∷ moves)) claims.station ∙ own_lives m moves ∙ (λ j. (entry j, m.after) ∷ lives_of m.station moves) in
      subst (λ l. IsTrue one_image l (said_in c i)) (sym lives_are) (record {
        state = m.after;
        is = refl;
        reached = omega (arith, claims.incarnation_is, same);
        says = λ now k there. claims.samples i watched k there;
      })

  -- every claim that was sent is true
  pub letters_true : (moves : List Move) → AreMoves (setting_at core count) moves → AllByRecursion (IsTrueClaim moves) (claims_of (sent_in moves))
  letters_true [] are = tt
  letters_true (m ∷ moves) are =
      subst (AllByRecursion (IsTrueClaim (m ∷ moves))) (sym (claims_append (sent_in moves) (letters_by (last_state (lives_of m.station moves)) m.entry)))
      (all_append (IsTrueClaim (m ∷ moves)) (claims_of (sent_in moves)) (claims_of (letters_by (last_state (lives_of m.station moves)) m.entry))
      (all_map (IsTrueClaim moves) (IsTrueClaim (m ∷ moves)) (claims_of (sent_in moves)) (λ c was i watched. true_move m moves are (said_in c i) (was i watched)) (letters_true moves (earlier (setting_at core count) m moves are)))
      (new_letters (IsTrueClaim (m ∷ moves)) m moves are (true_claim m moves)))
