-- Every sample that a station took, or a claim says, was offered by an agent, unless claims were
-- forged.
use Rattle.std.proofs.Common.{ℕ, zero, suc, ◌≡◌, ◌∙◌, inl, inr, Bool, true, false, List, [], ◌∷◌, Option, Some, None, Ok, refl, sym, ap, subst}
use Rattle.std.specs.Prelude.{◌==◌, if◌then◌else◌}
use Rattle.std.specs.FinSet as set
use Rattle.std.specs.List.{AllByRecursion}
use Rattle.std.specs.Ordering.{nat_cmp}
use Rattle.std.proofs.lemmas.Bool.{cases_Bool, eqb-true}
use Rattle.mon_window.specs.Window.{Samples, In}
use Rattle.mon_window.proofs.Promised.{in_cons, in_either, in_empty, in_head, in_none, in_tail}
use Rattle.mon_board.specs.Watch.{Watch, IsWatch}
use Rattle.mon_board.specs.Windows.{Has, paired, samples_of, set_of, kept_by}
use Rattle.mon_board.specs.declared.instance.Instance.{Instance}
use Rattle.mon_board.proofs.Promised.{kept_within}
use Rattle.mon_exchange.specs.declared.claim.Claim.{Claim}
use Rattle.mon_exchange.specs.Peers.{IsWatchedAs}
use Rattle.mon_saved.specs.declared.image.Image.{Image}
use Rattle.mon_saved.specs.Image.{SpellsImage}
use Rattle.mon_config.specs.StationCore.{Core}
use Rattle.mon_station.specs.Alike.{WindowsAreOfTaken}
use Rattle.mon_station.specs.declared.fault.StationFault.{StationFault}
use Rattle.mon_station.specs.Lived.{entries_of}
use Rattle.mon_station.specs.ReadEvent.{ReadEvent}
use Rattle.mon_station.specs.declared.event.Event.TheVariants.{FromAgent, FromPeer, Save}
use Rattle.mon_station.specs.State.{State}
use Rattle.mon_station.specs.Taken.{Entry, Restart, Answered, Origin, Nothing, Saved, Other, Past, SavedTaken, at_place, begun_with, from_save, has_sizes, past_after, past_of, saves_after}
use Rattle.mon_station.specs.Verdict.{Setting, added, claim_pairs}
use Rattle.mon_world.specs.Debts.{agent_offers, offered_in}
use Rattle.mon_world.specs.Moves.{Move, AreLives, AreMoves, AreUnforged, IsNumberedIn, MayBegin, WasSent, lives_of, sent_in}
use Rattle.mon_world.specs.Places.{setting_at}
use Rattle.mon_world.proofs.Heard.{all_at}
use Rattle.mon_world.proofs.Letters.{SentBy, claims_append, claims_of, earlier, last_lives, new_letters, other_lives, own_lives}
use Rattle.mon_world.proofs.Offers.{all_append, all_map}
use Rattle.mon_world.proofs.Tells.{part_left, part_right}

paired_has : (n i k : ℕ) (samples : List ℕ) → Has (paired n samples) i k → (n ≡ i) × In k (set.from_list {R = nat_cmp} samples)
paired_has n i k [] h = absurd (in_none k h)
paired_has n i k (t ∷ samples) h = elim (cases_Bool (n == i)) [
  | inl is ↦
      let here : In k (set.from_list {R = nat_cmp} (t ∷ samples_of i (paired n samples))) = rw is at h in (
        eqb-true n i is,
        elim (in_cons k t (samples_of i (paired n samples)) here) [
          | inl e ↦ subst (λ u. In k (set.from_list {R = nat_cmp} (u ∷ samples))) e (in_head k samples)
          | inr there ↦ in_tail k t samples (paired_has n i k samples there).1
        ],
      )
  | inr not ↦ let rest = paired_has n i k samples (rw not at h) in (rest.0, in_tail k t samples rest.1)
]

-- what is in a set has P, by instance
abbrev pub Within : (ℕ → ℕ → Type 0) → (ℕ → Samples) → Type 0
Within P sets = (i k : ℕ) → In k (sets i) → P i k

abbrev pub SaveWithin : (ℕ → ℕ → Type 0) → SavedTaken → Type 0
SaveWithin P save = (i k : ℕ) → In k (save.taken i) → P i k

from_within : (P : ℕ → ℕ → Type 0) (watch : Watch) (save : Option SavedTaken) → ((t : SavedTaken) → save ≡ Some t → SaveWithin P t) → Within P (from_save watch save)
from_within P watch None were i k there = absurd (in_empty k there)
from_within P watch (Some t) were i k there = by (has_sizes watch t.watch i) there
  where
    by : (b : Bool) → In k (if b then t.taken i else kept_by t.watch i (t.taken i)) → P i k
    by true h = were t refl i k h
    by false h = were t refl i k (kept_within t.watch i (t.taken i) k h)

one_save : (P : ℕ → ℕ → Type 0) (saves : List SavedTaken) (later : ℕ) (t : SavedTaken) → AllByRecursion (SaveWithin P) saves → at_place later saves ≡ Some t → SaveWithin P t
one_save P [] zero t all is = cc
one_save P [] (suc later) t all is = cc
one_save P (u ∷ saves) zero t all is = let same : u ≡ t = cc in subst (SaveWithin P) same all.0
one_save P (u ∷ saves) (suc later) t all is = one_save P saves later t all.1 is

-- a life begins with what had P
begun_within : (P : ℕ → ℕ → Type 0) (h : List (Entry × State)) (w : Setting) (saves : List SavedTaken) (origin : Origin) → MayBegin h origin → AllByRecursion (SaveWithin P) saves → Within P (begun_with w.watch saves origin)
begun_within P h w saves Nothing may all i k there = absurd (in_empty k there)
begun_within P h w saves (Saved later) may all i k there = from_within P w.watch (at_place later saves) (λ t is. one_save P saves later t all is) i k there
begun_within P [] w saves (Other image) may all i k there = absurd may
begun_within P (x ∷ past) w saves (Other image) may all i k there = absurd may

-- what a past holds has P
pub record PastWithin (P : ℕ → ℕ → Type 0) (p : Past) : Type 0 where
  pub taken_so : Within P p.taken
  pub saves_so : AllByRecursion (SaveWithin P) p.saves

past_wider : (P Q : ℕ → ℕ → Type 0) (p : Past) → ((i k : ℕ) → P i k → Q i k) → PastWithin P p → PastWithin Q p
past_wider P Q p f was = record {
  taken_so = λ i k there. f i k (was.taken_so i k there);
  saves_so = all_map (SaveWithin P) (SaveWithin Q) p.saves (λ t here i k there. f i k (here i k there)) was.saves_so;
}

begins_within : (P : ℕ → ℕ → Type 0) (h : List (Entry × State)) (origin : Origin) (w : Setting) (p : Past) → MayBegin h origin → PastWithin P p → PastWithin P (past_after (Restart origin w) p)
begins_within P h origin w p may was =
    let begun = begun_within P h w p.saves origin may was.saves_so in
    record { taken_so = begun; saves_so = (begun, was.saves_so) }

handled_within : (P : ℕ → ℕ → Type 0) (e : ReadEvent) (answer : Option StationFault) (p : Past) → ((i k : ℕ) → Has (added p.setting p.polls e answer) i k → P i k) → PastWithin P p → PastWithin P (past_after (Answered e answer) p)
handled_within P e answer p new was = record { taken_so = taken_now; saves_so = saves_now e }
  where
    taken_now : Within P (past_after (Answered e answer) p).taken
    taken_now i k there = elim (in_either k (p.taken i) (set_of i (added p.setting p.polls e answer)) there) [
      | inl old ↦ was.taken_so i k old
      | inr now ↦ new i k now
    ]

    saves_now : (f : ReadEvent) → AllByRecursion (SaveWithin P) (saves_after f p)
    saves_now Save = (was.taken_so, was.saves_so)
    saves_now f = was.saves_so

module _ (one_image : (octets : List ℕ) (instances : List Instance) (a b : Image) → SpellsImage octets instances a → SpellsImage octets instances b → a ≡ b)
    (windows_taken : WindowsAreOfTaken)
    (core : Core) (count : ℕ) (are_watch : IsWatch core.watch) where
  abbrev Offered : List Move → ℕ → ℕ → Type 0
  Offered moves i k = Has (offered_in moves) i k

  abbrev pub OfferedClaim : List Move → Claim → Type 0
  OfferedClaim moves c = (i : ℕ) → IsWatchedAs core.watch c.engine c.name i → (k : ℕ) → In k (set.from_list {R = nat_cmp} c.samples) → Offered moves i k

  pub record AreOffered (moves : List Move) : Type 0 where
    pub pasts : (x : ℕ) → PastWithin (Offered moves) (past_of (entries_of (lives_of x moves)))
    pub letters : AllByRecursion (OfferedClaim moves) (claims_of (sent_in moves))

  module _ (m : Move) (moves : List Move) (are : AreMoves (setting_at core count) (m ∷ moves)) (sent : WasSent (sent_in moves) m.entry) (was : AreOffered moves) where
    abbrev h : List (Entry × State)
    h = lives_of m.station moves

    abbrev p : Past
    p = past_of (entries_of h)

    wider : (i k : ℕ) → Offered moves i k → Offered (m ∷ moves) i k
    wider i k there = part_right (agent_offers p m.entry) (offered_in moves) i k there

    -- what an event adds was offered
    new_pairs : (e : ReadEvent) (answer : Option StationFault) → m.entry ≡ Answered e answer → IsNumberedIn core.watch e → WasSent (sent_in moves) (Answered e answer)
        → (i k : ℕ) → Has (added p.setting p.polls e answer) i k → Offered (m ∷ moves) i k
    new_pairs (FromAgent from read) answer is numbered was_sent i k there =
        let here : Has (agent_offers p m.entry) i k = subst (λ (entry : Entry). Has (agent_offers p entry) i k) (sym is) there in
        part_left (agent_offers p m.entry) (offered_in moves) i k here
    new_pairs (FromPeer (Ok said)) None is numbered was_sent i k there = by said.number numbered there
      where
        claimed : OfferedClaim moves said.claim
        claimed = all_at (OfferedClaim moves) (claims_of (sent_in moves)) said.claim was.letters was_sent

        by : (n : Option ℕ) → IsNumberedIn core.watch (FromPeer (Ok (record { claim = said.claim; number = n }))) → Has (claim_pairs n said.claim.samples) i k → Offered (m ∷ moves) i k
        by None numbered_so has = absurd (in_none k has)
        by (Some n) watched has =
            let parts = paired_has n i k said.claim.samples has in
            wider i k (claimed i (subst (λ j. IsWatchedAs core.watch said.claim.engine said.claim.name j) parts.0 watched) k parts.1)
    new_pairs e None is numbered was_sent i k there = absurd (in_none k there)
    new_pairs e (Some f) is numbered was_sent i k there = absurd (in_none k there)

    own_past : PastWithin (Offered (m ∷ moves)) (past_after m.entry p)
    own_past = by m.entry refl
      where
        before_it : PastWithin (Offered (m ∷ moves)) p
        before_it = past_wider (Offered moves) (Offered (m ∷ moves)) p wider (was.pasts m.station)

        whole : (entry : Entry) → m.entry ≡ entry → AreLives (setting_at core count m.station) ((entry, m.after) ∷ h)
        whole entry is = subst (λ (a : Entry). AreLives (setting_at core count m.station) ((a, m.after) ∷ h)) is (last_lives (setting_at core count) m moves are)

        by : (entry : Entry) → m.entry ≡ entry → PastWithin (Offered (m ∷ moves)) (past_after entry p)
        by (Restart origin w) is = begins_within (Offered (m ∷ moves)) h origin w p (whole (Restart origin w) is).1 before_it
        by (Answered e answer) is =
            handled_within (Offered (m ∷ moves)) e answer p (new_pairs e answer is (whole (Answered e answer) is).0 (subst (WasSent (sent_in moves)) is sent)) before_it

    pasts_now : (x : ℕ) → PastWithin (Offered (m ∷ moves)) (past_of (entries_of (lives_of x (m ∷ moves))))
    pasts_now x = elim (cases_Bool (m.station == x)) [
      | inl is ↦ subst (λ (l : List (Entry × State)). PastWithin (Offered (m ∷ moves)) (past_of (entries_of l)))
          (sym (own_lives m moves) ∙ ap (λ y. lives_of y (m ∷ moves)) (eqb-true m.station x is)) own_past
      | inr not ↦ subst (λ (l : List (Entry × State)). PastWithin (Offered (m ∷ moves)) (past_of (entries_of l))) (sym (other_lives x m moves not))
          (past_wider (Offered moves) (Offered (m ∷ moves)) (past_of (entries_of (lives_of x moves))) wider (was.pasts x))
    ]

    new_claim : (e : ReadEvent) (o : State) → m.entry ≡ Answered e None → m.after.incarnation ≡ o.incarnation → (c : Claim) → SentBy one_image windows_taken core count are_watch m moves e o c → OfferedClaim (m ∷ moves) c
    new_claim e o is same c claims i watched k there =
        own_past.taken_so i k (subst (λ (entry : Entry). In k ((past_after entry p).taken i)) (sym is) (claims.samples i watched k there))

    pub offered_next : AreOffered (m ∷ moves)
    offered_next = record {
      pasts = pasts_now;
      letters = subst (AllByRecursion (OfferedClaim (m ∷ moves))) (sym (claims_append (sent_in moves) _))
          (all_append (OfferedClaim (m ∷ moves)) (claims_of (sent_in moves)) _
          (all_map (OfferedClaim moves) (OfferedClaim (m ∷ moves)) (claims_of (sent_in moves)) (λ c here i watched k there. wider i k (here i watched k there)) was.letters)
          (new_letters one_image windows_taken core count are_watch (OfferedClaim (m ∷ moves)) m moves are new_claim));
    }

  pub all_offered : (moves : List Move) → AreMoves (setting_at core count) moves → AreUnforged moves → AreOffered moves
  all_offered [] are unforged = record { pasts = λ x. record { taken_so = λ i k there. absurd (in_empty k there); saves_so = tt }; letters = tt }
  all_offered (m ∷ moves) are unforged = offered_next m moves are unforged.0 (all_offered moves (earlier (setting_at core count) m moves are) unforged.1)
