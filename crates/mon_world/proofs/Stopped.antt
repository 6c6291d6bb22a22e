-- What a save leaves of which some calls were made.
use Rattle.std.proofs.Common.{ℕ, ◌≡◌, Bool, true, false, List, Option, Some, None, refl, sym, ◌∙◌, ap, subst}
use Rattle.std.specs.Prelude.{nat_lt, if◌then◌else◌, IsTrue}
use Rattle.mon_board.specs.Board.{Board}
use Rattle.mon_board.specs.Instance.{instances_of}
use Rattle.mon_disk.specs.declared.file.TheConstants.{SLOT_SIZE}
use Rattle.mon_disk.specs.File.{Saved, found}
use Rattle.mon_disk.specs.Keeper.{FindsBody, IsWhole, found_body, is_undamaged, next_saved, saved_body, shown_from}
use Rattle.mon_saved.specs.Image.{SpellsImage}
use Rattle.mon_saved.specs.Written.{image_of, written_image}
use Rattle.mon_station.specs.Saved.{saved_octets}
use Rattle.mon_station.specs.State.{State}
use Rattle.mon_world.specs.Outcome.{calls_of_save}
use Rattle.mon_world.specs.Shows.{FindsStopped}

next_body : (old : Option Saved) (body : List ℕ) → saved_body (next_saved old body) ≡ Some body
next_body None body = refl
next_body (Some s) body = refl

abbrev pub Spells : State → List ℕ → Type 0
Spells s octets = SpellsImage octets (instances_of s.board.watch.instances) (image_of s.board s.incarnation)

-- octets that were written of a state are what a save of it writes
pub are_saved : (s : State) (board : Board) (incarnation : ℕ) (octets : List ℕ) → board ≡ s.board → incarnation ≡ s.incarnation → octets ≡ written_image board incarnation
    → SpellsImage octets (instances_of board.watch.instances) (image_of board incarnation) → (octets ≡ saved_octets s) × Spells s (saved_octets s)
are_saved s board incarnation octets same_board same_incarnation written spells =
    let same : octets ≡ saved_octets s = written ∙ (λ j. written_image (same_board j) (same_incarnation j)) in (
      same,
      subst (Spells s) same (subst (λ b. SpellsImage octets (instances_of b.watch.instances) (image_of b s.incarnation)) same_board
          (subst (λ n. SpellsImage octets (instances_of board.watch.instances) (image_of board n)) same_incarnation spells)),
    )

module _ (s : State) (body : List ℕ) (is : body ≡ saved_octets s) (spells : Spells s (saved_octets s)) (before : Option (List ℕ)) (old opened : List ℕ) (was : FindsBody before old) (still : FindsBody before opened) where
  shown : (early : Bool) (file : List ℕ) → is_undamaged file ≡ true → found SLOT_SIZE file ≡ (if early then found SLOT_SIZE opened else next_saved (found SLOT_SIZE opened) body) → FindsStopped early s old file
  unfolding found_body
  shown true file whole finds = record { undamaged = whole ∙ sym was.undamaged; body_is = ap saved_body finds ∙ still.body_is ∙ sym was.body_is }
  shown false file whole finds = record {
    body = record { undamaged = whole; body_is = ap saved_body finds ∙ next_body (found SLOT_SIZE opened) body ∙ ap (λ o. Some o) is };
    spells = spells;
  }

  -- with all that was written since the last sync, or without it
  pub stop_finds : (calls : ℕ) (keep : Bool) (seen synced left : List ℕ) → IsWhole seen × IsWhole synced → found SLOT_SIZE seen ≡ shown_from 5 calls (found SLOT_SIZE opened) (next_saved (found SLOT_SIZE opened) body)
      → found SLOT_SIZE synced ≡ shown_from 6 calls (found SLOT_SIZE opened) (next_saved (found SLOT_SIZE opened) body) → (IsTrue keep → left ≡ seen) → (keep ≡ false → left ≡ synced)
      → FindsStopped (nat_lt calls (calls_of_save keep)) s old left
  stop_finds calls true seen synced left whole read on_disk kept lost = subst (FindsStopped (nat_lt calls 5) s old) (sym (kept refl)) (shown (nat_lt calls 5) seen whole.0.undamaged read)
  stop_finds calls false seen synced left whole read on_disk kept lost = subst (FindsStopped (nat_lt calls 6) s old) (sym (lost refl)) (shown (nat_lt calls 6) synced whole.1.undamaged on_disk)
