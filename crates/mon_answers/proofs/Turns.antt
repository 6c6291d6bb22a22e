-- One arrival more and one line more, for the loops.
use Rattle.std.proofs.Common.{◌≡◌, ℕ, ◌+◌, true, cond, List, [], ◌∷◌, ◌++◌, refl, sym, ap, ◌∙◌, subst, append_assoc, add-one}
use Rattle.std.specs.Prelude.{Result, Ok, Err, IfOk}
use Rattle.std.specs.List.{filter}
use Rattle.std.proofs.lemmas.List.{append-nil}
use Rattle.std.proofs.lemmas.List.Elements.{filter-append}
use Rattle.hex.specs.Hex.{decode_of}
use Rattle.mon_vacm.specs.Tables.{PolicyTables}
use Rattle.mon_mib.specs.declared.settings.Settings.{Settings}
use Rattle.mon_agent.specs.declared.reply.Reply.{Reply}
use Rattle.mon_answers.specs.declared.scene.Scene.{Scene}
use Rattle.mon_answers.specs.Answered.{AreArrivals, ArePrinted, IsPrinted, Appends, is_read}

-- what holds of one policy and settings holds of equal ones
pub moved : (Holds : PolicyTables → Settings → Type 0) (policy other : PolicyTables) (settings others : Settings) → policy ≡ other → settings ≡ others → Holds policy settings
    → Holds other others
moved Holds policy other settings others same alike holds = subst (λ (s : Settings). Holds other s) alike (subst (λ (p : PolicyTables). Holds p settings) same holds)

-- what a result is, in other words
pub if_ok : {A E : Type 0} (P Q : A → Type 0) (result : Result A E) → ((x : A) → P x → Q x) → IfOk result P → IfOk result Q
if_ok P Q (Ok x) turn holds = turn x holds
if_ok P Q (Err e) turn holds = tt

-- one arrival more
pub one_more : {S : Type 0} (Arrives : S → S → Reply → Type 0) (n : ℕ) (before between after : S) (reply : Reply) → AreArrivals Arrives n before between → Arrives between after reply
    → AreArrivals Arrives (n + 1) before after
one_more Arrives n before between after reply earlier last = subst (λ (k : ℕ). AreArrivals Arrives k before after) (sym (add-one n)) (between, reply, earlier, last)

module _ {S : Type 0} (Answers : S → S → List ℕ → ℕ → Reply → Type 0) (scene : Scene) where
  -- one line more
  pub line_more : (lines : List (List ℕ)) (line : List ℕ) (before between after : S) (printed more : List ℕ) → ArePrinted Answers scene lines before between printed
      → IsPrinted Answers scene (decode_of line) between after more → ArePrinted Answers scene (lines ++ line ∷ []) before after (printed ++ more)
  line_more [] line before between after printed more so_far is =
      (after, more, [], subst (λ (s : S). IsPrinted Answers scene (decode_of line) s after more) so_far.0 is, (refl, refl), ap (λ (t : List ℕ). t ++ more) so_far.1 ∙ sym (append-nil more))
  line_more (first ∷ rest) line before between after printed more so_far is = (
    so_far.0,
    so_far.1,
    so_far.2 ++ more,
    so_far.3,
    line_more rest line so_far.0 between after so_far.2 more so_far.4 is,
    ap (λ (t : List ℕ). t ++ more) so_far.5 ∙ append_assoc so_far.1 so_far.2 more,
  )

  -- one line more of a text, which is read
  pub line_printed : (lines : List (List ℕ)) (line : List ℕ) (before between after : S) (old new : List ℕ) → ArePrinted Answers scene (filter is_read lines) before between old
      → is_read line ≡ true → Appends (IsPrinted Answers scene (decode_of line) between after) old new → ArePrinted Answers scene (filter is_read (lines ++ line ∷ [])) before after new
  line_printed lines line before between after old new so_far something on =
      subst (λ (t : List ℕ). ArePrinted Answers scene (filter is_read (lines ++ line ∷ [])) before after t) (sym on.2)
      (subst (λ (ls : List (List ℕ)). ArePrinted Answers scene ls before after (old ++ on.0))
      (sym (filter-append is_read lines (line ∷ []) ∙ ap (λ b. filter is_read lines ++ cond b (line ∷ []) []) something))
      (line_more (filter is_read lines) line before between after old on.0 so_far on.1))
