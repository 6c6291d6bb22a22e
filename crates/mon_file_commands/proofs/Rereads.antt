-- Reads of a file that may be saved to meanwhile.
use Rattle.std.proofs.Common.{◌≡◌, ◌≢◌, ◌∙◌, ◌<◌, ◌≤◌, ◌+◌, ◌++◌, ◌-◌, arith, drop, inl, inr, length, take, Bool, List, ℕ, zero, suc, [], ap, false, refl, subst, sym, true}
use Rattle.std.proofs.lemmas.List.{length-drop, take_all}
use Rattle.std.specs.Prelude.{◌⊎◌, Option, Result, Ok, Err}
use Rattle.std.specs.Global.{Vec}
use Rattle.mon_console.specs.Files.{IsPart}
use Rattle.mon_console.specs.declared.failure.Failure.{Failure}
use Rattle.mon_host.specs.AtHost.{AtHost}
use Rattle.mon_host.specs.Log.{GoesOnBy}
use Rattle.mon_host.specs.Then.{Then}
use Rattle.mon_host.proofs.Promised.{goes_on, stays, then_fails, then_follows}
use Rattle.mon_file_commands.specs.Saved.{AreLooks, AreLooksAfter, IsKept, IsLook, IsReadAfter, IsSameHead, IsSteadyRead, whole_part}

-- the first head, and what came after it
pub looks : (path octets : List ℕ) (first same : Bool) (before between after : Option (List AtHost)) → GoesOnBy (λ log. IsLook path octets 0 log first) before between
    → GoesOnBy (λ log. AreLooksAfter first path octets log same) between after → GoesOnBy (λ log. AreLooks path octets log same) before after
looks path octets first same before between after look rest = record {
  more = look.more ++ rest.more;
  holds = record { first = first; begin = look.more; look = look.holds; rest = rest.more; after = rest.holds; log_is = refl };
  on = goes_on look.more rest.more before between after look.on rest.on;
}

-- the first head is the same, and the second was looked at
pub looks_on : (path octets : List ℕ) (first same : Bool) (before between after : Option (List AtHost)) → first ≡ true → GoesOnBy (λ log. IsLook path octets 0 log first) before between
    → GoesOnBy (λ log. IsLook path octets 1048576 log same) between after → GoesOnBy (λ log. AreLooks path octets log same) before after
looks_on path octets first same before between after is look rest =
    looks path octets first same before between after look (subst (λ (b : Bool). GoesOnBy (λ log. AreLooksAfter b path octets log same) between after) (sym is) rest)

-- the first head has changed
pub looks_no_more : (path octets : List ℕ) (first : Bool) (before between : Option (List AtHost)) → first ≡ false → GoesOnBy (λ log. IsLook path octets 0 log first) before between
    → GoesOnBy (λ log. AreLooks path octets log false) before between
looks_no_more path octets first before between is look =
    let none : GoesOnBy (λ log. AreLooksAfter false path octets log false) between between = record { more = []; holds = (refl, refl); on = stays between } in
    looks path octets first false before between between look (subst (λ (b : Bool). GoesOnBy (λ log. AreLooksAfter b path octets log false) between between) (sym is) none)

-- the file could not be read
pub unread : (path : List ℕ) (more : ℕ) (failure : Failure) (r : Result (Vec ℕ) Failure) (before after : Option (List AtHost)) → r ≡ Err failure
    → GoesOnBy (λ log. IsPart path whole_part log (Err failure)) before after → GoesOnBy (λ log. IsSteadyRead path more log r) before after
unread path zero failure r before after is part =
    subst (λ (r : Result (Vec ℕ) Failure). GoesOnBy (λ log. IsSteadyRead path zero log r) before after) (sym is)
    (then_fails (IsPart path whole_part) (λ octets log result. (log ≡ []) × (result ≡ Ok octets)) failure before after part)
unread path (suc more) failure r before after is part =
    subst (λ (r : Result (Vec ℕ) Failure). GoesOnBy (λ log. IsSteadyRead path (suc more) log r) before after) (sym is)
    (then_fails (IsPart path whole_part) (IsKept path (IsSteadyRead path more)) failure before after part)

-- the last read
pub last_read : (path : List ℕ) (more : ℕ) (octets : Vec ℕ) (before after : Option (List AtHost)) → more ≡ 0
    → GoesOnBy (λ log. IsPart path whole_part log (Ok octets)) before after → GoesOnBy (λ log. IsSteadyRead path more log (Ok octets)) before after
last_read path more octets before after is part =
    let none : GoesOnBy (λ log. (log ≡ []) × (Ok octets ≡ Ok octets)) after after = record { more = []; holds = (refl, refl); on = stays after } in
    subst (λ (n : ℕ). GoesOnBy (λ log. IsSteadyRead path n log (Ok octets)) before after) (sym is)
    (then_follows (IsPart path whole_part) (λ octets log result. (log ≡ []) × (result ≡ Ok octets)) (Ok octets) (Ok octets) before after after part none)

-- octets were read, both heads looked at, and then it was read again or not
kept : (path : List ℕ) (Again : List AtHost → Result (Vec ℕ) Failure → Type 0) (octets : Vec ℕ) (seen : List ℕ) (same keep : Bool) (r : Result (Vec ℕ) Failure)
    (before read between after : Option (List AtHost)) → seen ≡ octets.items → same ≡ keep → GoesOnBy (λ log. IsPart path whole_part log (Ok octets)) before read
    → GoesOnBy (λ log. AreLooks path seen log same) read between → GoesOnBy (λ log. IsReadAfter keep octets Again log r) between after
    → GoesOnBy (λ log. Then (IsPart path whole_part) (IsKept path Again) log r) before after
kept path Again octets seen same keep r before read between after is are part look rest =
    let looked = subst (λ (o : List ℕ). GoesOnBy (λ log. AreLooks path o log same) read between) is look in
    let found = subst (λ (b : Bool). GoesOnBy (λ log. AreLooks path octets.items log b) read between) are looked in
    let whole : GoesOnBy (λ log. IsKept path Again octets log r) read after = record {
      more = found.more ++ rest.more;
      holds = record { same = keep; begin = found.more; looks = found.holds; rest = rest.more; after = rest.holds; log_is = refl };
      on = goes_on found.more rest.more read between after found.on rest.on;
    } in
    then_follows (IsPart path whole_part) (IsKept path Again) (Ok octets) r before read after part whole

-- no head has changed
pub steady : (path : List ℕ) (more : ℕ) (octets : Vec ℕ) (seen : List ℕ) (same : Bool) (before read after : Option (List AtHost)) → more ≢ 0 → seen ≡ octets.items → same ≡ true
    → GoesOnBy (λ log. IsPart path whole_part log (Ok octets)) before read → GoesOnBy (λ log. AreLooks path seen log same) read after
    → GoesOnBy (λ log. IsSteadyRead path more log (Ok octets)) before after
steady path zero octets seen same before read after some is are part look = absurd (some refl)
steady path (suc more) octets seen same before read after some is are part look =
    let none : GoesOnBy (λ log. IsReadAfter true octets (IsSteadyRead path more) log (Ok octets)) after after = record { more = []; holds = (refl, refl); on = stays after } in
    kept path (IsSteadyRead path more) octets seen same true (Ok octets) before read after after is are part look none

-- a head has changed
pub again : (path : List ℕ) (more : ℕ) (octets : Vec ℕ) (seen : List ℕ) (same : Bool) (r : Result (Vec ℕ) Failure) (before read between after : Option (List AtHost)) → more ≢ 0
    → seen ≡ octets.items → same ≡ false → GoesOnBy (λ log. IsPart path whole_part log (Ok octets)) before read → GoesOnBy (λ log. AreLooks path seen log same) read between
    → GoesOnBy (λ log. IsSteadyRead path (more - 1) log r) between after → GoesOnBy (λ log. IsSteadyRead path more log r) before after
again path zero octets seen same r before read between after some is are part look rest = absurd (some refl)
again path (suc more) octets seen same r before read between after some is are part look rest =
    let less : suc more - 1 ≡ more = omega arith in
    kept path (IsSteadyRead path more) octets seen same false r before read between after is are part look
    (subst (λ (n : ℕ). GoesOnBy (λ log. IsSteadyRead path n log r) between after) less rest)

-- octets that end before a head have another one there
pub is_changed : (octets head : List ℕ) (at : ℕ) → 17 ≤ length head → length octets < at + 17 → IsSameHead octets at head false
is_changed octets head at long few = (λ t. absurd (let never : ⊥ = cc in never), λ same. absurd (other same)) where
  ys : List ℕ
  ys = drop at octets

  other : ((length head < 17) ⊎ (take 17 ys ≡ head)) → ⊥
  other (inl short) = omega (arith, long, short)
  other (inr is) =
      let size : length ys ≡ length octets - at = length-drop at octets in
      let fewer : length ys < 17 = omega (arith, size, few) in
      let all : length head ≡ length ys = ap (λ (l : List ℕ). length l) (sym is ∙ take_all 17 ys (omega (arith, fewer))) in
      omega (arith, all, fewer, long)
