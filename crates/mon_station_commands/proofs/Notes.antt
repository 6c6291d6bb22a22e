-- Lines that are sent to standard error.
use Rattle.std.proofs.Common.{◌≡◌, ◌≢◌, ◌∙◌, ◌<◌, ◌≤◌, ◌+◌, ◌++◌, ◌∷◌, Bool, List, ℕ, [], ap, append_assoc, arith, false, length, map, refl, subst, sym, take, true}
use Rattle.std.proofs.Math.ListN.{get_or}
use Rattle.std.proofs.lemmas.Bool.Decides.{nat_tests}
use Rattle.std.proofs.lemmas.List.{flat_map_more, map-append, take-map, take_more}
use Rattle.std.specs.List.{flat_map}
use Rattle.std.specs.Prelude.{◌==◌, Option, Some, if◌then◌else◌, nat_lt, Result, Ok, Err, IsErr}
use Rattle.std.specs.declared.alloc.AllocError.{AllocError}
use Rattle.mon_host.specs.AtHost.{AtHost, IsNoted, Noted}
use Rattle.mon_host.specs.declared.level.Level.{Level}
use Rattle.mon_host.specs.Log.{GoesOnBy}
use Rattle.mon_host.proofs.Promised.{goes_on, stays, weaker}
use Rattle.mon_file_commands.specs.Line.{AreNoted, Line, noted, stated}
use Rattle.mon_station_commands.specs.Telling.{AreSaid}

-- lines, and others after them
pub are_noted_on : (texts others : List Line) (log rest : List AtHost) → AreNoted texts log → AreNoted others rest → AreNoted (texts ++ others) (log ++ rest)
are_noted_on [] others log rest none are = subst (λ (l : List AtHost). AreNoted others (l ++ rest)) (sym none) are
are_noted_on (text ∷ texts) others log rest (octets, more, is, later, log_is) are =
    (octets, more ++ rest, is, are_noted_on texts others more rest later are, ap (λ (l : List AtHost). l ++ rest) log_is)

pub noted_on : (texts others : List Line) (before between after : Option (List AtHost)) → GoesOnBy (AreNoted texts) before between
    → GoesOnBy (AreNoted others) between after → GoesOnBy (AreNoted (texts ++ others)) before after
noted_on texts others before between after first second = record {
  more = first.more ++ second.more;
  holds = are_noted_on texts others first.more second.more first.holds second.holds;
  on = goes_on first.more second.more before between after first.on second.on;
}

-- one line of which all is stated, in the pieces that were written
pub line_noted : (v : Level) (pieces text : List ℕ) (before after : Option (List AtHost)) → pieces ≡ text → GoesOnBy (IsNoted v (Some pieces)) before after
    → GoesOnBy (AreNoted (stated v text ∷ [])) before after
line_noted v pieces text before after same note = weaker (IsNoted v (Some pieces)) (AreNoted (stated v text ∷ [])) before after
    (λ log noted. (noted.0, [], noted.1 ∙ same, refl, noted.2)) note

pub text_noted : (v : Level) (pieces text : List ℕ) (before after : Option (List AtHost)) → pieces ≡ text → GoesOnBy (IsNoted v (Some pieces)) before after
    → GoesOnBy (IsNoted v (Some text)) before after
text_noted v pieces text before after same note = subst (λ (t : List ℕ). GoesOnBy (IsNoted v (Some t)) before after) same note

-- three pieces, however they are put together
pub three_pieces : (a b c : List ℕ) → a ++ (b ++ c) ≡ a ++ b ++ c
three_pieces a b c = simp append_assoc refl

-- five pieces, however they are put together
pub five_pieces : (a b c d e : List ℕ) → a ++ (b ++ (c ++ (d ++ e))) ≡ a ++ b ++ c ++ d ++ e
five_pieces a b c d e = simp append_assoc refl

pub seven_pieces : (a b c d e f g : List ℕ) → a ++ (b ++ (c ++ (d ++ (e ++ (f ++ g))))) ≡ a ++ b ++ c ++ d ++ e ++ f ++ g
seven_pieces a b c d e f g = simp append_assoc refl

pub nine_pieces : (a b c d e f g h i : List ℕ) → a ++ (b ++ (c ++ (d ++ (e ++ (f ++ (g ++ (h ++ i))))))) ≡ a ++ b ++ c ++ d ++ e ++ f ++ g ++ h ++ i
nine_pieces a b c d e f g h i = simp append_assoc refl

pub thirteen_pieces : (a b c d e f g h i j k l m : List ℕ)
    → a ++ (b ++ (c ++ (d ++ (e ++ (f ++ (g ++ (h ++ (i ++ (j ++ (k ++ (l ++ m))))))))))) ≡ a ++ b ++ c ++ d ++ e ++ f ++ g ++ h ++ i ++ j ++ k ++ l ++ m
thirteen_pieces a b c d e f g h i j k l m = simp append_assoc refl

pub not_zero : (n : ℕ) → n ≢ 0 → (n == 0) ≡ false
not_zero n other = grind (arith, nat_tests)

pub less : (n m : ℕ) → n < m → nat_lt n m ≡ true
less n m is = grind (arith, nat_tests)

-- a line if there is something to count
pub counted : (v : Level) (n : ℕ) (pieces text : List ℕ) (before after : Option (List AtHost)) → n ≢ 0 → pieces ≡ text → GoesOnBy (IsNoted v (Some pieces)) before after
    → GoesOnBy (AreNoted (if n == 0 then [] else (stated v text ∷ []))) before after
counted v n pieces text before after some same note =
    subst (λ (b : Bool). GoesOnBy (AreNoted (if b then [] else (stated v text ∷ []))) before after) (sym (not_zero n some)) (line_noted v pieces text before after same note)

-- a line of a size that is short
pub short : (v : Level) (n most : ℕ) (pieces text : List ℕ) (before after : Option (List AtHost)) → n ≢ 0 → n < most → pieces ≡ text → GoesOnBy (IsNoted v (Some pieces)) before after
    → GoesOnBy (AreNoted (if n == 0 then [] else if nat_lt n most then (stated v text ∷ []) else [])) before after
short v n most pieces text before after some few same note =
    subst (λ (b : Bool). GoesOnBy (AreNoted (if b then [] else if nat_lt n most then (stated v text ∷ []) else [])) before after) (sym (not_zero n some))
    (subst (λ (b : Bool). GoesOnBy (AreNoted (if b then (stated v text ∷ []) else [])) before after) (sym (less n most few)) (line_noted v pieces text before after same note))

module _ {X : Type 0} (f : X → List Line) where
  -- the lines of the elements up to a place, and those of the element there
  pub noted_more : (xs : List X) (i : ℕ) (d : X) (before between after : Option (List AtHost)) → i < length xs → GoesOnBy (AreNoted (flat_map f (take i xs))) before between
      → GoesOnBy (AreNoted (f (get_or xs i d))) between after → GoesOnBy (AreNoted (flat_map f (take (i + 1) xs))) before after
  noted_more xs i d before between after inside first second =
      let x = get_or xs i d in
      let taken : take (i + 1) xs ≡ take i xs ++ x ∷ [] = take_more xs i d inside in
      let lines : flat_map f (take i xs) ++ f x ≡ flat_map f (take (i + 1) xs) = flat_map_more f [] (take i xs) x ∙ ap (λ ys. flat_map f ys) (sym taken) in
      subst (λ (ts : List Line). GoesOnBy (AreNoted ts) before after) lines (noted_on (flat_map f (take i xs)) (f x) before between after first second)

module _ {X : Type 0} (f : X → Level × List ℕ) where
  -- one line more of a list of lines, of which each is sent
  pub line_more : (xs : List X) (i : ℕ) (d : X) (v : Level) (line : List ℕ) (before between after : Option (List AtHost)) → i < length xs → (v, line) ≡ f (get_or xs i d)
      → GoesOnBy (λ log. log ≡ map noted (take i (map f xs))) before between → GoesOnBy (IsNoted v (Some line)) between after
      → GoesOnBy (λ log. log ≡ map noted (take (i + 1) (map f xs))) before after
  line_more xs i d v line before between after inside is first second =
      let x = get_or xs i d in
      let taken : take (i + 1) (map f xs) ≡ take i (map f xs) ++ f x ∷ [] =
      take-map f (i + 1) xs ∙ (ap (λ (ys : List X). map f ys) (take_more xs i d inside) ∙ (map-append f (take i xs) (x ∷ []) ∙ ap (λ (ls : List (Level × List ℕ)). ls ++ f x ∷ []) (sym (take-map f i xs)))) in
      let sent : second.more ≡ noted (f x) ∷ [] = second.holds.2 ∙ (ap (λ (o : List ℕ). Noted v o ∷ []) second.holds.1 ∙ ap (λ (l : Level × List ℕ). noted l ∷ []) is) in
      record {
        more = first.more ++ second.more;
        holds = ap (λ (l : List AtHost). l ++ second.more) first.holds ∙ (ap (λ (l : List AtHost). map noted (take i (map f xs)) ++ l) sent
            ∙ (sym (map-append noted (take i (map f xs)) (f x ∷ [])) ∙ ap (λ (ls : List (Level × List ℕ)). map noted ls) (sym taken)));
        on = goes_on first.more second.more before between after first.on second.on;
      }

-- nothing was said, since there was no memory
pub unsaid : (lines : List (Level × List ℕ)) (r : Result Unit AllocError) (told : Option (List AtHost)) → IsErr r → GoesOnBy (λ log. AreSaid lines log r) told told
unsaid lines (Ok u) told is = absurd (let never : ⊥ = cc in never)
unsaid lines (Err fault) told is = record { more = []; holds = record { many = 0; log_is = refl; all = tt }; on = stays told }

none_more : (n : ℕ) → n ≤ 0 → nat_lt 0 n ≡ false
none_more n is = grind (arith, nat_tests)

-- the line of a station's start, and what its peers need
pub begun_new : (v : Level) (n peers : ℕ) (line : List ℕ) (more : List Line) (before between after : Option (List AtHost)) → n ≡ peers → 0 < n
    → GoesOnBy (IsNoted v (Some line)) before between → GoesOnBy (AreNoted more) between after
    → GoesOnBy (AreNoted (stated v line ∷ (if nat_lt 0 peers then more else []))) before after
begun_new v n peers line more before between after same some note noted =
    subst (λ (b : Bool). GoesOnBy (AreNoted (stated v line ∷ (if b then more else []))) before after) (sym (less 0 peers (subst (λ (k : ℕ). 0 < k) same some)))
    (noted_on (stated v line ∷ []) more before between after (line_noted v line line before between refl note) noted)

-- the line of the start of a station without peers
pub begun_old : (v : Level) (n peers : ℕ) (line : List ℕ) (more : List Line) (before after : Option (List AtHost)) → n ≡ peers → n ≤ 0
    → GoesOnBy (IsNoted v (Some line)) before after → GoesOnBy (AreNoted (stated v line ∷ (if nat_lt 0 peers then more else []))) before after
begun_old v n peers line more before after same none note =
    subst (λ (b : Bool). GoesOnBy (AreNoted (stated v line ∷ (if b then more else []))) before after) (sym (none_more peers (subst (λ (k : ℕ). k ≤ 0) same none)))
    (line_noted v line line before after refl note)
