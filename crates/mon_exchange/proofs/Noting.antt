-- Claims noted on a board: their marks.
use Rattle.std.proofs.Common.{◌≡◌, ℕ, ◌+◌, ◌<◌, Bool, true, false, ◌||◌, ◌&&◌, List, [], ◌∷◌, ◌++◌, length, get_or, take, refl, sym, ap, ◌∙◌}
use Rattle.std.specs.Prelude.{◌==◌, if◌then◌else◌, not}
use Rattle.std.specs.Cmp.{nat_cmp_total, unsigned_tied}
use Rattle.std.specs.FinSet.{contains, contains-from_list, contains-union, from_list}
use Rattle.std.specs.Ordering.{nat_cmp}
use Rattle.std.proofs.lemmas.List.{take_more}
use Rattle.mon_window.specs.Window.{Samples}
use Rattle.mon_window.proofs.Promised.{from_list-append}
use Rattle.mon_board.specs.Owed.{kept_marks}
use Rattle.mon_exchange.specs.Peers.{is_claimed, marks_after, marks_noted}
use Rattle.mon_exchange.specs.declared.noted.Noted.{Noted}

-- ---- marks of a list of samples
one_sample : (x s : ℕ) → contains (from_list {R = nat_cmp} (x ∷ [])) s ≡ (s == x)
one_sample x s = contains-from_list nat_cmp_total (x ∷ []) s ∙ or_none _ ∙ unsigned_tied s x
  where
    or_none : (b : Bool) → (b || false) ≡ b
    or_none true = refl
    or_none false = refl

contains_more : (xs : List ℕ) (x s : ℕ) → contains (from_list {R = nat_cmp} (xs ++ x ∷ [])) s ≡ (contains (from_list {R = nat_cmp} xs) s || (s == x))
contains_more xs x s =
    ap (λ (a : Samples). contains a s) (from_list-append xs (x ∷ [])) ∙ contains-union nat_cmp_total (from_list xs) (from_list (x ∷ [])) s
    ∙ ap (λ (b : Bool). contains (from_list {R = nat_cmp} xs) s || b) (one_sample x s)

one_mark_more : (m k i p e w : Bool) → ((m || (k && (i && (p && w)))) || ((k && i) && (e && w))) ≡ (m || (k && (i && ((p || e) && w))))
one_mark_more true k i p e w = refl
one_mark_more false false i p e w = refl
one_mark_more false true false p e w = refl
one_mark_more false true true false e w = refl
one_mark_more false true true true e true = refl
one_mark_more false true true true true false = refl
one_mark_more false true true true false false = refl

none_marked : (m k i w : Bool) → m ≡ (m || (k && (i && (false && w))))
none_marked true k i w = refl
none_marked false false i w = refl
none_marked false true false w = refl
none_marked false true true w = refl

pub none_claimed : (m b : Bool) (number : ℕ) (windows : ℕ → Samples) (i s : ℕ) → m ≡ (m || (b && is_claimed number [] windows i s))
none_claimed m b number windows i s =
    none_marked m b (i == number) (contains (windows i) s)
    ∙ ap (λ (c : Bool). m || (b && ((i == number) && (c && contains (windows i) s)))) (sym (contains-from_list nat_cmp_total [] s))

pub marked_more : (slot number : ℕ) (samples : List ℕ) (place x : ℕ) → place < length samples → x ≡ get_or samples place x → (windows : ℕ → Samples) (m : Bool) (k i s : ℕ)
    → ((m || ((k == slot) && is_claimed number (take place samples) windows i s)) || (((k == slot) && (i == number)) && ((s == x) && contains (windows i) s)))
    ≡ (m || ((k == slot) && is_claimed number (take (place + 1) samples) windows i s))
marked_more slot number samples place x lt is windows m k i s =
    let grown : take (place + 1) samples ≡ take place samples ++ x ∷ [] = take_more samples place x lt ∙ ap (λ (y : ℕ). take place samples ++ y ∷ []) (sym is) in
    one_mark_more m (k == slot) (i == number) (contains (from_list {R = nat_cmp} (take place samples)) s) (s == x) (contains (windows i) s)
    ∙ ap (λ (b : Bool). m || ((k == slot) && ((i == number) && (b && contains (windows i) s)))) (sym (contains_more (take place samples) x s))
    ∙ ap (λ (l : List ℕ). m || ((k == slot) && is_claimed number l windows i s)) (sym grown)

-- ---- marks by what was answered
-- the slot's marks were taken away, and what is claimed was marked
pub newly_marked : (k c m : Bool) → ((m && not k) || (k && c)) ≡ (if k then c else m)
newly_marked true c true = refl
newly_marked true c false = refl
newly_marked false c true = refl
newly_marked false c false = refl

pub marked_too : (k c m : Bool) → (m || (k && c)) ≡ (if k then (m || c) else m)
marked_too true c m = refl
marked_too false c true = refl
marked_too false c false = refl

pub as_it_was : (k m : Bool) → m ≡ (if k then m else m)
as_it_was true m = refl
as_it_was false m = refl

-- samples were taken, and then marked
pub taken_and_marked : (noted : Noted) (slot number : ℕ) (samples : List ℕ) (w0 w1 : ℕ → Samples) (m0 m1 m2 : ℕ → ℕ → ℕ → Bool)
    → ((k : ℕ) → m1 k ≡ kept_marks w0 w1 (m0 k)) → ((k i s : ℕ) → m2 k i s ≡ marks_noted noted slot number samples w1 m1 k i s)
    → (k i s : ℕ) → m2 k i s ≡ marks_after noted slot number samples w0 w1 m0 k i s
taken_and_marked noted slot number samples w0 w1 m0 m1 m2 taken marked k i s = marked k i s ∙ (λ j. marks_noted noted slot number samples w1 (λ n. taken n j) k i s)
