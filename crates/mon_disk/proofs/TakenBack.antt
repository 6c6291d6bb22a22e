-- Writes in place, and writes that are taken back.
use Rattle.std.proofs.Common.{ℕ, ◌≡◌, ◌≤◌, ◌<◌, ◌+◌, ◌-◌, min, List, [], ◌∷◌, ◌++◌, length, take, drop, map, get_or, replicate, refl, sym, ◌∙◌, ap, arith, ⊎_elim, append_assoc, take-append-drop, length-take, length-drop}
use Rattle.std.proofs.lemmas.List.{take_all, take_at, take_more, take-take, length-take-le, drop-drop, drop-append-le, append-nil}
use Rattle.std.proofs.lemmas.Slice.{put_mid-paste}
use Rattle.std.proofs.lemmas.Bool.{cases_lt}
use borrow.Rule.Slice.PartMut.{put_mid}
use Rattle.mon_disk.specs.Disk.{IsWritten}
use Rattle.mon_disk.specs.Record.{overwritten, put_back, restored, numbers}
use Rattle.mon_disk.specs.Outcomes.{is_overwritten}
use Rattle.mon_disk.specs.declared.memory.Replaced.{Replaced}

-- octets that begin within a file
over : (old octets : List ℕ) (at : ℕ) → at ≤ length old → overwritten old at octets ≡ take at old ++ octets ++ drop (at + length octets) old
unfolding overwritten
over old octets at within =
    let none : at - length old ≡ 0 = omega (arith, within) in
    let gap : take at old ++ replicate (at - length old) 0 ≡ take at old = ap (λ n. take at old ++ replicate n 0) none ∙ append-nil (take at old) in
    λ i. gap i ++ octets ++ drop (at + length octets) old

pub put_in : (old octets new : List ℕ) (at k : ℕ) → new ≡ octets → k ≡ length octets → at + length octets ≤ length old → put_mid at k old new ≡ overwritten old at octets
put_in old octets new at k is size within =
    let whole : take (length octets) octets ≡ octets = take_all (length octets) octets (omega arith) in
    put_mid-paste at k old new octets (length octets) is (sym size) refl
    ∙ (λ i. take at old ++ whole i ++ drop (at + length octets) old)
    ∙ sym (over old octets at (omega (arith, within)))

-- what a write replaced, put back
module _ (old octets saved : List ℕ) (at : ℕ) where
  abbrev new : List ℕ
  new = overwritten old at octets

  module _ (w : IsWritten old at octets new) where
    reaches : at + length octets ≤ length new
    reaches = omega (arith, w.size)

    parts : overwritten new at saved ≡ take at new ++ saved ++ drop (at + length saved) new
    parts = over new saved at (omega (arith, reaches))

    past_end : length old ≤ at → saved ≡ [] → take (length old) (overwritten new at saved) ≡ old
    past_end past is =
        let same : overwritten new at saved ≡ new = parts ∙ (λ i. take at new ++ is i ++ drop (at + length (is i)) new)
        ∙ (λ i. append-nil (take at new) i ++ drop (at + 0) new) ∙ ap (λ n. take at new ++ drop n new) (let plain : at + 0 ≡ at = omega arith in plain) ∙ take-append-drop at new in
        ap (take (length old)) same
        ∙ sym (take_all at (take (length old) new) (omega (arith, length-take (length old) new, past)))
        ∙ w.before
        ∙ take_all at old past

    front : at ≤ length old → take at new ≡ take at old
    front before = sym (take-take at (length old) new before) ∙ w.before

    over_end : at ≤ length old → saved ≡ drop at old → take (length old) (overwritten new at saved) ≡ old
    over_end before is =
        let rest = drop (at + length saved) new in
        let whole : overwritten new at saved ≡ old ++ rest = parts ∙ (λ i. front before i ++ is i ++ rest) ∙ (λ i. take-append-drop at old i ++ rest) in
        ap (take (length old)) whole ∙ take_at old rest (length old) refl

    inside : at + length octets ≤ length old → saved ≡ take (length octets) (drop at old) → take (length old) (overwritten new at saved) ≡ old
    inside within is =
        let n = length octets in
        let size : length saved ≡ n = ap length is ∙ length-take-le n (drop at old) (omega (arith, within, length-drop at old)) in
        let same : take (length old) new ≡ new = take_all (length old) new (omega (arith, w.size, within)) in
        let last : drop (at + length saved) new ≡ drop n (drop at old) =
        ap (λ k. drop (at + k) new) size ∙ ap (drop (at + n)) (sym same) ∙ w.after ∙ sym (drop-drop n at old) in
        let whole : overwritten new at saved ≡ old = parts
        ∙ (λ i. front (omega (arith, within)) i ++ is i ++ last i)
        ∙ append_assoc (take at old) (take n (drop at old)) (drop n (drop at old))
        ∙ ap (λ (l : List ℕ). take at old ++ l) (take-append-drop n (drop at old))
        ∙ take-append-drop at old in
        ap (take (length old)) whole ∙ take_all (length old) old (omega arith)

pub back : (old octets saved : List ℕ) (at from count : ℕ) → from ≡ min at (length old) → count ≡ min (length octets) (length old - from) → saved ≡ take count (drop from old)
    → take (length old) (overwritten (overwritten old at octets) at saved) ≡ old
back old octets saved at from count f k is =
    let w = is_overwritten old at octets in
    ⊎_elim
    (λ (before : at < length old).
    let begins : from ≡ at = omega (arith, f, before) in
    let cut : saved ≡ take count (drop at old) = is ∙ ap (λ n. take count (drop n old)) begins in
    ⊎_elim
    (λ (past : length old < at + length octets).
    over_end old octets saved at w (omega (arith, before)) (cut ∙ take_all count (drop at old) (omega (arith, k, begins, past, before, length-drop at old))))
    (λ (within : at + length octets ≤ length old).
    let all : count ≡ length octets = omega (arith, k, begins, within) in
    inside old octets saved at w within (cut ∙ ap (λ n. take n (drop at old)) all))
    (cases_lt (length old) (at + length octets)))
    (λ (past : length old ≤ at).
    let none : count ≡ 0 = omega (arith, k, f, past) in
    past_end old octets saved at w past (is ∙ ap (λ n. take n (drop from old)) none))
    (cases_lt at (length old))

-- writes that are taken back, the last one first
restored_append : (file : List ℕ) (xs ys : List Replaced) → restored file (xs ++ ys) ≡ restored (restored file ys) xs
restored_append file [] ys = refl
restored_append file (x ∷ xs) ys = ap (put_back x) (restored_append file xs ys)

pub taken_back : (old new : List ℕ) (replaced later : List Replaced) (one : Replaced) → later ≡ replaced ++ one ∷ [] → put_back one new ≡ old → restored new later ≡ restored old replaced
taken_back old new replaced later one is same =
    ap (restored new) is ∙ restored_append new replaced (one ∷ []) ∙ ap (λ (f : List ℕ). restored f replaced) same

pub taken_back_from : (old new : List ℕ) (replaced later : List Replaced) (one : Replaced) (k : ℕ) → k ≤ length replaced → later ≡ replaced ++ one ∷ [] → put_back one new ≡ old
    → restored new (drop k later) ≡ restored old (drop k replaced)
taken_back_from old new replaced later one k within is same =
    taken_back old new (drop k replaced) (drop k later) one (ap (λ (l : List Replaced). drop k l) is ∙ drop-append-le k replaced (one ∷ []) within) same

-- one more of them
pub one_back : (file : List ℕ) (replaced : List Replaced) (i : ℕ) (one : Replaced) → i < length replaced → one ≡ get_or replaced i one
    → restored file (take (i + 1) replaced) ≡ restored (put_back one file) (take i replaced)
one_back file replaced i one within here =
    ap (restored file) (take_more replaced i one within ∙ ap (λ (r : Replaced). take i replaced ++ r ∷ []) (sym here)) ∙ restored_append file (take i replaced) (one ∷ [])

-- those that say the same
put_back_same : (x y : Replaced) (file : List ℕ) → numbers x ≡ numbers y → put_back x file ≡ put_back y file
put_back_same x y file same = λ i. take (same i).2 (overwritten file (same i).0 (same i).1)

abbrev first_numbers : List (ℕ × List ℕ × ℕ) → ℕ × List ℕ × ℕ
first_numbers [] = (0, [], 0)
first_numbers (x ∷ xs) = x

pub restored_same : (xs ys : List Replaced) (file : List ℕ) → map numbers xs ≡ map numbers ys → restored file xs ≡ restored file ys
restored_same [] [] file same = refl
restored_same [] (y ∷ ys) file same = absurd (cc same)
restored_same (x ∷ xs) [] file same = absurd (cc same)
restored_same (x ∷ xs) (y ∷ ys) file same =
    ap (put_back x) (restored_same xs ys file (ap (λ (l : List (ℕ × List ℕ × ℕ)). drop 1 l) same))
    ∙ put_back_same x y (restored file ys) (ap first_numbers same)

-- a copy of the file, and of the writes from a place on
pub clone_restored : (old copy : List ℕ) (replaced copies : List Replaced) (k : ℕ) → copy ≡ old → map numbers copies ≡ map numbers (take (length replaced - k) (drop k replaced))
    → restored copy copies ≡ restored old (drop k replaced)
clone_restored old copy replaced copies k is same =
    let rest : take (length replaced - k) (drop k replaced) ≡ drop k replaced = take_all (length replaced - k) (drop k replaced) (omega (arith, length-drop k replaced)) in
    ap (λ (f : List ℕ). restored f copies) is ∙ restored_same copies (drop k replaced) old (same ∙ ap (λ (l : List Replaced). map numbers l) rest)

-- a file from which the writes from a place on were taken back
pub rest_restored : (old new : List ℕ) (replaced held : List Replaced) (k : ℕ) → held ≡ replaced → new ≡ restored old (take (length held - k) (drop k held)) → new ≡ restored old (drop k replaced)
rest_restored old new replaced held k same is =
    let rest : take (length replaced - k) (drop k replaced) ≡ drop k replaced = take_all (length replaced - k) (drop k replaced) (omega (arith, length-drop k replaced)) in
    is ∙ ap (λ (l : List Replaced). restored old (take (length l - k) (drop k l))) same ∙ ap (restored old) rest
