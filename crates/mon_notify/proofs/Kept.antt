-- What becomes of the texts that are put into an outbox.
use native.Mathlib.Omega.{arith}
use Rattle.std.proofs.Common.{◌≡◌, ◌≤◌, ◌<◌, ◌+◌, ◌-◌, ◌^◌, ◌∙◌, ap, sym, subst, refl, ℕ, suc, Bool, true, false, List, [], ◌∷◌, ◌++◌, length, map, min, drop, nat_lt, cond}
use Rattle.std.proofs.lemmas.Bool.Decides.{nat_tests}
use Rattle.std.proofs.lemmas.List.{append-nil, append_assoc, map-append}
use Rattle.mon_udp.specs.Counts.{next_count}
use Rattle.mon_notify.specs.Mail.{Mail, empty, after_put, after_text, after_removal}
use Rattle.mon_notify.specs.History.{History, began, put, put_full, put_long, taken, Fate, Taken, Dropped, taken_of, dropped_of, IsKept}

-- one more that is gone
taken_more : (gone : List (List ℕ × Fate)) (text : List ℕ) → taken_of (gone ++ (text, Taken) ∷ []) ≡ taken_of gone ++ text ∷ []
taken_more [] text = refl
taken_more ((other, Taken) ∷ gone) text = ap (λ (l : List (List ℕ)). other ∷ l) (taken_more gone text)
taken_more ((other, Dropped) ∷ gone) text = taken_more gone text

taken_same : (gone : List (List ℕ × Fate)) (text : List ℕ) → taken_of (gone ++ (text, Dropped) ∷ []) ≡ taken_of gone
taken_same [] text = refl
taken_same ((other, Taken) ∷ gone) text = ap (λ (l : List (List ℕ)). other ∷ l) (taken_same gone text)
taken_same ((other, Dropped) ∷ gone) text = taken_same gone text

dropped_same : (gone : List (List ℕ × Fate)) (text : List ℕ) → dropped_of (gone ++ (text, Taken) ∷ []) ≡ dropped_of gone
dropped_same [] text = refl
dropped_same ((other, Taken) ∷ gone) text = dropped_same gone text
dropped_same ((other, Dropped) ∷ gone) text = ap (λ (n : ℕ). n + 1) (dropped_same gone text)

dropped_more : (gone : List (List ℕ × Fate)) (text : List ℕ) → dropped_of (gone ++ (text, Dropped) ∷ []) ≡ dropped_of gone + 1
dropped_more [] text = refl
dropped_more ((other, Taken) ∷ gone) text = dropped_more gone text
dropped_more ((other, Dropped) ∷ gone) text = ap (λ (n : ℕ). n + 1) (dropped_more gone text)

-- a text of those that wait is gone
moved : (gone : List (List ℕ × Fate)) (text : List ℕ) (fate : Fate) (rest : List (List ℕ))
    → map (λ g. g.0) gone ++ text ∷ rest ≡ map (λ g. g.0) (gone ++ (text, fate) ∷ []) ++ rest
moved [] text fate rest = refl
moved (other ∷ gone) text fate rest = ap (λ (l : List (List ℕ)). other.0 ∷ l) (moved gone text fate rest)

counted : (n d : ℕ) → n ≡ min d (2 ^ 64 - 1) → next_count n ≡ min (d + 1) (2 ^ 64 - 1)
counted n d e = omega (arith, e)

-- what a put does
put_is : (m : Mail) (text : List ℕ) → length text ≤ 4096 → length m.waiting < 256
    → after_put text m ≡ (let n : Mail = record { waiting = m.waiting ++ text ∷ []; dropped = m.dropped; too_long = m.too_long } in n)
put_is m text short few =
    let fits : nat_lt 4096 (length text) ≡ false = grind (arith, nat_tests) in
    let room : nat_lt (length m.waiting) 256 ≡ true = grind (arith, nat_tests) in
    ap (λ (b : Bool). cond b (let n : Mail = record { waiting = m.waiting; dropped = m.dropped; too_long = next_count m.too_long } in n) (after_text text m)) fits
    ∙ ap (λ (b : Bool). cond b (let n : Mail = record { waiting = m.waiting ++ text ∷ []; dropped = m.dropped; too_long = m.too_long } in n)
    (let n : Mail = record { waiting = drop 1 m.waiting ++ text ∷ []; dropped = next_count m.dropped; too_long = m.too_long } in n)) room

full_is : (m : Mail) (text : List ℕ) → length text ≤ 4096 → 256 ≤ length m.waiting
    → after_put text m ≡ (let n : Mail = record { waiting = drop 1 m.waiting ++ text ∷ []; dropped = next_count m.dropped; too_long = m.too_long } in n)
full_is m text short many =
    let fits : nat_lt 4096 (length text) ≡ false = grind (arith, nat_tests) in
    let room : nat_lt (length m.waiting) 256 ≡ false = grind (arith, nat_tests) in
    ap (λ (b : Bool). cond b (let n : Mail = record { waiting = m.waiting; dropped = m.dropped; too_long = next_count m.too_long } in n) (after_text text m)) fits
    ∙ ap (λ (b : Bool). cond b (let n : Mail = record { waiting = m.waiting ++ text ∷ []; dropped = m.dropped; too_long = m.too_long } in n)
    (let n : Mail = record { waiting = drop 1 m.waiting ++ text ∷ []; dropped = next_count m.dropped; too_long = m.too_long } in n)) room

long_is : (m : Mail) (text : List ℕ) → 4096 < length text
    → after_put text m ≡ (let n : Mail = record { waiting = m.waiting; dropped = m.dropped; too_long = next_count m.too_long } in n)
long_is m text long =
    let over : nat_lt 4096 (length text) ≡ true = grind (arith, nat_tests) in
    ap (λ (b : Bool). cond b (let n : Mail = record { waiting = m.waiting; dropped = m.dropped; too_long = next_count m.too_long } in n) (after_text text m)) over

-- the oldest of those that wait
first_rest : (waiting : List (List ℕ)) → 0 < length waiting → (text : List ℕ) × (rest : List (List ℕ)) × (waiting ≡ text ∷ rest)
first_rest [] some = absurd (omega arith)
first_rest (text ∷ rest) some = (text, rest, refl)

pub kept : (came got : List (List ℕ)) (d l : ℕ) (m : Mail) → History came got d l m → IsKept came got d l m
kept came got d l m began = record {
  gone = [];
  came_is = refl;
  taken_is = refl;
  dropped_is = refl;
  dropped_count = omega arith;
  too_long_count = omega arith;
}
kept came got d l m (put before got1 d1 l1 o text h short few) =
    let k = kept before got d l o h in
    subst (λ (n : Mail). IsKept (before ++ text ∷ []) got d l n) (sym (put_is o text short few)) (record {
      gone = k.gone;
      came_is = ap (λ (s : List (List ℕ)). s ++ text ∷ []) k.came_is ∙ append_assoc (map (λ g. g.0) k.gone) o.waiting (text ∷ []);
      taken_is = k.taken_is;
      dropped_is = k.dropped_is;
      dropped_count = k.dropped_count;
      too_long_count = k.too_long_count;
    })
kept came got d l m (put_full before got1 d1 l1 o text h short many) =
    let k = kept before got d1 l o h in
    let (first, rest, is) = first_rest o.waiting (omega arith) in
    subst (λ (n : Mail). IsKept (before ++ text ∷ []) got (d1 + 1) l n) (sym (full_is o text short many)) (record {
      gone = k.gone ++ (first, Dropped) ∷ [];
      came_is = ap (λ (s : List (List ℕ)). s ++ text ∷ [])
          (k.came_is ∙ ap (λ (s : List (List ℕ)). map (λ g. g.0) k.gone ++ s) is ∙ moved k.gone first Dropped rest)
          ∙ append_assoc (map (λ g. g.0) (k.gone ++ (first, Dropped) ∷ [])) rest (text ∷ [])
          ∙ ap (λ (s : List (List ℕ)). map (λ g. g.0) (k.gone ++ (first, Dropped) ∷ []) ++ (drop 1 s ++ text ∷ [])) (sym is);
      taken_is = k.taken_is ∙ sym (taken_same k.gone first);
      dropped_is = ap (λ (n : ℕ). n + 1) k.dropped_is ∙ sym (dropped_more k.gone first);
      dropped_count = counted o.dropped d1 k.dropped_count;
      too_long_count = k.too_long_count;
    })
kept came got d l m (put_long before got1 d1 l1 o text h long) =
    let k = kept before got d l1 o h in
    subst (λ (n : Mail). IsKept before got d (l1 + 1) n) (sym (long_is o text long)) (record {
      gone = k.gone;
      came_is = k.came_is;
      taken_is = k.taken_is;
      dropped_is = k.dropped_is;
      dropped_count = k.dropped_count;
      too_long_count = counted o.too_long l1 k.too_long_count;
    })
kept came got d l m (taken before got1 d1 l1 o text rest h is) =
    let k = kept before got1 d l o h in record {
      gone = k.gone ++ (text, Taken) ∷ [];
      came_is = k.came_is ∙ ap (λ (s : List (List ℕ)). map (λ g. g.0) k.gone ++ s) is ∙ moved k.gone text Taken rest
          ∙ ap (λ (s : List (List ℕ)). map (λ g. g.0) (k.gone ++ (text, Taken) ∷ []) ++ drop 1 s) (sym is);
      taken_is = ap (λ (s : List (List ℕ)). s ++ text ∷ []) k.taken_is ∙ sym (taken_more k.gone text);
      dropped_is = k.dropped_is ∙ sym (dropped_same k.gone text);
      dropped_count = k.dropped_count;
      too_long_count = k.too_long_count;
    }
