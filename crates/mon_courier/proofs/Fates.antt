-- What became of texts: one more that is gone, and the one in hand when it is done.
use native.Mathlib.Omega.{arith}
use Rattle.std.proofs.Common.{◌≡◌, ◌+◌, ap, refl, ℕ, List, [], ◌∷◌, ◌++◌, length, map}
use Rattle.mon_courier.specs.History.{Fate, WasDropped, WasRefused, WasDelivered, IsInHand, dropped_of, refused_of, in_hand_of}

-- a text of those that wait is gone
pub moved : (gone : List (List ℕ × Fate)) (text : List ℕ) (fate : Fate) (rest : List (List ℕ))
    → map (λ g. g.0) gone ++ text ∷ rest ≡ map (λ g. g.0) (gone ++ (text, fate) ∷ []) ++ rest
moved [] text fate rest = refl
moved (other ∷ gone) text fate rest = ap (λ (l : List (List ℕ)). other.0 ∷ l) (moved gone text fate rest)

-- it was taken
pub hand_taken : (gone : List (List ℕ × Fate)) (text : List ℕ) → in_hand_of (gone ++ (text, IsInHand) ∷ []) ≡ in_hand_of gone ++ text ∷ []
hand_taken [] text = refl
hand_taken ((other, WasDropped) ∷ gone) text = hand_taken gone text
hand_taken ((other, WasRefused) ∷ gone) text = hand_taken gone text
hand_taken ((other, WasDelivered) ∷ gone) text = hand_taken gone text
hand_taken ((other, IsInHand) ∷ gone) text = ap (λ (l : List (List ℕ)). other ∷ l) (hand_taken gone text)

pub dropped_taken : (gone : List (List ℕ × Fate)) (text : List ℕ) → dropped_of (gone ++ (text, IsInHand) ∷ []) ≡ dropped_of gone
dropped_taken [] text = refl
dropped_taken ((other, WasDropped) ∷ gone) text = ap (λ (n : ℕ). n + 1) (dropped_taken gone text)
dropped_taken ((other, WasRefused) ∷ gone) text = dropped_taken gone text
dropped_taken ((other, WasDelivered) ∷ gone) text = dropped_taken gone text
dropped_taken ((other, IsInHand) ∷ gone) text = dropped_taken gone text

pub refused_taken : (gone : List (List ℕ × Fate)) (text : List ℕ) → refused_of (gone ++ (text, IsInHand) ∷ []) ≡ refused_of gone
refused_taken [] text = refl
refused_taken ((other, WasDropped) ∷ gone) text = refused_taken gone text
refused_taken ((other, WasRefused) ∷ gone) text = ap (λ (n : ℕ). n + 1) (refused_taken gone text)
refused_taken ((other, WasDelivered) ∷ gone) text = refused_taken gone text
refused_taken ((other, IsInHand) ∷ gone) text = refused_taken gone text

-- it was dropped
pub hand_dropped : (gone : List (List ℕ × Fate)) (text : List ℕ) → in_hand_of (gone ++ (text, WasDropped) ∷ []) ≡ in_hand_of gone
hand_dropped [] text = refl
hand_dropped ((other, WasDropped) ∷ gone) text = hand_dropped gone text
hand_dropped ((other, WasRefused) ∷ gone) text = hand_dropped gone text
hand_dropped ((other, WasDelivered) ∷ gone) text = hand_dropped gone text
hand_dropped ((other, IsInHand) ∷ gone) text = ap (λ (l : List (List ℕ)). other ∷ l) (hand_dropped gone text)

pub dropped_dropped : (gone : List (List ℕ × Fate)) (text : List ℕ) → dropped_of (gone ++ (text, WasDropped) ∷ []) ≡ dropped_of gone + 1
dropped_dropped [] text = refl
dropped_dropped ((other, WasDropped) ∷ gone) text = ap (λ (n : ℕ). n + 1) (dropped_dropped gone text)
dropped_dropped ((other, WasRefused) ∷ gone) text = dropped_dropped gone text
dropped_dropped ((other, WasDelivered) ∷ gone) text = dropped_dropped gone text
dropped_dropped ((other, IsInHand) ∷ gone) text = dropped_dropped gone text

pub refused_dropped : (gone : List (List ℕ × Fate)) (text : List ℕ) → refused_of (gone ++ (text, WasDropped) ∷ []) ≡ refused_of gone
refused_dropped [] text = refl
refused_dropped ((other, WasDropped) ∷ gone) text = refused_dropped gone text
refused_dropped ((other, WasRefused) ∷ gone) text = ap (λ (n : ℕ). n + 1) (refused_dropped gone text)
refused_dropped ((other, WasDelivered) ∷ gone) text = refused_dropped gone text
refused_dropped ((other, IsInHand) ∷ gone) text = refused_dropped gone text

-- those in hand are done, with this fate
abbrev pub ended : Fate → List (List ℕ × Fate) → List (List ℕ × Fate)
ended fate [] = []
ended fate ((text, WasDropped) ∷ gone) = (text, WasDropped) ∷ ended fate gone
ended fate ((text, WasRefused) ∷ gone) = (text, WasRefused) ∷ ended fate gone
ended fate ((text, WasDelivered) ∷ gone) = (text, WasDelivered) ∷ ended fate gone
ended fate ((text, IsInHand) ∷ gone) = (text, fate) ∷ ended fate gone

pub texts_ended : (fate : Fate) (gone : List (List ℕ × Fate)) → map (λ g. g.0) gone ≡ map (λ g. g.0) (ended fate gone)
texts_ended fate [] = refl
texts_ended fate ((text, WasDropped) ∷ gone) = ap (λ (l : List (List ℕ)). text ∷ l) (texts_ended fate gone)
texts_ended fate ((text, WasRefused) ∷ gone) = ap (λ (l : List (List ℕ)). text ∷ l) (texts_ended fate gone)
texts_ended fate ((text, WasDelivered) ∷ gone) = ap (λ (l : List (List ℕ)). text ∷ l) (texts_ended fate gone)
texts_ended fate ((text, IsInHand) ∷ gone) = ap (λ (l : List (List ℕ)). text ∷ l) (texts_ended fate gone)

-- they were delivered
pub hand_delivered : (gone : List (List ℕ × Fate)) → in_hand_of (ended WasDelivered gone) ≡ []
hand_delivered [] = refl
hand_delivered ((text, WasDropped) ∷ gone) = hand_delivered gone
hand_delivered ((text, WasRefused) ∷ gone) = hand_delivered gone
hand_delivered ((text, WasDelivered) ∷ gone) = hand_delivered gone
hand_delivered ((text, IsInHand) ∷ gone) = hand_delivered gone

pub dropped_delivered : (gone : List (List ℕ × Fate)) → dropped_of (ended WasDelivered gone) ≡ dropped_of gone
dropped_delivered [] = refl
dropped_delivered ((text, WasDropped) ∷ gone) = ap (λ (n : ℕ). n + 1) (dropped_delivered gone)
dropped_delivered ((text, WasRefused) ∷ gone) = dropped_delivered gone
dropped_delivered ((text, WasDelivered) ∷ gone) = dropped_delivered gone
dropped_delivered ((text, IsInHand) ∷ gone) = dropped_delivered gone

pub refused_delivered : (gone : List (List ℕ × Fate)) → refused_of (ended WasDelivered gone) ≡ refused_of gone
refused_delivered [] = refl
refused_delivered ((text, WasDropped) ∷ gone) = refused_delivered gone
refused_delivered ((text, WasRefused) ∷ gone) = ap (λ (n : ℕ). n + 1) (refused_delivered gone)
refused_delivered ((text, WasDelivered) ∷ gone) = refused_delivered gone
refused_delivered ((text, IsInHand) ∷ gone) = refused_delivered gone

-- they were refused
pub hand_refused : (gone : List (List ℕ × Fate)) → in_hand_of (ended WasRefused gone) ≡ []
hand_refused [] = refl
hand_refused ((text, WasDropped) ∷ gone) = hand_refused gone
hand_refused ((text, WasRefused) ∷ gone) = hand_refused gone
hand_refused ((text, WasDelivered) ∷ gone) = hand_refused gone
hand_refused ((text, IsInHand) ∷ gone) = hand_refused gone

pub dropped_refused : (gone : List (List ℕ × Fate)) → dropped_of (ended WasRefused gone) ≡ dropped_of gone
dropped_refused [] = refl
dropped_refused ((text, WasDropped) ∷ gone) = ap (λ (n : ℕ). n + 1) (dropped_refused gone)
dropped_refused ((text, WasRefused) ∷ gone) = dropped_refused gone
dropped_refused ((text, WasDelivered) ∷ gone) = dropped_refused gone
dropped_refused ((text, IsInHand) ∷ gone) = dropped_refused gone

pub refused_refused : (gone : List (List ℕ × Fate)) → refused_of (ended WasRefused gone) ≡ refused_of gone + length (in_hand_of gone)
refused_refused [] = refl
refused_refused ((text, WasDropped) ∷ gone) = refused_refused gone
refused_refused ((text, WasRefused) ∷ gone) = omega (arith, refused_refused gone)
refused_refused ((text, WasDelivered) ∷ gone) = refused_refused gone
refused_refused ((text, IsInHand) ∷ gone) = omega (arith, refused_refused gone)
