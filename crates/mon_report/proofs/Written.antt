-- Texts that were written one after another.
use Rattle.std.proofs.Common.{◌≡◌, ℕ, Bool, true, false, append-nil, ◌+◌, ◌-◌, List, [], ◌++◌, length, take, drop, sym, ◌∙◌, subst, arith, Option, inl, inr}
use Rattle.std.specs.Io.KnownBytes.{Appends}
use Rattle.std.proofs.KnownBytes.{Appends-trans, Appends-nil}
use Rattle.std.proofs.lemmas.List.{take_all, length-drop, take-append-le}
use Rattle.std.proofs.Math.Seq.{take-append-add}
use Rattle.std.proofs.lemmas.Bool.{cases_lt}
use Rattle.mon_report.specs.Written.{AppendsSome, AppendsIf}

-- the end of a slice
pub slice-end : (xs : List ℕ) (s : ℕ) → take (length xs - s) (drop s xs) ≡ drop s xs
slice-end xs s = let len = length-drop s xs in take_all (length xs - s) (drop s xs) (omega arith)

-- a beginning of a text is one of that text with more behind it
pub part-first : (old new : Option (List ℕ)) (xs ys : List ℕ) → AppendsSome old new xs → AppendsSome old new (xs ++ ys)
part-first old new xs ys (k, h) = elim (cases_lt (length xs) k) [
  | inl past ↦ (length xs, subst (Appends old new) (take_all k xs (omega arith) ∙ sym (take_all (length xs) xs (omega arith)) ∙ sym (take-append-le (length xs) xs ys (omega arith))) h)
  | inr within ↦ (k, subst (Appends old new) (sym (take-append-le k xs ys within)) h)
]

-- a text that was written whole, and a beginning of the next
pub part-then : (old mid new : Option (List ℕ)) (xs ys : List ℕ) → Appends old mid xs → AppendsSome mid new ys → AppendsSome old new (xs ++ ys)
part-then old mid new xs ys h (k, g) = (length xs + k, subst (Appends old new) (sym (take-append-add xs ys k)) (Appends-trans old mid new xs (take k ys) h g))

-- texts one after another
pub text-then : (a b c : Option (List ℕ)) (p q r : Bool) (xs ys : List ℕ) → AppendsIf a p b q xs → AppendsIf b q c r ys → AppendsIf a p c r (xs ++ ys)
text-then a b c true true true xs ys h g = Appends-trans a b c xs ys h g
text-then a b c true true false xs ys h g = part-then a b c xs ys h g
text-then a b c true false true xs ys h g = absurd g
text-then a b c true false false xs ys (k, h) g = part-first a c xs ys (k, subst (Appends a c) (append-nil (take k xs)) (Appends-trans a b c (take k xs) [] h g))
text-then a b c false true r xs ys h g = absurd h
text-then a b c false false true xs ys h g = absurd g
text-then a b c false false false xs ys h g = Appends-trans a b c [] [] h g

-- no text
pub text-none : (a : Option (List ℕ)) (p : Bool) → AppendsIf a p a p []
text-none a true = Appends-nil a
text-none a false = Appends-nil a

-- a text that is spelled in another way
pub text-as : (a b : Option (List ℕ)) (p q : Bool) (xs ys : List ℕ) → xs ≡ ys → AppendsIf a p b q xs → AppendsIf a p b q ys
text-as a b p q xs ys e h = subst (AppendsIf a p b q) e h
