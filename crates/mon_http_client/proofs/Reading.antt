-- What octets come to: step by step, at most one thing, and the same however they are cut.
use native.Mathlib.Omega.{arith}
use Rattle.std.proofs.Common.{◌≡◌, ◌≢◌, ◌≤◌, ◌<◌, ◌+◌, ◌-◌, ◌⊎◌, inl, inr, ◌∙◌, ap, sym, subst, refl, ℕ, false, List, [], ◌∷◌, ◌++◌, Option, Some, None, length, take, drop, take_all}
use Rattle.std.proofs.lemmas.List.{append-nil, drop-drop, length-drop, length-take, take-append-le, drop-append-le}
use Rattle.std.proofs.Math.Seq.{take-append-add}
use Rattle.mon_http_client.specs.declared.response.Head.{Head}
use Rattle.mon_http_client.specs.declared.response.Progress.{Progress}
use Rattle.mon_http_client.specs.declared.response.Progress.TheVariants.{More, Response, Refused}
use Rattle.mon_http_client.specs.Front.{head_length}
use Rattle.mon_http_client.specs.Response.{IsBad, IsInterim, IsFinal, IsHead, IsProgress, ReadsFrom, waits, overflows, fails, ends, goes_on}
use Rattle.mon_http_client.proofs.Fronts.{head_append, head_within}
use Rattle.mon_http_client.proofs.Heads.{one_status}

-- a head among octets, by its places
range_head : (seen : List ℕ) (past n : ℕ) → take (past + n - past) (drop past seen) ≡ take n (drop past seen)
range_head seen past n = let same : past + n - past ≡ n = omega arith in ap (λ (k : ℕ). take k (drop past seen)) same

pub head_is : (seen : List ℕ) (past n : ℕ) (h k : Head) → IsHead (take (past + n - past) (drop past seen)) h → h ≡ k
    → IsHead (take n (drop past seen)) k
head_is seen past n h k x e =
    subst (λ (j : Head). IsHead (take n (drop past seen)) j) e
    (subst (λ (s : List ℕ). IsHead s h) (range_head seen past n) x)

-- where the head ends that begins at this place
pub end_is : (seen : List ℕ) (past : ℕ) (o p : Option ℕ) → o ≡ head_length false (take (length seen - past) (drop past seen))
    → o ≡ p → head_length false (drop past seen) ≡ p
end_is seen past o p e f =
    let all : take (length seen - past) (drop past seen) ≡ drop past seen =
    take_all (length seen - past) (drop past seen) (omega (arith, length-drop past seen)) in
    ap (head_length false) (sym all) ∙ sym e ∙ f

pub no_end : (o : Option ℕ) → ((n : ℕ) → o ≡ Some n → ⊥) → o ≡ None
no_end None never = refl
no_end (Some n) never = absurd (never n refl)

-- whatever the octets from this place on come to, all come to
abbrev pub Leads : List ℕ → ℕ → Type 0
Leads seen past = (p : Progress) → ReadsFrom past (drop past seen) p → ReadsFrom 0 seen p

-- behind an interim response
pub after_interim : (seen : List ℕ) (past n : ℕ) → past ≤ length seen → head_length false (drop past seen) ≡ Some n
    → IsInterim (take n (drop past seen)) → Leads seen past → (past + n ≤ length seen) × Leads seen (past + n)
after_interim seen past n here e interim leads = (
  omega (arith, (head_within false (drop past seen) n e).0, length-drop past seen),
  λ p x. leads p (goes_on past (drop past seen) n p e interim
      (subst (λ (s : List ℕ). ReadsFrom (past + n) s p) (sym (drop-drop n past seen)) x)),
)

-- the octets that are looked at
pub looked_at : (octets : List ℕ) (m : ℕ) → m ≤ 8192 → (length octets ≤ m) ⊎ (m ≡ 8192) → take m octets ≡ take 8192 octets
looked_at octets m low (inl all) = take_all m octets all ∙ sym (take_all 8192 octets (omega arith))
looked_at octets m low (inr same) = ap (λ (k : ℕ). take k octets) same

module _ (past : ℕ) (octets : List ℕ) where
  -- what octets come to, by where their first head ends and what it is
  if_none : (p : Progress) → head_length false octets ≡ None → past + length octets < 8192 → ReadsFrom past octets p → p ≡ More
  if_none p none low (waits _ _ e f) = refl
  if_none p none low (overflows _ _ e f) = absurd (omega arith)
  if_none p none low (fails _ _ n e bad) = let both : None ≡ Some n = sym none ∙ e in cc
  if_none p none low (ends _ _ n s e x) = let both : None ≡ Some n = sym none ∙ e in cc
  if_none p none low (goes_on _ _ n _ e i x) = let both : None ≡ Some n = sym none ∙ e in cc

  if_full : (p : Progress) → head_length false octets ≡ None → 8192 ≤ past + length octets → ReadsFrom past octets p → p ≡ Refused
  if_full p none high (waits _ _ e f) = absurd (omega arith)
  if_full p none high (overflows _ _ e f) = refl
  if_full p none high (fails _ _ n e bad) = refl
  if_full p none high (ends _ _ n s e x) = let both : None ≡ Some n = sym none ∙ e in cc
  if_full p none high (goes_on _ _ n _ e i x) = let both : None ≡ Some n = sym none ∙ e in cc

  some_same : (n m : ℕ) → head_length false octets ≡ Some n → head_length false octets ≡ Some m → n ≡ m
  some_same n m e f = let both : Some n ≡ Some m = sym e ∙ f in cc

  one_head : (P : List ℕ → Type 0) (n m : ℕ) → head_length false octets ≡ Some n → head_length false octets ≡ Some m
      → P (take m octets) → P (take n octets)
  one_head P n m e f x = subst (λ (k : ℕ). P (take k octets)) (sym (some_same n m e f)) x

  -- a head is not of two kinds
  not_bad_final : (head : List ℕ) (s : ℕ) → IsBad head → IsFinal head s → ⊥
  not_bad_final head s bad (has, low, high) = out (bad s has)
    where
      out : (s < 100) ⊎ (599 < s) → ⊥
      out (inl few) = absurd (omega arith)
      out (inr many) = absurd (omega arith)

  not_bad_interim : (head : List ℕ) → IsBad head → IsInterim head → ⊥
  not_bad_interim head bad (s, has, low, high) = out (bad s has)
    where
      out : (s < 100) ⊎ (599 < s) → ⊥
      out (inl few) = absurd (omega arith)
      out (inr many) = absurd (omega arith)

  not_interim_final : (head : List ℕ) (s : ℕ) → IsInterim head → IsFinal head s → ⊥
  not_interim_final head s (t, has, low, high) (final, from, to) =
      let same : t ≡ s = one_status head t s has final in absurd (omega arith)

  if_bad : (p : Progress) (n : ℕ) → head_length false octets ≡ Some n → IsBad (take n octets) → ReadsFrom past octets p → p ≡ Refused
  if_bad p n some bad (waits _ _ e f) = let both : None ≡ Some n = sym e ∙ some in cc
  if_bad p n some bad (overflows _ _ e f) = refl
  if_bad p n some bad (fails _ _ m e x) = refl
  if_bad p n some bad (ends _ _ m s e x) = absurd (not_bad_final (take n octets) s bad (one_head (λ h. IsFinal h s) n m some e x))
  if_bad p n some bad (goes_on _ _ m _ e i x) = absurd (not_bad_interim (take n octets) bad (one_head IsInterim n m some e i))

  if_final : (p : Progress) (n s : ℕ) → head_length false octets ≡ Some n → IsFinal (take n octets) s → ReadsFrom past octets p
      → p ≡ Response s (past + n)
  if_final p n s some final (waits _ _ e f) = let both : None ≡ Some n = sym e ∙ some in cc
  if_final p n s some final (overflows _ _ e f) = let both : None ≡ Some n = sym e ∙ some in cc
  if_final p n s some final (fails _ _ m e x) = absurd (not_bad_final (take n octets) s (one_head IsBad n m some e x) final)
  if_final p n s some final (ends _ _ m t e x) =
      let same : t ≡ s = one_status (take n octets) t s (one_head (λ h. IsFinal h t) n m some e x).0 final.0 in
      ap (λ (k : ℕ). Response k (past + m)) same ∙ ap (λ (k : ℕ). Response s (past + k)) (some_same m n e some)
  if_final p n s some final (goes_on _ _ m _ e i x) =
      absurd (not_interim_final (take n octets) s (one_head IsInterim n m some e i) final)

  if_interim : (p : Progress) (n : ℕ) → head_length false octets ≡ Some n → IsInterim (take n octets) → ReadsFrom past octets p
      → ReadsFrom (past + n) (drop n octets) p
  if_interim p n some interim (waits _ _ e f) = let both : None ≡ Some n = sym e ∙ some in cc
  if_interim p n some interim (overflows _ _ e f) = let both : None ≡ Some n = sym e ∙ some in cc
  if_interim p n some interim (fails _ _ m e x) = absurd (not_bad_interim (take n octets) (one_head IsBad n m some e x) interim)
  if_interim p n some interim (ends _ _ m s e x) =
      absurd (not_interim_final (take n octets) s interim (one_head (λ h. IsFinal h s) n m some e x))
  if_interim p n some interim (goes_on _ _ m _ e i x) =
      subst (λ (k : ℕ). ReadsFrom (past + k) (drop k octets) p) (some_same m n e some) x

-- octets come to one thing
reads_one : (past : ℕ) (octets : List ℕ) (p q : Progress) → ReadsFrom past octets p → ReadsFrom past octets q → p ≡ q
reads_one past octets p q (waits _ _ e f) y = sym (if_none past octets q e f y)
reads_one past octets p q (overflows _ _ e f) y = sym (if_full past octets q e f y)
reads_one past octets p q (fails _ _ n e x) y = sym (if_bad past octets q n e x y)
reads_one past octets p q (ends _ _ n s e x) y = sym (if_final past octets q n s e x y)
reads_one past octets p q (goes_on _ _ n _ e i x) y =
    reads_one (past + n) (drop n octets) p q x (if_interim past octets q n e i y)

pub one_verdict : (octets : List ℕ) (p q : Progress) → IsProgress octets p → IsProgress octets q → p ≡ q
one_verdict octets p q x y = reads_one 0 (take 8192 octets) p q x y

-- more octets change nothing, once it is not that more are needed
reads_more : (past : ℕ) (octets more : List ℕ) (p : Progress) → past + length octets + length more ≤ 8192 → p ≢ More
    → ReadsFrom past octets p → ReadsFrom past (octets ++ more) p
reads_more past octets more p fits done (waits _ _ e f) = absurd (done refl)
reads_more past octets more p fits done (overflows _ _ e f) =
    subst (λ (s : List ℕ). ReadsFrom past s Refused) (none more (omega arith)) (overflows past octets e f)
  where
    none : (more : List ℕ) → length more ≡ 0 → octets ≡ octets ++ more
    none [] e = sym (append-nil octets)
    none (x ∷ more) e = absurd (omega arith)
reads_more past octets more p fits done (fails _ _ n e x) =
    let within = (head_within false octets n e).0 in
    fails past (octets ++ more) n (head_append false octets more n e)
    (subst IsBad (sym (take-append-le n octets more within)) x)
reads_more past octets more p fits done (ends _ _ n s e x) =
    let within = (head_within false octets n e).0 in
    ends past (octets ++ more) n s (head_append false octets more n e)
    (subst (λ (h : List ℕ). IsFinal h s) (sym (take-append-le n octets more within)) x)
reads_more past octets more p fits done (goes_on _ _ n _ e i x) =
    let within : n ≤ length octets = (head_within false octets n e).0 in
    goes_on past (octets ++ more) n p (head_append false octets more n e)
    (subst IsInterim (sym (take-append-le n octets more within)) i)
    (subst (λ (s : List ℕ). ReadsFrom (past + n) s p) (sym (drop-append-le n octets more within))
    (reads_more (past + n) (drop n octets) more p (omega (arith, length-drop n octets)) done x))

-- the first of more octets are the first of these, and some of those that follow
first_more : (octets more : List ℕ) → (length octets ≤ 8192) ⊎ (8192 < length octets)
    → (rest : List ℕ) × (take 8192 (octets ++ more) ≡ take 8192 octets ++ rest) × (length (take 8192 octets) + length rest ≤ 8192)
first_more octets more (inl short) =
    let all : take 8192 octets ≡ octets = take_all 8192 octets short in
    let split : 8192 ≡ length octets + (8192 - length octets) = omega arith in (
      take (8192 - length octets) more,
      ap (λ (k : ℕ). take k (octets ++ more)) split ∙ take-append-add octets more (8192 - length octets)
          ∙ ap (λ (s : List ℕ). s ++ take (8192 - length octets) more) (sym all),
      omega (arith, ap length all, length-take (8192 - length octets) more),
    )
first_more octets more (inr long) = (
  [],
  take-append-le 8192 octets more (omega arith) ∙ sym (append-nil (take 8192 octets)),
  omega (arith, length-take 8192 octets),
)

cases_le : (a b : ℕ) → (a ≤ b) ⊎ (b < a)
cases_le a b = grind arith

pub settled : (octets more : List ℕ) (p : Progress) → p ≢ More → IsProgress octets p → IsProgress (octets ++ more) p
settled octets more p done x =
    let (rest, same, fits) = first_more octets more (cases_le (length octets) 8192) in
    subst (λ (s : List ℕ). ReadsFrom 0 s p) (sym same) (reads_more 0 (take 8192 octets) rest p (omega arith) done x)

pub same : (octets more : List ℕ) (p q : Progress) → p ≢ More → IsProgress octets p → IsProgress (octets ++ more) q → p ≡ q
same octets more p q done x y = one_verdict (octets ++ more) p q (settled octets more p done x) y
