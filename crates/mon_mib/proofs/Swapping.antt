-- Changes of different things can be made in either order, and a change is undone by its undoing.
use Rattle.std.proofs.Common.{zero, suc, ◌≡◌, ℕ, Bool, true, false, cond, List, [], ◌∷◌, ◌++◌, refl, sym, ◌∙◌, ap, arith}
use Rattle.std.proofs.Math.Path.{fun_ext}
use Rattle.std.specs.Prelude.{All, nat_eq}
use Rattle.std.proofs.lemmas.Bool.{false≢true, eqb-true}
use Rattle.std.proofs.lemmas.Bool.Decides.{nat_tests}
use Rattle.mon_mib.specs.declared.change.Change.{Change}
use Rattle.mon_mib.specs.declared.change.Change.TheVariants as set
use Rattle.mon_mib.specs.declared.status.Status.{Status}
use Rattle.mon_mib.specs.declared.facts.SysText.{SysText}
use Rattle.mon_mib.specs.declared.facts.SysText.TheVariants.{Contact, SystemName, Location}
use Rattle.mon_mib.specs.declared.planned_change.PlannedChange.{PlannedChange}
use Rattle.mon_mib.specs.Change.{changed, undoing, same_target, same_text, put}
use Rattle.mon_mib.specs.Commit.{changes}
use Rattle.mon_mib.specs.Held.{Held}

-- ---- at places

pub text_is : (a b : SysText) → same_text a b ≡ true → a ≡ b
text_is Contact Contact e = refl
text_is Contact SystemName e = cc
text_is Contact Location e = cc
text_is SystemName Contact e = cc
text_is SystemName SystemName e = refl
text_is SystemName Location e = cc
text_is Location Contact e = cc
text_is Location SystemName e = cc
text_is Location Location e = refl

text_itself : (a : SysText) → same_text a a ≡ true
text_itself Contact = refl
text_itself SystemName = refl
text_itself Location = refl

text_turned : (a b : SysText) → same_text a b ≡ same_text b a
text_turned Contact Contact = refl
text_turned Contact SystemName = refl
text_turned Contact Location = refl
text_turned SystemName Contact = refl
text_turned SystemName SystemName = refl
text_turned SystemName Location = refl
text_turned Location Contact = refl
text_turned Location SystemName = refl
text_turned Location Location = refl

index_itself : (n : ℕ) → nat_eq n n ≡ true
index_itself n = grind (arith, nat_tests)

index_turned : (a b : ℕ) → nat_eq a b ≡ nat_eq b a
index_turned a b = grind (arith, nat_tests)

-- a test that decides whether two places are one
pub record Tells {K : Type 0} (same : K → K → Bool) : Type 0 where
  pub is : (a b : K) → same a b ≡ true → a ≡ b
  pub itself : (a : K) → same a a ≡ true
  pub turned : (a b : K) → same a b ≡ same b a

texts : Tells same_text
texts = record { is = text_is; itself = text_itself; turned = text_turned }

indexes : Tells nat_eq
indexes = record { is = λ a b e. eqb-true a b e; itself = index_itself; turned = index_turned }

module _ {K V : Type 0} (same : K → K → Bool) (tells : Tells same) where
  both_ways : (a b : K) (v w : V) (f : K → V) → same a b ≡ false → put same a v (put same b w f) ≡ put same b w (put same a v f)
  both_ways a b v w f other = fun_ext (λ k. by_tests k (same a k) (same b k) refl refl)
    where
      by_tests : (k : K) (s t : Bool) → same a k ≡ s → same b k ≡ t → cond s v (cond t w (f k)) ≡ cond t w (cond s v (f k))
      by_tests k true true d e = absurd (false≢true (sym other ∙ (ap (same a) (tells.is b k e) ∙ d)))
      by_tests k true false d e = refl
      by_tests k false t d e = refl

  put_back : (a : K) (v : V) (f : K → V) → put same a (f a) (put same a v f) ≡ f
  put_back a v f = fun_ext (λ k. by_test k (same a k) refl)
    where
      by_test : (k : K) (s : Bool) → same a k ≡ s → cond s (f a) (cond s v (f k)) ≡ f k
      by_test k true e = ap f (tells.is a k e)
      by_test k false e = refl

  elsewhere : (a b : K) (v : V) (f : K → V) → same a b ≡ false → put same b v f a ≡ f a
  elsewhere a b v f other = ap (λ t. cond t v (f a)) (sym (tells.turned a b) ∙ other)

-- ---- of changes

pub swapped : (c d : Change) (h : Held) → same_target c d ≡ false → changed c (changed d h) ≡ changed d (changed c h)
swapped (set.SysText a text) (set.SysText b other) h apart =
    ap (λ (f : SysText → List ℕ). record h { sys_text = f }) (both_ways same_text texts a b text other h.sys_text apart)
swapped (set.SysText a text) (set.Admin j t m) h apart = refl
swapped (set.SysText a text) (set.Alias j other) h apart = refl
swapped (set.Admin i s n) (set.SysText b other) h apart = refl
swapped (set.Admin i s n) (set.Admin j t m) h apart =
    ap (λ (f : ℕ → Status). record h { status = f }) (both_ways nat_eq indexes i j (record { admin = s; since = n }) (record { admin = t; since = m }) h.status apart)
swapped (set.Admin i s n) (set.Alias j other) h apart = refl
swapped (set.Alias i text) (set.SysText b other) h apart = refl
swapped (set.Alias i text) (set.Admin j t m) h apart = refl
swapped (set.Alias i text) (set.Alias j other) h apart =
    ap (λ (f : ℕ → List ℕ). record h { alias = f }) (both_ways nat_eq indexes i j text other h.alias apart)

pub undone : (c : Change) (h : Held) → changed (undoing c h) (changed c h) ≡ h
undone (set.SysText a text) h = ap (λ (f : SysText → List ℕ). record h { sys_text = f }) (put_back same_text texts a text h.sys_text)
undone (set.Admin i s n) h = ap (λ (f : ℕ → Status). record h { status = f }) (put_back nat_eq indexes i (record { admin = s; since = n }) h.status)
undone (set.Alias i text) h = ap (λ (f : ℕ → List ℕ). record h { alias = f }) (put_back nat_eq indexes i text h.alias)

pub same_undoing : (c d : Change) (h : Held) → same_target c d ≡ false → undoing c (changed d h) ≡ undoing c h
same_undoing (set.SysText a text) (set.SysText b other) h apart = ap (λ t. set.SysText a t) (elsewhere same_text texts a b other h.sys_text apart)
same_undoing (set.SysText a text) (set.Admin j t m) h apart = refl
same_undoing (set.SysText a text) (set.Alias j other) h apart = refl
same_undoing (set.Admin i s n) (set.SysText b other) h apart = refl
same_undoing (set.Admin i s n) (set.Admin j t m) h apart =
    ap (λ (z : Status). set.Admin i z.admin z.since) (elsewhere nat_eq indexes i j (record { admin = t; since = m }) h.status apart)
same_undoing (set.Admin i s n) (set.Alias j other) h apart = refl
same_undoing (set.Alias i text) (set.SysText b other) h apart = refl
same_undoing (set.Alias i text) (set.Admin j t m) h apart = refl
same_undoing (set.Alias i text) (set.Alias j other) h apart = ap (λ t. set.Alias i t) (elsewhere nat_eq indexes i j other h.alias apart)

pub same_place : (c d : Change) (h : Held) → same_target (undoing c h) d ≡ same_target c d
same_place (set.SysText a text) (set.SysText b other) h = refl
same_place (set.SysText a text) (set.Admin j t m) h = refl
same_place (set.SysText a text) (set.Alias j other) h = refl
same_place (set.Admin i s n) (set.SysText b other) h = refl
same_place (set.Admin i s n) (set.Admin j t m) h = refl
same_place (set.Admin i s n) (set.Alias j other) h = refl
same_place (set.Alias i text) (set.SysText b other) h = refl
same_place (set.Alias i text) (set.Admin j t m) h = refl
same_place (set.Alias i text) (set.Alias j other) h = refl

pub turned : (c d : Change) → same_target c d ≡ same_target d c
turned (set.SysText a text) (set.SysText b other) = text_turned a b
turned (set.SysText a text) (set.Admin j t m) = refl
turned (set.SysText a text) (set.Alias j other) = refl
turned (set.Admin i s n) (set.SysText b other) = refl
turned (set.Admin i s n) (set.Admin j t m) = index_turned i j
turned (set.Admin i s n) (set.Alias j other) = refl
turned (set.Alias i text) (set.SysText b other) = refl
turned (set.Alias i text) (set.Admin j t m) = refl
turned (set.Alias i text) (set.Alias j other) = index_turned i j

-- ---- over lists of assignments

abbrev pub IsClear : Change → List PlannedChange → Type 0
IsClear c steps = All (λ s. same_target c s.change ≡ false) steps

tail_clear : (c : Change) (s : PlannedChange) (ss : List PlannedChange) → IsClear c (s ∷ ss) → IsClear c ss
tail_clear c s ss clear k d lt = clear (suc k) d (omega arith)

pub through : (c : Change) (ss : List PlannedChange) (h : Held) → IsClear c ss → changed c (changes ss h) ≡ changes ss (changed c h)
through c [] h clear = refl
through c (s ∷ ss) h clear =
    through c ss (changed s.change h) (tail_clear c s ss clear) ∙ ap (changes ss) (swapped c s.change h (clear zero s (omega arith)))

pub undoing_through : (c : Change) (ss : List PlannedChange) (h : Held) → IsClear c ss → undoing c (changes ss h) ≡ undoing c h
undoing_through c [] h clear = refl
undoing_through c (s ∷ ss) h clear =
    undoing_through c ss (changed s.change h) (tail_clear c s ss clear) ∙ same_undoing c s.change h (clear zero s (omega arith))

pub changes_push : (ss : List PlannedChange) (s : PlannedChange) (h : Held) → changes (ss ++ s ∷ []) h ≡ changed s.change (changes ss h)
changes_push [] s h = refl
changes_push (t ∷ ss) s h = changes_push ss s (changed t.change h)
