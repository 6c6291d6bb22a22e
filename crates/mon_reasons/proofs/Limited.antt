-- What is kept of datagrams of which one address may have only a number.
use Rattle.std.proofs.Common.{◌≡◌, ℕ, zero, suc, ◌-◌, Bool, true, false, List, [], ◌∷◌, take, refl, sym, ap, ◌∙◌, arith}
use Rattle.std.specs.Prelude.{if◌then◌else◌, not}
use Rattle.mon_udp.specs.Addr.{same_addr}
use Rattle.mon_udp.specs.declared.addr.Addr.{Addr}
use Rattle.mon_reasons.specs.NewestDatagrams.{datagrams_of, if_any, newest_of, other_datagrams}
use Rattle.mon_reasons.specs.declared.newest_datagrams.Datagram.{Datagram}

module _ (from : Addr) where
  -- one of another address stays
  other_is : (n : ℕ) (d : Datagram) (ds : List Datagram) → same_addr d.from from ≡ false → newest_of from n (d ∷ ds) ≡ d ∷ newest_of from n ds
  other_is n d ds is = ap (λ b. if b then if_any n d (newest_of from (n - 1) ds) else d ∷ newest_of from n ds) is

  -- one of this address stays if one may be kept
  own_is : (n : ℕ) (d : Datagram) (ds : List Datagram) → same_addr d.from from ≡ true → newest_of from n (d ∷ ds) ≡ if_any n d (newest_of from (n - 1) ds)
  own_is n d ds is = ap (λ b. if b then if_any n d (newest_of from (n - 1) ds) else d ∷ newest_of from n ds) is

  -- ---- those of other addresses
  other_left : (d : Datagram) (ds : List Datagram) (b : Bool) → same_addr d.from from ≡ b → other_datagrams from (d ∷ ds) ≡ (if b then other_datagrams from ds else d ∷ other_datagrams from ds)
  other_left d ds true is = ap (λ b. if not b then d ∷ other_datagrams from ds else other_datagrams from ds) is
  other_left d ds false is = ap (λ b. if not b then d ∷ other_datagrams from ds else other_datagrams from ds) is

  any_other : (n : ℕ) (d : Datagram) (ds : List Datagram) → same_addr d.from from ≡ true → other_datagrams from (if_any n d ds) ≡ other_datagrams from ds
  any_other zero d ds is = refl
  any_other (suc n) d ds is = other_left d ds true is

  other_step : (n : ℕ) (d : Datagram) (ds : List Datagram) (b : Bool) → same_addr d.from from ≡ b → other_datagrams from (newest_of from (n - 1) ds) ≡ other_datagrams from ds
      → other_datagrams from (newest_of from n ds) ≡ other_datagrams from ds → other_datagrams from (newest_of from n (d ∷ ds)) ≡ other_datagrams from (d ∷ ds)
  other_step n d ds true is less same =
      ap (other_datagrams from) (own_is n d ds is) ∙ any_other n d (newest_of from (n - 1) ds) is ∙ less ∙ sym (other_left d ds true is)
  other_step n d ds false is less same =
      ap (other_datagrams from) (other_is n d ds is) ∙ other_left d (newest_of from n ds) false is ∙ ap (λ l. d ∷ l) same ∙ sym (other_left d ds false is)

  pub others_stay : (n : ℕ) (ds : List Datagram) → other_datagrams from (newest_of from n ds) ≡ other_datagrams from ds
  others_stay n [] = refl
  others_stay n (d ∷ ds) = other_step n d ds (same_addr d.from from) refl (others_stay (n - 1) ds) (others_stay n ds)

  -- ---- those of this address
  own_left : (d : Datagram) (ds : List Datagram) (b : Bool) → same_addr d.from from ≡ b → datagrams_of from (d ∷ ds) ≡ (if b then d ∷ datagrams_of from ds else datagrams_of from ds)
  own_left d ds b is = ap (λ b. if b then d ∷ datagrams_of from ds else datagrams_of from ds) is

  none_step : (d : Datagram) (ds : List Datagram) (b : Bool) → same_addr d.from from ≡ b → datagrams_of from (newest_of from 0 ds) ≡ [] → datagrams_of from (newest_of from 0 (d ∷ ds)) ≡ []
  none_step d ds true is none = ap (datagrams_of from) (own_is 0 d ds is) ∙ none
  none_step d ds false is none = ap (datagrams_of from) (other_is 0 d ds is) ∙ own_left d (newest_of from 0 ds) false is ∙ none

  none_own : (ds : List Datagram) → datagrams_of from (newest_of from 0 ds) ≡ []
  none_own [] = refl
  none_own (d ∷ ds) = none_step d ds (same_addr d.from from) refl (none_own ds)

  own_step : (n : ℕ) (d : Datagram) (ds : List Datagram) (b : Bool) → same_addr d.from from ≡ b → datagrams_of from (newest_of from n ds) ≡ take n (datagrams_of from ds)
      → datagrams_of from (newest_of from (suc n) ds) ≡ take (suc n) (datagrams_of from ds)
      → datagrams_of from (newest_of from (suc n) (d ∷ ds)) ≡ take (suc n) (datagrams_of from (d ∷ ds))
  own_step n d ds true is less same =
      let one : suc n - 1 ≡ n = omega arith in
      ap (datagrams_of from) (own_is (suc n) d ds is) ∙ own_left d (newest_of from (suc n - 1) ds) true is
      ∙ ap (λ k. d ∷ datagrams_of from (newest_of from k ds)) one ∙ ap (λ l. d ∷ l) less ∙ ap (take (suc n)) (sym (own_left d ds true is))
  own_step n d ds false is less same =
      ap (datagrams_of from) (other_is (suc n) d ds is) ∙ own_left d (newest_of from (suc n) ds) false is ∙ same ∙ ap (take (suc n)) (sym (own_left d ds false is))

  pub newest_own : (n : ℕ) (ds : List Datagram) → datagrams_of from (newest_of from n ds) ≡ take n (datagrams_of from ds)
  newest_own zero ds = none_own ds
  newest_own (suc n) [] = refl
  newest_own (suc n) (d ∷ ds) = own_step n d ds (same_addr d.from from) refl (newest_own n ds) (newest_own (suc n) ds)
