-- What reading a tree gives is what the text says.
use Rattle.std.proofs.Common.{◌≡◌, ◌↔◌, ℕ, List, Some, None, Result, Ok, Err, IfErr, refl, sym, ap, ◌∙◌, inl, inr}
use Rattle.toml.specs.Data.{Members}
use Rattle.toml.specs.Parse.{parse_document}
use Rattle.mon_settings.specs.declared.fault.SettingsFault.{SettingsFault}
use Rattle.mon_settings.specs.declared.fault.SettingsFault.TheVariants as fault
use Rattle.mon_settings.specs.Keys.{Reads}
use Rattle.mon_settings.specs.Text.{Says, IsReadAs, IsUnread, IsRefusal}

not_both : {A : Type 0} (r : Result A SettingsFault) (e : SettingsFault) (a : A) → r ≡ Err e → r ≡ Ok a → ⊥
not_both {A} r e a bad good = let clash : (let x : Result A SettingsFault = Err e in x) ≡ Ok a = sym bad ∙ good in absurd cc

module _ {T A : Type 0} (view : T → A) (first : Members → Result A SettingsFault) (text : List ℕ) where
  module _ (t : Members) (there : parse_document text ≡ Some t) where
    pub said : (Is : Members → A → Type 0) → ((u : Members) (a : A) → (first u ≡ Ok a) ↔ Is u a) → (r : Result T SettingsFault) → Reads view (first t) r → IsReadAs view (Says Is text) r
    said Is same (Ok x) h = (t, there, (same t (view x)).0 h)
    said Is same (Err e) (inl memory) = inl memory
    said Is same (Err e) (inr bad) =
        inr (λ a held.
        let (u, found, is) = held in
        let one : u ≡ t = cc in
        not_both (first t) e a bad (ap first (sym one) ∙ (same u a).1 is))

    pub refused : ((at : ℕ) → first t ≡ Err (fault.NotToml at) → ⊥) → (r : Result T SettingsFault) → Reads view (first t) r → IfErr r (IsRefusal first text)
    refused toml (Ok x) h = tt
    refused toml (Err fault.OutOfMemory) h = tt
    refused toml (Err (fault.NotToml at)) (inl memory) = absurd cc
    refused toml (Err (fault.NotToml at)) (inr bad) = absurd (toml at bad)
    refused toml (Err (fault.Missing p)) (inl memory) = absurd cc
    refused toml (Err (fault.Missing p)) (inr bad) = (t, there, bad)
    refused toml (Err (fault.BadValue p)) (inl memory) = absurd cc
    refused toml (Err (fault.BadValue p)) (inr bad) = (t, there, bad)
    refused toml (Err (fault.UnknownKey p)) (inl memory) = absurd cc
    refused toml (Err (fault.UnknownKey p)) (inr bad) = (t, there, bad)
    refused toml (Err (fault.UnknownObject p)) (inl memory) = absurd cc
    refused toml (Err (fault.UnknownObject p)) (inr bad) = (t, there, bad)

  -- a text without a tree
  pub unsaid : (Is : Members → A → Type 0) (e : SettingsFault) → IsUnread text e → IsReadAs view (Says Is text) (Err e)
  unsaid Is fault.OutOfMemory h = inl refl
  unsaid Is (fault.NotToml at) h =
      inr (λ a held.
      let (u, found, is) = held in
      let none : None ≡ Some u = sym h.0 ∙ found in
      absurd cc)
  unsaid Is (fault.Missing p) h = absurd h
  unsaid Is (fault.BadValue p) h = absurd h
  unsaid Is (fault.UnknownKey p) h = absurd h
  unsaid Is (fault.UnknownObject p) h = absurd h

  pub unread : (e : SettingsFault) → IsUnread text e → IsRefusal first text e
  unread fault.OutOfMemory h = tt
  unread (fault.NotToml at) h = h
  unread (fault.Missing p) h = absurd h
  unread (fault.BadValue p) h = absurd h
  unread (fault.UnknownKey p) h = absurd h
  unread (fault.UnknownObject p) h = absurd h
