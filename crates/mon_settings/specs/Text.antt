-- What is read from a text: exactly what it says, memory aside.
use Rattle.std.specs.Prelude.{◌≡◌, ◌⊎◌, ◌≤◌, ℕ, List, length, Some, None, Result, Ok, Err}
use Rattle.toml.specs.Data.{Members}
use Rattle.toml.specs.Parse.{parse_document}
use Rattle.mon_settings.specs.declared.fault.SettingsFault.{SettingsFault}
use Rattle.mon_settings.specs.declared.fault.SettingsFault.TheVariants as fault

-- the text is TOML, and its tree is these settings
abbrev pub Says : {A : Type 0} → (Members → A → Type 0) → List ℕ → A → Type 0
Says Is text a = (t : Members) × (parse_document text ≡ Some t) × Is t a

-- something is read exactly where it is said, and then it is that; where nothing is read, nothing
-- is said, or memory ran out
abbrev pub IsReadAs : {T A : Type 0} → (T → A) → (A → Type 0) → Result T SettingsFault → Type 0
IsReadAs view IsSaid (Ok x) = IsSaid (view x)
IsReadAs {T} {A} view IsSaid (Err e) = (e ≡ fault.OutOfMemory) ⊎ ((a : A) → ¬ (IsSaid a))

-- why a text has no tree: memory ran out, or it is not TOML, from some octet in it on
abbrev pub IsUnread : List ℕ → SettingsFault → Type 0
IsUnread text fault.OutOfMemory = Unit {0}
IsUnread text (fault.NotToml at) = (parse_document text ≡ None) × (at ≤ length text)
IsUnread text _ = ⊥

-- the text has a tree, and this is the first fault of the tree
abbrev pub HasFault : {A : Type 0} → (Members → Result A SettingsFault) → List ℕ → SettingsFault
    → Type 0
HasFault first text e = (t : Members) × (parse_document text ≡ Some t) × (first t ≡ Err e)

-- why a text is refused: it has no tree, or its tree has a fault
abbrev pub IsRefusal : {A : Type 0} → (Members → Result A SettingsFault) → List ℕ → SettingsFault
    → Type 0
IsRefusal first text fault.OutOfMemory = Unit {0}
IsRefusal first text (fault.NotToml at) = IsUnread text (fault.NotToml at)
IsRefusal first text (fault.Missing p) = HasFault first text (fault.Missing p)
IsRefusal first text (fault.BadValue p) = HasFault first text (fault.BadValue p)
IsRefusal first text (fault.UnknownKey p) = HasFault first text (fault.UnknownKey p)
IsRefusal first text (fault.UnknownObject p) = HasFault first text (fault.UnknownObject p)
