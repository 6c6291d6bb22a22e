-- Results that borrow, and steps that may fail.
use Rattle.std.specs.Prelude.{Result, Ok, Err, ℕ, List}
use Rattle.std.specs.Borrow.{Bor}
use Rattle.mon_vacm.specs.declared.access.Access.{Access}
use Rattle.mon_vacm.specs.declared.access_entry.AccessEntry.{AccessEntry}
use Rattle.mon_vacm.specs.declared.denied.Denied.{Denied}

-- the octets that an answer borrows
abbrev pub now_of : Result (Bor (List ℕ)) Denied → Result (List ℕ) Denied
now_of (Ok x) = Ok x.now
now_of (Err e) = Err e

-- the access entry that an answer borrows
abbrev pub entry_now : Result (Bor AccessEntry) Denied → Result AccessEntry Denied
entry_now (Ok x) = Ok x.now
entry_now (Err e) = Err e

-- the name of a granted view
abbrev pub view_of : Access → List ℕ
view_of access = access.view.now

-- the view that an answer grants
abbrev pub granted : Result Access Denied → Result (List ℕ) Denied
granted (Ok access) = Ok (view_of access)
granted (Err e) = Err e
