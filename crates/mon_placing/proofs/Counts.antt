-- How many machines a text lists.
use Rattle.std.proofs.Common.{◌≡◌, ◌≤◌, ◌<◌, ◌+◌, ◌∷◌, ◌++◌, ℕ, Bool, true, false, List, [], nat_lt, nat_le, length, arith, refl, sym, ap, ◌∙◌, subst}
use Rattle.std.proofs.lemmas.Bool.Decides.{nat_tests}
use Rattle.std.proofs.lemmas.List.{length-append}
use Rattle.std.specs.Prelude.{Option, Some, None, Result, Ok, Err}
use Rattle.std.specs.Str.Lines.{lines}
use Rattle.mon_placing.specs.Machines.{Entry, and_then, enough, entry_in, has_address, has_name, is_passed, joined, machines_in, read_by, read_from, read_line, unrepeated_by, with_entry}
use Rattle.mon_placing.specs.declared.fault.MachinesFault.{MachinesFault}

joined_few : (name address full : Bool) (number : ℕ) (known : List Entry) (called octets : List ℕ) (more : List Entry) → nat_le 1024 (length known) ≡ full
    → joined (unrepeated_by name address full number) known called octets ≡ Ok more → length more ≤ 1024
joined_few true address full number known called octets more is e = absurd cc
joined_few false true full number known called octets more is e = absurd cc
joined_few false false true number known called octets more is e = absurd cc
joined_few false false false number known called octets more is e =
    let room : length known < 1024 = grind (arith, nat_tests) in
    let added : Entry = record { name = called; octets = octets } in
    let same : more ≡ known ++ added ∷ [] = cc in
    let long : length more ≡ length known + 1 = ap length same ∙ length-append known (added ∷ []) in
    omega (arith, room, long)

entry_few : (number : ℕ) (known : List Entry) (entry : Option (List ℕ × List ℕ)) (more : List Entry) → with_entry number known entry ≡ Ok more → length more ≤ 1024
entry_few number known None more e = absurd cc
entry_few number known (Some entry) more e =
    joined_few (has_name entry.0 known) (has_address entry.1 known) (nat_le 1024 (length known)) number known entry.0 entry.1 more refl e

line_few : (passed : Bool) (number : ℕ) (known : List Entry) (line : List ℕ) (more : List Entry) → length known ≤ 1024 → read_by passed number known line ≡ Ok more → length more ≤ 1024
line_few true number known line more few e = let same : known ≡ more = cc in subst (λ (ms : List Entry). length ms ≤ 1024) same few
line_few false number known line more few e = entry_few number known (entry_in line) more e

-- a step that gave something, and what it gave
first_gave : {A : Type 0} → (r : Result A MachinesFault) (next : A → Result (List Entry) MachinesFault) (ms : List Entry) → and_then r next ≡ Ok ms → (value : A) × (r ≡ Ok value) × (next value ≡ Ok ms)
first_gave (Ok value) next ms e = (value, refl, e)
first_gave (Err fault) next ms e = absurd cc

lines_few : (number : ℕ) (known : List Entry) (rest : List (List ℕ)) (ms : List Entry) → length known ≤ 1024 → read_from number known rest ≡ Ok ms → length ms ≤ 1024
lines_few number known [] ms few e = let same : known ≡ ms = cc in subst (λ (l : List Entry). length l ≤ 1024) same few
lines_few number known (line ∷ rest) ms few e =
    let (more, read, on) = first_gave (read_line number known line) (λ more. read_from (number + 1) more rest) ms e in
    lines_few (number + 1) more rest ms (line_few (is_passed line) number known line more few read) on

enough_by : (stations : ℕ) (m : Entry) (ms known : List Entry) (b : Bool) → nat_lt (length (m ∷ ms)) stations ≡ b → enough stations (m ∷ ms) ≡ Ok known
    → (known ≡ m ∷ ms) × (1 ≤ length (m ∷ ms)) × (stations ≤ length (m ∷ ms))
enough_by stations m ms known true is e = let wrong = rw is at e in absurd cc
enough_by stations m ms known false is e = (let same = rw is at e in let is_it : known ≡ m ∷ ms = cc in is_it, grind (arith), grind (arith, nat_tests))

are_enough : (stations : ℕ) (ms known : List Entry) → enough stations ms ≡ Ok known → (known ≡ ms) × (1 ≤ length ms) × (stations ≤ length ms)
are_enough stations [] known e = absurd cc
are_enough stations (m ∷ ms) known e = enough_by stations m ms known (nat_lt (length (m ∷ ms)) stations) refl e

pub counts : (text : List ℕ) (stations : ℕ) (machines : List Entry) → machines_in text stations ≡ Ok machines
    → (1 ≤ length machines) × (stations ≤ length machines) × (length machines ≤ 1024)
unfolding machines_in
counts text stations machines e =
    let (ms, read, is) = first_gave (read_from 1 [] (lines text)) (λ ms. enough stations ms) machines e in
    let (same, some, many) = are_enough stations ms machines is in
    let few = lines_few 1 [] (lines text) ms (omega arith) read in
    subst (λ (l : List Entry). (1 ≤ length l) × (stations ≤ length l) × (length l ≤ 1024)) (sym same) (some, many, few)
