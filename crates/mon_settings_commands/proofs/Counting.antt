-- Texts whose ports are counted up, and the peers that texts name.
use Rattle.std.proofs.Common.{◌≡◌, ◌+◌, ◌++◌, ◌∷◌, ◌<◌, ◌≤◌, ℕ, List, [], length, map, take, refl, sym, ap, ◌∙◌, inl, inr, append_assoc, subst}
use Rattle.std.proofs.Math.ListN.{get_or}
use Rattle.std.specs.Prelude.{Option, Some, None}
use Rattle.std.proofs.lemmas.List.{map-append, take_all, take_more}
use Rattle.mon_survey.specs.declared.options.Peer.{Peer}
use Rattle.mon_udp.specs.Addr.{addr_of, addr_text}
use Rattle.mon_udp.specs.declared.addr.Addr.{Addr}
use Rattle.mon_settings_commands.specs.Texts.{ArePeers, IsCounted, IsPeer, moved_up}

counted_by : (text : List ℕ) (up : ℕ) (octets : List ℕ) (found : Option Addr) → addr_of text ≡ found → (addr_of text ≡ None → octets ≡ text)
    → ((a : Addr) → addr_of text ≡ Some a → (a.port + up < 65536) × (octets ≡ addr_text (moved_up up a))) → IsCounted text up octets
counted_by text up octets None is kept moved = inl (is, kept is)
counted_by text up octets (Some a) is kept moved = let m = moved a is in inr (a, is, m.0, m.1)

-- what was put into an empty text
pub counted : (text : List ℕ) (up : ℕ) (before octets : List ℕ) → before ≡ [] → (addr_of text ≡ None → octets ≡ before ++ text)
    → ((a : Addr) → addr_of text ≡ Some a → (a.port + up < 65536) × (octets ≡ before ++ addr_text (moved_up up a))) → IsCounted text up octets
counted text up before octets none kept moved = counted_by text up octets (addr_of text) refl (λ is. kept is ∙ ap (λ b. b ++ text) none)
    (λ a is. let m = moved a is in (m.0, m.1 ∙ ap (λ b. b ++ addr_text (moved_up up a)) none))

-- one peer more
pub one_more : (up : ℕ) (texts : List (List ℕ)) (peers : List Peer) (text : List ℕ) (peer : Peer) → ArePeers up texts peers → IsPeer up text peer
    → ArePeers up (texts ++ text ∷ []) (peers ++ peer ∷ [])
one_more up [] [] text peer are is = (is, tt)
one_more up (t ∷ texts) (p ∷ peers) text peer are is = (are.0, one_more up texts peers text peer are.1 is)
one_more up [] (p ∷ peers) text peer are is = absurd are
one_more up (t ∷ texts) [] text peer are is = absurd are

-- the peers of texts were put after those before
abbrev pub HasPut : ℕ → List Peer → List (List ℕ) → List Peer → Type 0
HasPut up before texts after = (more : List Peer) × (after ≡ before ++ more) × ArePeers up texts more

module _ {X : Type 0} (text : X → List ℕ) where
  pub put_on : (up : ℕ) (xs : List X) (i : ℕ) (d : X) (before between after : List Peer) → i < length xs → HasPut up before (map text (take i xs)) between
      → ((peer : Peer) × (after ≡ between ++ peer ∷ []) × IsPeer up (text (get_or xs i d)) peer) → HasPut up before (map text (take (i + 1) xs)) after
  put_on up xs i d before between after inside (more, was, are) (peer, now, is) =
      let texts : map text (take i xs) ++ text (get_or xs i d) ∷ [] ≡ map text (take (i + 1) xs) =
      sym (ap (λ l. map text l) (take_more xs i d inside) ∙ map-append text (take i xs) (get_or xs i d ∷ [])) in (
        more ++ peer ∷ [],
        now ∙ (ap (λ b. b ++ peer ∷ []) was ∙ append_assoc before more (peer ∷ [])),
        subst (λ (ts : List (List ℕ)). ArePeers up ts (more ++ peer ∷ [])) texts (one_more up (map text (take i xs)) more (text (get_or xs i d)) peer are is),
      )

  pub put_all : (up : ℕ) (xs : List X) (i : ℕ) (before after : List Peer) → length xs ≤ i → HasPut up before (map text (take i xs)) after → HasPut up before (map text xs) after
  put_all up xs i before after past put = subst (λ (l : List X). HasPut up before (map text l) after) (take_all i xs past) put
