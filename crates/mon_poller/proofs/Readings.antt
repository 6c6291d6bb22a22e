-- How a datagram reads.
use Rattle.std.proofs.Common.{◌≡◌, ◌<◌, ℕ, List, get_or, refl, sym, ap, ◌∙◌, subst, Result, Ok, Err, Option, Some, None}
use Rattle.std.proofs.lemmas.List.{get_or_default}
use Rattle.mon_pdu.specs.declared.fault.PduFault.{PduFault}
use Rattle.mon_pdu.specs.declared.message.Message.{Message}
use Rattle.mon_pdu.specs.Grammar.{AreOctets, BeginsWithMessage}
use Rattle.mon_pdu.specs.Reading.{message_at}
use Rattle.mon_poller.specs.Verdict.{ReadsAs}

-- octets by their places
pub octets_by_place : (bytes : List ℕ) → ((i : ℕ) → get_or bytes i 0 < 256) → AreOctets bytes
octets_by_place bytes small = λ i d lt. subst (λ (n : ℕ). n < 256) (sym (get_or_default bytes i d 0 lt)) (small i)

no_message : (e : PduFault) (m : Message) → (let r : Result Message PduFault = Err e in r) ≡ Ok m → ⊥
no_message e m is = cc

same_message : (m n : Message) → (let r : Result Message PduFault = Ok m in r) ≡ Ok n → m ≡ n
same_message m n is = cc

module _ (again : (bytes : List ℕ) (m : Message) → BeginsWithMessage bytes m → message_at bytes ≡ Ok m) where
  -- a datagram reads in one way
  pub one_reading : (octets : List ℕ) (a b : Option Message) → ReadsAs octets a → ReadsAs octets b → a ≡ b
  one_reading octets None None p q = refl
  one_reading octets None (Some n) p q = absurd (p n q)
  one_reading octets (Some m) None p q = absurd (q m p)
  one_reading octets (Some m) (Some n) p q = ap (λ x. Some x) (same_message m n (sym (again octets m p) ∙ again octets n q))

  module _ (takes : (bytes : List ℕ) (m : Message) → AreOctets bytes → message_at bytes ≡ Ok m → BeginsWithMessage bytes m) where
    reading_at : (octets : List ℕ) → AreOctets octets → (r : Result Message PduFault) → message_at octets ≡ r → (read : Option Message) × ReadsAs octets read
    reading_at octets are (Ok m) is = (Some m, takes octets m are is)
    reading_at octets are (Err e) is = (None, λ m begins. no_message e m (sym is ∙ again octets m begins))

    -- a datagram reads as a message or as none
    pub reading : (octets : List ℕ) → AreOctets octets → (read : Option Message) × ReadsAs octets read
    reading octets are = reading_at octets are (message_at octets) refl
