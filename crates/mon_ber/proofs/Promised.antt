-- What crates above may cite: that what is read was spelled and what is spelled is read, for each
-- part of a message, and how what is written is spelled and how long it is. The law functions
-- promise this of whole values. No
-- other file here is for them.

-- octets, and those behind and inside an element
pub use Rattle.mon_ber.proofs.Numbers.{IsBytes}
pub use Rattle.mon_ber.proofs.Shortest.{all_bytes}
pub use Rattle.mon_ber.proofs.Values.{IsBytes-after, IsBytes-inside, element_some}
-- an element and its contents: what is read was spelled, and what is spelled is read
pub use Rattle.mon_ber.proofs.Elements.{contents_takes, contents_again, element_takes, element_again}
-- reading of a value, an INTEGER, an OBJECT IDENTIFIER and an OCTET STRING
pub use Rattle.mon_ber.proofs.Values.{value_takes, value_again, integer_at_takes, integer_at_again, name_at_takes, name_at_again, octets_at_takes, octets_at_again}
-- reading of things one after the other, and the steps of a loop that reads them
pub use Rattle.mon_ber.proofs.Many.{goes_on, is_done, stops, many_take, many_again, no_more}
-- what is written for an element and for a value is a spelling
pub use Rattle.mon_ber.proofs.Spelled.{element_written, value_written}
-- how long what is written is
pub use Rattle.mon_ber.proofs.Written.{length-element, length-high_first, written_size, size_longer}
-- numbers of a few octets
pub use Rattle.mon_ber.proofs.Numbers.{big_endian_below, power_of_four}
-- steps of a reading that may fail
pub use Rattle.mon_ber.proofs.Steps.{bind_ok, wanted, chosen, ok_is, pair_is}
