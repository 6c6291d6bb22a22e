-- What crates above may cite.
pub use Rattle.mon_fields.proofs.OneByOne.{Chain, one_by_one_takes, one_by_one_again, goes_on, stops, is_done}
pub use Rattle.mon_fields.proofs.Fields.{guard, bytes_front, octet_takes, octet_again, field_takes, field_again, u32_takes, u32_again}
pub use Rattle.mon_fields.proofs.Loops.{length-numbers, length-samples, length-instance}
pub use Rattle.mon_fields.proofs.Samples.{samples_takes, samples_again}
