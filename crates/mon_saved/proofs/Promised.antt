-- What crates above may cite of images.
pub use Rattle.mon_saved.proofs.Images.{entries_take, entry_takes, expected_again, expected_takes, image_again, image_takes, instance_again, instance_takes, lifted_ok, nothing, numbers_again, numbers_take, one_window, sizes_one, sizes_two, within_again, within_takes}
