-- The arguments that name orders of rows.
use Rattle.std.specs.Prelude.{ℕ, List, codes}
use Rattle.mon_page.specs.declared.extras.Sort.{Sort}
use Rattle.mon_page.specs.declared.extras.Sort.TheVariants.{Name, Rate, Alarm, Age}

-- the word that names an order of rows
abbrev pub sort_word : Sort → List ℕ
sort_word Name = codes "name"
sort_word Rate = codes "rate"
sort_word Alarm = codes "alarm"
sort_word Age = codes "age"
