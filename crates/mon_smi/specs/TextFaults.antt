-- The faults of texts.
use Rattle.std.specs.Prelude.{ℕ, List, codes}
use Rattle.mon_smi.specs.declared.text_fault.TextFault.{TextFault}
use Rattle.mon_smi.specs.declared.text_fault.TextFault.TheVariants.{OutOfMemory, Unclosed}
use Rattle.mon_smi.specs.declared.text_fault.TextFault.TheVariants.{Unexpected, Duplicate}

-- the number of a fault
abbrev pub number_of_text : TextFault → ℕ
number_of_text OutOfMemory = 1
number_of_text Unclosed = 2
number_of_text (Unexpected span) = 3
number_of_text (Duplicate span) = 4

-- the name of a fault
abbrev pub name_of_text : TextFault → List ℕ
name_of_text OutOfMemory = codes "OutOfMemory"
name_of_text Unclosed = codes "Unclosed"
name_of_text (Unexpected span) = codes "Unexpected"
name_of_text (Duplicate span) = codes "Duplicate"
