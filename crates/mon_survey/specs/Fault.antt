-- The numbers and names of faults.
use Rattle.std.specs.Prelude.{ℕ, List, codes}
use Rattle.mon_survey.specs.declared.fault.SurveyFault.{SurveyFault}
use Rattle.mon_survey.specs.declared.fault.SurveyFault.TheVariants.{
  OutOfMemory,
  NoEngine,
  NotRising,
  BadIndex,
  NoCounter,
  TooMany,
  BadText,
  Refused,
  Misread,
  SameEngine,
  TooManyTargets,
  BadLabels,
  TooManyInterfaces,
  EngineChanged,
  OtherEngine,
}

-- the number of a fault
abbrev pub number_of : SurveyFault → ℕ
number_of OutOfMemory = 1
number_of NoEngine = 2
number_of NotRising = 3
number_of BadIndex = 4
number_of NoCounter = 5
number_of (TooMany n) = 6
number_of BadText = 7
number_of (Refused e) = 8
number_of Misread = 9
number_of SameEngine = 10
number_of (TooManyTargets n) = 11
number_of BadLabels = 12
number_of (TooManyInterfaces n) = 13
number_of EngineChanged = 14
number_of OtherEngine = 15

-- the name of a fault, as a printed line gives it
abbrev pub name_of : SurveyFault → List ℕ
name_of OutOfMemory = codes "OutOfMemory"
name_of NoEngine = codes "NoEngine"
name_of NotRising = codes "NotRising"
name_of BadIndex = codes "BadIndex"
name_of NoCounter = codes "NoCounter"
name_of (TooMany n) = codes "TooMany"
name_of BadText = codes "BadText"
name_of (Refused e) = codes "Refused"
name_of Misread = codes "Misread"
name_of SameEngine = codes "SameEngine"
name_of (TooManyTargets n) = codes "TooManyTargets"
name_of BadLabels = codes "BadLabels"
name_of (TooManyInterfaces n) = codes "TooManyInterfaces"
name_of EngineChanged = codes "EngineChanged"
name_of OtherEngine = codes "OtherEngine"
