-- Lines of failures, where there was memory for them.
use Rattle.std.proofs.Common.{◌≡◌, ◌≢◌, ◌∙◌, ◌++◌, List, ℕ, ap, append_assoc, codes, inl, inr, refl, sym}
use Rattle.std.specs.Global.{Global}
use Rattle.std.specs.Prelude.{IfOk, Option, Some, Result, Ok, Err, String, option_map, string_bytes}
use Rattle.std.specs.Result.{result_ok}
use Rattle.std.specs.declared.alloc.AllocError.{AllocError}
use Rattle.mon_console.specs.Failure.{HasLine}
use Rattle.mon_survey.specs.declared.fault.SurveyFault.{SurveyFault}
use Rattle.mon_survey.specs.declared.fault.SurveyFault.TheVariants.{OutOfMemory, NoEngine, NotRising, BadIndex, NoCounter, TooMany, BadText, Refused, Misread, SameEngine, TooManyTargets, BadLabels, TooManyInterfaces, EngineChanged, OtherEngine}
use Rattle.mon_settings_commands.specs.Settings.{labels_words}

-- pieces of a text, nested to the right as `format!` makes them
of_3 : (a b c : List ℕ) → a ++ (b ++ c) ≡ a ++ b ++ c
of_3 a b c = sym (append_assoc a b c)

pub of_4 : (a b c d : List ℕ) → a ++ (b ++ (c ++ d)) ≡ a ++ b ++ c ++ d
of_4 a b c d = of_3 a b (c ++ d) ∙ of_3 (a ++ b) c d

of_5 : (a b c d e : List ℕ) → a ++ (b ++ (c ++ (d ++ e))) ≡ a ++ b ++ c ++ d ++ e
of_5 a b c d e = of_3 a b (c ++ (d ++ e)) ∙ of_4 (a ++ b) c d e

pub of_6 : (a b c d e f : List ℕ) → a ++ (b ++ (c ++ (d ++ (e ++ f)))) ≡ a ++ b ++ c ++ d ++ e ++ f
of_6 a b c d e f = of_3 a b (c ++ (d ++ (e ++ f))) ∙ of_5 (a ++ b) c d e f

pub of_9 : (a b c d e f g h i : List ℕ)
    → a ++ (b ++ (c ++ (d ++ (e ++ (f ++ (g ++ (h ++ i))))))) ≡ a ++ b ++ c ++ d ++ e ++ f ++ g ++ h ++ i
of_9 a b c d e f g h i = of_5 a b c d (e ++ (f ++ (g ++ (h ++ i)))) ∙ of_6 (a ++ b ++ c ++ d) e f g h i

-- a text that was made is equal to any other form of it
pub reads_as : (made : Result (String Global) AllocError) (text other : List ℕ) → IfOk made (λ t. string_bytes t ≡ text) → text ≡ other
    → IfOk made (λ t. string_bytes t ≡ other)
reads_as (Ok t) text other is same = is ∙ same
reads_as (Err e) text other is same = tt

-- the text for a file that is no file of labels
pub other_words : (fault : SurveyFault) → fault ≢ Misread → fault ≢ SameEngine → ((n : ℕ) → fault ≢ TooManyInterfaces n)
    → labels_words fault ≡ codes ": this is no file of labels: a TOML text with [[interface]] tables"
other_words OutOfMemory misread same many = refl
other_words NoEngine misread same many = refl
other_words NotRising misread same many = refl
other_words BadIndex misread same many = refl
other_words NoCounter misread same many = refl
other_words (TooMany n) misread same many = refl
other_words BadText misread same many = refl
other_words (Refused e) misread same many = refl
other_words Misread misread same many = absurd (misread refl)
other_words SameEngine misread same many = absurd (same refl)
other_words (TooManyTargets n) misread same many = refl
other_words BadLabels misread same many = refl
other_words (TooManyInterfaces n) misread same many = absurd (many n refl)
other_words EngineChanged misread same many = refl
other_words OtherEngine misread same many = refl

-- a line that was made, or no memory for it
pub has_line : (made : Result (String Global) AllocError) (text : List ℕ) (more : Option (String Global)) → IfOk made (λ t. string_bytes t ≡ text)
    → more ≡ result_ok made → HasLine text more
has_line (Ok t) text more is same = inl (ap (λ m. option_map string_bytes m) same ∙ ap Some is)
has_line (Err e) text more is same = inr same
