-- Second lines of failures, where there was memory for them.
use Rattle.std.proofs.Common.{◌≡◌, ◌∙◌, List, ℕ, ◌++◌, sym, ap, append_assoc, inl, inr, subst}
use Rattle.std.specs.Global.{Global}
use Rattle.std.specs.Prelude.{IfOk, IfSome, Option, Some, None, Result, Ok, Err, String, codes, option_map, string_bytes}
use Rattle.std.specs.Fmt.{◌++?◌}
use Rattle.std.specs.Result.{result_ok}
use Rattle.std.specs.declared.alloc.AllocError.{AllocError}
use Rattle.mon_app.specs.AppFault.{text_of_reason}
use Rattle.mon_app.specs.declared.reason.SocketReason.{SocketReason}
use Rattle.mon_console.specs.Failure.{HasLine, HasReason, without_socket}

-- pieces of a text, nested to the right as `format!` makes them
pub of_3 : (a b c : List ℕ) → a ++ (b ++ c) ≡ a ++ b ++ c
of_3 a b c = sym (append_assoc a b c)

pub of_4 : (a b c d : List ℕ) → a ++ (b ++ (c ++ d)) ≡ a ++ b ++ c ++ d
of_4 a b c d = of_3 a b (c ++ d) ∙ of_3 (a ++ b) c d

pub of_5 : (a b c d e : List ℕ) → a ++ (b ++ (c ++ (d ++ e))) ≡ a ++ b ++ c ++ d ++ e
of_5 a b c d e = of_3 a b (c ++ (d ++ e)) ∙ of_4 (a ++ b) c d e

pub of_6 : (a b c d e f : List ℕ) → a ++ (b ++ (c ++ (d ++ (e ++ f)))) ≡ a ++ b ++ c ++ d ++ e ++ f
of_6 a b c d e f = of_3 a b (c ++ (d ++ (e ++ f))) ∙ of_5 (a ++ b) c d e f

pub of_7 : (a b c d e f g : List ℕ) → a ++ (b ++ (c ++ (d ++ (e ++ (f ++ g))))) ≡ a ++ b ++ c ++ d ++ e ++ f ++ g
of_7 a b c d e f g = of_3 a b (c ++ (d ++ (e ++ (f ++ g)))) ∙ of_6 (a ++ b) c d e f g

pub of_8 : (a b c d e f g h : List ℕ) → a ++ (b ++ (c ++ (d ++ (e ++ (f ++ (g ++ h)))))) ≡ a ++ b ++ c ++ d ++ e ++ f ++ g ++ h
of_8 a b c d e f g h = of_3 a b (c ++ (d ++ (e ++ (f ++ (g ++ h))))) ∙ of_7 (a ++ b) c d e f g h

-- a text that was made is equal to any other form of it
pub reads_as : (made : Result (String Global) AllocError) (text other : List ℕ) → IfOk made (λ t. string_bytes t ≡ text) → text ≡ other
    → IfOk made (λ t. string_bytes t ≡ other)
reads_as (Ok t) text other is same = is ∙ same
reads_as (Err e) text other is same = tt

-- a line that was made, or no memory for it
pub has_line : (made : Result (String Global) AllocError) (text : List ℕ) (more : Option (String Global)) → IfOk made (λ t. string_bytes t ≡ text)
    → more ≡ result_ok made → HasLine text more
has_line (Ok t) text more is same = inl (ap (λ m. option_map string_bytes m) same ∙ ap Some is)
has_line (Err e) text more is same = inr same

-- the line of a reason in words
pub has_reason : (made : Result (String Global) AllocError) (place : List ℕ) (words : Option (String Global)) (w : String Global) (more : Option (String Global)) → words ≡ Some w
    → IfOk made (λ t. string_bytes t ≡ place ++ (codes ": " ++ string_bytes w)) → more ≡ result_ok made → HasReason place (option_map string_bytes words) more
has_reason made place words w more there is same = subst (λ (o : Option (String Global)). HasReason place (option_map string_bytes o) more) (sym there)
    (has_line made (place ++ codes ": " ++ string_bytes w) more
    (reads_as made (place ++ (codes ": " ++ string_bytes w)) (place ++ codes ": " ++ string_bytes w) is (of_3 place (codes ": ") (string_bytes w))) same)

-- the line of a socket, if the text of its address is known
pub has_socket : (made : Result (String Global) AllocError) (address : Option (List ℕ)) (reason : SocketReason) (words : List ℕ) (more : Option (String Global))
    → words ≡ text_of_reason reason
    → IfOk made (λ t. IfSome (address ++? (Some (codes ": no socket could be opened or used: ") ++? Some words)) (λ bs. string_bytes t ≡ bs))
    → more ≡ result_ok made → IfSome address (λ a. HasLine (a ++ without_socket reason) more)
has_socket made None reason words more is given same = tt
has_socket made (Some a) reason words more is given same = has_line made (a ++ without_socket reason) more
    (reads_as made (a ++ (codes ": no socket could be opened or used: " ++ words)) (a ++ without_socket reason) given
    (ap (λ w. a ++ (codes ": no socket could be opened or used: " ++ w)) is)) same
