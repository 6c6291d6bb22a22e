-- What is printed for recorded datagrams, and how they leave an agent.
use Rattle.std.specs.Prelude.{◌≡◌, ℕ, zero, suc, ◌-◌, ◌==◌, Bool, false, not, List, [], ◌∷◌, ◌++◌}
use Rattle.std.specs.Prelude.{codes, Result, Ok, Err}
use Rattle.std.specs.List.{filter}
use Rattle.std.specs.Str.Lines.{lines}
use Rattle.hex.specs.declared.error.FromHexError.{FromHexError}
use Rattle.hex.specs.Hex.{decode_of}
use Rattle.mon_agent.specs.declared.reply.Reply.{Reply}
use Rattle.mon_answers.specs.declared.scene.Scene.{Scene}
use Rattle.mon_answers.specs.Shown.{reply_text}

-- whether a line is neither empty nor a comment, which begins with `#`
abbrev pub is_read : List ℕ → Bool
is_read [] = false
is_read (c ∷ rest) = not (c == 35)

-- the lines of a text that are neither empty nor comments
abbrev pub lines_read : List ℕ → List (List ℕ)
lines_read text = filter is_read (lines text)

-- how one datagram is answered when it arrives at a time
abbrev pub arrives : {S : Type 0} → (S → S → List ℕ → ℕ → Reply → Type 0) → List ℕ → ℕ → S → S
    → Reply → Type 0
arrives Answers datagram moment before after reply = Answers before after datagram moment reply

-- a datagram arrived this many times, one after another, with any replies
abbrev pub AreArrivals : {S : Type 0} → (S → S → Reply → Type 0) → ℕ → S → S → Type 0
AreArrivals Arrives zero before after = after ≡ before
AreArrivals {S = S} Arrives (suc n) before after = (between : S) × (reply : Reply)
    × AreArrivals Arrives n before between × Arrives between after reply

-- The reply to the last of this many arrivals, each of which finds what those before it left; 0
-- counts as 1.
pub record IsLastReply {S : Type 0} (Arrives : S → S → Reply → Type 0) (times : ℕ)
    (before after : S) (reply : Reply) : Type 0 where
  pub between : S
  pub earlier : AreArrivals Arrives (times - 1) before between
  pub last : Arrives between after reply

-- What is printed for a line whose hex digits are these octets: they arrive as often as the scene
-- says, and the last reply is printed.
-- If the line is not in hex digits, that is printed, and nothing arrives.
abbrev pub IsPrinted : {S : Type 0} → (S → S → List ℕ → ℕ → Reply → Type 0) → Scene
    → Result (List ℕ) FromHexError → S → S → List ℕ → Type 0
IsPrinted Answers scene (Ok datagram) before after printed = (reply : Reply)
    × IsLastReply (arrives Answers datagram scene.at) scene.times before after reply
    × (printed ≡ reply_text scene.labels reply)
IsPrinted Answers scene (Err fault) before after printed = (after ≡ before)
    × (printed ≡ codes "refused BadHex\n")

-- What is printed for lines, one after another, each of which finds what those before it left.
abbrev pub ArePrinted : {S : Type 0} → (S → S → List ℕ → ℕ → Reply → Type 0) → Scene → List (List ℕ)
    → S → S → List ℕ → Type 0
ArePrinted Answers scene [] before after printed = (after ≡ before) × (printed ≡ [])
ArePrinted {S = S} Answers scene (line ∷ rest) before after printed = (between : S)
    × (first : List ℕ) × (later : List ℕ)
    × IsPrinted Answers scene (decode_of line) before between first
    × ArePrinted Answers scene rest between after later × (printed ≡ first ++ later)

-- a text with something appended for which this holds
abbrev pub Appends : (List ℕ → Type 0) → List ℕ → List ℕ → Type 0
Appends Holds before after = (more : List ℕ) × Holds more × (after ≡ before ++ more)
