-- What is done step after step.
use Rattle.std.specs.Prelude.{◌≡◌, List, [], ◌++◌, Result, Ok, Err}

-- After a first step that came to this: the second one; or nothing more, and its failure is that of
-- both.
abbrev pub Follows : {A B F C : Type 0} → (A → List C → Result B F → Type 0) → Result A F → List C
    → Result B F → Type 0
Follows Second (Ok value) rest result = Second value rest result
Follows Second (Err failure) rest result = (rest ≡ []) × (result ≡ Err failure)

-- A step is done, and after it a second one, which may depend on what the first one gave.
pub record Then {A B F C : Type 0} (First : List C → Result A F → Type 0)
    (Second : A → List C → Result B F → Type 0) (log : List C) (result : Result B F) : Type 0 where
  pub given : Result A F
  pub begin : List C
  pub first : First begin given
  pub rest : List C
  pub second : Follows Second given rest result
  pub log_is : log ≡ begin ++ rest

-- Nothing is done to the surroundings, and the result is one of these.
abbrev pub Quietly : {A F C : Type 0} → (Result A F → Type 0) → List C → Result A F → Type 0
Quietly Gives log result = (log ≡ []) × Gives result
