-- Where definitions begin.
use Rattle.std.proofs.Common.{◌≡◌, ℕ, zero, suc, ◌+◌, ◌-◌, ◌<◌, ◌≤◌, List, [], ◌∷◌, ◌++◌, length, get_or, take, drop, map, Option, Some, None, Result, Ok, Err, sym, refl, ap, ◌∙◌, subst, arith, length-append, length-drop, append_assoc, append-nil, take-append-drop}
use Rattle.std.specs.Prelude.{option_to_list, codes, IfOk}
use Rattle.std.proofs.Math.Seq.{drop-cons}
use Rattle.std.proofs.lemmas.List.{length-map, map-append, take_all}
use Rattle.mon_smi.specs.declared.kind.TokenKind.TheVariants.{Assign}
use Rattle.mon_smi.specs.declared.token.Span.{Span}
use Rattle.mon_smi.specs.declared.token.Token.{Token}
use Rattle.mon_smi.specs.declared.definition.Definition.{Definition}
use Rattle.mon_smi.specs.declared.text_fault.TextFault.TheVariants.{Duplicate}
use Rattle.mon_smi.specs.Places.{IsAgain}
use Rattle.mon_smi.specs.Tokens.{AreTokens}
use Rattle.mon_smi.specs.Lexemes.{Lexeme, lexemes, lexeme_at}
use Rattle.mon_smi.specs.Reading.{word_at, punctuation_at, imports_at, assignment_at}
use Rattle.mon_smi.specs.Grammar.{Derives}
use Rattle.mon_smi.specs.ModuleFaults.{Begins, AllBegin, HasTwice, IsLeftAt, IsTwice}
use Rattle.mon_smi.proofs.ForRules.{word_takes, punctuation_takes}
use Rattle.mon_smi.proofs.ForValues.{suffix}
use Rattle.mon_smi.proofs.ForModules.{assignment_takes, imports_take}

-- what comes before does not change where definitions begin
begins_behind : (front ls : List Lexeme) (n : ℕ) (d : Definition) → Begins ls n d → Begins (front ++ ls) n d
begins_behind front ls n d b = (front ++ b.0, b.1, b.2, ap (λ (l : List Lexeme). front ++ l) b.3 ∙ sym (append_assoc front b.0 (b.1 ++ b.2)), b.4, b.5)

all_behind : (front ls : List Lexeme) (ns : List ℕ) (ds : List Definition) → AllBegin ls ns ds → AllBegin (front ++ ls) ns ds
all_behind front ls [] [] begin = tt
all_behind front ls [] (d ∷ ds) begin = begin
all_behind front ls (n ∷ ns) [] begin = begin
all_behind front ls (n ∷ ns) (d ∷ ds) begin = (begins_behind front ls n d begin.0, all_behind front ls ns ds begin.1)

-- behind the first lexeme
pub all_behind_first : (ls : List Lexeme) (ns : List ℕ) (ds : List Definition) → AllBegin (take (length ls - 1) (drop 1 ls)) ns ds → AllBegin ls ns ds
all_behind_first ls ns ds begin =
    let size : length (drop 1 ls) ≡ length ls - 1 = length-drop 1 ls in
    let rest : take (length ls - 1) (drop 1 ls) ≡ drop 1 ls = take_all (length ls - 1) (drop 1 ls) (omega arith) in
    subst (λ (l : List Lexeme). AllBegin l ns ds) (take-append-drop 1 ls) (all_behind (take 1 ls) (drop 1 ls) ns ds (subst (λ (l : List Lexeme). AllBegin l ns ds) rest begin))

all_from : (ls front rest : List Lexeme) (ns : List ℕ) (ds : List Definition) → ls ≡ front ++ rest → AllBegin rest ns ds → AllBegin ls ns ds
all_from ls front rest ns ds is begin = subst (λ (l : List Lexeme). AllBegin l ns ds) (sym is) (all_behind front rest ns ds begin)

-- one more definition
all_push : (ls : List Lexeme) (ns : List ℕ) (ds : List Definition) (n : ℕ) (d : Definition) → AllBegin ls ns ds → Begins ls n d → AllBegin ls (ns ++ n ∷ []) (ds ++ d ∷ [])
all_push ls [] [] n d begin more = (more, tt)
all_push ls [] (e ∷ ds) n d begin more = absurd begin
all_push ls (m ∷ ns) [] n d begin more = absurd begin
all_push ls (m ∷ ns) (e ∷ ds) n d begin more = (begin.0, all_push ls ns ds n d begin.1 more)

-- an assignment that is read begins where it is read
begins_here : (ls : List Lexeme) (left : ℕ) (d : Definition) (after : List Lexeme) → left ≤ length ls → assignment_at (drop (length ls - left) ls) ≡ Ok (Some d, after) → Begins ls left d
begins_here ls left d after within found =
    let t = assignment_takes (drop (length ls - left) ls) (Some d) after found in
    let size : length (drop (length ls - left) ls) ≡ length ls - (length ls - left) = length-drop (length ls - left) ls in
    let parts : length (drop (length ls - left) ls) ≡ length (t.0 ++ after) = ap (λ (l : List Lexeme). length l) t.2 in
    (take (length ls - left) ls, t.0, after, sym (take-append-drop (length ls - left) ls) ∙ ap (λ (l : List Lexeme). take (length ls - left) ls ++ l) t.2, t.1, omega arith)

pub all_next : (ls : List Lexeme) (ns more : List ℕ) (ds all : List Definition) (left : ℕ) (x : Option Definition) (after : List Lexeme) → AllBegin ls ns ds → left ≤ length ls
    → assignment_at (drop (length ls - left) ls) ≡ Ok (x, after) → all ≡ ds ++ option_to_list x → more ≡ ns ++ map (λ d. left) (option_to_list x) → AllBegin ls more all
all_next ls ns more ds all left None after begin within found all_is more_is =
    subst (λ (l : List Definition). AllBegin ls more l) (sym (all_is ∙ append-nil ds)) (subst (λ (l : List ℕ). AllBegin ls l ds) (sym (more_is ∙ append-nil ns)) begin)
all_next ls ns more ds all left (Some d) after begin within found all_is more_is =
    subst (λ (l : List Definition). AllBegin ls more l) (sym all_is)
    (subst (λ (l : List ℕ). AllBegin ls l (ds ++ d ∷ [])) (sym more_is) (all_push ls ns ds left d begin (begins_here ls left d after within found)))

-- the definitions of a module's body are those behind its imports
pub body_begins : (ls a b c d : List Lexeme) (ns : List ℕ) (ds : List Definition) → word_at (codes "DEFINITIONS") ls ≡ Ok a → punctuation_at Assign a ≡ Ok b → word_at (codes "BEGIN") b ≡ Ok c → imports_at c ≡ Ok d → AllBegin d ns ds → AllBegin ls ns ds
body_begins ls a b c d ns ds first second third imports begin =
    let t = word_takes (codes "DEFINITIONS") ls a first in
    let u = punctuation_takes Assign a b second in
    let v = word_takes (codes "BEGIN") b c third in
    let w = imports_take c d imports in
    all_from ls t.0 a ns ds t.2 (all_from a u.0 b ns ds u.2 (all_from b v.0 c ns ds v.2 (all_from c w.0 d ns ds w.2 begin)))

pub all_len : (ls : List Lexeme) (ns : List ℕ) (ds : List Definition) → AllBegin ls ns ds → length ns ≡ length ds
all_len ls [] [] begin = refl
all_len ls [] (d ∷ ds) begin = absurd begin
all_len ls (n ∷ ns) [] begin = absurd begin
all_len ls (n ∷ ns) (d ∷ ds) begin = ap (λ k. suc k) (all_len ls ns ds begin.1)

begins_within : (ls : List Lexeme) (n : ℕ) (d : Definition) → Begins ls n d → (0 < n) × (n ≤ length ls)
begins_within ls n d b =
    let size : n ≡ length (b.1 ++ b.2) = b.5 in
    let parts : length (b.1 ++ b.2) ≡ length b.1 + length b.2 = length-append b.1 b.2 in
    let name : length b.1 ≡ suc (length b.4.0) = ap (λ (l : List Lexeme). length l) b.4.1 in
    let whole : length ls ≡ length b.0 + length (b.1 ++ b.2) = ap (λ (l : List Lexeme). length l) b.3 ∙ length-append b.0 (b.1 ++ b.2) in
    (omega arith, omega arith)

pub all_within : (ls : List Lexeme) (ns : List ℕ) (ds : List Definition) → AllBegin ls ns ds → (i : ℕ) → i < length ds → (0 < get_or ns i 0) × (get_or ns i 0 ≤ length ls)
all_within ls [] [] begin i lt = absurd (omega arith)
all_within ls [] (d ∷ ds) begin i lt = absurd begin
all_within ls (n ∷ ns) [] begin i lt = absurd begin
all_within ls (n ∷ ns) (d ∷ ds) begin zero lt = begins_within ls n d begin.0
all_within ls (n ∷ ns) (d ∷ ds) begin (suc i) lt = all_within ls ns ds begin.1 i (omega arith)

all_at : (ls : List Lexeme) (ns : List ℕ) (ds : List Definition) → AllBegin ls ns ds → (i : ℕ) (d : Definition) → i < length ds → d ≡ get_or ds i d → Begins ls (get_or ns i 0) d
all_at ls [] [] begin i d lt is = absurd (omega arith)
all_at ls [] (e ∷ ds) begin i d lt is = absurd begin
all_at ls (n ∷ ns) [] begin i d lt is = absurd begin
all_at ls (n ∷ ns) (e ∷ ds) begin zero d lt is = subst (λ (x : Definition). Begins ls n x) (sym is) begin.0
all_at ls (n ∷ ns) (e ∷ ds) begin (suc i) d lt is = all_at ls ns ds begin.1 i d (omega arith) is

same_back : (ls a b c d : List Lexeme) → ls ≡ a ++ b → ls ≡ c ++ d → length b ≡ length d → b ≡ d
same_back ls a b c d one other same = sym (suffix ls a b one) ∙ ap (λ n. drop (length ls - n) ls) same ∙ suffix ls c d other

-- the token with which n are left is in the text where the definition begins
pub twice_at : (text name : List ℕ) (tokens : List Token) (starts : List ℕ) (defs : List Definition) (span : Span) → AreTokens text tokens → Derives text name defs → AllBegin (lexemes text tokens) starts defs → IsTwice (Duplicate span) tokens starts defs → HasTwice text span
twice_at text name tokens starts defs span are is begin fault =
    let at = fault.2.0 in
    let f = fault.3 in
    let b = all_at (lexemes text tokens) starts defs begin fault.0 fault.1 at.0 at.1 in
    let cut : lexemes text tokens ≡ lexemes text f.0 ++ lexemes text (f.2 ∷ f.1) = ap (λ (l : List Token). lexemes text l) f.3 ∙ map-append (lexeme_at text) f.0 (f.2 ∷ f.1) in
    let size : length (lexemes text (f.2 ∷ f.1)) ≡ length (b.1 ++ b.2) = length-map (f.2 ∷ f.1) (lexeme_at text) ∙ f.5 ∙ b.5 in
    let back : lexemes text (f.2 ∷ f.1) ≡ b.1 ++ b.2 = same_back (lexemes text tokens) (lexemes text f.0) (lexemes text (f.2 ∷ f.1)) b.0 (b.1 ++ b.2) cut b.3 size in
    (name, defs, fault.0, fault.1, is, fault.2, (f.0, f.1, f.2, b.1, b.2, subst (λ (l : List Token). AreTokens text l) f.3 are, f.4, back, b.4))

-- the token with which n are left is at its place
pub left_at : (tokens : List Token) (left : ℕ) (other : Token) → 0 < left → left ≤ length tokens → IsLeftAt tokens left (get_or tokens (length tokens - left) other).span
left_at tokens left other some most =
    let below : length tokens - left < length tokens = omega arith in
    let here : drop (length tokens - left) tokens ≡ get_or tokens (length tokens - left) other ∷ drop (suc (length tokens - left)) tokens = drop-cons tokens (length tokens - left) other below in
    let size : length (get_or tokens (length tokens - left) other ∷ drop (suc (length tokens - left)) tokens) ≡ length tokens - (length tokens - left) = ap (λ (l : List Token). length l) (sym here) ∙ length-drop (length tokens - left) tokens in (
      take (length tokens - left) tokens,
      drop (suc (length tokens - left)) tokens,
      get_or tokens (length tokens - left) other,
      sym (take-append-drop (length tokens - left) tokens) ∙ ap (λ (l : List Token). take (length tokens - left) tokens ++ l) here,
      refl,
      omega arith,
    )

-- no token has more left than there are, or none
pub none_left : (tokens : List Token) (left : ℕ) (span : Span) → IsLeftAt tokens left span → (0 < left) × (left ≤ length tokens)
none_left tokens left span is =
    let size : length tokens ≡ length is.0 + length (is.2 ∷ is.1) = ap (λ (l : List Token). length l) is.3 ∙ length-append is.0 (is.2 ∷ is.1) in
    let n : length (is.2 ∷ is.1) ≡ left = is.5 in
    (omega arith, omega arith)

-- the token with which n are left, where a definition has its name again
pub twice_found : (tokens : List Token) (starts : List ℕ) (defs : List Definition) (i : ℕ) (d : Definition) (other : Token) → IsAgain defs i d → (0 < get_or starts i 0) × (get_or starts i 0 ≤ length tokens) → IsTwice (Duplicate (get_or tokens (length tokens - get_or starts i 0) other).span) tokens starts defs
twice_found tokens starts defs i d other again within =
    let some : 0 < get_or starts i 0 = within.0 in
    let most : get_or starts i 0 ≤ length tokens = within.1 in
    go (get_or starts i 0) (length tokens - get_or starts i 0) (omega arith) (omega arith) refl
  where
    go : (n k : ℕ) → k < length tokens → length tokens - k ≡ n → get_or starts i 0 ≡ n → IsTwice (Duplicate (get_or tokens k other).span) tokens starts defs
    go n k below left n_is =
        let here : drop k tokens ≡ get_or tokens k other ∷ drop (suc k) tokens = drop-cons tokens k other below in
        let size : length (get_or tokens k other ∷ drop (suc k) tokens) ≡ length tokens - k = ap (λ (l : List Token). length l) (sym here) ∙ length-drop k tokens in (
          i,
          d,
          again,
          (take k tokens, drop (suc k) tokens, get_or tokens k other, sym (take-append-drop k tokens) ∙ ap (λ (l : List Token). take k tokens ++ l) here, refl, size ∙ left ∙ sym n_is),
        )

-- what a call gave on success
pub ok_on : {V E : Type 0} (r : Result V E) (P Q : V → Type 0) → ((v : V) → P v → Q v) → IfOk r P → IfOk r Q
ok_on (Ok v) P Q f p = f v p
ok_on (Err e) P Q f p = tt
