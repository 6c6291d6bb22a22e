-- Reading by longest pieces: what is at a place, one more piece, and that no text is read whole and
-- also stuck.
use Rattle.std.proofs.Common.{◌≡◌, ℕ, zero, suc, ◌+◌, ◌<◌, ◌≤◌, List, [], ◌∷◌, ◌++◌, length, take, drop, Option, Some, None, Result, Ok, Err, rules, sym, refl, ap, ◌∙◌, subst, arith, append_assoc, append-nil, take-append-drop, length-take-le, length-append, ◌⊎◌, ⊎_elim}
use Rattle.std.specs.Prelude.{IfSome, IfOk, IsErr, IsTrue}
use Rattle.mon_smi.specs.declared.kind.TokenKind.{TokenKind}
use Rattle.mon_smi.specs.declared.token.Token.{Token}
use Rattle.mon_smi.specs.declared.token.Piece.{Piece}
use Rattle.mon_smi.specs.declared.text_fault.TextFault.{TextFault}
use Rattle.mon_smi.specs.declared.text_fault.TextFault.TheVariants.{OutOfMemory, Unclosed, Unexpected, Duplicate}
use Rattle.mon_smi.specs.Tokens.{char_len, IsSpelled, IsComment, is_space, IsPiece, IsPieceOf, IsTokenized, NothingStands, bytes_of, token_of, tokens_of, AreTokens, IsStuck, IsFaultAt, IsFaultOfTokens}
use Rattle.mon_smi.specs.Scan.{piece_at}
use Rattle.mon_smi.proofs.Taken.{TakenAs, Taken, spelled_at}
use Rattle.mon_smi.proofs.Found.{piece, found_at, passed_at}

one_piece : (p q : Piece) → Some p ≡ Some q → p ≡ q
one_piece p q is = cc

if_some : (P : Piece → Type 0) (r : Option Piece) (p : Piece) → r ≡ Some p → IfSome r P → P p
if_some P None p is h = absurd (cc)
if_some P (Some q) p is h = subst P (one_piece q p is) h

-- another token at this place is no longer
no_longer : (text : List ℕ) (kind other : TokenKind) (n m : ℕ) → piece_at text ≡ Some (piece kind n) → m ≤ length text → IsSpelled other (take m text) → m ≤ n
no_longer text kind other n m is within spelled =
    let f = found_at other (take m text) (drop m text) spelled in
    let there : Some (piece f.found f.len) ≡ Some (piece kind n) = sym f.is ∙ ap piece_at (take-append-drop m text) ∙ is in
    let same : f.len ≡ n = ap (λ (p : Piece). p.len) (one_piece (piece f.found f.len) (piece kind n) there) in
    let len : length (take m text) ≡ m = length-take-le m text within in
    let most = f.most in
    omega arith

-- what is found is a piece
pub takes : (text : List ℕ) (p : Piece) → piece_at text ≡ Some p → IsPiece p text
takes text p is = go p.kind p.len is (if_some (Taken text) (piece_at text) p is (spelled_at text))
  where
    go : (kind : Option TokenKind) (n : ℕ) → piece_at text ≡ Some (record { kind = kind; len = n }) → TakenAs kind n text → IsPieceOf kind n text
    go None n found taken = taken
    go (Some kind) n found taken = record { within = taken.0; spelled = taken.1; longest = λ other m within spelled. no_longer text kind other n m found within spelled }

-- a piece is found
pub again : (text : List ℕ) (p : Piece) → IsPiece p text → piece_at text ≡ Some p
again text p is = go p.kind p.len is
  where
    go : (kind : Option TokenKind) (n : ℕ) → IsPieceOf kind n text → piece_at text ≡ Some (record { kind = kind; len = n })
    go None n passed = passed_at n text passed
    go (Some kind) n longest =
        let f = found_at kind (take n text) (drop n text) longest.spelled in
        let found : piece_at text ≡ Some (piece f.found f.len) = ap piece_at (sym (take-append-drop n text)) ∙ f.is in
        let taken : TakenAs (Some f.found) f.len text = if_some (Taken text) (piece_at text) (piece f.found f.len) found (spelled_at text) in
        let above : f.len ≤ n = longest.longest f.found f.len taken.0 taken.1 in
        let below = f.most in
        let len : length (take n text) ≡ n = length-take-le n text longest.within in
        let n_is : f.len ≡ n = omega arith in
        found ∙ ap (λ (k : TokenKind). Some (piece k f.len)) (f.same (omega arith)) ∙ ap (λ k. Some (piece kind k)) n_is

pub nothing_stands : (text : List ℕ) → 0 < length text → piece_at text ≡ None → NothingStands text
nothing_stands text some none = (some, λ p is. let found : piece_at text ≡ Some p = again text p is in absurd (cc))

nothing_there : (p : Piece) → piece_at [] ≡ Some p → ⊥
unfolding piece_at
nothing_there p is = absurd (cc)

-- a piece has a byte at least and ends within the text
pub piece_within : (text : List ℕ) (p : Piece) → piece_at text ≡ Some p → p.len ≤ length text
piece_within text p is = go p.kind p.len (takes text p is)
  where
    go : (kind : Option TokenKind) (n : ℕ) → IsPieceOf kind n text → n ≤ length text
    go None n passed = passed.0
    go (Some kind) n longest = longest.within

pub piece_some : (text : List ℕ) (p : Piece) → piece_at text ≡ Some p → 0 < p.len
piece_some text p is = go p.kind p.len (takes text p is)
  where
    no_token : (kind : TokenKind) → IsSpelled kind [] → ⊥
    no_token kind spelled = let f = found_at kind [] [] spelled in nothing_there (piece f.found f.len) f.is

    no_comment : (rest : List ℕ) → IsComment [] rest → ⊥
    no_comment rest is =
        let lens : 0 ≡ length is.opening + length (is.remark ++ is.closing) = ap (λ (l : List ℕ). length l) is.whole ∙ length-append is.opening (is.remark ++ is.closing) in
        let two : 2 ≤ length is.opening = is.opens.0 in
        omega arith

    none_taken : ((b : ℕ) × (take 0 text ≡ b ∷ []) × IsTrue (is_space b)) ⊎ IsComment (take 0 text) (drop 0 text) → ⊥
    none_taken passed = ⊎_elim (λ space. let no : length (take 0 text) ≡ 1 = ap (λ (l : List ℕ). length l) space.1 in absurd (omega arith)) (λ comment. no_comment (drop 0 text) comment) passed

    go : (kind : Option TokenKind) (n : ℕ) → IsPieceOf kind n text → 0 < n
    go None zero passed = absurd (none_taken passed.1)
    go (Some kind) zero longest = absurd (no_token kind longest.spelled)
    go kind (suc n) is_piece = omega arith

-- what is read goes on by the piece that follows it
pub read_push : (ps : List Piece) (p : Piece) (text rest : List ℕ) → IsTokenized ps text rest → IsPiece p rest → IsTokenized (ps ++ p ∷ []) text (drop p.len rest)
read_push [] p text rest read piece = (subst (λ (t : List ℕ). IsPiece p t) (sym read) piece, ap (λ t. drop p.len t) read)
read_push (q ∷ qs) p text rest read piece = (read.0, read_push qs p (drop q.len text) rest read.1 piece)

-- the token of one more piece comes last
pub tokens_push : (start : ℕ) (ps : List Piece) (p : Piece) → tokens_of start (ps ++ p ∷ []) ≡ tokens_of start ps ++ token_of (start + bytes_of ps) p.len p.kind
tokens_push start [] p =
    let here : start ≡ start + 0 = omega arith in
    append-nil (token_of start p.len p.kind) ∙ ap (λ n. token_of n p.len p.kind) here
tokens_push start (q ∷ qs) p =
    let later : start + q.len + bytes_of qs ≡ start + (q.len + bytes_of qs) = omega arith in
    ap (λ (ts : List Token). token_of start q.len q.kind ++ ts) (tokens_push (start + q.len) qs p ∙ ap (λ n. tokens_of (start + q.len) qs ++ token_of n p.len p.kind) later)
    ∙ sym (append_assoc (token_of start q.len q.kind) (tokens_of (start + q.len) qs) (token_of (start + (q.len + bytes_of qs)) p.len p.kind))

pub bytes_push : (ps : List Piece) (p : Piece) → bytes_of (ps ++ p ∷ []) ≡ bytes_of ps + p.len
bytes_push [] p = omega arith
bytes_push (q ∷ qs) p = let more = bytes_push qs p in omega arith

drop_nothing : (n : ℕ) (text : List ℕ) → text ≡ [] → drop n text ≡ []
drop_nothing zero [] is = refl
drop_nothing (suc n) [] is = refl
drop_nothing n (b ∷ bs) is = absurd (cc)

-- of nothing nothing is left
read_nothing : (ps : List Piece) (text rest : List ℕ) → text ≡ [] → IsTokenized ps text rest → rest ≡ []
read_nothing [] text rest is read = sym read ∙ is
read_nothing (p ∷ ps) text rest is read = read_nothing ps (drop p.len text) rest (drop_nothing p.len text is) read.1

-- at most one piece is at a place
same_piece : (text : List ℕ) (p q : Piece) → IsPiece p text → IsPiece q text → p ≡ q
same_piece text p q a b = one_piece p q (sym (again text p a) ∙ again text q b)

-- a text that is read whole comes to no place where no piece is
pub never_stuck : (ps qs : List Piece) (text rest : List ℕ) → IsTokenized ps text [] → IsTokenized qs text rest → NothingStands rest → ⊥
never_stuck [] qs text rest whole read stuck =
    let none : length rest ≡ 0 = ap (λ (t : List ℕ). length t) (read_nothing qs text rest whole read) in
    let some : 0 < length rest = stuck.0 in
    omega arith
never_stuck (p ∷ ps) [] text rest whole read stuck = stuck.1 p (subst (λ (t : List ℕ). IsPiece p t) read whole.0)
never_stuck (p ∷ ps) (q ∷ qs) text rest whole read stuck =
    let same : q ≡ p = same_piece text q p read.0 whole.0 in
    never_stuck ps qs (drop p.len text) rest whole.1 (subst (λ (r : Piece). IsTokenized qs (drop r.len text) rest) same read.1) stuck

-- a text has at most one list of pieces, except one of no bytes
pub one_list : (ps qs : List Piece) (text : List ℕ) → IsTokenized ps text [] → IsTokenized qs text [] → ((p : Piece) → IsPiece p [] → ⊥) → ps ≡ qs
one_list [] [] text a b none = refl
one_list [] (q ∷ qs) text a b none = absurd (none q (subst (λ (t : List ℕ). IsPiece q t) a b.0))
one_list (p ∷ ps) [] text a b none = absurd (none p (subst (λ (t : List ℕ). IsPiece p t) b a.0))
one_list (p ∷ ps) (q ∷ qs) text a b none =
    let same : q ≡ p = same_piece text q p b.0 a.0 in
    let rest = one_list ps qs (drop p.len text) a.1 (subst (λ (r : Piece). IsTokenized qs (drop r.len text) []) same b.1) none in
    ap (λ (r : Piece). r ∷ ps) (sym same) ∙ ap (λ (l : List Piece). q ∷ l) rest

none_at_end : (p : Piece) → IsPiece p [] → ⊥
none_at_end p is = nothing_there p (again [] p is)

pub one_cut : (text : List ℕ) (a b : List Token) → AreTokens text a → AreTokens text b → a ≡ b
one_cut text a b is other = is.2 ∙ ap (λ (l : List Piece). tokens_of 0 l) (one_list is.0 other.0 text is.1 other.1 none_at_end) ∙ sym other.2

-- ---- the loop

-- so far these tokens are read, and this is left
pub record IsSoFar (text : List ℕ) (tokens : List Token) (start : ℕ) (rest : List ℕ) : Type 0 where
  pub pieces : List Piece
  pub read : IsTokenized pieces text rest
  pub at : bytes_of pieces ≡ start
  pub are : tokens ≡ tokens_of 0 pieces
  pub within : start + length rest ≡ length text

pub start_of : (text : List ℕ) → IsSoFar text [] 0 text
start_of text = record { pieces = []; read = refl; at = refl; are = refl; within = omega arith }

pub next_of : (text : List ℕ) (tokens : List Token) (start : ℕ) (rest : List ℕ) (p : Piece) (more : List Token) → IsSoFar text tokens start rest → piece_at rest ≡ Some p → more ≡ tokens ++ token_of start p.len p.kind → IsSoFar text more (start + p.len) (drop p.len rest)
next_of text tokens start rest p more so found is =
    let below : p.len ≤ length rest = piece_within rest p found in
    let lens : length (drop p.len rest) + p.len ≡ length rest = dropped p.len rest below in
    let within = so.within in
    let from_zero : 0 + bytes_of so.pieces ≡ start = (let at = so.at in omega arith) in
    record {
      pieces = so.pieces ++ p ∷ [];
      read = read_push so.pieces p text rest so.read (takes rest p found);
      at = bytes_push so.pieces p ∙ ap (λ n. n + p.len) so.at;
      are = is ∙ ap (λ (l : List Token). l ++ token_of start p.len p.kind) so.are ∙ ap (λ n. tokens_of 0 so.pieces ++ token_of n p.len p.kind) (sym from_zero) ∙ sym (tokens_push 0 so.pieces p);
      within = omega arith;
    }
  where
    dropped : (n : ℕ) (l : List ℕ) → n ≤ length l → length (drop n l) + n ≡ length l
    dropped zero l le = omega arith
    dropped (suc n) [] le = absurd (omega arith)
    dropped (suc n) (x ∷ l) le = let more_len = dropped n l (omega arith) in omega arith

pub ended_at : (text : List ℕ) (tokens : List Token) (start : ℕ) (rest : List ℕ) → IsSoFar text tokens start rest → length rest ≡ 0 → AreTokens text tokens
ended_at text tokens start [] so none = (so.pieces, so.read, so.are)
ended_at text tokens start (b ∷ bs) so none = absurd (omega arith)

pub stuck_at : (text : List ℕ) (tokens : List Token) (start : ℕ) (rest : List ℕ) (e : TextFault) → IsSoFar text tokens start rest → 0 < length rest → piece_at rest ≡ None → IsFaultAt e start rest → IsFaultOfTokens e text
stuck_at text tokens start rest OutOfMemory so some none fault = tt
stuck_at text tokens start rest Unclosed so some none fault = (start, rest, (so.pieces, so.read, so.at, nothing_stands rest some none), fault)
stuck_at text tokens start rest (Unexpected span) so some none fault = (rest, (so.pieces, so.read, so.at ∙ sym fault.0, nothing_stands rest some none), fault.1 ∙ ap (λ n. n + char_len rest) (sym fault.0), fault.2)
stuck_at text tokens start rest (Duplicate span) so some none fault = fault

pub not_stuck : (text : List ℕ) (tokens : List Token) (at : ℕ) (rest : List ℕ) → AreTokens text tokens → IsStuck text at rest → ⊥
not_stuck text tokens at rest are stuck = never_stuck are.0 stuck.0 text rest are.1 stuck.1 stuck.3

pub next_smaller : (rest : List ℕ) (p : Piece) → piece_at rest ≡ Some p → length (drop p.len rest) < length rest
next_smaller rest p is = go p.len rest (piece_some rest p is) (piece_within rest p is)
  where
    go : (n : ℕ) (l : List ℕ) → 0 < n → n ≤ length l → length (drop n l) < length l
    go zero l some le = absurd (omega arith)
    go (suc n) [] some le = absurd (omega arith)
    go (suc zero) (x ∷ l) some le = omega arith
    go (suc (suc n)) (x ∷ l) some le = let more = go (suc n) l (omega arith) (omega arith) in omega arith

pub refused : {V E : Type 0} {P : V → Type 0} (r : Result V E) → ((v : V) → P v → ⊥) → IfOk r P → IsErr r
refused (Ok v) none is = absurd (none v is)
refused (Err e) none is = search rules
