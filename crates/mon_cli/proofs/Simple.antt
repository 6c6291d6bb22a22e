-- The program is one of those whose matches clap's clauses state.
use Rattle.std.proofs.Common.{◌≡◌, true, refl, sym, subst, List, Ok, Err, Result, inl, inr}
use Rattle.clap.specs.Words.{App, FailsBy, HasMatchesOf, Text, fault_of, is_simple, is_simple_and_free, kind_of}
use Rattle.clap.specs.declared.error.Error.{Error}
use Rattle.clap.specs.declared.error.ErrorKind.TheVariants.{OutOfMemory}
use Rattle.clap.specs.declared.parser.matches.ArgMatches.{ArgMatches}
use Rattle.std.specs.Prelude.{IfOk, IsErrAnd}
use Rattle.mon_cli.specs.Program.{IsLists, Reads, program}
use Rattle.mon_cli.specs.declared.parser.Lists.{Lists}

simple : (lists : Lists) → is_simple (program lists) ≡ true
simple lists = refl

simple_and_free : (lists : Lists) → is_simple_and_free (program lists) ≡ true
simple_and_free lists = refl

-- what the clauses of a parse come to
pub reads : (lists : Lists) (app : App) (words : List Text) (r : Result ArgMatches Error) → IsLists lists → app ≡ program lists
    → IfOk r (HasMatchesOf app words) → (is_simple_and_free app ≡ true → FailsBy (fault_of app words) r) → Reads words r
reads lists app words r are is = subst (λ (a : App). IfOk r (HasMatchesOf a words) → (is_simple_and_free a ≡ true → FailsBy (fault_of a words) r) → Reads words r) (sym is) (go r)
  where
    go : (r : Result ArgMatches Error) → IfOk r (HasMatchesOf (program lists) words) → (is_simple_and_free (program lists) ≡ true → FailsBy (fault_of (program lists) words) r)
        → Reads words r
    go (Ok m) has fails = let h = has (simple lists) in (lists, are, fails (simple_and_free lists), h.0, h.1)
    go (Err e) has fails = elim (fails (simple_and_free lists)) [ inl memory ↦ inl memory | inr among ↦ inr (lists, are, among) ]

pub no_memory : (words : List Text) (r : Result ArgMatches Error) → IsErrAnd r (λ e. kind_of e ≡ OutOfMemory) → Reads words r
no_memory words (Ok m) failed = absurd failed
no_memory words (Err e) failed = inl failed
