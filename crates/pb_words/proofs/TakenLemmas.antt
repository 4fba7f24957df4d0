-- What the program takes, and what its requests are.
use Rattle.std.proofs.Common.{◌≡◌, ◌≢◌, ◌∙◌, ap, sym, refl, true, List, [], ◌∷◌, Option, None, length, option_and_then, ◌==◌, inl, inr, cond, subst, Result, Err, IsErrOf, arith}
use Rattle.std.proofs.lemmas.Bool.Decides.{nat_tests}
use Rattle.clap.specs.Words.{App, HasKind, HasMatchesOf, IsAmong, Kinds, Text, fault_of, is_simple, is_simple_and_free, kind_of, subcommand_of, subcommand_rows_of}
use Rattle.clap.specs.declared.error.Error.{Error}
use Rattle.clap.specs.declared.error.kind.ErrorKind.TheVariants.{OutOfMemory}
use Rattle.clap.specs.declared.parser.matches.ArgMatches.{ArgMatches}
use Rattle.clap.proofs.OnLiterals.{clap_on_literals}
use Rattle.pb_words.specs.declared.fault.WordsFault.{WordsFault}
use Rattle.pb_words.specs.declared.fault.WordsFault.TheVariants.{Usage}
use Rattle.pb_words.specs.declared.request.Request.{Request}
use Rattle.pb_words.specs.Parsed.{program_app, parsed_of, wanted_in, Tells, Wanted}

is_free : is_simple_and_free program_app ≡ true
unfolding clap_on_literals
is_free = refl

is_plain : is_simple program_app ≡ true
unfolding clap_on_literals
is_plain = refl

-- a fault that is found is counted
pub found : {X : Type 0} (k : X) (ks : List X) (o : Option Wanted) → cond (length (k ∷ ks) == 0) o None ≡ None
found k ks o = grind (arith, nat_tests)

-- words that clap refuses are not taken
refused : (words : List Text) (e : Error) → HasKind (fault_of program_app words) e → kind_of e ≢ OutOfMemory → parsed_of words ≡ None
unfolding parsed_of
refused words e (inl memory) other = absurd (other memory)
refused words e (inr among) other = go (fault_of program_app words) among
  where
    go : (ks : Kinds) → IsAmong (kind_of e) ks → cond (length ks == 0) (option_and_then wanted_in (subcommand_of program_app words)) None ≡ None
    go [] among = absurd among
    go (k ∷ ks) among = found k ks _

-- of words that clap takes, the matches say what is asked for
accepted : (words : List Text) (m : ArgMatches) → fault_of program_app words ≡ [] → HasMatchesOf program_app words m
    → parsed_of words ≡ option_and_then wanted_in (subcommand_rows_of m)
unfolding parsed_of
accepted words m none has = rw none (ap (option_and_then wanted_in) (sym (has is_plain).1))

-- the same, of a command that was built as the program's
pub refused_by : (app : App) (words : List Text) (e : Error) → app ≡ program_app
    → (is_simple_and_free app ≡ true → HasKind (fault_of app words) e) → kind_of e ≢ OutOfMemory → parsed_of words ≡ None
refused_by app words e is kinds other =
    refused words e (subst (λ a. HasKind (fault_of a words) e) is (kinds (ap is_simple_and_free is ∙ is_free))) other

pub accepted_by : (app : App) (words : List Text) (m : ArgMatches) → app ≡ program_app
    → (is_simple_and_free app ≡ true → fault_of app words ≡ []) → HasMatchesOf app words m → parsed_of words ≡ option_and_then wanted_in (subcommand_rows_of m)
accepted_by app words m is kinds has =
    let none : fault_of program_app words ≡ [] = ap (λ a. fault_of a words) (sym is) ∙ kinds (ap is_simple_and_free is ∙ is_free) in
    accepted words m none (subst (λ a. HasMatchesOf a words m) is has)

pub refusal_is : (f : WordsFault) → IsErrOf {T = Request} (Err f) Usage → f ≡ Usage
refusal_is f h = cc

-- what is said of the command is said of the words
pub told : (words : List Text) (wanted : Option Wanted) (x : Result Request WordsFault) → parsed_of words ≡ wanted → Tells wanted x → Tells (parsed_of words) x
told words wanted x is tells = subst (λ (w : Option Wanted). Tells w x) (sym is) tells
