-- What is put of a refusal's words.
use Rattle.std.proofs.Common.{◌≡◌, ◌≢◌, ◌∙◌, ℕ, Bool, true, false, List, Some, None, ap, length, refl, subst, sym}
use Rattle.std.specs.Prelude.{◌==◌, ◌&&◌, ◌||◌, if◌then◌else◌}
use Rattle.std.proofs.lemmas.Bool.{false≢true}
use Rattle.pb_suite.specs.declared.outcome.Outcome.{Outcome}
use Rattle.pb_suite.specs.declared.outcome.Outcome.TheVariants as outcome
use Rattle.pbcnf_c.specs.declared.refusal.PbcnfRefusal.{PbcnfRefusal}
use Rattle.pbcnf_c.specs.Refusals.{file_number, refusal_of}
use Rattle.pbcnf_c.specs.Rooms.{Fills}
use Rattle.pbcnf_c.specs.Rooms.Ends.{made, stopped}
use Rattle.pbcnf_c.specs.WordsSaid.{blamed, call_words, IsProper, SaysRefusal, StopsSaying}
use Rattle.pbcnf_c.specs.WordsSaid.StopsSaying.{no_memory, unknown}
use Rattle.pbcnf_c.specs.inner.Blames.{blame_in, may_blame, without_blame}
use Rattle.pbcnf_c.proofs.Numbered.{file_told}

-- ---- the number of the constraint to blame

abbrev MayBlame : Outcome → Type 0
MayBlame outcome.Usage = Unit {0}
MayBlame (outcome.Limit None which place) = Unit {0}
MayBlame other = ⊥

abbrev at_limit : Bool → Bool
at_limit file_is_none = (3 == 2) || ((3 == 3) && file_is_none)

blames : (o : Outcome) → may_blame (refusal_of o) ≡ true → MayBlame o
blames outcome.Done may = false≢true may
blames (outcome.Refused f place e) may = false≢true may
blames outcome.Usage may = tt
blames (outcome.Limit None which place) may = tt
blames (outcome.Limit (Some f) which place) may = false≢true (sym (ap at_limit (file_told f)) ∙ may)
blames outcome.ReadFault may = false≢true may
blames outcome.WriteFault may = false≢true may
blames outcome.NoMemory may = false≢true may
blames (outcome.Rejected line d) may = false≢true may
blames (outcome.NotASolution statement) may = false≢true may
blames outcome.NoModel may = false≢true may
blames outcome.NoObjective may = false≢true may
blames (outcome.NotRefuted line why) may = false≢true may

with_number : (at : ℕ) (o : Outcome) → MayBlame o → record (refusal_of o) { number = at } ≡ blamed at o
with_number at outcome.Usage may = refl
with_number at (outcome.Limit None which place) may = refl
with_number at outcome.Done may = absurd may
with_number at (outcome.Refused f place e) may = absurd may
with_number at (outcome.Limit (Some f) which place) may = absurd may
with_number at outcome.ReadFault may = absurd may
with_number at outcome.WriteFault may = absurd may
with_number at outcome.NoMemory may = absurd may
with_number at (outcome.Rejected line d) may = absurd may
with_number at (outcome.NotASolution statement) may = absurd may
with_number at outcome.NoModel may = absurd may
with_number at outcome.NoObjective may = absurd may
with_number at (outcome.NotRefuted line why) may = absurd may

-- nobody is to blame
unblamed : (o : Outcome) → refusal_of o ≡ blamed 0 o
unblamed outcome.Done = refl
unblamed (outcome.Refused f place e) = refl
unblamed outcome.Usage = refl
unblamed (outcome.Limit None which place) = refl
unblamed (outcome.Limit (Some f) which place) = refl
unblamed outcome.ReadFault = refl
unblamed outcome.WriteFault = refl
unblamed outcome.NoMemory = refl
unblamed (outcome.Rejected line d) = refl
unblamed (outcome.NotASolution statement) = refl
unblamed outcome.NoModel = refl
unblamed outcome.NoObjective = refl
unblamed (outcome.NotRefuted line why) = refl

blamed_by : (r : PbcnfRefusal) (o : Outcome) (may : Bool) → may_blame r ≡ may → (if may then record r { number = 0 } else r) ≡ refusal_of o → r ≡ blamed (if may then r.number else 0) o
blamed_by r o true may is =
    ap (λ (q : PbcnfRefusal). record q { number = r.number }) is
    ∙ with_number r.number o (blames o (sym (ap may_blame is) ∙ may))
blamed_by r o false may is = is ∙ unblamed o

-- the numbers without it are those of an outcome
pub told_by : (r : PbcnfRefusal) (o : Outcome) → without_blame r ≡ refusal_of o → r ≡ blamed (blame_in r) o
told_by r o is = blamed_by r o (may_blame r) refl is

back : (at : ℕ) (o : Outcome) → without_blame (blamed at o) ≡ refusal_of o
back at outcome.Done = refl
back at (outcome.Refused f place e) = refl
back at outcome.Usage = refl
back at (outcome.Limit None which place) = refl
back at (outcome.Limit (Some f) which place) =
    let told = refusal_of (outcome.Limit (Some f) which place) in
    ap (λ (none : Bool). if at_limit none then record told { number = 0 } else told) (file_told f)
back at outcome.ReadFault = refl
back at outcome.WriteFault = refl
back at outcome.NoMemory = refl
back at (outcome.Rejected line d) = refl
back at (outcome.NotASolution statement) = refl
back at outcome.NoModel = refl
back at outcome.NoObjective = refl
back at (outcome.NotRefuted line why) = refl

-- ---- the call

pub words_put : (r plain : PbcnfRefusal) (o : Outcome) (at : ℕ) (words old new : List ℕ) (count : ℕ) (answer : Outcome) → plain ≡ without_blame r → plain ≡ refusal_of o → at ≡ blame_in r → words ≡ call_words at o → Fills words old new answer → count ≡ length words → SaysRefusal r old new count answer
words_put r plain o at words old new count answer without has is are fills counted =
    made words answer (record { told = o; at = at; has_numbers = told_by r o (sym without ∙ has) ∙ ap (λ (n : ℕ). blamed n o) (sym is); words_are = are; count_is = counted }) fills

pub no_words : (r : PbcnfRefusal) (old : List ℕ) (count : ℕ) (answer : Outcome) → StopsSaying r answer → count ≡ 0 → SaysRefusal r old old count answer
no_words r old count answer stops none = stopped answer stops refl none

pub not_known : (r plain : PbcnfRefusal) (answer : Outcome) → plain ≡ without_blame r → ((o : Outcome) → IsProper o → plain ≢ refusal_of o) → answer ≡ outcome.Usage → StopsSaying r answer
not_known r plain answer without none is =
    subst (StopsSaying r) (sym is) (unknown (λ at o proper has. none o proper (without ∙ ap without_blame has ∙ back at o)))

pub wants : (r : PbcnfRefusal) (answer : Outcome) → answer ≡ outcome.NoMemory → StopsSaying r answer
wants r answer is = subst (StopsSaying r) (sym is) no_memory
