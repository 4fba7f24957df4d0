-- The clauses of groups of constraints that are handed over one after another.
use Rattle.std.proofs.Common.{◌≡◌, ◌≤◌, ◌+◌, ◌++◌, ℕ, List, All, ◌∷◌, sym, ap, subst, arith}
use Rattle.std.specs.Prelude.{Result, IsErrAnd}
use Rattle.std.proofs.lemmas.List.Elements.{All-head, All-tail}
use Rattle.std.proofs.lemmas.List.Sums.{sum_by-cons}
use Rattle.pb_family.specs.Handing.{HandsIfMemory, StopsInClauses, TakesClauses}
use Rattle.pb_family.specs.Sinks.{SinkState}
use Rattle.pb_family.specs.declared.sink.SinkFault.{SinkFault}
use Rattle.pb_family.proofs.Emission.{Emitting, emitting_from, emitting_step}
use Rattle.pb_family.proofs.Stopping.{stops_fault}
use Rattle.pb_base.specs.declared.options.Options.{Options}
use Rattle.pb_encode.specs.declared.groups.Group.{Group}
use Rattle.pb_encode.specs.Clauses.{clauses_from, fresh_total}
use Rattle.pb_encode.specs.Groups.{group_clauses, group_fresh}
use Rattle.pb_encode.specs.inner.GroupPlans.{IsSound}
use Rattle.pb_encode.proofs.GroupParts.{sound_later}

-- of the clauses of all these groups those of some are left, whose fresh variables begin with a number
pub record Streams {R : Type 0} (o : Options) (first : ℕ) (all left : List Group) (next : ℕ) (old now : SinkState R) : Type 0 where
  pub next_is : next + fresh_total o left ≡ first + fresh_total o all
  pub later : first ≤ next
  pub sound : All (IsSound first) left
  pub handed : Emitting (clauses_from o first all) (clauses_from o next left) old now

pub streams_begin : {R : Type 0} (o : Options) (first next : ℕ) (all left : List Group) (a : SinkState R) → next ≡ first → left ≡ all → All (IsSound first) all → Streams o first all left next a a
streams_begin o first next all left a first_is all_are sound = record {
  next_is = λ i. first_is i + fresh_total o (all_are i);
  later = omega (arith, first_is);
  sound = subst (All (IsSound first)) (sym all_are) sound;
  handed = emitting_from a (λ i. clauses_from o (sym first_is i) (sym all_are i));
}

-- those of one that is left come next
module _ {R : Type 0} {o : Options} {first next : ℕ} {all left : List Group} {a b : SinkState R} (g : Group) (rest : List Group) (parts : left ≡ g ∷ rest) (so_far : Streams o first all left next a b) where
  next_piece : Emitting (clauses_from o first all) (group_clauses o g next ++ clauses_from o (next + group_fresh o g) rest) a b
  next_piece = subst (λ (gs : List Group). Emitting (clauses_from o first all) (clauses_from o next gs) a b) parts so_far.handed

  total : fresh_total o left ≡ group_fresh o g + fresh_total o rest
  total = omega (arith, ap (fresh_total o) parts, sum_by-cons (group_fresh o) g rest)

  -- what was asked for all suffices for it
  pub streams_sound : IsSound next g
  streams_sound = sound_later first next g so_far.later (All-head (IsSound first) g rest (subst (All (IsSound first)) parts so_far.sound))

  pub streams_more : (last : ℕ) (c : SinkState R) → last ≡ next + group_fresh o g → TakesClauses (group_clauses o g next) b c → Streams o first all rest last a c
  streams_more last c is taken = record {
    next_is = omega (arith, is, so_far.next_is, total);
    later = omega (arith, is, so_far.later);
    sound = All-tail (IsSound first) g rest (subst (All (IsSound first)) parts so_far.sound);
    handed = subst (λ (n : ℕ). Emitting (clauses_from o first all) (clauses_from o n rest) a c) (sym is) (emitting_step (group_clauses o g next) c next_piece taken);
  }

  pub streams_stop : {T : Type 0} (c : SinkState R) (r : Result T SinkFault) (f : SinkFault) → IsErrAnd r (λ e. e ≡ f) → StopsInClauses (group_clauses o g next) b c f → HandsIfMemory (clauses_from o first all) r a c
  streams_stop c r f is stops = stops_fault r f (group_clauses o g next) (clauses_from o (next + group_fresh o g) rest) c is next_piece stops
