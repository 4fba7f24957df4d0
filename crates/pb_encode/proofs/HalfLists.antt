-- What holds of both halves of each statement holds of all loaded constraints of statements.
use Rattle.std.proofs.Common.{List, [], ◌∷◌, map}
use Rattle.std.specs.Prelude.{All}
use Rattle.std.proofs.lemmas.List.Elements.{All-nil, All-cons, All-head, All-tail, All-append}
use Rattle.pb_base.specs.declared.problem.Relation.{Relation}
use Rattle.pb_base.specs.declared.problem.Relation.TheVariants.{AtLeast, AtMost, Equal}
use Rattle.pb_base.specs.declared.problem.Raw.{Raw}
use Rattle.pb_norm.specs.declared.halves.Half.{Half}
use Rattle.pb_norm.specs.declared.halves.Half.TheVariants.{Lower, Upper}
use Rattle.pb_norm.specs.Constraints.{Constraint}
use Rattle.pb_norm.specs.Halves.{constraints_of, half_of, halves_of, loaded}

halves_each : (P : Constraint → Type 0) (s : Raw) → ((half : Half) → P (half_of half s)) → (r : Relation) → All P (map (λ half. half_of half s) (halves_of r))
halves_each P s h AtLeast = All-cons P (half_of Lower s) [] (h Lower) (All-nil P)
halves_each P s h AtMost = All-cons P (half_of Upper s) [] (h Upper) (All-nil P)
halves_each P s h Equal = All-cons P (half_of Lower s) (half_of Upper s ∷ []) (h Lower) (All-cons P (half_of Upper s) [] (h Upper) (All-nil P))

pub loaded_each : (P : Constraint → Type 0) (Q : Raw → Type 0) → ((s : Raw) (half : Half) → Q s → P (half_of half s)) → (ss : List Raw) → All Q ss → All P (loaded ss)
loaded_each P Q h [] all = All-nil P
loaded_each P Q h (s ∷ ss) all = All-append P (constraints_of s) (loaded ss) (halves_each P s (λ half. h s half (All-head Q s ss all)) s.relation) (loaded_each P Q h ss (All-tail Q s ss all))
