-- How long a generated text is.
use Rattle.std.proofs.Common.{◌≡◌, ◌≤◌, ◌<◌, ◌^◌, ◌+◌, ◌*◌, ℕ, Bool, true, false, List, [], ◌∷◌, ◌++◌, length, ap, arith, length-append}
use Rattle.std.specs.Prelude.{decimal, codes}
use Rattle.std.specs.Fmt.{signed_decimal}
use Rattle.std.specs.List.{AllByRecursion, flat_map}
use Rattle.std.proofs.lemmas.Fmt.{length-decimal-le}
use Rattle.pb_base.specs.declared.literal.Term.{Term}
use Rattle.pb_base.specs.declared.problem.Raw.{Raw}
use Rattle.pb_base.specs.declared.problem.Relation.{Relation}
use Rattle.pb_base.specs.declared.problem.Relation.TheVariants.{AtLeast, AtMost, Equal}
use Rattle.pb_gen.specs.Generated.{drawn_statements, generated, header_text, relation_text, sign_text, statement_text, term_text}
use Rattle.pb_gen.proofs.Small.{statements_count, statements_small, IsSmall, IsSmallTerm}

sign_short : (positive : Bool) → length (sign_text positive) ≤ 3
sign_short true = omega arith
sign_short false = omega arith

relation_short : (r : Relation) → length (relation_text r) ≤ 3
relation_short AtLeast = omega arith
relation_short AtMost = omega arith
relation_short Equal = omega arith

of_five : (a b c d e : List ℕ) → length (a ++ b ++ c ++ d ++ e) ≡ length a + length b + length c + length d + length e
of_five a b c d e = simp length-append

of_four : (a b c d : List ℕ) → length (a ++ b ++ c ++ d) ≡ length a + length b + length c + length d
of_four a b c d = simp length-append

term_short : (vars : ℕ) (t : Term) → IsSmallTerm vars t → length (term_text t) ≤ 12
term_short vars t is =
    let weight : length (signed_decimal t.coef) ≡ length (decimal is.weight) = ap (λ z. length (signed_decimal z)) is.is in
    omega (
      arith,
      of_five (codes "+") (signed_decimal t.coef) (sign_text t.lit.positive) (decimal t.lit.var) (codes " "),
      weight,
      sign_short t.lit.positive,
      length-decimal-le 2 is.weight (omega arith) (omega arith) (omega arith),
      length-decimal-le 5 t.lit.var (omega arith) (omega arith) (omega arith),
    )

terms_short : (vars : ℕ) (ts : List Term) → AllByRecursion (IsSmallTerm vars) ts → length (flat_map term_text ts) ≤ 12 * length ts
terms_short vars [] are = omega arith
terms_short vars (t ∷ ts) are = omega (arith, length-append (term_text t) (flat_map term_text ts), term_short vars t are.0, terms_short vars ts are.1)

statement_short : (vars : ℕ) (s : Raw) → IsSmall vars s → length (statement_text s) ≤ 141
statement_short vars s is =
    let right : length (signed_decimal s.right) ≡ length (decimal is.right) = ap (λ z. length (signed_decimal z)) is.is in
    omega (
      arith,
      of_four (flat_map term_text s.terms) (relation_text s.relation) (signed_decimal s.right) (codes " ;\n"),
      right,
      terms_short vars s.terms is.terms,
      is.count,
      relation_short s.relation,
      length-decimal-le 3 is.right (omega arith) (omega arith) (omega arith),
    )

statements_short : (vars : ℕ) (ss : List Raw) → AllByRecursion (IsSmall vars) ss → length (flat_map statement_text ss) ≤ 141 * length ss
statements_short vars [] are = omega arith
statements_short vars (s ∷ ss) are = omega (arith, length-append (statement_text s) (flat_map statement_text ss), statement_short vars s are.0, statements_short vars ss are.1)

header_short : (vars n : ℕ) → vars < 2 ^ 31 → n < 2 ^ 31 → length (header_text vars n) ≤ 48
header_short vars n many few =
    omega (
      arith,
      of_five (codes "* #variable= ") (decimal vars) (codes " #constraint= ") (decimal n) (codes "\n"),
      length-decimal-le 10 vars (omega arith) (omega arith) (omega arith),
      length-decimal-le 10 n (omega arith) (omega arith) (omega arith),
    )

pub text_short : (n seed : ℕ) → n ≤ 2 ^ 24 → length (generated n seed) ≤ 2 ^ 32
text_short n seed few =
    let ss = drawn_statements (n + 10) n seed in
    omega (
      arith,
      length-append (header_text (n + 10) n) (flat_map statement_text ss),
      header_short (n + 10) n (omega arith) (omega arith),
      statements_short (n + 10) ss (statements_small (n + 10) n seed (omega arith)),
      statements_count (n + 10) n seed,
    )
