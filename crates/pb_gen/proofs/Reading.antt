-- A generated text says the generated problem.
use Rattle.std.proofs.Common.{◌≡◌, ◌≤◌, ◌^◌, ◌+◌, max, ℕ, List, [], ◌∷◌, ◌++◌, length, map, refl, sym, ap, ◌∙◌, arith, None}
use Rattle.std.specs.Prelude.{unsigned_abs}
use Rattle.std.specs.List.{AllByRecursion, flat_map}
use Rattle.std.specs.Str.{bytes_eq}
use Rattle.pb_base.specs.declared.limit.LimitKind.{LimitKind}
use Rattle.pb_base.specs.declared.limit.LimitKind.TheVariants.{Name, Statements, Terms, Variables, Weight}
use Rattle.pb_base.specs.declared.literal.Term.{Term}
use Rattle.pb_base.specs.declared.problem.Raw.{Raw}
use Rattle.pb_base.specs.Firsts.{firsts}
use Rattle.pb_base.specs.Places.{start}
use Rattle.pb_base.specs.Tokens.{tokens_of, uncommented, Piece}
use Rattle.pb_named.specs.NamedProblems.{all_names, free_names, greatest, names_of, problem_of, products_of, table_of}
use Rattle.pb_named.specs.Products.{same_product}
use Rattle.pb_named.specs.declared.named.NamedProblem.{NamedProblem}
use Rattle.pb_opb.specs.Faults.{kinds, symbol, Reads, Spells, Symbol}
use Rattle.pb_opb.specs.FirstLine.{told_vars}
use Rattle.pb_opb.specs.Grammar.{kind_of, Kind}
use Rattle.pb_opb.specs.Grammar.Kind.{end}
use Rattle.pb_opb.specs.Limits.{AllLits, CountKeeps, IsModest, IsNear, Keeps, SumKeeps}
use Rattle.pb_gen.specs.Generated.{drawn_statements, generated, generated_problem, statement_text}
use Rattle.pb_gen.proofs.Headers.{header_is, header_rest, header_told, rest_is_line}
use Rattle.pb_gen.proofs.Indexed.{greatest_append, indexed_statement, indexed_term, literals_as_many, same_magnitude, statements_as_many, statements_back, statements_unfree, statements_unmultiplied}
use Rattle.pb_gen.proofs.KindLemmas.{statements_spelled, CanBePrinted, IsPrintable}
use Rattle.pb_gen.proofs.Lengths.{text_short}
use Rattle.pb_gen.proofs.Small.{magnitude_small, statements_count, statements_small, IsSmall, IsSmallTerm}
use Rattle.pb_gen.proofs.TokenLemmas.{bare_from, bare_tokens, comment_skipped}

-- ---- small numbers can be printed

terms_printable : (vars : ℕ) (ts : List Term) → AllByRecursion (IsSmallTerm vars) ts → AllByRecursion IsPrintable ts
terms_printable vars [] are = tt
terms_printable vars (t ∷ ts) are = (record { weight = are.0.weight; is = are.0.is; small = omega arith; low = are.0.low; near = omega arith }, terms_printable vars ts are.1)

statements_printable : (vars : ℕ) (ss : List Raw) → AllByRecursion (IsSmall vars) ss → AllByRecursion CanBePrinted ss
statements_printable vars [] are = tt
statements_printable vars (s ∷ ss) are = (record { terms = terms_printable vars s.terms are.0.terms; right = are.0.right; is = are.0.is; small = omega arith }, statements_printable vars ss are.1)

-- ---- the tokens

kinds-symbols : (ts : List Piece) (last : Symbol) → kinds (map symbol ts ++ last ∷ []) ≡ map kind_of (map (λ t. t.text) ts) ++ last.kind ∷ []
kinds-symbols [] last = refl
kinds-symbols (t ∷ ts) last = ap (λ (ks : List Kind). kind_of t.text ∷ ks) (kinds-symbols ts last)

written : ℕ → ℕ → NamedProblem
written n seed = record { objective = None; statements = map indexed_statement (drawn_statements (n + 10) n seed) }

spelled : (n seed : ℕ) → n ≤ 2 ^ 24 → Spells (generated n seed) (written n seed)
unfolding written
spelled n seed few =
    let ss = drawn_statements (n + 10) n seed in
    let rest = flat_map statement_text ss in
    kinds-symbols (tokens_of (generated n seed)) _
    ∙ ap (λ (ts : List (List ℕ)). map kind_of ts ++ end ∷ []) (
    bare_from start (uncommented (generated n seed))
    ∙ ap (λ (xs : List ℕ). bare_tokens (uncommented xs)) (header_is (n + 10) n rest)
    ∙ comment_skipped 32 (header_rest (n + 10) n) rest (rest_is_line (n + 10) n (omega arith) (omega arith)))
    ∙ ap (λ (ks : List Kind). ks ++ end ∷ []) (statements_spelled ss (statements_printable (n + 10) ss (statements_small (n + 10) n seed (omega arith))))

-- ---- the variables

terms_within : (vars : ℕ) (ts : List Term) → AllByRecursion (IsSmallTerm vars) ts → greatest (names_of (map indexed_term ts)) ≤ vars
terms_within vars [] are = omega arith
terms_within vars (t ∷ ts) are = omega (arith, are.0.within, terms_within vars ts are.1)

statements_within : (vars : ℕ) (ss : List Raw) → AllByRecursion (IsSmall vars) ss → greatest (flat_map (λ s. names_of s.terms) (map indexed_statement ss)) ≤ vars
statements_within vars [] are = omega arith
statements_within vars (s ∷ ss) are =
    greatest_append (names_of (map indexed_term s.terms)) (flat_map (λ u. names_of u.terms) (map indexed_statement ss)) vars (terms_within vars s.terms are.0.terms) (statements_within vars ss are.1)

told : (n seed : ℕ) → n ≤ 2 ^ 24 → told_vars (generated n seed) ≡ n + 10
told n seed few = header_told (n + 10) n (flat_map statement_text (drawn_statements (n + 10) n seed)) (omega arith) (omega arith)

means : (n seed : ℕ) → n ≤ 2 ^ 24 → generated_problem n seed ≡ problem_of (told_vars (generated n seed)) (written n seed)
unfolding written
means n seed few =
    let ss = drawn_statements (n + 10) n seed in
    let ns = all_names (written n seed) in
    let within = statements_within (n + 10) ss (statements_small (n + 10) n seed (omega arith)) in
    let numbered : n + 10 ≡ max (told_vars (generated n seed)) (greatest ns) = omega (arith, told n seed few, within) in
    let names : [] ≡ free_names ns = ap (firsts bytes_eq) (sym (statements_unfree ss)) in
    let vars : n + 10 ≡ max (told_vars (generated n seed)) (greatest ns) + length (free_names ns) = omega (arith, numbered, ap length names) in
    let t = table_of (told_vars (generated n seed)) ns in
    let products : [] ≡ products_of t (written n seed) = ap (firsts same_product) (sym (statements_unmultiplied t ss)) in
    let statements = sym (statements_back t (products_of t (written n seed)) ss) in
    λ i. record { vars = vars i; numbered = numbered i; names = names i; products = products i; objective = None; statements = statements i }

-- ---- the limits

terms_low : (vars : ℕ) (ts : List Term) → AllByRecursion (IsSmallTerm vars) ts → AllLits IsNear (map indexed_term ts)
terms_low vars [] are = tt
terms_low vars (t ∷ ts) are = ((omega (arith, are.0.near), tt), terms_low vars ts are.1)

terms_unnamed : (ts : List Term) → AllLits IsModest (map indexed_term ts)
terms_unnamed [] = tt
terms_unnamed (t ∷ ts) = ((omega arith, tt), terms_unnamed ts)

sum_kept : (which : LimitKind) (vars : ℕ) (s : Raw) → IsSmall vars s → SumKeeps which (map indexed_term s.terms) (unsigned_abs s.right)
sum_kept Terms vars s is = omega (arith, is.count, literals_as_many s.terms)
sum_kept Weight vars s is =
    let right : unsigned_abs s.right ≡ is.right = ap unsigned_abs is.is in
    omega (arith, right, is.most, is.count, magnitude_small vars s.terms is.terms, same_magnitude s.terms)
sum_kept Variables vars s is = terms_low vars s.terms is.terms
sum_kept Name vars s is = terms_unnamed s.terms
sum_kept _ vars s is = tt

sums_kept : (which : LimitKind) (vars : ℕ) (ss : List Raw) → AllByRecursion (IsSmall vars) ss → AllByRecursion (λ s. SumKeeps which s.terms (unsigned_abs s.right)) (map indexed_statement ss)
sums_kept which vars [] are = tt
sums_kept which vars (s ∷ ss) are = (sum_kept which vars s are.0, sums_kept which vars ss are.1)

count_kept : (which : LimitKind) (count : ℕ) → count ≤ 2 ^ 24 → CountKeeps which count
count_kept Statements count few = few
count_kept _ count few = tt

kept : (n seed : ℕ) → n ≤ 2 ^ 24 → (which : LimitKind) → Keeps which (written n seed)
unfolding written
kept n seed few which =
    let ss = drawn_statements (n + 10) n seed in
    record {
      count = count_kept which (length (map indexed_statement ss)) (omega (arith, statements_as_many ss, statements_count (n + 10) n seed, few));
      objective = tt;
      statements = sums_kept which (n + 10) ss (statements_small (n + 10) n seed (omega arith));
    }

pub generated_reads : (n seed : ℕ) → n ≤ 2 ^ 24 → Reads (generated n seed) (generated_problem n seed)
generated_reads n seed few = record {
  admitted = record { bytes = text_short n seed few; few = omega (arith, told n seed few) };
  says = record { written = written n seed; spells = spelled n seed few; means = means n seed few };
  keeps = kept n seed few;
  few = omega arith;
}
