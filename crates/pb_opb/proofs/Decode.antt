-- Tokens say what they say in one way only.
use Rattle.std.proofs.Common.{◌≡◌, List, [], ◌∷◌, ◌++◌, map, Option, Some, None, Bool, true, false, ℤ, sym, refl, ap, ◌∙◌, append_assoc, append-nil}
use Rattle.std.specs.List.{flat_map}
use Rattle.pb_named.specs.declared.named.NamedLit.{NamedLit}
use Rattle.pb_named.specs.NamedTerms.{NamedTerm}
use Rattle.pb_base.specs.declared.problem.Relation.{Relation}
use Rattle.pb_named.specs.declared.named.NamedStatement.{NamedStatement}
use Rattle.pb_opb.specs.Grammar.{Kind, term_kinds, sum_kinds, objective_kinds, statement_kinds, text_kinds}
use Rattle.pb_named.specs.declared.named.NamedProblem.{NamedProblem}
use Rattle.pb_opb.specs.Grammar.Kind.{minimise, integer, literal, relation, semicolon, end}

-- a token that may stand inside a sum
abbrev pub in_sum : Kind → Bool
in_sum (integer _) = true
in_sum (literal _) = true
in_sum _ = false

abbrev pub begins_literal : List Kind → Bool
begins_literal (literal _ ∷ _) = true
begins_literal _ = false

pub plain-kind : (k : Kind) (x : List Kind) → in_sum k ≡ false → begins_literal (k ∷ x) ≡ false
plain-kind (literal l) x plain = cc
plain-kind _ x plain = refl

pub plain-sum : (ts : List NamedTerm) (x : List Kind) → begins_literal x ≡ false → begins_literal (sum_kinds ts ++ x) ≡ false
plain-sum [] x plain = plain
plain-sum (t ∷ ts) x plain = refl

-- literals and what stands behind them
lits-whole : (ms ns : List NamedLit) (x y : List Kind) → begins_literal x ≡ false → begins_literal y ≡ false → map literal ms ++ x ≡ map literal ns ++ y → (ms ≡ ns) × (x ≡ y)
lits-whole [] [] x y plain_x plain_y same = (refl, same)
lits-whole [] (n ∷ ns) x y plain_x plain_y same = let bad = sym plain_x ∙ ap begins_literal same in cc
lits-whole (m ∷ ms) [] x y plain_x plain_y same = let bad = sym plain_y ∙ ap begins_literal (sym same) in cc
lits-whole (m ∷ ms) (n ∷ ns) x y plain_x plain_y same =
    let heads : m ≡ n = cc in
    let tails : map literal ms ++ x ≡ map literal ns ++ y = cc in
    let next = lits-whole ms ns x y plain_x plain_y tails in
    (λ i. heads i ∷ next.0 i, next.1)

-- literals of which one more is written
pub lits-longer : (ms ns : List NamedLit) (l : NamedLit) (x y : List Kind) → begins_literal x ≡ false → map literal ms ++ x ≡ map literal ns ++ literal l ∷ y → (more : List NamedLit) × (ms ≡ ns ++ l ∷ more)
lits-longer [] [] l x y plain same = let bad = sym plain ∙ ap begins_literal same in cc
lits-longer [] (n ∷ ns) l x y plain same = let bad = sym plain ∙ ap begins_literal same in cc
lits-longer (m ∷ ms) [] l x y plain same = let head : m ≡ l = cc in (ms, λ i. head i ∷ ms)
lits-longer (m ∷ ms) (n ∷ ns) l x y plain same =
    let heads : m ≡ n = cc in
    let tails : map literal ms ++ x ≡ map literal ns ++ literal l ∷ y = cc in
    let next = lits-longer ms ns l x y plain tails in
    (next.0, λ i. heads i ∷ next.1 i)

-- a term and what stands behind it
term-whole : (u t : NamedTerm) (x y : List Kind) → begins_literal x ≡ false → begins_literal y ≡ false → term_kinds u ++ x ≡ term_kinds t ++ y → (u ≡ t) × (x ≡ y)
term-whole u t x y plain_x plain_y same =
    let coefs : u.coef ≡ t.coef = cc in
    let lits : u.lit ≡ t.lit = cc in
    let tails : map literal u.more ++ x ≡ map literal t.more ++ y = cc in
    let rest = lits-whole u.more t.more x y plain_x plain_y tails in
    (λ i. record { coef = coefs i; lit = lits i; more = rest.0 i }, rest.1)

-- us go on from ts, and this is written behind them
pub record GoesOn (ts us : List NamedTerm) (rest : List Kind) (behind : List Kind) : Type 0 where
  pub more : List NamedTerm
  pub terms : us ≡ ts ++ more
  pub written : sum_kinds more ++ behind ≡ rest

pub sum-front : (ts us : List NamedTerm) (k : Kind) (x rest : List Kind) → in_sum k ≡ false → begins_literal rest ≡ false → sum_kinds us ++ k ∷ x ≡ sum_kinds ts ++ rest → GoesOn ts us rest (k ∷ x)
sum-front [] us k x rest plain bare same = record { more = us; terms = refl; written = same }
sum-front (t ∷ ts) [] k x rest plain bare same = let k_is : k ≡ integer t.coef = cc in let bad = sym plain ∙ ap in_sum k_is in cc
sum-front (t ∷ ts) (u ∷ us) k x rest plain bare same =
    let first = term-whole u t (sum_kinds us ++ k ∷ x) (sum_kinds ts ++ rest) (plain-sum us (k ∷ x) (plain-kind k x plain)) (plain-sum ts rest bare)
    (sym (append_assoc (term_kinds u) (sum_kinds us) (k ∷ x)) ∙ same ∙ append_assoc (term_kinds t) (sum_kinds ts) rest) in
    let next = sum-front ts us k x rest plain bare first.1 in
    record { more = next.more; terms = (λ i. first.0 i ∷ next.terms i); written = next.written }

no-more : (more : List NamedTerm) (j k : Kind) (x y : List Kind) → in_sum j ≡ false → sum_kinds more ++ k ∷ x ≡ j ∷ y → (more ≡ []) × (k ∷ x ≡ j ∷ y)
no-more [] j k x y plain same = (refl, same)
no-more (m ∷ more) j k x y plain same = let j_is : j ≡ integer m.coef = cc in let bad = sym plain ∙ ap in_sum j_is in cc

-- a whole sum
pub sum-whole : (ts us : List NamedTerm) (j k : Kind) (x y : List Kind) → in_sum j ≡ false → in_sum k ≡ false → sum_kinds us ++ k ∷ x ≡ sum_kinds ts ++ j ∷ y → (us ≡ ts) × (k ∷ x ≡ j ∷ y)
sum-whole ts us j k x y plain_j plain_k same =
    let front = sum-front ts us k x (j ∷ y) plain_k (plain-kind j y plain_j) same in
    let none = no-more front.more j k x y plain_j front.written in
    (front.terms ∙ ap (λ (ms : List NamedTerm). ts ++ ms) none.0 ∙ append-nil ts, none.1)

abbrev right_side : Relation → ℤ → List Kind → List Kind
right_side r n x = relation r ∷ integer n ∷ semicolon ∷ x

statement_assoc : (s : NamedStatement) (x : List Kind) → statement_kinds s ++ x ≡ sum_kinds s.terms ++ right_side s.relation s.right x
statement_assoc s x = append_assoc (sum_kinds s.terms) (right_side s.relation s.right []) x

statement-whole : (s q : NamedStatement) (x y : List Kind) → statement_kinds q ++ x ≡ statement_kinds s ++ y → (q ≡ s) × (x ≡ y)
statement-whole s q x y same =
    let parts = sum-whole s.terms q.terms (relation s.relation) (relation q.relation) (integer q.right ∷ semicolon ∷ x) (integer s.right ∷ semicolon ∷ y) refl refl (sym (statement_assoc q x) ∙ same ∙ statement_assoc s y) in
    let tails = parts.1 in
    let relations : q.relation ≡ s.relation = cc in
    let rights : q.right ≡ s.right = cc in
    let rest : x ≡ y = cc in
    (λ i. record { terms = parts.0 i; relation = relations i; right = rights i }, rest)

-- how the tokens of statements begin
abbrev opens : Kind → Bool
opens (integer _) = true
opens (relation _) = true
opens _ = false

statement-opens : (ts : List NamedTerm) (r : Relation) (n : ℤ) (x rest : List Kind) (k : Kind) → opens k ≡ false → k ∷ x ≡ (sum_kinds ts ++ right_side r n []) ++ rest → ⊥
statement-opens [] r n x rest k plain same = let k_is : k ≡ relation r = cc in let bad = sym plain ∙ ap opens k_is in cc
statement-opens (t ∷ ts) r n x rest k plain same = let k_is : k ≡ integer t.coef = cc in let bad = sym plain ∙ ap opens k_is in cc

-- the statements go on from those that were read
pub record StatementsGoOn (ss qs : List NamedStatement) (rest : List Kind) : Type 0 where
  pub more : List NamedStatement
  pub statements : qs ≡ ss ++ more
  pub written : flat_map statement_kinds more ++ end ∷ [] ≡ rest

statements-front : (ss qs : List NamedStatement) (rest : List Kind) → flat_map statement_kinds qs ++ end ∷ [] ≡ flat_map statement_kinds ss ++ rest → StatementsGoOn ss qs rest
statements-front [] qs rest same = record { more = qs; statements = refl; written = same }
statements-front (s ∷ ss) [] rest same =
    absurd (statement-opens s.terms s.relation s.right [] (flat_map statement_kinds ss ++ rest) end refl (same ∙ append_assoc (statement_kinds s) (flat_map statement_kinds ss) rest))
statements-front (s ∷ ss) (q ∷ qs) rest same =
    let parts = statement-whole s q (flat_map statement_kinds qs ++ end ∷ []) (flat_map statement_kinds ss ++ rest)
    (sym (append_assoc (statement_kinds q) (flat_map statement_kinds qs) (end ∷ [])) ∙ same ∙ append_assoc (statement_kinds s) (flat_map statement_kinds ss) rest) in
    let next = statements-front ss qs rest parts.1 in
    record { more = next.more; statements = (λ i. parts.0 i ∷ next.statements i); written = next.written }

pub not_minimise : (qs : List NamedStatement) (x : List Kind) → minimise ∷ x ≡ flat_map statement_kinds qs ++ end ∷ [] → ⊥
not_minimise [] x same = cc
not_minimise (q ∷ qs) x same =
    statement-opens q.terms q.relation q.right x (flat_map statement_kinds qs ++ end ∷ []) minimise refl (same ∙ append_assoc (statement_kinds q) (flat_map statement_kinds qs) (end ∷ []))

-- a text that begins so goes on from the statements that were read
pub record TextGoesOn (o : Option (List NamedTerm)) (ss : List NamedStatement) (p : NamedProblem) (rest : List Kind) : Type 0 where
  pub objective : p.objective ≡ o
  pub statements : StatementsGoOn ss p.statements rest

abbrev pub is_minimise : List Kind → Bool
is_minimise (minimise ∷ _) = true
is_minimise _ = false

text-front-by : (po o : Option (List NamedTerm)) (ss qs : List NamedStatement) (rest : List Kind) → is_minimise rest ≡ false → objective_kinds po ++ (flat_map statement_kinds qs ++ end ∷ []) ≡ objective_kinds o ++ (flat_map statement_kinds ss ++ rest) → (po ≡ o) × StatementsGoOn ss qs rest
text-front-by None None ss qs rest plain same = (refl, statements-front ss qs rest same)
text-front-by None (Some ts) ss qs rest plain same = absurd (not_minimise qs _ (sym same))
text-front-by (Some us) None [] qs rest plain same = let bad = sym plain ∙ ap is_minimise (sym same) in cc
text-front-by (Some us) None (s ∷ ss) qs rest plain same =
    absurd (statement-opens s.terms s.relation s.right _ (flat_map statement_kinds ss ++ rest) minimise refl (same ∙ append_assoc (statement_kinds s) (flat_map statement_kinds ss) rest))
text-front-by (Some us) (Some ts) ss qs rest plain same =
    let x = flat_map statement_kinds qs ++ end ∷ [] in
    let y = flat_map statement_kinds ss ++ rest in
    let tails : (sum_kinds us ++ semicolon ∷ []) ++ x ≡ (sum_kinds ts ++ semicolon ∷ []) ++ y = cc in
    let parts = sum-whole ts us semicolon semicolon x y refl refl (sym (append_assoc (sum_kinds us) (semicolon ∷ []) x) ∙ tails ∙ append_assoc (sum_kinds ts) (semicolon ∷ []) y) in
    let behind = parts.1 in
    let rests : x ≡ y = cc in
    (ap Some parts.0, statements-front ss qs rest rests)

pub text-front : (o : Option (List NamedTerm)) (ss : List NamedStatement) (p : NamedProblem) (rest : List Kind) → is_minimise rest ≡ false → text_kinds p ≡ objective_kinds o ++ flat_map statement_kinds ss ++ rest → TextGoesOn o ss p rest
text-front o ss p rest plain same =
    let parts = text-front-by p.objective o ss p.statements rest plain (sym (append_assoc (objective_kinds p.objective) (flat_map statement_kinds p.statements) (end ∷ [])) ∙ same ∙ append_assoc (objective_kinds o) (flat_map statement_kinds ss) rest) in
    record { objective = parts.0; statements = parts.1 }

nothing_more : (rs : List NamedStatement) → flat_map statement_kinds rs ++ end ∷ [] ≡ end ∷ [] → rs ≡ []
nothing_more [] same = refl
nothing_more (r ∷ rs) same = absurd (statement-opens r.terms r.relation r.right [] (flat_map statement_kinds rs ++ end ∷ []) end refl (sym same ∙ append_assoc (statement_kinds r) (flat_map statement_kinds rs) (end ∷ [])))

-- tokens spell one objective and one list of statements
pub one_written : (p q : NamedProblem) → text_kinds p ≡ text_kinds q → p ≡ q
one_written p q same =
    let front = text-front q.objective q.statements p (end ∷ []) refl same in
    let rest = front.statements in
    let statements : p.statements ≡ q.statements = rest.statements ∙ ap (λ (rs : List NamedStatement). q.statements ++ rs) (nothing_more rest.more rest.written) ∙ append-nil q.statements in
    λ i. record { objective = front.objective i; statements = statements i }
