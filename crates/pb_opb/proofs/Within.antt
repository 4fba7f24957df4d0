-- A text that begins with what was read has the sum that was read, or goes on from it.
use Rattle.std.proofs.Common.{◌≡◌, ℕ, ◌+◌, ◌<◌, ◌≤◌, ◌^◌, List, [], ◌∷◌, ◌++◌, map, Option, Some, None, false, ℤ, sym, refl, ap, ◌∙◌, subst, arith, append_assoc}
use Rattle.std.specs.Prelude.{length, unsigned_abs, IfSome}
use Rattle.std.specs.List.{AllByRecursion, flat_map}
use Rattle.std.proofs.lemmas.List.{length-append}
use Rattle.std.proofs.lemmas.List.Sums.{sum_by-append, sum_by-cons}
use Rattle.pb_named.specs.declared.named.NamedLit.{NamedLit}
use Rattle.pb_named.specs.NamedTerms.{NamedTerm, lits_of}
use Rattle.pb_base.specs.declared.problem.Relation.{Relation}
use Rattle.pb_named.specs.declared.named.NamedStatement.{NamedStatement}
use Rattle.pb_named.specs.declared.named.NamedProblem.{NamedProblem}
use Rattle.pb_base.specs.declared.limit.LimitKind.{LimitKind}
use Rattle.pb_base.specs.declared.limit.LimitKind.TheVariants.{Statements, Terms, Weight, Variables, Name}
use Rattle.pb_opb.specs.declared.stage.Part.{Part}
use Rattle.pb_opb.specs.declared.stage.Part.TheVariants.{Objective, Statement}
use Rattle.pb_opb.specs.declared.stage.Stage.{Stage}
use Rattle.pb_opb.specs.declared.stage.Stage.TheVariants.{Start, Next, Minimised, Coefficient, Literals, Related, Right}
use Rattle.pb_opb.specs.Grammar.{Kind, term_kinds, sum_kinds, objective_kinds, statement_kinds, text_kinds}
use Rattle.pb_opb.specs.Grammar.Kind.{minimise, integer, literal, relation, semicolon, end}
use Rattle.pb_opb.specs.reader.Front.{front_kinds, begun_statements, IsOpen, Ends, IsPlaced}
use Rattle.pb_opb.specs.reader.Steps.{is_open_sum, TakesLiteral}
use Rattle.pb_opb.specs.Limits.{named_magnitude, literal_count, IsNear, IsModest, AllLits, SumKeeps, Keeps, BeginsWithin}
use Rattle.pb_named.proofs.Appends.{all-behind}
use Rattle.pb_opb.proofs.Decode.{in_sum, begins_literal, plain-kind, plain-sum, lits-longer, sum-front, text-front, is_minimise, not_minimise}
use Rattle.pb_opb.proofs.Fronts.{add-coefficient, sum-last}
use Rattle.pb_opb.proofs.Longer.{literal_count-push}

abbrev RawKeeps : LimitKind → NamedStatement → Type 0
RawKeeps which s = SumKeeps which s.terms (unsigned_abs s.right)

-- the statement that was begun, and what stands behind its bare sum
pub record OpenStatement (which : LimitKind) (ts : List NamedTerm) (behind : List Kind) : Type 0 where
  pub more : List NamedTerm
  pub sign : Relation
  pub right : ℤ
  pub others : List Kind
  pub keeps : SumKeeps which (ts ++ more) (unsigned_abs right)
  pub written : sum_kinds more ++ relation sign ∷ integer right ∷ semicolon ∷ others ≡ behind

open-first : (which : LimitKind) (rs : List NamedStatement) (ts : List NamedTerm) (k : Kind) (behind : List Kind) → AllByRecursion (RawKeeps which) rs →
    begins_literal (k ∷ behind) ≡ false → flat_map statement_kinds rs ++ end ∷ [] ≡ sum_kinds ts ++ k ∷ behind → (end ≡ k → ⊥) → OpenStatement which ts (k ∷ behind)
open-first which [] [] k behind keeps bare same goes = absurd (goes cc)
open-first which [] (t ∷ ts) k behind keeps bare same goes = cc
open-first which (s ∷ rs) ts k behind keeps bare same goes =
    let x = flat_map statement_kinds rs ++ end ∷ [] in
    let tail = relation s.relation ∷ integer s.right ∷ semicolon ∷ [] in
    let whole : sum_kinds s.terms ++ relation s.relation ∷ integer s.right ∷ semicolon ∷ x ≡ sum_kinds ts ++ k ∷ behind =
    sym (append_assoc (sum_kinds s.terms) tail x) ∙ sym (append_assoc (statement_kinds s) (flat_map statement_kinds rs) (end ∷ [])) ∙ same in
    let front = sum-front ts s.terms (relation s.relation) (integer s.right ∷ semicolon ∷ x) (k ∷ behind) refl bare whole in
    record {
      more = front.more;
      sign = s.relation;
      right = s.right;
      others = x;
      keeps = subst (λ (us : List NamedTerm). SumKeeps which us (unsigned_abs s.right)) front.terms keeps.0;
      written = front.written;
    }

unminimised : (ts : List NamedTerm) (k : Kind) (x : List Kind) → is_minimise (k ∷ x) ≡ false → is_minimise (sum_kinds ts ++ k ∷ x) ≡ false
unminimised [] k x h = h
unminimised (t ∷ ts) k x h = refl

pub open-statement : (which : LimitKind) (o : Option (List NamedTerm)) (ss : List NamedStatement) (ts : List NamedTerm) (p : NamedProblem) (k : Kind) (x : List Kind) → Keeps which p → is_minimise (k ∷ x) ≡ false → begins_literal (k ∷ x) ≡ false → (end ≡ k → ⊥) →
    text_kinds p ≡ objective_kinds o ++ flat_map statement_kinds ss ++ (sum_kinds ts ++ k ∷ x) → OpenStatement which ts (k ∷ x)
open-statement which o ss ts p k x keeps plain bare goes same =
    let front = text-front o ss p (sum_kinds ts ++ k ∷ x) (unminimised ts k x plain) same in
    let rest = front.statements in
    open-first which rest.more ts k x (all-behind (RawKeeps which) ss rest.more (subst (AllByRecursion (RawKeeps which)) rest.statements keeps.statements)) bare rest.written goes

-- a coefficient in the bare sum
pub record OpenTerm (which : LimitKind) (ts : List NamedTerm) (c : ℤ) (x : List Kind) : Type 0 where
  pub term : NamedTerm
  pub more : List NamedTerm
  pub right : ℕ
  pub keeps : SumKeeps which (ts ++ term ∷ more) right
  pub coef : term.coef ≡ c
  pub others : List Kind
  pub plain : begins_literal others ≡ false
  pub written : map literal (lits_of term) ++ others ≡ x

term-of : (which : LimitKind) (ts more : List NamedTerm) (right : ℕ) (k : Kind) (y : List Kind) (c : ℤ) (x : List Kind) → in_sum k ≡ false → SumKeeps which (ts ++ more) right → sum_kinds more ++ k ∷ y ≡ integer c ∷ x → OpenTerm which ts c x
term-of which ts [] right k y c x plain keeps same = let k_is : k ≡ integer c = cc in let bad = sym plain ∙ ap in_sum k_is in cc
term-of which ts (m ∷ more) right k y c x plain keeps same =
    let tails : (map literal (lits_of m) ++ sum_kinds more) ++ k ∷ y ≡ x = cc in
    record {
      term = m;
      more = more;
      right = right;
      keeps = keeps;
      coef = cc;
      others = sum_kinds more ++ k ∷ y;
      plain = plain-sum more (k ∷ y) (plain-kind k y plain);
      written = sym (append_assoc (map literal (lits_of m)) (sum_kinds more) (k ∷ y)) ∙ tails;
    }

objective-term : (which : LimitKind) (o : Option (List NamedTerm)) (ts : List NamedTerm) (qs : List NamedStatement) (c : ℤ) (x : List Kind) → IfSome o (λ us. SumKeeps which us 0) →
    objective_kinds o ++ (flat_map statement_kinds qs ++ end ∷ []) ≡ minimise ∷ (sum_kinds ts ++ integer c ∷ x) → OpenTerm which ts c x
objective-term which None ts qs c x keeps same = absurd (not_minimise qs _ (sym same))
objective-term which (Some us) ts qs c x keeps same =
    let y = flat_map statement_kinds qs ++ end ∷ [] in
    let tails : (sum_kinds us ++ semicolon ∷ []) ++ y ≡ sum_kinds ts ++ integer c ∷ x = cc in
    let front = sum-front ts us semicolon y (integer c ∷ x) refl refl (sym (append_assoc (sum_kinds us) (semicolon ∷ []) y) ∙ tails) in
    term-of which ts front.more 0 semicolon y c x refl (subst (λ (vs : List NamedTerm). SumKeeps which vs 0) front.terms keeps) front.written

pub open-term : (which : LimitKind) (o : Option (List NamedTerm)) (ss : List NamedStatement) (part : Part) (ts : List NamedTerm) (p : NamedProblem) (c : ℤ) (x : List Kind) → IsOpen o ss part → Keeps which p →
    text_kinds p ≡ front_kinds o ss (Literals part) ts ++ integer c ∷ x → OpenTerm which ts c x
open-term which o ss Statement ts p c x placed keeps same =
    let s = open-statement which o ss ts p (integer c) x keeps refl refl (λ bad. cc) (same ∙ append_assoc (objective_kinds o ++ flat_map statement_kinds ss) (sum_kinds ts) (integer c ∷ x)) in
    term-of which ts s.more (unsigned_abs s.right) (relation s.sign) (integer s.right ∷ semicolon ∷ s.others) c x refl s.keeps s.written
open-term which o ss Objective ts p c x placed keeps same =
    objective-term which p.objective ts p.statements c x keeps.objective
    (sym (append_assoc (objective_kinds p.objective) (flat_map statement_kinds p.statements) (end ∷ [])) ∙ same ∙ ap (λ (q : Option (List NamedTerm)). front_kinds q ss (Literals Objective) ts ++ integer c ∷ x) placed.0 ∙ ap (λ (xs : List NamedStatement). front_kinds None xs (Literals Objective) ts ++ integer c ∷ x) placed.1)

weight-more : (ts more : List NamedTerm) (m : NamedTerm) → named_magnitude ts + unsigned_abs m.coef ≤ named_magnitude (ts ++ m ∷ more)
weight-more ts more m =
    let size = λ (u : NamedTerm). unsigned_abs u.coef in
    omega (arith, sum_by-append size ts (m ∷ more), sum_by-cons size m more)

-- so an accepted coefficient, literal or right side is within the limit
pub coefficient-light : (o : Option (List NamedTerm)) (ss : List NamedStatement) (part : Part) (ts : List NamedTerm) (c : ℤ) → IsOpen o ss part → BeginsWithin Weight (front_kinds o ss (Literals part) ts ++ integer c ∷ []) → named_magnitude ts + unsigned_abs c < 2 ^ 100
coefficient-light o ss part ts c placed (p, x, keeps, same) =
    let t = open-term Weight o ss part ts p c x placed keeps (same ∙ append_assoc (front_kinds o ss (Literals part) ts) (integer c ∷ []) x) in
    let light = t.keeps in
    let more = weight-more ts t.more t.term in
    let same_coef = ap unsigned_abs t.coef in
    omega (arith, light, more, same_coef)

-- a literal that is accepted, in the sum where it stands
pub record OpenLiteral (which : LimitKind) (ts : List NamedTerm) (l : NamedLit) : Type 0 where
  pub front : List NamedTerm
  pub term : NamedTerm
  pub more : List NamedTerm
  pub right : ℕ
  pub keeps : SumKeeps which (front ++ term ∷ more) right
  pub before : List NamedLit
  pub after : List NamedLit
  pub lits : lits_of term ≡ before ++ l ∷ after
  pub count : literal_count ts ≡ literal_count front + length before

first-literal : (which : LimitKind) (o : Option (List NamedTerm)) (ss : List NamedStatement) (part : Part) (ts : List NamedTerm) (c : ℤ) (l : NamedLit) → IsOpen o ss part → BeginsWithin which (front_kinds o ss (Coefficient part c) ts ++ literal l ∷ []) → OpenLiteral which ts l
first-literal which o ss part ts c l bare (p, x, keeps, same) =
    let t = open-term which o ss part ts p c (literal l ∷ x) bare keeps
    (same ∙ append_assoc (front_kinds o ss (Coefficient part c) ts) (literal l ∷ []) x ∙ ap (λ (ks : List Kind). ks ++ literal l ∷ x) (sym (add-coefficient o ss part ts c)) ∙ append_assoc (front_kinds o ss (Literals part) ts) (integer c ∷ []) (literal l ∷ x)) in
    let lit : t.term.lit ≡ l = (let w = t.written in cc) in
    record { front = ts; term = t.term; more = t.more; right = t.right; keeps = t.keeps; before = []; after = t.term.more; lits = (λ i. lit i ∷ t.term.more); count = omega arith }

further-literal : (which : LimitKind) (o : Option (List NamedTerm)) (ss : List NamedStatement) (part : Part) (ts : List NamedTerm) (l : NamedLit) → IsOpen o ss part → Ends ts → BeginsWithin which (front_kinds o ss (Literals part) ts ++ literal l ∷ []) → OpenLiteral which ts l
further-literal which o ss part ts l bare ends (p, x, keeps, same) =
    let here = front_kinds o ss (Literals part) ts in
    let before = front_kinds o ss (Literals part) ends.front in
    let last = ends.last in
    let is : here ≡ before ++ term_kinds last = ap (λ (us : List NamedTerm). front_kinds o ss (Literals part) us) ends.is ∙ sum-last o ss part ends.front last in
    let t = open-term which o ss part ends.front p last.coef (map literal (lits_of last) ++ literal l ∷ x) bare keeps
    (same ∙ append_assoc here (literal l ∷ []) x ∙ ap (λ (ks : List Kind). ks ++ literal l ∷ x) is ∙ append_assoc before (term_kinds last) (literal l ∷ x)) in
    let longer = lits-longer (lits_of t.term) (lits_of last) l t.others x t.plain t.written in
    record {
      front = ends.front;
      term = t.term;
      more = t.more;
      right = t.right;
      keeps = t.keeps;
      before = lits_of last;
      after = longer.0;
      lits = longer.1;
      count = ap literal_count ends.is ∙ literal_count-push ends.front last;
    }

open-literal : (which : LimitKind) (o : Option (List NamedTerm)) (ss : List NamedStatement) (stage : Stage) (ts : List NamedTerm) (l : NamedLit) → TakesLiteral stage → IsPlaced o ss stage ts → BeginsWithin which (front_kinds o ss stage ts ++ literal l ∷ []) → OpenLiteral which ts l
open-literal which o ss (Coefficient part c) ts l takes placed within = first-literal which o ss part ts c l placed within
open-literal which o ss (Literals part) ts l takes placed within = further-literal which o ss part ts l placed.0 placed.1 within
open-literal which o ss _ ts l takes placed within = absurd takes

among : (P : NamedLit → Type 0) (front more : List NamedTerm) (term : NamedTerm) (before after : List NamedLit) (l : NamedLit) → lits_of term ≡ before ++ l ∷ after → AllLits P (front ++ term ∷ more) → P l
among P front more term before after l lits all =
    let here = (all-behind (λ (t : NamedTerm). AllByRecursion P (lits_of t)) front (term ∷ more) all).0 in
    (all-behind P before (l ∷ after) (subst (AllByRecursion P) lits here)).0

module _ (o : Option (List NamedTerm)) (ss : List NamedStatement) (stage : Stage) (ts : List NamedTerm) (l : NamedLit) (takes : TakesLiteral stage) (placed : IsPlaced o ss stage ts) where
  pub literal-near : BeginsWithin Variables (front_kinds o ss stage ts ++ literal l ∷ []) → IsNear l
  literal-near within = let t = open-literal Variables o ss stage ts l takes placed within in among IsNear t.front t.more t.term t.before t.after l t.lits t.keeps

  pub literal-modest : BeginsWithin Name (front_kinds o ss stage ts ++ literal l ∷ []) → IsModest l
  literal-modest within = let t = open-literal Name o ss stage ts l takes placed within in among IsModest t.front t.more t.term t.before t.after l t.lits t.keeps

  -- nor does it stand behind too many
  pub literal-few : BeginsWithin Terms (front_kinds o ss stage ts ++ literal l ∷ []) → literal_count ts + 1 ≤ 2 ^ 20
  literal-few within =
      let t = open-literal Terms o ss stage ts l takes placed within in
      let short = t.keeps in
      let size = λ (u : NamedTerm). length (lits_of u) in
      omega (arith, short, t.count, sum_by-append size t.front (t.term ∷ t.more), sum_by-cons size t.term t.more, ap length t.lits, length-append t.before (l ∷ t.after))

right-by : (ts more : List NamedTerm) (q r : Relation) (m n : ℤ) (y x : List Kind) → SumKeeps Weight (ts ++ more) (unsigned_abs m) → sum_kinds more ++ relation q ∷ integer m ∷ semicolon ∷ y ≡ relation r ∷ integer n ∷ x → named_magnitude ts + unsigned_abs n < 2 ^ 100
right-by ts [] q r m n y x keeps same =
    let rights : m ≡ n = cc in
    let same_right = ap unsigned_abs rights in
    let sums = sum_by-append (λ (u : NamedTerm). unsigned_abs u.coef) ts [] in
    omega (arith, keeps, sums, same_right)
right-by ts (t ∷ more) q r m n y x keeps same = cc

pub right-light : (o : Option (List NamedTerm)) (ss : List NamedStatement) (ts : List NamedTerm) (r : Relation) (n : ℤ) → BeginsWithin Weight (front_kinds o ss (Related r) ts ++ integer n ∷ []) → named_magnitude ts + unsigned_abs n < 2 ^ 100
right-light o ss ts r n (p, x, keeps, same) =
    let s = open-statement Weight o ss ts p (relation r) (integer n ∷ x) keeps refl refl (λ bad. cc)
    (same ∙ append_assoc (front_kinds o ss (Related r) ts) (integer n ∷ []) x ∙ append_assoc (objective_kinds o ++ flat_map statement_kinds ss) (sum_kinds ts ++ relation r ∷ []) (integer n ∷ x) ∙ ap (λ (ks : List Kind). objective_kinds o ++ flat_map statement_kinds ss ++ ks) (append_assoc (sum_kinds ts) (relation r ∷ []) (integer n ∷ x))) in
    right-by ts s.more s.sign r s.right n s.others x s.keeps s.written

-- a sum with one more term is not too long
pub term-short : (o : Option (List NamedTerm)) (ss : List NamedStatement) (part : Part) (ts : List NamedTerm) (c : ℤ) → IsOpen o ss part → BeginsWithin Terms (front_kinds o ss (Literals part) ts ++ integer c ∷ []) → literal_count ts + 1 ≤ 2 ^ 20
term-short o ss part ts c placed (p, x, keeps, same) =
    let t = open-term Terms o ss part ts p c x placed keeps (same ∙ append_assoc (front_kinds o ss (Literals part) ts) (integer c ∷ []) x) in
    let short = t.keeps in
    let size = λ (u : NamedTerm). length (lits_of u) in
    omega (arith, short, sum_by-append size ts (t.term ∷ t.more), sum_by-cons size t.term t.more)

some-more : (rs : List NamedStatement) (ts : List NamedTerm) (k : Kind) (x : List Kind) → flat_map statement_kinds rs ++ end ∷ [] ≡ sum_kinds ts ++ k ∷ x → (end ≡ k → ⊥) → 1 ≤ length rs
some-more [] [] k x same goes = absurd (goes cc)
some-more [] (t ∷ ts) k x same goes = cc
some-more (r ∷ rs) ts k x same goes = omega arith

one-more : (o : Option (List NamedTerm)) (ss : List NamedStatement) (ts : List NamedTerm) (p : NamedProblem) (k : Kind) (x : List Kind) → Keeps Statements p → is_minimise (k ∷ x) ≡ false → (end ≡ k → ⊥) →
    text_kinds p ≡ objective_kinds o ++ flat_map statement_kinds ss ++ (sum_kinds ts ++ k ∷ x) → length ss + 1 ≤ 2 ^ 24
one-more o ss ts p k x keeps plain goes same =
    let front = text-front o ss p (sum_kinds ts ++ k ∷ x) (unminimised ts k x plain) same in
    let rest = front.statements in
    let count = keeps.count in
    omega (arith, count, some-more rest.more ts k x rest.written goes, ap length rest.statements, length-append ss rest.more)

-- nor are there too many statements with one that was begun
pub statement-few : (o : Option (List NamedTerm)) (ss : List NamedStatement) (stage : Stage) (ts : List NamedTerm) → is_open_sum stage ≡ false → begun_statements stage ≡ 1 → BeginsWithin Statements (front_kinds o ss stage ts) → length ss + 1 ≤ 2 ^ 24
statement-few o ss (Coefficient Statement c) ts shown begun (p, x, keeps, same) = one-more o ss ts p (integer c) x keeps refl (λ bad. cc) (same ∙ simp append_assoc)
statement-few o ss (Related r) ts shown begun (p, x, keeps, same) = one-more o ss ts p (relation r) x keeps refl (λ bad. cc) (same ∙ simp append_assoc)
statement-few o ss (Right r n) ts shown begun (p, x, keeps, same) = one-more o ss ts p (relation r) (integer n ∷ x) keeps refl (λ bad. cc) (same ∙ simp append_assoc)
statement-few o ss (Literals Statement) ts shown begun within = cc
statement-few o ss (Literals Objective) ts shown begun within = absurd (omega arith)
statement-few o ss Minimised ts shown begun within = absurd (omega arith)
statement-few o ss (Coefficient Objective c) ts shown begun within = absurd (omega arith)
statement-few o ss Start ts shown begun within = absurd (omega arith)
statement-few o ss Next ts shown begun within = absurd (omega arith)
