-- What a reader keeps is within the limits, and stays so.
use Rattle.std.proofs.Common.{◌≡◌, ◌+◌, ◌<◌, ◌≤◌, ◌^◌, List, [], ◌∷◌, ◌++◌, ◌⊎◌, inl, inr, append-nil, Option, Some, None, ℤ, Bool, true, false, cond, refl, sym, ap, ◌∙◌, subst, arith}
use Rattle.std.specs.Prelude.{Result, Ok, Err, OnOk, IfErr, length, ℕ, nat_lt, unsigned_abs}
use Rattle.std.proofs.lemmas.List.{length-append}
use Rattle.std.proofs.lemmas.Bool.Decides.{nat_tests}
use Rattle.pb_named.specs.declared.named.NamedLit.{NamedLit}
use Rattle.pb_named.specs.NamedTerms.{NamedTerm}
use Rattle.pb_named.specs.declared.named.NamedStatement.{NamedStatement}
use Rattle.pb_base.specs.declared.problem.Relation.{Relation}
use Rattle.pb_base.specs.declared.limit.LimitKind.{LimitKind}
use Rattle.pb_base.specs.declared.limit.LimitKind.TheVariants.{Statements, Terms, Weight, Variables, Name}
use Rattle.pb_opb.specs.declared.stage.Part.{Part}
use Rattle.pb_opb.specs.declared.stage.Part.TheVariants.{Objective, Statement}
use Rattle.pb_opb.specs.declared.stage.Stage.{Stage}
use Rattle.pb_opb.specs.declared.stage.Stage.TheVariants.{Start, Next, Minimised, Coefficient, Literals, Related, Right}
use Rattle.pb_named.specs.Names.{Name as Named}
use Rattle.pb_named.specs.Names.Name.{index, free}
use Rattle.pb_named.specs.NamedProblems.{index_in}
use Rattle.pb_opb.specs.Grammar.{Kind, text_kinds}
use Rattle.pb_opb.specs.Grammar.Kind.{literal, semicolon, end}
use Rattle.pb_opb.specs.reader.Front.{front_kinds, first, raw, written_of, complete, open_weight, begun_statements, begun_literals, read_kinds, state_of, Ends, IsPlaced, IsRead}
use Rattle.pb_opb.specs.declared.reader.Reader.{Reader}
use Rattle.pb_opb.specs.Faults.{Begins}
use Rattle.pb_opb.specs.reader.Automaton.{expected, takes}
use Rattle.pb_opb.specs.Limits.{name_len, named_magnitude, literal_count, IsNear, IsModest, AllLits, CountKeeps, SumKeeps, Keeps, BeginsWithin, IsWithinEach, rank}
use Rattle.pb_opb.specs.reader.Steps.{Leads, LeadsAs, MayEndObjective, TakesLiteral, stage_weight}
use Rattle.pb_opb.specs.declared.fault.Refusal.{Refusal}
use Rattle.pb_opb.specs.declared.fault.Refusal.TheVariants.{Unexpected, Limit, Memory}
use Rattle.pb_opb.specs.reader.Takes.{Passes, PassesAt, Refuses, Took, Finishes}
use Rattle.pb_opb.specs.reader.Moves.{IsStopped, IsFull, HasFurther, first_passed, moved, with_term, with_terms, with_statement, with_objective}
use Rattle.pb_opb.proofs.Fronts.{reaches, begins-sum, begins-after, front-refused, front-expects, end-refused, took-step, took-statement, took-objective, add-coefficient, add-right}
use Rattle.pb_opb.proofs.Longer.{Longer, Lengthens, all-push, literal_count-push, longer-term, longer-further, lengthens, took-longer}
use Rattle.pb_opb.proofs.Within.{coefficient-light, literal-near, literal-modest, literal-few, right-light, term-short, statement-few}

-- the sum of the shortest end of what was read, and its right side
abbrev completed : Stage → List NamedTerm → List NamedTerm
completed (Coefficient part c) ts = ts ++ first c ∷ []
completed _ ts = ts

abbrev open_right : Stage → ℕ
open_right (Right r n) = unsigned_abs n
open_right _ = 0

statement-keeps : (which : LimitKind) (o : Option (List NamedTerm)) (ss : List NamedStatement) (s : NamedStatement) → Keeps which (written_of o ss) → CountKeeps which (length ss + 1) → SumKeeps which s.terms (unsigned_abs s.right) → Keeps which (written_of o (ss ++ s ∷ []))
statement-keeps which o ss s closed count new = record {
  count = subst (CountKeeps which) (sym (length-append ss (s ∷ []))) count;
  objective = closed.objective;
  statements = all-push (λ (r : NamedStatement). SumKeeps which r.terms (unsigned_abs r.right)) ss s closed.statements new;
}

objective-keeps : (which : LimitKind) (o : Option (List NamedTerm)) (ss : List NamedStatement) (ts : List NamedTerm) → Keeps which (written_of o ss) → SumKeeps which ts 0 → Keeps which (written_of (Some ts) ss)
objective-keeps which o ss ts closed new = record { count = closed.count; objective = new; statements = closed.statements }

-- the shortest end of what was read keeps a limit
complete-keeps : (which : LimitKind) (o : Option (List NamedTerm)) (ss : List NamedStatement) (stage : Stage) (ts : List NamedTerm) → Keeps which (written_of o ss) → CountKeeps which (length ss + begun_statements stage) → SumKeeps which (completed stage ts) (open_right stage) → Keeps which (complete o ss stage ts)
complete-keeps which o ss Start ts closed count sum = closed
complete-keeps which o ss Next ts closed count sum = closed
complete-keeps which o ss Minimised ts closed count sum = objective-keeps which o ss ts closed sum
complete-keeps which o ss (Literals Objective) ts closed count sum = objective-keeps which o ss ts closed sum
complete-keeps which o ss (Literals Statement) ts closed count sum = statement-keeps which o ss _ closed count sum
complete-keeps which o ss (Coefficient Objective c) ts closed count sum = objective-keeps which o ss _ closed sum
complete-keeps which o ss (Coefficient Statement c) ts closed count sum = statement-keeps which o ss _ closed count sum
complete-keeps which o ss (Related r) ts closed count sum = statement-keeps which o ss _ closed count sum
complete-keeps which o ss (Right r n) ts closed count sum = statement-keeps which o ss _ closed count sum

sum-fits : (which : LimitKind) (ts : List NamedTerm) (n : ℕ) → AllLits IsNear ts → AllLits IsModest ts → literal_count ts ≤ 2 ^ 20 → named_magnitude ts + n < 2 ^ 100 → SumKeeps which ts n
sum-fits Terms ts n near modest short light = short
sum-fits Weight ts n near modest short light = light
sum-fits Variables ts n near modest short light = near
sum-fits Name ts n near modest short light = modest
sum-fits _ ts n near modest short light = tt

first-fits : (which : LimitKind) (ts : List NamedTerm) (c : ℤ) → AllLits IsNear ts → AllLits IsModest ts → literal_count ts + 1 ≤ 2 ^ 20 → named_magnitude ts + unsigned_abs c < 2 ^ 100 → SumKeeps which (ts ++ first c ∷ []) 0
first-fits which ts c near modest short light =
    let longer = longer-term Statement c ts (first c).lit in
    let weight : named_magnitude (ts ++ first c ∷ []) ≡ named_magnitude ts + unsigned_abs c = longer.weight in
    let count : literal_count (ts ++ first c ∷ []) ≡ literal_count ts + 1 = longer.count in
    sum-fits which (ts ++ first c ∷ []) 0 (longer.near near (omega arith)) (longer.modest modest (omega arith)) (omega (arith, count)) (omega (arith, weight))

stage-fits : (which : LimitKind) (stage : Stage) (ts : List NamedTerm) → AllLits IsNear ts → AllLits IsModest ts → literal_count ts + begun_literals stage ≤ 2 ^ 20 → open_weight stage ts < 2 ^ 100 → SumKeeps which (completed stage ts) (open_right stage)
stage-fits which Start ts near modest short light = sum-fits which ts 0 near modest (omega arith) (omega arith)
stage-fits which Next ts near modest short light = sum-fits which ts 0 near modest (omega arith) (omega arith)
stage-fits which Minimised ts near modest short light = sum-fits which ts 0 near modest (omega arith) (omega arith)
stage-fits which (Literals part) ts near modest short light = sum-fits which ts 0 near modest (omega arith) (omega arith)
stage-fits which (Coefficient part c) ts near modest short light = first-fits which ts c near modest short light
stage-fits which (Related r) ts near modest short light = sum-fits which ts 0 near modest (omega arith) (omega arith)
stage-fits which (Right r n) ts near modest short light = sum-fits which ts (unsigned_abs n) near modest (omega arith) light

count-fits : (which : LimitKind) (count : ℕ) → count ≤ 2 ^ 24 → CountKeeps which count
count-fits Statements count few = few
count-fits _ count few = tt

terms-fit : (stage : Stage) (ts : List NamedTerm) → literal_count ts + begun_literals stage ≤ 2 ^ 20 → SumKeeps Terms (completed stage ts) (open_right stage)
terms-fit (Coefficient part c) ts short = omega (arith, literal_count-push ts (first c))
terms-fit Start ts short = omega arith
terms-fit Next ts short = omega arith
terms-fit Minimised ts short = omega arith
terms-fit (Literals part) ts short = omega arith
terms-fit (Related r) ts short = omega arith
terms-fit (Right r n) ts short = omega arith

stage-light : (o : Option (List NamedTerm)) (ss : List NamedStatement) (stage : Stage) (ts : List NamedTerm) → IsPlaced o ss stage ts → 0 < stage_weight stage → BeginsWithin Weight (front_kinds o ss stage ts) → open_weight stage ts < 2 ^ 100
stage-light o ss (Coefficient part c) ts placed some begins = coefficient-light o ss part ts c placed (subst (BeginsWithin Weight) (sym (add-coefficient o ss part ts c)) begins)
stage-light o ss (Right r n) ts placed some begins = right-light o ss ts r n (subst (BeginsWithin Weight) (sym (add-right o ss ts r n)) begins)
stage-light o ss _ ts placed some begins = absurd (omega arith)

stage-short : (o : Option (List NamedTerm)) (ss : List NamedStatement) (stage : Stage) (ts : List NamedTerm) → IsPlaced o ss stage ts → 0 < begun_literals stage → BeginsWithin Terms (front_kinds o ss stage ts) → literal_count ts + begun_literals stage ≤ 2 ^ 20
stage-short o ss (Coefficient part c) ts placed some begins = term-short o ss part ts c placed (subst (BeginsWithin Terms) (sym (add-coefficient o ss part ts c)) begins)
stage-short o ss _ ts placed some begins = absurd (omega arith)

begun-one : (stage : Stage) → 0 < begun_statements stage → begun_statements stage ≡ 1
begun-one (Literals Statement) some = refl
begun-one (Coefficient Statement c) some = refl
begun-one (Related r) some = refl
begun-one (Right r n) some = refl
begun-one _ some = absurd (omega arith)

module _ (r : Reader) (read : IsRead r) where
  -- what was read begins a text within the limits
  pub read-within : IsWithinEach (read_kinds r)
  read-within which =
      let end = reaches r.objective r.statements r.stage r.terms read.front.placed in
      let light : open_weight r.stage r.terms < 2 ^ 100 = omega (arith, read.light, read.weighed) in (
        complete r.objective r.statements r.stage r.terms,
        end.rest,
        complete-keeps which r.objective r.statements r.stage r.terms (read.closed which) (count-fits which _ read.few) (stage-fits which r.stage r.terms read.near read.modest (omega (arith, read.short, read.counted)) light),
        end.same,
      )

module _ (r : Reader) (read : IsRead r) (k : Kind) (next : Stage) (leads : Leads r.stage k next) where
  begins : Begins (read_kinds r ++ k ∷ [])
  begins = begins-after r.objective r.statements r.stage r.terms k read.front.placed leads.taken

  placed : IsPlaced r.objective r.statements next r.terms
  placed = leads.placed r.objective r.statements r.terms read.front.placed

  same : front_kinds r.objective r.statements next r.terms ≡ read_kinds r ++ k ∷ []
  same = leads.kinds r.objective r.statements r.terms read.front.placed

  led : (which : LimitKind) → BeginsWithin which (read_kinds r ++ k ∷ []) → BeginsWithin which (front_kinds r.objective r.statements next r.terms)
  led which within = subst (BeginsWithin which) (sym same) within

  too-heavy : 2 ^ 100 ≤ r.weight + stage_weight next → BeginsWithin Weight (read_kinds r ++ k ∷ []) → ⊥
  too-heavy heavy within =
      let more : 0 < stage_weight next = omega (arith, read.light) in
      let light = stage-light r.objective r.statements next r.terms placed more (led Weight within) in
      omega (arith, light, leads.weighs r.terms, read.weighed)

  too-long : 2 ^ 20 < r.literals + begun_literals next → BeginsWithin Terms (read_kinds r ++ k ∷ []) → ⊥
  too-long long within =
      let more : 0 < begun_literals next = omega (arith, read.short) in
      let short = stage-short r.objective r.statements next r.terms placed more (led Terms within) in
      omega (arith, short, read.counted)

  too-many : 2 ^ 24 < length r.statements + begun_statements next → BeginsWithin Statements (read_kinds r ++ k ∷ []) → ⊥
  too-many many within =
      let more : 0 < begun_statements next = omega (arith, read.few) in
      let one = begun-one next more in
      let few = statement-few r.objective r.statements next r.terms leads.shown one (led Statements within) in
      omega (arith, few, one)

  -- a limit that the next stage keeps
  next-within : (which : LimitKind) → CountKeeps which (length r.statements + begun_statements next) → SumKeeps which (completed next r.terms) (open_right next) → BeginsWithin which (read_kinds r ++ k ∷ [])
  next-within which count sum =
      let end = reaches r.objective r.statements next r.terms placed in
      (complete r.objective r.statements next r.terms, end.rest, complete-keeps which r.objective r.statements next r.terms (read.closed which) count sum, end.same ∙ ap (λ (ks : List Kind). ks ++ end.rest) same)

  before-terms : (w : LimitKind) → rank w < 1 → length r.statements + begun_statements next ≤ 2 ^ 24 → BeginsWithin w (read_kinds r ++ k ∷ [])
  before-terms Statements earlier few = next-within Statements few tt
  before-terms _ earlier few = absurd (omega arith)

  before-weight : (w : LimitKind) → rank w < 2 → length r.statements + begun_statements next ≤ 2 ^ 24 → r.literals + begun_literals next ≤ 2 ^ 20 → BeginsWithin w (read_kinds r ++ k ∷ [])
  before-weight Statements earlier few short = next-within Statements few tt
  before-weight Terms earlier few short = next-within Terms tt (terms-fit next r.terms (omega (arith, short, read.counted)))
  before-weight _ earlier few short = absurd (omega arith)

  pub stopped : (which : LimitKind) (s t w : ℕ) → Passes (Some which) s t w → s ≡ length r.statements + begun_statements next → t ≡ r.literals + begun_literals next → (2 ^ 100 ≤ w → 2 ^ 100 ≤ r.weight + stage_weight next) → Refuses (read_kinds r) k (Limit which)
  stopped Statements s t w many s_is t_is heavy = (begins, too-many (omega arith), (λ e earlier. absurd (omega arith)), read-within r read)
  stopped Terms s t w (few, long) s_is t_is heavy = (begins, too-long (omega arith), (λ e earlier. before-terms e earlier (omega arith)), read-within r read)
  stopped Weight s t w (few, short, great) s_is t_is heavy = (begins, too-heavy (heavy great), (λ e earlier. before-weight e earlier (omega arith) (omega arith)), read-within r read)
  stopped _ s t w passes s_is t_is heavy = absurd passes

  pub took-next : (weight : ℕ) → weight ≡ r.weight + stage_weight next → Passes None (length r.statements + begun_statements next) (r.literals + begun_literals next) weight → Took r (moved r next weight) k
  took-next weight is (few, short, light) = record {
    read = record {
      front = took-step r.objective r.statements r.stage next r.terms k leads read.front;
      closed = read.closed;
      near = read.near;
      modest = read.modest;
      few = few;
      counted = read.counted;
      short = short;
      weighed = omega (arith, leads.weighs r.terms, read.weighed);
      light = light;
    };
    kinds = same;
  }

-- where an objective ends, its weight is that of its terms
end-weight : (stage : Stage) (ts : List NamedTerm) → MayEndObjective stage → open_weight stage ts ≡ named_magnitude ts
end-weight Minimised ts ends = refl
end-weight (Literals Objective) ts ends = refl
end-weight _ ts ends = absurd ends

-- a long name has no index
long-near : (l : NamedLit) → 255 < name_len l.name → IsNear l
long-near l long = by-name l.name long
  where
    by-name : (n : Named) → 255 < name_len n → index_in n < 2 ^ 31
    by-name (index n) long = absurd (omega arith)
    by-name (free text) long = omega arith

module _ (r : Reader) (read : IsRead r) (k : Kind) where
  took-literal : (part : Part) (us : List NamedTerm) (l : NamedLit) → Longer r.stage part r.terms us l → k ≡ literal l → IsNear l → IsModest l → r.literals < 2 ^ 20 → Took r (with_terms r part us) k
  took-literal part us l longer says near modest less =
      let taken = took-longer r.objective r.statements r.stage part r.terms us l k longer says read.front in
      record {
        read = record {
          front = taken.front;
          closed = read.closed;
          near = longer.near read.near near;
          modest = longer.modest read.modest modest;
          few = omega (arith, read.few, longer.begun);
          counted = omega (arith, read.counted, longer.count);
          short = omega arith;
          weighed = read.weighed ∙ sym longer.weight;
          light = read.light;
        };
        kinds = taken.kinds;
      }

  pub begins-short : (part : Part) (c : ℤ) → r.stage ≡ Coefficient part c → r.literals < 2 ^ 20
  begins-short part c at = omega (arith, read.short, ap begun_literals at)

  pub ends-at : (part : Part) → r.stage ≡ Literals part → Ends r.terms
  ends-at part at = (subst (λ (s : Stage). IsPlaced r.objective r.statements s r.terms) at read.front.placed).1

  pub took-first : (part : Part) (c : ℤ) (l : NamedLit) → (r.stage ≡ Coefficient part c) × (k ≡ literal l) × IsNear l × IsModest l → Took r (with_term r part (record { coef = c; lit = l; more = [] })) k
  took-first part c l (at, says, near, modest) =
      let us = r.terms ++ record { coef = c; lit = l; more = [] } ∷ [] in
      took-literal part us l (subst (λ (s : Stage). Longer s part r.terms us l) (sym at) (longer-term part c r.terms l)) says near modest (begins-short part c at)

  took-further : (part : Part) (l : NamedLit) (new : Reader) → (r.stage ≡ Literals part) × (k ≡ literal l) × IsNear l × IsModest l → HasFurther r new part l → Took r new k
  took-further part l new (at, says, near, modest) further =
      subst (λ (n : Reader). Took r n k) (sym further.is)
      (took-literal part new.terms l (subst (λ (s : Stage). Longer s part r.terms new.terms l) (sym at) (longer-further part r.terms new.terms l further.longer)) says near modest further.few)

  pub took-further-if : (part : Part) (l : NamedLit) (new : Reader) (result : Result (Unit {0}) Refusal) → (r.stage ≡ Literals part) × (k ≡ literal l) × IsNear l × IsModest l → OnOk result (HasFurther r new part l) → OnOk result (Took r new k)
  took-further-if part l new (Ok u) called further = took-further part l new called further
  took-further-if part l new (Err e) called further = tt

  pub took-semicolon : (sign : Relation) (right : ℤ) → (r.stage ≡ Right sign right) × (k ≡ semicolon) → Took r (with_statement r sign right) k
  took-semicolon sign right at =
      let s = raw r.terms sign right in
      let new = with_statement r sign right in
      let taken = took-statement r.objective r.statements new.statements r.stage r.terms [] s k at refl refl refl read.front in
      let before : r.weight ≡ named_magnitude r.terms + unsigned_abs right = read.weighed ∙ ap (λ (g : Stage). open_weight g r.terms) at.0 in
      let begun = ap begun_statements at.0 in
      let longer = length-append r.statements (s ∷ []) in
      record {
        read = record {
          front = taken.front;
          closed = λ which. statement-keeps which r.objective r.statements s (read.closed which) (count-fits which _ (omega (arith, read.few))) (sum-fits which r.terms (unsigned_abs right) read.near read.modest (omega (arith, read.short, read.counted)) (omega (arith, read.light)));
          near = tt;
          modest = tt;
          few = omega (arith, read.few);
          counted = refl;
          short = omega arith;
          weighed = refl;
          light = omega arith;
        };
        kinds = taken.kinds;
      }

  pub took-end : MayEndObjective r.stage × (k ≡ semicolon) → Took r (with_objective r) k
  took-end at =
      let new = with_objective r in
      let taken = took-objective r.objective new.objective r.statements r.stage r.terms [] k at refl refl read.front in
      let before : r.weight ≡ named_magnitude r.terms = read.weighed ∙ end-weight r.stage r.terms at.0 in
      record {
        read = record {
          front = taken.front;
          closed = λ which. objective-keeps which r.objective r.statements r.terms (read.closed which) (sum-fits which r.terms 0 read.near read.modest (omega (arith, read.short, read.counted)) (omega (arith, read.light)));
          near = tt;
          modest = tt;
          few = omega (arith, read.few);
          counted = refl;
          short = omega arith;
          weighed = refl;
          light = omega arith;
        };
        kinds = taken.kinds;
      }

-- a literal that passes a limit
module _ (r : Reader) (read : IsRead r) (k : Kind) (l : NamedLit) (takes : TakesLiteral r.stage) (says : k ≡ literal l) where
  here : Lengthens r.stage r.terms l
  here = lengthens r.objective r.statements r.stage r.terms l takes read.front.placed

  literal-within : (w : LimitKind) → SumKeeps w here.terms 0 → BeginsWithin w (read_kinds r ++ k ∷ [])
  literal-within w sum =
      let taken = took-longer r.objective r.statements r.stage here.part r.terms here.terms l k here.longer says read.front in
      let end = reaches r.objective r.statements (Literals here.part) here.terms taken.front.placed in
      let few : length r.statements + begun_statements (Literals here.part) ≤ 2 ^ 24 = omega (arith, read.few, here.longer.begun) in (
        complete r.objective r.statements (Literals here.part) here.terms,
        end.rest,
        complete-keeps w r.objective r.statements (Literals here.part) here.terms (read.closed w) (count-fits w _ few) sum,
        end.same ∙ ap (λ (ks : List Kind). ks ++ end.rest) taken.kinds,
      )

  passes : (which : LimitKind) → (BeginsWithin which (front_kinds r.objective r.statements r.stage r.terms ++ literal l ∷ []) → ⊥) → ((w : LimitKind) → rank w < rank which → SumKeeps w here.terms 0) → Refuses (read_kinds r) k (Limit which)
  passes which over earlier = (
    subst Begins (here.longer.kinds r.objective r.statements ∙ ap (λ (m : Kind). read_kinds r ++ m ∷ []) (sym says)) (begins-sum r.objective r.statements here.part here.terms (here.longer.before r.objective r.statements read.front.placed)),
    λ within. over (subst (λ (m : Kind). BeginsWithin which (read_kinds r ++ m ∷ [])) says within),
    (λ w before. literal-within w (earlier w before)),
    read-within r read,
  )

  before-terms-literal : (w : LimitKind) → rank w < 1 → SumKeeps w here.terms 0
  before-terms-literal Statements earlier = tt
  before-terms-literal _ earlier = absurd (omega arith)

  before-index : r.literals < 2 ^ 20 → (w : LimitKind) → rank w < 3 → SumKeeps w here.terms 0
  before-index less Statements earlier = tt
  before-index less Terms earlier = omega (arith, read.counted, here.longer.count)
  before-index less Weight earlier = omega (arith, read.light, read.weighed, here.longer.weight)
  before-index less _ earlier = absurd (omega arith)

  before-name : r.literals < 2 ^ 20 → IsNear l → (w : LimitKind) → rank w < 4 → SumKeeps w here.terms 0
  before-name less near Statements earlier = tt
  before-name less near Terms earlier = before-index less Terms (omega arith)
  before-name less near Weight earlier = before-index less Weight (omega arith)
  before-name less near Variables earlier = here.longer.near read.near near
  before-name less near _ earlier = absurd (omega arith)

  pub one-too-many : 2 ^ 20 ≤ r.literals → Refuses (read_kinds r) k (Limit Terms)
  one-too-many full = passes Terms
      (λ within. (let few = literal-few r.objective r.statements r.stage r.terms l takes read.front.placed within in omega (arith, few, read.counted)))
      before-terms-literal

  too-far : 2 ^ 31 ≤ index_in l.name → r.literals < 2 ^ 20 → Refuses (read_kinds r) k (Limit Variables)
  too-far far less = passes Variables
      (λ within. (let near = literal-near r.objective r.statements r.stage r.terms l takes read.front.placed within in omega arith))
      (before-index less)

  too-long-name : 255 < name_len l.name → r.literals < 2 ^ 20 → Refuses (read_kinds r) k (Limit Name)
  too-long-name long less = passes Name
      (λ within. (let modest = literal-modest r.objective r.statements r.stage r.terms l takes read.front.placed within in omega arith))
      (before-name less (long-near l long))

  first-of : (which : LimitKind) → (r.literals < 2 ^ 20 → Refuses (read_kinds r) k (Limit which)) → Refuses (read_kinds r) k (Limit (first_passed r.literals which))
  first-of which other = by-test (nat_lt r.literals (2 ^ 20)) refl
    where
      by-test : (b : Bool) → nat_lt r.literals (2 ^ 20) ≡ b → Refuses (read_kinds r) k (Limit (cond b which Terms))
      by-test true e = other (grind (arith, nat_tests))
      by-test false e = one-too-many (grind (arith, nat_tests))

  pub far-refused : 2 ^ 31 ≤ index_in l.name → Refuses (read_kinds r) k (Limit (first_passed r.literals Variables))
  far-refused far = first-of Variables (too-far far)

  pub long-refused : 255 < name_len l.name → Refuses (read_kinds r) k (Limit (first_passed r.literals Name))
  long-refused long = first-of Name (too-long-name long)

module _ (r : Reader) (read : IsRead r) (k : Kind) where
  pub full-refused : (part : Part) (l : NamedLit) (result : Result (Unit {0}) Refusal) → (r.stage ≡ Literals part) × (k ≡ literal l) × IsNear l × IsModest l → IfErr result (IsFull r) → IfErr result (Refuses (read_kinds r) k)
  full-refused part l (Ok u) (at, says, near, modest) full = tt
  full-refused part l (Err (Limit which)) (at, says, near, modest) full =
      subst (λ (w : LimitKind). Refuses (read_kinds r) k (Limit w)) (sym full.0) (one-too-many r read k l (subst TakesLiteral (sym at) tt) says full.1)
  full-refused part l (Err (Unexpected e)) (at, says, near, modest) full = absurd full
  full-refused part l (Err Memory) (at, says, near, modest) full = tt

  pub unexpected : takes (state_of r.stage) k ≡ false → Refuses (read_kinds r) k (Unexpected (expected (state_of r.stage)))
  unexpected h = (
    front-refused r.objective r.statements r.stage r.terms read.front k h,
    front-expects r.objective r.statements r.stage r.terms read.front,
    read-within r read,
  )

  pub went : (next : Stage) (weight : ℕ) (new : Reader) (result : Result (Unit {0}) Refusal) → Leads r.stage k next → weight ≡ r.weight + stage_weight next → OnOk result (PassesAt None r next weight) → OnOk result (new ≡ moved r next weight) → OnOk result (Took r new k)
  went reached weight new (Ok u) leads is passes changed = subst (λ (n : Reader). Took r n k) (sym changed) (took-next r read k reached leads weight is passes)
  went reached weight new (Err e) leads is passes changed = tt

  stop : (reached : Stage) (weight : ℕ) (e : Refusal) → Leads r.stage k reached → (2 ^ 100 ≤ weight → 2 ^ 100 ≤ r.weight + stage_weight reached) → IsStopped r reached weight e → Refuses (read_kinds r) k e
  stop reached weight (Limit which) leads heavy at = stopped r read k reached leads which (length r.statements + begun_statements reached) (r.literals + begun_literals reached) weight at refl refl heavy
  stop reached weight (Unexpected e) leads heavy at = absurd at
  stop reached weight Memory leads heavy at = absurd at

  pub stopped-at : (reached : Stage) (weight : ℕ) (result : Result (Unit {0}) Refusal) → Leads r.stage k reached → weight ≡ r.weight + stage_weight reached → IfErr result (IsStopped r reached weight) → IfErr result (Refuses (read_kinds r) k)
  stopped-at reached weight (Ok u) leads is at = tt
  stopped-at reached weight (Err e) leads is at = stop reached weight e leads (λ heavy. omega arith) at

  wide-stop : (reached : Stage) (e : Refusal) → LeadsAs r.stage k reached → IsStopped r reached (2 ^ 100) e → Refuses (read_kinds r) k e
  wide-stop reached (Limit which) wide at =
      let great = wide.heavy in
      stopped r read k wide.stage wide.leads which (length r.statements + begun_statements reached) (r.literals + begun_literals reached) (2 ^ 100) at
      (omega (arith, wide.statements)) (omega (arith, wide.literals)) (λ heavy. omega arith)
  wide-stop reached (Unexpected e) wide at = absurd at
  wide-stop reached Memory wide at = absurd at

  pub wide-stopped : (reached : Stage) (result : Result (Unit {0}) Refusal) → LeadsAs r.stage k reached → IfErr result (IsStopped r reached (2 ^ 100)) → IfErr result (Refuses (read_kinds r) k)
  wide-stopped reached (Ok u) wide at = tt
  wide-stopped reached (Err e) wide at = wide-stop reached e wide at

between-kinds : (r : Reader) → (r.stage ≡ Start) ⊎ (r.stage ≡ Next) → text_kinds (written_of r.objective r.statements) ≡ read_kinds r ++ end ∷ []
between-kinds r (inl at) = rw at (simp append-nil)
between-kinds r (inr at) = rw at (simp append-nil)

-- the end of the text, between statements
pub finishes : (r : Reader) → IsRead r → (r.stage ≡ Start) ⊎ (r.stage ≡ Next) → Finishes (read_kinds r) (written_of r.objective r.statements)
finishes r read at = record {
  kinds = between-kinds r at;
  keeps = read.closed;
}

-- and elsewhere
pub unended : (r : Reader) → IsRead r → (r.stage ≡ Start → ⊥) → (r.stage ≡ Next → ⊥) → Refuses (read_kinds r) end (Unexpected (expected (state_of r.stage)))
unended r read start next = unexpected r read end (end-refused r.stage start next)
