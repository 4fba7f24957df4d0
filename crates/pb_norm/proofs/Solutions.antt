-- A problem's solutions are what satisfies its loaded constraints, once the values of its products stand behind.
use Rattle.std.proofs.Common.{◌≡◌, ℕ, ◌+◌, List, ◌++◌, Bool, take, drop, length, map, ◌↔◌, arith, refl, ap, sym, ◌∙◌, subst}
use Rattle.std.proofs.lemmas.List.{length-take, length-drop, take-append-drop, length-append, length-map}
use Rattle.std.proofs.Math.Seq.{take-append_seam}
use Rattle.std.proofs.lemmas.List.Elements.{All-append}
use Rattle.pb_base.specs.declared.problem.Problem.{Problem}
use Rattle.pb_base.specs.Literals.{assigned_by}
use Rattle.pb_base.specs.Problems.{IsSolution, widened, product_value}
use Rattle.pb_base.proofs.Members.{All-append_both}
use Rattle.pb_norm.specs.Constraints.{Constraint, Holds, Solves}
use Rattle.pb_norm.specs.Halves.{loaded}
use Rattle.pb_norm.specs.Products.{defining, loaded_of}
use Rattle.pb_norm.specs.Solutions.{HasProducts, HaveSolutionsOf, IsFrontOf, ProductsWiden, SolutionsAreFronts}
use Rattle.pb_norm.proofs.Loaded.{loaded_holds}
use Rattle.pb_norm.proofs.ProductLemmas.{Defines, defining_holds, widened-defines, defines-widened}

solutions_of_loaded : (p : Problem) (cs : List Constraint) → cs ≡ loaded_of p → HasProducts p → (values : List Bool) → length values ≡ p.vars → IsSolution p values ↔ Solves (assigned_by (widened p values)) cs
solutions_of_loaded p cs e within values covers =
    let a = assigned_by (widened p values) in
    let all = loaded_holds a p.statements in
    let first = defining (p.vars + 1) p.products in
    let products = (defining_holds a (p.vars + 1) p.products).1 (widened-defines p values covers within) in
    rw e (
      (λ (solution : IsSolution p values). All-append (Holds a) first (loaded p.statements) products (all.0 solution.statements)),
      (λ holds. record { covers = covers; statements = all.1 (All-append_both (Holds a) first (loaded p.statements) holds).1 }),
    )

pub have_solutions : (p : Problem) (cs : List Constraint) → cs ≡ loaded_of p → HasProducts p → HaveSolutionsOf p cs
have_solutions p cs e within = λ values. (
  (λ (solution : IsSolution p values). (solution.covers, (solutions_of_loaded p cs e within values solution.covers).0 solution)),
  (λ h. (solutions_of_loaded p cs e within values h.0).1 h.1),
)

pub all_widened : ProductsWiden
all_widened p within all covers holds =
    let front = take p.vars all in
    let bs = drop p.vars all in
    let whole : front ++ bs ≡ all = take-append-drop p.vars all in
    let defines = (defining_holds (assigned_by all) (p.vars + 1) p.products).0 holds in
    sym whole ∙ defines-widened p front bs (length-take p.vars all ∙ omega (arith, covers)) (length-drop p.vars all ∙ omega (arith, covers)) within
    (subst (λ (xs : List Bool). Defines (assigned_by xs) (p.vars + 1) p.products) (sym whole) defines)

pub are_fronts : SolutionsAreFronts
are_fronts p within values =
    let more = map (product_value (assigned_by values)) p.products in
    let size : length more ≡ length p.products = length-map p.products (product_value (assigned_by values)) in (
      (λ (solution : IsSolution p values). (
        widened p values,
        record {
          covers = omega (arith, length-append values more, size, solution.covers);
          solves = (solutions_of_loaded p (loaded_of p) refl within values solution.covers).0 solution;
          front = ap (λ (n : ℕ). take n (values ++ more)) (sym solution.covers) ∙ take-append_seam values more;
        },
      )),
      (λ (found : (all : List Bool) × IsFrontOf p values all).
          let all = found.0 in
          let front = found.1 in
          let products = (All-append_both (Holds (assigned_by all)) (defining (p.vars + 1) p.products) (loaded p.statements) front.solves).0 in
          let is : all ≡ widened p values = all_widened p within all front.covers products ∙ ap (widened p) front.front in
          let covers : length values ≡ p.vars = ap length (sym front.front) ∙ length-take p.vars all ∙ omega (arith, front.covers) in
          (solutions_of_loaded p (loaded_of p) refl within values covers).1 (subst (λ (xs : List Bool). Solves (assigned_by xs) (loaded_of p)) is front.solves)),
    )
