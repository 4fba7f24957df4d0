-- Constraints of a database are added: the sum stands under the next id.
use Rattle.std.proofs.Common.{◌≡◌, ◌≤◌, ℕ, List, [], ◌∷◌, refl, ap, subst, arith, append-nil}
use Rattle.std.specs.Prelude.{All, flat_map, Some}
use Rattle.std.proofs.lemmas.List.Elements.{All-nil, All-cons, All-head, All-tail, All-weaker}
use Rattle.pb_base.specs.Literals.{negated}
use Rattle.pb_norm.specs.Constraints.{Constraint, AllPositive, IsAscending}
use Rattle.pb_steps.specs.declared.op.PolOp.{PolOp}
use Rattle.pb_steps.specs.declared.op.PolOp.TheVariants.{Push, Add}
use Rattle.pb_steps.specs.declared.step.Step.TheVariants.{Pol}
use Rattle.pb_steps.specs.Steps.{HasFactor, vars_of_op, ids_of_op}
use Rattle.pb_steps.specs.Stacks.{leaves_one, height_from}
use Rattle.pb_steps.specs.Database.{Database, IsLive, grown}
use Rattle.pb_derive.specs.inner.Ran.{Ran}
use Rattle.pb_derive.specs.inner.Exact.{IsSum}
use Rattle.pb_derive.specs.Forms.{IsFormOf}
use Rattle.pb_derive.specs.Later.{IsNumbered, Knows}
use Rattle.pb_derive.specs.Justifications.{push_and_add, adding}
use Rattle.pb_derive.specs.inner.Follows.{AllKnown}
use Rattle.pb_derive.proofs.Closed.{ArePositive}
use Rattle.pb_derive.proofs.Closing.{sum_from, AllAscending}
use Rattle.pb_derive.proofs.Exact.{exact_form, exact_vars}
use Rattle.pb_derive.proofs.Laters.{at_grown, later_grown}
use Rattle.pb_derive.proofs.Reasoned.{AreForms, forms_of, found_live, All-flat_map}
use Rattle.pb_derive.proofs.Stacked.{Found, height-added, adding_ops}

-- what a sum leaves
pub record Summed (P : ℕ → Type 0) (db : Database) (ids : List ℕ) (t : Constraint) : Type 0 where
  pub ran : Ran P db (Pol (adding ids) ∷ []) [] 1
  pub known : Knows ran.end db.next t

pub adding-all : (Q : PolOp → Type 0) (id : ℕ) (ids : List ℕ) → All (λ i. Q (Push i)) (id ∷ ids) → Q Add → All Q (adding (id ∷ ids))
adding-all Q id ids pushed added =
    All-cons Q (Push id) (flat_map push_and_add ids) (All-head (λ i. Q (Push i)) id ids pushed)
    (All-flat_map Q push_and_add ids (All-weaker (λ i. Q (Push i)) (λ i. All Q (push_and_add i)) (λ i h. All-cons Q (Push i) (Add ∷ []) h (All-cons Q Add [] added (All-nil Q))) ids (All-tail (λ i. Q (Push i)) id ids pushed)))

pub summed : (P : ℕ → Type 0) (db : Database) (id : ℕ) (ids : List ℕ) (ss : List Constraint) (t : Constraint) → IsNumbered db → AllKnown (Knows db) (id ∷ ids) ss → IsSum ss t → All (λ u. P u.lit.var) t.terms → Summed P db (id ∷ ids) t
summed P db id ids ss t numbered known sum named = by_forms (forms_of db (id ∷ ids) ss known)
  where
    by_forms : AreForms db.live (id ∷ ids) ss → Summed P db (id ∷ ids) t
    by_forms forms = by_cs forms.cs forms.found forms.ascending forms.positive (record {
      apart = sum.apart;
      positive = sum.positive;
      coefs = λ l. omega (arith, forms.coefs_same l, forms.coefs_same (negated l), sum.coefs l);
      under = sum.under;
      tight = forms.tight_same sum.under sum.tight;
      degree = omega (arith, forms.degrees_same, forms.values_same sum.under, sum.degree);
      weight_fits = omega (arith, forms.weights_same, sum.weight_fits);
      degree_fits = omega (arith, forms.degrees_same, sum.degree_fits);
    })
      where
        by_cs : (cs : List Constraint) → Found db.live (id ∷ ids) cs → AllAscending cs → ArePositive cs → IsSum cs t → Summed P db (id ∷ ids) t
        by_cs [] found up positive h = absurd found
        by_cs (c ∷ cs) found up positive h =
            let s : Constraint = sum_from c cs in
            let form : IsFormOf t s = exact_form c cs t (All-head (λ (c : Constraint). IsAscending c.terms) c cs up) (All-tail (λ (c : Constraint). IsAscending c.terms) c cs up) (All-head (λ (c : Constraint). AllPositive c.terms) c cs positive) (All-tail (λ (c : Constraint). AllPositive c.terms) c cs positive) h in
            let live = found_live db.live (id ∷ ids) (c ∷ cs) found in
            let ops = adding (id ∷ ids) in
            record {
              ran = record {
                end = grown db s;
                runs = (
                  grown db s,
                  record {
                    vars = All-flat_map (λ v. v ≤ db.vars) vars_of_op ops (adding-all (λ op. All (λ v. v ≤ db.vars) (vars_of_op op)) id ids (λ k d below. All-nil (λ v. v ≤ db.vars)) (All-nil (λ v. v ≤ db.vars)));
                    ids = All-flat_map (IsLive db.live) ids_of_op ops (adding-all (λ op. All (IsLive db.live) (ids_of_op op)) id ids
                        (All-weaker (IsLive db.live) (λ i. All (IsLive db.live) (i ∷ [])) (λ i m. All-cons (IsLive db.live) i [] m (All-nil (IsLive db.live))) (id ∷ ids) live) (All-nil (IsLive db.live)));
                    rule = record {
                      factors = adding-all HasFactor id ids (λ k d below. tt) tt;
                      stacked = ap leaves_one (subst (λ (ops : List PolOp). height_from 1 ops ≡ Some 1) (append-nil (flat_map push_and_add ids)) (height-added ids []));
                      sum = s;
                      result = adding_ops db.live id ids c cs found.0 found.1 h.weight_fits h.degree_fits;
                      after = refl;
                    };
                  },
                  (refl, refl),
                );
                later = later_grown P db s numbered (exact_vars P c cs t (All-head (λ (c : Constraint). IsAscending c.terms) c cs up) (All-tail (λ (c : Constraint). IsAscending c.terms) c cs up) (All-head (λ (c : Constraint). AllPositive c.terms) c cs positive) (All-tail (λ (c : Constraint). AllPositive c.terms) c cs positive) h named);
                next = refl;
              };
              known = (s, at_grown db s numbered, form);
            }
