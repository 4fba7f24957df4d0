-- Where an integer leads to, whatever its size.
use Rattle.std.proofs.Common.{◌≡◌, ◌≤◌, ◌^◌, [], ℤ, sym, refl, subst}
use Rattle.std.specs.Prelude.{unsigned_abs}
use Rattle.std.proofs.Common.{append-nil}
use Rattle.pb_base.specs.declared.problem.Relation.{Relation}
use Rattle.pb_opb.specs.declared.stage.Part.{Part}
use Rattle.pb_opb.specs.declared.stage.Part.TheVariants.{Objective, Statement}
use Rattle.pb_opb.specs.declared.stage.Stage.{Stage}
use Rattle.pb_opb.specs.declared.stage.Stage.TheVariants.{Start, Next, Minimised, Coefficient, Literals, Related, Right}
use Rattle.pb_opb.specs.Grammar.Kind.{integer}
use Rattle.pb_opb.specs.reader.Steps.{Leads, LeadsAs}
use Rattle.pb_opb.proofs.Fronts.{add-coefficient, add-right}

leads-start : (n : ℤ) → Leads Start (integer n) (Coefficient Statement n)
leads-start n = record {
  kinds = λ o ss ts placed. rw (placed.2) (simp append-nil);
  placed = λ o ss ts placed. tt;
  taken = refl;
  moves = refl;
  weighs = λ ts. refl;
  shown = refl;
}

leads-next : (n : ℤ) → Leads Next (integer n) (Coefficient Statement n)
leads-next n = record {
  kinds = λ o ss ts placed. rw placed (simp append-nil);
  placed = λ o ss ts placed. tt;
  taken = refl;
  moves = refl;
  weighs = λ ts. refl;
  shown = refl;
}

leads-minimised : (n : ℤ) → Leads Minimised (integer n) (Coefficient Objective n)
leads-minimised n = record {
  kinds = λ o ss ts placed. rw (placed.2) (sym (add-coefficient o ss Objective [] n));
  placed = λ o ss ts placed. (placed.0, placed.1);
  taken = refl;
  moves = refl;
  weighs = λ ts. refl;
  shown = refl;
}

leads-literals : (part : Part) (n : ℤ) → Leads (Literals part) (integer n) (Coefficient part n)
leads-literals Objective n = record {
  kinds = λ o ss ts placed. sym (add-coefficient o ss Objective ts n);
  placed = λ o ss ts placed. placed.0;
  taken = refl;
  moves = refl;
  weighs = λ ts. refl;
  shown = refl;
}
leads-literals Statement n = record {
  kinds = λ o ss ts placed. sym (add-coefficient o ss Statement ts n);
  placed = λ o ss ts placed. tt;
  taken = refl;
  moves = refl;
  weighs = λ ts. refl;
  shown = refl;
}

leads-related : (r : Relation) (n : ℤ) → Leads (Related r) (integer n) (Right r n)
leads-related r n = record {
  kinds = λ o ss ts placed. sym (add-right o ss ts r n);
  placed = λ o ss ts placed. tt;
  taken = refl;
  moves = refl;
  weighs = λ ts. refl;
  shown = refl;
}

pub wide-start : (s : Stage) (n m : ℤ) → s ≡ Start → 2 ^ 126 ≤ unsigned_abs n → LeadsAs s (integer n) (Coefficient Statement m)
wide-start s n m at great = record { stage = Coefficient Statement n; leads = subst (λ (t : Stage). Leads t (integer n) (Coefficient Statement n)) (sym at) (leads-start n); heavy = great; statements = refl; literals = refl }

pub wide-next : (s : Stage) (n m : ℤ) → s ≡ Next → 2 ^ 126 ≤ unsigned_abs n → LeadsAs s (integer n) (Coefficient Statement m)
wide-next s n m at great = record { stage = Coefficient Statement n; leads = subst (λ (t : Stage). Leads t (integer n) (Coefficient Statement n)) (sym at) (leads-next n); heavy = great; statements = refl; literals = refl }

pub wide-minimised : (s : Stage) (n m : ℤ) → s ≡ Minimised → 2 ^ 126 ≤ unsigned_abs n → LeadsAs s (integer n) (Coefficient Objective m)
wide-minimised s n m at great = record { stage = Coefficient Objective n; leads = subst (λ (t : Stage). Leads t (integer n) (Coefficient Objective n)) (sym at) (leads-minimised n); heavy = great; statements = refl; literals = refl }

pub wide-literals : (s : Stage) (part : Part) (n m : ℤ) → s ≡ Literals part → 2 ^ 126 ≤ unsigned_abs n → LeadsAs s (integer n) (Coefficient part m)
wide-literals s Objective n m at great = record { stage = Coefficient Objective n; leads = subst (λ (t : Stage). Leads t (integer n) (Coefficient Objective n)) (sym at) (leads-literals Objective n); heavy = great; statements = refl; literals = refl }
wide-literals s Statement n m at great = record { stage = Coefficient Statement n; leads = subst (λ (t : Stage). Leads t (integer n) (Coefficient Statement n)) (sym at) (leads-literals Statement n); heavy = great; statements = refl; literals = refl }

pub wide-related : (s : Stage) (r : Relation) (n m : ℤ) → s ≡ Related r → 2 ^ 126 ≤ unsigned_abs n → LeadsAs s (integer n) (Right r m)
wide-related s r n m at great = record { stage = Right r n; leads = subst (λ (t : Stage). Leads t (integer n) (Right r n)) (sym at) (leads-related r n); heavy = great; statements = refl; literals = refl }
