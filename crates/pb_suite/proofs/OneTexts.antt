-- What texts say, and how they are refused, is one thing.
use Rattle.std.proofs.Common.{◌≡◌, ◌∙◌, ◌∷◌, ◌++◌, ◌<◌, ℕ, ℤ, List, [], Option, ap, arith, inl, inr, length, refl, subst, sym}
use Rattle.std.specs.Prelude.{◌⊎◌, All, Contains}
use Rattle.std.specs.List.{AllPairs}
use Rattle.std.proofs.lemmas.List.Elements.{All-contains, All-head, All-tail}
use Rattle.pb_base.proofs.Members.{Contains-cons_cases, Contains-here, Contains-nil, Contains-there}
use Rattle.pb_base.proofs.Pairs.{AllPairs-head, AllPairs-tail}
use Rattle.pb_base.specs.declared.limit.LimitKind.{LimitKind}
use Rattle.pb_base.specs.declared.limit.LimitKind.TheVariants as limits
use Rattle.pb_base.specs.declared.literal.Lit.{Lit}
use Rattle.pb_base.specs.declared.problem.Problem.{Problem}
use Rattle.pb_base.specs.declared.problem.Raw.{Raw}
use Rattle.pb_base.specs.Literals.{Assignment}
use Rattle.pb_base.specs.Problems.{Satisfies}
use Rattle.pb_base.specs.declared.options.Options.{Options}
use Rattle.pb_dimacs.specs.CnfWhole.CnfTold.{refuses as cnf_refuses}
use Rattle.pb_dimacs.specs.declared.fault.CnfFault.TheVariants as cnf
use Rattle.pb_encode.specs.Summaries.{IsEncodable, IsOver}
use Rattle.pb_model.specs.Decoding.{IsFirstViolated}
use Rattle.pb_opb.proofs.Reading.{reads-no_fault}
use Rattle.pb_opb.proofs.Uniqueness.{one_fault}
use Rattle.pb_opb.specs.declared.fault.OpbFault.TheVariants as opb
use Rattle.pb_suite.specs.declared.outcome.Outcome.{Outcome}
use Rattle.pb_suite.specs.Refusals.{RefusesCnf, RefusesModel, RefusesOpb}
use Rattle.pb_suite.specs.Refusals.RefusesCnf.{token as cnf_token, limit as cnf_limit}
use Rattle.pb_suite.specs.Refusals.RefusesModel.{token as model_token, limit as model_limit}
use Rattle.pb_suite.specs.Refusals.RefusesOpb.{token, limit, heavy}

-- ---- refusals

pub opb_one : (bound : Option ℤ) (text : List ℕ) (a b : Outcome) → RefusesOpb bound text a → RefusesOpb bound text b → a ≡ b
opb_one bound text _ _ (token p e first) (token q d second) = let same : opb.Token p e ≡ opb.Token q d = one_fault text (opb.Token p e) (opb.Token q d) (λ e. cc) (λ e. cc) first second in cc
opb_one bound text _ _ (token p e first) (limit q d second) = let same : opb.Token p e ≡ opb.Limit q d = one_fault text (opb.Token p e) (opb.Limit q d) (λ e. cc) (λ e. cc) first second in cc
opb_one bound text _ _ (token p e first) (heavy r b given reads weight) = let no : opb.Token p e ≡ opb.NoMemory = reads-no_fault text r (opb.Token p e) reads first in cc
opb_one bound text _ _ (limit p e first) (token q d second) = let same : opb.Limit p e ≡ opb.Token q d = one_fault text (opb.Limit p e) (opb.Token q d) (λ e. cc) (λ e. cc) first second in cc
opb_one bound text _ _ (limit p e first) (limit q d second) = let same : opb.Limit p e ≡ opb.Limit q d = one_fault text (opb.Limit p e) (opb.Limit q d) (λ e. cc) (λ e. cc) first second in cc
opb_one bound text _ _ (limit p e first) (heavy r b given reads weight) = let no : opb.Limit p e ≡ opb.NoMemory = reads-no_fault text r (opb.Limit p e) reads first in cc
opb_one bound text _ _ (heavy r b given reads weight) (token q d second) = let no : opb.Token q d ≡ opb.NoMemory = reads-no_fault text r (opb.Token q d) reads second in cc
opb_one bound text _ _ (heavy r b given reads weight) (limit q d second) = let no : opb.Limit q d ≡ opb.NoMemory = reads-no_fault text r (opb.Limit q d) reads second in cc
opb_one bound text _ _ (heavy r b given reads weight) (heavy s c also reads' weight') = refl

pub cnf_one : (text : List ℕ) (a b : Outcome) → RefusesCnf text a → RefusesCnf text b → a ≡ b
cnf_one text _ _ (cnf_token p e first) (cnf_token q d second) = let same : cnf_refuses (cnf.Token p e) ≡ cnf_refuses (cnf.Token q d) = sym first ∙ second in cc
cnf_one text _ _ (cnf_token p e first) (cnf_limit q d second) = let same : cnf_refuses (cnf.Token p e) ≡ cnf_refuses (cnf.Limit q d) = sym first ∙ second in cc
cnf_one text _ _ (cnf_limit p e first) (cnf_token q d second) = let same : cnf_refuses (cnf.Limit p e) ≡ cnf_refuses (cnf.Token q d) = sym first ∙ second in cc
cnf_one text _ _ (cnf_limit p e first) (cnf_limit q d second) = let same : cnf_refuses (cnf.Limit p e) ≡ cnf_refuses (cnf.Limit q d) = sym first ∙ second in cc

pub model_one : (vars : ℕ) (text : List ℕ) (a b : Outcome) → RefusesModel vars text a → RefusesModel vars text b → a ≡ b
model_one vars text _ _ (model_token p e first) (model_token q d second) = let same = sym first ∙ second in cc
model_one vars text _ _ (model_token p e first) (model_limit q d second) = let same = sym first ∙ second in cc
model_one vars text _ _ (model_limit p e first) (model_token q d second) = let same = sym first ∙ second in cc
model_one vars text _ _ (model_limit p e first) (model_limit q d second) = let same = sym first ∙ second in cc

-- ---- limits of what is made

data IsPast (o : Options) (p : Problem) : LimitKind → Type 0 where
  bounds : IsOver limits.Bounds o p → IsPast o p limits.Bounds
  vars : IsOver limits.Variables o p → IsPast o p limits.Variables
  clauses : IsOver limits.Clauses o p → IsPast o p limits.Clauses

past : (o : Options) (p : Problem) (which : LimitKind) → IsOver which o p → IsPast o p which
past o p limits.Text over = absurd over
past o p limits.Statements over = absurd over
past o p limits.Terms over = absurd over
past o p limits.Weight over = absurd over
past o p limits.Bounds over = bounds over
past o p limits.Variables over = vars over
past o p limits.Clauses over = clauses over
past o p limits.Line over = absurd over
past o p limits.Lines over = absurd over
past o p limits.Number over = absurd over
past o p limits.Name over = absurd over

past_one : (o : Options) (p : Problem) (a b : LimitKind) → IsPast o p a → IsPast o p b → a ≡ b
past_one o p _ _ (bounds h) (bounds k) = refl
past_one o p _ _ (bounds h) (vars k) = absurd (omega (arith, h, k.0))
past_one o p _ _ (bounds h) (clauses k) = absurd (omega (arith, h, k.0))
past_one o p _ _ (vars h) (bounds k) = absurd (omega (arith, h.0, k))
past_one o p _ _ (vars h) (vars k) = refl
past_one o p _ _ (vars h) (clauses k) = absurd (omega (arith, h.1, k.1))
past_one o p _ _ (clauses h) (bounds k) = absurd (omega (arith, h.0, k))
past_one o p _ _ (clauses h) (vars k) = absurd (omega (arith, h.1, k.1))
past_one o p _ _ (clauses h) (clauses k) = refl

past_no : (o : Options) (p : Problem) (which : LimitKind) → IsEncodable o p → IsPast o p which → ⊥
past_no o p _ fine (bounds h) = let le = fine.bounds in omega (arith, h, le)
past_no o p _ fine (vars h) = let lt = fine.vars in omega (arith, h.1, lt)
past_no o p _ fine (clauses h) = let le = fine.clauses in omega (arith, h.2, le)

pub over_one : (o : Options) (p : Problem) (a b : LimitKind) → IsOver a o p → IsOver b o p → a ≡ b
over_one o p a b first second = past_one o p a b (past o p a first) (past o p b second)

pub over_no : (o : Options) (p : Problem) (which : LimitKind) → IsEncodable o p → IsOver which o p → ⊥
over_no o p which fine over = past_no o p which fine (past o p which over)

-- ---- the first statement that is violated

first_one : (a : Assignment) (before : List Raw) (s : Raw) (after : List Raw) (before' : List Raw) (s' : Raw) (after' : List Raw) → before ++ s ∷ after ≡ before' ++ s' ∷ after' → All (Satisfies a) before → ¬ Satisfies a s → All (Satisfies a) before' → ¬ Satisfies a s'
    → length before ≡ length before'
first_one a [] s after [] s' after' is kept bad kept' bad' = refl
first_one a [] s after (x ∷ before') s' after' is kept bad kept' bad' = let same : s ≡ x = cc in absurd (bad (subst (Satisfies a) (sym same) (All-head (Satisfies a) x before' kept')))
first_one a (x ∷ before) s after [] s' after' is kept bad kept' bad' = let same : x ≡ s' = cc in absurd (bad' (subst (Satisfies a) same (All-head (Satisfies a) x before kept)))
first_one a (x ∷ before) s after (y ∷ before') s' after' is kept bad kept' bad' =
    let rest : before ++ s ∷ after ≡ before' ++ s' ∷ after' = cc in
    let same = first_one a before s after before' s' after' rest (All-tail (Satisfies a) x before kept) bad (All-tail (Satisfies a) y before' kept') bad' in
    omega (arith, same)

pub violated_one : (a : Assignment) (statements : List Raw) (n m : ℕ) → IsFirstViolated a statements n → IsFirstViolated a statements m → n ≡ m
violated_one a statements n m f g =
    let same = first_one a f.before f.statement f.after g.before g.statement g.after (sym f.cut ∙ g.cut) f.kept f.violated g.kept g.violated in
    omega (arith, f.counted, g.counted, same)

-- ---- ascending lists of the same items

abbrev Below : Lit → Lit → Type 0
Below k l = k.var < l.var

-- an item is the first, or stands above it
ahead : (x y : Lit) (ys : List Lit) → All (Below y) ys → Contains (y ∷ ys) x → (y ≡ x) ⊎ (y.var < x.var)
ahead x y ys above h = elim (Contains-cons_cases y ys x h) as (λ _. (y ≡ x) ⊎ (y.var < x.var)) [ inl same ↦ inl same | inr later ↦ inr (All-contains (Below y) ys x above later) ]

heads : (x y : Lit) → (y ≡ x) ⊎ (y.var < x.var) → (x ≡ y) ⊎ (x.var < y.var) → x ≡ y
heads x y (inl same) other = sym same
heads x y (inr more) (inl same) = same
heads x y (inr more) (inr less) = absurd (omega (arith, more, less))

-- what stands above the first is among the others
behind : (x y : Lit) (xs ys : List Lit) (l : Lit) → y ≡ x → All (Below x) xs → Contains xs l → Contains (y ∷ ys) l → Contains ys l
behind x y xs ys l same above h k = elim (Contains-cons_cases y ys l k) as (λ _. Contains ys l) [
  | inl first ↦ absurd (omega (arith, All-contains (Below x) xs l above h, ap (λ (m : Lit). m.var) (sym first ∙ same)))
  | inr later ↦ later
]

pub ascending_one : (xs ys : List Lit) → AllPairs Below xs → AllPairs Below ys → ((l : Lit) → Contains xs l → Contains ys l) → ((l : Lit) → Contains ys l → Contains xs l) → xs ≡ ys
ascending_one [] [] up up' to from = refl
ascending_one [] (y ∷ ys) up up' to from = absurd (Contains-nil y (from y (Contains-here y ys)))
ascending_one (x ∷ xs) [] up up' to from = absurd (Contains-nil x (to x (Contains-here x xs)))
ascending_one (x ∷ xs) (y ∷ ys) up up' to from =
    let above = AllPairs-head Below x xs up in
    let above' = AllPairs-head Below y ys up' in
    let same : x ≡ y = heads x y (ahead x y ys above' (to x (Contains-here x xs))) (ahead y x xs above (from y (Contains-here y ys))) in
    let rest : xs ≡ ys = ascending_one xs ys (AllPairs-tail Below x xs up) (AllPairs-tail Below y ys up')
    (λ l h. behind x y xs ys l (sym same) above h (to l (Contains-there x xs l h)))
    (λ l h. behind y x ys xs l same above' h (from l (Contains-there y ys l h))) in
    cc
