-- What a solver printed of a CNF that was made is decoded.
use Rattle.std.proofs.Common.{◌≡◌, ◌∙◌, ◌≤◌, ◌<◌, ◌^◌, ℕ, ℤ, Bool, List, Option, Some, refl, subst, sym, ap, arith}
use Rattle.pb_base.specs.declared.problem.Problem.{Problem}
use Rattle.pb_base.specs.Problems.{IsSolution}
use Rattle.pb_base.specs.declared.options.Options.{Options}
use Rattle.pb_desk.specs.Desk.{DeskState}
use Rattle.pb_desk.proofs.Tells.{in_told}
use Rattle.pb_dimacs.specs.CnfReading.{CnfReads}
use Rattle.pb_dimacs.proofs.Unique.{says_one_thing}
use Rattle.pb_encode.specs.Clauses.{problem_vars}
use Rattle.pb_encode.specs.Summaries.{IsEncodable}
use Rattle.pb_suite.specs.declared.outcome.Outcome.TheVariants as outcome
use Rattle.pb_words.specs.EncodeWords.{EncodeWords}
use Rattle.pb_suite.specs.Chain.{AnswersAreDecoded, IsEncoded, TellsModel}
use Rattle.pb_suite.specs.CommandSpec.{Shelf}
use Rattle.pb_suite.specs.DecodeSpec.{decode_spec}
use Rattle.pb_suite.specs.Denoted.{Denotes, IsDenoted}
use Rattle.pb_suite.specs.EncodeSpec.{encode_spec, file_of, proof_files}
use Rattle.pb_suite.specs.Outputs.{only_words}
use Rattle.pb_suite.specs.SaidSolutions.{IsDue, SaysOnly}
use Rattle.pb_suite.specs.Chain.{IsDecodedBack}
use Rattle.pb_model.specs.SolutionText.{solution_text}
use Rattle.pb_suite.proofs.Chains.{has_first, made_encoding, models_are_decoded}
use Rattle.pb_suite.proofs.Cuts.{told_front}
use Rattle.pb_suite.proofs.Decodes.{same_posed}
use Rattle.pb_suite.proofs.Dones.{done_so}
use Rattle.pb_suite.proofs.Unread.{same_some}

-- the problem that was encoded was not too large
record IsSized (w : EncodeWords) (shelf : Shelf) : Type 0 where
  problem : Problem
  denoted : IsDenoted shelf w.opb w.bound problem
  encodable : IsEncodable w.options problem

sized : (w : EncodeWords) (a b : DeskState) (shelf : Shelf) (e : IsEncoded w a b shelf) → IsSized w e.before.shelf
sized w a b shelf e =
    in_told a e.before (λ t. IsSized w t.shelf) e.tells_before
    (done_so (encode_spec e.derive w) a b (λ t. IsSized w t.shelf) (λ t out due. record { problem = due.0; denoted = due.1; encodable = due.2 }) outcome.Done refl e.implements)

few_vars : (o : Options) (p : Problem) → IsEncodable o p → problem_vars o p < 2 ^ 31
few_vars o p encodable = let few = encodable.vars in omega (arith, few)

vars_kept : (o : Options) (p : Problem) → p.vars ≤ problem_vars o p
vars_kept o p = omega arith

pub answers_are_decoded : AnswersAreDecoded
answers_are_decoded w d a b x y answer now cnf text of tells e implements has_cnf has_text m =
    let made = made_encoding w a b now.shelf e in
    let encoding = made.encoding in
    let p = encoding.problem in
    let size = sized w a b now.shelf e in
    let same : size.problem ≡ p = same_posed e.before.shelf w.opb w.bound size.problem p size.denoted (record { text = made.text; on_shelf = made.on_shelf; denotes = encoding.denotes }) in
    let encodable : IsEncodable w.options p = subst (IsEncodable w.options) same size.encodable in
    let same_cnf : cnf ≡ made.cnf = same_some (now.shelf w.cnf) cnf made.cnf has_cnf (e.files (file_of 0 w.cnf made.cnf) (has_first e.after.made (proof_files w.proof made.proof) e.before.made (file_of 0 w.cnf made.cnf) made.made_is)) in
    let clauses = says_one_thing made.cnf m.vars encoding.vars m.clauses encoding.clauses (subst (λ (xs : List ℕ). CnfReads xs m.vars m.clauses) same_cnf m.reads) encoding.says in
    let vars_are : m.vars ≡ problem_vars w.options p = clauses.0 ∙ encoding.vars_are in
    let few : m.vars < 2 ^ 31 = subst (λ (n : ℕ). n < 2 ^ 31) (sym vars_are) (few_vars w.options p encodable) in
    let within : p.vars ≤ m.vars = subst (λ (n : ℕ). p.vars ≤ n) (sym vars_are) (vars_kept w.options p) in
    let front = told_front p.vars m.vars text m.answer within few m.tells in
    let there : now.shelf d.opb ≡ Some made.text = ap now.shelf of.opb ∙ (e.opb ∙ made.on_shelf) in
    let denoted : IsDenoted now.shelf d.opb d.bound p = record { text = made.text; on_shelf = there; denotes = subst (λ (o : Option ℤ). Denotes o made.text p) (sym of.bound) encoding.denotes } in
    let cut : TellsModel cnf text p.vars = record {
      answer = front.front;
      tells = front.tells;
      says = front.says ∙ m.says;
      vars = m.vars;
      clauses = m.clauses;
      reads = m.reads;
      model = m.answer.values;
      is_model = m.is_model;
      cut = sym front.values_are;
    } in
    let back : IsDecodedBack d now.shelf p front.front x y answer = models_are_decoded w d a b x y answer now cnf text p of tells e implements denoted has_cnf has_text cut in
    record {
      problem = p;
      denoted = denoted;
      solution = subst (IsSolution p) front.values_are back.solution;
      due = subst (λ (vs : List Bool). IsDue (decode_spec d) now.shelf (only_words (solution_text p vs))) front.values_are back.due;
      said = subst (λ (vs : List Bool). SaysOnly (solution_text p vs) x y answer) front.values_are back.said;
    }
