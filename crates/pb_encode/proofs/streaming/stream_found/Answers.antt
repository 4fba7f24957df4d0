use Rattle.std.proofs.Common.{◌≡◌, ◌+◌, ◌∷◌, [], ◌∙◌, ℕ, List, ap, sym, subst, arith}
use Rattle.std.specs.Prelude.{IfOk}
use Rattle.pb_base.specs.declared.literal.Lit.{Lit}
use Rattle.pb_family.specs.Handing.{HandsIfMemory}
use Rattle.pb_encode.specs.Groups.{group_clauses, group_fresh}
use Rattle.pb_encode.specs.declared.groups.Found.{Found}
use Rattle.pb_encode.specs.inner.Found.{found_group}
use Rattle.pb_encode.proofs.PlainClauses.{ones_clauses, ones_fresh}
use Rattle.pb_encode.proofs.streaming.stream_found.Goals as goal

pub returns-in-Clause-clause-next : goal.returns-in-Clause-clause-next
returns-in-Clause-clause-next g c =
    let o = c.args.options.now in
    let none : group_fresh o (found_group c.args.found.now) ≡ 0 =
    ap (λ (f : Found). group_fresh o (found_group f)) c.in-Clause.is ∙ ones_fresh o c.in-Clause.clause.lits c.in-Clause.clause.some in
    let same : c.args.first ≡ c.args.first + group_fresh o (found_group c.args.found.now) = omega (arith, none) in
    subst (λ (n : ℕ). IfOk c.stream_clause.result (λ next. next ≡ n)) same c.stream_clause.ensures.next

pub returns-in-Clause-clause-hands : goal.returns-in-Clause-clause-hands
returns-in-Clause-clause-hands g c =
    let o = c.args.options.now in
    let lits = c.in-Clause.clause.lits in
    let same : c.as_slice.result.now ∷ [] ≡ group_clauses o (found_group c.args.found.now) c.args.first =
    ap (λ (ls : List Lit). ls ∷ []) c.as_slice.ensures ∙ sym (ones_clauses o lits c.in-Clause.clause.some c.args.first)
    ∙ sym (ap (λ (f : Found). group_clauses o (found_group f) c.args.first) c.in-Clause.is) in
    subst (λ (ls : List (List Lit)). HandsIfMemory ls c.stream_clause.result (g.S.ClauseSink.state c.args.sink.now) (g.S.ClauseSink.state c.stream_clause.new.sink)) same c.stream_clause.ensures.hands
