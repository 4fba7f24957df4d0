use Rattle.std.proofs.Common.{All, List, Ok, length, arith, ap, sym, subst, ◌∙◌}
use Rattle.pb_base.specs.declared.literal.Lit.{Lit}
use Rattle.pb_desk.specs.Desk.{IfKept}
use Rattle.pb_desk.proofs.BothSlots.{takes_none}
use Rattle.pb_norm.specs.Constraints.{AreVarsWithin}
use Rattle.pb_dimacs.specs.CnfReaders.{CnfReader}
use Rattle.pb_steps.specs.Database.{Database}
use Rattle.pb_steps.specs.Operations.{IsNarrow}
use Rattle.pb_check.specs.KeptClauses.{SaysClauses}
use Rattle.pb_check.specs.Outcomes.{StopsCheck}
use Rattle.pb_check.specs.declared.kept.CollectedClauses.{CollectedClauses}
use Rattle.pb_check.specs.declared.verdict.Verdict.{Verdict}
use Rattle.pb_check.specs.declared.verdict.CheckFault.TheVariants.{NoMemory}
use Rattle.pb_check.specs.inner.Calls.{AnswersLines, StopsLines}
use Rattle.pb_check.specs.inner.Keeping.{KeepsLines}
use Rattle.pb_check.proofs.KeepingRuns.{clauses_told, vars_told}
use Rattle.pb_check.proofs.Loading.{loaded_narrow, loaded_within}
use Rattle.pb_check.proofs.Readers.{can_go_on, can_wait, new_ready}
use Rattle.pb_check.proofs.WholeRuns.{IsLoaded, are_new, none_read, too_few, walk_stopped, walk_unstarted, whole_given, whole_stopped}
use Rattle.pb_check.proofs.checking.check_by.Goals as goal

pub returns-in_default-clause-stopped : goal.returns-in_default-clause-stopped
returns-in_default-clause-stopped g c = takes_none c.args.cnf c.args.proof (g.D.Desk.state c.args.desk.now)

pub returns-in_default-new-clause-stopped : goal.returns-in_default-new-clause-stopped
returns-in_default-new-clause-stopped g c = takes_none c.args.cnf c.args.proof (g.D.Desk.state c.args.desk.now)

pub head-requires-clause-open : goal.head-requires-clause-open
head-requires-clause-open g c = let ready = new_ready c.args.cnf c.args.proof c.args.kept c.in-Ok-new.session (g.D.Desk.state c.args.desk.now) c.in-Ok-new.ensures c.requires.slots in ready.clauses.is_open

pub head-requires-clause-knows : goal.head-requires-clause-knows
head-requires-clause-knows g c = let ready = new_ready c.args.cnf c.args.proof c.args.kept c.in-Ok-new.session (g.D.Desk.state c.args.desk.now) c.in-Ok-new.ensures c.requires.slots in ready.clauses.knows

pub head-requires-clause-first : goal.head-requires-clause-first
head-requires-clause-first g c = ap (λ (r : CnfReader). r.lines.number) c.in-Ok-new.ensures.cnf_new

pub head-requires-clause-fine : goal.head-requires-clause-fine
head-requires-clause-fine g c = ap (λ (r : CnfReader). r.fault) c.in-Ok-new.ensures.cnf_new

pub returns-in-Err-clause-stopped : goal.returns-in-Err-clause-stopped
returns-in-Err-clause-stopped g c =
    let s = c.in-Ok-new.session in
    let a = g.D.Desk.state c.args.desk.now in
    let b = g.D.Desk.state c.head.new.desk in
    subst (StopsCheck c.args.problem.now c.args.cnf c.args.proof a b) (sym c.of_cnf.ensures.value)
    (walk_unstarted c.in-Err.fault c.args.problem.now c.args.cnf c.args.proof s.outputs.cnf c.head.new.self s.derivation.lines a b (are_new c.args.cnf c.args.proof c.args.kept s c.in-Ok-new.ensures) s.apart c.in-Err.ensures.slot c.in-Err.ensures.stopped)

pub returns-then-head-originals-clause-stopped : goal.returns-then-head-originals-clause-stopped
returns-then-head-originals-clause-stopped g c =
    let p = c.args.problem.now in
    let head = c.in-Ok-head.head in
    let s = c.in-Ok-new.session in
    let cnf = c.head.new.self in
    let proof = s.derivation.lines in
    let b = g.D.Desk.state c.head.new.desk in
    walk_stopped c.too_few_vars.result p head c.args.cnf c.args.proof s.outputs.cnf cnf cnf proof proof (g.D.Desk.state c.args.desk.now) b b (are_new c.args.cnf c.args.proof c.args.kept s c.in-Ok-new.ensures) s.apart c.in-Ok-head.ensures.slot c.in-Ok-head.ensures.head
    (too_few c.too_few_vars.result p head cnf proof b c.too_few_vars.ensures (λ e. s.apart (sym c.in-Ok-head.ensures.slot ∙ e)) (omega (arith, c.if-head-originals.true, c.originals.ensures)))

pub new-requires-2-clause-within : goal.new-requires-2-clause-within
new-requires-2-clause-within g c =
    subst (AreVarsWithin c.in-Ok-head.head.vars) (sym (c.as_slice-loaded.ensures ∙ c.in-Ok.ensures.list))
    (loaded_within c.args.problem.now c.in-Ok-head.head.vars (omega (arith, c.if-head-originals.false, c.originals.ensures)) c.requires.within)

pub new-requires-2-clause-narrow : goal.new-requires-2-clause-narrow
new-requires-2-clause-narrow g c = subst (All IsNarrow) (sym (c.as_slice-loaded.ensures ∙ c.in-Ok.ensures.list)) (loaded_narrow c.args.problem.now c.requires.within)

pub returns-in_default-new-2-clause-stopped : goal.returns-in_default-new-2-clause-stopped
returns-in_default-new-2-clause-stopped g c =
    let p = c.args.problem.now in
    let head = c.in-Ok-head.head in
    let s = c.in-Ok-new.session in
    let cnf = c.head.new.self in
    let a = g.D.Desk.state c.args.desk.now in
    let b = g.D.Desk.state c.head.new.desk in
    let is : IsLoaded p head cnf c.originals-2.result c.as_slice-loaded.result.now =
    record { vars = c.in-Ok-head.ensures.vars; left = c.in-Ok-head.ensures.clauses; enough = omega (arith, c.if-head-originals.false, c.originals.ensures); original_is = c.originals-2.ensures; loaded_is = c.as_slice-loaded.ensures ∙ c.in-Ok.ensures.list } in
    whole_stopped NoMemory p head c.args.cnf c.args.proof c.args.kept s cnf cnf s.derivation.lines c.originals-2.result c.as_slice-loaded.result.now a b b c.in-Ok-new.ensures c.in-Ok-head.ensures.slot c.in-Ok-head.ensures.head is
    (none_read cnf.lines s.derivation.lines b (λ e. s.apart (sym c.in-Ok-head.ensures.slot ∙ e)))

pub check_lines-requires : goal.check_lines-requires
check_lines-requires g c =
    let s = c.in-Ok-new.session in
    let cnf = c.head.new.self in
    let a = g.D.Desk.state c.args.desk.now in
    let b = g.D.Desk.state c.head.new.desk in
    let ready = new_ready c.args.cnf c.args.proof c.args.kept s a c.in-Ok-new.ensures c.requires.slots in
    record {
      ready = record {
        clauses = can_go_on _ s.outputs.cnf.fault cnf.fault s.outputs.cnf.lines cnf.lines a b _ c.in-Ok-head.ensures.slot c.in-Ok-head.ensures.fine c.in-Ok-head.ensures.head ready.clauses;
        lines = can_wait _ s.derivation.lines.fault s.derivation.lines s.outputs.cnf.lines cnf.lines a b _ (λ e. s.apart (sym e)) c.in-Ok-head.ensures.head ready.lines;
      };
    }

pub returns-in-Ok-check_lines-clause-verdict : goal.returns-in-Ok-check_lines-clause-verdict
returns-in-Ok-check_lines-clause-verdict g c =
    let p = c.args.problem.now in
    let head = c.in-Ok-head.head in
    let s = c.in-Ok-new.session in
    let cnf = c.head.new.self in
    let a = g.D.Desk.state c.args.desk.now in
    let b = g.D.Desk.state c.head.new.desk in
    let s' = c.check_lines.new.self in
    let d = g.D.Desk.state c.check_lines.new.desk in
    let loaded = c.as_slice-loaded.result.now in
    let is : IsLoaded p head cnf c.originals-2.result c.as_slice-loaded.result.now =
    record { vars = c.in-Ok-head.ensures.vars; left = c.in-Ok-head.ensures.clauses; enough = omega (arith, c.if-head-originals.false, c.originals.ensures); original_is = c.originals-2.ensures; loaded_is = c.as_slice-loaded.ensures ∙ c.in-Ok.ensures.list } in
    let given = subst (λ (db : Database). AnswersLines c.in-Ok-check_lines.verdict (length loaded) cnf db s.derivation.lines s'.outputs.cnf s'.derivation.lines b d) c.in-Ok-new-2.ensures c.in-Ok-check_lines.ensures.verdict in
    whole_given p head c.args.cnf c.args.proof c.args.kept s s' cnf c.originals-2.result loaded a b d (Ok c.in-Ok-check_lines.verdict) c.in-Ok-new.ensures c.in-Ok-head.ensures.slot c.in-Ok-head.ensures.head is given

pub returns-clause-stopped : goal.returns-clause-stopped
returns-clause-stopped g c =
    let p = c.args.problem.now in
    let head = c.in-Ok-head.head in
    let s = c.in-Ok-new.session in
    let cnf = c.head.new.self in
    let a = g.D.Desk.state c.args.desk.now in
    let b = g.D.Desk.state c.head.new.desk in
    let s' = c.check_lines.new.self in
    let d = g.D.Desk.state c.check_lines.new.desk in
    let f = c.in-Err-check_lines.fault in
    let loaded = c.as_slice-loaded.result.now in
    let is : IsLoaded p head cnf c.originals-2.result c.as_slice-loaded.result.now =
    record { vars = c.in-Ok-head.ensures.vars; left = c.in-Ok-head.ensures.clauses; enough = omega (arith, c.if-head-originals.false, c.originals.ensures); original_is = c.originals-2.ensures; loaded_is = c.as_slice-loaded.ensures ∙ c.in-Ok.ensures.list } in
    let stops = subst (λ (db : Database). StopsLines f (length loaded) cnf db s.derivation.lines s'.outputs.cnf s'.derivation.lines b d) c.in-Ok-new-2.ensures c.in-Err-check_lines.ensures.stopped in
    whole_stopped f p head c.args.cnf c.args.proof c.args.kept s cnf s'.outputs.cnf s'.derivation.lines c.originals-2.result loaded a b d c.in-Ok-new.ensures c.in-Ok-head.ensures.slot c.in-Ok-head.ensures.head is stops

pub returns-in-Ok-check_lines-clause-vars : goal.returns-in-Ok-check_lines-clause-vars
returns-in-Ok-check_lines-clause-vars g c = λ k.
    let p = c.args.problem.now in
    let head = c.in-Ok-head.head in
    let s = c.in-Ok-new.session in
    let cnf = c.head.new.self in
    let a = g.D.Desk.state c.args.desk.now in
    let b = g.D.Desk.state c.head.new.desk in
    vars_told p c.args.cnf c.args.proof s.outputs.cnf cnf s.derivation.lines head a b (are_new c.args.cnf c.args.proof c.args.kept s c.in-Ok-new.ensures) c.requires.slots.apart c.in-Ok-head.ensures.slot c.in-Ok-head.ensures.head (c.in-Ok-check_lines.ensures.verdict.reached.kept k)

pub returns-in-Ok-check_lines-clause-clauses : goal.returns-in-Ok-check_lines-clause-clauses
returns-in-Ok-check_lines-clause-clauses g c = λ wanted accepted.
    let p = c.args.problem.now in
    let head = c.in-Ok-head.head in
    let s = c.in-Ok-new.session in
    let cnf = c.head.new.self in
    let a = g.D.Desk.state c.args.desk.now in
    let b = g.D.Desk.state c.head.new.desk in
    let s' = c.check_lines.new.self in
    let d = g.D.Desk.state c.check_lines.new.desk in
    let kept = c.in-Ok-new.ensures.kept_is in
    subst (λ (cs : List (List Lit)). IfKept a d (λ t. SaysClauses (t.left c.args.cnf) head.vars cs)) (sym c.into_clauses.ensures)
    (clauses_told p c.args.cnf c.args.proof s.outputs.cnf cnf s'.outputs.cnf s.derivation.lines s'.derivation.lines head s.outputs.kept s'.outputs.kept a b d (are_new c.args.cnf c.args.proof c.args.kept s c.in-Ok-new.ensures) c.requires.slots.apart
    c.in-Ok-head.ensures.slot c.in-Ok-head.ensures.vars c.in-Ok-head.ensures.clauses (ap (λ (k : CollectedClauses). k.wanted) kept ∙ wanted) (ap (λ (k : CollectedClauses). k.clauses) kept ∙ c.requires.nothing) c.in-Ok-head.ensures.head
    (subst (λ (v : Verdict). KeepsLines v s.outputs.kept cnf s.derivation.lines s'.outputs.kept s'.outputs.cnf s'.derivation.lines b d) accepted c.in-Ok-check_lines.ensures.keeps))
