use Rattle.std.proofs.Common.{◌≡◌, ◌++◌, ℕ, List, append-nil, arith, length, sym, take, subst}
use Rattle.std.specs.Prelude.{codes}
use Rattle.std.specs.List.{flat_map}
use Rattle.pb_family.specs.ClauseText.{literal_text}
use Rattle.pb_family.proofs.Fronts.{appended_all, appended_front, still_before}
use Rattle.pb_family.proofs.Gathered.{flat_next, flat_last}
use Rattle.pb_family.proofs.text.push_line.Goals as goal

pub returns-in_err-push_literal-clause-before : goal.returns-in_err-push_literal-clause-before
returns-in_err-push_literal-clause-before c =
    let start = c.args.out.now.items in
    let more = flat_map (λ lit. literal_text lit ++ codes " ") (take c.loop-lit.lit-index c.args.clause.now) in
    still_before start more c.push_literal.new.out.items
    (subst (λ (xs : List ℕ). take (length xs) c.push_literal.new.out.items ≡ xs) c.loop-lit.invariant c.push_literal.ensures.before)

pub loop-lit-init : goal.loop-lit-init
loop-lit-init c = sym (append-nil c.args.out.now.items)

pub loop-lit-preserved : goal.loop-lit-preserved
loop-lit-preserved c =
    flat_next (λ lit. literal_text lit ++ codes " ") c.args.clause.now c.loop-lit.lit-index c.lit-item.result c.lit-item.result c.args.out.now.items c.loop-lit.out.items c.push_literal.new.out.items (omega arith) c.lit-item.is
    c.loop-lit.invariant c.in_ok-push_literal.ensures.ok

pub returns-clause-ok : goal.returns-clause-ok
returns-clause-ok c =
    let said = flat_last (λ lit. literal_text lit ++ codes " ") c.args.clause.now c.loop-lit.lit-index c.args.out.now.items c.loop-lit.out.items (omega arith) c.loop-lit.invariant in
    appended_all c.extend_from_slice.result c.args.out.now.items _ (codes "0\n") c.loop-lit.out.items c.extend_from_slice.new.self.items said c.extend_from_slice.ensures.items

pub returns-clause-before : goal.returns-clause-before
returns-clause-before c = appended_front c.extend_from_slice.result c.args.out.now.items _ (codes "0\n") c.loop-lit.out.items c.extend_from_slice.new.self.items c.loop-lit.invariant c.extend_from_slice.ensures.items
