use Rattle.std.proofs.Common.{◌+◌, ◌++◌, ℕ, List, arith, ap, sym, ◌∙◌, subst}
use Rattle.std.proofs.lemmas.Result.{IfOk-from_err}
use Rattle.pb_gentot.specs.inner.Marks.{MarksOnly}
use Rattle.pb_gentot.specs.inner.Members.{SameMembers}
use Rattle.pb_gentot.proofs.Joining.{gathered, gathered_first, gathered_next, gathered_last, gathered_within, same_turned, same_then, values_of, values_more}
use Rattle.pb_gentot.proofs.Marking.{marks_kept}
use Rattle.pb_gentot.proofs.sets.join_values.Goals as goal
use Rattle.pb_gentot.proofs.sets.join_values.Goals.{then-len-kept+else-len-limit, else-len-kept}

pub returns-then-len-limit : goal.returns-then-len-limit
returns-then-len-limit c =
    let us = c.args.left.now in
    let vs = c.args.right.now in
    let i = c.loop-value.value-index in
    let next = gathered_next c.args.cap us vs c.loop-value.made.items _ i (omega arith) c.loop-value.invariant.same c.in_ok-push_sums.ensures.same in
    let more = values_more c.args.cap us vs c.tidy.new.values.items c.requires.left_small c.requires.right_small c.tidy.ensures.rising
    (λ n h. gathered_within c.args.cap us vs (i + 1) n (next.to n (c.tidy.ensures.same.from n h))) in
    omega arith

pub loop-value-init : goal.loop-value-init
loop-value-init c =
    let made = c.in_ok-extend_from_slice.ensures.items ∙ ap (λ (xs : List ℕ). xs ++ c.args.right.now) c.new-made.ensures.items in
    record {
      same = gathered_first c.args.cap c.args.left.now c.args.right.now c.extend_from_slice.new.self.items made;
      marked = subst (MarksOnly c.in_ok-seen.seen) (sym made) c.in_ok-seen.ensures;
    }

pub loop-value-preserved : goal.loop-value-preserved
loop-value-preserved c =
    let us = c.args.left.now in
    let vs = c.args.right.now in
    let i = c.loop-value.value-index in
    let all = gathered c.args.cap us vs (i + 1) in
    let next = gathered_next c.args.cap us vs c.loop-value.made.items _ i (omega arith) c.loop-value.invariant.same c.in_ok-push_sums.ensures.same in
    let marked = c.in_ok-push_sums.ensures.marked in
    elim c.if-len-kept.branch [
      | then-len-kept+else-len-limit w ↦
          let is = sym (ap (λ m. m.items) w.made-is) in
          record {
            same = subst (λ (xs : List ℕ). SameMembers xs all) is (same_then _ _ all (same_turned _ _ w.tidy.ensures.same) next);
            marked = subst (λ (xs : List ℕ). MarksOnly c.push_sums.new.seen xs) is (marks_kept c.push_sums.new.seen _ _ marked w.tidy.ensures.same);
          }
      | else-len-kept w ↦
          let is = sym (ap (λ m. m.items) w.made-is) in
          record {
            same = subst (λ (xs : List ℕ). SameMembers xs all) is next;
            marked = subst (λ (xs : List ℕ). MarksOnly c.push_sums.new.seen xs) is marked;
          }
    ]

pub returns-then-len-limit-2 : goal.returns-then-len-limit-2
returns-then-len-limit-2 c =
    let us = c.args.left.now in
    let vs = c.args.right.now in
    let last = gathered_last c.args.cap us vs c.loop-value.made.items c.tidy-2.new.values.items c.loop-value.value-index (omega arith) c.loop-value.invariant.same c.tidy-2.ensures.same in
    let more = values_more c.args.cap us vs c.tidy-2.new.values.items c.requires.left_small c.requires.right_small c.tidy-2.ensures.rising last.to in
    omega arith

pub returns : goal.returns
returns c =
    let us = c.args.left.now in
    let vs = c.args.right.now in
    let last = gathered_last c.args.cap us vs c.loop-value.made.items c.tidy-2.new.values.items c.loop-value.value-index (omega arith) c.loop-value.invariant.same c.tidy-2.ensures.same in
    (values_of c.args.cap us vs c.tidy-2.new.values.items c.requires.left_small c.requires.right_small c.tidy-2.ensures.rising last, omega arith)

pub push_sums-requires : goal.push_sums-requires
push_sums-requires c = record { small = c.requires.left_small c.loop-value.value-index 0 (omega arith); others_small = c.requires.right_small; few = c.requires.few; marked = c.loop-value.invariant.marked }

pub returns-in_err-extend_from_slice : goal.returns-in_err-extend_from_slice
returns-in_err-extend_from_slice c = IfOk-from_err _ _ c.from_residual.ensures.0

pub returns-in_err-seen : goal.returns-in_err-seen
returns-in_err-seen c = IfOk-from_err _ _ c.from_residual-in_err-seen.ensures.0

pub returns-in_err-push_sums : goal.returns-in_err-push_sums
returns-in_err-push_sums c = IfOk-from_err _ _ c.from_residual-in_err-push_sums.ensures.0
