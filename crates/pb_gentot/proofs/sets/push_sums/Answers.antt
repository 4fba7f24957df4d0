use Rattle.std.proofs.Common.{arith, ℕ, [], ◌∷◌, ◌++◌, ◌+◌, min, subst}
use Rattle.pb_gentot.specs.inner.Members.{SameMembers}
use Rattle.pb_gentot.proofs.Marking.{row_more, row_whole}
use Rattle.pb_gentot.proofs.sets.push_sums.Goals as goal

pub loop-other-preserved : goal.loop-other-preserved
loop-other-preserved c =
    let f = λ (v : ℕ). min (c.args.value + v) c.args.cap in
    let pushed = subst (λ (n : ℕ). SameMembers (c.loop-other.made.items ++ n ∷ []) c.push_new-in-loop-other.new.made.items) c.min.ensures c.in_ok-push_new-2.ensures.same in
    record {
      same = row_more c.args.made.now.items c.args.others.now c.loop-other.made.items _ f c.args.value c.loop-other.other-index (omega arith) c.loop-other.invariant.same pushed;
      marked = c.in_ok-push_new-2.ensures.marked;
    }

pub returns-clause-same : goal.returns-clause-same
returns-clause-same c =
    row_whole c.args.made.now.items c.args.others.now c.loop-other.made.items (λ (v : ℕ). min (c.args.value + v) c.args.cap) c.args.value c.loop-other.other-index (omega arith) c.loop-other.invariant.same
