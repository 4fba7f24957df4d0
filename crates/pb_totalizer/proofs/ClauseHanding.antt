-- The clauses of a node with the lines about all outputs of its parts, as they are handed over.
use Rattle.std.proofs.Common.{◌≡◌, ℕ, length}
use Rattle.pb_derive.specs.Claims.{claim_steps}
use Rattle.pb_totalizer.specs.Totalizer.{is_within, node_clause_count}
use Rattle.pb_totalizer.specs.declared.joint.Joint.{Joint}
use Rattle.pb_totalizer.specs.inner.Joints.{joint_claim, joint_claims}
use Rattle.pb_totalizer.specs.inner.Sides.{side_count, side_lines, side_size, side_others}
use Rattle.pb_totalizer.specs.laws.PairRows.{rows_counted}
use Rattle.pb_totalizer.proofs.NodeHanding.{NodeForm}

pub claims_counted : (n : Joint) (lefts rights : ℕ) → length (joint_claims n lefts rights) ≡ node_clause_count n.cap (side_count n.left) (side_count n.right)
claims_counted n lefts rights = rows_counted (joint_claim n lefts rights) (is_within n.cap) (side_count n.left) (side_count n.right)

-- by where the line of each part for none of its outputs stands
abbrev pub narrow_form : Joint → NodeForm (ℕ × ℕ)
narrow_form n = record {
  left_size = side_size n.left;
  right_size = side_size n.right;
  lefts = side_lines n.left;
  rights = side_lines n.right;
  place = λ next middle. (side_others n.left next, side_others n.right middle);
  body = λ x at. claim_steps at (joint_claims n x.0 x.1);
}
