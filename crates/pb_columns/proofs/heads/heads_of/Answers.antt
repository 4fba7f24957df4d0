use Rattle.std.proofs.Common.{◌+◌, get_or}
use Rattle.std.proofs.lemmas.Result.{err_from_is_err_and}
use Rattle.std.proofs.lemmas.List.Elements.{All-more}
use Rattle.pb_columns.specs.Columns.{head_of, IsShort}
use Rattle.pb_columns.proofs.Columned.{next_head}
use Rattle.pb_columns.proofs.Standing.{map_more, no_sum, stands_here}
use Rattle.pb_columns.proofs.heads.heads_of.Goals as goal

pub returns-in_err-push_head-clause-stopped : goal.returns-in_err-push_head-clause-stopped
returns-in_err-push_head-clause-stopped c =
    let p = err_from_is_err_and c.from_residual.result c.from_residual.ensures.1 in
    rw (p.1, p.2) (record {
      at = c.loop-place.place + 1;
      sum = get_or c.args.sums.now c.loop-place.place no_sum;
      stands = stands_here c.args.sums.now c.loop-place.place no_sum c.loop-place-test.true;
      stops = c.in_err-push_head.ensures.stopped;
    })

pub loop-place-preserved : goal.loop-place-preserved
loop-place-preserved c =
    let sums = c.args.sums.now in
    let i = c.loop-place.place in
    let more = c.in_ok-push_head.ensures.ok in
    let within = c.loop-place-test.true in
    record {
      heads = next_head sums i (get_or sums i no_sum) more.head c.loop-place.heads c.push_head.new.heads c.loop-place.invariant.heads (map_more head_of sums i no_sum within) more.head_is more.pushed;
      short = All-more IsShort sums i no_sum within c.loop-place.invariant.short more.short;
    }
