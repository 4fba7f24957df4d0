use Rattle.std.proofs.Common.{◌≡◌, ◌<◌, ℕ, List, [], arith, length, subst}
use Rattle.std.specs.Prelude.{Contains}
use Rattle.pb_unit.proofs.Standing.{read_as}
use Rattle.pb_database.specs.inner.Indexed.{ids_at}
use Rattle.pb_database.proofs.Indexing.{loses-none, loses-at}
use Rattle.pb_database.proofs.index.take_one.Goals as goal

pub returns-then-number-len : goal.returns-then-number-len
returns-then-number-len c = loses-none c.args.id c.args.lists.now.items

pub returns : goal.returns
returns c =
    let lists = c.args.lists.now.items in
    let below : c.args.number < length lists = omega (arith, c.if-number-len.false, c.len.ensures) in
    let old : ids_at lists c.args.number ≡ c.index_mut.result.now = read_as lists c.args.number c.index_mut.result.now [] below c.index_mut.ensures.value in
    loses-at c.args.id c.args.number lists c.take.new.self below (λ k ne h. c.take.ensures k ne (subst (λ (ks : List ℕ). Contains ks k) old h))
