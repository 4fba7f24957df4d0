use Rattle.std.proofs.Common.{◌≡◌, ◌∙◌, ap, sym, List, ℕ, ◌++◌, ◌∷◌, [], set}
use Rattle.std.proofs.lemmas.List.{set-get_or}
use Rattle.pb_unit.proofs.Standing.{read_as}
use Rattle.pb_database.specs.inner.Indexed.{ids_at}
use Rattle.pb_database.proofs.Indexing.{keeps_with, has_with, keeps_ids_same}
use Rattle.pb_database.proofs.index.append.Goals as goal

pub returns-in-Ok-clause-kept : goal.returns-in-Ok-clause-kept
returns-in-Ok-clause-kept c =
    let lists = c.args.lists.now.items in
    let old : ids_at lists c.args.number ≡ c.index_mut.result.now = read_as lists c.args.number c.index_mut.result.now [] c.requires c.index_mut.ensures.value in
    keeps_with lists (set lists c.args.number c.push.new.self) c.args.number c.args.id (ap (set lists c.args.number) (c.in-Ok.ensures.ok ∙ ap (λ (ids : List ℕ). ids ++ c.args.id ∷ []) (sym old)))

pub returns-in-Ok-clause-added : goal.returns-in-Ok-clause-added
returns-in-Ok-clause-added c =
    let lists = c.args.lists.now.items in
    let old : ids_at lists c.args.number ≡ c.index_mut.result.now = read_as lists c.args.number c.index_mut.result.now [] c.requires c.index_mut.ensures.value in
    has_with lists (set lists c.args.number c.push.new.self) c.args.number c.args.id c.requires (ap (set lists c.args.number) (c.in-Ok.ensures.ok ∙ ap (λ (ids : List ℕ). ids ++ c.args.id ∷ []) (sym old)))

pub returns-in-Err-clause-kept : goal.returns-in-Err-clause-kept
returns-in-Err-clause-kept c =
    let lists = c.args.lists.now.items in
    let old : ids_at lists c.args.number ≡ c.index_mut.result.now = read_as lists c.args.number c.index_mut.result.now [] c.requires c.index_mut.ensures.value in
    keeps_ids_same lists (set lists c.args.number c.push.new.self) (ap (set lists c.args.number) (c.in-Err.ensures.err ∙ sym old) ∙ set-get_or lists c.args.number [])
