use Rattle.std.proofs.Common.{◌≡◌, subst}
use Rattle.pb_desk.specs.Desk.{IsFresh}
use Rattle.pb_desk.specs.Memory.{shelf_of}
use Rattle.pb_desk.specs.inner.MemoryLaws.{memory_fits}
use Rattle.pb_desk.specs.MemoryState.{state_of}
use Rattle.pb_desk.proofs.Tells.{in_told, told_of}
use Rattle.pb_words.specs.RefuteWords.{as_refute_words}
use Rattle.pb_suite.specs.RefuteSpec.{refute_spec}
use Rattle.pb_suite.specs.Headline.{HasNoSolution}
use Rattle.pb_suite.specs.Implementing.{Implements}
use Rattle.pb_suite.specs.InMemory.{AnswersInMemory}
use Rattle.pb_suite.specs.InMemory.AnswersInMemory.{no_memory}
use Rattle.pb_suite.specs.CommandSpec.{Shelf}
use Rattle.pb_suite.proofs.InMemory.{answers_in_memory, memory_both}
use Rattle.pb_suite.proofs.Refutes.{obeyed_refutes}
use Rattle.pbcnf_c.proofs.checking.refute_shelf.Goals as goal

pub returns-in-Ok-clause-answers : goal.returns-in-Ok-clause-answers
returns-in-Ok-clause-answers c =
    let desk = state_of c.in-Ok.desk in
    let o = refute_spec (as_refute_words c.args.asked.now) in
    let t = told_of desk (λ t. (t.shelf ≡ shelf_of c.args.shelf) × IsFresh t desk) c.in-Ok.ensures.fresh in
    subst (λ (shelf : Shelf). AnswersInMemory o shelf 16 c.refute_file.result) t.1.0
    (answers_in_memory o t.0 16 desk _ t.1.1 c.in-Ok.ensures.room (memory_fits c.refute_file.new.desk) c.refute_file.result (c.in-Ok.ensures.steady.1 c.new.ensures)
    (memory_both c.in-Ok.desk c.refute_file.new.desk (λ a d. Implements o a d c.refute_file.result) c.refute_file.ensures.implements))

pub returns-in-Err-clause-answers : goal.returns-in-Err-clause-answers
returns-in-Err-clause-answers c = no_memory

pub returns-in-Ok-clause-refutes : goal.returns-in-Ok-clause-refutes
returns-in-Ok-clause-refutes c = λ done.
    let desk = state_of c.in-Ok.desk in
    let w = as_refute_words c.args.asked.now in
    let t = told_of desk (λ t. (t.shelf ≡ shelf_of c.args.shelf) × IsFresh t desk) c.in-Ok.ensures.fresh in
    subst (HasNoSolution w) t.1.0 (in_told desk t.0 (λ u. HasNoSolution w u.shelf) t.1.1.told (obeyed_refutes w desk _ c.refute_file.result done (memory_both c.in-Ok.desk c.refute_file.new.desk (λ a d. Implements (refute_spec w) a d c.refute_file.result) c.refute_file.ensures.implements)))
