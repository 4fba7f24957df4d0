use Rattle.std.proofs.Common.{◌≡◌, subst}
use Rattle.pb_desk.specs.Desk.{IsFresh}
use Rattle.pb_desk.specs.Memory.{shelf_of}
use Rattle.pb_desk.specs.inner.MemoryLaws.{memory_fits}
use Rattle.pb_desk.specs.MemoryState.{state_of}
use Rattle.pb_desk.proofs.Tells.{told_of}
use Rattle.pb_words.specs.CheckWords.{as_check_words}
use Rattle.pb_suite.specs.CheckSpec.{check_spec}
use Rattle.pb_suite.specs.Implementing.{Implements}
use Rattle.pb_suite.specs.InMemory.{AnswersInMemory}
use Rattle.pb_suite.specs.InMemory.AnswersInMemory.{no_memory}
use Rattle.pb_suite.specs.CommandSpec.{Shelf}
use Rattle.pb_suite.proofs.InMemory.{answers_in_memory, memory_both}
use Rattle.pbcnf_c.proofs.checking.check_shelf.Goals as goal

pub returns-in-Ok : goal.returns-in-Ok
returns-in-Ok c =
    let desk = state_of c.in-Ok.desk in
    let o = check_spec (as_check_words c.args.asked.now) in
    let t = told_of desk (λ t. (t.shelf ≡ shelf_of c.args.shelf) × IsFresh t desk) c.in-Ok.ensures.fresh in
    subst (λ (shelf : Shelf). AnswersInMemory o shelf 16 c.check_file.result) t.1.0
    (answers_in_memory o t.0 16 desk _ t.1.1 c.in-Ok.ensures.room (memory_fits c.check_file.new.desk) c.check_file.result (c.in-Ok.ensures.steady.1 c.new.ensures)
    (memory_both c.in-Ok.desk c.check_file.new.desk (λ a d. Implements o a d c.check_file.result) c.check_file.ensures.implements))

pub returns-in-Err : goal.returns-in-Err
returns-in-Err c = no_memory
