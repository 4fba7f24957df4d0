use Rattle.std.proofs.Common.{◌≡◌, ◌<◌, ℕ, Bool, true, false, List, ◌∷◌, length, refl, arith, rules}
use Rattle.std.specs.Prelude.{slice_set}
use Rattle.std.specs.declared.option.Option.TheVariants.{Some, None}
use Rattle.pb_files.specs.Asked.{marked}
use Rattle.pb_files.specs.Asked.Refuses.{is_output, is_ours, stays}
use Rattle.pb_files.specs.Calls.{Call}
use Rattle.pb_files.specs.Calls.Call.{create, truncate}
use Rattle.pb_files.specs.Pieces.{is_finished, is_over, moves_pieces}
use Rattle.pb_files.specs.Replay.{has_slot, made_of}
use Rattle.pb_files.proofs.PieceFacts.{has_later, last_later, with_two}
use Rattle.pb_files.proofs.real.RealDeskDesk.create.Goals as goal

pub invariant_of-self-in_default-truncate : goal.invariant_of-self-in_default-truncate
invariant_of-self-in_default-truncate g c =
    let desk = c.args.self.now in
    let slot = c.args.slot in
    let old = g.S.System.calls desk.system in
    let mid = g.S.System.calls c.create.new.self in
    let new = g.S.System.calls c.truncate.new.self in
    let call : Call = create slot c.args.name.now (Some c.in-Ok.id) in
    let later : Call = truncate slot None in
    record {
      moves = with_two (λ cs. moves_pieces cs ≡ true) (λ cs. moves_pieces cs ≡ true) call later old mid new c.in-Ok.ensures.asked c.in_default-truncate.ensures.asked (λ cs e. e) desk.moves;
      at_ends = λ place is_open. with_two (λ cs. is_over place cs ≡ marked desk.over place) (λ cs. is_over place cs ≡ marked desk.over place) call later old mid new c.in-Ok.ensures.asked c.in_default-truncate.ensures.asked (λ cs e. e) (desk.at_ends place is_open);
      at_lasts = λ place is_open. with_two (λ cs. is_finished place cs ≡ marked desk.finished place) (λ cs. is_finished place cs ≡ marked desk.finished place) call later old mid new c.in-Ok.ensures.asked c.in_default-truncate.ensures.asked (λ cs e. e) (desk.at_lasts place is_open);
      has_file = λ place is_open. with_two (λ cs. has_slot place (made_of cs) ≡ true) (λ cs. has_slot place (made_of cs) ≡ true) call later old mid new c.in-Ok.ensures.asked c.in_default-truncate.ensures.asked (λ cs e. e) (desk.has_file place is_open);
    }

pub invariant_of-self-2 : goal.invariant_of-self-2
invariant_of-self-2 g c =
    let desk = c.args.self.now in
    let slot = c.args.slot in
    let old = g.S.System.calls desk.system in
    let mid = g.S.System.calls c.create.new.self in
    let new = g.S.System.calls c.truncate.new.self in
    let call : Call = create slot c.args.name.now (Some c.in-Ok.id) in
    let later : Call = truncate slot (Some tt) in
    record {
      moves = with_two (λ cs. moves_pieces cs ≡ true) (λ cs. moves_pieces cs ≡ true) call later old mid new c.in-Ok.ensures.asked c.in-Ok-truncate.ensures.asked (λ cs e. e) desk.moves;
      at_ends = λ place is_open. with_two (λ cs. is_over place cs ≡ marked desk.over place) (λ cs. is_over place cs ≡ marked desk.over place) call later old mid new c.in-Ok.ensures.asked c.in-Ok-truncate.ensures.asked (λ cs e. e) (desk.at_ends place is_open);
      at_lasts = λ place is_open. last_later desk.writing desk.finished slot place c.args.name.now c.in-Ok.id old mid new c.in-Ok.ensures.asked c.in-Ok-truncate.ensures.asked (omega arith) is_open (omega arith) (desk.at_lasts place);
      has_file = λ place is_open. has_later desk.writing desk.finished slot place c.args.name.now c.in-Ok.id old mid new c.in-Ok.ensures.asked c.in-Ok-truncate.ensures.asked (omega arith) is_open (desk.has_file place);
    }

pub returns-then-is_known-clause-refused : goal.returns-then-is_known-clause-refused
returns-then-is_known-clause-refused g c = is_output c.in-Ok.id (search rules) (search rules)

pub returns-then-is_known-2-clause-refused : goal.returns-then-is_known-2-clause-refused
returns-then-is_known-2-clause-refused g c = is_ours c.in-Ok.id (search rules) (search rules)

pub returns-in_default-truncate-clause-refused : goal.returns-in_default-truncate-clause-refused
returns-in_default-truncate-clause-refused g c = stays c.in-Ok.id (search rules) (search rules) (search rules)
