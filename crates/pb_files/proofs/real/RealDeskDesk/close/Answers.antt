use Rattle.std.proofs.Common.{◌≡◌, ◌≤◌, ◌<◌, ℕ, Bool, true, false, List, [], ◌∷◌, length, take, refl, sym, ap, ◌∙◌, subst, arith, rules}
use Rattle.std.specs.Prelude.{◌==◌}
use Rattle.std.specs.Option.{ForSome, option_map_or}
use Rattle.std.specs.declared.option.Option.{Option}
use Rattle.std.specs.declared.option.Option.TheVariants.{Some, None}
use Rattle.pb_files.specs.Asked.{marked}
use Rattle.pb_files.specs.Calls.{Call, answered}
use Rattle.pb_files.specs.Calls.Call.{create, truncate, read, write, sync}
use Rattle.pb_files.specs.Pieces.{is_finished, is_over, moves_pieces}
use Rattle.pb_files.specs.Replay.{Shelf, answers_as, has_slot, is_nil, made_of}
use Rattle.std.proofs.lemmas.List.{get_or-set_same, get_or-set_other}
use Rattle.pb_files.proofs.PieceFacts.{with_one, open_before}
use Rattle.pb_files.proofs.real.RealDeskDesk.close.Goals as goal

pub invariant_of-self : goal.invariant_of-self
invariant_of-self g c =
    let desk = c.args.self.now in
    let slot = c.args.slot in
    let old = g.S.System.calls desk.system in
    let new = g.S.System.calls c.sync.new.self in
    let call : Call = sync slot (Some tt) in
    record {
      moves = with_one (λ cs. moves_pieces cs ≡ true) (λ cs. moves_pieces cs ≡ true) call old new c.in-Ok.ensures.asked (λ cs is. is) desk.moves;
      at_ends = λ place is_open. with_one (λ cs. is_over place cs ≡ marked desk.over place) (λ cs. is_over place cs ≡ marked desk.over place) call old new c.in-Ok.ensures.asked (λ cs is. is) (desk.at_ends place is_open);
      at_lasts = λ place is_open. with_one (λ cs. is_finished place cs ≡ marked desk.finished place) (λ cs. is_finished place cs ≡ marked desk.finished place) call old new c.in-Ok.ensures.asked (λ cs is. is)
          (desk.at_lasts place (open_before desk.writing slot place (omega arith) is_open));
      has_file = λ place is_open. with_one (λ cs. has_slot place (made_of cs) ≡ true) (λ cs. has_slot place (made_of cs) ≡ true) call old new c.in-Ok.ensures.asked (λ cs is. is)
          (desk.has_file place (open_before desk.writing slot place (omega arith) is_open));
    }

pub returns-in-Ok-clause-synced : goal.returns-in-Ok-clause-synced
returns-in-Ok-clause-synced g c = search rules
