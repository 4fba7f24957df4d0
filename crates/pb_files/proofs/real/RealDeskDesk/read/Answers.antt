use Rattle.std.proofs.Common.{◌≡◌, ◌≤◌, ◌<◌, ℕ, Bool, true, false, List, [], ◌∷◌, length, take, refl, sym, ap, ◌∙◌, subst, arith, rules}
use Rattle.std.specs.Prelude.{◌==◌, cond, slice_set}
use Rattle.std.specs.Option.{ForSome, option_map_or}
use Rattle.std.specs.declared.option.Option.{Option}
use Rattle.std.specs.declared.option.Option.TheVariants.{Some, None}
use Rattle.std.proofs.lemmas.Bool.Decides.{Decides-eqb}
use Rattle.pb_files.specs.Asked.{marked}
use Rattle.pb_files.specs.Calls.{Call, answered}
use Rattle.pb_files.specs.Calls.Call.{create, truncate, read, write, sync}
use Rattle.pb_files.specs.Pieces.{is_finished, is_over, moves_pieces}
use Rattle.pb_files.specs.Replay.{Shelf, answers_as, has_slot, is_nil, made_of}
use Rattle.pb_files.proofs.Replays.{read_gives}
use Rattle.pb_files.proofs.PieceFacts.{with_one, both_of, mark_set, nil_if_none, reads_piece}
use Rattle.pb_files.proofs.real.RealDeskDesk.read.Goals as goal

pub invariant_of-self : goal.invariant_of-self
invariant_of-self g c =
    let desk = c.args.self.now in
    let slot = c.args.slot in
    let count = c.in-Ok.count in
    let bytes = take count c.read.new.room in
    let old = g.S.System.calls desk.system in
    let new = g.S.System.calls c.read.new.self in
    let call : Call = read slot (length c.args.room.now) (Some bytes) in
    record {
      moves = with_one (λ cs. (is_over slot cs ≡ marked desk.over slot) × (moves_pieces cs ≡ true)) (λ cs. moves_pieces cs ≡ true) call old new c.in-Ok.ensures.asked
          (λ cs both. reads_piece slot (length c.args.room.now) (Some bytes) cs c.requires.whole (both.0 ∙ c.requires.not_ended) both.1)
          (both_of (λ cs. is_over slot cs ≡ marked desk.over slot) (λ cs. moves_pieces cs ≡ true) old (desk.at_ends slot c.requires.open) desk.moves);
      at_ends = λ place is_open. with_one (λ cs. is_over place cs ≡ marked desk.over place) (λ cs. is_over place cs ≡ marked (slice_set desk.over slot (count == 0)) place) call old new c.in-Ok.ensures.asked
          (λ cs is. ap (λ (b : Bool). cond (place == slot) b (is_over place cs)) (nil_if_none count c.read.new.room c.in-Ok.ensures.count) ∙ mark_set desk.over slot place (count == 0) (is_over place cs) (place == slot) (Decides-eqb place slot) (omega arith) is)
          (desk.at_ends place is_open);
      at_lasts = λ place is_open. with_one (λ cs. is_finished place cs ≡ marked desk.finished place) (λ cs. is_finished place cs ≡ marked desk.finished place) call old new c.in-Ok.ensures.asked (λ cs is. is) (desk.at_lasts place is_open);
      has_file = λ place is_open. with_one (λ cs. has_slot place (made_of cs) ≡ true) (λ cs. has_slot place (made_of cs) ≡ true) call old new c.in-Ok.ensures.asked (λ cs is. is) (desk.has_file place is_open);
    }

pub returns-in-Ok-clause-given : goal.returns-in-Ok-clause-given
returns-in-Ok-clause-given g c = search rules

pub returns-in-Ok-clause-bytes : goal.returns-in-Ok-clause-bytes
returns-in-Ok-clause-bytes g c = λ k.
    let desk = c.args.self.now in
    let keeps = subst (λ (f : Shelf). option_map_or (answers_as f) (g.S.System.calls c.read.new.self) true ≡ true) c.read.ensures.files k in
    read_gives (g.S.System.files desk.system) c.args.slot (length c.args.room.now) c.in-Ok.count c.read.new.room (g.S.System.calls desk.system) (g.S.System.calls c.read.new.self) c.in-Ok.ensures.asked (sym c.read.auto.room) c.in-Ok.ensures.count keeps
