use Rattle.std.proofs.Common.{◌≡◌, ◌<◌, ℕ, Bool, List, ◌∷◌, length, refl, sym, ap, ◌∙◌, arith, rules}
use Rattle.std.specs.Prelude.{◌==◌, cond, slice_set}
use Rattle.std.specs.declared.option.Option.TheVariants.{Some, None}
use Rattle.std.specs.Bool.{Decides}
use Rattle.std.proofs.lemmas.Bool.{eqb-false}
use Rattle.std.proofs.lemmas.Bool.Decides.{Decides-eqb}
use Rattle.pb_desk.specs.Desk.{is_last}
use Rattle.pb_desk.proofs.LastPieces.{some_left}
use Rattle.pb_files.specs.Calls.{with_call}
use Rattle.pb_files.specs.Calls.Call.{write}
use Rattle.pb_files.specs.Pieces.{is_finished}
use Rattle.pb_files.proofs.PieceFacts.{mark_set, mark_stays, write_ends, write_lasts, write_moves}
use Rattle.pb_files.proofs.Replays.{still_has, write_fails, write_reaches}
use Rattle.pb_files.proofs.real.RealDeskDesk.write.Goals as goal

is_same : (slot place : ℕ) → Decides (slot == place) (place ≡ slot)
is_same slot place = (λ e. sym ((Decides-eqb slot place).0 e), λ e. (Decides-eqb slot place).1 (sym e))

pub invariant_of-self : goal.invariant_of-self
invariant_of-self g c =
    let desk = c.args.self.now in
    let slot = c.args.slot in
    let piece = c.args.piece.now in
    let old = g.S.System.calls desk.system in
    let new = g.S.System.calls c.write.new.self in
    let is : new ≡ with_call (write slot piece (Some 0)) old = c.in-Ok-eq0.ensures.asked ∙ ap (λ (n : ℕ). with_call (write slot piece (Some n)) old) c.in-Ok-eq0.field-0-test in
    record {
      moves = write_moves slot piece (Some 0) old new is desk.finished c.requires.not_finished (desk.has_file slot c.requires.open) (desk.at_lasts slot c.requires.open) desk.moves;
      at_ends = λ place is_open. write_ends slot piece (Some 0) old new is desk.over place (desk.at_ends place is_open);
      at_lasts = λ place is_open. write_lasts slot piece (Some 0) old new is desk.finished desk.finished place (λ cs e. mark_stays desk.finished slot place (is_last piece 0) (is_finished place cs) (some_left piece 0 (let some = eqb-false (length piece) 0 (sym c.is_empty.ensures ∙ c.if-not-is_empty.true) in omega (arith, some)) ∙ sym c.requires.not_finished) e) (desk.at_lasts place is_open);
      has_file = λ place is_open. still_has place slot piece (Some 0) old new is (desk.has_file place is_open);
    }

pub invariant_of-self-in-Ok : goal.invariant_of-self-in-Ok
invariant_of-self-in-Ok g c =
    let desk = c.args.self.now in
    let slot = c.args.slot in
    let piece = c.args.piece.now in
    let old = g.S.System.calls desk.system in
    let new = g.S.System.calls c.write.new.self in
    let is : new ≡ with_call (write slot piece (Some c.in-Ok.count)) old = c.in-Ok.ensures.asked in
    record {
      moves = write_moves slot piece (Some c.in-Ok.count) old new is desk.finished c.requires.not_finished (desk.has_file slot c.requires.open) (desk.at_lasts slot c.requires.open) desk.moves;
      at_ends = λ place is_open. write_ends slot piece (Some c.in-Ok.count) old new is desk.over place (desk.at_ends place is_open);
      at_lasts = λ place is_open. write_lasts slot piece (Some c.in-Ok.count) old new is desk.finished (slice_set desk.finished slot c.is_file_end.result) place (λ cs e. ap (λ (b : Bool). cond (slot == place) b (is_finished place cs)) (let same : is_last piece c.in-Ok.count ≡ c.is_file_end.result = search rules in same) ∙ mark_set desk.finished slot place c.is_file_end.result (is_finished place cs) (slot == place) (is_same slot place) (omega arith) e) (desk.at_lasts place is_open);
      has_file = λ place is_open. still_has place slot piece (Some c.in-Ok.count) old new is (desk.has_file place is_open);
    }

pub invariant_of-self-in-Err : goal.invariant_of-self-in-Err
invariant_of-self-in-Err g c =
    let desk = c.args.self.now in
    let slot = c.args.slot in
    let piece = c.args.piece.now in
    let old = g.S.System.calls desk.system in
    let new = g.S.System.calls c.write.new.self in
    let is : new ≡ with_call (write slot piece None) old = c.in-Err.ensures.asked in
    record {
      moves = write_moves slot piece None old new is desk.finished c.requires.not_finished (desk.has_file slot c.requires.open) (desk.at_lasts slot c.requires.open) desk.moves;
      at_ends = λ place is_open. write_ends slot piece None old new is desk.over place (desk.at_ends place is_open);
      at_lasts = λ place is_open. write_lasts slot piece None old new is desk.finished desk.finished place (λ cs e. e) (desk.at_lasts place is_open);
      has_file = λ place is_open. still_has place slot piece None old new is (desk.has_file place is_open);
    }

pub returns-in-Ok-eq0-clause-failed : goal.returns-in-Ok-eq0-clause-failed
returns-in-Ok-eq0-clause-failed g c =
    let desk = c.args.self.now in
    write_fails (g.S.System.files desk.system) desk.reading desk.writing desk.read_faults desk.write_faults desk.over desk.finished desk.finished _ c.write.ensures.files c.args.slot c.args.piece.now (g.S.System.calls desk.system) (g.S.System.calls c.write.new.self)
    c.in-Ok-eq0.field-0 c.rise.new.self c.in-Ok-eq0.field-0-test c.in-Ok-eq0.ensures.asked c.rise.ensures

pub returns-in-Ok-clause-ok : goal.returns-in-Ok-clause-ok
returns-in-Ok-clause-ok g c =
    let desk = c.args.self.now in
    let reaches = λ (finished : List Bool) (count : ℕ). write_reaches (g.S.System.files desk.system) desk.reading desk.writing desk.read_faults desk.write_faults desk.over desk.finished finished (g.S.System.files c.write.new.self) c.write.ensures.files c.args.slot c.args.piece.now (g.S.System.calls desk.system) (g.S.System.calls c.write.new.self) count in
    search (rules, reaches)
