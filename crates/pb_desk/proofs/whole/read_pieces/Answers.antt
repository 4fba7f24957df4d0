use Rattle.std.proofs.Common.{◌≡◌, ℕ, Bool, List, subst, sym, ◌∙◌, arith, length, ◌+◌, ap, refl, take, length-append}
use Rattle.std.proofs.lemmas.List.{length-take}
use Rattle.std.specs.Prelude.{◌==◌}
use Rattle.pb_desk.specs.Desk.{IfTold}
use Rattle.pb_desk.proofs.Readings.{takes_more, whole_at_end, grows}
use Rattle.pb_desk.proofs.Slots.{put_there}
use Rattle.pb_desk.proofs.BothSlots.{differs}
use Rattle.pb_desk.proofs.whole.read_pieces.Goals as goal

pub returns-then-count-eq0-clause-whole : goal.returns-then-count-eq0-clause-whole
returns-then-count-eq0-clause-whole g c = λ k.
    let so_far = c.loop-text.invariant in
    let old = g.D.Desk.state c.args.desk.now in
    subst (λ (text : List ℕ). IfTold old (λ t. text ≡ t.left c.args.slot)) (sym c.from_vec.ensures)
    (whole_at_end c.args.slot (length c.loop-text.text.items) c.in_ok-count.count c.loop-text.text.items c.read.new.room old (g.D.Desk.state c.loop-text.desk) so_far.taken (so_far.so_far (c.in_ok-count.ensures.ok.kept k)) c.if-count-eq0.true (omega (arith, c.read.auto.room)) (c.in_ok-count.ensures.bytes k))

pub returns-then-count-limit-clause-too_long : goal.returns-then-count-limit-clause-too_long
returns-then-count-limit-clause-too_long g c = λ _.
    (length c.loop-text.text.items + c.in_ok-count.count, omega arith, takes_more c.args.slot (length c.loop-text.text.items) c.in_ok-count.count c.read.new.room (g.D.Desk.state c.args.desk.now) (g.D.Desk.state c.loop-text.desk) (g.D.Desk.state c.read.new.self) c.loop-text.invariant.taken c.in_ok-count.ensures.ok c.in_ok-count.ensures.bytes)

pub loop-text-preserved : goal.loop-text-preserved
loop-text-preserved g c =
    let before : ℕ → Bool = (g.D.Desk.state c.loop-text.desk).ended in
    let items = c.in_ok-extend_from_slice.ensures.items in
    let more = grows c.args.slot (length c.loop-text.text.items) c.in_ok-count.count c.loop-text.text.items c.read.new.room c.extend_from_slice.new.self.items (g.D.Desk.state c.args.desk.now) (g.D.Desk.state c.loop-text.desk) (g.D.Desk.state c.read.new.self)
    refl items c.in_ok-count.ensures.count c.loop-text.invariant.taken c.in_ok-count.ensures.ok c.loop-text.invariant.so_far c.in_ok-count.ensures.bytes in
    record { no_end = c.in_ok-count.ensures.ended ∙ (put_there before c.args.slot (c.in_ok-count.count == 0) (ap (λ (f : ℕ → Bool). f c.args.slot) c.loop-text.invariant.no_end ∙ (c.requires.not_ended ∙ sym (differs c.in_ok-count.count 0 c.if-count-eq0.false))) ∙ c.loop-text.invariant.no_end); in_limit = omega (arith, ap length items, length-append c.loop-text.text.items (take c.in_ok-count.count c.read.new.room), length-take c.in_ok-count.count c.read.new.room); taken = more.0; so_far = more.1 }

pub returns-in_err-extend_from_slice-clause-no_memory : goal.returns-in_err-extend_from_slice-clause-no_memory
returns-in_err-extend_from_slice-clause-no_memory g c = λ _.
    (length c.loop-text.text.items + c.in_ok-count.count, omega arith, takes_more c.args.slot (length c.loop-text.text.items) c.in_ok-count.count c.read.new.room (g.D.Desk.state c.args.desk.now) (g.D.Desk.state c.loop-text.desk) (g.D.Desk.state c.read.new.self) c.loop-text.invariant.taken c.in_ok-count.ensures.ok c.in_ok-count.ensures.bytes)
