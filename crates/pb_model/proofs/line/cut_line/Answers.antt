use Rattle.std.proofs.Common.{◌≡◌, arith, length-drop, take_all, ◌+◌, ◌-◌, ℕ, List, length, take, drop, subst, sym}
use Rattle.pb_desk.specs.Lines.{BeginsWith}
use Rattle.pb_model.proofs.Cutting.{cut_at, cut_none}
use Rattle.pb_model.proofs.line.cut_line.Goals as goal

pub returns-in-Some-clause-cut : goal.returns-in-Some-clause-cut
returns-in-Some-clause-cut c =
    let stop = c.in-Some.end in
    let text : List ℕ = c.args.text.now in
    let whole : take (length text - (stop + 1)) (drop (stop + 1) text) ≡ drop (stop + 1) text = take_all (length text - (stop + 1)) (drop (stop + 1) text) (omega (arith, length-drop (stop + 1) text)) in
    subst (λ (xs : List ℕ). BeginsWith (take stop text) text xs) (sym whole) (cut_at text stop c.in-Some.ensures.0 c.in-Some.ensures.1)

pub returns-in-None-clause-cut : goal.returns-in-None-clause-cut
returns-in-None-clause-cut c = cut_none c.args.text.now c.requires c.in-None.ensures
