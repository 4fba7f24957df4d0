use Rattle.std.proofs.Common.{◌≡◌, ◌+◌, true, [], ◌∷◌, List, ℕ, subst, arith, ap, refl, length, ◌==◌}
use Rattle.std.proofs.lemmas.Bool.Decides.{nat_tests}
use Rattle.pb_base.specs.Words.{words_of}
use Rattle.pb_desk.specs.Lines.{lines_of}
use Rattle.pb_model.specs.ModelLines.{line_symbols, symbols_from, symbols_of}
use Rattle.pb_model.proofs.Going.{GoesOn, goes_more, tells_fault, tells_end}
use Rattle.pb_model.proofs.read.read_lines.Goals as goal

none_left : (xs : List ℕ) → true ≡ (length xs == 0) → xs ≡ []
none_left [] e = refl
none_left (x ∷ xs) e = absurd (grind (arith, nat_tests))

pub returns-in-Err : goal.returns-in-Err
returns-in-Err c =
    let vars = c.args.reader.listing.vars in
    let line : List ℕ = c.cut_line-cut.result.line.now in
    let behind : List ℕ = c.cut_line-cut.result.behind.now in
    let number = c.lines.number in
    tells_fault vars (symbols_of vars c.args.text.now) (line_symbols vars number (words_of line)) (symbols_from vars (number + 1) (lines_of behind)) c.lines.reader c.in-Err.fault
    (λ tt k. c.in-Err.ensures vars tt k)
    (subst (λ (ls : List (List ℕ)). GoesOn vars [] (symbols_of vars c.args.text.now) (symbols_from vars number ls) c.lines.reader) c.cut_line-cut.ensures.cut.lines c.lines.invariant.going)

pub lines-preserved : goal.lines-preserved
lines-preserved c =
    let vars = c.args.reader.listing.vars in
    let line : List ℕ = c.cut_line-cut.result.line.now in
    let behind : List ℕ = c.cut_line-cut.result.behind.now in
    let number = c.lines.number in
    record {
      going =
          goes_more vars [] (symbols_of vars c.args.text.now) (line_symbols vars number (words_of line)) (symbols_from vars (number + 1) (lines_of behind)) c.lines.reader c.take_line.new.reader
          (λ tt k. c.in-Ok.ensures vars tt k)
          (subst (λ (ls : List (List ℕ)). GoesOn vars [] (symbols_of vars c.args.text.now) (symbols_from vars number ls) c.lines.reader) c.cut_line-cut.ensures.cut.lines c.lines.invariant.going);
      few = omega arith;
    }

pub returns : goal.returns
returns c =
    let vars = c.args.reader.listing.vars in
    let number = c.lines.number in
    let none : lines_of c.lines.left.now ≡ [] = ap lines_of (none_left c.lines.left.now c.lines-test.ensures) in
    tells_end vars (symbols_of vars c.args.text.now) (record { line = number; column = 1 }) c.lines.reader c.finish.result
    (λ ss k. c.finish.ensures vars ss k)
    (subst (λ (ls : List (List ℕ)). GoesOn vars [] (symbols_of vars c.args.text.now) (symbols_from vars number ls) c.lines.reader) none c.lines.invariant.going)
