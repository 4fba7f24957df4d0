use Rattle.std.proofs.Common.{◌≡◌, false-eqb, length, ap, sym, ◌∙◌, arith}
use Rattle.std.proofs.lemmas.List.{length-map}
use Rattle.std.proofs.lemmas.List.Sums.{sum-map}
use Rattle.std.proofs.lemmas.Bool.{eqb-true}
use Rattle.std.specs.Prelude.{sum}
use Rattle.pb_norm.specs.Constraints.{Weighted, weight}
use Rattle.std.proofs.lemmas.Result.{IfOk-from_err}
use Rattle.pb_diagram.specs.Clauses.{node_count}
use Rattle.pb_diagram.specs.Levels.{coefs_of}
use Rattle.pb_diagram.specs.inner.Wants.{residues}
use Rattle.pb_diagram.proofs.SearchReads.{ended, counted, deep}
use Rattle.pb_diagram.proofs.search.known_levels.Goals as goal

pub start-requires : goal.start-requires
start-requires c = c.requires.fits

pub loop-search-init : goal.loop-search-init
loop-search-init c =
    let now = c.in_ok-search.search in
    let going = c.in_ok-search.ensures.going in
    record { going = going; counted = sym c.in_ok-search.ensures.none; within = omega arith; depth = deep c.args.of.now now.levels.items (residues now.wanted.items) now.left going.searching }

pub returns-then-count-budget : goal.returns-then-count-budget
returns-then-count-budget c =
    let now = c.advance.new.self in
    let moved = c.in_ok-advance.ensures in
    omega (arith, counted c.args.of.now now.levels.items (residues now.wanted.items) now.left moved.going.searching, (moved.advanced.found c.if-branch.true).0, c.loop-search.invariant.counted, c.if-count-budget.true)

pub returns : goal.returns
returns c =
    let now = c.loop-search.search in
    let none : length (residues now.wanted.items) ≡ 0 = length-map now.wanted.items (λ w. w.residue) ∙ sym now.wanted.ok.0 ∙ eqb-true now.wanted.len 0 (sym c.loop-search-test.ensures) in
    let same = ended c.args.of.now now.levels.items (residues now.wanted.items) now.left c.loop-search.invariant.going.searching none in
    let count = ap node_count same in
    (same, omega (arith, count, c.loop-search.invariant.counted, c.loop-search.invariant.within))

pub loop-search-preserved-else-count-budget : goal.loop-search-preserved-else-count-budget
loop-search-preserved-else-count-budget c =
    let moved = c.in_ok-advance.ensures in
    let more = moved.advanced.found c.if-branch.true in
    record { going = moved.going; counted = omega (arith, more.0, c.loop-search.invariant.counted); within = c.if-count-budget.false; depth = omega (arith, more.1, c.loop-search.invariant.depth) }

pub loop-search-preserved : goal.loop-search-preserved
loop-search-preserved c =
    let now = c.advance.new.self in
    let moved = c.in_ok-advance.ensures in
    record {
      going = moved.going;
      counted = omega (arith, (moved.advanced.wants c.if-branch.false).0, c.loop-search.invariant.counted);
      within = c.loop-search.invariant.within;
      depth = deep c.args.of.now now.levels.items (residues now.wanted.items) now.left moved.going.searching;
    }

pub returns-in_err-search : goal.returns-in_err-search
returns-in_err-search c = IfOk-from_err _ _ c.from_residual.ensures.0

pub returns-in_err-advance : goal.returns-in_err-advance
returns-in_err-advance c = IfOk-from_err _ _ c.from_residual-in_err-advance.ensures.0

pub loop-search-smaller-else-count-budget : goal.loop-search-smaller-else-count-budget
loop-search-smaller-else-count-budget c = omega (arith, (c.in_ok-advance.ensures.advanced.found c.if-branch.true).1, c.loop-search.invariant.depth, c.if-count-budget.false)

pub loop-search-smaller : goal.loop-search-smaller
loop-search-smaller c =
    let now = c.advance.new.self in
    let moved = c.in_ok-advance.ensures in
    omega (arith, (moved.advanced.wants c.if-branch.false).1, deep c.args.of.now now.levels.items (residues now.wanted.items) now.left moved.going.searching)

pub overflow_add-count : goal.overflow_add-count
overflow_add-count c = omega (arith, c.loop-search.invariant.within, c.requires.small)

pub advance-requires : goal.advance-requires
advance-requires c =
    let of = c.args.of.now in
    let whole : sum (coefs_of of.terms) ≡ weight of.terms = sum-map (λ (t : Weighted). t.coef) of.terms in
    let some = false-eqb c.loop-search.search.wanted.len 0 c.loop-search-test.ensures in
    record { going = c.loop-search.invariant.going; some = omega (arith, some, c.loop-search.search.wanted.ok.0); fits = omega (arith, whole, c.requires.fits) }
