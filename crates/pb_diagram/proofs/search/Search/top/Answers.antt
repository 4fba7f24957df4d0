use Rattle.std.proofs.Common.{◌-◌, ◌∙◌, ap, arith, length, refl}
use Rattle.pb_diagram.specs.inner.Wants.{residues, sides}
use Rattle.pb_diagram.proofs.SearchReads.{top_is, coef_read}
use Rattle.pb_diagram.proofs.WantSteps.{last_read}
use Rattle.pb_diagram.proofs.search.Search.top.Goals as goal

pub returns : goal.returns
returns c =
    let self = c.args.self.now in
    let going = c.requires.going in
    let read = last_read self.wanted.items c.as_slice-wanted.result.now _ c.as_slice-wanted.ensures.value c.requires.some in
    top_is c.args.of.now self.levels.items (residues self.wanted.items) self.left (sides self.wanted.items) self.last _ going.searching going.kept c.requires.fits read.0 refl read.1 read.2
    (λ within. c.weight.ensures ∙ coef_read c.args.of.now c.terms.result.now (length c.as_slice-wanted.result.now - 1) c.index-terms-place.result c.terms.ensures.weights within c.index-terms-place.is)

pub overflow_sub-place : goal.overflow_sub-place
overflow_sub-place c = omega (arith, c.requires.some, ap length c.as_slice-wanted.ensures.value)
