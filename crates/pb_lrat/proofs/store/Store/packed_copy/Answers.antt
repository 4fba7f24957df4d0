use Rattle.std.proofs.Common.{◌≡◌, ◌<◌, length, ◌∙◌, sym, ap, arith, List, get_or}
use Rattle.std.specs.Prelude.{slice_range}
use Rattle.pb_base.specs.declared.literal.Lit.{Lit}
use Rattle.pb_lrat.specs.inner.Stores.{Library}
use Rattle.pb_lrat.proofs.Storing.{at_place, packed_some, packed_none}
use Rattle.pb_lrat.proofs.store.Store.packed_copy.Goals as goal
use Rattle.pb_lrat.proofs.store.Store.packed_copy.Goals.{in-Some+in_ok-push, in_default}

pub loop-place-init : goal.loop-place-init
loop-place-init c =
    let last : c.new-store.result.last ≡ 0 = ap (λ (x : Library). x.last) c.new-store.ensures in
    record {
      live = ap (λ (x : Library). x.live) c.new-store.ensures;
      most = omega (arith, last);
      next = λ i from below. let least = c.self.invariant.least i below in omega (arith, least, last);
    }

pub loop-place-preserved : goal.loop-place-preserved
loop-place-preserved c =
    elim c.match-index.branch [
      | in-Some+in_ok-push w ↦
          let ids = c.self.inside.ids.items in
          let below : c.loop-place.place < length ids = omega (arith, c.len-place-end.ensures) in
          let id : w.index-in-Some.result.now ≡ get_or ids c.loop-place.place 0 = sym (at_place ids c.loop-place.place w.index-in-Some.result.now 0 below w.index-in-Some.ensures) in
          let made : c.match-index.store ≡ w.push.new.self = w.store-is in
          let last : c.match-index.store.last ≡ w.index-in-Some.result.now = ap (λ (x : Library). x.last) (made ∙ w.in_ok-push.ensures.ok) in
          record {
            live = packed_some _ _ _ c.loop-place.place w.index-in-Some.result.now c.index.result.now w.in-Some.span w.literals_at.result.now c.loop-place.store c.match-index.store c.self.invariant.even below c.loop-place.invariant.live c.index.ensures w.in-Some.is id
                (w.literals_at.ensures ∙ ap (λ (ls : List Lit). slice_range ls w.in-Some.span.start w.in-Some.span.end) w.deref.ensures.value) (made ∙ w.in_ok-push.ensures.ok);
            most = let most = c.self.invariant.most c.loop-place.place below in omega (arith, most, id, last);
            next = λ i from within. let more = c.self.invariant.ascending c.loop-place.place i (omega (arith, from)) within in omega (arith, more, id, last);
          }
      | in_default w ↦
          let same : c.match-index.store ≡ c.loop-place.store = w.store-is in
          let last : c.match-index.store.last ≡ c.loop-place.store.last = ap (λ (x : Library). x.last) same in
          let below : c.loop-place.place < length c.self.inside.ids.items = omega (arith, c.len-place-end.ensures) in
          record {
            live = ap (λ (x : Library). x.live) same ∙ packed_none _ _ _ c.loop-place.place c.index.result.now c.loop-place.store c.self.invariant.even below c.loop-place.invariant.live c.index.ensures w.in_default.is;
            most = omega (arith, c.loop-place.invariant.most, last);
            next = λ i from within. let h = c.loop-place.invariant.next i (omega (arith, from)) within in omega (arith, h, last);
          }
    ]
