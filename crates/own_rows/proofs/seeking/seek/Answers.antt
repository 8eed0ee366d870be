-- The key of the place stays between both places.
use Rattle.std.proofs.Common.{◌≡◌, ◌+◌, ◌-◌, ◌⊎◌, ap, subst, ◌∙◌, arith}
use Rattle.own_rows.proofs.StandLaws.{entry_of_row, go_down, go_up, gone_within, no_row_past, place_fits, row_within, seek_first, stands_fresh, stands_under, starts_before, sum_fits}
use Rattle.own_rows.proofs.seeking.seek.Goals as goal

pub overflow_add-place : goal.overflow_add-place
overflow_add-place g c = let p = place_fits c.args.own.now _ c.requires.agrees _ _ c.requires.within c.len-2.ensures.value c.requires.small (let v = c.len.ensures.value in let f = c.len.ensures.fits in omega arith) in omega arith

pub overflow_add-place-2 : goal.overflow_add-place-2
overflow_add-place-2 g c = let p = place_fits c.args.own.now _ c.requires.agrees _ _ c.requires.within c.len-2.ensures.value c.requires.small (let v = c.len.ensures.value in let f = c.len.ensures.fits in omega arith) in omega arith

pub loop-low-init : goal.loop-low-init
loop-low-init g c = record {
  between = seek_first c.args.own.now _ c.requires.agrees _ _ _ _ c.len-count.ensures (c.less_by-low.ensures ∙ ap (λ n. c.args.place - n) c.len.ensures.value) (subst (λ n. (c.least-high.result ≡ c.len-count.result) ⊎ (c.least-high.result ≡ c.args.place + n + 1)) c.len-2.ensures.value c.least-high.ensures.one);
  within = let b = c.least-high.ensures.bound in let n = c.len-count.ensures in omega arith;
}

pub returns-in-None : goal.returns-in-None
returns-in-None g c = absurd (no_row_past _ _ c.in-None.ensures (let m = c.middle-mid.ensures.below in let w = c.loop-low.invariant.within in omega arith))

pub place_left-here-requires-clause-left : goal.place_left-here-requires-clause-left
place_left-here-requires-clause-left g c = gone_within c.args.own.now _ c.requires.agrees _ _ _ (entry_of_row _ _ c.requires.keyed _ _ c.in-Some.ensures)

pub loop-low-preserved-in-Less : goal.loop-low-preserved-in-Less
loop-low-preserved-in-Less g c =
    let is = entry_of_row _ _ c.requires.keyed _ _ c.in-Some.ensures in
    record {
      between = go_up c.args.own.now _ c.requires.agrees _ _ _ _ c.loop-low.invariant.between _ _ _ is (c.side.ensures _ _ c.requires.agrees is c.place_left-here.ensures) c.in-Less.is;
      within = c.loop-low.invariant.within;
    }

pub loop-low-preserved : goal.loop-low-preserved
loop-low-preserved g c =
    let is = entry_of_row _ _ c.requires.keyed _ _ c.in-Some.ensures in
    record {
      between = go_down c.args.own.now _ c.requires.agrees _ _ _ _ c.loop-low.invariant.between _ _ _ is (c.side.ensures _ _ c.requires.agrees is c.place_left-here.ensures) c.in-Greater.is;
      within = let r = row_within _ _ c.requires.keyed _ _ c.in-Some.ensures in omega arith;
    }

pub returns-in-Equal : goal.returns-in-Equal
returns-in-Equal g c =
    let is = entry_of_row _ _ c.requires.keyed _ _ c.in-Some.ensures in
    stands_under c.args.own.now _ c.requires.agrees _ _ _ _ c.loop-low.invariant.between _ _ _ is (c.side.ensures _ _ c.requires.agrees is c.place_left-here.ensures) c.in-Equal.is

pub overflow_add-result : goal.overflow_add-result
overflow_add-result g c = let p = sum_fits c.args.own.now _ c.requires.agrees _ _ c.requires.within c.gone_before-gone.ensures.bound c.requires.small (let v = c.len.ensures.value in let f = c.len.ensures.fits in omega arith) in omega arith

pub overflow_sub-result : goal.overflow_sub-result
overflow_sub-result g c = starts_before c.args.own.now _ c.requires.agrees _ _ _ _ c.loop-low.invariant.between c.loop-low-test.false c.gone_before-gone.ensures.there c.gone_before-gone.ensures.past c.requires.within

pub returns : goal.returns
returns g c = stands_fresh c.args.own.now _ c.requires.agrees _ _ _ _ c.loop-low.invariant.between c.loop-low-test.false c.gone_before-gone.ensures.there c.gone_before-gone.ensures.past c.requires.within
