use Rattle.std.proofs.Common.{◌<◌, ◌≤◌, ◌+◌, ◌∙◌, ◌||◌, ap, arith, drop, length, sym}
use Rattle.cache_tier.specs.Sets.{shows_something}
use Rattle.stored_tier.proofs.ListLaws.{grouped_long}
use Rattle.stored_tier.proofs.RefreshSteps.{all_shown, none_shown, shows_there}
use Rattle.stored_tier.proofs.refreshing.shows_something.Goals as goal

pub loop-place-init : goal.loop-place-init
loop-place-init c = λ a is. all_shown c.args.interval a.groups

pub returns-then-shows_in_set : goal.returns-then-shows_in_set
returns-then-shows_in_set c = λ a is.
    let long = grouped_long c.args.tier.now a is in
    let end = c.len-place-end.ensures in
    let test = c.loop-place-test.true in
    let within : c.loop-place.place < length a.groups = omega (arith, long, end, test) in
    let one = shows_there c.args.interval c.loop-place.place a.groups c.shows_in_set.result within (λ g at. c.shows_in_set.ensures a g is at) in
    sym (sym (c.loop-place.invariant a is) ∙ one ∙ ap (λ b. b || shows_something c.args.interval (drop (c.loop-place.place + 1) a.groups)) c.if-shows_in_set.true)

pub loop-place-preserved : goal.loop-place-preserved
loop-place-preserved c = λ a is.
    let long = grouped_long c.args.tier.now a is in
    let end = c.len-place-end.ensures in
    let test = c.loop-place-test.true in
    let within : c.loop-place.place < length a.groups = omega (arith, long, end, test) in
    let one = shows_there c.args.interval c.loop-place.place a.groups c.shows_in_set.result within (λ g at. c.shows_in_set.ensures a g is at) in
    sym (one ∙ ap (λ b. b || shows_something c.args.interval (drop (c.loop-place.place + 1) a.groups)) c.if-shows_in_set.false) ∙ c.loop-place.invariant a is

pub returns : goal.returns
returns c = λ a is.
    let long = grouped_long c.args.tier.now a is in
    let end = c.len-place-end.ensures in
    let test = c.loop-place-test.false in
    let past : length a.groups ≤ c.loop-place.place = omega (arith, long, end, test) in
    sym (sym (c.loop-place.invariant a is) ∙ none_shown c.args.interval c.loop-place.place a.groups past)
