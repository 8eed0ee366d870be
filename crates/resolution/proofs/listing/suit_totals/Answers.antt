use Rattle.std.proofs.Common.{◌∙◌, sym}
use Rattle.std.proofs.lemmas.Slice.Zip.{either_empty_from_Zip}
use Rattle.std.specs.Iterator.Adapters.{zip_first, zip_second}
use Rattle.std.specs.Slice.Iter.{iter_rest}
use Rattle.resolution.proofs.PairLaws.{totals_end}
use Rattle.resolution.proofs.listing.suit_totals.Goals as goal

pub returns : goal.returns
returns c =
    let it = c.loop-aggregate.aggregate-iterator in
    let none = either_empty_from_Zip it c.next.new.self c.next.result c.in-None.is c.next.ensures.steps in
    sym (c.loop-aggregate.invariant ∙ totals_end (iter_rest (zip_first it)) (iter_rest (zip_second it)) c.args.families.now none)
