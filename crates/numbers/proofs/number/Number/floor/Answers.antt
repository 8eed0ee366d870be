use Rattle.std.proofs.Common.{◌≡◌, ◌∙◌, arith, to_z, of_z, w64}
use Rattle.std.proofs.lemmas.Int.{ints}
use Rattle.numbers.specs.Decimals.{Decimal}
use Rattle.numbers.proofs.FloorLaws.{floor_by_scale}
use Rattle.numbers.proofs.number.Number.floor.Goals as goal

pub returns : goal.returns
returns c =
    let units = c.self.inside.units in
    let number : Decimal = record { units = units; scale = c.self.inside.scale } in
    let same : to_z w64 (of_z w64 units) ≡ units = omega (arith, ints, c.self.invariant.first, c.self.invariant.last) in
    let back : to_z w64 (of_z w64 c.floor_at.result) ≡ c.floor_at.result = omega (arith, ints, c.floor_at.type_inv) in
    let is = rw same at c.floor_at.ensures in
    rw (← c.self.view_is, back) (is ∙ floor_by_scale number c.self.invariant.scale)
