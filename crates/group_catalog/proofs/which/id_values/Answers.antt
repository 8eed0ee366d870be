-- The values that were read.
use Rattle.std.proofs.Common.{◌≡◌, Some, None}
use Rattle.group_catalog.proofs.WhichLaws.{given_of, unheld_of}
use Rattle.group_catalog.proofs.which.id_values.Goals as goal

pub returns-in-None-2-clause-unheld : goal.returns-in-None-2-clause-unheld
returns-in-None-2-clause-unheld c =
    let is : c.args.id.now ≡ Some c.as_slice.result.now = cc in
    unheld_of c.args.id.now c.as_slice.result.now None is (rw c.in-None-2.is at c.in_ok-literal_values-in-Some.ensures)

pub returns-in-Some-2-clause-unheld : goal.returns-in-Some-2-clause-unheld
returns-in-Some-2-clause-unheld c =
    let is : c.args.id.now ≡ Some c.as_slice.result.now = cc in
    unheld_of c.args.id.now c.as_slice.result.now (Some c.in-Some-2.values.items) is (rw c.in-Some-2.is at c.in_ok-literal_values-in-Some.ensures)

pub returns-in-Some-2-clause-id : goal.returns-in-Some-2-clause-id
returns-in-Some-2-clause-id c = λ key.
    let is : c.args.id.now ≡ Some c.as_slice.result.now = cc in
    rw c.from_vec.ensures
    (given_of c.args.id.now c.as_slice.result.now c.in-Some-2.values.items is (rw c.in-Some-2.is at c.in_ok-literal_values-in-Some.ensures) key)
