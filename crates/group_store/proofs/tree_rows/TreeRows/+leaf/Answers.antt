use Rattle.std.proofs.Common.{ap, is_some, arith}
use Rattle.slot_rows.specs.indexed_rows.specs.Rows.{key_of}
use Rattle.group_store.specs.Joined.{places_at}
use Rattle.group_store.proofs.JoinedLaws.{child_behind, child_found, leaf_itself, leaf_through}
use Rattle.group_store.proofs.tree_rows.TreeRows.+leaf.Goals as goal

pub leaf-requires : goal.leaf-requires
leaf-requires t c =
    let s = c.args.self.now in
    let key = key_of (places_at s c.args.place) c.args.row.now in
    let found = c.in-Some.found in
    let behind = child_behind s c.args.place key c.requires.joined found.place found.row.now c.in-Some.ensures in (
      omega (arith, behind.0, behind.1),
      (c.requires.joined, (behind.1, child_found s c.args.place key c.requires.joined found.place found.row.now c.in-Some.ensures)),
    )

pub returns-in-None : goal.returns-in-None
returns-in-None t c = leaf_itself c.args.self.now c.args.place c.args.row.now c.requires.within c.requires.found c.in-None.ensures

pub returns-in-Some : goal.returns-in-Some
returns-in-Some t c =
    let s = c.args.self.now in
    let key = key_of (places_at s c.args.place) c.args.row.now in
    leaf_through s c.args.place key c.requires.joined c.in-Some.found.place c.in-Some.found.row.now c.in-Some.ensures (ap is_some c.requires.found) c.leaf.result.place c.leaf.result.row.now c.leaf.ensures
