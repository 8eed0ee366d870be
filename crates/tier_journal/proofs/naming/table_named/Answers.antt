use Rattle.std.proofs.Common.{◌<◌, length, refl, rules}
use Rattle.tier_journal.proofs.ReadLaws.{table_found}
use Rattle.tier_journal.proofs.naming.table_named.Goals as goal

pub returns-then-is_same-clause-found : goal.returns-then-is_same-clause-found
returns-then-is_same-clause-found c =
    let lt : c.loop-place.place < length c.args.schema.now = search rules in
    (lt, table_found c.args.schema.now c.args.name.now c.as_bytes.result.now c.loop-place.place c.index-schema-place.result lt c.as_bytes.ensures (c.if-is_same.ensures.0 refl))
