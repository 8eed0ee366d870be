use Rattle.std.specs.Prelude.{List, true}
use Rattle.std.proofs.Common.{subst, rules}
use Rattle.table_defs.specs.declared.definition.TableDef.{TableDef}
use Rattle.cache_tier.specs.Journals.{SetsLoaded}
use Rattle.tier_journal.specs.Batches.{Adds}
use Rattle.group_catalog.specs.Kept.{group_seen}
use Rattle.stored_tier.specs.NewSlots.{flag_entry}
use Rattle.stored_tier.proofs.NewSlotLaws.{adds_one, flag_added, flag_none}
use Rattle.stored_tier.proofs.new_slot.with_flag.Goals as goal

pub returns-then-not-group : goal.returns-then-not-group
returns-then-not-group c = flag_none (group_seen c.args.group.now) c.args.batch (Prim.search rules)

pub returns : goal.returns
returns c =
    flag_added (group_seen c.args.group.now) c.args.batch c.in_ok-made.made (Prim.search rules)
    (adds_one (flag_entry (group_seen c.args.group.now)) c.args.batch c.in_ok-made.made (λ schema. Prim.search rules) (subst (λ name. (schema : List TableDef) → Adds schema c.args.batch c.in_ok-made.made (SetsLoaded name true)) c.as_bytes-name.ensures c.in_ok-made.ensures))
