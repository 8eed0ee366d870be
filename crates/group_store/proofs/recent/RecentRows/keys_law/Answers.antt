use Rattle.std.proofs.Common.{subst}
use Rattle.group_store.specs.Recent.{HasItsKeys}
use Rattle.group_store.proofs.RecentLaws.{recent_keys, recent_once}
use Rattle.group_store.proofs.recent.RecentRows.keys_law.Goals as goal

pub returns : goal.returns
returns c =
    let l = c.self.inside in
    let law = c.slots_law.ensures in
    subst HasItsKeys c.self.view_is (record {
      are = recent_keys l.rows.slots l.recent.keys c.self.invariant.0 l.rows.table law.row law.slot;
      once = λ key there. let s = law.slot key there in recent_once l.rows.slots l.recent.keys c.self.invariant.0 c.self.invariant.2 law.only key s.0 s.1;
    })
