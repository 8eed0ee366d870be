use Rattle.std.proofs.Common.{subst}
use Rattle.group_store.specs.Stores.{HasRootKeys}
use Rattle.group_store.proofs.store.Store.keys_law.Goals as goal

pub returns : goal.returns
returns c =
    subst HasRootKeys c.self.view_is (record { are = c.keys_law.ensures.are; once = c.keys_law.ensures.once })
