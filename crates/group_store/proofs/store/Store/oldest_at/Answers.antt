use Rattle.std.proofs.Common.{slice_get, subst}
use Rattle.cache_store.specs.instances.specs.Views.{kept_at}
use Rattle.group_store.specs.Recent.{StandsAt}
use Rattle.group_store.proofs.store.Store.oldest_at.Goals as goal

pub returns : goal.returns
returns c = subst (λ h. StandsAt (kept_at h.tables 0) (slice_get h.keys 0) c.oldest_at.result) c.self.view_is c.oldest_at.ensures
