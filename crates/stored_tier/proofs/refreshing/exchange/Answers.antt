use Rattle.std.proofs.Common.{◌≡◌, ◌∙◌, length, sym}
use Rattle.stored_tier.specs.declared.refreshing.Made.{Made}
use Rattle.stored_tier.proofs.RefreshSteps.{none_more, none_put, put_last}
use Rattle.stored_tier.proofs.refreshing.exchange.Goals as goal

pub loop-one-preserved : goal.loop-one-preserved
loop-one-preserved c =
    let front = c.pop.new.self.items in
    let long : c.len.result ≡ length c.pop.new.self.items = c.len.ensures ∙ c.pop.new.self.ok.0 in
    record {
      stores = put_last (λ (m : Made). m.store) c.loop-one.stores.items c.put_made.new.stores.items c.loop-one.made.items front c.in-Some.one c.len.result c.in-Some.ensures.items long c.put_made.ensures.stores
          ∙ c.loop-one.invariant.stores;
      hidden = put_last (λ (m : Made). m.hidden) c.loop-one.hidden.items c.put_made.new.hidden.items c.loop-one.made.items front c.in-Some.one c.len.result c.in-Some.ensures.items long c.put_made.ensures.hidden
          ∙ c.loop-one.invariant.hidden;
    }

pub returns : goal.returns
returns c =
    let none = none_more _ _ c.loop-one.made.ok.0 c.in_default.ensures.variant.1 in
    record {
      stores = sym (none_put (λ (m : Made). m.store) c.loop-one.stores.items c.loop-one.made.items none) ∙ c.loop-one.invariant.stores;
      hidden = sym (none_put (λ (m : Made). m.hidden) c.loop-one.hidden.items c.loop-one.made.items none) ∙ c.loop-one.invariant.hidden;
    }
