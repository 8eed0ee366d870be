use Rattle.std.proofs.Common.{◌≡◌, ◌∙◌, ap, length, slice_get, subst, sym}
use Rattle.stored_tier.proofs.RefreshSteps.{none_more}
use Rattle.changed_sets.specs.Showing.{HiddenBy, Patched, PatchedAt, TurnedBy}
use Rattle.changed_sets.proofs.ShowSteps.{at_end, before_at, in_front, patched_last, patched_none}
use Rattle.changed_sets.proofs.showing.patch_all.Goals as goal

pub loop-patch-init : goal.loop-patch-init
loop-patch-init c = record { ready = c.requires; stores = λ end p. p; hidden = λ end p. p }

pub patch_at-requires : goal.patch_at-requires
patch_at-requires c = λ p s is there.
    let long : c.len.result ≡ length c.pop.new.self.items = c.len.ensures ∙ c.pop.new.self.ok.0 in
    c.loop-patch.invariant.ready c.len.result p s
    (ap (λ l. slice_get l c.len.result) c.in-Some.ensures.items ∙ ap (slice_get _) long ∙ at_end c.pop.new.self.items c.in-Some.patch ∙ ap (λ o. Rattle.std.proofs.Common.Some o) is) there

pub loop-patch-preserved : goal.loop-patch-preserved
loop-patch-preserved c =
    let front = c.pop.new.self.items in
    let items = c.in-Some.ensures.items in
    let long : c.len.result ≡ length c.pop.new.self.items = c.len.ensures ∙ c.pop.new.self.ok.0 in
    let stores = subst (λ n. PatchedAt TurnedBy n c.in-Some.patch c.loop-patch.stores.items c.patch_at.new.stores.items) long c.patch_at.ensures.stores in
    let hidden = subst (λ n. PatchedAt HiddenBy n c.in-Some.patch c.loop-patch.hidden.items c.patch_at.new.hidden.items) long c.patch_at.ensures.hidden in
    record {
      ready = λ k p s at there.
          let f = in_front front c.in-Some.patch k p at in
          c.loop-patch.invariant.ready k p s (ap (λ l. slice_get l k) items ∙ f.1) (sym (before_at TurnedBy (length front) c.in-Some.patch c.loop-patch.stores.items c.patch_at.new.stores.items k f.0 stores) ∙ there);
      stores = λ end p. c.loop-patch.invariant.stores end (subst (λ l. Patched TurnedBy l c.loop-patch.stores.items end) (sym items) (patched_last TurnedBy front c.in-Some.patch c.loop-patch.stores.items c.patch_at.new.stores.items end stores p));
      hidden = λ end p. c.loop-patch.invariant.hidden end (subst (λ l. Patched HiddenBy l c.loop-patch.hidden.items end) (sym items) (patched_last HiddenBy front c.in-Some.patch c.loop-patch.hidden.items c.patch_at.new.hidden.items end hidden p));
    }

pub returns : goal.returns
returns c =
    let none = none_more _ _ c.loop-patch.patches.ok.0 c.in_default.ensures.variant.1 in
    record {
      stores = c.loop-patch.invariant.stores c.loop-patch.stores.items (subst (λ l. Patched TurnedBy l c.loop-patch.stores.items c.loop-patch.stores.items) (sym (Rattle.changed_sets.proofs.ShowSteps.nothing_left c.loop-patch.patches.items none)) (patched_none TurnedBy c.loop-patch.stores.items));
      hidden = c.loop-patch.invariant.hidden c.loop-patch.hidden.items (subst (λ l. Patched HiddenBy l c.loop-patch.hidden.items c.loop-patch.hidden.items) (sym (Rattle.changed_sets.proofs.ShowSteps.nothing_left c.loop-patch.patches.items none)) (patched_none HiddenBy c.loop-patch.hidden.items));
    }
