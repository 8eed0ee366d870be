use Rattle.std.proofs.Common.{◌≡◌, ◌+◌, suc, Bool, true, false, cond, Some, map, position, refl, sym, ap, ◌∙◌, eqb-true, arith}
use Rattle.std.specs.Option.{option_map}
use Rattle.slot_rows.specs.tier_base.specs.declared.number.TableId.{TableId}
use Rattle.cache_store.specs.instances.specs.Trees.{same_table}
use Rattle.group_store.specs.Joined.{layer_of}
use Rattle.group_store.specs.Stores.{place_in}
use Rattle.group_store.proofs.StoreLaws.{place_among}
use Rattle.group_store.proofs.store.Store.place_of.Goals as goal

other_table : (a b : TableId) → (a.0 ≡ b.0 → ⊥) → same_table a b ≡ false
other_table a b n = by (same_table a b) refl
  where
    by : (x : Bool) → same_table a b ≡ x → same_table a b ≡ false
    by true e = absurd (n (eqb-true a.0 b.0 e))
    by false e = e

pub returns-in-None-clause-place : goal.returns-in-None-clause-place
returns-in-None-clause-place c =
    let l = c.self.inside in
    let t = c.args.table in
    let other = other_table l.table t (λ e. c.if-self-table.false e) in
    let among = c.in-None.ensures ∙ ap (position (λ x. same_table x.table t)) c.as_slice.ensures.value ∙ sym (place_among t l.rows.children.items) in
    ap (option_map suc) among ∙ sym (ap (λ b. cond b (Some 0) (option_map suc (position (λ x. same_table x.table t) (map layer_of l.rows.children.items)))) other) ∙ ap (λ h. place_in h t) c.self.view_is

pub returns-in-Some-clause-place : goal.returns-in-Some-clause-place
returns-in-Some-clause-place c =
    let l = c.self.inside in
    let t = c.args.table in
    let other = other_table l.table t (λ e. c.if-self-table.false e) in
    let among = c.in-Some.ensures ∙ ap (position (λ x. same_table x.table t)) c.as_slice.ensures.value ∙ sym (place_among t l.rows.children.items) in
    ap Some (let z : c.in-Some.place + 1 ≡ suc c.in-Some.place = omega arith in z) ∙ ap (option_map suc) among ∙ sym (ap (λ b. cond b (Some 0) (option_map suc (position (λ x. same_table x.table t) (map layer_of l.rows.children.items)))) other) ∙ ap (λ h. place_in h t) c.self.view_is
