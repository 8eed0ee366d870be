use Rattle.std.proofs.Common.{ap, sym, ◌∙◌}
use Rattle.std.specs.Option.{option_and_then, option_copied, option_map}
use Rattle.std.specs.FinMap as fm
use Rattle.slot_rows.specs.indexed_rows.specs.Rows.{is_same}
use Rattle.cache_store.specs.recency.specs.Rings.{next_key}
use Rattle.group_store.specs.Recent.{key_in}
use Rattle.group_store.proofs.RecentLaws.{next_is, next_row, no_next}
use Rattle.group_store.proofs.recent.RecentRows.newer.Goals as goal

pub returns-in-None : goal.returns-in-None
returns-in-None c =
    let l = c.self.inside in
    ap (option_and_then (fm.get l.rows.table)) (sym (no_next l.rows.slots l.recent.keys c.self.invariant.0 c.args.key.now (λ other e. let z = c.in-None.ensures.1 other e in cc)))
    ∙ ap (λ h. option_and_then (fm.get h.table) (next_key is_same c.args.key.now h.keys)) c.self.view_is

pub returns-in-None-newer : goal.returns-in-None-newer
returns-in-None-newer c =
    let l = c.self.inside in
    let s = c.in-Some.ensures in
    ap (option_and_then (fm.get l.rows.table)) (ap (option_map (key_in l.rows.slots)) c.in-None-newer.ensures ∙ sym (next_is l.rows.slots l.recent.keys c.self.invariant.0 c.args.key.now c.in-Some.slot s.1 s.2))
    ∙ ap (λ h. option_and_then (fm.get h.table) (next_key is_same c.args.key.now h.keys)) c.self.view_is

pub returns-in-Some-newer : goal.returns-in-Some-newer
returns-in-Some-newer c =
    let l = c.self.inside in
    let s = c.in-Some.ensures in
    next_row l.rows.slots l.recent.keys c.self.invariant.0 l.rows.table (option_copied c.row_in.result) c.args.key.now c.in-Some.slot c.in-Some-newer.slot.now s.1 s.2 (sym c.in-Some-newer.ensures) c.row_in.ensures
    ∙ ap (λ h. option_and_then (fm.get h.table) (next_key is_same c.args.key.now h.keys)) c.self.view_is
