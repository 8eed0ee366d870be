-- Where keys of the table are held.
use Rattle.std.proofs.Common.{slice_get, ap, ◌∙◌}
use Rattle.own_rows.specs.indexed_rows.specs.Rows.{key_of}
use Rattle.session_state.proofs.LockLaws.{no_keys, some_keys}
use Rattle.session_state.proofs.held.HeldKeys.has_key_of.Goals as goal

pub returns-in-None : goal.returns-in-None
returns-in-None c = no_keys (slice_get c.args.self.now c.args.table.0) (key_of c.args.places.now c.args.row.now) (c.in-None.ensures ∙ ap (λ l. slice_get l c.args.table.0) (c.as_slice.ensures.value ∙ c.self.view_is))

pub returns-in-Some : goal.returns-in-Some
returns-in-Some c = some_keys (slice_get c.args.self.now c.args.table.0) c.in-Some.keys.now (key_of c.args.places.now c.args.row.now) c.has_same_key.result (c.in-Some.ensures ∙ ap (λ l. slice_get l c.args.table.0) (c.as_slice.ensures.value ∙ c.self.view_is)) c.has_same_key.ensures
