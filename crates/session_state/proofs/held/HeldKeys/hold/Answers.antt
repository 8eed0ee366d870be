-- The marks hold their keys.
use Rattle.std.proofs.Common.{◌++◌, length, map, sym, ap, subst, ◌∙◌}
use Rattle.std.proofs.lemmas.List.{with_items_is}
use Rattle.session_state.specs.Holding.{AreKeysOf, KeysHaveRoom, key_of_mark, with_marks}
use Rattle.session_state.proofs.HoldingLaws.{keys_more, marks_long, marks_room}
use Rattle.session_state.proofs.held.HeldKeys.hold.Goals as goal

pub hold_all-requires-clause-room : goal.hold_all-requires-clause-room
hold_all-requires-clause-room c = subst (KeysHaveRoom (length c.args.marks.items)) (sym (c.as_mut_slice.ensures.value ∙ c.self.view_is)) c.requires.room

pub returns-clause-keys : goal.returns-clause-keys
returns-clause-keys c = λ held keys.
    subst (AreKeysOf (held ++ map key_of_mark c.args.marks.items)) (sym (with_items_is c.self.inside.tables c.hold_all.new.keys (c.hold_all.auto.keys ∙ c.as_mut_slice.ensures.len) ∙ c.hold_all.ensures ∙ ap (with_marks c.args.marks.items) (c.as_mut_slice.ensures.value ∙ c.self.view_is)))
    (keys_more c.args.marks.items held c.args.self.now c.requires.within keys)

pub returns-clause-room : goal.returns-clause-room
returns-clause-room c = λ n room.
    subst (KeysHaveRoom n) (sym (with_items_is c.self.inside.tables c.hold_all.new.keys (c.hold_all.auto.keys ∙ c.as_mut_slice.ensures.len) ∙ c.hold_all.ensures ∙ ap (with_marks c.args.marks.items) (c.as_mut_slice.ensures.value ∙ c.self.view_is)))
    (marks_room c.args.marks.items c.args.self.now n room)

pub returns-clause-long : goal.returns-clause-long
returns-clause-long c =
    ap length (with_items_is c.self.inside.tables c.hold_all.new.keys (c.hold_all.auto.keys ∙ c.as_mut_slice.ensures.len) ∙ c.hold_all.ensures ∙ ap (with_marks c.args.marks.items) (c.as_mut_slice.ensures.value ∙ c.self.view_is))
    ∙ marks_long c.args.marks.items c.args.self.now
