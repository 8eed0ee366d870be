-- Of the own rows and those of the table the one with the lower key.
use Rattle.std.proofs.Common.{Some}
use Rattle.table_state.specs.Children.{refers_to}
use Rattle.own_rows.proofs.ChildSteps.{below_alone, below_first, below_with, both_none, own_alone, own_first, own_with, own_within}
use Rattle.own_rows.proofs.children.child_of_both.Goals as goal

pub place_of_own-requires-clause-within : goal.place_of_own-requires-clause-within
place_of_own-requires-clause-within g c = own_within c.args.own.now _ c.requires.agrees (refers_to c.args.key.now (Some c.args.def.now)) _ _ _ c.requires.starts _ _ (below_with _ _ _ _ _ _ _ _ c.requires.def c.next_under-below.ensures) (own_with _ _ _ _ c.args.def.now _ c.foreign_places.ensures c.child-own_next.ensures) _ c.in-Some-own_next.is

pub is_before-requires-clause-within : goal.is_before-requires-clause-within
is_before-requires-clause-within g c = own_within c.args.own.now _ c.requires.agrees (refers_to c.args.key.now (Some c.args.def.now)) _ _ _ c.requires.starts _ _ (below_with _ _ _ _ _ _ _ _ c.requires.def c.next_under-below.ensures) (own_with _ _ _ _ c.args.def.now _ c.foreign_places.ensures c.child-own_next.ensures) _ c.in-Some-own_next-2.is

pub place_of_own-requires-then-is_before-clause-within : goal.place_of_own-requires-then-is_before-clause-within
place_of_own-requires-then-is_before-clause-within g c = own_within c.args.own.now _ c.requires.agrees (refers_to c.args.key.now (Some c.args.def.now)) _ _ _ c.requires.starts _ _ (below_with _ _ _ _ _ _ _ _ c.requires.def c.next_under-below.ensures) (own_with _ _ _ _ c.args.def.now _ c.foreign_places.ensures c.child-own_next.ensures) _ c.in-Some-own_next-2.is

pub returns-in-None-own_next : goal.returns-in-None-own_next
returns-in-None-own_next g c = both_none c.args.own.now _ c.requires.agrees (refers_to c.args.key.now (Some c.args.def.now)) _ _ _ c.requires.starts _ _ (below_with _ _ _ _ _ _ _ _ c.requires.def c.next_under-below.ensures) (own_with _ _ _ _ c.args.def.now _ c.foreign_places.ensures c.child-own_next.ensures) c.in-None.is c.in-None-own_next.is

pub returns-in-Some-own_next : goal.returns-in-Some-own_next
returns-in-Some-own_next g c = own_alone c.args.own.now _ c.requires.agrees (refers_to c.args.key.now (Some c.args.def.now)) _ _ _ c.requires.starts _ _ (below_with _ _ _ _ _ _ _ _ c.requires.def c.next_under-below.ensures) (own_with _ _ _ _ c.args.def.now _ c.foreign_places.ensures c.child-own_next.ensures) _ c.in-Some-own_next.is _ c.place_of_own.ensures c.in-None.is

pub returns-in-None-own_next-2 : goal.returns-in-None-own_next-2
returns-in-None-own_next-2 g c = below_alone c.args.own.now _ c.requires.agrees (refers_to c.args.key.now (Some c.args.def.now)) _ _ _ c.requires.starts _ _ (below_with _ _ _ _ _ _ _ _ c.requires.def c.next_under-below.ensures) (own_with _ _ _ _ c.args.def.now _ c.foreign_places.ensures c.child-own_next.ensures) _ c.in-Some.is _ c.place_of_under.ensures c.in-None-own_next-2.is

pub returns-then-is_before : goal.returns-then-is_before
returns-then-is_before g c = own_first c.args.own.now _ c.requires.agrees (refers_to c.args.key.now (Some c.args.def.now)) _ _ _ c.requires.starts _ _ (below_with _ _ _ _ _ _ _ _ c.requires.def c.next_under-below.ensures) (own_with _ _ _ _ c.args.def.now _ c.foreign_places.ensures c.child-own_next.ensures) _ c.in-Some.is _ c.in-Some-own_next-2.is _ c.is_before.ensures _ c.place_of_own-then-is_before.ensures c.if-is_before.true

pub returns-else-is_before : goal.returns-else-is_before
returns-else-is_before g c = below_first c.args.own.now _ c.requires.agrees (refers_to c.args.key.now (Some c.args.def.now)) _ _ _ c.requires.starts _ _ (below_with _ _ _ _ _ _ _ _ c.requires.def c.next_under-below.ensures) (own_with _ _ _ _ c.args.def.now _ c.foreign_places.ensures c.child-own_next.ensures) _ c.in-Some.is _ c.in-Some-own_next-2.is _ c.is_before.ensures _ c.place_of_under-else-is_before.ensures c.if-is_before.false
