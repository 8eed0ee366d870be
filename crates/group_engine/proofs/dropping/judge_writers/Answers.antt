use Rattle.std.proofs.Common.{◌≡◌, ◌∙◌, Some, None, ap, slice_get, subst, sym}
use Rattle.std.specs.Option.{option_map}
use Rattle.open_sessions.specs.Opening.{seen_all}
use Rattle.session_state.specs.Kept.{seen_of}
use Rattle.table_defs.specs.Declarations.{IsRefusedBy}
use Rattle.tier_statements.specs.Seen.{session_seen}
use Rattle.group_catalog.specs.Kept.{group_seen}
use Rattle.cache_tier.specs.Groups.{Group}
use Rattle.cache_tier.specs.Locks.{group_lock, locked_by}
use Rattle.cache_tier.specs.TierStates.{Session, Tier}
use Rattle.group_engine.specs.Dropping.{writer_beside}
use Rattle.stored_tier.specs.Stored.{HasSession, IsStoredAs, without_list}
use Rattle.group_engine.proofs.DropLocks.{group_stored, lock_seen, writer_seen}
use Rattle.group_engine.proofs.dropping.judge_writers.Goals as goal

pub returns-in-None-find_writer : goal.returns-in-None-find_writer
returns-in-None-find_writer c = λ a s g is has at. (
    lock_seen c.label_law.ensures.closed c.args.tier.now a s c.args.id g c.requires is has
    ∙ ap (λ (h : Group). option_map locked_by (option_map session_seen (writer_beside c.args.id h (seen_all c.args.tier.now.sessions)))) (group a g is at)
    ∙ ap (λ o. option_map locked_by (option_map session_seen o)) (writer_seen c.args.id (group_seen c.in-Some.group.now) c.as_slice.result.now (seen_all c.args.tier.now.sessions) None c.as_slice.ensures.seen c.in-None-find_writer.ensures))
  where
    group : (a : Tier) (g : Group) → IsStoredAs c.args.tier.now a → slice_get a.groups c.args.place ≡ Some g → without_list g ≡ group_seen c.in-Some.group.now
    group a g is at = let both : Some (without_list g) ≡ Some (group_seen c.in-Some.group.now) = sym (group_stored c.args.tier.now a c.args.place g is at) ∙ sym c.in-Some.ensures in cc

pub returns-in-Some-find_writer : goal.returns-in-Some-find_writer
returns-in-Some-find_writer c = λ a s g is has at. subst (λ o. IsRefusedBy o c.refuse_locked.result) (sym (lock a s g is has at)) c.refuse_locked.ensures
  where
    group : (a : Tier) (g : Group) → IsStoredAs c.args.tier.now a → slice_get a.groups c.args.place ≡ Some g → without_list g ≡ group_seen c.in-Some.group.now
    group a g is at = let both : Some (without_list g) ≡ Some (group_seen c.in-Some.group.now) = sym (group_stored c.args.tier.now a c.args.place g is at) ∙ sym c.in-Some.ensures in cc

    lock : (a : Tier) (s : Session) (g : Group) → IsStoredAs c.args.tier.now a → HasSession c.args.tier.now c.args.id s → slice_get a.groups c.args.place ≡ Some g → group_lock s.label a g ≡ Some (locked_by (session_seen (seen_of c.in-Some-find_writer.session.now)))
    lock a s g is has at =
        lock_seen c.label_law.ensures.closed c.args.tier.now a s c.args.id g c.requires is has
        ∙ ap (λ (h : Group). option_map locked_by (option_map session_seen (writer_beside c.args.id h (seen_all c.args.tier.now.sessions)))) (group a g is at)
        ∙ ap (λ o. option_map locked_by (option_map session_seen o)) (writer_seen c.args.id (group_seen c.in-Some.group.now) c.as_slice.result.now (seen_all c.args.tier.now.sessions) (Some c.in-Some-find_writer.session.now) c.as_slice.ensures.seen c.in-Some-find_writer.ensures)
