-- A matching pair recovers, and recovering again adds nothing.
use Rattle.std.proofs.Common.{◌≡◌, List, [], ◌∷◌, ◌++◌, map, Some, refl, sym, ◌∙◌, ap, subst, append_assoc, append-nil}
use Rattle.order_laws.specs.table_state.specs.declared.history.Entry.{Entry}
use Rattle.order_laws.specs.table_state.specs.declared.history.Entry.TheVariants.{Foreign}
use Rattle.order_laws.specs.table_state.specs.declared.history.Sealed.{Sealed}
use Rattle.order_laws.specs.table_state.specs.Tables.{TableState}
use Rattle.order_laws.specs.table_state.specs.Histories.{entry_of}
use Rattle.order_laws.specs.table_state.specs.Operations.{applied_all}
use Rattle.order_laws.specs.Commits.{LiveGroup, MayCome, conflicting, in_order, pending}
use Rattle.order_laws.specs.Sides.{AgreeOn}
use Rattle.order_laws.specs.Standing.{HasGroup}
use Rattle.order_laws.proofs.GroupLaws.{backing_is_order}
use Rattle.recovery_laws.specs.Notes.{Note, groups_of, log_in, next_of}
use Rattle.recovery_laws.specs.Matching.{IsMatched, IsRecovered, Recovers, ends, own, others}
use Rattle.recovery_laws.proofs.MatchLaws.{came_rest, first_may_come, first_pending, matched_stands}
use Rattle.recovery_laws.proofs.PushLaws.{steady_quiet}
use Rattle.recovery_laws.proofs.EventLaws.{came_log, comes, others_come}

-- the serial round that a recovery does, with nobody else at work: such a recovery there is
pub recovers : (notes : List Note) (h : List Entry) (waiting : List Sealed) → (m : IsMatched notes h) → pending h (log_in h notes) ≡ waiting → IsRecovered notes h (h ++ map entry_of waiting)
recovers notes h [] m e = subst (IsRecovered notes h) (sym (append-nil h)) (record { matched = m; log = refl; none = e })
recovers notes h (s ∷ waiting) m e =
    let n = h ++ entry_of s ∷ [] in
    let stand = matched_stands notes h m in
    let f = first_pending h (log_in h notes) s waiting e in
    let may = first_may_come (conflicting m.backing.schema) h (log_in h notes) (next_of notes) s waiting stand.over.rise f in
    let same : log_in n notes ≡ log_in h notes = came_log notes h s m may.one may.fresh in
    let r = recovers notes n waiting (comes notes h s m may) (ap (pending n) same ∙ came_rest h (log_in h notes) (next_of notes) s waiting stand.over.rise f) in
    subst (IsRecovered notes h) (append_assoc h (entry_of s ∷ []) (map entry_of waiting)) (record { matched = r.matched; log = r.log ∙ same; none = r.none })

some_same : {X : Type 0} (x y : X) → Some x ≡ Some y → x ≡ y
some_same x y e = cc

-- at every moment of it the pair matches
pub round_matches : (notes : List Note) (h n : List Entry) → Recovers notes h n → IsMatched notes h → IsMatched notes n × (log_in n notes ≡ log_in h notes)
round_matches notes h _ ends m = (m, refl)
round_matches notes h n (own s b is may more) m =
    let same : b ≡ m.backing = some_same b m.backing (sym is ∙ m.leaves) in
    let here = subst (λ (x : TableState). MayCome (conflicting x.schema) h (log_in h notes) s) same may in
    let r = round_matches notes (h ++ entry_of s ∷ []) n more (comes notes h s m here) in
    (r.0, r.1 ∙ came_log notes h s m here.one here.fresh)
round_matches notes h n (others ops b x is applies off more) m =
    let same : b ≡ m.backing = some_same b m.backing (sym is ∙ m.leaves) in
    let r = round_matches notes (h ++ Foreign ops ∷ []) n more (others_come notes h ops x m (subst (λ (y : TableState). applied_all ops y ≡ Some x) same applies) off) in
    (r.0, r.1 ∙ steady_quiet h (Foreign ops) notes tt)

-- what is recovered shows: on each live writethrough group the backing state is the group's order
pub recovered_shows : (notes : List Note) (h later : List Entry) → (r : IsRecovered notes h later) → (g : LiveGroup) → HasGroup (groups_of notes) g → (o : TableState) × (in_order g later (log_in later notes) ≡ Some o) × AgreeOn g.tables r.matched.backing o
recovered_shows notes h later r g among = backing_is_order (groups_of notes) later (log_in later notes) (next_of notes) (matched_stands notes later r.matched).over r.none g among

-- recovering again: nothing comes
pub again : (notes : List Note) (h later : List Entry) → (r : IsRecovered notes h later) → IsRecovered notes later (later ++ map entry_of (pending later (log_in later notes))) × (later ++ map entry_of (pending later (log_in later notes)) ≡ later)
again notes h later r = (recovers notes later (pending later (log_in later notes)) r.matched refl, ap (λ l. later ++ map entry_of l) r.none ∙ append-nil later)
