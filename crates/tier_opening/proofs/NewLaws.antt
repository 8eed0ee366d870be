-- A new site: its journal has no entry, and so does its history.
use Rattle.std.proofs.Common.{◌≡◌, ◌∙◌, ℕ, Option, Some, None, List, [], ◌∷◌, ◌++◌, Bool, true, false, ◌||◌, refl, sym, ap, subst, arith, append-nil, append_assoc}
use Rattle.std.specs.Option.{IsSome}
use Rattle.std.proofs.lemmas.Bool.{eq-eqb}
use Rattle.tier_base.specs.declared.number.TableId.{TableId}
use Rattle.table_defs.specs.declared.definition.TableDef.{TableDef}
use Rattle.table_state.specs.declared.history.Entry.{Entry}
use Rattle.table_state.specs.declared.history.Entry.TheVariants.{Definition, Foreign, Own}
use Rattle.table_state.specs.declared.history.Sealed.{Sealed}
use Rattle.table_state.specs.Histories.{has_ticket, state_of}
use Rattle.table_state.specs.Tables.{TableState}
use Rattle.outside.specs.Holding.{Held, Slots}
use Rattle.outside.specs.Others.{AreOthers}
use Rattle.order_laws.specs.Commits.{HasOps, KeepsOrder, Once, conflicting}
use Rattle.commit_journal.specs.Layout.{Placed, Reads, new}
use Rattle.commit_journal.specs.Opening.{IsBlank}
use Rattle.commit_journal.proofs.OneJournal.{one_journal}
use Rattle.cache_tier.specs.Journals.{JournalEntry}
use Rattle.cache_tier.specs.TierStates.{Settings, Tier, opened}
use Rattle.cache_tier.specs.Worlds.{IsUnshared, World}
use Rattle.tier_journal.specs.declared.journal.TierJournal.{TierJournal}
use Rattle.tier_journal.specs.Opening.{StandForAll}
use Rattle.recovery_laws.specs.Matching.{IsMatched}
use Rattle.recovery.specs.Recalling.{AreMatched, RecallsAll}
use Rattle.tier_opening.specs.Opening.{BeginsIn, IsNewSite, MayOpen}

no_entries : (schema : List TableDef) (entries : List JournalEntry) (placed : List Placed) → placed ≡ [] → StandForAll schema entries placed → entries ≡ []
no_entries schema [] placed e h = refl
no_entries schema (x ∷ entries) [] e h = absurd h
no_entries schema (x ∷ entries) (p ∷ placed) e h = cc

none_said : (schema : List TableDef) (slots : Slots) (entries : List JournalEntry) (placed : List Placed) → IsBlank slots → Reads slots placed None → StandForAll schema entries placed → entries ≡ []
none_said schema slots entries placed blank reads stand =
    let x = one_journal reads (new blank.first blank.second) in
    no_entries schema entries placed x.entries_same stand

-- others leave a state, and bring no ticket
left_more : {Y : Type 0} (h : List Entry) → IsSome (state_of h) → ((x : TableState) → state_of h ≡ Some x → Y) → Y
left_more {Y = Y} h some next = by (state_of h) refl some
  where
    by : (o : Option TableState) → state_of h ≡ o → IsSome o → Y
    by None e is = cc
    by (Some x) e is = next x e

pub left_by : (shared : List TableId) (entries h : List Entry) (s : TableState) → state_of h ≡ Some s → AreOthers shared h entries → (x : TableState) × (state_of (h ++ entries) ≡ Some x)
left_by shared [] h s is a = (s, ap state_of (append-nil h) ∙ is)
left_by shared (Foreign ops ∷ entries) h s is a =
    left_more (h ++ Foreign ops ∷ []) (a.1 s is)
    (λ x e. subst (λ l. (y : TableState) × (state_of l ≡ Some y)) (append_assoc h (Foreign ops ∷ []) entries) (left_by shared entries (h ++ Foreign ops ∷ []) x e a.2))
left_by shared (Definition def ∷ entries) h s is a = absurd a
left_by shared (Own ticket ops ∷ entries) h s is a = absurd a

ticket_of_others : (shared : List TableId) (entries front : List Entry) (t : ℕ) → AreOthers shared front entries → has_ticket t entries ≡ false
ticket_of_others shared [] front t a = refl
ticket_of_others shared (Foreign ops ∷ entries) front t a = ticket_of_others shared entries (front ++ Foreign ops ∷ []) t a.2
ticket_of_others shared (Definition def ∷ entries) front t a = absurd a
ticket_of_others shared (Own ticket ops ∷ entries) front t a = absurd a

either_more : (b x y z : Bool) → x ≡ (y || z) → (b || x) ≡ ((b || y) || z)
either_more true x y z e = refl
either_more false x y z e = e

ticket_in : (t : ℕ) (xs ys : List Entry) → has_ticket t (xs ++ ys) ≡ (has_ticket t xs || has_ticket t ys)
ticket_in t [] ys = refl
ticket_in t (Definition def ∷ xs) ys = ticket_in t xs ys
ticket_in t (Foreign ops ∷ xs) ys = ticket_in t xs ys
ticket_in t (Own ticket ops ∷ xs) ys = either_more (Rattle.std.specs.Prelude.nat_eq ticket.0 t) (has_ticket t (xs ++ ys)) (has_ticket t xs) (has_ticket t ys) (ticket_in t xs ys)

-- a history without tickets is in order for each log without transactions
abbrev HasNone : List Entry → Type 0
HasNone h = (t : ℕ) → has_ticket t h ≡ false

no_own : (ticket : ℕ) (h : List Entry) (b : Bool) → (b || has_ticket ticket h) ≡ false → b ≡ true → ⊥
no_own ticket h true e is = cc
no_own ticket h false e is = cc

rest_none : (h : List Entry) (ticket : Rattle.tier_base.specs.declared.number.Ticket.Ticket) (ops : List Rattle.table_state.specs.declared.operation.Op.Op) → HasNone (Own ticket ops ∷ h) → ⊥
rest_none h ticket ops none = no_own ticket.0 h (Rattle.std.specs.Prelude.nat_eq ticket.0 ticket.0) (none ticket.0) (eq-eqb ticket.0 ticket.0 refl)

once_none : (h : List Entry) → HasNone h → Once h
once_none [] none = tt
once_none (Definition def ∷ h) none = once_none h none
once_none (Foreign ops ∷ h) none = once_none h none
once_none (Own ticket ops ∷ h) none = absurd (rest_none h ticket ops none)

ops_none : (h : List Entry) → HasNone h → HasOps [] h
ops_none [] none = tt
ops_none (Definition def ∷ h) none = ops_none h none
ops_none (Foreign ops ∷ h) none = ops_none h none
ops_none (Own ticket ops ∷ h) none = absurd (rest_none h ticket ops none)

order_none : (conflict : Sealed → Sealed → Bool) (front h : List Entry) → HasNone h → KeepsOrder conflict [] front h
order_none conflict front [] none = tt
order_none conflict front (Definition def ∷ h) none = order_none conflict (front ++ Definition def ∷ []) h none
order_none conflict front (Foreign ops ∷ h) none = order_none conflict (front ++ Foreign ops ∷ []) h none
order_none conflict front (Own ticket ops ∷ h) none = absurd (rest_none h ticket ops none)

matched_new : (h : List Entry) (s : TableState) → state_of h ≡ Some s → HasNone h → IsMatched [] h
matched_new h s is none = record {
  fits = tt;
  known = λ t there. let no : false ≡ true = sym (none t) ∙ there in cc;
  backing = s;
  leaves = is;
  virtual = s;
  virtual_is = rw is refl;
  legal = record { once = once_none h none; ops = ops_none h none; order = order_none (conflicting s.schema) [] h none };
  ordered = tt;
  closed = tt;
  tables = refl;
}

module _ (shared : List TableId) (o : Held) (site : IsNewSite o) (settings : Settings) (moment : ℕ) (k : TierJournal) (w : World) (b : BeginsIn settings moment o k w) where
  none : b.entries ≡ []
  none = none_said b.schema o.slots b.entries b.say.placed site.blank b.say.reads b.say.stand

  left : (x : TableState) × (state_of w.history ≡ Some x)
  left = subst (λ h. (x : TableState) × (state_of h ≡ Some x)) (sym b.history) (left_by w.shared b.others o.history site.state site.leaves b.came)

  tickets : HasNone w.history
  tickets t =
      ap (has_ticket t) b.history ∙ ticket_in t o.history b.others
      ∙ ap (λ x. x || has_ticket t b.others) (site.none t) ∙ ticket_of_others w.shared b.others o.history t b.came

  matched : AreMatched b.entries w.history
  matched = subst (λ es. AreMatched es w.history) (sym none) (record {
    backing = left.0;
    leaves = left.1;
    matched = matched_new w.history left.0 left.1 tickets;
    last = omega arith;
  })

  bare : b.catalog.groups ≡ []
  bare = ap (λ (t : Tier). t.groups) (subst (λ es. RecallsAll es (opened settings moment b.schema) b.catalog) none b.recalls)

  apart : IsUnshared w
  apart t is =
      ap (λ (x : Tier). Rattle.cache_tier.specs.Groups.is_table_of Rattle.cache_tier.specs.Groups.is_writethrough x.groups t) b.tier
      ∙ ap (λ gs. Rattle.cache_tier.specs.Groups.is_table_of Rattle.cache_tier.specs.Groups.is_writethrough gs t) bare

pub new_site : (shared : List TableId) (o : Held) → IsNewSite o → MayOpen shared o
new_site shared o site settings moment k w b same = (matched shared o site settings moment k w b, apart shared o site settings moment k w b)
