-- Laws of tables and the history that left them.
use Rattle.std.proofs.Common.{◌≡◌, ℕ, ◌+◌, ◌<◌, Some, None, Option, List, [], ◌∷◌, ◌++◌, length, get_or, take, refl, sym, ap, subst, ◌∙◌}
use Rattle.std.proofs.lemmas.List.{take_more}
use Rattle.std.specs.Option.{option_and_then}
use Rattle.row_types.specs.declared.value.Value.{Value}
use Rattle.tier_base.specs.declared.number.TableId.{TableId}
use Rattle.table_state.specs.declared.history.Entry.{Entry}
use Rattle.table_state.specs.declared.operation.Op.{Op}
use Rattle.table_state.specs.declared.refusal.ApplyError.{ApplyError}
use Rattle.table_state.specs.declared.refusal.ApplyError.TheVariants as error
use Rattle.table_state.specs.Operations.{applied_all}
use Rattle.table_state.specs.Refusals.{SaysNone}
use Rattle.table_state.specs.Tables.{TableState}
use Rattle.table_state.specs.Histories.{after_entry, no_tables, state_from, state_of}
use Rattle.table_state.specs.Independence.{IsWhole}
use Rattle.evaluator.specs.declared.change.Change.{Change}
use Rattle.transactions.specs.Transactions.{Leaves, Tells, written_by_all}
use Rattle.outside.specs.Console.{IsDone}
use Rattle.backing_gate.specs.Heeding.{NoneDiffers}
use Rattle.table_state.proofs.HistoryLaws.{state_of-append}
use Rattle.table_state.proofs.IndependenceLaws.{entry_whole}

pub state_push : (h : List Entry) (e : Entry) (s : TableState) → state_of h ≡ Some s → state_of (h ++ e ∷ []) ≡ option_and_then (state_from []) (after_entry e s)
state_push h e s is = state_of-append h (e ∷ []) ∙ ap (option_and_then (state_from (e ∷ []))) is

-- an entry came
pub came : (h : List Entry) (e : Entry) (s n : TableState) → state_of h ≡ Some s → after_entry e s ≡ Some n → state_of (h ++ e ∷ []) ≡ Some n
came h e s n is after = state_push h e s is ∙ ap (option_and_then (state_from [])) after

-- a bank that went through the first entries goes through one more
pub one_more : (entries : List Entry) (i : ℕ) (entry : Entry) (old new : List Entry) → i < length entries → entry ≡ get_or entries i entry → old ≡ take i entries → new ≡ old ++ entry ∷ [] → new ≡ take (i + 1) entries
one_more entries i entry old new lt here is grows =
    grows ∙ ap (λ (l : List Entry). l ++ entry ∷ []) is ∙ ap (λ (e : Entry). take i entries ++ e ∷ []) here ∙ sym (take_more entries i entry lt)

-- it can't come
pub stays_out : (h : List Entry) (e : Entry) (s : TableState) → state_of h ≡ Some s → after_entry e s ≡ None → state_of (h ++ e ∷ []) ≡ None
stays_out h e s is after = state_push h e s is ∙ ap (option_and_then (state_from [])) after

-- what an error says of the operations it says of the history with them
pub says_none_of : (h : List Entry) (e : Entry) (s : TableState) (error : ApplyError) → state_of h ≡ Some s → SaysNone (after_entry e s) error → SaysNone (state_of (h ++ e ∷ [])) error
says_none_of h e s (error.Rule rule) is none = stays_out h e s is none
says_none_of h e s (error.Differs t key row) is none = stays_out h e s is none
says_none_of h e s error.Memory is none = tt

-- a history leaves one state
pub one_state : (h : List Entry) (s t : TableState) → state_of h ≡ Some s → state_of h ≡ Some t → s ≡ t
one_state h s t is also = let both : Some s ≡ Some t = sym is ∙ also in cc

-- each table of the state has its rows
from_whole : (entries : List Entry) (s n : TableState) → state_from entries s ≡ Some n → IsWhole s → IsWhole n
from_whole [] s n is whole = let same : s ≡ n = cc in subst IsWhole same whole
from_whole (entry ∷ entries) s n is whole = by (after_entry entry s) refl is (λ t. from_whole entries t n)
  where
    by : (o : Option TableState) → after_entry entry s ≡ o → option_and_then (state_from entries) o ≡ Some n → ((t : TableState) → state_from entries t ≡ Some n → IsWhole t → IsWhole n) → IsWhole n
    by None e h rest = cc
    by (Some t) e h rest = rest t h (entry_whole entry s t e whole)

pub history_whole : (h : List Entry) (s : TableState) → state_of h ≡ Some s → IsWhole s
history_whole h s is = from_whole h no_tables s is refl

-- what writes did on the tables they did on the state that the history leaves
pub did : (changes : List Change) (h : List Entry) (tables left s : TableState) (ops : List Op) (rows : ℕ) → state_of h ≡ Some tables → state_of h ≡ Some s → Leaves (written_by_all changes tables) left (record { ops = ops; rows = rows }) → applied_all ops tables ≡ Some left
    → IsDone changes ops rows s
did changes h tables left s ops rows is also written applies =
    subst (λ (t : TableState). IsDone changes ops rows t) (one_state h tables s is also) (record { left = left; written = written; applies = applies })

-- a row wasn't there as an operation says
pub differs : (changes : List Change) (h : List Entry) (tables : TableState) (t : TableId) (key : List Value) (row : Option (List Value)) (e : ApplyError) → e ≡ error.Differs t key row → state_of h ≡ Some tables → Tells (written_by_all changes tables) e → NoneDiffers changes h → ⊥
differs changes h tables t key row e is state tells none = none tables t key row state (subst (λ (x : ApplyError). Tells (written_by_all changes tables) x) is tells)
