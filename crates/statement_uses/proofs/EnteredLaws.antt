-- What a commit enters, group by group.
use Rattle.std.proofs.Common.{◌≡◌, ℕ, ◌≤◌, cond, Some, List, [], length, slice_get, arith}
use Rattle.row_types.specs.declared.value.Value.{Value}
use Rattle.table_state.specs.declared.operation.Op.{Op}
use Rattle.group_store.specs.Stores.{Kept}
use Rattle.cache_tier.specs.Groups.{Group}
use Rattle.statement_uses.specs.Touching.{HaveEntered, entered_keys}
use Rattle.statement_uses.specs.Uses.{keeps_list}
use Rattle.statement_uses.proofs.GroupLists.{HaveSome, got_below}

abbrev Row : Type 0
Row = List Value

-- these are the keys that operations enter into the store at a place, where the group there keeps a list
abbrev pub IsEntered : List Group → List Kept → List Op → ℕ → List Row → Type 0
IsEntered groups stores ops place roots =
    (g : Group) (s : Kept) → slice_get groups place ≡ Some g → slice_get stores place ≡ Some s → roots ≡ cond (keeps_list g) (entered_keys s ops) []

pub all_entered : (groups : List Group) (stores : List Kept) (ops : List Op) (uses : List (List Row)) (n : ℕ) → HaveSome (IsEntered groups stores ops) uses n → length groups ≤ n → HaveEntered groups stores ops uses
all_entered groups stores ops uses n have past place g s at there =
    let lt = got_below groups place g at in
    have.each place (omega (arith, lt, past)) g s at there
