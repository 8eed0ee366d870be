-- Keys that are taken out of a list.
use Rattle.std.proofs.Common.{◌≡◌, Bool, true, false, not, cond, ◌||◌, List, [], ◌∷◌, refl, sym, ap, ◌∙◌}
use Rattle.row_types.specs.declared.value.Value.{Value}
use Rattle.indexed_rows.specs.Rows.{is_same}
use Rattle.indexed_rows.proofs.EntryLaws.{same_values}
use Rattle.cache_tier.specs.Aging.{leaving}
use Rattle.cache_tier.specs.Facts.{TakenIsGone}
use Rattle.cache_tier.specs.Groups.{is_key, without_keys}

neither : (key k : List Value) (gone keys : List (List Value)) → is_key gone key ≡ true → is_key gone k ≡ false → is_key keys key ≡ false → (is_same key k || is_key keys key) ≡ false
neither key k gone keys was out rest = by (is_same key k) refl
  where
    by : (b : Bool) → is_same key k ≡ b → (b || is_key keys key) ≡ false
    by false e = rest
    by true e = let same : key ≡ k = same_values key k e in let here : is_key gone k ≡ true = sym (ap (is_key gone) same) ∙ was in cc

step : (taken : List (List Value)) (k : List Value) (rest : List (List Value)) (key : List Value) → is_key taken key ≡ true → is_key rest key ≡ false → (b : Bool) → is_key taken k ≡ b → is_key (cond (not b) (k ∷ rest) rest) key ≡ false
step taken k rest key was e true t = e
step taken k rest key was e false t = neither key k taken rest was t e

pub gone : (taken keys : List (List Value)) (key : List Value) → is_key taken key ≡ true → is_key (without_keys taken keys) key ≡ false
gone taken [] key was = refl
gone taken (k ∷ keys) key was = step taken k (without_keys taken keys) key was (gone taken keys key was) (is_key taken k) refl

pub taken_is_gone : TakenIsGone
taken_is_gone settings busy g key was = gone (leaving settings.lru_high settings.lru_low busy g.keys) g.keys key was
