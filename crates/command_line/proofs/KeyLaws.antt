-- The keys of a stored table are those of its members.
use Rattle.std.proofs.Common.{◌≡◌, List, [], ◌∷◌, ◌&&◌, refl, ap, string_bytes}
use Rattle.std.specs.List.{list_all}
use Rattle.std.specs.Map.{keys_of}
use Rattle.toml.specs.View.{members_view}
use Rattle.toml.proofs.Views.{Entry}
use Rattle.command_line.specs.Keys.{are_known, is_known}

pub known-view : (es : List Entry) → list_all (λ key. is_known (string_bytes key)) (keys_of es) ≡ are_known (members_view es)
known-view [] = refl
known-view (e ∷ es) = ap (λ rest. is_known (string_bytes e.0) && rest) (known-view es)
