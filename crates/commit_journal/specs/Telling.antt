-- That a site which tells what it holds tells it still. (This project's rule.)

use Rattle.std.specs.Option.{IsSome}
use Rattle.outside.specs.Sites.{SiteState}

-- where the first tells what is held, the second does
abbrev pub StillTells : SiteState → SiteState → Type 0
StillTells old new = IsSome old.held → IsSome new.held
