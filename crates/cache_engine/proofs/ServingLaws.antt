-- The console's lines.
use Rattle.std.proofs.Common.{◌≡◌, sym, subst}
use Rattle.row_types.specs.declared.declaration.TableDeclaration.{TableDeclaration}
use Rattle.sql_subset.specs.declared.request.ConsoleRequest.{ConsoleRequest}
use Rattle.sql_subset.specs.declared.request.ConsoleRequest.TheVariants as console
use Rattle.cache_tier.specs.ConsoleSteps.{CreatesTable, DoesConsole}
use Rattle.cache_tier.specs.Worlds.{Tries}
use Rattle.cache_tier.specs.declared.reply.Reply.{Reply}
use Rattle.stored_tier.specs.declared.tier.Tier.{Tier as Stored}
use Rattle.stored_tier.specs.Performing.{Performs}
use Rattle.outside.specs.Sites.{SiteState}

pub table_served : (t new : Stored) (before after : SiteState) (request : ConsoleRequest) (d : TableDeclaration) (reply : Reply) → request ≡ console.CreateTable d → Performs t new before after (λ w w'. Tries (CreatesTable d) w w' reply) → Performs t new before after (λ w w'. Tries (DoesConsole request) w w' reply)
table_served t new before after request d reply is performs =
    subst (λ r. Performs t new before after (λ w w'. Tries (DoesConsole r) w w' reply)) (sym is) performs
