-- A doubt that is settled, of a commit or of a write that was passed on.
use Rattle.std.proofs.Common.{◌≡◌, Bool, true, false, Option, Some, None, Ok, Err, List, [], ◌∷◌, refl, sym, ap, subst}
use Rattle.tier_base.specs.declared.number.SessionId.{SessionId}
use Rattle.outside.specs.Sites.{SiteState}
use Rattle.outside.specs.declared.fault.BankError.{BankError}
use Rattle.cache_tier.specs.DueWork.{DueDoubt}
use Rattle.cache_tier.specs.declared.reply.Note.{Note}
use Rattle.table_state.specs.declared.operation.Op.{Op}
use Rattle.stored_tier.specs.declared.tier.Tier.{Tier as Stored}
use Rattle.stored_tier.specs.Stored.{IsSound}
use Rattle.stored_tier.proofs.OwnSeen.{NumberLaw}
use Rattle.stored_tier.proofs.SessionLaws.{ChangeLaw}
use Rattle.session_engine.specs.Doubting.{IsEnded, IsInDoubt, IsReady, IsReadyCommit, IsReadyFor, Leads}
use Rattle.session_engine.specs.Settling.{KeepsRest, Settles, end_of, note_of}
use Rattle.session_engine.specs.declared.doubt.Doubt.{Doubt}
use Rattle.session_engine.specs.declared.doubt.Doubted.{Doubted}
use Rattle.session_engine.specs.declared.doubt.Doubted.TheVariants.{Commit, PassedWrite}
use Rattle.session_engine.proofs.AtOnceLaws.{AreLaws}
use Rattle.session_engine.proofs.DoubtLaws.{AskedOnce, EndsLaw, settled_false, settled_true, unsettled}
use Rattle.session_engine.proofs.PassedDoubt.{write_settled, write_unsettled}

-- by what is in doubt, and by the answer
settled_by : AreLaws → NumberLaw → ChangeLaw → EndsLaw → (t new : Stored) (d : Doubt) (before after : SiteState) (stands : Bool) → IsSound t → AskedOnce d.ticket before after (Ok stands) → Settles d.of t new d.session stands
    → Leads t (Some d) new None before after (λ w w'. DueDoubt w w' (note_of d stands ∷ []) None)
settled_by laws numbers changes law t new d before after stands sound asked did w at x apart = by d.of stands asked did x
  where
    by : (o : Doubted) (b : Bool) → AskedOnce d.ticket before after (Ok b) → Settles o t new d.session b → IsInDoubt o t d w → IsEnded new None after (λ w'. DueDoubt w w' (note_of d b ∷ []) None)
    by (Commit ops) true asked did x = settled_true laws numbers changes law t d w sound x before after at new asked did
    by (Commit ops) false asked did x = settled_false laws numbers changes law t d w sound x before after at new asked did
    by PassedWrite b asked did x =
        subst (λ z. IsEnded z None after (λ w'. DueDoubt w w' (note_of d b ∷ []) None)) (sym did) (write_settled t d w sound x before after at b asked)

pub leads_settled : AreLaws → NumberLaw → ChangeLaw → EndsLaw → (t new : Stored) (left doubt : Option Doubt) (d : Doubt) (before after : SiteState) (stands : Bool) (note : Note) → IsSound t → left ≡ Some d → doubt ≡ None → note ≡ note_of d stands
    → AskedOnce d.ticket before after (Ok stands) → Settles d.of t new d.session stands → Leads t left new doubt before after (λ w w'. DueDoubt w w' (note ∷ []) None)
leads_settled laws numbers changes law t new left doubt d before after stands note sound is none told asked did =
    subst (λ o. Leads t o new doubt before after (λ w w'. DueDoubt w w' (note ∷ []) None)) (sym is)
    (subst (λ o. Leads t (Some d) new o before after (λ w w'. DueDoubt w w' (note ∷ []) None)) (sym none)
    (subst (λ n. Leads t (Some d) new None before after (λ w w'. DueDoubt w w' (n ∷ []) None)) (sym told)
    (settled_by laws numbers changes law t new d before after stands sound asked did)))

unsettled_by : AreLaws → NumberLaw → ChangeLaw → EndsLaw → (t : Stored) (d : Doubt) (before after : SiteState) (e : BankError) → IsSound t → AskedOnce d.ticket before after (Err e) → Leads t (Some d) t (Some d) before after (λ w w'. DueDoubt w w' [] (end_of (Err e)))
unsettled_by laws numbers changes law t d before after e sound asked w at x apart = by d.of refl x
  where
    by : (o : Doubted) → d.of ≡ o → IsInDoubt o t d w → IsEnded t (Some d) after (λ w'. DueDoubt w w' [] (end_of (Err e)))
    by (Commit ops) of x = unsettled laws numbers changes law t d w sound x before after at (Commit ops) of (λ v y. y) e asked
    by PassedWrite of x = write_unsettled t d w sound x before after at PassedWrite of (λ v y. y) e asked

pub leads_unsettled : AreLaws → NumberLaw → ChangeLaw → EndsLaw → (t : Stored) (left : Option Doubt) (d : Doubt) (before after : SiteState) (e : BankError) → IsSound t → left ≡ Some d → AskedOnce d.ticket before after (Err e)
    → Leads t left t (Some d) before after (λ w w'. DueDoubt w w' [] (end_of (Err e)))
leads_unsettled laws numbers changes law t left d before after e sound is asked =
    subst (λ o. Leads t o t (Some d) before after (λ w w'. DueDoubt w w' [] (end_of (Err e)))) (sym is)
    (unsettled_by laws numbers changes law t d before after e sound asked)

pub ready_some : (t : Stored) (left : Option Doubt) (d : Doubt) → left ≡ Some d → IsReady t left → IsReady t (Some d)
ready_some t left d is ready = subst (IsReady t) is ready

-- of a commit what the session has written is kept with it, and what it enters
pub ready_commit : (t : Stored) (d : Doubt) (ops : List Op) → d.of ≡ Commit ops → IsReady t (Some d) → IsReadyCommit ops d.entered d.session t
ready_commit t d ops of ready = subst (λ o. IsReadyFor o d.entered d.session t) of ready

-- what is as it was
pub rest_kept : (t new : Stored) (o : Doubted) (id : SessionId) (stands : Bool) → Settles o t new id stands → KeepsRest t new
rest_kept t new (Commit ops) id true fin = record {
  schema = ap (λ (z : Stored). z.schema) fin.rest;
  catalog = ap (λ (z : Stored). z.catalog) fin.rest;
  clock = ap (λ (z : Stored). z.clock) fin.rest;
}
rest_kept t new (Commit ops) id false f = record {
  schema = ap (λ (z : Stored). z.schema) f.rest;
  catalog = ap (λ (z : Stored). z.catalog) f.rest;
  clock = ap (λ (z : Stored). z.clock) f.rest;
}
rest_kept t new PassedWrite id stands same = record {
  schema = ap (λ (z : Stored). z.schema) same;
  catalog = ap (λ (z : Stored). z.catalog) same;
  clock = ap (λ (z : Stored). z.clock) same;
}
