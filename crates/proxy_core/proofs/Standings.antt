-- What holds of a proxy between two calls holds again behind each call.
use Rattle.std.proofs.Common.{◌≡◌, ℕ, List, Option, Some, None, length, refl, sym, ap, subst, ◌∙◌}
use Rattle.std.specs.Option.{MatchOption}
use Rattle.wp_outside.specs.declared.kinds.Side.{Side}
use Rattle.side_model.specs.declared.fault.ProxyFault.{ProxyFault}
use Rattle.side_model.specs.Books.{no_book}
use Rattle.side_model.specs.Events.{Told}
use Rattle.side_model.specs.State.{Now, no_proxy}
use Rattle.side_model.specs.Steps.{step}
use Rattle.side_model.specs.Trails.{RunsOn, no_records}
use Rattle.side_model.proofs.Parts.{same_step}
use Rattle.side_model.proofs.TrailParts.{keeps_at_first}
use Rattle.proxy_core.specs.Keeping.{AtRest, Stands}
use Rattle.proxy_core.proofs.Keepings.{stands_none, rests_told}

-- ---- behind a call

-- the proxy fails no more than before
stands_some : (fault : Option ProxyFault) (s : Now) (f : ProxyFault) → fault ≡ Some f → Stands fault s
stands_some None s f e = absurd cc
stands_some (Some fault) s f e = tt

-- it stays where it has failed, and is led on to rest else
pub stands_after : (old after new : Now) → Stands old.fault old → (AtRest old → AtRest after) → after.fault ≡ old.fault → MatchOption old.fault (new ≡ after) (λ _. new ≡ old) → Stands new.fault new
stands_after old after new h rests same is = go old.fault refl h is
  where
    go : (fault : Option ProxyFault) → old.fault ≡ fault → Stands fault old → MatchOption fault (new ≡ after) (λ _. new ≡ old) → Stands new.fault new
    go None e k d = subst (λ (u : Now). Stands u.fault u) (sym d) (stands_none after.fault after (same ∙ e) (rests k))
    go (Some f) e k d = stands_some new.fault new f (ap (λ (u : Now). u.fault) d ∙ e)

stands_told : (fault : Option ProxyFault) (s : Now) → Stands fault s → Stands fault (step Told s)
stands_told None s h = rests_told s h
stands_told (Some fault) s h = tt

pub told_stands : (old new : Now) → Stands old.fault old → new ≡ step Told old → Stands new.fault new
told_stands old new h is =
    let told : Stands old.fault (step Told old) = stands_told old.fault old h in
    let after : Stands (step Told old).fault (step Told old) = subst (λ (f : Option ProxyFault). Stands f (step Told old)) (sym (same_step Told old).fault) told in
    subst (λ (u : Now). Stands u.fault u) (sym is) after

-- ---- at first

pub stands_at_first : (side : Side) (token : List ℕ) → length token ≡ 16 → Stands None (no_proxy side token)
stands_at_first side token l =
    let runs : RunsOn (no_records side token) = (keeps_at_first side token l).runs refl in
    record { keeps = record { sound = runs.sound; book = no_book side; follows = runs.follows }; rests = runs.rests }
