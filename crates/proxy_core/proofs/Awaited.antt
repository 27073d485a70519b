-- Copies that are all back are awaited no more.
use Rattle.std.proofs.Common.{◌≡◌, Bool, true, false, ◌&&◌, List, [], ◌∷◌, Option, Some, None, refl, sym, ap, ◌∙◌}
use Rattle.half_model.specs.Jobs.{Job, JobState, Waits, IsOut, IsBack, Done, is_done, is_back, all_back, awaits}
use Rattle.proxy_core.specs.declared.past.Past.{Past}
use Rattle.proxy_core.specs.Inside.{IsPast}
use Rattle.proxy_core.specs.Jobs.{jobs_of}

none_done : (done : Done) (job : Job) (state : JobState) → job.state ≡ state → is_back state ≡ true → is_done done job ≡ false
none_done done job (Waits eye) e h = absurd cc
none_done done job IsOut e h = absurd cc
none_done done job (IsBack words receipt) e h = cc

both : (a b : Bool) → (a && b) ≡ true → (a ≡ true) × (b ≡ true)
both true b e = (refl, e)
both false b e = absurd cc

none_awaited : (jobs : List Job) (done : Done) → all_back jobs ≡ true → awaits jobs done ≡ false
none_awaited [] done h = refl
none_awaited (job ∷ jobs) done h =
    let k : (is_back job.state ≡ true) × (all_back jobs ≡ true) = both (is_back job.state) (all_back jobs) h in
    rw (none_done done job job.state refl k.0) (none_awaited jobs done k.1)

pub awaits_past : (past : Option Past) (jobs : List Job) (done : Done) → IsPast past jobs → awaits jobs done ≡ awaits (jobs_of past jobs) done
awaits_past None jobs done h = refl
awaits_past (Some past) jobs done h = ap (λ (js : List Job). awaits js done) h.1 ∙ sym (none_awaited past.jobs done h.0)
