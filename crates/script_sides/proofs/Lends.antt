-- What it comes to that the next copy is lent.
use Rattle.std.proofs.Common.{◌≡◌, ◌<◌, List, [], ◌∷◌, map, Bool, true, false, ◌&&◌, cond, Option, Some, None, refl, sym, ap, subst, ◌∙◌, arith, if◌then◌else◌}
use Rattle.std.specs.List.{AllByRecursion}
use Rattle.std.specs.Option.{MatchOption}
use Rattle.copy_workers.specs.Copies as copies
use Rattle.copy_workers.specs.declared.copies.CopyJob.{CopyJob}
use Rattle.half_model.specs.Group.{Owed}
use Rattle.half_model.specs.Jobs.{Job, JobState, Waits, IsOut, IsBack, waits, is_out, is_back, first_waiting, all_back}
use Rattle.owed_groups.specs.Lending.{Lends, IsLentFor}
use Rattle.pair_runs.specs.Sides.{awaited, words_in, side_seen}
use Rattle.pair_runs.specs.WorkLaws.{RunsOn}
use Rattle.pair_runs.proofs.Handing.{lent_is}
use Rattle.pool_words.specs.Views.{EyeState}
use Rattle.receipt_laws.specs.Lending.{IsIn, CopiesAre}
use Rattle.receipt_laws.proofs.Calls.{first_has, steps_keep_own, lent_is_own}
use Rattle.receipt_laws.proofs.OutCalls.{calls_lend}
use Rattle.script_sides.specs.Halves.{HalfState, unused, half_of}
use Rattle.script_sides.specs.Progressing.{BeginsCopy, BeginsNone, Begins}
use Rattle.script_sides.specs.Ready.{OwnOf, HalfFits, IsSound, IsReady}
use Rattle.script_sides.specs.Sided.{SideRun, state_of, half_loaded}
use Rattle.script_sides.proofs.Links.{with_trail}
use Rattle.script_sides.proofs.Words.{JobHas, follow_have}
use Rattle.side_model.specs.Events.{Lent}
use Rattle.side_model.specs.Follows.{JobsFollow}
use Rattle.side_model.specs.Steps.{step}
use Rattle.side_model.specs.Trails.{TrailState, Keeps, trail_step}

-- no copy is out
none_fits : (it : SideRun) → IsSound it → it.half ≡ None → CopiesAre None it.trail.now
none_fits it s e = subst (λ (half : Option HalfState). HalfFits it.peer it.trail.now half) e s.half

-- where none waits all are back
all_in : (jobs : List Job) → AllByRecursion IsIn jobs → first_waiting jobs ≡ None → all_back jobs ≡ true
all_in [] h e = refl
all_in (job ∷ jobs) h e = by_state job.state h.0 (λ d. all_in jobs h.1 d) e
  where
    by_state : (state : JobState) → is_out state ≡ false → (first_waiting jobs ≡ None → all_back jobs ≡ true) → cond (waits state) (Some job) (first_waiting jobs) ≡ None → (is_back state && all_back jobs) ≡ true
    by_state (Waits eye) k rest d = absurd cc
    by_state IsOut k rest d = absurd cc
    by_state (IsBack words receipt) k rest d = rest d

none_awaited : (owes : Option Owed) (jobs : List Job) → all_back jobs ≡ true → map words_in (awaited owes jobs) ≡ []
none_awaited None jobs e = refl
none_awaited (Some owed) jobs e = ap (λ (b : Bool). map words_in (if b then [] else jobs)) e

-- each job has words
have_none : (t : TrailState) → RunsOn t → CopiesAre None t.now → AllByRecursion JobHas t.now.kept.jobs
have_none t r h = by_owes t.now.live.sending.owes refl (r.keeps.runs r.goes_on).follows.jobs
  where
    by_owes : (owes : Option Owed) → t.now.live.sending.owes ≡ owes → JobsFollow owes t.now.kept.jobs → AllByRecursion JobHas t.now.kept.jobs
    by_owes None e f = subst (λ (jobs : List Job). AllByRecursion JobHas jobs) (sym (h.owed e)) tt
    by_owes (Some owed) e f = follow_have owed t.now.kept.jobs f

-- with this copy out, or none
lent_sound : (it : SideRun) (half : Option HalfState) → IsSound it → Keeps (trail_step Lent it.trail) → HalfFits it.peer (trail_step Lent it.trail).now half → IsSound (record it { trail = trail_step Lent it.trail; half = half })
unfolding step
lent_sound it half s k fits = record {
  side = s.side;
  token = s.token;
  runs = record { goes_on = s.runs.goes_on; keeps = k };
  last = s.last;
  own = steps_keep_own (OwnOf it.peer) Lent it.trail (λ none. s.own) (λ none. tt) s.runs.goes_on;
  wire = s.wire;
  half = fits;
  asked = s.asked;
}

same_half : (it : SideRun) → it.half ≡ None → side_seen 0 (trail_step Lent it.trail) ≡ state_of it
same_half it e = lent_is it.trail ∙ ap (λ (half : Option HalfState). side_seen (half_loaded half) it.trail) (sym e)

pub lends_none : (it : SideRun) → IsReady it → it.half ≡ None → Keeps (trail_step Lent it.trail) → first_waiting it.trail.now.kept.jobs ≡ None → BeginsNone it (with_trail (trail_step Lent it.trail) it)
unfolding step
lends_none it h e k found =
    let fits : CopiesAre None it.trail.now = none_fits it h.sound e in
    let left : CopiesAre None (trail_step Lent it.trail).now = calls_lend.none it.trail (λ n. fits) found h.sound.runs.goes_on in
    record {
      ready = record {
        sound = lent_sound it it.half h.sound k (subst (λ (half : Option HalfState). HalfFits it.peer (trail_step Lent it.trail).now half) (sym e) left);
        items = h.items;
        receipts = h.receipts;
      };
      nothing = record {
        awaits = none_awaited it.trail.now.live.sending.owes it.trail.now.kept.jobs (all_in it.trail.now.kept.jobs fits.one found);
        same = ap (λ (half : Option HalfState). side_seen (half_loaded half) (trail_step Lent it.trail)) e ∙ same_half it e;
      };
      peer = refl;
      up = refl;
    }

eye_is : (eye : EyeState) → eye.seen ≡ [] → eye ≡ unused eye
eye_is eye e = ap (λ seen. record eye { seen = seen }) e

pub lends_copy : (it : SideRun) (job : Job) (copy : CopyJob) → IsReady it → it.half ≡ None → Keeps (trail_step Lent it.trail) → first_waiting it.trail.now.kept.jobs ≡ Some job → IsLentFor job copy → copies.IsReady copy
    → BeginsCopy (half_of copy) it (with_trail (trail_step Lent it.trail) it)
unfolding step
lends_copy it job copy h e k found lent ready =
    let fits : CopiesAre None it.trail.now = none_fits it h.sound e in
    let out : CopiesAre (Some job) (trail_step Lent it.trail).now = calls_lend.one job it.trail (λ n. fits) found h.sound.runs.goes_on in
    let eye : job.state ≡ Waits (unused copy.eye) = lent.eye ∙ ap (λ (one : EyeState). Waits one) (eye_is copy.eye ready.unused) in
    let has : 0 < job.part.count = first_has JobHas it.trail.now.kept.jobs job (have_none it.trail h.sound.runs fits) found in
    record {
      ready = record {
        sound = lent_sound it (Some (half_of copy)) h.sound k (record {
          job = job;
          copies = out;
          eye = eye;
          id = lent.id;
          first = lent.first;
          count = lent.count;
          own = lent_is_own (OwnOf it.peer) it.trail.now job (unused copy.eye) h.sound.own found eye;
          begun = omega (arith, has, lent.count);
        });
        items = h.items;
        receipts = h.receipts;
      };
      none = e;
      same = same_half it e;
      peer = refl;
      up = refl;
    }

-- ---- whatever is lent

abbrev pub half_lent : Option CopyJob → Option HalfState
half_lent None = None
half_lent (Some copy) = Some (half_of copy)

lends_found : (it : SideRun) (result : Option CopyJob) (found : Option Job) → IsReady it → it.half ≡ None → Keeps (trail_step Lent it.trail) → first_waiting it.trail.now.kept.jobs ≡ found → Lends result found → MatchOption result (Unit {0}) copies.IsReady
    → Begins (half_lent result) it (with_trail (trail_step Lent it.trail) it)
lends_found it None None h e k found lent ready = lends_none it h e k found
lends_found it None (Some job) h e k found lent ready = absurd lent
lends_found it (Some copy) None h e k found lent ready = absurd lent
lends_found it (Some copy) (Some job) h e k found lent ready = lends_copy it job copy h e k found lent ready

pub lends_next : (it : SideRun) (new : TrailState) (result : Option CopyJob) → IsReady it → it.half ≡ None → Keeps new → Lends result (first_waiting it.trail.now.kept.jobs) → new ≡ trail_step Lent it.trail → MatchOption result (Unit {0}) copies.IsReady
    → Begins (half_lent result) it (with_trail new it)
lends_next it new result h e k lent is ready =
    subst (λ (t : TrailState). Begins (half_lent result) it (with_trail t it)) (sym is)
    (lends_found it result (first_waiting it.trail.now.kept.jobs) h e (subst (λ (t : TrailState). Keeps t) is k) refl lent ready)
