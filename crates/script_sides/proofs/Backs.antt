-- What it comes to that a copy is handed back.
use Rattle.std.proofs.Common.{◌≡◌, ◌≢◌, ℕ, suc, ◌+◌, ◌-◌, ◌<◌, ◌≤◌, List, [], ◌∷◌, ◌++◌, map, length, Bool, true, false, ◌&&◌, cond, Option, Some, None, Ok, Err, refl, sym, ap, subst, ◌∙◌, arith, length-append, inl, inr, ◌⊎◌, if◌then◌else◌}
use Rattle.std.specs.List.{AllByRecursion, cons_option}
use Rattle.std.specs.Prelude.{sum, sum_by}
use Rattle.copy_workers.specs.Copies.{DoneState}
use Rattle.half_model.specs.Group.{Owed}
use Rattle.half_model.specs.Jobs.{Job, JobState, Waits, IsOut, IsBack, Done, is_back, is_done, awaits, handed, all_back, copied, copies_of}
use Rattle.half_model.specs.Turn.{MadeGroup, made_of, group_due}
use Rattle.owed_groups.specs.Lending.{done_of}
use Rattle.pair_runs.specs.Sides.{SideState, awaited, words_in, loaded_in, side_seen, all_loaded, words_left, last_number}
use Rattle.pair_runs.specs.WorkLaws.{RunsOn}
use Rattle.pair_runs.specs.Working.{Works, WorksInPart}
use Rattle.pair_runs.proofs.Calling.{Ran, ran_by, after_event, quiet_still}
use Rattle.pair_runs.proofs.Handing.{handed_is, handed_works, none_out}
use Rattle.pair_runs.proofs.Failing.{handed_fails}
use Rattle.pair_runs.proofs.Rowing.{row_works}
use Rattle.pool_words.specs.Views.{EyeState}
use Rattle.receipt_laws.specs.Lending.{FitsEye, JobFits, sent_out, OneOut, CopiesAre, IsBackOf}
use Rattle.receipt_laws.specs.Owning.{BringsOwn}
use Rattle.receipt_laws.proofs.Calls.{calls_keep_own}
use Rattle.receipt_laws.proofs.Jobs.{is_back_of, back_is_awaited, back_is_own, some_out}
use Rattle.receipt_laws.proofs.OutCalls.{calls_hand}
use Rattle.script_sides.specs.Halves.{HalfState, IsDoneOf}
use Rattle.script_sides.specs.Progressing.{LoadsPart, LoadsWhole, LoadStops, unloaded, before, IsLast}
use Rattle.script_sides.specs.Ready.{OwnOf, IsHalf, HalfFits, IsSound}
use Rattle.script_sides.specs.Sided.{SideRun, state_of, half_loaded}
use Rattle.script_sides.proofs.Kins.{call_kin, handed_kin}
use Rattle.script_sides.proofs.Sounds.{called, goes_on, sound_call}
use Rattle.script_sides.proofs.Words.{JobHas, follow_have, left_in, left_sum, some_left, none_left, all_fair, all_lack, out_fair, out_left, handed_back, is_awaited, more_loaded}
use Rattle.side_model.specs.declared.fault.ProxyFault.{ProxyFault}
use Rattle.side_model.specs.Books.{Book, marked_trail, grown, grow_all, closed}
use Rattle.side_model.specs.Calls.{Part}
use Rattle.side_model.specs.Due.{hear, group, group_found, treat, end, choose, work, next}
use Rattle.side_model.specs.Events.{Event, Handed, Grouped, Next, Do, Rest, or_next}
use Rattle.side_model.specs.Follows.{JobsFollow}
use Rattle.side_model.specs.Marks.{mark_grouped}
use Rattle.side_model.specs.State.{Now}
use Rattle.side_model.specs.Steps.{step}
use Rattle.side_model.specs.Trails.{TrailState, Keeps, TrailCalls}
use Rattle.side_model.specs.Sound.{HasLoads, Admits}
use Rattle.side_model.proofs.Parts.{FollowsOn, follows_part}

-- ---- what is handed back is awaited, and own

pub back_of : (peer_job : Job) (half : HalfState) (done : DoneState) → half.id ≡ peer_job.id → half.first ≡ peer_job.part.first → half.count ≡ peer_job.part.count → IsDoneOf half done
    → IsBackOf peer_job half.eye (done_of done)
back_of job half done id first count d = record {
  id = d.id ∙ id;
  first = d.first ∙ first;
  count = d.count ∙ count;
  low = d.low;
  number = d.number;
  pool = d.pool;
}

-- the copy that is out, with what is handed back of it
pub record Returns (count : ℕ) (half : HalfState) (done : DoneState) (it : SideRun) : Type 0 where
  pub out : IsHalf it.peer it.trail.now (unloaded count half)
  pub back : IsBackOf out.job half.eye (done_of done)
  pub awaited : awaits it.trail.now.kept.jobs (done_of done) ≡ true
  pub brings : BringsOwn (OwnOf it.peer) (Handed (done_of done)) it.trail.now
  pub rest : out.job.part.count ≡ (half.loaded - count) + count

pub returns_of : (count : ℕ) (half : HalfState) (done : DoneState) (it : SideRun) → IsLast count half it → IsDoneOf half done → Returns count half done it
returns_of count half done it last d =
    let out : IsHalf it.peer it.trail.now (unloaded count half) = last.ready.sound.half in
    let back : IsBackOf out.job half.eye (done_of done) = back_of out.job half done out.id out.first out.count d in
    record {
      out = out;
      back = back;
      awaited = back_is_awaited out.job half.eye (done_of done) it.trail.now.kept.jobs out.copies.one out.eye back;
      brings = back_is_own (OwnOf it.peer) it.trail.now out.job half.eye (done_of done) out.copies.one out.own back;
      rest = omega (arith, out.count, last.whole, last.few);
    }

-- ---- the words that are left

not_none : {X Y : Type 0} (f : X → Y) (before : List X) (x : X) (after : List X) → map f (before ++ x ∷ after) ≡ [] → ⊥
not_none f [] x after e = cc
not_none f (y ∷ before) x after e = cc

pub out_awaits : (half : ℕ) (job : Job) (t : TrailState) → CopiesAre (Some job) t.now → (side_seen half t).copies ≢ []
out_awaits half job t h e =
    not_none words_in h.one.before (sent_out job) h.one.after (ap (map words_in) (sym (is_awaited job t.now h ∙ h.one.row)) ∙ e)

-- those of the copy that is out, and those of the others
abbrev pub others_left : (half : ℕ) {job : Job} {jobs : List Job} → OneOut job jobs → ℕ
others_left half one = sum_by (left_in half) one.before + sum_by (left_in half) one.after

pub half_words : (half : ℕ) (job : Job) (t : TrailState) (h : CopiesAre (Some job) t.now) → half ≤ job.part.count → words_left (side_seen half t) ≡ others_left half h.one + (job.part.count - half)
half_words half job t h l =
    let jobs : awaited t.now.live.sending.owes t.now.kept.jobs ≡ h.one.before ++ sent_out job ∷ h.one.after = is_awaited job t.now h ∙ h.one.row in
    ap (λ (it : List Job). sum (map words_in it) - sum_by (loaded_in half) it) jobs
    ∙ omega (arith, left_sum half (h.one.before ++ sent_out job ∷ h.one.after) (out_fair half job h.one.before h.one.after l h.one.in_before h.one.in_after), out_left half job h.one.before h.one.after)

-- each job has words
pub all_have : (job : Job) (t : TrailState) → RunsOn t → CopiesAre (Some job) t.now → AllByRecursion JobHas t.now.kept.jobs
all_have job t r h = by_owes t.now.live.sending.owes refl (r.keeps.runs r.goes_on).follows.jobs
  where
    by_owes : (owes : Option Owed) → t.now.live.sending.owes ≡ owes → JobsFollow owes t.now.kept.jobs → AllByRecursion JobHas t.now.kept.jobs
    by_owes None e f = subst (λ (jobs : List Job). AllByRecursion JobHas jobs) (sym (h.owed e)) tt
    by_owes (Some owed) e f = follow_have owed t.now.kept.jobs f

have_parts : (before : List Job) (job : Job) (after : List Job) → AllByRecursion JobHas (before ++ job ∷ after) → AllByRecursion JobHas before × AllByRecursion JobHas after
have_parts [] job after h = (tt, h.1)
have_parts (other ∷ before) job after h = let rest = have_parts before job after h.1 in ((h.0, rest.0), rest.1)

both_back : (a b : Bool) → (a && b) ≡ true → (a ≡ true) × (b ≡ true)
both_back true b e = (refl, e)
both_back false b e = absurd cc

-- some of the others are not back, or all are
pub some_others : (half : ℕ) (job : Job) (t : TrailState) → RunsOn t → (h : CopiesAre (Some job) t.now) → (all_back h.one.before && all_back h.one.after) ≡ false → 0 < others_left half h.one
some_others half job t r h e = by_back (all_back h.one.before) refl e
  where
    have : AllByRecursion JobHas h.one.before × AllByRecursion JobHas h.one.after
    have = have_parts h.one.before (sent_out job) h.one.after (subst (λ (jobs : List Job). AllByRecursion JobHas jobs) h.one.row (all_have job t r h))

    by_back : (b : Bool) → all_back h.one.before ≡ b → (b && all_back h.one.after) ≡ false → 0 < others_left half h.one
    by_back true d k = omega (arith, some_left half h.one.after (all_lack half h.one.after h.one.in_after have.1) k)
    by_back false d k = omega (arith, some_left half h.one.before (all_lack half h.one.before h.one.in_before have.0) d)

pub no_others : (half : ℕ) (job : Job) (t : TrailState) (h : CopiesAre (Some job) t.now) → (all_back h.one.before && all_back h.one.after) ≡ true → others_left half h.one ≡ 0
no_others half job t h e =
    let both = both_back (all_back h.one.before) (all_back h.one.after) e in
    omega (arith, none_left half h.one.before both.0, none_left half h.one.after both.1)

-- ---- the records grow where it was the last one

copies_count : (jobs : List Job) → all_back jobs ≡ true → length (copies_of jobs) ≡ length jobs
copies_count [] e = refl
copies_count (job ∷ jobs) e = by_state (λ k. copies_count jobs k) job.state e
  where
    by_state : (all_back jobs ≡ true → length (copies_of jobs) ≡ length jobs) → (state : JobState) → (is_back state && all_back jobs) ≡ true → length (cons_option (copied job.part job.low state) (copies_of jobs)) ≡ suc (length jobs)
    by_state rest (Waits eye) k = absurd cc
    by_state rest IsOut k = absurd cc
    by_state rest (IsBack words receipt) k = ap (λ (n : ℕ). suc n) (rest k)

handed_count : (done : Done) (jobs : List Job) → length (handed done jobs) ≡ length jobs
handed_count done [] = refl
handed_count done (job ∷ jobs) = by_done (handed_count done jobs) (is_done done job)
  where
    by_done : length (handed done jobs) ≡ length jobs → (b : Bool) → length (cond b (record job { state = IsBack done.words done.receipt } ∷ jobs) (job ∷ handed done jobs)) ≡ suc (length jobs)
    by_done rest true = refl
    by_done rest false = ap (λ (n : ℕ). suc n) rest

-- the group of the last message is due
group_next : (s : Now) (made : MadeGroup) → hear s ≡ Rest → group_due s.live.sending.owes s.kept.jobs ≡ Some made → next s ≡ Do Grouped
unfolding next work group
group_next s made quiet due = ap (λ (it : Next). or_next it (work s)) quiet ∙ ap (λ (found : Option MadeGroup). or_next (group_found found) (or_next (treat s) (or_next (end s) (choose s)))) due

grown_group : (s : Now) (book : Book) (made : MadeGroup) → group_due s.live.sending.owes s.kept.jobs ≡ Some made → (grown Grouped s book).trail.copies ≡ book.trail.copies ++ made.copies
grown_group s book made due = ap (λ (found : Option MadeGroup). (marked_trail (mark_grouped found) book.trail).copies) due

-- the copies of the group come to the records first
group_grows : (s t : Now) (events : List Event) (book : Book) (made : MadeGroup) → FollowsOn s book → hear s ≡ Rest → group_due s.live.sending.owes s.kept.jobs ≡ Some made → Part s events t → next t ≡ Rest
    → length book.trail.copies + length made.copies ≤ length (grow_all events s book).trail.copies
group_grows s t [] book made f quiet due p rest = absurd (let never : Do Grouped ≡ Rest = sym (group_next s made quiet due) ∙ ap next (sym p) ∙ rest in cc)
group_grows s t (x ∷ xs) book made f quiet due p rest =
    let is : x ≡ Grouped = cc_do (sym p.0 ∙ group_next s made quiet due) in
    let first : (grown x s book).trail.copies ≡ book.trail.copies ++ made.copies = ap (λ (it : Event). (grown it s book).trail.copies) is ∙ grown_group s book made due in
    let front = (row_works 0 (step x s) t (grown x s book) xs (follows_part s (step x s) book (x ∷ []) f (p.0, refl)) p.1).trail.copies in
    omega (arith, ap length first, length-append book.trail.copies made.copies, ap length front.is, length-append (grown x s book).trail.copies front.rest)
  where
    cc_do : Do x ≡ Do Grouped → x ≡ Grouped
    cc_do e = cc

some_due : (owes : Option Owed) (jobs : List Job) → (owes ≡ None → ⊥) → all_back jobs ≡ true → (owed : Owed) × (group_due owes jobs ≡ Some (made_of owed jobs))
some_due None jobs n e = absurd (n refl)
some_due (Some owed) jobs n e = (owed, ap (λ (b : Bool). if b then Some (made_of owed jobs) else None) e)

some_jobs : (job : Job) (jobs : List Job) → OneOut job jobs → 0 < length jobs
some_jobs job jobs one = omega (arith, ap length one.row, length-append one.before (sent_out job ∷ one.after))

last_grows : (job : Job) (done : Done) (old new : TrailState) → RunsOn old → Admits (Handed done) old.now → CopiesAre (Some job) old.now → all_back (handed done old.now.kept.jobs) ≡ true → TrailCalls (Handed done) (Ok tt) old new
    → length old.book.trail.copies < length new.book.trail.copies
unfolding step
last_grows job done old new r admits h e calls =
    let run : Ran (Handed done) old new = ran_by (Handed done) old new r calls in
    let s : Now = step (Handed done) old.now in
    let quiet : hear s ≡ Rest = quiet_still (Handed done) old.now (r.keeps.runs r.goes_on).rests refl in
    let due = some_due old.now.live.sending.owes (handed done old.now.kept.jobs) (λ none. some_out job old.now.kept.jobs h.one (h.owed none)) e in
    let grows = group_grows s run.last run.events (grown (Handed done) old.now (closed old.book)) (made_of due.0 (handed done old.now.kept.jobs)) (after_event (Handed done) old r admits) quiet due.1 run.row.0 run.row.1 in
    let is : new.book.trail.copies ≡ (grow_all run.events s (grown (Handed done) old.now (closed old.book))).trail.copies = ap (λ (it : SideState). it.book.trail.copies) (run.is 0) in
    omega (arith, grows, ap length is, copies_count (handed done old.now.kept.jobs) e, handed_count done old.now.kept.jobs, some_jobs job old.now.kept.jobs h.one)

-- ---- what a run sees

-- other copies are awaited yet
pub record HandsPart (count : ℕ) (a b : SideState) : Type 0 where
  pub part : LoadsPart count count a b
  pub same : b.book.trail.copies ≡ a.book.trail.copies

-- or it was the last one
pub record HandsWhole (count : ℕ) (a b : SideState) : Type 0 where
  pub whole : LoadsWhole count count a b
  pub more : length a.book.trail.copies < length b.book.trail.copies

-- the copy waited with this eye
fits_eye : (job : Job) (eye : EyeState) → job.state ≡ Waits eye → JobFits job → (job.low ≡ eye.low) × (job.pool ≡ eye.number)
fits_eye job eye e fits = subst (λ (state : JobState). FitsEye job.low job.pool state) e fits

pub hands : (count : ℕ) (half : HalfState) (done : DoneState) (it : SideRun) (new : TrailState) → IsLast count half it → (d : IsDoneOf half done) → HasLoads (done_of done) → CopiesAre None new.now → TrailCalls (Handed (done_of done)) (Ok tt) it.trail new
    → HandsPart count (state_of (before count half it)) (side_seen 0 new) ⊎ HandsWhole count (state_of (before count half it)) (side_seen 0 new)
hands count half done it new last d loads none calls = by_back (all_back one.before && all_back one.after) refl
  where
    back : Returns count half done it
    back = returns_of count half done it last d

    job : Job
    job = back.out.job

    one : OneOut job it.trail.now.kept.jobs
    one = back.out.copies.one

    was : ℕ
    was = half.loaded - count

    r : RunsOn it.trail
    r = last.ready.sound.runs

    few : was ≤ job.part.count
    few = omega (arith, back.rest)

    all : all_back (handed (done_of done) it.trail.now.kept.jobs) ≡ (all_back one.before && all_back one.after)
    all =
        ap (λ (jobs : List Job). all_back (handed (done_of done) jobs)) one.row
        ∙ handed_back (done_of done) job one.before one.after one.in_before (is_back_of job half.eye (done_of done) back.back (fits_eye job half.eye back.out.eye one.fits))

    words : words_left (state_of (before count half it)) ≡ others_left was one + (job.part.count - was)
    words = half_words was job it.trail back.out.copies few

    by_back : (b : Bool) → (all_back one.before && all_back one.after) ≡ b → HandsPart count (state_of (before count half it)) (side_seen 0 new) ⊎ HandsWhole count (state_of (before count half it)) (side_seen 0 new)
    by_back false e =
        let length_is : half.loaded ≡ length done.words = omega (arith, last.whole, d.count) in
        let same : side_seen half.loaded new ≡ side_seen half.loaded it.trail = handed_is half.loaded (done_of done) it.trail new r length_is (all ∙ e) calls in
        let is : side_seen 0 new ≡ record (side_seen was it.trail) { loaded = (side_seen was it.trail).loaded + count } =
        none_out 0 half.loaded new none.one ∙ same ∙ ap (λ (n : ℕ). side_seen n it.trail) (omega (arith, last.few)) ∙ more_loaded was count job it.trail back.out.copies in
        inl (record {
          part = record {
            some = last.some;
            few = omega arith;
            left = omega (arith, words, some_others was job it.trail r back.out.copies e, back.rest);
            is = is;
          };
          same = ap (λ (it : SideState). it.book.trail.copies) is;
        })
    by_back true e =
        inr (record {
          whole = record {
            awaits = out_awaits was job it.trail back.out.copies;
            few = omega arith;
            all = omega (arith, words, no_others was job it.trail back.out.copies e, back.rest);
            some = last.some;
            works =
                subst (λ (b : SideState). Works false (all_loaded (side_seen was it.trail)) b) (none_out was 0 new none.one)
                (handed_works was (done_of done) it.trail new r (back.awaited, loads) (all ∙ e) calls);
          };
          more = last_grows job (done_of done) it.trail new r (back.awaited, loads) back.out.copies (all ∙ e) calls;
        })

-- ---- the call

-- a good one
pub handed_on : (count : ℕ) (half : HalfState) (done : DoneState) (it : SideRun) (new : TrailState) → IsLast count half it → (d : IsDoneOf half done) → Keeps new → TrailCalls (Handed (done_of done)) (Ok tt) it.trail new → CopiesAre None new.now
handed_on count half done it new last d k calls =
    let back : Returns count half done it = returns_of count half done it last d in
    calls_hand back.out.job (done_of done) (Ok tt) it.trail new (λ none. back.out.copies) back.awaited calls (goes_on (Handed (done_of done)) it.trail new last.ready.sound.runs k calls).goes_on

-- what both cases leave
record Leaves (a b : SideState) : Type 0 where
  rows : last_number b.book.trail.lines.rows ≡ last_number a.book.trail.lines.rows
  asked : b.inside.asked ≡ a.inside.asked

leaves_by : (count : ℕ) (a b : SideState) → HandsPart count a b ⊎ HandsWhole count a b → Leaves a b
leaves_by count a b (inl h) = record { rows = ap (λ (it : SideState). last_number it.book.trail.lines.rows) h.part.is; asked = ap (λ (it : SideState). it.inside.asked) h.part.is }
leaves_by count a b (inr h) = record { rows = ap (λ lines. last_number lines.rows) h.whole.works.trail.lines; asked = h.whole.works.inside.asked }

pub handed_sound : (count : ℕ) (half : HalfState) (done : DoneState) (it : SideRun) (new : TrailState) → IsLast count half it → (d : IsDoneOf half done) → HasLoads (done_of done) → Keeps new → TrailCalls (Handed (done_of done)) (Ok tt) it.trail new
    → IsSound (called new None it.asked it)
unfolding step
handed_sound count half done it new last d loads k calls =
    let event : Event = Handed (done_of done) in
    let back : Returns count half done it = returns_of count half done it last d in
    let s : IsSound (before count half it) = last.ready.sound in
    let r : RunsOn new = goes_on event it.trail new s.runs k calls in
    let none : CopiesAre None new.now = handed_on count half done it new last d k calls in
    let leaves : Leaves (state_of (before count half it)) (side_seen 0 new) = leaves_by count (state_of (before count half it)) (side_seen 0 new) (hands count half done it new last d loads none calls) in
    sound_call (before count half it) new None it.asked s (record {
      kin = call_kin event it.trail new s.runs (handed_kin event it.trail.now refl refl) calls;
      runs = r;
      rows = leaves.rows;
      own = calls_keep_own (OwnOf it.peer) event (Ok tt) it.trail new (λ e. s.own) (λ e. back.brings) calls r.goes_on;
      half = none;
      asked = s.asked ∙ sym leaves.asked;
    })

-- one that fails
pub handed_stops : (count : ℕ) (half : HalfState) (done : DoneState) (fault : ProxyFault) (it : SideRun) (new : TrailState) → IsLast count half it → (d : IsDoneOf half done) → HasLoads (done_of done) → TrailCalls (Handed (done_of done)) (Err fault) it.trail new
    → LoadStops fault (state_of (before count half it)) (side_seen 0 new)
handed_stops count half done fault it new last d loads calls =
    let back : Returns count half done it = returns_of count half done it last d in
    let was : ℕ = half.loaded - count in
    record {
      awaits = out_awaits was back.out.job it.trail back.out.copies;
      part =
          let part : WorksInPart false None fault (side_seen was it.trail) (side_seen was new) = handed_fails was (done_of done) fault it.trail new last.ready.sound.runs last.ready.sound.token (back.awaited, loads) calls in
          record { part = record { took = part.part.took; messages = part.part.messages; bytes = part.part.bytes; trail = part.part.trail; order = part.part.order }; why = part.why };
    }

-- ---- between two calls

-- where copies are awaited, words are left
pub ready_left : (it : SideRun) → IsSound it → (state_of it).copies ≡ [] ⊎ (0 < words_left (state_of it))
ready_left it s = by_half it.half s.half
  where
    t : TrailState
    t = it.trail

    by_back : (owed : Owed) → CopiesAre None t.now → AllByRecursion JobHas t.now.kept.jobs → (b : Bool) → all_back t.now.kept.jobs ≡ b
        → (map words_in (if b then [] else t.now.kept.jobs) ≡ []) ⊎ (0 < sum (map words_in (if b then [] else t.now.kept.jobs)) - sum_by (loaded_in 0) (if b then [] else t.now.kept.jobs))
    by_back owed h have true e = inl refl
    by_back owed h have false e =
        inr (omega (arith, left_sum 0 t.now.kept.jobs (all_fair 0 t.now.kept.jobs h.one), some_left 0 t.now.kept.jobs (all_lack 0 t.now.kept.jobs h.one have) e))

    by_owes : (owes : Option Owed) → JobsFollow owes t.now.kept.jobs → CopiesAre None t.now
        → (map words_in (awaited owes t.now.kept.jobs) ≡ []) ⊎ (0 < sum (map words_in (awaited owes t.now.kept.jobs)) - sum_by (loaded_in 0) (awaited owes t.now.kept.jobs))
    by_owes None f h = inl refl
    by_owes (Some owed) f h = by_back owed h (follow_have owed t.now.kept.jobs f) (all_back t.now.kept.jobs) refl

    by_half : (half : Option HalfState) → HalfFits it.peer t.now half → (side_seen (half_loaded half) t).copies ≡ [] ⊎ (0 < words_left (side_seen (half_loaded half) t))
    by_half None h = by_owes t.now.live.sending.owes (s.runs.keeps.runs s.runs.goes_on).follows.jobs h
    by_half (Some half) h = inr (omega (arith, half_words half.loaded h.job t h.copies (omega (arith, h.begun, h.count)), h.begun, h.count))
