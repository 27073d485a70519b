-- What copies that are lent and handed back, and items that are given, are in a run.
use Rattle.std.proofs.Common.{◌≡◌, ℕ, List, [], ◌∷◌, map, length, Bool, true, false, ◌&&◌, cond, eqb, Option, Some, None, refl, sym, ap, subst, ◌∙◌, arith, if◌then◌else◌}
use Rattle.std.proofs.lemmas.Bool.{eqb-true}
use Rattle.std.proofs.lemmas.List.{append-nil}
use Rattle.std.proofs.lemmas.List.Sums.{sum_by-cons}
use Rattle.std.specs.Prelude.{sum_by}
use Rattle.std.specs.Option.{MatchOption}
use Rattle.std.specs.List.{AllByRecursion}
use Rattle.half_model.specs.declared.items.PeerOut.{PeerOut}
use Rattle.half_model.specs.declared.items.PeerOut.TheVariants as outputs
use Rattle.half_model.specs.Group.{Owed}
use Rattle.half_model.specs.Jobs.{Job, JobState, Waits, IsOut, IsBack, Done, waits, is_out, is_back, lent, is_done, handed, all_back}
use Rattle.half_model.specs.Turn.{made_of, group_due}
use Rattle.side_model.specs.Books.{Book, grown, closed, given_item, given_after}
use Rattle.side_model.specs.Due.{treat, end, choose, next}
use Rattle.side_model.specs.Events.{Handed, Gave, Rest}
use Rattle.side_model.specs.Follows.{is_message}
use Rattle.side_model.specs.Shows.{next_item}
use Rattle.side_model.specs.State.{Now}
use Rattle.side_model.specs.Steps.{step, gone}
use Rattle.side_model.proofs.Dues.{AllRest, all_rest, rests, groups_none}
use Rattle.pair_runs.specs.Sides.{SideState, awaited, loaded_by, loaded_in, words_in, seen, side_seen, all_loaded}
use Rattle.pair_runs.specs.WorkLaws.{LentIs, HandedIs, HandedWorks, NoneOut, GaveWorks}
use Rattle.pair_runs.specs.Working.{Works}
use Rattle.pair_runs.proofs.Tracking.{passes_same}
use Rattle.pair_runs.proofs.Calling.{ran_by, after_event, quiet_work, quiet_still, still_is}
use Rattle.pair_runs.proofs.Composing.{takes_same}
use Rattle.pair_runs.proofs.Ends.{front_same}

-- a side with these jobs awaited
abbrev with_jobs : ℕ → Now → Book → Option Owed → List Job → SideState
with_jobs half s book owes jobs = record (seen half s book) { copies = map words_in (awaited owes jobs); loaded = sum_by (loaded_in half) (awaited owes jobs) }

-- ---- lent

lent_words : (jobs : List Job) → map words_in (lent jobs) ≡ map words_in jobs
lent_words [] = refl
lent_words (job ∷ jobs) = go (lent_words jobs) (waits job.state)
  where
    go : map words_in (lent jobs) ≡ map words_in jobs → (b : Bool) → map words_in (cond b (record job { state = IsOut } ∷ jobs) (job ∷ lent jobs)) ≡ map words_in (job ∷ jobs)
    go rest true = refl
    go rest false = ap (λ words. words_in job ∷ words) rest

lent_none : (job : Job) → waits job.state ≡ true → loaded_in 0 job ≡ 0
lent_none job e = by_state job.state e
  where
    by_state : (state : JobState) → waits state ≡ true → loaded_by 0 job.part.count state ≡ 0
    by_state (Waits eye) d = refl
    by_state IsOut d = absurd cc
    by_state (IsBack words receipt) d = absurd cc

lent_loaded : (jobs : List Job) → sum_by (loaded_in 0) (lent jobs) ≡ sum_by (loaded_in 0) jobs
lent_loaded [] = refl
lent_loaded (job ∷ jobs) = go (lent_loaded jobs) (waits job.state) refl
  where
    go : sum_by (loaded_in 0) (lent jobs) ≡ sum_by (loaded_in 0) jobs → (b : Bool) → waits job.state ≡ b → sum_by (loaded_in 0) (cond b (record job { state = IsOut } ∷ jobs) (job ∷ lent jobs)) ≡ sum_by (loaded_in 0) (job ∷ jobs)
    go rest true e = omega (arith, sum_by-cons (loaded_in 0) (record job { state = IsOut }) jobs, sum_by-cons (loaded_in 0) job jobs, lent_none job e)
    go rest false e = omega (arith, sum_by-cons (loaded_in 0) job (lent jobs), sum_by-cons (loaded_in 0) job jobs, rest)

lent_back : (jobs : List Job) → all_back (lent jobs) ≡ all_back jobs
lent_back [] = refl
lent_back (job ∷ jobs) = go (lent_back jobs) (waits job.state) refl
  where
    not_back : (state : JobState) → waits state ≡ true → is_back state ≡ false
    not_back (Waits eye) d = refl
    not_back IsOut d = absurd cc
    not_back (IsBack words receipt) d = absurd cc

    go : all_back (lent jobs) ≡ all_back jobs → (b : Bool) → waits job.state ≡ b → all_back (cond b (record job { state = IsOut } ∷ jobs) (job ∷ lent jobs)) ≡ all_back (job ∷ jobs)
    go rest true e = ap (λ (back : Bool). back && all_back jobs) (sym (not_back job.state e))
    go rest false e = ap (λ (others : Bool). is_back job.state && others) rest

lent_awaited : (half : ℕ) (s : Now) (book : Book) (owes : Option Owed) (jobs : List Job) → with_jobs 0 s book owes (lent jobs) ≡ with_jobs 0 s book owes jobs
lent_awaited half s book None jobs = refl
lent_awaited half s book (Some owed) jobs =
    ap (λ (back : Bool). record (seen 0 s book) { copies = map words_in (if back then [] else lent jobs); loaded = sum_by (loaded_in 0) (if back then [] else lent jobs) }) (lent_back jobs)
    ∙ go (all_back jobs)
  where
    go : (b : Bool) → record (seen 0 s book) { copies = map words_in (if b then [] else lent jobs); loaded = sum_by (loaded_in 0) (if b then [] else lent jobs) } ≡ record (seen 0 s book) { copies = map words_in (if b then [] else jobs); loaded = sum_by (loaded_in 0) (if b then [] else jobs) }
    go true = refl
    go false =
        ap (λ (words : List ℕ). record (seen 0 s book) { copies = words; loaded = sum_by (loaded_in 0) (lent jobs) }) (lent_words jobs)
        ∙ ap (λ (n : ℕ). record (seen 0 s book) { copies = map words_in jobs; loaded = n }) (lent_loaded jobs)

pub lent_is : LentIs
unfolding step
lent_is old = lent_awaited 0 old.now old.book old.now.live.sending.owes old.now.kept.jobs

-- ---- handed back

handed_words : (done : Done) (jobs : List Job) → map words_in (handed done jobs) ≡ map words_in jobs
handed_words done [] = refl
handed_words done (job ∷ jobs) = go (handed_words done jobs) (is_done done job)
  where
    go : map words_in (handed done jobs) ≡ map words_in jobs → (b : Bool) → map words_in (cond b (record job { state = IsBack done.words done.receipt } ∷ jobs) (job ∷ handed done jobs)) ≡ map words_in (job ∷ jobs)
    go rest true = refl
    go rest false = ap (λ words. words_in job ∷ words) rest

and_left : (a b : Bool) → a && b ≡ true → a ≡ true
and_left true b e = refl
and_left false b e = absurd cc

and_right : (a b : Bool) → a && b ≡ true → b ≡ true
and_right true b e = e
and_right false b e = absurd cc

out_loaded : (half count : ℕ) (state : JobState) → is_out state ≡ true → loaded_by half count state ≡ half
out_loaded half count (Waits eye) e = absurd cc
out_loaded half count IsOut e = refl
out_loaded half count (IsBack words receipt) e = absurd cc

handed_loaded : (half : ℕ) (done : Done) (jobs : List Job) → half ≡ length done.words → sum_by (loaded_in half) (handed done jobs) ≡ sum_by (loaded_in half) jobs
handed_loaded half done [] e = refl
handed_loaded half done (job ∷ jobs) e = go (handed_loaded half done jobs e) (is_done done job) refl
  where
    back : Job
    back = record job { state = IsBack done.words done.receipt }

    go : sum_by (loaded_in half) (handed done jobs) ≡ sum_by (loaded_in half) jobs → (b : Bool) → is_done done job ≡ b → sum_by (loaded_in half) (cond b (back ∷ jobs) (job ∷ handed done jobs)) ≡ sum_by (loaded_in half) (job ∷ jobs)
    go others true d =
        let rest = and_right (is_out job.state) _ d in
        let third = and_right (eqb job.id done.id) _ rest in
        let fourth = and_right (eqb job.part.first done.first) _ third in
        let count : job.part.count ≡ length done.words = eqb-true job.part.count (length done.words) (and_left (eqb job.part.count (length done.words)) _ fourth) in
        omega (arith, sum_by-cons (loaded_in half) back jobs, sum_by-cons (loaded_in half) job jobs, out_loaded half job.part.count job.state (and_left (is_out job.state) _ d), count, e)
    go others false d = omega (arith, sum_by-cons (loaded_in half) job (handed done jobs), sum_by-cons (loaded_in half) job jobs, others)

-- a group that waits for more copies
not_due : (owes : Option Owed) (jobs : List Job) → all_back jobs ≡ false → group_due owes jobs ≡ None
not_due None jobs e = refl
not_due (Some owed) jobs e = ap (λ (back : Bool). if back then Some (made_of owed jobs) else None) e

handed_rests : (done : Done) (s : Now) → next s ≡ Rest → all_back (handed done s.kept.jobs) ≡ false → next (step (Handed done) s) ≡ Rest
unfolding step treat end choose
handed_rests done s rest e =
    let all : AllRest s = all_rest s rest in
    rests (step (Handed done) s) (record {
      hears = quiet_still (Handed done) s rest refl;
      groups = groups_none (step (Handed done) s) (not_due s.live.sending.owes (handed done s.kept.jobs) e);
      treats = all.treats;
      ends = all.ends;
      chooses = all.chooses;
    })

-- jobs that are awaited before and behind
handed_awaited : (half : ℕ) (done : Done) (s : Now) (book : Book) (owes : Option Owed) (jobs : List Job) → half ≡ length done.words → all_back jobs ≡ false → all_back (handed done jobs) ≡ false
    → with_jobs half s book owes (handed done jobs) ≡ with_jobs half s book owes jobs
handed_awaited half done s book None jobs e before behind = refl
handed_awaited half done s book (Some owed) jobs e before behind =
    ap (λ (back : Bool). record (seen half s book) { copies = map words_in (if back then [] else handed done jobs); loaded = sum_by (loaded_in half) (if back then [] else handed done jobs) }) behind
    ∙ ap (λ (words : List ℕ). record (seen half s book) { copies = words; loaded = sum_by (loaded_in half) (handed done jobs) }) (handed_words done jobs)
    ∙ ap (λ (n : ℕ). record (seen half s book) { copies = map words_in jobs; loaded = n }) (handed_loaded half done jobs e)
    ∙ sym (ap (λ (back : Bool). record (seen half s book) { copies = map words_in (if back then [] else jobs); loaded = sum_by (loaded_in half) (if back then [] else jobs) }) before)

-- one that is back was out
handed_was : (done : Done) (jobs : List Job) → all_back (handed done jobs) ≡ false → all_back jobs ≡ false
handed_was done [] e = e
handed_was done (job ∷ jobs) e = go (handed_was done jobs) (is_done done job) refl e
  where
    out : (state : JobState) → is_out state ≡ true → is_back state ≡ false
    out (Waits eye) d = absurd cc
    out IsOut d = refl
    out (IsBack words receipt) d = absurd cc

    by_rest : (all_back (handed done jobs) ≡ false → all_back jobs ≡ false) → (b : Bool) → b && all_back (handed done jobs) ≡ false → b && all_back jobs ≡ false
    by_rest others true d = others d
    by_rest others false d = refl

    go : (all_back (handed done jobs) ≡ false → all_back jobs ≡ false) → (b : Bool) → is_done done job ≡ b → all_back (cond b (record job { state = IsBack done.words done.receipt } ∷ jobs) (job ∷ handed done jobs)) ≡ false → all_back (job ∷ jobs) ≡ false
    go others true d k = ap (λ (back : Bool). back && all_back jobs) (out job.state (and_left (is_out job.state) _ d))
    go others false d k = by_rest others (is_back job.state) k

pub handed_is : HandedIs
unfolding step
handed_is half done old new r e behind calls =
    let on = r.keeps.runs r.goes_on in
    still_is half (Handed done) old new (handed_rests done old.now on.rests behind) (ran_by (Handed done) old new r calls)
    ∙ handed_awaited half done old.now old.book old.now.live.sending.owes old.now.kept.jobs e (handed_was done old.now.kept.jobs behind) behind

-- the last one
handed_all : (half : ℕ) (s : Now) (book : Book) (owes : Option Owed) (jobs : List Job) → all_back jobs ≡ true → with_jobs half s book owes jobs ≡ all_loaded (seen half s book)
handed_all half s book None jobs e = refl
handed_all half s book (Some owed) jobs e = ap (λ (back : Bool). record (seen half s book) { copies = map words_in (if back then [] else jobs); loaded = sum_by (loaded_in half) (if back then [] else jobs) }) e

pub handed_works : HandedWorks
unfolding step
handed_works half done old new r admits e calls =
    subst (λ (a : SideState). Works false a (side_seen half new)) (handed_all half old.now old.book old.now.live.sending.owes (handed done old.now.kept.jobs) e)
    (quiet_work half (Handed done) old new (after_event (Handed done) old r admits) (quiet_still (Handed done) old.now (r.keeps.runs r.goes_on).rests refl) (ran_by (Handed done) old new r calls))

-- ---- none is out

none_loaded : (half other : ℕ) (jobs : List Job) → AllByRecursion (λ job. is_out job.state ≡ false) jobs → sum_by (loaded_in half) jobs ≡ sum_by (loaded_in other) jobs
none_loaded half other [] h = refl
none_loaded half other (job ∷ jobs) h = omega (arith, sum_by-cons (loaded_in half) job jobs, sum_by-cons (loaded_in other) job jobs, one job.state h.0, none_loaded half other jobs h.1)
  where
    one : (state : JobState) → is_out state ≡ false → loaded_by half job.part.count state ≡ loaded_by other job.part.count state
    one (Waits eye) d = refl
    one IsOut d = absurd cc
    one (IsBack words receipt) d = refl

none_awaited : (half other : ℕ) (owes : Option Owed) (jobs : List Job) → AllByRecursion (λ job. is_out job.state ≡ false) jobs → sum_by (loaded_in half) (awaited owes jobs) ≡ sum_by (loaded_in other) (awaited owes jobs)
none_awaited half other None jobs h = refl
none_awaited half other (Some owed) jobs h = go (all_back jobs)
  where
    go : (b : Bool) → sum_by (loaded_in half) (if b then [] else jobs) ≡ sum_by (loaded_in other) (if b then [] else jobs)
    go true = refl
    go false = none_loaded half other jobs h

pub none_out : NoneOut
none_out half other t h = ap (λ (n : ℕ). record (side_seen half t) { loaded = n }) (none_awaited half other t.now.live.sending.owes t.now.kept.jobs h)

-- ---- given

-- the items that go are none of the inside
gone_same : (half : ℕ) (s : Now) (book : Book) (items : List PeerOut) → seen half (record s { live = gone items s.live }) book ≡ seen half s book
gone_same half s book [] = refl
gone_same half s book (item ∷ items) = refl

with_given : ℕ → SideState → SideState
with_given given it = record it { book = record it.book { trail = record it.book.trail { given = given } } }

gave_so : (half : ℕ) (s : Now) (book : Book) → seen half (step Gave s) (grown Gave s (closed book)) ≡ with_given (given_after Gave s.live book.trail.given) (seen half s book)
unfolding step with_given
gave_so half s book = gone_same half s (grown Gave s (closed book)) s.live.items

given_works : (given : ℕ) (a : SideState) → Works true a (with_given given a)
unfolding with_given
given_works given a = record {
  took = [];
  inside = takes_same a.inside;
  awaits = record { stay = λ e. (refl, refl); begin = λ n. absurd (n refl) };
  trail = record { side = refl; taken = sym (append-nil a.book.trail.taken); made = front_same a.book.trail.made; copies = front_same a.book.trail.copies; lines = refl; accepted = omega arith };
  order = front_same a.book.order;
  passes = passes_same a.book.trail.side a.inside.objects a.book.order;
  silent = λ e. absurd cc;
}

given_same : (item : Option PeerOut) (given : ℕ) → MatchOption item (Unit {0}) (λ it. is_message it ≡ false) → given_item item given ≡ given
given_same None given h = refl
given_same (Some (outputs.Bytes message)) given h = absurd cc
given_same (Some (outputs.Handle handle)) given h = refl
given_same (Some (outputs.Opened rid size)) given h = refl
given_same (Some (outputs.Grown rid size)) given h = refl
given_same (Some (outputs.Filled rid start bytes)) given h = refl
given_same (Some (outputs.Pipe item)) given h = refl
given_same (Some (outputs.Receipt number segment receipt)) given h = refl

pub gave_works : GaveWorks
unfolding with_given
gave_works = record {
  works = λ half old. subst (λ (b : SideState). Works true (side_seen half old) b) (sym (gave_so half old.now old.book)) (given_works (given_after Gave old.now.live old.book.trail.given) (side_seen half old));
  silent = λ half old h. gave_so half old.now old.book ∙ ap (λ (n : ℕ). with_given n (side_seen half old)) (given_same (next_item old.now.live) old.book.trail.given h);
}
