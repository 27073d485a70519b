-- Each call of a proxy with its records keeps all its receipts own, and what it lends and gives is own.
use Rattle.std.proofs.Common.{◌≡◌, ℕ, List, [], ◌∷◌, Option, Some, None, Result, Ok, Err, refl, sym, ap, subst, ◌∙◌, MatchOption}
use Rattle.std.proofs.lemmas.Bool.{cond_both}
use Rattle.std.specs.List.{AllByRecursion}
use Rattle.half_model.specs.declared.items.PeerOut.{PeerOut}
use Rattle.half_model.specs.declared.items.PeerOut.TheVariants as outputs
use Rattle.shm_pools.specs.declared.notes.Note.{Note}
use Rattle.half_model.specs.Filling.{Part as Words}
use Rattle.half_model.specs.Jobs.{Job, JobState, Waits, IsOut, IsBack, waits, first_waiting}
use Rattle.side_model.specs.declared.fault.ProxyFault.{ProxyFault}
use Rattle.side_model.specs.Calls.{Part, Row, CallsBarred, CallsAfter, Calls, barred}
use Rattle.side_model.specs.Events.{Event, Went, Rest}
use Rattle.side_model.specs.Shows.{first_item}
use Rattle.side_model.specs.State.{Now}
use Rattle.side_model.specs.Steps.{step}
use Rattle.side_model.specs.Trails.{TrailState, with_notes, RunsTrail, TrailAfter, TrailCalls, Sends, RunsLends, LendsAfter}
use Rattle.receipt_laws.specs.Owning.{Ownership, NoteIsOwn, StateIsOwn, JobIsOwn, GivenIsOwn, AllOwn}
use Rattle.receipt_laws.specs.OwnLaws.{OwnAtFirst, CallsKeepOwn, StepsKeepOwn, SendsKeepOwn, LendsKeepOwn, LentIsOwn, GivesOwn, Grows, MoreIsOwn}
use Rattle.receipt_laws.proofs.Events.{events_keep, parts_keep}

-- ---- a call that may fail

-- one that has failed keeps nothing
pub not_failed : {P : Type 0} (fault : ProxyFault) (it : Option ProxyFault) → it ≡ Some fault → it ≡ None → P
not_failed fault it e d = absurd (let never : Some fault ≡ None = sym e ∙ d in cc)

-- a good call of a proxy is the event and those that are due behind it
pub good_row : (event : Event) (events : List Event) (old last : Now) → Calls event (Ok tt) events old last → Row (step event old) events last Rest
good_row event events old last calls = by_fault old.fault calls
  where
    by_barred : (bar : Option ProxyFault) → CallsBarred bar event (Ok tt) events old last → Row (step event old) events last Rest
    by_barred None r = r
    by_barred (Some fault) r = absurd (let never : Ok tt ≡ Err fault = r.answers in cc)

    by_fault : (fault : Option ProxyFault) → CallsAfter fault event (Ok tt) events old last → Row (step event old) events last Rest
    by_fault None r = by_barred (barred event old) r
    by_fault (Some fault) r = absurd (let never : Ok tt ≡ Err fault = r.answers in cc)

-- What each event and all that are due behind it keep of a proxy, and what doesn't speak of notes that wait, a good call keeps of one with its records; and a call that fails keeps nothing.
pub by_call : (P : Now → Type 0) (event : Event) (result : Result Unit ProxyFault) (old new : TrailState)
    → (old.fault ≡ None → P (step event old.now)) → ((s t : Now) (events : List Event) → P s → Part s events t → P t) → ((s : Now) → P s → P (with_notes [] s))
    → TrailCalls event result old new → new.fault ≡ None → P new.now
by_call P event result old new first row told calls none = by_fault old.fault refl calls
  where
    by_result : (result : Result Unit ProxyFault) → old.fault ≡ None → RunsTrail event result old new → P new.now
    by_result (Ok done) was d =
        let r : Row (step event old.now) d.events d.last Rest = good_row event d.events old.now d.last d.calls in
        subst P (sym d.now) (told d.last (row (step event old.now) d.last d.events (first was) r.0))
    by_result (Err fault) was f = not_failed fault new.fault f.fault_is none

    by_fault : (fault : Option ProxyFault) → old.fault ≡ fault → TrailAfter fault event result old new → P new.now
    by_fault None e r = by_result result e r
    by_fault (Some fault) e r = not_failed fault new.fault (ap (λ (t : TrailState). t.fault) r.same ∙ e) none

-- bytes of the front are sent
pub by_sending : (P : Now → Type 0) (n : ℕ) (old new : TrailState) → P (step (Went n) old.now) → ((s t : Now) (events : List Event) → P s → Part s events t → P t)
    → Sends n old new → P new.now
by_sending P n old new first row d = row (step (Went n) old.now) new.now d.events first d.row.0

-- bytes of it are lent
pub by_lending : (P : Now → Type 0) (result : Result Unit ProxyFault) (old new : TrailState) → (old.fault ≡ None → P old.now) → LendsAfter old.fault result old new → new.fault ≡ None → P new.now
by_lending P result old new h d none = by_fault old.fault refl d
  where
    by_result : (result : Result Unit ProxyFault) → old.fault ≡ None → RunsLends result old new → P new.now
    by_result (Ok done) was l = subst P (sym (ap (λ (t : TrailState). t.now) l.1)) (h was)
    by_result (Err fault) was l = not_failed fault new.fault l.fault_is none

    by_fault : (fault : Option ProxyFault) → old.fault ≡ fault → LendsAfter fault result old new → P new.now
    by_fault None e l = by_result result e l
    by_fault (Some fault) e l = not_failed fault new.fault (ap (λ (t : TrailState). t.fault) l.same ∙ e) none

-- ---- what is found

found_job : (P : Job → Type 0) (jobs : List Job) → AllByRecursion P jobs → MatchOption (first_waiting jobs) (Unit {0}) P
found_job P [] h = tt
found_job P (job ∷ jobs) h =
    cond_both (waits job.state) (Some job) (first_waiting jobs) (λ (found : Option Job). MatchOption found (Unit {0}) P) (λ e. h.0) (λ e. found_job P jobs h.1)

pub first_has : (P : Job → Type 0) (jobs : List Job) (job : Job) → AllByRecursion P jobs → first_waiting jobs ≡ Some job → P job
first_has P jobs job h e = subst (λ (found : Option Job). MatchOption found (Unit {0}) P) e (found_job P jobs h)

-- ---- more of a list

all_more : {X : Type 0} (P Q : X → Type 0) (xs : List X) → ((x : X) → P x → Q x) → AllByRecursion P xs → AllByRecursion Q xs
all_more P Q [] f h = tt
all_more P Q (x ∷ xs) f h = (f x h.0, all_more P Q xs f h.1)

module _ (Own : Ownership) where
  notes_own : (s : Now) → AllOwn Own s → AllOwn Own (with_notes [] s)
  notes_own s h = record { notes = h.notes; jobs = h.jobs; items = h.items; receipts = h.receipts }

  pub own_at_first : OwnAtFirst Own
  own_at_first side token none = record { notes = tt; jobs = tt; items = tt; receipts = tt }

  pub calls_keep_own : CallsKeepOwn Own
  calls_keep_own event result old new h b calls none =
      by_call (AllOwn Own) event result old new (λ e. events_keep Own event old.now (h e) (b e)) (parts_keep Own) notes_own calls none

  pub steps_keep_own : StepsKeepOwn Own
  steps_keep_own event old h b none = events_keep Own event old.now (h none) (b none)

  pub sends_keep_own : SendsKeepOwn Own
  sends_keep_own n old new was h d none = by_sending (AllOwn Own) n old new (events_keep Own (Went n) old.now (h was) tt) (parts_keep Own) d

  pub lends_keep_own : LendsKeepOwn Own
  lends_keep_own result old new h d none = by_lending (AllOwn Own) result old new h d none

  -- ---- what it lends and gives

  pub lent_is_own : LentIsOwn Own
  lent_is_own s job eye h found state =
      subst (λ (it : JobState). StateIsOwn Own job.part it) state (first_has (JobIsOwn Own) s.kept.jobs job h.jobs found)

  first_own : (items receipts : List PeerOut) → AllByRecursion (GivenIsOwn Own) items → AllByRecursion (GivenIsOwn Own) receipts → MatchOption (first_item items receipts) (Unit {0}) (GivenIsOwn Own)
  first_own [] [] i r = tt
  first_own [] (receipt ∷ receipts) i r = r.0
  first_own (it ∷ items) receipts i r = i.0

  pub gives_own : GivesOwn Own
  gives_own s item h found = subst (λ (it : Option PeerOut). MatchOption it (Unit {0}) (GivenIsOwn Own)) found (first_own s.live.items s.live.receipts h.items h.receipts)

module _ (Own Other : Ownership) where
  more_state : Grows Own Other → (part : Words) (state : JobState) → StateIsOwn Own part state → StateIsOwn Other part state
  more_state g part (Waits eye) h = λ receipt n p. g part.file part.segment receipt (h receipt n p)
  more_state g part IsOut h = tt
  more_state g part (IsBack words receipt) h = g part.file part.segment receipt h

  more_given : Grows Own Other → (item : PeerOut) → GivenIsOwn Own item → GivenIsOwn Other item
  more_given g (outputs.Receipt number segment receipt) h = g number segment receipt h
  more_given g (outputs.Bytes message) h = tt
  more_given g (outputs.Handle handle) h = tt
  more_given g (outputs.Opened rid size) h = tt
  more_given g (outputs.Grown rid size) h = tt
  more_given g (outputs.Filled rid start bytes) h = tt
  more_given g (outputs.Pipe item) h = tt

  more_own : (s : Now) → Grows Own Other → AllOwn Own s → AllOwn Other s
  more_own s g h = record {
    notes =
        all_more (λ (it : ℕ × Note). NoteIsOwn Own it.1) (λ (it : ℕ × Note). NoteIsOwn Other it.1) s.live.sending.inlet.notes
        (λ it k number segment eye e receipt n p. g number segment receipt (k number segment eye e receipt n p)) h.notes;
    jobs = all_more (JobIsOwn Own) (JobIsOwn Other) s.kept.jobs (λ job k. more_state g job.part job.state k) h.jobs;
    items = all_more (GivenIsOwn Own) (GivenIsOwn Other) s.live.items (more_given g) h.items;
    receipts = all_more (GivenIsOwn Own) (GivenIsOwn Other) s.live.receipts (more_given g) h.receipts;
  }

  pub more_is_own : MoreIsOwn Own Other
  more_is_own = record {
    eye = λ number segment eye g h receipt n p. g number segment receipt (h receipt n p);
    proxy = more_own;
    trail = λ t g h none. more_own t.now g (h none);
  }
