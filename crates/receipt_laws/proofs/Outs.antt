-- Each event of a proxy but the one that hands it back leaves a copy out, and no other one goes out.
--
-- While a copy is out a message is owed whose copies are not all back. So no message is taken and no group is made, and no other event changes the jobs.
use Rattle.std.proofs.Common.{◌≡◌, ℕ, List, [], ◌∷◌, map, Option, Some, None, refl, sym, ap, subst, ◌∙◌}
use Rattle.std.specs.List.{AllByRecursion}
use Rattle.pool_words.specs.Views.{EyeState}
use Rattle.wp_outside.specs.declared.kinds.HandleKind.{HandleKind}
use Rattle.half_model.specs.declared.deeds.Deed.{Deed}
use Rattle.half_model.specs.declared.items.PeerIn.TheVariants as inputs
use Rattle.half_model.specs.declared.items.PeerOut.{PeerOut}
use Rattle.half_model.specs.Filling.{Part, parts_of}
use Rattle.half_model.specs.Group.{Owed, owed_by}
use Rattle.half_model.specs.Inlet.{note_for, eyes_in}
use Rattle.half_model.specs.Jobs.{Job, lent, handed}
use Rattle.half_model.specs.Planning.{Plan}
use Rattle.half_model.specs.PipeTurn as pipes
use Rattle.half_model.specs.PipeTurn.{PipeTurn, pipe_turn}
use Rattle.half_model.specs.Turn as turns
use Rattle.half_model.specs.Turn.{Sending, Treated, Turn, turn, MadeGroup, group_due}
use Rattle.side_model.specs.Calls.{Part as Goes}
use Rattle.side_model.specs.Events.{Event, Fed, Handed, Lent, Up, Down, Came, Went, Gave, Asks, Told, Heard, Took, Grouped, Ended, Chose}
use Rattle.side_model.specs.State.{Now, Closing, Open, Asked, Made}
use Rattle.side_model.specs.Steps.{step, fed_pipe, gone, took, grouped, ended}
use Rattle.side_model.proofs.Dues.{DueIn, InHear, InGroup, InTreat, InEnd, InChoose, due_in, frame_due, group_is_due, turn_due, end_is_due, choice_due}
use Rattle.receipt_laws.specs.Lending.{JobFits, IsIn, CopiesAre, LeavesCopies}
use Rattle.receipt_laws.specs.OutLaws.{EventsLeave, EventsSame, LentGoesOut, HandedIsIn}
use Rattle.receipt_laws.proofs.Jobs.{lent_one, lent_none, lent_fit, one_back, none_due, some_out, handed_in, handed_fit}
use Rattle.receipt_laws.proofs.Parts.{jobs_fit, jobs_in}
use Rattle.receipt_laws.proofs.Turning.{OnTaken, taken_by, each_taken, owing_idle}

-- ---- a message is taken

record TakesIn (it : Treated) : Type 0 where
  fit : AllByRecursion JobFits it.jobs
  one : AllByRecursion IsIn it.jobs
  owes : it.sending.owes ≡ None → ⊥

one_taken : (s : Sending) (message : List ℕ) (kind : Option HandleKind) (deed : Deed) (it : Plan) → TakesIn (taken_by s message kind deed it)
one_taken s message kind deed it =
    let eyes : List EyeState = eyes_in it.filling.file.number (note_for deed message s.inlet) in
    let owed : Owed = owed_by it (map (λ (eye : EyeState). eye.words) eyes) in
    let parts : List Part = parts_of owed.file owed.segments owed.pieces in
    record { fit = jobs_fit s.next_job eyes parts; one = jobs_in s.next_job eyes parts; owes = λ e. cc }

took_in : (it : Turn) (s : Now) → CopiesAre None s → OnTaken TakesIn it → CopiesAre None (took it s)
took_in turns.Idle s h t = h
took_in (turns.Refuses fault) s h t = h
took_in (turns.Takes it) s h t = record { fit = t.fit; owed = λ e. absurd (t.owes e); one = t.one }

-- none is, where a copy is out
owes_one : (job : Job) (s : Now) → CopiesAre (Some job) s → s.live.sending.owes ≡ None → ⊥
owes_one job s h e = some_out job s.kept.jobs h.one (h.owed e)

same_took : (job : Job) (s : Now) → CopiesAre (Some job) s → step Took s ≡ s
unfolding step
same_took job s h =
    ap (λ (it : Turn). took it s) (owing_idle s.live.tables s.live.sending s.live.sending.owes refl (owes_one job s h))

-- ---- a group is made

grouped_in : (found : Option MadeGroup) (s : Now) → CopiesAre None s → CopiesAre None (grouped found s)
grouped_in None s h = h
grouped_in (Some it) s h = record { fit = tt; owed = λ e. refl; one = tt }

same_grouped : (job : Job) (s : Now) → CopiesAre (Some job) s → step Grouped s ≡ s
unfolding step
same_grouped job s h = ap (λ (found : Option MadeGroup). grouped found s) (none_due s.live.sending.owes s.kept.jobs (one_back job s.kept.jobs h.one))

-- ---- other events

pipe_leaves : (it : PipeTurn) (out : Option Job) (s : Now) → CopiesAre out s → CopiesAre out (fed_pipe it s)
pipe_leaves pipes.Barred out s h = h
pipe_leaves (pipes.Drops tables) out s h = record { fit = h.fit; owed = h.owed; one = h.one }
pipe_leaves (pipes.Makes frame tables) out s h = record { fit = h.fit; owed = h.owed; one = h.one }

pipe_same : (it : PipeTurn) (s : Now) → (fed_pipe it s).kept.jobs ≡ s.kept.jobs
pipe_same pipes.Barred s = refl
pipe_same (pipes.Drops tables) s = refl
pipe_same (pipes.Makes frame tables) s = refl

ended_leaves : (closing : Closing) (out : Option Job) (s : Now) → CopiesAre out s → CopiesAre out (ended closing s)
ended_leaves Open out s h = h
ended_leaves (Asked reason) out s h = record { fit = h.fit; owed = h.owed; one = h.one }
ended_leaves Made out s h = h

ended_same : (closing : Closing) (s : Now) → (ended closing s).kept.jobs ≡ s.kept.jobs
ended_same Open s = refl
ended_same (Asked reason) s = refl
ended_same Made s = refl

gone_leaves : (items : List PeerOut) (out : Option Job) (s : Now) → CopiesAre out s → CopiesAre out (record s { live = gone items s.live })
gone_leaves [] out s h = record { fit = h.fit; owed = h.owed; one = h.one }
gone_leaves (item ∷ items) out s h = record { fit = h.fit; owed = h.owed; one = h.one }

-- ---- each event

pub events_leave : EventsLeave
unfolding step
events_leave (Fed (inputs.Bytes bytes)) out s l h = record { fit = h.fit; owed = h.owed; one = h.one }
events_leave (Fed (inputs.Handle handle)) out s l h = record { fit = h.fit; owed = h.owed; one = h.one }
events_leave (Fed (inputs.Note note)) out s l h = record { fit = h.fit; owed = h.owed; one = h.one }
events_leave (Fed (inputs.Pipe item)) out s l h = pipe_leaves (pipe_turn s.live.tables s.live.taking item) out s h
events_leave (Handed done) out s l h = absurd l
events_leave Lent out s l h = absurd l
events_leave (Up connection) out s l h = record { fit = h.fit; owed = h.owed; one = h.one }
events_leave Down out s l h = record { fit = h.fit; owed = h.owed; one = h.one }
events_leave (Came piece) out s l h = record { fit = h.fit; owed = h.owed; one = h.one }
events_leave (Went n) out s l h = record { fit = h.fit; owed = h.owed; one = h.one }
events_leave Gave out s l h = gone_leaves s.live.items out s h
events_leave (Asks reason) out s l h = record { fit = h.fit; owed = h.owed; one = h.one }
events_leave Told out s l h = record { fit = h.fit; owed = h.owed; one = h.one }
events_leave (Heard frame) out s l h = record { fit = h.fit; owed = h.owed; one = h.one }
events_leave Took None s l h = took_in (turn s.live.tables s.live.sending) s h (each_taken TakesIn s.live.tables s.live.sending (one_taken s.live.sending))
events_leave Took (Some job) s l h = subst (λ (u : Now). CopiesAre (Some job) u) (sym (same_took job s h)) h
events_leave Grouped None s l h = grouped_in (group_due s.live.sending.owes s.kept.jobs) s h
events_leave Grouped (Some job) s l h = subst (λ (u : Now). CopiesAre (Some job) u) (sym (same_grouped job s h)) h
events_leave Ended out s l h = ended_leaves s.kept.closing out s h
events_leave Chose out s l h = record { fit = h.fit; owed = h.owed; one = h.one }

pub events_same : EventsSame
unfolding step
events_same (Fed (inputs.Bytes bytes)) job s l h = refl
events_same (Fed (inputs.Handle handle)) job s l h = refl
events_same (Fed (inputs.Note note)) job s l h = refl
events_same (Fed (inputs.Pipe item)) job s l h = pipe_same (pipe_turn s.live.tables s.live.taking item) s
events_same (Handed done) job s l h = absurd l
events_same Lent job s l h = absurd l
events_same (Up connection) job s l h = refl
events_same Down job s l h = refl
events_same (Came piece) job s l h = refl
events_same (Went n) job s l h = refl
events_same Gave job s l h = refl
events_same (Asks reason) job s l h = refl
events_same Told job s l h = refl
events_same (Heard frame) job s l h = refl
events_same Took job s l h = ap (λ (u : Now). u.kept.jobs) (same_took job s h)
events_same Grouped job s l h = ap (λ (u : Now). u.kept.jobs) (same_grouped job s h)
events_same Ended job s l h = ended_same s.kept.closing s
events_same Chose job s l h = refl

-- ---- a copy goes out, and is handed back

pub lent_goes_out : LentGoesOut
unfolding step
lent_goes_out = record {
  one = λ job s h e. record { fit = lent_fit s.kept.jobs h.fit; owed = λ d. ap lent (h.owed d); one = lent_one job s.kept.jobs h.one h.fit e };
  none = λ s h e. record {
    fit = lent_fit s.kept.jobs h.fit;
    owed = λ d. ap lent (h.owed d);
    one = subst (λ (jobs : List Job). AllByRecursion IsIn jobs) (sym (lent_none s.kept.jobs e)) h.one;
  };
}

pub handed_is_in : HandedIsIn
unfolding step
handed_is_in job done s h e = record { fit = handed_fit done s.kept.jobs h.fit; owed = λ d. ap (handed done) (h.owed d); one = handed_in done job s.kept.jobs h.one e }

-- ---- events that are due

due_leaves : (s : Now) (event : Event) → DueIn s event → LeavesCopies event
due_leaves s event (InHear e) = subst LeavesCopies (sym (frame_due s event e).is) tt
due_leaves s event (InGroup a e) = subst LeavesCopies (sym (group_is_due s event e).is) tt
due_leaves s event (InTreat a b e) = subst LeavesCopies (sym (turn_due s event e).is) tt
due_leaves s event (InEnd a b c e) = subst LeavesCopies (sym (end_is_due s event e).is) tt
due_leaves s event (InChoose a b c d e) = subst LeavesCopies (sym (choice_due s event e).is) tt

pub parts_leave : (out : Option Job) (s t : Now) (events : List Event) → CopiesAre out s → Goes s events t → CopiesAre out t
parts_leave out s t [] h p = subst (λ (u : Now). CopiesAre out u) (sym p) h
parts_leave out s t (event ∷ events) h p = parts_leave out (step event s) t events (events_leave event out s (due_leaves s event (due_in s event p.0)) h) p.1

pub parts_same : (job : Job) (s t : Now) (events : List Event) → CopiesAre (Some job) s → Goes s events t → t.kept.jobs ≡ s.kept.jobs
parts_same job s t [] h p = ap (λ (u : Now). u.kept.jobs) p
parts_same job s t (event ∷ events) h p =
    let leaves : LeavesCopies event = due_leaves s event (due_in s event p.0) in
    parts_same job (step event s) t events (events_leave event (Some job) s leaves h) p.1 ∙ events_same event job s leaves h
