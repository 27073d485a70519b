-- Each event of a proxy keeps all its receipts own.
--
-- A message that is taken uses a note that waits, and each of its jobs has the eye that this note has at the job's file and segment. A job that is handed back has the receipt that the event brings. The group of the last message makes the receipts of its jobs into items. No other event makes an eye or a receipt, and a frame of the other side brings none.
use Rattle.std.proofs.Common.{ℕ, ℤ, List, [], ◌∷◌, map, filter_map, Option, Some, None, sym, subst, MatchOption}
use Rattle.std.proofs.Math.Dec.{ltb}
use Rattle.std.proofs.lemmas.Bool.{cond_both}
use Rattle.std.specs.List.{AllByRecursion}
use Rattle.wp_outside.specs.declared.kinds.HandleKind.{HandleKind}
use Rattle.pool_words.specs.Views.{EyeState}
use Rattle.shm_pools.specs.declared.notes.Note.{Note}
use Rattle.half_model.specs.declared.deeds.Deed.{Deed}
use Rattle.half_model.specs.declared.deeds.Deed.TheVariants.{Commit, Keymap}
use Rattle.half_model.specs.declared.items.PeerIn.TheVariants as inputs
use Rattle.half_model.specs.declared.items.PeerOut.{PeerOut}
use Rattle.half_model.specs.Content.{heard}
use Rattle.half_model.specs.Filling.{parts_of}
use Rattle.half_model.specs.Group.{Owed, owed_by}
use Rattle.half_model.specs.Inlet.{Inlet, ready, without_ready, end_of, note_for, notes_left, eyes_in}
use Rattle.half_model.specs.Jobs.{Job, JobState, Waits, IsOut, IsBack, Done, waits, is_done, lent, handed, all_back, receipts_of, receipt_in}
use Rattle.half_model.specs.Planning.{Plan}
use Rattle.half_model.specs.PipeTurn as pipes
use Rattle.half_model.specs.PipeTurn.{PipeTurn, pipe_turn}
use Rattle.half_model.specs.Turn as turns
use Rattle.half_model.specs.Turn.{Sending, Treated, Turn, turn, MadeGroup, made_of, group_due}
use Rattle.side_model.specs.Events.{Event, Fed, Handed, Lent, Up, Down, Came, Went, Gave, Asks, Told, Heard, Took, Grouped, Ended, Chose}
use Rattle.side_model.specs.State.{Now, Closing, Open, Asked, Made}
use Rattle.side_model.specs.Steps.{step, fed_pipe, gone, took, grouped, ended, receipt_item}
use Rattle.side_model.proofs.Dues.{DueIn, InHear, InGroup, InTreat, InEnd, InChoose, due_in, frame_due, group_is_due, turn_due, end_is_due, choice_due}
use Rattle.side_model.proofs.Sounds.{all_append, all_drop}
use Rattle.receipt_laws.specs.Owning.{Ownership, NoteIsOwn, StateIsOwn, JobIsOwn, ReturnsOwn, GivenIsOwn, AllOwn, BringsOwn}
use Rattle.receipt_laws.specs.OwnLaws.{EventsKeepOwn, PartsKeepOwn}
use Rattle.receipt_laws.proofs.Hearing.{heard_own}
use Rattle.receipt_laws.proofs.Parts.{EyesAreOwn, parts_in_eyes, jobs_own}
use Rattle.receipt_laws.proofs.Turning.{OnTaken, taken_by, each_taken}

module _ (Own : Ownership) where
  -- ---- a message is taken

  abbrev NotesAreOwn : List (ℕ × Note) → Type 0
  NotesAreOwn notes = AllByRecursion (λ it. NoteIsOwn Own it.1) notes

  -- the note that is used
  abbrev UsedIsOwn : Option Note → Type 0
  UsedIsOwn note = MatchOption note (Unit {0}) (NoteIsOwn Own)

  ready_own : (end : ℕ) (notes : List (ℕ × Note)) → NotesAreOwn notes → UsedIsOwn (ready end notes)
  ready_own end [] h = tt
  ready_own end (one ∷ others) h = cond_both (ltb one.0 end) (Some one.1) None UsedIsOwn (λ e. h.0) (λ e. tt)

  left_own : (end : ℕ) (notes : List (ℕ × Note)) → NotesAreOwn notes → NotesAreOwn (without_ready end notes)
  left_own end [] h = tt
  left_own end (one ∷ others) h = cond_both (ltb one.0 end) others (one ∷ others) NotesAreOwn (λ e. h.1) (λ e. h)

  used_own : (deed : Deed) (message : List ℕ) (inlet : Inlet) → NotesAreOwn inlet.notes → UsedIsOwn (note_for deed message inlet)
  used_own Commit message inlet h = ready_own (end_of message inlet) inlet.notes h
  used_own (Keymap size) message inlet h = ready_own (end_of message inlet) inlet.notes h
  used_own deed message inlet h = tt

  behind_own : (deed : Deed) (message : List ℕ) (inlet : Inlet) → NotesAreOwn inlet.notes → NotesAreOwn (notes_left deed message inlet)
  behind_own Commit message inlet h = left_own (end_of message inlet) inlet.notes h
  behind_own (Keymap size) message inlet h = left_own (end_of message inlet) inlet.notes h
  behind_own deed message inlet h = h

  eyes_own : (number : ℤ) (note : Option Note) → UsedIsOwn note → EyesAreOwn Own number (eyes_in number note)
  eyes_own number None h segment eye e = absurd cc
  eyes_own number (Some note) h segment eye e = h number segment eye e

  record TakesOwn (it : Treated) : Type 0 where
    notes : NotesAreOwn it.sending.inlet.notes
    jobs : AllByRecursion (JobIsOwn Own) it.jobs

  one_taken : (s : Sending) → NotesAreOwn s.inlet.notes → (message : List ℕ) (kind : Option HandleKind) (deed : Deed) (it : Plan) → TakesOwn (taken_by s message kind deed it)
  one_taken s h message kind deed it =
      let note : Option Note = note_for deed message s.inlet in
      let file : ℤ = it.filling.file.number in
      let eyes : List EyeState = eyes_in file note in
      let owed : Owed = owed_by it (map (λ (eye : EyeState). eye.words) eyes) in
      record {
        notes = behind_own deed message s.inlet h;
        jobs =
            jobs_own Own file s.next_job eyes (parts_of owed.file owed.segments owed.pieces)
            (eyes_own file note (used_own deed message s.inlet h)) (parts_in_eyes file eyes owed.pieces);
      }

  took_own : (it : Turn) (s : Now) → AllOwn Own s → OnTaken TakesOwn it → AllOwn Own (took it s)
  took_own turns.Idle s h t = h
  took_own (turns.Refuses fault) s h t = h
  took_own (turns.Takes it) s h t = record { notes = t.notes; jobs = t.jobs; items = h.items; receipts = h.receipts }

  -- ---- its jobs

  handed_own : (done : Done) (jobs : List Job) → AllByRecursion (JobIsOwn Own) jobs → AllByRecursion (ReturnsOwn Own done) jobs → AllByRecursion (JobIsOwn Own) (handed done jobs)
  handed_own done [] h b = tt
  handed_own done (job ∷ jobs) h b =
      cond_both (is_done done job) (record job { state = IsBack done.words done.receipt } ∷ jobs) (job ∷ handed done jobs)
      (AllByRecursion (JobIsOwn Own)) (λ e. (b.0 e, h.1)) (λ e. (h.0, handed_own done jobs h.1 b.1))

  lent_own : (jobs : List Job) → AllByRecursion (JobIsOwn Own) jobs → AllByRecursion (JobIsOwn Own) (lent jobs)
  lent_own [] h = tt
  lent_own (job ∷ jobs) h =
      cond_both (waits job.state) (record job { state = IsOut } ∷ jobs) (job ∷ lent jobs)
      (AllByRecursion (JobIsOwn Own)) (λ e. (tt, h.1)) (λ e. (h.0, lent_own jobs h.1))

  -- ---- the group of the last message

  abbrev GivenAreOwn : List PeerOut → Type 0
  GivenAreOwn items = AllByRecursion (GivenIsOwn Own) items

  receipts_own : (jobs : List Job) → AllByRecursion (JobIsOwn Own) jobs → GivenAreOwn (map receipt_item (receipts_of jobs))
  receipts_own [] h = tt
  receipts_own (job ∷ jobs) h = by_state job.state h.0 (receipts_own jobs h.1)
    where
      by_state : (state : JobState) → StateIsOwn Own job.part state → GivenAreOwn (map receipt_item (receipts_of jobs)) → GivenAreOwn (map receipt_item (filter_map (λ (it : Job). receipt_in it.part it.state) (record job { state = state } ∷ jobs)))
      by_state (Waits eye) own rest = rest
      by_state IsOut own rest = rest
      by_state (IsBack words receipt) own rest = (own, rest)

  abbrev OnFound : Option MadeGroup → Type 0
  OnFound found = MatchOption found (Unit {0}) (λ it. GivenAreOwn (map receipt_item it.receipts))

  found_own : (owes : Option Owed) (jobs : List Job) → AllByRecursion (JobIsOwn Own) jobs → OnFound (group_due owes jobs)
  found_own None jobs h = tt
  found_own (Some owed) jobs h = cond_both (all_back jobs) (Some (made_of owed jobs)) None OnFound (λ e. receipts_own jobs h) (λ e. tt)

  grouped_own : (found : Option MadeGroup) (s : Now) → AllOwn Own s → OnFound found → AllOwn Own (grouped found s)
  grouped_own None s h f = h
  grouped_own (Some it) s h f = record {
    notes = h.notes;
    jobs = tt;
    items = h.items;
    receipts = all_append (GivenIsOwn Own) s.live.receipts (map receipt_item it.receipts) h.receipts f;
  }

  -- ---- other events

  pipe_own : (it : PipeTurn) (s : Now) → AllOwn Own s → AllOwn Own (fed_pipe it s)
  pipe_own pipes.Barred s h = h
  pipe_own (pipes.Drops tables) s h = record { notes = h.notes; jobs = h.jobs; items = h.items; receipts = h.receipts }
  pipe_own (pipes.Makes frame tables) s h = record { notes = h.notes; jobs = h.jobs; items = h.items; receipts = h.receipts }

  ended_own : (closing : Closing) (s : Now) → AllOwn Own s → AllOwn Own (ended closing s)
  ended_own Open s h = h
  ended_own (Asked reason) s h = record { notes = h.notes; jobs = h.jobs; items = h.items; receipts = h.receipts }
  ended_own Made s h = h

  gone_own : (items : List PeerOut) (s : Now) → AllOwn Own s → GivenAreOwn items → AllOwn Own (record s { live = gone items s.live })
  gone_own [] s h i = record { notes = h.notes; jobs = h.jobs; items = h.items; receipts = all_drop (GivenIsOwn Own) 1 s.live.receipts h.receipts }
  gone_own (item ∷ items) s h i = record { notes = h.notes; jobs = h.jobs; items = i.1; receipts = h.receipts }

  pub events_keep : EventsKeepOwn Own
  unfolding step
  events_keep (Fed (inputs.Bytes bytes)) s h b = record { notes = h.notes; jobs = h.jobs; items = h.items; receipts = h.receipts }
  events_keep (Fed (inputs.Handle handle)) s h b = record { notes = h.notes; jobs = h.jobs; items = h.items; receipts = h.receipts }
  events_keep (Fed (inputs.Note note)) s h b = record {
    notes = all_append (λ (it : ℕ × Note). NoteIsOwn Own it.1) s.live.sending.inlet.notes ((s.live.sending.inlet.fed, note) ∷ []) h.notes (b, tt);
    jobs = h.jobs;
    items = h.items;
    receipts = h.receipts;
  }
  events_keep (Fed (inputs.Pipe item)) s h b = pipe_own (pipe_turn s.live.tables s.live.taking item) s h
  events_keep (Handed done) s h b = record { notes = h.notes; jobs = handed_own done s.kept.jobs h.jobs b; items = h.items; receipts = h.receipts }
  events_keep Lent s h b = record { notes = h.notes; jobs = lent_own s.kept.jobs h.jobs; items = h.items; receipts = h.receipts }
  events_keep (Up connection) s h b = record { notes = h.notes; jobs = h.jobs; items = h.items; receipts = h.receipts }
  events_keep Down s h b = record { notes = h.notes; jobs = h.jobs; items = h.items; receipts = h.receipts }
  events_keep (Came piece) s h b = record { notes = h.notes; jobs = h.jobs; items = h.items; receipts = h.receipts }
  events_keep (Went n) s h b = record { notes = h.notes; jobs = h.jobs; items = h.items; receipts = h.receipts }
  events_keep Gave s h b = gone_own s.live.items s h h.items
  events_keep (Asks reason) s h b = record { notes = h.notes; jobs = h.jobs; items = h.items; receipts = h.receipts }
  events_keep Told s h b = record { notes = h.notes; jobs = h.jobs; items = h.items; receipts = h.receipts }
  events_keep (Heard frame) s h b = record {
    notes = h.notes;
    jobs = h.jobs;
    items = all_append (GivenIsOwn Own) s.live.items (heard s.live.tables s.live.taking frame).given h.items (heard_own Own s.live.tables s.live.taking frame);
    receipts = h.receipts;
  }
  events_keep Took s h b = took_own (turn s.live.tables s.live.sending) s h (each_taken TakesOwn s.live.tables s.live.sending (one_taken s.live.sending h.notes))
  events_keep Grouped s h b = grouped_own (group_due s.live.sending.owes s.kept.jobs) s h (found_own s.live.sending.owes s.kept.jobs h.jobs)
  events_keep Ended s h b = ended_own s.kept.closing s h
  events_keep Chose s h b = record { notes = h.notes; jobs = h.jobs; items = h.items; receipts = h.receipts }

  -- ---- events that are due

  -- they bring nothing
  due_brings : (s : Now) (event : Event) → DueIn s event → BringsOwn Own event s
  due_brings s event (InHear e) = subst (λ (v : Event). BringsOwn Own v s) (sym (frame_due s event e).is) tt
  due_brings s event (InGroup a e) = subst (λ (v : Event). BringsOwn Own v s) (sym (group_is_due s event e).is) tt
  due_brings s event (InTreat a b e) = subst (λ (v : Event). BringsOwn Own v s) (sym (turn_due s event e).is) tt
  due_brings s event (InEnd a b c e) = subst (λ (v : Event). BringsOwn Own v s) (sym (end_is_due s event e).is) tt
  due_brings s event (InChoose a b c d e) = subst (λ (v : Event). BringsOwn Own v s) (sym (choice_due s event e).is) tt

  pub parts_keep : PartsKeepOwn Own
  parts_keep s t [] h p = subst (λ (u : Now). AllOwn Own u) (sym p) h
  parts_keep s t (event ∷ events) h p = parts_keep (step event s) t events (events_keep event s h (due_brings s event (due_in s event p.0))) p.1
