-- The records follow a proxy through the work that is due behind the frames heard: a message is taken, its group is made, CLOSE is made, a front is chosen.
use Rattle.std.proofs.Common.{◌≡◌, ℕ, ◌+◌, ◌≤◌, List, [], ◌∷◌, ◌++◌, Ok, Err, Result, Option, Some, None, Bool, true, false, cond, length, map, refl, sym, ap, subst, ◌∙◌, arith, append_assoc, length-append, if◌then◌else◌}
use Rattle.std.proofs.lemmas.List.{append-nil}
use Rattle.std.specs.List.{AllByRecursion, cons_option}
use Rattle.std.specs.Option.{MatchOption}
use Rattle.std.specs.Prelude.{is_none, option_map}
use Rattle.transfer_frames.specs.declared.frame.Frame.{Frame}
use Rattle.transfer_frames.specs.declared.frame.Frame.TheVariants as frames
use Rattle.transfer_frames.specs.Grammar.{IsFrame}
use Rattle.transfer_frames.specs.Numbers.{IsWord, IsBytes}
use Rattle.transfer_frames.proofs.NumberLaws.{length-word_bytes, length-long_bytes}
use Rattle.wl_wire.specs.declared.faults.ObjectFault.{ObjectFault}
use Rattle.wl_wire.specs.declared.faults.WireFault.{WireFault}
use Rattle.wl_wire.specs.Wire.{first}
use Rattle.wl_objects.specs.Tracking.{Admission}
use Rattle.wl_objects.specs.Tracking as tracking
use Rattle.wl_tables.specs.declared.way.Way.{Way}
use Rattle.wp_outside.specs.declared.kinds.HandleKind.{HandleKind}
use Rattle.handle_table.specs.declared.handles.Handle.{Handle}
use Rattle.pool_words.specs.Views.{EyeState}
use Rattle.half_model.specs.declared.deeds.Deed.{Deed}
use Rattle.half_model.specs.declared.items.PeerOut.{PeerOut}
use Rattle.half_model.specs.declared.notes.CopyRecord.{CopyRecord}
use Rattle.half_model.specs.Deeds.{deed_of}
use Rattle.half_model.specs.Filling.{Part, parts_of}
use Rattle.half_model.specs.Group.{Owed, IsGroup, note_refusal, owed_by}
use Rattle.half_model.specs.Inlet.{Inlet, handle_for, note_for, inlet_after, eyes_in}
use Rattle.half_model.specs.Jobs.{Job, JobState, Waits, IsOut, IsBack, jobs_of, all_back, copies_of, receipts_of, copied, receipt_in}
use Rattle.half_model.specs.Log as marks
use Rattle.half_model.specs.Log.{Mark, LogState, Lawful, MayMake, log_next, after_group}
use Rattle.half_model.specs.Planning.{Plan, Refusal, kind_carried, plan_passed}
use Rattle.wl_tables.specs.Ways.{own_way}
use Rattle.half_model.specs.Story.{accepted_in}
use Rattle.half_model.specs.StoryLaws.{now, AreGood}
use Rattle.half_model.specs.Tables.{Tables}
use Rattle.half_model.specs.Turn as turns
use Rattle.half_model.specs.Turn.{Turn, turn, turn_unless, turn_front, Sending, Treated, MadeGroup, group_due, made_of, settled, waits_in}
use Rattle.half_model.specs.TurnLaws.{log_of, JobsOf, IsTaken, taken_mark}
use Rattle.half_model.proofs.JobLaws.{group_is_lawful}
use Rattle.half_model.proofs.Made.{made_is_good}
use Rattle.half_model.proofs.Turns.{turn_is_lawful}
use Rattle.pair_model.specs.LinkFaults.{MOST_FRAMES}
use Rattle.pair_model.specs.RingState.{RingState, ring_at}
use Rattle.pair_model.specs.StepLaws.{AreCounts}
use Rattle.pair_model.specs.Steps.{Here, Nothing, picks, pick_after, pick_behind, picked, chosen, bytes_at}
use Rattle.pair_model.proofs.Heards.{here_counts}
use Rattle.pair_model.proofs.RingProofs.{pushed_all, at_index}
use Rattle.side_model.specs.Books.{Book, grown}
use Rattle.side_model.specs.Events.{Event, Chose}
use Rattle.side_model.specs.Follows.{Follows, GoesOn, LinkFollows, GivesReceipts, AreReceipts, HasReceipt, JobsFollow, ClosingFollows, log_state}
use Rattle.side_model.specs.Marks.{mark_taken, mark_grouped, mark_ended}
use Rattle.side_model.specs.Places.{places_in, side_of}
use Rattle.side_model.specs.Shows.{has_made_close}
use Rattle.side_model.specs.State.{Now, Closing, Open, Asked, Made}
use Rattle.side_model.specs.Steps.{step, took, grouped, ended, receipt_item}
use Rattle.side_model.proofs.Calms.{waits_idle}
use Rattle.side_model.proofs.Dues.{TurnDue, GroupDue, EndDue, ChoiceDue}
use Rattle.side_model.proofs.FollowsFed.{book_by, silent_taken, places_closed, items_same, link_grouped}
use Rattle.side_model.proofs.Links.{link_marked, link_chose}
use Rattle.side_model.proofs.Quiets.{picked_unread}
use Rattle.side_model.proofs.Stories.{now_push, story_push, heard_push}
use Rattle.side_model.proofs.Tells.{tells_mark}

-- ---- jobs that a message waits for

-- a fresh job has no receipt yet
fresh_receipts : (next : ℕ) (eyes : List EyeState) (parts : List Part) → AllByRecursion (λ job. HasReceipt job job.state) (jobs_of next eyes parts)
fresh_receipts next eyes [] = tt
fresh_receipts next eyes (part ∷ parts) = (tt, fresh_receipts (next + 1) eyes parts)

-- no job is back yet, and one message more is taken
abbrev Fresh : Sending → Treated → Type 0
Fresh s it = AllByRecursion (λ job. HasReceipt job job.state) it.jobs × (it.sending.taken ≡ s.taken + 1)

taken_fresh : (s : Sending) (index : ℕ) (refusal : Option Refusal) (treated it : Treated) → Fresh s treated → turns.unless_refused index refusal treated ≡ turns.Takes it → Fresh s it
taken_fresh s index None treated it h e = let same : treated ≡ it = cc in subst (λ (t : Treated). Fresh s t) same h
taken_fresh s index (Some refusal) treated it h e = absurd cc

planned_fresh : (s : Sending) (message : List ℕ) (handle : Option Handle) (inlet : Inlet) (deed : Deed) (plan : Result Plan Refusal) (it : Treated) → turns.turn_planned s message handle inlet deed plan ≡ turns.Takes it → Fresh s it
planned_fresh s message handle inlet deed (Ok plan) it e =
    let eyes : List EyeState = eyes_in plan.filling.file.number (note_for deed message s.inlet) in
    let segments : List ℕ = map (λ eye. eye.words) eyes in
    let owed : Owed = owed_by plan segments in
    taken_fresh s s.taken (note_refusal plan segments) (turns.treated_by s message handle inlet plan eyes) it (fresh_receipts s.next_job eyes (parts_of owed.file owed.segments owed.pieces), refl) e
planned_fresh s message handle inlet deed (Err refusal) it e = absurd cc

tracked_fresh : (tables : Tables) (s : Sending) (message : List ℕ) (done : Result Admission ObjectFault) (it : Treated) → turns.turn_step tables s message done ≡ turns.Takes it → Fresh s it
tracked_fresh tables s message (Ok done) it e =
    let way : Way = own_way tables.handles.side in
    let kind : Option HandleKind = kind_carried way done.passed in
    let deed : Deed = deed_of way done.passed in
    let handle : Option Handle = handle_for kind message s.inlet in
    planned_fresh s message handle (inlet_after kind deed message s.inlet) deed (plan_passed tables s.shm message handle done) it e
tracked_fresh tables s message (Err fault) it e = absurd cc

front_fresh : (tables : Tables) (s : Sending) (read : Result (Option (List ℕ)) WireFault) (it : Treated) → turn_front tables s read ≡ turns.Takes it → Fresh s it
front_fresh tables s (Ok None) it e = absurd cc
front_fresh tables s (Ok (Some message)) it e = tracked_fresh tables s message (tracking.step (own_way tables.handles.side) tables.objects.tracked message) it e
front_fresh tables s (Err fault) it e = absurd cc

unless_fresh : (owes : Option Owed) (t : Turn) (it : Treated) → turn_unless owes t ≡ turns.Takes it → t ≡ turns.Takes it
unless_fresh None t it e = e
unless_fresh (Some owed) t it e = absurd cc

turn_fresh : (tables : Tables) (s : Sending) (it : Treated) → turn tables s ≡ turns.Takes it → Fresh s it
unfolding turn
turn_fresh tables s it e = front_fresh tables s (first s.inlet.bytes) it (unless_fresh s.owes (turn_front tables s (first s.inlet.bytes)) it e)

-- ---- a message is taken

-- behind CLOSE nothing waits, so none is
not_made_yet : (s : Now) (book : Book) → Follows s book → (it : Treated) → turn s.live.tables s.live.sending ≡ turns.Takes it → (closing : Closing) → s.kept.closing ≡ closing
    → (has_made_close closing ≡ false) × ClosingFollows closing (is_none it.sending.owes) (waits_in it.sending)
not_made_yet s book f it e Open k = (refl, tt)
not_made_yet s book f it e (Asked reason) k =
    (refl, subst (λ (c : Closing). ClosingFollows c (is_none s.live.sending.owes) (waits_in s.live.sending)) k f.closes)
not_made_yet s book f it e Made k =
    let none : (is_none s.live.sending.owes ≡ true) × (waits_in s.live.sending ≡ false) = subst (λ (c : Closing). ClosingFollows c (is_none s.live.sending.owes) (waits_in s.live.sending)) k f.closes in
    let idle : turn s.live.tables s.live.sending ≡ turns.Idle = waits_idle s.live.tables s.live.sending none.1 in
    absurd (let never : turns.Idle ≡ turns.Takes it = sym idle ∙ e in cc)

taken_jobs : (owes : Option Owed) (owed : Owed) (jobs : List Job) → owes ≡ Some owed → JobsOf owed jobs → AllByRecursion (λ job. HasReceipt job job.state) jobs → JobsFollow owes jobs
taken_jobs owes owed jobs e h r = subst (λ (o : Option Owed). JobsFollow o jobs) (sym e) (h, r)

follows_takes : (s : Now) (book : Book) → Follows s book → (it : Treated) → turn s.live.tables s.live.sending ≡ turns.Takes it → Follows (took (turns.Takes it) s) (book_by s (mark_taken (turns.Takes it)) book)
follows_takes s book f it e =
    let t : IsTaken s.live.tables s.live.sending s.live.taking it = turn_is_lawful s.live.tables s.live.sending s.live.taking it e in
    let yet : (has_made_close s.kept.closing ≡ false) × ClosingFollows s.kept.closing (is_none it.sending.owes) (waits_in it.sending) = not_made_yet s book f it e s.kept.closing refl in
    let before : now s.side f.story ≡ log_of s.live.tables s.live.sending s.live.taking false = f.after ∙ ap (log_of s.live.tables s.live.sending s.live.taking) yet.0 in
    record {
      story = f.story ++ taken_mark it ∷ [];
      tells = tells_mark s.side f.story (taken_mark it) book f.tells;
      log = story_push s.side f.story (taken_mark it) f.log (subst (λ (state : LogState). Lawful state (taken_mark it)) (sym before) t.lawful);
      after = now_push s.side f.story (taken_mark it) ∙ ap (λ state. log_next state (taken_mark it)) before ∙ t.next ∙ ap (log_of it.tables it.sending s.live.taking) (sym yet.0);
      jobs = taken_jobs it.sending.owes t.owed it.jobs t.owes t.jobs (turn_fresh s.live.tables s.live.sending it e).0;
      closes = yet.1;
      link = link_marked s.token book.trail s.live.here f.story (taken_mark it) (accepted_in f.story) (silent_taken f.story (taken_mark it) (heard_push f.story (taken_mark it))) f.link;
      ring = f.ring;
      accepted = f.accepted;
      acknowledged = f.acknowledged;
      closed = places_closed f.story (taken_mark it) s.kept.heard_close f.closed;
      few = f.few;
      taken = omega (arith, (turn_fresh s.live.tables s.live.sending it e).1, f.taken, length-append book.trail.taken (it.message ∷ []));
      token = f.token;
      numbers = f.numbers;
      bytes = f.bytes;
      items = items_same s f.story (taken_mark it) s.live.items book.trail.given refl f.items;
      receipts = f.receipts;
    }

pub follows_took : (s : Now) (book : Book) (event : Event) → Follows s book → TurnDue s event → Follows (step event s) (grown event s book)
unfolding step
follows_took s book event f d =
    subst (λ (e : Event). Follows (step e s) (grown e s book)) (sym d.is)
    (subst (λ (t : Turn). Follows (took t s) (book_by s (mark_taken t) book)) (sym d.takes) (follows_takes s book f d.it d.takes))

-- ---- its group is made

receipts_both : (copies more : List CopyRecord) (items others : List PeerOut) → AreReceipts copies items → AreReceipts more others → AreReceipts (copies ++ more) (items ++ others)
receipts_both [] more [] others h k = k
receipts_both [] more (item ∷ items) others h k = absurd h
receipts_both (copy ∷ copies) more [] others h k = absurd h
receipts_both (copy ∷ copies) more (item ∷ items) others h k = (h.0, receipts_both copies more items others h.1 k)

-- each copy has its receipt
receipts_back : (jobs : List Job) → AllByRecursion (λ job. HasReceipt job job.state) jobs → AreReceipts (copies_of jobs) (map receipt_item (receipts_of jobs))
receipts_back [] h = tt
receipts_back (job ∷ jobs) h = by_state job.state h.0 (receipts_back jobs h.1)
  where
    by_state : (state : JobState) → HasReceipt job state → AreReceipts (copies_of jobs) (map receipt_item (receipts_of jobs))
        → AreReceipts (cons_option (copied job.part job.low state) (copies_of jobs)) (map receipt_item (cons_option (receipt_in job.part state) (receipts_of jobs)))
    by_state (Waits eye) k rest = rest
    by_state IsOut k rest = rest
    by_state (IsBack words receipt) k rest = (record { receipt = receipt; is = refl; high = refl; loads = k }, rest)

-- what is made is of all jobs
made_all : (owed : Owed) (jobs : List Job) (made : MadeGroup) → group_due (Some owed) jobs ≡ Some made → made ≡ made_of owed jobs
made_all owed jobs made e = go (all_back jobs) e
  where
    go : (b : Bool) → (if b then Some (made_of owed jobs) else None) ≡ Some made → made ≡ made_of owed jobs
    go true d = cc
    go false d = absurd cc

-- what the group of the message that is owed is, and its receipts
pub record Owing (s : Now) (made : MadeGroup) : Type 0 where
  pub owed : Owed
  pub owes : s.live.sending.owes ≡ Some owed
  pub is_group : IsGroup owed made.copies made.frames
  pub receipts : AreReceipts made.copies (map receipt_item made.receipts)

pub owing : (s : Now) (book : Book) → Follows s book → (made : MadeGroup) → group_due s.live.sending.owes s.kept.jobs ≡ Some made → Owing s made
owing s book f made e = by_owes s.live.sending.owes refl f.jobs e
  where
    by_owes : (owes : Option Owed) → s.live.sending.owes ≡ owes → JobsFollow owes s.kept.jobs → group_due owes s.kept.jobs ≡ Some made → Owing s made
    by_owes None k j d = absurd cc
    by_owes (Some owed) k j d = record {
      owed = owed;
      owes = k;
      is_group = group_is_lawful owed s.kept.jobs made j.0 d;
      receipts = subst (λ (m : MadeGroup). AreReceipts m.copies (map receipt_item m.receipts)) (sym (made_all owed s.kept.jobs made d)) (receipts_back s.kept.jobs j.1);
    }

closes_grouped : (closing : Closing) (owes : Bool) (waits : Bool) → ClosingFollows closing owes waits → ClosingFollows closing true waits
closes_grouped Open owes waits h = tt
closes_grouped (Asked reason) owes waits h = h
closes_grouped Made owes waits h = (refl, h.1)

follows_made : (s : Now) (book : Book) → Follows s book → (made : MadeGroup) → group_due s.live.sending.owes s.kept.jobs ≡ Some made → Follows (grouped (Some made) s) (book_by s (mark_grouped (Some made)) book)
follows_made s book f made e =
    let mark : Mark = marks.Grouped made.frames made.copies in
    let o : Owing s made = owing s book f made e in
    let lawful : MayMake (log_state s) s.live.sending.owes made.frames made.copies = subst (λ (owes : Option Owed). MayMake (log_state s) owes made.frames made.copies) (sym o.owes) o.is_group in
    record {
      story = f.story ++ mark ∷ [];
      tells = tells_mark s.side f.story mark book f.tells;
      log = story_push s.side f.story mark f.log (subst (λ (state : LogState). Lawful state mark) (sym f.after) lawful);
      after = now_push s.side f.story mark ∙ ap (λ state. log_next state mark) f.after ∙ ap (λ owes. after_group (log_state s) owes made.frames) o.owes;
      jobs = tt;
      closes = closes_grouped s.kept.closing (is_none s.live.sending.owes) (waits_in s.live.sending) f.closes;
      link = link_grouped s book f made.frames made.copies;
      ring = pushed_all book.trail.made s.kept.ring made.frames f.ring;
      accepted = f.accepted;
      acknowledged = f.acknowledged;
      closed = places_closed f.story mark s.kept.heard_close f.closed;
      few = f.few;
      taken = f.taken;
      token = f.token;
      numbers = f.numbers;
      bytes = f.bytes;
      items = items_same s f.story mark s.live.items book.trail.given refl f.items;
      receipts = record {
        gone = f.receipts.gone;
        all = subst (λ (items : List PeerOut). AreReceipts (book.trail.copies ++ made.copies) items) (append_assoc f.receipts.gone s.live.receipts (map receipt_item made.receipts))
            (receipts_both book.trail.copies made.copies (f.receipts.gone ++ s.live.receipts) (map receipt_item made.receipts) f.receipts.all o.receipts);
      };
    }

pub follows_grouped : (s : Now) (book : Book) (event : Event) → Follows s book → GroupDue s event → Follows (step event s) (grown event s book)
unfolding step
follows_grouped s book event f d =
    subst (λ (e : Event). Follows (step e s) (grown e s book)) (sym d.is)
    (subst (λ (m : Option MadeGroup). Follows (grouped m s) (book_by s (mark_grouped m) book)) (sym d.due) (follows_made s book f d.made d.due))

-- ---- CLOSE is made

close_fits : (reason : ℕ) → IsWord reason → IsFrame (frames.Close reason)
close_fits reason w = record { fields = w; fits = omega (arith, length-word_bytes reason) }

follows_close : (s : Now) (book : Book) → Follows s book → (reason : ℕ) → s.kept.closing ≡ Asked reason → s.live.sending.owes ≡ None → waits_in s.live.sending ≡ false
    → Follows (ended (Asked reason) s) (book_by s (mark_ended (Asked reason)) book)
follows_close s book f reason asked none still =
    let mark : Mark = marks.Grouped (frames.Close reason ∷ []) [] in
    let word : IsWord reason = subst (λ (c : Closing). ClosingFollows c (is_none s.live.sending.owes) (waits_in s.live.sending)) asked f.closes in
    let yet : has_made_close s.kept.closing ≡ false = ap has_made_close asked in
    let lawful : MayMake (log_state s) s.live.sending.owes (frames.Close reason ∷ []) [] =
    subst (λ (owes : Option Owed). MayMake (log_state s) owes (frames.Close reason ∷ []) []) (sym none) (refl, record { goes_on = yet; is_frame = close_fits reason word; may = refl }) in
    record {
      story = f.story ++ mark ∷ [];
      tells = tells_mark s.side f.story mark book f.tells;
      log = story_push s.side f.story mark f.log (subst (λ (state : LogState). Lawful state mark) (sym f.after) lawful);
      after = now_push s.side f.story mark ∙ ap (λ state. log_next state mark) f.after ∙ ap (λ owes. after_group (log_state s) owes (frames.Close reason ∷ [])) none;
      jobs = f.jobs;
      closes = (ap is_none none, still);
      link = link_grouped s book f (frames.Close reason ∷ []) [];
      ring = pushed_all book.trail.made s.kept.ring (frames.Close reason ∷ []) f.ring;
      accepted = f.accepted;
      acknowledged = f.acknowledged;
      closed = places_closed f.story mark s.kept.heard_close f.closed;
      few = f.few;
      taken = f.taken;
      token = f.token;
      numbers = f.numbers;
      bytes = f.bytes;
      items = items_same s f.story mark s.live.items book.trail.given refl f.items;
      receipts = subst (λ (copies : List CopyRecord). GivesReceipts copies s.live.receipts) (sym (append-nil book.trail.copies)) f.receipts;
    }

pub follows_ended : (s : Now) (book : Book) (event : Event) → Follows s book → EndDue s event → Follows (step event s) (grown event s book)
unfolding step
follows_ended s book event f d =
    subst (λ (e : Event). Follows (step e s) (grown e s book)) (sym d.is)
    (subst (λ (c : Closing). Follows (ended c s) (book_by s (mark_ended c) book)) (sym d.asked) (follows_close s book f d.reason d.asked d.owes_none d.waits_none))

-- ---- a front is chosen

ack_fits : (count : ℕ) → count ≤ MOST_FRAMES → IsFrame (frames.Ack count)
ack_fits count l = record { fields = omega arith; fits = omega (arith, length-long_bytes count) }

pub made_good : (s : Now) (book : Book) → Follows s book → AreGood book.trail.made
made_good s book f = subst (λ (fs : List Frame). AreGood fs) (sym f.tells.made) (made_is_good.good s.side f.story f.log)

-- the bytes that the ring holds are those of the frame made
same_chosen : (s : Now) (book : Book) (f : Follows s book) (here : Here) → GoesOn s.token (side_of book.trail (places_in f.story) None) (accepted_in f.story) here
    → chosen book.trail.accepted (bytes_at book.trail.made here.next) here ≡ chosen s.kept.accepted (ring_at here.next s.kept.ring) here
same_chosen s book f here g = by_answer here.answer refl ∙ ap (λ n. chosen n (ring_at here.next s.kept.ring) here) f.accepted
  where
    counts : AreCounts (length book.trail.made) book.trail.acknowledged here
    counts = here_counts s.token (side_of book.trail (places_in f.story) None) here g.stands

    by_answer : (answer : Option ℕ) → here.answer ≡ answer → chosen book.trail.accepted (bytes_at book.trail.made here.next) here ≡ chosen book.trail.accepted (ring_at here.next s.kept.ring) here
    by_answer None e =
        let pick : (bytes : Option (List ℕ)) → pick_after here.answer here.told book.trail.accepted bytes ≡ Nothing = λ bytes. ap (λ answer. pick_after answer here.told book.trail.accepted bytes) e in
        ap (λ p. picked (pick_behind here.front p) here) (pick (bytes_at book.trail.made here.next) ∙ sym (pick (ring_at here.next s.kept.ring)))
    by_answer (Some p) e =
        let known : (p + here.whole + cond here.counts 1 0 ≡ here.next) × (here.next ≤ length book.trail.made) × (book.trail.acknowledged ≤ p + here.whole) = counts.answered p e in
        let low : s.kept.ring.acknowledged ≤ here.next = omega (arith, known.0, known.2, f.acknowledged) in
        ap (λ bytes. chosen book.trail.accepted bytes here) (sym (at_index book.trail.made s.kept.ring here.next f.ring low))

link_chosen : (s : Now) (book : Book) (f : Follows s book) (here : Option Here) → LinkFollows s.token (side_of book.trail (places_in f.story) None) (accepted_in f.story) here
    → LinkFollows s.token (side_of book.trail (places_in f.story) None) (accepted_in f.story) (option_map (λ h. chosen book.trail.accepted (bytes_at book.trail.made h.next) h) here)
    → LinkFollows s.token (side_of book.trail (places_in f.story) None) (accepted_in f.story) (option_map (λ h. chosen s.kept.accepted (ring_at h.next s.kept.ring) h) here)
link_chosen s book f None g h = h
link_chosen s book f (Some here) g h = subst (λ (x : Here). GoesOn s.token (side_of book.trail (places_in f.story) None) (accepted_in f.story) x) (same_chosen s book f here g) h

bytes_chosen : (accepted : ℕ) (ring : RingState) (here : Option Here) → MatchOption here (Unit {0}) (λ h. IsBytes h.unread) → MatchOption (option_map (λ h. chosen accepted (ring_at h.next ring) h) here) (Unit {0}) (λ h. IsBytes h.unread)
bytes_chosen accepted ring None h = tt
bytes_chosen accepted ring (Some here) h = subst (λ (bytes : List ℕ). IsBytes bytes) (sym (picked_unread (picks accepted (ring_at here.next ring) here) here)) h

follows_choice : (s : Now) (book : Book) → Follows s book → Follows (step Chose s) (grown Chose s book)
unfolding step
follows_choice s book f =
    let good : AreGood book.trail.made = made_good s book f in
    record {
      story = f.story;
      tells = f.tells;
      log = f.log;
      after = f.after;
      jobs = f.jobs;
      closes = f.closes;
      link = link_chosen s book f s.live.here f.link
          (link_chose s.token (side_of book.trail (places_in f.story) None) (accepted_in f.story) s.live.here good.are_frames good.count (ack_fits book.trail.accepted (omega (arith, f.accepted, f.few))) f.link);
      ring = f.ring;
      accepted = f.accepted;
      acknowledged = f.acknowledged;
      closed = f.closed;
      few = f.few;
      taken = f.taken;
      token = f.token;
      numbers = f.numbers;
      bytes = bytes_chosen s.kept.accepted s.kept.ring s.live.here f.bytes;
      items = f.items;
      receipts = f.receipts;
    }

pub follows_chose : (s : Now) (book : Book) (event : Event) → Follows s book → ChoiceDue s event → Follows (step event s) (grown event s book)
follows_chose s book event f d = subst (λ (e : Event). Follows (step e s) (grown e s book)) (sym d.is) (follows_choice s book f)
