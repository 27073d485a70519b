-- Which messages pass in an event, and what those use that are taken.
use Rattle.std.proofs.Common.{◌≡◌, ℕ, List, [], ◌∷◌, ◌++◌, map, Bool, true, false, if◌then◌else◌, Option, Some, None, Result, Ok, Err, refl, sym, ap, subst, ◌∙◌, append_assoc}
use Rattle.std.proofs.lemmas.List.{append-nil, map-append}
use Rattle.std.proofs.lemmas.List.Concat.{flat_map-append}
use Rattle.std.specs.Prelude.{is_none}
use Rattle.std.specs.Option.{MatchOption}
use Rattle.wp_outside.specs.declared.kinds.Side.{Side}
use Rattle.wp_outside.specs.declared.kinds.Side.TheVariants.{Near, Far}
use Rattle.wl_tables.specs.declared.way.Way.{Way}
use Rattle.wl_tables.specs.Ways.{own_way}
use Rattle.wl_wire.specs.declared.faults.ObjectFault.{ObjectFault}
use Rattle.wl_objects.specs.Entries.{Tracked, first_objects}
use Rattle.wl_objects.specs.Tracking.{Admission, step, track, then_goes}
use Rattle.transfer_frames.specs.declared.frame.Frame.{Frame}
use Rattle.transfer_frames.specs.Grammar.{role}
use Rattle.transfer_frames.specs.Numbers.{IsBytes}
use Rattle.transfer_frames.proofs.FrontLaws.{front-is_frame}
use Rattle.half_model.specs.Content.{content_fault}
use Rattle.half_model.specs.Log as marks
use Rattle.half_model.specs.Log.{Mark, LogState, Lawful, log_next}
use Rattle.half_model.specs.PipeTurn as pipes
use Rattle.half_model.specs.PipeTurn.{PipeTurn, pipe_turn, named_turn, made_turn, item_by_rid, with_pipes}
use Rattle.half_model.specs.Sides.{other_way}
use Rattle.half_model.specs.Story.{order_in, passed_by, messages_of}
use Rattle.half_model.specs.StoryLaws.{now}
use Rattle.half_model.specs.Tables.{Tables}
use Rattle.half_model.specs.Content.{Taking}
use Rattle.half_model.specs.Turn as turns
use Rattle.half_model.specs.Turn.{turn, Treated, waits_in}
use Rattle.half_model.specs.TurnLaws.{log_of, IsTaken, taken_mark}
use Rattle.half_model.proofs.Shown.{order_is_tracked}
use Rattle.half_model.proofs.Sound.{sound_now}
use Rattle.half_model.proofs.Turns.{turn_is_lawful}
use Rattle.pair_model.specs.LinkFaults.{link_fault}
use Rattle.pair_model.specs.Refusals.{first_cause}
use Rattle.pair_model.specs.Steps.{Here}
use Rattle.pipe_relay.specs.Pipes.{is_unknown, after_item, frame_of_item}
use Rattle.wp_outside.specs.declared.pipe_items.PipeItem.{PipeItem}
use Rattle.transfer_frames.specs.declared.cause.FrameCause.{FrameCause}
use Rattle.side_model.specs.Books.{Book, marked_order}
use Rattle.side_model.specs.Due.{judge_in}
use Rattle.side_model.specs.Events.{Event}
use Rattle.side_model.specs.Follows.{Follows, ClosingFollows}
use Rattle.side_model.specs.Shows.{has_made_close}
use Rattle.side_model.specs.State.{Now, Closing, Open, Asked, Made}
use Rattle.side_model.proofs.Calms.{waits_idle}
use Rattle.side_model.proofs.Dues.{FrameDue}
use Rattle.side_model.proofs.Stories.{now_push, story_push}
use Rattle.pair_runs.specs.Leaving.{Use, use_of, own_use, uses_next, uses_by, Passes}
use Rattle.pair_runs.proofs.Turning.{LeftBy}

-- ---- an order in two parts

pub track_on : (objects after : Tracked) (xs ys : List (Way × List ℕ)) → track objects xs ≡ Ok after → track objects (xs ++ ys) ≡ track after ys
track_on objects after [] ys e = let same : objects ≡ after = cc in ap (λ (o : Tracked). track o ys) same
track_on objects after (x ∷ xs) ys e = by_step (step x.0 objects x.1) (λ o k. track_on o after xs ys k) e
  where
    by_step : (r : Result Admission ObjectFault) → ((o : Tracked) → track o xs ≡ Ok after → track o (xs ++ ys) ≡ track after ys) → then_goes r (λ done. track done.objects xs) ≡ Ok after
        → then_goes r (λ done. track done.objects (xs ++ ys)) ≡ track after ys
    by_step (Ok done) more k = more done.objects k
    by_step (Err fault) more k = absurd cc

uses_on : (side : Side) (objects after : Tracked) (xs ys : List (Way × List ℕ)) → track objects xs ≡ Ok after → uses_by side objects (xs ++ ys) ≡ uses_by side objects xs ++ uses_by side after ys
uses_on side objects after [] ys e = let same : objects ≡ after = cc in ap (λ (o : Tracked). uses_by side o ys) same
uses_on side objects after (x ∷ xs) ys e = by_step (step x.0 objects x.1) (λ o k. uses_on side o after xs ys k) e
  where
    by_step : (r : Result Admission ObjectFault) → ((o : Tracked) → track o xs ≡ Ok after → uses_by side o (xs ++ ys) ≡ uses_by side o xs ++ uses_by side after ys) → then_goes r (λ done. track done.objects xs) ≡ Ok after
        → uses_next side x r (λ o. uses_by side o (xs ++ ys)) ≡ uses_next side x r (λ o. uses_by side o xs) ++ uses_by side after ys
    by_step (Ok done) more k =
        ap (λ (uses : List Use). own_use side x.0 x.1 done ++ uses) (more done.objects k)
        ∙ sym (append_assoc (own_use side x.0 x.1 done) (uses_by side done.objects xs) (uses_by side after ys))
    by_step (Err fault) more k = absurd cc

abbrev pub passes_same : (side : Side) (objects : Tracked) (ways : List Way) → Passes side [] objects objects ways ways
passes_same side objects ways = record { order = []; tracked = refl; uses_are = refl; ways_are = sym (append-nil ways) }

abbrev way_in : Way × List ℕ → Way
way_in passed = passed.0

pub passes_then : (side : Side) (us vs : List Use) (a b c : Tracked) (ws xs ys : List Way) → Passes side us a b ws xs → Passes side vs b c xs ys → Passes side (us ++ vs) a c ws ys
passes_then side us vs a b c ws xs ys f g = record {
  order = f.order ++ g.order;
  tracked = track_on a b f.order g.order f.tracked ∙ g.tracked;
  uses_are =
      ap (λ (uses : List Use). uses ++ vs) f.uses_are ∙ ap (λ (uses : List Use). uses_by side a f.order ++ uses) g.uses_are
      ∙ sym (uses_on side a b f.order g.order f.tracked);
  ways_are =
      g.ways_are ∙ ap (λ (ways : List Way). ways ++ map (λ (it : Way × List ℕ). it.0) g.order) f.ways_are
      ∙ append_assoc ws (map (λ (it : Way × List ℕ). it.0) f.order) (map (λ (it : Way × List ℕ). it.0) g.order)
      ∙ ap (λ (ways : List Way). ws ++ ways) (sym (map-append (λ (it : Way × List ℕ). it.0) f.order g.order));
}

-- ---- a mark

pub same_side : (s : Now) (book : Book) → Follows s book → s.live.tables.handles.side ≡ s.side
same_side s book f = ap (λ (state : LogState). state.tables.handles.side) (sym f.after) ∙ (sound_now s.side f.story f.log).tables.0

abbrev tracked_as : Tracked → Result Tracked ObjectFault
tracked_as objects = Ok objects

pub tracked_there : (s : Now) (book : Book) (f : Follows s book) → track first_objects (order_in s.side f.story) ≡ Ok s.live.tables.objects.tracked
tracked_there s book f = order_is_tracked.tracked s.side f.story f.log ∙ ap (λ (state : LogState). tracked_as state.tables.objects.tracked) f.after

mark_tracked : (s : Now) (book : Book) (f : Follows s book) (mark : Mark) → Lawful (now s.side f.story) mark
    → track s.live.tables.objects.tracked (passed_by s.side mark) ≡ Ok (log_next (now s.side f.story) mark).tables.objects.tracked
mark_tracked s book f mark lawful =
    let order : order_in s.side (f.story ++ mark ∷ []) ≡ order_in s.side f.story ++ passed_by s.side mark =
    flat_map-append (passed_by s.side) f.story (mark ∷ []) ∙ ap (λ (more : List (Way × List ℕ)). order_in s.side f.story ++ more) (append-nil (passed_by s.side mark)) in
    sym (track_on first_objects s.live.tables.objects.tracked (order_in s.side f.story) (passed_by s.side mark) (tracked_there s book f))
    ∙ ap (track first_objects) (sym order)
    ∙ order_is_tracked.tracked s.side (f.story ++ mark ∷ []) (story_push s.side f.story mark f.log lawful)
    ∙ ap (λ (state : LogState). tracked_as state.tables.objects.tracked) (now_push s.side f.story mark)

-- ---- a frame is heard

none_used : (side : Side) (objects : Tracked) (messages : List (List ℕ)) → uses_by side objects (map (λ message. (other_way side, message)) messages) ≡ []
none_used side objects [] = refl
none_used side objects (message ∷ messages) = by_step (step (other_way side) objects message) (λ o. none_used side o messages)
  where
    no_use : (side : Side) (done : Admission) → own_use side (other_way side) message done ≡ []
    no_use Near done = refl
    no_use Far done = refl

    by_step : (r : Result Admission ObjectFault) → ((o : Tracked) → uses_by side o (map (λ m. (other_way side, m)) messages) ≡ [])
        → uses_next side (other_way side, message) r (λ o. uses_by side o (map (λ m. (other_way side, m)) messages)) ≡ []
    by_step (Ok done) more = ap (λ (uses : List Use). uses ++ uses_by side done.objects (map (λ m. (other_way side, m)) messages)) (no_use side done) ∙ more done.objects
    by_step (Err fault) more = refl

other_ways : (side : Side) (messages : List (List ℕ)) → map (λ message. other_way side) messages ≡ map (λ (it : Way × List ℕ). it.0) (map (λ message. (other_way side, message)) messages)
other_ways side [] = refl
other_ways side (message ∷ messages) = ap (λ (ways : List Way). other_way side ∷ ways) (other_ways side messages)

first_none : (one other : Option FrameCause) → first_cause one other ≡ None → other ≡ None
first_none None other e = e
first_none (Some cause) other e = absurd cc

pub heard_passes : (s : Now) (book : Book) (f : Follows s book) (event : Event) (d : FrameDue s event)
    → Passes s.side [] s.live.tables.objects.tracked (log_next (now s.side f.story) (marks.Heard d.frame)).tables.objects.tracked book.order (marked_order s.side (Some (marks.Heard d.frame)) book.order)
heard_passes s book f event d =
    let bytes : IsBytes d.here.unread = subst (λ (here : Option Here). MatchOption here (Unit {0}) (λ h. IsBytes h.unread)) d.is_here f.bytes in
    let accepted : content_fault s.live.tables s.live.taking d.frame ≡ None =
    first_none (link_fault (judge_in s.token s.kept.ring s.kept.accepted s.kept.heard_close d.here) d.here.answer (role d.frame)) (content_fault s.live.tables s.live.taking d.frame) d.passes in
    let lawful : Lawful (now s.side f.story) (marks.Heard d.frame) = record {
      is_frame = (front-is_frame d.here.unread d.frame bytes d.stands).0;
      accepted = ap (λ (state : LogState). content_fault state.tables state.taking d.frame) f.after ∙ accepted;
    } in
    record {
      order = passed_by s.side (marks.Heard d.frame);
      tracked = mark_tracked s book f (marks.Heard d.frame) lawful;
      uses_are = sym (none_used s.side s.live.tables.objects.tracked (messages_of d.frame));
      ways_are = ap (λ (ways : List Way). book.order ++ ways) (other_ways s.side (messages_of d.frame));
    }

-- ---- a message is taken

-- behind CLOSE nothing waits
not_made_yet : (s : Now) (book : Book) → Follows s book → (it : Treated) → turn s.live.tables s.live.sending ≡ turns.Takes it → (closing : Closing) → s.kept.closing ≡ closing → has_made_close closing ≡ false
not_made_yet s book f it e Open k = refl
not_made_yet s book f it e (Asked reason) k = refl
not_made_yet s book f it e Made k =
    let none : (is_none s.live.sending.owes ≡ true) × (waits_in s.live.sending ≡ false) = subst (λ (c : Closing). ClosingFollows c (is_none s.live.sending.owes) (waits_in s.live.sending)) k f.closes in
    let idle : turn s.live.tables s.live.sending ≡ turns.Idle = waits_idle s.live.tables s.live.sending none.1 in
    absurd (let never : turns.Idle ≡ turns.Takes it = sym idle ∙ e in cc)

pub taken_before : (s : Now) (book : Book) (f : Follows s book) (it : Treated) → turn s.live.tables s.live.sending ≡ turns.Takes it → now s.side f.story ≡ log_of s.live.tables s.live.sending s.live.taking false
taken_before s book f it e = f.after ∙ ap (log_of s.live.tables s.live.sending s.live.taking) (not_made_yet s book f it e s.kept.closing refl)

one_use : (side : Side) (objects : Tracked) (message : List ℕ) (done : Admission) → step (own_way side) objects message ≡ Ok done → use_of (own_way side) message done ∷ [] ≡ uses_by side objects ((own_way side, message) ∷ [])
one_use side objects message done e =
    own side
    ∙ ap (λ (r : Result Admission ObjectFault). uses_next side (own_way side, message) r (λ o. [])) (sym e)
  where
    own : (side : Side) → use_of (own_way side) message done ∷ [] ≡ own_use side (own_way side) message done ++ []
    own Near = refl
    own Far = refl

pub took_passes : (s : Now) (book : Book) (f : Follows s book) (it : Treated) → turn s.live.tables s.live.sending ≡ turns.Takes it → (left : LeftBy s.live.tables s.live.sending it)
    → Passes s.side (use_of (own_way s.live.tables.handles.side) it.message left.done ∷ []) s.live.tables.objects.tracked it.tables.objects.tracked book.order (book.order ++ own_way s.side ∷ [])
took_passes s book f it e left =
    let t : IsTaken s.live.tables s.live.sending s.live.taking it = turn_is_lawful s.live.tables s.live.sending s.live.taking it e in
    let before : now s.side f.story ≡ log_of s.live.tables s.live.sending s.live.taking false = taken_before s book f it e in
    let lawful : Lawful (now s.side f.story) (taken_mark it) = subst (λ (state : LogState). Lawful state (taken_mark it)) (sym before) t.lawful in
    let after : log_next (now s.side f.story) (taken_mark it) ≡ log_of it.tables it.sending s.live.taking false = ap (λ (state : LogState). log_next state (taken_mark it)) before ∙ t.next in
    let side : s.live.tables.handles.side ≡ s.side = same_side s book f in
    record {
      order = (own_way s.side, it.message) ∷ [];
      tracked = mark_tracked s book f (taken_mark it) lawful ∙ ap (λ (state : LogState). tracked_as state.tables.objects.tracked) after;
      uses_are =
          ap (λ (sd : Side). use_of (own_way sd) it.message left.done ∷ []) side
          ∙ one_use s.side s.live.tables.objects.tracked it.message left.done (ap (λ (sd : Side). step (own_way sd) s.live.tables.objects.tracked it.message) (sym side) ∙ left.steps);
      ways_are = refl;
    }

-- ---- an item for a pipe leaves the objects

abbrev pub objects_in : Tables → PipeTurn → Tracked
objects_in tables pipes.Barred = tables.objects.tracked
objects_in tables (pipes.Drops other) = other.objects.tracked
objects_in tables (pipes.Makes frame other) = other.objects.tracked

pub pipe_objects : (tables : Tables) (taking : Taking) (item : PipeItem) → objects_in tables (pipe_turn tables taking item) ≡ tables.objects.tracked
pipe_objects tables taking item = by_named (item_by_rid tables.handles taking.held item)
  where
    by_made : (it : PipeItem) (made : Option Frame) → objects_in tables (made_turn (with_pipes (after_item tables.pipes it) tables) made) ≡ tables.objects.tracked
    by_made it None = refl
    by_made it (Some frame) = refl

    by_known : (it : PipeItem) (b : Bool) → objects_in tables (if b then pipes.Barred else made_turn (with_pipes (after_item tables.pipes it) tables) (frame_of_item tables.pipes it)) ≡ tables.objects.tracked
    by_known it true = refl
    by_known it false = by_made it (frame_of_item tables.pipes it)

    by_named : (named : Option PipeItem) → objects_in tables (named_turn tables named) ≡ tables.objects.tracked
    by_named None = refl
    by_named (Some it) = by_known it (is_unknown tables.pipes it)
