-- What a side's frames show is what is to be shown of its order of passing, and that order is tracked.
use Rattle.std.proofs.Common.{◌≡◌, ℕ, List, [], ◌∷◌, ◌++◌, Option, Some, None, Result, Ok, option_to_list, refl, sym, ap, ◌∙◌, subst}
use Rattle.wp_outside.specs.declared.kinds.Side.{Side}
use Rattle.wp_outside.specs.declared.kinds.Side.TheVariants.{Far}
use Rattle.wl_wire.specs.declared.faults.ObjectFault.{ObjectFault}
use Rattle.wl_wire.specs.Wire.{cut}
use Rattle.wl_tables.specs.declared.way.Way.{Way}
use Rattle.wl_tables.specs.declared.way.Way.TheVariants.{Request, Event}
use Rattle.wl_objects.specs.Registry.{ObjectsState, View, view, visible, shown_then, state_after, after_then}
use Rattle.wl_objects.specs.Tracking.{Admission, step, track, then_goes}
use Rattle.handle_table.specs.declared.handles.Handle.{Handle}
use Rattle.transfer_frames.specs.declared.cause.FrameCause.{FrameCause}
use Rattle.transfer_frames.specs.declared.frame.Frame.{Frame}
use Rattle.transfer_frames.specs.declared.frame.Frame.TheVariants.{Protocol, Inject, OpenFile, ExtendFile, Fill, OpenPipe, PipeTransfer, PipeShutR, PipeShutW, Ack, Restart, Close}
use Rattle.half_model.specs.Content.{Taking, Passage, passage_of, pass_all, heard_messages}
use Rattle.half_model.specs.Group.{Owed}
use Rattle.half_model.specs.Log.{Mark, Taken, Heard, Grouped, Dropped, LogState, log_new, MayTake, MayHear, after_lone, after_group, log_next, Logs, log_after}
use Rattle.half_model.specs.Planning.{Plan, seen_from, seen_in}
use Rattle.half_model.specs.Sides.{other_way}
use Rattle.wl_tables.specs.Ways.{own_way}
use Rattle.half_model.specs.Story.{messages_of, order_in, owed_messages}
use Rattle.half_model.specs.StoryLaws.{OrderIsTracked}
use Rattle.half_model.specs.Tables.{Tables}
use Rattle.half_model.proofs.Passages.{ways, track-passed, visible-passed, state-passed, passage_new, IsAccepted, accepted}
use Rattle.half_model.proofs.Sound.{Sound, IsPassed, passed, after_taken, sound_next, sound_new}

-- ---- a frame that is heard

pub heard-ok : (tables : Tables) (taking : Taking) (bytes : List ℕ) (a : IsAccepted tables taking bytes) → (heard_messages tables taking (passage_of tables taking bytes)).tables.objects ≡ record { tracked = a.after.tracked; hidden = tables.objects.hidden }
heard-ok tables taking bytes a = ap (λ (r : Result Passage FrameCause). (heard_messages tables taking r).tables.objects) a.is

heard_tracked : (side : Side) (s : LogState) (frame : Frame) (rest : List (Way × List ℕ)) → s.tables.handles.side ≡ side → MayHear s frame
    → track s.tables.objects.tracked (ways (other_way side) (messages_of frame) ++ rest) ≡ track (log_next s (Heard frame)).tables.objects.tracked rest
heard_tracked side s (Protocol bytes) rest is may =
    let a = accepted s.tables s.taking bytes may.accepted in
    ap (λ (sd : Side). track s.tables.objects.tracked (ways (other_way sd) (cut bytes) ++ rest)) (sym is)
    ∙ track-passed (other_way s.tables.handles.side) s.tables.handles (cut bytes) (passage_new s.tables s.taking) a.after rest a.all
    ∙ ap (λ (o : ObjectsState). track o.tracked rest) (sym (heard-ok s.tables s.taking bytes a))
heard_tracked side s (Inject rids) rest is may = refl
heard_tracked side s (OpenFile rid size) rest is may = refl
heard_tracked side s (ExtendFile rid size) rest is may = refl
heard_tracked side s (Fill rid start end bytes) rest is may = refl
heard_tracked side s (OpenPipe rid) rest is may = refl
heard_tracked side s (PipeTransfer rid bytes) rest is may = refl
heard_tracked side s (PipeShutR rid) rest is may = refl
heard_tracked side s (PipeShutW rid) rest is may = refl
heard_tracked side s (Ack count) rest is may = refl
heard_tracked side s (Restart token connection received) rest is may = refl
heard_tracked side s (Close reason) rest is may = refl

-- the same at the far side, where the hidden pairs count
far_passed : (X : Type 0) (f : ObjectsState → List (Way × List ℕ) → X)
    → ((s : LogState) (bytes : List ℕ) (rest : List (Way × List ℕ)) (a : IsAccepted s.tables s.taking bytes) → s.tables.handles.side ≡ Far
    → f s.tables.objects (ways Request (cut bytes) ++ rest) ≡ f (record { tracked = a.after.tracked; hidden = s.tables.objects.hidden }) rest)
    → (s : LogState) (frame : Frame) (rest : List (Way × List ℕ)) → s.tables.handles.side ≡ Far → MayHear s frame
    → f s.tables.objects (ways Request (messages_of frame) ++ rest) ≡ f (log_next s (Heard frame)).tables.objects rest
far_passed X f go s (Protocol bytes) rest is may =
    let a = accepted s.tables s.taking bytes may.accepted in
    go s bytes rest a is ∙ ap (λ (o : ObjectsState). f o rest) (sym (heard-ok s.tables s.taking bytes a))
far_passed X f go s (Inject rids) rest is may = refl
far_passed X f go s (OpenFile rid size) rest is may = refl
far_passed X f go s (ExtendFile rid size) rest is may = refl
far_passed X f go s (Fill rid start end bytes) rest is may = refl
far_passed X f go s (OpenPipe rid) rest is may = refl
far_passed X f go s (PipeTransfer rid bytes) rest is may = refl
far_passed X f go s (PipeShutR rid) rest is may = refl
far_passed X f go s (PipeShutW rid) rest is may = refl
far_passed X f go s (Ack count) rest is may = refl
far_passed X f go s (Restart token connection received) rest is may = refl
far_passed X f go s (Close reason) rest is may = refl

-- at the far side the messages of a frame are requests
far_requests : (s : LogState) (bytes : List ℕ) (a : IsAccepted s.tables s.taking bytes) → s.tables.handles.side ≡ Far
    → pass_all Request s.tables.handles (cut bytes) (passage_new s.tables s.taking) ≡ Ok a.after
far_requests s bytes a is =
    let P : Side → Type 0 = λ sd. pass_all (other_way sd) s.tables.handles (cut bytes) (passage_new s.tables s.taking) ≡ Ok a.after in
    subst P is a.all

pub heard_visible : (s : LogState) (frame : Frame) (rest : List (Way × List ℕ)) → s.tables.handles.side ≡ Far → MayHear s frame
    → visible s.tables.objects (ways Request (messages_of frame) ++ rest) ≡ visible (log_next s (Heard frame)).tables.objects rest
heard_visible = far_passed (List (List ℕ)) visible
    (λ s bytes rest a is. visible-passed s.tables.handles (cut bytes) (passage_new s.tables s.taking) a.after s.tables.objects.hidden rest (far_requests s bytes a is))

heard_state : (s : LogState) (frame : Frame) (rest : List (Way × List ℕ)) → s.tables.handles.side ≡ Far → MayHear s frame
    → state_after s.tables.objects (ways Request (messages_of frame) ++ rest) ≡ state_after (log_next s (Heard frame)).tables.objects rest
heard_state = far_passed ObjectsState state_after
    (λ s bytes rest a is. state-passed s.tables.handles (cut bytes) (passage_new s.tables s.taking) a.after s.tables.objects.hidden rest (far_requests s bytes a is))

-- ---- a message that is taken

-- the objects behind it, and what is shown of it
pub taken_objects : (s : LogState) (message : List ℕ) (handle : Option Handle) (segments : List ℕ) (p : IsPassed s message handle segments)
    → (log_next s (Taken message handle segments)).tables.objects
    ≡ record { tracked = p.done.objects; hidden = (seen_in s.tables message p.done).hidden }
taken_objects s message handle segments p =
    ap (λ (t : LogState). t.tables.objects) (after_taken s message handle segments p)
    ∙ ap (λ (it : Plan). it.tables.objects) (sym p.is_planned.is)

pub taken_shown : (s : LogState) (message : List ℕ) (handle : Option Handle) (segments : List ℕ) (p : IsPassed s message handle segments)
    → owed_messages (log_next s (Taken message handle segments)).owes ≡ option_to_list (seen_in s.tables message p.done).shown
taken_shown s message handle segments p =
    ap (λ (t : LogState). owed_messages t.owes) (after_taken s message handle segments p)
    ∙ ap (λ (it : Plan). option_to_list it.shown) (sym p.is_planned.is)

taken_tracked : (side : Side) (s : LogState) (message : List ℕ) (handle : Option Handle) (segments : List ℕ) (rest : List (Way × List ℕ))
    → s.tables.handles.side ≡ side → MayTake s message handle segments
    → track s.tables.objects.tracked ((own_way side, message) ∷ rest) ≡ track (log_next s (Taken message handle segments)).tables.objects.tracked rest
taken_tracked side s message handle segments rest is may =
    let p = passed s message handle segments may in
    ap (λ (sd : Side). track s.tables.objects.tracked ((own_way sd, message) ∷ rest)) (sym is)
    ∙ ap (λ (r : Result Admission ObjectFault). then_goes r (λ done. track done.objects rest)) p.stepped
    ∙ ap (λ (o : ObjectsState). track o.tracked rest) (sym (taken_objects s message handle segments p))

-- an event of the far side, whose view shows it or not
event_seen : (s : LogState) (message : List ℕ) (done : Admission) → s.tables.handles.side ≡ Far
    → seen_in s.tables message done ≡ view (record { tracked = done.objects; hidden = s.tables.objects.hidden }) message
event_seen s message done is = ap (λ (sd : Side). seen_from sd (record { tracked = done.objects; hidden = s.tables.objects.hidden }) message) is

event_stepped : (s : LogState) (message : List ℕ) (handle : Option Handle) (segments : List ℕ) (p : IsPassed s message handle segments) → s.tables.handles.side ≡ Far
    → step Event s.tables.objects.tracked message ≡ Ok p.done
event_stepped s message handle segments p is =
    let P : Side → Type 0 = λ sd. step (own_way sd) s.tables.objects.tracked message ≡ Ok p.done in subst P is p.stepped

-- the objects that the view leaves
event_leaves : (s : LogState) (message : List ℕ) (handle : Option Handle) (segments : List ℕ) (p : IsPassed s message handle segments) → s.tables.handles.side ≡ Far
    → (log_next s (Taken message handle segments)).tables.objects
    ≡ record { tracked = p.done.objects; hidden = (view (record { tracked = p.done.objects; hidden = s.tables.objects.hidden }) message).hidden }
event_leaves s message handle segments p is =
    taken_objects s message handle segments p
    ∙ ap (λ (v : View). let o : ObjectsState = record { tracked = p.done.objects; hidden = v.hidden } in o) (event_seen s message p.done is)

pub taken_visible : (s : LogState) (message : List ℕ) (handle : Option Handle) (segments : List ℕ) (rest : List (Way × List ℕ))
    → s.tables.handles.side ≡ Far → MayTake s message handle segments
    → visible s.tables.objects ((Event, message) ∷ rest)
    ≡ owed_messages (log_next s (Taken message handle segments)).owes ++ visible (log_next s (Taken message handle segments)).tables.objects rest
taken_visible s message handle segments rest is may =
    let p = passed s message handle segments may in
    let seen : View = view (record { tracked = p.done.objects; hidden = s.tables.objects.hidden }) message in
    ap (λ (r : Result Admission ObjectFault). shown_then r Event s.tables.objects.hidden message (λ next. visible next rest)) (event_stepped s message handle segments p is)
    ∙ ap (λ (o : ObjectsState). option_to_list seen.shown ++ visible o rest) (sym (event_leaves s message handle segments p is))
    ∙ ap (λ (ms : List (List ℕ)). ms ++ visible (log_next s (Taken message handle segments)).tables.objects rest)
    (sym (taken_shown s message handle segments p ∙ ap (λ (v : View). option_to_list v.shown) (event_seen s message p.done is)))

taken_state : (s : LogState) (message : List ℕ) (handle : Option Handle) (segments : List ℕ) (rest : List (Way × List ℕ))
    → s.tables.handles.side ≡ Far → MayTake s message handle segments
    → state_after s.tables.objects ((Event, message) ∷ rest) ≡ state_after (log_next s (Taken message handle segments)).tables.objects rest
taken_state s message handle segments rest is may =
    let p = passed s message handle segments may in
    ap (λ (r : Result Admission ObjectFault). after_then r Event s.tables.objects message (λ next. state_after next rest)) (event_stepped s message handle segments p is)
    ∙ ap (λ (o : ObjectsState). state_after o rest) (sym (event_leaves s message handle segments p is))

-- ---- the other marks leave the objects

lone_objects : (s : LogState) (frame : Frame) → (after_lone s frame).tables.objects ≡ s.tables.objects
lone_objects s (Close reason) = refl
lone_objects s _ = refl

pub group_objects : (s : LogState) (owes : Option Owed) (frames : List Frame) → (after_group s owes frames).tables.objects ≡ s.tables.objects
group_objects s (Some owed) frames = refl
group_objects s None [] = refl
group_objects s None (frame ∷ []) = lone_objects s frame
group_objects s None (frame ∷ next ∷ frames) = refl

-- ---- the order is tracked

tracked_from : (side : Side) (s : LogState) (story : List Mark) → Sound side s → Logs s story
    → track s.tables.objects.tracked (order_in side story) ≡ Ok (log_after s story).tables.objects.tracked
tracked_from side s [] h logs = refl
tracked_from side s (Taken message handle segments ∷ story) h logs =
    taken_tracked side s message handle segments (order_in side story) h.tables.0 logs.0
    ∙ tracked_from side (log_next s (Taken message handle segments)) story (sound_next side s (Taken message handle segments) h logs.0) logs.1
tracked_from side s (Heard frame ∷ story) h logs =
    heard_tracked side s frame (order_in side story) h.tables.0 logs.0
    ∙ tracked_from side (log_next s (Heard frame)) story (sound_next side s (Heard frame) h logs.0) logs.1
tracked_from side s (Dropped rid ∷ story) h logs =
    tracked_from side (log_next s (Dropped rid)) story (sound_next side s (Dropped rid) h logs.0) logs.1
tracked_from side s (Grouped frames copies ∷ story) h logs =
    ap (λ (o : ObjectsState). track o.tracked (order_in side story)) (sym (group_objects s s.owes frames))
    ∙ tracked_from side (log_next s (Grouped frames copies)) story (sound_next side s (Grouped frames copies) h logs.0) logs.1

state_from : (s : LogState) (story : List Mark) → Sound Far s → Logs s story
    → state_after s.tables.objects (order_in Far story) ≡ (log_after s story).tables.objects
state_from s [] h logs = refl
state_from s (Taken message handle segments ∷ story) h logs =
    taken_state s message handle segments (order_in Far story) h.tables.0 logs.0
    ∙ state_from (log_next s (Taken message handle segments)) story (sound_next Far s (Taken message handle segments) h logs.0) logs.1
state_from s (Heard frame ∷ story) h logs =
    heard_state s frame (order_in Far story) h.tables.0 logs.0
    ∙ state_from (log_next s (Heard frame)) story (sound_next Far s (Heard frame) h logs.0) logs.1
state_from s (Dropped rid ∷ story) h logs = state_from (log_next s (Dropped rid)) story (sound_next Far s (Dropped rid) h logs.0) logs.1
state_from s (Grouped frames copies ∷ story) h logs =
    ap (λ (o : ObjectsState). state_after o (order_in Far story)) (sym (group_objects s s.owes frames))
    ∙ state_from (log_next s (Grouped frames copies)) story (sound_next Far s (Grouped frames copies) h logs.0) logs.1

pub order_is_tracked : OrderIsTracked
order_is_tracked = record {
  tracked = λ side story logs. tracked_from side (log_new side) story (sound_new side) logs;
  hidden = λ story logs. state_from (log_new Far) story (sound_new Far) logs;
}
