-- What a peer is given along a story is what the frames mean that its side hears.
use Rattle.std.proofs.Common.{◌≡◌, ℕ, Bool, true, false, cond, List, [], ◌∷◌, ◌++◌, ℤ, Option, Some, None, option_map, option_to_list, Result, Ok, refl, sym, ap, ◌∙◌, subst, append_assoc, append-nil, ⊎_elim}
use Rattle.std.proofs.lemmas.Bool.{cond-false, false≢true}
use Rattle.std.proofs.lemmas.Bool.Decides.{Decides-int_eq}
use Rattle.std.proofs.lemmas.Cmp.{int_cmp_total}
use Rattle.std.proofs.lemmas.Map.Lookups.{exact_signed}
use Rattle.std.specs.Ordering.{int_eq}
use Rattle.plain_lists.specs.Fronts.{IsFront}
use Rattle.plain_lists.proofs.FrontLemmas.{IsFront_self, IsFront_same, IsFront-append, IsFront_trans}
use Rattle.wp_outside.specs.declared.kinds.Side.{Side}
use Rattle.wl_wire.specs.declared.faults.ObjectFault.{ObjectFault}
use Rattle.wl_wire.specs.Wire.{cut}
use Rattle.wl_objects.specs.Entries.{Tracked}
use Rattle.wl_objects.specs.Registry.{ObjectsState}
use Rattle.wl_objects.specs.Tracking.{Admission, step}
use Rattle.handle_table.specs.declared.handles.Handle.{Handle}
use Rattle.transfer_frames.specs.declared.cause.FrameCause.{FrameCause}
use Rattle.transfer_frames.specs.declared.frame.Frame.{Frame}
use Rattle.transfer_frames.specs.declared.frame.Frame.TheVariants.{Protocol, Inject, OpenFile, ExtendFile, Fill, OpenPipe, PipeTransfer, PipeShutR, PipeShutW, Ack, Restart, Close}
use Rattle.half_model.specs.declared.items.PeerOut.{PeerOut}
use Rattle.half_model.specs.declared.items.PeerOut.TheVariants as items
use Rattle.wp_outside.specs.declared.pipe_items.PipeItem.{PipeItem}
use Rattle.wp_outside.specs.declared.pipe_items.PipeItem.TheVariants as pipe_items
use Rattle.half_model.specs.Content.{Passage, heard, heard_messages}
use Rattle.half_model.specs.Group.{Owed}
use Rattle.half_model.specs.ItemLaws.{sent_among, file_items, pipe_items_of, ItemsAreMeant}
use Rattle.half_model.specs.Log.{Mark, Taken, Heard, Grouped, Dropped, LogState, log_new, MayTake, MayHear, Lawful, after_lone, after_group, log_next, Logs, log_after}
use Rattle.half_model.specs.Meaning.{Carried, carry_frame, carry_messages, carry_own, carry_all, Flow, no_flow, flow_step, flow_from}
use Rattle.mirror_pools.specs.Meaning.{mirror_step, mirror_from}
use Rattle.pipe_relay.specs.Pipes.{has_rid, item_of_frame}
use Rattle.half_model.specs.Planning.{Plan}
use Rattle.half_model.specs.Sides.{other_way}
use Rattle.wl_tables.specs.Ways.{own_way}
use Rattle.half_model.specs.Story.{Sent, heard_in, items_from}
use Rattle.half_model.proofs.Carrying.{as_carried, at_state, group_taking}
use Rattle.half_model.proofs.FineStory.{Has, left-with_pipe, hearing_keeps}
use Rattle.half_model.proofs.Maps.{any_cases}
use Rattle.half_model.proofs.Passages.{passage_new, IsAccepted, accepted}
use Rattle.half_model.proofs.Shown.{group_objects, taken_objects}
use Rattle.half_model.proofs.Sound.{Sound, passed, after_taken, sound_next, sound_new}
use Rattle.half_model.proofs.Spoken.{files_both, pipes_both, Speaks, speaks}

-- ---- a PROTOCOL frame

-- it gives what it says
pub spoken_frame : (s : LogState) (bytes : List ℕ) → MayHear s (Protocol bytes)
    → (a : IsAccepted s.tables s.taking bytes) × (p : Speaks (other_way s.tables.handles.side) (cut bytes) (passage_new s.tables s.taking) a.after)
    × ((heard s.tables s.taking (Protocol bytes)).given ≡ p.new)
spoken_frame s bytes may =
    let a = accepted s.tables s.taking bytes may.accepted in
    let p = speaks (other_way s.tables.handles.side) s.tables.handles (cut bytes) (passage_new s.tables s.taking) a.after a.all in
    (a, p, ap (λ (r : Result Passage FrameCause). (heard_messages s.tables s.taking r).given) a.is ∙ p.is)

-- ---- files

pipe_no_file : (rid : ℤ) (told : Option PipeItem) (bytes : Option (List ℕ)) → file_items rid (option_to_list (option_map (λ item. items.Pipe item) told)) bytes ≡ bytes
pipe_no_file rid None bytes = refl
pipe_no_file rid (Some item) bytes = refl

file_frame : (s : LogState) (frame : Frame) (rid : ℤ) (bytes : Option (List ℕ)) → MayHear s frame → file_items rid (heard s.tables s.taking frame).given bytes ≡ mirror_step rid frame bytes
file_frame s (Protocol content) rid bytes may =
    let got = spoken_frame s content may in ap (λ (given : List PeerOut). file_items rid given bytes) got.2 ∙ got.1.spoken.files rid bytes
file_frame s (Inject rids) rid bytes may = refl
file_frame s (OpenFile other size) rid bytes may = refl
file_frame s (ExtendFile other size) rid bytes may = refl
file_frame s (Fill other start end piece) rid bytes may = refl
file_frame s (OpenPipe other) rid bytes may = refl
file_frame s (PipeTransfer other piece) rid bytes may = pipe_no_file rid (item_of_frame s.tables.pipes (PipeTransfer other piece)) bytes
file_frame s (PipeShutR other) rid bytes may = pipe_no_file rid (item_of_frame s.tables.pipes (PipeShutR other)) bytes
file_frame s (PipeShutW other) rid bytes may = pipe_no_file rid (item_of_frame s.tables.pipes (PipeShutW other)) bytes
file_frame s (Ack count) rid bytes may = refl
file_frame s (Restart token connection received) rid bytes may = refl
file_frame s (Close reason) rid bytes may = refl

files_from : (rid : ℤ) (s : LogState) (story : List Mark) (bytes : Option (List ℕ)) → Logs s story → file_items rid (items_from s story) bytes ≡ mirror_from rid (heard_in story) bytes
files_from rid s [] bytes logs = refl
files_from rid s (Taken message handle segments ∷ story) bytes logs = files_from rid (log_next s (Taken message handle segments)) story bytes logs.1
files_from rid s (Heard frame ∷ story) bytes logs =
    files_both rid (heard s.tables s.taking frame).given (items_from (log_next s (Heard frame)) story) bytes
    ∙ ap (file_items rid (items_from (log_next s (Heard frame)) story)) (file_frame s frame rid bytes logs.0)
    ∙ files_from rid (log_next s (Heard frame)) story (mirror_step rid frame bytes) logs.1
files_from rid s (Dropped other ∷ story) bytes logs = files_from rid (log_next s (Dropped other)) story bytes logs.1
files_from rid s (Grouped frames copies ∷ story) bytes logs = files_from rid (log_next s (Grouped frames copies)) story bytes logs.1

-- ---- pipes, frame by frame

-- a rid is another one where its reading end was not shut and that one's was
apart : (other rid : ℤ) (b : Bool) → (int_eq other rid ≡ true → b ≡ false) → b ≡ true → int_eq other rid ≡ false
apart other rid b h e = by (int_eq other rid) refl
  where
    by : (same : Bool) → int_eq other rid ≡ same → same ≡ false
    by false f = refl
    by true f = absurd (false≢true (sym (h f) ∙ e))

transferred : (other rid : ℤ) (piece : List ℕ) (f : Flow) (left : Bool) → (int_eq other rid ≡ true → left ≡ false)
    → pipe_items_of rid (option_to_list (option_map (λ item. items.Pipe item) (cond left None (Some (pipe_items.Bytes other piece))))) f ≡ flow_step rid (PipeTransfer other piece) f
transferred other rid piece f false h = refl
transferred other rid piece f true h = sym (cond-false (int_eq other rid) (record f { bytes = f.bytes ++ piece }) f (apart other rid true h refl))

ended : (other rid : ℤ) (f : Flow) (left : Bool) → (int_eq other rid ≡ true → left ≡ false)
    → pipe_items_of rid (option_to_list (option_map (λ item. items.Pipe item) (cond left None (Some (pipe_items.End other))))) f ≡ flow_step rid (PipeShutW other) f
ended other rid f false h = refl
ended other rid f true h = sym (cond-false (int_eq other rid) (record f { ended = true }) f (apart other rid true h refl))

same_left : (s : LogState) (other rid : ℤ) (b : Bool) → has_rid rid s.tables.pipes.left ≡ b → int_eq other rid ≡ true → has_rid other s.tables.pipes.left ≡ b
same_left s other rid b h e = ap (λ (r : ℤ). has_rid r s.tables.pipes.left) ((Decides-int_eq other rid).0 e) ∙ h

pipe_frame : (s : LogState) (frame : Frame) (rid : ℤ) (f : Flow) → MayHear s frame → has_rid rid s.tables.pipes.left ≡ false → pipe_items_of rid (heard s.tables s.taking frame).given f ≡ flow_step rid frame f
pipe_frame s (Protocol content) rid f may h =
    let got = spoken_frame s content may in ap (λ (given : List PeerOut). pipe_items_of rid given f) got.2 ∙ got.1.spoken.pipes rid f
pipe_frame s (Inject rids) rid f may h = refl
pipe_frame s (OpenFile other size) rid f may h = refl
pipe_frame s (ExtendFile other size) rid f may h = refl
pipe_frame s (Fill other start end piece) rid f may h = refl
pipe_frame s (OpenPipe other) rid f may h = refl
pipe_frame s (PipeTransfer other piece) rid f may h = transferred other rid piece f (has_rid other s.tables.pipes.left) (same_left s other rid false h)
pipe_frame s (PipeShutR other) rid f may h = refl
pipe_frame s (PipeShutW other) rid f may h = ended other rid f (has_rid other s.tables.pipes.left) (same_left s other rid false h)
pipe_frame s (Ack count) rid f may h = refl
pipe_frame s (Restart token connection received) rid f may h = refl
pipe_frame s (Close reason) rid f may h = refl

-- behind a shut reading end no bytes are given
still_bytes : (b : Bool) (f g : Flow) → g.bytes ≡ f.bytes → (cond b g f).bytes ≡ f.bytes
still_bytes true f g e = e
still_bytes false f g e = refl

dropped_piece : (other rid : ℤ) (piece : List ℕ) (f : Flow) (left : Bool) → (int_eq other rid ≡ true → left ≡ true)
    → (pipe_items_of rid (option_to_list (option_map (λ item. items.Pipe item) (cond left None (Some (pipe_items.Bytes other piece))))) f).bytes ≡ f.bytes
dropped_piece other rid piece f true h = refl
dropped_piece other rid piece f false h = by (int_eq other rid) h
  where
    by : (same : Bool) → (same ≡ true → false ≡ true) → (cond same (record f { bytes = f.bytes ++ piece }) f).bytes ≡ f.bytes
    by false k = refl
    by true k = absurd (false≢true (k refl))

dropped_end : (other rid : ℤ) (f : Flow) (left : Bool)
    → (pipe_items_of rid (option_to_list (option_map (λ item. items.Pipe item) (cond left None (Some (pipe_items.End other))))) f).bytes ≡ f.bytes
dropped_end other rid f true = refl
dropped_end other rid f false = still_bytes (int_eq other rid) f (record f { ended = true }) refl

frozen_frame : (s : LogState) (frame : Frame) (rid : ℤ) (f : Flow) → MayHear s frame → has_rid rid s.tables.pipes.left ≡ true → (pipe_items_of rid (heard s.tables s.taking frame).given f).bytes ≡ f.bytes
frozen_frame s (Protocol content) rid f may h =
    let got = spoken_frame s content may in ap (λ (given : List PeerOut). (pipe_items_of rid given f).bytes) got.2 ∙ ap (λ (g : Flow). g.bytes) (got.1.spoken.pipes rid f)
frozen_frame s (Inject rids) rid f may h = refl
frozen_frame s (OpenFile other size) rid f may h = refl
frozen_frame s (ExtendFile other size) rid f may h = refl
frozen_frame s (Fill other start end piece) rid f may h = refl
frozen_frame s (OpenPipe other) rid f may h = refl
frozen_frame s (PipeTransfer other piece) rid f may h = dropped_piece other rid piece f (has_rid other s.tables.pipes.left) (same_left s other rid true h)
frozen_frame s (PipeShutR other) rid f may h = still_bytes (int_eq other rid) f (record f { shut = true }) refl
frozen_frame s (PipeShutW other) rid f may h = dropped_end other rid f (has_rid other s.tables.pipes.left)
frozen_frame s (Ack count) rid f may h = refl
frozen_frame s (Restart token connection received) rid f may h = refl
frozen_frame s (Close reason) rid f may h = refl

-- ---- a shut reading end stays so

lone_left : (s : LogState) (frame : Frame) (rid : ℤ) → has_rid rid s.tables.pipes.left ≡ true → has_rid rid (after_lone s frame).tables.pipes.left ≡ true
lone_left s (Close reason) rid e = e
lone_left s (PipeShutW other) rid e = e
lone_left s (PipeShutR other) rid e = ⊎_elim (λ put. put.1) (λ same. same ∙ e) (any_cases int_cmp_total exact_signed s.tables.pipes.left other rid)
lone_left s _ rid e = e

group_left : (s : LogState) (owes : Option Owed) (frames : List Frame) (rid : ℤ) → has_rid rid s.tables.pipes.left ≡ true → has_rid rid (after_group s owes frames).tables.pipes.left ≡ true
group_left s (Some owed) frames rid e = e
group_left s None [] rid e = e
group_left s None (frame ∷ []) rid e = lone_left s frame rid e
group_left s None (frame ∷ next ∷ frames) rid e = e

taken_left : (s : LogState) (message : List ℕ) (handle : Option Handle) (segments : List ℕ) → MayTake s message handle segments
    → (log_next s (Taken message handle segments)).tables.pipes.left ≡ s.tables.pipes.left
taken_left s message handle segments may =
    let p = passed s message handle segments may in
    ap (λ (t : LogState). t.tables.pipes.left) (after_taken s message handle segments p)
    ∙ ap (λ (it : Plan). it.tables.pipes.left) (sym p.is_planned.is)
    ∙ (left-with_pipe p.is_planned.passing s.tables.pipes).0

left_next : (s : LogState) (mark : Mark) (rid : ℤ) → Lawful s mark → has_rid rid s.tables.pipes.left ≡ true → has_rid rid (log_next s mark).tables.pipes.left ≡ true
left_next s (Taken message handle segments) rid may e = ap (has_rid rid) (taken_left s message handle segments may) ∙ e
left_next s (Heard frame) rid may e = ap (λ (h : Has). has_rid rid h.left) (hearing_keeps s.tables s.taking frame s.shm) ∙ e
left_next s (Dropped other) rid may e = e
left_next s (Grouped frames copies) rid may e = group_left s s.owes frames rid e

left_stays : (s : LogState) (story : List Mark) (rid : ℤ) → Logs s story → has_rid rid s.tables.pipes.left ≡ true → has_rid rid (log_after s story).tables.pipes.left ≡ true
left_stays s [] rid logs e = e
left_stays s (mark ∷ story) rid logs e = left_stays (log_next s mark) story rid logs.1 (left_next s mark rid logs.0 e)

not_yet : (s : LogState) (story : List Mark) (rid : ℤ) → Logs s story → has_rid rid (log_after s story).tables.pipes.left ≡ false → has_rid rid s.tables.pipes.left ≡ false
not_yet s story rid logs h = by (has_rid rid s.tables.pipes.left) refl
  where
    by : (b : Bool) → has_rid rid s.tables.pipes.left ≡ b → b ≡ false
    by false e = refl
    by true e = absurd (false≢true (sym h ∙ left_stays s story rid logs e))

-- ---- pipes, along a story

pipes_from : (rid : ℤ) (s : LogState) (story : List Mark) (f : Flow) → Logs s story → has_rid rid (log_after s story).tables.pipes.left ≡ false
    → pipe_items_of rid (items_from s story) f ≡ flow_from rid (heard_in story) f
pipes_from rid s [] f logs h = refl
pipes_from rid s (Taken message handle segments ∷ story) f logs h = pipes_from rid (log_next s (Taken message handle segments)) story f logs.1 h
pipes_from rid s (Heard frame ∷ story) f logs h =
    pipes_both rid (heard s.tables s.taking frame).given (items_from (log_next s (Heard frame)) story) f
    ∙ ap (pipe_items_of rid (items_from (log_next s (Heard frame)) story)) (pipe_frame s frame rid f logs.0 (not_yet s (Heard frame ∷ story) rid logs h))
    ∙ pipes_from rid (log_next s (Heard frame)) story (flow_step rid frame f) logs.1 h
pipes_from rid s (Dropped other ∷ story) f logs h = pipes_from rid (log_next s (Dropped other)) story f logs.1 h
pipes_from rid s (Grouped frames copies ∷ story) f logs h = pipes_from rid (log_next s (Grouped frames copies)) story f logs.1 h

-- nothing more of a shut pipe
frozen_from : (rid : ℤ) (s : LogState) (story : List Mark) (f : Flow) → Logs s story → has_rid rid s.tables.pipes.left ≡ true → (pipe_items_of rid (items_from s story) f).bytes ≡ f.bytes
frozen_from rid s [] f logs h = refl
frozen_from rid s (Taken message handle segments ∷ story) f logs h =
    let mark : Mark = Taken message handle segments in frozen_from rid (log_next s mark) story f logs.1 (left_next s mark rid logs.0 h)
frozen_from rid s (Heard frame ∷ story) f logs h =
    let given : List PeerOut = (heard s.tables s.taking frame).given in
    ap (λ (g : Flow). g.bytes) (pipes_both rid given (items_from (log_next s (Heard frame)) story) f)
    ∙ frozen_from rid (log_next s (Heard frame)) story (pipe_items_of rid given f) logs.1 (left_next s (Heard frame) rid logs.0 h)
    ∙ frozen_frame s frame rid f logs.0 h
frozen_from rid s (Dropped other ∷ story) f logs h = frozen_from rid (log_next s (Dropped other)) story f logs.1 h
frozen_from rid s (Grouped frames copies ∷ story) f logs h =
    let mark : Mark = Grouped frames copies in frozen_from rid (log_next s mark) story f logs.1 (left_next s mark rid logs.0 h)

-- the bytes of a pipe grow
grown : (b : Bool) (f g : Flow) → IsFront f.bytes g.bytes → IsFront f.bytes (cond b g f).bytes
grown true f g h = h
grown false f g h = IsFront_self f.bytes

flow_grows : (rid : ℤ) (frame : Frame) (f : Flow) → IsFront f.bytes (flow_step rid frame f).bytes
flow_grows rid (PipeTransfer other piece) f = grown (int_eq other rid) f (record f { bytes = f.bytes ++ piece }) (IsFront-append f.bytes piece)
flow_grows rid (PipeShutW other) f = grown (int_eq other rid) f (record f { ended = true }) (IsFront_self f.bytes)
flow_grows rid (PipeShutR other) f = grown (int_eq other rid) f (record f { shut = true }) (IsFront_self f.bytes)
flow_grows rid _ f = IsFront_self f.bytes

flows_grow : (rid : ℤ) (frames : List Frame) (f : Flow) → IsFront f.bytes (flow_from rid frames f).bytes
flows_grow rid [] f = IsFront_self f.bytes
flows_grow rid (frame ∷ frames) f = IsFront_trans (flow_grows rid frame f) (flows_grow rid frames (flow_step rid frame f))

-- what was given is a front of what was sent
abbrev Begins : ℤ → LogState → List Mark → Flow → Type 0
Begins rid s story f = IsFront (pipe_items_of rid (items_from s story) f).bytes (flow_from rid (heard_in story) f).bytes

shut_begins : (rid : ℤ) (s : LogState) (story : List Mark) (f : Flow) → Logs s story → has_rid rid s.tables.pipes.left ≡ true → Begins rid s story f
shut_begins rid s story f logs h = IsFront_trans (IsFront_same _ _ (frozen_from rid s story f logs h)) (flows_grow rid (heard_in story) f)

heard_begins : (rid : ℤ) (s : LogState) (frame : Frame) (story : List Mark) (f : Flow) (b : Bool) → has_rid rid s.tables.pipes.left ≡ b → Logs s (Heard frame ∷ story)
    → Begins rid (log_next s (Heard frame)) story (flow_step rid frame f) → Begins rid s (Heard frame ∷ story) f
heard_begins rid s frame story f true e logs next = shut_begins rid s (Heard frame ∷ story) f logs e
heard_begins rid s frame story f false e logs next =
    IsFront_trans
    (IsFront_same _ _ (ap (λ (g : Flow). g.bytes)
    (pipes_both rid (heard s.tables s.taking frame).given (items_from (log_next s (Heard frame)) story) f
    ∙ ap (pipe_items_of rid (items_from (log_next s (Heard frame)) story)) (pipe_frame s frame rid f logs.0 e))))
    next

fronts_from : (rid : ℤ) (s : LogState) (story : List Mark) (f : Flow) → Logs s story → Begins rid s story f
fronts_from rid s [] f logs = IsFront_self f.bytes
fronts_from rid s (Taken message handle segments ∷ story) f logs = fronts_from rid (log_next s (Taken message handle segments)) story f logs.1
fronts_from rid s (Heard frame ∷ story) f logs =
    heard_begins rid s frame story f (has_rid rid s.tables.pipes.left) refl logs (fronts_from rid (log_next s (Heard frame)) story (flow_step rid frame f) logs.1)
fronts_from rid s (Dropped other ∷ story) f logs = fronts_from rid (log_next s (Dropped other)) story f logs.1
fronts_from rid s (Grouped frames copies ∷ story) f logs = fronts_from rid (log_next s (Grouped frames copies)) story f logs.1

-- ---- messages

-- what a frame gives and what it means, and how its items stand before others
record IsMeant (side : Side) (s : LogState) (frame : Frame) : Type 0 where
  ends : (rest : List PeerOut) → sent_among None ((heard s.tables s.taking frame).given ++ rest) ≡ sent_among None (heard s.tables s.taking frame).given ++ sent_among None rest
  meant : (given : List Sent) → carry_frame (other_way side) frame (at_state s given) ≡ at_state (log_next s (Heard frame)) (given ++ sent_among None (heard s.tables s.taking frame).given)

-- items that are no messages
silent : (told : Option PipeItem) (rest : List PeerOut) → sent_among None (option_to_list (option_map (λ item. items.Pipe item) told) ++ rest) ≡ sent_among None rest
silent None rest = refl
silent (Some item) rest = refl

meant_pipe : (s : LogState) (told : Option PipeItem) (given : List Sent) → as_carried s.tables.objects.tracked s.taking.waiting given
    ≡ as_carried s.tables.objects.tracked s.taking.waiting (given ++ sent_among None (option_to_list (option_map (λ item. items.Pipe item) told)))
meant_pipe s None given = ap (λ (ms : List Sent). as_carried s.tables.objects.tracked s.taking.waiting ms) (sym (append-nil given))
meant_pipe s (Some item) given = ap (λ (ms : List Sent). as_carried s.tables.objects.tracked s.taking.waiting ms) (sym (append-nil given))

ends_pipe : (told : Option PipeItem) (rest : List PeerOut) → sent_among None (option_to_list (option_map (λ item. items.Pipe item) told) ++ rest)
    ≡ sent_among None (option_to_list (option_map (λ item. items.Pipe item) told)) ++ sent_among None rest
ends_pipe None rest = refl
ends_pipe (Some item) rest = refl

meant_alone : (s : LogState) (given : List Sent) → at_state s given ≡ at_state s (given ++ [])
meant_alone s given = ap (at_state s) (sym (append-nil given))

is_meant : (side : Side) (s : LogState) (frame : Frame) → s.tables.handles.side ≡ side → MayHear s frame → IsMeant side s frame
is_meant side s (Protocol bytes) is may =
    let got = spoken_frame s bytes may in
    let G : List PeerOut → Type 0 = λ given. (rest : List PeerOut) → sent_among None (given ++ rest) ≡ sent_among None given ++ sent_among None rest in
    record {
      ends = subst G (sym got.2) got.1.spoken.ends;
      meant = λ given.
          let all : List Sent = given ++ sent_among None got.1.new in
          ap (λ (sd : Side). carry_messages (other_way sd) (cut bytes) (at_state s given)) (sym is)
          ∙ got.1.meant given
          ∙ ap (λ (r : Result Passage FrameCause). let h = heard_messages s.tables s.taking r in as_carried h.tables.objects.tracked h.taking.waiting all) (sym got.0.is)
          ∙ ap (λ (told : List PeerOut). at_state (log_next s (Heard (Protocol bytes))) (given ++ sent_among None told)) (sym got.2);
    }
is_meant side s (Inject rids) is may = record { ends = λ rest. refl; meant = λ given. meant_alone (log_next s (Heard (Inject rids))) given }
is_meant side s (OpenFile rid size) is may = record { ends = λ rest. refl; meant = λ given. meant_alone s given }
is_meant side s (ExtendFile rid size) is may = record { ends = λ rest. refl; meant = λ given. meant_alone s given }
is_meant side s (Fill rid start end bytes) is may = record { ends = λ rest. refl; meant = λ given. meant_alone s given }
is_meant side s (OpenPipe rid) is may = record { ends = λ rest. refl; meant = λ given. meant_alone s given }
is_meant side s (PipeTransfer rid bytes) is may = record { ends = ends_pipe (item_of_frame s.tables.pipes (PipeTransfer rid bytes)); meant = meant_pipe s (item_of_frame s.tables.pipes (PipeTransfer rid bytes)) }
is_meant side s (PipeShutR rid) is may = record { ends = λ rest. refl; meant = λ given. meant_alone s given }
is_meant side s (PipeShutW rid) is may = record { ends = ends_pipe (item_of_frame s.tables.pipes (PipeShutW rid)); meant = meant_pipe s (item_of_frame s.tables.pipes (PipeShutW rid)) }
is_meant side s (Ack count) is may = record { ends = λ rest. refl; meant = λ given. meant_alone s given }
is_meant side s (Restart token connection received) is may = record { ends = λ rest. refl; meant = λ given. meant_alone s given }
is_meant side s (Close reason) is may = record { ends = λ rest. refl; meant = λ given. meant_alone s given }

-- along a story
abbrev Means : Side → LogState → List Mark → List Sent → Type 0
Means side s story given = (carry_all side story (at_state s given)).given ≡ given ++ sent_among None (items_from s story)

messages_from : (side : Side) (s : LogState) (story : List Mark) (given : List Sent) → Sound side s → Logs s story → Means side s story given
messages_from side s [] given sound logs = sym (append-nil given)
messages_from side s (Taken message handle segments ∷ story) given sound logs =
    let mark : Mark = Taken message handle segments in
    let p = passed s message handle segments logs.0 in
    let W : Side → Type 0 = λ sd. step (own_way sd) s.tables.objects.tracked message ≡ Ok p.done in
    ap (λ (r : Result Admission ObjectFault). (carry_all side story (carry_own r (at_state s given))).given) (subst W sound.tables.0 p.stepped)
    ∙ ap (λ (o : Tracked). (carry_all side story (as_carried o s.taking.waiting given)).given) (sym (ap (λ (o : ObjectsState). o.tracked) (taken_objects s message handle segments p)))
    ∙ ap (λ (t : LogState). (carry_all side story (as_carried (log_next s mark).tables.objects.tracked t.taking.waiting given)).given) (sym (after_taken s message handle segments p))
    ∙ messages_from side (log_next s mark) story given (sound_next side s mark sound logs.0) logs.1
messages_from side s (Heard frame ∷ story) given sound logs =
    let m = is_meant side s frame sound.tables.0 logs.0 in
    let new : List PeerOut = (heard s.tables s.taking frame).given in
    let rest : List PeerOut = items_from (log_next s (Heard frame)) story in
    ap (λ (c : Carried). (carry_all side story c).given) (m.meant given)
    ∙ messages_from side (log_next s (Heard frame)) story (given ++ sent_among None new) (sound_next side s (Heard frame) sound logs.0) logs.1
    ∙ append_assoc given (sent_among None new) (sent_among None rest)
    ∙ ap (λ (ms : List Sent). given ++ ms) (sym (m.ends rest))
messages_from side s (Dropped rid ∷ story) given sound logs =
    messages_from side (log_next s (Dropped rid)) story given (sound_next side s (Dropped rid) sound logs.0) logs.1
messages_from side s (Grouped frames copies ∷ story) given sound logs =
    let mark : Mark = Grouped frames copies in
    ap (λ (o : ObjectsState). (carry_all side story (as_carried o.tracked s.taking.waiting given)).given) (sym (group_objects s s.owes frames))
    ∙ ap (λ (t : _). (carry_all side story (as_carried (log_next s mark).tables.objects.tracked t.waiting given)).given) (sym (group_taking s s.owes frames))
    ∙ messages_from side (log_next s mark) story given (sound_next side s mark sound logs.0) logs.1

pub items_are_meant : ItemsAreMeant
items_are_meant = record {
  messages = λ side story logs. sym (messages_from side (log_new side) story [] (sound_new side) logs);
  files = λ side story rid logs. files_from rid (log_new side) story None logs;
  pipes = λ side story rid logs h. pipes_from rid (log_new side) story no_flow logs h;
  fronts = λ side story rid logs. fronts_from rid (log_new side) story no_flow logs;
}
