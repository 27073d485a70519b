-- What a frame of the other side brings for the peer is no receipt.
use Rattle.std.proofs.Common.{ℕ, ℤ, List, [], ◌∷◌, ◌++◌, Option, Some, None, Result, Ok, Err, option_map, option_to_list}
use Rattle.std.proofs.lemmas.Bool.{cond_both}
use Rattle.std.specs.List.{AllByRecursion}
use Rattle.wp_outside.specs.declared.kinds.HandleKind.{HandleKind}
use Rattle.wp_outside.specs.declared.pipe_items.PipeItem.{PipeItem}
use Rattle.wl_wire.specs.declared.faults.ObjectFault.{ObjectFault}
use Rattle.wl_wire.specs.Wire.{cut}
use Rattle.wl_tables.specs.declared.way.Way.{Way}
use Rattle.wl_objects.specs.Entries.{Tracked}
use Rattle.wl_objects.specs.Tracking.{Admission, step}
use Rattle.handle_table.specs.Table.{Table, kind_of_rid}
use Rattle.transfer_frames.specs.declared.cause.FrameCause.{FrameCause}
use Rattle.transfer_frames.specs.declared.cause.FrameCause.TheVariants.{RidCount}
use Rattle.transfer_frames.specs.declared.frame.Frame.{Frame}
use Rattle.transfer_frames.specs.declared.frame.Frame.TheVariants as frames
use Rattle.pipe_relay.specs.Pipes.{item_of_frame}
use Rattle.half_model.specs.declared.items.PeerOut.{PeerOut}
use Rattle.half_model.specs.declared.items.PeerOut.TheVariants as items
use Rattle.half_model.specs.Content.{Taking, Passage, has_kind, passed_with, passed_by_kind, passed_step, and_then, pass_all, none_waits, passage_of, with_held, heard, heard_messages}
use Rattle.half_model.specs.Planning.{kind_carried}
use Rattle.half_model.specs.Sides.{other_way}
use Rattle.half_model.specs.Tables.{Tables}
use Rattle.side_model.proofs.Sounds.{all_append}
use Rattle.receipt_laws.specs.Owning.{Ownership, GivenIsOwn}

module _ (Own : Ownership) where
  abbrev pub AreOwn : List PeerOut → Type 0
  AreOwn given = AllByRecursion (GivenIsOwn Own) given

  abbrev OnPassed : Result Passage FrameCause → Type 0
  OnPassed (Ok now) = AreOwn now.given
  OnPassed (Err cause) = Unit {0}

  then_own : (result : Result Passage FrameCause) (more : Passage → Result Passage FrameCause) → OnPassed result → ((now : Passage) → AreOwn now.given → OnPassed (more now)) → OnPassed (and_then result more)
  then_own (Ok now) more h k = k now h
  then_own (Err cause) more h k = tt

  with_own : (tracked : Tracked) (message : List ℕ) (kind : HandleKind) (now : Passage) (handles : Table) (waiting : List ℤ) → AreOwn now.given
      → OnPassed (passed_with tracked message kind now handles waiting)
  with_own tracked message kind now handles [] h = tt
  with_own tracked message kind now handles (rid ∷ rids) h =
      let handle : PeerOut = items.Handle (record { number = rid; kind = kind }) in
      let behind : List PeerOut = handle ∷ items.Bytes message ∷ [] in
      let passed : Passage = record { tracked = tracked; waiting = rids; held = with_held kind rid now.held; given = now.given ++ behind } in
      let good : Result Passage FrameCause = Ok passed in
      let bad : Result Passage FrameCause = Err RidCount in
      cond_both (has_kind kind (kind_of_rid handles rid)) good bad OnPassed (λ e. all_append (GivenIsOwn Own) now.given behind h (tt, (tt, tt))) (λ e. tt)

  kind_own : (kind : Option HandleKind) (tracked : Tracked) (message : List ℕ) (now : Passage) (handles : Table) → AreOwn now.given
      → OnPassed (passed_by_kind kind tracked message now handles)
  kind_own None tracked message now handles h = all_append (GivenIsOwn Own) now.given (items.Bytes message ∷ []) h (tt, tt)
  kind_own (Some kind) tracked message now handles h = with_own tracked message kind now handles now.waiting h

  step_own : (told : Result Admission ObjectFault) (way : Way) (message : List ℕ) (now : Passage) (handles : Table) → AreOwn now.given
      → OnPassed (passed_step told way message now handles)
  step_own (Ok done) way message now handles h = kind_own (kind_carried way done.passed) done.objects message now handles h
  step_own (Err fault) way message now handles h = tt

  all_own : (way : Way) (handles : Table) (messages : List (List ℕ)) (now : Passage) → AreOwn now.given → OnPassed (pass_all way handles messages now)
  all_own way handles [] now h = h
  all_own way handles (message ∷ messages) now h =
      then_own (passed_step (step way now.tracked message) way message now handles) (pass_all way handles messages)
      (step_own (step way now.tracked message) way message now handles h) (all_own way handles messages)

  none_own : (waiting : List ℤ) (now : Passage) → AreOwn now.given → OnPassed (none_waits waiting now)
  none_own [] now h = h
  none_own (rid ∷ rids) now h = tt

  passage_own : (tables : Tables) (taking : Taking) (bytes : List ℕ) → OnPassed (passage_of tables taking bytes)
  passage_own tables taking bytes =
      let begin : Passage = record { tracked = tables.objects.tracked; waiting = taking.waiting; held = taking.held; given = [] } in
      then_own (pass_all (other_way tables.handles.side) tables.handles (cut bytes) begin) (λ now. none_waits now.waiting now)
      (all_own (other_way tables.handles.side) tables.handles (cut bytes) begin tt) (λ now h. none_own now.waiting now h)

  messages_own : (tables : Tables) (taking : Taking) (result : Result Passage FrameCause) → OnPassed result → AreOwn (heard_messages tables taking result).given
  messages_own tables taking (Ok now) h = h
  messages_own tables taking (Err cause) h = tt

  pipe_own : (found : Option PipeItem) → AreOwn (option_to_list (option_map (λ item. items.Pipe item) found))
  pipe_own None = tt
  pipe_own (Some item) = (tt, tt)

  pub heard_own : (tables : Tables) (taking : Taking) (frame : Frame) → AreOwn (heard tables taking frame).given
  heard_own tables taking (frames.Protocol bytes) = messages_own tables taking (passage_of tables taking bytes) (passage_own tables taking bytes)
  heard_own tables taking (frames.Inject rids) = tt
  heard_own tables taking (frames.OpenFile rid size) = (tt, tt)
  heard_own tables taking (frames.ExtendFile rid size) = (tt, tt)
  heard_own tables taking (frames.Fill rid start end bytes) = (tt, tt)
  heard_own tables taking (frames.OpenPipe rid) = tt
  heard_own tables taking frame = pipe_own (item_of_frame tables.pipes frame)
