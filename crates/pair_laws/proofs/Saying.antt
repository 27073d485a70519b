-- The messages that a side has for its peer are those of the frames that it accepted, in their order.
use Rattle.std.proofs.Common.{◌≡◌, ℕ, List, [], ◌∷◌, ◌++◌, ℤ, Option, Some, None, option_map, option_to_list, length, take, Result, Ok, Err, refl, sym, ap, ◌∙◌, append_assoc}
use Rattle.std.proofs.lemmas.List.{append-nil, take-map, length-map}
use Rattle.std.proofs.lemmas.List.Elements.{filter_map-append}
use Rattle.std.specs.List.{filter_map}
use Rattle.wp_outside.specs.declared.kinds.HandleKind.{HandleKind}
use Rattle.wp_outside.specs.declared.kinds.Side.{Side}
use Rattle.wp_outside.specs.declared.pipe_items.PipeItem.{PipeItem}
use Rattle.wl_wire.specs.declared.faults.ObjectFault.{ObjectFault}
use Rattle.wl_wire.specs.Wire.{cut}
use Rattle.wl_tables.specs.declared.way.Way.{Way}
use Rattle.wl_objects.specs.Entries.{Tracked}
use Rattle.wl_objects.specs.Tracking.{Admission, step}
use Rattle.handle_table.specs.Table.{Table, kind_of_rid}
use Rattle.transfer_frames.specs.declared.cause.FrameCause.{FrameCause}
use Rattle.transfer_frames.specs.declared.cause.FrameCause.TheVariants.{RidCount}
use Rattle.transfer_frames.specs.declared.frame.Frame.{Frame}
use Rattle.transfer_frames.specs.declared.frame.Frame.TheVariants.{Protocol, Inject, OpenFile, ExtendFile, Fill, OpenPipe, PipeTransfer, PipeShutR, PipeShutW, Ack, Restart, Close}
use Rattle.half_model.specs.declared.items.PeerOut.{PeerOut}
use Rattle.half_model.specs.declared.items.PeerOut.TheVariants as items
use Rattle.half_model.specs.Content.{Passage, has_kind, passed_with, passed_by_kind, passed_step, pass_all, heard, heard_messages}
use Rattle.half_model.specs.ItemLaws.{given_in, sent_among}
use Rattle.half_model.specs.Log.{Mark, Taken, Heard, Grouped, Dropped, LogState, log_new, MayHear, log_next, Logs}
use Rattle.half_model.specs.Planning.{kind_carried}
use Rattle.half_model.specs.Sides.{other_way}
use Rattle.half_model.specs.Story.{messages_of, messages_in, heard_in, accepted_in, items_from}
use Rattle.half_model.specs.StoryLaws.{IsStory}
use Rattle.half_model.proofs.Given.{items_are_meant}
use Rattle.half_model.proofs.Passages.{goes_ok, chosen_ok, same_passage, passage_new, accepted}
use Rattle.pair_model.specs.Rows.{counted}
use Rattle.pipe_relay.specs.Pipes.{item_of_frame}
use Rattle.pair_laws.specs.Received.{meant_in, received_in, messages}

-- ---- the messages among items

abbrev message_item : PeerOut → Option (List ℕ)
message_item (items.Bytes message) = Some message
message_item item = None

abbrev messages_among : List PeerOut → List (List ℕ)
messages_among given = filter_map message_item given

among-append : (xs ys : List PeerOut) → messages_among (xs ++ ys) ≡ messages_among xs ++ messages_among ys
among-append xs ys = filter_map-append message_item xs ys

sent_messages : (rid : Option ℤ) (given : List PeerOut) → messages (sent_among rid given) ≡ messages_among given
sent_messages rid [] = refl
sent_messages rid (items.Bytes message ∷ given) = ap (λ (ms : List (List ℕ)). message ∷ ms) (sent_messages None given)
sent_messages rid (items.Handle handle ∷ given) = sent_messages (Some handle.number) given
sent_messages rid (items.Opened other size ∷ given) = sent_messages rid given
sent_messages rid (items.Grown other size ∷ given) = sent_messages rid given
sent_messages rid (items.Filled other start piece ∷ given) = sent_messages rid given
sent_messages rid (items.Pipe item ∷ given) = sent_messages rid given
sent_messages rid (items.Receipt number segment receipt ∷ given) = sent_messages rid given

-- ---- a PROTOCOL frame gives its messages

says_with : (tracked : Tracked) (message : List ℕ) (kind : HandleKind) (now after : Passage) (handles : Table) (rids : List ℤ)
    → passed_with tracked message kind now handles rids ≡ Ok after → messages_among after.given ≡ messages_among now.given ++ message ∷ []
says_with tracked message kind now after handles [] e = absurd cc
says_with tracked message kind now after handles (rid ∷ rids) e =
    ap (λ (p : Passage). messages_among p.given) (sym (chosen_ok (has_kind kind (kind_of_rid handles rid)) _ after RidCount e).1)
    ∙ among-append now.given (items.Handle (record { number = rid; kind = kind }) ∷ items.Bytes message ∷ [])

says_by_kind : (kind : Option HandleKind) (tracked : Tracked) (message : List ℕ) (now after : Passage) (handles : Table)
    → passed_by_kind kind tracked message now handles ≡ Ok after → messages_among after.given ≡ messages_among now.given ++ message ∷ []
says_by_kind None tracked message now after handles e =
    ap (λ (p : Passage). messages_among p.given) (sym (same_passage _ after _ refl e)) ∙ among-append now.given (items.Bytes message ∷ [])
says_by_kind (Some kind) tracked message now after handles e = says_with tracked message kind now after handles now.waiting e

says_step : (told : Result Admission ObjectFault) (way : Way) (message : List ℕ) (now after : Passage) (handles : Table)
    → passed_step told way message now handles ≡ Ok after → messages_among after.given ≡ messages_among now.given ++ message ∷ []
says_step (Ok done) way message now after handles e = says_by_kind (kind_carried way done.passed) done.objects message now after handles e
says_step (Err fault) way message now after handles e = absurd cc

says_all : (way : Way) (handles : Table) (all : List (List ℕ)) (now after : Passage) → pass_all way handles all now ≡ Ok after → messages_among after.given ≡ messages_among now.given ++ all
says_all way handles [] now after e = ap (λ (p : Passage). messages_among p.given) (sym (same_passage now after _ refl e)) ∙ sym (append-nil (messages_among now.given))
says_all way handles (message ∷ all) now after e =
    let got = goes_ok (passed_step (step way now.tracked message) way message now handles) (pass_all way handles all) after e in
    says_all way handles all got.0 after got.2
    ∙ ap (λ (ms : List (List ℕ)). ms ++ all) (says_step (step way now.tracked message) way message now got.0 handles got.1)
    ∙ append_assoc (messages_among now.given) (message ∷ []) all

-- ---- any frame

no_message : (item : Option PipeItem) → messages_among (option_to_list (option_map (λ it. items.Pipe it) item)) ≡ []
no_message None = refl
no_message (Some item) = refl

says : (s : LogState) (frame : Frame) → MayHear s frame → messages_among (heard s.tables s.taking frame).given ≡ messages_of frame
says s (Protocol bytes) may =
    let a = accepted s.tables s.taking bytes may.accepted in
    ap (λ (r : Result Passage FrameCause). messages_among (heard_messages s.tables s.taking r).given) a.is
    ∙ says_all (other_way s.tables.handles.side) s.tables.handles (cut bytes) (passage_new s.tables s.taking) a.after a.all
says s (PipeTransfer rid bytes) may = no_message (item_of_frame s.tables.pipes (PipeTransfer rid bytes))
says s (PipeShutR rid) may = no_message (item_of_frame s.tables.pipes (PipeShutR rid))
says s (PipeShutW rid) may = no_message (item_of_frame s.tables.pipes (PipeShutW rid))
says s _ may = refl

says_story : (s : LogState) (story : List Mark) → Logs s story → messages_among (items_from s story) ≡ messages_in (heard_in story)
says_story s [] logs = refl
says_story s (Taken message handle segments ∷ story) logs = says_story (log_next s (Taken message handle segments)) story logs.1
says_story s (Grouped frames copies ∷ story) logs = says_story (log_next s (Grouped frames copies)) story logs.1
says_story s (Dropped rid ∷ story) logs = says_story (log_next s (Dropped rid)) story logs.1
says_story s (Heard frame ∷ story) logs =
    let next : LogState = log_next s (Heard frame) in
    among-append (heard s.tables s.taking frame).given (items_from next story)
    ∙ ap (λ (ms : List (List ℕ)). ms ++ messages_among (items_from next story)) (says s frame logs.0)
    ∙ ap (λ (ms : List (List ℕ)). messages_of frame ++ ms) (says_story next story logs.1)

-- frames that are not counted have no message
pub counted_says : (frames : List Frame) → messages_in (counted frames) ≡ messages_in frames
counted_says [] = refl
counted_says (Ack count ∷ frames) = counted_says frames
counted_says (Restart token connection received ∷ frames) = counted_says frames
counted_says (Protocol bytes ∷ frames) = ap (λ (ms : List (List ℕ)). cut bytes ++ ms) (counted_says frames)
counted_says (Inject rids ∷ frames) = counted_says frames
counted_says (OpenFile rid size ∷ frames) = counted_says frames
counted_says (ExtendFile rid size ∷ frames) = counted_says frames
counted_says (Fill rid start end bytes ∷ frames) = counted_says frames
counted_says (OpenPipe rid ∷ frames) = counted_says frames
counted_says (PipeTransfer rid bytes ∷ frames) = counted_says frames
counted_says (PipeShutR rid ∷ frames) = counted_says frames
counted_says (PipeShutW rid ∷ frames) = counted_says frames
counted_says (Close reason ∷ frames) = counted_says frames

-- ---- all of it

pub meant_messages : (side : Side) (story : List Mark) → IsStory side story → messages (meant_in side story) ≡ messages_in (accepted_in story)
meant_messages side story logs =
    ap messages (sym (items_are_meant.messages side story logs)) ∙ sent_messages None (given_in side story) ∙ says_story (log_new side) story logs ∙ sym (counted_says (heard_in story))

pub meant_length : (side : Side) (story : List Mark) → IsStory side story → length (meant_in side story) ≡ length (messages_in (accepted_in story))
meant_length side story logs = sym (length-map (meant_in side story) (λ sent. sent.0)) ∙ ap length (meant_messages side story logs)

pub received_messages : (side : Side) (story : List Mark) (given : ℕ) → IsStory side story → messages (received_in side story given) ≡ take given (messages_in (accepted_in story))
received_messages side story given logs = sym (take-map (λ sent. sent.0) given (meant_in side story)) ∙ ap (take given) (meant_messages side story logs)
