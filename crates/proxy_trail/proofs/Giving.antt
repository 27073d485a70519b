-- The calls that can't fail: what is given to the peer and to the workers, and what is lent to the link and sent.
use Rattle.std.proofs.Common.{◌≡◌, ℕ, ◌+◌, ◌≤◌, List, [], ◌∷◌, ◌++◌, take, length, map, Option, Some, None, Result, Ok, Err, Bool, true, false, cond, refl, sym, ap, subst, ◌∙◌, arith, inl, inr, length-append}
use Rattle.std.proofs.lemmas.List.{length-map}
use Rattle.std.proofs.lemmas.List.Sums.{sum_by-append, sum_by-cons}
use Rattle.std.specs.Option.{MatchOption}
use Rattle.std.specs.Prelude.{is_some, count_by, option_map, option_to_list, sum_by}
use Rattle.std.specs.Prelude.{ℤ, if◌then◌else◌}
use Rattle.wl_wire.specs.Wire.{cut}
use Rattle.wl_tables.specs.declared.way.Way.{Way}
use Rattle.wl_objects.specs.Tracking as tracking
use Rattle.wl_objects.specs.Tracking.{Admission}
use Rattle.wl_objects.specs.Entries.{Tracked}
use Rattle.wl_wire.specs.declared.faults.ObjectFault.{ObjectFault}
use Rattle.wp_outside.specs.declared.kinds.HandleKind.{HandleKind}
use Rattle.wp_outside.specs.declared.kinds.Side.{Side}
use Rattle.wp_outside.specs.declared.pipe_items.PipeItem.{PipeItem}
use Rattle.handle_table.specs.declared.handles.Handle.{Handle}
use Rattle.handle_table.specs.Table.{Table, kind_of_rid}
use Rattle.pipe_relay.specs.Pipes.{item_of_frame}
use Rattle.transfer_frames.specs.declared.cause.FrameCause.{FrameCause}
use Rattle.transfer_frames.specs.declared.cause.FrameCause.TheVariants.{RidCount}
use Rattle.transfer_frames.specs.declared.frame.Frame.{Frame}
use Rattle.transfer_frames.specs.declared.frame.Frame.TheVariants.{Protocol, Inject, OpenFile, ExtendFile, Fill, OpenPipe, PipeTransfer, PipeShutR, PipeShutW, Ack, Restart, Close}
use Rattle.half_model.specs.declared.items.PeerOut.{PeerOut}
use Rattle.half_model.specs.declared.items.PeerOut.TheVariants as outputs
use Rattle.half_model.specs.declared.notes.CopyRecord.{CopyRecord}
use Rattle.half_model.specs.Content.{Taking, Passage, has_kind, with_held, passed_with, passed_by_kind, passed_step, and_then, pass_all, none_waits, all_used, passage_of, heard_messages, heard}
use Rattle.half_model.specs.Log as marks
use Rattle.half_model.specs.Log.{Mark, LogState, log_new, log_next}
use Rattle.half_model.specs.Planning.{kind_carried}
use Rattle.half_model.specs.Sides.{other_way}
use Rattle.half_model.specs.Story.{messages_of, passed_by, order_in, given_by, items_from}
use Rattle.half_model.specs.Tables.{Tables}
use Rattle.side_model.specs.Books.{Book, given_item, grown, closed}
use Rattle.side_model.specs.Events.{Event, Lent, Down, Gave}
use Rattle.side_model.specs.Follows.{Follows, AreReceipts, is_message}
use Rattle.side_model.specs.Shows.{first_item, next_item}
use Rattle.side_model.specs.State.{Now, LivePart}
use Rattle.side_model.specs.Steps.{step, gone}
use Rattle.side_model.specs.Trails.{TrailState, Keeps, trail_step}
use Rattle.side_model.proofs.TrailKeeps.{steps_keep}
use Rattle.proxy_trail.specs.Kept.{IsKept, state_of}
use Rattle.proxy_trail.specs.Recording.{counting}

-- ---- one event that nothing follows

pub match_none : {X : Type 0} (f : Option X) (P : Type 0) (Q : X → Type 0) → f ≡ None → MatchOption f P Q → P
match_none None P Q e h = h
match_none (Some x) P Q e h = absurd cc

pub none_of : {X : Type 0} (f : Option X) → false ≡ is_some f → f ≡ None
none_of None e = refl
none_of (Some x) e = absurd cc

up_lent : (s : Now) → is_some (step Lent s).live.here ≡ is_some s.live.here
unfolding step
up_lent s = refl

up_down : (s : Now) → is_some (step Down s).live.here ≡ false
unfolding step
up_down s = refl

gone_here : (items : List PeerOut) (live : LivePart) → (gone items live).here ≡ live.here
gone_here [] live = refl
gone_here (item ∷ items) live = refl

up_gave : (s : Now) → is_some (step Gave s).live.here ≡ is_some s.live.here
unfolding step
up_gave s = ap is_some (gone_here s.live.items s.live)

-- it is kept
stepped : (event : Event) (old : TrailState) (up : Bool) (now : Now) (book : Book) → Keeps (trail_step event old) → up ≡ is_some (step event old.now).live.here → now ≡ step event old.now → book ≡ grown event old.now (closed old.book)
    → IsKept up (state_of now book old.fault)
stepped event old up now book k e n b =
    subst (λ (s : Now). IsKept up (state_of s book old.fault)) (sym n)
    (subst (λ (x : Book). IsKept up (state_of (step event old.now) x old.fault)) (sym b) (record { keeps = k; here = λ none. e }))

pub down_kept : (old : TrailState) (now : Now) (book : Book) → Keeps old → old.fault ≡ None → MatchOption old.now.fault (now ≡ step Down old.now) (λ f. now ≡ old.now) → book ≡ closed old.book → IsKept false (state_of now book old.fault)
down_kept old now book k none n b =
    stepped Down old false now book (steps_keep Down old (inl refl) none k) (sym (up_down old.now)) (match_none old.now.fault (now ≡ step Down old.now) (λ f. now ≡ old.now) (k.runs none).fault n) b

pub lent_kept : (old : TrailState) (up : Bool) (now : Now) (book : Book) → Keeps old → old.fault ≡ None → up ≡ is_some old.now.live.here → MatchOption old.now.fault (now ≡ step Lent old.now) (λ f. now ≡ old.now) → book ≡ closed old.book
    → IsKept up (state_of now book old.fault)
lent_kept old up now book k none e n b =
    stepped Lent old up now book (steps_keep Lent old (inr (inr refl)) none k) (e ∙ sym (up_lent old.now)) (match_none old.now.fault (now ≡ step Lent old.now) (λ f. now ≡ old.now) (k.runs none).fault n) b

-- ---- no more messages are given than passed

abbrev message_count : PeerOut → ℕ
message_count item = cond (is_message item) 1 0

abbrev count : List PeerOut → ℕ
count items = sum_by message_count items

count-append : (xs ys : List PeerOut) → count (xs ++ ys) ≡ count xs + count ys
count-append xs ys = sum_by-append message_count xs ys

-- what a passage gives
abbrev GivesMost : ℕ → Result Passage FrameCause → Type 0
GivesMost n (Ok now) = count now.given ≤ n
GivesMost n (Err cause) = Unit {0}

with_gives : (n : ℕ) (tracked : Tracked) (message : List ℕ) (kind : HandleKind) (now : Passage) (handles : Table) (waiting : List ℤ) → count now.given + 1 ≤ n → GivesMost n (passed_with tracked message kind now handles waiting)
with_gives n tracked message kind now handles [] h = tt
with_gives n tracked message kind now handles (rid ∷ rids) h = by_kind (has_kind kind (kind_of_rid handles rid))
  where
    by_kind : (b : Bool) → GivesMost n (if b then Ok (record {
      tracked = tracked;
      waiting = rids;
      held = with_held kind rid now.held;
      given = now.given ++ outputs.Handle (record { number = rid; kind = kind }) ∷ outputs.Bytes message ∷ [];
    }) else Err RidCount)
    by_kind true = omega (arith, count-append now.given (outputs.Handle (record { number = rid; kind = kind }) ∷ outputs.Bytes message ∷ []), two (record { number = rid; kind = kind }) message, h)
      where
        two : (handle : Handle) (message : List ℕ) → count (outputs.Handle handle ∷ outputs.Bytes message ∷ []) ≡ 1
        two handle message = refl
    by_kind false = tt

step_gives : (n : ℕ) (admission : Result Admission ObjectFault) (way : Way) (message : List ℕ) (now : Passage) (handles : Table) → count now.given + 1 ≤ n → GivesMost n (passed_step admission way message now handles)
step_gives n (Err fault) way message now handles h = tt
step_gives n (Ok done) way message now handles h = by_kind (kind_carried way done.passed)
  where
    alone : (message : List ℕ) → count (outputs.Bytes message ∷ []) ≡ 1
    alone message = refl

    by_kind : (kind : Option HandleKind) → GivesMost n (passed_by_kind kind done.objects message now handles)
    by_kind None = omega (arith, count-append now.given (outputs.Bytes message ∷ []), alone message, h)
    by_kind (Some kind) = with_gives n done.objects message kind now handles now.waiting h

all_give : (way : Way) (handles : Table) (messages : List (List ℕ)) (now : Passage) → GivesMost (count now.given + length messages) (pass_all way handles messages now)
all_give way handles [] now = omega arith
all_give way handles (message ∷ messages) now =
    by_step (λ after. all_give way handles messages after) (passed_step (tracking.step way now.tracked message) way message now handles)
    (step_gives (count now.given + 1) (tracking.step way now.tracked message) way message now handles (omega arith))
  where
    more : (n m : ℕ) (result : Result Passage FrameCause) → n ≤ m → GivesMost n result → GivesMost m result
    more n m (Ok after) l h = omega (arith, l, h)
    more n m (Err cause) l h = tt

    by_step : ((after : Passage) → GivesMost (count after.given + length messages) (pass_all way handles messages after)) → (result : Result Passage FrameCause) → GivesMost (count now.given + 1) result
        → GivesMost (count now.given + length (message ∷ messages)) (and_then result (pass_all way handles messages))
    by_step again (Ok after) h = more (count after.given + length messages) (count now.given + length (message ∷ messages)) (pass_all way handles messages after) (omega (arith, h)) (again after)
    by_step again (Err cause) h = tt

used_give : (n : ℕ) (result : Result Passage FrameCause) → GivesMost n result → GivesMost n (all_used result)
used_give n (Ok now) h = by_rids now.waiting
  where
    by_rids : (rids : List ℤ) → GivesMost n (none_waits rids now)
    by_rids [] = h
    by_rids (rid ∷ rids) = tt
used_give n (Err cause) h = tt

-- of one frame
messages_give : (n : ℕ) (tables : Tables) (taking : Taking) (result : Result Passage FrameCause) → GivesMost n result → count (heard_messages tables taking result).given ≤ n
messages_give n tables taking (Ok now) h = h
messages_give n tables taking (Err cause) h = omega arith

pipe_gives : (item : Option PipeItem) → count (option_to_list (option_map (λ it. outputs.Pipe it) item)) ≡ 0
pipe_gives None = refl
pipe_gives (Some item) = refl

no_more : (n : ℕ) (result : Result Passage FrameCause) → GivesMost (0 + n) result → GivesMost n result
no_more n (Ok now) h = omega (arith, h)
no_more n (Err cause) h = tt

heard_gives : (tables : Tables) (taking : Taking) (frame : Frame) → count (heard tables taking frame).given ≤ length (messages_of frame)
heard_gives tables taking (Protocol bytes) =
    messages_give (length (cut bytes)) tables taking (passage_of tables taking bytes) (used_give (length (cut bytes)) (pass_all (other_way tables.handles.side) tables.handles (cut bytes) (record { tracked = tables.objects.tracked; waiting = taking.waiting; held = taking.held; given = [] }))
    (no_more (length (cut bytes)) _ (all_give (other_way tables.handles.side) tables.handles (cut bytes) (record { tracked = tables.objects.tracked; waiting = taking.waiting; held = taking.held; given = [] }))))
heard_gives tables taking (Inject rids) = omega arith
heard_gives tables taking (OpenFile rid size) = omega arith
heard_gives tables taking (ExtendFile rid size) = omega arith
heard_gives tables taking (Fill rid start end bytes) = omega arith
heard_gives tables taking (OpenPipe rid) = omega arith
heard_gives tables taking (PipeTransfer rid bytes) = omega (arith, pipe_gives (item_of_frame tables.pipes (PipeTransfer rid bytes)))
heard_gives tables taking (PipeShutR rid) = omega (arith, pipe_gives (item_of_frame tables.pipes (PipeShutR rid)))
heard_gives tables taking (PipeShutW rid) = omega (arith, pipe_gives (item_of_frame tables.pipes (PipeShutW rid)))
heard_gives tables taking (Ack n) = omega (arith, pipe_gives (item_of_frame tables.pipes (Ack n)))
heard_gives tables taking (Restart token connection received) = omega (arith, pipe_gives (item_of_frame tables.pipes (Restart token connection received)))
heard_gives tables taking (Close reason) = omega (arith, pipe_gives (item_of_frame tables.pipes (Close reason)))

-- of a story
mark_gives : (side : Side) (s : LogState) (mark : Mark) → count (given_by s mark) ≤ length (passed_by side mark)
mark_gives side s (marks.Taken message handle segments) = omega arith
mark_gives side s (marks.Heard frame) = omega (arith, heard_gives s.tables s.taking frame, length-map {B = Way × List ℕ} (messages_of frame) (λ message. (other_way side, message)))
mark_gives side s (marks.Grouped frames copies) = omega arith
mark_gives side s (marks.Dropped rid) = omega arith

story_gives : (side : Side) (s : LogState) (story : List Mark) → count (items_from s story) ≤ length (order_in side story)
story_gives side s [] = omega arith
story_gives side s (mark ∷ marks) =
    omega (arith, mark_gives side s mark, story_gives side (log_next s mark) marks, count-append (given_by s mark) (items_from (log_next s mark) marks), length-append (passed_by side mark) (order_in side marks))

-- one more
given_counts : (item : PeerOut) (given : ℕ) → given_item (Some item) given ≡ given + message_count item
given_counts (outputs.Bytes message) given = refl
given_counts (outputs.Handle handle) given = omega arith
given_counts (outputs.Opened rid size) given = omega arith
given_counts (outputs.Grown rid size) given = omega arith
given_counts (outputs.Filled rid start bytes) given = omega arith
given_counts (outputs.Pipe item) given = omega arith
given_counts (outputs.Receipt number segment receipt) given = omega arith

receipt_counts : (copies : List CopyRecord) (gone left : List PeerOut) (item : PeerOut) (given : ℕ) → AreReceipts copies (gone ++ item ∷ left) → given_item (Some item) given ≡ given
receipt_counts [] [] left item given h = absurd h
receipt_counts (copy ∷ copies) [] left item given h = ap (λ (x : PeerOut). given_item (Some x) given) h.0.is
receipt_counts [] (x ∷ gone) left item given h = absurd h
receipt_counts (copy ∷ copies) (x ∷ gone) left item given h = receipt_counts copies gone left item given h.1

pub given_fits : (s : Now) (book : Book) → Follows s book → given_item (next_item s.live) book.trail.given ≤ length book.order
given_fits s book f = by_items s.live.items s.live.receipts refl refl
  where
    all : count f.items.gone + count s.live.items ≤ length book.order
    all = omega (arith, count-append f.items.gone s.live.items, ap count f.items.row, story_gives s.side (log_new s.side) f.story, ap length f.tells.order, length-map {B = Way} (order_in s.side f.story) (λ passed. passed.0))

    some : (item : PeerOut) (items : List PeerOut) → s.live.items ≡ item ∷ items → given_item (Some item) book.trail.given ≤ length book.order
    some item items e = omega (arith, all, f.items.counts, given_counts item book.trail.given, ap count e, sum_by-cons message_count item items)

    by_items : (items receipts : List PeerOut) → s.live.items ≡ items → s.live.receipts ≡ receipts → given_item (first_item items receipts) book.trail.given ≤ length book.order
    by_items [] [] e d = omega (arith, all, f.items.counts)
    by_items [] (receipt ∷ receipts) e d =
        let same : given_item (Some receipt) book.trail.given ≡ book.trail.given =
        receipt_counts book.trail.copies f.receipts.gone receipts receipt book.trail.given (subst (λ (left : List PeerOut). AreReceipts book.trail.copies (f.receipts.gone ++ left)) d f.receipts.all) in
        omega (arith, same, all, f.items.counts)
    by_items (item ∷ items) receipts e d = some item items e

-- ---- an item is given

pub given_before : (old : TrailState) (item : Option PeerOut) (start : Book) → Keeps old → old.fault ≡ None → start ≡ closed old.book → MatchOption old.now.fault (item ≡ next_item old.now.live) (λ f. item ≡ None)
    → given_item item start.trail.given ≤ length start.order
given_before old item start k none s i =
    let is : item ≡ next_item old.now.live = match_none old.now.fault (item ≡ next_item old.now.live) (λ f. item ≡ None) (k.runs none).fault i in
    subst (λ (x : Option PeerOut). given_item x start.trail.given ≤ length start.order) (sym is)
    (subst (λ (b : Book). given_item (next_item old.now.live) b.trail.given ≤ length b.order) (sym s) (given_fits old.now old.book (k.runs none).follows))

-- what is counted of it
pub given_book : (old : TrailState) (item : Option PeerOut) (start book : Book) → Keeps old → old.fault ≡ None → start ≡ closed old.book → MatchOption old.now.fault (item ≡ next_item old.now.live) (λ f. item ≡ None) → book ≡ counting item start
    → book ≡ grown Gave old.now (closed old.book)
given_book old item start book k none s i b =
    let is : item ≡ next_item old.now.live = match_none old.now.fault (item ≡ next_item old.now.live) (λ f. item ≡ None) (k.runs none).fault i in
    b ∙ ap (counting item) s ∙ ap (λ (x : Option PeerOut). counting x (closed old.book)) is

pub gave_kept : (old : TrailState) (up : Bool) (item : Option PeerOut) (now : Now) (start book : Book) → Keeps old → old.fault ≡ None → up ≡ is_some old.now.live.here → start ≡ closed old.book
    → MatchOption old.now.fault (item ≡ next_item old.now.live) (λ f. item ≡ None) → MatchOption old.now.fault (now ≡ step Gave old.now) (λ f. now ≡ old.now) → book ≡ counting item start → IsKept up (state_of now book old.fault)
gave_kept old up item now start book k none e s i n b =
    stepped Gave old up now book (steps_keep Gave old (inr (inl refl)) none k) (e ∙ sym (up_gave old.now)) (match_none old.now.fault (now ≡ step Gave old.now) (λ f. now ≡ old.now) (k.runs none).fault n)
    (given_book old item start book k none s i b)
