-- When a peer is given a message, the files that it has are the mirrors behind the frames before it.
use Rattle.std.proofs.Common.{◌≡◌, ℕ, ◌+◌, suc, false, cond, List, [], ◌∷◌, ◌++◌, ℤ, Option, Some, None, option_map, option_to_list, length, Result, Ok, Err, refl, sym, ap, ◌∙◌, subst, arith, append_assoc, append-nil, length-append}
use Rattle.std.proofs.lemmas.Bool.{false≢true}
use Rattle.std.proofs.lemmas.List.Sums.{sum_by-append}
use Rattle.std.specs.List.{AllByRecursion}
use Rattle.std.specs.BTreeMap.{is_at}
use Rattle.std.specs.Map.{lookup}
use Rattle.std.specs.Ordering.{int_cmp}
use Rattle.std.specs.Prelude.{count_by}
use Rattle.wp_outside.specs.declared.kinds.HandleKind.{HandleKind}
use Rattle.wp_outside.specs.declared.kinds.Side.{Side}
use Rattle.wp_outside.specs.declared.pipe_items.PipeItem.{PipeItem}
use Rattle.wl_wire.specs.declared.faults.ObjectFault.{ObjectFault}
use Rattle.wl_tables.specs.declared.way.Way.{Way}
use Rattle.wl_objects.specs.Entries.{Tracked}
use Rattle.wl_objects.specs.Tracking.{Admission, step}
use Rattle.handle_table.specs.Table.{Table, kind_of_rid}
use Rattle.transfer_frames.specs.declared.cause.FrameCause.{FrameCause}
use Rattle.transfer_frames.specs.declared.cause.FrameCause.TheVariants.{RidCount}
use Rattle.transfer_frames.specs.declared.frame.Frame.{Frame}
use Rattle.transfer_frames.specs.declared.frame.Frame.TheVariants.{Protocol, Inject, OpenFile, ExtendFile, Fill, OpenPipe, PipeTransfer, PipeShutR, PipeShutW, Ack, Restart, Close}
use Rattle.half_model.specs.declared.items.PeerOut.{PeerOut}
use Rattle.half_model.specs.declared.items.PeerOut.TheVariants as items
use Rattle.half_model.specs.Content.{Passage, has_kind, passed_with, passed_by_kind, passed_step, pass_all, heard, heard_messages}
use Rattle.half_model.specs.ItemLaws.{given_in}
use Rattle.half_model.specs.Log.{Mark, Taken, Heard, Grouped, Dropped, LogState, log_new, MayHear, log_next, Logs}
use Rattle.half_model.specs.PeerLaws.{peer_in}
use Rattle.half_model.specs.PeerState.{PeerState, no_peer, peer_took_all}
use Rattle.half_model.specs.Planning.{kind_carried}
use Rattle.half_model.specs.Sides.{other_side, other_way}
use Rattle.half_model.specs.Story.{messages_of, messages_in, heard_in, accepted_in, given_by, items_from}
use Rattle.half_model.specs.StoryLaws.{IsStory}
use Rattle.half_model.proofs.Expecting.{HasOne, gives}
use Rattle.half_model.proofs.Passages.{goes_ok, chosen_ok, same_passage, passage_new, accepted}
use Rattle.half_model.proofs.Peer.{peer_has_meaning}
use Rattle.half_model.proofs.ShownLaws.{cut_alone}
use Rattle.half_model.proofs.Spoken.{took_both}
use Rattle.mirror_pools.specs.Meaning.{mirror, mirror_step, mirror_from}
use Rattle.mirror_pools.specs.Mirrors.{MirrorsState}
use Rattle.pair_model.specs.Rows.{counted}
use Rattle.pipe_relay.specs.Pipes.{item_of_frame}
use Rattle.side_model.specs.Follows.{is_message}
use Rattle.pair_laws.specs.Received.{PeerHasMirrors}
use Rattle.pair_laws.proofs.Auditing.{other_hears}
use Rattle.pair_laws.proofs.Counting.{accepted_heard}
use Rattle.pair_laws.proofs.KeptOrders.{each_one, front_one}
use Rattle.pair_laws.proofs.Receiving.{meant_count}
use Rattle.pair_laws.proofs.Saying.{meant_length}

-- ---- items that are no messages

abbrev AreSilent : List PeerOut → Type 0
AreSilent given = AllByRecursion (λ item. is_message item ≡ false) given

-- they stand before a message
record Before (given rest before : List PeerOut) (message : List ℕ) (after : List PeerOut) : Type 0 where
  more : List PeerOut
  before_is : before ≡ given ++ more
  rest_is : rest ≡ more ++ items.Bytes message ∷ after

silent_before : (given rest before : List PeerOut) (message : List ℕ) (after : List PeerOut) → AreSilent given → given ++ rest ≡ before ++ items.Bytes message ∷ after → Before given rest before message after
silent_before [] rest before message after h e = record { more = before; before_is = refl; rest_is = e }
silent_before (item ∷ given) rest [] message after h e =
    let same : item ≡ items.Bytes message = cc in
    absurd (false≢true (sym h.0 ∙ ap is_message same))
silent_before (item ∷ given) rest (x ∷ before) message after h e =
    let same : item ≡ x = cc in
    let b = silent_before given rest before message after h.1 (cc) in
    record { more = b.more; before_is = ap (λ (is : List PeerOut). x ∷ is) b.before_is ∙ ap (λ (y : PeerOut). y ∷ (given ++ b.more)) (sym same); rest_is = b.rest_is }

-- ---- what a frame with one message gives

-- the message, and before it a handle or nothing
record Speaks (given : List PeerOut) (bytes : List ℕ) : Type 0 where
  handles : List PeerOut
  silent : AreSilent handles
  is : given ≡ handles ++ items.Bytes bytes ∷ []
  still : (peer : PeerState) → (peer_took_all handles peer).mirrors ≡ peer.mirrors

speaks_with : (tracked : Tracked) (message : List ℕ) (kind : HandleKind) (now after : Passage) (handles : Table) (rids : List ℤ) → now.given ≡ []
    → passed_with tracked message kind now handles rids ≡ Ok after → Speaks after.given message
speaks_with tracked message kind now after handles [] none e = absurd cc
speaks_with tracked message kind now after handles (rid ∷ rids) none e = record {
  handles = items.Handle (record { number = rid; kind = kind }) ∷ [];
  silent = (refl, tt);
  is = ap (λ (p : Passage). p.given) (sym (chosen_ok (has_kind kind (kind_of_rid handles rid)) _ after RidCount e).1)
      ∙ ap (λ (given : List PeerOut). given ++ items.Handle (record { number = rid; kind = kind }) ∷ items.Bytes message ∷ []) none;
  still = λ peer. refl;
}

speaks_by_kind : (kind : Option HandleKind) (tracked : Tracked) (message : List ℕ) (now after : Passage) (handles : Table) → now.given ≡ []
    → passed_by_kind kind tracked message now handles ≡ Ok after → Speaks after.given message
speaks_by_kind None tracked message now after handles none e = record {
  handles = [];
  silent = tt;
  is = ap (λ (p : Passage). p.given) (sym (same_passage _ after _ refl e)) ∙ ap (λ (given : List PeerOut). given ++ items.Bytes message ∷ []) none;
  still = λ peer. refl;
}
speaks_by_kind (Some kind) tracked message now after handles none e = speaks_with tracked message kind now after handles now.waiting none e

speaks_step : (told : Result Admission ObjectFault) (way : Way) (message : List ℕ) (now after : Passage) (handles : Table) → now.given ≡ []
    → passed_step told way message now handles ≡ Ok after → Speaks after.given message
speaks_step (Ok done) way message now after handles none e = speaks_by_kind (kind_carried way done.passed) done.objects message now after handles none e
speaks_step (Err fault) way message now after handles none e = absurd cc

speaks_alone : (way : Way) (handles : Table) (message : List ℕ) (now after : Passage) → now.given ≡ [] → pass_all way handles (message ∷ []) now ≡ Ok after → Speaks after.given message
speaks_alone way handles message now after none e =
    let got = goes_ok (passed_step (step way now.tracked message) way message now handles) (pass_all way handles []) after e in
    let same : got.0 ≡ after = same_passage got.0 after _ refl got.2 in
    subst (λ (p : Passage). Speaks p.given message) same (speaks_step (step way now.tracked message) way message now got.0 handles none got.1)

speaks : (s : LogState) (bytes : List ℕ) → MayHear s (Protocol bytes) → HasOne (Protocol bytes) → Speaks (heard s.tables s.taking (Protocol bytes)).given bytes
speaks s bytes may one =
    let a = accepted s.tables s.taking bytes may.accepted in
    let all : pass_all (other_way s.tables.handles.side) s.tables.handles (bytes ∷ []) (passage_new s.tables s.taking) ≡ Ok a.after =
    subst (λ (ms : List (List ℕ)). pass_all (other_way s.tables.handles.side) s.tables.handles ms (passage_new s.tables s.taking) ≡ Ok a.after) (cut_alone bytes one) a.all in
    subst (λ (r : Result Passage FrameCause). Speaks (heard_messages s.tables s.taking r).given bytes) (sym a.is)
    (speaks_alone (other_way s.tables.handles.side) s.tables.handles bytes (passage_new s.tables s.taking) a.after refl all)

-- other frames give no message
silent_item : (item : Option PipeItem) → AreSilent (option_to_list (option_map (λ it. items.Pipe it) item))
silent_item None = tt
silent_item (Some item) = (refl, tt)

-- a frame is PROTOCOL, or gives no message
data Says (s : LogState) (frame : Frame) : Type 0 where
  Speech : (bytes : List ℕ) → frame ≡ Protocol bytes → Says s frame
  Silence : AreSilent (heard s.tables s.taking frame).given → Says s frame

says : (s : LogState) (frame : Frame) → Says s frame
says s (Protocol bytes) = Speech bytes refl
says s (OpenFile rid size) = Silence (refl, tt)
says s (ExtendFile rid size) = Silence (refl, tt)
says s (Fill rid start end bytes) = Silence (refl, tt)
says s (PipeTransfer rid bytes) = Silence (silent_item (item_of_frame s.tables.pipes (PipeTransfer rid bytes)))
says s (PipeShutR rid) = Silence (silent_item (item_of_frame s.tables.pipes (PipeShutR rid)))
says s (PipeShutW rid) = Silence (silent_item (item_of_frame s.tables.pipes (PipeShutW rid)))
says s _ = Silence tt

-- ---- where a message was given

record GivenAt (s : LogState) (story : List Mark) (before : List PeerOut) : Type 0 where
  marks : List Mark
  bytes : List ℕ
  later : List Mark
  split : story ≡ marks ++ Heard (Protocol bytes) ∷ later
  handles : List PeerOut
  silent : AreSilent handles
  before_is : before ≡ items_from s marks ++ handles
  still : (peer : PeerState) → (peer_took_all handles peer).mirrors ≡ peer.mirrors

given_behind : (s : LogState) (mark : Mark) (story : List Mark) (more before : List PeerOut) → before ≡ given_by s mark ++ more → GivenAt (log_next s mark) story more → GivenAt s (mark ∷ story) before
given_behind s mark story more before e g = record {
  marks = mark ∷ g.marks;
  bytes = g.bytes;
  later = g.later;
  split = ap (λ (ms : List Mark). mark ∷ ms) g.split;
  handles = g.handles;
  silent = g.silent;
  before_is = e ∙ ap (λ (is : List PeerOut). given_by s mark ++ is) g.before_is ∙ sym (append_assoc (given_by s mark) (items_from (log_next s mark) g.marks) g.handles);
  still = g.still;
}

-- a frame that speaks
spoken_at : (s : LogState) (bytes : List ℕ) (story : List Mark) (before : List PeerOut) (message : List ℕ) (after : List PeerOut) → Speaks (heard s.tables s.taking (Protocol bytes)).given bytes
    → given_by s (Heard (Protocol bytes)) ++ items_from (log_next s (Heard (Protocol bytes))) story ≡ before ++ items.Bytes message ∷ after
    → ((more : List PeerOut) → items_from (log_next s (Heard (Protocol bytes))) story ≡ more ++ items.Bytes message ∷ after → GivenAt (log_next s (Heard (Protocol bytes))) story more)
    → GivenAt s (Heard (Protocol bytes) ∷ story) before
spoken_at s bytes story before message after p e rest = by b.more b.before_is b.rest_is
  where
    next : List PeerOut
    next = items_from (log_next s (Heard (Protocol bytes))) story

    b : Before p.handles (items.Bytes bytes ∷ items_from (log_next s (Heard (Protocol bytes))) story) before message after
    b =
        silent_before p.handles (items.Bytes bytes ∷ items_from (log_next s (Heard (Protocol bytes))) story) before message after p.silent
        (sym (append_assoc p.handles (items.Bytes bytes ∷ []) (items_from (log_next s (Heard (Protocol bytes))) story))
        ∙ ap (λ (is : List PeerOut). is ++ items_from (log_next s (Heard (Protocol bytes))) story) (sym p.is) ∙ e)

    by : (more : List PeerOut) → before ≡ p.handles ++ more → items.Bytes bytes ∷ items_from (log_next s (Heard (Protocol bytes))) story ≡ more ++ items.Bytes message ∷ after → GivenAt s (Heard (Protocol bytes) ∷ story) before
    by [] f g = record { marks = []; bytes = bytes; later = story; split = refl; handles = p.handles; silent = p.silent; before_is = f ∙ append-nil p.handles; still = p.still }
    by (x ∷ more) f g =
        let same : items.Bytes bytes ≡ x = cc in
        given_behind s (Heard (Protocol bytes)) story more before
        (f ∙ ap (λ (y : PeerOut). p.handles ++ y ∷ more) (sym same) ∙ sym (append_assoc p.handles (items.Bytes bytes ∷ []) more) ∙ ap (λ (is : List PeerOut). is ++ more) (sym p.is))
        (rest more (cc))

given_at : (s : LogState) (story : List Mark) (before : List PeerOut) (message : List ℕ) (after : List PeerOut) → Logs s story → AllByRecursion HasOne (heard_in story)
    → items_from s story ≡ before ++ items.Bytes message ∷ after → GivenAt s story before
given_at s [] [] message after logs one e = absurd cc
given_at s [] (x ∷ before) message after logs one e = absurd cc
given_at s (Taken taken handle segments ∷ story) before message after logs one e = given_behind s (Taken taken handle segments) story before before refl (given_at (log_next s (Taken taken handle segments)) story before message after logs.1 one e)
given_at s (Grouped frames copies ∷ story) before message after logs one e = given_behind s (Grouped frames copies) story before before refl (given_at (log_next s (Grouped frames copies)) story before message after logs.1 one e)
given_at s (Dropped rid ∷ story) before message after logs one e = given_behind s (Dropped rid) story before before refl (given_at (log_next s (Dropped rid)) story before message after logs.1 one e)
given_at s (Heard frame ∷ story) before message after logs one e =
    by (λ more k. given_at (log_next s (Heard frame)) story more message after logs.1 one.1 k) (says s frame)
  where
    by : ((more : List PeerOut) → items_from (log_next s (Heard frame)) story ≡ more ++ items.Bytes message ∷ after → GivenAt (log_next s (Heard frame)) story more) → Says s frame → GivenAt s (Heard frame ∷ story) before
    by rest (Silence silent) =
        let b = silent_before (given_by s (Heard frame)) (items_from (log_next s (Heard frame)) story) before message after silent e in
        given_behind s (Heard frame) story b.more before b.before_is (rest b.more b.rest_is)
    by rest (Speech bytes is) =
        let P : Frame → Type 0 = λ f. MayHear s f → HasOne f → given_by s (Heard f) ++ items_from (log_next s (Heard f)) story ≡ before ++ items.Bytes message ∷ after
        → ((more : List PeerOut) → items_from (log_next s (Heard f)) story ≡ more ++ items.Bytes message ∷ after → GivenAt (log_next s (Heard f)) story more) → GivenAt s (Heard f ∷ story) before in
        let there : P (Protocol bytes) = λ may whole k more. spoken_at s bytes story before message after (speaks s bytes may whole) k more in
        subst P (sym is) there logs.0 one.0 e rest

-- ---- the frames before it

-- frames that are not counted leave each mirror
mirror_counted : (rid : ℤ) (frames : List Frame) (bytes : Option (List ℕ)) → mirror_from rid (counted frames) bytes ≡ mirror_from rid frames bytes
mirror_counted rid [] bytes = refl
mirror_counted rid (Ack count ∷ frames) bytes = mirror_counted rid frames bytes
mirror_counted rid (Restart token connection received ∷ frames) bytes = mirror_counted rid frames bytes
mirror_counted rid (Protocol content ∷ frames) bytes = mirror_counted rid frames bytes
mirror_counted rid (Inject rids ∷ frames) bytes = mirror_counted rid frames bytes
mirror_counted rid (OpenFile other size ∷ frames) bytes = mirror_counted rid frames (mirror_step rid (OpenFile other size) bytes)
mirror_counted rid (ExtendFile other size ∷ frames) bytes = mirror_counted rid frames (mirror_step rid (ExtendFile other size) bytes)
mirror_counted rid (Fill other start end piece ∷ frames) bytes = mirror_counted rid frames (mirror_step rid (Fill other start end piece) bytes)
mirror_counted rid (OpenPipe other ∷ frames) bytes = mirror_counted rid frames bytes
mirror_counted rid (PipeTransfer other piece ∷ frames) bytes = mirror_counted rid frames bytes
mirror_counted rid (PipeShutR other ∷ frames) bytes = mirror_counted rid frames bytes
mirror_counted rid (PipeShutW other ∷ frames) bytes = mirror_counted rid frames bytes
mirror_counted rid (Close reason ∷ frames) bytes = mirror_counted rid frames bytes

one_said : (bytes : List ℕ) (frames : List Frame) → HasOne (Protocol bytes) → length (messages_in (Protocol bytes ∷ frames)) ≡ suc (length (messages_in frames))
one_said bytes frames one = ap (λ (ms : List (List ℕ)). length (ms ++ messages_in frames)) (cut_alone bytes one)

-- frames with as many messages before a message are the same
same_place : (xs p ys q : List Frame) (a b : List ℕ) → AllByRecursion HasOne (xs ++ Protocol a ∷ p) → xs ++ Protocol a ∷ p ≡ ys ++ Protocol b ∷ q → length (messages_in xs) ≡ length (messages_in ys) → xs ≡ ys
same_place [] p [] q a b one e l = refl
same_place [] p (y ∷ ys) q a b one e l =
    let same : Protocol a ≡ y = cc in
    absurd (omega (arith, l, one_said a ys one.0, ap (λ (f : Frame). length (messages_in (f ∷ ys))) same))
same_place (x ∷ xs) p [] q a b one e l =
    let same : x ≡ Protocol b = cc in
    absurd (omega (arith, l, one_said b xs (subst (λ (f : Frame). HasOne f) same one.0), ap (λ (f : Frame). length (messages_in (f ∷ xs))) same))
same_place (x ∷ xs) p (y ∷ ys) q a b one e l =
    let same : x ≡ y = cc in
    let left : length (messages_of x ++ messages_in xs) ≡ length (messages_of y ++ messages_in ys) = l in
    let rest : xs ≡ ys =
    same_place xs p ys q a b one.1 (cc) (omega (arith, left, length-append (messages_of x) (messages_in xs), length-append (messages_of y) (messages_in ys), ap (λ (f : Frame). length (messages_of f)) same)) in
    cc

silent_count : (given : List PeerOut) → AreSilent given → count_by is_message given ≡ 0
silent_count [] h = refl
silent_count (item ∷ given) h =
    let one = sum_by-append (λ (it : PeerOut). cond (is_message it) 1 0) (item ∷ []) given in
    omega (arith, one, ap {B = ℕ} (λ b. cond b 1 0) h.0, silent_count given h.1)

logs_up_to : (s : LogState) (earlier later : List Mark) → Logs s (earlier ++ later) → Logs s earlier
logs_up_to s [] later logs = tt
logs_up_to s (mark ∷ earlier) later logs = (logs.0, logs_up_to (log_next s mark) earlier later logs.1)

pub peer_has_mirrors : PeerHasMirrors
peer_has_mirrors side sender hearer both before after message e it rid =
    let reader : List Mark = both.other_law.story in
    let other : Side = other_side side in
    let hears = other_hears both in
    let counts : AllByRecursion HasOne (accepted_in reader) =
    front_one (accepted_in reader) hears.rest (subst (λ (fs : List Frame). AllByRecursion HasOne fs) (sym hears.is) (gives side both.one_law.story both.one_law.log).alone) in
    let g = given_at (log_new other) reader before message after both.other_law.log (each_one (heard_in reader) counts) e in
    let logs : IsStory other g.marks = logs_up_to (log_new other) g.marks (Heard (Protocol g.bytes) ∷ g.later) (subst (λ (ms : List Mark). IsStory other ms) g.split both.other_law.log) in
    let split : accepted_in reader ≡ accepted_in g.marks ++ Protocol g.bytes ∷ accepted_in g.later = ap accepted_in g.split ∙ accepted_heard g.marks (Protocol g.bytes) g.later refl in
    let all : count_by is_message before ≡ count_by is_message (given_in other g.marks) + count_by is_message g.handles =
    ap (count_by is_message) g.before_is ∙ sum_by-append (λ (item : PeerOut). cond (is_message item) 1 0) (given_in other g.marks) g.handles in
    let number : length (messages_in (accepted_in g.marks)) ≡ length (messages_in it.front) =
    omega (arith, it.count, all, silent_count g.handles g.silent, meant_count other g.marks logs, meant_length other g.marks logs) in
    let same : accepted_in g.marks ≡ it.front =
    same_place (accepted_in g.marks) (accepted_in g.later) it.front it.later g.bytes message (subst (λ (fs : List Frame). AllByRecursion HasOne fs) split counts) (sym split ∙ it.heard) number in
    let files : MirrorsState → Option (List ℕ) = λ ms. option_map (λ m. m.bytes) (lookup (is_at (int_cmp rid)) ms) in
    let took : (peer_took_all before no_peer).mirrors ≡ (peer_in other g.marks).mirrors =
    ap (λ (is : List PeerOut). (peer_took_all is no_peer).mirrors) g.before_is
    ∙ ap (λ (p : PeerState). p.mirrors) (took_both (given_in other g.marks) g.handles no_peer)
    ∙ g.still (peer_took_all (given_in other g.marks) no_peer) in
    ap files took ∙ peer_has_meaning.files other g.marks rid logs ∙ sym (mirror_counted rid (heard_in g.marks) None) ∙ ap (mirror rid) same
