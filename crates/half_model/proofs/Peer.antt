-- A peer that takes all that it is given has what the frames mean that its side hears.
use Rattle.std.proofs.Common.{◌≡◌, ℕ, ◌+◌, Bool, true, false, cond, List, [], ◌∷◌, ◌++◌, length, map, ℤ, Option, Some, None, option_map, option_to_list, Result, Ok, Err, refl, sym, ap, ◌∙◌, subst, append_assoc, append-nil, ⊎_elim}
use Rattle.std.proofs.lemmas.Bool.{false≢true}
use Rattle.std.proofs.lemmas.Bool.Decides.{Decides-int_eq}
use Rattle.std.proofs.lemmas.Cmp.{int_cmp_total}
use Rattle.std.proofs.lemmas.Map.Lookups.{exact_signed}
use Rattle.std.proofs.lemmas.Map.Made.{lookup-map_values}
use Rattle.std.proofs.lemmas.Map.Steps.{set_value_same}
use Rattle.std.specs.BTreeMap.{insert_entry, is_at}
use Rattle.std.specs.List.Sorted.{IsStrictlySortedBy}
use Rattle.std.specs.Map.{lookup, keys_of, set_value}
use Rattle.std.specs.Ordering.{int_cmp, int_eq}
use Rattle.wp_outside.specs.declared.kinds.Side.{Side}
use Rattle.transfer_frames.specs.declared.cause.FrameCause.{FrameCause}
use Rattle.transfer_frames.specs.declared.frame.Frame.{Frame}
use Rattle.transfer_frames.specs.declared.frame.Frame.TheVariants.{Protocol, Inject, OpenFile, ExtendFile, Fill, OpenPipe, PipeTransfer, PipeShutR, PipeShutW, Ack, Restart, Close}
use Rattle.transfer_frames.specs.Faults.{or_else}
use Rattle.half_model.specs.declared.items.PeerOut.{PeerOut}
use Rattle.half_model.specs.declared.items.PeerOut.TheVariants as items
use Rattle.wp_outside.specs.declared.pipe_items.PipeItem.{PipeItem}
use Rattle.half_model.specs.Content.{Taking, Passage, passage_of, heard, heard_messages, rid_cause}
use Rattle.half_model.specs.ItemLaws.{given_in, sent_among}
use Rattle.half_model.specs.Log.{Mark, Taken, Heard, Grouped, Dropped, LogState, log_new, MayHear, log_next, Logs, log_after}
use Rattle.mirror_pools.specs.Meaning.{mirror_step, mirror_from}
use Rattle.mirror_pools.specs.Mirrors.{replaced, widened}
use Rattle.half_model.specs.PeerLaws.{file_at, PeerHasMeaning}
use Rattle.half_model.specs.PeerState.{PeerState, no_peer, with_mirrors, if_good, peer_took, peer_took_all}
use Rattle.mirror_pools.specs.Mirrors.{MirrorState, sizes_of, mirror_opened, mirror_grown, mirror_filled, put_mirror, on_mirror}
use Rattle.pipe_relay.specs.Pipes.{item_of_frame}
use Rattle.mirror_pools.specs.Sizes.{ToldSizes, total, size_at, rounded, open_cause, grow_cause, extend_cause, range_cause, fill_cause}
use Rattle.half_model.specs.Story.{Sent, heard_in, items_from}
use Rattle.half_model.specs.StoryLaws.{IsStory}
use Rattle.half_model.proofs.Carrying.{group_taking}
use Rattle.half_model.proofs.Given.{items_are_meant, spoken_frame}
use Rattle.half_model.proofs.Maps.{lookup_put, lookup_other, same_or_apart, rising_put, mapped-put, mapped-set, set_is_put}
use Rattle.half_model.proofs.Sound.{passed, after_taken}
use Rattle.half_model.proofs.Spoken.{took_both}

-- ---- messages

-- what a check refuses leaves the messages, and what it lets pass here does so too
same_messages : {X : Type 0} (cause : Option X) (next peer : PeerState) → next.messages ≡ peer.messages → (if_good cause next peer).messages ≡ peer.messages
same_messages None next peer e = e
same_messages (Some cause) next peer e = refl

messages_in : (given : List PeerOut) (rid : Option ℤ) (peer : PeerState) → (peer_took_all given peer).messages ≡ peer.messages ++ map (λ (sent : Sent). sent.0) (sent_among rid given)
messages_in [] rid peer = sym (append-nil peer.messages)
messages_in (items.Bytes message ∷ rest) rid peer =
    messages_in rest None (peer_took (items.Bytes message) peer)
    ∙ append_assoc peer.messages (message ∷ []) (map (λ (sent : Sent). sent.0) (sent_among None rest))
messages_in (items.Handle handle ∷ rest) rid peer = messages_in rest (Some handle.number) (peer_took (items.Handle handle) peer)
messages_in (items.Opened other size ∷ rest) rid peer =
    messages_in rest rid (peer_took (items.Opened other size) peer)
    ∙ ap (λ (ms : List (List ℕ)). ms ++ map (λ (sent : Sent). sent.0) (sent_among rid rest)) (same_messages (open_cause other size (sizes_of peer.mirrors)) _ peer refl)
messages_in (items.Grown other size ∷ rest) rid peer =
    messages_in rest rid (peer_took (items.Grown other size) peer)
    ∙ ap (λ (ms : List (List ℕ)). ms ++ map (λ (sent : Sent). sent.0) (sent_among rid rest)) (same_messages (extend_cause other size (sizes_of peer.mirrors)) _ peer refl)
messages_in (items.Filled other start piece ∷ rest) rid peer =
    messages_in rest rid (peer_took (items.Filled other start piece) peer)
    ∙ ap (λ (ms : List (List ℕ)). ms ++ map (λ (sent : Sent). sent.0) (sent_among rid rest)) (same_messages (fill_cause other (start + length piece) (sizes_of peer.mirrors)) _ peer refl)
messages_in (items.Pipe item ∷ rest) rid peer = messages_in rest rid (peer_took (items.Pipe item) peer)
messages_in (items.Receipt number segment receipt ∷ rest) rid peer = messages_in rest rid peer

-- ---- a file behind a step

abbrev found : ℤ → List (ℤ × MirrorState) → Option MirrorState
found rid mirrors = lookup (is_at (int_cmp rid)) mirrors

-- the file of a rid where another one, or the same, was put
put_at : (mirrors : List (ℤ × MirrorState)) (other rid : ℤ) (it : MirrorState)
    → option_map (λ (m : MirrorState). m.bytes) (found rid (insert_entry int_cmp mirrors other it)) ≡ cond (int_eq other rid) (Some it.bytes) (option_map (λ (m : MirrorState). m.bytes) (found rid mirrors))
put_at mirrors other rid it = by (int_eq other rid) refl
  where
    by : (b : Bool) → int_eq other rid ≡ b → option_map (λ (m : MirrorState). m.bytes) (found rid (insert_entry int_cmp mirrors other it)) ≡ cond b (Some it.bytes) (option_map (λ (m : MirrorState). m.bytes) (found rid mirrors))
    by true e =
        let same : other ≡ rid = (Decides-int_eq other rid).0 e in
        ap (λ (r : ℤ). option_map (λ (m : MirrorState). m.bytes) (found r (insert_entry int_cmp mirrors other it))) (sym same)
        ∙ ap (option_map (λ (m : MirrorState). m.bytes)) (lookup_put int_cmp_total exact_signed mirrors other it)
    by false e =
        ⊎_elim
        (λ (same : rid ≡ other). absurd (false≢true (sym e ∙ (Decides-int_eq other rid).1 (sym same))))
        (λ apart. ap (option_map (λ (m : MirrorState). m.bytes)) (lookup_other int_cmp_total exact_signed mirrors other rid it apart))
        (same_or_apart int_cmp_total exact_signed rid other)

-- where the same one was there, it may be said by what it was
put_known : (mirrors : List (ℤ × MirrorState)) (other rid : ℤ) (old it : MirrorState) (step : List ℕ → List ℕ) → found other mirrors ≡ Some old → it.bytes ≡ step old.bytes
    → cond (int_eq other rid) (Some it.bytes) (option_map (λ (m : MirrorState). m.bytes) (found rid mirrors))
    ≡ cond (int_eq other rid) (option_map step (option_map (λ (m : MirrorState). m.bytes) (found rid mirrors))) (option_map (λ (m : MirrorState). m.bytes) (found rid mirrors))
put_known mirrors other rid old it step at is = by (int_eq other rid) refl
  where
    by : (b : Bool) → int_eq other rid ≡ b
        → cond b (Some it.bytes) (option_map (λ (m : MirrorState). m.bytes) (found rid mirrors))
        ≡ cond b (option_map step (option_map (λ (m : MirrorState). m.bytes) (found rid mirrors))) (option_map (λ (m : MirrorState). m.bytes) (found rid mirrors))
    by false e = refl
    by true e =
        let same : other ≡ rid = (Decides-int_eq other rid).0 e in
        ap (λ (bytes : List ℕ). let o : Option (List ℕ) = Some bytes in o) is
        ∙ ap (λ (m : Option MirrorState). option_map step (option_map (λ (m' : MirrorState). m'.bytes) m)) (sym at)
        ∙ ap (λ (r : ℤ). option_map step (option_map (λ (m : MirrorState). m.bytes) (found r mirrors))) same

-- ---- a peer beside its side

pub record HasFiles (taking : Taking) (peer : PeerState) : Type 0 where
  pub sized : sizes_of peer.mirrors ≡ taking.sizes
  pub rises : IsStrictlySortedBy int_cmp (keys_of peer.mirrors)

-- behind a frame
record TakesFrame (s : LogState) (frame : Frame) (peer after : PeerState) : Type 0 where
  has : HasFiles (log_next s (Heard frame)).taking after
  files : (rid : ℤ) → file_at rid after ≡ mirror_step rid frame (file_at rid peer)

-- a file that a look-up of the sizes finds
known : (mirrors : List (ℤ × MirrorState)) (rid : ℤ) (sizes : ToldSizes) (size : ℕ) → sizes_of mirrors ≡ sizes → size_at rid sizes ≡ Some size
    → (it : MirrorState) × (found rid mirrors ≡ Some it) × (it.size ≡ size)
known mirrors rid sizes size is e =
    by (found rid mirrors) refl (sym (lookup-map_values (λ (m : MirrorState). m.size) (is_at (int_cmp rid)) mirrors) ∙ ap (size_at rid) is ∙ e)
  where
    by : (told : Option MirrorState) → found rid mirrors ≡ told → option_map (λ (m : MirrorState). m.size) told ≡ Some size → (it : MirrorState) × (found rid mirrors ≡ Some it) × (it.size ≡ size)
    by None f g = absurd cc
    by (Some it) f g = (it, f, cc)

opened_good : (cause other : Option FrameCause) → or_else cause other ≡ None → other ≡ None
opened_good None other e = e
opened_good (Some cause) other e = absurd cc

grown_known : (old : Option ℕ) (size : ℕ) (sizes : ToldSizes) → grow_cause old size (total sizes) ≡ None → (n : ℕ) × (old ≡ Some n)
grown_known None size sizes e = absurd cc
grown_known (Some n) size sizes e = (n, refl)

filled_known : (size : Option ℕ) (end : ℕ) → range_cause size end ≡ None → (n : ℕ) × (size ≡ Some n)
filled_known None end e = absurd cc
filled_known (Some n) end e = (n, refl)

opened : (s : LogState) (rid : ℤ) (size : ℕ) (peer : PeerState) → MayHear s (OpenFile rid size) → HasFiles s.taking peer → TakesFrame s (OpenFile rid size) peer (peer_took (items.Opened rid size) peer)
opened s rid size peer may h =
    let good : open_cause rid size (sizes_of peer.mirrors) ≡ None =
    ap (open_cause rid size) h.sized ∙ opened_good (rid_cause s.tables rid) (open_cause rid size s.taking.sizes) may.accepted in
    let all : List (ℤ × MirrorState) = insert_entry int_cmp peer.mirrors rid (mirror_opened size) in
    let P : Option FrameCause → Type 0 = λ c. TakesFrame s (OpenFile rid size) peer (if_good c (with_mirrors all peer) peer) in
    subst P (sym good) (record {
      has = record {
        sized = mapped-put int_cmp (λ (m : MirrorState). m.size) peer.mirrors rid (mirror_opened size) ∙ ap (λ (z : ToldSizes). insert_entry int_cmp z rid size) h.sized;
        rises = rising_put int_cmp_total exact_signed peer.mirrors rid (mirror_opened size) h.rises;
      };
      files = λ q. put_at peer.mirrors rid q (mirror_opened size);
    })

grown : (s : LogState) (rid : ℤ) (size : ℕ) (peer : PeerState) → MayHear s (ExtendFile rid size) → HasFiles s.taking peer → TakesFrame s (ExtendFile rid size) peer (peer_took (items.Grown rid size) peer)
grown s rid size peer may h =
    let good : extend_cause rid size (sizes_of peer.mirrors) ≡ None = ap (extend_cause rid size) h.sized ∙ may.accepted in
    let was = grown_known (size_at rid s.taking.sizes) size s.taking.sizes may.accepted in
    let at = known peer.mirrors rid s.taking.sizes was.0 h.sized was.1 in
    let it : MirrorState = mirror_grown size at.0 in
    let all : List (ℤ × MirrorState) = insert_entry int_cmp peer.mirrors rid it in
    let is : on_mirror rid (mirror_grown size) peer.mirrors ≡ all =
    ap (λ (m : Option MirrorState). put_mirror rid (option_map (mirror_grown size) m) peer.mirrors) at.1 ∙ set_is_put int_cmp_total rid peer.mirrors at.0 it h.rises at.1 in
    let P : Option FrameCause → Type 0 = λ c. TakesFrame s (ExtendFile rid size) peer (if_good c (with_mirrors (on_mirror rid (mirror_grown size) peer.mirrors) peer) peer) in
    let Q : List (ℤ × MirrorState) → Type 0 = λ ms. TakesFrame s (ExtendFile rid size) peer (with_mirrors ms peer) in
    subst P (sym good) (subst Q (sym is) (record {
      has = record {
        sized = mapped-put int_cmp (λ (m : MirrorState). m.size) peer.mirrors rid it ∙ ap (λ (z : ToldSizes). insert_entry int_cmp z rid size) h.sized;
        rises = rising_put int_cmp_total exact_signed peer.mirrors rid it h.rises;
      };
      files = λ q. put_at peer.mirrors rid q it ∙ put_known peer.mirrors rid q at.0 it (widened (rounded size)) at.1 refl;
    }))

filled : (s : LogState) (rid : ℤ) (start end : ℕ) (piece : List ℕ) (peer : PeerState) → MayHear s (Fill rid start end piece) → HasFiles s.taking peer
    → TakesFrame s (Fill rid start end piece) peer (peer_took (items.Filled rid start piece) peer)
filled s rid start end piece peer may h =
    let ends : end ≡ start + length piece = may.is_frame.fields.2.3 in
    let good : fill_cause rid (start + length piece) (sizes_of peer.mirrors) ≡ None =
    ap (λ (n : ℕ). fill_cause rid n (sizes_of peer.mirrors)) (sym ends) ∙ ap (fill_cause rid end) h.sized ∙ may.accepted in
    let was = filled_known (size_at rid s.taking.sizes) end may.accepted in
    let at = known peer.mirrors rid s.taking.sizes was.0 h.sized was.1 in
    let it : MirrorState = mirror_filled start piece at.0 in
    let all : List (ℤ × MirrorState) = insert_entry int_cmp peer.mirrors rid it in
    let set : List (ℤ × MirrorState) = set_value (is_at (int_cmp rid)) peer.mirrors it in
    let put : set ≡ all = set_is_put int_cmp_total rid peer.mirrors at.0 it h.rises at.1 in
    let is : on_mirror rid (mirror_filled start piece) peer.mirrors ≡ set = ap (λ (m : Option MirrorState). put_mirror rid (option_map (mirror_filled start piece) m) peer.mirrors) at.1 in
    let same : sizes_of all ≡ sizes_of peer.mirrors =
    ap sizes_of (sym put) ∙ mapped-set (is_at (int_cmp rid)) (λ (m : MirrorState). m.size) peer.mirrors it
    ∙ set_value_same (is_at (int_cmp rid)) (sizes_of peer.mirrors) it.size
    (lookup-map_values (λ (m : MirrorState). m.size) (is_at (int_cmp rid)) peer.mirrors ∙ ap (option_map (λ (m : MirrorState). m.size)) at.1) in
    let P : Option FrameCause → Type 0 = λ c. TakesFrame s (Fill rid start end piece) peer (if_good c (with_mirrors (on_mirror rid (mirror_filled start piece) peer.mirrors) peer) peer) in
    let Q : List (ℤ × MirrorState) → Type 0 = λ ms. TakesFrame s (Fill rid start end piece) peer (with_mirrors ms peer) in
    subst P (sym good) (subst Q (sym (is ∙ put)) (record {
      has = record { sized = same ∙ h.sized; rises = rising_put int_cmp_total exact_signed peer.mirrors rid it h.rises };
      files = λ q. put_at peer.mirrors rid q it ∙ put_known peer.mirrors rid q at.0 it (replaced start piece) at.1 refl;
    }))

-- ---- any frame

-- a peer that has the same files
same_files : (taking next : Taking) (peer after : PeerState) → next.sizes ≡ taking.sizes → after.mirrors ≡ peer.mirrors → HasFiles taking peer → HasFiles next after
same_files taking next peer after e f h =
    let P : List (ℤ × MirrorState) → Type 0 = λ ms. IsStrictlySortedBy int_cmp (keys_of ms) in
    record { sized = ap sizes_of f ∙ h.sized ∙ sym e; rises = subst P (sym f) h.rises }

same_at : (rid : ℤ) (peer after : PeerState) → after.mirrors ≡ peer.mirrors → file_at rid after ≡ file_at rid peer
same_at rid peer after f = ap (λ (ms : List (ℤ × MirrorState)). option_map (λ (m : MirrorState). m.bytes) (found rid ms)) f

-- an item of a pipe leaves the files
pipe_took : (told : Option PipeItem) (peer : PeerState) → (peer_took_all (option_to_list (option_map (λ item. items.Pipe item) told)) peer).mirrors ≡ peer.mirrors
pipe_took None peer = refl
pipe_took (Some item) peer = refl

heard_sizes : (s : LogState) (told : Result Passage FrameCause) → (heard_messages s.tables s.taking told).taking.sizes ≡ s.taking.sizes
heard_sizes s (Ok it) = refl
heard_sizes s (Err cause) = refl

abbrev after_frame : LogState → Frame → PeerState → PeerState
after_frame s frame peer = peer_took_all (heard s.tables s.taking frame).given peer

of_pipe : (s : LogState) (frame : Frame) (told : Option PipeItem) (peer : PeerState) → (heard s.tables s.taking frame).given ≡ option_to_list (option_map (λ item. items.Pipe item) told)
    → (heard s.tables s.taking frame).taking.sizes ≡ s.taking.sizes → HasFiles s.taking peer → ((rid : ℤ) (bytes : Option (List ℕ)) → mirror_step rid frame bytes ≡ bytes) → TakesFrame s frame peer (after_frame s frame peer)
of_pipe s frame told peer is taking h still =
    let same : (after_frame s frame peer).mirrors ≡ peer.mirrors = ap (λ (given : List PeerOut). (peer_took_all given peer).mirrors) is ∙ pipe_took told peer in
    record {
      has = same_files s.taking (log_next s (Heard frame)).taking peer (after_frame s frame peer) taking same h;
      files = λ rid. same_at rid peer (after_frame s frame peer) same ∙ sym (still rid (file_at rid peer));
    }

takes : (s : LogState) (frame : Frame) (peer : PeerState) → MayHear s frame → HasFiles s.taking peer → TakesFrame s frame peer (after_frame s frame peer)
takes s (Protocol bytes) peer may h =
    let got = spoken_frame s bytes may in
    let same : (after_frame s (Protocol bytes) peer).mirrors ≡ peer.mirrors = ap (λ (given : List PeerOut). (peer_took_all given peer).mirrors) got.2 ∙ got.1.spoken.peer peer in
    record {
      has = same_files s.taking (log_next s (Heard (Protocol bytes))).taking peer (after_frame s (Protocol bytes) peer) (heard_sizes s (passage_of s.tables s.taking bytes)) same h;
      files = λ rid. same_at rid peer (after_frame s (Protocol bytes) peer) same;
    }
takes s (Inject rids) peer may h = of_pipe s (Inject rids) None peer refl refl h (λ rid bytes. refl)
takes s (OpenFile rid size) peer may h = opened s rid size peer may h
takes s (ExtendFile rid size) peer may h = grown s rid size peer may h
takes s (Fill rid start end piece) peer may h = filled s rid start end piece peer may h
takes s (OpenPipe rid) peer may h = of_pipe s (OpenPipe rid) None peer refl refl h (λ other bytes. refl)
takes s (PipeTransfer rid piece) peer may h = of_pipe s (PipeTransfer rid piece) (item_of_frame s.tables.pipes (PipeTransfer rid piece)) peer refl refl h (λ other bytes. refl)
takes s (PipeShutR rid) peer may h = of_pipe s (PipeShutR rid) (item_of_frame s.tables.pipes (PipeShutR rid)) peer refl refl h (λ other bytes. refl)
takes s (PipeShutW rid) peer may h = of_pipe s (PipeShutW rid) (item_of_frame s.tables.pipes (PipeShutW rid)) peer refl refl h (λ other bytes. refl)
takes s (Ack count) peer may h = of_pipe s (Ack count) None peer refl refl h (λ rid bytes. refl)
takes s (Restart token connection received) peer may h = of_pipe s (Restart token connection received) None peer refl refl h (λ rid bytes. refl)
takes s (Close reason) peer may h = of_pipe s (Close reason) None peer refl refl h (λ rid bytes. refl)

-- ---- along a story

record Received (s : LogState) (story : List Mark) (peer : PeerState) : Type 0 where
  has : HasFiles (log_after s story).taking (peer_took_all (items_from s story) peer)
  files : (rid : ℤ) → file_at rid (peer_took_all (items_from s story) peer) ≡ mirror_from rid (heard_in story) (file_at rid peer)

received : (s : LogState) (story : List Mark) (peer : PeerState) → Logs s story → HasFiles s.taking peer → Received s story peer
received s [] peer logs h = record { has = h; files = λ rid. refl }
received s (Taken message handle segments ∷ story) peer logs h =
    let T : Taking → Type 0 = λ t. HasFiles t peer in
    let same : (log_next s (Taken message handle segments)).taking ≡ s.taking = ap (λ (t : LogState). t.taking) (after_taken s message handle segments (passed s message handle segments logs.0)) in
    let next = received (log_next s (Taken message handle segments)) story peer logs.1 (subst T (sym same) h) in
    record { has = next.has; files = next.files }
received s (Heard frame ∷ story) peer logs h =
    let t = takes s frame peer logs.0 h in
    let next = received (log_next s (Heard frame)) story (after_frame s frame peer) logs.1 t.has in
    let both = took_both (heard s.tables s.taking frame).given (items_from (log_next s (Heard frame)) story) peer in
    let P : PeerState → Type 0 = λ p. HasFiles (log_after (log_next s (Heard frame)) story).taking p in
    record {
      has = subst P (sym both) next.has;
      files = λ rid. ap (file_at rid) both ∙ next.files rid ∙ ap (mirror_from rid (heard_in story)) (t.files rid);
    }
received s (Dropped rid ∷ story) peer logs h =
    let next = received (log_next s (Dropped rid)) story peer logs.1 h in record { has = next.has; files = next.files }
received s (Grouped frames copies ∷ story) peer logs h =
    let T : Taking → Type 0 = λ t. HasFiles t peer in
    let next = received (log_next s (Grouped frames copies)) story peer logs.1 (subst T (sym (group_taking s s.owes frames)) h) in
    record { has = next.has; files = next.files }

none_rise : IsStrictlySortedBy int_cmp []
unfolding IsStrictlySortedBy
none_rise = tt

from_none : (side : Side) (story : List Mark) → IsStory side story → Received (log_new side) story no_peer
from_none side story logs = received (log_new side) story no_peer logs (record { sized = refl; rises = none_rise })

pub peer_has_meaning : PeerHasMeaning
peer_has_meaning = record {
  messages = λ side story logs.
      messages_in (given_in side story) None no_peer ∙ ap (map (λ (sent : Sent). sent.0)) (items_are_meant.messages side story logs);
  sizes = λ side story logs. (from_none side story logs).has.sized;
  files = λ side story rid logs. (from_none side story logs).files rid;
}
