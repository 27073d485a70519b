-- The numbers of a proxy are kept by each event.
use Rattle.std.proofs.Common.{◌≡◌, ℕ, ◌+◌, ◌≤◌, suc, zero, cond, List, [], ◌∷◌, ◌++◌, Option, Some, None, Bool, true, false, ◌&&◌, drop, length, map, nat_lt, nat_le, refl, sym, ap, subst, ◌∙◌, arith, length-append}
use Rattle.std.proofs.lemmas.Bool.{leb-true}
use Rattle.std.specs.List.{AllByRecursion}
use Rattle.std.specs.Option.{MatchOption}
use Rattle.std.specs.Prelude.{is_none, option_map, ℤ, if◌then◌else◌}
use Rattle.transfer_frames.specs.declared.frame.Frame.{Frame}
use Rattle.transfer_frames.specs.declared.frame.Frame.TheVariants as frames
use Rattle.transfer_frames.specs.Grammar.{IsFrame, spelling}
use Rattle.transfer_frames.proofs.FrameLaws.{length-spelling}
use Rattle.half_model.specs.declared.items.PeerIn.{PeerIn}
use Rattle.half_model.specs.declared.items.PeerIn.TheVariants as inputs
use Rattle.half_model.specs.declared.items.PeerOut.{PeerOut}
use Rattle.wp_outside.specs.declared.pipe_items.PipeItem.{PipeItem}
use Rattle.wp_outside.specs.declared.pipe_items.PipeItem.TheVariants as pieces
use Rattle.half_model.specs.Content.{Taking}
use Rattle.half_model.specs.Group.{Owed}
use Rattle.half_model.specs.PipeTurn as pipes
use Rattle.half_model.specs.PipeTurn.{PipeTurn, pipe_turn}
use Rattle.pipe_relay.specs.Pipes.{PipesState, has_rid, is_unknown, frame_of_item, after_item}
use Rattle.half_model.specs.Tables.{Tables}
use Rattle.half_model.specs.TurnLaws.{IsPiece}
use Rattle.handle_table.specs.Table.{rid_of_number}
use Rattle.transfer_frames.specs.Numbers.{rid_bytes}
use Rattle.transfer_frames.proofs.NumberLaws.{length-rid_bytes, length-word_bytes}
use Rattle.half_model.specs.Turn.{Sending}
use Rattle.pair_model.specs.LinkFaults.{MOST_FRAMES}
use Rattle.pair_model.specs.RingState.{RingState, RING_PLACES, ring_made, ring_room, ring_held, ring_push_all}
use Rattle.pair_model.specs.StepLaws.{AreCounts}
use Rattle.pair_model.specs.Steps.{Here, ends_one, still, here_left, here_up, here_sent, here_fed}
use Rattle.pair_model.proofs.Rows.{spelling_long}
use Rattle.side_model.specs.Due.{is_free, HELD_MOST}
use Rattle.side_model.specs.Events.{Fed, Handed, Lent, Up, Down, Came, Went, Gave, Asks, Told, Heard, Took, Grouped, Ended, Chose}
use Rattle.side_model.specs.RowLaws.{SoundAtFirst, SoundOutside}
use Rattle.side_model.specs.Shows.{wants_peer, is_open}
use Rattle.side_model.specs.Steps.{step, with_live, fed, fed_pipe, gone, asked}
use Rattle.side_model.specs.Sound.{Sound, SoundHere, IsKept, reserved_group, reserved_close, IsItem}
use Rattle.side_model.specs.State.{Now, LivePart, Closing, Open, Asked, Made}

-- ---- the ring

-- a frame of the grammar is not too long
pub kept_spelling : (frame : Frame) → IsFrame frame → IsKept (spelling frame)
kept_spelling frame f = (spelling_long frame, omega (arith, length-spelling frame, f.fits))

pub all_append : {X : Type 0} (P : X → Type 0) (xs ys : List X) → AllByRecursion P xs → AllByRecursion P ys → AllByRecursion P (xs ++ ys)
all_append P [] ys h k = k
all_append P (x ∷ xs) ys h k = (h.0, all_append P xs ys h.1 k)

pub all_drop : {X : Type 0} (P : X → Type 0) (n : ℕ) (xs : List X) → AllByRecursion P xs → AllByRecursion P (drop n xs)
all_drop P zero xs h = h
all_drop P (suc n) [] h = tt
all_drop P (suc n) (x ∷ xs) h = all_drop P n xs h.1

pub all_kept : (fs : List Frame) → AllByRecursion IsFrame fs → AllByRecursion IsKept (map spelling fs)
all_kept [] h = tt
all_kept (f ∷ fs) h = (kept_spelling f h.0, all_kept fs h.1)

-- a ring that has room
pub record Room (owes : Option Owed) (ring : RingState) : Type 0 where
  pub none : owes ≡ None
  pub enough : length ring.frames + 1100 ≤ RING_PLACES

pub room_of : (owes : Option Owed) (ring : RingState) → is_free owes ring ≡ true → Room owes ring
room_of None ring e = record { none = refl; enough = by (nat_le 1100 (ring_room ring)) refl e }
  where
    by : (b : Bool) → nat_le 1100 (ring_room ring) ≡ b → (b && nat_lt (ring_held ring) HELD_MOST) ≡ true → length ring.frames + 1100 ≤ RING_PLACES
    by true k d = omega (arith, leb-true 1100 (ring_room ring) k)
    by false k d = absurd cc
room_of (Some owed) ring e = absurd cc

-- ---- counts of the connection

-- one that comes up
up_counts : (token : List ℕ) (connection accepted made acknowledged : ℕ) → AreCounts made acknowledged (here_up token connection accepted)
up_counts token connection accepted made acknowledged = record { unanswered = λ e. (refl, refl); answered = λ p e. absurd cc }

-- more frames are made
pub more_counts : {made acknowledged : ℕ} {here : Here} (more : ℕ) → made ≤ more → AreCounts made acknowledged here → AreCounts more acknowledged here
more_counts {made} {acknowledged} {here} more l h = record {
  unanswered = h.unanswered;
  answered = λ p e. ((h.answered p e).0, omega (arith, (h.answered p e).1), (h.answered p e).2);
}

-- bytes of the front are sent
sent_sum : (counts : Bool) (rest : List ℕ) → ends_one counts rest + cond (still counts rest) 1 0 ≡ cond counts 1 0
sent_sum true [] = refl
sent_sum false [] = refl
sent_sum counts (byte ∷ rest) = omega arith

still_none : (rest : List ℕ) → (still false rest ≡ false) × (ends_one false rest ≡ 0)
still_none [] = (refl, refl)
still_none (byte ∷ rest) = (refl, refl)

still_idle : (counts : Bool) (rest : List ℕ) → rest ≡ [] → still counts rest ≡ false
still_idle counts [] e = refl
still_idle counts (byte ∷ rest) e = absurd cc

left_counts : {made acknowledged : ℕ} {here : Here} (rest : List ℕ) → AreCounts made acknowledged here → AreCounts made acknowledged (here_left rest here)
left_counts {made} {acknowledged} {here} rest h = record {
  unanswered = λ e.
      let before : (here.counts ≡ false) × (here.whole ≡ 0) = h.unanswered e in
      let none : (still false rest ≡ false) × (ends_one false rest ≡ 0) = still_none rest in
      (ap (λ b. still b rest) before.0 ∙ none.0, omega (arith, before.1, ap (λ b. ends_one b rest) before.0, none.1));
  answered = λ p e.
      let before : (p + here.whole + cond here.counts 1 0 ≡ here.next) × (here.next ≤ made) × (acknowledged ≤ p + here.whole) = h.answered p e in
      (omega (arith, before.0, sent_sum here.counts rest), before.1, omega (arith, before.2));
}

-- ---- events from outside

sound_same : (s t : Now) → t.kept.ring ≡ s.kept.ring → t.live.sending.owes ≡ s.live.sending.owes → t.kept.closing ≡ s.kept.closing → t.kept.accepted ≡ s.kept.accepted → t.live.here ≡ s.live.here → t.kept.last ≡ s.kept.last
    → Sound s → Sound t
sound_same s t er eo ec ea eh el h = record {
  places = subst (λ (r : RingState). length r.frames + reserved_group t.live.sending.owes + reserved_close t.kept.closing ≤ RING_PLACES) (sym er)
      (subst (λ (o : Option Owed). length s.kept.ring.frames + reserved_group o + reserved_close t.kept.closing ≤ RING_PLACES) (sym eo)
      (subst (λ (c : Closing). length s.kept.ring.frames + reserved_group s.live.sending.owes + reserved_close c ≤ RING_PLACES) (sym ec) h.places));
  frames = subst (λ (r : RingState). AllByRecursion IsKept r.frames) (sym er) h.frames;
  few = subst (λ (n : ℕ). n ≤ MOST_FRAMES) (sym ea) h.few;
  here = subst (λ (here : Option Here). MatchOption here (Unit {0}) (SoundHere t.kept.ring t.kept.accepted t.kept.last)) (sym eh)
      (subst (λ (n : ℕ). MatchOption s.live.here (Unit {0}) (SoundHere t.kept.ring t.kept.accepted n)) (sym el)
      (subst (λ (n : ℕ). MatchOption s.live.here (Unit {0}) (SoundHere t.kept.ring n s.kept.last)) (sym ea)
      (subst (λ (r : RingState). MatchOption s.live.here (Unit {0}) (SoundHere r s.kept.accepted s.kept.last)) (sym er) h.here)));
}

-- where only the connection that is up changes
pub here_changed : (change : Here → Here) (ring : RingState) (accepted last : ℕ) (here : Option Here) → ((h : Here) → here ≡ Some h → SoundHere ring accepted last h → SoundHere ring accepted last (change h))
    → MatchOption here (Unit {0}) (SoundHere ring accepted last) → MatchOption (option_map change here) (Unit {0}) (SoundHere ring accepted last)
here_changed change ring accepted last None f h = tt
here_changed change ring accepted last (Some here) f h = f here refl h

-- frames are pushed into the ring, where it has room for them
pub pushed_here : (ring : RingState) (more : List (List ℕ)) (accepted last : ℕ) (here : Option Here) → MatchOption here (Unit {0}) (SoundHere ring accepted last) → MatchOption here (Unit {0}) (SoundHere (ring_push_all more ring) accepted last)
pushed_here ring more accepted last None h = tt
pushed_here ring more accepted last (Some here) h = record {
  number = h.number;
  told = h.told;
  counts = more_counts (ring_made (ring_push_all more ring)) (omega (arith, length-append ring.frames more)) h.counts;
  idle = h.idle;
}

sent_here : (ring : RingState) (accepted last n : ℕ) (here : Here) → SoundHere ring accepted last here → SoundHere ring accepted last (here_sent n here)
sent_here ring accepted last n here h = record {
  number = h.number;
  told = h.told;
  counts = left_counts (drop n here.front) h.counts;
  idle = still_idle here.counts (drop n here.front);
}

fed_here : (ring : RingState) (accepted last : ℕ) (piece : List ℕ) (here : Here) → SoundHere ring accepted last here → SoundHere ring accepted last (here_fed piece here)
fed_here ring accepted last piece here h = record { number = h.number; told = h.told; counts = record { unanswered = h.counts.unanswered; answered = h.counts.answered }; idle = h.idle }

asked_same : (reason : ℕ) (closing : Closing) → reserved_close (asked reason closing) ≡ reserved_close closing
asked_same reason Open = refl
asked_same reason (Asked other) = refl
asked_same reason Made = refl

-- an item for a pipe that makes a frame
made_of : (tables : Tables) (found : Option Frame) (frame : Frame) (after : Tables) → pipes.made_turn tables found ≡ pipes.Makes frame after → found ≡ Some frame
made_of tables None frame after e = absurd cc
made_of tables (Some found) frame after e = cc

named_of : (tables : Tables) (item : PipeItem) (frame : Frame) (after : Tables) → pipes.named_turn tables (Some item) ≡ pipes.Makes frame after → frame_of_item tables.pipes item ≡ Some frame
named_of tables item frame after e = go (is_unknown tables.pipes item) e
  where
    go : (b : Bool) → (if b then pipes.Barred else pipes.made_turn (pipes.with_pipes (after_item tables.pipes item) tables) (frame_of_item tables.pipes item)) ≡ pipes.Makes frame after → frame_of_item tables.pipes item ≡ Some frame
    go true d = absurd cc
    go false d = made_of (pipes.with_pipes (after_item tables.pipes item) tables) (frame_of_item tables.pipes item) frame after d

-- the frame of an item
transfer_of : (pipes : PipesState) (rid : ℤ) (bytes : List ℕ) (frame : Frame) → frame_of_item pipes (pieces.Bytes rid bytes) ≡ Some frame → frame ≡ frames.PipeTransfer rid bytes
transfer_of pipes rid bytes frame e = go (has_rid rid pipes.shut) e
  where
    go : (b : Bool) → (if b then None else Some (frames.PipeTransfer rid bytes)) ≡ Some frame → frame ≡ frames.PipeTransfer rid bytes
    go true d = absurd cc
    go false d = cc

end_of : (pipes : PipesState) (rid : ℤ) (frame : Frame) → frame_of_item pipes (pieces.End rid) ≡ Some frame → frame ≡ frames.PipeShutW rid
end_of pipes rid frame e = go (has_rid rid pipes.shut) e
  where
    go : (b : Bool) → (if b then None else Some (frames.PipeShutW rid)) ≡ Some frame → frame ≡ frames.PipeShutW rid
    go true d = absurd cc
    go false d = cc

kept_transfer : (rid : ℤ) (bytes : List ℕ) → length bytes ≤ 65536 → IsKept (spelling (frames.PipeTransfer rid bytes))
kept_transfer rid bytes l = (spelling_long (frames.PipeTransfer rid bytes), omega (arith, length-spelling (frames.PipeTransfer rid bytes), length-append (rid_bytes rid) bytes, length-rid_bytes rid))

kept_end : (rid : ℤ) → IsKept (spelling (frames.PipeShutW rid))
kept_end rid = (spelling_long (frames.PipeShutW rid), omega (arith, length-spelling (frames.PipeShutW rid), length-rid_bytes rid))

kept_shut : (rid : ℤ) → IsKept (spelling (frames.PipeShutR rid))
kept_shut rid = (spelling_long (frames.PipeShutR rid), omega (arith, length-spelling (frames.PipeShutR rid), length-rid_bytes rid))

pub kept_close : (reason : ℕ) → IsKept (spelling (frames.Close reason))
kept_close reason = (spelling_long (frames.Close reason), omega (arith, length-spelling (frames.Close reason), length-word_bytes reason))

pipe_frame : (tables : Tables) (taking : Taking) (item : PipeItem) (frame : Frame) (after : Tables) → IsPiece item → pipe_turn tables taking item ≡ pipes.Makes frame after → IsKept (spelling frame)
pipe_frame tables taking (pieces.Bytes rid bytes) frame after piece e = go (has_rid rid taking.held) e
  where
    go : (b : Bool) → pipes.named_turn tables (if b then Some (pieces.Bytes rid bytes) else None) ≡ pipes.Makes frame after → IsKept (spelling frame)
    go true d = subst (λ (f : Frame). IsKept (spelling f)) (sym (transfer_of tables.pipes rid bytes frame (named_of tables (pieces.Bytes rid bytes) frame after d))) (kept_transfer rid bytes piece.1)
    go false d = absurd cc
pipe_frame tables taking (pieces.End rid) frame after piece e = go (has_rid rid taking.held) e
  where
    go : (b : Bool) → pipes.named_turn tables (if b then Some (pieces.End rid) else None) ≡ pipes.Makes frame after → IsKept (spelling frame)
    go true d = subst (λ (f : Frame). IsKept (spelling f)) (sym (end_of tables.pipes rid frame (named_of tables (pieces.End rid) frame after d))) (kept_end rid)
    go false d = absurd cc
pipe_frame tables taking (pieces.Shut number) frame after piece e = go (rid_of_number tables.handles number) e
  where
    go : (found : Option ℤ) → pipes.named_turn tables (option_map (λ rid. pieces.Shut rid) found) ≡ pipes.Makes frame after → IsKept (spelling frame)
    go None d = absurd cc
    go (Some rid) d =
        let k : Some (frames.PipeShutR rid) ≡ Some frame = named_of tables (pieces.Shut rid) frame after d in
        let same : frames.PipeShutR rid ≡ frame = cc in
        subst (λ (f : Frame). IsKept (spelling f)) same (kept_shut rid)

pub wants_free : (s : Now) → wants_peer s ≡ true → (is_open s.kept.closing ≡ true) × (is_free s.live.sending.owes s.kept.ring ≡ true)
wants_free s e = by_fault (is_none s.fault) e
  where
    by_open : (b c : Bool) → (b && c) ≡ true → (b ≡ true) × (c ≡ true)
    by_open true c d = (refl, d)
    by_open false c d = absurd cc

    by_fault : (b : Bool) → (b && (is_open s.kept.closing && is_free s.live.sending.owes s.kept.ring)) ≡ true → (is_open s.kept.closing ≡ true) × (is_free s.live.sending.owes s.kept.ring ≡ true)
    by_fault true d = by_open (is_open s.kept.closing) (is_free s.live.sending.owes s.kept.ring) d
    by_fault false d = absurd cc

open_close : (closing : Closing) → is_open closing ≡ true → reserved_close closing ≡ 1
open_close Open e = refl
open_close (Asked reason) e = absurd cc
open_close Made e = absurd cc

sound_pipe : (item : PipeItem) (s : Now) → Sound s → wants_peer s ≡ true → IsPiece item → (it : PipeTurn) → pipe_turn s.live.tables s.live.taking item ≡ it → Sound (fed_pipe it s)
sound_pipe item s h w piece pipes.Barred e = h
sound_pipe item s h w piece (pipes.Drops tables) e = record { places = h.places; frames = h.frames; few = h.few; here = h.here }
sound_pipe item s h w piece (pipes.Makes frame tables) e =
    let free : (is_open s.kept.closing ≡ true) × (is_free s.live.sending.owes s.kept.ring ≡ true) = wants_free s w in
    let room : Room s.live.sending.owes s.kept.ring = room_of s.live.sending.owes s.kept.ring free.1 in
    record {
      places = omega (arith, room.enough, length-append s.kept.ring.frames (spelling frame ∷ []), ap reserved_group room.none, open_close s.kept.closing free.0);
      frames = all_append IsKept s.kept.ring.frames (spelling frame ∷ []) h.frames (pipe_frame s.live.tables s.live.taking item frame tables piece e, tt);
      few = h.few;
      here = pushed_here s.kept.ring (spelling frame ∷ []) s.kept.accepted s.kept.last s.live.here h.here;
    }

sound_fed : (item : PeerIn) (s : Now) → Sound s → wants_peer s ≡ true → IsItem item → Sound (fed item s)
sound_fed (inputs.Bytes bytes) s h w piece = record { places = h.places; frames = h.frames; few = h.few; here = h.here }
sound_fed (inputs.Handle handle) s h w piece = record { places = h.places; frames = h.frames; few = h.few; here = h.here }
sound_fed (inputs.Note note) s h w piece = record { places = h.places; frames = h.frames; few = h.few; here = h.here }
sound_fed (inputs.Pipe item) s h w piece = sound_pipe item s h w piece (pipe_turn s.live.tables s.live.taking item) refl

gone_same : (items : List PeerOut) (live : LivePart) → ((gone items live).here ≡ live.here) × ((gone items live).sending ≡ live.sending)
gone_same [] live = (refl, refl)
gone_same (item ∷ items) live = (refl, refl)

pub sound_outside : SoundOutside
unfolding step
sound_outside (Fed item) s h a = sound_fed item s h a.0 a.1
sound_outside (Handed done) s h a = record { places = h.places; frames = h.frames; few = h.few; here = h.here }
sound_outside Lent s h a = record { places = h.places; frames = h.frames; few = h.few; here = h.here }
sound_outside (Up connection) s h a = record {
  places = h.places;
  frames = h.frames;
  few = h.few;
  here = record {
    number = omega arith;
    told = omega arith;
    counts = up_counts s.token connection s.kept.accepted (ring_made s.kept.ring) s.kept.ring.acknowledged;
    idle = λ e. refl;
  };
}
sound_outside Down s h a = record { places = h.places; frames = h.frames; few = h.few; here = tt }
sound_outside (Came piece) s h a = record {
  places = h.places;
  frames = h.frames;
  few = h.few;
  here = here_changed (here_fed piece) s.kept.ring s.kept.accepted s.kept.last s.live.here (λ here e. fed_here s.kept.ring s.kept.accepted s.kept.last piece here) h.here;
}
sound_outside (Went n) s h a = record {
  places = h.places;
  frames = h.frames;
  few = h.few;
  here = here_changed (here_sent n) s.kept.ring s.kept.accepted s.kept.last s.live.here (λ here e. sent_here s.kept.ring s.kept.accepted s.kept.last n here) h.here;
}
sound_outside Gave s h a =
    let same : ((gone s.live.items s.live).here ≡ s.live.here) × ((gone s.live.items s.live).sending ≡ s.live.sending) = gone_same s.live.items s.live in
    sound_same s (with_live (λ live. gone live.items live) s) refl (ap (λ (x : Sending). x.owes) same.1) refl refl same.0 refl h
sound_outside (Asks reason) s h a = record { places = omega (arith, h.places, asked_same reason s.kept.closing); frames = h.frames; few = h.few; here = h.here }
sound_outside Told s h a = record { places = h.places; frames = h.frames; few = h.few; here = h.here }
sound_outside (Heard frame) s h a = absurd a
sound_outside Took s h a = absurd a
sound_outside Grouped s h a = absurd a
sound_outside Ended s h a = absurd a
sound_outside Chose s h a = absurd a

-- ---- at first

pub sound_at_first : SoundAtFirst
sound_at_first side token = record { places = omega arith; frames = tt; few = omega arith; here = tt }
