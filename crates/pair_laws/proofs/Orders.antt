-- The two facts on the order of passing, and what they give over both sides.
use Rattle.std.proofs.Common.{◌≡◌, ℕ, ◌+◌, ◌<◌, ◌≤◌, suc, zero, cond, Bool, true, false, max, List, [], ◌∷◌, ◌++◌, Option, Some, None, drop, length, refl, sym, ap, ◌∙◌, subst, arith, append_assoc, length-append, inl, inr, ◌⊎◌}
use Rattle.std.proofs.lemmas.Grind.{flat_map-append}
use Rattle.std.proofs.lemmas.Bool.{false≢true, cases_order}
use Rattle.std.specs.Option.{MatchOption}
use Rattle.std.specs.Prelude.{slice_get}
use Rattle.plain_lists.specs.Fronts.{IsFront}
use Rattle.plain_lists.proofs.FrontLemmas.{IsFront_nil, IsFront_longer}
use Rattle.wp_outside.specs.declared.kinds.Side.{Side}
use Rattle.transfer_frames.specs.declared.frame.Frame.{Frame}
use Rattle.transfer_frames.specs.declared.frame.Frame.TheVariants.{Restart, Protocol}
use Rattle.transfer_frames.specs.Grammar.{role}
use Rattle.half_model.specs.Log.{Mark, Taken, Heard, Grouped, LogState, log_new, log_next, Logs}
use Rattle.half_model.specs.Sides.{other_side}
use Rattle.half_model.specs.Story.{made_in, accepted_in, messages_of, messages_in, owed_messages, shown_of}
use Rattle.half_model.specs.StoryLaws.{now, IsStory}
use Rattle.half_model.proofs.ShownLaws.{shown_in_order}
use Rattle.pair_model.specs.Lines.{SideRecord, Agrees, read_on, written_on}
use Rattle.pair_model.specs.Order.{told_before, InTime}
use Rattle.pair_model.specs.Rows.{spellings, counted, is_counted, told, reply, Reads}
use Rattle.pair_model.specs.Wire.{Wrote, Wire, accepted_below, told_below}
use Rattle.pair_model.proofs.Came.{no_read, no_bytes, came_reply}
use Rattle.pair_model.proofs.Fronts.{slice_get_drop}
use Rattle.pair_model.proofs.Inductions.{Both}
use Rattle.pair_model.proofs.Once.{both}
use Rattle.pair_model.proofs.Orders.{told_before_at, within_at}
use Rattle.pair_model.proofs.Rows as rows
use Rattle.pair_model.proofs.Seen.{one_accepted}
use Rattle.side_model.specs.Places.{places_in}
use Rattle.pair_laws.specs.Orders.{Shows, up_to_taken, WroteInTime, WritesInTime, HearsBehind, HeardWasMade}
use Rattle.pair_laws.specs.Pairs.{OneSide, IsLawful, lines_of}
use Rattle.pair_laws.proofs.Auditing.{one_hears}
use Rattle.pair_laws.proofs.Counting.{due_at, ahead_at, accepted_heard, made_append, accepted_append}
use Rattle.pair_laws.proofs.Places.{get_middle}

-- ---- a frame is written in time

-- the frame of an index, where the one behind some others is sent
sent_in_time : (due : List ℕ) (received p : ℕ) (before : List Frame) (frame : Frame) (after : List Frame) (taken_after : ℕ)
    → InTime due received p (before ++ frame ∷ after) → is_counted (role frame) ≡ true → slice_get due (p + length (counted before)) ≡ Some taken_after → taken_after ≤ max received (told before)
sent_in_time due received p before frame after taken_after h e at =
    within_at (λ told taken. taken ≤ told) (told_before received (before ++ frame ∷ after)) (drop p due) (length (counted before)) (max received (told before)) taken_after h
    (told_before_at received before frame after e) (slice_get_drop p due (length (counted before)) ∙ at)

none_among : (before : List Frame) (frame : Frame) (after : List Frame) → [] ≡ before ++ frame ∷ after → ⊥
none_among [] frame after e = cc
none_among (f ∷ before) frame after e = cc

module _ (side : Side) (it : OneSide) (law : IsLawful side it) (c : ℕ) where
  wrote_in_time : (w : Wrote it.token c (length (accepted_below law.wire.seen c)) (length (accepted_below law.wire.seen (suc c))) it.book.trail.made (places_in law.story).due (law.wire.seen c) (written_on c (lines_of it)))
      → WroteInTime side it law c
  wrote_in_time w = by (reply (law.wire.seen c)) refl
    where
      by : (answer : Option ℕ) → reply (law.wire.seen c) ≡ answer → WroteInTime side it law c
      by None e =
          let none : w.sent ≡ [] = subst (λ (a : Option ℕ). MatchOption a (w.sent ≡ []) (λ p. IsFront (counted w.sent) (drop p it.book.trail.made))) e w.order in
          record {
            received = length (accepted_below law.wire.seen c);
            sent = w.sent;
            left = w.left;
            bytes = w.bytes;
            first = 0;
            counted_are = subst (λ (fs : List Frame). IsFront (counted fs) (drop 0 it.book.trail.made)) (sym none) (IsFront_nil (drop 0 it.book.trail.made));
            in_time = λ before frame after is one message shows. absurd (none_among before frame after (sym none ∙ is));
          }
      by (Some p) e =
          let in_time : InTime (places_in law.story).due (length (accepted_below law.wire.seen c)) p w.sent =
          subst (λ (a : Option ℕ). MatchOption a (Unit {0}) (λ q. InTime (places_in law.story).due (length (accepted_below law.wire.seen c)) q w.sent)) e w.in_time in
          record {
            received = length (accepted_below law.wire.seen c);
            sent = w.sent;
            left = w.left;
            bytes = w.bytes;
            first = p;
            counted_are = subst (λ (a : Option ℕ). MatchOption a (w.sent ≡ []) (λ q. IsFront (counted w.sent) (drop q it.book.trail.made))) e w.order;
            in_time = λ before frame after is one message shows.
                sent_in_time (places_in law.story).due (length (accepted_below law.wire.seen c)) p before frame after (length (accepted_in shows.earlier))
                (subst (λ (fs : List Frame). InTime (places_in law.story).due (length (accepted_below law.wire.seen c)) p fs) is in_time) one
                (due_at law.story message (p + length (counted before)) shows);
          }

pub writes_in_time : WritesInTime
writes_in_time side it law c = elim (law.wire.wrote c) [
  | inl none ↦ inl none
  | inr w ↦ inr (wrote_in_time side it law c w)
]

-- ---- where a frame was read

-- the counted frame of an index in a row
record InRow (frames : List Frame) (index : ℕ) (frame : Frame) : Type 0 where
  before : List Frame
  after : List Frame
  is : frames ≡ before ++ frame ∷ after
  count : length (counted before) ≡ index

row_behind : (first : Frame) (frames : List Frame) (index more : ℕ) (frame : Frame) → length (counted (first ∷ [])) + index ≡ more → InRow frames index frame → InRow (first ∷ frames) more frame
row_behind first frames index more frame e f = record {
  before = first ∷ f.before;
  after = f.after;
  is = ap (λ (fs : List Frame). first ∷ fs) f.is;
  count = by (is_counted (role first)) f.before ∙ ap (λ n. length (counted (first ∷ [])) + n) f.count ∙ e;
}
  where
    by : (b : Bool) (fs : List Frame) → length (cond b (first ∷ counted fs) (counted fs)) ≡ length (cond b (first ∷ []) []) + length (counted fs)
    by true fs = omega arith
    by false fs = omega arith

in_row : (frames : List Frame) (index : ℕ) (frame : Frame) → slice_get (counted frames) index ≡ Some frame → InRow frames index frame
in_row [] index frame e = absurd cc
in_row (first ∷ frames) index frame e = by (is_counted (role first)) index refl refl e (λ i k. in_row frames i frame k)
  where
    by : (b : Bool) (i : ℕ) → is_counted (role first) ≡ b → index ≡ i → slice_get (cond b (first ∷ counted frames) (counted frames)) i ≡ Some frame
        → ((j : ℕ) → slice_get (counted frames) j ≡ Some frame → InRow frames j frame) → InRow (first ∷ frames) index frame
    by true zero is n k more =
        let same : first ≡ frame = cc in
        record { before = []; after = frames; is = ap (λ (f : Frame). f ∷ frames) same; count = sym n }
    by true (suc i) is n k more =
        let one : length (counted (first ∷ [])) ≡ 1 = ap (λ (b : Bool). length (cond b (first ∷ []) [])) is in
        row_behind first frames i index frame (omega (arith, one, n)) (more i k)
    by false i is n k more =
        let none : length (counted (first ∷ [])) ≡ 0 = ap (λ (b : Bool). length (cond b (first ∷ []) [])) is in
        row_behind first frames i index frame (omega (arith, none, n)) (more i k)

-- and among all that were accepted
record OnLine (seen : ℕ → List Frame) (index : ℕ) (frame : Frame) : Type 0 where
  connection : ℕ
  before : List Frame
  after : List Frame
  is : seen connection ≡ before ++ frame ∷ after
  place : index ≡ length (accepted_below seen connection ++ counted before)

split_at : {X : Type 0} (xs ys : List X) (i : ℕ) (x : X) → slice_get (xs ++ ys) i ≡ Some x → (slice_get xs i ≡ Some x) ⊎ ((j : ℕ) × (i ≡ length xs + j) × (slice_get ys j ≡ Some x))
split_at [] ys i x e = inr (i, omega arith, e)
split_at (w ∷ xs) ys zero x e = inl e
split_at (w ∷ xs) ys (suc i) x e = elim (split_at xs ys i x e) [
  | inl k ↦ inl k
  | inr k ↦ inr (k.0, omega (arith, k.1), k.2)
]

on_line : (seen : ℕ → List Frame) (bound index : ℕ) (frame : Frame) → slice_get (accepted_below seen bound) index ≡ Some frame → OnLine seen index frame
on_line seen zero index frame e = absurd cc
on_line seen (suc c) index frame e = elim (split_at (accepted_below seen c) (counted (seen c)) index frame e) [
  | inl k ↦ on_line seen c index frame k
  | inr k ↦
      let f = in_row (seen c) k.0 frame k.2 in
      record { connection = c; before = f.before; after = f.after; is = f.is; place = omega (arith, k.1, f.count, length-append (accepted_below seen c) (counted f.before)) }
]

-- ---- a message is heard behind those that were known to be accepted

accepted_is : (side : Side) (it : OneSide) (law : IsLawful side it) → accepted_in law.story ≡ accepted_below law.wire.seen law.wire.bound
accepted_is side it law = law.heard.frames_are ∙ one_accepted law.heard.sees law.wire.sees

module _ (side : Side) (it : OneSide) (law : IsLawful side it) (earlier : List Mark) (frame : Frame) (later : List Mark)
    (split : law.story ≡ earlier ++ Heard frame ∷ later) (one : is_counted (role frame) ≡ true) where
  read_at : OnLine law.wire.seen (length (accepted_in earlier)) frame
  read_at =
      on_line law.wire.seen law.wire.bound (length (accepted_in earlier)) frame
      (ap (λ (fs : List Frame). slice_get fs (length (accepted_in earlier))) (sym (accepted_is side it law) ∙ ap accepted_in split ∙ accepted_heard earlier frame later one)
      ∙ get_middle (accepted_in earlier) frame (accepted_in later))

  -- so many frames were made by then as the other side had told
  made_by_then : (o : OnLine law.wire.seen (length (accepted_in earlier)) frame) → max (told_below law.wire.seen o.connection) (told o.before) ≤ length (made_in earlier)
  made_by_then o =
      let before : ℕ = length (accepted_below law.wire.seen o.connection) in
      let row : List ℕ = told_before (told_below law.wire.seen o.connection) (law.wire.seen o.connection) in
      let known : slice_get row (length (counted o.before)) ≡ Some (max (told_below law.wire.seen o.connection) (told o.before)) =
      ap (λ (fs : List Frame). slice_get (told_before (told_below law.wire.seen o.connection) fs) (length (counted o.before))) o.is
      ∙ told_before_at (told_below law.wire.seen o.connection) o.before frame o.after one in
      let place : before + length (counted o.before) ≡ length (accepted_in earlier) =
      omega (arith, o.place, length-append (accepted_below law.wire.seen o.connection) (counted o.before)) in
      let made : slice_get (drop before (places_in law.story).ahead) (length (counted o.before)) ≡ Some (length (made_in earlier)) =
      slice_get_drop before (places_in law.story).ahead (length (counted o.before)) ∙ ap (slice_get (places_in law.story).ahead) place ∙ ahead_at law.story earlier frame later split one in
      within_at (λ told made. told ≤ made) row (drop before (places_in law.story).ahead) (length (counted o.before))
      (max (told_below law.wire.seen o.connection) (told o.before)) (length (made_in earlier)) (law.wire.late o.connection) known made

-- a message whose frame was made among those of some first marks was taken among these
taken_among : (story earlier : List Mark) (mark : Mark) (later : List Mark) (message : List ℕ) (index : ℕ) (shows : Shows story message index)
    → story ≡ earlier ++ mark ∷ later → index < length (made_in earlier) → IsFront (up_to_taken shows) earlier
taken_among story earlier mark later message index shows split l =
    let taken : Mark = Taken message shows.handle shows.segments in
    let rest : List Mark = shows.between ++ Grouped (shows.before ++ Protocol shows.shown ∷ shows.after) shows.copies ∷ shows.later in
    let same : earlier ++ mark ∷ later ≡ up_to_taken shows ++ rest = sym split ∙ shows.split ∙ sym (append_assoc shows.earlier (taken ∷ []) rest) in
    let too_late : length earlier ≤ length shows.earlier → ⊥ = λ k.
    let front : IsFront earlier shows.earlier = IsFront_longer shows.earlier earlier (taken ∷ rest) (mark ∷ later) (sym shows.split ∙ split) k in
    omega (arith, l, shows.index_is, ap length (sym (ap made_in front.is) ∙ made_append earlier front.rest), length-append (made_in earlier) (made_in front.rest)) in
    elim (cases_order (length earlier) (length shows.earlier)) [
      | inl e ↦ absurd (too_late (omega (arith, e)))
      | inr (inl below) ↦ absurd (too_late (omega (arith, below)))
      | inr (inr above) ↦ IsFront_longer earlier (up_to_taken shows) (mark ∷ later) rest same (omega (arith, length-append shows.earlier (taken ∷ []), above))
    ]

pub hears_behind : HearsBehind
hears_behind side it law earlier frame later split one =
    let o = read_at side it law earlier frame later split one in
    let enough = made_by_then side it law earlier frame later split one o in
    record {
      seen = law.wire.seen;
      bound = law.wire.bound;
      sees = law.wire.sees;
      connection = o.connection;
      before = o.before;
      after = o.after;
      read = o.is;
      place = o.place;
      behind = λ message index shows l. taken_among law.story earlier (Heard frame) later message index shows split (omega (arith, l, enough));
    }

-- ---- both sides

-- the frames seen begin with RESTART and those that were sent
begins_sent : {token : List ℕ} {c received upto : ℕ} {made : List Frame} {due : List ℕ} {other : List Frame} {written : List ℕ} {stop : Option ℕ} {read : List ℕ} {seen : List Frame}
    → (w : Wrote token c received upto made due other written) → Reads stop read seen → IsFront read written → IsFront seen (Restart token c received ∷ w.sent)
begins_sent {token} {c} {received} {upto} {made} {due} {other} {written} {stop} {read} {seen} w h b =
    let bytes : spellings seen ++ (h.rest ++ (b.rest ++ w.left)) ≡ spellings (Restart token c received ∷ w.sent) =
    sym (append_assoc (spellings seen) h.rest (b.rest ++ w.left)) ∙ ap (λ (xs : List ℕ). xs ++ (b.rest ++ w.left)) (sym h.bytes) ∙ sym (append_assoc read b.rest w.left) ∙ ap (λ (xs : List ℕ). xs ++ w.left) b.is ∙ w.bytes in
    let f = rows.follows seen (Restart token c received ∷ w.sent) (h.rest ++ (b.rest ++ w.left)) h.frames w.frames bytes in
    record { rest = f.rest; is = f.is }

-- a counted frame behind a RESTART: what stands between
record Behind (token : List ℕ) (c received : ℕ) (sent before : List Frame) (frame : Frame) (after : List Frame) : Type 0 where
  between : List Frame
  before_is : before ≡ Restart token c received ∷ between
  sent_is : sent ≡ between ++ frame ∷ after

behind_restart : (token : List ℕ) (c received : ℕ) (sent before : List Frame) (frame : Frame) (after : List Frame) → is_counted (role frame) ≡ true
    → before ++ frame ∷ after ≡ Restart token c received ∷ sent → Behind token c received sent before frame after
behind_restart token c received sent [] frame after one e =
    let same : frame ≡ Restart token c received = cc in
    absurd (false≢true (ap (λ (f : Frame). is_counted (role f)) (sym same) ∙ one))
behind_restart token c received sent (first ∷ before) frame after one e =
    let head : first ≡ Restart token c received = cc in
    let tail : before ++ frame ∷ after ≡ sent = cc in
    record { between = before; before_is = ap (λ (f : Frame). f ∷ before) head; sent_is = sym tail }

-- a frame was read on a connection behind others, and was sent there
by_wrote : {token : List ℕ} {c received upto : ℕ} {made : List Frame} {due : List ℕ} {other : List Frame} {written : List ℕ} {stop : Option ℕ} {read : List ℕ} {seen : List Frame}
    → (w : Wrote token c received upto made due other written) → Reads stop read seen → IsFront read written
    → (before : List Frame) (frame : Frame) (after : List Frame) → seen ≡ before ++ frame ∷ after → is_counted (role frame) ≡ true
    → (accepted taken_after : ℕ) → ((p : ℕ) → reply other ≡ Some p → p ≡ accepted) → slice_get due (accepted + length (counted before)) ≡ Some taken_after
    → taken_after ≤ told before
by_wrote {token} {c} {received} {upto} {made} {due} {other} {written} {stop} {read} {seen} w h front before frame after is one accepted taken_after back at = by (reply other) refl
  where
    begins : IsFront seen (Restart token c received ∷ w.sent)
    begins = begins_sent w h front

    row : before ++ frame ∷ (after ++ begins.rest) ≡ Restart token c received ∷ w.sent
    row = sym (append_assoc before (frame ∷ after) begins.rest) ∙ ap (λ (fs : List Frame). fs ++ begins.rest) (sym is) ∙ begins.is

    b : Behind token c received w.sent before frame (after ++ begins.rest)
    b = behind_restart token c received w.sent before frame (after ++ begins.rest) one row

    by : (answer : Option ℕ) → reply other ≡ answer → taken_after ≤ told before
    by None e =
        let none : w.sent ≡ [] = subst (λ (a : Option ℕ). MatchOption a (w.sent ≡ []) (λ p. IsFront (counted w.sent) (drop p made))) e w.order in
        absurd (none_among b.between frame (after ++ begins.rest) (sym none ∙ b.sent_is))
    by (Some p) e =
        let same : p ≡ accepted = back p e in
        let in_time : InTime due received p w.sent = subst (λ (a : Option ℕ). MatchOption a (Unit {0}) (λ q. InTime due received q w.sent)) e w.in_time in
        let counts : length (counted before) ≡ length (counted b.between) = ap (λ (fs : List Frame). length (counted fs)) b.before_is in
        let place : p + length (counted b.between) ≡ accepted + length (counted before) = omega (arith, same, counts) in
        let l : taken_after ≤ max received (told b.between) =
        sent_in_time due received p b.between frame (after ++ begins.rest) taken_after (subst (λ (fs : List Frame). InTime due received p fs) b.sent_is in_time) one (ap (slice_get due) place ∙ at) in
        omega (arith, l, ap told b.before_is)

came_in_time : {token other : List ℕ} {writer reader : SideRecord} (w : Wire token writer) (r : Wire other reader) → Agrees writer.lines reader.lines
    → (c : ℕ) (before : List Frame) (frame : Frame) (after : List Frame) → r.seen c ≡ before ++ frame ∷ after → is_counted (role frame) ≡ true
    → (index taken_after : ℕ) → index ≡ length (accepted_below r.seen c ++ counted before) → slice_get writer.due index ≡ Some taken_after → taken_after ≤ told before
came_in_time {token} {other} {writer} {reader} w r agrees c before frame after is one index taken_after place at = elim (w.wrote c) [
  | inl none ↦
      let nothing : r.seen c ≡ [] = no_read (read_on c reader.lines) (r.sees.reads c) (no_bytes (read_on c reader.lines) (agrees.up c).rest ((agrees.up c).is ∙ none)) in
      absurd (none_among before frame after (sym nothing ∙ is))
  | inr wrote ↦
      let seen : Both token other writer.made reader.made r.seen w.seen = both r w agrees.up agrees.down in
      let there : index ≡ length (accepted_below r.seen c) + length (counted before) = omega (arith, place, length-append (accepted_below r.seen c) (counted before)) in
      by_wrote wrote (r.sees.reads c) (agrees.up c) before frame after is one (length (accepted_below r.seen c)) taken_after (λ p e. came_reply (seen.back_again c) p e)
      (ap (slice_get writer.due) (sym there) ∙ at)
]

-- a story up to a mark follows the rules
logs_up_to : (s : LogState) (earlier later : List Mark) → Logs s (earlier ++ later) → Logs s earlier
logs_up_to s [] later logs = tt
logs_up_to s (mark ∷ earlier) later logs = (logs.0, logs_up_to (log_next s mark) earlier later logs.1)

-- frames that were made begin with others: so do the messages that are to be shown
messages_front : (side : Side) (story : List Mark) (frames : List Frame) → IsStory side story → IsFront frames (made_in story) → IsFront (messages_in frames) (shown_of side story)
messages_front side story frames logs f = record {
  rest = messages_in f.rest ++ owed_messages (now side story).owes;
  is = sym (append_assoc (messages_in frames) (messages_in f.rest) (owed_messages (now side story).owes))
      ∙ ap (λ (ms : List (List ℕ)). ms ++ owed_messages (now side story).owes) (sym (flat_map-append messages_of frames f.rest) ∙ ap messages_in f.is)
      ∙ shown_in_order side story logs;
}

pub heard_was_made : HeardWasMade
heard_was_made side sender hearer pair earlier frame later message split one shows =
    let o = read_at (other_side side) hearer pair.other_law earlier frame later split one in
    let enough = made_by_then (other_side side) hearer pair.other_law earlier frame later split one o in
    let in_time : length (accepted_in shows.earlier) ≤ told o.before =
    came_in_time pair.one_law.wire pair.other_law.wire pair.agrees o.connection o.before frame o.after o.is one (length (accepted_in earlier)) (length (accepted_in shows.earlier)) o.place
    (due_at pair.one_law.story message (length (accepted_in earlier)) shows) in
    let hears = one_hears pair in
    let taken : List Mark = Taken message shows.handle shows.segments ∷ (shows.between ++ Grouped (shows.before ++ Protocol shows.shown ∷ shows.after) shows.copies ∷ shows.later) in
    let heard : accepted_in shows.earlier ++ (accepted_in taken ++ hears.rest) ≡ made_in pair.other_law.story =
    sym (append_assoc (accepted_in shows.earlier) (accepted_in taken) hears.rest)
    ∙ ap (λ (fs : List Frame). fs ++ hears.rest) (sym (accepted_append shows.earlier taken) ∙ ap accepted_in (sym shows.split))
    ∙ hears.is in
    let made : made_in earlier ++ made_in (Heard frame ∷ later) ≡ made_in pair.other_law.story = sym (made_append earlier (Heard frame ∷ later)) ∙ ap made_in (sym split) in
    let frames : IsFront (accepted_in shows.earlier) (made_in earlier) =
    IsFront_longer (made_in earlier) (accepted_in shows.earlier) (made_in (Heard frame ∷ later)) (accepted_in taken ++ hears.rest) (made ∙ sym heard) (omega (arith, in_time, enough)) in
    let logs : IsStory (other_side side) earlier = logs_up_to (log_new (other_side side)) earlier (Heard frame ∷ later) (subst (λ (marks : List Mark). IsStory (other_side side) marks) split pair.other_law.log) in
    record { frames = frames; messages = messages_front (other_side side) earlier (accepted_in shows.earlier) logs frames }
