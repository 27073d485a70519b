-- The records follow a proxy through an item of its peer.
use Rattle.std.proofs.Common.{◌≡◌, ℕ, ◌≤◌, List, [], ◌∷◌, ◌++◌, Option, Some, None, Bool, true, false, length, refl, sym, ap, subst, ◌∙◌, arith, append_assoc}
use Rattle.std.proofs.lemmas.List.{append-nil, length-replicate}
use Rattle.std.specs.Prelude.{replicate, unwrap_or, ℤ}
use Rattle.transfer_frames.specs.declared.frame.Frame.{Frame}
use Rattle.half_model.specs.declared.items.PeerIn.{PeerIn}
use Rattle.half_model.specs.declared.items.PeerIn.TheVariants as inputs
use Rattle.half_model.specs.declared.items.PeerOut.{PeerOut}
use Rattle.half_model.specs.declared.notes.CopyRecord.{CopyRecord}
use Rattle.wp_outside.specs.declared.pipe_items.PipeItem.{PipeItem}
use Rattle.wp_outside.specs.declared.pipe_items.PipeItem.TheVariants as pieces
use Rattle.half_model.specs.Log as marks
use Rattle.half_model.specs.Log.{Mark, LogState, Lawful, log_new, log_next}
use Rattle.half_model.specs.PipeTurn as pipes
use Rattle.half_model.specs.PipeTurn.{PipeTurn, pipe_turn}
use Rattle.half_model.specs.Story.{accepted_in, heard_in, items_from, given_by}
use Rattle.half_model.specs.StoryLaws.{now}
use Rattle.half_model.specs.Tables.{Tables}
use Rattle.half_model.specs.TurnLaws.{log_of, IsPiece, IsDropped}
use Rattle.half_model.proofs.PipeLaws.{pipe_turn_is_lawful}
use Rattle.pair_model.specs.Rows.{counted}
use Rattle.pair_model.proofs.RingProofs.{pushed_all}
use Rattle.side_model.specs.Books.{Book, grown, marked_trail, marked_order}
use Rattle.side_model.specs.Due.{is_free}
use Rattle.side_model.specs.Events.{Fed}
use Rattle.side_model.specs.Follows.{Follows, LinkFollows, GivesItems, ClosingFollows, GivesReceipts, log_state}
use Rattle.side_model.specs.Marks.{mark_pipe}
use Rattle.side_model.specs.Places.{Places, placed, places_in, side_of}
use Rattle.side_model.specs.Shows.{wants_peer, is_open, has_made_close}
use Rattle.side_model.specs.Sound.{IsItem}
use Rattle.side_model.specs.State.{Now, Closing, Open, Asked, Made}
use Rattle.side_model.specs.Steps.{step, fed_inlet, fed_pipe}
use Rattle.side_model.proofs.Links.{link_marked, link_made}
use Rattle.side_model.proofs.Sounds.{wants_free, Room, room_of}
use Rattle.side_model.proofs.Stories.{now_push, story_push, heard_push, items_push, places_push}
use Rattle.side_model.proofs.Tells.{places_heard, since_most, all_same, tells_mark}

-- ---- a book with one more mark

abbrev pub book_marked : Now → Mark → Book → Book
book_marked s mark book = record { trail = marked_trail (Some mark) book.trail; order = marked_order s.side (Some mark) book.order }

-- or with one, or none
abbrev pub book_by : Now → Option Mark → Book → Book
book_by s mark book = record {
  trail = record (marked_trail mark book.trail) { lines = book.trail.lines; given = book.trail.given };
  order = marked_order s.side mark book.order;
}

-- no frame is heard in these
pub silent : (story : List Mark) (frames : List Frame) (copies : List CopyRecord) → accepted_in (story ++ marks.Grouped frames copies ∷ []) ≡ accepted_in story
silent story frames copies = ap counted (heard_push story (marks.Grouped frames copies) ∙ append-nil (heard_in story))

pub silent_taken : (story : List Mark) (mark : Mark) → heard_in (story ++ mark ∷ []) ≡ heard_in story ++ [] → accepted_in (story ++ mark ∷ []) ≡ accepted_in story
silent_taken story mark e = ap counted (e ∙ append-nil (heard_in story))

pub places_closed : (story : List Mark) (mark : Mark) (closed : Bool) → (placed mark (places_in story)).closed ≡ closed → (places_in (story ++ mark ∷ [])).closed ≡ closed
places_closed story mark closed e = ap (λ (p : Places). p.closed) (places_push story mark) ∙ e

pub items_marked : (s : Now) (story : List Mark) (mark : Mark) (more : List PeerOut) (left : List PeerOut) (given : ℕ) → given_by (now s.side story) mark ≡ more → GivesItems (items_from (log_new s.side) story) left given
    → GivesItems (items_from (log_new s.side) (story ++ mark ∷ [])) (left ++ more) given
items_marked s story mark more left given e g = record {
  gone = g.gone;
  row = sym (append_assoc g.gone left more) ∙ ap (λ items. items ++ more) g.row ∙ sym (items_push s.side story mark ∙ ap (λ items. items_from (log_new s.side) story ++ items) e);
  counts = g.counts;
}

pub items_same : (s : Now) (story : List Mark) (mark : Mark) (left : List PeerOut) (given : ℕ) → given_by (now s.side story) mark ≡ [] → GivesItems (items_from (log_new s.side) story) left given
    → GivesItems (items_from (log_new s.side) (story ++ mark ∷ [])) left given
items_same s story mark left given e g =
    subst (λ (items : List PeerOut). GivesItems (items_from (log_new s.side) (story ++ mark ∷ [])) items given) (append-nil left) (items_marked s story mark [] left given e g)

-- frames that are made count from when their message was taken
pub link_grouped : (s : Now) (book : Book) (f : Follows s book) (frames : List Frame) (copies : List CopyRecord)
    → LinkFollows s.token (side_of (marked_trail (Some (marks.Grouped frames copies)) book.trail) (places_in (f.story ++ marks.Grouped frames copies ∷ [])) None) (accepted_in (f.story ++ marks.Grouped frames copies ∷ [])) s.live.here
link_grouped s book f frames copies =
    let places : Places = places_in f.story in
    let since : ℕ = unwrap_or places.since places.heard in
    let most : since ≤ book.trail.accepted = omega (arith, since_most f.story, places_heard f.story, f.tells.accepted) in
    link_marked s.token (marked_trail (Some (marks.Grouped frames copies)) book.trail) s.live.here f.story (marks.Grouped frames copies) (accepted_in f.story) (silent f.story frames copies)
    (link_made s.token (side_of book.trail places None) (accepted_in f.story) s.live.here frames (replicate (length frames) since) (length-replicate (length frames) since) (all_same (length frames) since book.trail.accepted most) f.link)

-- ---- an item for the half

closes_open : (closing : Closing) (a b : Bool) → is_open closing ≡ true → ClosingFollows closing a b
closes_open Open a b e = tt
closes_open (Asked reason) a b e = absurd cc
closes_open Made a b e = absurd cc

pub not_made : (closing : Closing) → is_open closing ≡ true → has_made_close closing ≡ false
not_made Open e = refl
not_made (Asked reason) e = absurd cc
not_made Made e = absurd cc

follows_inlet : (item : PeerIn) (s : Now) (book : Book) → Follows s book → wants_peer s ≡ true → Follows (fed_inlet item s) book
follows_inlet item s book f w = record {
  story = f.story;
  tells = f.tells;
  log = f.log;
  after = f.after;
  jobs = f.jobs;
  closes = closes_open s.kept.closing _ _ (wants_free s w).0;
  link = f.link;
  ring = f.ring;
  accepted = f.accepted;
  acknowledged = f.acknowledged;
  closed = f.closed;
  few = f.few;
  taken = f.taken;
  token = f.token;
  numbers = f.numbers;
  bytes = f.bytes;
  items = f.items;
  receipts = f.receipts;
}

-- ---- an item for a pipe

-- what the halves come to
open_after : (s : Now) (book : Book) (f : Follows s book) → is_open s.kept.closing ≡ true → now s.side f.story ≡ log_of s.live.tables s.live.sending s.live.taking false
open_after s book f o = f.after ∙ ap (log_of s.live.tables s.live.sending s.live.taking) (not_made s.kept.closing o)

follows_makes : (item : PipeItem) (s : Now) (book : Book) → Follows s book → wants_peer s ≡ true → IsPiece item → (frame : Frame) (tables : Tables) → pipe_turn s.live.tables s.live.taking item ≡ pipes.Makes frame tables
    → Follows (fed_pipe (pipes.Makes frame tables) s) (book_marked s (marks.Grouped (frame ∷ []) []) book)
follows_makes item s book f w piece frame tables e =
    let free : (is_open s.kept.closing ≡ true) × (is_free s.live.sending.owes s.kept.ring ≡ true) = wants_free s w in
    let room : Room s.live.sending.owes s.kept.ring = room_of s.live.sending.owes s.kept.ring free.1 in
    let before : now s.side f.story ≡ log_of s.live.tables s.live.sending s.live.taking false = open_after s book f free.0 in
    let lawful : Lawful (log_of s.live.tables s.live.sending s.live.taking false) (marks.Grouped (frame ∷ []) [])
    × (log_next (log_of s.live.tables s.live.sending s.live.taking false) (marks.Grouped (frame ∷ []) []) ≡ log_of tables s.live.sending s.live.taking false) =
    pipe_turn_is_lawful.makes s.side f.story s.live.tables s.live.sending s.live.taking item frame tables f.log before room.none piece e in
    record {
      story = f.story ++ marks.Grouped (frame ∷ []) [] ∷ [];
      tells = tells_mark s.side f.story (marks.Grouped (frame ∷ []) []) book f.tells;
      log = story_push s.side f.story (marks.Grouped (frame ∷ []) []) f.log (subst (λ (state : LogState). Lawful state (marks.Grouped (frame ∷ []) [])) (sym before) lawful.0);
      after = now_push s.side f.story (marks.Grouped (frame ∷ []) []) ∙ ap (λ state. log_next state (marks.Grouped (frame ∷ []) [])) before ∙ lawful.1
          ∙ ap (log_of tables s.live.sending s.live.taking) (sym (not_made s.kept.closing free.0));
      jobs = f.jobs;
      closes = f.closes;
      link = link_grouped s book f (frame ∷ []) [];
      ring = pushed_all book.trail.made s.kept.ring (frame ∷ []) f.ring;
      accepted = f.accepted;
      acknowledged = f.acknowledged;
      closed = places_closed f.story (marks.Grouped (frame ∷ []) []) s.kept.heard_close f.closed;
      few = f.few;
      taken = f.taken;
      token = f.token;
      numbers = f.numbers;
      bytes = f.bytes;
      items = items_same s f.story (marks.Grouped (frame ∷ []) []) s.live.items book.trail.given refl f.items;
      receipts = subst (λ (copies : List CopyRecord). GivesReceipts copies s.live.receipts) (sym (append-nil book.trail.copies)) f.receipts;
    }

with_tables : (s : Now) (book : Book) (f : Follows s book) (tables : Tables) → log_of tables s.live.sending s.live.taking (has_made_close s.kept.closing) ≡ log_state s → Follows (fed_pipe (pipes.Drops tables) s) book
with_tables s book f tables e = record {
  story = f.story;
  tells = f.tells;
  log = f.log;
  after = f.after ∙ sym e;
  jobs = f.jobs;
  closes = f.closes;
  link = f.link;
  ring = f.ring;
  accepted = f.accepted;
  acknowledged = f.acknowledged;
  closed = f.closed;
  few = f.few;
  taken = f.taken;
  token = f.token;
  numbers = f.numbers;
  bytes = f.bytes;
  items = f.items;
  receipts = f.receipts;
}

follows_dropped : (s : Now) (book : Book) (f : Follows s book) (tables : Tables) (rid : ℤ) → Lawful (log_state s) (marks.Dropped rid)
    → log_next (log_state s) (marks.Dropped rid) ≡ log_of tables s.live.sending s.live.taking (has_made_close s.kept.closing) → Follows (fed_pipe (pipes.Drops tables) s) (book_marked s (marks.Dropped rid) book)
follows_dropped s book f tables rid lawful next = record {
  story = f.story ++ marks.Dropped rid ∷ [];
  tells = tells_mark s.side f.story (marks.Dropped rid) book f.tells;
  log = story_push s.side f.story (marks.Dropped rid) f.log (subst (λ (state : LogState). Lawful state (marks.Dropped rid)) (sym f.after) lawful);
  after = now_push s.side f.story (marks.Dropped rid) ∙ ap (λ state. log_next state (marks.Dropped rid)) f.after ∙ next;
  jobs = f.jobs;
  closes = f.closes;
  link = link_marked s.token book.trail s.live.here f.story (marks.Dropped rid) (accepted_in f.story) (silent_taken f.story (marks.Dropped rid) (heard_push f.story (marks.Dropped rid))) f.link;
  ring = f.ring;
  accepted = f.accepted;
  acknowledged = f.acknowledged;
  closed = places_closed f.story (marks.Dropped rid) s.kept.heard_close f.closed;
  few = f.few;
  taken = f.taken;
  token = f.token;
  numbers = f.numbers;
  bytes = f.bytes;
  items = items_same s f.story (marks.Dropped rid) s.live.items book.trail.given refl f.items;
  receipts = f.receipts;
}

follows_drops : (item : PipeItem) (s : Now) (book : Book) → Follows s book → (tables : Tables) → IsDropped (log_state s) item (log_of tables s.live.sending s.live.taking (has_made_close s.kept.closing))
    → Follows (fed_pipe (pipes.Drops tables) s) (book_by s (mark_pipe item (pipes.Drops tables)) book)
follows_drops (pieces.Bytes rid bytes) s book f tables h = with_tables s book f tables h
follows_drops (pieces.End rid) s book f tables h = follows_dropped s book f tables rid h.0 h.1
follows_drops (pieces.Shut number) s book f tables h = absurd h

follows_pipe : (item : PipeItem) (s : Now) (book : Book) → Follows s book → wants_peer s ≡ true → IsPiece item → (it : PipeTurn) → pipe_turn s.live.tables s.live.taking item ≡ it
    → Follows (fed_pipe it s) (book_by s (mark_pipe item it) book)
follows_pipe item s book f w piece pipes.Barred e = f
follows_pipe item s book f w piece (pipes.Drops tables) e = follows_drops item s book f tables (pipe_turn_is_lawful.drops s.live.tables s.live.sending s.live.taking item tables (has_made_close s.kept.closing) e)
follows_pipe item s book f w piece (pipes.Makes frame tables) e = follows_makes item s book f w piece frame tables e

pub follows_fed : (item : PeerIn) (s : Now) (book : Book) → Follows s book → wants_peer s ≡ true → IsItem item → Follows (step (Fed item) s) (grown (Fed item) s book)
unfolding step
follows_fed (inputs.Bytes bytes) s book f w piece = follows_inlet (inputs.Bytes bytes) s book f w
follows_fed (inputs.Handle handle) s book f w piece = follows_inlet (inputs.Handle handle) s book f w
follows_fed (inputs.Note note) s book f w piece = follows_inlet (inputs.Note note) s book f w
follows_fed (inputs.Pipe item) s book f w piece = follows_pipe item s book f w piece (pipe_turn s.live.tables s.live.taking item) refl
