-- The records follow a proxy at first, and through what comes of its connections.
use Rattle.std.proofs.Common.{◌≡◌, ℕ, ◌<◌, ◌≤◌, suc, zero, List, [], ◌∷◌, ◌++◌, Option, Some, None, length, take, refl, sym, subst, arith, length-append}
use Rattle.std.proofs.lemmas.List.{nil_from_length}
use Rattle.std.specs.List.{AllByRecursion}
use Rattle.std.specs.Option.{MatchOption}
use Rattle.std.specs.Prelude.{option_map}
use Rattle.transfer_frames.specs.declared.frame.Frame.TheVariants.{Restart}
use Rattle.transfer_frames.specs.Grammar.{IsFrame}
use Rattle.transfer_frames.specs.Numbers.{IsBytes, IsWord, word_bytes, long_bytes}
use Rattle.transfer_frames.proofs.NumberLaws.{length-word_bytes, length-long_bytes}
use Rattle.half_model.specs.Story.{accepted_in}
use Rattle.pair_model.specs.Lines.{Line}
use Rattle.pair_model.specs.LinkFaults.{MOST_FRAMES}
use Rattle.pair_model.specs.Steps.{Here, here_up, here_fed, here_sent, side_up, on_last, with_read, with_written}
use Rattle.pair_model.specs.StepLaws.{side_new}
use Rattle.pair_model.specs.Wire.{Wire, Accepts, accepted_below}
use Rattle.pair_model.proofs.Heards.{begins_wire}
use Rattle.pair_model.proofs.RingProofs.{new_ring}
use Rattle.side_model.specs.Books.{Book, grown, rows_read, rows_written}
use Rattle.side_model.specs.Due.{hear}
use Rattle.side_model.specs.Events.{Up, Down, Came, Went, Rest}
use Rattle.side_model.specs.Follows.{Follows, LinkFollows}
use Rattle.side_model.specs.FollowLaws.{FollowsAtFirst}
use Rattle.side_model.specs.Places.{places_in, side_of}
use Rattle.side_model.specs.Shows.{front_here}
use Rattle.side_model.specs.State.{Now}
use Rattle.side_model.specs.Steps.{step}
use Rattle.side_model.proofs.Dues.{is_quiet}
use Rattle.side_model.proofs.Links.{link_up, link_down, link_came, link_went}

-- ---- at first

none_accepted : (token : List ℕ) → Accepts side_new []
none_accepted token =
    let w : Wire token side_new = begins_wire token in
    record { seen = w.seen; bound = w.bound; sees = w.sees; frames_are = sym (nil_from_length (accepted_below w.seen w.bound) (sym w.accepted)) }

pub follows_at_first : FollowsAtFirst
follows_at_first side token l = record {
  story = [];
  tells = record { side_is = refl; taken = refl; made = refl; copies = refl; accepted = refl; acknowledged = refl; order = refl };
  log = tt;
  after = refl;
  jobs = tt;
  closes = tt;
  link = record { wire = begins_wire token; accepts = none_accepted token };
  ring = new_ring;
  accepted = refl;
  acknowledged = refl;
  closed = refl;
  few = omega arith;
  taken = refl;
  token = l;
  numbers = tt;
  bytes = tt;
  items = record { gone = []; row = refl; counts = refl };
  receipts = record { gone = []; all = tt };
}

-- ---- numbers of lines

all_push : (P : Line → Type 0) (lines : List Line) (line : Line) → AllByRecursion P lines → P line → AllByRecursion P (lines ++ line ∷ [])
all_push P [] line h k = (k, tt)
all_push P (x ∷ xs) line h k = (h.0, all_push P xs line h.1 k)

all_below : (low high : ℕ) (lines : List Line) → low < high → AllByRecursion (λ line. line.connection ≤ low) lines → AllByRecursion (λ line. line.connection < high) lines
all_below low high [] l h = tt
all_below low high (x ∷ xs) l h = (omega (arith, h.0), all_below low high xs l h.1)

all_up_to : (low high : ℕ) (lines : List Line) → low ≤ high → AllByRecursion (λ line. line.connection ≤ low) lines → AllByRecursion (λ line. line.connection ≤ high) lines
all_up_to low high [] l h = tt
all_up_to low high (x ∷ xs) l h = (omega (arith, h.0), all_up_to low high xs l h.1)

-- the last line keeps its number
all_last : (P : ℕ → Type 0) (change : Line → Line) → ((line : Line) → (change line).connection ≡ line.connection) → (lines : List Line) → AllByRecursion (λ line. P line.connection) lines → AllByRecursion (λ line. P line.connection) (on_last change lines)
all_last P change same [] h = tt
all_last P change same (x ∷ []) h = (subst P (sym (same x)) h.0, tt)
all_last P change same (x ∷ (y ∷ ys)) h = (h.0, all_last P change same (y ∷ ys) h.1)

numbers_read : (last : ℕ) (piece : List ℕ) (here : Option Here) (lines : List Line) → AllByRecursion (λ line. line.connection ≤ last) lines → AllByRecursion (λ line. line.connection ≤ last) (rows_read piece here lines)
numbers_read last piece None lines h = h
numbers_read last piece (Some here) lines h = all_last (λ n. n ≤ last) (with_read piece) (λ line. refl) lines h

numbers_written : (last n : ℕ) (here : Option Here) (lines : List Line) → AllByRecursion (λ line. line.connection ≤ last) lines → AllByRecursion (λ line. line.connection ≤ last) (rows_written n here lines)
numbers_written last n None lines h = h
numbers_written last n (Some here) lines h = all_last (λ m. m ≤ last) (with_written (take n here.front)) (λ line. refl) lines h

-- ---- bytes

bytes_both : (xs ys : List ℕ) → IsBytes xs → IsBytes ys → IsBytes (xs ++ ys)
bytes_both [] ys h k i = k i
bytes_both (x ∷ xs) ys h k zero = h zero
bytes_both (x ∷ xs) ys h k (suc i) = bytes_both xs ys (λ j. h (suc j)) k i

bytes_came : (piece : List ℕ) (here : Option Here) → IsBytes piece → MatchOption here (Unit {0}) (λ h. IsBytes h.unread) → MatchOption (option_map (here_fed piece) here) (Unit {0}) (λ h. IsBytes h.unread)
bytes_came piece None k h = tt
bytes_came piece (Some here) k h = bytes_both here.unread piece h k

bytes_went : (n : ℕ) (here : Option Here) → MatchOption here (Unit {0}) (λ h. IsBytes h.unread) → MatchOption (option_map (here_sent n) here) (Unit {0}) (λ h. IsBytes h.unread)
bytes_went n None h = tt
bytes_went n (Some here) h = h

-- ---- a connection

greeting_fits : (token : List ℕ) (connection accepted : ℕ) → length token ≡ 16 → IsWord connection → accepted ≤ MOST_FRAMES → IsFrame (Restart token connection accepted)
greeting_fits token connection accepted t c a = record {
  fields = (t, c, omega arith);
  fits = omega (arith, length-append token (word_bytes connection ++ long_bytes accepted), length-append (word_bytes connection) (long_bytes accepted), length-word_bytes connection, length-long_bytes accepted);
}

pub follows_up : (s : Now) (book : Book) (connection : ℕ) → Follows s book → s.live.here ≡ None → s.kept.last < connection → IsWord connection → Follows (step (Up connection) s) (grown (Up connection) s book)
unfolding step
follows_up s book connection f none later word = record {
  story = f.story;
  tells = record { side_is = f.tells.side_is; taken = f.tells.taken; made = f.tells.made; copies = f.tells.copies; accepted = f.tells.accepted; acknowledged = f.tells.acknowledged; order = f.tells.order };
  log = f.log;
  after = f.after;
  jobs = f.jobs;
  closes = f.closes;
  link = subst (λ (n : ℕ). LinkFollows s.token (side_up connection (side_of book.trail (places_in f.story) None)) (accepted_in f.story) (Some (here_up s.token connection n))) f.accepted
      (link_up s.token (side_of book.trail (places_in f.story) None) (accepted_in f.story) s.live.here connection none refl (omega arith) (all_below s.kept.last connection book.trail.lines.rows later f.numbers)
      (greeting_fits s.token connection book.trail.accepted f.token word (omega (arith, f.accepted, f.few))) f.link);
  ring = f.ring;
  accepted = f.accepted;
  acknowledged = f.acknowledged;
  closed = f.closed;
  few = f.few;
  taken = f.taken;
  token = f.token;
  numbers = all_push (λ line. line.connection ≤ connection) book.trail.lines.rows (record { connection = connection; written = []; read = [] }) (all_up_to s.kept.last connection book.trail.lines.rows (omega arith) f.numbers) (omega arith);
  bytes = λ i. no_bytes i;
  items = f.items;
  receipts = f.receipts;
}
  where
    no_bytes : IsBytes []
    no_bytes i = omega arith

pub follows_down : (s : Now) (book : Book) → Follows s book → hear s ≡ Rest → Follows (step Down s) (grown Down s book)
unfolding step
follows_down s book f quiet = record {
  story = f.story;
  tells = f.tells;
  log = f.log;
  after = f.after;
  jobs = f.jobs;
  closes = f.closes;
  link = link_down s.token (side_of book.trail (places_in f.story) None) (accepted_in f.story) s.live.here (is_quiet s quiet) f.link;
  ring = f.ring;
  accepted = f.accepted;
  acknowledged = f.acknowledged;
  closed = f.closed;
  few = f.few;
  taken = f.taken;
  token = f.token;
  numbers = f.numbers;
  bytes = tt;
  items = f.items;
  receipts = f.receipts;
}

pub follows_came : (s : Now) (book : Book) (piece : List ℕ) → Follows s book → IsBytes piece → Follows (step (Came piece) s) (grown (Came piece) s book)
unfolding step
follows_came s book piece f bytes = record {
  story = f.story;
  tells = record { side_is = f.tells.side_is; taken = f.tells.taken; made = f.tells.made; copies = f.tells.copies; accepted = f.tells.accepted; acknowledged = f.tells.acknowledged; order = f.tells.order };
  log = f.log;
  after = f.after;
  jobs = f.jobs;
  closes = f.closes;
  link = link_came s.token (side_of book.trail (places_in f.story) None) (accepted_in f.story) s.live.here piece f.link;
  ring = f.ring;
  accepted = f.accepted;
  acknowledged = f.acknowledged;
  closed = f.closed;
  few = f.few;
  taken = f.taken;
  token = f.token;
  numbers = numbers_read s.kept.last piece s.live.here book.trail.lines.rows f.numbers;
  bytes = bytes_came piece s.live.here bytes f.bytes;
  items = f.items;
  receipts = f.receipts;
}

pub follows_went : (s : Now) (book : Book) (n : ℕ) → Follows s book → n ≤ length (front_here s.live.here) → Follows (step (Went n) s) (grown (Went n) s book)
unfolding step
follows_went s book n f l = record {
  story = f.story;
  tells = record { side_is = f.tells.side_is; taken = f.tells.taken; made = f.tells.made; copies = f.tells.copies; accepted = f.tells.accepted; acknowledged = f.tells.acknowledged; order = f.tells.order };
  log = f.log;
  after = f.after;
  jobs = f.jobs;
  closes = f.closes;
  link = link_went s.token (side_of book.trail (places_in f.story) None) (accepted_in f.story) s.live.here n l f.link;
  ring = f.ring;
  accepted = f.accepted;
  acknowledged = f.acknowledged;
  closed = f.closed;
  few = f.few;
  taken = f.taken;
  token = f.token;
  numbers = numbers_written s.kept.last n s.live.here book.trail.lines.rows f.numbers;
  bytes = bytes_went n s.live.here f.bytes;
  items = f.items;
  receipts = f.receipts;
}
