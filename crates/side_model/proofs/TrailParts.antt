-- What of a proxy with its records changes nothing that they keep, and how a call of it goes.
use Rattle.std.proofs.Common.{◌≡◌, ℕ, ◌+◌, ◌≤◌, List, [], Option, Some, None, Result, Ok, Err, false, length, refl, sym, subst, ◌∙◌, arith, inl, inr, ◌⊎◌}
use Rattle.std.proofs.lemmas.List.{append-nil}
use Rattle.wp_outside.specs.declared.kinds.Side.{Side}
use Rattle.transfer_frames.specs.declared.frame.Frame.{Frame}
use Rattle.half_model.specs.declared.notes.Noted.{Noted}
use Rattle.pair_model.specs.RingState.{IsRingOf}
use Rattle.side_model.specs.declared.fault.ProxyFault.{ProxyFault}
use Rattle.side_model.specs.Books.{Book, MOST_WEIGHT, weight, grown, closed}
use Rattle.side_model.specs.Calls.{Runs, CallsBarred, CallsAfter, Calls, barred}
use Rattle.side_model.specs.Due.{hear, group, treat, end, choose, work, next}
use Rattle.side_model.specs.Events.{Event, Rest}
use Rattle.side_model.specs.Follows.{Follows}
use Rattle.side_model.specs.Records.{Law, KeptRing}
use Rattle.side_model.specs.Shows.{front_of}
use Rattle.side_model.specs.Sound.{Sound, Admits}
use Rattle.side_model.specs.State.{Now}
use Rattle.side_model.specs.Steps.{step}
use Rattle.side_model.specs.Trails.{TrailState, no_records, with_notes, RunsOn, Keeps, Begun}
use Rattle.side_model.specs.TrailLaws.{KeepsAtFirst}
use Rattle.wl_wire.specs.Wire.{first}
use Rattle.half_model.specs.Turn.{waits_in}
use Rattle.side_model.specs.Resting.{Calm}
use Rattle.side_model.proofs.Calms.{rest_is_calm}
use Rattle.side_model.proofs.FollowsAll.{follows_outside}
use Rattle.side_model.proofs.FollowsOut.{follows_at_first}
use Rattle.side_model.proofs.Parts.{SameProxy, same_then, same_step, same_part, FollowsOn}
use Rattle.side_model.proofs.Sounds.{sound_outside, sound_at_first}
use Rattle.side_model.proofs.Stopping.{lawful_stops}

-- ---- parts that don't matter

-- the notes that wait
pub follows_notes : (notes : List Noted) (s : Now) (book : Book) → Follows s book → Follows (with_notes notes s) book
follows_notes notes s book f = record {
  story = f.story;
  tells = f.tells;
  log = f.log;
  after = f.after;
  jobs = f.jobs;
  closes = f.closes;
  link = f.link;
  ring = f.ring;
  accepted = f.accepted;
  acknowledged = f.acknowledged;
  closed = f.closed;
  few = f.few;
  taken = f.taken;
  token = f.token;
  numbers = f.numbers;
  bytes = f.bytes;
  items = f.items;
  receipts = f.receipts;
}

pub sound_notes : (notes : List Noted) (s : Now) → Sound s → Sound (with_notes notes s)
sound_notes notes s h = record { places = h.places; frames = h.frames; few = h.few; here = h.here }

pub next_notes : (notes : List Noted) (s : Now) → next s ≡ Rest → next (with_notes notes s) ≡ Rest
unfolding next work hear group treat end choose
next_notes notes s r = r

-- the room that is lent
pub follows_room : (room : ℕ) (s : Now) (book : Book) → Follows s book → Follows s (record book { trail = record book.trail { lines = record book.trail.lines { room = room } } })
follows_room room s book f = record {
  story = f.story;
  tells = record { side_is = f.tells.side_is; taken = f.tells.taken; made = f.tells.made; copies = f.tells.copies; accepted = f.tells.accepted; acknowledged = f.tells.acknowledged; order = f.tells.order };
  log = f.log;
  after = f.after;
  jobs = f.jobs;
  closes = f.closes;
  link = f.link;
  ring = f.ring;
  accepted = f.accepted;
  acknowledged = f.acknowledged;
  closed = f.closed;
  few = f.few;
  taken = f.taken;
  token = f.token;
  numbers = f.numbers;
  bytes = f.bytes;
  items = f.items;
  receipts = f.receipts;
}

pub same_weight : (room : ℕ) (book : Book) → weight (record book.trail { lines = record book.trail.lines { room = room } }) ≡ weight book.trail
unfolding weight
same_weight room book = refl

-- ---- what is kept, in other words

pub keeps_so : (t u : TrailState) → t.now ≡ u.now → t.book ≡ u.book → t.fault ≡ u.fault → Keeps u → Keeps t
keeps_so t u n b f k =
    subst (λ (x : Now). Keeps (record { now = x; book = t.book; fault = t.fault })) (sym n)
    (subst (λ (x : Book). Keeps (record { now = u.now; book = x; fault = t.fault })) (sym b)
    (subst (λ (x : Option ProxyFault). Keeps (record { now = u.now; book = u.book; fault = x })) (sym f) k))

pub law_so : (s t : Now) (book : Book) (fault : Option ProxyFault) → t.side ≡ s.side → t.token ≡ s.token → Law s.side s.token book fault → Law t.side t.token book fault
law_so s t book fault e d h = subst (λ (x : Side). Law x t.token book fault) (sym e) (subst (λ (x : List ℕ). Law s.side x book fault) (sym d) h)

pub ring_whole : (s : Now) (book : Book) (fault : Option ProxyFault) → Follows s book → KeptRing book.trail.made book.trail.acknowledged fault s.kept.ring
ring_whole s book fault f = record {
  further = [];
  ring_is = subst (λ (made : List Frame). IsRingOf made s.kept.ring) (sym (append-nil book.trail.made)) f.ring;
  none = λ e. refl;
  known = λ e. sym f.acknowledged;
}

-- a proxy that has failed, with what it keeps
pub failed : (t : TrailState) (fault : ProxyFault) → t.fault ≡ Some fault → Law t.now.side t.now.token t.book (Some fault) → KeptRing t.book.trail.made t.book.trail.acknowledged (Some fault) t.now.kept.ring
    → weight t.book.trail + t.book.trail.lines.room ≤ MOST_WEIGHT → Keeps t
failed t fault e law ring w = record {
  runs = λ none. absurd (let never : Some fault ≡ None = sym e ∙ none in cc);
  law = subst (λ (x : Option ProxyFault). Law t.now.side t.now.token t.book x) (sym e) law;
  ring = subst (λ (x : Option ProxyFault). KeptRing t.book.trail.made t.book.trail.acknowledged x t.now.kept.ring) (sym e) ring;
  weighs = w;
}

-- one that runs on
pub runs_on : (s : Now) (book : Book) → FollowsOn s book → next s ≡ Rest → s.fault ≡ None → s.kept.notes ≡ [] → book.trail.lines.room ≤ length (front_of s) → weight book.trail + book.trail.lines.room ≤ MOST_WEIGHT
    → Keeps (record { now = s; book = book; fault = None })
runs_on s book f r e n l w = record {
  runs = λ none. record { follows = f.follows; sound = f.sound; rests = r; fault = e; notes = n; lent = l };
  law = lawful_stops.rests s book f.follows (omega arith) r;
  ring = ring_whole s book None f.follows;
  weighs = w;
}

-- ---- at first

none_waits : (side : Side) (token : List ℕ) → waits_in (no_records side token).now.live.sending ≡ false
unfolding first
none_waits side token = refl

calm_at_first : (side : Side) (token : List ℕ) → Calm (no_records side token).now
calm_at_first side token = record { heard = tt; made = refl; treated = λ e. absurd (let none : waits_in (no_records side token).now.live.sending ≡ false = none_waits side token in cc); closes = tt; sent = tt }

weight_at_first : (side : Side) (token : List ℕ) → weight (no_records side token).book.trail ≡ 0
unfolding weight
weight_at_first side token = refl

pub keeps_at_first : KeepsAtFirst
keeps_at_first side token l =
    let s : Now = (no_records side token).now in
    runs_on s (no_records side token).book (record { follows = follows_at_first side token l; sound = sound_at_first side token }) ((rest_is_calm s (sound_at_first side token)).1 (calm_at_first side token)) refl refl (omega arith)
    (omega (arith, weight_at_first side token))

-- ---- a call that may fail

-- how a call of the proxy ends: behind events that were due, or at once
pub record NotRun (old : Now) (events : List Event) (last : Now) : Type 0 where
  pub none : events ≡ []
  pub kept : last.kept ≡ old.kept
  pub side : last.side ≡ old.side
  pub token : last.token ≡ old.token

pub ran : (event : Event) (answer : Result Unit ProxyFault) (events : List Event) (old last : Now) → old.fault ≡ None → Calls event answer events old last → Begun event events old last ⊎ NotRun old events last
ran event answer events old last none calls = by_fault old.fault none calls
  where
    by_answer : (answer : Result Unit ProxyFault) → Runs event answer events old last → Begun event events old last ⊎ NotRun old events last
    by_answer (Ok done) r = inl (record { at = last; part = r.0; kept = refl; side = refl; token = refl })
    by_answer (Err fault) (inl stops) = inl (record { at = stops.last; part = stops.part; kept = stops.halted.kept; side = stops.halted.side; token = stops.halted.token })
    by_answer (Err fault) (inr at_once) = inr (record { none = at_once.none; kept = at_once.halted.kept; side = at_once.halted.side; token = at_once.halted.token })

    by_barred : (bar : Option ProxyFault) → CallsBarred bar event answer events old last → Begun event events old last ⊎ NotRun old events last
    by_barred None r = by_answer answer r
    by_barred (Some fault) r = inr (record { none = r.none; kept = r.halted.kept; side = r.halted.side; token = r.halted.token })

    by_fault : (fault : Option ProxyFault) → fault ≡ None → CallsAfter fault event answer events old last → Begun event events old last ⊎ NotRun old events last
    by_fault None e r = by_barred (barred event old) r
    by_fault (Some fault) e r = absurd cc

-- what is known of an old state
pub record Begins (old : TrailState) (event : Event) : Type 0 where
  pub runs : RunsOn old
  pub admits : Admits event old.now
  pub follows : FollowsOn old.now (closed old.book)
  pub weighs : weight (closed old.book).trail ≤ MOST_WEIGHT
  pub after : FollowsOn (step event old.now) (grown event old.now (closed old.book))

pub begins : (old : TrailState) (event : Event) → old.fault ≡ None → Keeps old → Admits event old.now → Begins old event
begins old event none k a =
    let r : RunsOn old = k.runs none in
    let f : Follows old.now (closed old.book) = follows_room 0 old.now old.book r.follows in
    record {
      runs = r;
      admits = a;
      follows = record { follows = f; sound = r.sound };
      weighs = omega (arith, same_weight 0 old.book, k.weighs);
      after = record { follows = follows_outside event old.now (closed old.book) f r.rests a; sound = sound_outside event old.now r.sound a };
    }

pub same_ran : {old : Now} {event : Event} {events : List Event} {last : Now} (r : Begun event events old last) → (last.side ≡ old.side) × (last.token ≡ old.token)
same_ran {old} {event} {events} {last} r =
    let p : SameProxy old r.at = same_then (same_step event old) (same_part (step event old) r.at events r.part) in
    (r.side ∙ p.side, r.token ∙ p.token)
