-- What is counted along a story: for each frame made how many were accepted when its message was taken, and for each frame
-- accepted how many were made.
use Rattle.std.proofs.Common.{◌≡◌, ℕ, ◌+◌, ◌<◌, suc, zero, cond, Bool, true, false, List, [], ◌∷◌, ◌++◌, Option, Some, unwrap_or, length, replicate, refl, ap, ◌∙◌, arith, length-append}
use Rattle.std.proofs.lemmas.List.{length-replicate}
use Rattle.std.proofs.lemmas.List.Elements.{filter-append}
use Rattle.std.proofs.lemmas.Grind.{flat_map-append}
use Rattle.std.specs.List.{AllByRecursion}
use Rattle.std.specs.Prelude.{slice_get}
use Rattle.plain_lists.specs.Fronts.{IsFront}
use Rattle.plain_lists.proofs.FrontLemmas.{IsFront_self, IsFront_trans, IsFront-append}
use Rattle.transfer_frames.specs.declared.frame.Frame.{Frame}
use Rattle.transfer_frames.specs.declared.frame.Frame.TheVariants.{Protocol}
use Rattle.transfer_frames.specs.Grammar.{role}
use Rattle.half_model.specs.Log.{Mark, Taken, Heard, Grouped, Dropped}
use Rattle.half_model.specs.Story.{heard_by, made_by, made_in, accepted_in, heard_in}
use Rattle.pair_model.specs.Rows.{counted, is_counted}
use Rattle.side_model.specs.Places.{Places, no_places, placed, placed_all, places_in}
use Rattle.pair_laws.specs.Orders.{goes_by, Shows}
use Rattle.pair_laws.proofs.Places.{get_front, get_behind, get_middle}

-- ---- stories

pub made_append : (xs ys : List Mark) → made_in (xs ++ ys) ≡ made_in xs ++ made_in ys
made_append xs ys = flat_map-append made_by xs ys

pub accepted_append : (xs ys : List Mark) → accepted_in (xs ++ ys) ≡ accepted_in xs ++ accepted_in ys
accepted_append xs ys = ap counted (flat_map-append heard_by xs ys) ∙ filter-append (λ frame. is_counted (role frame)) (heard_in xs) (heard_in ys)

if_counted : (b : Bool) (frame : Frame) (frames : List Frame) → b ≡ true → cond b (frame ∷ frames) frames ≡ frame ∷ frames
if_counted true frame frames e = refl
if_counted false frame frames e = absurd cc

-- a counted frame that was heard is accepted
pub accepted_heard : (earlier : List Mark) (frame : Frame) (later : List Mark) → is_counted (role frame) ≡ true → accepted_in (earlier ++ Heard frame ∷ later) ≡ accepted_in earlier ++ frame ∷ accepted_in later
accepted_heard earlier frame later e =
    accepted_append earlier (Heard frame ∷ later) ∙ ap (λ (fs : List Frame). accepted_in earlier ++ fs) (if_counted (is_counted (role frame)) frame (accepted_in later) e)

placed_append : (xs ys : List Mark) (places : Places) → placed_all (xs ++ ys) places ≡ placed_all ys (placed_all xs places)
placed_append [] ys places = refl
placed_append (x ∷ xs) ys places = placed_append xs ys (placed x places)

-- ---- numbers

length_counted : (b : Bool) (frame : Frame) (frames : List Frame) → length (cond b (frame ∷ frames) frames) ≡ cond b 1 0 + length frames
length_counted true frame frames = omega arith
length_counted false frame frames = omega arith

length_ahead : (b : Bool) (n : ℕ) → length (cond b (n ∷ []) []) ≡ cond b 1 0
length_ahead true n = refl
length_ahead false n = refl

record Numbers (story : List Mark) (from to : Places) : Type 0 where
  heard : to.heard ≡ from.heard + length (accepted_in story)
  made : to.made ≡ from.made + length (made_in story)
  due : length to.due ≡ length from.due + length (made_in story)
  ahead : length to.ahead ≡ length from.ahead + length (accepted_in story)
  due_first : IsFront from.due to.due
  ahead_first : IsFront from.ahead to.ahead

numbers : (story : List Mark) (from : Places) → Numbers story from (placed_all story from)
numbers [] from = record { heard = omega arith; made = omega arith; due = omega arith; ahead = omega arith; due_first = IsFront_self from.due; ahead_first = IsFront_self from.ahead }
numbers (Taken message handle segments ∷ story) from =
    let n = numbers story (placed (Taken message handle segments) from) in
    record { heard = n.heard; made = n.made; due = n.due; ahead = n.ahead; due_first = n.due_first; ahead_first = n.ahead_first }
numbers (Dropped rid ∷ story) from =
    let n = numbers story from in
    record { heard = n.heard; made = n.made; due = n.due; ahead = n.ahead; due_first = n.due_first; ahead_first = n.ahead_first }
numbers (Heard frame ∷ story) from =
    let n = numbers story (placed (Heard frame) from) in
    let b : Bool = is_counted (role frame) in
    let one = length_counted b frame (accepted_in story) in
    let more = length-append from.ahead (cond b (from.made ∷ []) []) in
    let new = length_ahead b from.made in
    record {
      heard = omega (arith, n.heard, one);
      made = n.made;
      due = n.due;
      ahead = omega (arith, n.ahead, more, new, one);
      due_first = n.due_first;
      ahead_first = IsFront_trans (IsFront-append from.ahead (cond b (from.made ∷ []) [])) n.ahead_first;
    }
numbers (Grouped frames copies ∷ story) from =
    let n = numbers story (placed (Grouped frames copies) from) in
    let count : ℕ = unwrap_or from.since from.heard in
    let both = length-append frames (made_in story) in
    let more = length-append from.due (replicate (length frames) count) in
    let new = length-replicate (length frames) count in
    record {
      heard = n.heard;
      made = omega (arith, n.made, both);
      due = omega (arith, n.due, more, new, both);
      ahead = n.ahead;
      due_first = IsFront_trans (IsFront-append from.due (replicate (length frames) count)) n.due_first;
      ahead_first = n.ahead_first;
    }

-- ---- a message that was taken

get-replicate : (n i x : ℕ) → i < n → slice_get (replicate n x) i ≡ Some x
get-replicate zero i x l = absurd (omega (arith, l))
get-replicate (suc n) zero x l = refl
get-replicate (suc n) (suc i) x l = get-replicate n i x (omega (arith, l))

-- marks that go by leave which message is owed and what was made
record Same (from to : Places) : Type 0 where
  since : to.since ≡ from.since
  due : to.due ≡ from.due

still : (marks : List Mark) (from : Places) → AllByRecursion (λ mark. goes_by mark ≡ true) marks → Same from (placed_all marks from)
still [] from h = record { since = refl; due = refl }
still (Taken message handle segments ∷ marks) from h = absurd cc
still (Heard frame ∷ marks) from h = let s = still marks (placed (Heard frame) from) h.1 in record { since = s.since; due = s.due }
still (Grouped frames copies ∷ marks) from h = absurd cc
still (Dropped rid ∷ marks) from h = still marks from h.1

pub due_at : (story : List Mark) (message : List ℕ) (index : ℕ) (shows : Shows story message index) → slice_get (places_in story).due index ≡ Some (length (accepted_in shows.earlier))
due_at story message index shows =
    let first : Places = places_in shows.earlier in
    let n = numbers shows.earlier no_places in
    let taken : Places = placed (Taken message shows.handle shows.segments) first in
    let s = still shows.between taken shows.waits in
    let waits : Places = placed_all shows.between taken in
    let frames : List Frame = shows.before ++ Protocol shows.shown ∷ shows.after in
    let made : Places = placed (Grouped frames shows.copies) waits in
    let last = numbers shows.later made in
    let all : places_in story ≡ placed_all shows.later made =
    ap places_in shows.split
    ∙ placed_append shows.earlier (Taken message shows.handle shows.segments ∷ (shows.between ++ Grouped frames shows.copies ∷ shows.later)) no_places
    ∙ placed_append shows.between (Grouped frames shows.copies ∷ shows.later) taken in
    let since : unwrap_or waits.since waits.heard ≡ first.heard = ap (λ (o : Option ℕ). unwrap_or o waits.heard) s.since in
    let many : length frames ≡ length shows.before + suc (length shows.after) = length-append shows.before (Protocol shows.shown ∷ shows.after) in
    let there : slice_get made.due (length waits.due + length shows.before) ≡ Some (unwrap_or waits.since waits.heard) =
    get_behind waits.due (replicate (length frames) (unwrap_or waits.since waits.heard)) (length shows.before)
    ∙ get-replicate (length frames) (length shows.before) (unwrap_or waits.since waits.heard) (omega (arith, many)) in
    let place : index ≡ length waits.due + length shows.before = omega (arith, shows.index_is, n.due, ap length s.due) in
    let received : first.heard ≡ length (accepted_in shows.earlier) = omega (arith, n.heard) in
    ap (λ (p : Places). slice_get p.due index) all
    ∙ ap (slice_get (placed_all shows.later made).due) place
    ∙ get_front (length waits.due + length shows.before) (unwrap_or waits.since waits.heard) last.due_first there
    ∙ ap (λ (k : ℕ). Some k) (since ∙ received)

-- ---- a frame that was heard

ahead_if : (b : Bool) (xs : List ℕ) (n : ℕ) → b ≡ true → slice_get (xs ++ cond b (n ∷ []) []) (length xs) ≡ Some n
ahead_if true xs n e = get_middle xs n []
ahead_if false xs n e = absurd cc

pub ahead_at : (story earlier : List Mark) (frame : Frame) (later : List Mark) → story ≡ earlier ++ Heard frame ∷ later → is_counted (role frame) ≡ true
    → slice_get (places_in story).ahead (length (accepted_in earlier)) ≡ Some (length (made_in earlier))
ahead_at story earlier frame later split e =
    let first : Places = places_in earlier in
    let n = numbers earlier no_places in
    let heard : Places = placed (Heard frame) first in
    let last = numbers later heard in
    let all : places_in story ≡ placed_all later heard = ap places_in split ∙ placed_append earlier (Heard frame ∷ later) no_places in
    let place : length (accepted_in earlier) ≡ length first.ahead = omega (arith, n.ahead) in
    let made : first.made ≡ length (made_in earlier) = omega (arith, n.made) in
    ap (λ (p : Places). slice_get p.ahead (length (accepted_in earlier))) all
    ∙ ap (slice_get (placed_all later heard).ahead) place
    ∙ get_front (length first.ahead) first.made last.ahead_first (ahead_if (is_counted (role frame)) first.ahead first.made e)
    ∙ ap (λ (k : ℕ). Some k) made
