-- What the places of a story count, and that a record tells its story with one more mark.
use Rattle.std.proofs.Common.{◌≡◌, ℕ, ◌+◌, ◌≤◌, suc, zero, List, [], ◌∷◌, ◌++◌, Option, Some, None, Bool, true, false, cond, max, map, length, refl, sym, ap, ◌∙◌, arith, length-append}
use Rattle.std.proofs.lemmas.List.{append-nil}
use Rattle.std.specs.List.{AllByRecursion}
use Rattle.std.specs.Prelude.{replicate, unwrap_or}
use Rattle.wp_outside.specs.declared.kinds.Side.{Side}
use Rattle.wl_tables.specs.declared.way.Way.{Way}
use Rattle.transfer_frames.specs.declared.frame.Frame.{Frame}
use Rattle.transfer_frames.specs.Grammar.{role}
use Rattle.half_model.specs.Log as marks
use Rattle.half_model.specs.Log.{Mark}
use Rattle.half_model.specs.Sides.{other_way}
use Rattle.wl_tables.specs.Ways.{own_way}
use Rattle.half_model.specs.Story.{taken_in, made_in, copies_in, heard_in, accepted_in, messages_of}
use Rattle.pair_model.specs.Rows.{counted, told, is_counted, count_in}
use Rattle.pair_model.proofs.Growing.{told_push, length-counted_push}
use Rattle.side_model.specs.Books.{Book, marked_trail, marked_order}
use Rattle.side_model.specs.Places.{Places, no_places, placed, placed_all, places_in}
use Rattle.side_model.specs.Records.{ways_in, TellsStory}
use Rattle.side_model.proofs.Stories.{taken_push, made_push, copies_push, heard_push, ways_push}

-- ---- places

count_one : (b : Bool) (f : Frame) (fs : List Frame) → length (cond b (f ∷ fs) fs) ≡ cond b 1 0 + length fs
count_one true f fs = omega arith
count_one false f fs = omega arith

heard_from : (story : List Mark) (places : Places) → (placed_all story places).heard ≡ places.heard + length (accepted_in story)
heard_from [] places = omega arith
heard_from (marks.Taken message handle segments ∷ story) places = heard_from story (placed (marks.Taken message handle segments) places)
heard_from (marks.Heard frame ∷ story) places =
    omega (arith, heard_from story (placed (marks.Heard frame) places), count_one (is_counted (role frame)) frame (accepted_in story))
heard_from (marks.Grouped frames copies ∷ story) places = heard_from story (placed (marks.Grouped frames copies) places)
heard_from (marks.Dropped rid ∷ story) places = heard_from story places

-- how many frames were accepted
pub places_heard : (story : List Mark) → (places_in story).heard ≡ length (accepted_in story)
places_heard story = omega (arith, heard_from story no_places)

made_from : (story : List Mark) (places : Places) → (placed_all story places).made ≡ places.made + length (made_in story)
made_from [] places = omega arith
made_from (marks.Taken message handle segments ∷ story) places = made_from story (placed (marks.Taken message handle segments) places)
made_from (marks.Heard frame ∷ story) places = made_from story (placed (marks.Heard frame) places)
made_from (marks.Grouped frames copies ∷ story) places =
    omega (arith, made_from story (placed (marks.Grouped frames copies) places), length-append frames (made_in story))
made_from (marks.Dropped rid ∷ story) places = made_from story places

-- and made
pub places_made : (story : List Mark) → (places_in story).made ≡ length (made_in story)
places_made story = omega (arith, made_from story no_places)

-- a message was taken when no more were accepted than now
since_from : (story : List Mark) (places : Places) → unwrap_or places.since places.heard ≤ places.heard → unwrap_or (placed_all story places).since (placed_all story places).heard ≤ (placed_all story places).heard
since_from [] places h = h
since_from (marks.Taken message handle segments ∷ story) places h = since_from story (placed (marks.Taken message handle segments) places) (omega arith)
since_from (marks.Heard frame ∷ story) places h = since_from story (placed (marks.Heard frame) places) (by_since places.since h)
  where
    by_since : (since : Option ℕ) → unwrap_or since places.heard ≤ places.heard → unwrap_or since (places.heard + cond (is_counted (role frame)) 1 0) ≤ places.heard + cond (is_counted (role frame)) 1 0
    by_since None k = omega arith
    by_since (Some n) k = omega arith
since_from (marks.Grouped frames copies ∷ story) places h = since_from story (placed (marks.Grouped frames copies) places) (omega arith)
since_from (marks.Dropped rid ∷ story) places h = since_from story places h

pub since_most : (story : List Mark) → unwrap_or (places_in story).since (places_in story).heard ≤ (places_in story).heard
since_most story = since_from story no_places (omega arith)

-- the same count for each of some frames
pub all_same : (n count most : ℕ) → count ≤ most → AllByRecursion (λ c. c ≤ most) (replicate n count)
all_same zero count most l = tt
all_same (suc n) count most l = (l, all_same n count most l)

-- ---- the record

map_same : (way : Way) (messages : List (List ℕ)) → map (λ message. way) messages ≡ map (λ (passed : Way × List ℕ). passed.0) (map (λ message. (way, message)) messages)
map_same way [] = refl
map_same way (message ∷ messages) = ap (λ ways. way ∷ ways) (map_same way messages)

pub tells_mark : (side : Side) (story : List Mark) (mark : Mark) (book : Book) → TellsStory side story book
    → TellsStory side (story ++ mark ∷ []) (record { trail = marked_trail (Some mark) book.trail; order = marked_order side (Some mark) book.order })
tells_mark side story (marks.Taken message handle segments) book t = record {
  side_is = t.side_is;
  taken = ap (λ ms. ms ++ message ∷ []) t.taken ∙ sym (taken_push story (marks.Taken message handle segments));
  made = t.made ∙ sym (made_push story (marks.Taken message handle segments) ∙ append-nil (made_in story));
  copies = t.copies ∙ sym (copies_push story (marks.Taken message handle segments) ∙ append-nil (copies_in story));
  accepted = t.accepted ∙ ap (λ (fs : List Frame). length (counted fs)) (sym (heard_push story (marks.Taken message handle segments) ∙ append-nil (heard_in story)));
  acknowledged = t.acknowledged ∙ ap told (sym (heard_push story (marks.Taken message handle segments) ∙ append-nil (heard_in story)));
  order = ap (λ ways. ways ++ own_way side ∷ []) t.order ∙ sym (ways_push side story (marks.Taken message handle segments));
}
tells_mark side story (marks.Heard frame) book t = record {
  side_is = t.side_is;
  taken = t.taken ∙ sym (taken_push story (marks.Heard frame) ∙ append-nil (taken_in story));
  made = t.made ∙ sym (made_push story (marks.Heard frame) ∙ append-nil (made_in story));
  copies = t.copies ∙ sym (copies_push story (marks.Heard frame) ∙ append-nil (copies_in story));
  accepted = ap (λ n. n + cond (is_counted (role frame)) 1 0) t.accepted ∙ sym (ap (λ (fs : List Frame). length (counted fs)) (heard_push story (marks.Heard frame)) ∙ length-counted_push (heard_in story) frame);
  acknowledged = ap (λ n. max n (count_in (role frame))) t.acknowledged ∙ sym (ap told (heard_push story (marks.Heard frame)) ∙ told_push (heard_in story) frame);
  order = ap (λ ways. ways ++ map (λ message. other_way side) (messages_of frame)) t.order ∙ ap (λ ways. ways_in side story ++ ways) (map_same (other_way side) (messages_of frame)) ∙ sym (ways_push side story (marks.Heard frame));
}
tells_mark side story (marks.Grouped frames copies) book t = record {
  side_is = t.side_is;
  taken = t.taken ∙ sym (taken_push story (marks.Grouped frames copies) ∙ append-nil (taken_in story));
  made = ap (λ fs. fs ++ frames) t.made ∙ sym (made_push story (marks.Grouped frames copies));
  copies = ap (λ cs. cs ++ copies) t.copies ∙ sym (copies_push story (marks.Grouped frames copies));
  accepted = t.accepted ∙ ap (λ (fs : List Frame). length (counted fs)) (sym (heard_push story (marks.Grouped frames copies) ∙ append-nil (heard_in story)));
  acknowledged = t.acknowledged ∙ ap told (sym (heard_push story (marks.Grouped frames copies) ∙ append-nil (heard_in story)));
  order = t.order ∙ sym (ways_push side story (marks.Grouped frames copies) ∙ append-nil (ways_in side story));
}
tells_mark side story (marks.Dropped rid) book t = record {
  side_is = t.side_is;
  taken = t.taken ∙ sym (taken_push story (marks.Dropped rid) ∙ append-nil (taken_in story));
  made = t.made ∙ sym (made_push story (marks.Dropped rid) ∙ append-nil (made_in story));
  copies = t.copies ∙ sym (copies_push story (marks.Dropped rid) ∙ append-nil (copies_in story));
  accepted = t.accepted ∙ ap (λ (fs : List Frame). length (counted fs)) (sym (heard_push story (marks.Dropped rid) ∙ append-nil (heard_in story)));
  acknowledged = t.acknowledged ∙ ap told (sym (heard_push story (marks.Dropped rid) ∙ append-nil (heard_in story)));
  order = t.order ∙ sym (ways_push side story (marks.Dropped rid) ∙ append-nil (ways_in side story));
}
