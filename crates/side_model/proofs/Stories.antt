-- A story with one more mark.
use Rattle.std.proofs.Common.{◌≡◌, List, [], ◌∷◌, ◌++◌, map, refl, sym, ap, ◌∙◌, append_assoc}
use Rattle.std.proofs.lemmas.List.{append-nil, map-append}
use Rattle.std.proofs.lemmas.List.Elements.{filter-append}
use Rattle.std.proofs.lemmas.Grind.{flat_map-append}
use Rattle.std.specs.List.{flat_map}
use Rattle.wp_outside.specs.declared.kinds.Side.{Side}
use Rattle.transfer_frames.specs.Grammar.{role}
use Rattle.half_model.specs.Log.{Mark, LogState, Lawful, log_next, log_new, Logs, log_after}
use Rattle.half_model.specs.Story.{taken_by, made_by, copies_by, heard_by, passed_by, taken_in, made_in, copies_in, heard_in, accepted_in, order_in, given_by, items_from}
use Rattle.half_model.specs.StoryLaws.{now, IsStory}
use Rattle.pair_model.specs.Rows.{counted, is_counted}
use Rattle.side_model.specs.Places.{Places, no_places, placed, placed_all, places_in}
use Rattle.side_model.specs.Records.{ways_in}

-- ---- what it comes to

log_after_push : (s : LogState) (story : List Mark) (mark : Mark) → log_after s (story ++ mark ∷ []) ≡ log_next (log_after s story) mark
log_after_push s [] mark = refl
log_after_push s (m ∷ story) mark = log_after_push (log_next s m) story mark

logs_push : (s : LogState) (story : List Mark) (mark : Mark) → Logs s story → Lawful (log_after s story) mark → Logs s (story ++ mark ∷ [])
logs_push s [] mark h k = (k, tt)
logs_push s (m ∷ story) mark h k = (h.0, logs_push (log_next s m) story mark h.1 k)

pub now_push : (side : Side) (story : List Mark) (mark : Mark) → now side (story ++ mark ∷ []) ≡ log_next (now side story) mark
now_push side story mark = log_after_push (log_new side) story mark

pub story_push : (side : Side) (story : List Mark) (mark : Mark) → IsStory side story → Lawful (now side story) mark → IsStory side (story ++ mark ∷ [])
story_push side story mark h k = logs_push (log_new side) story mark h k

-- ---- what it tells

pub one_more : {X Y : Type 0} (f : X → List Y) (xs : List X) (x : X) → flat_map f (xs ++ x ∷ []) ≡ flat_map f xs ++ f x
one_more f xs x = flat_map-append f xs (x ∷ []) ∙ ap (λ ys. flat_map f xs ++ ys) (append-nil (f x))

pub taken_push : (story : List Mark) (mark : Mark) → taken_in (story ++ mark ∷ []) ≡ taken_in story ++ taken_by mark
taken_push story mark = one_more taken_by story mark

pub made_push : (story : List Mark) (mark : Mark) → made_in (story ++ mark ∷ []) ≡ made_in story ++ made_by mark
made_push story mark = one_more made_by story mark

pub copies_push : (story : List Mark) (mark : Mark) → copies_in (story ++ mark ∷ []) ≡ copies_in story ++ copies_by mark
copies_push story mark = one_more copies_by story mark

pub heard_push : (story : List Mark) (mark : Mark) → heard_in (story ++ mark ∷ []) ≡ heard_in story ++ heard_by mark
heard_push story mark = one_more heard_by story mark

pub accepted_push : (story : List Mark) (mark : Mark) → accepted_in (story ++ mark ∷ []) ≡ accepted_in story ++ counted (heard_by mark)
accepted_push story mark = ap counted (heard_push story mark) ∙ filter-append (λ frame. is_counted (role frame)) (heard_in story) (heard_by mark)

pub ways_push : (side : Side) (story : List Mark) (mark : Mark) → ways_in side (story ++ mark ∷ []) ≡ ways_in side story ++ map (λ passed. passed.0) (passed_by side mark)
ways_push side story mark = ap (map (λ passed. passed.0)) (one_more (passed_by side) story mark) ∙ map-append (λ passed. passed.0) (order_in side story) (passed_by side mark)

items_from_push : (s : LogState) (story : List Mark) (mark : Mark) → items_from s (story ++ mark ∷ []) ≡ items_from s story ++ given_by (log_after s story) mark
items_from_push s [] mark = append-nil (given_by s mark)
items_from_push s (m ∷ story) mark = ap (λ items. given_by s m ++ items) (items_from_push (log_next s m) story mark) ∙ sym (append_assoc (given_by s m) (items_from (log_next s m) story) (given_by (log_after (log_next s m) story) mark))

pub items_push : (side : Side) (story : List Mark) (mark : Mark) → items_from (log_new side) (story ++ mark ∷ []) ≡ items_from (log_new side) story ++ given_by (now side story) mark
items_push side story mark = items_from_push (log_new side) story mark

-- ---- its places

placed_push : (places : Places) (story : List Mark) (mark : Mark) → placed_all (story ++ mark ∷ []) places ≡ placed mark (placed_all story places)
placed_push places [] mark = refl
placed_push places (m ∷ story) mark = placed_push (placed m places) story mark

pub places_push : (story : List Mark) (mark : Mark) → places_in (story ++ mark ∷ []) ≡ placed mark (places_in story)
places_push story mark = placed_push no_places story mark
