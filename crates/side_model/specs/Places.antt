-- For each frame that a side made, how many it had accepted when the frame's message was taken, and
-- for each frame that it accepted, how many it had made by then, counted along its story; this
-- project's own.
use Rattle.std.specs.Prelude.{ℕ, ◌+◌, ◌||◌, cond, Bool, false, List, [], ◌∷◌, ◌++◌, length}
use Rattle.std.specs.Prelude.{replicate, Option, Some, None, unwrap_or}
use Rattle.transfer_frames.specs.Grammar.{role}
use Rattle.half_model.specs.Log as marks
use Rattle.half_model.specs.Log.{Mark}
use Rattle.pair_model.specs.Lines.{SideRecord, Stop}
use Rattle.pair_model.specs.LinkFaults.{is_close}
use Rattle.pair_model.specs.Rows.{is_counted}
use Rattle.side_model.specs.Books.{TrailRecord}

pub record Places : Type 0 where
  -- how many frames were accepted and made so far, and whether CLOSE was accepted
  pub heard : ℕ
  pub made : ℕ
  pub closed : Bool
  -- how many were accepted when the message that is owed was taken
  pub since : Option ℕ
  pub due : List ℕ
  pub ahead : List ℕ

abbrev pub no_places : Places
no_places = record { heard = 0; made = 0; closed = false; since = None; due = []; ahead = [] }

-- the frames of a message count from its taking, other frames from their making
abbrev pub placed : Mark → Places → Places
placed (marks.Taken message handle segments) places = record places { since = Some places.heard }
placed (marks.Heard frame) places = record places {
  heard = places.heard + cond (is_counted (role frame)) 1 0;
  closed = places.closed || is_close (role frame);
  ahead = places.ahead ++ cond (is_counted (role frame)) (places.made ∷ []) [];
}
placed (marks.Grouped frames copies) places = record places {
  made = places.made + length frames;
  since = None;
  due = places.due ++ replicate (length frames) (unwrap_or places.since places.heard);
}
placed (marks.Dropped rid) places = places

abbrev pub placed_all : List Mark → Places → Places
placed_all [] places = places
placed_all (mark ∷ story) places = placed_all story (placed mark places)

abbrev pub places_in : List Mark → Places
places_in story = placed_all story no_places

-- the record as the link's laws read it, where reading stopped there
abbrev pub side_of : TrailRecord → Places → Option Stop → SideRecord
side_of trail places stop = record {
  made = trail.made;
  due = places.due;
  lines = trail.lines.rows;
  stop = stop;
  accepted = trail.accepted;
  ahead = places.ahead;
  closed = places.closed;
  acknowledged = trail.acknowledged;
}
