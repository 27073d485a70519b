-- What a sending half made and nobody took yet: frames, receipts of copies, and what is noted; this
-- project's own.
use Rattle.std.specs.Prelude.{List, [], ◌∷◌, ◌++◌, ℕ, Bool, true, false, Option, Some, None}
use Rattle.transfer_frames.specs.declared.frame.Frame.{Frame}
use Rattle.half_model.specs.declared.items.FileReceipt.{FileReceipt}
use Rattle.half_model.specs.declared.notes.Noted.{Noted}
use Rattle.half_model.specs.declared.notes.Noted.TheVariants.{Taken, Group}
use Rattle.half_model.specs.Turn.{MadeGroup}

pub record OutboxState : Type 0 where
  pub frames : List Frame
  pub receipts : List FileReceipt
  pub noted : List Noted

abbrev pub no_outbox : OutboxState
no_outbox = record { frames = []; receipts = []; noted = [] }

-- a message was taken, if one was
abbrev pub with_taken : Option (List ℕ) → OutboxState → OutboxState
with_taken None box = box
with_taken (Some message) box = record box { noted = box.noted ++ Taken message ∷ [] }

abbrev pub with_group_made : MadeGroup → OutboxState → OutboxState
with_group_made made box = record {
  frames = box.frames ++ made.frames;
  receipts = box.receipts ++ made.receipts;
  noted = box.noted ++ Group made.frames made.copies ∷ [];
}

-- whether frames were made that nobody took yet
abbrev pub is_some_frame : List Frame → Bool
is_some_frame [] = false
is_some_frame (frame ∷ frames) = true

abbrev pub has_frames : OutboxState → Bool
has_frames box = is_some_frame box.frames
