-- Marks that no story has: what the rules of a story refuse. Messages are Wayland's, all else is
-- this project's own.
use Rattle.std.specs.Prelude.{◌≡◌, ℕ, true, List, [], ◌∷◌, Option, Some, None}
use Rattle.handle_table.specs.declared.handles.Handle.{Handle}
use Rattle.transfer_frames.specs.declared.cause.FrameCause.{FrameCause}
use Rattle.transfer_frames.specs.declared.frame.Frame.{Frame}
use Rattle.transfer_frames.specs.declared.frame.Frame.TheVariants.{Protocol}
use Rattle.half_model.specs.declared.notes.CopyRecord.{CopyRecord}
use Rattle.half_model.specs.Content.{content_fault}
use Rattle.half_model.specs.Group.{Owed}
use Rattle.half_model.specs.Log.{Mark, Taken, Heard, Grouped, LogState, Lawful}

-- the mark may not come next
abbrev pub Refused : LogState → Mark → Type 0
Refused s mark = Lawful s mark → ⊥

-- a message is taken while a group is owed, or behind CLOSE
pub record WrongTaking : Type 0 where
  pub owed :
      (s : LogState) (owed : Owed) (message : List ℕ) (handle : Option Handle) (segments : List ℕ)
      → s.owes ≡ Some owed
      → Refused s (Taken message handle segments)
  pub closed :
      (s : LogState) (message : List ℕ) (handle : Option Handle) (segments : List ℕ)
      → s.closed ≡ true
      → Refused s (Taken message handle segments)

-- a frame is heard that is refused for what it says
abbrev pub WrongHearing : Type 0
WrongHearing =
    (s : LogState) (frame : Frame) (cause : FrameCause)
    → content_fault s.tables s.taking frame ≡ Some cause
    → Refused s (Heard frame)

-- frames are made while none are owed: behind CLOSE, none or two at once, with copies, or a message
pub record WrongMaking : Type 0 where
  pub closed :
      (s : LogState) (frames : List Frame) (copies : List CopyRecord)
      → s.owes ≡ None
      → s.closed ≡ true
      → Refused s (Grouped frames copies)
  pub none :
      (s : LogState) (copies : List CopyRecord)
      → s.owes ≡ None
      → Refused s (Grouped [] copies)
  pub two :
      (s : LogState) (frame next : Frame) (frames : List Frame) (copies : List CopyRecord)
      → s.owes ≡ None
      → Refused s (Grouped (frame ∷ next ∷ frames) copies)
  pub copied :
      (s : LogState) (frames : List Frame) (copy : CopyRecord) (copies : List CopyRecord)
      → s.owes ≡ None
      → Refused s (Grouped frames (copy ∷ copies))
  pub message :
      (s : LogState) (bytes : List ℕ) (copies : List CopyRecord)
      → s.owes ≡ None
      → Refused s (Grouped (Protocol bytes ∷ []) copies)

-- the copies leave no choice of the frames of a group
abbrev pub OneGroup : Type 0
OneGroup =
    (s : LogState) (owed : Owed) (frames others : List Frame) (copies : List CopyRecord)
    → s.owes ≡ Some owed
    → Lawful s (Grouped frames copies)
    → Lawful s (Grouped others copies)
    → frames ≡ others
