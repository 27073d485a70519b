-- The frames that are noted are in the grammar.
use Rattle.std.proofs.Common.{◌≡◌, ℕ, List, [], ◌∷◌, ◌++◌, Option, Some, None, refl, sym, ap, subst, ◌∙◌}
use Rattle.std.specs.List.{AllByRecursion}
use Rattle.transfer_frames.specs.declared.frame.Frame.{Frame}
use Rattle.transfer_frames.specs.declared.frame.Frame.TheVariants.{Protocol, Inject, OpenFile, ExtendFile, Fill, OpenPipe, PipeTransfer, PipeShutR, PipeShutW, Ack, Restart, Close}
use Rattle.transfer_frames.specs.Grammar.{IsFrame}
use Rattle.half_model.specs.declared.notes.Noted.{Noted}
use Rattle.half_model.specs.Log as marks
use Rattle.half_model.specs.Log.{Mark}
use Rattle.half_model.specs.StoryLaws.{AreGood}
use Rattle.pair_model.proofs.Wholes.{all_right}
use Rattle.side_model.specs.Books.{Book, TrailRecord, marked_trail, grown}
use Rattle.side_model.specs.Calls.{Part}
use Rattle.side_model.specs.Events.{Event}
use Rattle.side_model.specs.Marks.{mark_of, notes_of}
use Rattle.side_model.specs.State.{Now}
use Rattle.side_model.specs.Steps.{step}
use Rattle.side_model.proofs.FollowsWork.{made_good}
use Rattle.side_model.proofs.Parts.{FollowsOn, follows_part}
use Rattle.side_model.proofs.Sounds.{all_append}
use Rattle.trail_records.specs.Noting.{IsNote}
use Rattle.proxy_trail.proofs.NoteRows.{notes_along}

good_frame : (frame : Frame) → AllByRecursion IsNote (notes_of (Some (marks.Heard frame)))
good_frame (Protocol bytes) = (tt, tt)
good_frame (Inject rids) = tt
good_frame (OpenFile rid size) = tt
good_frame (ExtendFile rid size) = tt
good_frame (Fill rid start end bytes) = tt
good_frame (OpenPipe rid) = tt
good_frame (PipeTransfer rid bytes) = tt
good_frame (PipeShutR rid) = tt
good_frame (PipeShutW rid) = tt
good_frame (Ack count) = tt
good_frame (Restart token connection received) = tt
good_frame (Close reason) = tt

good_mark : (mark : Option Mark) (trail : TrailRecord) → AllByRecursion IsFrame (marked_trail mark trail).made → AllByRecursion IsNote (notes_of mark)
good_mark None trail h = tt
good_mark (Some (marks.Taken message handle segments)) trail h = (tt, tt)
good_mark (Some (marks.Heard frame)) trail h = good_frame frame
good_mark (Some (marks.Grouped frames copies)) trail h = (all_right IsFrame trail.made frames h, tt)
good_mark (Some (marks.Dropped rid)) trail h = tt

-- of one event
pub good_event : (event : Event) (s : Now) (book : Book) → FollowsOn (step event s) (grown event s book) → AllByRecursion IsNote (notes_of (mark_of event s))
good_event event s book f =
    let good : AreGood (grown event s book).trail.made = made_good (step event s) (grown event s book) f.follows in
    good_mark (mark_of event s) book.trail good.are_frames

-- of those that were due
pub good_along : (s t : Now) (events : List Event) (book : Book) → FollowsOn s book → Part s events t → AllByRecursion IsNote (notes_along events s)
good_along s t [] book f p = tt
good_along s t (x ∷ xs) book f p =
    let after : FollowsOn (step x s) (grown x s book) = follows_part s (step x s) book (x ∷ []) f (p.0, refl) in
    all_append IsNote (notes_of (mark_of x s)) (notes_along xs (step x s)) (good_event x s book after) (good_along (step x s) t xs (grown x s book) after p.1)
