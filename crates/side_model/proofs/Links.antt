-- What was written and read follows the connection that is up, step by step.
use Rattle.std.proofs.Common.{◌≡◌, ℕ, ◌<◌, ◌≤◌, List, [], ◌∷◌, ◌++◌, Option, Some, None, length, sym, subst}
use Rattle.std.specs.List.{AllByRecursion}
use Rattle.std.specs.Prelude.{option_map}
use Rattle.transfer_frames.specs.declared.frame.Frame.{Frame}
use Rattle.transfer_frames.specs.declared.frame.Frame.TheVariants.{Restart, Ack}
use Rattle.transfer_frames.specs.Grammar.{role, IsFrame, spelling}
use Rattle.half_model.specs.Log.{Mark}
use Rattle.half_model.specs.Story.{accepted_in}
use Rattle.pair_model.specs.Lines.{SideRecord}
use Rattle.pair_model.specs.LinkFaults.{link_fault}
use Rattle.pair_model.specs.Rows.{counted, AllCounted}
use Rattle.pair_model.specs.Steps.{Here, judge_here, side_up, here_up, side_made, side_read, here_read, here_fed, here_sent, chosen, bytes_at}
use Rattle.pair_model.proofs.Heards.{heard_up, heard_sent, heard_fed, heard_read, heard_chosen, heard_made, heard_all}
use Rattle.pair_model.proofs.Seeing.{stands_wire}
use Rattle.pair_model.proofs.Standing.{up_stands, sent_stands, fed_stands, read_stands, chosen_stands, made_stands, made_wire}
use Rattle.side_model.specs.Books.{TrailRecord, rows_read, rows_written}
use Rattle.side_model.specs.Follows.{GoesOn, LinkFollows}
use Rattle.side_model.specs.Places.{placed, places_in, side_of}
use Rattle.side_model.specs.Shows.{front_here}
use Rattle.side_model.proofs.Dues.{IsQuiet}
use Rattle.side_model.proofs.Stories.{places_push}

-- ---- a story with one more mark

pub link_marked : (token : List ℕ) (trail : TrailRecord) (here : Option Here) (story : List Mark) (mark : Mark) (accepted : List Frame) → accepted_in (story ++ mark ∷ []) ≡ accepted
    → LinkFollows token (side_of trail (placed mark (places_in story)) None) accepted here → LinkFollows token (side_of trail (places_in (story ++ mark ∷ [])) None) (accepted_in (story ++ mark ∷ [])) here
link_marked token trail here story mark accepted e h =
    subst (λ (fs : List Frame). LinkFollows token (side_of trail (places_in (story ++ mark ∷ [])) None) fs here) (sym e)
    (subst (λ places. LinkFollows token (side_of trail places None) accepted here) (sym (places_push story mark)) h)

-- ---- steps

-- a connection comes up
pub link_up : (token : List ℕ) (side : SideRecord) (accepted : List Frame) (here : Option Here) (connection : ℕ) → here ≡ None → side.stop ≡ None → 0 < connection
    → AllByRecursion (λ line. line.connection < connection) side.lines → IsFrame (Restart token connection side.accepted)
    → LinkFollows token side accepted here → LinkFollows token (side_up connection side) accepted (Some (here_up token connection side.accepted))
link_up token side accepted None connection e s p n f h = record {
  stands = up_stands token side connection h.wire s p n f;
  heard = heard_up token side connection accepted h.wire s p n f h.accepts;
}
link_up token side accepted (Some here) connection e s p n f h = absurd cc

-- it goes down
pub link_down : (token : List ℕ) (side : SideRecord) (accepted : List Frame) (here : Option Here) → IsQuiet here → LinkFollows token side accepted here → LinkFollows token side accepted None
link_down token side accepted None q h = h
link_down token side accepted (Some here) q h = record {
  wire = stands_wire token side here (record { stands = h.stands; waits = q });
  accepts = heard_all token side here accepted (record { stands = h.stands; waits = q }) h.heard;
}

-- bytes come
pub link_came : (token : List ℕ) (side : SideRecord) (accepted : List Frame) (here : Option Here) (piece : List ℕ) → LinkFollows token side accepted here
    → LinkFollows token (record side { lines = rows_read piece here side.lines }) accepted (option_map (here_fed piece) here)
link_came token side accepted None piece h = h
link_came token side accepted (Some here) piece h = record { stands = fed_stands token side here piece h.stands; heard = heard_fed token side here piece accepted h.stands h.heard }

-- bytes go
pub link_went : (token : List ℕ) (side : SideRecord) (accepted : List Frame) (here : Option Here) (n : ℕ) → n ≤ length (front_here here) → LinkFollows token side accepted here
    → LinkFollows token (record side { lines = rows_written n here side.lines }) accepted (option_map (here_sent n) here)
link_went token side accepted None n l h = h
link_went token side accepted (Some here) n l h = record { stands = sent_stands token side here n h.stands l; heard = heard_sent token side here n accepted h.stands l h.heard }

-- frames are made
pub link_made : (token : List ℕ) (side : SideRecord) (accepted : List Frame) (here : Option Here) (more : List Frame) (counts : List ℕ) → length counts ≡ length more → AllByRecursion (λ count. count ≤ side.accepted) counts
    → LinkFollows token side accepted here → LinkFollows token (side_made more counts side) accepted here
link_made token side accepted None more counts l a h = record {
  wire = made_wire token side more counts h.wire l a;
  accepts = record { seen = h.accepts.seen; bound = h.accepts.bound; sees = record { reads = h.accepts.sees.reads; past = h.accepts.sees.past }; frames_are = h.accepts.frames_are };
}
link_made token side accepted (Some here) more counts l a h = record { stands = made_stands token side here more counts h.stands l a; heard = heard_made side here more counts accepted h.heard }

-- a frame is heard
pub link_heard : (token : List ℕ) (side : SideRecord) (accepted : List Frame) (here : Here) (frame : Frame) (more : List ℕ) → IsFrame frame → here.unread ≡ spelling frame ++ more
    → link_fault (judge_here token side here) here.answer (role frame) ≡ None → GoesOn token side accepted here → GoesOn token (side_read (role frame) side) (accepted ++ counted (frame ∷ [])) (here_read frame more here)
link_heard token side accepted here frame more f e none h = record {
  stands = read_stands token side here frame more h.stands f e none;
  heard = heard_read token side here frame more accepted h.stands f e none h.heard;
}

-- a front is chosen
pub link_chose : (token : List ℕ) (side : SideRecord) (accepted : List Frame) (here : Option Here) → AllByRecursion IsFrame side.made → AllCounted side.made → IsFrame (Ack side.accepted)
    → LinkFollows token side accepted here → LinkFollows token side accepted (option_map (λ h. chosen side.accepted (bytes_at side.made h.next) h) here)
link_chose token side accepted None f c a h = h
link_chose token side accepted (Some here) f c a h = record {
  stands = chosen_stands token side here h.stands f c a;
  heard = heard_chosen side here side.accepted (bytes_at side.made here.next) accepted h.heard;
}
