-- What an item for a pipe comes to that is not refused: it is dropped, or makes a frame that the ring has a place for.
use Rattle.std.proofs.Common.{◌≡◌, ℕ, ◌<◌, ◌^◌, Bool, true, false, [], ◌∷◌, Option, Some, None, Result, Ok, Err, refl, sym, ap, subst, ◌∙◌, arith, inr}
use Rattle.std.specs.Prelude.{if◌then◌else◌, OnOk, IfErr}
use Rattle.wp_outside.specs.declared.pipe_items.PipeItem.{PipeItem}
use Rattle.transfer_frames.specs.declared.frame.Frame.{Frame}
use Rattle.transfer_frames.specs.Grammar.{IsFrame, spelling}
use Rattle.half_model.specs.declared.items.PeerIn.TheVariants.{Pipe}
use Rattle.half_model.specs.Group.{Owed}
use Rattle.half_model.specs.Log.{LogState, Lawful, Grouped, MayMake, MakesLone}
use Rattle.half_model.specs.PipeTurn as turns
use Rattle.half_model.specs.PipeTurn.{PipeTurn, pipe_turn, item_by_rid, named_turn, made_turn, with_pipes}
use Rattle.half_model.specs.StoryLaws.{now}
use Rattle.half_model.specs.Tables.{Tables}
use Rattle.half_model.specs.TurnLaws.{log_of, IsPiece}
use Rattle.half_model.proofs.PipeLaws.{pipe_turn_is_lawful}
use Rattle.pair_model.specs.RingState.{ring_made}
use Rattle.pipe_relay.specs.Pipes.{is_unknown, frame_of_item, after_item}
use Rattle.side_model.specs.declared.fault.ProxyFault.{ProxyFault}
use Rattle.side_model.specs.declared.fault.ProxyFault.TheVariants.{Memory}
use Rattle.side_model.specs.Calls.{barred, barred_pipe, Halted}
use Rattle.side_model.specs.Events.{Event, Fed}
use Rattle.side_model.specs.Shows.{wants_peer, is_open}
use Rattle.side_model.specs.Due.{is_free}
use Rattle.side_model.specs.State.{Now}
use Rattle.side_model.specs.Steps.{step, fed_pipe, with_live, with_kept, made, alone}
use Rattle.side_model.proofs.FollowsFed.{not_made}
use Rattle.side_model.proofs.Sounds.{Room, room_of, wants_free, kept_spelling}
use Rattle.proxy_core.specs.Doing.{Begins}
use Rattle.proxy_core.specs.Keeping.{AtRest}
use Rattle.proxy_core.specs.Making.{HasPlaces}

-- the item by its pipe's rid
abbrev pub named : Now → PipeItem → Option PipeItem
named s item = item_by_rid s.live.tables.handles s.live.taking.held item

-- ---- dropped, or made a frame of

-- what a named item comes to
abbrev turn_unless : Now → PipeItem → Bool → PipeTurn
turn_unless s it unknown =
    if unknown then turns.Barred else made_turn (with_pipes (after_item s.live.tables.pipes it) s.live.tables) (frame_of_item s.live.tables.pipes it)

turn_of : (s : Now) (item it : PipeItem) (unknown : Bool) → named s item ≡ Some it → is_unknown s.live.tables.pipes it ≡ unknown → pipe_turn s.live.tables s.live.taking item ≡ turn_unless s it unknown
turn_of s item it unknown e u = ap (named_turn s.live.tables) e ∙ ap (turn_unless s it) u

passes : (index : ℕ) (tables : Tables) (made : Option Frame) → barred_pipe index (made_turn tables made) ≡ None
passes index tables None = refl
passes index tables (Some frame) = refl

pub known_passes : (s : Now) (item it : PipeItem) → named s item ≡ Some it → is_unknown s.live.tables.pipes it ≡ false → barred (Fed (Pipe item)) s ≡ None
known_passes s item it e u =
    ap (barred_pipe s.live.sending.taken) (turn_of s item it false e u)
    ∙ passes s.live.sending.taken (with_pipes (after_item s.live.tables.pipes it) s.live.tables) (frame_of_item s.live.tables.pipes it)

-- the tables behind it
abbrev pub behind_item : PipeItem → Now → Now
behind_item it s = with_live (λ live. record live { tables = with_pipes (after_item live.tables.pipes it) live.tables }) s

-- it is dropped,
pub item_drops : (s : Now) (item it : PipeItem) → named s item ≡ Some it → is_unknown s.live.tables.pipes it ≡ false → None ≡ frame_of_item s.live.tables.pipes it → behind_item it s ≡ step (Fed (Pipe item)) s
unfolding step
item_drops s item it e u m =
    sym (ap (λ (t : PipeTurn). fed_pipe t s) (turn_of s item it false e u ∙ ap (made_turn (with_pipes (after_item s.live.tables.pipes it) s.live.tables)) (sym m)))

-- or makes a frame
turn_makes : (s : Now) (item it : PipeItem) (frame : Frame) → named s item ≡ Some it → is_unknown s.live.tables.pipes it ≡ false → Some frame ≡ frame_of_item s.live.tables.pipes it
    → pipe_turn s.live.tables s.live.taking item ≡ turns.Makes frame (with_pipes (after_item s.live.tables.pipes it) s.live.tables)
turn_makes s item it frame e u m = turn_of s item it false e u ∙ ap (made_turn (with_pipes (after_item s.live.tables.pipes it) s.live.tables)) (sym m)

pub item_makes : (s : Now) (item it : PipeItem) (frame : Frame) → named s item ≡ Some it → is_unknown s.live.tables.pipes it ≡ false → Some frame ≡ frame_of_item s.live.tables.pipes it
    → with_kept (made (alone frame)) (behind_item it s) ≡ step (Fed (Pipe item)) s
unfolding step
item_makes s item it frame e u m = sym (ap (λ (t : PipeTurn). fed_pipe t s) (turn_makes s item it frame e u m))

-- ---- what the frame needs

-- it is in the grammar, and the ring has a place for it
pub record MayMakeIt (s : Now) (frame : Frame) : Type 0 where
  pub is_frame : IsFrame frame
  pub places : HasPlaces s.kept.ring (spelling frame ∷ [])

made_is_frame : (s : Now) (item : PipeItem) (frame : Frame) (tables : Tables) → AtRest s → wants_peer s ≡ true → IsPiece item → pipe_turn s.live.tables s.live.taking item ≡ turns.Makes frame tables → IsFrame frame
made_is_frame s item frame tables r w piece e =
    let f = r.keeps.follows in
    let free : (is_open s.kept.closing ≡ true) × (is_free s.live.sending.owes s.kept.ring ≡ true) = wants_free s w in
    let room : Room s.live.sending.owes s.kept.ring = room_of s.live.sending.owes s.kept.ring free.1 in
    let at : LogState = log_of s.live.tables s.live.sending s.live.taking false in
    let before : now s.side f.story ≡ at = f.after ∙ ap (log_of s.live.tables s.live.sending s.live.taking) (not_made s.kept.closing free.0) in
    let lawful : Lawful at (Grouped (frame ∷ []) []) = (pipe_turn_is_lawful.makes s.side f.story s.live.tables s.live.sending s.live.taking item frame tables f.log before room.none piece e).0 in
    let lone : MakesLone at (frame ∷ []) [] = subst (λ (o : Option Owed). MayMake at o (frame ∷ []) []) room.none lawful in
    lone.1.is_frame

pub item_fits : (s : Now) (item it : PipeItem) (frame : Frame) → AtRest s → wants_peer s ≡ true → IsPiece item → ring_made s.kept.ring < 2 ^ 59
    → named s item ≡ Some it → is_unknown s.live.tables.pipes it ≡ false → Some frame ≡ frame_of_item s.live.tables.pipes it → MayMakeIt s frame
item_fits s item it frame r w piece few e u m =
    let free : (is_open s.kept.closing ≡ true) × (is_free s.live.sending.owes s.kept.ring ≡ true) = wants_free s w in
    let room : Room s.live.sending.owes s.kept.ring = room_of s.live.sending.owes s.kept.ring free.1 in
    let good : IsFrame frame = made_is_frame s item frame (with_pipes (after_item s.live.tables.pipes it) s.live.tables) r w piece (turn_makes s item it frame e u m) in
    record {
      is_frame = good;
      places = record { places = omega (arith, room.enough); counted = omega (arith, few); sizes = ((kept_spelling frame good).1, tt) };
    }

-- ---- the frame is made, or memory ran out

-- the same proxy, but for what is no longer spoken of when it fails
pub record SameKept (old mid : Now) : Type 0 where
  pub side : mid.side ≡ old.side
  pub token : mid.token ≡ old.token
  pub kept : mid.kept ≡ old.kept

pub begins_made : (result : Result (Unit {0}) ProxyFault) (event : Event) (frame : Frame) (old mid new : Now) → barred event old ≡ None → with_kept (made (alone frame)) mid ≡ step event old → SameKept old mid
    → OnOk result (new ≡ with_kept (made (alone frame)) mid) → IfErr result (λ fault. Halted Memory mid new) → IfErr result (λ fault. fault ≡ Memory) → Begins result event old new
begins_made (Ok done) event frame old mid new b is same ok err memory = (b, ok ∙ is)
begins_made (Err fault) event frame old mid new b is same ok err memory =
    let halted : Halted Memory old new = record { fault_is = err.fault_is; kept = err.kept ∙ same.kept; side = err.side ∙ same.side; token = err.token ∙ same.token } in
    record { because = inr (b, memory); halted = subst (λ (f : ProxyFault). Halted f old new) (sym memory) halted }
