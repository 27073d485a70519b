-- A pipe item's turn is what the rules of a story allow.
use Rattle.std.proofs.Common.{◌≡◌, ℕ, ◌≤◌, Bool, true, false, ◌||◌, not, cond, List, [], ◌∷◌, length, ℤ, Option, Some, None, option_map, refl, sym, ap, ◌∙◌, subst}
use Rattle.std.proofs.lemmas.Bool.{and_from, or_parts, not-false, not_from_false}
use Rattle.wp_outside.specs.declared.kinds.Side.{Side}
use Rattle.handle_table.specs.Table.{rid_of_number}
use Rattle.transfer_frames.specs.declared.frame.Frame.{Frame}
use Rattle.transfer_frames.specs.declared.frame.Frame.TheVariants.{PipeTransfer, PipeShutR, PipeShutW}
use Rattle.transfer_frames.specs.Numbers.{IsRid}
use Rattle.wp_outside.specs.declared.pipe_items.PipeItem.{PipeItem}
use Rattle.wp_outside.specs.declared.pipe_items.PipeItem.TheVariants as items
use Rattle.half_model.specs.Content.{Taking}
use Rattle.half_model.specs.Group.{Owed}
use Rattle.half_model.specs.Log.{Grouped, LogState, IsLone, MayMake, Lawful, after_group, log_next}
use Rattle.pipe_relay.specs.Pipes.{Rids, PipesState, has_rid, is_unknown, frame_of_item, after_item}
use Rattle.half_model.specs.PipeTurn.{PipeTurn, Barred, Drops, Makes, item_by_rid, with_pipes, made_turn, named_turn, pipe_turn, may_write}
use Rattle.half_model.specs.StoryLaws.{now}
use Rattle.half_model.specs.Tables.{Tables}
use Rattle.half_model.specs.Turn.{Sending}
use Rattle.half_model.specs.TurnLaws.{log_of, IsPiece, IsDropped, PipeTurnIsLawful}
use Rattle.half_model.proofs.Frames.{pipe_transfer_frame, pipe_shut_r_frame, pipe_shut_w_frame}
use Rattle.half_model.proofs.Owing.{given_rid}
use Rattle.half_model.proofs.Sound.{Sound, sound_now}

-- ---- the tests that led to a turn

record Named (tables : Tables) (found : Option PipeItem) (frame : Option Frame) (next : Tables) : Type 0 where
  item : PipeItem
  is : found ≡ Some item
  known : is_unknown tables.pipes item ≡ false
  made : frame_of_item tables.pipes item ≡ frame
  leaves : with_pipes (after_item tables.pipes item) tables ≡ next

makes_frame : (tables next : Tables) (made : Option Frame) (frame : Frame) → made_turn tables made ≡ Makes frame next → (made ≡ Some frame) × (tables ≡ next)
makes_frame tables next None frame e = absurd cc
makes_frame tables next (Some other) frame e = (cc, cc)

drops_frame : (tables next : Tables) (made : Option Frame) → made_turn tables made ≡ Drops next → (made ≡ None) × (tables ≡ next)
drops_frame tables next None e = (refl, cc)
drops_frame tables next (Some other) e = absurd cc

unless_barred : (b : Bool) (turn other : PipeTurn) → cond b Barred turn ≡ other → (other ≡ Barred → ⊥) → (b ≡ false) × (turn ≡ other)
unless_barred true turn other e apart = absurd (apart (sym e))
unless_barred false turn other e apart = (refl, e)

named_makes : (tables next : Tables) (found : Option PipeItem) (frame : Frame) → named_turn tables found ≡ Makes frame next → Named tables found (Some frame) next
named_makes tables next None frame e = absurd cc
named_makes tables next (Some item) frame e =
    let first = unless_barred (is_unknown tables.pipes item) _ (Makes frame next) e (λ f. absurd cc) in
    let made = makes_frame (with_pipes (after_item tables.pipes item) tables) next (frame_of_item tables.pipes item) frame first.1 in
    record { item = item; is = refl; known = first.0; made = made.0; leaves = made.1 }

named_drops : (tables next : Tables) (found : Option PipeItem) → named_turn tables found ≡ Drops next → Named tables found None next
named_drops tables next None e = absurd cc
named_drops tables next (Some item) e =
    let first = unless_barred (is_unknown tables.pipes item) _ (Drops next) e (λ f. absurd cc) in
    let made = drops_frame (with_pipes (after_item tables.pipes item) tables) next (frame_of_item tables.pipes item) first.1 in
    record { item = item; is = refl; known = first.0; made = made.0; leaves = made.1 }

held_item : (held : Rids) (rid : ℤ) (b : Bool) (item other : PipeItem) → cond b (Some item) None ≡ Some other → (b ≡ true) × (item ≡ other)
held_item held rid true item other e = (refl, cc)
held_item held rid false item other e = absurd cc

named_shut : (found : Option ℤ) (other : PipeItem) → option_map (λ rid. items.Shut rid) found ≡ Some other → (rid : ℤ) × (items.Shut rid ≡ other)
named_shut None other e = absurd cc
named_shut (Some rid) other e = (rid, cc)

shut_test : (b : Bool) (frame other : Frame) → cond b None (Some frame) ≡ Some other → (b ≡ false) × (frame ≡ other)
shut_test true frame other e = absurd cc
shut_test false frame other e = (refl, cc)

shut_none : (b : Bool) (frame : Frame) → cond b None (Some frame) ≡ (let o : Option Frame = None in o) → b ≡ true
shut_none true frame e = refl
shut_none false frame e = absurd cc

-- ---- a frame that is made

-- a frame that may be made alone, and what it leaves
record Alone (tables : Tables) (s : Sending) (taking : Taking) (frame : Frame) (next : Tables) : Type 0 where
  lone : IsLone (log_of tables s taking false) frame
  leaves : after_group (log_of tables s taking false) None (frame ∷ []) ≡ log_of next s taking false

alone_lawful : (tables : Tables) (s : Sending) (taking : Taking) (frame : Frame) (next : Tables) → s.owes ≡ None → Alone tables s taking frame next
    → Lawful (log_of tables s taking false) (Grouped (frame ∷ []) [])
    × (log_next (log_of tables s taking false) (Grouped (frame ∷ []) []) ≡ log_of next s taking false)
alone_lawful tables s taking frame next none h =
    let P : Option Owed → Type 0 = λ o. MayMake (log_of tables s taking false) o (frame ∷ []) [] in (
      subst P (sym none) (refl, h.lone),
      ap (λ (o : Option Owed). after_group (log_of tables s taking false) o (frame ∷ [])) none ∙ h.leaves,
    )

-- the peer holds the write end, which is open
writes : (held : Rids) (rid : ℤ) (pipes : PipesState) → has_rid rid held ≡ true → (not (has_rid rid pipes.other) || has_rid rid pipes.closed) ≡ false
    → (has_rid rid pipes.other ≡ true) × (may_write pipes held rid ≡ true)
writes held rid pipes holds known =
    let both = or_parts (not (has_rid rid pipes.other)) (has_rid rid pipes.closed) known in
    let there = not-false (has_rid rid pipes.other) both.0 in
    (there, and_from (has_rid rid held) _ holds (and_from (has_rid rid pipes.other) _ there (not_from_false (has_rid rid pipes.closed) both.1)))

record IsRidSafe (tables : Tables) : Type 0 where
  own : (rid : ℤ) → has_rid rid tables.pipes.own ≡ true → IsRid rid
  other : (rid : ℤ) → has_rid rid tables.pipes.other ≡ true → IsRid rid

transfer_made : (tables : Tables) (s : Sending) (taking : Taking) (rid : ℤ) (bytes : List ℕ) (frame : Frame) (next : Tables)
    → IsRidSafe tables → (1 ≤ length bytes) × (length bytes ≤ 65536) → has_rid rid taking.held ≡ true
    → is_unknown tables.pipes (items.Bytes rid bytes) ≡ false → frame_of_item tables.pipes (items.Bytes rid bytes) ≡ Some frame
    → with_pipes (after_item tables.pipes (items.Bytes rid bytes)) tables ≡ next → Alone tables s taking frame next
transfer_made tables s taking rid bytes frame next safe piece holds known made leaves =
    let w = writes taking.held rid tables.pipes holds known in
    let shut = shut_test (has_rid rid tables.pipes.shut) (PipeTransfer rid bytes) frame made in
    let P : Frame → Type 0 = λ f. Alone tables s taking f next in
    subst P shut.1 (record {
      lone = record {
        goes_on = refl;
        is_frame = pipe_transfer_frame rid bytes (safe.other rid w.0) piece.0 piece.1;
        may = and_from (may_write tables.pipes taking.held rid) _ w.1 (not_from_false (has_rid rid tables.pipes.shut) shut.0);
      };
      leaves = ap (λ (t : Tables). log_of t s taking false) leaves;
    })

end_made : (tables : Tables) (s : Sending) (taking : Taking) (rid : ℤ) (frame : Frame) (next : Tables)
    → IsRidSafe tables → has_rid rid taking.held ≡ true
    → is_unknown tables.pipes (items.End rid) ≡ false → frame_of_item tables.pipes (items.End rid) ≡ Some frame
    → with_pipes (after_item tables.pipes (items.End rid)) tables ≡ next → Alone tables s taking frame next
end_made tables s taking rid frame next safe holds known made leaves =
    let w = writes taking.held rid tables.pipes holds known in
    let shut = shut_test (has_rid rid tables.pipes.shut) (PipeShutW rid) frame made in
    let P : Frame → Type 0 = λ f. Alone tables s taking f next in
    subst P shut.1 (record {
      lone = record {
        goes_on = refl;
        is_frame = pipe_shut_w_frame rid (safe.other rid w.0);
        may = and_from (may_write tables.pipes taking.held rid) _ w.1 (not_from_false (has_rid rid tables.pipes.shut) shut.0);
      };
      leaves = ap (λ (t : Tables). log_of t s taking false) leaves;
    })

shut_made : (tables : Tables) (s : Sending) (taking : Taking) (rid : ℤ) (frame : Frame) (next : Tables)
    → IsRidSafe tables
    → is_unknown tables.pipes (items.Shut rid) ≡ false → frame_of_item tables.pipes (items.Shut rid) ≡ Some frame
    → with_pipes (after_item tables.pipes (items.Shut rid)) tables ≡ next → Alone tables s taking frame next
shut_made tables s taking rid frame next safe known made leaves =
    let both = or_parts (not (has_rid rid tables.pipes.own)) (has_rid rid tables.pipes.left) known in
    let there = not-false (has_rid rid tables.pipes.own) both.0 in
    let P : Frame → Type 0 = λ f. Alone tables s taking f next in
    let is : PipeShutR rid ≡ frame = cc in
    subst P is (record {
      lone = record {
        goes_on = refl;
        is_frame = pipe_shut_r_frame rid (safe.own rid there);
        may = and_from (has_rid rid tables.pipes.own) _ there (not_from_false (has_rid rid tables.pipes.left) both.1);
      };
      leaves = ap (λ (t : Tables). log_of t s taking false) leaves;
    })

-- what is named is this item
same_named : (tables : Tables) (found : Option PipeItem) (frame : Option Frame) (next : Tables) (item : PipeItem)
    → (n : Named tables found frame next) → item ≡ n.item
    → (is_unknown tables.pipes item ≡ false) × (frame_of_item tables.pipes item ≡ frame) × (with_pipes (after_item tables.pipes item) tables ≡ next)
same_named tables found frame next item n e =
    let P : PipeItem → Type 0 = λ i. (is_unknown tables.pipes i ≡ false) × (frame_of_item tables.pipes i ≡ frame) × (with_pipes (after_item tables.pipes i) tables ≡ next) in
    subst P (sym e) (n.known, n.made, n.leaves)

made_alone : (tables : Tables) (s : Sending) (taking : Taking) (item : PipeItem) (frame : Frame) (next : Tables)
    → IsRidSafe tables → IsPiece item → pipe_turn tables taking item ≡ Makes frame next → Alone tables s taking frame next
made_alone tables s taking (items.Bytes rid bytes) frame next safe piece e =
    let n = named_makes tables next (item_by_rid tables.handles taking.held (items.Bytes rid bytes)) frame e in
    let held = held_item taking.held rid (has_rid rid taking.held) (items.Bytes rid bytes) n.item n.is in
    let same = same_named tables _ (Some frame) next (items.Bytes rid bytes) n held.1 in
    transfer_made tables s taking rid bytes frame next safe piece held.0 same.0 same.1 same.2
made_alone tables s taking (items.End rid) frame next safe piece e =
    let n = named_makes tables next (item_by_rid tables.handles taking.held (items.End rid)) frame e in
    let held = held_item taking.held rid (has_rid rid taking.held) (items.End rid) n.item n.is in
    let same = same_named tables _ (Some frame) next (items.End rid) n held.1 in
    end_made tables s taking rid frame next safe held.0 same.0 same.1 same.2
made_alone tables s taking (items.Shut number) frame next safe piece e =
    let n = named_makes tables next (item_by_rid tables.handles taking.held (items.Shut number)) frame e in
    let shut = named_shut (rid_of_number tables.handles number) n.item n.is in
    let same = same_named tables _ (Some frame) next (items.Shut shut.0) n shut.1 in
    shut_made tables s taking shut.0 frame next safe same.0 same.1 same.2

-- ---- an item that is dropped

dropped : (tables : Tables) (s : Sending) (taking : Taking) (item : PipeItem) (next : Tables) (closed : Bool)
    → pipe_turn tables taking item ≡ Drops next → IsDropped (log_of tables s taking closed) item (log_of next s taking closed)
dropped tables s taking (items.Bytes rid bytes) next closed e =
    let n = named_drops tables next (item_by_rid tables.handles taking.held (items.Bytes rid bytes)) e in
    let held = held_item taking.held rid (has_rid rid taking.held) (items.Bytes rid bytes) n.item n.is in
    let same = same_named tables _ None next (items.Bytes rid bytes) n held.1 in
    ap (λ (t : Tables). log_of t s taking closed) (sym same.2)
dropped tables s taking (items.End rid) next closed e =
    let n = named_drops tables next (item_by_rid tables.handles taking.held (items.End rid)) e in
    let held = held_item taking.held rid (has_rid rid taking.held) (items.End rid) n.item n.is in
    let same = same_named tables _ None next (items.End rid) n held.1 in
    let w = writes taking.held rid tables.pipes held.0 same.0 in (
      and_from (may_write tables.pipes taking.held rid) _ w.1 (shut_none (has_rid rid tables.pipes.shut) (PipeShutW rid) same.1),
      ap (λ (t : Tables). log_of t s taking closed) same.2,
    )
dropped tables s taking (items.Shut number) next closed e =
    let n = named_drops tables next (item_by_rid tables.handles taking.held (items.Shut number)) e in
    let shut = named_shut (rid_of_number tables.handles number) n.item n.is in
    let same = same_named tables _ None next (items.Shut shut.0) n shut.1 in
    absurd (let f : Some (PipeShutR shut.0) ≡ None = same.1 in cc)

-- ---- the law

safe_now : (side : Side) (s : LogState) → Sound side s → IsRidSafe s.tables
safe_now side s h = record {
  own = λ rid e. given_rid side s.tables.handles.passed rid h.tables.1.few (h.tables.1.own_given rid e);
  other = h.tables.1.other_is;
}

pub pipe_turn_is_lawful : PipeTurnIsLawful
pipe_turn_is_lawful = record {
  makes = λ side story tables s taking item frame next logs at none piece e.
      let P : LogState → Type 0 = λ t. IsRidSafe t.tables in
      let safe : IsRidSafe tables = subst P at (safe_now side (now side story) (sound_now side story logs)) in
      alone_lawful tables s taking frame next none (made_alone tables s taking item frame next safe piece e);
  drops = dropped;
}
