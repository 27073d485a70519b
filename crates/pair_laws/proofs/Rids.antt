-- The rids that are sent are the numbers of the handles in the order of first passing.
use Rattle.std.proofs.Common.{◌≡◌, ℕ, Bool, true, false, cond, List, [], ◌∷◌, ◌++◌, ℤ, Option, Some, None, map, option_map, option_to_list, unwrap_or, length, Result, Ok, Err, refl, sym, ap, ◌∙◌, subst}
use Rattle.std.proofs.Math.Dec.{ltb}
use Rattle.std.proofs.lemmas.List.Elements.{filter_map-append}
use Rattle.std.specs.List.{cons_option, filter_map}
use Rattle.std.specs.Option.{MatchOption}
use Rattle.std.specs.Prelude.{position}
use Rattle.wp_outside.specs.declared.kinds.Side.{Side}
use Rattle.handle_table.specs.Table.{Table, is_handle, rid_at, seat_found, most_handles, passed_found}
use Rattle.handle_table.specs.declared.handles.Handle.{Handle}
use Rattle.transfer_frames.specs.declared.cause.FrameCause.{FrameCause}
use Rattle.transfer_frames.specs.declared.frame.Frame.{Frame}
use Rattle.transfer_frames.specs.declared.frame.Frame.TheVariants.{Protocol, Inject, Close}
use Rattle.half_model.specs.Content.{Taking, Passage, passage_of, heard, heard_messages}
use Rattle.half_model.specs.Group.{Owed, owed_by}
use Rattle.half_model.specs.Log.{Mark, Taken, Heard, Grouped, Dropped, LogState, log_new, MayTake, after_lone, after_group, log_next, Logs}
use Rattle.half_model.specs.Planning.{Plan, Refusal, pipe_opened, sized_by, injected, tell_in}
use Rattle.half_model.specs.Shm.{Passing, Tell, passing_at}
use Rattle.half_model.specs.Story.{Sent, rid_of_passing, rid_sent, sent_by_plan, sent_by, sent_from}
use Rattle.half_model.specs.Tables.{Tables}
use Rattle.half_model.proofs.Known.{Known, OwedBare, known_next, known_new}
use Rattle.half_model.proofs.Plans.{HasRid}
use Rattle.half_model.proofs.Sound.{Sound, IsPassed, passed, after_taken, sound_next, sound_new}
use Rattle.pair_laws.specs.Rids.{handles_in, rids_behind, RidsInOrder}

abbrev rids_among : List Sent → List ℤ
rids_among sent = filter_map (λ it. it.1) sent

-- ---- a message that is taken

-- the rid of a handle is that of its place, or of the next one
seat_rid : (handles : Table) (handle : Handle) (place : Option ℕ) (it : Passing) → option_map (passing_at handle) (seat_found handles place) ≡ Some it
    → it.rid ≡ rid_at handles.side (unwrap_or place (length handles.passed))
seat_rid handles handle (Some place) it e = let same : passing_at handle (record { place = place; rid = rid_at handles.side place; is_new = false }) ≡ it = cc in ap (λ (p : Passing). p.rid) (sym same)
seat_rid handles handle None it e = by (ltb (length handles.passed) most_handles) e
  where
    by : (b : Bool) → option_map (passing_at handle) (cond b (Some (record { place = length handles.passed; rid = rid_at handles.side (length handles.passed); is_new = true })) None) ≡ Some it
        → it.rid ≡ rid_at handles.side (length handles.passed)
    by true k = let same : passing_at handle (record { place = length handles.passed; rid = rid_at handles.side (length handles.passed); is_new = true }) ≡ it = cc in ap (λ (p : Passing). p.rid) (sym same)
    by false k = absurd cc

none_among : (shown : Option (List ℕ)) → rids_among (map (λ message. (message, None)) (option_to_list shown)) ≡ []
none_among None = refl
none_among (Some message) = refl

some_among : (shown : Option (List ℕ)) (rid : ℤ) → (shown ≡ None → ⊥) → rids_among (map (λ message. (message, Some rid)) (option_to_list shown)) ≡ rid ∷ []
some_among None rid h = absurd (h refl)
some_among (Some message) rid h = refl

not_empty : (xs ys : List Frame) (frame : Frame) → xs ++ (ys ++ frame ∷ []) ≡ [] → ⊥
not_empty [] [] frame e = cc
not_empty [] (y ∷ ys) frame e = cc
not_empty (x ∷ xs) ys frame e = cc

-- the rids that a message adds, and the handles passed then
record AddsRid (side : Side) (s : LogState) (message : List ℕ) (handle : Option Handle) (segments : List ℕ) : Type 0 where
  rids : (later : List Handle) → rids_among (sent_by s (Taken message handle segments)) ++ rids_behind side (log_next s (Taken message handle segments)).tables.handles.passed later
      ≡ rids_behind side s.tables.handles.passed (cons_option handle later)

module _ (side : Side) (s : LogState) (message : List ℕ) (segments : List ℕ) where
  next_passed : (handle : Option Handle) (p : IsPassed s message handle segments) → (log_next s (Taken message handle segments)).tables.handles.passed ≡ p.it.tables.handles.passed
  next_passed handle p = ap (λ (t : LogState). t.tables.handles.passed) (after_taken s message handle segments p)

  adds_none : MayTake s message None segments → AddsRid side s message None segments
  adds_none may =
      let p = passed s message None segments may in
      let sent : rids_among (sent_by s (Taken message None segments)) ≡ [] = ap (λ (r : Result Plan Refusal). rids_among (sent_by_plan s None r)) p.is ∙ none_among p.it.shown in
      let same : (log_next s (Taken message None segments)).tables.handles.passed ≡ s.tables.handles.passed = next_passed None p ∙ ap (λ (it : Plan). it.tables.handles.passed) (sym p.is_planned.is) in
      record {
        rids = λ later.
            ap (λ (rs : List ℤ). rs ++ rids_behind side (log_next s (Taken message None segments)).tables.handles.passed later) sent
            ∙ ap (λ (hs : List Handle). rids_behind side hs later) same;
      }

  adds_some : (handle : Handle) → s.tables.handles.side ≡ side → Known (log_next s (Taken message (Some handle) segments)) → MayTake s message (Some handle) segments → AddsRid side s message (Some handle) segments
  adds_some handle is known may =
      let p = passed s message (Some handle) segments may in
      by p p.is_planned.passing refl p.is_planned.has_rid
    where
      by : (p : IsPassed s message (Some handle) segments) (passing : Option Passing) → p.is_planned.passing ≡ passing → HasRid s.tables.handles (Some handle) passing → AddsRid side s message (Some handle) segments
      by p None e has = absurd has
      by p (Some it) e has =
          let place : Option ℕ = position (is_handle handle) s.tables.handles.passed in
          let tell : Option Tell = tell_in s.tables s.shm message p.done p.is_planned.passing in
          let before : p.it.before ≡ pipe_opened p.is_planned.passing ++ (sized_by tell s.shm.told ++ injected p.is_planned.passing) = ap (λ (plan : Plan). plan.before) (sym p.is_planned.is) in
          let injects : injected p.is_planned.passing ≡ Inject (it.rid ∷ []) ∷ [] = ap injected e in
          let owes : (log_next s (Taken message (Some handle) segments)).owes ≡ Some (owed_by p.it segments) = ap (λ (t : LogState). t.owes) (after_taken s message (Some handle) segments p) in
          let bare : OwedBare (owed_by p.it segments) = subst (λ (o : Option Owed). MatchOption o (Unit {0}) OwedBare) owes known.bare in
          let shown : p.it.shown ≡ None → ⊥ = λ none.
          not_empty (pipe_opened p.is_planned.passing) (sized_by tell s.shm.told) (Inject (it.rid ∷ []))
          (ap (λ (fs : List Frame). pipe_opened p.is_planned.passing ++ (sized_by tell s.shm.told ++ fs)) (sym injects) ∙ sym before ∙ bare.before none) in
          let rid : rid_sent s (Some handle) ≡ Some it.rid = ap rid_of_passing has in
          let sent : rids_among (sent_by s (Taken message (Some handle) segments)) ≡ it.rid ∷ [] =
          ap (λ (r : Result Plan Refusal). rids_among (sent_by_plan s (Some handle) r)) p.is
          ∙ ap (λ (o : Option ℤ). rids_among (map (λ (m : List ℕ). (m, o)) (option_to_list p.it.shown))) rid
          ∙ some_among p.it.shown it.rid shown in
          let number : it.rid ≡ rid_at side (unwrap_or place (length s.tables.handles.passed)) =
          seat_rid s.tables.handles handle place it has ∙ ap (λ (sd : Side). rid_at sd (unwrap_or place (length s.tables.handles.passed))) is in
          let after : (log_next s (Taken message (Some handle) segments)).tables.handles.passed ≡ passed_found s.tables.handles.passed handle place =
          next_passed (Some handle) p ∙ ap (λ (plan : Plan). plan.tables.handles.passed) (sym p.is_planned.is) in
          record {
            rids = λ later.
                ap (λ (rs : List ℤ). rs ++ rids_behind side (log_next s (Taken message (Some handle) segments)).tables.handles.passed later) sent
                ∙ ap (λ (hs : List Handle). it.rid ∷ rids_behind side hs later) after
                ∙ ap (λ (r : ℤ). r ∷ rids_behind side (passed_found s.tables.handles.passed handle place) later) number;
          }

adds : (side : Side) (s : LogState) (message : List ℕ) (handle : Option Handle) (segments : List ℕ) → s.tables.handles.side ≡ side → Known (log_next s (Taken message handle segments)) → MayTake s message handle segments
    → AddsRid side s message handle segments
adds side s message None segments is known may = adds_none side s message segments may
adds side s message (Some handle) segments is known may = adds_some side s message segments handle is known may

-- ---- the other marks

heard_passed : (tables : Tables) (taking : Taking) (frame : Frame) → (heard tables taking frame).tables.handles.passed ≡ tables.handles.passed
heard_passed tables taking (Protocol bytes) = by (passage_of tables taking bytes)
  where
    by : (told : Result Passage FrameCause) → (heard_messages tables taking told).tables.handles.passed ≡ tables.handles.passed
    by (Ok now) = refl
    by (Err cause) = refl
heard_passed tables taking _ = refl

lone_passed : (s : LogState) (frame : Frame) → (after_lone s frame).tables.handles.passed ≡ s.tables.handles.passed
lone_passed s (Close reason) = refl
lone_passed s _ = refl

group_passed : (s : LogState) (owes : Option Owed) (frames : List Frame) → (after_group s owes frames).tables.handles.passed ≡ s.tables.handles.passed
group_passed s (Some owed) frames = refl
group_passed s None [] = refl
group_passed s None (frame ∷ []) = lone_passed s frame
group_passed s None (frame ∷ next ∷ frames) = refl

-- ---- a story

rids_from : (side : Side) (s : LogState) (story : List Mark) → Sound side s → Known s → Logs s story → rids_among (sent_from s story) ≡ rids_behind side s.tables.handles.passed (handles_in story)
rids_from side s [] sound known logs = refl
rids_from side s (Taken message handle segments ∷ story) sound known logs =
    let mark : Mark = Taken message handle segments in
    let next : LogState = log_next s mark in
    let knows : Known next = known_next side s mark sound known logs.0 in
    filter_map-append (λ (it : Sent). it.1) (sent_by s mark) (sent_from next story)
    ∙ ap (λ (rs : List ℤ). rids_among (sent_by s mark) ++ rs) (rids_from side next story (sound_next side s mark sound logs.0) knows logs.1)
    ∙ (adds side s message handle segments sound.tables.0 knows logs.0).rids (handles_in story)
rids_from side s (Heard frame ∷ story) sound known logs =
    rids_from side (log_next s (Heard frame)) story (sound_next side s (Heard frame) sound logs.0) (known_next side s (Heard frame) sound known logs.0) logs.1
    ∙ ap (λ (hs : List Handle). rids_behind side hs (handles_in story)) (heard_passed s.tables s.taking frame)
rids_from side s (Grouped frames copies ∷ story) sound known logs =
    rids_from side (log_next s (Grouped frames copies)) story (sound_next side s (Grouped frames copies) sound logs.0) (known_next side s (Grouped frames copies) sound known logs.0) logs.1
    ∙ ap (λ (hs : List Handle). rids_behind side hs (handles_in story)) (group_passed s s.owes frames)
rids_from side s (Dropped rid ∷ story) sound known logs =
    rids_from side (log_next s (Dropped rid)) story (sound_next side s (Dropped rid) sound logs.0) (known_next side s (Dropped rid) sound known logs.0) logs.1

pub rids_in_order : RidsInOrder
rids_in_order side story logs = rids_from side (log_new side) story (sound_new side) (known_new side) logs
