-- What the half does next, and what it answers.
use Rattle.std.proofs.Common.{◌≡◌, ℕ, Bool, true, false, List, [], ◌∷◌, Option, Some, None, Result, Ok, Err, IsTrue, refl, sym, ap, ◌∙◌, subst, length, arith}
use Rattle.std.specs.Prelude.{◌↔◌}
use Rattle.std.specs.Option.{is_some}
use Rattle.std.proofs.lemmas.Bool.{false≢true}
use Rattle.handle_table.specs.Table.{Table}
use Rattle.pipe_relay.specs.Pipes.{PipesState}
use Rattle.transfer_frames.specs.declared.frame.Frame.{Frame}
use Rattle.wl_wire.specs.Framing.{Stands}
use Rattle.wl_wire.specs.Wire.{first}
use Rattle.wl_wire.specs.declared.faults.WireFault.{WireFault}
use Rattle.wl_objects.specs.Registry.{ObjectsState}
use Rattle.half_model.specs.declared.causes.HalfFault.{HalfFault}
use Rattle.half_model.specs.Group.{Owed}
use Rattle.half_model.specs.Tables.{Tables}
use Rattle.half_model.specs.Turn.{stands_in, Turn, Idle, turn, turn_front, turn_unless}
use Rattle.owed_groups.specs.Outbox.{is_some_frame}
use Rattle.send_half.specs.SendState.{SendState, tables_of, next_turn, turn_while, noted_taken}
use Rattle.send_half.specs.Treating.{TreatsFront, TreatsAfter}
use Rattle.send_half.proofs.GoesLemmas.{refused_from, grouped_keeps_fault, grouped_keeps_side}

-- ---- what stands at the front

pub stands_is : (b : Bool) (answer : Result (Option (List ℕ)) WireFault) → (IsTrue b ↔ Stands answer) → b ≡ stands_in answer
stands_is true (Ok (Some message)) it = refl
stands_is true (Ok None) it = absurd (it.0 refl)
stands_is true (Err fault) it = refl
stands_is false (Ok (Some message)) it = absurd (false≢true (it.1 tt))
stands_is false (Ok None) it = refl
stands_is false (Err fault) it = absurd (false≢true (it.1 tt))

-- ---- the turn

pub next_is : (tables : Tables) (s : SendState) → s.sending.owes ≡ None → s.frames ≡ [] → turn_front tables s.sending (first s.sending.inlet.bytes) ≡ next_turn tables s
unfolding turn
next_is tables s owes frames =
    ap (λ (o : Option Owed). turn_unless o (turn_front tables s.sending (first s.sending.inlet.bytes))) (sym owes)
    ∙ ap (λ (all : List Frame). turn_while all (turn_unless s.sending.owes (turn_front tables s.sending (first s.sending.inlet.bytes)))) (sym frames)

pub idle_owes : (tables : Tables) (s : SendState) (owed : Owed) → s.sending.owes ≡ Some owed → next_turn tables s ≡ Idle
unfolding turn
idle_owes tables s owed owes = by s.frames
  where
    by : (all : List Frame) → turn_while all (turn_unless s.sending.owes (turn_front tables s.sending (first s.sending.inlet.bytes))) ≡ Idle
    by [] = ap (λ (o : Option Owed). turn_unless o (turn_front tables s.sending (first s.sending.inlet.bytes))) owes
    by (frame ∷ frames) = refl

pub idle_frames : (tables : Tables) (s : SendState) → is_some_frame s.frames ≡ true → next_turn tables s ≡ Idle
idle_frames tables s some = by s.frames some
  where
    by : (all : List Frame) → is_some_frame all ≡ true → turn_while all (turn tables s.sending) ≡ Idle
    by [] e = absurd (false≢true e)
    by (frame ∷ frames) e = refl

-- ---- answers

pub front_next : (result : Result Bool HalfFault) (next next' : Turn) (o : ObjectsState) (h : Table) (p : PipesState) (after : Tables) (old new : SendState) → next ≡ next'
    → TreatsFront result next (tables_of o h p) after old new → TreatsFront result next' (tables_of o h p) after old new
front_next (Ok true) next next' o h p after old new e t = record { it = t.it; takes = sym e ∙ t.takes; half = t.half; shared = t.shared }
front_next (Ok false) next next' o h p after old new e t = record { idle = sym e ∙ t.idle; half = t.half; shared = t.shared }
front_next (Err fault) next next' o h p after old new e t = (refused_from fault next next' o o h p after e t.0, t.1)

pub treats_ok : (taken : Bool) (next : Turn) (tables after : Tables) (fault : Option HalfFault) (old new : SendState) → fault ≡ None
    → TreatsFront (Ok taken) next tables after old new → TreatsAfter fault (Ok taken) next tables after old new
treats_ok true next tables after fault old new none t = subst (λ f. TreatsAfter f (Ok true) next tables after old new) (sym none) t
treats_ok false next tables after fault old new none t = subst (λ f. TreatsAfter f (Ok false) next tables after old new) (sym none) t

pub treats_err : (fault : HalfFault) (next : Turn) (tables after : Tables) (was : Option HalfFault) (old mid : SendState) → was ≡ None
    → TreatsFront (Err fault) next tables after old mid → TreatsAfter was (Err fault) next tables after old (record mid { fault = Some fault })
treats_err fault next tables after was old mid none t =
    subst (λ f. TreatsAfter f (Err fault) next tables after old (record mid { fault = Some fault })) (sym none)
    (t.0, record { failed = refl; side = t.1.side; jobs = t.1.jobs; frames = t.1.frames; receipts = t.1.receipts; noted = t.1.noted })

pub runs_on : (taken : Bool) (next : Turn) (tables after : Tables) (old new : SendState) → old.fault ≡ None
    → TreatsFront (Ok taken) next tables after old new → new.fault ≡ None
runs_on true next tables after old new none t = ap (λ (s : SendState). s.fault) t.half ∙ grouped_keeps_fault (noted_taken t.it old) ∙ none
runs_on false next tables after old new none t = ap (λ (s : SendState). s.fault) t.half ∙ none

pub keeps_side : (result : Result Bool HalfFault) (next : Turn) (tables after : Tables) (old new : SendState)
    → TreatsFront result next tables after old new → new.side ≡ old.side
keeps_side (Ok true) next tables after old new t = ap (λ (s : SendState). s.side) t.half ∙ grouped_keeps_side (noted_taken t.it old)
keeps_side (Ok false) next tables after old new t = ap (λ (s : SendState). s.side) t.half
keeps_side (Err fault) next tables after old new t = t.1.side

pub owes_none : (o : Option Owed) → is_some o ≡ false → o ≡ None
owes_none None e = refl
owes_none (Some owed) e = absurd (false≢true (sym e))

pub no_frames : (frames : List Frame) → is_some_frame frames ≡ false → frames ≡ []
no_frames [] e = refl
no_frames (frame ∷ frames) e = absurd (false≢true (sym e))
