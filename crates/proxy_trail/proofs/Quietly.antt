-- Once all frames that came are heard, the counts of frames stay; and where a note is too heavy they are.
use Rattle.std.proofs.Common.{◌≡◌, ℕ, ◌+◌, ◌<◌, ◌≤◌, List, [], ◌∷◌, Option, Some, None, refl, sym, ap, subst, ◌∙◌, arith, inl, inr, ◌⊎◌}
use Rattle.transfer_frames.specs.declared.frame.Frame.{Frame}
use Rattle.half_model.specs.declared.items.PeerIn.TheVariants as inputs
use Rattle.half_model.specs.PipeTurn as pipes
use Rattle.half_model.specs.PipeTurn.{PipeTurn, pipe_turn}
use Rattle.half_model.specs.Turn as turns
use Rattle.half_model.specs.Turn.{Turn, turn, MadeGroup, group_due}
use Rattle.pair_model.specs.Steps.{Here}
use Rattle.side_model.specs.Books.{MOST_WEIGHT, mark_cost}
use Rattle.side_model.specs.Calls.{Part}
use Rattle.side_model.specs.Due.{hear, next}
use Rattle.side_model.specs.Events.{Event, Fed, Handed, Up, Came, Asks, Heard, Took, Grouped, Ended, Chose, Do, Rest}
use Rattle.side_model.specs.Marks.{mark_of}
use Rattle.side_model.specs.RowLaws.{IsWork}
use Rattle.side_model.specs.State.{Now, Closing, Open, Asked, Made}
use Rattle.side_model.specs.Steps.{step, fed_pipe, took, grouped, ended}
use Rattle.side_model.proofs.Dues.{hears_none, is_quiet, IsQuiet}
use Rattle.side_model.proofs.Quiets.{quiet_worked, quiet_chose}
use Rattle.side_model.proofs.RowProofs.{Working, Works, Chooses, working}
use Rattle.proxy_trail.proofs.NoteRows as rows
use Rattle.proxy_trail.proofs.NoteRows.{Inner, inner}

-- ---- the counts

pub record SameCounts (s t : Now) : Type 0 where
  pub accepted : t.kept.accepted ≡ s.kept.accepted
  pub acknowledged : t.kept.ring.acknowledged ≡ s.kept.ring.acknowledged

then_counts : {s t u : Now} → SameCounts s t → SameCounts t u → SameCounts s u
then_counts {s} {t} {u} h k = record { accepted = k.accepted ∙ h.accepted; acknowledged = k.acknowledged ∙ h.acknowledged }

counts_took : (it : Turn) (s : Now) → SameCounts s (took it s)
counts_took turns.Idle s = record { accepted = refl; acknowledged = refl }
counts_took (turns.Refuses fault) s = record { accepted = refl; acknowledged = refl }
counts_took (turns.Takes it) s = record { accepted = refl; acknowledged = refl }

counts_grouped : (found : Option MadeGroup) (s : Now) → SameCounts s (grouped found s)
counts_grouped None s = record { accepted = refl; acknowledged = refl }
counts_grouped (Some made) s = record { accepted = refl; acknowledged = refl }

counts_ended : (closing : Closing) (s : Now) → SameCounts s (ended closing s)
counts_ended Open s = record { accepted = refl; acknowledged = refl }
counts_ended (Asked reason) s = record { accepted = refl; acknowledged = refl }
counts_ended Made s = record { accepted = refl; acknowledged = refl }

counts_worked : (event : Event) (s : Now) → IsWork event → SameCounts s (step event s)
unfolding step
counts_worked event s (inl e) = subst (λ (v : Event). SameCounts s (step v s)) (sym e) (counts_took (turn s.live.tables s.live.sending) s)
counts_worked event s (inr (inl e)) = subst (λ (v : Event). SameCounts s (step v s)) (sym e) (counts_grouped (group_due s.live.sending.owes s.kept.jobs) s)
counts_worked event s (inr (inr e)) = subst (λ (v : Event). SameCounts s (step v s)) (sym e) (counts_ended s.kept.closing s)

counts_chose : (s : Now) → SameCounts s (step Chose s)
unfolding step
counts_chose s = record { accepted = refl; acknowledged = refl }

record QuietStep (event : Event) (s : Now) : Type 0 where
  quiet : hear (step event s) ≡ Rest
  counts : SameCounts s (step event s)

quiet_step : (event : Event) (s : Now) → hear s ≡ Rest → next s ≡ Do event → QuietStep event s
quiet_step event s q due = by_inner (working s event q due)
  where
    by_inner : Working s event → QuietStep event s
    by_inner (Works w) = record { quiet = hears_none (step event s) (quiet_worked event s w (is_quiet s q)); counts = counts_worked event s w }
    by_inner (Chooses is a b c) =
        subst (λ (v : Event). QuietStep v s) (sym is) (record { quiet = hears_none (step Chose s) (quiet_chose s (is_quiet s q)); counts = counts_chose s })

pub counts_quiet : (s t : Now) (events : List Event) → hear s ≡ Rest → Part s events t → SameCounts s t
counts_quiet s t [] q p = subst (λ (u : Now). SameCounts s u) (sym p) (record { accepted = refl; acknowledged = refl })
counts_quiet s t (x ∷ xs) q p =
    let one : QuietStep x s = quiet_step x s q p.0 in
    then_counts one.counts (counts_quiet (step x s) t xs one.quiet p.1)

-- ---- a note that is too heavy

-- a frame that is heard weighs nothing
heard_light : (frame : Frame) (event : Event) (s : Now) (total : ℕ) → event ≡ Heard frame → total ≤ MOST_WEIGHT → MOST_WEIGHT < total + mark_cost (mark_of event s) → ⊥
heard_light frame event s total e l h =
    let nothing : mark_cost (mark_of event s) ≡ 0 = ap (λ (v : Event). mark_cost (mark_of v s)) e in
    omega (arith, nothing, l, h)

pub heavy_quiet : (event : Event) (s : Now) (total : ℕ) → next s ≡ Do event → total ≤ MOST_WEIGHT → MOST_WEIGHT < total + mark_cost (mark_of event s) → hear s ≡ Rest
heavy_quiet event s total due l h = by_inner (inner s event due)
  where
    by_inner : Inner s event → hear s ≡ Rest
    by_inner (rows.Hears frame is) = absurd (heard_light frame event s total is l h)
    by_inner (rows.Works q w) = q
    by_inner (rows.Chooses q is) = q

-- ---- the event from outside

-- one that brings an item, a copy, a connection or bytes, or asks to close
abbrev pub IsBrought : Event → Type 0
IsBrought (Fed item) = Unit {0}
IsBrought (Handed done) = Unit {0}
IsBrought (Up connection) = Unit {0}
IsBrought (Came piece) = Unit {0}
IsBrought (Asks reason) = Unit {0}
IsBrought event = ⊥

fed_here : (it : PipeTurn) (s : Now) → (fed_pipe it s).live.here ≡ s.live.here
fed_here pipes.Barred s = refl
fed_here (pipes.Drops tables) s = refl
fed_here (pipes.Makes frame tables) s = refl

fed_counts : (it : PipeTurn) (s : Now) → SameCounts s (fed_pipe it s)
fed_counts pipes.Barred s = record { accepted = refl; acknowledged = refl }
fed_counts (pipes.Drops tables) s = record { accepted = refl; acknowledged = refl }
fed_counts (pipes.Makes frame tables) s = record { accepted = refl; acknowledged = refl }

pub brought_counts : (event : Event) (s : Now) → IsBrought event → SameCounts s (step event s)
unfolding step
brought_counts (Fed (inputs.Bytes bytes)) s b = record { accepted = refl; acknowledged = refl }
brought_counts (Fed (inputs.Handle handle)) s b = record { accepted = refl; acknowledged = refl }
brought_counts (Fed (inputs.Note note)) s b = record { accepted = refl; acknowledged = refl }
brought_counts (Fed (inputs.Pipe item)) s b = fed_counts (pipe_turn s.live.tables s.live.taking item) s
brought_counts (Handed done) s b = record { accepted = refl; acknowledged = refl }
brought_counts (Up connection) s b = record { accepted = refl; acknowledged = refl }
brought_counts (Came piece) s b = record { accepted = refl; acknowledged = refl }
brought_counts (Asks reason) s b = record { accepted = refl; acknowledged = refl }
brought_counts event s b = absurd b

-- where it makes something that is too heavy, it brings no frame
pub brought_quiet : (event : Event) (s : Now) (total : ℕ) → IsBrought event → hear s ≡ Rest → total ≤ MOST_WEIGHT → MOST_WEIGHT < total + mark_cost (mark_of event s) → hear (step event s) ≡ Rest
unfolding step
brought_quiet (Fed (inputs.Bytes bytes)) s total b q l h = absurd (omega arith)
brought_quiet (Fed (inputs.Handle handle)) s total b q l h = absurd (omega arith)
brought_quiet (Fed (inputs.Note note)) s total b q l h = absurd (omega arith)
brought_quiet (Fed (inputs.Pipe item)) s total b q l h =
    hears_none (fed_pipe (pipe_turn s.live.tables s.live.taking item) s) (subst (λ (here : Option Here). IsQuiet here) (sym (fed_here (pipe_turn s.live.tables s.live.taking item) s)) (is_quiet s q))
brought_quiet (Handed done) s total b q l h = absurd (omega arith)
brought_quiet (Up connection) s total b q l h = absurd (omega arith)
brought_quiet (Came piece) s total b q l h = absurd (omega arith)
brought_quiet (Asks reason) s total b q l h = absurd (omega arith)
brought_quiet event s total b q l h = absurd b
