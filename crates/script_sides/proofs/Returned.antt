-- What it comes to that a copy is handed back, and that all that the proxy makes of it is given.
use Rattle.std.proofs.Common.{◌≡◌, ◌≢◌, ℕ, [], length, Option, None, Ok, Err, refl, sym, ap, subst, ◌∙◌, arith, inl, inr, ◌⊎◌}
use Rattle.copy_workers.specs.Copies.{DoneState}
use Rattle.owed_groups.specs.Lending.{done_of}
use Rattle.pair_runs.specs.Sides.{SideState, side_seen}
use Rattle.pair_runs.proofs.More.{gives_no_more}
use Rattle.receipt_laws.specs.Lending.{CopiesAre}
use Rattle.script_sides.specs.Answering.{Stays, Stops}
use Rattle.script_sides.specs.Giving.{Gives}
use Rattle.script_sides.specs.Halves.{HalfState, IsDoneOf}
use Rattle.script_sides.specs.Progressing.{LoadsPart, LoadsWhole, LoadStops, before, IsLast}
use Rattle.script_sides.specs.Ready.{IsSound, IsReady}
use Rattle.script_sides.specs.Sided.{SideRun, state_of, half_loaded}
use Rattle.script_sides.proofs.Backs.{HandsPart, HandsWhole, hands, handed_on, handed_sound, handed_stops}
use Rattle.script_sides.proofs.Kins.{Kin, call_kin, call_fell, handed_kin}
use Rattle.script_sides.proofs.Links.{with_trail}
use Rattle.script_sides.proofs.Sounds.{called, stopped}
use Rattle.side_model.specs.declared.fault.ProxyFault.{ProxyFault}
use Rattle.side_model.specs.Events.{Event, Handed}
use Rattle.side_model.specs.Steps.{step}
use Rattle.side_model.specs.Trails.{TrailState, Keeps, TrailCalls}
use Rattle.side_model.specs.Sound.{HasLoads}

-- ---- a call that fails

pub back_stops : (count : ℕ) (half : HalfState) (done : DoneState) (fault : ProxyFault) (it : SideRun) (new : TrailState) → IsLast count half it → IsDoneOf half done → HasLoads (done_of done) → TrailCalls (Handed (done_of done)) (Err fault) it.trail new
    → LoadStops fault (state_of (before count half it)) (state_of (with_trail new it))
back_stops count half done fault it new last d loads calls =
    subst (λ (out : Option HalfState). LoadStops fault (state_of (before count half it)) (side_seen (half_loaded out) new)) (sym last.none)
    (handed_stops count half done fault it new last d loads calls)

pub back_fell : (count : ℕ) (half : HalfState) (done : DoneState) (fault : ProxyFault) (it : SideRun) (new : TrailState) → IsLast count half it → Keeps new → TrailCalls (Handed (done_of done)) (Err fault) it.trail new
    → Stops it (with_trail new it) fault
back_fell count half done fault it new last k calls =
    let stops : Stops (before count half it) (with_trail new it) fault =
    stopped fault (before count half it) (with_trail new it) last.ready.sound k (call_fell (Handed (done_of done)) fault it.trail new last.ready.sound.runs calls) refl in
    record { told = stops.told; side = stops.side; failed = stops.failed }

-- ---- a good one

pub back_sound : (count : ℕ) (half : HalfState) (done : DoneState) (it : SideRun) (new : TrailState) → IsLast count half it → IsDoneOf half done → HasLoads (done_of done) → Keeps new → TrailCalls (Handed (done_of done)) (Ok tt) it.trail new
    → IsSound (with_trail new it)
back_sound count half done it new last d loads k calls =
    subst (λ (out : Option HalfState). IsSound (called new out it.asked it)) (sym last.none) (handed_sound count half done it new last d loads k calls)

-- behind it all that was made is given
pub back_stays : (count : ℕ) (half : HalfState) (done : DoneState) (it : SideRun) (new : TrailState) (end : SideRun) → IsLast count half it → TrailCalls (Handed (done_of done)) (Ok tt) it.trail new
    → Gives (with_trail new it) end → IsReady end → Stays it end
unfolding step
back_stays count half done it new end last calls gives ready =
    let event : Event = Handed (done_of done) in
    let kin : Kin it.trail.now new.now = call_kin event it.trail new last.ready.sound.runs (handed_kin event it.trail.now refl refl) calls in
    record { ready = ready; side = gives.side; up = gives.up ∙ kin.up }

pub back_hands : (count : ℕ) (half : HalfState) (done : DoneState) (it : SideRun) (new : TrailState) (end : SideRun) → IsLast count half it → IsDoneOf half done → HasLoads (done_of done) → Keeps new → TrailCalls (Handed (done_of done)) (Ok tt) it.trail new
    → Gives (with_trail new it) end
    → HandsPart count (state_of (before count half it)) (state_of end) ⊎ HandsWhole count (state_of (before count half it)) (state_of end)
back_hands count half done it new end last d loads k calls gives =
    let none : CopiesAre None new.now = handed_on count half done it new last d k calls in
    let items : new.now.live.items ≡ [] = gives_no_more.handed (done_of done) it.trail new last.ready.sound.runs calls ∙ last.ready.items in
    let same : state_of end ≡ side_seen 0 new = gives.silent items ∙ ap (λ (out : Option HalfState). side_seen (half_loaded out) new) last.none in
    subst (λ (b : SideState). HandsPart count (state_of (before count half it)) b ⊎ HandsWhole count (state_of (before count half it)) b) (sym same)
    (hands count half done it new last d loads none calls)

-- the records tell which of both it was
pub still_part : (count : ℕ) (a b : SideState) → HandsPart count a b ⊎ HandsWhole count a b → length b.book.trail.copies ≡ length a.book.trail.copies → LoadsPart count count a b
still_part count a b (inl h) e = h.part
still_part count a b (inr h) e = absurd (omega (arith, h.more, e))

pub now_whole : (count : ℕ) (a b : SideState) → HandsPart count a b ⊎ HandsWhole count a b → length b.book.trail.copies ≢ length a.book.trail.copies → LoadsWhole count count a b
now_whole count a b (inl h) n = absurd (n (ap length h.same))
now_whole count a b (inr h) n = h.whole
