-- Each call of a proxy with its records leaves a copy out but the one that hands it back.
use Rattle.std.proofs.Common.{◌≡◌, List, [], Option, Some, None, Ok, refl, subst, ◌∙◌}
use Rattle.half_model.specs.Jobs.{Job}
use Rattle.side_model.specs.declared.fault.ProxyFault.{ProxyFault}
use Rattle.side_model.specs.Calls.{Part}
use Rattle.side_model.specs.Events.{Event, Handed, Went}
use Rattle.side_model.specs.State.{Now}
use Rattle.side_model.specs.Trails.{TrailState, with_notes, Done, TrailAfter, TrailCalls}
use Rattle.receipt_laws.specs.Lending.{CopiesAre}
use Rattle.receipt_laws.specs.OutLaws.{NoneOutAtFirst, CallsLeave, CallsSame, StepsLeave, LendsLeave, SendsLeave, CallsLend, CallsHand}
use Rattle.receipt_laws.proofs.Calls.{by_call, by_sending, by_lending}
use Rattle.receipt_laws.proofs.Outs.{events_leave, events_same, lent_goes_out, handed_is_in, parts_leave, parts_same}

notes_leave : (out : Option Job) (s : Now) → CopiesAre out s → CopiesAre out (with_notes [] s)
notes_leave out s h = record { fit = h.fit; owed = h.owed; one = h.one }

pub none_out_at_first : NoneOutAtFirst
none_out_at_first side token none = record { fit = tt; owed = λ e. refl; one = tt }

pub calls_leave : CallsLeave
calls_leave event result out old new l h calls none =
    by_call (λ (s : Now). CopiesAre out s) event result old new (λ e. events_leave event out old.now l (h e)) (parts_leave out) (notes_leave out) calls none

pub steps_leave : StepsLeave
steps_leave event out old l h none = events_leave event out old.now l (h none)

pub lends_leave : LendsLeave
lends_leave result out old new h d none = by_lending (λ (s : Now). CopiesAre out s) result old new h d none

pub sends_leave : SendsLeave
sends_leave n out old new was h d none = by_sending (λ (s : Now). CopiesAre out s) n old new (events_leave (Went n) out old.now tt (h was)) (parts_leave out) d

pub calls_lend : CallsLend
calls_lend = record {
  one = λ job old h e none. lent_goes_out.one job old.now (h none) e;
  none = λ old h e none. lent_goes_out.none old.now (h none) e;
}

pub calls_hand : CallsHand
calls_hand job done result old new h e calls none =
    by_call (λ (s : Now). CopiesAre None s) (Handed done) result old new (λ was. handed_is_in job done old.now (h was) e) (parts_leave None) (notes_leave None) calls none

-- ---- the jobs stay

record StaysOut (job : Job) (jobs : List Job) (s : Now) : Type 0 where
  out : CopiesAre (Some job) s
  same : s.kept.jobs ≡ jobs

row_stays : (job : Job) (jobs : List Job) (s t : Now) (events : List Event) → StaysOut job jobs s → Part s events t → StaysOut job jobs t
row_stays job jobs s t events h p = record { out = parts_leave (Some job) s t events h.out p; same = parts_same job s t events h.out p ∙ h.same }

goes_on : (event : Event) (old new : TrailState) → old.fault ≡ None → TrailCalls event (Ok tt) old new → new.fault ≡ None
goes_on event old new was calls = let d : Done event old new = subst (λ (fault : Option ProxyFault). TrailAfter fault event (Ok tt) old new) was calls in d.goes_on

pub calls_same : CallsSame
calls_same event job old new l was h calls =
    let stays : StaysOut job old.now.kept.jobs new.now =
    by_call (StaysOut job old.now.kept.jobs) event (Ok tt) old new
    (λ e. record { out = events_leave event (Some job) old.now l (h e); same = events_same event job old.now l (h e) })
    (row_stays job old.now.kept.jobs) (λ s k. record { out = notes_leave (Some job) s k.out; same = k.same })
    calls (goes_on event old new was calls)
    in stays.same
