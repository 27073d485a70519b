-- A row of events is one row, in one order, and a call does one thing.
use Rattle.std.proofs.Common.{◌≡◌, ◌≢◌, List, [], ◌∷◌, ◌++◌, Option, Some, None, Result, Ok, Err, refl, sym, ap, subst, ◌∙◌, inl, inr, ◌⊎◌}
use Rattle.std.specs.List.{AllByRecursion}
use Rattle.side_model.specs.declared.fault.ProxyFault.{ProxyFault}
use Rattle.side_model.specs.declared.fault.ProxyFault.TheVariants.{Memory}
use Rattle.side_model.specs.Calls.{Part, Row, Stops, Runs, CallsBarred, CallsAfter, barred}
use Rattle.side_model.specs.Due.{hear, group, treat, end, next}
use Rattle.side_model.specs.Events.{Event, Chose, Next, Do, Halt, Rest}
use Rattle.side_model.specs.RowLaws.{IsEnd, OneRow, HadMemory, SameCall, OneCall, IsHeard, IsWork, AtMostChose, InOrder, RowInOrder}
use Rattle.side_model.specs.Sound.{Sound, GroupFits}
use Rattle.side_model.specs.State.{Now}
use Rattle.side_model.specs.Steps.{step}
use Rattle.side_model.proofs.Dues.{DueIn, InHear, InGroup, InTreat, InEnd, InChoose, due_in, frame_due, group_is_due, turn_due, end_is_due, choice_due, is_quiet, hears_none}
use Rattle.side_model.proofs.Quiets.{quiet_worked, chose_rests}
use Rattle.side_model.proofs.SoundsInside.{sound_inside}

-- ---- one row

-- at an end no event is due
no_end : {due : Next} {event : Event} (at : Next) → at ≡ due → at ≡ Do event → IsEnd due → ⊥
no_end {due} {event} at e d end = subst (λ (n : Next). IsEnd n) (sym e ∙ d) end

one_event : (at : Next) (one other : Event) → at ≡ Do one → at ≡ Do other → one ≡ other
one_event at one other e d = let same : Do one ≡ Do other = sym e ∙ d in cc

pub one_row : OneRow
one_row s t u [] [] due other r q e f = (refl, r.0 ∙ sym q.0, sym r.1 ∙ ap next (r.0 ∙ sym q.0) ∙ q.1)
one_row s t u [] (x ∷ xs) due other r q e f = absurd (no_end (next s) (ap next (sym r.0) ∙ r.1) q.0.0 e)
one_row s t u (x ∷ xs) [] due other r q e f = absurd (no_end (next s) (ap next (sym q.0) ∙ q.1) r.0.0 f)
one_row s t u (x ∷ xs) (y ∷ ys) due other r q e f =
    let same : x ≡ y = one_event (next s) x y r.0.0 q.0.0 in
    let rest : Row (step x s) ys u other = subst (λ (v : Event). Row (step v s) ys u other) (sym same) (q.0.1, q.1) in
    let again : (xs ≡ ys) × (t ≡ u) × (due ≡ other) = one_row (step x s) t u xs ys due other (r.0.1, r.1) rest e f in
    (cc (again.0), again.1, again.2)

-- ---- one call

-- a row that ends, by its answer
ended_by : (fault : ProxyFault) (due : Next) → (due ≡ Halt fault) ⊎ (fault ≡ Memory) → fault ≢ Memory → due ≡ Halt fault
ended_by fault due (inl e) m = e
ended_by fault due (inr e) m = absurd (m e)

stops_row : {begun new : Now} {fault : ProxyFault} {events : List Event} (h : Stops begun fault events new) → fault ≢ Memory → Row begun events h.last (Halt fault)
stops_row {begun} {new} {fault} {events} h m = (h.part, ended_by fault (next h.last) h.due m)

run_stops : (event : Event) (fault : ProxyFault) (events : List Event) (old new : Now) → Runs event (Err fault) events old new → fault ≢ Memory → Stops (step event old) fault events new
run_stops event fault events old new (inl h) m = h
run_stops event fault events old new (inr h) m = absurd (m h.memory)

-- the last state of a row keeps the fault that it began with
-- (no event changes it), so at rest it is none
one_run : (event : Event) (answer other : Result Unit ProxyFault) (events others : List Event) (old new last : Now)
    → Runs event answer events old new → Runs event other others old last → HadMemory answer → HadMemory other → SameCall answer other events others new last
one_run event (Ok done) (Ok other) events others old new last r q m n =
    let same : (events ≡ others) × (new ≡ last) × (Rest ≡ Rest) = one_row (step event old) new last events others Rest Rest r q tt tt in
    record { answers = refl; events_are = same.0; kept = ap (λ (s : Now). s.kept) same.1; fault = ap (λ (s : Now). s.fault) same.1 }
one_run event (Ok done) (Err fault) events others old new last r q m n =
    let stops : Stops (step event old) fault others last = run_stops event fault others old last q n in
    let same : (events ≡ others) × (new ≡ stops.last) × (Rest ≡ Halt fault) = one_row (step event old) new stops.last events others Rest (Halt fault) r (stops_row stops n) tt tt in
    absurd (let never : Rest ≡ Halt fault = same.2 in cc)
one_run event (Err fault) (Ok done) events others old new last r q m n =
    let stops : Stops (step event old) fault events new = run_stops event fault events old new r m in
    let same : (events ≡ others) × (stops.last ≡ last) × (Halt fault ≡ Rest) = one_row (step event old) stops.last last events others (Halt fault) Rest (stops_row stops m) q tt tt in
    absurd (let never : Halt fault ≡ Rest = same.2 in cc)
one_run event (Err fault) (Err other) events others old new last r q m n =
    let one : Stops (step event old) fault events new = run_stops event fault events old new r m in
    let two : Stops (step event old) other others last = run_stops event other others old last q n in
    let same : (events ≡ others) × (one.last ≡ two.last) × (Halt fault ≡ Halt other) = one_row (step event old) one.last two.last events others (Halt fault) (Halt other) (stops_row one m) (stops_row two n) tt tt in
    let faults : fault ≡ other = let f : Halt fault ≡ Halt other = same.2 in cc in
    record {
      answers = cc (faults);
      events_are = same.0;
      kept = one.halted.kept ∙ ap (λ (s : Now). s.kept) same.1 ∙ sym two.halted.kept;
      fault = one.halted.fault_is ∙ ap (λ (f : ProxyFault). Some f) faults ∙ sym two.halted.fault_is;
    }

one_barred : (bar : Option ProxyFault) (event : Event) (answer other : Result Unit ProxyFault) (events others : List Event) (old new last : Now)
    → CallsBarred bar event answer events old new → CallsBarred bar event other others old last → HadMemory answer → HadMemory other → SameCall answer other events others new last
one_barred None event answer other events others old new last r q m n = one_run event answer other events others old new last r q m n
one_barred (Some fault) event answer other events others old new last r q m n = record {
  answers = r.answers ∙ sym q.answers;
  events_are = r.none ∙ sym q.none;
  kept = r.halted.kept ∙ sym q.halted.kept;
  fault = r.halted.fault_is ∙ sym q.halted.fault_is;
}

pub one_call : OneCall
one_call event answer other events others old new last f r q m n = by_fault old.fault f r q
  where
    by_fault : (fault : Option ProxyFault) → fault ≡ None → CallsAfter fault event answer events old new → CallsAfter fault event other others old last → SameCall answer other events others new last
    by_fault None e a b = one_barred (barred event old) event answer other events others old new last a b m n
    by_fault (Some fault) e a b = absurd cc

-- ---- its order

-- what stays behind an event of the work
pub data Working (s : Now) (event : Event) : Type 0 where
  Works : IsWork event → Working s event
  Chooses : event ≡ Chose → group s ≡ Rest → treat s ≡ Rest → end s ≡ Rest → Working s event

pub working : (s : Now) (event : Event) → hear s ≡ Rest → next s ≡ Do event → Working s event
working s event q due = by_phase (due_in s event due)
  where
    by_phase : DueIn s event → Working s event
    by_phase (InHear d) = absurd (let never : Rest ≡ Do event = sym q ∙ d in cc)
    by_phase (InGroup a d) = Works (inr (inl (group_is_due s event d).is))
    by_phase (InTreat a b d) = Works (inl (turn_due s event d).is)
    by_phase (InEnd a b c d) = Works (inr (inr (end_is_due s event d).is))
    by_phase (InChoose a b c e d) = Chooses (choice_due s event d).is b c e

pub none_after : (s t : Now) (events : List Event) → next s ≡ Rest → Part s events t → events ≡ []
none_after s t [] r p = refl
none_after s t (x ∷ xs) r p = absurd (let never : Rest ≡ Do x = sym r ∙ p.0 in cc)

-- behind the frames that are heard
record WorkOrder (events : List Event) : Type 0 where
  works : List Event
  chose : List Event
  events_are : events ≡ works ++ chose
  are_work : AllByRecursion IsWork works
  chooses : AtMostChose chose

work_in_order : (s t : Now) (events : List Event) → Sound s → ((u : Now) (before : List Event) → Part s before u → GroupFits u) → hear s ≡ Rest → Part s events t → WorkOrder events
work_in_order s t [] h fits q p = record { works = []; chose = []; events_are = refl; are_work = tt; chooses = inl refl }
work_in_order s t (x ∷ xs) h fits q p = by_event (working s x q p.0) (λ quiet. work_in_order (step x s) t xs (sound_inside x s h (fits s [] refl) p.0) (λ u before k. fits u (x ∷ before) (p.0, k)) quiet p.1)
  where
    by_event : Working s x → (hear (step x s) ≡ Rest → WorkOrder xs) → WorkOrder (x ∷ xs)
    by_event (Works w) again =
        let quiet : hear (step x s) ≡ Rest = hears_none (step x s) (quiet_worked x s w (is_quiet s q)) in
        let o : WorkOrder xs = again quiet in
        record { works = x ∷ o.works; chose = o.chose; events_are = ap (λ (es : List Event). x ∷ es) o.events_are; are_work = (w, o.are_work); chooses = o.chooses }
    by_event (Chooses e a b c) again =
        let rest : next (step x s) ≡ Rest = subst (λ (v : Event). next (step v s) ≡ Rest) (sym e) (chose_rests s h q a b c (is_quiet s q)) in
        let none : xs ≡ [] = none_after (step x s) t xs rest p.1 in
        record { works = []; chose = x ∷ xs; events_are = refl; are_work = tt; chooses = inr (cc (e, none)) }

-- a frame is heard, or none is due
heard_or_none : (s : Now) (event : Event) → DueIn s event → IsHeard event ⊎ (hear s ≡ Rest)
heard_or_none s event (InHear d) = inl ((frame_due s event d).frame, (frame_due s event d).is)
heard_or_none s event (InGroup a d) = inr a
heard_or_none s event (InTreat a b d) = inr a
heard_or_none s event (InEnd a b c d) = inr a
heard_or_none s event (InChoose a b c e d) = inr a

pub row_in_order : RowInOrder
row_in_order s t [] h fits p = record { heards = []; works = []; chose = []; events_are = refl; are_heard = tt; are_work = tt; chooses = inl refl }
row_in_order s t (x ∷ xs) h fits p = by_event (heard_or_none s x (due_in s x p.0)) (row_in_order (step x s) t xs (sound_inside x s h (fits s [] refl) p.0) (λ u before k. fits u (x ∷ before) (p.0, k)) p.1)
  where
    by_event : IsHeard x ⊎ (hear s ≡ Rest) → InOrder xs → InOrder (x ∷ xs)
    by_event (inl heard) o = record {
      heards = x ∷ o.heards;
      works = o.works;
      chose = o.chose;
      events_are = ap (λ (es : List Event). x ∷ es) o.events_are;
      are_heard = (heard, o.are_heard);
      are_work = o.are_work;
      chooses = o.chooses;
    }
    by_event (inr quiet) o =
        let w : WorkOrder (x ∷ xs) = work_in_order s t (x ∷ xs) h fits quiet p in
        record { heards = []; works = w.works; chose = w.chose; events_are = w.events_are; are_heard = tt; are_work = w.are_work; chooses = w.chooses }
