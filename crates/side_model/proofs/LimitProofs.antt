-- A call that fits answers no limit of the records.
use Rattle.std.proofs.Common.{◌≡◌, ◌+◌, ◌<◌, ◌≤◌, List, [], ◌∷◌, ◌++◌, Option, Some, None, Ok, Err, refl, sym, ap, subst, ◌∙◌, arith, append_assoc, inl, inr, ◌⊎◌}
use Rattle.side_model.specs.declared.fault.ProxyFault.{ProxyFault}
use Rattle.side_model.specs.declared.fault.ProxyFault.TheVariants.{Memory}
use Rattle.side_model.specs.Books.{Book, MOST_WEIGHT, weight, mark_cost, cost, grown, grow_all, closed, Fit}
use Rattle.side_model.specs.Calls.{Part, Row, CallsBarred, CallsAfter, Calls, barred}
use Rattle.side_model.specs.Due.{next}
use Rattle.side_model.specs.Events.{Event, Do, Halt, Rest}
use Rattle.side_model.specs.Marks.{mark_of}
use Rattle.side_model.specs.State.{Now}
use Rattle.side_model.specs.Steps.{step}
use Rattle.side_model.specs.Trails.{Begun, StopsRecording, Fails, FailsSo, HeavyAtOnce, HeavyThen, Failed, FailedAtOnce, NoMemory, TrailAfter, step_all, LIMIT_TRAIL}
use Rattle.side_model.specs.WrongCalls.{LimitsEarly}
use Rattle.side_model.proofs.RowProofs.{one_row}
use Rattle.side_model.proofs.TrailParts.{same_weight, NotRun, ran}
use Rattle.side_model.proofs.WrongCallProofs.{at_rest, no_fault}

-- what a call that is done began with
record Goes (event : Event) (old : Now) : Type 0 where
  fault : old.fault ≡ None
  begins : barred event old ≡ None

goes : (event : Event) (events : List Event) (old new : Now) → Calls event (Ok tt) events old new → Goes event old
goes event events old new h = by_fault old.fault refl h
  where
    by_bar : old.fault ≡ None → (bar : Option ProxyFault) → barred event old ≡ bar → CallsBarred bar event (Ok tt) events old new → Goes event old
    by_bar f None e r = record { fault = f; begins = e }
    by_bar f (Some fault) e r = absurd (no_fault (Ok tt) fault refl r.answers)

    by_fault : (fault : Option ProxyFault) → old.fault ≡ fault → CallsAfter fault event (Ok tt) events old new → Goes event old
    by_fault None e r = by_bar e (barred event old) refl r
    by_fault (Some fault) e r = absurd (no_fault (Ok tt) fault refl r.answers)

-- events that are due begin the row up to rest
begins_row : (s t u : Now) (events row : List Event) → Part s events t → Row s row u Rest → (more : List Event) × (row ≡ events ++ more)
begins_row s t u [] row p r = (row, refl)
begins_row s t u (x ∷ events) [] p r = absurd (let never : Rest ≡ Do x = sym r.1 ∙ ap next r.0 ∙ p.0 in cc)
begins_row s t u (x ∷ events) (y ∷ row) p r =
    let due : Do x ≡ Do y = sym p.0 ∙ r.0.0 in
    let same : x ≡ y = cc in
    let rest : Row (step x s) row u Rest = subst (λ (v : Event). Row (step v s) row u Rest) (sym same) (r.0.1, r.1) in
    let more : (more : List Event) × (row ≡ events ++ more) = begins_row (step x s) t u events row p.1 rest in
    (more.0, ap (λ (es : List Event). y ∷ es) more.1 ∙ ap (λ (v : Event). v ∷ (events ++ more.0)) (sym same))

-- each event of a row that fits, fits behind those before it
fits_at : (before : List Event) (event : Event) (after : List Event) (s : Now) (book : Book) → Fit (before ++ event ∷ after) s book
    → weight (grow_all before s book).trail + cost event (step_all before s) ≤ MOST_WEIGHT
fits_at [] event after s book fit = fit.0
fits_at (x ∷ before) event after s book fit = fits_at before event after (step x s) (grown x s book) fit.1

pub limits_early : LimitsEarly
limits_early event events old last new none c fit h = by_fault old.fault none h
  where
    begun : Goes event old.now
    begun = goes event events old.now last c

    row : Row (step event old.now) events last Rest
    row = at_rest event events old.now last c

    -- an event that fits is not too heavy
    light : (recorded : List Event) (heavy : Event) (more : List Event) → event ∷ events ≡ recorded ++ heavy ∷ more
        → MOST_WEIGHT < weight (grow_all recorded old.now (closed old.book)).trail + mark_cost (mark_of heavy (step_all recorded old.now)) → ⊥
    light recorded heavy more e w =
        let there : weight (grow_all recorded old.now (closed old.book)).trail + cost heavy (step_all recorded old.now) ≤ MOST_WEIGHT =
        fits_at recorded heavy more old.now (closed old.book) (subst (λ (es : List Event). Fit es old.now (closed old.book)) e fit) in
        omega (arith, there, w)

    -- the events of the call that stopped recording begin those of the row
    whole : (d : StopsRecording event old new) → Begun event d.events old.now d.last ⊎ NotRun old.now d.events d.last → (more : List Event) × (events ≡ d.events ++ more)
    whole d (inl r) = begins_row (step event old.now) r.at last d.events events r.part row
    whole d (inr r) = (events, ap (λ (es : List Event). es ++ events) (sym r.none))

    stops : StopsRecording event old new → ⊥
    stops d =
        let more : (more : List Event) × (events ≡ d.events ++ more) = whole d (ran event d.answer d.events old.now d.last begun.fault d.calls) in
        let all : event ∷ events ≡ d.recorded ++ d.heavy_event ∷ (d.more ++ more.0) =
        ap (λ (es : List Event). event ∷ es) more.1 ∙ ap (λ (es : List Event). es ++ more.0) d.row ∙ append_assoc d.recorded (d.heavy_event ∷ d.more) more.0 in
        light d.recorded d.heavy_event (d.more ++ more.0) all
        (subst (λ (b : Book). MOST_WEIGHT < weight b.trail + mark_cost (mark_of d.heavy_event (step_all d.recorded old.now))) d.book d.heavy)

    by_due : (d : Fails event LIMIT_TRAIL old new) → (next d.stops.last ≡ Halt LIMIT_TRAIL) ⊎ (LIMIT_TRAIL ≡ Memory) → ⊥
    by_due d (inl e) =
        let same = one_row (step event old.now) last d.stops.last events d.events Rest (Halt LIMIT_TRAIL) row (d.stops.part, e) tt tt in
        let never : Rest ≡ Halt LIMIT_TRAIL = same.2 in
        cc
    by_due d (inr e) = cc

    by_bar : (barred event old.now ≡ Some LIMIT_TRAIL) ⊎ (LIMIT_TRAIL ≡ Memory) → ⊥
    by_bar (inl e) = let never : None ≡ Some LIMIT_TRAIL = sym begun.begins ∙ e in cc
    by_bar (inr e) = cc

    by_so : FailsSo event LIMIT_TRAIL old new → ⊥
    by_so (HeavyAtOnce e d) = omega (arith, fit.0, same_weight 0 old.book, d.heavy)
    by_so (HeavyThen e d) = stops d
    by_so (Failed d) = by_due d d.stops.due
    by_so (FailedAtOnce d) = by_bar d.because
    by_so (NoMemory d) = let never : LIMIT_TRAIL ≡ Memory = d.memory in cc

    by_fault : (fault : Option ProxyFault) → fault ≡ None → TrailAfter fault event (Err LIMIT_TRAIL) old new → ⊥
    by_fault None e d = by_so d.so
    by_fault (Some fault) e d = cc
