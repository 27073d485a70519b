-- What is shown of messages that pass, in parts and one by one.
--
-- Each of the three walks goes over the messages in front. The walk's step is a fact about the answer of `step`, for any
-- answer, so that it splits by whether the message passes and by its way alone. Where it doesn't pass, the premise that the
-- messages in front pass is false.
use Rattle.std.proofs.Common.{◌≡◌, ℕ, List, [], ◌∷◌, ◌++◌, Result, Ok, Err, option_to_list, refl, sym, ap, ◌∙◌, append_assoc, append-nil, rules}
use Rattle.wl_wire.specs.declared.faults.ObjectFault.{ObjectFault}
use Rattle.wl_tables.specs.declared.way.Way.{Way}
use Rattle.wl_tables.specs.declared.way.Way.TheVariants.{Request, Event}
use Rattle.wl_objects.specs.Entries.{Tracked}
use Rattle.wl_objects.specs.Tracking.{then_goes, Admission, step, track}
use Rattle.wl_objects.specs.Registry.{ObjectsState, view, visible, shown_then, after_then, state_after}
use Rattle.wl_objects.specs.ObjectLaws.{StateIsTracked, StateGoesOn, VisibleGoesOn, EventIsViewed, RequestIsNotShown}

-- one message: the objects of the state after it

tracked_step : (told : Result Admission ObjectFault) (way : Way) (state : ObjectsState) (message : List ℕ) (objects : Tracked) (rest : List (Way × List ℕ))
    → ((next : ObjectsState) → track next.tracked rest ≡ Ok objects → (state_after next rest).tracked ≡ objects)
    → then_goes told (λ done. track done.objects rest) ≡ Ok objects
    → (after_then told way state message (λ next. state_after next rest)).tracked ≡ objects
tracked_step (Ok done) Request state message objects rest next passed = next _ passed
tracked_step (Ok done) Event state message objects rest next passed = next _ passed
tracked_step (Err fault) way state message objects rest next passed = search rules

is_tracked : (front : List (Way × List ℕ)) (state : ObjectsState) (objects : Tracked) → track state.tracked front ≡ Ok objects → (state_after state front).tracked ≡ objects
is_tracked [] state objects passed = search rules
is_tracked (it ∷ rest) state objects passed = tracked_step (step it.0 state.tracked it.1) it.0 state it.1 objects rest (λ next. is_tracked rest next objects) passed

pub state_is_tracked : StateIsTracked
state_is_tracked state objects front passed = is_tracked front state objects passed

-- one message: the state after what follows it

after_step : (told : Result Admission ObjectFault) (way : Way) (state : ObjectsState) (message : List ℕ) (objects : Tracked) (rest back : List (Way × List ℕ))
    → ((next : ObjectsState) → track next.tracked rest ≡ Ok objects → state_after next (rest ++ back) ≡ state_after (state_after next rest) back)
    → then_goes told (λ done. track done.objects rest) ≡ Ok objects
    → after_then told way state message (λ next. state_after next (rest ++ back)) ≡ state_after (after_then told way state message (λ next. state_after next rest)) back
after_step (Ok done) Request state message objects rest back next passed = next _ passed
after_step (Ok done) Event state message objects rest back next passed = next _ passed
after_step (Err fault) way state message objects rest back next passed = search rules

goes_on : (front back : List (Way × List ℕ)) (state : ObjectsState) (objects : Tracked) → track state.tracked front ≡ Ok objects → state_after state (front ++ back) ≡ state_after (state_after state front) back
goes_on [] back state objects passed = refl
goes_on (it ∷ rest) back state objects passed = after_step (step it.0 state.tracked it.1) it.0 state it.1 objects rest back (λ next. goes_on rest back next objects) passed

pub state_goes_on : StateGoesOn
state_goes_on state objects front back passed = goes_on front back state objects passed

-- one message: what is shown of what follows it

shown_step : (told : Result Admission ObjectFault) (way : Way) (state : ObjectsState) (message : List ℕ) (objects : Tracked) (rest back : List (Way × List ℕ))
    → ((next : ObjectsState) → track next.tracked rest ≡ Ok objects → visible next (rest ++ back) ≡ visible next rest ++ visible (state_after next rest) back)
    → then_goes told (λ done. track done.objects rest) ≡ Ok objects
    → shown_then told way state.hidden message (λ next. visible next (rest ++ back)) ≡ shown_then told way state.hidden message (λ next. visible next rest) ++ visible (after_then told way state message (λ next. state_after next rest)) back
shown_step (Ok done) Request state message objects rest back next passed = next _ passed
shown_step (Ok done) Event state message objects rest back next passed =
    let viewed : ObjectsState = record { tracked = done.objects; hidden = state.hidden } in
    let after : ObjectsState = record { tracked = done.objects; hidden = (view viewed message).hidden } in
    ap (λ shown. option_to_list (view viewed message).shown ++ shown) (next after passed)
    ∙ sym (append_assoc (option_to_list (view viewed message).shown) (visible after rest) (visible (state_after after rest) back))
shown_step (Err fault) way state message objects rest back next passed = search rules

shown_on : (front back : List (Way × List ℕ)) (state : ObjectsState) (objects : Tracked) → track state.tracked front ≡ Ok objects → visible state (front ++ back) ≡ visible state front ++ visible (state_after state front) back
shown_on [] back state objects passed = refl
shown_on (it ∷ rest) back state objects passed = shown_step (step it.0 state.tracked it.1) it.0 state it.1 objects rest back (λ next. shown_on rest back next objects) passed

pub visible_goes_on : VisibleGoesOn
visible_goes_on state objects front back passed = shown_on front back state objects passed

-- one message behind those that pass: it passes in the state that they leave, and the step computes

passes : (way : Way) (state : ObjectsState) (objects : Tracked) (front : List (Way × List ℕ)) (message : List ℕ) (done : Admission) → track state.tracked front ≡ Ok objects → step way objects message ≡ Ok done → step way (state_after state front).tracked message ≡ Ok done
passes way state objects front message done passed stepped = ap (λ it. step way it message) (is_tracked front state objects passed) ∙ stepped

pub event_is_viewed : EventIsViewed
event_is_viewed state objects front message done passed stepped =
    let now = state_after state front in
    let goes = passes Event state objects front message done passed stepped in (
      visible_goes_on state objects front ((Event, message) ∷ []) passed
          ∙ ap (λ shown. visible state front ++ shown)
          (ap (λ told. shown_then told Event now.hidden message (λ next. [])) goes ∙ append-nil _),
      state_goes_on state objects front ((Event, message) ∷ []) passed
          ∙ ap (λ told. after_then told Event now message (λ next. next)) goes,
    )

pub request_is_not_shown : RequestIsNotShown
request_is_not_shown state objects front message done passed stepped =
    let now = state_after state front in
    let goes = passes Request state objects front message done passed stepped in (
      visible_goes_on state objects front ((Request, message) ∷ []) passed
          ∙ ap (λ shown. visible state front ++ shown) (ap (λ told. shown_then told Request now.hidden message (λ next. [])) goes)
          ∙ append-nil _,
      state_goes_on state objects front ((Request, message) ∷ []) passed
          ∙ ap (λ told. after_then told Request now message (λ next. next)) goes,
    )
