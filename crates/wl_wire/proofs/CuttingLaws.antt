-- The laws of the cut, from the relation by cases.
use Rattle.std.proofs.Common.{◌≡◌, ℕ, List, [], ◌∷◌, ◌++◌, length, take, drop, Option, Some, None, Result, Ok, Err, subst, refl, sym, ap, ◌∙◌, take-append-drop}
use Rattle.std.proofs.lemmas.List.{append-nil}
use Rattle.wl_wire.specs.declared.faults.WireFault.{WireFault}
use Rattle.wl_wire.specs.Wire.{joined, first, IsMessage, Cuts, cut, cut_rest, fault_in}
use Rattle.wl_wire.specs.WireLaws.{FirstWaits, FirstFaults, FirstGives, CutAgrees, CutJoins, CutStops, CutMessage, CutNothing, CutGoesOn, CutAppends, JoinedCuts, CutFaultStays}
use Rattle.wl_wire.proofs.FrontLemmas.{waits-found, faulty-found, begins-found, found-waits, found-fault, first-message, first-fault-stays, stops-waits, stops-fault}
use Rattle.wl_wire.proofs.Cutting.{cut-cuts, cuts-cut, cuts-joined, cuts-messages, cuts-stops, cuts-append, messages-cut}

pub first-waits : FirstWaits
first-waits bytes = (λ e. (waits-found bytes e).no_message, found-waits bytes)

pub first-faults : FirstFaults
first-faults bytes fault = (λ e. (faulty-found bytes fault e).size_fault, found-fault bytes fault)

pub first-gives : FirstGives
first-gives bytes message = (
  λ e. let begins = begins-found bytes message e in (begins.is_message, (drop (length message) bytes, begins.parts)),
  λ h. ap first h.1.1 ∙ first-message message h.1.0 h.0,
)

pub cut-agrees : CutAgrees
cut-agrees bytes messages rest = (
  cuts-cut bytes messages rest,
  λ same. let P : List ℕ → Type 0 = λ it. Cuts bytes messages it in
      let Q : List (List ℕ) → Type 0 = λ them. Cuts bytes them (cut_rest bytes) in
      subst P same.1 (subst Q same.0 (cut-cuts bytes)),
)

pub cut-joins : CutJoins
cut-joins bytes =
    (cuts-joined (cut bytes) bytes (cut_rest bytes) (cut-cuts bytes), cuts-messages (cut bytes) bytes (cut_rest bytes) (cut-cuts bytes))

pub cut-stops : CutStops
cut-stops bytes = cuts-stops (cut bytes) bytes (cut_rest bytes) (cut-cuts bytes)

pub cut-message : CutMessage
cut-message message rest whole =
    cuts-cut (message ++ rest) (message ∷ cut rest) (cut_rest rest) (whole, (rest, refl, cut-cuts rest))

pub cut-nothing : CutNothing
cut-nothing bytes stops = cuts-cut bytes [] bytes (refl, stops)

pub cut-goes_on : CutGoesOn
cut-goes_on front more =
    cuts-cut (front ++ more) (cut front ++ cut (cut_rest front ++ more)) (cut_rest (cut_rest front ++ more))
    (cuts-append (cut front) front (cut_rest front) more (cut (cut_rest front ++ more)) (cut_rest (cut_rest front ++ more)) (cut-cuts front) (cut-cuts (cut_rest front ++ more)))

pub cut-appends : CutAppends
cut-appends front more empty =
    let whole : cut_rest front ++ more ≡ more = ap (λ it. it ++ more) empty in
    let on = cut-goes_on front more in
    (on.0 ∙ ap (λ it. cut front ++ cut it) whole, on.1 ∙ ap cut_rest whole)

pub joined-cuts : JoinedCuts
joined-cuts messages whole = cuts-cut (joined messages) messages [] (messages-cut messages whole)

-- where the front tells a fault, that is the fault
fault-front : (front : Result (Option (List ℕ)) WireFault) (fault : WireFault) → fault_in front ≡ Some fault → front ≡ Err fault
fault-front (Ok it) fault e = absurd (cc)
fault-front (Err it) fault e = cc

pub cut-fault-stays : CutFaultStays
cut-fault-stays front more fault e =
    let at_fault : first (cut_rest front) ≡ Err fault = fault-front (first (cut_rest front)) fault e in
    let stays : first (cut_rest front ++ more) ≡ Err fault = first-fault-stays (cut_rest front) more fault at_fault in
    let all_rest = cut-nothing (cut_rest front ++ more) (stops-fault (cut_rest front ++ more) fault stays) in
    let on = cut-goes_on front more in
    let rest : cut_rest (front ++ more) ≡ cut_rest front ++ more = on.1 ∙ all_rest.1 in (
      on.0 ∙ ap (λ them. cut front ++ them) all_rest.0 ∙ append-nil (cut front),
      rest,
      ap (λ it. fault_in (first it)) rest ∙ ap fault_in stays,
    )

-- how the rest goes on behind what stands in front
pub rest-waits : (bytes : List ℕ) → first bytes ≡ Ok None → cut_rest bytes ≡ bytes
rest-waits bytes e = (cut-nothing bytes (stops-waits bytes e)).1

pub rest-fault : (bytes : List ℕ) (fault : WireFault) → first bytes ≡ Err fault → cut_rest bytes ≡ bytes
rest-fault bytes fault e = (cut-nothing bytes (stops-fault bytes fault e)).1

pub rest-message : (bytes : List ℕ) (size : ℕ) → first bytes ≡ Ok (Some (take size bytes)) → cut_rest (drop size bytes) ≡ cut_rest bytes
rest-message bytes size e =
    let whole : IsMessage (take size bytes) = (begins-found bytes (take size bytes) e).is_message in
    sym (cut-message (take size bytes) (drop size bytes) whole).1 ∙ ap cut_rest (take-append-drop size bytes)

-- how the messages go on behind what stands in front
pub cut-waits : (bytes : List ℕ) → first bytes ≡ Ok None → cut bytes ≡ []
cut-waits bytes e = (cut-nothing bytes (stops-waits bytes e)).0

pub cut-fault : (bytes : List ℕ) (fault : WireFault) → first bytes ≡ Err fault → cut bytes ≡ []
cut-fault bytes fault e = (cut-nothing bytes (stops-fault bytes fault e)).0

pub cut-front : (bytes : List ℕ) (size : ℕ) → first bytes ≡ Ok (Some (take size bytes)) → cut bytes ≡ take size bytes ∷ cut (drop size bytes)
cut-front bytes size e =
    let whole : IsMessage (take size bytes) = (begins-found bytes (take size bytes) e).is_message in
    ap cut (sym (take-append-drop size bytes)) ∙ (cut-message (take size bytes) (drop size bytes) whole).0
