-- What a report tells of each pipe is what its frames mean for that rid alone.
use Rattle.std.proofs.Common.{◌≡◌, ℕ, ℤ, Bool, true, false, cond, List, [], ◌∷◌, ◌++◌, Option, Some, refl, ap, ◌∙◌, int_cmp}
use Rattle.std.proofs.lemmas.Cmp.{int_cmp_total}
use Rattle.std.specs.Bool.{if◌then◌else◌}
use Rattle.std.specs.BTreeMap.{is_at}
use Rattle.std.specs.Map.{lookup}
use Rattle.std.specs.Option.{unwrap_or}
use Rattle.std.specs.Ordering.{int_eq, is_eq}
use Rattle.std.proofs.lemmas.Map.Lookups.{exact_signed}
use Rattle.std.proofs.Common.{Ordering, Less, Equal, Greater}
use Rattle.plain_lists.proofs.EntryLemmas.{lookup-insert_entry}
use Rattle.transfer_frames.specs.declared.frame.Frame.{Frame}
use Rattle.transfer_frames.specs.declared.frame.Frame.TheVariants.{Protocol, Inject, OpenFile, ExtendFile, Fill, OpenPipe, PipeTransfer, PipeShutR, PipeShutW, Ack, Restart, Close}
use Rattle.half_model.specs.Meaning.{Flow, no_flow, flow_step, flow_from}
use Rattle.half_model.specs.PeerState.{flow_at}
use Rattle.pair_report.specs.Laws.{FlowIs, FlowsAreMeant}
use Rattle.pair_report.specs.Meant.{Flows, on_flow, with_piece, with_end, with_flow, flows_from}

-- rids that are the same
same : (other rid : ℤ) → int_eq other rid ≡ true → other ≡ rid
same other rid is = exact_signed other rid (by (int_cmp other rid) refl is)
  where
    by : (c : Ordering) → int_cmp other rid ≡ c → is_eq c ≡ true → int_cmp other rid ≡ Equal
    by Less e no_ = absurd (let never : ⊥ = cc in never)
    by Equal e yes_ = e
    by Greater e no_ = absurd (let never : ⊥ = cc in never)

-- the flow of a rid, where that of one is changed
changed_at : (other rid : ℤ) (change : Flow → Flow) (flows : Flows)
    → flow_at rid (on_flow other change flows) ≡ (if int_eq other rid then change (flow_at rid flows) else flow_at rid flows)
changed_at other rid change flows =
    ap (λ (o : Option Flow). unwrap_or o no_flow) (lookup-insert_entry int_cmp_total flows other rid (change (flow_at other flows)))
    ∙ by (int_eq other rid) refl
  where
    by : (b : Bool) → int_eq other rid ≡ b
        → unwrap_or (cond b (Some (change (flow_at other flows))) (lookup (is_at (int_cmp rid)) flows)) no_flow
        ≡ (if b then change (flow_at rid flows) else flow_at rid flows)
    by true is = ap (λ (k : ℤ). change (flow_at k flows)) (same other rid is)
    by false is = refl

-- a step of both
choose : (b : Bool) (shown meant shown_then meant_then : Flow) → FlowIs shown meant → FlowIs shown_then meant_then
    → FlowIs (if b then shown_then else shown) (if b then meant_then else meant)
choose true shown meant shown_then meant_then is then_is = then_is
choose false shown meant shown_then meant_then is then_is = is

abbrev at_rid : ℤ → Flow → Flows → Type 0
at_rid rid meant flows = FlowIs (flow_at rid flows) meant

moved : (shown other meant : Flow) → shown ≡ other → FlowIs other meant → FlowIs shown meant
moved shown other meant e is = record { bytes = ap (λ (f : Flow). f.bytes) e ∙ is.bytes; ended = ap (λ (f : Flow). f.ended) e ∙ is.ended }

-- a closed reading end changes neither bytes nor end
shut_same : (b : Bool) (shown meant : Flow) → FlowIs shown meant → FlowIs shown (if b then record meant { shut = true } else meant)
shut_same true shown meant is = record { bytes = is.bytes; ended = is.ended }
shut_same false shown meant is = is

one : (frame : Frame) (flows : Flows) (meant : Flow) (rid : ℤ) → FlowIs (flow_at rid flows) meant → FlowIs (flow_at rid (with_flow frame flows)) (flow_step rid frame meant)
one (PipeTransfer other piece) flows meant rid is =
    moved _ _ _ (changed_at other rid (with_piece piece) flows)
    (choose (int_eq other rid) (flow_at rid flows) meant (with_piece piece (flow_at rid flows)) (with_piece piece meant) is
    (record { bytes = ap (λ (bytes : List ℕ). bytes ++ piece) is.bytes; ended = is.ended }))
one (PipeShutW other) flows meant rid is =
    moved _ _ _ (changed_at other rid with_end flows)
    (choose (int_eq other rid) (flow_at rid flows) meant (with_end (flow_at rid flows)) (with_end meant) is (record { bytes = is.bytes; ended = refl }))
one (PipeShutR other) flows meant rid is = shut_same (int_eq other rid) (flow_at rid flows) meant is
one (Protocol messages) flows meant rid is = is
one (Inject rids) flows meant rid is = is
one (OpenFile other size) flows meant rid is = is
one (ExtendFile other size) flows meant rid is = is
one (Fill other start end piece) flows meant rid is = is
one (OpenPipe other) flows meant rid is = is
one (Ack count) flows meant rid is = is
one (Restart token connection received) flows meant rid is = is
one (Close reason) flows meant rid is = is

all : (frames : List Frame) (flows : Flows) (meant : Flow) (rid : ℤ) → FlowIs (flow_at rid flows) meant → FlowIs (flow_at rid (flows_from frames flows)) (flow_from rid frames meant)
all [] flows meant rid is = is
all (frame ∷ frames) flows meant rid is = all frames (with_flow frame flows) (flow_step rid frame meant) rid (one frame flows meant rid is)

pub flows_are_meant : FlowsAreMeant
flows_are_meant frames rid = all frames [] no_flow rid (record { bytes = refl; ended = refl })
