-- What holds of each replay that is reported follows from what holds of each run: the records that the report is told by are those of the run's last state, and the frames that the report counts as accepted are those that the story of these records accepts.
use Rattle.std.proofs.Common.{◌≡◌, ℕ, Bool, true, false, List, [], ◌∷◌, Option, Some, None, refl, sym, ap, subst, ◌∙◌, cond}
use Rattle.plain_lists.specs.Fronts.{IsFront}
use Rattle.wl_objects.specs.Registry.{first_state, visible}
use Rattle.wl_tables.specs.declared.way.Way.{Way}
use Rattle.wl_wire.specs.Wire.{cut}
use Rattle.wp_outside.specs.Lines.{Line}
use Rattle.wp_outside.specs.declared.kinds.Side.{Side}
use Rattle.wp_outside.specs.declared.kinds.Side.TheVariants.{Near, Far}
use Rattle.script_lang.specs.Puts.{puts}
use Rattle.script_lang.specs.declared.steps.Step.{Step}
use Rattle.script_lang.specs.declared.steps.StepKind.{StepKind}
use Rattle.script_lang.specs.declared.steps.StepKind.TheVariants as line
use Rattle.transfer_frames.specs.declared.frame.Frame.{Frame}
use Rattle.half_model.specs.PeerState.{PeerState}
use Rattle.half_model.specs.Story.{accepted_in, messages_in}
use Rattle.side_model.specs.Records.{Law}
use Rattle.side_model.specs.Trails.{TrailState}
use Rattle.side_model.specs.declared.fault.ProxyFault.{ProxyFault}
use Rattle.pair_laws.specs.Passing.{passing, passing_by}
use Rattle.pair_laws.proofs.Passing.{order_has_both}
use Rattle.pair_runs.specs.Agreeing.{IsSparing, SparesAll}
use Rattle.pair_runs.specs.Completing.{BringsAll}
use Rattle.pair_runs.specs.Headline.{Receives, TakesFirst, fault_of}
use Rattle.pair_runs.specs.Kept.{one_side}
use Rattle.pair_runs.specs.Orders.{Allowed}
use Rattle.pair_runs.specs.Quiet.{IsDone}
use Rattle.pair_runs.specs.RunLaws.{fault_by}
use Rattle.pair_runs.specs.Runs.{Played, AreLines, Drained, Runs}
use Rattle.pair_runs.specs.Sides.{SideState, TOKEN}
use Rattle.pair_runs.proofs.Blaming.{faults_are_caused}
use Rattle.pair_runs.proofs.Completing.{drained_brings_all}
use Rattle.pair_runs.proofs.Allowing.{runs_are_allowed}
use Rattle.pair_runs.proofs.Ends.{front_then}
use Rattle.pair_runs.proofs.Keeping.{runs_keep}
use Rattle.pair_runs.proofs.Ordering.{has_orders}
use Rattle.pair_runs.proofs.Receiving.{runs_take_first}
use Rattle.pair_runs.proofs.Stopping.{drains_without_stop}
use Rattle.pair_report.specs.Heard.{accepted_of}
use Rattle.pair_report.specs.Report.{told_of}
use Rattle.pair_report.proofs.Accepted.{accepted_is_told}
use Rattle.proxy_trail.specs.declared.pair.PairRecord.{PairRecord}
use Rattle.script_replay.specs.Outcome.{Replays, ShownBy}
use Rattle.waypipe_run.specs.Built.{is_built, first_unbuilt}
use Rattle.waypipe_run.specs.Headline.{passed_at, ReceivesFirst, HasReceivedAll, ReplaysHold, TrialsHold}
use Rattle.waypipe_run.specs.Reports.{trial_options}
use Rattle.waypipe_run.proofs.TrialLemmas.{trial_is_built}

-- ---- no line replaces a byte

by_built : (b : Bool) (rest : Option ℕ) (number : ℕ) → cond b rest (Some number) ≡ None → (b ≡ true) × (rest ≡ None)
by_built true rest number e = (refl, e)
by_built false rest number e = absurd cc

sparing : (what : StepKind) → is_built what ≡ true → IsSparing what
sparing (line.Hex peer bytes) e = tt
sparing (line.Say peer text) e = tt
sparing (line.File peer number size) e = tt
sparing (line.Grow peer number size) e = tt
sparing (line.Fill peer number first count value) e = tt
sparing (line.Pipe peer number) e = tt
sparing (line.Give peer number) e = tt
sparing (line.Put peer pipe bytes) e = tt
sparing (line.End peer pipe) e = tt
sparing (line.Shut peer number) e = tt
sparing (line.Await peer count) e = tt
sparing (line.Take peer bytes) e = tt
sparing (line.Load words) e = tt
sparing line.Connect e = tt
sparing line.Break e = tt
sparing (line.Send dir bytes) e = tt
sparing (line.Recv dir bytes) e = tt
sparing (line.Both dir bytes) e = tt
sparing (line.Spoil dir offset byte) e = absurd cc
sparing (line.Cut dir bytes) e = tt
sparing (line.Close peer) e = tt
sparing line.Settle e = tt
sparing (line.Drain bytes) e = tt
sparing line.Stop e = tt

spares : (steps : List Step) (played : List Played) → AreLines steps played → first_unbuilt steps ≡ None → SparesAll played
spares [] [] lines built = tt
spares [] (it ∷ played) lines built = absurd lines
spares (step ∷ steps) [] lines built = absurd lines
spares (step ∷ steps) (it ∷ played) lines built =
    let both = by_built (is_built step.what) (first_unbuilt steps) step.line built in
    (subst IsSparing (sym lines.0) (sparing step.what both.0), spares steps played lines.2 both.1)

-- ---- the records of the last state

-- the frames that are counted as accepted are those of the story
told_frames : (side : Side) (trail : TrailState) (it : SideState) (fault : Option ProxyFault) (law : Law side TOKEN it.book fault) → ShownBy trail it → accepted_of trail.book.trail ≡ accepted_in law.story
told_frames side trail it fault law shown =
    ap (λ (x : SideState). accepted_of x.book.trail) (sym shown.is) ∙ accepted_is_told side TOKEN it.book fault law

-- and so is the order in which messages passed
told_order : (side : Side) (trail : TrailState) (peer : PeerState) (it : SideState) (fault : Option ProxyFault) (law : Law side TOKEN it.book fault) → ShownBy trail it
    → passed_at side (record { book = trail.book; peer = peer }) ≡ passing_by side (one_side it fault) law
told_order side trail peer it fault law shown =
    ap (λ (x : SideState). passing side x.book.order x.book.trail.taken (messages_in (accepted_of x.book.trail))) (sym shown.is)
    ∙ ap (λ (frames : List Frame). passing side it.book.order it.book.trail.taken (messages_in frames)) (accepted_is_told side TOKEN it.book fault law)

told_taken : (trail : TrailState) (it : SideState) → ShownBy trail it → trail.book.trail.taken ≡ it.book.trail.taken
told_taken trail it shown = ap (λ (x : SideState). x.book.trail.taken) (sym shown.is)

-- ---- what was received

received : (steps : List Step) (ln : ℕ → Line) (pair : PairRecord) (it : Replays steps ln pair) → Receives steps it.last (fault_by it.end) → ReceivesFirst steps (told_of pair)
received steps ln pair it given =
    let far_fault : Option ProxyFault = fault_of Far (fault_by it.end) in
    let near_fault : Option ProxyFault = fault_of Near (fault_by it.end) in
    let first : TakesFirst steps it.last = runs_take_first steps it.played it.last it.end it.runs in
    let far_frames = told_frames Far pair.far it.last.far far_fault given.pair.other_law it.far in
    let near_frames = told_frames Near pair.near it.last.near near_fault given.pair.one_law it.near in
    let order = told_order Far pair.far pair.compositor it.last.far far_fault given.pair.other_law it.far in
    record {
      up = subst (λ (frames : List Frame). IsFront (messages_in frames) (cut (puts Near steps))) (sym far_frames) (front_then given.prefixes.up_heard first.near);
      down = subst (λ (frames : List Frame). IsFront (messages_in frames) (visible first_state (passed_at Far (told_of pair).far))) (sym near_frames)
          (subst (λ (order : List (Way × List ℕ)). IsFront (messages_in (accepted_in given.pair.one_law.story)) (visible first_state order)) (sym order) given.prefixes.down_heard);
      events = subst (λ (taken : List (List ℕ)). IsFront taken (cut (puts Far steps))) (sym (told_taken pair.far it.last.far it.far)) first.far;
    }

-- in allowed orders
allowed : (steps : List Step) (ln : ℕ → Line) (pair : PairRecord) (it : Replays steps ln pair) (given : Receives steps it.last (fault_by it.end))
    → Allowed steps (passing_by Near (one_side it.last.near (fault_of Near (fault_by it.end))) given.pair.one_law) (passing_by Far (one_side it.last.far (fault_of Far (fault_by it.end))) given.pair.other_law)
    → Allowed steps (passed_at Near (told_of pair).near) (passed_at Far (told_of pair).far)
allowed steps ln pair it given orders =
    let near = told_order Near pair.near pair.application it.last.near (fault_of Near (fault_by it.end)) given.pair.one_law it.near in
    let far = told_order Far pair.far pair.compositor it.last.far (fault_of Far (fault_by it.end)) given.pair.other_law it.far in
    subst (λ (order : List (Way × List ℕ)). Allowed steps order (passed_at Far (told_of pair).far)) (sym near)
    (subst (λ (order : List (Way × List ℕ)). Allowed steps (passing_by Near (one_side it.last.near (fault_of Near (fault_by it.end))) given.pair.one_law) order) (sym far) orders)

-- all of it where nothing moved any more
all_received : (steps : List Step) (ln : ℕ → Line) (pair : PairRecord) (it : Replays steps ln pair) → SparesAll it.played → it.end ≡ Drained → HasReceivedAll steps (told_of pair) × IsDone it.last
all_received steps ln pair it h drained =
    let runs : Runs steps it.played it.last Drained = subst (Runs steps it.played it.last) drained it.runs in
    let brings : BringsAll steps it.last = drained_brings_all steps it.played it.last runs h in
    let done : IsDone it.last = brings.done in
    let orders = has_orders it.last done in
    let nears = order_has_both Near (one_side it.last.near None) done.pair.one_law in
    let fars = order_has_both Far (one_side it.last.far None) done.pair.other_law in
    let far_frames = told_frames Far pair.far it.last.far None done.pair.other_law it.far in
    let near_frames = told_frames Near pair.near it.last.near None done.pair.one_law it.near in
    let order = told_order Far pair.far pair.compositor it.last.far None done.pair.other_law it.far in (
      record {
        no_stop = drains_without_stop steps it.played it.last runs;
        requests = λ opened. told_taken pair.near it.last.near it.near ∙ brings.requests opened;
        events = λ opened. told_taken pair.far it.last.far it.far ∙ brings.events opened;
        up = ap messages_in far_frames ∙ sym fars.heard ∙ orders.far_requests ∙ sym (told_taken pair.near it.last.near it.near);
        down = ap messages_in near_frames ∙ sym nears.heard ∙ orders.near_events ∙ ap (visible first_state) (sym order);
      },
      done,
    )

pub replays_hold : ReplaysHold
replays_hold options steps answer ln text built reported =
    let it = reported.replays in
    let h : SparesAll it.played = spares steps it.played it.runs.lines built in
    let both = runs_are_allowed steps it.played it.last it.end it.runs h in
    record {
      received = received steps ln reported.pair it both.0;
      given = both.0;
      allowed = allowed steps ln reported.pair it both.0 both.1;
      kept = runs_keep.last steps it.played it.last it.end it.runs;
      caused = λ fault is. faults_are_caused steps it.played it.last fault (subst (Runs steps it.played it.last) is it.runs);
      drained = λ drained. all_received steps ln reported.pair it h drained;
    }

pub trials_hold : TrialsHold
trials_hold rounds answer ln text it = replays_hold trial_options it.steps answer ln text (trial_is_built rounds it.steps it.script) it.reported
