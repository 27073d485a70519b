-- What a side's frames mean in its order of passing is what they give by themselves, where each PROTOCOL frame has one message.
use Rattle.std.proofs.Common.{◌≡◌, ℕ, List, map, [], ◌∷◌, ◌++◌, ℤ, Option, Some, None, Result, Ok, Err, refl, sym, ap, ◌∙◌, subst, append_assoc, append-nil}
use Rattle.std.proofs.lemmas.List.{map-append}
use Rattle.std.specs.List.{AllByRecursion, slice_get}
use Rattle.plain_lists.specs.Fronts.{IsFront}
use Rattle.plain_lists.proofs.FrontLemmas.{IsFront_trans, IsFront_same}
use Rattle.wp_outside.specs.declared.kinds.HandleKind.{HandleKind}
use Rattle.wp_outside.specs.declared.kinds.Side.{Side}
use Rattle.wl_wire.specs.declared.faults.ObjectFault.{ObjectFault}
use Rattle.wl_wire.specs.Wire.{cut}
use Rattle.wl_tables.specs.declared.way.Way.{Way}
use Rattle.wl_objects.specs.Entries.{Tracked}
use Rattle.wl_objects.specs.Registry.{ObjectsState}
use Rattle.wl_objects.specs.Tracking.{Admission, step}
use Rattle.handle_table.specs.Table.{Table, kind_of_rid}
use Rattle.pair_model.specs.Rows.{counted}
use Rattle.transfer_frames.specs.declared.cause.FrameCause.{FrameCause}
use Rattle.transfer_frames.specs.declared.cause.FrameCause.TheVariants.{RidCount}
use Rattle.transfer_frames.specs.declared.frame.Frame.{Frame}
use Rattle.transfer_frames.specs.declared.frame.Frame.TheVariants.{Protocol, Inject, OpenFile, ExtendFile, Fill, OpenPipe, PipeTransfer, PipeShutR, PipeShutW, Ack, Restart, Close}
use Rattle.half_model.specs.Content.{Taking, Passage, has_kind, passed_with, passed_alone, passed_by_kind, passed_step, pass_all, passage_of, heard_messages}
use Rattle.half_model.specs.Group.{Owed}
use Rattle.half_model.specs.Log.{Mark, Taken, Heard, Grouped, Dropped, LogState, log_new, MayHear, after_lone, after_group, log_next, Logs}
use Rattle.half_model.specs.Meaning.{Carried, none_carried, carried_by_kind, carried_with, carried_step, carry_messages, carry_frame, carry_own, carry_all}
use Rattle.half_model.specs.PairLaws.{Hears, GivenIsSent, AllIsGiven}
use Rattle.half_model.specs.Planning.{kind_carried}
use Rattle.half_model.specs.StoryLaws.{IsStory}
use Rattle.half_model.specs.Sides.{other_way, other_side}
use Rattle.wl_tables.specs.Ways.{own_way}
use Rattle.half_model.specs.Story.{Sent, accepted_in, heard_in, made_in, messages_in}
use Rattle.half_model.proofs.Expecting.{Expected, expect, expect_frame, expect-append, expect_front, HasOne, gives}
use Rattle.half_model.proofs.Passages.{goes_ok, chosen_ok, same_passage, passage_new, IsAccepted, accepted}
use Rattle.half_model.proofs.Shown.{heard-ok, group_objects, taken_objects}
use Rattle.half_model.proofs.ShownLaws.{cut_alone}
use Rattle.half_model.proofs.Sound.{Sound, passed, after_taken, sound_next, sound_new}

-- ---- one message

abbrev pub as_carried : Tracked → List ℤ → List Sent → Carried
as_carried tracked waiting given = record { tracked = tracked; waiting = waiting; given = given }

with_rid_passes : (tracked : Tracked) (message : List ℕ) (kind : HandleKind) (now after : Passage) (handles : Table) (rids : List ℤ) (given : List Sent)
    → passed_with tracked message kind now handles rids ≡ Ok after → after.waiting ≡ []
    → carried_with rids message (as_carried tracked rids given) ≡ as_carried after.tracked [] (given ++ (message, slice_get rids 0) ∷ [])
with_rid_passes tracked message kind now after handles [] given e none = absurd cc
with_rid_passes tracked message kind now after handles (rid ∷ rids) given e none =
    let is = (chosen_ok (has_kind kind (kind_of_rid handles rid)) _ after RidCount e).1 in
    ap (λ (p : Passage). as_carried p.tracked p.waiting (given ++ (message, Some rid) ∷ [])) is
    ∙ ap (λ (w : List ℤ). as_carried after.tracked w (given ++ (message, Some rid) ∷ [])) none

by_kind_passes : (kind : Option HandleKind) (tracked : Tracked) (message : List ℕ) (now after : Passage) (handles : Table) (given : List Sent)
    → passed_by_kind kind tracked message now handles ≡ Ok after → after.waiting ≡ []
    → carried_by_kind kind message (as_carried tracked now.waiting given) ≡ as_carried after.tracked [] (given ++ (message, slice_get now.waiting 0) ∷ [])
by_kind_passes None tracked message now after handles given e none =
    let is = same_passage (passed_alone tracked message now) after _ refl e in
    let empty : now.waiting ≡ [] = ap (λ (p : Passage). p.waiting) is ∙ none in
    ap (λ (w : List ℤ). as_carried tracked w (given ++ (message, None) ∷ [])) empty
    ∙ ap (λ (w : List ℤ). as_carried tracked [] (given ++ (message, slice_get w 0) ∷ [])) (sym empty)
    ∙ ap (λ (p : Passage). as_carried p.tracked [] (given ++ (message, slice_get now.waiting 0) ∷ [])) is
by_kind_passes (Some kind) tracked message now after handles given e none = with_rid_passes tracked message kind now after handles now.waiting given e none

step_passes : (told : Result Admission ObjectFault) (way : Way) (message : List ℕ) (now after : Passage) (handles : Table) (given : List Sent)
    → passed_step told way message now handles ≡ Ok after → after.waiting ≡ []
    → carried_step way told message (as_carried now.tracked now.waiting given) ≡ as_carried after.tracked [] (given ++ (message, slice_get now.waiting 0) ∷ [])
step_passes (Ok done) way message now after handles given e none = by_kind_passes (kind_carried way done.passed) done.objects message now after handles given e none
step_passes (Err fault) way message now after handles given e none = absurd cc

one_passes : (way : Way) (handles : Table) (message : List ℕ) (now after : Passage) (given : List Sent)
    → pass_all way handles (message ∷ []) now ≡ Ok after → after.waiting ≡ []
    → carry_messages way (message ∷ []) (as_carried now.tracked now.waiting given) ≡ as_carried after.tracked [] (given ++ (message, slice_get now.waiting 0) ∷ [])
one_passes way handles message now after given e none =
    let got = goes_ok (passed_step (step way now.tracked message) way message now handles) (pass_all way handles []) after e in
    let same = same_passage got.0 after _ refl got.2 in
    step_passes (step way now.tracked message) way message now after handles given (got.1 ∙ ap (λ (p : Passage). let r : Result Passage FrameCause = Ok p in r) same) none

-- ---- a frame

-- as the state has it
abbrev pub at_state : LogState → List Sent → Carried
at_state s given = as_carried s.tables.objects.tracked s.taking.waiting given

abbrev expected : LogState → List Sent → Expected
expected s given = record { waiting = s.taking.waiting; given = given }

record Carries (side : Side) (s : LogState) (frame : Frame) (given : List Sent) : Type 0 where
  new : List Sent
  meant : carry_frame (other_way side) frame (at_state s given) ≡ at_state (log_next s (Heard frame)) new
  told : expect_frame frame (expected s given) ≡ expected (log_next s (Heard frame)) new

heard-waiting : (s : LogState) (bytes : List ℕ) (a : IsAccepted s.tables s.taking bytes) → (heard_messages s.tables s.taking (passage_of s.tables s.taking bytes)).taking.waiting ≡ []
heard-waiting s bytes a = ap (λ (r : Result Passage FrameCause). (heard_messages s.tables s.taking r).taking.waiting) a.is ∙ a.none

carries : (side : Side) (s : LogState) (frame : Frame) (given : List Sent) → s.tables.handles.side ≡ side → MayHear s frame → HasOne frame → Carries side s frame given
carries side s (Protocol bytes) given is may one =
    let a = accepted s.tables s.taking bytes may.accepted in
    let now : Passage = passage_new s.tables s.taking in
    let P : List (List ℕ) → Type 0 = λ ms. pass_all (other_way s.tables.handles.side) s.tables.handles ms now ≡ Ok a.after in
    let all : P (bytes ∷ []) = subst P (cut_alone bytes one) a.all in
    let new : List Sent = given ++ (bytes, slice_get s.taking.waiting 0) ∷ [] in
    let empty = heard-waiting s bytes a in
    record {
      new = new;
      meant = ap (λ (sd : Side). carry_messages (other_way sd) (cut bytes) (at_state s given)) (sym is)
          ∙ ap (λ (ms : List (List ℕ)). carry_messages (other_way s.tables.handles.side) ms (at_state s given)) (cut_alone bytes one)
          ∙ one_passes (other_way s.tables.handles.side) s.tables.handles bytes now a.after given all a.none
          ∙ ap (λ (o : ObjectsState). as_carried o.tracked [] new) (sym (heard-ok s.tables s.taking bytes a))
          ∙ ap (λ (w : List ℤ). as_carried (log_next s (Heard (Protocol bytes))).tables.objects.tracked w new) (sym empty);
      told = ap (λ (w : List ℤ). let e : Expected = record { waiting = w; given = new } in e) (sym empty);
    }
carries side s (Inject rids) given is may one = record { new = given; meant = refl; told = refl }
carries side s (OpenFile rid size) given is may one = record { new = given; meant = refl; told = refl }
carries side s (ExtendFile rid size) given is may one = record { new = given; meant = refl; told = refl }
carries side s (Fill rid start end bytes) given is may one = record { new = given; meant = refl; told = refl }
carries side s (OpenPipe rid) given is may one = record { new = given; meant = refl; told = refl }
carries side s (PipeTransfer rid bytes) given is may one = record { new = given; meant = refl; told = refl }
carries side s (PipeShutR rid) given is may one = record { new = given; meant = refl; told = refl }
carries side s (PipeShutW rid) given is may one = record { new = given; meant = refl; told = refl }
carries side s (Ack count) given is may one = record { new = given; meant = refl; told = refl }
carries side s (Restart token connection received) given is may one = record { new = given; meant = refl; told = refl }
carries side s (Close reason) given is may one = record { new = given; meant = refl; told = refl }

-- ---- along a story

-- each counted frame has one message, and an uncounted one has none
counted_one : (frame : Frame) (frames : List Frame) → AllByRecursion HasOne (counted (frame ∷ frames)) → HasOne frame × AllByRecursion HasOne (counted frames)
counted_one (Ack count) frames h = (tt, h)
counted_one (Restart token connection received) frames h = (tt, h)
counted_one (Protocol bytes) frames h = h
counted_one (Inject rids) frames h = h
counted_one (OpenFile rid size) frames h = h
counted_one (ExtendFile rid size) frames h = h
counted_one (Fill rid start end bytes) frames h = h
counted_one (OpenPipe rid) frames h = h
counted_one (PipeTransfer rid bytes) frames h = h
counted_one (PipeShutR rid) frames h = h
counted_one (PipeShutW rid) frames h = h
counted_one (Close reason) frames h = h

expect_counted : (frame : Frame) (frames : List Frame) (e : Expected) → expect (counted (frame ∷ frames)) e ≡ expect (counted frames) (expect_frame frame e)
expect_counted (Ack count) frames e = refl
expect_counted (Restart token connection received) frames e = refl
expect_counted (Protocol bytes) frames e = refl
expect_counted (Inject rids) frames e = refl
expect_counted (OpenFile rid size) frames e = refl
expect_counted (ExtendFile rid size) frames e = refl
expect_counted (Fill rid start end bytes) frames e = refl
expect_counted (OpenPipe rid) frames e = refl
expect_counted (PipeTransfer rid bytes) frames e = refl
expect_counted (PipeShutR rid) frames e = refl
expect_counted (PipeShutW rid) frames e = refl
expect_counted (Close reason) frames e = refl

lone_taking : (s : LogState) (frame : Frame) → (after_lone s frame).taking ≡ s.taking
lone_taking s (Close reason) = refl
lone_taking s _ = refl

pub group_taking : (s : LogState) (owes : Option Owed) (frames : List Frame) → (after_group s owes frames).taking ≡ s.taking
group_taking s (Some owed) frames = refl
group_taking s None [] = refl
group_taking s None (frame ∷ []) = lone_taking s frame
group_taking s None (frame ∷ next ∷ frames) = refl

-- what the frames mean and what they give
abbrev Agree : Side → LogState → List Mark → List Sent → Type 0
Agree side s story given = (carry_all side story (at_state s given)).given ≡ (expect (accepted_in story) (expected s given)).given

-- two states that agree in what counts
same_agree : (side : Side) (s next : LogState) (story : List Mark) (given : List Sent) → next.tables.objects.tracked ≡ s.tables.objects.tracked → next.taking ≡ s.taking
    → Agree side next story given → Agree side s story given
same_agree side s next story given objects taking h =
    ap (λ (o : Tracked). (carry_all side story (as_carried o s.taking.waiting given)).given) (sym objects)
    ∙ ap (λ (t : Taking). (carry_all side story (as_carried next.tables.objects.tracked t.waiting given)).given) (sym taking)
    ∙ h
    ∙ ap (λ (t : Taking). (expect (accepted_in story) (record { waiting = t.waiting; given = given })).given) taking

agrees_from : (side : Side) (s : LogState) (story : List Mark) (given : List Sent) → Sound side s → AllByRecursion HasOne (accepted_in story) → Logs s story → Agree side s story given
agrees_from side s [] given sound one logs = refl
agrees_from side s (Taken message handle segments ∷ story) given sound one logs =
    let mark : Mark = Taken message handle segments in
    let p = passed s message handle segments logs.0 in
    let W : Side → Type 0 = λ sd. step (own_way sd) s.tables.objects.tracked message ≡ Ok p.done in
    let next = agrees_from side (log_next s mark) story given (sound_next side s mark sound logs.0) one logs.1 in
    let objects : (log_next s mark).tables.objects.tracked ≡ p.done.objects = ap (λ (o : ObjectsState). o.tracked) (taken_objects s message handle segments p) in
    ap (λ (r : Result Admission ObjectFault). (carry_all side story (carry_own r (at_state s given))).given) (subst W sound.tables.0 p.stepped)
    ∙ same_agree side (record s { tables = record s.tables { objects = record s.tables.objects { tracked = p.done.objects } } }) (log_next s mark) story given objects
    (ap (λ (t : LogState). t.taking) (after_taken s message handle segments p)) next
agrees_from side s (Heard frame ∷ story) given sound one logs =
    let both = counted_one frame (heard_in story) one in
    let c = carries side s frame given sound.tables.0 logs.0 both.0 in
    ap (λ (x : Carried). (carry_all side story x).given) c.meant
    ∙ agrees_from side (log_next s (Heard frame)) story c.new (sound_next side s (Heard frame) sound logs.0) both.1 logs.1
    ∙ ap (λ (e : Expected). (expect (accepted_in story) e).given) (sym c.told)
    ∙ ap (λ (e : Expected). e.given) (sym (expect_counted frame (heard_in story) (expected s given)))
agrees_from side s (Dropped rid ∷ story) given sound one logs =
    agrees_from side (log_next s (Dropped rid)) story given (sound_next side s (Dropped rid) sound logs.0) one logs.1
agrees_from side s (Grouped frames copies ∷ story) given sound one logs =
    let mark : Mark = Grouped frames copies in
    same_agree side s (log_next s mark) story given (ap (λ (o : ObjectsState). o.tracked) (group_objects s s.owes frames)) (group_taking s s.owes frames)
    (agrees_from side (log_next s mark) story given (sound_next side s mark sound logs.0) one logs.1)

-- ---- of two sides

front_all : {X : Type 0} (P : X → Type 0) (xs ys : List X) → AllByRecursion P (xs ++ ys) → AllByRecursion P xs
front_all P [] ys h = tt
front_all P (x ∷ xs) ys h = (h.0, front_all P xs ys h.1)

-- the messages of frames with one message each are given
given_messages : (frames : List Frame) (e : Expected) → AllByRecursion HasOne frames → map (λ (sent : Sent). sent.0) (expect frames e).given ≡ map (λ (sent : Sent). sent.0) e.given ++ messages_in frames
given_messages [] e one = sym (append-nil (map (λ (sent : Sent). sent.0) e.given))
given_messages (Protocol bytes ∷ frames) e one =
    given_messages frames (expect_frame (Protocol bytes) e) one.1
    ∙ ap (λ (ms : List (List ℕ)). ms ++ messages_in frames) (map-append (λ (sent : Sent). sent.0) e.given _)
    ∙ append_assoc (map (λ (sent : Sent). sent.0) e.given) (bytes ∷ []) (messages_in frames)
    ∙ ap (λ (ms : List (List ℕ)). map (λ (sent : Sent). sent.0) e.given ++ (ms ++ messages_in frames)) (sym (cut_alone bytes one.0))
given_messages (Inject rids ∷ frames) e one = given_messages frames (expect_frame (Inject rids) e) one.1
given_messages (OpenFile rid size ∷ frames) e one = given_messages frames e one.1
given_messages (ExtendFile rid size ∷ frames) e one = given_messages frames e one.1
given_messages (Fill rid start end bytes ∷ frames) e one = given_messages frames e one.1
given_messages (OpenPipe rid ∷ frames) e one = given_messages frames e one.1
given_messages (PipeTransfer rid bytes ∷ frames) e one = given_messages frames e one.1
given_messages (PipeShutR rid ∷ frames) e one = given_messages frames e one.1
given_messages (PipeShutW rid ∷ frames) e one = given_messages frames e one.1
given_messages (Ack count ∷ frames) e one = given_messages frames e one.1
given_messages (Restart token connection received ∷ frames) e one = given_messages frames e one.1
given_messages (Close reason ∷ frames) e one = given_messages frames e one.1

-- the reader's frames have one message each
one_each : (side : Side) (writer reader : List Mark) → IsStory side writer → Hears reader writer → AllByRecursion HasOne (accepted_in reader)
one_each side writer reader writes hears =
    let A : List Frame → Type 0 = λ fs. AllByRecursion HasOne fs in
    front_all HasOne (accepted_in reader) hears.rest (subst A (sym hears.is) (gives side writer writes).alone)

first_expected : Expected
first_expected = record { waiting = []; given = [] }

meant_is : (side : Side) (reader : List Mark) → IsStory side reader → AllByRecursion HasOne (accepted_in reader)
    → (carry_all side reader none_carried).given ≡ (expect (accepted_in reader) first_expected).given
unfolding first_expected
meant_is side reader reads one = agrees_from side (log_new side) reader [] (sound_new side) one reads

pub given_is_sent : GivenIsSent
unfolding first_expected
given_is_sent side writer reader writes reads hears =
    let one = one_each side writer reader writes hears in
    let F : List Frame → Type 0 = λ fs. IsFront (expect (accepted_in reader) first_expected).given (expect fs first_expected).given in
    let G : Expected → Type 0 = λ e. IsFront (expect (accepted_in reader) first_expected).given e.given in
    let more : IsFront (expect (accepted_in reader) first_expected).given (expect (made_in writer) first_expected).given =
    subst F hears.is (subst G (sym (expect-append (accepted_in reader) hears.rest first_expected)) (expect_front hears.rest (expect (accepted_in reader) first_expected))) in
    IsFront_trans (IsFront_same _ _ (meant_is (other_side side) reader reads one)) (IsFront_trans more (gives side writer writes).front)

pub all_is_given : AllIsGiven
unfolding first_expected
all_is_given side writer reader writes reads hears =
    let one = one_each side writer reader writes hears in
    ap (λ (given : List Sent). map (λ (sent : Sent). sent.0) given) (meant_is (other_side side) reader reads one) ∙ given_messages (accepted_in reader) first_expected one
