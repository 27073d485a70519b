-- The messages of a frame that a side accepts: tracking lets each pass, and no rid waits behind them.
use Rattle.std.proofs.Common.{◌≡◌, ℕ, Bool, true, false, cond, List, [], ◌∷◌, ◌++◌, map, ℤ, Option, Some, None, Result, Ok, Err, refl, sym, ap, ◌∙◌}
use Rattle.wp_outside.specs.declared.kinds.HandleKind.{HandleKind}
use Rattle.wl_wire.specs.declared.faults.ObjectFault.{ObjectFault}
use Rattle.wl_wire.specs.Wire.{cut}
use Rattle.wl_tables.specs.declared.way.Way.{Way}
use Rattle.wl_tables.specs.declared.way.Way.TheVariants.{Request}
use Rattle.wl_objects.specs.Entries.{Tracked}
use Rattle.wl_objects.specs.Registry.{visible, shown_then, state_after, after_then}
use Rattle.wl_objects.specs.Tracking.{Admission, step, track, then_goes}
use Rattle.handle_table.specs.Table.{Table, kind_of_rid}
use Rattle.transfer_frames.specs.declared.cause.FrameCause.{FrameCause}
use Rattle.transfer_frames.specs.declared.cause.FrameCause.TheVariants.{RidCount}
use Rattle.half_model.specs.Content.{Taking, Passage, has_kind, passed_alone, passed_with, passed_by_kind, passed_step, and_then, pass_all, none_waits, passage_of, cause_in}
use Rattle.half_model.specs.Planning.{kind_carried}
use Rattle.half_model.specs.Sides.{other_way}
use Rattle.half_model.specs.Tables.{Tables}

-- ---- one message

pub goes_ok : (told : Result Passage FrameCause) (next : Passage → Result Passage FrameCause) (after : Passage) → and_then told next ≡ Ok after
    → (between : Passage) × (told ≡ Ok between) × (next between ≡ Ok after)
goes_ok (Ok between) next after e = (between, refl, e)
goes_ok (Err cause) next after e = absurd cc

pub chosen_ok : (b : Bool) (it after : Passage) (cause : FrameCause) → cond b (Ok it) (Err cause) ≡ Ok after → (b ≡ true) × (it ≡ after)
chosen_ok true it after cause e = (refl, cc)
chosen_ok false it after cause e = absurd cc

pub same_passage : (a b : Passage) (told : Result Passage FrameCause) → told ≡ Ok a → told ≡ Ok b → a ≡ b
same_passage a b told e f = cc

tracked-with : (tracked : Tracked) (message : List ℕ) (kind : HandleKind) (now after : Passage) (handles : Table) (rids : List ℤ)
    → passed_with tracked message kind now handles rids ≡ Ok after → tracked ≡ after.tracked
tracked-with tracked message kind now after handles [] e = absurd cc
tracked-with tracked message kind now after handles (rid ∷ rids) e =
    ap (λ (p : Passage). p.tracked) (chosen_ok (has_kind kind (kind_of_rid handles rid)) _ after RidCount e).1

tracked-by_kind : (kind : Option HandleKind) (tracked : Tracked) (message : List ℕ) (now after : Passage) (handles : Table)
    → passed_by_kind kind tracked message now handles ≡ Ok after → tracked ≡ after.tracked
tracked-by_kind None tracked message now after handles e = ap (λ (p : Passage). p.tracked) (same_passage (passed_alone tracked message now) after _ refl e)
tracked-by_kind (Some kind) tracked message now after handles e = tracked-with tracked message kind now after handles now.waiting e

-- a message that passes
pub record IsStepped (way : Way) (told : Result Admission ObjectFault) (after : Passage) : Type 0 where
  pub done : Admission
  pub is : told ≡ Ok done
  pub tracked : done.objects ≡ after.tracked

pub stepped : (told : Result Admission ObjectFault) (way : Way) (message : List ℕ) (now after : Passage) (handles : Table)
    → passed_step told way message now handles ≡ Ok after → IsStepped way told after
stepped (Ok done) way message now after handles e =
    record { done = done; is = refl; tracked = tracked-by_kind (kind_carried way done.passed) done.objects message now after handles e }
stepped (Err fault) way message now after handles e = absurd cc

-- ---- all of them

-- the messages with their way
abbrev pub ways : Way → List (List ℕ) → List (Way × List ℕ)
ways way messages = map (λ message. (way, message)) messages

pub track-passed : (way : Way) (handles : Table) (messages : List (List ℕ)) (now after : Passage) (rest : List (Way × List ℕ))
    → pass_all way handles messages now ≡ Ok after → track now.tracked (ways way messages ++ rest) ≡ track after.tracked rest
track-passed way handles [] now after rest e = ap (λ (p : Passage). track p.tracked rest) (same_passage now after _ refl e)
track-passed way handles (message ∷ messages) now after rest e =
    let got = goes_ok (passed_step (step way now.tracked message) way message now handles) (pass_all way handles messages) after e in
    let one = stepped (step way now.tracked message) way message now got.0 handles got.1 in
    ap (λ (r : Result Admission ObjectFault). then_goes r (λ done. track done.objects (ways way messages ++ rest))) one.is
    ∙ ap (λ (objects : Tracked). track objects (ways way messages ++ rest)) one.tracked
    ∙ track-passed way handles messages got.0 after rest got.2

-- requests show nothing and leave the hidden pairs
pub visible-passed : (handles : Table) (messages : List (List ℕ)) (now after : Passage) (hidden : List (ℕ × ℕ)) (rest : List (Way × List ℕ))
    → pass_all Request handles messages now ≡ Ok after
    → visible (record { tracked = now.tracked; hidden = hidden }) (ways Request messages ++ rest) ≡ visible (record { tracked = after.tracked; hidden = hidden }) rest
visible-passed handles [] now after hidden rest e = ap (λ (p : Passage). visible (record { tracked = p.tracked; hidden = hidden }) rest) (same_passage now after _ refl e)
visible-passed handles (message ∷ messages) now after hidden rest e =
    let got = goes_ok (passed_step (step Request now.tracked message) Request message now handles) (pass_all Request handles messages) after e in
    let one = stepped (step Request now.tracked message) Request message now got.0 handles got.1 in
    ap (λ (r : Result Admission ObjectFault). shown_then r Request hidden message (λ next. visible next (ways Request messages ++ rest))) one.is
    ∙ ap (λ (objects : Tracked). visible (record { tracked = objects; hidden = hidden }) (ways Request messages ++ rest)) one.tracked
    ∙ visible-passed handles messages got.0 after hidden rest got.2

pub state-passed : (handles : Table) (messages : List (List ℕ)) (now after : Passage) (hidden : List (ℕ × ℕ)) (rest : List (Way × List ℕ))
    → pass_all Request handles messages now ≡ Ok after
    → state_after (record { tracked = now.tracked; hidden = hidden }) (ways Request messages ++ rest) ≡ state_after (record { tracked = after.tracked; hidden = hidden }) rest
state-passed handles [] now after hidden rest e = ap (λ (p : Passage). state_after (record { tracked = p.tracked; hidden = hidden }) rest) (same_passage now after _ refl e)
state-passed handles (message ∷ messages) now after hidden rest e =
    let got = goes_ok (passed_step (step Request now.tracked message) Request message now handles) (pass_all Request handles messages) after e in
    let one = stepped (step Request now.tracked message) Request message now got.0 handles got.1 in
    ap (λ (r : Result Admission ObjectFault). after_then r Request (record { tracked = now.tracked; hidden = hidden }) message (λ next. state_after next (ways Request messages ++ rest))) one.is
    ∙ ap (λ (objects : Tracked). state_after (record { tracked = objects; hidden = hidden }) (ways Request messages ++ rest)) one.tracked
    ∙ state-passed handles messages got.0 after hidden rest got.2

-- ---- a whole frame

-- at first, as a side knows it
abbrev pub passage_new : Tables → Taking → Passage
passage_new tables taking = record { tracked = tables.objects.tracked; waiting = taking.waiting; held = taking.held; given = [] }

pub record IsAccepted (tables : Tables) (taking : Taking) (bytes : List ℕ) : Type 0 where
  pub after : Passage
  pub is : passage_of tables taking bytes ≡ Ok after
  pub all : pass_all (other_way tables.handles.side) tables.handles (cut bytes) (passage_new tables taking) ≡ Ok after
  pub none : after.waiting ≡ []

used_ok : (waiting : List ℤ) (now after : Passage) → none_waits waiting now ≡ Ok after → (waiting ≡ []) × (now ≡ after)
used_ok [] now after e = (refl, cc)
used_ok (rid ∷ rids) now after e = absurd cc

ok_in : (told : Result Passage FrameCause) → cause_in told ≡ None → (after : Passage) × (told ≡ Ok after)
ok_in (Ok after) e = (after, refl)
ok_in (Err cause) e = absurd cc

pub accepted : (tables : Tables) (taking : Taking) (bytes : List ℕ) → cause_in (passage_of tables taking bytes) ≡ None → IsAccepted tables taking bytes
accepted tables taking bytes e =
    let got = ok_in (passage_of tables taking bytes) e in
    let used = goes_ok (pass_all (other_way tables.handles.side) tables.handles (cut bytes) (passage_new tables taking)) (λ now. none_waits now.waiting now) got.0 got.1 in
    let last = used_ok used.0.waiting used.0 got.0 used.2 in
    record {
      after = got.0;
      is = got.1;
      all = used.1 ∙ ap (λ (p : Passage). Ok p) last.1;
      none = ap (λ (p : Passage). p.waiting) (sym last.1) ∙ last.0;
    }
