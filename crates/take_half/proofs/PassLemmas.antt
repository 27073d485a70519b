-- A message that tracking lets pass goes on by the kind of handle that its row of the table carries,
-- and what the objects were before it no longer matters.
use Rattle.std.proofs.Common.{◌≡◌, ℕ, ℤ, List, [], ◌∷◌, Option, Some, None, Result, Ok, Err, ap, sym, subst, ◌∙◌, refl}
use Rattle.wl_wire.specs.declared.faults.ObjectFault.{ObjectFault}
use Rattle.wl_wire.specs.Wire.{opcode_of}
use Rattle.wl_tables.specs.declared.interface.Interface.{Interface}
use Rattle.wl_tables.specs.declared.way.Way.{Way}
use Rattle.wl_tables.specs.Messages.{handle_kind}
use Rattle.wl_tables.specs.Ways.{is_event}
use Rattle.wl_objects.specs.Answering.{interface_in}
use Rattle.wl_objects.specs.Entries.{Tracked}
use Rattle.wl_objects.specs.Tracking.{Admission, step}
use Rattle.wl_objects.proofs.Rows.{passed_by_the_table}
use Rattle.wp_outside.specs.declared.kinds.HandleKind.{HandleKind}
use Rattle.handle_table.specs.Table.{Table}
use Rattle.transfer_frames.specs.declared.cause.FrameCause.{FrameCause}
use Rattle.half_model.specs.declared.causes.TakeFault.{TakeFault}
use Rattle.half_model.specs.Content.{Passage, passed_by_kind, passed_step, passed_with}
use Rattle.take_half.specs.Passages.{PassingState, passage, Passes}

told_step : (way : Way) (objects : Tracked) (message : List ℕ) (interface : Interface) (after : Tracked) (now : Passage) (handles : Table) (told : Result Admission ObjectFault)
    → step way objects message ≡ told → interface_in told ≡ Ok (interface, after)
    → passed_step told way message now handles ≡ passed_by_kind (handle_kind interface (is_event way) (opcode_of message)) after message now handles
told_step way objects message interface after now handles (Ok done) is found =
    let same : (done.passed.interface, done.objects) ≡ (interface, after) = cc in
    let row = passed_by_the_table way objects message done is in
    ap (λ (opcode : ℕ). passed_by_kind (handle_kind done.passed.interface (is_event way) opcode) done.objects message now handles) row.opcode
    ∙ ap (λ (it : Interface × Tracked). passed_by_kind (handle_kind it.0 (is_event way) (opcode_of message)) it.1 message now handles) same
told_step way objects message interface after now handles (Err fault) is found = absurd (let never : ⊥ = cc in never)

tracked_step : (way : Way) (objects : Tracked) (message : List ℕ) (interface : Interface) (after : Tracked) (now : Passage) (handles : Table)
    → interface_in (step way objects message) ≡ Ok (interface, after)
    → passed_step (step way objects message) way message now handles ≡ passed_by_kind (handle_kind interface (is_event way) (opcode_of message)) after message now handles
tracked_step way objects message interface after now handles found =
    told_step way objects message interface after now handles (step way objects message) refl found

-- what the objects were before
passed_from_any : (kind : Option HandleKind) (before after : Tracked) (message : List ℕ) (s : PassingState) (handles : Table)
    → passed_by_kind kind after message (passage before s) handles ≡ passed_by_kind kind after message (passage after s) handles
passed_from_any None before after message s handles = refl
passed_from_any (Some kind) before after message s handles = by s.waiting
  where
    by : (rids : List ℤ) → passed_with after message kind (passage before s) handles rids ≡ passed_with after message kind (passage after s) handles rids
    by [] = refl
    by (rid ∷ rids) = refl

-- what a call tells that passes a message by its kind, of a message that was tracked
pub tracked_passes : (result : Result (Unit {0}) TakeFault) (way : Way) (objects : Tracked) (message : List ℕ) (interface : Interface) (kind : Option HandleKind) (after : Tracked) (old new : PassingState) (handles : Table)
    → interface_in (step way objects message) ≡ Ok (interface, after) → kind ≡ handle_kind interface (is_event way) (opcode_of message)
    → Passes result (passed_by_kind kind after message (passage after old) handles) (passage after new)
    → Passes result (passed_step (step way objects message) way message (passage objects old) handles) (passage after new)
tracked_passes result way objects message interface kind after old new handles found is passes =
    let P : Result Passage FrameCause → Type 0 = λ told. Passes result told (passage after new) in
    subst P
    (sym (tracked_step way objects message interface after (passage objects old) handles found
    ∙ ap (λ (k : Option HandleKind). passed_by_kind k after message (passage objects old) handles) (sym is)
    ∙ passed_from_any kind objects after message old handles))
    passes
