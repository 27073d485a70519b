-- A plain run is a part of a row.
use Rattle.std.proofs.Common.{◌≡◌, suc, zero, [], ◌∷◌, refl, sym, ◌∙◌, append_assoc}
use Rattle.std.proofs.lemmas.List.{append-nil}
use Rattle.side_model.specs.Due.{next}
use Rattle.side_model.specs.Events.{Next, Do, Halt, Rest}
use Rattle.side_model.specs.Running.{Run, happens, and_notes, goes_on, settle, Settles, SettlesByPart}

stays : (run : Run) → Settles run run
stays run = record { events = []; due = sym (append-nil run.due); part = refl; book = refl }

pub settles_by_part : SettlesByPart
settles_by_part zero run = stays run
settles_by_part (suc most) run = by_due (settles_by_part most) (next run.now) refl
  where
    by_due : ((later : Run) → Settles later (settle most later)) → (due : Next) → next run.now ≡ due → Settles run (goes_on due run (settle most))
    by_due rest (Do event) e =
        let after : Settles (and_notes event (happens event run)) (settle most (and_notes event (happens event run))) = rest (and_notes event (happens event run)) in
        record {
          events = event ∷ after.events;
          due = after.due ∙ append_assoc run.due (event ∷ []) after.events;
          part = (e, after.part);
          book = after.book;
        }
    by_due rest (Halt fault) e = stays run
    by_due rest Rest e = stays run
