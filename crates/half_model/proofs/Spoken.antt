-- What a PROTOCOL frame gives: handles and messages alone, just those that it means.
use Rattle.std.proofs.Common.{◌≡◌, ℕ, List, [], ◌∷◌, ◌++◌, ℤ, Option, Some, None, Result, Ok, Err, refl, sym, ap, ◌∙◌, append_assoc, append-nil}
use Rattle.wp_outside.specs.declared.kinds.HandleKind.{HandleKind}
use Rattle.wl_wire.specs.declared.faults.ObjectFault.{ObjectFault}
use Rattle.wl_tables.specs.declared.way.Way.{Way}
use Rattle.wl_objects.specs.Entries.{Tracked}
use Rattle.wl_objects.specs.Tracking.{Admission, step}
use Rattle.handle_table.specs.Table.{Table, kind_of_rid}
use Rattle.transfer_frames.specs.declared.cause.FrameCause.TheVariants.{RidCount}
use Rattle.half_model.specs.declared.items.PeerOut.{PeerOut}
use Rattle.half_model.specs.declared.items.PeerOut.TheVariants as items
use Rattle.half_model.specs.Content.{Passage, has_kind, passed_with, passed_alone, passed_by_kind, passed_step, pass_all}
use Rattle.half_model.specs.ItemLaws.{sent_among, file_items, pipe_items_of}
use Rattle.half_model.specs.Meaning.{Flow, carried_by_kind, carried_with, carried_step, carry_messages}
use Rattle.half_model.specs.PeerState.{PeerState, peer_took_all}
use Rattle.half_model.specs.Planning.{kind_carried}
use Rattle.half_model.specs.Story.{Sent}
use Rattle.half_model.proofs.Carrying.{as_carried}
use Rattle.half_model.proofs.Passages.{goes_ok, chosen_ok, same_passage}

-- items that are those of messages, and how they stand before others
pub record IsSpoken (new : List PeerOut) : Type 0 where
  pub ends : (rest : List PeerOut) → sent_among None (new ++ rest) ≡ sent_among None new ++ sent_among None rest
  pub files : (rid : ℤ) (bytes : Option (List ℕ)) → file_items rid new bytes ≡ bytes
  pub pipes : (rid : ℤ) (flow : Flow) → pipe_items_of rid new flow ≡ flow
  pub peer : (peer : PeerState) → (peer_took_all new peer).mirrors ≡ peer.mirrors

-- from one passage to another
pub record Speaks (way : Way) (messages : List (List ℕ)) (now after : Passage) : Type 0 where
  pub new : List PeerOut
  pub is : after.given ≡ now.given ++ new
  pub spoken : IsSpoken new
  pub meant : (given : List Sent) → carry_messages way messages (as_carried now.tracked now.waiting given) ≡ as_carried after.tracked after.waiting (given ++ sent_among None new)

none_spoken : IsSpoken []
none_spoken = record { ends = λ rest. refl; files = λ rid bytes. refl; pipes = λ rid flow. refl; peer = λ p. refl }

speaks_with : (way : Way) (tracked : Tracked) (message : List ℕ) (kind : HandleKind) (now after : Passage) (handles : Table) (rids : List ℤ)
    → passed_with tracked message kind now handles rids ≡ Ok after
    → (new : List PeerOut) × (after.given ≡ now.given ++ new) × IsSpoken new
    × ((given : List Sent) → carried_with rids message (as_carried tracked rids given) ≡ as_carried after.tracked after.waiting (given ++ sent_among None new))
speaks_with way tracked message kind now after handles [] e = absurd cc
speaks_with way tracked message kind now after handles (rid ∷ rids) e =
    let is = (chosen_ok (has_kind kind (kind_of_rid handles rid)) _ after RidCount e).1 in (
      items.Handle (record { number = rid; kind = kind }) ∷ items.Bytes message ∷ [],
      ap (λ (p : Passage). p.given) (sym is),
      record { ends = λ rest. refl; files = λ r bytes. refl; pipes = λ r flow. refl; peer = λ p. refl },
      λ given. ap (λ (p : Passage). as_carried p.tracked p.waiting (given ++ (message, Some rid) ∷ [])) is,
    )

speaks_by_kind : (way : Way) (kind : Option HandleKind) (tracked : Tracked) (message : List ℕ) (now after : Passage) (handles : Table)
    → passed_by_kind kind tracked message now handles ≡ Ok after
    → (new : List PeerOut) × (after.given ≡ now.given ++ new) × IsSpoken new
    × ((given : List Sent) → carried_by_kind kind message (as_carried tracked now.waiting given) ≡ as_carried after.tracked after.waiting (given ++ sent_among None new))
speaks_by_kind way None tracked message now after handles e =
    let is = same_passage (passed_alone tracked message now) after _ refl e in (
      items.Bytes message ∷ [],
      ap (λ (p : Passage). p.given) (sym is),
      record { ends = λ rest. refl; files = λ rid bytes. refl; pipes = λ rid flow. refl; peer = λ p. refl },
      λ given. ap (λ (p : Passage). as_carried p.tracked p.waiting (given ++ (message, None) ∷ [])) is,
    )
speaks_by_kind way (Some kind) tracked message now after handles e = speaks_with way tracked message kind now after handles now.waiting e

speaks_step : (told : Result Admission ObjectFault) (way : Way) (message : List ℕ) (now after : Passage) (handles : Table)
    → passed_step told way message now handles ≡ Ok after
    → (new : List PeerOut) × (after.given ≡ now.given ++ new) × IsSpoken new
    × ((given : List Sent) → carried_step way told message (as_carried now.tracked now.waiting given) ≡ as_carried after.tracked after.waiting (given ++ sent_among None new))
speaks_step (Ok done) way message now after handles e = speaks_by_kind way (kind_carried way done.passed) done.objects message now after handles e
speaks_step (Err fault) way message now after handles e = absurd cc

pub files_both : (rid : ℤ) (xs ys : List PeerOut) (bytes : Option (List ℕ)) → file_items rid (xs ++ ys) bytes ≡ file_items rid ys (file_items rid xs bytes)
files_both rid [] ys bytes = refl
files_both rid (x ∷ xs) ys bytes = files_both rid xs ys _

pub pipes_both : (rid : ℤ) (xs ys : List PeerOut) (flow : Flow) → pipe_items_of rid (xs ++ ys) flow ≡ pipe_items_of rid ys (pipe_items_of rid xs flow)
pipes_both rid [] ys flow = refl
pipes_both rid (x ∷ xs) ys flow = pipes_both rid xs ys _

pub took_both : (xs ys : List PeerOut) (peer : PeerState) → peer_took_all (xs ++ ys) peer ≡ peer_took_all ys (peer_took_all xs peer)
took_both [] ys peer = refl
took_both (x ∷ xs) ys peer = took_both xs ys _

both_spoken : (xs ys : List PeerOut) → IsSpoken xs → IsSpoken ys → IsSpoken (xs ++ ys)
both_spoken xs ys h k = record {
  ends = λ rest.
      ap (sent_among None) (append_assoc xs ys rest)
      ∙ h.ends (ys ++ rest)
      ∙ ap (λ (ms : List Sent). sent_among None xs ++ ms) (k.ends rest)
      ∙ sym (append_assoc (sent_among None xs) (sent_among None ys) (sent_among None rest))
      ∙ ap (λ (ms : List Sent). ms ++ sent_among None rest) (sym (h.ends ys));
  files = λ rid bytes. files_both rid xs ys bytes ∙ ap (file_items rid ys) (h.files rid bytes) ∙ k.files rid bytes;
  pipes = λ rid flow. pipes_both rid xs ys flow ∙ ap (pipe_items_of rid ys) (h.pipes rid flow) ∙ k.pipes rid flow;
  peer = λ p. ap (λ (q : PeerState). q.mirrors) (took_both xs ys p) ∙ k.peer (peer_took_all xs p) ∙ h.peer p;
}

pub speaks : (way : Way) (handles : Table) (messages : List (List ℕ)) (now after : Passage) → pass_all way handles messages now ≡ Ok after → Speaks way messages now after
speaks way handles [] now after e =
    let is = same_passage now after _ refl e in
    record {
      new = [];
      is = ap (λ (p : Passage). p.given) (sym is) ∙ sym (append-nil now.given);
      spoken = none_spoken;
      meant = λ given. ap (λ (p : Passage). as_carried p.tracked p.waiting given) is ∙ ap (λ (ms : List Sent). as_carried after.tracked after.waiting ms) (sym (append-nil given));
    }
speaks way handles (message ∷ messages) now after e =
    let got = goes_ok (passed_step (step way now.tracked message) way message now handles) (pass_all way handles messages) after e in
    let one = speaks_step (step way now.tracked message) way message now got.0 handles got.1 in
    let rest = speaks way handles messages got.0 after got.2 in
    record {
      new = one.0 ++ rest.new;
      is = rest.is ∙ ap (λ (given : List PeerOut). given ++ rest.new) one.1 ∙ append_assoc now.given one.0 rest.new;
      spoken = both_spoken one.0 rest.new one.2 rest.spoken;
      meant = λ given.
          ap (carry_messages way messages) (one.3 given)
          ∙ rest.meant (given ++ sent_among None one.0)
          ∙ ap (λ (ms : List Sent). as_carried after.tracked after.waiting ms)
          (append_assoc given (sent_among None one.0) (sent_among None rest.new) ∙ ap (λ (ms : List Sent). given ++ ms) (sym (one.2.ends rest.new)));
    }
