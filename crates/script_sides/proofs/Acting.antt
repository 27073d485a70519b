-- A side stays ready while its peer does lines, and when it keeps frames.
use Rattle.std.proofs.Common.{◌≡◌, ℕ, ◌<◌, ℤ, List, [], ◌∷◌, ◌++◌, drop, map, length, Bool, true, false, not, cond, nat_lt, Option, Some, None, Result, Ok, Err, OnOk, refl, sym, ap, subst, ◌∙◌, arith, length-drop}
use Rattle.std.proofs.lemmas.Bool.{ltb-true, ltb-false, cond_both}
use Rattle.std.proofs.lemmas.List.{drop_all}
use Rattle.std.specs.List.{AllByRecursion, cons_option}
use Rattle.std.specs.Prelude.{option_map}
use Rattle.half_model.specs.declared.items.PeerIn.{PeerIn}
use Rattle.half_model.specs.declared.items.PeerIn.TheVariants as items
use Rattle.handle_table.specs.declared.handles.Handle.{Handle}
use Rattle.receipt_laws.specs.Owning.{PutIsOwn}
use Rattle.receipt_laws.specs.OwnLaws.{Grows}
use Rattle.script_lang.specs.declared.steps.StepKind.{StepKind}
use Rattle.script_lang.specs.declared.steps.StepKind.TheVariants as line
use Rattle.script_peers.specs.Owning.{handle_of, note_on}
use Rattle.script_peers.specs.Peers.{ScriptedPeer, did, Acts}
use Rattle.script_peers.specs.Putting.{note_if, wants_note, handle_items, is_pipe_piece, is_own, items_by}
use Rattle.script_peers.specs.Wires.{piece_of}
use Rattle.script_peers.proofs.Keeping.{receipts_are_own}
use Rattle.script_sides.specs.Ready.{OwnOf, IsReady}
use Rattle.script_sides.specs.Sided.{SideRun}
use Rattle.script_sides.proofs.Sounds.{wire_more, sound_more}
use Rattle.side_model.proofs.Sounds.{all_append}
use Rattle.side_model.specs.Shows.{is_empty}
use Rattle.transfer_frames.specs.declared.frame.Frame.{Frame}
use Rattle.transfer_frames.specs.Grammar.{spelling}
use Rattle.wl_wire.specs.Wire.{opcode_of}
use Rattle.wp_outside.specs.declared.pipe_items.PipeItem.TheVariants as pipe_items

pub ok_more : {X E P Q : Type 0} (result : Result X E) → (P → Q) → OnOk result P → OnOk result Q
ok_more (Ok value) f h = f h
ok_more (Err error) f h = tt

-- ---- what lines put is own

module _ (peer : ScriptedPeer) where
  abbrev AllPut : List PeerIn → Type 0
  AllPut put = AllByRecursion (PutIsOwn (OwnOf peer)) put

  bytes_put : (bytes : List ℕ) → AllPut (piece_of bytes)
  bytes_put [] = tt
  bytes_put (byte ∷ bytes) = (tt, tt)

  handles_put : (numbers : List ℤ) → AllPut (handle_items peer.own numbers)
  handles_put [] = tt
  handles_put (number ∷ numbers) = one (handle_of peer.own number) (handles_put numbers)
    where
      one : (handle : Option Handle) → AllPut (handle_items peer.own numbers) → AllPut (cons_option (option_map items.Handle handle) (handle_items peer.own numbers))
      one None rest = rest
      one (Some handle) rest = (tt, rest)

  note_put : (wanted : Bool) → AllPut (note_if wanted peer.own)
  note_put wanted =
      cond_both wanted (items.Note (note_on peer.own.files) ∷ []) [] (AllByRecursion (PutIsOwn (OwnOf peer)))
      (λ e. (λ number segment eye found receipt n p. receipts_are_own.noted peer.own.files number segment eye receipt found n p, tt)) (λ e. tt)

  items_put : (what : StepKind) → AllPut (items_by peer.own what)
  items_put (line.Hex side bytes) = bytes_put bytes
  items_put (line.Say side text) =
      all_append (PutIsOwn (OwnOf peer)) (note_if (wants_note side text.interface (opcode_of text.message)) peer.own) (handle_items peer.own text.handles ++ piece_of text.message)
      (note_put (wants_note side text.interface (opcode_of text.message)))
      (all_append (PutIsOwn (OwnOf peer)) (handle_items peer.own text.handles) (piece_of text.message) (handles_put text.handles) (bytes_put text.message))
  items_put (line.Give side number) = handles_put (number ∷ [])
  items_put (line.Put side pipe bytes) =
      cond_both (is_pipe_piece bytes) (items.Pipe (pipe_items.Bytes pipe bytes) ∷ []) [] (AllByRecursion (PutIsOwn (OwnOf peer))) (λ e. (tt, tt)) (λ e. tt)
  items_put (line.End side pipe) = (tt, tt)
  items_put (line.Shut side number) = (tt, tt)
  items_put what = tt

-- ---- a line

acted_side : (b : Bool) (new old : ScriptedPeer) → new.side ≡ old.side → (cond b new old).side ≡ old.side
acted_side true new old e = e
acted_side false new old e = refl

pub act_ready : (it : SideRun) (what : StepKind) (peer : ScriptedPeer) → IsReady it → Acts what it.peer peer → IsReady (record it { peer = peer })
act_ready it what peer h acts =
    let grows : Grows (OwnOf it.peer) (OwnOf peer) = λ number segment receipt own. receipts_are_own.acts it.peer peer what number segment receipt own acts in
    let wire : AllByRecursion (PutIsOwn (OwnOf it.peer)) peer.wire =
    subst (λ (p : ScriptedPeer). AllByRecursion (PutIsOwn (OwnOf it.peer)) p.wire) (sym acts.1)
    (cond_both (is_own it.peer.side what) (did acts.0 what it.peer) it.peer (λ (p : ScriptedPeer). AllByRecursion (PutIsOwn (OwnOf it.peer)) p.wire)
    (λ e. all_append (PutIsOwn (OwnOf it.peer)) it.peer.wire (items_by it.peer.own what) h.sound.wire (items_put it.peer what)) (λ e. h.sound.wire))
    in
    let side : peer.side ≡ it.peer.side = ap (λ (p : ScriptedPeer). p.side) acts.1 ∙ acted_side (is_own it.peer.side what) (did acts.0 what it.peer) it.peer refl in
    record { sound = sound_more it peer h.sound side grows (wire_more it.peer peer grows peer.wire wire); items = h.items; receipts = h.receipts }

-- ---- frames that are kept

some_kept : (frames : List Frame) → 0 < length frames → not (is_empty (map spelling frames)) ≡ true
some_kept [] l = absurd (omega (arith, l))
some_kept (frame ∷ frames) l = refl

pub holds_is : (made : List Frame) (n : ℕ) → nat_lt n (length made) ≡ not (is_empty (map spelling (drop n made)))
holds_is made n = by_less (nat_lt n (length made)) refl
  where
    by_less : (b : Bool) → nat_lt n (length made) ≡ b → b ≡ not (is_empty (map spelling (drop n made)))
    by_less true e = sym (some_kept (drop n made) (omega (arith, length-drop n made, ltb-true n (length made) e)))
    by_less false e = sym (ap (λ (frames : List Frame). not (is_empty (map spelling frames))) (drop_all n made (omega (arith, ltb-false n (length made) e))))
