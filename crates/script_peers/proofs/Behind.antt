-- A peer behind lines: each step of it keeps that its wire carries what the lines put.
use Rattle.std.proofs.Common.{◌≡◌, ℕ, zero, suc, ℤ, Bool, true, false, cond, List, [], ◌∷◌, ◌++◌, take, drop, map, Option, Some, None, option_map, refl, sym, ap, ◌∙◌, subst, append_assoc}
use Rattle.std.specs.Prelude.{min}
use Rattle.std.specs.List.{flat_map, cons_option}
use Rattle.std.proofs.lemmas.List.{append-nil, map-append}
use Rattle.std.proofs.lemmas.List.Concat.{flat_map-append}
use Rattle.wl_text.specs.declared.text_message.TextMessage.{TextMessage}
use Rattle.wl_wire.specs.Wire.{opcode_of}
use Rattle.wp_outside.specs.declared.kinds.Side.{Side}
use Rattle.wp_outside.specs.declared.kinds.Side.TheVariants.{Near, Far}
use Rattle.wp_outside.specs.declared.pipe_items.PipeItem.TheVariants as pipe_items
use Rattle.handle_table.specs.declared.handles.Handle.{Handle}
use Rattle.pool_words.specs.Views.{PoolId}
use Rattle.half_model.specs.declared.items.PeerIn.{PeerIn}
use Rattle.half_model.specs.declared.items.PeerIn.TheVariants as items
use Rattle.half_model.specs.declared.items.PeerOut.{PeerOut}
use Rattle.half_model.specs.declared.items.PeerOut.TheVariants as outputs
use Rattle.script_lang.specs.Puts as script
use Rattle.script_lang.specs.declared.steps.Step.{Step}
use Rattle.script_lang.specs.declared.steps.StepKind.{StepKind}
use Rattle.script_lang.specs.declared.steps.StepKind.TheVariants as line
use Rattle.script_peers.specs.Laws.{BytesArePut, BytesAreKept, StaysBehind}
use Rattle.script_peers.specs.Owning.{Owned, owns_nothing, handle_of}
use Rattle.script_peers.specs.Peers.{ScriptedPeer, did, acted, gave}
use Rattle.script_peers.specs.Putting.{is_side, is_own, wants_note, note_if, handle_items, said, is_pipe_piece, pipe_piece, items_by, owned_after}
use Rattle.script_peers.specs.Scripts.{put_by, owned_by, Puts, unsettled, Grain, Byte, Whole, grains_of, grains, bytes_of, bytes_in, IsBehind}
use Rattle.script_peers.specs.Wires.{Left, leaving, next_of, piece_of}
use Rattle.script_peers.specs.declared.item_queue.TheConstants.{LARGEST_PIECE}
use Rattle.script_peers.proofs.Unsettled.{items_same, owned_alike, own_same}

-- ---- the bytes of a line

bytes_in-piece : (bytes : List ℕ) → bytes_in (piece_of bytes) ≡ bytes
bytes_in-piece [] = refl
bytes_in-piece (byte ∷ bytes) = append-nil (byte ∷ bytes)

bytes_in-note : (wanted : Bool) (own : Owned) → bytes_in (note_if wanted own) ≡ []
bytes_in-note true own = refl
bytes_in-note false own = refl

bytes_in-handles : (own : Owned) (numbers : List ℤ) → bytes_in (handle_items own numbers) ≡ []
bytes_in-handles own [] = refl
bytes_in-handles own (number ∷ numbers) = by (handle_of own number) (bytes_in-handles own numbers)
  where
    by : (h : Option Handle) → bytes_in (handle_items own numbers) ≡ []
        → bytes_in (cons_option (option_map items.Handle h) (handle_items own numbers)) ≡ []
    by None rest = rest
    by (Some h) rest = rest

bytes_in-said : (peer : Side) (own : Owned) (text : TextMessage) → bytes_in (said peer own text) ≡ text.message
bytes_in-said peer own text =
    let wanted = wants_note peer text.interface (opcode_of text.message) in
    let handles = handle_items own text.handles in
    flat_map-append bytes_of (note_if wanted own) (handles ++ piece_of text.message)
    ∙ ap (λ (bytes : List ℕ). bytes ++ bytes_in (handles ++ piece_of text.message)) (bytes_in-note wanted own)
    ∙ flat_map-append bytes_of handles (piece_of text.message)
    ∙ ap (λ (bytes : List ℕ). bytes ++ bytes_in (piece_of text.message)) (bytes_in-handles own text.handles)
    ∙ bytes_in-piece text.message

bytes_in-pipe : (pipe : ℤ) (bytes : List ℕ) → bytes_in (pipe_piece pipe bytes) ≡ []
bytes_in-pipe pipe bytes = by (is_pipe_piece bytes)
  where
    by : (b : Bool) → bytes_in (cond b (items.Pipe (pipe_items.Bytes pipe bytes) ∷ []) []) ≡ []
    by true = refl
    by false = refl

none_if : (b : Bool) (put : List PeerIn) → bytes_in put ≡ [] → bytes_in (cond b put []) ≡ []
none_if true put none = none
none_if false put none = refl

line_bytes : (side : Side) (own : Owned) (what : StepKind) → bytes_in (put_by side own what) ≡ script.put_by side what
line_bytes Near own (line.Hex Near bytes) = bytes_in-piece bytes
line_bytes Near own (line.Hex Far bytes) = refl
line_bytes Far own (line.Hex Near bytes) = refl
line_bytes Far own (line.Hex Far bytes) = bytes_in-piece bytes
line_bytes Near own (line.Say Near text) = bytes_in-said Near own text
line_bytes Near own (line.Say Far text) = refl
line_bytes Far own (line.Say Near text) = refl
line_bytes Far own (line.Say Far text) = bytes_in-said Far own text
line_bytes side own (line.File peer number size) = none_if (is_side side (Some peer)) [] refl
line_bytes side own (line.Grow peer number size) = none_if (is_side side (Some peer)) [] refl
line_bytes side own (line.Fill peer number first count value) = none_if (is_side side (Some peer)) [] refl
line_bytes side own (line.Pipe peer number) = none_if (is_side side (Some peer)) [] refl
line_bytes side own (line.Give peer number) =
    none_if (is_side side (Some peer)) (handle_items own (number ∷ [])) (bytes_in-handles own (number ∷ []))
line_bytes side own (line.Put peer pipe bytes) = none_if (is_side side (Some peer)) (pipe_piece pipe bytes) (bytes_in-pipe pipe bytes)
line_bytes side own (line.End peer pipe) = none_if (is_side side (Some peer)) (items.Pipe (pipe_items.End pipe) ∷ []) refl
line_bytes side own (line.Shut peer number) = none_if (is_side side (Some peer)) (items.Pipe (pipe_items.Shut number) ∷ []) refl
line_bytes side own (line.Await peer count) = none_if (is_side side None) [] refl
line_bytes side own (line.Take peer bytes) = none_if (is_side side None) [] refl
line_bytes side own (line.Load words) = none_if (is_side side None) [] refl
line_bytes side own line.Connect = none_if (is_side side None) [] refl
line_bytes side own line.Break = none_if (is_side side None) [] refl
line_bytes side own (line.Send dir bytes) = none_if (is_side side None) [] refl
line_bytes side own (line.Recv dir bytes) = none_if (is_side side None) [] refl
line_bytes side own (line.Both dir bytes) = none_if (is_side side None) [] refl
line_bytes side own (line.Spoil dir offset byte) = none_if (is_side side None) [] refl
line_bytes side own (line.Cut dir bytes) = none_if (is_side side None) [] refl
line_bytes side own (line.Close peer) = none_if (is_side side None) [] refl
line_bytes side own line.Settle = none_if (is_side side None) [] refl
line_bytes side own (line.Drain bytes) = none_if (is_side side None) [] refl
line_bytes side own line.Stop = none_if (is_side side None) [] refl

pub bytes_are_put : BytesArePut
bytes_are_put side [] old new put puts = ap bytes_in puts.0
bytes_are_put side (it ∷ steps) old new put puts =
    ap bytes_in puts.2
    ∙ flat_map-append bytes_of (put_by side old it.what) puts.1
    ∙ ap (λ (bytes : List ℕ). bytes ++ bytes_in puts.1) (line_bytes side old it.what)
    ∙ ap (λ (bytes : List ℕ). script.put_by side it.what ++ bytes)
    (bytes_are_put side steps (owned_by side puts.0 it.what old) new puts.1 puts.3)

-- ---- bytes of grains

abbrev grain_bytes : Grain → List ℕ
grain_bytes (Byte byte) = byte ∷ []
grain_bytes (Whole item) = []

bytes_back : (bytes : List ℕ) → flat_map grain_bytes (map Byte bytes) ≡ bytes
bytes_back [] = refl
bytes_back (byte ∷ bytes) = ap (λ (more : List ℕ). byte ∷ more) (bytes_back bytes)

item_bytes : (item : PeerIn) → flat_map grain_bytes (grains_of item) ≡ bytes_of item
item_bytes (items.Bytes bytes) = bytes_back bytes
item_bytes (items.Handle handle) = refl
item_bytes (items.Note note) = refl
item_bytes (items.Pipe piped) = refl

all_bytes : (all : List PeerIn) → flat_map grain_bytes (grains all) ≡ bytes_in all
all_bytes [] = refl
all_bytes (item ∷ rest) =
    flat_map-append grain_bytes (grains_of item) (grains rest)
    ∙ ap (λ (bytes : List ℕ). bytes ++ flat_map grain_bytes (grains rest)) (item_bytes item)
    ∙ ap (λ (bytes : List ℕ). bytes_of item ++ bytes) (all_bytes rest)

pub bytes_are_kept : BytesAreKept
bytes_are_kept steps left peer behind =
    sym (
    ap (flat_map grain_bytes) behind.parts
    ∙ flat_map-append grain_bytes (grains left) (grains peer.wire)
    ∙ ap (λ (bytes : List ℕ). bytes ++ flat_map grain_bytes (grains peer.wire)) (all_bytes left)
    ∙ ap (λ (bytes : List ℕ). bytes_in left ++ bytes) (all_bytes peer.wire))
    ∙ all_bytes behind.put
    ∙ bytes_are_put peer.side steps owns_nothing (unsettled peer.own) behind.put behind.lines

-- ---- one line more

puts_more : (side : Side) (steps : List Step) (it : Step) (old mid new : Owned) (put : List PeerIn) (pool : PoolId)
    → Puts side steps old put mid → new ≡ owned_by side pool it.what mid
    → Puts side (steps ++ it ∷ []) old (put ++ put_by side mid it.what) new
puts_more side [] it old mid new put pool puts is = (
  pool,
  [],
  ap (λ (items : List PeerIn). items ++ put_by side mid it.what) puts.0
      ∙ ap (λ (own : Owned). put_by side own it.what) puts.1
      ∙ sym (append-nil (put_by side old it.what)),
  (refl, is ∙ ap (owned_by side pool it.what) puts.1),
)
puts_more side (first ∷ steps) it old mid new put pool puts is = (
  puts.0,
  puts.1 ++ put_by side mid it.what,
  ap (λ (items : List PeerIn). items ++ put_by side mid it.what) puts.2
      ∙ append_assoc (put_by side old first.what) puts.1 (put_by side mid it.what),
  puts_more side steps it (owned_by side puts.0 first.what old) mid new puts.1 pool puts.3 is,
)

behind_acted : (steps : List Step) (left : List PeerIn) (old : ScriptedPeer) (it : Step) (pool : PoolId)
    → IsBehind steps left old → IsBehind (steps ++ it ∷ []) left (acted pool it.what old)
behind_acted steps left old it pool behind = by (is_own old.side it.what) refl
  where
    mid : Owned
    mid = unsettled old.own

    by : (b : Bool) → is_own old.side it.what ≡ b → IsBehind (steps ++ it ∷ []) left (cond b (did pool it.what old) old)
    by true own =
        let same : put_by old.side mid it.what ≡ items_by old.own it.what =
        ap (λ (b : Bool). cond b (items_by mid it.what) []) own ∙ items_same old.own it.what
        in
        record {
          put = behind.put ++ put_by old.side mid it.what;
          lines = puts_more old.side steps it owns_nothing mid (unsettled (owned_after pool it.what old.own)) behind.put pool behind.lines
              (sym (owned_alike pool it.what old.own) ∙ sym (ap (λ (b : Bool). cond b (owned_after pool it.what mid) mid) own));
          parts = flat_map-append grains_of behind.put (put_by old.side mid it.what)
              ∙ ap (λ (gs : List Grain). gs ++ grains (put_by old.side mid it.what)) behind.parts
              ∙ ap (λ (put : List PeerIn). (grains left ++ grains old.wire) ++ grains put) same
              ∙ append_assoc (grains left) (grains old.wire) (grains (items_by old.own it.what))
              ∙ ap (λ (gs : List Grain). grains left ++ gs) (sym (flat_map-append grains_of old.wire (items_by old.own it.what)));
        }
    by false own =
        record {
          put = behind.put ++ put_by old.side mid it.what;
          lines = puts_more old.side steps it owns_nothing mid mid behind.put pool behind.lines
              (sym (ap (λ (b : Bool). cond b (owned_after pool it.what mid) mid) own));
          parts = ap (λ (put : List PeerIn). grains (behind.put ++ put)) (ap (λ (b : Bool). cond b (items_by mid it.what) []) own)
              ∙ ap grains (append-nil behind.put)
              ∙ behind.parts;
        }

-- ---- one item less

grains-piece : (bytes : List ℕ) (rest : List PeerIn) → grains (piece_of bytes ++ rest) ≡ map Byte bytes ++ grains rest
grains-piece [] rest = refl
grains-piece (byte ∷ bytes) rest = refl

take_drop : (n : ℕ) (xs : List ℕ) → take n xs ++ drop n xs ≡ xs
take_drop zero xs = refl
take_drop (suc n) [] = refl
take_drop (suc n) (x ∷ xs) = ap (λ (ys : List ℕ). x ∷ ys) (take_drop n xs)

grains-leaving : (most : ℕ) (item : PeerIn) (rest : List PeerIn)
    → grains (item ∷ rest) ≡ grains ((leaving most item rest).item ∷ []) ++ grains (leaving most item rest).rest
grains-leaving most (items.Bytes bytes) rest =
    ap (λ (bs : List ℕ). map Byte bs ++ grains rest) (sym (take_drop most bytes))
    ∙ ap (λ (gs : List Grain). gs ++ grains rest) (map-append Byte (take most bytes) (drop most bytes))
    ∙ append_assoc (map Byte (take most bytes)) (map Byte (drop most bytes)) (grains rest)
    ∙ ap (λ (gs : List Grain). map Byte (take most bytes) ++ gs) (sym (grains-piece (drop most bytes) rest))
    ∙ ap (λ (gs : List Grain). gs ++ grains (piece_of (drop most bytes) ++ rest)) (sym (append-nil (map Byte (take most bytes))))
grains-leaving most (items.Handle handle) rest = refl
grains-leaving most (items.Note note) rest = refl
grains-leaving most (items.Pipe piped) rest = refl

grains-next : (most : ℕ) (wire : List PeerIn) (it : Left) → next_of most wire ≡ Some it
    → grains wire ≡ grains (it.item ∷ []) ++ grains it.rest
grains-next zero wire it is = absurd (let never : ⊥ = cc in never)
grains-next (suc most) [] it is = absurd (let never : ⊥ = cc in never)
grains-next (suc most) (item ∷ rest) it is =
    let same : leaving (min (suc most) LARGEST_PIECE) item rest ≡ it = cc in
    subst (λ (l : Left). grains (item ∷ rest) ≡ grains (l.item ∷ []) ++ grains l.rest) same (grains-leaving (min (suc most) LARGEST_PIECE) item rest)

behind_left : (steps : List Step) (left : List PeerIn) (old : ScriptedPeer) (most : ℕ) (it : Left)
    → IsBehind steps left old → next_of most old.wire ≡ Some it
    → IsBehind steps (left ++ it.item ∷ []) (record old { wire = it.rest })
behind_left steps left old most it behind is = record {
  put = behind.put;
  lines = behind.lines;
  parts = behind.parts
      ∙ ap (λ (gs : List Grain). grains left ++ gs) (grains-next most old.wire it is)
      ∙ sym (append_assoc (grains left) (grains (it.item ∷ [])) (grains it.rest))
      ∙ ap (λ (gs : List Grain). gs ++ grains it.rest) (sym (flat_map-append grains_of left (it.item ∷ [])));
}

-- ---- what a peer is given

behind_given : (steps : List Step) (left : List PeerIn) (old : ScriptedPeer) (item : PeerOut) → IsBehind steps left old → IsBehind steps left (gave item old)
behind_given steps left old (outputs.Bytes message) behind = record { put = behind.put; lines = behind.lines; parts = behind.parts }
behind_given steps left old (outputs.Handle handle) behind = record { put = behind.put; lines = behind.lines; parts = behind.parts }
behind_given steps left old (outputs.Opened rid size) behind = record { put = behind.put; lines = behind.lines; parts = behind.parts }
behind_given steps left old (outputs.Grown rid size) behind = record { put = behind.put; lines = behind.lines; parts = behind.parts }
behind_given steps left old (outputs.Filled rid start bytes) behind = record { put = behind.put; lines = behind.lines; parts = behind.parts }
behind_given steps left old (outputs.Pipe piped) behind = record { put = behind.put; lines = behind.lines; parts = behind.parts }
behind_given steps left old (outputs.Receipt number segment receipt) behind = record {
  put = behind.put;
  lines = subst (Puts old.side steps owns_nothing behind.put) (sym (own_same number segment receipt old.own)) behind.lines;
  parts = behind.parts;
}

pub stays_behind : StaysBehind
stays_behind = record {
  first = λ side. record { put = []; lines = (refl, refl); parts = refl };
  acts = λ steps left old new it behind acts.
      subst (IsBehind (steps ++ it ∷ []) left) (sym acts.1) (behind_acted steps left old it acts.0 behind);
  leaves = behind_left;
  gets = behind_given;
}
