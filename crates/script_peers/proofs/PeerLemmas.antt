-- What a peer's own doing changes of it.
use Rattle.std.proofs.Common.{◌≡◌, ℕ, ◌+◌, ◌<◌, ℤ, Bool, true, false, ◌&&◌, cond, List, [], ◌∷◌, ◌++◌, length, take, get_or, Option, Some, None, is_some, is_none, option_map, refl, sym, ap, ◌∙◌, append_assoc}
use Rattle.std.specs.List.{cons_option}
use Rattle.std.proofs.lemmas.List.{append-nil, take_more}
use Rattle.std.proofs.lemmas.List.Elements.{filter_map-append}
use Rattle.wp_outside.specs.declared.kinds.HandleKind.{HandleKind}
use Rattle.handle_table.specs.declared.handles.Handle.{Handle}
use Rattle.pool_words.specs.Views.{PoolId, no_pool}
use Rattle.wl_text.specs.declared.text_message.TextMessage.{TextMessage}
use Rattle.wp_outside.specs.declared.kinds.Side.{Side}
use Rattle.half_model.specs.declared.items.PeerIn.{PeerIn}
use Rattle.half_model.specs.declared.items.PeerIn.TheVariants as items
use Rattle.shm_pools.specs.Files.{FileState}
use Rattle.script_peers.specs.Owning.{Owned, kind_of, is_size, new_file, place_of, changed}
use Rattle.script_lang.specs.declared.steps.StepKind.{StepKind}
use Rattle.script_lang.specs.declared.steps.StepKind.TheVariants as line
use Rattle.script_peers.specs.Peers.{ScriptedPeer, with_items, did}
use Rattle.script_peers.specs.Putting.{handle_item, handle_items, is_free, with_file, with_pipe, with_changed}

pub and_false : (a b : Bool) → b ≡ false → (a && b) ≡ false
and_false true b is = is
and_false false b is = refl

-- ---- what a number can't stand for

pub none_false : {X : Type 0} (o : Option X) → is_some o ≡ true → is_none o ≡ false
none_false None is = absurd (let never : ⊥ = cc in never)
none_false (Some x) is = refl

pub file_refused : (pool : PoolId) (number : ℤ) (size : ℕ) (peer : ScriptedPeer) → (is_free number peer.own && is_size size) ≡ false
    → peer ≡ record peer { own = with_file pool number size peer.own }
file_refused pool number size peer is =
    ap (λ (own : Owned). let p : ScriptedPeer = record { side = peer.side; own = own; wire = peer.wire; received = peer.received } in p)
    (sym (ap (λ (b : Bool). cond b (record peer.own { files = peer.own.files ++ new_file pool number size ∷ [] }) peer.own) is))

pub pipe_refused : (number : ℤ) (peer : ScriptedPeer) → is_free number peer.own ≡ false
    → peer ≡ record peer { own = with_pipe number peer.own }
pipe_refused number peer is =
    ap (λ (own : Owned). let p : ScriptedPeer = record { side = peer.side; own = own; wire = peer.wire; received = peer.received } in p)
    (sym (ap (λ (b : Bool). cond b (record peer.own { pipes = peer.own.pipes ++ number ∷ [] }) peer.own) is))

-- ---- what is put on the wire

pub handle_found : (own : Owned) (number : ℤ) (kind : HandleKind) → kind_of number own ≡ Some kind
    → handle_items own (number ∷ []) ≡ items.Handle (record { number = number; kind = kind }) ∷ []
handle_found own number kind is =
    ap (λ (k : Option HandleKind). cons_option (option_map items.Handle
    (option_map (λ (it : HandleKind). let h : Handle = record { number = number; kind = it } in h) k)) []) is

pub handle_missing : (own : Owned) (number : ℤ) → kind_of number own ≡ None → handle_items own (number ∷ []) ≡ []
handle_missing own number is =
    ap (λ (k : Option HandleKind). cons_option (option_map items.Handle
    (option_map (λ (it : HandleKind). let h : Handle = record { number = number; kind = it } in h) k)) []) is

-- a wire that has more items
pub wire_put : (inside now : ScriptedPeer) (wire put more : List PeerIn) → inside ≡ now → wire ≡ inside.wire ++ put → more ≡ put
    → record inside { wire = wire } ≡ with_items more now
wire_put inside now wire put more same is put_is =
    ap (λ (w : List PeerIn). let p : ScriptedPeer = record { side = inside.side; own = inside.own; wire = w; received = inside.received } in p)
    (is ∙ ap (λ (items : List PeerIn). inside.wire ++ items) (sym put_is))
    ∙ ap (with_items more) same

pub none_put : (peer : ScriptedPeer) (more : List PeerIn) → more ≡ [] → peer ≡ with_items more peer
none_put peer more is =
    sym (
    ap (λ (items : List PeerIn). with_items items peer) is
    ∙ ap (λ (w : List PeerIn). let p : ScriptedPeer = record { side = peer.side; own = peer.own; wire = w; received = peer.received } in p) (append-nil peer.wire))

-- a wire that lacks nothing of what it had
pub wire_kept : (peer : ScriptedPeer) (own : Owned)
    → record peer { own = own } ≡ record peer { own = own; wire = peer.wire ++ [] }
wire_kept peer own =
    ap (λ (w : List PeerIn). let p : ScriptedPeer = record { side = peer.side; own = own; wire = w; received = peer.received } in p) (sym (append-nil peer.wire))

-- items behind items
pub two_put : (peer : ScriptedPeer) (first second : List PeerIn) → with_items second (with_items first peer) ≡ with_items (first ++ second) peer
two_put peer first second =
    ap (λ (w : List PeerIn). let p : ScriptedPeer = record { side = peer.side; own = peer.own; wire = w; received = peer.received } in p)
    (append_assoc peer.wire first second)

-- a note, handles and bytes
pub three_put : (old noted handed new : ScriptedPeer) (note bytes : List PeerIn) (numbers : List ℤ) → noted ≡ with_items note old
    → handed ≡ with_items (handle_items noted.own numbers) noted → new ≡ with_items bytes handed
    → new ≡ with_items (note ++ (handle_items old.own numbers ++ bytes)) old
three_put old noted handed new note bytes numbers first second third =
    third
    ∙ ap (with_items bytes) second
    ∙ ap (λ (p : ScriptedPeer). with_items bytes (with_items (handle_items p.own numbers) p)) first
    ∙ two_put (with_items note old) (handle_items old.own numbers) bytes
    ∙ two_put old note (handle_items old.own numbers ++ bytes)

-- one handle more
pub handles_more : (start before after : ScriptedPeer) (numbers : List ℤ) (k : ℕ) (d : ℤ) → k < length numbers
    → before ≡ with_items (handle_items start.own (take k numbers)) start
    → after ≡ with_items (handle_items before.own (get_or numbers k d ∷ [])) before
    → after ≡ with_items (handle_items start.own (take (k + 1) numbers)) start
handles_more start before after numbers k d below so_far is =
    is
    ∙ ap (λ (p : ScriptedPeer). with_items (handle_items p.own (get_or numbers k d ∷ [])) p) so_far
    ∙ two_put start (handle_items start.own (take k numbers)) (handle_items start.own (get_or numbers k d ∷ []))
    ∙ ap (λ (items : List PeerIn). with_items items start)
    (sym (
    ap (handle_items start.own) (take_more numbers k d below)
    ∙ filter_map-append (handle_item start.own) (take k numbers) (get_or numbers k d ∷ [])))

-- ---- files

pub files_changed : (inside now : ScriptedPeer) (files : List FileState) (named number : ℤ) (step : FileState → FileState) → inside ≡ now
    → named ≡ number → files ≡ changed step inside.own.files (place_of named inside.own.files)
    → record inside { own = record { files = files; pipes = inside.own.pipes } } ≡ record now { own = with_changed number step now.own }
files_changed inside now files named number step same is changes =
    ap (λ (fs : List FileState). let p : ScriptedPeer = record { side = inside.side; own = record { files = fs; pipes = inside.own.pipes }; wire = inside.wire; received = inside.received } in p)
    (changes ∙ ap (λ (n : ℤ). changed step inside.own.files (place_of n inside.own.files)) is)
    ∙ ap (λ (p : ScriptedPeer). let q : ScriptedPeer = record p { own = with_changed number step p.own } in q) same

-- ---- lines of no one's own doing

pub idle : (what : StepKind) (peer : ScriptedPeer)
    → ((x0 : Side) (x1 : List ℕ) → what ≡ line.Hex x0 x1 → ⊥)
    → ((x0 : Side) (x1 : TextMessage) → what ≡ line.Say x0 x1 → ⊥)
    → ((x0 : Side) (x1 : ℤ) (x2 : ℕ) → what ≡ line.File x0 x1 x2 → ⊥)
    → ((x0 : Side) (x1 : ℤ) (x2 : ℕ) → what ≡ line.Grow x0 x1 x2 → ⊥)
    → ((x0 : Side) (x1 : ℤ) (x2 : ℕ) (x3 : ℕ) (x4 : ℕ) → what ≡ line.Fill x0 x1 x2 x3 x4 → ⊥)
    → ((x0 : Side) (x1 : ℤ) → what ≡ line.Pipe x0 x1 → ⊥)
    → ((x0 : Side) (x1 : ℤ) → what ≡ line.Give x0 x1 → ⊥)
    → ((x0 : Side) (x1 : ℤ) (x2 : List ℕ) → what ≡ line.Put x0 x1 x2 → ⊥)
    → ((x0 : Side) (x1 : ℤ) → what ≡ line.End x0 x1 → ⊥)
    → ((x0 : Side) (x1 : ℤ) → what ≡ line.Shut x0 x1 → ⊥)
    → peer ≡ did no_pool what peer
idle (line.Hex x0 x1) peer never _ _ _ _ _ _ _ _ _ = absurd (never x0 x1 refl)
idle (line.Say x0 x1) peer _ never _ _ _ _ _ _ _ _ = absurd (never x0 x1 refl)
idle (line.File x0 x1 x2) peer _ _ never _ _ _ _ _ _ _ = absurd (never x0 x1 x2 refl)
idle (line.Grow x0 x1 x2) peer _ _ _ never _ _ _ _ _ _ = absurd (never x0 x1 x2 refl)
idle (line.Fill x0 x1 x2 x3 x4) peer _ _ _ _ never _ _ _ _ _ = absurd (never x0 x1 x2 x3 x4 refl)
idle (line.Pipe x0 x1) peer _ _ _ _ _ never _ _ _ _ = absurd (never x0 x1 refl)
idle (line.Give x0 x1) peer _ _ _ _ _ _ never _ _ _ = absurd (never x0 x1 refl)
idle (line.Put x0 x1 x2) peer _ _ _ _ _ _ _ never _ _ = absurd (never x0 x1 x2 refl)
idle (line.End x0 x1) peer _ _ _ _ _ _ _ _ never _ = absurd (never x0 x1 refl)
idle (line.Shut x0 x1) peer _ _ _ _ _ _ _ _ _ never = absurd (never x0 x1 refl)
idle (line.Await s count) peer _ _ _ _ _ _ _ _ _ _ = wire_kept peer peer.own
idle (line.Take s bytes) peer _ _ _ _ _ _ _ _ _ _ = wire_kept peer peer.own
idle (line.Load words) peer _ _ _ _ _ _ _ _ _ _ = wire_kept peer peer.own
idle line.Connect peer _ _ _ _ _ _ _ _ _ _ = wire_kept peer peer.own
idle line.Break peer _ _ _ _ _ _ _ _ _ _ = wire_kept peer peer.own
idle (line.Send dir bytes) peer _ _ _ _ _ _ _ _ _ _ = wire_kept peer peer.own
idle (line.Recv dir bytes) peer _ _ _ _ _ _ _ _ _ _ = wire_kept peer peer.own
idle (line.Both dir bytes) peer _ _ _ _ _ _ _ _ _ _ = wire_kept peer peer.own
idle (line.Spoil dir offset byte) peer _ _ _ _ _ _ _ _ _ _ = wire_kept peer peer.own
idle (line.Cut dir bytes) peer _ _ _ _ _ _ _ _ _ _ = wire_kept peer peer.own
idle (line.Close s) peer _ _ _ _ _ _ _ _ _ _ = wire_kept peer peer.own
idle line.Settle peer _ _ _ _ _ _ _ _ _ _ = wire_kept peer peer.own
idle (line.Drain bytes) peer _ _ _ _ _ _ _ _ _ _ = wire_kept peer peer.own
idle line.Stop peer _ _ _ _ _ _ _ _ _ _ = wire_kept peer peer.own
