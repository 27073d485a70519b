-- The messages of the frames that a side makes, and the one that it owes, are those that are to be shown of its order, one after another.
use Rattle.std.proofs.Common.{◌≡◌, ℕ, true, List, [], ◌∷◌, ◌++◌, All, ℤ, Option, Some, None, option_to_list, refl, sym, ap, ◌∙◌, append-nil, append_assoc}
use Rattle.std.proofs.lemmas.Bool.{false≢true}
use Rattle.std.proofs.lemmas.Grind.{flat_map-append}
use Rattle.std.proofs.lemmas.List.Elements.{All-cons, All-nil}
use Rattle.std.specs.Option.{MatchOption}
use Rattle.block_intervals.specs.declared.run.Run.{Run}
use Rattle.wp_outside.specs.declared.kinds.Side.{Side}
use Rattle.wp_outside.specs.declared.kinds.Side.TheVariants.{Near, Far}
use Rattle.wl_wire.specs.Wire.{IsMessage, cut}
use Rattle.wl_wire.proofs.CuttingLaws.{joined-cuts}
use Rattle.wl_objects.specs.Registry.{ObjectsState, visible}
use Rattle.handle_table.specs.declared.handles.Handle.{Handle}
use Rattle.transfer_frames.specs.declared.frame.Frame.{Frame}
use Rattle.transfer_frames.specs.declared.frame.Frame.TheVariants.{PipeTransfer, PipeShutR, PipeShutW, Close}
use Rattle.half_model.specs.declared.notes.CopyRecord.{CopyRecord}
use Rattle.half_model.specs.Content.{Taking}
use Rattle.half_model.specs.Filling.{words_bytes, fills, ending}
use Rattle.half_model.specs.Group.{Owed, IsGroup, words_in}
use Rattle.half_model.specs.Log.{Mark, Taken, Heard, Grouped, Dropped, LogState, log_new, MayTake, MayHear, is_lone, MayMake, after_lone, after_group, log_next, Logs, log_after}
use Rattle.half_model.specs.Planning.{seen_from}
use Rattle.half_model.specs.Story.{messages_of, messages_in, taken_in, made_in, order_in, owed_messages, shown_of}
use Rattle.half_model.specs.StoryLaws.{ShownInOrder}
use Rattle.half_model.specs.Tables.{Tables}
use Rattle.half_model.proofs.Owing.{OwedGood}
use Rattle.half_model.proofs.Shown.{heard_visible, taken_shown, taken_visible, group_objects}
use Rattle.half_model.proofs.Sound.{Sound, passed, sound_next, sound_new}

-- ---- the messages of one group

pub cut_alone : (message : List ℕ) → IsMessage message → cut message ≡ message ∷ []
cut_alone message h =
    let one : All IsMessage (message ∷ []) = All-cons IsMessage message [] h (All-nil IsMessage) in
    ap cut (sym (append-nil message)) ∙ (joined-cuts (message ∷ []) one).0

fills_silent : (rid : ℤ) (pieces : List Run) (bytes : List ℕ) → messages_in (fills rid pieces bytes) ≡ []
fills_silent rid [] bytes = refl
fills_silent rid (piece ∷ pieces) bytes = fills_silent rid pieces _

ending_messages : (shown : Option (List ℕ)) → MatchOption shown (Unit {0}) IsMessage → messages_in (ending shown) ≡ option_to_list shown
ending_messages None h = refl
ending_messages (Some message) h = append-nil (cut message) ∙ cut_alone message h

group_messages : (owed : Owed) (copies : List CopyRecord) (frames : List Frame) → OwedGood owed → IsGroup owed copies frames
    → messages_in frames ≡ option_to_list owed.shown
group_messages owed copies frames good group =
    let bytes : List ℕ = words_bytes (words_in copies) in
    ap messages_in group.is
    ∙ flat_map-append messages_of owed.before (fills owed.rid owed.pieces bytes ++ ending owed.shown)
    ∙ ap (λ (ms : List (List ℕ)). ms ++ messages_in (fills owed.rid owed.pieces bytes ++ ending owed.shown)) good.unspoken
    ∙ flat_map-append messages_of (fills owed.rid owed.pieces bytes) (ending owed.shown)
    ∙ ap (λ (ms : List (List ℕ)). ms ++ messages_in (ending owed.shown)) (fills_silent owed.rid owed.pieces bytes)
    ∙ ending_messages owed.shown good.shown

lone_silent : (tables : Tables) (taking : Taking) (frame : Frame) → is_lone tables taking frame ≡ true → messages_of frame ≡ []
lone_silent tables taking (Close reason) e = refl
lone_silent tables taking (PipeTransfer rid bytes) e = refl
lone_silent tables taking (PipeShutR rid) e = refl
lone_silent tables taking (PipeShutW rid) e = refl
lone_silent tables taking _ e = absurd (false≢true e)

pub made_messages : (s : LogState) (owes : Option Owed) (frames : List Frame) (copies : List CopyRecord)
    → MatchOption owes (Unit {0}) OwedGood → MayMake s owes frames copies → messages_in frames ≡ owed_messages owes
made_messages s (Some owed) frames copies good may = group_messages owed copies frames good may
made_messages s None [] copies good may = absurd may
made_messages s None (frame ∷ []) copies good may = ap (λ (ms : List (List ℕ)). ms ++ []) (lone_silent s.tables s.taking frame may.1.may)
made_messages s None (frame ∷ next ∷ frames) copies good may = absurd may

-- ---- the whole story

-- what is to be shown from a state on
abbrev pub shown_from : Side → LogState → List Mark → List (List ℕ)
shown_from Near s story = taken_in story
shown_from Far s story = visible s.tables.objects (order_in Far story)

pub lone_owes : (s : LogState) (frame : Frame) → (after_lone s frame).owes ≡ s.owes
lone_owes s (Close reason) = refl
lone_owes s _ = refl

pub group_owes : (s : LogState) (owes : Option Owed) (frames : List Frame) → s.owes ≡ owes → (after_group s owes frames).owes ≡ None
group_owes s (Some owed) frames e = refl
group_owes s None [] e = e
group_owes s None (frame ∷ []) e = lone_owes s frame ∙ e
group_owes s None (frame ∷ next ∷ frames) e = e

shown_taken : (side : Side) (s : LogState) (message : List ℕ) (handle : Option Handle) (segments : List ℕ) (story : List Mark)
    → s.tables.handles.side ≡ side → MayTake s message handle segments
    → shown_from side s (Taken message handle segments ∷ story)
    ≡ owed_messages (log_next s (Taken message handle segments)).owes ++ shown_from side (log_next s (Taken message handle segments)) story
shown_taken Near s message handle segments story is may =
    let p = passed s message handle segments may in
    ap (λ (ms : List (List ℕ)). ms ++ taken_in story)
    (sym (taken_shown s message handle segments p
    ∙ ap (λ (sd : Side). option_to_list (seen_from sd (record { tracked = p.done.objects; hidden = s.tables.objects.hidden }) message).shown) is))
shown_taken Far s message handle segments story is may = taken_visible s message handle segments (order_in Far story) is may

shown_heard : (side : Side) (s : LogState) (frame : Frame) (story : List Mark) → s.tables.handles.side ≡ side → MayHear s frame
    → shown_from side s (Heard frame ∷ story) ≡ shown_from side (log_next s (Heard frame)) story
shown_heard Near s frame story is may = refl
shown_heard Far s frame story is may = heard_visible s frame (order_in Far story) is may

shown_made : (side : Side) (s : LogState) (frames : List Frame) (copies : List CopyRecord) (story : List Mark)
    → shown_from side s (Grouped frames copies ∷ story) ≡ shown_from side (log_next s (Grouped frames copies)) story
shown_made Near s frames copies story = refl
shown_made Far s frames copies story = ap (λ (o : ObjectsState). visible o (order_in Far story)) (sym (group_objects s s.owes frames))

shown_dropped : (side : Side) (s : LogState) (rid : ℤ) (story : List Mark)
    → shown_from side s (Dropped rid ∷ story) ≡ shown_from side (log_next s (Dropped rid)) story
shown_dropped Near s rid story = refl
shown_dropped Far s rid story = refl

-- the messages made, and then the one that is owed at the end
abbrev told_from : LogState → List Mark → List (List ℕ)
told_from s story = messages_in (made_in story) ++ owed_messages (log_after s story).owes

in_order : (side : Side) (s : LogState) (story : List Mark) → Sound side s → Logs s story → told_from s story ≡ owed_messages s.owes ++ shown_from side s story
in_order Near s [] h logs = sym (append-nil (owed_messages s.owes))
in_order Far s [] h logs = sym (append-nil (owed_messages s.owes))
in_order side s (Taken message handle segments ∷ story) h logs =
    in_order side (log_next s (Taken message handle segments)) story (sound_next side s (Taken message handle segments) h logs.0) logs.1
    ∙ sym (shown_taken side s message handle segments story h.tables.0 logs.0)
    ∙ ap (λ (o : Option Owed). owed_messages o ++ shown_from side s (Taken message handle segments ∷ story)) (sym logs.0.owes_none)
in_order side s (Heard frame ∷ story) h logs =
    in_order side (log_next s (Heard frame)) story (sound_next side s (Heard frame) h logs.0) logs.1
    ∙ ap (λ (ms : List (List ℕ)). owed_messages s.owes ++ ms) (sym (shown_heard side s frame story h.tables.0 logs.0))
in_order side s (Dropped rid ∷ story) h logs =
    in_order side (log_next s (Dropped rid)) story (sound_next side s (Dropped rid) h logs.0) logs.1
    ∙ ap (λ (ms : List (List ℕ)). owed_messages s.owes ++ ms) (sym (shown_dropped side s rid story))
in_order side s (Grouped frames copies ∷ story) h logs =
    let next : LogState = log_next s (Grouped frames copies) in
    let last : List (List ℕ) = owed_messages (log_after next story).owes in
    let rest = in_order side next story (sound_next side s (Grouped frames copies) h logs.0) logs.1 in
    ap (λ (ms : List (List ℕ)). ms ++ last) (flat_map-append messages_of frames (made_in story))
    ∙ append_assoc (messages_in frames) (messages_in (made_in story)) last
    ∙ ap (λ (ms : List (List ℕ)). ms ++ told_from next story) (made_messages s s.owes frames copies h.owes logs.0)
    ∙ ap (λ (ms : List (List ℕ)). owed_messages s.owes ++ ms)
    (rest
    ∙ ap (λ (o : Option Owed). owed_messages o ++ shown_from side next story) (group_owes s s.owes frames refl)
    ∙ sym (shown_made side s frames copies story))

shown_all : (side : Side) (story : List Mark) → shown_from side (log_new side) story ≡ shown_of side story
shown_all Near story = refl
shown_all Far story = refl

pub shown_in_order : ShownInOrder
shown_in_order side story logs = in_order side (log_new side) story (sound_new side) logs ∙ shown_all side story
